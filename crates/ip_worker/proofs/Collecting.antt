-- The whole of a collection.
--     files_written      both files are there, and synced.
--     Chosen      what was kept, as the one valid pair has it.      chosen      it is found.      none_left      what is there when the pair is begun
--     removed_by, removed_still, removed_pair      no crash leaves a done file behind the removals, the search, and the pair
--     before_done, done_last      no crash leaves the done file without the pair.      left      what a collection leaves
use Rattle.std.proofs.Common.{◌≡◌, inl, inr, ℕ, List, length, map, refl, sym, ◌∙◌, ap, subst, arith, Option}
use Rattle.std.specs.Prelude.{Some, None, Result, Ok}
use Rattle.std.proofs.lemmas.Bool.{cases_lt}
use Rattle.std.proofs.lemmas.List.{length-map}
use Rattle.ip_ground.specs.declared.names.FileName.{FileName}
use Rattle.ip_ground.specs.declared.names.FileName.TheVariants.{Prefix, Mapping, Done}
use Rattle.ip_ground.specs.declared.names.GroundFault.{GroundFault}
use Rattle.ip_ground.specs.Custody.{IsOfAttempt}
use Rattle.ip_ground.specs.Told.{Told, KeepsFile, IsSynced, Only, NoFile, ChangesOnly}
use Rattle.ip_ground.proofs.Spans.{only_on, each_on}
use Rattle.ip_spec.specs.TreeAt.{Records}
use Rattle.ip_spawn.specs.declared.job.Job.{Job}
use Rattle.ip_image.specs.declared.layout.Layout.{Layout}
use Rattle.ip_image.specs.declared.run.Run.{Run}
use Rattle.ip_image.specs.Virtual.{mapping_bytes, total}
use Rattle.ip_image.specs.Standing.{RunByRun}
use Rattle.ip_image.specs.Collection.{IsKept as IsKeptSet, Pair, IsValid, runs_of, kept_bytes}
use Rattle.ip_image.proofs.PairLaws.{has_from, contains_from, one_valid}
use Rattle.ip_image.proofs.KeptRuns.{runs_filled, rows_total}
use Rattle.ip_image.proofs.StoredLaws.{runs_stand}
use Rattle.ip_space.specs.SpaceView.{byte_at, stretches_of}
use Rattle.ip_keep.specs.KeepView.{KeepView}
use Rattle.ip_keep.specs.Runs.{AreHeld, joined}
use Rattle.ip_keep.specs.Whole.{run_at}
use Rattle.ip_keep.proofs.LeastSet.{keeps_all}
use Rattle.ip_worker.specs.declared.worker.Counts.{Counts}
use Rattle.ip_worker.specs.Steps.{IsFree, IsPairFile, IsFor, IsFound, gathered, IsCounted, IsWritten, Clears, SyncsPair, Ends}
use Rattle.ip_worker.specs.Working.{DoneLast, IsLeft}
use Rattle.ip_worker.proofs.Gathered.{kept_gathered, kept_held}
use Rattle.ip_worker.proofs.Copying.{not_foreign, not_loose, free_on, of_none}
use Rattle.ip_worker.proofs.Ending.{IsNone, Removed, pair_changes, done_stays, none_now, apart_pair, not_mapping, not_prefix}

-- ---- both files

pub files_written : (g : ℕ → Option ℕ) (job : Job) (runs : List Run) (b c d : Told) → IsFree b job.attempt → b.held (Prefix job.attempt) ≡ Some (gathered g runs) → ChangesOnly (Only (Mapping job.attempt)) b c
    → c.held (Mapping job.attempt) ≡ Some (mapping_bytes job.horizon job.end runs) → SyncsPair job.attempt (Ok tt) c d → IsWritten g job runs d
files_written g job runs b c d free prefix only mapping syncs = record {
  prefix = syncs.held (Prefix job.attempt) refl ∙ (only.others (Prefix job.attempt) (λ same. apart_pair job.attempt job.attempt (sym same))).held (not_foreign b job.attempt (Prefix job.attempt) free refl) ∙ prefix;
  mapping = syncs.held (Mapping job.attempt) refl ∙ mapping;
  synced = syncs.synced;
}

-- ---- what was kept

pub record Chosen (records : Records) (job : Job) (k : KeepView) (c : Told) : Type 0 where
  pub pair : Pair
  pub valid : IsValid records job.horizon job.end pair
  pub count : length k.kept ≡ length valid.kept
  pub runs : joined k.kept ≡ runs_of valid.kept
  pub prefix : gathered (byte_at c k.space) (joined k.kept) ≡ pair.prefix
  pub mapping : mapping_bytes job.horizon job.end (joined k.kept) ≡ pair.mapping
  pub sum : total (joined k.kept) ≡ length pair.prefix
  pub held : AreHeld (byte_at c k.space) (joined k.kept)

pub chosen : (records : Records) (job : Job) (k : KeepView) (c : Told) → IsFor job k → IsFound records c.held k → Chosen records job k c
chosen records job k c is found =
    let (kept, least, same, joins) = keeps_all c.held records k found.lie is.keep found.keeping found.through in
    make kept least same joins
  where
    g : ℕ → Option ℕ
    g = byte_at c k.space

    end_is : k.space.layout.end ≡ job.end
    end_is = ap (λ (l : Layout). l.end) is.layout

    make : (kept : Records) → IsKeptSet records k.horizon k.space.layout.end kept → k.kept ≡ map run_at kept → joined k.kept ≡ runs_of kept → Chosen records job k c
    make kept least same joins =
        let these : IsKeptSet records job.horizon job.end kept = subst (λ (e : ℕ). IsKeptSet records job.horizon e kept) end_is (subst (λ (h : ℕ). IsKeptSet records h k.space.layout.end kept) is.horizon least) in
        let filled : RunByRun g (runs_of kept) kept = runs_filled g kept (λ y has.
        let (i, l, e) = ((least.each y).0 (contains_from kept y has)).0 in
        runs_stand g (stretches_of k.space) records found.lie.whole y (has_from records y i l e)) in
        let bytes : gathered g (joined k.kept) ≡ kept_bytes kept = ap (gathered g) joins ∙ kept_gathered g (runs_of kept) kept filled in
        record {
          pair = record { mapping = mapping_bytes job.horizon job.end (runs_of kept); prefix = kept_bytes kept };
          valid = record { kept = kept; each = these; mapping = refl; prefix = refl };
          count = ap length same ∙ length-map kept run_at;
          runs = joins;
          prefix = bytes;
          mapping = ap (mapping_bytes job.horizon job.end) joins;
          sum = ap total joins ∙ rows_total kept;
          held = subst (AreHeld g) (sym joins) (kept_held g (runs_of kept) kept filled);
        }

-- ---- before the done file

pub removed_by : (attempt : ℕ) (r : Result (Unit {0}) GroundFault) (a b : Told) → Clears attempt r a b → Removed attempt a b
removed_by attempt r a b clears = record { only = clears.only; none = clears.none }

module _ (attempt : ℕ) (a b c : Told) (free : IsFree a attempt) (so : Removed attempt a b) where
  free_then : IsFree b attempt
  free_then = free_on (IsOfAttempt attempt) a b attempt so.only free

  removed_on : (these : FileName → Type 0) → ¬ these (Done attempt) → ChangesOnly these b c → ChangesOnly (IsOfAttempt attempt) b c → Removed attempt a c
  removed_on these not only more = record {
    only = only_on a b c (IsOfAttempt attempt) so.only more;
    none = λ none.
        let first = so.none none in
        each_on a b c (Done attempt) IsNone only.goes first (done_stays attempt these b c not free_then only (none_now attempt a b so.only.goes none first));
  }

  pub removed_still : ChangesOnly NoFile b c → Removed attempt a c
  removed_still only = removed_on NoFile (λ none. none) only (of_none (IsOfAttempt attempt) b c only)

  pub removed_pair : ChangesOnly (IsPairFile attempt) b c → Removed attempt a c
  removed_pair only = removed_on (IsPairFile attempt) (λ none. none) only (pair_changes attempt b c only)

-- a file that is gone stays so
pub none_left : (attempt : ℕ) (file : FileName) (these : FileName → Type 0) (b c : Told) → IsFree b attempt → IsOfAttempt attempt file → ¬ these file → ChangesOnly these b c → b.held file ≡ None → c.held file ≡ None
none_left attempt file these b c free is not only gone = (only.others file not).held (not_foreign b attempt file free is) ∙ gone

pub before_done : (records : Records) (job : Job) (a d : Told) → Removed job.attempt a d → DoneLast records job a d
before_done records job a d so none pair valid t done mapping prefix after le left some in_mapping in_prefix = absurd (some (so.none none t done after le left))

-- ---- behind it

module _ (records : Records) (job : Job) (k : KeepView) (a c d e : Told) (free : IsFree a job.attempt) (so : Removed job.attempt a d) (chose : Chosen records job k c)
    (written : IsWritten (byte_at c k.space) job (joined k.kept) d) (only : ChangesOnly (Only (Done job.attempt)) d e) where
  free_d : IsFree d job.attempt
  free_d = free_on (IsOfAttempt job.attempt) a d job.attempt so.only free

  keeps_mapping : KeepsFile d e (Mapping job.attempt)
  keeps_mapping = only.others (Mapping job.attempt) (λ same. not_mapping job.attempt job.attempt (sym same))

  keeps_prefix : KeepsFile d e (Prefix job.attempt)
  keeps_prefix = only.others (Prefix job.attempt) (λ same. not_prefix job.attempt job.attempt (sym same))

  mapping_is : d.held (Mapping job.attempt) ≡ Some chose.pair.mapping
  mapping_is = written.mapping ∙ ap Some chose.mapping

  prefix_is : d.held (Prefix job.attempt) ≡ Some chose.pair.prefix
  prefix_is = written.prefix ∙ ap Some chose.prefix

  pub done_last : DoneLast records job a e
  done_last none pair valid t done mapping prefix after le left some in_mapping in_prefix = elim (cases_lt d.moment t) [
    | inl late ↦
        let same : chose.pair ≡ pair = one_valid records job.horizon job.end chose.pair pair chose.valid valid in (
          written.synced (Mapping job.attempt) refl mapping (keeps_mapping.left (not_loose d job.attempt (Mapping job.attempt) free_d refl) t mapping late le in_mapping) ∙ mapping_is ∙ ap (λ (p : Pair). Some p.mapping) same,
          written.synced (Prefix job.attempt) refl prefix (keeps_prefix.left (not_loose d job.attempt (Prefix job.attempt) free_d refl) t prefix late le in_prefix) ∙ prefix_is ∙ ap (λ (p : Pair). Some p.prefix) same,
        )
    | inr early ↦ absurd (some (so.none none t done after early (only.goes.left t (Done job.attempt) done early left)))
  ]

  -- what is not pending stays so
  kept_on : (file : FileName) → IsOfAttempt job.attempt file → KeepsFile d e file → IsSynced d file → IsSynced e file
  kept_on file is stays kept x left = elim (cases_lt d.moment e.moment) [
    | inl late ↦ kept x (stays.left (not_loose d job.attempt file free_d is) e.moment x late (omega arith) left) ∙ sym (stays.held (not_foreign d job.attempt file free_d is))
    | inr still ↦
        let later = only.goes.later in
        let same : e.moment ≡ d.moment = omega (arith, later, still) in
        kept x (subst (λ (t : ℕ). d.may_leave t file x) same (only.goes.left e.moment file x still left)) ∙ sym (stays.held (not_foreign d job.attempt file free_d is))
  ]

  pub left : (counts : Counts) → IsCounted k.kept counts → Ends job.attempt (Ok tt) d e → IsLeft records job counts e
  left counts counted ends = record {
    pair = chose.pair;
    valid = chose.valid;
    mapping = keeps_mapping.held (not_foreign d job.attempt (Mapping job.attempt) free_d refl) ∙ mapping_is;
    prefix = keeps_prefix.held (not_foreign d job.attempt (Prefix job.attempt) free_d refl) ∙ prefix_is;
    done = ends.held;
    synced_mapping = kept_on (Mapping job.attempt) refl keeps_mapping (written.synced (Mapping job.attempt) refl);
    synced_prefix = kept_on (Prefix job.attempt) refl keeps_prefix (written.synced (Prefix job.attempt) refl);
    synced_done = ends.synced;
    records_kept = counted.records ∙ chose.count;
    bytes = counted.bytes ∙ chose.sum;
    runs = counted.runs ∙ ap length chose.runs;
  }

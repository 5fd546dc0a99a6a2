-- The pair that a swap makes live.
--     HasPair image records s next c runs      the files of a collection's attempt are the valid pair of these records, with these runs, and the next slot names it
--     pair_found      so it is where a check that is through has found no difference
--     rows_of_pair      then the mapping of an image with this pair has the rows of these runs
use Rattle.std.proofs.Common.{◌≡◌, ◌≢◌, ℕ, ◌+◌, ◌^◌, ◌<◌, ◌≤◌, List, [], ◌++◌, Some, None, length, map, sym, ◌∙◌, ap, subst, arith}
use Rattle.ip_ground.specs.declared.names.FileName.TheVariants.{Mapping, Prefix}
use Rattle.ip_ground.specs.Contents.{Image}
use Rattle.ip_spec.specs.declared.record.Record.{Record}
use Rattle.ip_spec.specs.TreeAt.{Records}
use Rattle.ip_image.specs.declared.slot.Slot.{Slot}
use Rattle.ip_image.specs.Slot.{layout_of}
use Rattle.ip_image.specs.declared.run.Run.{Run}
use Rattle.ip_image.specs.Virtual.{run_of, placed, total, mapping_file, RowsFitFrom}
use Rattle.ip_image.specs.Standing.{MappingIs, Generation, AreGood, Standing}
use Rattle.ip_image.specs.Collection.{IsKept, runs_of, Pair, IsValid, found_in}
use Rattle.ip_image.specs.Collected.{IsSwapped}
use Rattle.ip_image.specs.Pending.{HasLive}
use Rattle.ip_image.proofs.CoreTies.{image_rises, kept_on}
use Rattle.ip_image.proofs.KeptRuns.{rows_numbers, rows_many, rows_total, runs_again}
use Rattle.ip_image.proofs.PairLaws.{Has, Rises, same_kept, found_valid}
use Rattle.ip_image.proofs.StayingRecords.{good_both, rises_front}
use Rattle.ip_space.proofs.Stretches.{one_mapping}
use Rattle.ip_keep.specs.Keeping.{IsKeeping, IsThrough}
use Rattle.ip_keep.specs.Runs.{joined}
use Rattle.ip_keep.specs.Whole.{AreRecords}
use Rattle.ip_keep.proofs.LeastSet.{keeps_all}
use Rattle.ip_keep.proofs.RunsApart.{joined_rows}
use Rattle.ip_check.specs.declared.check.Stage.{Stage}
use Rattle.ip_check.specs.declared.check.Stage.TheVariants as Stage
use Rattle.ip_check.specs.CheckView.{CheckView}
use Rattle.ip_check.specs.Checking.{IsAtStage, IsCheck, IsVerdict}
use Rattle.ip_spawn.specs.declared.job.Job.{Job}
use Rattle.ip_held.specs.declared.collection.Collection.{Collection}
use Rattle.ip_held.specs.declared.collection.Unswept.{Unswept}
use Rattle.ip_held.specs.Collecting.{until}
use Rattle.ip_collects.specs.Finishing.{swapped_slot}
use Rattle.ip_held.proofs.Listed.{same_slot}
use Rattle.ip_held.proofs.Remaining.{until_front}

pub record HasPair (image : Image) (records : Records) (s next : Slot) (c : Collection) (list : List Run) : Type 0 where
  pub pair : Pair
  pub valid : IsValid records c.job.horizon c.job.end pair
  pub swapped : IsSwapped s next c.commit c.job.horizon c.job.attempt valid.kept pair
  pub attempts : next.next_attempt ≡ s.next_attempt
  pub runs : list ≡ runs_of valid.kept
  pub fit : RowsFitFrom c.job.horizon 0 0 (placed 0 list)
  pub mapping : image (Mapping c.job.attempt) ≡ Some pair.mapping
  pub prefix : image (Prefix c.job.attempt) ≡ Some pair.prefix

-- in another image with these files
pub pair_stays : (image other : Image) (records more : Records) (s next : Slot) (c : Collection) (list : List Run) → more ≡ records → other (Mapping c.job.attempt) ≡ image (Mapping c.job.attempt) → other (Prefix c.job.attempt) ≡ image (Prefix c.job.attempt)
    → HasPair image records s next c list → HasPair other more s next c list
pair_stays image other records more s next c list same mapping prefix has = subst (λ (rs : Records). HasPair other rs s next c list) (sym same) (record {
  pair = has.pair;
  valid = has.valid;
  swapped = has.swapped;
  attempts = has.attempts;
  runs = has.runs;
  fit = has.fit;
  mapping = mapping ∙ has.mapping;
  prefix = prefix ∙ has.prefix;
})

module _ (image : Image) (A : Standing image) (s next : Slot) (u : Unswept) (c : Collection) (check : CheckView) (is : IsCheck check) (job : check.job ≡ c.job) (stage : check.stage ≡ Stage.Through None) (order : c.job.horizon ≤ c.job.end)
    (whole : AreRecords image check.keep.space check.keep.horizon (until c.job.end A.records)) (keeping : IsKeeping (until c.job.end A.records) check.keep) (verdict : IsVerdict (until c.job.end A.records) c.job (found_in image c.job.attempt) None)
    (slot : next ≡ swapped_slot s u c (total (joined check.keep.kept)) (length (joined check.keep.kept))) where
  abbrev h : ℕ
  h = c.job.horizon

  abbrev e : ℕ
  e = c.job.end

  abbrev before : Records
  before = until c.job.end A.records

  abbrev list : List Run
  list = joined check.keep.kept

  abbrev pair : Pair
  pair = verdict.pair

  abbrev kept : Records
  kept = verdict.valid.kept

  from : check.keep.horizon ≡ h
  from = is.horizon ∙ ap (λ (j : Job). j.horizon) job

  to : check.keep.space.layout.end ≡ e
  to = is.end ∙ ap (λ (j : Job). j.end) job

  through : IsThrough check.keep
  through = subst (IsAtStage check) stage is.stage

  -- what was kept are the runs of the valid pair
  runs_are : list ≡ runs_of kept
  runs_are =
      let (found, each, places, runs) = keeps_all image before check.keep whole is.keep keeping through in
      runs ∙ ap runs_of (same_kept before h e found kept (subst (λ (n : ℕ). IsKept before h n found) to (subst (λ (n : ℕ). IsKept before n check.keep.space.layout.end found) from each)) verdict.valid.each)

  -- more records stand behind the job's end
  rest : (since : Records) × (A.records ≡ before ++ since) × ((x : ℕ × Record) → Has since x → c.job.end ≤ x.0)
  rest = until_front c.job.end A.records (image_rises image A)

  kept_all : IsKept A.records h e kept
  kept_all =
      let (since, all, behind) = rest in
      subst (λ (rs : Records). IsKept rs h e kept) (sym all)
      (kept_on A.slot before (rises_front before since (subst Rises all (image_rises image A))) (good_both A.slot [] before since (subst (AreGood A.slot []) all A.good)).0 h e kept verdict.valid.each since order behind)

  valid : IsValid A.records h e pair
  valid = record { kept = kept; each = kept_all; mapping = verdict.valid.mapping; prefix = verdict.valid.prefix }

  files : (image (Mapping c.job.attempt) ≡ Some pair.mapping) × (image (Prefix c.job.attempt) ≡ Some pair.prefix)
  files = found_valid pair (found_in image c.job.attempt) (sym verdict.difference)

  swapped : IsSwapped s next c.commit h c.job.attempt kept pair
  swapped = record {
    version = ap (λ (t : Slot). t.version) slot;
    chunk = ap (λ (t : Slot). t.chunk) slot;
    horizon = ap (λ (t : Slot). t.horizon) slot;
    end = ap (λ (t : Slot). t.end) slot;
    floor = ap (λ (t : Slot). t.floor) slot;
    next = ap (λ (t : Slot). t.next) slot;
    live = ap (λ (t : Slot). t.live) slot;
    prefix_len = ap (λ (t : Slot). t.prefix_len) slot ∙ ap total runs_are ∙ rows_total kept ∙ ap length (sym verdict.valid.prefix);
    rows = ap (λ (t : Slot). t.rows) slot ∙ ap length runs_are;
  }

  pub pair_found : HasPair image A.records s next c (joined check.keep.kept)
  pair_found = record {
    pair = pair;
    valid = record { kept = kept; each = kept_all; mapping = verdict.valid.mapping; prefix = verdict.valid.prefix };
    swapped = swapped;
    attempts = ap (λ (t : Slot). t.next_attempt) slot;
    runs = runs_are;
    fit = subst (λ (n : ℕ). RowsFitFrom n 0 0 (placed 0 list)) from (joined_rows check.keep.horizon check.keep.kept is.keep.apart);
    mapping = files.0;
    prefix = files.1;
  }

module _ (image other : Image) (records : Records) (s next : Slot) (c : Collection) (list : List Run) (has : HasPair image records s next c list) (some : c.job.attempt ≢ 0) (small : c.job.horizon < 2 ^ 64) (order : c.job.horizon < c.job.end) (inside : c.job.end ≤ s.end)
    (mapping : other (Mapping next.live) ≡ image (Mapping next.live)) (live : HasLive next other) (B : Standing other) where
  mapping_is : MappingIs other (layout_of next) (placed 0 list)
  mapping_is = record {
    end = c.job.end;
    file = mapping ∙ ap (λ (n : ℕ). image (Mapping n)) has.swapped.live ∙ has.mapping ∙ ap Some has.valid.mapping
        ∙ (λ i. Some (mapping_file (sym has.swapped.horizon i) c.job.end (placed 0 (sym has.runs i))));
    count = rows_many 0 list ∙ ap length has.runs ∙ sym has.swapped.rows;
    numbers = rows_numbers c.job.horizon 0 0 (placed 0 list) small (omega arith) has.fit;
    above = (let h = has.swapped.horizon in omega (arith, h, order));
    inside = (let end = has.swapped.end in omega (arith, end, inside));
  }

  mapping_of : MappingIs other (layout_of next) B.rows
  mapping_of = (subst (λ (t : Slot). Generation other (layout_of t) B.rows) (same_slot other next live B) B.generation).file (λ none. some (sym has.swapped.live ∙ none))

  pub rows_of_pair : list ≡ map run_of B.rows
  rows_of_pair = sym (runs_again 0 list) ∙ ap (map run_of) (one_mapping other (layout_of next) (placed 0 list) B.rows mapping_is mapping_of)

-- The stages of a collection: what each leaves to the next.
--     looked      no file changes.      removed_c, free_c, gone_c      behind the removals.      removed_d, free_d, gone_d, only_e      behind the pair
--     nothing_b, whole_b      the files that the job reads.      ready_c, held_c      what the pair is written from
--     searched_works, refused_works, cleared_works, pair_works, done_works, all_works      each way out
use Rattle.std.proofs.Common.{◌≡◌, ◌≢◌, ◌<◌, refl, sym, ap, subst, ◌∙◌, ℕ, arith, Option}
use Rattle.std.specs.Prelude.{None, Result, Ok, Err, IsErrOf}
use Rattle.ip_ground.specs.declared.names.FileName.{FileName}
use Rattle.ip_ground.specs.declared.names.FileName.TheVariants.{Done}
use Rattle.ip_ground.specs.declared.names.GroundFault.{GroundFault}
use Rattle.ip_ground.specs.Custody.{IsOfAttempt}
use Rattle.ip_ground.specs.Told.{Told, Only, NoFile, ChangesOnly}
use Rattle.ip_ground.proofs.Spans.{only_on, each_on}
use Rattle.ip_spec.specs.TreeAt.{Records}
use Rattle.ip_spawn.specs.declared.job.Job.{Job}
use Rattle.ip_image.specs.declared.layout.Layout.{Layout}
use Rattle.ip_space.specs.SpaceView.{IsReadable, byte_at}
use Rattle.ip_space.proofs.Stayed.{readable_beside}
use Rattle.ip_keep.specs.KeepView.{KeepView}
use Rattle.ip_keep.specs.Runs.{AreHeld, joined}
use Rattle.ip_keep.proofs.Held.{held_joined}
use Rattle.ip_worker.specs.declared.fault.WorkFault.{WorkFault}
use Rattle.ip_worker.specs.declared.worker.Counts.{Counts}
use Rattle.ip_worker.specs.Steps.{IsFree, IsPairFile, IsFor, IsFound, IsReady, Clears, Finds, IsCounted, WritesPair, Ends}
use Rattle.ip_worker.specs.Working.{NothingLent, Works}
use Rattle.ip_worker.proofs.Copying.{free_on, of_none, bytes_stay}
use Rattle.ip_worker.proofs.Ending.{Removed, of_this, done_stays, none_now}
use Rattle.ip_worker.proofs.Finding.{records_on}
use Rattle.ip_worker.proofs.Collecting.{Chosen, chosen, none_left, removed_pair, before_done, done_last, left}

-- while nothing is changed
pub looked : (attempt : ℕ) (a b : Told) → IsFree a attempt → ChangesOnly NoFile a b → Removed attempt a b
looked attempt a b free only = record { only = of_none (IsOfAttempt attempt) a b only; none = done_stays attempt NoFile a b (λ none. none) free only }

-- from b on the attempt's files are removed
module _ (attempt : ℕ) (a b c : Told) (free : IsFree a attempt) (looks : ChangesOnly NoFile a b) where
  pub free_b : IsFree b attempt
  free_b = free_on NoFile a b attempt looks free

  pub removed_c : (r : Result (Unit {0}) GroundFault) → Clears attempt r b c → Removed attempt a c
  removed_c r clears =
      let so = looked attempt a b free looks in
      record {
        only = only_on a b c (IsOfAttempt attempt) so.only clears.only;
        none = λ none. each_on a b c (Done attempt) (λ content. content ≡ None) clears.only.goes (so.none none) (clears.none (none_now attempt a b looks.goes none (so.none none)));
      }

  module _ (clears : Clears attempt (Ok tt) b c) where
    pub free_c : IsFree c attempt
    free_c = free_on (IsOfAttempt attempt) b c attempt clears.only free_b

    pub gone_c : (file : FileName) → IsOfAttempt attempt file → c.held file ≡ None
    gone_c = clears.gone

    module _ (d : Told) (next : ChangesOnly (IsPairFile attempt) c d) where
      pub removed_d : Removed attempt a d
      removed_d = removed_pair attempt a c d free (removed_c (Ok tt) clears) next

      pub free_d : IsFree d attempt
      free_d = free_on (IsPairFile attempt) c d attempt next free_c

      pub gone_d : d.held (Done attempt) ≡ None
      gone_d = none_left attempt (Done attempt) (IsPairFile attempt) c d free_c refl (λ none. none) next (gone_c (Done attempt) refl)

      pub only_e : (e : Told) → ChangesOnly (Only (Done attempt)) d e → ChangesOnly (IsOfAttempt attempt) a e
      only_e e only = only_on a d e (IsOfAttempt attempt) removed_d.only (of_this attempt (Done attempt) refl d e only)

apart_live : (job : Job) → job.live < job.attempt → job.live ≢ job.attempt
apart_live job below e = omega (arith, e, below)

other_fault : {A B : Type 0} (fault : WorkFault) → (IsErrOf {T = A} (Err fault) WorkFault.Damaged → ⊥) → IsErrOf {T = B} (Err fault) WorkFault.Damaged → ⊥
other_fault fault never is = let damaged : fault ≡ WorkFault.Damaged = cc is in never (ap Err damaged)

-- nothing is found damaged, and no file has changed
pub searched_works : {A : Type 0} (records : Records) (job : Job) (a b : Told) → NothingLent a → ChangesOnly NoFile a b → (fault : WorkFault) → (IsErrOf {T = A} (Err fault) WorkFault.Damaged → ⊥) → Works records job (Err fault) a b
searched_works records job a b nothing looks fault whole = record {
  ok = tt;
  whole = other_fault fault whole;
  last = before_done records job a b (looked job.attempt a b (nothing job.attempt) looks);
}

pub cleared_works : (records : Records) (job : Job) (r : Result (Unit {0}) GroundFault) (a b c : Told) → NothingLent a → ChangesOnly NoFile a b → Clears job.attempt r b c → Works records job (Err WorkFault.Ground) a c
cleared_works records job r a b c nothing looks clears = record {
  ok = tt;
  whole = λ is. absurd (cc is);
  last = before_done records job a c (removed_c job.attempt a b c (nothing job.attempt) looks r clears);
}

-- the search ends at m, and the control file is read from there to b
module _ (records : Records) (job : Job) (below : job.live < job.attempt) (a m b c : Told) (nothing : NothingLent a) (first : ChangesOnly NoFile a m) (then : ChangesOnly NoFile m b) (clears : Clears job.attempt (Ok tt) b c) where
  free : IsFree a job.attempt
  free = nothing job.attempt

  looks : ChangesOnly NoFile a b
  looks = only_on a m b NoFile first then

  since : ChangesOnly (IsOfAttempt job.attempt) m c
  since = only_on m b c (IsOfAttempt job.attempt) (of_none (IsOfAttempt job.attempt) m b then) clears.only

  module _ (k : KeepView) (is : IsFor job k) (readable : IsReadable m k.space) where
    apart : k.space.layout.live ≢ job.attempt
    apart e = apart_live job below (ap (λ (l : Layout). l.live) (sym is.layout) ∙ e)

    pub ready_c : IsReady job.attempt k.space c
    ready_c = record {
      free = free_c job.attempt a b c free looks clears;
      readable = readable_beside (IsOfAttempt job.attempt) m c since (λ number none. none) k.space readable apart;
      apart = apart;
    }

    -- no byte of what is kept has gone
    pub held_c : AreHeld (byte_at m k.space) k.kept → AreHeld (byte_at c k.space) (joined k.kept)
    held_c held = held_joined (byte_at c k.space) k.kept (subst (λ (f : ℕ → Option ℕ). AreHeld f k.kept) (sym (bytes_stay job.attempt m c since k.space readable apart)) held)

    module _ (finds : Finds records m.held (Ok k)) where
      found_c : IsFound records c.held k
      found_c = record { through = finds.ok.through; keeping = finds.ok.keeping; lie = records_on job.attempt m c since k.space k.horizon records readable apart finds.ok.lie }

      chose : Chosen records job k c
      chose = chosen records job k c is found_c

      module _ (d : Told) (next : ChangesOnly (IsPairFile job.attempt) c d) where
        so : Removed job.attempt a d
        so = removed_d job.attempt a b c free looks clears d next

        pub pair_works : (fault : WorkFault) → WritesPair {A = Counts} (byte_at c k.space) job (joined k.kept) (Err fault) d → Works records job (Err fault) a d
        pair_works fault writes = record {
          ok = tt;
          whole = other_fault fault (λ damaged. writes.whole damaged chose.held);
          last = before_done records job a d so;
        }

        module _ (counts : Counts) (writes : WritesPair (byte_at c k.space) job (joined k.kept) (Ok counts) d) (e : Told) (s : Result (Unit {0}) GroundFault) (ends : Ends job.attempt s d e) where
          pub done_works : Works records job (Err WorkFault.Ground) a e
          done_works = record { ok = tt; whole = λ is. absurd (cc is); last = done_last records job k a c d e free so chose writes.ok ends.only }

        pub all_works : (counts : Counts) → WritesPair (byte_at c k.space) job (joined k.kept) (Ok counts) d → IsCounted k.kept counts → (e : Told) → Ends job.attempt (Ok tt) d e → Works records job (Ok counts) a e
        all_works counts writes counted e ends = record {
          ok = left records job k a c d e free so chose writes.ok ends.only counts counted ends;
          whole = λ is. absurd (cc is);
          last = done_last records job k a c d e free so chose writes.ok ends.only;
        }

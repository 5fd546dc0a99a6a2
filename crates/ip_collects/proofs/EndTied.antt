-- What the end of a collection does to the core.
--     idle_there      the core in which none runs
--     cancelled, heard, turned_down, accepts      it is given up; how its child ended is kept; it is over, and its records stay; it is accepted
--     cancel_tied      so where it is cancelled, and swept away or not
--     LeavesRecords      what a call leaves of the records.      finishes_leaves, quiet_list      what tells that
--     Premises, finish_tied      and so where it is looked at, or finished
use Rattle.std.proofs.Common.{◌≡◌, inl, inr, ℕ, List, [], ◌∷◌, ◌++◌, true, Option, Some, None, refl, sym, ◌∙◌, ap, subst}
use Rattle.std.specs.Prelude.{Result, Ok, Err, IsOk, IsErrOf, is_some, filter}
use Rattle.ip_base.specs.declared.exit.Reaped.{Reaped}
use Rattle.ip_ground.specs.Contents.{Image}
use Rattle.ip_ground.specs.Told.{Told}
use Rattle.ip_spec.specs.declared.command.Command.{Command}
use Rattle.ip_spec.specs.declared.event.Event.{Event}
use Rattle.ip_spec.specs.declared.event.Event.TheVariants as Event
use Rattle.ip_spec.specs.declared.met.Child.{Child}
use Rattle.ip_spec.specs.declared.met.Child.TheVariants as Child
use Rattle.ip_spec.specs.declared.met.Met.{Met}
use Rattle.ip_spec.specs.Core.{AreReached, Core, CorePhase, CoreRun, core_of, core_records, stays, with_phase}
use Rattle.ip_spec.specs.Repository.{Repository}
use Rattle.ip_spec.specs.TreeAt.{Records}
use Rattle.ip_image.specs.declared.slot.Slot.{Slot}
use Rattle.ip_image.specs.Collected.{offsets_of, remaining}
use Rattle.ip_image.specs.Collection.{IsKept as AreKept}
use Rattle.ip_image.specs.Standing.{Standing}
use Rattle.ip_image.proofs.CoreTies.{accepted, image_rises, kept_among, kept_rises, offsets_reached}
use Rattle.ip_image.proofs.OneRepository.{all_records}
use Rattle.ip_collects.specs.declared.cancelling.CancelFault.{CancelFault}
use Rattle.ip_collects.specs.declared.cancelling.Cancelled.{Cancelled}
use Rattle.ip_held.specs.declared.collection.Collection.{Collection}
use Rattle.ip_held.specs.declared.collection.Unswept.{Unswept}
use Rattle.ip_collects.specs.declared.finishing.FinishFault.{FinishFault}
use Rattle.ip_collects.specs.declared.finishing.Looked.{Looked}
use Rattle.ip_held.specs.declared.held.Held.{Held}
use Rattle.ip_collects.specs.Ending.{Goes}
use Rattle.ip_collects.specs.Finishing.{FinishesBy, HasAnswer, IsCollected, IsKept, IsOver, IsQuiet, swapped_slot}
use Rattle.ip_held.specs.Held.{Holds}
use Rattle.ip_held.specs.Tie.{CorePhaseOf, IsCoreOf, IsTied}
use Rattle.ip_collects.specs.CollectEvents.{cancel_events, ending, finish_events}
use Rattle.ip_held.proofs.CoreAppends.{one_kept, tied_still}
use Rattle.ip_held.proofs.OneCore.{arrives, run_on}

-- no collection goes on in the core that is left
idle_there : (now : Held) (records records' : Records) (horizon : ℕ) → now.collection ≡ None → now.slot.horizon ≡ horizon → records' ≡ records → IsCoreOf now records' (core_of records horizon CorePhase.idle)
idle_there now records records' horizon none low same = record {
  phase = CorePhase.idle;
  seen = subst (λ (o : Option Collection). CorePhaseOf records' o CorePhase.idle) (sym none) refl;
  core_is = λ i. core_of (sym same i) (sym low i) CorePhase.idle;
}

-- ---- a collection of this store

module _ (store : Held) (c : Collection) (runs : store.collection ≡ Some c) (image : Image) (A : Standing image) (core : Core) (is : IsCoreOf store A.records core) where
  abbrev records : Records
  records = A.records

  abbrev h : ℕ
  h = c.job.horizon

  abbrev horizon : ℕ
  horizon = store.slot.horizon

  seen : CorePhaseOf records (Some c) is.phase
  seen = subst (λ (o : Option Collection). CorePhaseOf records o is.phase) runs is.seen

  abbrev kept : List ℕ
  kept = seen.0

  are : AreReached (core_records records) h c.job.end kept
  are = seen.1

  core_at : core ≡ core_of records horizon (CorePhase.collecting h kept (is_some c.exit))
  core_at = is.core_is ∙ ap (core_of records horizon) seen.2

  phase_at : core.phase ≡ CorePhase.collecting h kept (is_some c.exit)
  phase_at = ap (λ (x : Core). x.phase) core_at

  -- the collection is given up
  pub cancelled : (now : Held) (records' : Records) (core' : Core) (more : List Event) → now.collection ≡ None → now.slot ≡ store.slot → records' ≡ records → IsCoreOf now records' core'
      → CoreRun (core_of records horizon CorePhase.idle) more (core_of records horizon CorePhase.idle) → CoreRun core (Event.Cancel ∷ more) core'
  cancelled now records' core' more none slot same is' rest =
      arrives now records' core (core_of records horizon CorePhase.idle) core' (Event.Cancel ∷ more) (idle_there now records records' horizon none (ap (λ (s : Slot). s.horizon) slot) same) is'
      (core_of records horizon CorePhase.idle, (h, kept, is_some c.exit, phase_at, ap (λ (x : Core). with_phase x CorePhase.idle) (sym core_at)), rest)

  -- ---- its child has ended

  abbrev ended : Core
  ended = core_of records horizon (CorePhase.collecting h kept true)

  end_run : CoreRun core (ending (Some c)) ended
  end_run = by c.exit core_at
    where
      by : (exit : Option Reaped) → core ≡ core_of records horizon (CorePhase.collecting h kept (is_some exit)) → CoreRun core (elim exit [ None ↦ Event.End ∷ [] | Some reaped ↦ [] ]) ended
      by None at = (ended, (h, kept, ap (λ (x : Core). x.phase) at, ap (λ (x : Core). with_phase x (CorePhase.collecting h kept true)) (sym at)), refl)
      by (Some reaped) at = sym at

  -- the end is an event where it was not heard before, and then these follow
  behind_end : (target : Core) (more : List Event) → CoreRun ended more target → CoreRun core (ending store.collection ++ more) target
  behind_end target more rest = subst (λ (o : Option Collection). CoreRun core (ending o ++ more) target) (sym runs) (run_on core ended target (ending (Some c)) more end_run rest)

  module _ (now : Held) (records' : Records) (core' : Core) (is' : IsCoreOf now records' core') where
    -- how it ended is kept
    pub heard : (same : Collection) → now.collection ≡ Some same → same.job ≡ c.job → is_some same.exit ≡ true → now.slot ≡ store.slot → records' ≡ records → CoreRun core (ending store.collection) core'
    heard same goes_on job exit slot list =
        arrives now records' core ended core' (ending store.collection) (record {
          phase = CorePhase.collecting h kept true;
          seen = subst (λ (o : Option Collection). CorePhaseOf records' o (CorePhase.collecting h kept true)) (sym goes_on) (
            kept,
            subst (λ (rs : Records). AreReached (core_records rs) same.job.horizon same.job.end kept) (sym list) (subst (λ job. AreReached (core_records records) job.horizon job.end kept) (sym job) are),
            λ i. CorePhase.collecting ((sym job i).horizon) kept (sym exit i),
          );
          core_is = λ i. core_of (sym list i) ((sym slot i).horizon) (CorePhase.collecting h kept true);
        }) is'
        (subst (λ (o : Option Collection). CoreRun core (ending o) ended) (sym runs) end_run)

    module _ (none : now.collection ≡ None) where
      -- it is over, and its records stay
      pub turned_down : (more : List Event) → now.slot ≡ store.slot → records' ≡ records → CoreRun (core_of records horizon CorePhase.idle) more (core_of records horizon CorePhase.idle) → CoreRun core (ending store.collection ++ Event.Reject ∷ more) core'
      turned_down more slot list rest =
          arrives now records' core (core_of records horizon CorePhase.idle) core' (ending store.collection ++ Event.Reject ∷ more) (idle_there now records records' horizon none (ap (λ (s : Slot). s.horizon) slot) list) is'
          (behind_end (core_of records horizon CorePhase.idle) (Event.Reject ∷ more) (core_of records horizon CorePhase.idle, (h, kept, refl, refl), rest))

      -- it is accepted
      abbrev left : Core
      left = record { records = filter (stays h kept) (core_records records); horizon = h; phase = CorePhase.idle }

      pub accepts : now.slot.horizon ≡ h → (remain : Records) → AreKept records h c.job.end remain → records' ≡ remaining h remain records → CoreRun core (ending store.collection ++ Event.Accept ∷ Event.Sweep ∷ []) core'
      accepts low remain each list =
          arrives now records' core left core' (ending store.collection ++ Event.Accept ∷ Event.Sweep ∷ []) (record {
            phase = CorePhase.idle;
            seen = subst (λ (o : Option Collection). CorePhaseOf records' o CorePhase.idle) (sym none) refl;
            core_is = λ i. record { records = kept_is i; horizon = sym low i; phase = CorePhase.idle };
          }) is'
          (behind_end left (Event.Accept ∷ Event.Sweep ∷ []) (left, (h, kept, refl, refl), (left, refl, refl)))
        where
          same : kept ≡ offsets_of remain
          same = one_kept (core_records records) h c.job.end (offsets_of remain) kept (offsets_reached A.slot records (image_rises image A) A.good h c.job.end remain each) are

          left_is : core_records (remaining h remain records) ≡ filter (stays h (offsets_of remain)) (core_records records)
          left_is = accepted records (image_rises image A) h remain (kept_rises A.slot records (image_rises image A) A.good h c.job.end remain each) (kept_among A.slot records (image_rises image A) A.good h c.job.end remain each)

          kept_is : filter (stays h kept) (core_records records) ≡ core_records records'
          kept_is = ap (λ (ks : List ℕ). filter (stays h ks) (core_records records)) same ∙ (sym left_is ∙ ap core_records (sym list))

-- ---- the calls

-- a collection of this store is cancelled
pub cancel_tied : (store now : Held) (c : Collection) → store.collection ≡ Some c → now.collection ≡ None → now.slot ≡ store.slot → (image : Image) (A : Standing image) (records' : Records) → records' ≡ A.records
    → (result : Result Cancelled CancelFault) → IsOk result → IsTied store A.records now records' (cancel_events result)
cancel_tied store now c runs none slot image A records' list (Ok Cancelled.Done) ok core core' is is' = cancelled store c runs image A core is now records' core' (Event.Sweep ∷ []) none slot list is' (core_of A.records store.slot.horizon CorePhase.idle, refl, refl)
cancel_tied store now c runs none slot image A records' list (Ok Cancelled.Orphan) ok core core' is is' = cancelled store c runs image A core is now records' core' [] none slot list is' refl
cancel_tied store now c runs none slot image A records' list (Err fault) ok core core' is is' = absurd (cc ok)

some_runs : (running : Option Collection) → ¬ (running ≡ None) → (c : Collection) × (running ≡ Some c)
some_runs None not = absurd (not refl)
some_runs (Some c) not = (c, refl)

-- What a call leaves of the records, whatever was heard.
pub record LeavesRecords (result : Result Looked FinishFault) (c : Collection) (records records' : Records) : Type 0 where
  pub remains : IsCollected result → (kept : Records) × AreKept records c.job.horizon c.job.end kept × (records' ≡ remaining c.job.horizon kept records)
  pub same : HasAnswer result → ¬ IsCollected result → records' ≡ records

pub finishes_leaves : (r q : Repository) (c : Collection) (command : Command) (result : Result Looked FinishFault) (u : Unswept) (said : Met) (store : Held) (a b : Told) (before : Records) (now : Holds store b q)
    → FinishesBy before r c command result u said store a b → LeavesRecords result c before now.stands.standing.records
finishes_leaves r q c command result u said store a b before now by = record { remains = λ collected. by.remains q now collected; same = λ has other. by.same q now has other }

-- the ground is as it was
pub quiet_list : (a b : Told) (A : Standing a.held) → b ≡ a → (B : Standing b.held) → B.records ≡ A.records
quiet_list a b A e = subst (λ (t : Told). (B : Standing t.held) → B.records ≡ A.records) (sym e) (λ B. sym (all_records a.held A B))

swapped_low : (s t : Slot) (u : Unswept) (c : Collection) (length rows : ℕ) → t ≡ swapped_slot s u c length rows → t.horizon ≡ c.job.horizon
swapped_low s t u c length rows is = ap (λ (x : Slot). x.horizon) is

module _ (child : Child) (most : ℕ) (met : Met) (store now : Held) (image : Image) (A : Standing image) (records' : Records) where
  -- the premises, by the answer
  pub record Premises (result : Result Looked FinishFault) : Type 0 where
    pub goes : Goes child most result met store now
    pub quiet : IsQuiet result → records' ≡ A.records
    pub loud : (c : Collection) (reaped : Reaped) → store.collection ≡ Some c → child ≡ Child.Ended reaped → LeavesRecords result c A.records records'

  quiet_tied : (result : Result Looked FinishFault) → Premises result → IsQuiet result → IsTied store A.records now records' []
  quiet_tied result p is = (let same = p.goes.quiet is in tied_still store now A.records records' (ap (λ (s : Held). s.collection) same) (ap (λ (s : Held). s.slot.horizon) same) (p.quiet is))

  module _ (result : Result Looked FinishFault) (p : Premises result) (idle : ¬ IsErrOf result FinishFault.Idle) (not : ¬ IsQuiet result) where
    running : (c : Collection) × (store.collection ≡ Some c)
    running = some_runs store.collection (λ none. idle (p.goes.runs.0 none))

    abbrev c : Collection
    c = running.0

    heard_of : (reaped : Reaped) × (child ≡ Child.Ended reaped)
    heard_of = elim p.goes.ended [ inl quiet ↦ absurd (not quiet) | inr it ↦ it ]

    leaves : LeavesRecords result c A.records records'
    leaves = p.loud c heard_of.0 running.1 heard_of.1

    kept_tied : IsKept result → HasAnswer result → ¬ IsCollected result → now.slot ≡ store.slot → IsTied store A.records now records' (ending store.collection)
    kept_tied stays has other slot core core' is is' =
        let on = p.goes.goes_on stays c heard_of.0 running.1 heard_of.1 in
        heard store c running.1 image A core is now records' core' is' on.same on.is on.job (ap is_some on.exit) slot (leaves.same has other)

    over_tied : (more : List Event) → IsOver result → HasAnswer result → ¬ IsCollected result → now.slot ≡ store.slot → ((core : Core) → CoreRun core more core) → IsTied store A.records now records' (ending store.collection ++ Event.Reject ∷ more)
    over_tied more over has other slot rest core core' is is' =
        turned_down store c running.1 image A core is now records' core' is' (p.goes.over over) more slot (leaves.same has other) (rest (core_of A.records store.slot.horizon CorePhase.idle))

    collected_tied : IsOver result → IsCollected result → now.slot.horizon ≡ c.job.horizon → IsTied store A.records now records' (ending store.collection ++ Event.Accept ∷ Event.Sweep ∷ [])
    collected_tied over collected low core core' is is' =
        let (remain, each, list) = leaves.remains collected in
        accepts store c running.1 image A core is now records' core' is' (p.goes.over over) low remain each list

  pub finish_tied : (result : Result Looked FinishFault) → Premises result → HasAnswer result → IsTied store A.records now records' (finish_events store.collection result)
  finish_tied (Ok Looked.Running) p has = quiet_tied (Ok Looked.Running) p tt
  finish_tied (Ok (Looked.Checking left)) p has =
      let (c, runs) = running (Ok (Looked.Checking left)) p (λ e. cc e) (λ q. q) in
      kept_tied (Ok (Looked.Checking left)) p (λ e. cc e) (λ q. q) tt tt (λ y. y) (p.goes.slot c runs)
  finish_tied (Ok (Looked.Collected collected)) p has =
      let (c, runs) = running (Ok (Looked.Collected collected)) p (λ e. cc e) (λ q. q) in
      let (length, rows, slot) = p.goes.slot c runs in
      collected_tied (Ok (Looked.Collected collected)) p (λ e. cc e) (λ q. q) tt tt (swapped_low store.slot now.slot store.unswept c length rows slot)
  finish_tied (Err FinishFault.Idle) p has = quiet_tied (Err FinishFault.Idle) p tt
  finish_tied (Err FinishFault.Wait) p has = quiet_tied (Err FinishFault.Wait) p tt
  finish_tied (Err (FinishFault.Rejected rejection)) p has =
      let (c, runs) = running (Err (FinishFault.Rejected rejection)) p (λ e. cc e) (λ q. q) in
      over_tied (Err (FinishFault.Rejected rejection)) p (λ e. cc e) (λ q. q) (Event.Sweep ∷ []) tt tt (λ y. y) (p.goes.slot c runs) (λ core. (core, refl, refl))
  finish_tied (Err (FinishFault.Limit limit)) p has =
      let (c, runs) = running (Err (FinishFault.Limit limit)) p (λ e. cc e) (λ q. q) in
      over_tied (Err (FinishFault.Limit limit)) p (λ e. cc e) (λ q. q) [] tt tt (λ y. y) (p.goes.slot c runs) (λ core. refl)
  finish_tied (Err FinishFault.Memory) p has =
      let (c, runs) = running (Err FinishFault.Memory) p (λ e. cc e) (λ q. q) in
      kept_tied (Err FinishFault.Memory) p (λ e. cc e) (λ q. q) tt tt (λ y. y) (p.goes.slot c runs)
  finish_tied (Err FinishFault.Ground) p has = absurd has
  finish_tied (Err (FinishFault.Damaged at)) p has = absurd has

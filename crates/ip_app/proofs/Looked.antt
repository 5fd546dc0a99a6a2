-- How far a check is, by what a store holds.
--     looked_on      what was looked at never falls while a collection goes on.      looked_same      it stays where its child was not heard to have ended.      looked_none      nothing was of a child that was started
--     checked_to      behind a look that is not through
use Rattle.std.proofs.Common.{◌≡◌, ◌≢◌, ◌⊎◌, inl, inr, ℕ, ◌+◌, ◌*◌, ◌<◌, ◌≤◌, List, [], ◌∷◌, length, refl, sym, ap, ◌∙◌, subst, arith, Option, Some, None}
use Rattle.std.specs.Prelude.{IfSome, IsSome, IsSomeAnd, is_some, count_by}
use Rattle.std.proofs.lemmas.Bool.{false≢true}
use Rattle.ip_base.specs.declared.exit.Reaped.{Reaped}
use Rattle.ip_ground.specs.Told.{Told}
use Rattle.ip_spawn.specs.declared.job.Job.{Job}
use Rattle.ip_spec.specs.declared.met.Child.{Child}
use Rattle.ip_spec.specs.declared.record.Record.{Record}
use Rattle.ip_spec.specs.declared.reply.Reply.{Reply}
use Rattle.ip_spec.specs.Machine.{Phase}
use Rattle.ip_spec.specs.Repository.{Repository}
use Rattle.ip_spec.specs.TreeAt.{Records, present}
use Rattle.ip_image.specs.declared.slot.Slot.{Slot}
use Rattle.ip_image.specs.Collection.{IsKept, found_in}
use Rattle.ip_image.specs.Pending.{HasLive}
use Rattle.ip_image.specs.Slot.{layout_of}
use Rattle.ip_image.proofs.HeadlineLaws.{one_slot}
use Rattle.ip_space.specs.Scanning.{RunsTo, at_the_end, behind}
use Rattle.ip_space.specs.SpaceView.{SpaceView, bare, grown}
use Rattle.ip_keep.specs.Keeping.{starts_between}
use Rattle.ip_keep.specs.Whole.{AreRecords}
use Rattle.ip_check.specs.CheckView.{CheckView}
use Rattle.ip_check.specs.declared.check.Stage.{Stage}
use Rattle.ip_check.specs.Checking.{IsAtStage, IsCheck, IsChecking, looked_by}
use Rattle.ip_check.specs.Going.{IsOpen}
use Rattle.ip_check.proofs.Bounds.{few_looks}
use Rattle.ip_held.specs.declared.collection.Collection.{Collection}
use Rattle.ip_held.specs.declared.held.Held.{Held}
use Rattle.ip_held.specs.Collecting.{phase_of, until, Collects, HasEnded, IsGoing, IsOfChild, IsPhase, IsPhaseOf}
use Rattle.ip_held.specs.Held.{Holds}
use Rattle.ip_held.proofs.Recovering.{held_has}
use Rattle.ip_collects.specs.Finishing.{looked_at, looked_of}
use Rattle.ip_collects.proofs.Until.{standing_until}
use Rattle.ip_session.specs.Asking.{GoesOnBy, IsSlicedIn, looked_in, looks}
use Rattle.ip_app.specs.Judged.{IsCheckedTo}

pub looked_on : (child : Child) (jobs : List Job) (before now : Option Collection) (commit : ℕ) (exit : Option Reaped) → GoesOnBy child jobs before now → phase_of now ≡ Phase.Collecting commit exit → jobs ≡ [] → looked_in before ≤ looked_in now
looked_on child jobs before None commit exit goes runs none = absurd (cc runs)
looked_on child jobs before (Some c) commit exit (inl started) runs none = absurd (cc (started.0, none))
looked_on child jobs None (Some c) commit exit (inr (nothing, same)) runs none = absurd same
looked_on child jobs (Some d) (Some c) commit exit (inr (nothing, same)) runs none = same.3.0

pub looked_same : (child : Child) (jobs : List Job) (before now : Option Collection) (commit : ℕ) (exit : Option Reaped) → GoesOnBy child jobs before now → ((reaped : Reaped) → child ≢ Child.Ended reaped) → phase_of now ≡ Phase.Collecting commit exit → jobs ≡ [] → looked_in now ≡ looked_in before
looked_same child jobs before None commit exit goes unheard runs none = absurd (cc runs)
looked_same child jobs before (Some c) commit exit (inl started) unheard runs none = absurd (cc (started.0, none))
looked_same child jobs None (Some c) commit exit (inr (nothing, same)) unheard runs none = absurd same
looked_same child jobs (Some d) (Some c) commit exit (inr (nothing, same)) unheard runs none = same.3.1 unheard

pub looked_none : (child : Child) (jobs : List Job) (before now : Option Collection) → GoesOnBy child jobs before now → jobs ≢ [] → looked_in now ≡ 0
looked_none child jobs before None goes some = refl
looked_none child jobs before (Some c) (inl started) some = ap looked_of started.1
looked_none child jobs before (Some c) (inr ran) some = absurd (some ran.0)

-- where records lie end to end one begins at each place but the last
starts : (records : ℕ → Option Record) (from to : ℕ) → RunsTo records from to → from < to → IsSome (records from)
starts records from to at_the_end l = absurd (omega (arith, l))
starts records from to (behind found is rest) l = ap is_some is

module _ (told : Told) (store : Held) (r : Repository) (holds : Holds store told r) (d : Collection) (runs : store.collection ≡ Some d) (check : CheckView) (kept : d.check ≡ Some check) where
  abbrev all : Records
  all = holds.stands.standing.records

  abbrev early : Records
  early = until d.job.end all

  collects : Collects told store.slot all r d
  collects = subst (λ (o : Option Collection). IfSome o (Collects told store.slot all r)) runs holds.collects

  phase : IsPhase store.slot r d
  phase = subst (IsPhaseOf store.slot r) runs holds.tables.phase

  going : IsCheck check × (check.job ≡ d.job) × (check.keep.space ≡ bare (grown store.space d.job.end)) × IsSome d.exit
  going = subst (λ (o : Option CheckView). IfSome o (λ k. IsCheck k × (k.job ≡ d.job) × (k.keep.space ≡ bare (grown store.space d.job.end)) × IsSome d.exit)) kept
      (subst (λ (o : Option Collection). IfSome o (IsGoing store.slot.floor store.places store.unswept store.space)) runs holds.tables.going).check

  of_child : (exit : Option Reaped) → IsSome exit → IsOfChild told all d exit → HasEnded told all d
  of_child None none is = absurd (false≢true none)
  of_child (Some reaped) one is = is

  checking : IsChecking early (found_in told.held d.job.attempt) check
  checking = subst (λ (o : Option CheckView). IfSome o (IsChecking early (found_in told.held d.job.attempt))) kept (of_child d.exit going.3 collects.child).checked

  slot_is : holds.stands.standing.slot ≡ store.slot
  slot_is = let A = holds.stands.standing in one_slot A.slot store.slot told.held (record { control = A.control; index = A.index; held = A.held; live = A.live }) (held_has store r told holds)

  border : (d.job.end ≡ holds.stands.standing.slot.end) ⊎ IsSome (present all d.job.end)
  border = elim collects.border [
    | inl is ↦ inl (is ∙ ap (λ (s : Slot). s.end) (sym slot_is))
    | inr there ↦ inr there
  ]

  whole : AreRecords told.held (bare (grown store.space d.job.end)) d.job.horizon early
  whole =
      let job = phase.told in
      let low = ap (λ (s : Slot). s.horizon) slot_is in
      let high = ap (λ (s : Slot). s.end) slot_is in
      standing_until told.held holds.stands.standing (bare store.space) d.job.horizon d.job.end (holds.tables.space.layout ∙ ap layout_of (sym slot_is)) holds.runs
      (let up = job.valid.horizon in let old = job.old_horizon in omega (arith, low, up, old)) job.valid.some (let end = job.end in omega (arith, high, end)) (ap is_some collects.collectable.here) border

  horizon : check.keep.horizon ≡ d.job.horizon
  horizon = going.0.horizon ∙ ap (λ (j : Job). j.horizon) going.1

  end : check.keep.space.layout.end ≡ d.job.end
  end = going.0.end ∙ ap (λ (j : Job). j.end) going.1

  few : (those : Records) → IsKept early d.job.horizon d.job.end those → looked_by check ≤ count_by (starts_between d.job.horizon d.job.end) early + 2 * length those
  few = subst (λ (j : Job). (those : Records) → IsKept early j.horizon j.end those → looked_by check ≤ count_by (starts_between j.horizon j.end) early + 2 * length those) going.1
      (few_looks told.held early (found_in told.held d.job.attempt) check
      (subst (λ (h : ℕ). AreRecords told.held check.keep.space h early) (sym horizon) (subst (λ (s : SpaceView). AreRecords told.held s d.job.horizon early) (sym going.2) whole)) going.0 checking)

  seen : check.keep.seen ≡ count_by (starts_between d.job.horizon check.keep.next) early
  seen = subst (λ (h : ℕ). check.keep.seen ≡ count_by (starts_between h check.keep.next) early) horizon checking.keep.seen

  -- nothing is compared before all was looked at
  by_stage : (stage : Stage) → IsAtStage check stage → check.keep.next < d.job.end → check.compared ≡ 0
  by_stage Stage.Keeping none l = none
  by_stage (Stage.Comparing place) (through, at) l = absurd (let e = through.0 in omega (arith, e, l, end))
  by_stage (Stage.Through found) through l = absurd (let e = through.0 in omega (arith, e, l, end))

  first : check.keep.next < d.job.end → (looked_by check ≡ count_by (starts_between d.job.horizon check.keep.next) early) × IsSome (present early check.keep.next)
  first l =
      let none = ap length (going.0.keep.first (omega (arith, l, end))) in
      let zero = by_stage check.stage going.0.stage l in
      (omega (arith, none, zero, seen), starts (present early) check.keep.next check.keep.space.layout.end checking.keep.border (omega (arith, l, end)))

  through : check.keep.next ≡ d.job.end → count_by (starts_between d.job.horizon d.job.end) early ≤ looked_by check
  through e = let many = subst (λ (n : ℕ). check.keep.seen ≡ count_by (starts_between d.job.horizon n) early) e seen in omega (arith, many)

  pub checked_by : (before left : ℕ) → looked_by check ≡ before + looks → left + check.keep.next ≡ d.job.end → IsCheckedTo early d.job before (looked_by check) left
  checked_by before left more is = record { more = sym more; few = few; next = check.keep.next; rest = is; first = first; all = through }

pub checked_to : (told : Told) (store : Held) (r : Repository) (holds : Holds store told r) (before : Option Collection) (child : Child) (jobs : List Job) (left : ℕ) → GoesOnBy child jobs before store.collection → jobs ≡ [] → IsSlicedIn before store.collection (Reply.Checking left)
    → IsSomeAnd before (λ c. IsCheckedTo (until c.job.end holds.stands.standing.records) c.job (looked_in before) (looked_in store.collection) left)
checked_to told store r holds None child jobs left goes none sliced = absurd sliced
checked_to told store r holds (Some c) child jobs left goes none sliced = by store.collection refl goes sliced
  where
    records : Records
    records = holds.stands.standing.records

    by_check : (d : Collection) → store.collection ≡ Some d → d.job ≡ c.job → (o : Option CheckView) → d.check ≡ o → IsSomeAnd o (λ check. IsOpen check.stage × (looked_by check ≡ looked_at c + looks) × (left + check.keep.next ≡ c.job.end)) → IsCheckedTo (until c.job.end records) c.job (looked_at c) (looked_of o) left
    by_check d runs job None kept is = absurd is
    by_check d runs job (Some check) kept is =
        subst (λ (j : Job). IsCheckedTo (until j.end records) j (looked_at c) (looked_by check) left) job (checked_by told store r holds d runs check kept (looked_at c) left is.1 (is.2 ∙ ap (λ (j : Job). j.end) (sym job)))

    by : (o : Option Collection) → store.collection ≡ o → GoesOnBy child jobs (Some c) o → IsSlicedIn (Some c) o (Reply.Checking left) → IsCheckedTo (until c.job.end records) c.job (looked_at c) (looked_in o) left
    by None runs goes is = absurd is
    by (Some d) runs (inl started) is = absurd (cc (started.0, none))
    by (Some d) runs (inr (nothing, same)) is = by_check d runs same.1 d.check refl is

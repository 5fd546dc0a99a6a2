-- What was cleared away stays so over the end of a collection.
--     finish_clear      behind a look or a finish
use Rattle.std.proofs.Common.{◌≡◌, ◌⊎◌, inl, inr, ℕ, Some, None, Option, refl, sym, ap, subst}
use Rattle.std.specs.Prelude.{Result, Ok, Err}
use Rattle.ip_base.specs.declared.exit.Reaped.{Reaped}
use Rattle.ip_ground.specs.Told.{Told, NoFile}
use Rattle.ip_spec.specs.declared.met.Child.{Child}
use Rattle.ip_spec.specs.declared.met.Met.{Met}
use Rattle.ip_spec.specs.Repository.{Repository}
use Rattle.ip_image.specs.declared.slot.Slot.{Slot}
use Rattle.ip_held.specs.declared.collection.Collection.{Collection}
use Rattle.ip_collects.specs.declared.finishing.FinishFault.{FinishFault}
use Rattle.ip_collects.specs.declared.finishing.Looked.{Looked}
use Rattle.ip_held.specs.declared.held.Held.{Held}
use Rattle.ip_held.specs.Clear.{IsCleared, KeepsClear, ClearsAll}
use Rattle.ip_collects.specs.Ending.{Goes}
use Rattle.ip_collects.specs.Finishing.{FinishesAs, HasAnswer, IsQuiet, IsSweptBehind, MayTouch, SlotBy, unswept_by}
use Rattle.ip_held.specs.Held.{Holds}
use Rattle.ip_held.specs.Sweeping.{ChangesBeside, IsSwept}
use Rattle.ip_held.proofs.Clearing.{spares_swept, spares_both, stays_clear}
use Rattle.ip_collects.proofs.ClearBegun.{not_swept_yet, same_swept, next_swept}

module _ (store now : Held) (r : Repository) (c : Collection) (a b : Told) (held : Holds store a r) (runs : store.collection ≡ Some c) where
  module _ (after : Repository) (left : ℕ) where
    abbrev Ends : Result Looked FinishFault → Type 0
    Ends result = FinishesAs r after c result store.unswept left now a b → SlotBy result c store now.slot → now.unswept ≡ unswept_by result left now.slot store.unswept → HasAnswer result
        → KeepsClear store now a b × ClearsAll (IsSweptBehind result) left store now a b

    nothing_swept : (swept : Type 0) → ¬ swept → now.slot ≡ store.slot → now.unswept ≡ store.unswept → ChangesBeside c.job.attempt NoFile a b → KeepsClear store now a b × ClearsAll swept left store now a b
    nothing_swept swept not slot same changes = (stays_clear store now c.job.attempt a b slot same (not_swept_yet store now r c a b held runs) changes, λ behind. absurd (not behind))

    ends_clear : (result : Result Looked FinishFault) → Ends result
    ends_clear (Ok Looked.Running) does slot unswept has = nothing_swept ⊥ (λ no. no) slot unswept does.only.beside
    ends_clear (Ok (Looked.Checking bytes)) does slot unswept has = nothing_swept ⊥ (λ no. no) slot unswept does.only.beside
    ends_clear (Ok (Looked.Collected collected)) does slot unswept has =
        let (length, rows, is) = slot in
        next_swept store now r c a b held runs (MayTouch (Ok (Looked.Collected collected)) now store.unswept) (spares_both now.slot store.unswept) does.only.beside (does.holds tt).tables.slot left (does.gone tt)
        (Unit {0}) (ap (λ (t : Slot). t.first_chunk) is, ap (λ (t : Slot). t.first_attempt) is) unswept
    ends_clear (Err FinishFault.Idle) does slot unswept has = nothing_swept ⊥ (λ no. no) slot unswept does.only.beside
    ends_clear (Err FinishFault.Wait) does slot unswept has = nothing_swept ⊥ (λ no. no) slot unswept does.only.beside
    ends_clear (Err (FinishFault.Rejected rejection)) does slot unswept has =
        same_swept store now r c a b held runs (IsSwept now.slot store.unswept) (spares_swept now.slot store.unswept) does.only.beside (does.holds tt).tables.slot left (does.gone tt) (Unit {0}) slot unswept
    ends_clear (Err (FinishFault.Limit limit)) does slot unswept has = nothing_swept ⊥ (λ no. no) slot unswept does.only.beside
    ends_clear (Err FinishFault.Memory) does slot unswept has = nothing_swept ⊥ (λ no. no) slot unswept does.only.beside
    ends_clear (Err FinishFault.Ground) does slot unswept has = absurd has
    ends_clear (Err (FinishFault.Damaged at)) does slot unswept has = absurd has

quiet_sweeps : (result : Result Looked FinishFault) → IsQuiet result → ¬ IsSweptBehind result
quiet_sweeps (Ok Looked.Running) quiet behind = behind
quiet_sweeps (Ok (Looked.Checking bytes)) quiet behind = behind
quiet_sweeps (Ok (Looked.Collected collected)) quiet behind = quiet
quiet_sweeps (Err FinishFault.Idle) quiet behind = behind
quiet_sweeps (Err FinishFault.Wait) quiet behind = behind
quiet_sweeps (Err (FinishFault.Rejected rejection)) quiet behind = quiet
quiet_sweeps (Err (FinishFault.Limit limit)) quiet behind = behind
quiet_sweeps (Err FinishFault.Memory) quiet behind = behind
quiet_sweeps (Err FinishFault.Ground) quiet behind = behind
quiet_sweeps (Err (FinishFault.Damaged at)) quiet behind = behind

-- a look, or a finish
module _ (child : Child) (most : ℕ) (result : Result Looked FinishFault) (met : Met) (store now : Held) (goes : Goes child most result met store now) (r : Repository) (a b : Told) (held : Holds store a r) (still : IsQuiet result → b ≡ a)
    (loud : (c : Collection) (reaped : Reaped) → store.collection ≡ Some c → child ≡ Child.Ended reaped → (after : Repository) × FinishesAs r after c result store.unswept met.left now a b) (has : HasAnswer result) where
  abbrev Both : Type 0
  Both = KeepsClear store now a b × ClearsAll (IsSweptBehind result) met.left store now a b

  quiet_clear : IsQuiet result → Both
  quiet_clear quiet = (
    λ clear. subst (λ (s : Held). IsCleared s b) (sym (goes.quiet quiet)) (subst (λ (t : Told). IsCleared store t) (sym (still quiet)) clear),
    λ behind. absurd (quiet_sweeps result quiet behind),
  )

  loud_clear : (reaped : Reaped) → child ≡ Child.Ended reaped → (o : Option Collection) → store.collection ≡ o → Both
  loud_clear reaped heard None none = quiet_clear (subst IsQuiet (sym (goes.runs.0 none)) tt)
  loud_clear reaped heard (Some c) runs = (let does = loud c reaped runs heard in ends_clear store now r c a b held runs does.0 met.left result does.1 (goes.slot c runs) goes.unswept has)

  by_end : IsQuiet result ⊎ ((reaped : Reaped) × (child ≡ Child.Ended reaped)) → Both
  by_end (inl quiet) = quiet_clear quiet
  by_end (inr ended) = loud_clear ended.0 ended.1 store.collection refl

  pub finish_clear : Both
  finish_clear = by_end goes.ended

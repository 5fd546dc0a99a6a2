-- What was cleared away stays so over the calls of a collection.
--     begun_carries, begun_clear      behind a step that draws an attempt.      same_swept, next_swept      behind a sweep, by the slot that was there, or by the next one.      cancel_clear      behind a collection that is cancelled
use Rattle.std.proofs.Common.{◌≡◌, ℕ, ◌≤◌, Some, Option, refl, sym, ◌∙◌, ap, subst}
use Rattle.std.specs.Prelude.{◌==◌, if◌then◌else◌, Result, Ok, IfSome, None}
use Rattle.ip_ground.specs.declared.names.FileName.{FileName}
use Rattle.ip_ground.specs.Told.{Told, lending, IsForeign}
use Rattle.ip_spec.specs.Repository.{Repository}
use Rattle.ip_image.specs.declared.slot.Slot.{Slot}
use Rattle.ip_image.specs.Slot.{IsSlot}
use Rattle.ip_collects.specs.declared.cancelling.Cancelled.TheVariants as Cancelled
use Rattle.ip_held.specs.declared.collection.Collection.{Collection}
use Rattle.ip_held.specs.declared.collection.Unswept.{Unswept}
use Rattle.ip_collects.specs.declared.starting.CollectFault.{CollectFault}
use Rattle.ip_held.specs.declared.held.Held.{Held}
use Rattle.ip_collects.specs.Cancelling.{Cancels}
use Rattle.ip_held.specs.Clear.{IsClear, IsClearTo, IsCleared, KeepsClear, ClearsAll}
use Rattle.ip_held.specs.Collecting.{IsGoing, carried}
use Rattle.ip_publish.specs.Publishing.{MayChange}
use Rattle.ip_collects.specs.Starting.{StartsCollection, begun_slot}
use Rattle.ip_held.specs.Held.{Holds}
use Rattle.ip_held.specs.Sweeping.{ChangesBeside, IsSwept, swept_to}
use Rattle.ip_held.proofs.Apart.{beside_for}
use Rattle.ip_held.proofs.Clearing.{SparesBelow, spares_swept, all_clear, clear_by, at_least, IsCarrying, still_clear, carried_clear}

pub begun_carries : (store : Held) (length : ℕ) (t : Slot) → t ≡ begun_slot (carried store) length → IsCarrying store.unswept t
begun_carries store length t is = (ap (λ (s : Slot). s.first_chunk) is, ap (λ (s : Slot). s.first_attempt) is)

module _ (store : Held) (r : Repository) (a b : Told) (held : Holds store a r) (t : Slot) (v : Unswept) (carries : IsCarrying store.unswept t) (same : v ≡ store.unswept) where
  -- the attempt that came next is not swept
  pub begun_clear : {A : Type 0} (result : Result A CollectFault) (now : Held) → StartsCollection r store.slot.next_attempt result now a b → IsCleared store a → IsClearTo t v b.held (lending b)
  begun_clear result now starts = carried_clear store r a b held t v carries same store.slot.next_attempt held.tables.unswept.high (beside_for store.slot.next_attempt (MayChange a.held) a b starts.only)

module _ (store now : Held) (r : Repository) (c : Collection) (a b : Told) (held : Holds store a r) (runs : store.collection ≡ Some c) where
  pub not_swept_yet : store.unswept.attempt ≤ c.job.attempt
  not_swept_yet = (subst (λ (o : Option Collection). IfSome o (IsGoing store.slot.floor store.places store.unswept store.space)) runs held.tables.going).drawn

  -- a sweep of what its slot has left so many
  module _ (these : FileName → Type 0) (spares : SparesBelow store.unswept these) (changes : ChangesBeside c.job.attempt these a b) (of : IsSlot now.slot) (left : ℕ)
      (gone : left ≡ 0 → (file : FileName) → IsSwept now.slot store.unswept file → ¬ IsForeign b file → b.held file ≡ None) where
    module _ (clear : IsCleared store a) (chunk : now.slot.first_chunk ≤ store.unswept.chunk) (attempt : now.slot.first_attempt ≤ store.unswept.attempt) where
      behind_all : left ≡ 0 → IsClear now.slot b.held (lending b)
      behind_all zero = all_clear store.slot now.slot store.unswept c.job.attempt these a b clear spares not_swept_yet changes chunk attempt (gone zero)

      behind_clear : now.unswept ≡ (if left == 0 then swept_to now.slot else store.unswept) → IsCleared now b
      behind_clear is =
          subst (λ (v : Unswept). IsClearTo now.slot v b.held (lending b)) (sym is)
          (clear_by now.slot of store.unswept left b.held (lending b) (still_clear store.slot now.slot store.unswept c.job.attempt these a b clear spares not_swept_yet changes chunk attempt) behind_all)

    -- by the slot that was there, or by that of the swap
    pub same_swept : (swept : Type 0) → now.slot ≡ store.slot → now.unswept ≡ (if left == 0 then swept_to now.slot else store.unswept) → KeepsClear store now a b × ClearsAll swept left store now a b
    same_swept swept slot unswept = (λ clear. behind_clear clear (chunk clear) (attempt clear) unswept, λ behind zero clear. behind_all clear (chunk clear) (attempt clear) zero)
      where
        chunk : IsCleared store a → now.slot.first_chunk ≤ store.unswept.chunk
        chunk clear = subst (λ (t : Slot). t.first_chunk ≤ store.unswept.chunk) (sym slot) clear.chunk

        attempt : IsCleared store a → now.slot.first_attempt ≤ store.unswept.attempt
        attempt clear = subst (λ (t : Slot). t.first_attempt ≤ store.unswept.attempt) (sym slot) clear.attempt

    pub next_swept : (swept : Type 0) → IsCarrying store.unswept now.slot → now.unswept ≡ (if left == 0 then swept_to now.slot else store.unswept) → KeepsClear store now a b × ClearsAll swept left store now a b
    next_swept swept carries unswept = (λ clear. behind_clear clear chunk attempt unswept, λ behind zero clear. behind_all clear chunk attempt zero)
      where
        chunk : now.slot.first_chunk ≤ store.unswept.chunk
        chunk = at_least now.slot.first_chunk store.unswept.chunk carries.0

        attempt : now.slot.first_attempt ≤ store.unswept.attempt
        attempt = at_least now.slot.first_attempt store.unswept.attempt carries.1

  pub cancel_clear : (swept : Type 0) (left : ℕ) → Cancels r c (Ok Cancelled.Done) store.unswept left now a b → now.slot ≡ store.slot → now.unswept ≡ (if left == 0 then swept_to store.slot else store.unswept) → KeepsClear store now a b × ClearsAll swept left store now a b
  cancel_clear swept left cancels slot unswept =
      same_swept (IsSwept now.slot store.unswept) (spares_swept now.slot store.unswept) (beside_for c.job.attempt (IsSwept now.slot store.unswept) a b cancels.only) (cancels.holds refl).tables.slot left (cancels.gone refl)
      swept slot (unswept ∙ ap (λ (t : Slot). if left == 0 then swept_to t else store.unswept) (sym slot))

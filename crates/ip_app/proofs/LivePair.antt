-- Whether a child may change the live pair.
--     owns_pending      where nothing is pending none may
--     live_before, live_on, owns_on      while no file changes, though it may be synced, the same slot is live, and if none may, none may still
--     live_in      in an image that stands some slot is live
--     known_or_not      whether the ground tells its content and none may, where some slot is live if that is so.      with_flag      and a flag is set too
use Rattle.std.proofs.Common.{◌≡◌, ◌≢◌, ◌⊎◌, inl, inr, ℕ, refl, sym, ap, subst, ◌∙◌, Bool, true, false, Option, Some, None, IsTrue, take, drop, arith}
use Rattle.std.specs.Int.{w64, from_le_bytes}
use Rattle.std.proofs.lemmas.Nat.{from_le_bytes-to_le_bytes_8}
use Rattle.ip_ground.specs.declared.names.FileName.{FileName}
use Rattle.ip_ground.specs.declared.names.FileName.TheVariants.{Control, Mapping, Prefix}
use Rattle.ip_ground.specs.Contents.{Image, Content, bytes_of}
use Rattle.ip_ground.specs.Custody as custody
use Rattle.ip_ground.specs.Custody.{Custody, own, lent, settled}
use Rattle.ip_ground.specs.Told.{Told, lending, SyncsAtMost}
use Rattle.ip_spec.specs.Path.{Bytes}
use Rattle.ip_spec.specs.Repository.{Repository}
use Rattle.ip_image.specs.declared.slot.Slot.{Slot}
use Rattle.ip_image.specs.Slot.{IsSlot, slot_bytes, slot_fields, slot_at, live_index}
use Rattle.ip_image.specs.Pending.{HasLive, NothingPending}
use Rattle.ip_image.specs.Standing.{StandsFor}
use Rattle.ip_image.proofs.OneRepository.{zero_or_not}
use Rattle.ip_held.specs.Held.{OwnsPair, OwnsLive}
use Rattle.ip_held.proofs.Listed.{pair_stays}

-- what is not loose is no child's
not_foreign : (c : Custody) (file : FileName) → ¬ custody.IsLoose c file → ¬ custody.IsForeign c
not_foreign own file firm = λ none. none
not_foreign lent file firm = λ here. firm here
not_foreign (settled pair synced) file firm = λ none. none

pub owns_pending : (told : Told) → NothingPending told → OwnsLive told
owns_pending told pending = λ s has live.
    let pair = pending.pair s has live in
    record { mapping = not_foreign (lending told s.live) (Mapping s.live) pair.firm_mapping; prefix = not_foreign (lending told s.live) (Prefix s.live) pair.firm_prefix }

module _ (a b : Told) (files : (file : FileName) → SyncsAtMost a b file) where
  pub live_before : (s : Slot) → HasLive s b.held → HasLive s a.held
  live_before s has = record { control = has.control; index = has.index; held = sym ((files Control).held (λ foreign. foreign)) ∙ has.held; live = has.live }

  pub live_on : (s : Slot) → HasLive s a.held → HasLive s b.held
  live_on s has = record { control = has.control; index = has.index; held = (files Control).held (λ foreign. foreign) ∙ has.held; live = has.live }

  pub owns_on : OwnsLive a → OwnsLive b
  owns_on owns = λ s has. pair_stays s a b (λ file. (files file).own) (owns s (live_before s has))

-- the number of the live attempt stands in the live slot, whether the slot has the right form or not
attempt_at : Bytes → ℕ
attempt_at bytes = from_le_bytes w64 (take 8 (drop 64 bytes))

attempt_there : (s : Slot) → IsSlot s → attempt_at (slot_bytes s) ≡ s.live
unfolding attempt_at slot_fields
attempt_there s is = from_le_bytes-to_le_bytes_8 s.live (let low = is.live in let high = is.next_attempt in omega (arith, low, high))

attempt_by : Option ℕ → Bytes → ℕ
attempt_by None control = 0
attempt_by (Some index) control = attempt_at (slot_at control index)

attempt_in : Content → ℕ
attempt_in content = attempt_by (live_index (bytes_of content)) (bytes_of content)

attempt_is : (image : Image) (s : Slot) → HasLive s image → attempt_in (image Control) ≡ s.live
unfolding attempt_in attempt_by
attempt_is image s has =
    ap attempt_in has.held ∙ (ap (λ (index : Option ℕ). attempt_by index has.control) has.live.index ∙ (ap attempt_at has.live.bytes ∙ attempt_there s has.live.fields))

lent_or_not : (c : Custody) → custody.IsForeign c ⊎ (¬ custody.IsForeign c)
lent_or_not own = inr (λ none. none)
lent_or_not lent = inl tt
lent_or_not (settled pair synced) = inr (λ none. none)

owns_or_not : (told : Told) → (OwnsLive told → (s : Slot) × HasLive s told.held) → OwnsLive told ⊎ (¬ OwnsLive told)
owns_or_not told some_live = by (lent_or_not (lending told attempt)) (zero_or_not attempt)
  where
    attempt : ℕ
    attempt = attempt_in (told.held Control)

    owned : (s : Slot) → attempt ≡ s.live → ¬ custody.IsForeign (lending told attempt) → OwnsPair told s
    owned s same ours = λ live.
        let here : ¬ custody.IsForeign (lending told s.live) = subst (λ (n : ℕ). ¬ custody.IsForeign (lending told n)) same ours in
        record { mapping = here; prefix = here }

    not_owned : attempt ≢ 0 → custody.IsForeign (lending told attempt) → ¬ OwnsLive told
    not_owned some theirs owns =
        let live = some_live owns in
        let same : attempt ≡ (live.0).live = attempt_is told.held live.0 live.1 in
        (owns live.0 live.1 (λ none. some (same ∙ none))).mapping (subst (λ (n : ℕ). custody.IsForeign (lending told n)) same theirs)

    by : (custody.IsForeign (lending told attempt) ⊎ (¬ custody.IsForeign (lending told attempt))) → ((attempt ≡ 0) ⊎ (attempt ≢ 0)) → OwnsLive told ⊎ (¬ OwnsLive told)
    by (inr ours) some = inl (λ s has. owned s (attempt_is told.held s has) ours)
    by (inl theirs) (inl none) = inl (λ s has live. absurd (live (sym (attempt_is told.held s has) ∙ none)))
    by (inl theirs) (inr some) = inr (not_owned some theirs)

pub live_in : (image : Image) (r : Repository) → StandsFor image r → (s : Slot) × HasLive s image
live_in image r stands = let A = stands.standing in (A.slot, record { control = A.control; index = A.index; held = A.held; live = A.live })

pub known_or_not : (tells : Bool) (told : Told) → (IsTrue tells → OwnsLive told → (s : Slot) × HasLive s told.held) → (known : Bool) × (IsTrue tells × OwnsLive told → IsTrue known) × (IsTrue known → IsTrue tells × OwnsLive told)
known_or_not true told some_live = elim (owns_or_not told (some_live refl)) [
  | inl owns ↦ (true, λ both. refl, λ is. (refl, owns))
  | inr none ↦ (false, λ both. absurd (none both.1), λ is. absurd (cc is))
]
known_or_not false told some_live = (false, λ both. both.0, λ is. absurd (cc is))

pub with_flag : (A : Type 0) (flag : Bool) → (known : Bool) × (A → IsTrue known) × (IsTrue known → A) → (known : Bool) × (A × IsTrue flag → IsTrue known) × (IsTrue known → A × IsTrue flag)
with_flag A true known = (known.0, λ both. known.1 both.0, λ is. (known.2 is, refl))
with_flag A false known = (false, λ both. both.1, λ is. absurd (cc is))

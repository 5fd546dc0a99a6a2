-- Whether the control file names the job's attempt as the live one, over a call that only reads it.
--     served_live, served_none, served_form      where it is named, the reader finds the attempt, and neither nothing nor a wrong form
--     served_by      what the reader finds is named.      served_on      it is so while no file changes
use Rattle.std.proofs.Common.{◌≡◌, ℕ, [], refl, sym, ◌∙◌, ap, subst}
use Rattle.std.specs.Prelude.{Some, None}
use Rattle.ip_ground.specs.declared.names.FileName.TheVariants.{Control}
use Rattle.ip_ground.specs.Contents.{Content, Image, bytes_of}
use Rattle.ip_ground.specs.Told.{Told, NoFile, ChangesOnly}
use Rattle.ip_image.specs.declared.slot.Slot.{Slot}
use Rattle.ip_image.specs.Slot.{live_index, IsLive}
use Rattle.ip_image.specs.Pending.{HasLive}
use Rattle.ip_image.proofs.HeadlineLaws.{one_slot}
use Rattle.ip_worker.specs.Working.{IsServed}

-- in no bytes no slot is live
none_live : (index : ℕ) → live_index [] ≡ Some index → ⊥
unfolding live_index
none_live index e = absurd (cc e)

has_live : (image : Image) (index : ℕ) (s : Slot) → IsLive (bytes_of (image Control)) index s → HasLive s image
has_live image index s live = by (image Control) refl
  where
    by : (content : Content) → image Control ≡ content → HasLive s image
    by (Some bytes) e = record { control = bytes; index = index; held = e; live = subst (λ (c : Content). IsLive (bytes_of c) index s) e live }
    by None e = absurd (none_live index (subst (λ (c : Content). live_index (bytes_of c) ≡ Some index) e live.index))

-- by the bytes of the file
live_in : (image : Image) (s : Slot) → (has : HasLive s image) → IsLive (bytes_of (image Control)) has.index s
live_in image s has = subst (λ (c : Content). IsLive (bytes_of c) has.index s) (sym has.held) has.live

module _ (a b : Told) (only : ChangesOnly NoFile a b) where
  same_control : b.held Control ≡ a.held Control
  same_control = (only.others Control (λ none. none)).held (λ foreign. foreign)

  has_on : (s : Slot) → HasLive s a.held → HasLive s b.held
  has_on s has = record { control = has.control; index = has.index; held = same_control ∙ has.held; live = has.live }

  has_back : (s : Slot) → HasLive s b.held → HasLive s a.held
  has_back s has = record { control = has.control; index = has.index; held = sym same_control ∙ has.held; live = has.live }

  module _ (attempt : ℕ) where
    pub served_back : IsServed b.held attempt → IsServed a.held attempt
    served_back is = record { slot = is.slot; live = has_back is.slot is.live; named = is.named }

    pub served_on : IsServed a.held attempt → IsServed b.held attempt
    served_on is = record { slot = is.slot; live = has_on is.slot is.live; named = is.named }

    pub served_by : (index : ℕ) (s : Slot) → IsLive (bytes_of (b.held Control)) index s → s.live ≡ attempt → IsServed a.held attempt
    served_by index s live named = record { slot = s; live = has_back s (has_live b.held index s live); named = named }

    module _ (is : IsServed a.held attempt) where
      now : HasLive is.slot b.held
      now = has_on is.slot is.live

      there : IsLive (bytes_of (b.held Control)) now.index is.slot
      there = live_in b.held is.slot now

      pub served_live : (index : ℕ) (s : Slot) → IsLive (bytes_of (b.held Control)) index s → s.live ≡ attempt
      served_live index s live = ap (λ (t : Slot). t.live) (one_slot s is.slot b.held (has_live b.held index s live) now) ∙ is.named

      pub served_none : live_index (bytes_of (b.held Control)) ≡ None → ⊥
      served_none none = let some : None ≡ Some now.index = sym none ∙ there.index in absurd (cc some)

      pub served_form : (index : ℕ) → live_index (bytes_of (b.held Control)) ≡ Some index → ((s : Slot) → ¬ IsLive (bytes_of (b.held Control)) index s) → ⊥
      served_form index at never =
          let some : Some now.index ≡ Some index = sym there.index ∙ at in
          let same : now.index ≡ index = cc some in
          never is.slot (subst (λ (i : ℕ). IsLive (bytes_of (b.held Control)) i is.slot) same there)

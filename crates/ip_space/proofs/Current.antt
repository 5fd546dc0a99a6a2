-- What was kept stays current.
--     same_below      where an image has the bytes of a slot's space as another has, so it has below the end.      current_grown      so what was kept stands, up to a later end too
use Rattle.std.proofs.Common.{◌≡◌, ℕ, zero, suc, ◌<◌, ◌≤◌, List, [], Option, inl, inr, refl, sym, ◌∙◌, ap, subst}
use Rattle.std.proofs.lemmas.Bool.{cases_lt}
use Rattle.std.specs.Prelude.{option_and_then}
use Rattle.ip_ground.specs.Contents.{Content, Image}
use Rattle.ip_ground.specs.declared.names.FileName.TheVariants.{Prefix}
use Rattle.ip_image.specs.declared.layout.Layout.{Layout}
use Rattle.ip_image.specs.declared.run.Run.{Run}
use Rattle.ip_image.specs.declared.slot.Slot.{Slot}
use Rattle.ip_image.specs.Slot.{layout_of}
use Rattle.ip_image.specs.Virtual.{virtual_byte, byte_of, locate}
use Rattle.ip_image.specs.Pending.{SameSpace}
use Rattle.ip_image.proofs.Stretches.{above_byte, below_byte}
use Rattle.ip_space.specs.SpaceView.{SpaceView, AreCurrent, SameBelow, grown, records_in}
use Rattle.ip_space.proofs.Laws.{records_kept}

module _ (s : Slot) (image other : Image) (same : SameSpace s image other) where
  prefix_same : (runs : List Run) → (s.live ≡ 0 → runs ≡ []) → (at : ℕ)
      → option_and_then (λ place. byte_of (other (Prefix s.live)) place) (locate runs at) ≡ option_and_then (λ place. byte_of (image (Prefix s.live)) place) (locate runs at)
  unfolding locate
  prefix_same runs none at = by (s.live) refl
    where
      bytes : Content → List Run → Option ℕ
      bytes content runs = option_and_then (λ place. byte_of content place) (locate runs at)

      by : (n : ℕ) → s.live ≡ n → bytes (other (Prefix s.live)) runs ≡ bytes (image (Prefix s.live)) runs
      by zero e = ap (bytes (other (Prefix s.live))) (none e) ∙ sym (ap (bytes (image (Prefix s.live))) (none e))
      by (suc n) e = ap (λ (x : Content). bytes x runs) (same.prefix (λ z. absurd (cc (e, z))))

  byte_same : (runs : List Run) → (s.live ≡ 0 → runs ≡ []) → (at : ℕ) → at < s.end → virtual_byte other (layout_of s) runs at ≡ virtual_byte image (layout_of s) runs at
  byte_same runs none at below = elim (cases_lt at s.horizon) [
    | inl low ↦ below_byte other (layout_of s) runs at low ∙ prefix_same runs none at ∙ sym (below_byte image (layout_of s) runs at low)
    | inr high ↦ above_byte other (layout_of s) runs at high ∙ same.chunks at high below ∙ sym (above_byte image (layout_of s) runs at high)
  ]

pub same_below : (s : Slot) (image other : Image) (space : SpaceView) → space.layout ≡ layout_of s → (s.live ≡ 0 → space.runs ≡ []) → SameSpace s image other → SameBelow space image other
same_below s image other space layout none same at below =
    ap (λ (l : Layout). virtual_byte other l space.runs at) layout
    ∙ byte_same s image other same space.runs none at (subst (λ (l : Layout). at < l.end) layout below)
    ∙ sym (ap (λ (l : Layout). virtual_byte image l space.runs at) layout)

pub current_grown : (old new : Image) (space : SpaceView) (end : ℕ) → space.layout.end ≤ end → SameBelow space old new → AreCurrent (records_in old space) space.kept → AreCurrent (records_in new (grown space end)) space.kept
current_grown old new space end further same current at r there = records_kept old new space end further same at r (current at r there)

-- Images that a crash may leave, by the records that they stand by.
--     by_same      an image with the slot and the bytes of another
--     swapped_none      no moment passed.      swapped_still      no swap was begun.      swapped_front, swapped_behind      a span before and behind the swap
use Rattle.std.proofs.Common.{inl, inr, ℕ, ◌<◌, ◌≤◌, refl, ap, arith}
use Rattle.std.proofs.lemmas.Bool.{cases_lt}
use Rattle.ip_ground.specs.Contents.{Image}
use Rattle.ip_ground.specs.Told.{Told, IsPossible, KeepsPast}
use Rattle.ip_spec.specs.Repository.{Repository}
use Rattle.ip_spec.specs.TreeAt.{Records}
use Rattle.ip_image.specs.declared.slot.Slot.{Slot}
use Rattle.ip_image.specs.Pending.{HasLive, SameSpace}
use Rattle.ip_image.specs.Standing.{StandsFor}
use Rattle.ip_image.proofs.AppendingLaws.{stands_still}
use Rattle.ip_image.proofs.HeadlineLaws.{same_generation_itself}
use Rattle.ip_held.specs.declared.collection.Collection.{Collection}
use Rattle.ip_held.specs.StandsBy.{LeavesStill, LeavesSwapped, StandsBy, StandsSwapped}
use Rattle.ip_held.proofs.Listed.{list_by, same_slot}

-- whichever proof says that it stands
pub by_same : (image other : Image) (s : Slot) (r : Repository) (stands : StandsFor image r) → HasLive s image → HasLive s other → SameSpace s image other → StandsBy stands.standing.records s.horizon other
by_same image other s r stands has live same =
    let there : StandsFor other r = stands_still image other r s s stands has live (same_generation_itself s) refl refl same in
    record {
      repository = r;
      stands = there;
      list = list_by image other s stands.standing has live same there.standing;
      low = ap (λ (x : Slot). x.horizon) (same_slot other s live there.standing);
    }

-- ---- spans

-- what a crash may leave of an earlier moment does not grow
left_before : (a b : Told) → KeepsPast a b → (t : ℕ) → t ≤ a.moment → (image : Image) → IsPossible b t image → IsPossible a t image
left_before a b goes t early image possible file = goes.left t file (image file) early (possible file)

module _ (records : Records) (c : Collection) where
  pub swapped_still : (a b : Told) → LeavesStill records a b → LeavesSwapped records c a b
  swapped_still a b still s has t after le image possible = inl (still s has t after le image possible)

  pub swapped_none : (a : Told) → LeavesSwapped records c a a
  swapped_none a s has t after le image possible = absurd (omega (arith, after, le))

  module _ (a b d : Told) (goes : KeepsPast b d) where
    pub swapped_front : ((s : Slot) → HasLive s a.held → HasLive s b.held) → LeavesStill records a b → LeavesSwapped records c b d → LeavesSwapped records c a d
    swapped_front live still is s has t after le image possible = elim (cases_lt b.moment t) [
      | inl late ↦ is s (live s has) t late le image possible
      | inr early ↦ inl (still s has t after early image (left_before b d goes t early image possible))
    ]

    pub swapped_behind : LeavesSwapped records c a b → ((t : ℕ) → b.moment < t → t ≤ d.moment → (image : Image) → IsPossible d t image → StandsSwapped records c image) → LeavesSwapped records c a d
    swapped_behind is swapped s has t after le image possible = elim (cases_lt b.moment t) [
      | inl late ↦ inr (swapped t late le image possible)
      | inr early ↦ is s has t after early image (left_before b d goes t early image possible)
    ]

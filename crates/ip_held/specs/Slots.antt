-- Which slot is live in what a crash may leave.
--     IsNext s s'      a durable step leads from the one to the other: the sequence goes on by one, and one attempt is drawn at most
--     IsSlotFrom s image      the slot is live there, or one that comes next
--     KeepsSlots old new      so it is of the slot that was live, at every moment since, in each image that a crash may leave
use Rattle.std.specs.Prelude.{◌≡◌, ◌⊎◌, ℕ, ◌+◌, ◌<◌, ◌≤◌}
use Rattle.ip_ground.specs.Contents.{Image}
use Rattle.ip_ground.specs.Told.{Told, IsPossible}
use Rattle.ip_image.specs.declared.slot.Slot.{Slot}
use Rattle.ip_image.specs.Pending.{HasLive}

pub record IsNext (s s' : Slot) : Type 0 where
  pub sequence : s'.sequence ≡ s.sequence + 1
  pub drawn : s.next_attempt ≤ s'.next_attempt
  pub one : s'.next_attempt ≤ s.next_attempt + 1

abbrev pub IsSlotFrom : Slot → Image → Type 0
IsSlotFrom s image = HasLive s image ⊎ ((s' : Slot) × HasLive s' image × IsNext s s')

abbrev pub KeepsSlots : Told → Told → Type 0
KeepsSlots old new = (s : Slot) → HasLive s old.held → (t : ℕ) → old.moment < t → t ≤ new.moment → (image : Image) → IsPossible new t image → IsSlotFrom s image

-- By which records an image stands that a crash may leave.
--     StandsBy records horizon image      by these, with this horizon.      StandsSwapped records c image      by what an accepted collection leaves of these
--     LeavesStill records old new      at every moment since, each image that a crash may leave stands by these, with the horizon that was live
--     LeavesSwapped records c old new      by these, or behind the swap of a collection
use Rattle.std.specs.Prelude.{◌≡◌, ◌⊎◌, ℕ, ◌<◌, ◌≤◌}
use Rattle.ip_ground.specs.Contents.{Image}
use Rattle.ip_ground.specs.Told.{Told, IsPossible}
use Rattle.ip_spec.specs.Repository.{Repository}
use Rattle.ip_spec.specs.TreeAt.{Records}
use Rattle.ip_image.specs.declared.slot.Slot.{Slot}
use Rattle.ip_image.specs.Collected.{remaining}
use Rattle.ip_image.specs.Collection.{IsKept}
use Rattle.ip_image.specs.Pending.{HasLive}
use Rattle.ip_image.specs.Standing.{StandsFor}
use Rattle.ip_held.specs.declared.collection.Collection.{Collection}

pub record StandsBy (records : Records) (horizon : ℕ) (image : Image) : Type 0 where
  pub repository : Repository
  pub stands : StandsFor image repository
  pub list : stands.standing.records ≡ records
  pub low : stands.standing.slot.horizon ≡ horizon

-- what is kept, and what came from the commit on
abbrev pub StandsSwapped : Records → Collection → Image → Type 0
StandsSwapped records c image = (kept : Records) × IsKept records c.job.horizon c.job.end kept × StandsBy (remaining c.job.horizon kept records) c.job.horizon image

abbrev pub LeavesStill : Records → Told → Told → Type 0
LeavesStill records old new = (s : Slot) → HasLive s old.held → (t : ℕ) → old.moment < t → t ≤ new.moment → (image : Image) → IsPossible new t image → StandsBy records s.horizon image

abbrev pub LeavesSwapped : Records → Collection → Told → Told → Type 0
LeavesSwapped records c old new = (s : Slot) → HasLive s old.held → (t : ℕ) → old.moment < t → t ≤ new.moment → (image : Image) → IsPossible new t image → StandsBy records s.horizon image ⊎ StandsSwapped records c image

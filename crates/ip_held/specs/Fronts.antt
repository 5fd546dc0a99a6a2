-- What a crash may leave of a call, by the core of collections.
--     IsCoreIn image core      the core of a store that is opened over an image
--     ComesOf core events image      it comes of a core by a front of these events, and a stop
--     LeavesFront store records events old new      so it is of each image that a crash may leave, at every moment
use Rattle.std.specs.Prelude.{◌≡◌, ℕ, ◌<◌, ◌≤◌, List, [], ◌∷◌, ◌++◌}
use Rattle.ip_ground.specs.Contents.{Image}
use Rattle.ip_ground.specs.Told.{Told, IsPossible}
use Rattle.ip_spec.specs.Core.{Core, CorePhase, CoreRun, core_of}
use Rattle.ip_spec.specs.Repository.{Repository}
use Rattle.ip_spec.specs.TreeAt.{Records}
use Rattle.ip_spec.specs.declared.event.Event.{Event}
use Rattle.ip_image.specs.Standing.{StandsFor}
use Rattle.ip_held.specs.declared.held.Held.{Held}
use Rattle.ip_held.specs.Tie.{IsCoreOf}

-- no collection goes on in it
pub record IsCoreIn (image : Image) (core : Core) : Type 0 where
  pub repository : Repository
  pub stands : StandsFor image repository
  pub core_is : core ≡ core_of stands.standing.records stands.standing.slot.horizon CorePhase.idle

pub record ComesOf (core : Core) (events : List Event) (image : Image) : Type 0 where
  pub front : List Event
  pub rest : List Event
  pub all : front ++ rest ≡ events
  pub left : Core
  pub is : IsCoreIn image left
  pub run : CoreRun core (front ++ Event.Crash ∷ []) left

-- of a call by which the store's core goes on by these events, where no fault cuts it short
abbrev pub LeavesFront : Held → Records → List Event → Told → Told → Type 0
LeavesFront store records events old new = (core : Core) → IsCoreOf store records core → (t : ℕ) → old.moment < t → t ≤ new.moment → (image : Image) → IsPossible new t image → ComesOf core events image

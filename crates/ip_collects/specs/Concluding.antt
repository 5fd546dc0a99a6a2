-- The end of a collection, by a look or by a finish, which is a look that waits.
--     asking wait      the command.      most_of wait      so many records are looked at, at most
--     AsksChild wait attempt child tells x y m n      what is asked of the spawner, and what it tells and counts then
--     ConcludesAs tells wait result met store now old new      all that is promised of the call, but for the child and the ground's counts
use Rattle.std.specs.Prelude.{◌≡◌, ◌+◌, ◌-◌, ◌^◌, ◌≤◌, ℕ, Bool, true, false, [], ◌∷◌, ◌++◌, Some, Result, IsErrOf, IsTrue}
use Rattle.ip_base.specs.declared.exit.Reaped.{Reaped}
use Rattle.ip_ground.specs.Told.{Told, NoFile}
use Rattle.ip_spawn.specs.Children as spawn
use Rattle.ip_spawn.specs.declared.spawner.SpawnCounts.{SpawnCounts}
use Rattle.ip_spec.specs.declared.command.Command.{Command}
use Rattle.ip_spec.specs.declared.event.Event.TheVariants as Event
use Rattle.ip_spec.specs.declared.met.Child.{Child}
use Rattle.ip_spec.specs.declared.met.Met.{Met}
use Rattle.ip_spec.specs.Repository.{Repository}
use Rattle.ip_image.specs.Pending.{NothingPending}
use Rattle.ip_held.specs.declared.collection.Collection.{Collection}
use Rattle.ip_held.specs.declared.held.Held.{Held}
use Rattle.ip_held.specs.Clear.{KeepsClear, ClearsAll}
use Rattle.ip_held.specs.Fronts.{LeavesFront}
use Rattle.ip_held.specs.Held.{IsOf, Holds, OwnsPair}
use Rattle.ip_held.specs.Sweeping.{EndsFor}
use Rattle.ip_held.specs.Tie.{IsTied}
use Rattle.ip_collects.specs.CollectEvents.{ending, finish_events}
use Rattle.ip_collects.specs.Ending.{AwaitsChild, Goes, SeesChild}
use Rattle.ip_collects.specs.Finishing.{Concludes, FinishesBy, HasAnswer, IsAsked, IsAccepted, IsSweptBehind, IsUndamaged, LookReplies, LooksWithin, WorksStay, conditions_by}
use Rattle.ip_collects.specs.Judging.{IsBlamedIn, IsDamagedIn}
use Rattle.ip_collects.specs.declared.finishing.FinishFault.{FinishFault}
use Rattle.ip_collects.specs.declared.finishing.Looked.{Looked}

abbrev pub asking : Bool → Command
asking true = Command.Finish
asking false = Command.Look

abbrev pub most_of : Bool → ℕ
most_of true = 2 ^ 64 - 1
most_of false = 1024

abbrev pub AsksChild : Bool → ℕ → Child → Bool → spawn.Told → spawn.Told → SpawnCounts → SpawnCounts → Type 0
AsksChild true attempt child tells x y m n = AwaitsChild attempt child tells x y m n
AsksChild false attempt child tells x y m n = SeesChild attempt child tells x y m n

pub record ConcludesAs (tells wait : Bool) (result : Result Looked FinishFault) (met : Met) (store now : Held) (old new : Told) : Type 0 where
  pub goes : Goes met.child (most_of wait) result met store now
  pub answered : (r : Repository) → IsOf store r → LookReplies result (Concludes r store.collection (asking wait) (conditions_by met result) now)
  -- a finish waits, and makes the whole check
  pub asked : IsAsked (asking wait) result
  pub any_moment : IsTrue tells → (r : Repository) (held : Holds store old r) (c : Collection) (reaped : Reaped) → store.collection ≡ Some c → met.child ≡ Child.Ended reaped →
      FinishesBy held.stands.standing.records r c (asking wait) result store.unswept met now old new
  pub undamaged : IsTrue tells → (r : Repository) → Holds store old r → IsUndamaged result
  -- Behind damage no file changes, and where it was found is known.
  pub untouched : IsTrue tells → ¬ IsUndamaged result → (c : Collection) → store.collection ≡ Some c → EndsFor c.job.attempt NoFile old new
  pub blames : (at : ℕ) → IsErrOf result (FinishFault.Damaged at) → IsBlamedIn now.collection at
  -- and where no child changes the live pair, what is wrong there
  pub broken : IsTrue tells → OwnsPair old store.slot → (at : ℕ) → IsErrOf result (FinishFault.Damaged at) → IsDamagedIn new now.collection at
  -- where the pair is valid no more records were looked at than a call looks at: all looks of the check are not more than these and those before
  pub bounded : IsTrue tells → (r : Repository) (held : Holds store old r) (c : Collection) → store.collection ≡ Some c → IsAccepted result → LooksWithin (most_of wait) held.stands.standing.records c
  pub works_stay : IsTrue tells → HasAnswer result → (r q : Repository) (held : Holds store old r) (still : Holds now new q) → WorksStay held still
  -- What was cleared stays so, and behind a sweep that left nothing all is.
  pub clear : IsTrue tells → HasAnswer result → (r : Repository) → Holds store old r → KeepsClear store now old new × ClearsAll (IsSweptBehind result) met.left store now old new
  pub tied : IsTrue tells → HasAnswer result → (r q : Repository) (held : Holds store old r) (still : Holds now new q) →
      IsTied store held.stands.standing.records now still.stands.standing.records (finish_events store.collection result)
  -- where nothing was pending a crash at any moment, within a fault of the ground too, leaves a front of its events
  pub fronts : IsTrue tells → (r : Repository) (held : Holds store old r) → NothingPending old → LeavesFront store held.stands.standing.records (ending store.collection ++ Event.Accept ∷ Event.Sweep ∷ []) old new

-- What reading ahead does to the bytes that are held.
--     GoesOn at want space old new result told now      at least so many bytes are held, or all that there are
--     Fills at space old new result told now      enough are held to tell the record that they begin with
use Rattle.std.specs.Prelude.{◌≡◌, ◌⊎◌, ℕ, ◌≤◌, ◌++◌, length, Result, OnOk}
use Rattle.ip_ground.specs.Told.{Told, NoFile, ChangesOnly}
use Rattle.ip_spec.specs.Path.{Bytes}
use Rattle.ip_space.specs.SpaceView.{SpaceView, byte_at}
use Rattle.ip_space.specs.Ahead.{Shows, IsUpTo, IsEnough}
use Rattle.ip_space.specs.declared.fault.FetchFault.{FetchFault}

abbrev pub ShowsIn : Told → SpaceView → ℕ → Bytes → Type 0
ShowsIn told space at bytes = Shows (byte_at told space) space.layout.end at bytes

pub record GoesOn (at want : ℕ) (space : SpaceView) (old new : Bytes) (result : Result (Unit {0}) FetchFault) (told now : Told) : Type 0 where
  pub only : ChangesOnly NoFile told now
  pub more : (rest : Bytes) × (new ≡ old ++ rest)
  pub shows : ShowsIn told space at old → ShowsIn told space at new
  pub full : ShowsIn told space at old → OnOk result ((want ≤ length new) ⊎ IsUpTo (byte_at told space) space.layout.end at new)

pub record Fills (at : ℕ) (space : SpaceView) (old new : Bytes) (result : Result (Unit {0}) FetchFault) (told now : Told) : Type 0 where
  pub only : ChangesOnly NoFile told now
  pub shows : ShowsIn told space at old → ShowsIn told space at new
  pub enough : ShowsIn told space at old → OnOk result (IsEnough (byte_at told space) space.layout.end at new)

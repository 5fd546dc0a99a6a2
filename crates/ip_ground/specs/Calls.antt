-- What each call does to what a ground tells.
use Rattle.std.specs.Prelude.{◌≡◌, ◌≢◌, ◌⊎◌, ℕ, ◌-◌, ◌<◌, ◌≤◌, min, List, ◌++◌, length, take, drop, Option, None, Result, IfOk, OnOk, OnErr}
use Rattle.std.specs.Option.{option_map}
use Rattle.ip_ground.specs.declared.names.FileName.{FileName}
use Rattle.ip_ground.specs.declared.names.GroundFault.{GroundFault}
use Rattle.ip_ground.specs.Contents.{bytes_of, size_of, written as written_over, Torn}
use Rattle.ip_ground.specs.Custody.{lent, IsOfAttempt, after_sync, after_settle}
use Rattle.ip_ground.specs.Told.{Told, said, lending, IsForeign, IsLoose, KeepsPast, ChangesLeft, SyncsAtMost, KeepsFile, KeepsSaid, KeepsCustody, TurnsCustody, IsSynced, Only, NoFile, ChangesOnly}

-- A call that changes no file and says nothing.
pub record Passes (result : Result (Unit {0}) GroundFault) (old new : Told) : Type 0 where
  pub advances : OnOk result (old.moment < new.moment)
  pub only : ChangesOnly NoFile old new

-- The length is that of what the file reads as.
pub record Measures (file : FileName) (result : Result (Option ℕ) GroundFault) (old new : Told) : Type 0 where
  pub advances : OnOk result (old.moment < new.moment)
  pub only : ChangesOnly NoFile old new
  pub ok : IfOk result (λ size. size ≡ option_map length (new.held file))

-- The bytes are those of what the file reads as, up to its end.
pub record Reads (file : FileName) (at : ℕ) (out filled : List ℕ) (result : Result ℕ GroundFault) (old new : Told) : Type 0 where
  pub advances : OnOk result (old.moment < new.moment)
  pub only : ChangesOnly NoFile old new
  pub count : IfOk result (λ n. n ≡ min (length out) (size_of (new.held file) - at))
  pub bytes : IfOk result (λ n. take n filled ≡ take n (drop at (bytes_of (new.held file))))

-- Ok: the bytes stand there. Else any bytes in their range. A crash may leave any bytes in it either way.
pub record Writes (file : FileName) (at : ℕ) (bytes : List ℕ) (result : Result (Unit {0}) GroundFault) (old new : Told) : Type 0 where
  pub advances : OnOk result (old.moment < new.moment)
  pub only : ChangesOnly (Only file) old new
  pub ok : ¬ IsForeign old file → OnOk result (new.held file ≡ written_over (old.held file) at bytes)
  pub err : ¬ IsForeign old file → OnErr result (Torn at (length bytes) (old.held file) (new.held file))
  pub left : ¬ IsLoose old file → ChangesLeft (Torn at (length bytes)) old new file
  pub written : OnOk result (old.writes file < new.writes file)

-- Ok: a crash leaves what the file reads as. It changes none, and syncs no other; else nothing is changed.
pub record Syncs (file : FileName) (result : Result (Unit {0}) GroundFault) (old new : Told) : Type 0 where
  pub advances : OnOk result (old.moment < new.moment)
  pub goes : KeepsPast old new
  pub files : (any : FileName) → SyncsAtMost old new any
  pub others : (other : FileName) → other ≢ file → KeepsFile old new other
  pub ok : ¬ IsForeign old file → OnOk result (IsSynced new file)
  pub firm : ¬ IsForeign old file → OnOk result (¬ IsLoose new file)
  pub refused : OnErr result (ChangesOnly NoFile old new)
  pub turns : (attempt : ℕ) → TurnsCustody old new attempt
  pub lending : OnOk result ((attempt : ℕ) → lending new attempt ≡ after_sync file attempt (lending old attempt))
  pub said : KeepsSaid old new

-- Ok: the file is absent. A crash may leave it or not, until it is synced. No write is asked for.
pub record Removes (file : FileName) (result : Result (Unit {0}) GroundFault) (old new : Told) : Type 0 where
  pub advances : OnOk result (old.moment < new.moment)
  pub only : ChangesOnly (Only file) old new
  pub ok : ¬ IsForeign old file → OnOk result (new.held file ≡ None)
  pub err : ¬ IsForeign old file → OnErr result ((new.held file ≡ old.held file) ⊎ (new.held file ≡ None))
  pub left : ¬ IsLoose old file → ChangesLeft (λ before content. (content ≡ before) ⊎ (content ≡ None)) old new file
  pub unwritten : new.writes file ≡ old.writes file

-- Ok: the attempt is lent. Of its files nothing is known from then on. No write of any file is asked for.
pub record Lends (attempt : ℕ) (result : Result (Unit {0}) GroundFault) (old new : Told) : Type 0 where
  pub advances : OnOk result (old.moment < new.moment)
  pub goes : KeepsPast old new
  pub files : (file : FileName) → ¬ IsOfAttempt attempt file → KeepsFile old new file
  pub unwritten : (file : FileName) → new.writes file ≡ old.writes file
  pub ok : OnOk result (lending new attempt ≡ lent)
  pub err : OnErr result ((lending new attempt ≡ lent) ⊎ ChangesOnly NoFile old new)
  pub turns : TurnsCustody old new attempt
  pub others : (other : ℕ) → other ≢ attempt → KeepsCustody old new other
  pub said : KeepsSaid old new

-- Ok: a lent attempt is settled, and holds from then on what it reads as now. Else nothing is changed.
pub record Settles (attempt : ℕ) (result : Result (Unit {0}) GroundFault) (old new : Told) : Type 0 where
  pub advances : OnOk result (old.moment < new.moment)
  pub goes : KeepsPast old new
  pub files : (file : FileName) → KeepsFile old new file
  pub ok : OnOk result (lending new attempt ≡ after_settle new.held (lending old attempt))
  pub refused : OnErr result (ChangesOnly NoFile old new)
  pub turns : TurnsCustody old new attempt
  pub others : (other : ℕ) → other ≢ attempt → KeepsCustody old new other
  pub said : KeepsSaid old new

-- Ok: the bytes were said; else a front of them, as at each moment of the call.
pub record Says (bytes : List ℕ) (result : Result (Unit {0}) GroundFault) (old new : Told) : Type 0 where
  pub advances : OnOk result (old.moment < new.moment)
  pub goes : KeepsPast old new
  pub files : (file : FileName) → KeepsFile old new file
  pub lending : (attempt : ℕ) → KeepsCustody old new attempt
  pub ok : OnOk result (said new ≡ said old ++ bytes)
  pub front : (moment : ℕ) → old.moment < moment → moment ≤ new.moment → (n : ℕ) × (n ≤ length bytes) × (new.said_at moment ≡ said old ++ take n bytes)

-- What making a store does, and opening one, between what a ground tells before and after.
use Rattle.std.specs.Prelude.{◌≡◌, ◌≢◌, ℕ, ◌<◌, ◌≤◌, max, length, slice_index, None, IsSome, Result, OnOk, IfOk, IsErrOf}
use Rattle.ip_ground.specs.declared.names.FileName.{FileName}
use Rattle.ip_ground.specs.declared.names.FileName.TheVariants.{Control}
use Rattle.ip_ground.specs.Contents.{Content}
use Rattle.ip_ground.specs.Custody.{own}
use Rattle.ip_ground.specs.Told.{Told, lending, ChangesOnly, SyncsOnly, Only, NoFile, IsSynced, EachImageNow}
use Rattle.ip_spec.specs.Repository.{Repository, no_repository}
use Rattle.ip_image.specs.declared.slot.Slot.{Slot}
use Rattle.ip_image.specs.Slot.{layout_of, live_index}
use Rattle.ip_image.specs.Standing.{StandsFor, NoStore, DamagedAt}
use Rattle.ip_image.specs.Pending.{crash_at, HasLive, NothingPending}
use Rattle.ip_image.specs.Headline.{RecoversTo}
use Rattle.ip_space.specs.Pair.{HasRowsLength}
use Rattle.ip_opens.specs.declared.making.InitFault.{InitFault}
use Rattle.ip_opens.specs.declared.opening.OpenFault.{OpenFault}
use Rattle.ip_held.specs.declared.held.Held.{Held}
use Rattle.ip_held.specs.Clear.{IsClearAt}
use Rattle.ip_held.specs.Control.{control_in, IsFresh}
use Rattle.ip_opens.specs.Found.{IsReached}
use Rattle.ip_held.specs.Held.{OwnsLive, IsSound}

pub record Makes (chunk : ℕ) (result : Result (Unit {0}) InitFault) (old new : Told) : Type 0 where
  -- no other file changes at any moment, nothing is said, none is lent or settled
  pub only : ChangesOnly (Only Control) old new
  -- a store is there exactly where a slot is open
  pub closed : OnOk result (live_index (control_in old.held) ≡ None)
  pub existing : IsErrOf result InitFault.Existing → IsSome (live_index (control_in old.held))
  -- and then nothing changes, behind a fault too
  pub unchanged : IsSome (live_index (control_in old.held)) → ChangesOnly NoFile old new
  -- a crash leaves a store without commits
  pub made : OnOk result (IsFresh chunk new.held)
  pub kept : OnOk result (IsSynced new Control)
  -- what stood behind the two slots stays, and the file grows up to their end at most
  pub behind : OnOk result ((place : ℕ) → 256 ≤ place → slice_index (control_in new.held) place ≡ slice_index (control_in old.held) place)
  pub no_longer : OnOk result (length (control_in new.held) ≤ max (length (control_in old.held)) 256)
  pub stands : OnOk result (EachImageNow new (λ image. StandsFor image no_repository))
  -- nothing was to be cleared yet
  pub clear : OnOk result (IsClearAt new)
  -- and nothing is pending, where no attempt was ever lent
  pub nothing_pending : ((attempt : ℕ) → lending old attempt ≡ own) → OnOk result (NothingPending new)

-- From a moment of opening on, that of its sync, a crash leaves the control file as it is, and whatever it leaves stands for the repository that the files stood for, where the ground was in order.
pub record RecoversOnceOpen (old new : Told) : Type 0 where
  pub since : ℕ
  pub begins : old.moment < since
  pub kept : (t : ℕ) → since ≤ t → t ≤ new.moment → (content : Content) → new.may_leave t Control content → content ≡ new.held Control
  pub recovers : (r : Repository) → StandsFor old.held r → NothingPending old → (t : ℕ) → since ≤ t → t ≤ new.moment → RecoversTo (crash_at new t) r
  pub nothing_pending : NothingPending old → NothingPending new

pub record Opens (result : Result Held OpenFault) (old new : Told) : Type 0 where
  -- no file changes at any moment, and none but the control file is synced, nothing is said, none is lent or settled
  pub only : SyncsOnly (Only Control) old new
  pub no_store : IsErrOf result OpenFault.NoStore → NoStore new.held
  -- where no child changes the live pair
  pub damaged : OwnsLive old → (file : FileName) (at : ℕ) → IsErrOf result (OpenFault.Damaged file at) → DamagedAt new.held file at
  -- want of memory comes only where some slot is live, and where no child changes its mapping that has the length of its rows
  pub memory : IsErrOf result OpenFault.Memory → (s : Slot) × HasLive s new.held × (OwnsLive old → s.live ≢ 0 → HasRowsLength new.held (layout_of s))
  pub holds : OwnsLive old → IfOk result (λ store. IsSound store new)
  -- every answer but a fault of the ground comes after the sync, where there is a control file
  pub opening : RecoversOnceOpen old new
  pub reached : IsReached result → IsSome (old.held Control) → opening.since ≤ new.moment

-- The records that a space has in an image.
--     run_at x      where a record lies.      AreRecords image space h records      these are all of them: they lie end to end in its stretches, each refers to others below it, and one of them begins at h
use Rattle.std.specs.Prelude.{ℕ, ◌<◌, ◌≤◌, length, IsSome}
use Rattle.std.specs.List.{AllByRecursion}
use Rattle.ip_ground.specs.Contents.{Image}
use Rattle.ip_spec.specs.declared.record.Record.{Record}
use Rattle.ip_spec.specs.Record.{Fits, spelling}
use Rattle.ip_spec.specs.TreeAt.{Records, present}
use Rattle.ip_spec.specs.Core.{core_of, CorePhase, IsClosed}
use Rattle.ip_image.specs.declared.run.Run.{Run}
use Rattle.ip_image.specs.Slot.{newest_version}
use Rattle.ip_image.specs.Virtual.{placed, RowsFit}
use Rattle.ip_image.specs.Standing.{RunByRun}
use Rattle.ip_space.specs.SpaceView.{SpaceView, byte_in, stretches_of}

abbrev pub run_at : ℕ × Record → Run
run_at x = record { at = x.0; length = length (spelling x.1) }

pub record AreRecords (image : Image) (space : SpaceView) (h : ℕ) (records : Records) : Type 0 where
  pub rows : RowsFit space.layout.horizon (placed 0 space.runs)
  pub whole : RunByRun (byte_in image space) (stretches_of space) records
  pub bounds : AllByRecursion (λ (x : ℕ × Record). Fits newest_version x.1) records
  pub closed : IsClosed (core_of records space.layout.horizon CorePhase.idle)
  pub above : space.layout.horizon ≤ h
  pub below : h < space.layout.end
  pub here : IsSome (present records h)

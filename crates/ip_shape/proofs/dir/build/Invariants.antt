use Rattle.std.proofs.Common.{◌≡◌, [], length}
use Rattle.ip_shape.specs.Directory.{IsDir, entries_from, root_of}
use Rattle.ip_shape.specs.Loaded.{IsFresh}
use Rattle.ip_shape.proofs.dir.build.Given as goal

abbrev pub invariant-loop-step : goal.invariant-loop-step
invariant-loop-step g l =
    IsDir l.dir l.dir.entries.entries × (entries_from l.left.items l.dir.entries.entries ≡ entries_from l.initial.left.items [])
    × IsFresh (root_of l.dir)

abbrev pub decreases-loop-step : goal.decreases-loop-step
decreases-loop-step g l = length l.left.items

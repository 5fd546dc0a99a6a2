-- Trees whose directories have no more entries than they may.
--     IsNarrow t      each has at most as many.      IsWide t      one has more
use Rattle.std.specs.Prelude.{◌<◌, ◌≤◌}
use Rattle.ip_spec.specs.Map.{len}
use Rattle.ip_spec.specs.Path.{Path}
use Rattle.ip_spec.specs.Step.{entries_limit}
use Rattle.ip_spec.specs.Tree.{Tree, entries_of, subtree}

abbrev pub IsNarrow : Tree → Type 0
IsNarrow t = (p : Path) → len (entries_of (subtree t p)) ≤ entries_limit

abbrev pub IsWide : Tree → Type 0
IsWide t = (p : Path) × (entries_limit < len (entries_of (subtree t p)))

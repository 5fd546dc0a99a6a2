-- The most entries of one directory: no directory has more, and one has as many.
use Rattle.std.proofs.Common.{◌≤◌, ◌<◌, arith}
use Rattle.ip_spec.specs.Step.{entries_limit}
use Rattle.ip_spec.specs.Tree.{Tree, widest}
use Rattle.ip_spec.proofs.Widths.{none_wider, widest_low}
use Rattle.ip_tree.specs.Narrow.{IsNarrow, IsWide}

pub narrow_of : (t : Tree) → widest t ≤ entries_limit → IsNarrow t
narrow_of t le p = let h = none_wider t p in omega arith

pub widest_of : (t : Tree) → IsNarrow t → widest t ≤ entries_limit
widest_of t narrow = widest_low entries_limit t narrow

pub wide_of : (t : Tree) → IsWide t → entries_limit < widest t
wide_of t wide = let h = none_wider t wide.0 in let over = wide.1 in omega arith

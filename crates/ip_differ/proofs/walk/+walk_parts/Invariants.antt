use Rattle.std.proofs.Common.{◌≡◌, ◌-◌, ℕ, List, Option, length}
use Rattle.std.specs.Prelude.{IsTrue}
use Rattle.ip_spec.specs.Path.{Step}
use Rattle.ip_spec.specs.Shape.{Entries, deepest}
use Rattle.ip_spec.specs.declared.record.Record.{Record}
use Rattle.ip_tree.specs.Reads.{IsOver, Looks}
use Rattle.ip_differ.specs.declared.pairs.Entry.{Entry}
use Rattle.ip_differ.specs.Pieces.{PieceIs}
use Rattle.ip_differ.specs.Sides.{IsClear}
use Rattle.ip_differ.proofs.Walking.{WalksBefore}
use Rattle.ip_differ.proofs.walk.+walk_parts.Given as goal

abbrev pub decreases-walk_parts : goal.decreases-walk_parts
decreases-walk_parts g l = deepest - l.depth

abbrev pub invariant-loop-index : goal.invariant-loop-index
invariant-loop-index g l =
    let ground = g.G.Ground in
    record {
      walked : IsTrue ground.tells → (records : ℕ → Option Record) (a b : Step → Option Entry) (es fs : Entries) (is : List ℕ) → IsOver (ground.told l.fn.outside) l.fn.space records → length is ≡ l.fn.depth
          → PieceIs records a es is l.fn.one → PieceIs records b fs is l.fn.other → IsClear is l.fn.found.entries
          → WalksBefore a b is l.index l.fn.found.entries l.found.entries;
      looks : Looks ground.tells (ground.told l.fn.outside) (ground.told l.outside) l.fn.space l.space;
      counts : ground.counts_of l.outside ≡ ground.counts_of l.fn.outside;
    }

use Rattle.std.proofs.Common.{◌≡◌, ◌-◌, ℕ, List, Option, length}
use Rattle.std.specs.Prelude.{IsTrue}
use Rattle.ip_spec.specs.Path.{Step}
use Rattle.ip_spec.specs.Shape.{Entries, deepest}
use Rattle.ip_spec.specs.declared.record.Record.{Record}
use Rattle.ip_tree.specs.Reads.{IsOver, Looks}
use Rattle.ip_differ.specs.declared.pairs.Entry.{Entry}
use Rattle.ip_differ.specs.Pieces.{OpenedIs}
use Rattle.ip_differ.specs.Sides.{Puts}
use Rattle.ip_differ.proofs.Walking.{put_before}
use Rattle.ip_differ.proofs.put.+put_all.Given as goal

abbrev pub decreases-put_all : goal.decreases-put_all
decreases-put_all g l = deepest - l.depth

abbrev pub invariant-loop-index : goal.invariant-loop-index
invariant-loop-index g l =
    let ground = g.G.Ground in
    record {
      puts : IsTrue ground.tells → (records : ℕ → Option Record) (a : Step → Option Entry) (es : Entries) (is : List ℕ) → IsOver (ground.told l.fn.outside) l.fn.space records → length is ≡ l.fn.depth
          → OpenedIs records a es is l.fn.piece l.fn.content → Puts l.fn.side (put_before a is l.index) l.fn.found.entries l.found.entries;
      looks : Looks ground.tells (ground.told l.fn.outside) (ground.told l.outside) l.fn.space l.space;
      counts : ground.counts_of l.outside ≡ ground.counts_of l.fn.outside;
    }

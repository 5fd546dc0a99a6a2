use Rattle.std.proofs.Common.{◌≡◌, ◌+◌, ◌-◌, ℕ, List, [], Option, Some, drop, filter, length}
use Rattle.std.specs.FinMap.Entries.{find}
use Rattle.std.specs.Prelude.{IsTrue, is_some, option_map}
use Rattle.ip_shape.specs.Loaded.{unread_in, way}
use Rattle.ip_shape.specs.Shape.{IsPart}
use Rattle.ip_spec.specs.Path.{Step, bytes_cmp}
use Rattle.ip_spec.specs.Shape.{Entries, deepest, part_from}
use Rattle.ip_spec.specs.Tree.{Tree}
use Rattle.ip_spec.specs.declared.record.Record.{Record}
use Rattle.ip_tree.specs.Listing.{kind_of, kind_or}
use Rattle.ip_tree.specs.Meaning.{SpellsPart, steps_of}
use Rattle.ip_tree.specs.Reads.{IsOver, Looks}
use Rattle.ip_tree.specs.declared.node.Stored.{Stored}
use Rattle.ip_tree.proofs.UnreadKinds.{part_kinds}
use Rattle.ip_tree.proofs.list.+gather_unread.Given as goal

abbrev pub invariant-loop-child : goal.invariant-loop-child
invariant-loop-child g l =
    let ground = g.G.Ground in
    record {
      kinds : IsTrue ground.tells → (records : ℕ → Option Record) (es : Entries) → IsOver (ground.told l.fn.outside) l.fn.space records → IsPart (deepest - l.fn.depth) l.fn.depth (steps_of es) l.fn.part
          → ((q : List ℕ) (x : Stored) → unread_in q l.fn.part ≡ Some (x, []) → SpellsPart records (l.fn.depth + length q) x (part_from l.fn.depth es q)) → (s : Step)
          → part_kinds (deepest - (l.fn.depth + 1)) l.fn.depth es s l.child-index (drop l.child-index l.child-items) (find bytes_cmp s l.found.entries)
          ≡ kind_or (option_map kind_of (find bytes_cmp s (filter (λ (e : Step × Tree). is_some (unread_in (way (deepest - l.fn.depth) l.fn.depth e.0) l.fn.part)) es))) (find bytes_cmp s l.fn.found.entries);
      looks : Looks ground.tells (ground.told l.fn.outside) (ground.told l.outside) l.fn.space l.space;
      counts : ground.counts_of l.outside ≡ ground.counts_of l.fn.outside;
    }

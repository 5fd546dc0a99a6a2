use Rattle.std.proofs.Common.{◌≡◌, drop, map, max}
use Rattle.std.specs.Prelude.{fold}
use Rattle.ip_tree.specs.Heights.{unread_height}
use Rattle.ip_tree.proofs.height.+unread_height.Given as goal

abbrev pub invariant-loop-child : goal.invariant-loop-child
invariant-loop-child l = fold max l.most (drop l.child-index (map unread_height l.child-items)) ≡ fold max 0 (map unread_height l.child-items)

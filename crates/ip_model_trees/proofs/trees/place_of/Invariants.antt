use Rattle.std.proofs.Common.{◌≡◌, ◌++◌, drop, take}
use Rattle.std.specs.FinMap.Entries as E
use Rattle.ip_model_trees.proofs.trees.place_of.Given as goal

abbrev pub invariant-loop-i : goal.invariant-loop-i
invariant-loop-i g l = (v : g.row.V.Denot) → E.put g.K.Ord.cmp l.key v l.list ≡ take l.i l.list ++ E.put g.K.Ord.cmp l.key v (drop l.i l.list)

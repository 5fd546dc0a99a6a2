use Rattle.std.proofs.Common.{take}
use Rattle.std.specs.Ordering.{nat_cmp}
use Rattle.std.specs.BTreeSet.{IsOrdered}
use Rattle.ip_gen.proofs.Appending.{Added}
use Rattle.ip_gen.proofs.sweep.insert_below.Given as goal

abbrev pub invariant-loop-at : goal.invariant-loop-at
invariant-loop-at l = record {
  ordered : IsOrdered nat_cmp l.kept;
  added : Added l.fn.kept.keys l.kept.keys (take l.at-index l.refs) l.commit;
}

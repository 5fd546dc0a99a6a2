use Rattle.std.proofs.Common.{arith}
use Rattle.ip_save.proofs.Bounds.{leaf_fits}
use Rattle.ip_save.proofs.leaf.leaf_fault.Goals as goal

pub returns-clause-none : goal.returns-clause-none
returns-clause-none c =
    let few = c.if-entries-gt-ENTRIES_MAX.false in
    leaf_fits c.args.entries.now few record { count = omega (arith, few); each = c.are_entries.ensures c.if-not-are_entries.false; rising = c.are_rising.ensures c.if-not-are_rising.false }

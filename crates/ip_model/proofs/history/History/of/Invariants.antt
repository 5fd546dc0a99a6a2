use Rattle.std.proofs.Common.{◌≡◌, length}
use Rattle.ip_model.specs.Ancestry.{AreRows}
use Rattle.ip_model.proofs.history.History.of.Given as goal

abbrev pub invariant-loop-list : goal.invariant-loop-list
invariant-loop-list l = (length l.rows.items ≡ l.list-index) × AreRows (record { floor = l.fn.floor; parents = l.fn.parents.items }) l.rows.items

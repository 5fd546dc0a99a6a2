use Rattle.std.proofs.Common.{◌≡◌, false, take}
use Rattle.ip_model.specs.Ancestry.{reached_from}
use Rattle.ip_model.proofs.history.one_has.Given as goal

abbrev pub invariant-loop-parent : goal.invariant-loop-parent
invariant-loop-parent l = reached_from l.rows l.floor (take l.parent-index l.parents) l.place ≡ false

use Rattle.std.proofs.Common.{◌≡◌, take}
use Rattle.ip_audit.proofs.names.Names.copy_from.Given as goal

abbrev pub invariant-loop-name : goal.invariant-loop-name
invariant-loop-name l = l.names ≡ take l.name-index l.name-items

use Rattle.std.proofs.Common.{take}
use Rattle.ip_history.specs.Frontier.{IsHeads}
use Rattle.ip_history.proofs.table.heads.Given as goal

abbrev pub invariant-loop-number : goal.invariant-loop-number
invariant-loop-number l = IsHeads (take l.number-index l.list) l.fn.number l.frontier

use Rattle.std.proofs.Common.{ℕ, ◌-◌, ◌+◌, length}
use Rattle.ip_spec.specs.Repository.{Repository}
use Rattle.ip_history.specs.History.{HasParentsFirst, Shows}
use Rattle.ip_history.proofs.Logged.{IsWithin, IsLogged}
use Rattle.ip_history.proofs.table.Table.log.Given as goal

abbrev pub invariant-loop-next : goal.invariant-loop-next
invariant-loop-next l = (bound : ℕ) × IsWithin l.self l.frontier (length l.numbers) bound × ((r : Repository) → Shows l.self r → HasParentsFirst l.self → IsLogged l.self r l.fn.number l.numbers l.frontier bound)

abbrev pub decreases-loop-next : goal.decreases-loop-next
decreases-loop-next l = l.self.floor + length l.self.parents - length l.numbers

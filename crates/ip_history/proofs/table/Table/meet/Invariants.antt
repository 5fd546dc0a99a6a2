use Rattle.std.proofs.Common.{ℕ, ◌-◌, ◌+◌, length}
use Rattle.ip_spec.specs.Repository.{Repository}
use Rattle.ip_history.specs.History.{HasParentsFirst, Holds, Shows}
use Rattle.ip_history.proofs.Logged.{IsWithin}
use Rattle.ip_history.proofs.Least.{IsMet}
use Rattle.ip_history.proofs.table.Table.meet.Given as goal

abbrev pub invariant-loop-next : goal.invariant-loop-next
invariant-loop-next l = (bound : ℕ) × IsWithin l.self l.frontier l.looked_at bound × ((r : Repository) (shows : Shows l.self r) (first : HasParentsFirst l.self) (held : Holds l.self l.fn.number) → IsMet l.self r shows first l.fn.list l.fn.number held l.least l.frontier bound)

abbrev pub decreases-loop-next : goal.decreases-loop-next
decreases-loop-next l = l.self.floor + length l.self.parents - l.looked_at

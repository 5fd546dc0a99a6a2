use Rattle.std.proofs.Common.{◌≡◌, false, take}
use Rattle.std.specs.List.{list_any}
use Rattle.ip_spec.specs.Repository.{Repository}
use Rattle.ip_spec.specs.History.{ParentsFirst, is_ancestor}
use Rattle.ip_history.specs.History.{Shows}
use Rattle.ip_model.proofs.history.History.is_above_one.Given as goal

abbrev pub invariant-loop-number : goal.invariant-loop-number
invariant-loop-number l = (r : Repository) → ParentsFirst r → Shows l.self r → list_any (λ m. is_ancestor r l.fn.a m) (take l.number-index l.list) ≡ false

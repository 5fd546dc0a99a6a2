use Rattle.std.proofs.Common.{◌≡◌, false, take}
use Rattle.std.specs.List.{list_any}
use Rattle.ip_spec.specs.Repository.{Repository}
use Rattle.ip_spec.specs.History.{ParentsFirst, is_proper_ancestor}
use Rattle.ip_history.specs.History.{Shows}
use Rattle.ip_model.proofs.history.History.is_below_one.Given as goal

abbrev pub invariant-loop-number : goal.invariant-loop-number
invariant-loop-number l = (r : Repository) → ParentsFirst r → Shows l.self r → list_any (is_proper_ancestor r l.fn.a) (take l.number-index l.list) ≡ false

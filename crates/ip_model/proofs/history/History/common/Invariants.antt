use Rattle.std.proofs.Common.{◌≡◌, take}
use Rattle.std.specs.Prelude.{filter, not}
use Rattle.std.specs.List.{list_any}
use Rattle.ip_spec.specs.Repository.{Repository}
use Rattle.ip_spec.specs.History.{ParentsFirst, is_proper_ancestor}
use Rattle.ip_history.specs.History.{Shows}
use Rattle.ip_model.proofs.history.History.common.Given as goal

abbrev pub invariant-loop-a : goal.invariant-loop-a
invariant-loop-a l = (r : Repository) → ParentsFirst r → Shows l.self r → l.least ≡ filter (λ a. not (list_any (is_proper_ancestor r a) l.a-items)) (take l.a-index l.a-items)

use Rattle.std.proofs.Common.{◌≡◌}
use Rattle.std.specs.Prelude.{filter}
use Rattle.std.specs.List.{range_with_len}
use Rattle.ip_spec.specs.Repository.{Repository}
use Rattle.ip_spec.specs.History.{ParentsFirst, is_common}
use Rattle.ip_history.specs.History.{Shows}
use Rattle.ip_model.proofs.history.History.all_common.Given as goal

abbrev pub invariant-loop-place : goal.invariant-loop-place
invariant-loop-place l = (r : Repository) → ParentsFirst r → Shows l.self r → l.found ≡ filter (is_common r l.fn.list l.fn.number) (range_with_len l.self.floor l.place)

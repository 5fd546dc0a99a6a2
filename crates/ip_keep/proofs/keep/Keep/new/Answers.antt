use Rattle.std.proofs.Common.{refl, rules}
use Rattle.ip_keep.proofs.Begins.{begins, begins_down}
use Rattle.ip_keep.proofs.keep.Keep.new.Goals as goal

pub returns-clause-keeping : goal.returns-clause-keeping
returns-clause-keeping c image records whole = begins image records _ refl refl (search rules) (search rules) whole

pub returns-clause-sound : goal.returns-clause-sound
returns-clause-sound c records = begins_down records _ refl (search rules)

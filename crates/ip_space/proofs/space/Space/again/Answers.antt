use Rattle.std.proofs.Common.{subst}
use Rattle.ip_space.specs.SpaceView.{SpaceView}
use Rattle.ip_space.specs.Kept.{GainsNone}
use Rattle.ip_space.proofs.space.Space.again.Goals as goal

pub returns-clause-none : goal.returns-clause-none
returns-clause-none c = subst (λ (s : SpaceView). GainsNone s.kept c.touch.new.self) c.self.view_is c.touch.ensures.none

use Rattle.std.proofs.Common.{subst}
use Rattle.ip_space.specs.SpaceView.{SpaceView}
use Rattle.ip_space.specs.Kept.{GainsAtMost}
use Rattle.ip_space.proofs.space.Space.keep.Goals as goal

pub returns-clause-gains : goal.returns-clause-gains
returns-clause-gains c = subst (λ (s : SpaceView). GainsAtMost c.args.reference.now.at c.args.rec s.kept c.keep.new.self) c.self.view_is c.keep.ensures.gains

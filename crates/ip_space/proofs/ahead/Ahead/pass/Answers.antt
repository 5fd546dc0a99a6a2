use Rattle.ip_space.proofs.HeldBytes.{held_passed}
use Rattle.ip_space.proofs.ahead.Ahead.pass.Goals as goal

pub returns-clause-held : goal.returns-clause-held
returns-clause-held c = held_passed c.args.self.now c.requires.ahead c.args.count c.requires.held

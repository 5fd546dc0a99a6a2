use Rattle.ip_keep.proofs.Entered.{gains_one}
use Rattle.ip_keep.proofs.enter.enter_one.Goals as goal

pub returns-in-Ok-clause-all : goal.returns-in-Ok-clause-all
returns-in-Ok-clause-all c = gains_one c.args.waiting.now c.insert.new.self c.args.at c.args.below c.if-at-below.false c.in-Ok.ensures.updates c.in-Ok.ensures.ordered

pub returns-in-Ok-clause-some : goal.returns-in-Ok-clause-some
returns-in-Ok-clause-some c = (gains_one c.args.waiting.now c.insert.new.self c.args.at c.args.below c.if-at-below.false c.in-Ok.ensures.updates c.in-Ok.ensures.ordered).some

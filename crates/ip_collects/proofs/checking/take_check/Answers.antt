use Rattle.std.proofs.Common.{rules}
use Rattle.ip_collects.proofs.Judged.{begun_next}
use Rattle.ip_collects.proofs.checking.take_check.Goals as goal

pub returns-in-None-clause-next : goal.returns-in-None-clause-next
returns-in-None-clause-next c = begun_next c.args.collection.now c.args.space.now (search rules) c.new.result c.new.ensures.begun c.new.ensures.check c.new.ensures.checking

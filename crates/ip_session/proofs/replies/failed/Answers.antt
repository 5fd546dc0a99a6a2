use Rattle.std.proofs.Common.{sym}
use Rattle.ip_session.proofs.Reading.{met_stays}
use Rattle.ip_session.proofs.replies.failed.Goals as goal

pub returns-in_default-clause-value : goal.returns-in_default-clause-value
returns-in_default-clause-value c = (c.fault_answer.ensures.value, sym (met_stays c.args.fault c.args.met.now c.in_default.not-Memory))

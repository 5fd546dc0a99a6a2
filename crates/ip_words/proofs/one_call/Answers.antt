use Rattle.ip_words.proofs.OneCall.{one_asked, allowed, valid_job, counted}
use Rattle.ip_words.proofs.one_call.Goals as goal

pub returns-clause-one : goal.returns-clause-one
returns-clause-one c = one_asked

pub returns-clause-allowed : goal.returns-clause-allowed
returns-clause-allowed c = allowed

pub returns-clause-valid : goal.returns-clause-valid
returns-clause-valid c = valid_job

pub returns-clause-counted : goal.returns-clause-counted
returns-clause-counted c = counted

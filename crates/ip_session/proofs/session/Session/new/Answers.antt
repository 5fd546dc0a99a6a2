use Rattle.ip_held.specs.Work.{state_at}
use Rattle.ip_held.specs.Collecting.{phase_of}
use Rattle.ip_session.proofs.session.Session.new.Goals as goal

pub returns-clause-is_in : goal.returns-clause-is_in
returns-clause-is_in c r is = (is, c.empty.ensures.parents r)

pub returns-clause-state : goal.returns-clause-state
returns-clause-state c idle r = λ i. state_at r (phase_of (idle i)) (c.empty.ensures.begins i)

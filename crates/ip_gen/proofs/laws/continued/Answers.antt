use Rattle.ip_spec.proofs.CoreLaws.{step_keeps}
use Rattle.ip_gen.proofs.Running.{covers, run_appended, run_closed, run_since}
use Rattle.ip_gen.proofs.laws.continued.Goals as goal

pub returns-clause-closed : goal.returns-clause-closed
returns-clause-closed c events old new closed run = run_closed events old new run closed

pub returns-clause-covered : goal.returns-clause-covered
returns-clause-covered c core closed = covers core.records core.phase closed.keeps

pub returns-clause-reached : goal.returns-clause-reached
returns-clause-reached c event old new closed step = (step_keeps old new event step closed).1

pub returns-clause-since : goal.returns-clause-since
returns-clause-since c events old new closed run x there commit low = run_since events old new x closed run there commit low

pub returns-clause-appended : goal.returns-clause-appended
returns-clause-appended c before after records start old mid new closed run step rest x there commit low = run_appended after old mid new records x (run_closed before start old run closed) step rest there commit low

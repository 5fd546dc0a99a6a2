use Rattle.ip_spec.proofs.CoreLaws.{always_closed, step_keeps}
use Rattle.ip_gen.proofs.Running.{always_whole, covers, run_appended, run_since}
use Rattle.ip_gen.proofs.laws.events.Goals as goal

pub returns-clause-closed : goal.returns-clause-closed
returns-clause-closed c = always_closed

pub returns-clause-references : goal.returns-clause-references
returns-clause-references c events core run = (always_closed events core run).below

pub returns-clause-kept : goal.returns-clause-kept
returns-clause-kept c events core run = (always_whole events core run).kept

pub returns-clause-covered : goal.returns-clause-covered
returns-clause-covered c events core run = covers core.records core.phase (always_closed events core run).keeps

pub returns-clause-collects : goal.returns-clause-collects
returns-clause-collects c events core run = (always_whole events core run).collects

pub returns-clause-reached : goal.returns-clause-reached
returns-clause-reached c events event old new run step = (step_keeps old new event step (always_closed events old run)).1

pub returns-clause-since : goal.returns-clause-since
returns-clause-since c before after old new run rest x there commit low = run_since after old new x (always_closed before old run) rest there commit low

pub returns-clause-appended : goal.returns-clause-appended
returns-clause-appended c before after records old mid new run step rest x there commit low = run_appended after old mid new records x (always_closed before old run) step rest there commit low

use Rattle.ip_differ.proofs.Bare.{bare_contents, bare_nothing}
use Rattle.ip_differ.proofs.no_entries.Goals as goal

pub returns-clause-nothing : goal.returns-clause-nothing
returns-clause-nothing c = bare_nothing

pub returns-clause-contents : goal.returns-clause-contents
returns-clause-contents c = bare_contents

use Rattle.ip_words.proofs.Plain.{serve_plain, init_plain, behind_plain, before_plain, worker_plain, load_plain, no_words, program_alone, helped}
use Rattle.ip_words.proofs.plain_words.Goals as goal

pub returns-clause-serve : goal.returns-clause-serve
returns-clause-serve c = serve_plain

pub returns-clause-init : goal.returns-clause-init
returns-clause-init c = init_plain

pub returns-clause-behind : goal.returns-clause-behind
returns-clause-behind c = behind_plain

pub returns-clause-before : goal.returns-clause-before
returns-clause-before c = before_plain

pub returns-clause-worker : goal.returns-clause-worker
returns-clause-worker c = worker_plain

pub returns-clause-load : goal.returns-clause-load
returns-clause-load c = load_plain

pub returns-clause-none : goal.returns-clause-none
returns-clause-none c = no_words

pub returns-clause-program : goal.returns-clause-program
returns-clause-program c = program_alone

pub returns-clause-help : goal.returns-clause-help
returns-clause-help c = helped

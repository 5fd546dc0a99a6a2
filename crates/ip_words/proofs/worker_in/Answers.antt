use Rattle.std.proofs.Common.{codes, Some, rules}
use Rattle.clap.specs.Words.{found_of, rows_of}
use Rattle.ip_words.proofs.Numbers.{read_none, no_working}
use Rattle.ip_words.proofs.worker_in.Goals as goal

pub returns-in_err-job : goal.returns-in_err-job
returns-in_err-job c = read_none (Some (codes "worker", rows_of (found_of c.args.found.now))) _ (search rules) (no_working (rows_of (found_of c.args.found.now)) (λ f job h. c.in_err-job.ensures.none job h.2 h.3))

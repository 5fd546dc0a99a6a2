use Rattle.std.proofs.Common.{codes, Some, rules}
use Rattle.clap.specs.Words.{found_of, rows_of}
use Rattle.ip_words.proofs.Numbers.{read_none, no_making}
use Rattle.ip_words.proofs.init_in.Goals as goal

pub returns-in_err-chunk : goal.returns-in_err-chunk
returns-in_err-chunk c = read_none (Some (codes "init", rows_of (found_of c.args.found.now))) _ (search rules) (no_making (rows_of (found_of c.args.found.now)) (λ f n h. c.in_err-chunk.ensures.none n h.2))

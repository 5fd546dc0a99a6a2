use Rattle.std.proofs.Common.{codes, Some, rules}
use Rattle.clap.specs.Words.{found_of, rows_of}
use Rattle.ip_words.proofs.Numbers.{read_none, no_loading}
use Rattle.ip_words.proofs.load_in.Goals as goal

pub returns-in_err-seed : goal.returns-in_err-seed
returns-in_err-seed c = read_none (Some (codes "load", rows_of (found_of c.args.found.now))) _ (search rules) (no_loading (rows_of (found_of c.args.found.now)) (λ f seed count h. c.in_err-seed.ensures.none seed h.2))

pub returns-in_err-count : goal.returns-in_err-count
returns-in_err-count c = read_none (Some (codes "load", rows_of (found_of c.args.found.now))) _ (search rules) (no_loading (rows_of (found_of c.args.found.now)) (λ f seed count h. c.in_err-count.ensures.none count h.3))

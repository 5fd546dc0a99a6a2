use Rattle.clap.specs.Words.{found_of, rows_of}
use Rattle.ip_words.proofs.Numbers.{no_job}
use Rattle.ip_words.proofs.job_in.Goals as goal

pub returns-in_err-number_of-clause-none : goal.returns-in_err-number_of-clause-none
returns-in_err-number_of-clause-none c = no_job (rows_of (found_of c.args.found.now)) _ (λ job are. c.in_err-number_of.ensures.none _ are.0)

pub returns-in_err-number_of-2-clause-none : goal.returns-in_err-number_of-2-clause-none
returns-in_err-number_of-2-clause-none c = no_job (rows_of (found_of c.args.found.now)) _ (λ job are. c.in_err-number_of-2.ensures.none _ are.1.0)

pub returns-in_err-number_of-3-clause-none : goal.returns-in_err-number_of-3-clause-none
returns-in_err-number_of-3-clause-none c = no_job (rows_of (found_of c.args.found.now)) _ (λ job are. c.in_err-number_of-3.ensures.none _ are.1.1.0)

pub returns-in_err-number_of-4-clause-none : goal.returns-in_err-number_of-4-clause-none
returns-in_err-number_of-4-clause-none c = no_job (rows_of (found_of c.args.found.now)) _ (λ job are. c.in_err-number_of-4.ensures.none _ are.1.1.1.0)

pub returns-in_err-number_of-5-clause-none : goal.returns-in_err-number_of-5-clause-none
returns-in_err-number_of-5-clause-none c = no_job (rows_of (found_of c.args.found.now)) _ (λ job are. c.in_err-number_of-5.ensures.none _ are.1.1.1.1.0)

pub returns-in_err-number_of-6-clause-none : goal.returns-in_err-number_of-6-clause-none
returns-in_err-number_of-6-clause-none c = no_job (rows_of (found_of c.args.found.now)) _ (λ job are. c.in_err-number_of-6.ensures.none _ are.1.1.1.1.1.0)

pub returns-in_err-number_of-7-clause-none : goal.returns-in_err-number_of-7-clause-none
returns-in_err-number_of-7-clause-none c = no_job (rows_of (found_of c.args.found.now)) _ (λ job are. c.in_err-number_of-7.ensures.none _ are.1.1.1.1.1.1.0)

pub returns-in_err-number_of-8-clause-none : goal.returns-in_err-number_of-8-clause-none
returns-in_err-number_of-8-clause-none c = no_job (rows_of (found_of c.args.found.now)) _ (λ job are. c.in_err-number_of-8.ensures.none _ are.1.1.1.1.1.1.1.0)

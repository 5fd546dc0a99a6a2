use Rattle.std.proofs.Common.{rules, sym, ◌∙◌}
use Rattle.ip_spawn.proofs.Sizes.{from_test, out_of_bounds, tested}
use Rattle.ip_spawn.proofs.job.chunk_allowed.Goals as goal

pub returns-then-chunk-lt-CHUNK_MIN : goal.returns-then-chunk-lt-CHUNK_MIN
returns-then-chunk-lt-CHUNK_MIN c = (λ no. absurd (search rules), λ is. absurd (out_of_bounds c.args.chunk is c.then-chunk-lt-CHUNK_MIN.either))

pub returns : goal.returns
returns c = (λ yes. from_test c.args.chunk c.if-chunk-lt-CHUNK_MIN.false c.if-chunk-gt-CHUNK_MAX.false (sym c.is_power_of_two.ensures ∙ yes), λ is. c.is_power_of_two.ensures ∙ tested c.args.chunk is)

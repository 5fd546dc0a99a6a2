-- The program's rules of merges.
--     one_step step      the path of this step alone
--     program_rule      numbers are added up at `count` and under it, and sets of lines are joined at `lines` and under it
use Rattle.std.specs.Prelude.{[], ◌∷◌, codes}
use Rattle.ip_spec.specs.Merge.{Rule, rule_of, counter_means, line_set_means}
use Rattle.ip_spec.specs.Path.{Bytes, Path}

abbrev pub one_step : Bytes → Path
one_step step = step ∷ []

abbrev pub program_rule : Rule
program_rule = rule_of ((one_step (codes "count"), counter_means) ∷ (one_step (codes "lines"), line_set_means) ∷ [])

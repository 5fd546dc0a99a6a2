use Rattle.std.proofs.Common.{◌≤◌, length, ap, ◌∙◌, arith}
use Rattle.std.specs.Prelude.{nat_lt}
use Rattle.std.proofs.lemmas.Bool.Decides.{nat_tests}
use Rattle.ip_spec.specs.Step.{entries_limit}
use Rattle.ip_model_trees.proofs.Widths.{widest_few}
use Rattle.ip_model_trees.proofs.trees.Tree.is_wide.Goals as goal

pub returns-then-len-le-ENTRIES_MAX : goal.returns-then-len-le-ENTRIES_MAX
returns-then-len-le-ENTRIES_MAX c t is =
    let count = ap length (c.self.view_is ∙ is) in
    let few : length t.entries ≤ entries_limit = omega (arith, c.if-len-le-ENTRIES_MAX.true, c.len.ensures, count) in
    let narrow = widest_few entries_limit t few in
    grind (arith, nat_tests, narrow)

pub returns : goal.returns
returns c t is = ap (nat_lt entries_limit) (c.in_ok-widest.ensures t is)

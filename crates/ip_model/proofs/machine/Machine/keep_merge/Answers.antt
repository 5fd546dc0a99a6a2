use Rattle.std.proofs.Common.{◌<◌, ◌≤◌, sym, ◌∙◌, arith}
use Rattle.std.proofs.lemmas.Bool.Decides.{nat_tests}
use Rattle.ip_spec.specs.Tree.{widest}
use Rattle.ip_spec.specs.Step.{contents_limit, entries_limit, longest_value}
use Rattle.ip_model.specs.MergeTurns.{added_after}
use Rattle.ip_model.proofs.MachineLaws.{turned_so}
use Rattle.ip_model.proofs.MergeSteps.{too_long, too_wide, within, small_merge}
use Rattle.ip_model.proofs.machine.Machine.keep_merge.Goals as goal

pub returns-then-longest-gt-CONTENTS_MAX : goal.returns-then-longest-gt-CONTENTS_MAX
returns-then-longest-gt-CONTENTS_MAX c s t same short good high low is =
    let long = c.longest.ensures t same in
    let more : contents_limit < longest_value t = omega (arith, c.if-longest-gt-CONTENTS_MAX.true, long) in
    (s, is, too_long s c.args.number c.args.branch c.args.head c.args.info t more)

pub returns-then-branch : goal.returns-then-branch
returns-then-branch c s t same short good high low is =
    let long = c.longest.ensures t same in
    let wide = sym (c.in_ok-is_wide.ensures t same) ∙ c.if-branch.true in
    let few : longest_value t ≤ contents_limit = omega (arith, c.if-longest-gt-CONTENTS_MAX.false, long) in
    let more : entries_limit < widest t = grind (arith, nat_tests, wide) in
    (s, is, too_wide s c.args.number c.args.branch c.args.head c.args.info t few more)

pub returns : goal.returns
returns c s t same short good high low is =
    let long = c.longest.ensures t same in
    let wide = sym (c.in_ok-is_wide.ensures t same) ∙ c.if-branch.false in
    let few : longest_value t ≤ contents_limit = omega (arith, c.if-longest-gt-CONTENTS_MAX.false, long) in
    let narrow : widest t ≤ entries_limit = grind (arith, nat_tests, wide) in
    turned_so _ c.add_merge.result _ (added_after s c.args.number c.args.branch c.args.head c.args.info t) (within s c.args.number c.args.branch c.args.head c.args.info t few narrow)
    (c.add_merge.ensures s t same (small_merge t short narrow) good high low is)

use Rattle.std.proofs.Common.{◌≡◌, ap, arith, drop, ◌∙◌}
use Rattle.std.proofs.lemmas.List.{drop_all}
use Rattle.ip_shape.specs.Heights.{leaf_height}
use Rattle.ip_shape.proofs.Heights.{leaf_fold}
use Rattle.ip_shape.proofs.height.leaf_height.Goals as goal

pub returns-clause-lawful : goal.returns-clause-lawful
returns-clause-lawful c each =
    let none : leaf_height (drop c.loop-entry.entry-index c.args.entries.now) ≡ 0 = ap leaf_height (drop_all c.loop-entry.entry-index c.args.entries.now (omega (arith, c.loop-entry-test.false))) in
    let all : c.loop-entry.height ≡ leaf_height c.args.entries.now = omega (arith, none, c.loop-entry.invariant) in
    all ∙ leaf_fold c.args.entries.now each

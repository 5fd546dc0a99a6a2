use Rattle.std.proofs.Common.{◌≡◌, sym, ◌∙◌, true, false}
use Rattle.std.specs.Ordering.{eq_by_cmp}
use Rattle.ip_spec.specs.Path.{bytes_cmp}
use Rattle.ip_model_trees.proofs.Placing.{found_here, found_later}
use Rattle.ip_model.proofs.machine.number_of.Goals as goal

pub returns-then-is_eq : goal.returns-then-is_eq
returns-then-is_eq c =
    let name = c.args.name.now in
    let item = c.branch-item.result in
    let test : eq_by_cmp bytes_cmp name item.0 ≡ true = cc (c.cmp.ensures, c.is_eq.ensures, c.if-is_eq.true) in
    sym (found_here bytes_cmp name c.args.branches.now c.loop-branch.branch-index item c.loop-branch-test.true c.branch-item.is test) ∙ c.loop-branch.invariant

pub loop-branch-preserved : goal.loop-branch-preserved
loop-branch-preserved c =
    let name = c.args.name.now in
    let item = c.branch-item.result in
    let test : eq_by_cmp bytes_cmp name item.0 ≡ false = cc (c.cmp.ensures, c.is_eq.ensures, c.if-is_eq.false) in
    sym (found_later bytes_cmp name c.args.branches.now c.loop-branch.branch-index item c.loop-branch-test.true c.branch-item.is test) ∙ c.loop-branch.invariant

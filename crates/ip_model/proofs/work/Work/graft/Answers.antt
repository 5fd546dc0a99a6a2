use Rattle.std.proofs.Common.{◌+◌, ◌<◌, ◌≤◌, sym, ap, ◌∙◌, length, arith}
use Rattle.std.proofs.lemmas.Bool.Decides.{nat_tests}
use Rattle.ip_spec.specs.Tree.{place, height, widest}
use Rattle.ip_spec.specs.Step.{least_with, steps_limit, entries_limit}
use Rattle.ip_model.proofs.Grafted.{graft_none, graft_deep, graft_wide, graft_done}
use Rattle.ip_model.proofs.work.Work.graft.Goals as goal

pub returns-then-is_empty : goal.returns-then-is_empty
returns-then-is_empty c s t same is = (s.work, is, graft_none s c.args.number t c.args.to.now (sym (c.is_empty.ensures t same) ∙ c.if-is_empty.true))

pub returns-then-saturating_add-gt-STEPS_MAX : goal.returns-then-saturating_add-gt-STEPS_MAX
returns-then-saturating_add-gt-STEPS_MAX c s t same is =
    let high = c.height.ensures t same in
    let more : steps_limit < length c.args.to.now + height t = omega (arith, c.if-saturating_add-gt-STEPS_MAX.true, c.saturating_add.ensures, high) in
    (s.work, is, graft_deep s c.args.number t c.args.to.now (sym (c.is_empty.ensures t same) ∙ c.if-is_empty.false) more)

pub returns-then-branch : goal.returns-then-branch
returns-then-branch c s t same is =
    let to = c.args.to.now in
    let tree = place s.work.tree to t in
    let wide = sym (c.in_ok-is_wide.ensures tree (c.in_ok-tree.ensures s.work.tree t is.tree same)) ∙ c.if-branch.true in
    let high = c.height.ensures t same in
    let few : length to + height t ≤ steps_limit = omega (arith, c.if-saturating_add-gt-STEPS_MAX.false, c.saturating_add.ensures, high) in
    let more : entries_limit < widest tree = grind (arith, nat_tests, wide) in
    (s.work, is, graft_wide s c.args.number t to (sym (c.is_empty.ensures t same) ∙ c.if-is_empty.false) few more)

pub returns : goal.returns
returns c s t same is =
    let n = c.args.number in
    let to = c.args.to.now in
    let tree = place s.work.tree to t in
    let made = c.in_ok-tree.ensures s.work.tree t is.tree same in
    let wide = sym (c.in_ok-is_wide.ensures tree made) ∙ c.if-branch.false in
    let high = c.height.ensures t same in
    let few : length to + height t ≤ steps_limit = omega (arith, c.if-saturating_add-gt-STEPS_MAX.false, c.saturating_add.ensures, high) in
    let narrow : widest tree ≤ entries_limit = grind (arith, nat_tests, wide) in (
      record s.work { tree = tree; least = least_with s.work.least n },
      record { tree = made; parents = is.parents; least = c.least_with-self.ensures ∙ ap (λ l. least_with l n) is.least },
      graft_done s n t to (sym (c.is_empty.ensures t same) ∙ c.if-is_empty.false) few narrow,
    )

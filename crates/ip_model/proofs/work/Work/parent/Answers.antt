use Rattle.std.proofs.Common.{◌≤◌, ◌<◌, refl, sym, ◌∙◌, length, arith}
use Rattle.ip_model.proofs.WorkLaws.{parent_again, parent_full, parent_more}
use Rattle.ip_model.proofs.work.Work.parent.Goals as goal

pub returns-then-goes_on_from : goal.returns-then-goes_on_from
returns-then-goes_on_from c s is =
    let n = c.args.number in
    let test = sym c.goes_on_from.ensures ∙ c.if-goes_on_from.true in
    parent_again c.args.self.now s is n test

pub returns-then-len-ge-PARENTS_MAX : goal.returns-then-len-ge-PARENTS_MAX
returns-then-len-ge-PARENTS_MAX c s is =
    let n = c.args.number in
    let test = sym c.goes_on_from.ensures ∙ c.if-goes_on_from.false in
    let many : 16 ≤ length c.args.self.now.parents = omega (arith, c.if-len-ge-PARENTS_MAX.true, c.len.ensures) in
    parent_full c.args.self.now s is n test many

pub returns : goal.returns
returns c s is =
    let n = c.args.number in
    let test = sym c.goes_on_from.ensures ∙ c.if-goes_on_from.false in
    let few : length c.args.self.now.parents < 16 = omega (arith, c.if-len-ge-PARENTS_MAX.false, c.len.ensures) in
    parent_more c.args.self.now s is n test few _ refl c.in_ok-push.ensures.ok c.least_with-self.ensures

use Rattle.std.proofs.Common.{sym, ◌∙◌, true, false}
use Rattle.ip_spec.specs.Tree.{subtree, remove}
use Rattle.ip_model.proofs.WorkLaws.{rm_tests}
use Rattle.ip_model.proofs.work.Work.rm.Goals as goal

pub returns-then-is_empty : goal.returns-then-is_empty
returns-then-is_empty c s floor is =
    let path = c.args.path.now in
    let test = sym (c.is_empty.ensures (subtree s.work.tree path) (c.in_ok-sub.ensures s.work.tree is.tree)) ∙ c.if-is_empty.true in
    (s.work, is, rm_tests s floor path true test)

pub returns : goal.returns
returns c s floor is =
    let path = c.args.path.now in
    let test = sym (c.is_empty.ensures (subtree s.work.tree path) (c.in_ok-sub.ensures s.work.tree is.tree)) ∙ c.if-is_empty.false in
    (record s.work { tree = remove s.work.tree path }, record { tree = c.in_ok-self.ensures s.work.tree is.tree; parents = is.parents; least = is.least }, rm_tests s floor path false test)

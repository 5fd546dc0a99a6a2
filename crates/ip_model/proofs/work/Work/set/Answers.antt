use Rattle.std.proofs.Common.{◌<◌, ◌≤◌, sym, ◌∙◌, length, arith}
use Rattle.std.proofs.lemmas.Bool.Decides.{nat_tests}
use Rattle.ip_spec.specs.Tree.{put, widest}
use Rattle.ip_spec.specs.Step.{contents_limit, entries_limit}
use Rattle.ip_model.proofs.WorkLaws.{set_long, set_wide, set_done}
use Rattle.ip_model.proofs.work.Work.set.Goals as goal

pub returns-then-len-gt-CONTENTS_MAX : goal.returns-then-len-gt-CONTENTS_MAX
returns-then-len-gt-CONTENTS_MAX c s floor is =
    let bytes = c.args.contents in
    let more : contents_limit < length bytes = omega (arith, c.if-len-gt-CONTENTS_MAX.true, c.len.ensures) in
    (s.work, is, set_long s floor c.args.path.now bytes more)

pub returns-then-branch : goal.returns-then-branch
returns-then-branch c s floor is =
    let bytes = c.args.contents in
    let tree = put s.work.tree c.args.path.now bytes in
    let wide = sym (c.in_ok-is_wide.ensures tree (c.in_ok-tree.ensures s.work.tree is.tree)) ∙ c.if-branch.true in
    let few : length bytes ≤ contents_limit = omega (arith, c.if-len-gt-CONTENTS_MAX.false, c.len.ensures) in
    let more : entries_limit < widest tree = grind (arith, nat_tests, wide) in
    (s.work, is, set_wide s floor c.args.path.now bytes few more)

pub returns : goal.returns
returns c s floor is =
    let bytes = c.args.contents in
    let tree = put s.work.tree c.args.path.now bytes in
    let made = c.in_ok-tree.ensures s.work.tree is.tree in
    let wide = sym (c.in_ok-is_wide.ensures tree made) ∙ c.if-branch.false in
    let few : length bytes ≤ contents_limit = omega (arith, c.if-len-gt-CONTENTS_MAX.false, c.len.ensures) in
    let narrow : widest tree ≤ entries_limit = grind (arith, nat_tests, wide) in
    (record s.work { tree = tree }, record { tree = made; parents = is.parents; least = is.least }, set_done s floor c.args.path.now bytes few narrow)

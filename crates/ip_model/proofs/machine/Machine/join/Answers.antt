use Rattle.std.proofs.Common.{◌<◌, ◌≤◌, length, ap, sym, subst, ◌∙◌, arith}
use Rattle.ip_spec.specs.History.{lcas}
use Rattle.ip_spec.specs.Repository.{tree_at}
use Rattle.ip_spec.specs.MergeModel.{base_of}
use Rattle.ip_model_trees.specs.declared.merging.Joined.{Joined}
use Rattle.ip_model_trees.specs.Merging.{MergesTo}
use Rattle.ip_model.proofs.MergeSteps.{several, conflicting, merging, short_merge}
use Rattle.ip_model.proofs.machine.Machine.join.Goals as goal

pub returns-then-len-gt1 : goal.returns-then-len-gt1
returns-then-len-gt1 g c s sound good one high low is =
    let least = ap length (c.in_ok-least.ensures s.repository sound.repository is.commits) in
    let many : 1 < length (lcas s.repository c.args.head c.args.number) = omega (arith, c.if-len-gt1.true, c.len.ensures, least) in
    several (g.D.Decides.rule c.args.rules.now) s is.phase c.args.number c.args.branch c.args.head c.args.info c.args.self.now is _ many (c.in_ok-count_of.ensures ∙ (c.len-then-len-gt1.ensures ∙ least))

pub returns-in-Merged : goal.returns-in-Merged
returns-in-Merged g c s sound good one high low is =
    let rule = g.D.Decides.rule c.args.rules.now in
    let r = s.repository in
    let n = c.args.number in
    let h = c.args.head in
    let common = c.in_ok-least.ensures r sound.repository is.commits in
    let least = ap length common in
    let few : length (lcas r h n) ≤ 1 = omega (arith, c.if-len-gt1.false, c.len.ensures, least) in
    let base = c.in_ok-base.ensures s is ∙ ap (λ cs. (base_of r cs).entries) (c.as_slice.ensures ∙ common) in
    let to = c.in_ok-tree.ensures (base_of r (lcas r h n)) (tree_at r h) (tree_at r n) base (c.in_ok-left.ensures s is) (c.in_ok-right.ensures s is) one in
    let told = subst (λ (j : Joined). MergesTo rule (base_of r (lcas r h n)) (tree_at r h) (tree_at r n) j) c.in-Merged.is to in
    merging rule s is.phase n c.args.branch h c.args.info few told.0 told.2 _ c.keep_merge.result
    (c.keep_merge.ensures s told.0 told.1 (short_merge rule s sound.repository n h (lcas r h n) told.0 told.2) good high low is)

pub returns-in-Conflict : goal.returns-in-Conflict
returns-in-Conflict g c s sound good one high low is =
    let rule = g.D.Decides.rule c.args.rules.now in
    let r = s.repository in
    let n = c.args.number in
    let h = c.args.head in
    let common = c.in_ok-least.ensures r sound.repository is.commits in
    let least = ap length common in
    let few : length (lcas r h n) ≤ 1 = omega (arith, c.if-len-gt1.false, c.len.ensures, least) in
    let base = c.in_ok-base.ensures s is ∙ ap (λ cs. (base_of r cs).entries) (c.as_slice.ensures ∙ common) in
    let to = c.in_ok-tree.ensures (base_of r (lcas r h n)) (tree_at r h) (tree_at r n) base (c.in_ok-left.ensures s is) (c.in_ok-right.ensures s is) one in
    let told = subst (λ (j : Joined). MergesTo rule (base_of r (lcas r h n)) (tree_at r h) (tree_at r n) j) c.in-Conflict.is to in
    conflicting rule s is.phase n c.args.branch h c.args.info few c.in-Conflict.path told c.args.self.now is

use Rattle.std.specs.Option.{option_copied}
use Rattle.ip_spec.specs.Merge.{same_merger}
use Rattle.ip_merge.proofs.Answered.{answer_is}
use Rattle.ip_merge.proofs.RuleLaws.{picked_answers, unpicked_answers}
use Rattle.ip_merge.proofs.rules.Rules.merge_at.Goals as goal

pub returns-in-Some : goal.returns-in-Some
returns-in-Some g c =
    let o = option_copied c.args.base in
    let a = option_copied c.args.left in
    let b = option_copied c.args.right in
    picked_answers (λ r. r.at) c.args.path.now _ c.merge.result c.args.self.now.list.items c.in-Some.ensures.0 c.in-Some.ensures.1 o a b
    (rw c.in-Some.ensures.2 c.merge.ensures)

pub returns-in-None : goal.returns-in-None
returns-in-None g c =
    unpicked_answers (λ r. r.at) c.args.path.now _ c.merge-in-None.result c.args.self.now.list.items c.in-None.ensures
    (option_copied c.args.base) (option_copied c.args.left) (option_copied c.args.right)
    (answer_is (same_merger (option_copied c.args.base) (option_copied c.args.left) (option_copied c.args.right)) c.merge-in-None.result c.merge-in-None.ensures)

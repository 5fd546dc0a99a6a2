-- One more reference, and all of them.
use Rattle.std.proofs.Common.{◌≡◌, ◌+◌, ◌++◌, ◌∷◌, [], sym, subst, get_or, take}
use Rattle.std.proofs.lemmas.List.{take_more, take_all}
use Rattle.ip_gen.proofs.Appending.{Added, added_skip, added_one}
use Rattle.ip_gen.proofs.sweep.insert_below.Goals as goal
use Rattle.ip_gen.proofs.sweep.insert_below.Goals.{then-at-commit+in_ok-insert, else-at-commit}

pub loop-at-preserved : goal.loop-at-preserved
loop-at-preserved c =
    let refs = c.args.refs.now in
    let i = c.loop-at.at-index in
    let x = get_or refs i 0 in
    let more : take (i + 1) refs ≡ take i refs ++ x ∷ [] = take_more refs i 0 c.loop-at-test.true in
    elim c.if-at-commit.branch [
      | then-at-commit+in_ok-insert w ↦
          rw w.kept-is (record {
            ordered = w.insert.ensures.ordered;
            added = subst (λ rs. Added c.args.kept.now.keys w.insert.new.self.keys rs c.args.commit) (sym more) (added_one c.args.kept.now.keys (take i refs) c.loop-at.kept w.insert.new.self c.args.commit x w.if-at-commit.true w.in_ok-insert.ensures.updates c.loop-at.invariant.added);
          })
      | else-at-commit w ↦
          rw w.kept-is (record {
            ordered = c.loop-at.invariant.ordered;
            added = subst (λ rs. Added c.args.kept.now.keys c.loop-at.kept.keys rs c.args.commit) (sym more) (added_skip c.args.kept.now.keys c.loop-at.kept.keys (take i refs) c.args.commit x w.if-at-commit.false c.loop-at.invariant.added);
          })
    ]

pub returns-clause-added : goal.returns-clause-added
returns-clause-added c =
    subst (λ rs. Added c.args.kept.now.keys c.loop-at.kept.keys rs c.args.commit) (take_all c.loop-at.at-index c.args.refs.now c.loop-at-test.false) c.loop-at.invariant.added

use Rattle.ip_spec.specs.Map.{get}
use Rattle.ip_three.proofs.ContentsFound.{decided_all, decided_settled}
use Rattle.ip_three.proofs.contents.decide.Goals as goal

pub returns-in-Some-clause-decided : goal.returns-in-Some-clause-decided
returns-in-Some-clause-decided g c tells records b l r over base left right =
    let p = c.args.path.now in
    decided_settled (g.D.Decides.rule c.args.rules.now) b l r p c.in-Some.decided
    (c.in-Some.ensures records (get b.map p) (get l.map p) (get r.map p) (c.content_of-old.ensures records b p base) (c.content_of-one.ensures records l p left) (c.content_of-other.ensures records r p right))

pub returns-clause-decided : goal.returns-clause-decided
returns-clause-decided g c tells records b l r over base left right =
    let p = c.args.path.now in
    decided_all (g.D.Decides.rule c.args.rules.now) b l r p c.ask.result
    (c.ask.ensures.decided tells records (get b.map p) (get l.map p) (get r.map p) over (c.content_of-old.ensures records b p base) (c.content_of-one.ensures records l p left) (c.content_of-other.ensures records r p right))

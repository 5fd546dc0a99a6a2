use Rattle.std.proofs.Common.{◌≡◌, ℕ, sym, ◌∙◌, ap, subst}
use Rattle.ip_spec.specs.declared.met.Child.{Child}
use Rattle.ip_spec.specs.declared.met.Met.{Met}
use Rattle.ip_collects.specs.Concluding.{AsksChild, ConcludesAs, most_of}
use Rattle.ip_collects.specs.Ending.{Goes}
use Rattle.ip_collects.specs.Finishing.{LooksWithin, met_by_finish}
use Rattle.ip_collects.proofs.Concluded.{concludes_as}
use Rattle.ip_collects.proofs.finishing.conclude.Goals.{then-wait, else-wait}
use Rattle.ip_collects.proofs.finishing.conclude.Goals as goal

pub returns-clause-concludes : goal.returns-clause-concludes
returns-clause-concludes g c =
    let child = c.asked-child.result in
    let result = c.goes-answer.result.0 in
    let left = c.goes-answer.result.1 in
    let most : c.if-wait.most ≡ most_of c.args.wait = elim c.if-wait.branch [
      | then-wait w ↦ w.most-is ∙ ap most_of (sym w.if-wait.true)
      | else-wait w ↦ w.most-is ∙ ap most_of (sym w.if-wait.false)
    ] in
    let goes = subst (λ (n : ℕ). Goes child n result (met_by_finish child result left) c.args.store.now c.goes-answer.new.store) most c.goes-answer.ensures.goes in
    subst (λ (m : Met). ConcludesAs g.G.Ground.tells c.args.wait result m c.args.store.now c.goes-answer.new.store (g.G.Ground.told c.args.outside.now) (g.G.Ground.told c.goes-answer.new.outside)) (sym c.met_by_finish.ensures)
    (concludes_as g.G.Ground.tells c.args.wait child result left c.args.store.now c.goes-answer.new.store (g.G.Ground.told c.args.outside.now) (g.G.Ground.told c.goes-answer.new.outside) goes
    c.asked-child.ensures.ended (λ quiet. ap g.G.Ground.told (c.goes-answer.ensures.quiet quiet)) c.goes-answer.ensures.any_moment
    (λ told r held x runs collected. subst (λ (n : ℕ). LooksWithin n held.stands.standing.records x) most (c.goes-answer.ensures.bounded told r held x runs collected)) c.goes-answer.ensures.undamaged c.goes-answer.ensures.untouched c.goes-answer.ensures.blames c.goes-answer.ensures.broken c.goes-answer.ensures.works_stay)

pub returns-clause-kept : goal.returns-clause-kept
returns-clause-kept g c x reaped runs exit = (let kept = c.asked-child.ensures.kept x reaped runs exit in (kept.0, ap (λ (m : Met). m.child) c.met_by_finish.ensures ∙ kept.1))

pub returns-clause-asked : goal.returns-clause-asked
returns-clause-asked g c x runs none =
    subst (λ (k : Child). AsksChild c.args.wait x.job.attempt k g.P.Spawner.tells (g.P.Spawner.told c.args.spawner.now) (g.P.Spawner.told c.asked-child.new.spawner) (g.P.Spawner.counts_of c.args.spawner.now) (g.P.Spawner.counts_of c.asked-child.new.spawner))
    (sym (ap (λ (m : Met). m.child) c.met_by_finish.ensures)) (c.asked-child.ensures.asked x runs none)

use Rattle.ip_save.specs.Reused.{IsDirectoryThere, IsThere}
use Rattle.ip_tree.proofs.Looking.{looks_on}
use Rattle.ip_save.proofs.Finding.{held_later, lost_result}
use Rattle.ip_save.proofs.fresh.held_at.Goals as goal

pub returns-in-Ok-clause-found : goal.returns-in-Ok-clause-found
returns-in-Ok-clause-found g c tells readable =
    held_later g.G.Ground.tells _ _ _ _ c.in-Ok.ensures.looks tells readable c.args.bytes.now c.in-Ok.entry _ (c.in-Ok.ensures.found tells readable) c.held_by.result
    (c.held_by.ensures.found tells ((c.in-Ok.ensures.looks.reads tells).readable readable))

pub returns-in-Ok-clause-lost : goal.returns-in-Ok-clause-lost
returns-in-Ok-clause-lost g c =
    lost_result g.G.Ground.tells _ _ _ _ c.in-Ok.ensures.looks (λ records. IsDirectoryThere records c.args.other.now) (λ records. IsThere records c.in-Ok.entry) (λ t records over there. c.in-Ok.ensures.there t records over there) c.held_by.result c.held_by.ensures.lost

pub returns-in-Ok-clause-looks : goal.returns-in-Ok-clause-looks
returns-in-Ok-clause-looks g c = looks_on g.G.Ground.tells _ _ _ _ _ _ c.in-Ok.ensures.looks c.held_by.ensures.looks

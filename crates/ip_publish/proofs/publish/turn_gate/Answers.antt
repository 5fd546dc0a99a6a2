use Rattle.ip_ground.specs.declared.names.FileName.TheVariants.{Control}
use Rattle.ip_ground.specs.Told.{Only}
use Rattle.ip_ground.proofs.Spans.{only_on}
use Rattle.ip_publish.proofs.Turning.{turns_cut, turns}
use Rattle.ip_publish.proofs.publish.turn_gate.Goals as goal

pub returns-in_err-prepare-clause-does : goal.returns-in_err-prepare-clause-does
returns-in_err-prepare-clause-does g c told ready newer = turns_cut c.args.slot c.args.fields.now _ _ _ _ c.from_residual.ensures.0 (c.prepare.ensures.does told ready newer)

pub returns-clause-does : goal.returns-clause-does
returns-clause-does g c told ready newer =
    turns c.args.slot c.args.fields.now _ _ (c.in_ok-prepare.ensures.does told ready newer) ready (g.met.G.Ground.possible _ told) _ _
    (c.open_gate.ensures.does told (c.in_ok-prepare.ensures.does told ready newer).ok)

pub returns-clause-only : goal.returns-clause-only
returns-clause-only g c told = only_on _ _ _ (Only Control) (c.in_ok-prepare.ensures.only told) (c.open_gate.ensures.only told)

use Rattle.std.proofs.Common.{ap, ◌∙◌}
use Rattle.ip_model.specs.declared.work.Work.{Work}
use Rattle.ip_model.proofs.CheckedOut.{checked_out}
use Rattle.ip_model.proofs.machine.Machine.check_out.Goals as goal

pub returns : goal.returns
returns c s low is =
    let made = c.in_ok-self.ensures in
    checked_out c.args.self.now s is c.args.number low c.in_ok-self.field-0
    (ap (λ (w : Work). w.tree) made ∙ c.in_ok-tree_at.ensures s is) (ap (λ (w : Work). w.parents) made) (ap (λ (w : Work). w.least) made)
    c.name_of.result c.name_of.ensures

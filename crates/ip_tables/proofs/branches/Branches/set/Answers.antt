use Rattle.std.proofs.Common.{◌∙◌, sym}
use Rattle.ip_tables.proofs.Numbered.{get_is, on_err, same_branches, set_is}
use Rattle.ip_tables.proofs.branches.Branches.set.Goals as goal

pub returns-in_err-insert-clause-err : goal.returns-in_err-insert-clause-err
returns-in_err-insert-clause-err c = on_err c.from_residual.result _ (same_branches c.self.inside.entries c.insert.new.self c.in_err-insert.ensures.err ∙ c.self.view_is)

pub returns-in_err-insert-clause-absent : goal.returns-in_err-insert-clause-absent
returns-in_err-insert-clause-absent c =
    on_err c.from_residual.result _ (sym (get_is c.self.inside.entries c.self.invariant c.args.self.now c.self.view_is c.args.name.items) ∙ c.in_err-insert.ensures.absent)

pub returns-clause-ok : goal.returns-clause-ok
returns-clause-ok c =
    set_is c.self.inside.entries c.self.invariant c.args.self.now c.self.view_is c.insert.new.self c.in_ok-insert.ensures.ordered c.args.name c.args.number c.in_ok-insert.ensures.entries

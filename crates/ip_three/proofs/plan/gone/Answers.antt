use Rattle.std.proofs.Common.{cond, sym, ap, ◌∙◌, ◌++◌, ◌∷◌, []}
use Rattle.ip_three.proofs.plan.gone.Goals as goal

pub returns-in_ok-remove-clause-gone : goal.returns-in_ok-remove-clause-gone
returns-in_ok-remove-clause-gone c records l is =
    c.in_ok-remove.ensures.gone
    ∙ ap (λ b. cond b (c.args.plan.now.gone.items ++ c.args.path.now ∷ []) c.args.plan.now.gone.items) (sym c.if-holds_contents.true ∙ c.holds_contents.ensures records l c.args.path.now is)

pub returns-else-holds_contents-clause-gone : goal.returns-else-holds_contents-clause-gone
returns-else-holds_contents-clause-gone c records l is =
    ap (λ b. cond b (c.args.plan.now.gone.items ++ c.args.path.now ∷ []) c.args.plan.now.gone.items) (sym c.if-holds_contents.false ∙ c.holds_contents.ensures records l c.args.path.now is)

use Rattle.std.proofs.Common.{inl, inr, refl, sym, ◌∙◌, arith}
use Rattle.ip_audit.proofs.Agreeing.{shared_places}
use Rattle.ip_audit.proofs.kept.agreed_with.Goals as goal

pub returns-then-at-clause-shared : goal.returns-then-at-clause-shared
returns-then-at-clause-shared c =
    let l = c.loop-depth-test.true in
    shared_places c.args.first.now c.args.other.now c.args.most c.loop-depth.depth c.requires (omega (arith, l)) c.loop-depth.invariant (inr (l, λ e. c.if-at.true (c.at.ensures ∙ e ∙ sym c.at-in-loop-depth.ensures)))

pub returns-clause-shared : goal.returns-clause-shared
returns-clause-shared c =
    let l = c.loop-depth-test.false in
    shared_places c.args.first.now c.args.other.now c.args.most c.args.most c.requires (omega arith) (λ e m. c.loop-depth.invariant e (omega (arith, l, m))) (inl refl)

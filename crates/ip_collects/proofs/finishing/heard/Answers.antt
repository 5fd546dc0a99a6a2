use Rattle.std.proofs.Common.{◌≡◌, Some, None, sym, ◌∙◌, ap, subst}
use Rattle.ip_held.specs.declared.collection.Collection.{Collection}
use Rattle.ip_collects.proofs.FinishCalls.{exit_known, exit_unknown, known_same, on_err_of, same_running}
use Rattle.ip_collects.proofs.FinishSpans.{listens_at, listens_none}
use Rattle.ip_collects.proofs.finishing.heard.Goals as goal

pub returns-then-has_exit-clause-heard : goal.returns-then-has_exit-clause-heard
returns-then-has_exit-clause-heard g c x runs =
    let (y, is, may) = c.requires.running in
    let same = same_running c.args.store.now.collection y x is runs in
    known_same c.args.store.now x c.args.reaped runs (subst (λ (z : Collection). z.exit ≡ Some c.args.reaped) same (exit_known y.exit y.job.attempt c.args.reaped may (sym (c.has_exit.ensures y is) ∙ c.if-has_exit.true)))

pub returns-then-has_exit-clause-does : goal.returns-then-has_exit-clause-does
returns-then-has_exit-clause-does g c told x runs = listens_none x.job.attempt _

pub hear-requires : goal.hear-requires
hear-requires g c =
    let (y, is, may) = c.requires.running in
    let unknown = exit_unknown y.exit y.job.attempt c.args.reaped may (sym (c.has_exit.ensures y is) ∙ c.if-has_exit.false) in
    record { running = (y, is, unknown.0, unknown.1) }

pub returns-clause-does : goal.returns-clause-does
returns-clause-does g c told x runs =
    let (y, is, may) = c.requires.running in
    let unknown = exit_unknown y.exit y.job.attempt c.args.reaped may (sym (c.has_exit.ensures y is) ∙ c.if-has_exit.false) in
    listens_at c.args.reaped.attempt x.job.attempt _ _ c.hear.result (unknown.1 ∙ ap (λ (z : Collection). z.job.attempt) (same_running c.args.store.now.collection y x is runs)) (c.hear.ensures.does told)

pub returns-clause-unheard : goal.returns-clause-unheard
returns-clause-unheard g c =
    let (y, is, may) = c.requires.running in
    let unknown = exit_unknown y.exit y.job.attempt c.args.reaped may (sym (c.has_exit.ensures y is) ∙ c.if-has_exit.false) in
    on_err_of c.hear.result _ (λ x runs. subst (λ (z : Collection). z.exit ≡ None) (same_running c.args.store.now.collection y x is runs) unknown.0)

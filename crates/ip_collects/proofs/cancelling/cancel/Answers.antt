use Rattle.std.proofs.Common.{◌≡◌, rules, true, Ok, Err, sym, ◌∙◌, subst}
use Rattle.ip_spec.specs.declared.met.Met.{Met}
use Rattle.ip_collects.specs.declared.cancelling.CancelFault.TheVariants as CancelFault
use Rattle.ip_collects.specs.declared.cancelling.Cancelled.TheVariants as Cancelled
use Rattle.ip_collects.specs.Cancelling.{CancelsCollecting}
use Rattle.ip_collects.proofs.Cancels.{ending, none_runs}
use Rattle.ip_collects.proofs.CollectCancels.{idle_cancels, orphan_cancels, cut_cancels, done_cancels}
use Rattle.ip_collects.proofs.cancelling.cancel.Goals as goal

pub returns-in_default-clause-cancels : goal.returns-in_default-clause-cancels
returns-in_default-clause-cancels g c =
    subst (λ (met : Met). CancelsCollecting g.G.Ground.tells (Err CancelFault.Idle) met c.args.store.now (ending c.args.store.now c.take.new.self c.args.store.now.unswept) (g.G.Ground.told c.args.outside.now) (g.G.Ground.told c.args.outside.now)) (sym c.nothing_met.ensures)
    (idle_cancels g.G.Ground.tells c.args.store.now (g.G.Ground.told c.args.outside.now) c.take.new.self c.take.ensures.after (none_runs c.args.store.now.collection (λ x e. c.in_default.not-Some x (c.take.ensures.value ∙ e))))

pub returns-in-Err-clause-cancels : goal.returns-in-Err-clause-cancels
returns-in-Err-clause-cancels g c =
    subst (λ (met : Met). CancelsCollecting g.G.Ground.tells (Ok Cancelled.Orphan) (record met { kill_failed = true }) c.args.store.now (ending c.args.store.now c.take.new.self c.args.store.now.unswept) (g.G.Ground.told c.args.outside.now) (g.G.Ground.told c.args.outside.now)) (sym c.nothing_met-in-Err.ensures)
    (orphan_cancels g.G.Ground.tells c.args.store.now (g.G.Ground.told c.args.outside.now) c.take.new.self c.take.ensures.after c.in-Some.collection (sym c.take.ensures.value ∙ c.in-Some.is) c.in-None.is)

pub returns-in_err-settle-clause-cancels : goal.returns-in_err-settle-clause-cancels
returns-in_err-settle-clause-cancels g c =
    let e : c.from_residual.result ≡ Err CancelFault.Ground = search rules in
    subst (λ out. CancelsCollecting g.G.Ground.tells out c.nothing_met.result c.args.store.now (ending c.args.store.now c.take.new.self c.args.store.now.unswept) (g.G.Ground.told c.args.outside.now) (g.G.Ground.told c.settle.new.self)) (sym e)
    (subst (λ (met : Met). CancelsCollecting g.G.Ground.tells (Err CancelFault.Ground) met c.args.store.now (ending c.args.store.now c.take.new.self c.args.store.now.unswept) (g.G.Ground.told c.args.outside.now) (g.G.Ground.told c.settle.new.self)) (sym c.nothing_met.ensures)
    (cut_cancels g.G.Ground.tells c.args.store.now (g.G.Ground.told c.args.outside.now) c.take.new.self c.take.ensures.after c.in-Some.collection (sym c.take.ensures.value ∙ c.in-Some.is) c.in_err-settle.field-0.0 (g.G.Ground.told c.settle.new.self)
    c.in_err-settle.ensures.does))

pub returns-clause-cancels : goal.returns-clause-cancels
returns-clause-cancels g c =
    subst (λ (met : Met). CancelsCollecting g.G.Ground.tells (Ok Cancelled.Done) (record met { left = c.sweep-left.result }) c.args.store.now c.sweep-left.new.store (g.G.Ground.told c.args.outside.now) (g.G.Ground.told c.sweep-left.new.outside)) (sym c.nothing_met-2.ensures)
    (done_cancels g.G.Ground.tells c.args.store.now (g.G.Ground.told c.args.outside.now) c.take.new.self c.take.ensures.after c.in-Some.collection (sym c.take.ensures.value ∙ c.in-Some.is) c.sweep-left.result (g.G.Ground.told c.settle.new.self)
    (g.G.Ground.told c.sweep-left.new.outside) c.in_ok-settle.ensures.does c.sweep-left.ensures.does c.sweep-left.new.store c.sweep-left.ensures.unswept)

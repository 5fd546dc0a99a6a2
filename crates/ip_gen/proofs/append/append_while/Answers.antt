use Rattle.std.proofs.Common.{refl, subst, add-one}
use Rattle.ip_spec.specs.Core.{Follows}
use Rattle.ip_gen.specs.Phases.{phase_of}
use Rattle.ip_gen.proofs.Appending.{appends_more}
use Rattle.ip_gen.proofs.append.append_while.Goals as goal

pub loop-record-preserved : goal.loop-record-preserved
loop-record-preserved c =
    rw (add-one, c.in_ok-push.ensures.items)
    (appends_more c.args.records.now.items c.loop-record.records.items c.args.more.now _ c.loop-record.record-index c.record-item.result c.in_ok-copy_of.field-0 c.loop-record-test.true c.record-item.is c.in_ok-copy_of.ensures (subst (λ rs. Follows rs (phase_of c.args.phase.now) c.record-item.result) c.deref.ensures.value (c.if-not-follows.ensures.0 refl))
    c.loop-record.invariant)

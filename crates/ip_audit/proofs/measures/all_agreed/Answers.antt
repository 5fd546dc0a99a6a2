use Rattle.std.proofs.Common.{sym, ◌∙◌, ap, arith, take, drop}
use Rattle.std.specs.Prelude.{map}
use Rattle.ip_spec.specs.declared.record.LeafEntry.{LeafEntry}
use Rattle.ip_audit.specs.Memory.{shared}
use Rattle.ip_audit.specs.View.{places_in}
use Rattle.ip_audit.proofs.Agreeing.{common_stop, common_all, common_more}
use Rattle.ip_audit.proofs.measures.all_agreed.Goals as goal

pub loop-entry-init : goal.loop-entry-init
loop-entry-init c = record { common = common_all c.args.first.now (map (λ (e : LeafEntry). e.step) c.args.entries.now); most = omega arith }

pub returns-then-agreed-eq0-clause-common : goal.returns-then-agreed-eq0-clause-common
returns-then-agreed-eq0-clause-common c = common_stop c.args.first.now _ c.loop-entry.agreed (map (λ (e : LeafEntry). e.step) (drop c.loop-entry.entry-index c.args.entries.now)) c.if-agreed-eq0.true c.loop-entry.invariant.common

pub loop-entry-preserved : goal.loop-entry-preserved
loop-entry-preserved c = record {
  common = common_more c.args.first.now _ c.loop-entry.agreed c.agreed_with-agreed.result c.loop-entry.entry-index c.args.entries.now c.entry-item.result c.loop-entry-test.true c.entry-item.is (ap (λ d. shared (take c.loop-entry.agreed (places_in c.args.first.now)) (places_in d)) (sym c.of.ensures) ∙ c.agreed_with-agreed.ensures.shared) c.loop-entry.invariant.common;
  most = let a = c.agreed_with-agreed.ensures.most in let b = c.loop-entry.invariant.most in omega (arith, a, b);
}

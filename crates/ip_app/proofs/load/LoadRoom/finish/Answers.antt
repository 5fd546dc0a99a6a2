use Rattle.std.proofs.Common.{◌∙◌}
use Rattle.ip_app.proofs.SummaryLemmas.{finish_cut, summed_done, summed_fault}
use Rattle.ip_app.proofs.load.LoadRoom.finish.Goals as goal

pub returns-in-Err-clause-finishes : goal.returns-in-Err-clause-finishes
returns-in-Err-clause-finishes g c source_tells left read_faults known r v works replies tallies =
    finish_cut _ c.in-Err.status known _ _ _ _ _ c.args.session.now c.exchange.new.session r v (c.in-Err.ensures.cut source_tells left read_faults known r v works)

pub returns-in-Ok-clause-finishes : goal.returns-in-Ok-clause-finishes
returns-in-Ok-clause-finishes g c source_tells left read_faults known r v works replies tallies =
    summed_done _ known _ _ _ _ c.deref.result.now c.deref-2.result.now _ _ _ _ r v (c.in_default.ensures.replied source_tells left read_faults known r v works) (c.deref.ensures.value ∙ c.line-line.ensures replies tallies) c.deref-2.ensures.value _ _ (λ is. (works is).1.holds.kept) (λ is. g.met.G.Ground.possible c.exchange.new.ground (works is).0) (λ is. c.in-Ok.ensures.does (works is).0) c.in-Ok.ensures.counts

pub returns-clause-finishes : goal.returns-clause-finishes
returns-clause-finishes g c source_tells left read_faults known r v works replies tallies =
    summed_fault _ known _ _ _ _ c.deref.result.now c.deref-2.result.now _ _ _ _ r v (c.in_default.ensures.replied source_tells left read_faults known r v works) (c.deref.ensures.value ∙ c.line-line.ensures replies tallies) c.deref-2.ensures.value _ _ (λ is. (works is).1.holds.kept) (λ is. g.met.G.Ground.possible c.exchange.new.ground (works is).0) _ (λ is. c.in-Err-say_both.ensures.does (works is).0) c.exchange.ensures.sayable c.in-Err-say_both.ensures.counts

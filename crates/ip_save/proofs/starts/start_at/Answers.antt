use Rattle.std.proofs.Common.{◌≡◌, rules, subst, sym}
use Rattle.std.specs.Prelude.{Ok, Err}
use Rattle.std.proofs.lemmas.Fn.{always_returns_same}
use Rattle.ip_spec.specs.Path.{bytes_cmp}
use Rattle.ip_save.specs.Laid.{BeginsWith, start_in, tallies_in}
use Rattle.ip_save.specs.declared.starts.Start.{Start}
use Rattle.ip_save.proofs.Tables.{at_ahead, at_start, searched}
use Rattle.ip_save.proofs.starts.start_at.Goals as goal

pub returns-in-Ok : goal.returns-in-Ok
returns-in-Ok c ns from up are there =
    let found =
    searched ns from c.args.starts.now c.args.step.now (Ok c.in-Ok.i) up are there
    (c.in-Ok.ensures.position (λ x. bytes_cmp x.step.now c.args.step.now) (always_returns_same _ (λ a r. r ≡ bytes_cmp a.0.now.step.now c.args.step.now) _ (λ a r q k. search rules))) in
    subst (λ (x : Start). (x.refs.now ≡ start_in ns from c.args.step.now) × BeginsWith (tallies_in ns c.args.step.now) x.ahead.now) (sym c.index-starts-i.is)
    (at_start ns from c.args.starts.now c.in-Ok.i c.args.step.now up are c.in-Ok.ensures.bound found c.index-starts-i.result, at_ahead ns from c.args.starts.now c.in-Ok.i c.args.step.now up are c.in-Ok.ensures.bound found c.index-starts-i.result)

pub returns-in-Err : goal.returns-in-Err
returns-in-Err c ns from up are there =
    absurd
    (searched ns from c.args.starts.now c.args.step.now (Err c.in-Err.field-0) up are there
    (c.in-Err.ensures.position (λ x. bytes_cmp x.step.now c.args.step.now) (always_returns_same _ (λ a r. r ≡ bytes_cmp a.0.now.step.now c.args.step.now) _ (λ a r q k. search rules))))

use Rattle.std.proofs.Common.{ℕ, sym, subst}
use Rattle.ip_spec.specs.Record.{Fits}
use Rattle.ip_held.proofs.Listed.{newest}
use Rattle.ip_opens.proofs.walk.take_record.Goals as goal

pub returns-in-Ok : goal.returns-in-Ok
returns-in-Ok c before tells beyond =
    let slot = c.args.slot.now in
    c.in-Ok.ensures slot before c.requires.slot (subst (λ (v : ℕ). Fits v c.args.rec) (sym (newest slot c.requires.slot)) c.requires.bounds) (c.may_stand.ensures.0 c.if-not-may_stand.false) tells beyond

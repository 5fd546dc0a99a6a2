use Rattle.std.proofs.Common.{Option, Ok, inl, subst}
use Rattle.ip_spec.specs.declared.record.Record.{Record}
use Rattle.ip_space.specs.SpaceView.{kept_at}
use Rattle.ip_space.specs.Fetching.{Refers}
use Rattle.ip_space.specs.Kept.{brought}
use Rattle.ip_space.proofs.Bringing.{copied_known, spared_so}
use Rattle.ip_space.proofs.space.Space.fetch.Goals as goal

pub returns-in-Ok-Some-clause-known : goal.returns-in-Ok-Some-clause-known
returns-in-Ok-Some-clause-known g c rec some =
    inl (subst (λ (x : Option Record). Refers rec c.args.reference (brought (kept_at c.args.reference.at c.bring.new.self.kept) (Ok x))) c.in-Ok-Some.field-0-is (c.in-Ok-Some.ensures.known rec some))

pub returns-in-Ok-None-clause-known : goal.returns-in-Ok-None-clause-known
returns-in-Ok-None-clause-known g c rec some =
    copied_known rec c.args.reference (kept_at c.args.reference.at c.bring.new.self.kept) c.copy_kept.result
    (subst (λ (x : Option Record). Refers rec c.args.reference (brought (kept_at c.args.reference.at c.bring.new.self.kept) (Ok x))) c.in-Ok-None.field-0-is (c.in-Ok-None.ensures.known rec some))
    c.copy_kept.ensures

pub returns-in-Err-clause-known : goal.returns-in-Err-clause-known
returns-in-Err-clause-known g c rec some = inl (c.in-Err.ensures.known rec some)

pub returns-in-Ok-Some-clause-unread : goal.returns-in-Ok-Some-clause-unread
returns-in-Ok-Some-clause-unread g c some spared = c.in-Ok-Some.ensures.unread some (λ tells. tells)

pub returns-in-Ok-None-clause-unread : goal.returns-in-Ok-None-clause-unread
returns-in-Ok-None-clause-unread g c some spared = c.in-Ok-None.ensures.unread some (λ tells. tells)

pub returns-in-Err-clause-unread : goal.returns-in-Err-clause-unread
returns-in-Err-clause-unread g c some spared = c.in-Err.ensures.unread some (spared_so c.in-Err.fault spared)

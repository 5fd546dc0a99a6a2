use Rattle.std.proofs.Common.{sym, ◌∙◌}
use Rattle.ip_audit.specs.Audits.{memory_of}
use Rattle.ip_audit.proofs.Steps.{then_ok, both_ok, then_err, same_audited, nameless_fits, nameless_more}
use Rattle.ip_audit.proofs.Stream.{passes_fits, fits_passes, audited_more, fresh}
use Rattle.ip_audit.proofs.audit.Audit.take.Goals as goal

pub returns-in-Some-clause-fits : goal.returns-in-Some-clause-fits
returns-in-Some-clause-fits c = λ taken audited beyond. then_ok c.take_named.result c.take_named.ensures.passes (λ p. passes_fits c.args.self.now.terms (memory_of c.args.self.now) taken audited c.args.at beyond c.requires.bounds.0 c.args.rec.now c.requires.bounds.1 p)

pub returns-in-Some-clause-goes_on : goal.returns-in-Some-clause-goes_on
returns-in-Some-clause-goes_on c = λ taken audited beyond.
    let terms = c.args.self.now.terms in
    let memory = memory_of c.args.self.now in
    both_ok c.take_named.result c.take_named.ensures.passes (c.take_named.ensures.more (fresh terms memory taken audited c.args.at beyond)) (λ p m.
    audited_more terms memory taken audited c.args.at beyond c.args.rec.now (passes_fits terms memory taken audited c.args.at beyond c.requires.bounds.0 c.args.rec.now c.requires.bounds.1 p) (memory_of c.take_named.new.self) m)

pub returns-in-Some-clause-fails : goal.returns-in-Some-clause-fails
returns-in-Some-clause-fails c = λ e taken audited beyond fits. c.take_named.ensures.fails e (fits_passes c.args.self.now.terms (memory_of c.args.self.now) taken audited c.args.at beyond c.args.rec.now fits)

pub returns-in-Some-clause-memory : goal.returns-in-Some-clause-memory
returns-in-Some-clause-memory c = λ e taken audited beyond. passes_fits c.args.self.now.terms (memory_of c.args.self.now) taken audited c.args.at beyond c.requires.bounds.0 c.args.rec.now c.requires.bounds.1 (c.take_named.ensures.memory e)

pub returns-in-Some-clause-same : goal.returns-in-Some-clause-same
returns-in-Some-clause-same c = λ taken audited. then_err c.take_named.result c.take_named.ensures.same (λ same. same_audited c.args.self.now c.take_named.new.self taken same audited)

pub returns-in-None-clause-fits : goal.returns-in-None-clause-fits
returns-in-None-clause-fits c = λ taken audited beyond. nameless_fits c.args.self.now.terms taken c.args.at c.args.rec.now (sym c.named.ensures ∙ c.in-None.is)

pub returns-in-None-clause-goes_on : goal.returns-in-None-clause-goes_on
returns-in-None-clause-goes_on c = λ taken audited beyond.
    let none = sym c.named.ensures ∙ c.in-None.is in
    let terms = c.args.self.now.terms in
    let memory = memory_of c.args.self.now in
    audited_more terms memory taken audited c.args.at beyond c.args.rec.now (nameless_fits terms taken c.args.at c.args.rec.now none) memory (nameless_more memory c.args.at (fresh terms memory taken audited c.args.at beyond) c.args.rec.now none)

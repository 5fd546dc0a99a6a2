use Rattle.std.proofs.Common.{sym, ◌∙◌, ap, subst}
use Rattle.ip_spec.specs.Record.{name_of}
use Rattle.ip_audit.specs.Audits.{memory_of}
use Rattle.ip_audit.specs.Memory.{Passes}
use Rattle.ip_audit.proofs.Steps.{both_ok, holds_passes, passes_holds, passes_new}
use Rattle.ip_audit.proofs.audit.Audit.take_named.Goals as goal

pub returns-in-Commit-clause-passes : goal.returns-in-Commit-clause-passes
returns-in-Commit-clause-passes c = both_ok c.take_commit.result c.take_commit.ensures.passes c.take_commit.ensures.new (λ h n.
    subst (Passes c.args.self.now.terms (memory_of c.args.self.now) c.args.at) (sym c.in-Commit.is) (holds_passes c.args.self.now c.args.at c.in-Commit.c c.args.name (sym (ap name_of c.in-Commit.is) ∙ c.requires.name) h n))

pub returns-in-Commit-clause-fails : goal.returns-in-Commit-clause-fails
returns-in-Commit-clause-fails c = λ e p.
    let q = subst (Passes c.args.self.now.terms (memory_of c.args.self.now) c.args.at) c.in-Commit.is p in
    c.take_commit.ensures.fails e (passes_holds c.args.self.now c.args.at c.in-Commit.c q) (passes_new c.args.self.now c.args.at c.in-Commit.c c.args.name (sym (ap name_of c.in-Commit.is) ∙ c.requires.name) q)

pub returns-in-Commit-clause-memory : goal.returns-in-Commit-clause-memory
returns-in-Commit-clause-memory c = λ e.
    let holds = c.take_commit.ensures.memory e in
    subst (Passes c.args.self.now.terms (memory_of c.args.self.now) c.args.at) (sym c.in-Commit.is) (holds_passes c.args.self.now c.args.at c.in-Commit.c c.args.name (sym (ap name_of c.in-Commit.is) ∙ c.requires.name) holds.0 holds.1)

use Rattle.std.proofs.Common.{refl, sym, subst, ◌≡◌, ◌≢◌, ◌⊎◌, List}
use Rattle.std.specs.Prelude.{AllPairs}
use Rattle.ip_image.specs.Standing.{outside}
use Rattle.ip_spec.specs.declared.record.Parent.{Parent}
use Rattle.ip_audit.proofs.audit.Audit.commit_passes.Goals as goal

pub returns-then-not-all_distinct-clause-no : goal.returns-then-not-all_distinct-clause-no
returns-then-not-all_distinct-clause-no c = λ t h. c.if-not-all_distinct.ensures.no refl (subst (λ (ps : List Parent). AllPairs (λ p q. (p.number ≢ q.number) ⊎ (p.number ≡ outside)) ps) (sym c.as_slice-2.ensures) h.distinct)

use Rattle.std.proofs.Common.{◌≡◌, ◌∙◌, ap, sym, subst, ℕ, Some}
use Rattle.std.specs.Prelude.{All}
use Rattle.ip_spec.specs.Map.{get}
use Rattle.ip_tables.proofs.Keyed.{Pairs, told}
use Rattle.ip_tables.proofs.Numbered.{listed_is, found_is}
use Rattle.ip_tables.proofs.branches.Branches.iter.Goals as goal

pub returns-clause-entries : goal.returns-clause-entries
returns-clause-entries c = ap (λ (es : Pairs ℕ). told es) c.iter.ensures.rest ∙ listed_is c.self.inside.entries c.self.invariant c.args.self.now c.self.view_is

pub returns-clause-found : goal.returns-clause-found
returns-clause-found c =
    subst (λ (es : Pairs ℕ). All (λ e. get c.args.self.now e.0.items ≡ Some e.1) es) (sym c.iter.ensures.rest) (found_is c.self.inside.entries c.self.invariant c.args.self.now c.self.view_is)

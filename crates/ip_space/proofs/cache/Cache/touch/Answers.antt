use Rattle.std.proofs.Common.{ℕ, List, ◌∙◌, ap, sym, subst, map, Some, nat_eq}
use Rattle.ip_spec.specs.declared.record.Record.{Record}
use Rattle.ip_space.specs.SpaceView.{kept_at}
use Rattle.ip_space.specs.Kept.{shown, GainsNone}
use Rattle.ip_space.specs.declared.cache.Kept.{Kept}
use Rattle.ip_space.proofs.Cached.{sees, named_in, promotes_none, promoted_named, promoted_same, promoted_entries, bounded_in}
use Rattle.ip_space.proofs.cache.Cache.touch.Goals as goal

pub invariant_of-self : goal.invariant_of-self
invariant_of-self c = c.self.invariant

pub invariant_of-self-2 : goal.invariant_of-self-2
invariant_of-self-2 c =
    promoted_named c.in-Some.records c.promote.new.self (nat_eq c.args.at) (named_in c.self.inside.records c.in-Some.records c.self.invariant c.in-Some.is) c.promote.ensures.entries

pub returns-clause-bounded : goal.returns-clause-bounded
returns-clause-bounded c =
    bounded_in (Some c.promote.new.self) (promoted_named c.in-Some.records c.promote.new.self (nat_eq c.args.at) (named_in c.self.inside.records c.in-Some.records c.self.invariant c.in-Some.is) c.promote.ensures.entries)

pub returns-clause-none : goal.returns-clause-none
returns-clause-none c =
    subst (λ (old : List (ℕ × Record)). GainsNone old (map shown c.promote.new.self.entries)) (sees c.self.inside.records c.in-Some.records c.args.self.now c.self.view_is c.in-Some.is)
    (subst (λ (es : List (ℕ × Kept)). GainsNone (map shown c.in-Some.records.entries) (map shown es)) (sym (promoted_entries _ _ _ c.promote.ensures.entries)) (promotes_none c.in-Some.records.entries (nat_eq c.args.at)))

pub returns-clause-is : goal.returns-clause-is
returns-clause-is c =
    ap (λ (es : List (ℕ × Kept)). kept_at c.args.at (map shown es)) (promoted_entries _ _ _ c.promote.ensures.entries)
    ∙ promoted_same c.in-Some.records.entries (nat_eq c.args.at)
    ∙ ap (kept_at c.args.at) (sees c.self.inside.records c.in-Some.records c.args.self.now c.self.view_is c.in-Some.is)

use Rattle.std.proofs.Common.{Some, ◌∙◌, sym, ap, subst}
use Rattle.ip_space.specs.SpaceView.{kept_at}
use Rattle.ip_space.specs.Kept.{IsBounded}
use Rattle.ip_space.proofs.Cached.{sees, named_in, named_found, shown_found, bounded_in}
use Rattle.ip_space.proofs.cache.Cache.get.Goals as goal

pub returns-in-Some-last-clause-is : goal.returns-in-Some-last-clause-is
returns-in-Some-last-clause-is c =
    shown_found c.in-Some.records c.args.at (Some c.in-Some-last.kept) (sym c.in-Some-last.ensures)
    ∙ ap (kept_at c.args.at) (sees c.self.inside.records c.in-Some.records c.args.self.now c.self.view_is c.in-Some.is)

pub returns-in-Some-last-clause-named : goal.returns-in-Some-last-clause-named
returns-in-Some-last-clause-named c =
    named_found c.in-Some.records c.args.at (named_in c.self.inside.records c.in-Some.records c.self.invariant c.in-Some.is) (Some c.in-Some-last.kept) (sym c.in-Some-last.ensures)

pub returns-in-Some-last-clause-bounded : goal.returns-in-Some-last-clause-bounded
returns-in-Some-last-clause-bounded c = subst IsBounded c.self.view_is (bounded_in c.self.inside.records c.self.invariant)

pub returns-in-None-clause-is : goal.returns-in-None-clause-is
returns-in-None-clause-is c =
    shown_found c.in-Some.records c.args.at c.peek.result c.peek.ensures
    ∙ ap (kept_at c.args.at) (sees c.self.inside.records c.in-Some.records c.args.self.now c.self.view_is c.in-Some.is)

pub returns-in-None-clause-named : goal.returns-in-None-clause-named
returns-in-None-clause-named c = named_found c.in-Some.records c.args.at (named_in c.self.inside.records c.in-Some.records c.self.invariant c.in-Some.is) c.peek.result c.peek.ensures

pub returns-in-None-clause-bounded : goal.returns-in-None-clause-bounded
returns-in-None-clause-bounded c = subst IsBounded c.self.view_is (bounded_in c.self.inside.records c.self.invariant)

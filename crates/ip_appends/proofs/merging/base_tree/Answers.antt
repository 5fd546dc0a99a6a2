use Rattle.std.proofs.Common.{sym, subst}
use Rattle.std.specs.Prelude.{IfSome, IsTrue}
use Rattle.ip_spec.specs.Repository.{is_retained}
use Rattle.ip_appends.specs.Merging.{IsBaseTree}
use Rattle.ip_held.specs.Showing.{IsFetchedOr}
use Rattle.ip_held.specs.Held.{image_records}
use Rattle.ip_appends.proofs.JoinedCalls.{looked_nothing}
use Rattle.ip_appends.proofs.merging.base_tree.Goals as goal

pub tree_of-requires : goal.tree_of-requires
tree_of-requires g c =
    let r = c.requires.tables.0 in
    record { tables = (r, c.requires.tables.1, subst (λ o. IfSome o (λ n. IsTrue (is_retained r n))) c.in-Some.is c.requires.tables.2) }

pub returns-in-Some-clause-tree : goal.returns-in-Some-clause-tree
returns-in-Some-clause-tree g c told r held retained =
    subst (λ o. IsFetchedOr (IsBaseTree (image_records held) r o) c.tree_of.result) (sym c.in-Some.is)
    (c.tree_of.ensures.tree told r held (subst (λ o. IfSome o (λ n. IsTrue (is_retained r n))) c.in-Some.is retained))

pub returns-in-None-clause-looked : goal.returns-in-None-clause-looked
returns-in-None-clause-looked g c = looked_nothing g.G.Ground.tells c.args.store.now (g.G.Ground.told c.args.outside.now)

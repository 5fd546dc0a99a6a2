use Rattle.std.proofs.Common.{◌≡◌, ℕ, List, [], Option, None, refl, sym, ◌∙◌, ap, subst, arith}
use Rattle.ip_save.specs.Batches.{HasShortContents}
use Rattle.ip_spec.specs.Machine.{empty_work}
use Rattle.ip_spec.specs.Repository.{Repository}
use Rattle.ip_spec.specs.Tree.{no_tree}
use Rattle.ip_spec.specs.View.{no_view}
use Rattle.ip_spec.proofs.Subtrees.{get-no_tree}
use Rattle.ip_tree.proofs.Indexes.{no_some}
use Rattle.ip_held.specs.Work.{AreParents, least_of}
use Rattle.ip_held.proofs.RootedViews.{rooted_none}
use Rattle.ip_held.proofs.work.Work.empty.Goals as goal

none_short : HasShortContents no_view.map
unfolding no_view
none_short p bytes is = no_some bytes (sym (get-no_tree p) ∙ is)

no_least : None ≡ least_of no_view []
unfolding no_view
no_least = refl

no_parents : (r : Repository) (least : Option ℕ) (parents : List ℕ) → parents ≡ [] → AreParents r least parents
no_parents r least parents is = subst (AreParents r least) (sym is) (record {
  made = λ k d below. absurd (omega (arith, below));
  above = λ k d below. absurd (omega (arith, below));
  distinct = λ i j d low high. absurd (omega (arith, high));
  few = omega arith;
})

pub returns-clause-lawful : goal.returns-clause-lawful
returns-clause-lawful c records r = record {
  tree = λ there. c.empty.ensures records;
  rooted = λ there. rooted_none records;
  short = none_short;
  parents = no_parents r None c.empty-2.result c.empty-2.ensures;
  least = no_least ∙ ap (least_of no_view) (sym c.empty-2.ensures);
}

pub returns-clause-begins : goal.returns-clause-begins
unfolding no_view empty_work
returns-clause-begins c i = record { tree = no_tree; parents = c.empty-2.ensures i; least = None }

pub returns-clause-parents : goal.returns-clause-parents
returns-clause-parents c r = no_parents r None c.empty-2.result c.empty-2.ensures

-- All that comes, one after the other, by the tree's view.
--     path_here, found_here      what the next edit is
--     put_more, put_failed      it was made, or was not
--     nil_long      a list without elements
use Rattle.std.proofs.Common.{◌≡◌, ℕ, ◌+◌, List, [], ◌∷◌, ◌++◌, length, refl, sym, ap, subst, ◌∙◌, arith, Option}
use Rattle.std.specs.Prelude.{All, Err}
use Rattle.ip_spec.specs.Path.{Path, IsPath}
use Rattle.ip_spec.specs.View.{View}
use Rattle.ip_spec.specs.declared.record.Record.{Record}
use Rattle.ip_tree.specs.TreeView.{IsView}
use Rattle.ip_tree.specs.declared.tree.Tree as code
use Rattle.ip_tree.specs.declared.tree.TreeFault.{TreeFault}
use Rattle.ip_three.specs.Applying.{IsFound, IsFoundAt, IsPutFault, PutsAll, as_coming, as_edit, as_edits}
use Rattle.ip_three.specs.Merging.{Coming, more, more_at}
use Rattle.ip_three.specs.declared.apply.Edit.{Edit}
use Rattle.ip_three.proofs.Making.{front_of, more_done, one_of}

pub nil_long : {A : Type 0} (xs : List A) → length xs ≡ 0 → xs ≡ []
nil_long [] none = refl
nil_long (x ∷ xs) none = absurd (omega (arith, none))

module _ (records : ℕ → Option Record) (r v : View) (done : List Edit) (e : Edit) (left all : List Edit) (whole : done ++ (e ∷ left) ≡ all) (at : Path) (same : at ≡ e.path) where
  pub path_here : All (IsFound records r) all → IsPath at
  path_here found = subst IsPath (sym same) (one_of as_edit done e left all whole (IsFound records r) found).path_is

  pub found_here : All (IsFound records r) all → IsFoundAt records r at e.coming
  found_here found = subst (λ (p : Path). IsFoundAt records r p e.coming) (sym same) (one_of as_edit done e left all whole (IsFound records r) found).found

  made : more_at r (more r v (as_edits done)) at (as_coming e.coming) ≡ more r v (as_edits (done ++ e ∷ []))
  made = ap (λ (p : Path). more_at r (more r v (as_edits done)) p (as_coming e.coming)) same ∙ sym (more_done as_edit done e r v)

  pub put_more : (new : code.Tree) → IsView records new (more_at r (more r v (as_edits done)) at (as_coming e.coming)) → IsView records new (more r v (as_edits (done ++ e ∷ [])))
  put_more new is = subst (λ (w : View). IsView records new w) made is

  pub put_failed : (new : code.Tree) (fault : TreeFault) → IsPutFault (more_at r (more r v (as_edits done)) at (as_coming e.coming)).map fault → PutsAll records r v (as_edits all) new (Err fault)
  put_failed new fault cause = (
    length done + 1,
    subst (λ (es : List (Path × Coming)). IsPutFault (more r v es).map fault) (sym (front_of as_edit done e left all whole)) (subst (λ (w : View). IsPutFault w.map fault) made cause),
  )

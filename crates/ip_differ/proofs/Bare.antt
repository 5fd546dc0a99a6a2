-- Where no step stands below a path.
--     bare_nothing      where nothing stands.      bare_contents      where contents do
--     found_contents      and where these were found
use Rattle.std.proofs.Common.{◌≡◌, ℕ, true, [], ◌∷◌, ◌++◌, append_assoc, length, refl, sym, ap, ◌∙◌, Option, Some, None, arith}
use Rattle.std.proofs.lemmas.List.{append-nil}
use Rattle.std.specs.Prelude.{IsTrue, is_some}
use Rattle.ip_spec.specs.Map.{get}
use Rattle.ip_spec.specs.Path.{Bytes, Path, Step}
use Rattle.ip_spec.specs.Tree.{IsTree, contents, is_contents, is_empty, no_tree, subtree}
use Rattle.ip_spec.specs.View.{View}
use Rattle.ip_spec.specs.declared.record.Record.{Record}
use Rattle.ip_spec.proofs.Subtrees.{empty_is, get-no_tree, get-subtree, prefix_of_append, same_tree}
use Rattle.ip_tree.proofs.Found.{nothing_below, subtree_on}
use Rattle.ip_tree.proofs.RemovedTrees.{no_tree_empty}
use Rattle.ip_tree.proofs.Trees.{nothing_under}
use Rattle.ip_differ.specs.Differing.{IsDirectoryAt}

longer : (p q : Path) (s : Step) → length p ≡ length (p ++ s ∷ q) → ⊥
longer [] q s e = omega (arith, e)
longer (t ∷ p) q s e = longer p q s (omega (arith, e))

module _ (records : ℕ → Option Record) (w : View) (p : Path) where
  pub bare_nothing : IsTrue (is_empty (subtree w.map p)) → IsDirectoryAt records w p None
  bare_nothing empty s =
      ap is_empty (sym (subtree_on w.map p (s ∷ [])) ∙ ap (λ t. subtree t (s ∷ [])) (empty_is (subtree w.map p) empty) ∙ nothing_under (s ∷ [])) ∙ no_tree_empty

  pub found_contents : (bytes : Bytes) → subtree w.map p ≡ contents bytes → IsDirectoryAt records w p None
  found_contents bytes is s = ap is_empty (sym (subtree_on w.map p (s ∷ [])) ∙ ap (λ t. subtree t (s ∷ [])) is) ∙ nothing_below bytes s

  pub bare_contents : IsTree w.map → IsTrue (is_contents (subtree w.map p)) → IsDirectoryAt records w p None
  bare_contents lawful there s =
      ap is_empty (same_tree (subtree w.map (p ++ s ∷ [])) no_tree (λ q. get-subtree w.map (p ++ s ∷ []) q ∙ nothing q (get w.map ((p ++ s ∷ []) ++ q)) refl ∙ sym (get-no_tree q))) ∙ no_tree_empty
    where
      here : is_some (get w.map p) ≡ true
      here = ap (λ q. is_some (get w.map q)) (sym (append-nil p)) ∙ ap is_some (sym (get-subtree w.map p [])) ∙ there

      nothing : (q : Path) (o : Option Bytes) → get w.map ((p ++ s ∷ []) ++ q) ≡ o → o ≡ None
      nothing q None e = refl
      nothing q (Some b) e =
          let at = ap (get w.map) (sym (append_assoc p (s ∷ []) q)) ∙ e in
          absurd (longer p q s (ap (λ (r : Path). length r) (lawful.prefix_free p (p ++ s ∷ q) here (ap is_some at) (prefix_of_append p (s ∷ q)))))

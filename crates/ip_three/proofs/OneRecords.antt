-- Over the same records one record is one tree.
--     one_tree_of      so what stands under two directories in one record is the same
--     are_merging      and three trees can be merged
use Rattle.std.proofs.Common.{◌≡◌, ℕ, true, false, Bool, [], ◌∷◌, ◌++◌, Option, Some, None, refl, sym, ap, subst, ◌∙◌}
use Rattle.std.proofs.lemmas.Bool.{and_parts, eqb-true, false≢true, not-true}
use Rattle.std.specs.Prelude.{◌&&◌, not, if◌then◌else◌}
use Rattle.ip_spec.specs.Map.{get}
use Rattle.ip_spec.specs.Merge.{IsOneAnswer, Rule}
use Rattle.ip_spec.specs.Path.{Path}
use Rattle.ip_spec.specs.Tree.{Tree, entries_of, is_contents, subtree}
use Rattle.ip_spec.specs.TreeAt.{PartAt}
use Rattle.ip_spec.specs.View.{View}
use Rattle.ip_spec.specs.declared.record.Record.{Record}
use Rattle.ip_spec.proofs.Subtrees.{get-subtree}
use Rattle.ip_spec.proofs.Unique.{one_tree}
use Rattle.ip_tree.specs.TreeView.{IsView}
use Rattle.ip_tree.specs.declared.tree.Tree as code
use Rattle.ip_tree.proofs.Stands.{view_known}
use Rattle.ip_three.specs.Merging.{has_directory, record_at, same_number}
use Rattle.ip_three.specs.Outcomes.{AreMerging, IsOneTree}
use Rattle.ip_three.proofs.Standing.{nothing_below}

bare : (t : Tree) (p : Path) → has_directory t p ≡ true → is_contents (subtree t p) ≡ false
bare t p e = not-true _ (and_parts _ _ e).0

module _ (records : ℕ → Option Record) where
  -- the record of a directory spells it
  spelled : (tree : code.Tree) (v : View) (p : Path) (o : ℕ) → IsView records tree v → record_at v p ≡ Some o → has_directory v.map p ≡ true → PartAt records 0 o (entries_of (subtree v.map p)).entries
  spelled tree v p o is known directory = (view_known records tree v p [] o is known).spells (bare v.map p directory)

  module _ (one other : code.Tree) (v w : View) (v_is : IsView records one v) (w_is : IsView records other w) where
    pub one_tree_of : IsOneTree v w
    one_tree_of p same s q = by (has_directory v.map p) (has_directory w.map p) (record_at v p) (record_at w p) refl refl refl refl same
      where
        by : (d e : Bool) (m n : Option ℕ) → has_directory v.map p ≡ d → has_directory w.map p ≡ e → record_at v p ≡ m → record_at w p ≡ n → (if d then e && same_number m n else not e) ≡ true
            → get v.map (p ++ s ∷ q) ≡ get w.map (p ++ s ∷ q)
        by true true (Some m) (Some n) is_d is_e is_m is_n f =
            let apart = spelled one v p m v_is is_m is_d in
            let also = subst (λ k. PartAt records 0 k (entries_of (subtree w.map p)).entries) (sym (eqb-true m n f)) (spelled other w p n w_is is_n is_e) in
            sym (get-subtree v.map p (s ∷ q)) ∙ ap (λ (t : Tree). get t (s ∷ q)) (one_tree records m (subtree v.map p) (subtree w.map p) (bare v.map p is_d, apart) (bare w.map p is_e, also)) ∙ get-subtree w.map p (s ∷ q)
        by true true (Some m) None is_d is_e is_m is_n f = absurd (false≢true f)
        by true true None n is_d is_e is_m is_n f = absurd (false≢true f)
        by true false m n is_d is_e is_m is_n f = absurd (false≢true f)
        by false true m n is_d is_e is_m is_n f = absurd (false≢true f)
        by false false m n is_d is_e is_m is_n f = nothing_below v.map v_is.lawful.prefix_free p s q is_d ∙ sym (nothing_below w.map w_is.lawful.prefix_free p s q is_e)

  pub are_merging : (rule : Rule) (base left right : code.Tree) (b l r : View) → ((p : Path) → IsOneAnswer (rule p)) → IsView records base b → IsView records left l → IsView records right r → AreMerging rule b l r
  are_merging rule base left right b l r one b_is l_is r_is = record {
    one = one;
    base = b_is.lawful;
    left = l_is.lawful;
    right = r_is.lawful;
    sides = one_tree_of left right l r l_is r_is;
    left_base = one_tree_of left base l b l_is b_is;
    right_base = one_tree_of right base r b r_is b_is;
  }

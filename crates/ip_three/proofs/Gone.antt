-- What stands where after all that goes went.
--     LessAt v gone q, less_at_path      nothing, at a path that goes or under one; else what stood there
use Rattle.std.proofs.Common.{◌≡◌, List, [], ◌∷◌, ◌++◌, refl, sym, ap, ◌∙◌, None, Bool, true, false, inl, inr}
use Rattle.std.proofs.lemmas.Bool.{false≢true}
use Rattle.std.specs.Prelude.{not, Contains, if◌then◌else◌}
use Rattle.ip_spec.specs.Map.{get}
use Rattle.ip_spec.specs.Path.{Path, is_prefix}
use Rattle.ip_spec.specs.Tree.{Tree, subtree, is_empty, remove}
use Rattle.ip_spec.specs.View.{View, remove_view}
use Rattle.ip_spec.proofs.Subtrees.{empty_gets, get-subtree, prefix_of_append}
use Rattle.ip_three.specs.Merging.{less, less_at}
use Rattle.ip_three.proofs.Elements.{contains_cases, contains_first, contains_none, contains_rest}
use Rattle.ip_three.proofs.Lying.{Lies, under, above, beside, lies, no_front, no_prefix, removed_beside, removed_under}

module _ (v : View) (p q : Path) where
  at_by : (b : Bool) → is_empty (subtree v.map p) ≡ b → less_at v p ≡ (if not b then remove_view v p else v)
  at_by b e = ap (λ x. if not x then remove_view v p else v) e

  removed_map : (remove_view v p).map ≡ remove v.map p
  unfolding remove_view
  removed_map = refl

  gone_under : (rest : Path) → q ≡ p ++ rest → get (less_at v p).map q ≡ None
  gone_under rest is = by (is_empty (subtree v.map p)) refl
    where
      by : (b : Bool) → is_empty (subtree v.map p) ≡ b → get (less_at v p).map q ≡ None
      by true e = ap (λ (w : View). get w.map q) (at_by true e) ∙ ap (get v.map) is ∙ sym (get-subtree v.map p rest) ∙ empty_gets (subtree v.map p) rest e
      by false e = ap (λ (w : View). get w.map q) (at_by false e) ∙ ap (λ (t : Tree). get t q) removed_map ∙ removed_under v.map p q (ap (is_prefix p) is ∙ prefix_of_append p rest)

  stays_beside : is_prefix p q ≡ false → get (less_at v p).map q ≡ get v.map q
  stays_beside apart = by (is_empty (subtree v.map p)) refl
    where
      by : (b : Bool) → is_empty (subtree v.map p) ≡ b → get (less_at v p).map q ≡ get v.map q
      by true e = ap (λ (w : View). get w.map q) (at_by true e)
      by false e = ap (λ (w : View). get w.map q) (at_by false e) ∙ ap (λ (t : Tree). get t q) removed_map ∙ removed_beside v.map p q apart

pub data LessAt (v : View) (gone : List Path) (q : Path) : Type 0 where
  gone_at : (p rest : Path) → q ≡ p ++ rest → Contains gone p → get (less v gone).map q ≡ None → LessAt v gone q
  stays_at : get (less v gone).map q ≡ get v.map q → ((p rest : Path) → q ≡ p ++ rest → Contains gone p → ⊥) → LessAt v gone q

pub less_at_path : (v : View) (gone : List Path) (q : Path) → LessAt v gone q
less_at_path v [] q = stays_at refl (λ p rest is there. contains_none p there)
less_at_path v (p ∷ ps) q = by (less_at_path (less_at v p) ps q)
  where
    not_under : is_prefix p q ≡ false → get (less (less_at v p) ps).map q ≡ get (less_at v p).map q → ((x rest : Path) → q ≡ x ++ rest → Contains ps x → ⊥) → LessAt v (p ∷ ps) q
    not_under apart same others = stays_at (same ∙ stays_beside v p q apart) (λ x rest is there. elim (contains_cases p ps x there) [
      | inl here ↦ false≢true (sym apart ∙ ap (is_prefix p) (is ∙ ap (λ (y : Path). y ++ rest) (sym here)) ∙ prefix_of_append p rest)
      | inr later ↦ others x rest is later
    ])

    stays : Lies p q → get (less (less_at v p) ps).map q ≡ get (less_at v p).map q → ((x rest : Path) → q ≡ x ++ rest → Contains ps x → ⊥) → LessAt v (p ∷ ps) q
    stays (under rest is) same others = gone_at p rest is (contains_first p ps) (same ∙ gone_under v p q rest is)
    stays (above s rest is) same others = not_under (ap (λ (x : Path). is_prefix x q) is ∙ no_front q s rest) same others
    stays (beside apart) same others = not_under (no_prefix p q apart) same others

    by : LessAt (less_at v p) ps q → LessAt v (p ∷ ps) q
    by (gone_at x rest is there none) = gone_at x rest is (contains_rest p ps x there) none
    by (stays_at same others) = stays (lies p q) same others

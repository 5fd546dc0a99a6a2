-- Laws of trees that the audit stands on: each list of entries that are not empty is that of a directory, and its height and its name are made from its entries.
use Rattle.std.proofs.Common.{◌≡◌, ◌⊎◌, inl, inr, ℕ, suc, ◌≤◌, List, [], ◌∷◌, refl, sym, ap, subst, ◌∙◌, Option, Some, None, Bool, true, false, cond, T, length, arith}
use Rattle.std.specs.Prelude.{◌&&◌, is_some, IsFalse, max, map, fold}
use Rattle.std.specs.Option.{option_and_then}
use Rattle.std.specs.Ordering.{is_eq, is_lt, ordering_then}
use Rattle.std.specs.declared.cmp.Ordering.{Ordering}
use Rattle.std.specs.declared.cmp.Ordering.TheVariants.{Less, Equal, Greater}
use Rattle.std.specs.Cmp.{IsTotalOrder, tied_itself}
use Rattle.std.specs.FinMap.{IsAntisymmetric}
use Rattle.std.specs.Cmp.Lexicographic.{nat_list_cmp_total}
use Rattle.std.specs.FinMap.Entries as Entries
use Rattle.std.proofs.lemmas.Bool.{cases_Bool}
use Rattle.ip_spec.specs.Map.{get, insert, empty, insert_all, get-insert}
use Rattle.ip_spec.specs.Path.{Bytes, Step, Path, path_cmp, bytes_cmp, same_path, same_bytes}
use Rattle.ip_spec.specs.Tree.{no_tree, Tree, subtree, entries_of, height, is_contents, is_empty}
use Rattle.ip_spec.specs.Shape.{Entries, height_of_part}
use Rattle.ip_spec.proofs.TreeLaws.{path_total, path_antisymmetric}
use Rattle.ip_spec.proofs.Subtrees.{get-subtree, get-entries_of, entry_found, same_tree, get-no_tree, same_step, same_as}
use Rattle.ip_spec.proofs.SameDirectory.{get-below}
use Rattle.ip_spec.proofs.Naming.{entry_height}
use Rattle.ip_audit.proofs.Basics.{no_true, bytes_antisymmetric, or_else, first_wins}

-- ---- the greatest of a list

unfoldable pub In : {A : Type 0} → A → List A → Type 0
In x [] = ⊥
In x (y ∷ ys) = (x ≡ y) ⊎ In x ys

abbrev pub top_from : {A : Type 0} → (A → ℕ) → ℕ → List A → ℕ
top_from f n xs = fold (λ m x. max m (f x)) n xs

pub top_start : {A : Type 0} (f : A → ℕ) (n : ℕ) (xs : List A) → n ≤ top_from f n xs
top_start f n [] = omega arith
top_start f n (x ∷ xs) = let h = top_start f (max n (f x)) xs in omega (arith, h)

pub top_above : {A : Type 0} (f : A → ℕ) (n : ℕ) (x : A) (xs : List A) → In x xs → f x ≤ top_from f n xs
unfolding In
top_above f n x [] h = absurd h
top_above f n x (y ∷ ys) (inl e) = let h = top_start f (max n (f y)) ys in let g : f x ≡ f y = ap f e in omega (arith, h, g)
top_above f n x (y ∷ ys) (inr i) = top_above f (max n (f y)) x ys i

pub top_below : {A : Type 0} (f : A → ℕ) (n k : ℕ) (xs : List A) → n ≤ k → ((x : A) → In x xs → f x ≤ k) → top_from f n xs ≤ k
unfolding In
top_below f n k [] l h = l
top_below f n k (y ∷ ys) l h = let g = h y (inl refl) in top_below f (max n (f y)) k ys (omega (arith, l, g)) (λ x i. h x (inr i))

-- ---- keys

by_equal : (r : Ordering) → is_eq r ≡ true → r ≡ Equal
by_equal Less h = cc
by_equal Equal h = refl
by_equal Greater h = cc

both_first : (c d : Bool) → T (c && d) → T c
both_first true d h = tt
both_first false d h = absurd h

both_second : (c d : Bool) → T (c && d) → T d
both_second true d h = h
both_second false d h = absurd h

none_some : {X : Type 0} (o : Option X) (v : X) → o ≡ None → o ≡ Some v → ⊥
none_some o v n s = cc

module _ {K X : Type 0} {R : K → K → Ordering} (o : IsTotalOrder R) (same : IsAntisymmetric R) where
  pub found_in : (q : K) (v : X) (es : List (K × X)) → Entries.find R q es ≡ Some v → In (q, v) es
  unfolding In
  found_in q v [] h = cc
  found_in q v (e ∷ es) h = by (cases_Bool (is_eq (R q e.0))) (found_in q v es)
    where
      value : X → Option X → X
      value d None = d
      value d (Some x) = x

      some_is : (x y : X) → ◌≡◌ {A = Option X} (Some x) (Some y) → x ≡ y
      some_is x y e = ap (value x) e

      by : (is_eq (R q e.0) ≡ true) ⊎ (is_eq (R q e.0) ≡ false) → (Entries.find R q es ≡ Some v → In (q, v) es) → ((q, v) ≡ e) ⊎ In (q, v) es
      by (inl t) ih =
          let k : q ≡ e.0 = same q e.0 (by_equal (R q e.0) t) in
          let x : v ≡ e.1 = some_is v e.1 (sym h ∙ ap (λ b. cond b (Some e.1) (Entries.find R q es)) t) in
          inl (λ i. (k i, x i))
      by (inr f) ih = inr (ih (sym (ap (λ b. cond b (Some e.1) (Entries.find R q es)) f) ∙ h))

  pub below_none : (x : K) (es : List (K × X)) → T (Entries.below_all R x es) → Entries.find R x es ≡ None
  below_none x [] h = refl
  below_none x (e ∷ es) h = by (R x e.0) h (below_none x es)
    where
      by : (r : Ordering) → T (is_lt r && Entries.below_all R x es) → (T (Entries.below_all R x es) → Entries.find R x es ≡ None) → cond (is_eq r) (Some e.1) (Entries.find R x es) ≡ None
      by Less h ih = ih h
      by Equal h ih = absurd h
      by Greater h ih = absurd h

  pub rest_sorted : (e : K × X) (es : List (K × X)) → T (Entries.is_sorted R (e ∷ es)) → T (Entries.is_sorted R es)
  rest_sorted e es h = both_second (Entries.below_all R e.0 es) _ h

  pub first_once : (e : K × X) (es : List (K × X)) → T (Entries.is_sorted R (e ∷ es)) → Entries.find R e.0 es ≡ None
  first_once e es h = below_none e.0 es (both_first (Entries.below_all R e.0 es) _ h)

  pub in_found : (q : K) (v : X) (es : List (K × X)) → T (Entries.is_sorted R es) → In (q, v) es → Entries.find R q es ≡ Some v
  unfolding In
  in_found q v [] h i = absurd i
  in_found q v (e ∷ es) h (inl is) = ap (λ b. cond b (Some e.1) (Entries.find R q es)) (ap (λ k. is_eq (R k e.0)) (ap (λ x. x.0) is) ∙ ap is_eq (tied_itself o e.0)) ∙ ap (λ x. Some x.1) (sym is)
  in_found q v (e ∷ es) h (inr i) = by (cases_Bool (is_eq (R q e.0))) (in_found q v es (rest_sorted e es h) i)
    where
      by : (is_eq (R q e.0) ≡ true) ⊎ (is_eq (R q e.0) ≡ false) → Entries.find R q es ≡ Some v → Entries.find R q (e ∷ es) ≡ Some v
      by (inl t) later = let k : q ≡ e.0 = same q e.0 (by_equal (R q e.0) t) in absurd (none_some (Entries.find R q es) v (ap (λ x. Entries.find R x es) k ∙ first_once e es h) later)
      by (inr f) later = ap (λ b. cond b (Some e.1) (Entries.find R q es)) f ∙ later

-- ---- a tree with what stands under one step

under : Step → Path × Bytes → Path × Bytes
under s q = (s ∷ q.0, q.1)

under_all : (s : Step) (qs : List (Path × Bytes)) → T (Entries.is_sorted path_cmp qs) → (m : Tree) (r : Step) (p : Path)
    → get (insert_all m (map (under s) qs)) (r ∷ p) ≡ cond (same_bytes r s) (or_else (Entries.find path_cmp p qs) (get m (r ∷ p))) (get m (r ∷ p))
unfolding under or_else
under_all s [] h m r p = by (same_bytes r s)
  where
    by : (b : Bool) → get m (r ∷ p) ≡ cond b (get m (r ∷ p)) (get m (r ∷ p))
    by true = refl
    by false = refl
under_all s (q ∷ qs) h m r p =
    under_all s qs (rest_sorted path_total path_antisymmetric q qs h) (insert m (s ∷ q.0) q.1) r p
    ∙ ap (λ x. cond (same_bytes r s) (or_else (Entries.find path_cmp p qs) x) x) (get-insert path_total m (s ∷ q.0) q.1 (r ∷ p))
    ∙ by (bytes_cmp r s)
  where
    by : (o : Ordering) → cond (is_eq o) (or_else (Entries.find path_cmp p qs) (cond (is_eq (ordering_then o (path_cmp p q.0))) (Some q.1) (get m (r ∷ p)))) (cond (is_eq (ordering_then o (path_cmp p q.0))) (Some q.1) (get m (r ∷ p)))
        ≡ cond (is_eq o) (or_else (cond (same_path p q.0) (Some q.1) (Entries.find path_cmp p qs)) (get m (r ∷ p))) (get m (r ∷ p))
    by Less = refl
    by Equal = first_wins q.1 (same_path p q.0) (Entries.find path_cmp p qs) (get m (r ∷ p)) (λ t. ap (λ x. Entries.find path_cmp x qs) (same_as p q.0 t) ∙ first_once path_total path_antisymmetric q qs h)
    by Greater = refl

under_root : (s : Step) (qs : List (Path × Bytes)) (m : Tree) → get (insert_all m (map (under s) qs)) [] ≡ get m []
unfolding under
under_root s [] m = refl
under_root s (q ∷ qs) m = under_root s qs (insert m (s ∷ q.0) q.1) ∙ get-insert path_total m (s ∷ q.0) q.1 []

-- the directory with these entries
directory : Entries → Tree
directory [] = empty
directory (e ∷ es) = insert_all (directory es) (map (under e.0) e.1.entries)

at_root : (es : Entries) → get (directory es) [] ≡ None
unfolding directory empty
at_root [] = refl
at_root (e ∷ es) = under_root e.0 e.1.entries (directory es) ∙ at_root es

abbrev pub Ordered : Entries → Type 0
Ordered es = T (Entries.is_sorted bytes_cmp es)

at_step : (es : Entries) → Ordered es → (s : Step) (p : Path) → get (directory es) (s ∷ p) ≡ option_and_then (λ sub. get sub p) (Entries.find bytes_cmp s es)
unfolding directory empty or_else
at_step [] h s p = refl
at_step (e ∷ es) h s p =
    under_all e.0 e.1.entries e.1.sorted (directory es) s p
    ∙ ap (λ x. cond (same_bytes s e.0) (or_else (get e.1 p) x) x) (at_step es (rest_sorted nat_list_cmp_total bytes_antisymmetric e es h) s p)
    ∙ by (cases_Bool (same_bytes s e.0))
  where
    or_none : (o : Option Bytes) → or_else o None ≡ o
    or_none (Some x) = refl
    or_none None = refl

    by : (same_bytes s e.0 ≡ true) ⊎ (same_bytes s e.0 ≡ false)
        → cond (same_bytes s e.0) (or_else (get e.1 p) (option_and_then (λ sub. get sub p) (Entries.find bytes_cmp s es))) (option_and_then (λ sub. get sub p) (Entries.find bytes_cmp s es))
        ≡ option_and_then (λ sub. get sub p) (cond (same_bytes s e.0) (Some e.1) (Entries.find bytes_cmp s es))
    by (inl t) =
        let none : Entries.find bytes_cmp s es ≡ None = ap (λ x. Entries.find bytes_cmp x es) (same_step s e.0 t) ∙ first_once nat_list_cmp_total bytes_antisymmetric e es h in
        ap (λ b. cond b (or_else (get e.1 p) (option_and_then (λ sub. get sub p) (Entries.find bytes_cmp s es))) (option_and_then (λ sub. get sub p) (Entries.find bytes_cmp s es))) t
        ∙ ap (λ o. or_else (get e.1 p) (option_and_then (λ sub. get sub p) o)) none
        ∙ or_none (get e.1 p)
        ∙ ap (λ b. option_and_then (λ sub. get sub p) (cond b (Some e.1) (Entries.find bytes_cmp s es))) (sym t)
    by (inr f) =
        ap (λ b. cond b (or_else (get e.1 p) (option_and_then (λ sub. get sub p) (Entries.find bytes_cmp s es))) (option_and_then (λ sub. get sub p) (Entries.find bytes_cmp s es))) f
        ∙ ap (λ b. option_and_then (λ sub. get sub p) (cond b (Some e.1) (Entries.find bytes_cmp s es))) (sym f)

-- ---- its entries

pub first_in : {A : Type 0} (x : A) (xs : List A) → In x (x ∷ xs)
unfolding In
first_in x xs = inl refl

pub some_entry : (sub : Tree) → IsFalse (is_empty sub) → (p : Path) × (v : Bytes) × (get sub p ≡ Some v)
some_entry sub h = by sub.entries refl
  where
    by : (es : List (Path × Bytes)) → sub.entries ≡ es → (p : Path) × (v : Bytes) × (get sub p ≡ Some v)
    by [] e = absurd (no_true (is_empty sub) h (ap (λ (xs : List (Path × Bytes)). elim xs [ [] ↦ true | _ ∷ _ ↦ false ]) e))
    by (x ∷ es) e = (x.0, x.1, in_found path_total path_antisymmetric x.0 x.1 sub.entries sub.sorted (subst (In x) (sym e) (first_in x es)))

unfoldable pub AllSome : Entries → Type 0
AllSome es = (s : Step) (sub : Tree) → In (s, sub) es → IsFalse (is_empty sub)

none_of_none : cond (is_empty no_tree) None (Some no_tree) ≡ None
unfolding no_tree empty
none_of_none = refl

entries_at : (es : Entries) → Ordered es → AllSome es → (s : Step) → get (entries_of (directory es)) s ≡ Entries.find bytes_cmp s es
unfolding AllSome
entries_at es h some s = get-entries_of (directory es) s ∙ by (Entries.find bytes_cmp s es) refl
  where
    by : (o : Option Tree) → Entries.find bytes_cmp s es ≡ o → cond (is_empty (subtree (directory es) (s ∷ []))) None (Some (subtree (directory es) (s ∷ []))) ≡ o
    by None e =
        let gone : subtree (directory es) (s ∷ []) ≡ no_tree = same_tree (subtree (directory es) (s ∷ [])) no_tree (λ p. get-subtree (directory es) (s ∷ []) p ∙ at_step es h s p ∙ ap (option_and_then (λ t. get t p)) e ∙ sym (get-no_tree p)) in
        ap (λ (t : Tree). cond (is_empty t) None (Some t)) gone ∙ none_of_none
    by (Some sub) e =
        let same : subtree (directory es) (s ∷ []) ≡ sub = same_tree (subtree (directory es) (s ∷ [])) sub (λ p. get-subtree (directory es) (s ∷ []) p ∙ at_step es h s p ∙ ap (option_and_then (λ t. get t p)) e) in
        ap (λ (t : Tree). cond (is_empty t) None (Some t)) same ∙ ap (λ b. cond b None (Some sub)) (some s sub (found_in nat_list_cmp_total bytes_antisymmetric s sub es e))

-- entries in order, none empty, are those of a directory
pub a_directory : (es : Entries) → Ordered es → AllSome es → (t : Tree) × IsFalse (is_contents t) × ((entries_of t).entries ≡ es)
a_directory es h some = (directory es, ap is_some (at_root es), Entries.same_entries bytes_cmp nat_list_cmp_total bytes_antisymmetric (entries_of (directory es)).entries es (entries_of (directory es)).sorted h (entries_at es h some))

-- ---- height

-- an entry of a directory has something in it, and that stands in the directory
pub below_in : (t : Tree) (s : Step) (sub : Tree) (p : Path) (v : Bytes) → In (s, sub) (entries_of t).entries → get sub p ≡ Some v → In (s ∷ p, v) t.entries
below_in t s sub p v i g = found_in path_total path_antisymmetric (s ∷ p) v t.entries
    (get-below t s p ∙ ap (option_and_then (λ u. get u p)) (in_found nat_list_cmp_total bytes_antisymmetric s sub (entries_of t).entries (entries_of t).sorted i) ∙ g)

pub some_below : (t : Tree) (s : Step) (sub : Tree) → In (s, sub) (entries_of t).entries → (p : Path) × (v : Bytes) × (get sub p ≡ Some v)
some_below t s sub i =
    let e = entry_found t s sub (in_found nat_list_cmp_total bytes_antisymmetric s sub (entries_of t).entries (entries_of t).sorted i) in
    some_entry sub (subst (λ (u : Tree). IsFalse (is_empty u)) (sym e.is) e.some)

pub height_below : (t : Tree) (s : Step) (sub : Tree) → In (s, sub) (entries_of t).entries → suc (height sub) ≤ height t
height_below t s sub i = entry_height t s sub (in_found nat_list_cmp_total bytes_antisymmetric s sub (entries_of t).entries (entries_of t).sorted i)

-- the height of a directory is made from its entries'
pub height_entries : (t : Tree) → IsFalse (is_contents t) → height t ≡ height_of_part (entries_of t).entries
unfolding height
height_entries t h = let a = low in let b = high in omega (arith, a, b)
  where
    low : height t ≤ height_of_part (entries_of t).entries
    low = top_below (λ (e : Path × Bytes). length e.0) 0 (height_of_part (entries_of t).entries) t.entries (omega arith) each
      where
        each : (x : Path × Bytes) → In x t.entries → length x.0 ≤ height_of_part (entries_of t).entries
        each x i = by x.0 x.1 (in_found path_total path_antisymmetric x.0 x.1 t.entries t.sorted i)
          where
            by : (p : Path) (v : Bytes) → get t p ≡ Some v → length p ≤ height_of_part (entries_of t).entries
            by [] v g = omega arith
            by (s ∷ p) v g = under (get (entries_of t) s) refl (sym (get-below t s p) ∙ g)
              where
                under : (o : Option Tree) → get (entries_of t) s ≡ o → option_and_then (λ sub. get sub p) (get (entries_of t) s) ≡ Some v → suc (length p) ≤ height_of_part (entries_of t).entries
                under None e g = absurd (none_some None v refl (sym (ap (option_and_then (λ sub. get sub p)) e) ∙ g))
                under (Some sub) e g =
                    let at : get sub p ≡ Some v = sym (ap (option_and_then (λ sub. get sub p)) e) ∙ g in
                    let a : length p ≤ height sub = top_above (λ (x : Path × Bytes). length x.0) 0 (p, v) sub.entries (found_in path_total path_antisymmetric p v sub.entries at) in
                    let b : suc (height sub) ≤ height_of_part (entries_of t).entries = top_above (λ (x : Step × Tree). suc (height x.1)) 0 (s, sub) (entries_of t).entries (found_in nat_list_cmp_total bytes_antisymmetric s sub (entries_of t).entries e) in
                    omega (arith, a, b)

    high : height_of_part (entries_of t).entries ≤ height t
    high = top_below (λ (x : Step × Tree). suc (height x.1)) 0 (height t) (entries_of t).entries (omega arith) (λ x i. height_below t x.0 x.1 i)

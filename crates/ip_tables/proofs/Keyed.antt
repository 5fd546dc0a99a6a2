-- Entries over `Vec` keys, as entries over byte lists, and the map of a list in order.
--     told es      the keys as byte lists
--     entries_made      a map made of a list in order has that list
use Rattle.std.proofs.Common.{◌≡◌, ℕ, suc, Bool, true, false, cond, T, List, [], ◌∷◌, ◌++◌, map, length, Vec, refl, sym, ◌∙◌, ap, subst, append_assoc}
use Rattle.std.specs.Prelude.{◌&&◌, not, Option, Some, None}
use Rattle.std.proofs.lemmas.List.{append-nil}
use Rattle.std.specs.Ordering.{is_eq, is_lt, eq_by_cmp, ordering_reverse, match_ordering}
use Rattle.std.specs.Cmp.{IsTotalOrder}
use Rattle.std.specs.List.{AllByRecursion}
use Rattle.std.specs.List.Sorted.{IsStrictlySortedBy}
use Rattle.std.specs.Map.{keys_of, lookup, remove_entry}
use Rattle.std.specs.BTreeMap.{BTreeMap, IsOrdered, insert_entry}
use Rattle.std.specs.declared.alloc.Global.{Global}
use Rattle.std.specs.declared.cmp.Ordering.{Ordering}
use Rattle.std.specs.declared.cmp.Ordering.TheVariants.{Less, Equal, Greater}
use Rattle.std.specs.FinMap.Entries as E
use Rattle.std.specs.FinMap.Entries.{find, is_sorted, below_all, where_key}
use Rattle.ip_spec.specs.Map.{Map, empty, insert, insert_all, from_entries, entries-insert}
use Rattle.ip_spec.specs.Path.{Bytes, bytes_cmp}
use Rattle.ip_spec.proofs.Subtrees.{step_antisymmetric}
use Rattle.ip_image.proofs.InChunk.{eq_of}
use Rattle.ip_tables.specs.Entries.{step_cmp}

less : (o : Ordering) → o ≡ Less → T (is_lt o)
less o e = subst (λ r. T (is_lt r)) (sym e) tt

less_of : (o : Ordering) → T (is_lt o) → o ≡ Less
less_of Less p = refl
less_of Equal p = absurd p
less_of Greater p = absurd p

both_first : (a b : Bool) → T (a && b) → T a
both_first true b p = tt
both_first false b p = p

both_second : (a b : Bool) → T (a && b) → T b
both_second true b p = p
both_second false b p = absurd p

both : (a b : Bool) → T a → T b → T (a && b)
both true b p q = q
both false b p q = p

-- ---- entries over `Vec` keys

abbrev pub Pairs : Type 0 → Type 0
Pairs X = List (Vec ℕ Global × X)

abbrev pub told : {X : Type 0} → Pairs X → List (Bytes × X)
told es = map (λ e. (e.0.items, e.1)) es

module _ {X : Type 0} where
  below : (k : Vec ℕ Global) (es : Pairs X) → AllByRecursion (λ y. step_cmp k y ≡ Less) (keys_of es) → T (below_all bytes_cmp k.items (told es))
  below k [] all = tt
  below k (e ∷ es) all = both _ _ (less _ all.0) (below k es all.1)

  sorted_told : (es : Pairs X) → IsStrictlySortedBy step_cmp (keys_of es) → T (is_sorted bytes_cmp (told es))
  unfolding IsStrictlySortedBy
  sorted_told [] sorted = tt
  sorted_told (e ∷ es) sorted = both _ _ (below e.0 es sorted.0) (sorted_told es sorted.1)

  pub sorted_in : (m : BTreeMap (Vec ℕ Global) X) → IsOrdered step_cmp m → T (is_sorted bytes_cmp (told m.entries))
  sorted_in m ordered = sorted_told m.entries ordered

  pub find_in : (s : Bytes) (es : Pairs X) → lookup (λ k. is_eq (bytes_cmp s k.items)) es ≡ find bytes_cmp s (told es)
  find_in s [] = refl
  find_in s (e ∷ es) = ap (cond (is_eq (bytes_cmp s e.0.items)) (Some e.1)) (find_in s es)

  pub put_in : (k : Vec ℕ Global) (v : X) (es : Pairs X) → told (insert_entry step_cmp es k v) ≡ E.put bytes_cmp k.items v (told es)
  put_in k v [] = refl
  put_in k v (e ∷ es) = by (bytes_cmp k.items e.0.items) (put_in k v es)
    where
      by : (o : Ordering) → told (insert_entry step_cmp es k v) ≡ E.put bytes_cmp k.items v (told es)
          → told (match_ordering o ((k, v) ∷ e ∷ es) ((e.0, v) ∷ es) (e ∷ insert_entry step_cmp es k v)) ≡ E.by_order o ((k.items, v) ∷ told (e ∷ es)) ((e.0.items, v) ∷ told es) ((e.0.items, e.1) ∷ E.put bytes_cmp k.items v (told es))
      by Less h = refl
      by Equal h = refl
      by Greater h = ap (λ ys. (e.0.items, e.1) ∷ ys) h

  -- nothing is taken out where the key is below all
  untouched : (name : Bytes) (es : List (Bytes × X)) → T (below_all bytes_cmp name es) → where_key bytes_cmp (λ x. not (eq_by_cmp bytes_cmp name x)) es ≡ es
  untouched name [] h = refl
  untouched name (e ∷ es) h = by (bytes_cmp name e.0) refl (both_first (is_lt (bytes_cmp name e.0)) (below_all bytes_cmp name es) h) (untouched name es (both_second (is_lt (bytes_cmp name e.0)) (below_all bytes_cmp name es) h))
    where
      by : (o : Ordering) → bytes_cmp name e.0 ≡ o → T (is_lt o) → where_key bytes_cmp (λ x. not (eq_by_cmp bytes_cmp name x)) es ≡ es
          → where_key bytes_cmp (λ x. not (eq_by_cmp bytes_cmp name x)) (e ∷ es) ≡ e ∷ es
      by Less is less rest = ap (λ o. cond (not (is_eq o)) (e ∷ where_key bytes_cmp (λ x. not (eq_by_cmp bytes_cmp name x)) es) (where_key bytes_cmp (λ x. not (eq_by_cmp bytes_cmp name x)) es)) is ∙ ap (λ ys. e ∷ ys) rest
      by Equal is less rest = absurd less
      by Greater is less rest = absurd less

  -- nor where there is none
  pub absent_stays : (name : Bytes) (es : List (Bytes × X)) → find bytes_cmp name es ≡ None → where_key bytes_cmp (λ x. not (eq_by_cmp bytes_cmp name x)) es ≡ es
  absent_stays name [] none = refl
  absent_stays name (e ∷ es) none = by (is_eq (bytes_cmp name e.0)) none (absent_stays name es)
    where
      by : (b : Bool) → ◌≡◌ {A = Option X} (cond b (Some e.1) (find bytes_cmp name es)) None → (find bytes_cmp name es ≡ None → where_key bytes_cmp (λ x. not (eq_by_cmp bytes_cmp name x)) es ≡ es)
          → cond (not b) (e ∷ where_key bytes_cmp (λ x. not (eq_by_cmp bytes_cmp name x)) es) (where_key bytes_cmp (λ x. not (eq_by_cmp bytes_cmp name x)) es) ≡ e ∷ es
      by true some rest = absurd (cc (some))
      by false none rest = ap (λ ys. e ∷ ys) (rest none)

  pub out_in : (name : Bytes) (es : Pairs X) → T (is_sorted bytes_cmp (told es))
      → told (remove_entry (λ k. is_eq (bytes_cmp name k.items)) es) ≡ where_key bytes_cmp (λ x. not (eq_by_cmp bytes_cmp name x)) (told es)
  out_in name [] sorted = refl
  out_in name (e ∷ es) sorted = by (is_eq (bytes_cmp name e.0.items)) refl (out_in name es (both_second (below_all bytes_cmp e.0.items (told es)) (is_sorted bytes_cmp (told es)) sorted))
    where
      below_it : T (below_all bytes_cmp e.0.items (told es))
      below_it = both_first (below_all bytes_cmp e.0.items (told es)) (is_sorted bytes_cmp (told es)) sorted

      by : (b : Bool) → is_eq (bytes_cmp name e.0.items) ≡ b → told (remove_entry (λ k. is_eq (bytes_cmp name k.items)) es) ≡ where_key bytes_cmp (λ x. not (eq_by_cmp bytes_cmp name x)) (told es)
          → told (cond b es (e ∷ remove_entry (λ k. is_eq (bytes_cmp name k.items)) es)) ≡ cond (not b) ((e.0.items, e.1) ∷ where_key bytes_cmp (λ x. not (eq_by_cmp bytes_cmp name x)) (told es)) (where_key bytes_cmp (λ x. not (eq_by_cmp bytes_cmp name x)) (told es))
      by true is rest = sym (untouched name (told es) (subst (λ (k : Bytes). T (below_all bytes_cmp k (told es))) (sym (step_antisymmetric name e.0.items (eq_of (bytes_cmp name e.0.items) is))) below_it))
      by false is rest = ap (λ ys. (e.0.items, e.1) ∷ ys) rest

  pub length_told : (es : Pairs X) → length (told es) ≡ length es
  length_told [] = refl
  length_told (e ∷ es) = ap suc (length_told es)

-- ---- the map of a list in order

module _ {K X : Type 0} {R : K → K → Ordering} (o : IsTotalOrder R) where
  -- each key of the list is below this one
  abbrev AreBelow : List (K × X) → K → Type 0
  AreBelow es k = AllByRecursion (λ e. R e.0 k ≡ Less) es

  put_behind : (es : List (K × X)) (k : K) (v : X) → AreBelow es k → E.put R k v es ≡ es ++ (k, v) ∷ []
  put_behind [] k v lower = refl
  put_behind (e ∷ es) k v (p, ps) =
      ap (λ r. E.by_order r ((k, v) ∷ e ∷ es) ((e.0, v) ∷ es) (e ∷ E.put R k v es)) (o.antisymm k e.0 ∙ ap ordering_reverse p) ∙ ap (λ xs. e ∷ xs) (put_behind es k v ps)

  below_both : (xs : List (K × X)) (e : K × X) (q : K) → AreBelow xs q → R e.0 q ≡ Less → AreBelow (xs ++ e ∷ []) q
  below_both [] e q lower l = (l, tt)
  below_both (x ∷ xs) e q (p, ps) l = (p, below_both xs e q ps l)

  all_below_both : (xs : List (K × X)) (e : K × X) (es : List (K × X)) → AllByRecursion (λ f. AreBelow xs f.0) es → T (below_all R e.0 es) → AllByRecursion (λ f. AreBelow (xs ++ e ∷ []) f.0) es
  all_below_both xs e [] all sorted = tt
  all_below_both xs e (f ∷ es) (p, ps) sorted = (below_both xs e f.0 p (less_of _ (both_first _ _ sorted)), all_below_both xs e es ps (both_second _ _ sorted))

  made_behind : (m : Map R X) (es : List (K × X)) → AllByRecursion (λ e. AreBelow m.entries e.0) es → T (is_sorted R es) → (insert_all m es).entries ≡ m.entries ++ es
  made_behind m [] all sorted = sym (append-nil m.entries)
  made_behind m (e ∷ es) (p, ps) sorted =
      let one : (insert m e.0 e.1).entries ≡ m.entries ++ e ∷ [] = entries-insert o m e.0 e.1 ∙ put_behind m.entries e.0 e.1 p in
      made_behind (insert m e.0 e.1) es (subst (λ (xs : List (K × X)). AllByRecursion (λ f. AreBelow xs f.0) es) (sym one) (all_below_both m.entries e es ps (both_first _ _ sorted))) (both_second _ _ sorted)
      ∙ ap (λ (xs : List (K × X)). xs ++ es) one ∙ append_assoc m.entries (e ∷ []) es

  nothing_below : (es : List (K × X)) → AllByRecursion (λ e. AreBelow [] e.0) es
  nothing_below [] = tt
  nothing_below (e ∷ es) = (tt, nothing_below es)

  pub entries_made : (es : List (K × X)) → T (is_sorted R es) → (from_entries {R = R} es).entries ≡ es
  unfolding empty
  entries_made es sorted = made_behind empty es (nothing_below es) sorted

-- The branches that a store keeps, as a map from names to numbers.
use Rattle.std.proofs.Common.{◌≡◌, ℕ, ◌<◌, ◌≤◌, Bool, true, false, cond, [], ◌∷◌, length, Option, Some, Vec, refl, sym, ◌∙◌, ap, subst, arith}
use Rattle.std.specs.Prelude.{◌&&◌, not, ◌↔◌, nat_le, nat_lt, All, IfSome, IsTrue, Result, Ok, Err, OnErr}
use Rattle.std.specs.Ordering.{is_eq, eq_by_cmp}
use Rattle.std.specs.Cmp.{IsTotalOrder}
use Rattle.std.specs.Cmp.Lexicographic.{nat_list_cmp_total}
use Rattle.std.specs.List.{AllByRecursion, list_all}
use Rattle.std.specs.Map.{values_of, lookup, remove_entry}
use Rattle.std.specs.BTreeMap.{BTreeMap, IsOrdered, insert_entry}
use Rattle.std.specs.declared.alloc.Global.{Global}
use Rattle.std.specs.FinMap.Entries as E
use Rattle.std.specs.FinMap.Entries.{find, where_key}
use Rattle.std.proofs.lemmas.Bool.Decides.{nat_tests}
use Rattle.std.proofs.lemmas.List.Elements.{recursion_from_All, All-from_recursion}
use Rattle.std.proofs.lemmas.Map.Views.{All-found}
use Rattle.std.proofs.lemmas.Bool.{and_from}
use Rattle.ip_spec.specs.Map.{Map, empty, get, insert, remove, retain_keys, len, from_entries, entries-insert, same_entries_map}
use Rattle.ip_spec.specs.Path.{Bytes, bytes_cmp}
use Rattle.ip_tables.specs.Entries.{step_cmp, branches_of}
use Rattle.ip_tables.proofs.Keyed.{Pairs, told, sorted_in, find_in, put_in, out_in, length_told, entries_made}

abbrev Kept : Type 0
Kept = BTreeMap (Vec ℕ Global) ℕ

pub no_branches : (m : Kept) → m.entries ≡ [] → branches_of m ≡ empty
unfolding branches_of
no_branches m none = ap (λ (es : Pairs ℕ). from_entries (told es)) none

pub same_branches : (m n : Kept) → n.entries ≡ m.entries → branches_of n ≡ branches_of m
unfolding branches_of
same_branches m n same = ap (λ (es : Pairs ℕ). from_entries (told es)) same

pub entries_of_branches : (m : Kept) → IsOrdered step_cmp m → (branches_of m).entries ≡ told m.entries
unfolding branches_of
entries_of_branches m ordered = entries_made nat_list_cmp_total (told m.entries) (sorted_in m ordered)

steps_total : IsTotalOrder step_cmp
steps_total = record {
  antisymm = λ x y. nat_list_cmp_total.antisymm x.items y.items;
  trans = λ x y z. nat_list_cmp_total.trans x.items y.items z.items;
  congr = λ x y z. nat_list_cmp_total.congr x.items y.items z.items;
}

-- ---- numbers within bounds

abbrev pub is_within : ℕ → ℕ → ℕ → Bool
is_within low high n = nat_le low n && nat_lt n high

abbrev pub IsWithin : ℕ → ℕ → ℕ → Type 0
IsWithin low high n = (low ≤ n) × (n < high)

test_within : (low high n : ℕ) → IsWithin low high n → is_within low high n ≡ true
test_within low high n (a, b) = grind (arith, nat_tests)

within_tested : (low high n : ℕ) → is_within low high n ≡ true → IsWithin low high n
within_tested low high n e = (grind (arith, nat_tests), grind (arith, nat_tests))

split : (a b : Bool) → (a && b) ≡ true → (a ≡ true) × (b ≡ true)
split true b e = (refl, e)
split false b e = absurd (cc (e))

module _ (low high : ℕ) where
  all_named : (es : Pairs ℕ) → list_all (is_within low high) (values_of es) ≡ true → (name : Bytes) → IfSome (find bytes_cmp name (told es)) (IsWithin low high)
  all_named [] all name = tt
  all_named (e ∷ es) all name =
      let parts = split _ _ all in
      elim (is_eq (bytes_cmp name e.0.items)) as (λ b. IfSome (cond b (Some e.1) (find bytes_cmp name (told es))) (IsWithin low high)) [
        | true ↦ within_tested low high e.1 parts.0
        | false ↦ all_named es parts.1 name
      ]

  all_valued : (m : Kept) → ((name : Bytes) → IfSome (find bytes_cmp name (told m.entries)) (IsWithin low high)) → (es : Pairs ℕ)
      → AllByRecursion (λ e. lookup (λ k. is_eq (bytes_cmp e.0.items k.items)) m.entries ≡ Some e.1) es → list_all (is_within low high) (values_of es) ≡ true
  all_valued m all [] found = refl
  all_valued m all (e ∷ es) (f, fs) =
      let at : find bytes_cmp e.0.items (told m.entries) ≡ Some e.1 = sym (find_in e.0.items m.entries) ∙ f in
      and_from _ _ (test_within low high e.1 (subst (λ (o : Option ℕ). IfSome o (IsWithin low high)) at (all e.0.items))) (all_valued m all es fs)

-- ---- the functions of branches, over what is kept

module _ (m : Kept) (ordered : IsOrdered step_cmp m) (b : Map bytes_cmp ℕ) (view : branches_of m ≡ b) where
  entries_are : b.entries ≡ told m.entries
  entries_are = ap (λ (c : Map bytes_cmp ℕ). c.entries) (sym view) ∙ entries_of_branches m ordered

  pub len_is : length m.entries ≡ len b
  len_is = sym (length_told m.entries) ∙ sym (ap length entries_are)

  pub listed_is : told m.entries ≡ b.entries
  listed_is = sym entries_are

  pub get_is : (name : Bytes) → lookup (λ k. is_eq (bytes_cmp name k.items)) m.entries ≡ get b name
  get_is name = find_in name m.entries ∙ ap (find bytes_cmp name) (sym entries_are)

  all_found : (es : Pairs ℕ) → AllByRecursion (λ e. lookup (λ k. is_eq (bytes_cmp e.0.items k.items)) m.entries ≡ Some e.1) es → AllByRecursion (λ e. get b e.0.items ≡ Some e.1) es
  all_found [] found = tt
  all_found (e ∷ es) (f, fs) = (sym (get_is e.0.items) ∙ f, all_found es fs)

  pub found_is : All (λ e. get b e.0.items ≡ Some e.1) m.entries
  found_is = All-from_recursion (λ e. get b e.0.items ≡ Some e.1) m.entries (all_found m.entries (recursion_from_All _ m.entries (All-found steps_total m ordered)))

  pub set_is : (n : Kept) → IsOrdered step_cmp n → (k : Vec ℕ Global) (v : ℕ) → n.entries ≡ insert_entry step_cmp m.entries k v → branches_of n ≡ insert b k.items v
  set_is n sorted k v inserted =
      same_entries_map (branches_of n) (insert b k.items v) (
      entries_of_branches n sorted ∙ ap told inserted ∙ put_in k v m.entries ∙ ap (E.put bytes_cmp k.items v) (sym entries_are) ∙ sym (entries-insert nat_list_cmp_total b k.items v)
      )

  pub out_is : (n : Kept) → IsOrdered step_cmp n → (name : Bytes) → n.entries ≡ remove_entry (λ k. is_eq (bytes_cmp name k.items)) m.entries → branches_of n ≡ remove b name
  unfolding retain_keys
  out_is n sorted name removed =
      same_entries_map (branches_of n) (remove b name) (
      entries_of_branches n sorted ∙ ap told removed ∙ out_in name m.entries (sorted_in m ordered) ∙ ap (where_key bytes_cmp (λ x. not (eq_by_cmp bytes_cmp name x))) (sym entries_are)
      )

  pub within_is : (low high : ℕ) (r : Bool) → r ≡ list_all (is_within low high) (values_of m.entries) → IsTrue r ↔ ((name : Bytes) → IfSome (get b name) (IsWithin low high))
  within_is low high r is = (
    λ yes name. subst (λ (o : Option ℕ). IfSome o (IsWithin low high)) (ap (find bytes_cmp name) (sym entries_are)) (all_named low high m.entries (sym is ∙ yes) name),
    λ all. is ∙ all_valued low high m (λ name. subst (λ (o : Option ℕ). IfSome o (IsWithin low high)) (ap (find bytes_cmp name) entries_are) (all name)) m.entries (recursion_from_All _ m.entries (All-found steps_total m ordered)),
  )

pub on_err : {A E : Type 0} (r : Result A E) (P : Type 0) → P → OnErr r P
on_err (Ok x) P p = tt
on_err (Err e) P p = p

-- No directory of a tree has more entries than the tree has contents.
use Rattle.std.proofs.Common.{ℕ, suc, ◌+◌, ◌≤◌, List, [], ◌∷◌, length, Option, Some, None, ap, arith}
use Rattle.std.specs.Prelude.{filter_map, option_map}
use Rattle.std.specs.List.{cons_option}
use Rattle.std.specs.Cmp.{IsTotalOrder}
use Rattle.std.specs.FinMap.Entries as E
use Rattle.std.specs.declared.cmp.Ordering.{Ordering}
use Rattle.std.specs.declared.cmp.Ordering.TheVariants.{Less, Equal, Greater}
use Rattle.std.specs.Cmp.Lexicographic.{nat_list_cmp_total}
use Rattle.ip_spec.specs.Map.{empty, len, from_entries}
use Rattle.ip_spec.specs.Path.{Path, Bytes, after_prefix}
use Rattle.ip_spec.specs.Tree.{Tree, subtree, entries_of, first_step, widest}
use Rattle.ip_spec.proofs.TreeLaws.{path_total}
use Rattle.ip_spec.proofs.Widths.{widest_low}
use Rattle.ip_model_trees.specs.Parts.{put_all}
use Rattle.ip_model_trees.proofs.PartLaws.{entries-insert_all}

length_some : {A B : Type 0} (f : A → Option B) (xs : List A) → length (filter_map f xs) ≤ length xs
length_some f [] = omega arith
length_some f (x ∷ xs) = elim (f x) as (λ o. length (cons_option o (filter_map f xs)) ≤ suc (length xs)) [
  | Some y ↦ let h = length_some f xs in omega arith
  | None ↦ let h = length_some f xs in omega arith
]

module _ {K X : Type 0} (R : K → K → Ordering) where
  length_put : (k : K) (v : X) (es : List (K × X)) → length (E.put R k v es) ≤ suc (length es)
  length_put k v [] = omega arith
  length_put k v (e ∷ es) = elim (R k e.0) as (λ o. length (E.by_order o ((k, v) ∷ e ∷ es) ((e.0, v) ∷ es) (e ∷ E.put R k v es)) ≤ suc (suc (length es))) [
    | Less ↦ omega arith
    | Equal ↦ omega arith
    | Greater ↦ let h = length_put k v es in omega arith
  ]

  length_put_all : (es fs : List (K × X)) → length (put_all R es fs) ≤ length es + length fs
  length_put_all es [] = omega arith
  length_put_all es (f ∷ fs) = let h = length_put_all (E.put R f.0 f.1 es) fs in let one = length_put f.0 f.1 es in omega arith

few_from : {K X : Type 0} {R : K → K → Ordering} → IsTotalOrder R → (es : List (K × X)) → len (from_entries {R = R} es) ≤ length es
unfolding empty
few_from {K = K} {X = X} {R = R} o es = let h = length_put_all {K = K} {X = X} R [] es in let same = ap length (entries-insert_all o (empty {K = K} {X = X} {R = R}) es) in omega (arith, h, same)

few_below : (t : Tree) (p : Path) → len (subtree t p) ≤ len t
unfolding subtree
few_below t p =
    let rest : Path × Bytes → Option (Path × Bytes) = λ e. option_map (λ r. (r, e.1)) (after_prefix p e.0) in
    let made : len (subtree t p) ≤ length (filter_map rest t.entries) = few_from path_total (filter_map rest t.entries) in
    let some : length (filter_map rest t.entries) ≤ len t = length_some rest t.entries in
    omega (arith, made, some)

few_entries : (t : Tree) → len (entries_of t) ≤ len t
unfolding entries_of
few_entries t =
    let first = λ (e : Path × Bytes). first_step t e.0 in
    let made = few_from nat_list_cmp_total (filter_map first t.entries) in
    let some = length_some first t.entries in
    omega arith

-- so few contents make no directory wider
pub widest_few : (n : ℕ) (t : Tree) → length t.entries ≤ n → widest t ≤ n
widest_few n t few = widest_low n t (λ p. let below = few_below t p in let entries = few_entries (subtree t p) in omega arith)

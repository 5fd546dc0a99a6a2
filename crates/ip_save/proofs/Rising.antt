-- Steps of which each comes before the next rise.
use Rattle.std.proofs.Common.{◌≡◌, ℕ, zero, suc, ◌+◌, ◌-◌, ◌<◌, List, [], ◌∷◌, map, length, get_or, refl, ap, ◌∙◌, sym, Bool, true, false, arith}
use Rattle.std.specs.Prelude.{◌&&◌, IsTrue, nat_lt}
use Rattle.std.proofs.lemmas.Bool.{ltb-true, ltb-false}
use Rattle.ip_spec.specs.declared.record.LeafEntry.{LeafEntry}
use Rattle.std.specs.Ordering.{is_lt}
use Rattle.std.specs.List.{AllByRecursion}
use Rattle.std.specs.List.Sorted.{IsStrictlySortedBy}
use Rattle.std.specs.FinMap.Entries.{below_all}
use Rattle.std.specs.Cmp.Lexicographic.{nat_list_cmp_total}
use Rattle.std.specs.declared.cmp.Ordering.TheVariants.{Less}
use Rattle.std.proofs.lemmas.List.Elements.{recursion_from_All}
use Rattle.std.proofs.lemmas.Map.Keys.{sorted_from_all_adjacent, sorted_tail}
use Rattle.std.proofs.lemmas.Map.Views.{All-after_first}
use Rattle.ip_spec.specs.Path.{Bytes, bytes_cmp}
use Rattle.ip_spec.specs.Record.{are_rising}

abbrev twice : Bytes → Bytes × Bytes
twice t = (t, t)

below_is : (x : Bytes) (ys : List Bytes) → AllByRecursion (λ y. bytes_cmp x y ≡ Less) ys → below_all bytes_cmp x (map twice ys) ≡ true
below_is x [] each = refl
below_is x (y ∷ ys) each = ap (λ o. is_lt o && below_all bytes_cmp x (map twice ys)) each.0 ∙ below_is x ys each.1

sorted_is : (xs : List Bytes) → IsStrictlySortedBy bytes_cmp xs → are_rising xs ≡ true
sorted_is [] sorted = refl
sorted_is (x ∷ xs) sorted =
    ap (λ b. b && are_rising xs) (below_is x xs (recursion_from_All _ xs (All-after_first bytes_cmp x xs sorted))) ∙ sorted_is xs (sorted_tail bytes_cmp x xs sorted)

pub rising_from : (xs : List Bytes) → ((k : ℕ) → k + 1 < length xs → bytes_cmp (get_or xs k []) (get_or xs (k + 1) []) ≡ Less) → IsTrue (are_rising xs)
rising_from xs each = sorted_is xs (sorted_from_all_adjacent nat_list_cmp_total xs [] each)

-- one more pair
step_at : (es : List LeafEntry) (i : ℕ) (e : LeafEntry) → i < length es → e ≡ get_or es i e → get_or (map (λ (e : LeafEntry). e.step) es) i [] ≡ e.step
step_at [] i e lt is = absurd (omega arith)
step_at (f ∷ es) zero e lt is = ap (λ (x : LeafEntry). x.step) (sym is)
step_at (f ∷ es) (suc i) e lt is = step_at es i e (omega arith) is

pub pair_rises : (es : List LeafEntry) (i : ℕ) (a b : LeafEntry) → 0 < i → i < length es → a ≡ get_or es (i - 1) a → b ≡ get_or es i b → bytes_cmp a.step b.step ≡ Less
    → ((k : ℕ) → k + 1 < i → bytes_cmp (get_or (map (λ (e : LeafEntry). e.step) es) k []) (get_or (map (λ (e : LeafEntry). e.step) es) (k + 1) []) ≡ Less)
    → (k : ℕ) → k + 1 < i + 1 → bytes_cmp (get_or (map (λ (e : LeafEntry). e.step) es) k []) (get_or (map (λ (e : LeafEntry). e.step) es) (k + 1) []) ≡ Less
pair_rises es i a b some lt a_is b_is less before k under = by (nat_lt (k + 1) i) refl
  where
    by : (t : Bool) → nat_lt (k + 1) i ≡ t → bytes_cmp (get_or (map (λ (e : LeafEntry). e.step) es) k []) (get_or (map (λ (e : LeafEntry). e.step) es) (k + 1) []) ≡ Less
    by true t = before k (ltb-true _ _ t)
    by false t =
        let here : k + 1 ≡ i = let le = ltb-false _ _ t in omega arith in
        let behind : k ≡ i - 1 = omega arith in
        ap (λ (n : ℕ). bytes_cmp (get_or (map (λ (e : LeafEntry). e.step) es) n []) (get_or (map (λ (e : LeafEntry). e.step) es) (k + 1) [])) behind
        ∙ ap (λ (n : ℕ). bytes_cmp (get_or (map (λ (e : LeafEntry). e.step) es) (i - 1) []) (get_or (map (λ (e : LeafEntry). e.step) es) n [])) here
        ∙ ap (λ (x : Bytes). bytes_cmp x (get_or (map (λ (e : LeafEntry). e.step) es) i [])) (step_at es (i - 1) a (omega arith) a_is)
        ∙ ap (λ (x : Bytes). bytes_cmp a.step x) (step_at es i b lt b_is)
        ∙ less

-- A search in a leaf whose steps rise.
--     searched      what it answers is the entry with the step, or that there is none
use Rattle.std.proofs.Common.{◌≡◌, ℕ, zero, suc, ◌+◌, ◌<◌, ◌≤◌, ◌⊎◌, inl, inr, List, [], ◌∷◌, length, map, get_or, refl, sym, ap, subst, ◌∙◌, arith, add-one, Bool, true, false, cond, T, Option, Some, None}
use Rattle.std.specs.Prelude.{◌&&◌, IsTrue, Result, Ok, Err, MatchResult}
use Rattle.std.specs.FinMap.Entries.{below_all}
use Rattle.std.specs.List.Sorted.{IsBinarySearchResult, IsPartitionPoint, IsSortedBy}
use Rattle.std.specs.Ordering.{is_eq, is_lt, ordering_reverse}
use Rattle.std.specs.declared.cmp.Ordering.{Ordering}
use Rattle.std.specs.declared.cmp.Ordering.TheVariants.{Less, Equal, Greater}
use Rattle.std.specs.Cmp.{tied_itself}
use Rattle.std.proofs.lemmas.Cmp.{nat_list_cmp_total}
use Rattle.std.proofs.lemmas.List.Sorted.{searchable_from_sorted}
use Rattle.ip_spec.specs.Path.{Step, bytes_cmp, same_bytes}
use Rattle.ip_spec.specs.Record.{are_rising}
use Rattle.ip_spec.specs.StoredParts.{entry_named}
use Rattle.ip_spec.specs.declared.record.LeafEntry.{LeafEntry}
use Rattle.ip_shape.specs.Shape.{AreSteps, ascend, is_below_all}
use Rattle.ip_shape.proofs.Steps.{less, same_step, first as head_of, second as tail_of}

abbrev steps : List LeafEntry → List Step
steps fields = map (λ (e : LeafEntry). e.step) fields

below_is : (s : Step) (fields : List LeafEntry) → below_all bytes_cmp s (map (λ (t : Step). (t, t)) (steps fields)) ≡ is_below_all s (steps fields)
below_is s [] = refl
below_is s (e ∷ es) = ap (λ b. is_lt (bytes_cmp s e.step) && b) (below_is s es)

rising_is : (fields : List LeafEntry) → are_rising (steps fields) ≡ ascend (steps fields)
rising_is [] = refl
rising_is (e ∷ es) = ap (λ b. b && are_rising (steps es)) (below_is e.step es) ∙ ap (λ b. is_below_all e.step (steps es) && b) (rising_is es)

pub rising_steps : (fields : List LeafEntry) → IsTrue (are_rising (steps fields)) → AreSteps (steps fields)
rising_steps fields up = subst T (sym (sym (rising_is fields) ∙ up)) tt

-- an entry behind another has a greater step
above : (s : Step) (fields : List LeafEntry) (i : ℕ) (d : LeafEntry) → T (is_below_all s (steps fields)) → i < length fields → bytes_cmp s (get_or fields i d).step ≡ Less
above s [] i d below lt = absurd (omega (arith, lt))
above s (e ∷ es) zero d below lt = less (bytes_cmp s e.step) (head_of (is_lt (bytes_cmp s e.step)) (is_below_all s (steps es)) below)
above s (e ∷ es) (suc i) d below lt = above s es i d (tail_of (is_lt (bytes_cmp s e.step)) (is_below_all s (steps es)) below) (omega (arith, lt))

adjacent : (fields : List LeafEntry) (k : ℕ) (d : LeafEntry) → AreSteps (steps fields) → suc k < length fields → bytes_cmp (get_or fields k d).step (get_or fields (suc k) d).step ≡ Less
adjacent [] k d up lt = absurd (omega (arith, lt))
adjacent (e ∷ es) zero d up lt = above e.step es 0 d (head_of (is_below_all e.step (steps es)) (ascend (steps es)) up) (omega (arith, lt))
adjacent (e ∷ es) (suc k) d up lt = adjacent es k d (tail_of (is_below_all e.step (steps es)) (ascend (steps es)) up) (omega (arith, lt))

turned : (s t : Step) → bytes_cmp s t ≡ Less → is_lt (bytes_cmp t s) ≡ false
turned s t e = ap is_lt (nat_list_cmp_total.antisymm t s ∙ ap ordering_reverse e)

sorted : (fields : List LeafEntry) → AreSteps (steps fields) → IsSortedBy (λ (x y : LeafEntry). is_lt (bytes_cmp x.step y.step)) fields
sorted fields up k d low lt = rw add-one (turned (get_or fields k d).step (get_or fields (suc k) d).step (adjacent fields k d up (omega (arith, lt))))

-- another step, told the other way round
other : (s t : Step) (o : Ordering) → bytes_cmp t s ≡ o → is_eq (ordering_reverse o) ≡ false → same_bytes s t ≡ false
other s t o e apart = ap is_eq (nat_list_cmp_total.antisymm s t ∙ ap ordering_reverse e) ∙ apart

named_first : (s : Step) (e : LeafEntry) (es : List LeafEntry) → bytes_cmp e.step s ≡ Equal → entry_named s (e ∷ es) ≡ Some e
named_first s e es is = ap (λ b. cond b (Some e) (entry_named s es)) (ap is_eq (nat_list_cmp_total.antisymm s e.step ∙ ap ordering_reverse is))

named_at : (fields : List LeafEntry) (i : ℕ) (s : Step) (d : LeafEntry) → AreSteps (steps fields) → i < length fields → bytes_cmp (get_or fields i d).step s ≡ Equal → entry_named s fields ≡ Some (get_or fields i d)
named_at [] i s d up lt is = absurd (omega (arith, lt))
named_at (e ∷ es) zero s d up lt is = named_first s e es is
named_at (e ∷ es) (suc i) s d up lt is =
    let under = above e.step es i d (head_of (is_below_all e.step (steps es)) (ascend (steps es)) up) (omega (arith, lt)) in
    let less_here : bytes_cmp e.step s ≡ Less = ap (bytes_cmp e.step) (sym (same_step (get_or es i d).step s is)) ∙ under in
    ap (λ b. cond b (Some e) (entry_named s es)) (other s e.step Less less_here refl) ∙ named_at es i s d (tail_of (is_below_all e.step (steps es)) (ascend (steps es)) up) (omega (arith, lt)) is

none_named : (fields : List LeafEntry) (s : Step) → ((k : ℕ) (d : LeafEntry) → k < length fields → same_bytes s (get_or fields k d).step ≡ false) → entry_named s fields ≡ None
none_named [] s each = refl
none_named (e ∷ es) s each = ap (λ b. cond b (Some e) (entry_named s es)) (each 0 e (omega arith)) ∙ none_named es s (λ k d lt. each (suc k) d (omega (arith, lt)))

module _ (fields : List LeafEntry) (s : Step) (up : IsTrue (are_rising (steps fields))) where
  pub found_at : (i : ℕ) → i < length fields → ((d : LeafEntry) → bytes_cmp (get_or fields i d).step s ≡ Equal) → (d : LeafEntry) → entry_named s fields ≡ Some (get_or fields i d)
  found_at i lt is d = named_at fields i s d (rising_steps fields up) lt (is d)

  pub found_nowhere : (i : ℕ) → IsBinarySearchResult {X = LeafEntry} (λ e. bytes_cmp e.step s) fields (Err i) → entry_named s fields ≡ None
  found_nowhere i found = none_named fields s (λ k d lt. by k d lt (order k i))
    where
      parted : IsPartitionPoint (λ (e : LeafEntry). bytes_cmp e.step s ≡ Less) (λ e. bytes_cmp e.step s ≡ Greater) fields i
      parted = found (searchable_from_sorted nat_list_cmp_total (λ (e : LeafEntry). e.step) fields s (sorted fields (rising_steps fields up)))

      order : (m n : ℕ) → (m < n) ⊎ (n ≤ m)
      order m n = grind arith

      by : (k : ℕ) (d : LeafEntry) → k < length fields → (k < i) ⊎ (i ≤ k) → same_bytes s (get_or fields k d).step ≡ false
      by k d lt (inl low) = other s (get_or fields k d).step Less (parted.0 k d (omega arith) low) refl
      by k d lt (inr high) = other s (get_or fields k d).step Greater (parted.1 k d high lt) refl

-- What refers to new contents, by a table of starts.
--     StartsOn rest all at refs starts      what completes the table of the rest completes that of all.      starts_more      one more of them
--     ascending      the steps of a map ascend
--     at_start, at_ahead      what the table has at a step.      searched      a search finds the step, if it is there
use Rattle.std.proofs.Common.{◌≡◌, ℕ, zero, suc, ◌<◌, ◌≤◌, List, [], ◌∷◌, ◌++◌, length, map, get_or, refl, sym, ap, subst, ◌∙◌, arith, add-one, append_assoc, Bool, true, false, cond, T, ◌⊎◌, inl, inr}
use Rattle.std.specs.Prelude.{◌||◌, Result, Ok, Err, MatchResult}
use Rattle.std.specs.List.{AllByRecursion}
use Rattle.std.specs.List.Sorted.{IsBinarySearchResult, IsPartitionPoint, IsSortedBy, IsStrictlySortedBy}
use Rattle.std.specs.Ordering.{is_lt, is_eq, ordering_reverse}
use Rattle.std.specs.declared.cmp.Ordering.{Ordering}
use Rattle.std.specs.declared.cmp.Ordering.TheVariants.{Less, Equal, Greater}
use Rattle.std.specs.Cmp.{tied_itself}
use Rattle.std.proofs.lemmas.Bool.{false≢true}
use Rattle.std.proofs.lemmas.Cmp.{nat_list_cmp_total}
use Rattle.std.proofs.lemmas.List.{append-nil}
use Rattle.std.proofs.lemmas.List.Sorted.{searchable_from_sorted}
use Rattle.ip_spec.specs.Path.{Step, bytes_cmp, same_bytes}
use Rattle.ip_shape.specs.Shape.{AreSteps, ascend, has, is_below_all}
use Rattle.ip_shape.proofs.Entries.{below_absent}
use Rattle.ip_shape.proofs.Steps.{both, equal, first as head_of, less, lt_of, same_step, second as tail_of}
use Rattle.ip_tree.specs.Node.{Nodes, none, first, steps_in}
use Rattle.ip_tree.specs.Shown.{shown}
use Rattle.ip_tree.specs.declared.node.Node as declared
use Rattle.ip_tree.specs.declared.node.Stored.{Stored}
use Rattle.ip_save.specs.declared.starts.Start.{Start}
use Rattle.ip_save.specs.Laid.{AreStarts, BeginsWith, behind_refs, start_in, tallies, tallies_in}
use Rattle.ip_save.proofs.Rests.{rest_of}

-- ---- the table is made

pub record StartsOn (rest all : Nodes) (at refs : List Stored) (starts : List Start) : Type 0 where
  pub made : (tail : List Start) → AreStarts rest at tail → AreStarts all refs (starts ++ tail)

pub starts_more : (s : Step) (n : declared.Node) (es : List (Step × declared.Node)) (all : Nodes) (at refs next : List Stored) (starts longer : List Start) (x : Start) → StartsOn (rest_of ((s, n) ∷ es)) all at refs starts
    → x.step.now ≡ s → x.refs.now ≡ at → BeginsWith (tallies (shown n)) x.ahead.now → longer ≡ starts ++ x ∷ [] → next ≡ behind_refs (shown n) at → StartsOn (rest_of es) all next refs longer
starts_more s n es all at refs next starts longer x now step here ahead pushed moved = record {
  made = λ tail are.
      subst (AreStarts all refs) (sym (ap (λ (l : List Start). l ++ tail) pushed ∙ append_assoc starts (x ∷ []) tail))
      (now.made (x ∷ tail) (step, here, ahead, subst (λ (m : List Stored). AreStarts (rest_of es) m tail) moved are));
}

pub starts_last : (es : List (Step × declared.Node)) → es ≡ [] → (all : Nodes) (at refs : List Stored) (starts : List Start) → StartsOn (rest_of es) all at refs starts → AreStarts all refs starts
starts_last es last all at refs starts now =
    subst (AreStarts all refs) (append-nil starts) (now.made [] (subst (λ (l : List (Step × declared.Node)). AreStarts (rest_of l) at []) (sym last) tt))

-- steps of which each is below those behind it
below_all : (s : Step) (ss : List Step) → AllByRecursion (λ t. bytes_cmp s t ≡ Less) ss → T (is_below_all s ss)
below_all s [] each = tt
below_all s (t ∷ ts) each = both (is_lt (bytes_cmp s t)) (is_below_all s ts) (lt_of (bytes_cmp s t) each.0) (below_all s ts each.1)

pub ascending : (ss : List Step) → IsStrictlySortedBy bytes_cmp ss → AreSteps ss
unfolding IsStrictlySortedBy
ascending [] sorted = tt
ascending (s ∷ ss) sorted = both (is_below_all s ss) (ascend ss) (below_all s ss sorted.0) (ascending ss sorted.1)

pub steps_rest : (es : List (Step × declared.Node)) → steps_in (rest_of es) ≡ map (λ (e : Step × declared.Node). e.0) es
steps_rest [] = refl
steps_rest (e ∷ es) = ap (λ l. e.0 ∷ l) (steps_rest es)

-- ---- a step is looked up

abbrev step_at : Start → Step
step_at x = x.step.now

starts_steps : (ns : Nodes) (refs : List Stored) (xs : List Start) → AreStarts ns refs xs → map step_at xs ≡ steps_in ns
starts_steps none refs [] are = refl
starts_steps none refs (x ∷ xs) are = absurd are
starts_steps (first t n ns) refs [] are = absurd are
starts_steps (first t n ns) refs (x ∷ xs) are = ap (λ (k : Step). k ∷ map step_at xs) are.0 ∙ ap (λ (l : List Step). t ∷ l) (starts_steps ns (behind_refs n refs) xs are.3)

itself : (s : Step) → same_bytes s s ≡ true
itself s = ap is_eq (tied_itself nat_list_cmp_total s)

or_true : (a b : Bool) → b ≡ true → (a || b) ≡ true
or_true true b e = refl
or_true false b e = e

has_at : (ns : Nodes) (refs : List Stored) (xs : List Start) (i : ℕ) (s : Step) → AreStarts ns refs xs → i < length xs → ((d : Start) → (get_or xs i d).step.now ≡ s) → has s (steps_in ns) ≡ true
has_at none refs [] i s are lt is = absurd (omega (arith, lt))
has_at none refs (x ∷ xs) i s are lt is = absurd are
has_at (first t n ns) refs [] i s are lt is = absurd are
has_at (first t n ns) refs (x ∷ xs) zero s are lt is = ap (λ (k : Step). same_bytes s k || has s (steps_in ns)) (sym are.0 ∙ is x) ∙ ap (λ b. b || has s (steps_in ns)) (itself s)
has_at (first t n ns) refs (x ∷ xs) (suc i) s are lt is = or_true (same_bytes s t) (has s (steps_in ns)) (has_at ns (behind_refs n refs) xs i s are.3 (omega (arith, lt)) is)

apart : (s t : Step) (ss : List Step) → T (is_below_all t ss) → has s ss ≡ true → same_bytes s t ≡ false
apart s t ss below there = by (same_bytes s t) refl
  where
    by : (b : Bool) → same_bytes s t ≡ b → b ≡ false
    by true e = absurd (false≢true (sym (below_absent t ss below) ∙ ap (λ (k : Step). has k ss) (sym (same_step s t (equal (bytes_cmp s t) e))) ∙ there))
    by false e = refl

pub at_start : (ns : Nodes) (refs : List Stored) (xs : List Start) (i : ℕ) (s : Step) → AreSteps (steps_in ns) → AreStarts ns refs xs → i < length xs → ((d : Start) → (get_or xs i d).step.now ≡ s) → (d : Start) → (get_or xs i d).refs.now ≡ start_in ns refs s
at_start none refs [] i s up are lt is d = absurd (omega (arith, lt))
at_start none refs (x ∷ xs) i s up are lt is d = absurd are
at_start (first t n ns) refs [] i s up are lt is d = absurd are
at_start (first t n ns) refs (x ∷ xs) zero s up are lt is d =
    are.1 ∙ sym (ap (λ b. cond b refs (start_in ns (behind_refs n refs) s)) (ap (λ (k : Step). same_bytes s k) (sym are.0 ∙ is x) ∙ itself s))
at_start (first t n ns) refs (x ∷ xs) (suc i) s up are lt is d =
    let there = has_at ns (behind_refs n refs) xs i s are.3 (omega (arith, lt)) is in
    at_start ns (behind_refs n refs) xs i s (tail_of (is_below_all t (steps_in ns)) (ascend (steps_in ns)) up) are.3 (omega (arith, lt)) is d
    ∙ sym (ap (λ b. cond b refs (start_in ns (behind_refs n refs) s)) (apart s t (steps_in ns) (head_of (is_below_all t (steps_in ns)) (ascend (steps_in ns)) up) there))

pub at_ahead : (ns : Nodes) (refs : List Stored) (xs : List Start) (i : ℕ) (s : Step) → AreSteps (steps_in ns) → AreStarts ns refs xs → i < length xs → ((d : Start) → (get_or xs i d).step.now ≡ s) → (d : Start)
    → BeginsWith (tallies_in ns s) (get_or xs i d).ahead.now
at_ahead none refs [] i s up are lt is d = absurd (omega (arith, lt))
at_ahead none refs (x ∷ xs) i s up are lt is d = absurd are
at_ahead (first t n ns) refs [] i s up are lt is d = absurd are
at_ahead (first t n ns) refs (x ∷ xs) zero s up are lt is d =
    let same : same_bytes s t ≡ true = ap (λ (k : Step). same_bytes s k) (sym are.0 ∙ is x) ∙ itself s in
    subst (λ b. BeginsWith (cond b (tallies n) (tallies_in ns s)) x.ahead.now) (sym same) are.2
at_ahead (first t n ns) refs (x ∷ xs) (suc i) s up are lt is d =
    let there = has_at ns (behind_refs n refs) xs i s are.3 (omega (arith, lt)) is in
    let other : same_bytes s t ≡ false = apart s t (steps_in ns) (head_of (is_below_all t (steps_in ns)) (ascend (steps_in ns)) up) there in
    subst (λ b. BeginsWith (cond b (tallies n) (tallies_in ns s)) (get_or xs i d).ahead.now) (sym other)
    (at_ahead ns (behind_refs n refs) xs i s (tail_of (is_below_all t (steps_in ns)) (ascend (steps_in ns)) up) are.3 (omega (arith, lt)) is d)

adjacent : (xs : List Start) (k : ℕ) (d : Start) → AreSteps (map step_at xs) → suc k < length xs → bytes_cmp (get_or xs k d).step.now (get_or xs (suc k) d).step.now ≡ Less
adjacent [] k d up lt = absurd (omega (arith, lt))
adjacent (x ∷ []) k d up lt = absurd (omega (arith, lt))
adjacent (x ∷ y ∷ xs) zero d up lt =
    less (bytes_cmp (step_at x) (step_at y))
    (head_of (is_lt (bytes_cmp (step_at x) (step_at y))) (is_below_all (step_at x) (map step_at xs)) (head_of (is_below_all (step_at x) (map step_at (y ∷ xs))) (ascend (map step_at (y ∷ xs))) up))
adjacent (x ∷ y ∷ xs) (suc k) d up lt = adjacent (y ∷ xs) k d (tail_of (is_below_all (step_at x) (map step_at (y ∷ xs))) (ascend (map step_at (y ∷ xs))) up) (omega (arith, lt))

turned : (s t : Step) → bytes_cmp s t ≡ Less → is_lt (bytes_cmp t s) ≡ false
turned s t e = ap is_lt (nat_list_cmp_total.antisymm t s ∙ ap ordering_reverse e)

sorted : (xs : List Start) → AreSteps (map step_at xs) → IsSortedBy (λ x y. is_lt (bytes_cmp (step_at x) (step_at y))) xs
sorted xs up k d low lt = rw add-one (turned (step_at (get_or xs k d)) (step_at (get_or xs (suc k) d)) (adjacent xs k d up (omega (arith, lt))))

record Place (s : Step) (xs : List Start) : Type 0 where
  index : ℕ
  below : index < length xs
  is : (d : Start) → (get_or xs index d).step.now ≡ s

placed : (s : Step) (xs : List Start) → has s (map step_at xs) ≡ true → Place s xs
placed s [] there = absurd (false≢true there)
placed s (x ∷ xs) there = by (same_bytes s (step_at x)) refl there (λ e. placed s xs e)
  where
    by : (b : Bool) → same_bytes s (step_at x) ≡ b → (b || has s (map step_at xs)) ≡ true → (has s (map step_at xs) ≡ true → Place s xs) → Place s (x ∷ xs)
    by true e f later = record { index = 0; below = omega arith; is = λ d. sym (same_step s (step_at x) (equal (bytes_cmp s (step_at x)) e)) }
    by false e f later = let p = later f in record { index = suc p.index; below = let l = p.below in omega (arith, l); is = p.is }

-- what a search for a step answers, where the table has it
pub searched : (ns : Nodes) (refs : List Stored) (xs : List Start) (s : Step) (result : Result ℕ ℕ) → AreSteps (steps_in ns) → AreStarts ns refs xs → has s (steps_in ns) ≡ true → IsBinarySearchResult (λ x. bytes_cmp (step_at x) s) xs result
    → MatchResult result (λ i. (d : Start) → (get_or xs i d).step.now ≡ s) (λ i. ⊥)
searched ns refs xs s (Ok i) up are there found = λ d. same_step (step_at (get_or xs i d)) s (found d)
searched ns refs xs s (Err i) up are there found = by (order place.index i)
  where
    steps : map step_at xs ≡ steps_in ns
    steps = starts_steps ns refs xs are

    parted : IsPartitionPoint (λ x. bytes_cmp (step_at x) s ≡ Less) (λ x. bytes_cmp (step_at x) s ≡ Greater) xs i
    parted = found (searchable_from_sorted nat_list_cmp_total step_at xs s (sorted xs (subst AreSteps (sym steps) up)))

    place : Place s xs
    place = placed s xs (ap (has s) steps ∙ there)

    order : (m n : ℕ) → (m < n) ⊎ (n ≤ m)
    order m n = grind arith

    not_equal : (x : Ordering) (k : Step) → k ≡ s → bytes_cmp k s ≡ x → Equal ≡ x
    not_equal x k e f = sym (tied_itself nat_list_cmp_total s) ∙ ap (λ (t : Step). bytes_cmp t s) (sym e) ∙ f

    by : (place.index < i) ⊎ (i ≤ place.index) → ⊥
    by (inl l) = at xs place.below (λ d. parted.0 place.index d (omega arith) l)
      where
        at : (ys : List Start) → place.index < length ys → ((d : Start) → bytes_cmp (step_at (get_or xs place.index d)) s ≡ Less) → ⊥
        at [] lt each = absurd (omega (arith, lt))
        at (y ∷ ys) lt each = let w = not_equal Less (step_at (get_or xs place.index y)) (place.is y) (each y) in cc
    by (inr l) = at xs place.below (λ d. parted.1 place.index d l place.below)
      where
        at : (ys : List Start) → place.index < length ys → ((d : Start) → bytes_cmp (step_at (get_or xs place.index d)) s ≡ Greater) → ⊥
        at [] lt each = absurd (omega (arith, lt))
        at (y ∷ ys) lt each = let w = not_equal Greater (step_at (get_or xs place.index y)) (place.is y) (each y) in cc

-- The entries of a directory parted by their places, as the definition of its shape parts them.
use Rattle.std.proofs.Common.{◌≡◌, ℕ, zero, suc, ◌+◌, ◌<◌, ◌≤◌, List, [], ◌∷◌, ◌++◌, refl, sym, ap, subst, ◌∙◌, Bool, true, false, cond, get_or, length, map, take, arith}
use Rattle.std.specs.Prelude.{◌*◌, ◌^◌, ◌==◌, filter, nat_lt, sum_by, All}
use Rattle.std.specs.List.{range_with_len, AllByRecursion}
use Rattle.std.proofs.lemmas.List.{length-map, map-append, get_or-map}
use Rattle.std.proofs.lemmas.List.Elements.{All-filter, All-map, All-push, recursion_from_All, filter_more}
use Rattle.std.proofs.lemmas.List.Folds.{fold-map}
use Rattle.std.proofs.lemmas.List.FromFn.{length-range_with_len, get_or-range_with_len, filter_of_map_range_with_len_more}
use Rattle.std.proofs.lemmas.List.Sums.{sum_by-cons, length-filter, count_by-le-length}
use Rattle.std.specs.List.{count_by}
use Rattle.sha2.specs.Sha256.{sha256}
use Rattle.ip_spec.specs.Path.{Step}
use Rattle.ip_spec.specs.Record.{Child as Named}
use Rattle.ip_spec.specs.Shape.{place, at_place, children_of}
use Rattle.ip_model_trees.specs.declared.names.Entry.{Entry}
use Rattle.ip_model_trees.specs.declared.places.Placed.{Placed}
use Rattle.ip_model_trees.specs.declared.places.Child.{Child}
use Rattle.ip_model_trees.specs.Places.{place_in, entry_of, pair_of, IsPlaced, ArePlaced, entries_at, children_below, children_in, child_parts}
use Rattle.ip_model_trees.proofs.Lists.{again}
use Rattle.ip_model_trees.proofs.Placing.{taken_more}

-- ---- one more, as in the loops

pub placed_more : (es : List Entry) (i : ℕ) (e : Entry) (old new : List Placed) (p : Placed) → i < length es → e ≡ get_or es i e → map entry_of old ≡ take i es → All IsPlaced old → new ≡ old ++ p ∷ [] → p.entry.now ≡ e → p.digest ≡ sha256 e.step
    → (map entry_of new ≡ take (i + 1) es) × All IsPlaced new
placed_more es i e old new p low is before placed pushed same digest =
    let here : IsPlaced p = digest ∙ ap (λ (x : Entry). sha256 x.step) (sym same) in (
      ap (map entry_of) pushed ∙ (map-append entry_of old (p ∷ []) ∙ (ap (λ xs. xs ++ p.entry.now ∷ []) before ∙ (ap (λ x. take i es ++ x ∷ []) same ∙ sym (taken_more es i e low is)))),
      subst (All IsPlaced) (sym pushed) (All-push IsPlaced old p placed here),
    )

pub there_more : (depth index : ℕ) (ps : List Placed) (i : ℕ) (p : Placed) (old new : List Placed) → i < length ps → p ≡ get_or ps i p → old ≡ entries_at depth index (take i ps) → new ≡ old ++ cond (place_in p.digest depth == index) (p ∷ []) [] → new ≡ entries_at depth index (take (i + 1) ps)
there_more depth index ps i p old new low is before pushed =
    pushed ∙ (ap (λ xs. xs ++ cond (place_in p.digest depth == index) (p ∷ []) []) before
    ∙ (ap (λ (x : Placed). entries_at depth index (take i ps) ++ cond (place_in x.digest depth == index) (x ∷ []) []) is
    ∙ sym (filter_more (λ (x : Placed). place_in x.digest depth == index) ps i p low)))

pub child_more : (depth i : ℕ) (ps there : List Placed) (old new : List Child) → map child_parts old ≡ children_below depth i ps → there ≡ entries_at depth i ps → map child_parts new ≡ map child_parts old ++ cond (nat_lt 0 (length there)) ((i, there) ∷ []) [] → map child_parts new ≡ children_below depth (i + 1) ps
child_more depth i ps there old new before are pushed =
    let last : ℕ → ℕ × List Placed = λ k. (k, entries_at depth k ps) in
    pushed ∙ (ap (λ xs. xs ++ cond (nat_lt 0 (length there)) ((i, there) ∷ []) []) before
    ∙ (ap (λ (xs : List Placed). children_below depth i ps ++ cond (nat_lt 0 (length xs)) ((i, xs) ∷ []) []) are
    ∙ sym (filter_of_map_range_with_len_more (λ (c : ℕ × List Placed). nat_lt 0 (length c.1)) last 0 i i (omega arith))))

pub opened : (depth : ℕ) (ps : List Placed) → children_in depth ps ≡ children_below depth 32 ps
unfolding children_in
opened depth ps = refl

-- ---- the children are those of the definition

abbrev pub pairs_in : ℕ × List Placed → ℕ × List (Step × Named)
pairs_in c = (c.0, map pair_of c.1)

kept : {A B : Type 0} (h : A → B) (x : A) (ys : List B) (xs : List A) (b : Bool) → ys ≡ map h xs → cond b (h x ∷ ys) ys ≡ map h (cond b (x ∷ xs) xs)
kept h x ys xs true e = ap (λ zs. h x ∷ zs) e
kept h x ys xs false e = e

filter_mapped : {A B : Type 0} (p : B → Bool) (q : A → Bool) (h : A → B) → ((x : A) → p (h x) ≡ q x) → (xs : List A) → filter p (map h xs) ≡ map h (filter q xs)
filter_mapped p q h same [] = refl
filter_mapped p q h same (x ∷ xs) = ap (λ b. cond b (h x ∷ filter p (map h xs)) (filter p (map h xs))) (same x) ∙ kept h x (filter p (map h xs)) (filter q xs) (q x) (filter_mapped p q h same xs)

filter_pairs : (depth i : ℕ) (ps : List Placed) → AllByRecursion IsPlaced ps → filter (λ (e : Step × Named). place_in (sha256 e.0) depth == i) (map pair_of ps) ≡ map pair_of (entries_at depth i ps)
filter_pairs depth i [] all = refl
filter_pairs depth i (p ∷ ps) (is, all) =
    let rest = filter (λ (e : Step × Named). place_in (sha256 e.0) depth == i) (map pair_of ps) in
    ap (λ (g : List ℕ). cond (place_in g depth == i) (pair_of p ∷ rest) rest) (sym is) ∙ kept pair_of p rest (entries_at depth i ps) (place_in p.digest depth == i) (filter_pairs depth i ps all)

at_pairs : (depth i : ℕ) (ps : List Placed) → AllByRecursion IsPlaced ps → at_place depth i (map pair_of ps) ≡ map pair_of (entries_at depth i ps)
unfolding at_place place
at_pairs depth i ps all = filter_pairs depth i ps all

pairs_below : (depth n : ℕ) (ps : List Placed) → All IsPlaced ps → filter (λ (c : ℕ × List (Step × Named)). nat_lt 0 (length c.1)) (map (λ i. (i, at_place depth i (map pair_of ps))) (range_with_len 0 n)) ≡ map pairs_in (children_below depth n ps)
pairs_below depth n ps all =
    let one : (i : ℕ) → at_place depth i (map pair_of ps) ≡ map pair_of (entries_at depth i ps) = λ i. at_pairs depth i ps (recursion_from_All IsPlaced ps all) in
    let each : map (λ (i : ℕ). (i, at_place depth i (map pair_of ps))) (range_with_len 0 n) ≡ map (λ (i : ℕ). (i, map pair_of (entries_at depth i ps))) (range_with_len 0 n) = λ j. map (λ (i : ℕ). (i, one i j)) (range_with_len 0 n) in
    let parts : List (ℕ × List Placed) = map (λ i. (i, entries_at depth i ps)) (range_with_len 0 n) in
    ap (λ xs. filter (λ (c : ℕ × List (Step × Named)). nat_lt 0 (length c.1)) xs) (each ∙ sym (again pairs_in (λ (i : ℕ). (i, entries_at depth i ps)) (range_with_len 0 n)))
    ∙ filter_mapped (λ (c : ℕ × List (Step × Named)). nat_lt 0 (length c.1)) (λ (c : ℕ × List Placed). nat_lt 0 (length c.1)) pairs_in (λ c. ap (nat_lt 0) (length-map c.1 pair_of)) parts

pub children_pairs : (depth : ℕ) (ps : List Placed) → All IsPlaced ps → children_of depth (map pair_of ps) ≡ map pairs_in (children_in depth ps)
unfolding children_of children_in
children_pairs depth ps all = pairs_below depth 32 ps all

-- ---- the bits of the children

abbrev bit : ℕ × List Placed → ℕ
bit c = 2 ^ c.0

at_most : (b : Bool) (c : ℕ × List Placed) (rest : List (ℕ × List Placed)) → sum_by bit (cond b (c ∷ rest) rest) ≤ 2 ^ c.0 + sum_by bit rest
at_most true c rest = subst (λ n. n ≤ 2 ^ c.0 + sum_by bit rest) (sym (sum_by-cons bit c rest)) (omega arith)
at_most false c rest = omega arith

grown : (s r p q t : ℕ) → r + q ≤ t → q ≡ 2 * p → s ≤ p + r → s + p ≤ t
grown s r p q t h e l = omega arith

next_power : (a : ℕ) → 2 ^ (a + 1) ≡ 2 * 2 ^ a
next_power a = (let e : a + 1 ≡ suc a = omega arith in ap (λ k. 2 ^ k) e) ∙ (let f : 2 ^ suc a ≡ 2 * 2 ^ a = omega arith in f)

bits_from : (f : ℕ → List Placed) (a n : ℕ) → sum_by bit (filter (λ c. nat_lt 0 (length c.1)) (map (λ i. (i, f i)) (range_with_len a n))) + 2 ^ a ≤ 2 ^ (a + n)
bits_from f a zero = let e : a ≡ a + 0 = omega arith in subst (λ k. 0 + 2 ^ a ≤ 2 ^ k) e (omega arith)
bits_from f a (suc n) =
    let rest = filter (λ (c : ℕ × List Placed). nat_lt 0 (length c.1)) (map (λ i. (i, f i)) (range_with_len (a + 1) n)) in
    let next : a + 1 + n ≡ a + suc n = omega arith in
    let some = nat_lt 0 (length (f a)) in
    subst (λ k. sum_by bit (cond some ((a, f a) ∷ rest) rest) + 2 ^ a ≤ 2 ^ k) next
    (grown (sum_by bit (cond some ((a, f a) ∷ rest) rest)) (sum_by bit rest) (2 ^ a) (2 ^ (a + 1)) (2 ^ (a + 1 + n)) (bits_from f (a + 1) n) (next_power a) (at_most some (a, f a) rest))

bits_below : (depth n : ℕ) (ps : List Placed) (xs : List (ℕ × List Placed)) → xs ≡ children_below depth n ps → sum_by bit xs + 2 ^ 0 ≤ 2 ^ (0 + n)
bits_below depth n ps xs are = subst (λ ys. sum_by bit ys + 2 ^ 0 ≤ 2 ^ (0 + n)) (sym are) (bits_from (λ i. entries_at depth i ps) 0 n)

pub small_bits : (depth : ℕ) (ps : List Placed) (cs : List Child) → map child_parts cs ≡ children_in depth ps → sum_by (λ (c : Child). 2 ^ c.index) cs < 2 ^ 32
small_bits depth ps cs are =
    let low : sum_by bit (map child_parts cs) + 1 ≤ 2 ^ 32 = bits_below depth 32 ps (map child_parts cs) (are ∙ opened depth ps) in
    let same : sum_by bit (map child_parts cs) ≡ sum_by (λ (c : Child). 2 ^ c.index) cs = fold-map (λ (n : ℕ) (c : ℕ × List Placed). n + 2 ^ c.0) child_parts 0 cs in
    subst (λ n. n < 2 ^ 32) same (omega (arith, low))

-- ---- what holds of each child

indexes_below : (depth n : ℕ) (ps : List Placed) → All (λ c. c.0 < n) (children_below depth n ps)
indexes_below depth n ps =
    All-filter (λ (c : ℕ × List Placed). nat_lt 0 (length c.1)) (λ c. c.0 < n) (map (λ i. (i, entries_at depth i ps)) (range_with_len 0 n))
    (All-map (λ c. c.0 < n) (λ (i : ℕ). (i, entries_at depth i ps)) (range_with_len 0 n) low)
  where
    low : (k d : ℕ) → k < length (range_with_len 0 n) → get_or (range_with_len 0 n) k d < n
    low k d lt =
        let size : length (range_with_len 0 n) ≡ n = length-range_with_len 0 n in
        let short : k < n = omega (arith, lt, size) in
        let e : get_or (range_with_len 0 n) k d ≡ 0 + k = get_or-range_with_len 0 n k d short in
        omega (arith, e, short)

entries_below : (depth n : ℕ) (ps : List Placed) → All (λ c. c.1 ≡ entries_at depth c.0 ps) (children_below depth n ps)
entries_below depth n ps =
    All-filter (λ (c : ℕ × List Placed). nat_lt 0 (length c.1)) (λ c. c.1 ≡ entries_at depth c.0 ps) (map (λ i. (i, entries_at depth i ps)) (range_with_len 0 n))
    (All-map (λ c. c.1 ≡ entries_at depth c.0 ps) (λ (i : ℕ). (i, entries_at depth i ps)) (range_with_len 0 n) (λ k d lt. refl))

-- what holds of the parts of all children holds of those of each
each_child : (P : ℕ × List Placed → Type 0) (xs : List (ℕ × List Placed)) (cs : List Child) → map child_parts cs ≡ xs → All P xs → (k : ℕ) (d : Child) → k < length cs → P (child_parts (get_or cs k d))
each_child P xs cs are all k d lt =
    let at : get_or xs k (child_parts d) ≡ child_parts (get_or cs k d) = ap (λ ys. get_or ys k (child_parts d)) (sym are) ∙ get_or-map child_parts cs k d (child_parts d) lt in
    subst P at (all k (child_parts d) (subst (λ n. k < n) (sym (length-map cs child_parts) ∙ ap length are) lt))

pub low_indexes : (depth : ℕ) (ps : List Placed) (cs : List Child) → map child_parts cs ≡ children_in depth ps → All (λ (c : Child). c.index < 32) cs
low_indexes depth ps cs are = each_child (λ c. c.0 < 32) (children_below depth 32 ps) cs (are ∙ opened depth ps) (indexes_below depth 32 ps)

some_placed : (depth index : ℕ) (ps : List Placed) → ArePlaced ps → ArePlaced (entries_at depth index ps)
some_placed depth index ps good =
    let here : Placed → Bool = λ p. place_in p.digest depth == index in
    let counted : length (filter here ps) ≡ count_by here ps = length-filter here ps in
    let fewer : count_by here ps ≤ length ps = count_by-le-length here ps in
    record {
      count = omega (arith, counted, fewer, good.count);
      short = All-filter here (λ (p : Placed). length p.entry.now.step ≤ 255) ps good.short;
      digests = All-filter here IsPlaced ps good.digests;
    }

pub child_placed : (depth : ℕ) (ps : List Placed) (cs : List Child) (k : ℕ) (c : Child) → map child_parts cs ≡ children_in depth ps → k < length cs → c ≡ get_or cs k c → ArePlaced ps → ArePlaced c.entries.items
child_placed depth ps cs k c are low is good =
    let there = each_child (λ x. x.1 ≡ entries_at depth x.0 ps) (children_below depth 32 ps) cs (are ∙ opened depth ps) (entries_below depth 32 ps) k c low in
    let here : c.entries.items ≡ entries_at depth c.index ps = subst (λ (x : Child). x.entries.items ≡ entries_at depth x.index ps) (sym is) there in
    subst ArePlaced (sym here) (some_placed depth c.index ps good)

-- ---- all entries of a directory

pub all_placed : (es : List Entry) (ps : List Placed) → map entry_of ps ≡ es → All IsPlaced ps → length es < 2 ^ 32 → All (λ (e : Entry). length e.step ≤ 255) es → ArePlaced ps
all_placed es ps are placed few short =
    let size : length ps ≡ length es = sym (length-map ps entry_of) ∙ ap length are in
    record {
      count = subst (λ n. n < 2 ^ 32) (sym size) few;
      short = λ k d low.
          let at : get_or es k (entry_of d) ≡ entry_of (get_or ps k d) = ap (λ (xs : List Entry). get_or xs k (entry_of d)) (sym are) ∙ get_or-map entry_of ps k d (entry_of d) low in
          subst (λ (e : Entry). length e.step ≤ 255) at (short k (entry_of d) (subst (λ n. k < n) size low));
      digests = placed;
    }

-- Parts at different places make one list of entries in order, whose children they are.
use Rattle.std.proofs.Common.{◌≡◌, ◌⊎◌, inl, inr, ℕ, zero, suc, ◌<◌, ◌≤◌, ◌+◌, List, [], ◌∷◌, refl, sym, ap, subst, ◌∙◌, Option, Some, None, Bool, true, false, cond, T, length, arith, eqb→eq}
use Rattle.std.specs.Prelude.{nat_lt, map, filter, ◌==◌}
use Rattle.std.specs.List.{range_with_len}
use Rattle.std.specs.Cmp.Lexicographic.{nat_list_cmp_total}
use Rattle.std.specs.FinMap.Entries as Entries
use Rattle.ip_spec.specs.Map.{Map, get, insert, empty, insert_all, get-insert}
use Rattle.ip_spec.specs.Path.{Step, bytes_cmp, same_bytes}
use Rattle.ip_spec.specs.Tree.{Tree}
use Rattle.ip_spec.specs.Shape.{Entries, place, at_place, children_of}
use Rattle.ip_spec.proofs.Subtrees.{same_step}
use Rattle.ip_audit.proofs.Basics.{no_true, bytes_antisymmetric, or_else, look, equal_test}
use Rattle.ip_audit.proofs.Trees.{In, Ordered, found_in, rest_sorted, first_once}

abbrev pub Parts : Type 0
Parts = List (ℕ × Map bytes_cmp Tree)

abbrev pub plain : ℕ × Map bytes_cmp Tree → ℕ × Entries
plain c = (c.0, c.1.entries)

-- at different places that ascend from one on, each with some entries, all at the place
pub data Ascend (depth : ℕ) : ℕ → Parts → Type 0 where
  none_more : {a : ℕ} → a ≤ 32 → Ascend depth a []
  one_more : {a : ℕ} {c : ℕ × Map bytes_cmp Tree} {cs : Parts} → a ≤ c.0 → c.0 < 32 → 0 < length c.1.entries → ((x : Step × Tree) → In x c.1.entries → place x.0 depth ≡ c.0) → Ascend depth (suc c.0) cs → Ascend depth a (c ∷ cs)

pub merged : Parts → Map bytes_cmp Tree
merged [] = empty
merged (c ∷ cs) = insert_all (merged cs) c.1.entries

abbrev find_in : Step → Entries → Option Tree
find_in s es = Entries.find bytes_cmp s es

get-insert_all : (es : Entries) → Ordered es → (m : Map bytes_cmp Tree) (s : Step) → get (insert_all m es) s ≡ or_else (find_in s es) (get m s)
unfolding or_else
get-insert_all [] h m s = refl
get-insert_all (e ∷ es) h m s =
    get-insert_all es (rest_sorted nat_list_cmp_total bytes_antisymmetric e es h) (insert m e.0 e.1) s
    ∙ ap (or_else (find_in s es)) (get-insert nat_list_cmp_total m e.0 e.1 s)
    ∙ by (same_bytes s e.0) (λ t. ap (λ k. find_in k es) (same_step s e.0 t) ∙ first_once nat_list_cmp_total bytes_antisymmetric e es h)
  where
    by : (b : Bool) → (b ≡ true → find_in s es ≡ None) → or_else (find_in s es) (cond b (Some e.1) (get m s)) ≡ or_else (cond b (Some e.1) (find_in s es)) (get m s)
    by true none = ap (λ o. or_else o (Some e.1)) (none refl)
    by false none = refl

differ_test : (a b : ℕ) → a < b → (b == a) ≡ false
differ_test a b h = grind arith

-- no part at a place below
look_below : (depth a i : ℕ) (cs : Parts) → Ascend depth a cs → i < a → look i (map plain cs) ≡ []
unfolding look
look_below depth a i [] h l = refl
look_below depth a i (c ∷ cs) (one_more low high some at rest) l =
    ap (λ b. cond b c.1.entries (look i (map plain cs))) (differ_test i c.0 (omega (arith, l, low))) ∙ look_below depth (suc c.0) i cs rest (omega (arith, l, low))

-- what is found at a place has that place
look_place : (depth a i : ℕ) (cs : Parts) → Ascend depth a cs → (x : Step × Tree) → In x (look i (map plain cs)) → place x.0 depth ≡ i
unfolding look In
look_place depth a i [] h x j = absurd j
look_place depth a i (c ∷ cs) (one_more low high some at rest) x j = by (c.0 == i) refl j (look_place depth (suc c.0) i cs rest x)
  where
    by : (b : Bool) → (c.0 == i) ≡ b → In x (cond b c.1.entries (look i (map plain cs))) → (In x (look i (map plain cs)) → place x.0 depth ≡ i) → place x.0 depth ≡ i
    by true e j ih = at x j ∙ eqb→eq c.0 i (subst T (sym e) tt)
    by false e j ih = ih j

found_some : (o : Option Tree) → (o ≡ None) ⊎ ((t : Tree) × (o ≡ Some t))
found_some None = inl refl
found_some (Some t) = inr (t, refl)

find_merged : (depth a : ℕ) (cs : Parts) → Ascend depth a cs → (s : Step) → get (merged cs) s ≡ find_in s (look (place s depth) (map plain cs))
unfolding merged empty look or_else
find_merged depth a [] h s = refl
find_merged depth a (c ∷ cs) (one_more low high some at rest) s =
    get-insert_all c.1.entries c.1.sorted (merged cs) s
    ∙ ap (or_else (find_in s c.1.entries)) (find_merged depth (suc c.0) cs rest s)
    ∙ by (c.0 == place s depth) refl
  where
    by : (b : Bool) → (c.0 == place s depth) ≡ b → or_else (find_in s c.1.entries) (find_in s (look (place s depth) (map plain cs))) ≡ find_in s (cond b c.1.entries (look (place s depth) (map plain cs)))
    by true e = ap (λ es. or_else (find_in s c.1.entries) (find_in s es)) (look_below depth (suc c.0) (place s depth) cs rest (let same = eqb→eq c.0 (place s depth) (subst T (sym e) tt) in omega (arith, same))) ∙ or_none (find_in s c.1.entries)
      where
        or_none : (o : Option Tree) → or_else o None ≡ o
        or_none None = refl
        or_none (Some t) = refl
    by false e = pick (found_some (find_in s c.1.entries))
      where
        pick : (find_in s c.1.entries ≡ None) ⊎ ((t : Tree) × (find_in s c.1.entries ≡ Some t)) → or_else (find_in s c.1.entries) (find_in s (look (place s depth) (map plain cs))) ≡ find_in s (look (place s depth) (map plain cs))
        pick (inl n) = ap (λ o. or_else o (find_in s (look (place s depth) (map plain cs)))) n
        pick (inr (t, is)) =
            let p = at (s, t) (found_in nat_list_cmp_total bytes_antisymmetric s t c.1.entries is) in
            absurd (no_true (c.0 == place s depth) e (ap (λ k. c.0 == k) p ∙ equal_test c.0))

look_ordered : (i : ℕ) (cs : Parts) → Ordered (look i (map plain cs))
unfolding look
look_ordered i [] = tt
look_ordered i (c ∷ cs) = by (c.0 == i) (look_ordered i cs)
  where
    by : (b : Bool) → Ordered (look i (map plain cs)) → Ordered (cond b c.1.entries (look i (map plain cs)))
    by true ih = c.1.sorted
    by false ih = ih

place_ordered : (depth i : ℕ) (es : Entries) → Ordered es → Ordered (at_place depth i es)
unfolding at_place
place_ordered depth i es o = Entries.is_sorted-where_key bytes_cmp (λ k. place k depth == i) es o

find_at_place : (depth i : ℕ) (es : Entries) (s : Step) → find_in s (at_place depth i es) ≡ cond (place s depth == i) (find_in s es) None
unfolding at_place
find_at_place depth i es s = Entries.find-where_key bytes_cmp (λ k. place k depth == i) s (λ x e. ap (λ k. place k depth == i) (sym (bytes_antisymmetric s x e))) es

-- each place of the merged entries has the part
pub part_of_merged : (depth a : ℕ) (cs : Parts) → Ascend depth a cs → (i : ℕ) → at_place depth i (merged cs).entries ≡ look i (map plain cs)
part_of_merged depth a cs h i = Entries.same_entries bytes_cmp nat_list_cmp_total bytes_antisymmetric (at_place depth i (merged cs).entries) (look i (map plain cs)) (place_ordered depth i (merged cs).entries (merged cs).sorted) (look_ordered i cs)
    (λ s. find_at_place depth i (merged cs).entries s ∙ by s (place s depth == i) refl)
  where
    by : (s : Step) (b : Bool) → (place s depth == i) ≡ b → cond b (get (merged cs) s) None ≡ find_in s (look i (map plain cs))
    by s true e = find_merged depth a cs h s ∙ ap (λ k. find_in s (look k (map plain cs))) (eqb→eq (place s depth) i (subst T (sym e) tt))
    by s false e = pick (found_some (find_in s (look i (map plain cs))))
      where
        pick : (find_in s (look i (map plain cs)) ≡ None) ⊎ ((t : Tree) × (find_in s (look i (map plain cs)) ≡ Some t)) → None ≡ find_in s (look i (map plain cs))
        pick (inl n) = sym n
        pick (inr (t, is)) =
            let p = look_place depth a i cs h (s, t) (found_in nat_list_cmp_total bytes_antisymmetric s t (look i (map plain cs)) is) in
            absurd (no_true (place s depth == i) e (ap (λ k. k == i) p ∙ equal_test i))

-- ---- the list of children

abbrev is_some_part : ℕ × Entries → Bool
is_some_part c = nat_lt 0 (length c.1)

abbrev listed : (ℕ → Entries) → ℕ → ℕ → List (ℕ × Entries)
listed f a n = filter is_some_part (map (λ i. (i, f i)) (range_with_len a n))

listed_same : (f g : ℕ → Entries) (a n : ℕ) → ((i : ℕ) → a ≤ i → f i ≡ g i) → listed f a n ≡ listed g a n
listed_same f g a zero h = refl
listed_same f g a (suc n) h = let e = h a (omega arith) in let ih = listed_same f g (a + 1) n (λ i l. h i (omega (arith, l))) in
    λ j. cond (is_some_part (a, e j)) ((a, e j) ∷ ih j) (ih j)

some_test : (n : ℕ) → 0 < n → nat_lt 0 n ≡ true
some_test n l = grind arith

first_or_later : (a b : ℕ) → a ≤ b → (b ≡ a) ⊎ (a < b)
first_or_later a b l = grind arith

listed_first : (f : ℕ → Entries) (a n : ℕ) (es : Entries) → f a ≡ es → 0 < length es → listed f a (suc n) ≡ (a, es) ∷ listed f (a + 1) n
listed_first f a n es e some =
    ap (λ ds. cond (is_some_part (a, ds)) ((a, ds) ∷ listed f (a + 1) n) (listed f (a + 1) n)) e
    ∙ ap (λ b. cond b ((a, es) ∷ listed f (a + 1) n) (listed f (a + 1) n)) (some_test (length es) some)

listed_none : (f : ℕ → Entries) (a n : ℕ) → f a ≡ [] → listed f a (suc n) ≡ listed f (a + 1) n
listed_none f a n e = ap (λ ds. cond (is_some_part (a, ds)) ((a, ds) ∷ listed f (a + 1) n) (listed f (a + 1) n)) e

listed_parts : (depth a n : ℕ) (cs : Parts) → a + n ≡ 32 → Ascend depth a cs → listed (λ i. look i (map plain cs)) a n ≡ map plain cs
unfolding look
listed_parts depth a zero [] l h = refl
listed_parts depth a zero (c ∷ cs) l (one_more low high some at rest) = absurd (omega (arith, l, low, high))
listed_parts depth a (suc n) [] l h = listed_none (λ i. look i []) a n refl ∙ listed_parts depth (a + 1) n [] (omega (arith, l)) (none_more (omega (arith, l)))
listed_parts depth a (suc n) (c ∷ cs) l (one_more low high some at rest) =
    by (first_or_later a c.0 low) (λ h. listed_parts depth (a + 1) n cs (omega (arith, l)) h) (λ h. listed_parts depth (a + 1) n (c ∷ cs) (omega (arith, l)) h)
  where
    by : (c.0 ≡ a) ⊎ (a < c.0) → (Ascend depth (a + 1) cs → listed (λ i. look i (map plain cs)) (a + 1) n ≡ map plain cs)
        → (Ascend depth (a + 1) (c ∷ cs) → listed (λ i. look i (map plain (c ∷ cs))) (a + 1) n ≡ map plain (c ∷ cs)) → listed (λ i. look i (map plain (c ∷ cs))) a (suc n) ≡ map plain (c ∷ cs)
    by (inl e) one two =
        let here : look a (map plain (c ∷ cs)) ≡ c.1.entries = ap (λ b. cond b c.1.entries (look a (map plain cs))) (ap (λ k. k == a) e ∙ equal_test a) in
        let next : suc c.0 ≡ a + 1 = omega (arith, e) in
        listed_first (λ i. look i (map plain (c ∷ cs))) a n c.1.entries here some
        ∙ ap (λ xs. (a, c.1.entries) ∷ xs) (listed_same (λ i. look i (map plain (c ∷ cs))) (λ i. look i (map plain cs)) (a + 1) n (λ i m. ap (λ b. cond b c.1.entries (look i (map plain cs))) (apart i (omega (arith, e, m)))) ∙ one (subst (λ k. Ascend depth k cs) next rest))
        ∙ ap (λ k. (k, c.1.entries) ∷ map plain cs) (sym e)
      where
        apart : (i : ℕ) → c.0 < i → (c.0 == i) ≡ false
        apart i m = grind arith
    by (inr m) one two =
        listed_none (λ i. look i (map plain (c ∷ cs))) a n (look_below depth c.0 a (c ∷ cs) (one_more (omega arith) high some at rest) m)
        ∙ two (one_more (omega (arith, m)) high some at rest)

pub children_merged : (depth : ℕ) (cs : Parts) → Ascend depth 0 cs → children_of depth (merged cs).entries ≡ map plain cs
unfolding children_of
children_merged depth cs h = listed_same (λ i. at_place depth i (merged cs).entries) (λ i. look i (map plain cs)) 0 32 (λ i l. part_of_merged depth 0 cs h i) ∙ listed_parts depth 0 32 cs refl h

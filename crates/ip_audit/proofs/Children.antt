-- The children of an inode: they hold what the part holds, and no more.
use Rattle.std.proofs.Common.{◌≡◌, ◌≢◌, ◌⊎◌, inl, inr, ℕ, zero, suc, ◌<◌, ◌≤◌, ◌+◌, List, [], ◌∷◌, refl, sym, ap, subst, ◌∙◌, Bool, true, false, cond, T, length, arith, eqb→eq}
use Rattle.std.specs.Prelude.{IsTrue, nat_lt, map, filter, fold, ◌==◌, sum_by}
use Rattle.std.specs.List.{range_with_len}
use Rattle.ip_spec.specs.Path.{Step}
use Rattle.ip_spec.specs.Tree.{Tree, height}
use Rattle.ip_spec.specs.Shape.{Entries, place, at_place, children_of, height_of_part}
use Rattle.ip_audit.proofs.Basics.{place_small, equal_test}
use Rattle.ip_audit.proofs.Trees.{In, top_from, top_above, top_below}

-- ---- members of made lists

pub in_filter : {A : Type 0} (p : A → Bool) (x : A) (xs : List A) → In x (filter p xs) → In x xs × IsTrue (p x)
unfolding In
in_filter p x [] i = absurd i
in_filter p x (y ∷ ys) i = by (p y) refl i (in_filter p x ys)
  where
    by : (b : Bool) → p y ≡ b → In x (cond b (y ∷ filter p ys) (filter p ys)) → (In x (filter p ys) → In x ys × IsTrue (p x)) → ((x ≡ y) ⊎ In x ys) × IsTrue (p x)
    by true e (inl is) ih = (inl is, ap p is ∙ e)
    by true e (inr j) ih = let g = ih j in (inr g.0, g.1)
    by false e j ih = let g = ih j in (inr g.0, g.1)

pub filter_in : {A : Type 0} (p : A → Bool) (x : A) (xs : List A) → In x xs → IsTrue (p x) → In x (filter p xs)
unfolding In
filter_in p x [] i h = absurd i
filter_in p x (y ∷ ys) (inl is) h = subst (λ b. In x (cond b (y ∷ filter p ys) (filter p ys))) (sym (ap p (sym is) ∙ h)) (inl is)
filter_in p x (y ∷ ys) (inr i) h = by (p y) (filter_in p x ys i h)
  where
    by : (b : Bool) → In x (filter p ys) → In x (cond b (y ∷ filter p ys) (filter p ys))
    by true j = inr j
    by false j = j

pub in_map : {A B : Type 0} (f : A → B) (y : B) (xs : List A) → In y (map f xs) → (x : A) × In x xs × (y ≡ f x)
unfolding In
in_map f y [] i = absurd i
in_map f y (x ∷ xs) (inl e) = (x, inl refl, e)
in_map f y (x ∷ xs) (inr i) = let g = in_map f y xs i in (g.0, inr g.1, g.2)

pub map_of_in : {A B : Type 0} (f : A → B) (x : A) (xs : List A) → In x xs → In (f x) (map f xs)
unfolding In
map_of_in f x [] i = absurd i
map_of_in f x (y ∷ ys) (inl e) = inl (ap f e)
map_of_in f x (y ∷ ys) (inr i) = inr (map_of_in f x ys i)

either_first : (a i : ℕ) → (i ≡ a) ⊎ (i ≢ a)
either_first a i = grind arith

pub in_range : (a n i : ℕ) → a ≤ i → i < a + n → In i (range_with_len a n)
unfolding In
in_range a zero i low high = absurd (omega (arith, low, high))
in_range a (suc n) i low high = by (either_first a i) (in_range (a + 1) n i)
  where
    by : (i ≡ a) ⊎ (i ≢ a) → (a + 1 ≤ i → i < a + 1 + n → In i (range_with_len (a + 1) n)) → (i ≡ a) ⊎ In i (range_with_len (a + 1) n)
    by (inl e) ih = inl e
    by (inr e) ih = inr (ih (omega (arith, low, e)) (omega (arith, high)))

pub some_length : {A : Type 0} (x : A) (xs : List A) → In x xs → 0 < length xs
unfolding In
some_length x [] i = absurd i
some_length x (y ∷ ys) i = omega arith

-- ---- what the children hold

abbrev is_some_part : ℕ × Entries → Bool
is_some_part c = nat_lt 0 (length c.1)

some_test : (n : ℕ) → 0 < n → nat_lt 0 n ≡ true
some_test n l = grind arith

test_some : (n : ℕ) → nat_lt 0 n ≡ true → 0 < n
test_some n l = grind arith

pub in_place : (depth i : ℕ) (es : Entries) (x : Step × Tree) → In x (at_place depth i es) → In x es × (place x.0 depth ≡ i)
unfolding at_place
in_place depth i es x h = let g = in_filter (λ (e : Step × Tree). place e.0 depth == i) x es h in (g.0, eqb→eq (place x.0 depth) i (subst T (sym g.1) tt))

pub place_in : (depth : ℕ) (es : Entries) (x : Step × Tree) → In x es → In x (at_place depth (place x.0 depth) es)
unfolding at_place
place_in depth es x h = filter_in (λ (e : Step × Tree). place e.0 depth == place x.0 depth) x es h (equal_test (place x.0 depth))

-- each child is at its place, and some
pub child_is : (depth : ℕ) (es : Entries) (c : ℕ × Entries) → In c (children_of depth es) → (c.1 ≡ at_place depth c.0 es) × (0 < length c.1)
unfolding children_of
child_is depth es c i =
    let f = in_filter is_some_part c (map (λ i. (i, at_place depth i es)) (range_with_len 0 32)) i in
    let m = in_map (λ i. (i, at_place depth i es)) c (range_with_len 0 32) f.0 in
    let first : c.0 ≡ m.0 = ap (λ x. x.0) m.2 in
    let second : c.1 ≡ at_place depth m.0 es = ap (λ x. x.1) m.2 in
    (second ∙ ap (λ k. at_place depth k es) (sym first), test_some (length c.1) f.1)

-- each entry is in the child of its place
pub entry_child : (depth : ℕ) (es : Entries) (x : Step × Tree) → In x es → In (place x.0 depth, at_place depth (place x.0 depth) es) (children_of depth es)
unfolding children_of
entry_child depth es x i =
    filter_in is_some_part (place x.0 depth, at_place depth (place x.0 depth) es) (map (λ i. (i, at_place depth i es)) (range_with_len 0 32))
    (map_of_in (λ i. (i, at_place depth i es)) (place x.0 depth) (range_with_len 0 32) (in_range 0 32 (place x.0 depth) (omega arith) (place_small x.0 depth)))
    (some_test (length (at_place depth (place x.0 depth) es)) (some_length x (at_place depth (place x.0 depth) es) (place_in depth es x i)))

-- ---- counts

unfoldable pub total : {A : Type 0} → (A → ℕ) → List A → ℕ
total f [] = 0
total f (x ∷ xs) = f x + total f xs

total_from : {A : Type 0} (f : A → ℕ) (k : ℕ) (xs : List A) → fold (λ n x. n + f x) k xs ≡ k + total f xs
unfolding total
total_from f k [] = omega arith
total_from f k (x ∷ xs) = let ih = total_from f (k + f x) xs in omega (arith, ih)

pub sum_total : {A : Type 0} (f : A → ℕ) (xs : List A) → sum_by f xs ≡ total f xs
sum_total f xs = let h = total_from f 0 xs in omega (arith, h)

abbrev sizes : (ℕ → Entries) → ℕ → ℕ → ℕ
sizes f a n = total (λ i. length (f i)) (range_with_len a n)

abbrev pub size_of : ℕ × Entries → ℕ
size_of c = length c.1

abbrev kept_sizes : (ℕ → Entries) → ℕ → ℕ → ℕ
kept_sizes f a n = total size_of (filter is_some_part (map (λ i. (i, f i)) (range_with_len a n)))

none_left : (n : ℕ) → nat_lt 0 n ≡ false → n ≡ 0
none_left n h = grind arith

-- those that are left out are empty
same_sizes : (f : ℕ → Entries) (a n : ℕ) → kept_sizes f a n ≡ sizes f a n
unfolding total
same_sizes f a zero = refl
same_sizes f a (suc n) = by (nat_lt 0 (length (f a))) refl (same_sizes f (a + 1) n)
  where
    by : (b : Bool) → nat_lt 0 (length (f a)) ≡ b → kept_sizes f (a + 1) n ≡ sizes f (a + 1) n
        → total size_of (cond b ((a, f a) ∷ filter is_some_part (map (λ i. (i, f i)) (range_with_len (a + 1) n))) (filter is_some_part (map (λ i. (i, f i)) (range_with_len (a + 1) n)))) ≡ length (f a) + sizes f (a + 1) n
    by true e ih = ap (λ k. length (f a) + k) ih
    by false e ih = let z = none_left (length (f a)) e in omega (arith, z, ih)

differ_test : (a b : ℕ) → a ≢ b → (a == b) ≡ false
differ_test a b h = grind arith

grows : (depth i : ℕ) (x : Step × Tree) (es : Entries) → place x.0 depth ≡ i → length (at_place depth i (x ∷ es)) ≡ suc (length (at_place depth i es))
unfolding at_place
grows depth i x es e = ap (λ b. length (cond b (x ∷ filter (λ (y : Step × Tree). place y.0 depth == i) es) (filter (λ (y : Step × Tree). place y.0 depth == i) es))) (ap (λ k. k == i) e ∙ equal_test i)

keeps : (depth i : ℕ) (x : Step × Tree) (es : Entries) → place x.0 depth ≢ i → length (at_place depth i (x ∷ es)) ≡ length (at_place depth i es)
unfolding at_place
keeps depth i x es e = ap (λ b. length (cond b (x ∷ filter (λ (y : Step × Tree). place y.0 depth == i) es) (filter (λ (y : Step × Tree). place y.0 depth == i) es))) (differ_test (place x.0 depth) i e)

none_more : (depth a n : ℕ) (x : Step × Tree) (es : Entries) → place x.0 depth < a → sizes (λ i. at_place depth i (x ∷ es)) a n ≡ sizes (λ i. at_place depth i es) a n
unfolding total
none_more depth a zero x es l = refl
none_more depth a (suc n) x es l =
    let ih = none_more depth (a + 1) n x es (omega (arith, l)) in
    let apart : place x.0 depth ≢ a = λ e. omega (arith, e, l) in
    let here = keeps depth a x es apart in
    omega (arith, ih, here)

one_more : (depth a n : ℕ) (x : Step × Tree) (es : Entries) → a ≤ place x.0 depth → place x.0 depth < a + n
    → sizes (λ i. at_place depth i (x ∷ es)) a n ≡ suc (sizes (λ i. at_place depth i es) a n)
unfolding total
one_more depth a zero x es low high = absurd (omega (arith, low, high))
one_more depth a (suc n) x es low high = by (either_first a (place x.0 depth)) (one_more depth (a + 1) n x es)
  where
    by : (place x.0 depth ≡ a) ⊎ (place x.0 depth ≢ a)
        → (a + 1 ≤ place x.0 depth → place x.0 depth < a + 1 + n → sizes (λ i. at_place depth i (x ∷ es)) (a + 1) n ≡ suc (sizes (λ i. at_place depth i es) (a + 1) n))
        → length (at_place depth a (x ∷ es)) + sizes (λ i. at_place depth i (x ∷ es)) (a + 1) n ≡ suc (length (at_place depth a es) + sizes (λ i. at_place depth i es) (a + 1) n)
    by (inl e) ih = let here = grows depth a x es e in let rest = none_more depth (a + 1) n x es (omega (arith, e)) in omega (arith, here, rest)
    by (inr e) ih = let here = keeps depth a x es e in let rest = ih (omega (arith, low, e)) (omega (arith, high)) in omega (arith, here, rest)

none_at_all : (depth a n : ℕ) → sizes (λ i. at_place depth i []) a n ≡ 0
unfolding total at_place
none_at_all depth a zero = refl
none_at_all depth a (suc n) = let ih = none_at_all depth (a + 1) n in omega (arith, ih)

all_sizes : (depth : ℕ) (es : Entries) → sizes (λ i. at_place depth i es) 0 32 ≡ length es
all_sizes depth [] = none_at_all depth 0 32
all_sizes depth (x ∷ es) = let ih = all_sizes depth es in let m = one_more depth 0 32 x es (omega arith) (let p = place_small x.0 depth in omega (arith, p)) in omega (arith, ih, m)

-- the children's counts add up to the part's
pub counts : (depth : ℕ) (es : Entries) → total size_of (children_of depth es) ≡ length es
unfolding children_of
counts depth es = same_sizes (λ i. at_place depth i es) 0 32 ∙ all_sizes depth es

abbrev top_height : ℕ → Entries → ℕ
top_height depth es = top_from (λ (c : ℕ × Entries). height_of_part c.1) 0 (children_of depth es)

-- and the greatest of their heights is the part's
pub heights : (depth : ℕ) (es : Entries) → top_from (λ (c : ℕ × Entries). height_of_part c.1) 0 (children_of depth es) ≡ height_of_part es
heights depth es = let a = low in let b = high in omega (arith, a, b)
  where
    low : top_height depth es ≤ height_of_part es
    low = top_below (λ (c : ℕ × Entries). height_of_part c.1) 0 (height_of_part es) (children_of depth es) (omega arith)
        (λ c i. top_below (λ (x : Step × Tree). suc (height x.1)) 0 (height_of_part es) c.1 (omega arith)
        (λ x j. let at = child_is depth es c i in top_above (λ (x : Step × Tree). suc (height x.1)) 0 x es (in_place depth c.0 es x (subst (In x) at.0 j)).0))

    high : height_of_part es ≤ top_height depth es
    high = top_below (λ (x : Step × Tree). suc (height x.1)) 0 (top_height depth es) es (omega arith)
        (λ x i. let a : suc (height x.1) ≤ height_of_part (at_place depth (place x.0 depth) es) = top_above (λ (x : Step × Tree). suc (height x.1)) 0 x (at_place depth (place x.0 depth) es) (place_in depth es x i) in
        let b : height_of_part (at_place depth (place x.0 depth) es) ≤ top_height depth es = top_above (λ (c : ℕ × Entries). height_of_part c.1) 0 (place x.0 depth, at_place depth (place x.0 depth) es) (children_of depth es) (entry_child depth es x i) in
        omega (arith, a, b))

-- Numbers that ascend, and records that lie one behind the other.
--     Up xs      each is below all later ones.      fewer      of two such lists the one whose members the other has is no longer
--     in_order, one_here      two records don't overlap
--     counted      one record more begins below where it ends
use Rattle.std.proofs.Common.{◌≡◌, ◌⊎◌, inl, inr, ℕ, suc, ◌+◌, ◌<◌, ◌≤◌, List, [], ◌∷◌, ◌++◌, refl, sym, ap, subst, ◌∙◌, Bool, true, false, cond, length, arith}
use Rattle.std.specs.Prelude.{slice_index_or, count_by, nat_le, nat_lt, ◌&&◌}
use Rattle.std.specs.List.{AllPairs, AllByRecursion}
use Rattle.std.specs.List.Sorted.{IsStrictlyIncreasing, IsStrictlySortedBy}
use Rattle.std.specs.Ordering.{nat_cmp}
use Rattle.std.specs.Cmp.{nat_cmp_is}
use Rattle.std.specs.declared.cmp.Ordering.TheVariants.{Less}
use Rattle.std.proofs.lemmas.Map.Keys.{IsStrictlyIncreasing-from_sorted}
use Rattle.std.proofs.lemmas.Bool.Decides.{nat_tests}
use Rattle.std.proofs.lemmas.List.Kept.{AllPairs-from_increasing}
use Rattle.std.proofs.lemmas.List.Sums.{sum_by-cons}
use Rattle.ip_spec.specs.declared.record.Record.{Record}
use Rattle.ip_spec.specs.Record.{spelling}
use Rattle.ip_spec.specs.TreeAt.{Records}
use Rattle.ip_spec.specs.Core.{core_records, AreInOrder}
use Rattle.ip_image.proofs.PairLaws.{Has}
use Rattle.ip_image.proofs.KeptRuns.{Ordered, ordered_has}
use Rattle.ip_image.proofs.StayingRecords.{In, in_contains}
use Rattle.ip_keep.specs.Keeping.{starts_between}

abbrev pub Up : List ℕ → Type 0
Up [] = Unit {0}
Up (x ∷ xs) = ((y : ℕ) → In xs y → x < y) × Up xs

up_pairs : (xs : List ℕ) → AllPairs (λ m n. m < n) xs → Up xs
up_pairs [] h = tt
up_pairs (x ∷ xs) h = (above, up_pairs xs (λ i j d l m. h (suc i) (suc j) d (omega (arith, l)) (omega (arith, m))))
  where
    above : (y : ℕ) → In xs y → x < y
    above y c =
        let (k, l, e) = in_contains xs y c in
        let less : x < slice_index_or xs k y = h 0 (suc k) y (omega arith) (omega (arith, l)) in
        subst (λ (n : ℕ). x < n) e less

pub up : (xs : List ℕ) → IsStrictlyIncreasing xs → Up xs
up xs h = up_pairs xs (AllPairs-from_increasing xs h)

pub fewer : (xs ys : List ℕ) → Up xs → Up ys → ((z : ℕ) → In xs z → In ys z) → length xs ≤ length ys
fewer [] ys a b to = omega arith
fewer (x ∷ xs) [] a b to = absurd (to x (inl refl))
fewer (x ∷ xs) (y ∷ ys) a b to = by (to x (inl refl)) (fewer xs ys a.1 b.1) (fewer (x ∷ xs) ys a b.1)
  where
    behind : (y ≡ x) → (z : ℕ) → In xs z → In ys z
    behind e z c = pick (to z (inr c))
      where
        pick : (y ≡ z) ⊎ In ys z → In ys z
        pick (inl f) = let l = a.0 z c in absurd (omega (arith, e, f, l))
        pick (inr g) = g

    over : In ys x → (z : ℕ) → In (x ∷ xs) z → In ys z
    over there z (inl e) = subst (In ys) e there
    over there z (inr c) = pick (to z (inr c))
      where
        pick : (y ≡ z) ⊎ In ys z → In ys z
        pick (inl f) = let l = a.0 z c in let m = b.0 x there in absurd (omega (arith, f, l, m))
        pick (inr g) = g

    by : (y ≡ x) ⊎ In ys x → (((z : ℕ) → In xs z → In ys z) → length xs ≤ length ys) → (((z : ℕ) → In (x ∷ xs) z → In ys z) → length (x ∷ xs) ≤ length ys) → length (x ∷ xs) ≤ length (y ∷ ys)
    by (inl e) one two = let l = one (behind e) in omega (arith, l)
    by (inr there) one two = let l = two (over there) in omega (arith, l)

-- each member is such a one
pub all_in : (P : ℕ → Type 0) (xs : List ℕ) → ((x : ℕ) → In xs x → P x) → AllByRecursion P xs
all_in P [] all = tt
all_in P (x ∷ xs) all = (all x (inl refl), all_in P xs (λ y c. all y (inr c)))

sorted : (xs : List ℕ) → Up xs → IsStrictlySortedBy nat_cmp xs
unfolding IsStrictlySortedBy
sorted [] a = tt
sorted (x ∷ xs) a = (all_in (λ y. nat_cmp x y ≡ Less) xs (λ y c. sym (nat_cmp_is x y Less (a.0 y c))), sorted xs a.1)

pub increasing : (xs : List ℕ) → Up xs → IsStrictlyIncreasing xs
increasing xs a = IsStrictlyIncreasing-from_sorted xs (sorted xs a)

-- ---- what is last

pub last_is : (xs : List ℕ) (at : ℕ) → Up xs → In xs at → ((y : ℕ) → In xs y → y ≤ at) → (rest : List ℕ) × (xs ≡ rest ++ at ∷ [])
last_is [] at a c most = absurd c
last_is (x ∷ []) at a (inl e) most = ([], ap (λ (n : ℕ). n ∷ []) e)
last_is (x ∷ []) at a (inr c) most = absurd c
last_is (x ∷ y ∷ xs) at a (inl e) most = let l = a.0 y (inl refl) in let m = most y (inr (inl refl)) in absurd (omega (arith, e, l, m))
last_is (x ∷ y ∷ xs) at a (inr c) most = let (rest, is) = last_is (y ∷ xs) at a.1 c (λ z d. most z (inr d)) in (x ∷ rest, ap (λ (l : List ℕ). x ∷ l) is)

pub in_push : (xs : List ℕ) (at y : ℕ) → In (xs ++ at ∷ []) y → In xs y ⊎ (at ≡ y)
in_push [] at y (inl e) = inr e
in_push [] at y (inr c) = absurd c
in_push (x ∷ xs) at y (inl e) = inl (inl e)
in_push (x ∷ xs) at y (inr c) = by (in_push xs at y c)
  where
    by : In xs y ⊎ (at ≡ y) → In (x ∷ xs) y ⊎ (at ≡ y)
    by (inl d) = inl (inr d)
    by (inr e) = inr e

pub push_in : (xs : List ℕ) (at y : ℕ) → In xs y → In (xs ++ at ∷ []) y
push_in [] at y c = absurd c
push_in (x ∷ xs) at y (inl e) = inl e
push_in (x ∷ xs) at y (inr c) = inr (push_in xs at y c)

pub push_last : (xs : List ℕ) (at : ℕ) → In (xs ++ at ∷ []) at
push_last [] at = inl refl
push_last (x ∷ xs) at = inr (push_last xs at)

pub up_front : (xs : List ℕ) (at : ℕ) → Up (xs ++ at ∷ []) → Up xs
up_front [] at a = tt
up_front (x ∷ xs) at a = (λ y c. a.0 y (push_in xs at y c), up_front xs at a.1)

pub push_below : (xs : List ℕ) (at y : ℕ) → Up (xs ++ at ∷ []) → In xs y → y < at
push_below [] at y a c = absurd c
push_below (x ∷ xs) at y a (inl e) = let l = a.0 at (push_last xs at) in omega (arith, e, l)
push_below (x ∷ xs) at y a (inr c) = push_below xs at y a.1 c

-- ---- records in order

pub record Lies (from : ℕ) (xs : Records) : Type 0 where
  pub to : ℕ
  pub ordered : Ordered from xs to

pub lies : (from : ℕ) (xs : Records) → AreInOrder from (core_records xs) → Lies from xs
lies from [] o = record { to = from; ordered = omega arith }
lies from (x ∷ xs) (low, some, o) = let l = lies (x.0 + length (spelling x.1)) xs o in record { to = l.to; ordered = (low, some, l.ordered) }

pub in_order : (from : ℕ) (xs : Records) (to : ℕ) (x y : ℕ × Record) → Ordered from xs to → Has xs x → Has xs y → x.0 < y.0 → x.0 + length (spelling x.1) ≤ y.0
in_order from [] to x y o a b less = absurd a
in_order from (z ∷ xs) to x y (low, some, o) (inl e) (inl f) less = let p = ap (λ (w : ℕ × Record). w.0) e in let q = ap (λ (w : ℕ × Record). w.0) f in absurd (omega (arith, p, q, less))
in_order from (z ∷ xs) to x y (low, some, o) (inl e) (inr b) less =
    let h = ordered_has (z.0 + length (spelling z.1)) xs to y o b in
    subst (λ (w : ℕ × Record). w.0 + length (spelling w.1) ≤ y.0) e h.0
in_order from (z ∷ xs) to x y (low, some, o) (inr a) (inl f) less =
    let h = ordered_has (z.0 + length (spelling z.1)) xs to x o a in
    let p = ap (λ (w : ℕ × Record). w.0) f in let under = h.0 in absurd (omega (arith, p, under, less))
in_order from (z ∷ xs) to x y (low, some, o) (inr a) (inr b) less = in_order (z.0 + length (spelling z.1)) xs to x y o a b less

-- a record that begins within another one is that
pub one_here : (from : ℕ) (xs : Records) (to : ℕ) (x y : ℕ × Record) → Ordered from xs to → Has xs x → Has xs y → x.0 ≤ y.0 → y.0 < x.0 + length (spelling x.1) → x ≡ y
one_here from [] to x y o a b low high = absurd a
one_here from (z ∷ xs) to x y (l, some, o) (inl e) (inl f) low high = sym e ∙ f
one_here from (z ∷ xs) to x y (l, some, o) (inl e) (inr b) low high =
    let h = ordered_has (z.0 + length (spelling z.1)) xs to y o b in
    let under = subst (λ (w : ℕ × Record). w.0 + length (spelling w.1) ≤ y.0) e h.0 in absurd (omega (arith, under, high))
one_here from (z ∷ xs) to x y (l, some, o) (inr a) (inl f) low high =
    let h = ordered_has (z.0 + length (spelling z.1)) xs to x o a in
    let p = ap (λ (w : ℕ × Record). w.0) f in let under = h.0 in absurd (omega (arith, p, under, low, some))
one_here from (z ∷ xs) to x y (l, some, o) (inr a) (inr b) low high = one_here (z.0 + length (spelling z.1)) xs to x y o a b low high

-- ---- counts

same_count : (p q : ℕ × Record → Bool) (xs : Records) → ((y : ℕ × Record) → Has xs y → p y ≡ q y) → count_by p xs ≡ count_by q xs
same_count p q [] same = refl
same_count p q (x ∷ xs) same =
    sum_by-cons (λ x. cond (p x) 1 0) x xs ∙ ap (λ (b : Bool). cond b 1 0 + count_by p xs) (same x (inl refl)) ∙ ap (λ (n : ℕ). cond (q x) 1 0 + n) (same_count p q xs (λ y c. same y (inr c)))
    ∙ sym (sum_by-cons (λ x. cond (q x) 1 0) x xs)

less_step : (b c : Bool) → (b ≡ true → c ≡ true) → cond b 1 0 ≤ cond c 1 0
less_step true c to = subst (λ (b : Bool). 1 ≤ cond b 1 0) (sym (to refl)) (omega arith)
less_step false c to = omega arith

less_count : (p q : ℕ × Record → Bool) (xs : Records) → ((y : ℕ × Record) → p y ≡ true → q y ≡ true) → count_by p xs ≤ count_by q xs
less_count p q [] to = omega arith
less_count p q (x ∷ xs) to =
    let a = sum_by-cons (λ x. cond (p x) 1 0) x xs in
    let b = sum_by-cons (λ x. cond (q x) 1 0) x xs in
    let l = less_count p q xs to in
    let m = less_step (p x) (q x) (to x) in
    omega (arith, a, b, l, m)

wider_test : (h a b n : ℕ) → a ≤ b → (nat_le h n && nat_lt n a) ≡ true → (nat_le h n && nat_lt n b) ≡ true
wider_test h a b n le is = grind (arith, nat_tests)

pub more_counted : (h a b : ℕ) (xs : Records) → a ≤ b → count_by (starts_between h a) xs ≤ count_by (starts_between h b) xs
more_counted h a b xs le = less_count (starts_between h a) (starts_between h b) xs (λ y is. wider_test h a b y.0 le is)

behind_test : (h a b n : ℕ) → a ≤ b → b ≤ n → (nat_le h n && nat_lt n b) ≡ (nat_le h n && nat_lt n a)
behind_test h a b n le high = grind (arith, nat_tests)

before_test : (h a b n : ℕ) → a ≤ b → n < a → (nat_le h n && nat_lt n b) ≡ (nat_le h n && nat_lt n a)
before_test h a b n le low = grind (arith, nat_tests)

here_test : (h a b n : ℕ) → h ≤ a → a < b → n ≡ a → (nat_le h n && nat_lt n b) ≡ true
here_test h a b n le low is = grind (arith, nat_tests)

not_test : (h a n : ℕ) → n ≡ a → (nat_le h n && nat_lt n a) ≡ false
not_test h a n is = grind (arith, nat_tests)

pub counted : (h from : ℕ) (xs : Records) (to : ℕ) (x : ℕ × Record) → h ≤ x.0 → Ordered from xs to → Has xs x
    → count_by (starts_between h (x.0 + length (spelling x.1))) xs ≡ count_by (starts_between h x.0) xs + 1
counted h from [] to x low o c = absurd c
counted h from (z ∷ xs) to x low (l, some, o) (inl e) =
    let b = x.0 + length (spelling x.1) in
    let place : z.0 ≡ x.0 = ap (λ (w : ℕ × Record). w.0) e in
    let some : 0 < length (spelling x.1) = subst (λ (w : ℕ × Record). 0 < length (spelling w.1)) e some in
    let one = sum_by-cons (λ y. cond (starts_between h b y) 1 0) z xs in
    let two = sum_by-cons (λ y. cond (starts_between h x.0 y) 1 0) z xs in
    let yes : ◌≡◌ {A = ℕ} (cond (starts_between h b z) 1 0) 1 = ap (λ (t : Bool). cond t 1 0) (here_test h x.0 b z.0 low (omega (arith, some)) place) in
    let none : ◌≡◌ {A = ℕ} (cond (starts_between h x.0 z) 1 0) 0 = ap (λ (t : Bool). cond t 1 0) (not_test h x.0 z.0 place) in
    let ends : b ≡ z.0 + length (spelling z.1) = sym (ap (λ (w : ℕ × Record). w.0 + length (spelling w.1)) e) in
    let rest = same_count (starts_between h b) (starts_between h x.0) xs (λ y c. (let u = (ordered_has (z.0 + length (spelling z.1)) xs to y o c).0 in behind_test h x.0 b y.0 (omega arith) (omega (arith, u, ends)))) in
    omega (arith, one, two, yes, none, rest)
counted h from (z ∷ xs) to x low (l, some, o) (inr c) =
    let b = x.0 + length (spelling x.1) in
    let u = (ordered_has (z.0 + length (spelling z.1)) xs to x o c).0 in
    let one = sum_by-cons (λ y. cond (starts_between h b y) 1 0) z xs in
    let two = sum_by-cons (λ y. cond (starts_between h x.0 y) 1 0) z xs in
    let same : ◌≡◌ {A = ℕ} (cond (starts_between h b z) 1 0) (cond (starts_between h x.0 z) 1 0) = ap (λ (t : Bool). cond t 1 0) (before_test h x.0 b z.0 (omega arith) (omega (arith, u, some))) in
    let rest = counted h (z.0 + length (spelling z.1)) xs to x low o c in
    omega (arith, one, two, same, rest)

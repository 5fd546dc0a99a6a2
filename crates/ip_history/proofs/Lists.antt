-- Elements of lists, tests of them, and filters of neighbouring numbers.
use Rattle.std.proofs.Common.{◌≡◌, ◌⊎◌, inl, inr, ℕ, zero, suc, ◌+◌, ◌<◌, List, [], ◌∷◌, refl, sym, ap, subst, ◌∙◌, Bool, true, false, cond, arith, eqb→eq, T}
use Rattle.std.specs.Prelude.{◌||◌, ◌&&◌, ◌==◌, Contains, filter}
use Rattle.std.specs.List.{list_any, range_with_len}

pub no_true : {X : Type 0} (b : Bool) → b ≡ false → b ≡ true → X
no_true b f t = cc

pub both_first : (b c : Bool) → (b && c) ≡ true → b ≡ true
both_first true c h = refl
both_first false c h = absurd (no_true false refl h)

pub both_second : (b c : Bool) → (b && c) ≡ true → c ≡ true
both_second true c h = h
both_second false c h = absurd (no_true false refl h)

-- two tests that are true together are one
pub same_test : (b c : Bool) → (b ≡ true → c ≡ true) → (c ≡ true → b ≡ true) → b ≡ c
same_test true c f g = sym (f refl)
same_test false true f g = g refl
same_test false false f g = refl

pub same_number : (m n : ℕ) → (m == n) ≡ true → m ≡ n
same_number m n h = eqb→eq m n (subst T (sym h) tt)

pub number_same : (m n : ℕ) → m ≡ n → (m == n) ≡ true
number_same m n e = grind arith

-- where an element stands
here : {X : Type 0} (x y : X) (xs : List X) → y ≡ x → Contains (y ∷ xs) x
here x y xs e = (zero, omega arith, e)

later : {X : Type 0} (x y : X) (xs : List X) → Contains xs x → Contains (y ∷ xs) x
later x y xs (k, low, is) = (suc k, omega (arith, low), is)

pub none : {X A : Type 0} (x : A) → Contains [] x → X
none x (k, low, is) = absurd (omega (arith, low))

split : {A : Type 0} (x y : A) (xs : List A) → Contains (y ∷ xs) x → (y ≡ x) ⊎ Contains xs x
split x y xs (zero, low, is) = inl is
split x y xs (suc k, low, is) = inr (k, omega (arith, low), is)

pub one : {A : Type 0} (x : A) → Contains (x ∷ []) x
one x = here x x [] refl

pub only : {A : Type 0} (x y : A) → Contains (x ∷ []) y → x ≡ y
only x y c = by (split y x [] c)
  where
    by : (x ≡ y) ⊎ Contains [] y → x ≡ y
    by (inl e) = e
    by (inr h) = none y h

-- what passes stays, and what stays was there and passes
pub filtered : {A : Type 0} (p : A → Bool) (xs : List A) (x : A) → Contains xs x → p x ≡ true → Contains (filter p xs) x
filtered p [] x c t = none x c
filtered p (y ∷ xs) x c t = by (p y) refl (split x y xs c) (λ h. filtered p xs x h t)
  where
    by : (b : Bool) → p y ≡ b → (y ≡ x) ⊎ Contains xs x → (Contains xs x → Contains (filter p xs) x) → Contains (cond b (y ∷ filter p xs) (filter p xs)) x
    by true e (inl is) ih = here x y (filter p xs) is
    by true e (inr h) ih = later x y (filter p xs) (ih h)
    by false e (inl is) ih = let f : false ≡ true = sym e ∙ (ap p is ∙ t) in absurd (cc)
    by false e (inr h) ih = ih h

pub of_filtered : {A : Type 0} (p : A → Bool) (xs : List A) (x : A) → Contains (filter p xs) x → Contains xs x × (p x ≡ true)
of_filtered p [] x c = none x c
of_filtered p (y ∷ xs) x c = by (p y) refl c (of_filtered p xs x)
  where
    by : (b : Bool) → p y ≡ b → Contains (cond b (y ∷ filter p xs) (filter p xs)) x → (Contains (filter p xs) x → Contains xs x × (p x ≡ true)) → Contains (y ∷ xs) x × (p x ≡ true)
    by true e c ih = pick (split x y (filter p xs) c)
      where
        pick : (y ≡ x) ⊎ Contains (filter p xs) x → Contains (y ∷ xs) x × (p x ≡ true)
        pick (inl is) = (here x y xs is, sym (ap p is) ∙ e)
        pick (inr h) = let r = ih h in (later x y xs r.0, r.1)
    by false e c ih = let r = ih c in (later x y xs r.0, r.1)

-- a test that passes at an element passes at some
pub any_at : {A : Type 0} (test : A → Bool) (xs : List A) (x : A) → Contains xs x → test x ≡ true → list_any test xs ≡ true
any_at test [] x c t = none x c
any_at test (y ∷ xs) x c t = by (split x y xs c) (λ h. any_at test xs x h t)
  where
    by : (y ≡ x) ⊎ Contains xs x → (Contains xs x → list_any test xs ≡ true) → (test y || list_any test xs) ≡ true
    by (inl e) ih = let f : test y ≡ true = ap test e ∙ t in rw f refl
    by (inr h) ih = pick (test y) (ih h)
      where
        pick : (b : Bool) → list_any test xs ≡ true → (b || list_any test xs) ≡ true
        pick true h = refl
        pick false h = h

pub at_any : {A : Type 0} (test : A → Bool) (xs : List A) → list_any test xs ≡ true → (x : A) × Contains xs x × (test x ≡ true)
at_any test [] h = absurd (no_true false refl h)
at_any test (y ∷ xs) h = by (test y) refl h (at_any test xs)
  where
    by : (b : Bool) → test y ≡ b → (b || list_any test xs) ≡ true → (list_any test xs ≡ true → (x : _) × Contains xs x × (test x ≡ true)) → (x : _) × Contains (y ∷ xs) x × (test x ≡ true)
    by true e h ih = (y, here y y xs refl, e)
    by false e h ih = let found = ih h in (found.0, later found.0 y xs found.1, found.2)

-- whether a number is in a list
abbrev pub has : List ℕ → ℕ → Bool
has ns n = list_any (λ m. m == n) ns

pub has_from : (ns : List ℕ) (n : ℕ) → Contains ns n → has ns n ≡ true
has_from ns n c = any_at (λ m. m == n) ns n c (number_same n n refl)

pub has_to : (ns : List ℕ) (n : ℕ) → has ns n ≡ true → Contains ns n
has_to ns n h = let found = at_any (λ m. m == n) ns h in subst (Contains ns) (same_number found.0 n found.2) found.1

pub filter_filter : {A : Type 0} (p q : A → Bool) (xs : List A) → filter p (filter q xs) ≡ filter (λ x. q x && p x) xs
filter_filter p q [] = refl
filter_filter p q (x ∷ xs) = by (q x) refl (filter_filter p q xs)
  where
    by : (b : Bool) → q x ≡ b → filter p (filter q xs) ≡ filter (λ y. q y && p y) xs → filter p (cond b (x ∷ filter q xs) (filter q xs)) ≡ cond (b && p x) (x ∷ filter (λ y. q y && p y) xs) (filter (λ y. q y && p y) xs)
    by true e ih = ap (λ r. cond (p x) (x ∷ r) r) ih
    by false e ih = ih

-- tests that agree from a on
pub filter_range : (p q : ℕ → Bool) (a n : ℕ) → ((k : ℕ) → p (a + k) ≡ q (a + k)) → filter p (range_with_len a n) ≡ filter q (range_with_len a n)
filter_range p q a zero same = refl
filter_range p q a (suc n) same =
    let e : p a ≡ q a = subst (λ m. p m ≡ q m) (omega arith) (same 0) in
    let rest = filter_range p q (a + 1) n (λ k. subst (λ m. p m ≡ q m) (omega arith) (same (suc k))) in
    by (p a) (q a) e rest
  where
    by : (b c : Bool) → b ≡ c → filter p (range_with_len (a + 1) n) ≡ filter q (range_with_len (a + 1) n) → cond b (a ∷ filter p (range_with_len (a + 1) n)) (filter p (range_with_len (a + 1) n)) ≡ cond c (a ∷ filter q (range_with_len (a + 1) n)) (filter q (range_with_len (a + 1) n))
    by true true e rest = ap (λ r. a ∷ r) rest
    by false false e rest = rest
    by true false e rest = absurd (cc)
    by false true e rest = absurd (cc)

pub range_has : (a n k : ℕ) → k < n → Contains (range_with_len a n) (a + k)
range_has a zero k low = absurd (omega (arith, low))
range_has a (suc n) zero low = here (a + zero) a (range_with_len (a + 1) n) (omega arith)
range_has a (suc n) (suc k) low = later (a + suc k) a (range_with_len (a + 1) n) (subst (Contains (range_with_len (a + 1) n)) (omega arith) (range_has (a + 1) n k (omega (arith, low))))

pub of_range : (a n m : ℕ) → Contains (range_with_len a n) m → (k : ℕ) × (k < n) × (m ≡ a + k)
of_range a zero m c = none m c
of_range a (suc n) m c = by (split m a (range_with_len (a + 1) n) c) (of_range (a + 1) n m)
  where
    by : (a ≡ m) ⊎ Contains (range_with_len (a + 1) n) m → (Contains (range_with_len (a + 1) n) m → (k : ℕ) × (k < n) × (m ≡ a + 1 + k)) → (k : ℕ) × (k < suc n) × (m ≡ a + k)
    by (inl e) ih = (0, omega arith, omega (arith, e))
    by (inr h) ih = let f = ih h in let low = f.1 in let is = f.2 in (suc f.0, omega (arith, low), omega (arith, is))

-- A list of names and the map of their places, as names come and go.
use Rattle.std.proofs.Common.{◌⊎◌, inl, inr, ◌≡◌, ℕ, zero, suc, ◌+◌, ◌<◌, arith, Bool, true, false, cond, List, [], ◌∷◌, ◌++◌, length, take, drop, get_or, Option, Some, None, Ok, Err, refl, sym, ◌∙◌, ap, subst}
use Rattle.std.specs.Prelude.{slice_get, position, Result, OnOk, is_err}
use Rattle.std.specs.List.{position_from}
use Rattle.std.specs.BTreeMap.{BTreeMap, get}
use Rattle.std.specs.Ordering.{is_eq}
use Rattle.std.specs.Cmp.{tied_itself}
use Rattle.std.specs.Cmp.Lexicographic.{nat_list_cmp_total}
use Rattle.std.specs.declared.cmp.Ordering.{Ordering}
use Rattle.std.specs.declared.cmp.Ordering.TheVariants.{Less, Equal, Greater}
use Rattle.std.proofs.lemmas.Map.Lookups.{exact_bytes}
use Rattle.std.proofs.lemmas.Iterator.Adapters.{position_from-zero}
use Rattle.std.proofs.lemmas.List.Quantifiers.{position-Some}
use Rattle.std.proofs.lemmas.Option.{slice_get-get_or}
use Rattle.ip_spec.specs.Path.{bytes_cmp, same_bytes}
use Rattle.ip_spec.specs.Record.{Hash}
use Rattle.ip_audit.specs.Placed.{ArePlaced}

-- ---- the first place, as a list grows

abbrev first_or : Option ℕ → Option ℕ → Option ℕ
first_or None b = b
first_or (Some x) b = Some x

abbrev pub place_in : List Hash → Hash → Option ℕ
place_in names q = position (λ n. same_bytes n q) names

from_push : (t : Hash → Bool) (i : ℕ) (xs : List Hash) (y : Hash) → position_from t i (xs ++ y ∷ []) ≡ first_or (position_from t i xs) (cond (t y) (Some (i + length xs)) None)
from_push t i [] y = ap (λ (n : ℕ). cond (t y) (Some n) None) (omega arith)
from_push t i (x ∷ xs) y = by (t x) (from_push t (i + 1) xs y ∙ ap (λ (n : ℕ). first_or (position_from t (i + 1) xs) (cond (t y) (Some n) None)) (omega arith))
  where
    by : (b : Bool) → position_from t (i + 1) (xs ++ y ∷ []) ≡ first_or (position_from t (i + 1) xs) (cond (t y) (Some (i + suc (length xs))) None)
        → cond b (Some i) (position_from t (i + 1) (xs ++ y ∷ [])) ≡ first_or (cond b (Some i) (position_from t (i + 1) xs)) (cond (t y) (Some (i + suc (length xs))) None)
    by true h = refl
    by false h = h

pub place_push : (xs : List Hash) (y q : Hash) → place_in (xs ++ y ∷ []) q ≡ first_or (place_in xs q) (cond (same_bytes y q) (Some (length xs)) None)
place_push xs y q =
    position_from-zero (λ n. same_bytes n q) (xs ++ y ∷ []) ∙ from_push (λ n. same_bytes n q) 0 xs y
    ∙ ap (λ (n : ℕ). first_or (position_from (λ n. same_bytes n q) 0 xs) (cond (same_bytes y q) (Some n) None)) (omega arith)
    ∙ ap (λ o. first_or o (cond (same_bytes y q) (Some (length xs)) None)) (sym (position_from-zero (λ n. same_bytes n q) xs))

-- ---- what stands at a place

pub get_push : (xs : List Hash) (y x : Hash) (k : ℕ) → slice_get (xs ++ y ∷ []) k ≡ Some x → (slice_get xs k ≡ Some x) ⊎ ((k ≡ length xs) × (y ≡ x))
get_push [] y x zero is = inr (refl, cc (is))
get_push [] y x (suc k) is = absurd (cc (is))
get_push (z ∷ xs) y x zero is = inl is
get_push (z ∷ xs) y x (suc k) is = elim (get_push xs y x k is) [ inl e ↦ inl e | inr e ↦ inr (omega (arith, e.0), e.1) ]

get_last : (xs : List Hash) (y : Hash) → slice_get (xs ++ y ∷ []) (length xs) ≡ Some y
get_last [] y = refl
get_last (x ∷ xs) y = get_last xs y

get_front : (xs : List Hash) (y x : Hash) (k : ℕ) → slice_get xs k ≡ Some x → slice_get (xs ++ y ∷ []) k ≡ Some x
get_front [] y x k is = absurd (cc (is))
get_front (z ∷ xs) y x zero is = is
get_front (z ∷ xs) y x (suc k) is = get_front xs y x k is

get_below : (xs : List Hash) (x : Hash) (k : ℕ) → slice_get xs k ≡ Some x → k < length xs
get_below [] x k is = absurd (cc (is))
get_below (z ∷ xs) x zero is = omega arith
get_below (z ∷ xs) x (suc k) is = omega (arith, get_below xs x k is)

-- ---- both, as one comes or goes

pub same_is : (a b : Hash) → same_bytes a b ≡ true → a ≡ b
same_is a b is = exact_bytes a b (equal (bytes_cmp a b) is)
  where
    equal : (o : Ordering) → is_eq o ≡ true → o ≡ Equal
    equal Less e = absurd (cc (e))
    equal Equal e = refl
    equal Greater e = absurd (cc (e))

pub same_itself : (a : Hash) → same_bytes a a ≡ true
same_itself a = ap is_eq (tied_itself nat_list_cmp_total a)

pub pushed : (names : List Hash) (m n : BTreeMap Hash ℕ) (name : Hash) → ArePlaced names m → place_in names name ≡ None
    → ((q : Hash) → get bytes_cmp n q ≡ cond (same_bytes name q) (Some (length names)) (get bytes_cmp m q)) → ArePlaced (names ++ name ∷ []) n
pushed names m n name placed new updates = record { each = each; once = once }
  where
    by : (q : Hash) (b : Bool) → same_bytes name q ≡ b → cond b (Some (length names)) (get bytes_cmp m q) ≡ first_or (place_in names q) (cond b (Some (length names)) None)
    by q true e = ap (λ o. first_or o (Some (length names))) (sym (ap (place_in names) (sym (same_is name q e)) ∙ new))
    by q false e = placed.each q ∙ or_none (place_in names q)
      where
        or_none : (o : Option ℕ) → o ≡ first_or o None
        or_none None = refl
        or_none (Some x) = refl

    each : (q : Hash) → get bytes_cmp n q ≡ place_in (names ++ name ∷ []) q
    each q = updates q ∙ by q (same_bytes name q) refl ∙ sym (place_push names name q)

    there : (k : ℕ) (x : Hash) → (slice_get names k ≡ Some x) ⊎ ((k ≡ length names) × (name ≡ x)) → get bytes_cmp n x ≡ Some k
    there k x (inl is) = updates x ∙ by x (same_bytes name x) refl ∙ ap (λ o. first_or o (cond (same_bytes name x) (Some (length names)) None)) (sym (placed.each x) ∙ placed.once k x is)
    there k x (inr (last, is)) =
        updates x ∙ ap (λ b. cond b (Some (length names)) (get bytes_cmp m x)) (ap (same_bytes name) (sym is) ∙ same_itself name) ∙ ap (λ (k : ℕ). Some k) (sym last)

    once : (k : ℕ) (x : Hash) → slice_get (names ++ name ∷ []) k ≡ Some x → get bytes_cmp n x ≡ Some k
    once k x is = there k x (get_push names name x k is)

-- the last of them stands nowhere before
last_once : (o : Option ℕ) (l : ℕ) → first_or o (Some l) ≡ Some l → ((k : ℕ) → o ≡ Some k → k < l) → o ≡ None
last_once None l is below = refl
last_once (Some k) l is below = absurd (omega (arith, below k refl, some_is k l is))
  where
    some_is : (a b : ℕ) → ◌≡◌ {A = Option ℕ} (Some a) (Some b) → a ≡ b
    some_is a b e = cc (e)

pub popped : (names : List Hash) (m n : BTreeMap Hash ℕ) (name : Hash) → ArePlaced (names ++ name ∷ []) m
    → ((q : Hash) → get bytes_cmp n q ≡ cond (same_bytes name q) None (get bytes_cmp m q)) → ArePlaced names n
popped names m n name placed updates = record { each = each; once = once }
  where
    known : (q : Hash) → get bytes_cmp m q ≡ first_or (place_in names q) (cond (same_bytes name q) (Some (length names)) None)
    known q = placed.each q ∙ place_push names name q

    alone : place_in names name ≡ None
    alone = last_once (place_in names name) (length names)
        (ap (λ b. first_or (place_in names name) (cond b (Some (length names)) None)) (sym (same_itself name)) ∙ sym (known name) ∙ placed.once (length names) name (get_last names name))
        (λ k is. (position-Some (λ n. same_bytes n name) names k name is).0)

    by : (q : Hash) (b : Bool) → same_bytes name q ≡ b → cond b None (get bytes_cmp m q) ≡ place_in names q
    by q true e = sym (ap (place_in names) (sym (same_is name q e)) ∙ alone)
    by q false e = known q ∙ ap (λ b. first_or (place_in names q) (cond b (Some (length names)) None)) e ∙ or_none (place_in names q)
      where
        or_none : (o : Option ℕ) → first_or o None ≡ o
        or_none None = refl
        or_none (Some x) = refl

    each : (q : Hash) → get bytes_cmp n q ≡ place_in names q
    each q = updates q ∙ by q (same_bytes name q) refl

    not_last : (k : ℕ) (x : Hash) → k < length names → (b : Bool) → same_bytes name x ≡ b → get bytes_cmp m x ≡ Some k → cond b None (get bytes_cmp m x) ≡ Some k
    not_last k x below true e is = absurd (omega (arith, below, some_is (length names) k (sym (placed.once (length names) name (get_last names name)) ∙ ap (get bytes_cmp m) (same_is name x e) ∙ is)))
      where
        some_is : (a b : ℕ) → ◌≡◌ {A = Option ℕ} (Some a) (Some b) → a ≡ b
        some_is a b e = cc (e)
    not_last k x below false e is = is

    once : (k : ℕ) (x : Hash) → slice_get names k ≡ Some x → get bytes_cmp n x ≡ Some k
    once k x is = updates x ∙ not_last k x (get_below names x k is) (same_bytes name x) refl (placed.once k x (get_front names name x k is))

pub on_ok : {A E : Type 0} (r : Result A E) (P : Type 0) → is_err r ≡ false → OnOk r P → P
on_ok (Ok x) P e p = p
on_ok (Err x) P e p = absurd (cc (e))

-- ---- those from a place on

take_at : (xs : List Hash) (i j : ℕ) (x : Hash) → slice_get (take i xs) j ≡ Some x → (j < i) × (slice_get xs j ≡ Some x)
take_at xs zero j x is = absurd (cc (is))
take_at [] (suc i) j x is = absurd (cc (is))
take_at (y ∷ xs) (suc i) zero x is = (omega arith, is)
take_at (y ∷ xs) (suc i) (suc j) x is = let rest = take_at xs i j x is in ((let low = rest.0 in omega (arith, low)), rest.1)

drop_at : (xs : List Hash) (from j : ℕ) (x : Hash) → slice_get (drop from xs) j ≡ Some x → slice_get xs (from + j) ≡ Some x
drop_at [] zero j x is = absurd (cc (is))
drop_at [] (suc from) j x is = absurd (cc (is))
drop_at (y ∷ xs) zero j x is = (let e : j ≡ 0 + j = omega arith in subst (λ (n : ℕ). slice_get (y ∷ xs) n ≡ Some x) e is)
drop_at (y ∷ xs) (suc from) j x is = (let e : suc (from + j) ≡ suc from + j = omega arith in subst (λ (n : ℕ). slice_get (y ∷ xs) n ≡ Some x) e (drop_at xs from j x is))

none_of : (xs : List Hash) (x : Hash) → ((j : ℕ) → slice_get xs j ≡ Some x → ⊥) → place_in xs x ≡ None
none_of xs x not = by (place_in xs x) refl
  where
    by : (o : Option ℕ) → place_in xs x ≡ o → place_in xs x ≡ None
    by None e = e
    by (Some j) e =
        let found = position-Some (λ n. same_bytes n x) xs j [] e in
        absurd (not j (slice_get-get_or xs j [] found.0 ∙ ap Some (same_is (get_or xs j []) x found.1)))

-- no name comes twice
pub new_behind : (names : List Hash) (m : BTreeMap Hash ℕ) → ArePlaced names m → (from n i : ℕ) (x : Hash) → slice_get (take n (drop from names)) i ≡ Some x → place_in (take i (take n (drop from names))) x ≡ None
new_behind names m placed from n i x here = none_of (take i (take n (drop from names))) x (λ j there.
    let before = take_at (take n (drop from names)) i j x there in
    let one = placed.once (from + j) x (drop_at names from j x (take_at (drop from names) n j x before.1).1) in
    let other = placed.once (from + i) x (drop_at names from i x (take_at (drop from names) n i x here).1) in
    let same : from + j ≡ from + i = cc (one, other) in
    let low = before.0 in
    absurd (omega (arith, same, low)))

-- A list of spellings, one piece more.
use Rattle.ip_object.specs.Lists.{Extends}
use Rattle.std.proofs.Common.{◌≡◌, ℕ, zero, suc, ◌+◌, ◌<◌, List, [], ◌∷◌, ◌++◌, sym, ap, ◌∙◌, length, take, arith, append_assoc, append-nil, get_or, flat_map}

pub put_one_more : {X : Type 0} (f : X → List ℕ) (xs : List X) (k : ℕ) (d : X) → k < length xs → flat_map f (take (suc k) xs) ≡ flat_map f (take k xs) ++ f (get_or xs k d)
put_one_more f [] k d l = absurd (omega (arith, l))
put_one_more f (x ∷ xs) zero d l = append-nil (f x)
put_one_more f (x ∷ xs) (suc k) d l = ap (λ t. f x ++ t) (put_one_more f xs k d (omega (arith, l))) ∙ sym (append_assoc (f x) (flat_map f (take k xs)) (f (get_or xs k d)))

-- out holds what was put before and so many pieces; one is put behind
pub put_more : {X : Type 0} (f : X → List ℕ) (xs : List X) (k : ℕ) (d : X) (before now new : List ℕ) → k < length xs → now ≡ before ++ flat_map f (take k xs) → new ≡ now ++ f (get_or xs k d) → new ≡ before ++ flat_map f (take (k + 1) xs)
put_more f xs k d before now new l is more = more ∙ ap (λ t. t ++ f (get_or xs k d)) is ∙ append_assoc before (flat_map f (take k xs)) (f (get_or xs k d)) ∙ ap (λ t. before ++ t) (sym (put_one_more f xs k d l)) ∙ ap (λ n. before ++ flat_map f (take n xs)) (next k)
  where
    next : (n : ℕ) → suc n ≡ n + 1
    next n = omega arith

pub put_none : {X : Type 0} (f : X → List ℕ) (xs : List X) (before : List ℕ) → before ≡ before ++ flat_map f (take 0 xs)
put_none f xs before = sym (append-nil before)

pub extends_same : (old new : List ℕ) → new ≡ old → Extends old new
extends_same old new e = ([], e ∙ sym (append-nil old))

-- what extends a list that was put behind another extends that
pub extends_on : (old put mid new : List ℕ) → mid ≡ old ++ put → Extends mid new → Extends old new
extends_on old put mid new e (more, is) = (put ++ more, is ∙ ap (λ t. t ++ more) e ∙ append_assoc old put more)

pub extends_put : (old put mid new : List ℕ) → mid ≡ old ++ put → new ≡ mid → Extends old new
extends_put old put mid new e same = (put, same ∙ e)

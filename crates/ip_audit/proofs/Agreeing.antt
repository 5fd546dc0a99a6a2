-- The places of digests: in how many of the first ones two steps agree, and all of a leaf.
use Rattle.std.proofs.Common.{◌≡◌, ◌≢◌, ◌⊎◌, inl, inr, ℕ, zero, suc, ◌<◌, ◌≤◌, ◌+◌, List, [], ◌∷◌, ◌++◌, refl, sym, ap, ◌∙◌, false, cond, length, arith, map, take, drop, length-take, length-append, get_or}
use Rattle.std.specs.Prelude.{◌==◌}
use Rattle.std.specs.List.{range_with_len}
use Rattle.std.proofs.Math.Seq.{drop-cons}
use Rattle.std.proofs.lemmas.List.{length-map, length-take-le, take-take, take_all}
use Rattle.sha2.specs.Sha256.{sha256}
use Rattle.ip_spec.specs.Path.{Step}
use Rattle.ip_spec.specs.declared.record.LeafEntry.{LeafEntry}
use Rattle.ip_spec.specs.Shape.{place}
use Rattle.ip_shape.specs.Place.{place_in}
use Rattle.ip_audit.specs.Memory.{places, shared, common_with, common_of}
use Rattle.ip_audit.specs.View.{places_in}
use Rattle.ip_audit.proofs.Basics.{equal_test}
use Rattle.ip_audit.proofs.Common.{length_range, take_range, more_range, shared_right, shared_begins}
use Rattle.ip_audit.proofs.InodeFits.{last_same}

pub places_are : (s : Step) → places s ≡ places_in (sha256 s)
unfolding places places_in place
places_are s = refl

pub long : (x : List ℕ) → length (places_in x) ≡ 51
unfolding places_in
long x = length-map (range_with_len 0 51) (place_in x) ∙ length_range 0 51

next_in : (d : ℕ) (x : List ℕ) → d < 51 → take (suc d) (places_in x) ≡ take d (places_in x) ++ place_in x d ∷ []
unfolding places_in
next_in d x l =
    let z : 0 + d ≡ d = omega arith in
    take_range (place_in x) 0 51 (suc d) (omega (arith, l)) ∙ more_range (place_in x) 0 d ∙ ap (λ k. map (place_in x) (range_with_len 0 d) ++ place_in x k ∷ []) z ∙ ap (λ t. t ++ place_in x d ∷ []) (sym (take_range (place_in x) 0 51 d (omega (arith, l))))

-- ---- two steps

differ_test : (a b : ℕ) → a ≢ b → (a == b) ≡ false
differ_test a b h = grind arith

shared_range : (f g : ℕ → ℕ) (a k n m : ℕ) → n ≤ k → m ≤ n → ((e : ℕ) → a ≤ e → e < a + m → f e ≡ g e) → (m ≡ n) ⊎ ((m < n) × (f (a + m) ≢ g (a + m)))
    → shared (take n (map f (range_with_len a k))) (map g (range_with_len a k)) ≡ take m (map f (range_with_len a k))
shared_range f g a k zero zero l h same stop = refl
shared_range f g a k zero (suc m) l h same stop = absurd (omega (arith, h))
shared_range f g a zero (suc n) m l h same stop = absurd (omega (arith, l))
shared_range f g a (suc k) (suc n) zero l h same (inl e) = absurd (omega (arith, e))
shared_range f g a (suc k) (suc n) zero l h same (inr (below, other)) =
    let z : a + 0 ≡ a = omega arith in
    ap (λ b. cond b (f a ∷ shared (take n (map f (range_with_len (a + 1) k))) (map g (range_with_len (a + 1) k))) []) (differ_test (f a) (g a) (λ e. other (ap f z ∙ e ∙ ap g (sym z))))
shared_range f g a (suc k) (suc n) (suc m) l h same stop =
    let first : f a ≡ g a = same a (omega arith) (omega arith) in
    ap (λ b. cond b (f a ∷ shared (take n (map f (range_with_len (a + 1) k))) (map g (range_with_len (a + 1) k))) []) (ap (λ v. v == g a) first ∙ equal_test (g a))
    ∙ ap (λ t. f a ∷ t) (shared_range f g (a + 1) k n m (omega (arith, l)) (omega (arith, h)) (λ e low high. same e (omega (arith, low)) (omega (arith, high))) (next stop))
  where
    next : (suc m ≡ suc n) ⊎ ((suc m < suc n) × (f (a + suc m) ≢ g (a + suc m))) → (m ≡ n) ⊎ ((m < n) × (f (a + 1 + m) ≢ g (a + 1 + m)))
    next (inl e) = inl (omega (arith, e))
    next (inr (below, other)) = let z : a + 1 + m ≡ a + suc m = omega arith in inr (omega (arith, below), λ e. other (ap f (sym z) ∙ e ∙ ap g z))

pub shared_places : (x y : List ℕ) (n m : ℕ) → n ≤ 51 → m ≤ n → ((e : ℕ) → e < m → place_in x e ≡ place_in y e) → (m ≡ n) ⊎ ((m < n) × (place_in x m ≢ place_in y m))
    → shared (take n (places_in x)) (places_in y) ≡ take m (places_in x)
unfolding places_in
shared_places x y n m l h same stop = shared_range (place_in x) (place_in y) 0 51 n m l h (λ e low high. same e (omega (arith, high))) (from stop)
  where
    from : (m ≡ n) ⊎ ((m < n) × (place_in x m ≢ place_in y m)) → (m ≡ n) ⊎ ((m < n) × (place_in x (0 + m) ≢ place_in y (0 + m)))
    from (inl e) = inl e
    from (inr (below, other)) = let z : 0 + m ≡ m = omega arith in inr (below, λ e. other (ap (place_in x) (sym z) ∙ e ∙ ap (place_in y) z))

take_long : (d : ℕ) (x : List ℕ) → d ≤ 51 → length (take d (places_in x)) ≡ d
take_long d x l = length-take-le d (places_in x) (let k = long x in omega (arith, k, l))

pub same_if : (x y : List ℕ) (d r : ℕ) → d ≤ 51 → shared (take d (places_in x)) (places_in y) ≡ take r (places_in x) → r ≡ d → take d (places_in x) ≡ take d (places_in y)
same_if x y d r l s e =
    let is : shared (take d (places_in x)) (places_in y) ≡ take d (places_in x) = s ∙ ap (λ k. take k (places_in x)) e in
    let n : length (shared (take d (places_in x)) (places_in y)) ≡ d = ap length is ∙ take_long d x l in
    sym (take-take d d (places_in x) (omega arith)) ∙ ap (take d) (sym is) ∙ shared_right d (take d (places_in x)) (places_in y) (omega (arith, n))

pub same_then : (x y : List ℕ) (d r : ℕ) → d ≤ 51 → r ≤ d → shared (take d (places_in x)) (places_in y) ≡ take r (places_in x) → take d (places_in x) ≡ take d (places_in y) → r ≡ d
same_then x y d r l h s e =
    let v = take d (places_in x) in
    let begins = shared_begins d v (take d (places_in x)) (places_in y) (take_long d x l) (take-take d d (places_in x) (omega arith)) (sym e) in
    let n : length (take d (take r (places_in x))) ≡ length v = ap length (ap (take d) (sym s) ∙ begins) in
    let a = length-take d (take r (places_in x)) in
    let b = take_long r x (omega (arith, l, h)) in
    let c = take_long d x l in
    omega (arith, n, a, b, c, h)

next_common : (agreed d : ℕ) (x : List ℕ) → d < agreed → d ≤ 50 → take (suc d) (take agreed (places_in x)) ≡ take d (places_in x) ++ place_in x d ∷ []
next_common agreed d x l m = take-take (suc d) agreed (places_in x) (omega (arith, l)) ∙ next_in d x (omega (arith, m))

pub agrees_then : (agreed d index : ℕ) (x y : List ℕ) → d < agreed → d ≤ 50 → take d (places_in x) ≡ take d (places_in y) → place_in x d ≡ index → take (suc d) (take agreed (places_in x)) ≡ take d (places_in y) ++ index ∷ []
agrees_then agreed d index x y l m p q = next_common agreed d x l m ∙ ap (λ v. v ++ place_in x d ∷ []) p ∙ ap (λ k. take d (places_in y) ++ k ∷ []) q

pub agrees_if : (agreed d index : ℕ) (x y : List ℕ) → d < agreed → d ≤ 50 → take (suc d) (take agreed (places_in x)) ≡ take d (places_in y) ++ index ∷ [] → (take d (places_in x) ≡ take d (places_in y)) × (place_in x d ≡ index)
agrees_if agreed d index x y l m e = last_same (take d (places_in x)) (take d (places_in y)) (place_in x d) index (take_long d x (omega (arith, m)) ∙ sym (take_long d y (omega (arith, m)))) (sym (next_common agreed d x l m) ∙ e)

pub agrees_not : {X : Type 0} (agreed d index : ℕ) (x y : List ℕ) → agreed ≤ d → d ≤ 50 → take (suc d) (take agreed (places_in x)) ≡ take d (places_in y) ++ index ∷ [] → X
agrees_not agreed d index x y l m e =
    let n = ap length e in
    let a = length-take (suc d) (take agreed (places_in x)) in
    let b = take_long agreed x (omega (arith, l, m)) in
    let c = length-append (take d (places_in y)) (index ∷ []) in
    let k = take_long d y (omega (arith, m)) in
    absurd (omega (arith, n, a, b, c, k, l))

-- ---- all of a leaf

abbrev steps_of : List LeafEntry → List Step
steps_of es = map (λ (e : LeafEntry). e.step) es

common_nil : (ss : List Step) → common_with [] ss ≡ []
common_nil [] = refl
common_nil (s ∷ ss) = common_nil ss

pub common_stop : (x whole : List ℕ) (n : ℕ) (ss : List Step) → n ≡ 0 → common_with (take n (places_in x)) ss ≡ whole → [] ≡ whole
common_stop x whole n ss e h = sym (common_nil ss) ∙ ap (λ k. common_with (take k (places_in x)) ss) (sym e) ∙ h

pub some_long : (n : ℕ) → false ≡ (n == 0) → 0 < n
some_long n e = grind arith

pub common_all : (x : List ℕ) (ss : List Step) → common_with (take 51 (places_in x)) ss ≡ common_with (places_in x) ss
common_all x ss = ap (λ v. common_with v ss) (take_all 51 (places_in x) (let k = long x in omega (arith, k)))

pub common_more : (x whole : List ℕ) (n r i : ℕ) (es : List LeafEntry) (e : LeafEntry) → i < length es → e ≡ get_or es i e → shared (take n (places_in x)) (places_in (sha256 e.step)) ≡ take r (places_in x)
    → common_with (take n (places_in x)) (steps_of (drop i es)) ≡ whole → common_with (take r (places_in x)) (steps_of (drop (i + 1) es)) ≡ whole
common_more x whole n r i es e l is s h =
    let z : i + 1 ≡ suc i = omega arith in
    ap (λ k. common_with (take r (places_in x)) (steps_of (drop k es))) z
    ∙ ap (λ v. common_with v (steps_of (drop (suc i) es))) (sym s ∙ ap (shared (take n (places_in x))) (sym (places_are e.step)))
    ∙ ap (λ (d : LeafEntry). common_with (take n (places_in x)) (d.step ∷ steps_of (drop (suc i) es))) is
    ∙ ap (λ fs. common_with (take n (places_in x)) (steps_of fs)) (sym (drop-cons es i e l)) ∙ h

pub common_whole : (es : List LeafEntry) (d : LeafEntry) → 0 < length es → common_with (places_in (sha256 (get_or es 0 d).step)) (steps_of (drop 1 es)) ≡ common_of (steps_of es)
common_whole [] d l = absurd (omega (arith, l))
common_whole (e ∷ es) d l = ap (λ v. common_with v (steps_of es)) (sym (places_are e.step))

pub common_long : (agreed : ℕ) (x common : List ℕ) → take agreed (places_in x) ≡ common → 51 ≤ agreed → length common ≡ 51
common_long agreed x common e l = let a = length-take agreed (places_in x) in let b = ap length e in let n = long x in omega (arith, a, b, n, l)

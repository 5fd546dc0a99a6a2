-- The common places of steps: they are the longest list that the places of all of them begin with.
use Rattle.std.proofs.Common.{◌≡◌, ◌≢◌, ◌⊎◌, inl, inr, ℕ, zero, suc, ◌<◌, ◌≤◌, ◌+◌, List, [], ◌∷◌, ◌++◌, refl, sym, ap, subst, ◌∙◌, Option, Some, None, Bool, true, false, cond, T, length, arith, take, eqb→eq}
use Rattle.std.specs.Prelude.{map, ◌==◌, slice_get}
use Rattle.std.specs.List.{range_with_len}
use Rattle.std.proofs.lemmas.List.{length-map}
use Rattle.ip_spec.specs.Path.{Step}
use Rattle.ip_spec.specs.Tree.{Tree}
use Rattle.ip_spec.specs.Shape.{Entries, place, deepest}
use Rattle.ip_image.specs.Standing.{AreTogether}
use Rattle.ip_audit.specs.Memory.{places, shared, common_with, common_of}
use Rattle.ip_audit.proofs.Trees.{In}

-- ---- two lists

first_or : {A : Type 0} → A → List A → A
first_or d [] = d
first_or d (z ∷ zs) = z

rest_of : {A : Type 0} → List A → List A
rest_of [] = []
rest_of (z ∷ zs) = zs

pub first_is : {A : Type 0} (x y : A) (xs ys : List A) → x ∷ xs ≡ y ∷ ys → x ≡ y
unfolding first_or
first_is x y xs ys e = ap (first_or x) e

pub rest_is : {A : Type 0} (x y : A) (xs ys : List A) → x ∷ xs ≡ y ∷ ys → xs ≡ ys
unfolding rest_of
rest_is x y xs ys e = ap rest_of e

nil_or_cons : {A X : Type 0} (x : A) (xs : List A) → [] ≡ x ∷ xs → X
nil_or_cons x xs e = let h : 0 ≡ suc (length xs) = ap length e in absurd (omega (arith, h))

pub shared_left : (d : ℕ) (xs ys : List ℕ) → d ≤ length (shared xs ys) → take d (shared xs ys) ≡ take d xs
shared_left zero xs ys l = refl
shared_left (suc d) [] ys l = absurd (omega (arith, l))
shared_left (suc d) (x ∷ xs) [] l = absurd (omega (arith, l))
shared_left (suc d) (x ∷ xs) (y ∷ ys) l = by (x == y) l (shared_left d xs ys)
  where
    by : (b : Bool) → suc d ≤ length (cond b (x ∷ shared xs ys) []) → (d ≤ length (shared xs ys) → take d (shared xs ys) ≡ take d xs) → take (suc d) (cond b (x ∷ shared xs ys) []) ≡ x ∷ take d xs
    by true l ih = ap (λ t. x ∷ t) (ih (omega (arith, l)))
    by false l ih = absurd (omega (arith, l))

pub shared_right : (d : ℕ) (xs ys : List ℕ) → d ≤ length (shared xs ys) → take d (shared xs ys) ≡ take d ys
shared_right zero xs ys l = refl
shared_right (suc d) [] ys l = absurd (omega (arith, l))
shared_right (suc d) (x ∷ xs) [] l = absurd (omega (arith, l))
shared_right (suc d) (x ∷ xs) (y ∷ ys) l = by (x == y) refl l (shared_right d xs ys)
  where
    by : (b : Bool) → (x == y) ≡ b → suc d ≤ length (cond b (x ∷ shared xs ys) []) → (d ≤ length (shared xs ys) → take d (shared xs ys) ≡ take d ys) → take (suc d) (cond b (x ∷ shared xs ys) []) ≡ y ∷ take d ys
    by true e l ih = let h = ih (omega (arith, l)) in let s = eqb→eq x y (subst T (sym e) tt) in λ i. s i ∷ h i
    by false e l ih = absurd (omega (arith, l))

pub shared_short : (xs ys : List ℕ) → length (shared xs ys) ≤ length xs
shared_short [] ys = omega arith
shared_short (x ∷ xs) [] = omega arith
shared_short (x ∷ xs) (y ∷ ys) = by (x == y) (shared_short xs ys)
  where
    by : (b : Bool) → length (shared xs ys) ≤ length xs → length (cond b (x ∷ shared xs ys) []) ≤ suc (length xs)
    by true ih = omega (arith, ih)
    by false ih = omega arith

same_test : (k : ℕ) → (k == k) ≡ true
same_test k = grind arith

-- what both begin with
pub shared_begins : (d : ℕ) (v xs ys : List ℕ) → length v ≡ d → take d xs ≡ v → take d ys ≡ v → take d (shared xs ys) ≡ v
shared_begins zero v xs ys l a b = a
shared_begins (suc d) [] xs ys l a b = absurd (omega (arith, l))
shared_begins (suc d) (w ∷ v) [] ys l a b = nil_or_cons w v a
shared_begins (suc d) (w ∷ v) (x ∷ xs) [] l a b = nil_or_cons w v b
shared_begins (suc d) (w ∷ v) (x ∷ xs) (y ∷ ys) l a b =
    let p : x ≡ w = first_is x w (take d xs) v a in
    let q : y ≡ w = first_is y w (take d ys) v b in
    let e : (x == y) ≡ true = ap (λ k. k == y) p ∙ ap (λ k. w == k) q ∙ same_test w in
    let ih = shared_begins d v xs ys (omega (arith, l)) (rest_is x w (take d xs) v a) (rest_is y w (take d ys) v b) in
    ap (λ c. take (suc d) (cond c (x ∷ shared xs ys) [])) e ∙ (λ i. p i ∷ ih i)

-- ---- many

pub with_short : (found : List ℕ) (ss : List Step) → length (common_with found ss) ≤ length found
with_short found [] = omega arith
with_short found (s ∷ ss) = let a = with_short (shared found (places s)) ss in let b = shared_short found (places s) in omega (arith, a, b)

pub with_found : (d : ℕ) (found : List ℕ) (ss : List Step) → d ≤ length (common_with found ss) → take d (common_with found ss) ≡ take d found
with_found d found [] l = refl
with_found d found (s ∷ ss) l =
    let a = with_short (shared found (places s)) ss in
    with_found d (shared found (places s)) ss l ∙ shared_left d found (places s) (omega (arith, l, a))

pub with_each : (d : ℕ) (found : List ℕ) (ss : List Step) → d ≤ length (common_with found ss) → (s : Step) → In s ss → take d (common_with found ss) ≡ take d (places s)
unfolding In
with_each d found [] l s i = absurd i
with_each d found (r ∷ ss) l s (inl e) =
    let a = with_short (shared found (places r)) ss in
    with_found d (shared found (places r)) ss l ∙ shared_right d found (places r) (omega (arith, l, a)) ∙ ap (λ t. take d (places t)) (sym e)
with_each d found (r ∷ ss) l s (inr i) = with_each d (shared found (places r)) ss l s i

pub with_begins : (d : ℕ) (v found : List ℕ) (ss : List Step) → length v ≡ d → take d found ≡ v → ((s : Step) → In s ss → take d (places s) ≡ v) → take d (common_with found ss) ≡ v
unfolding In
with_begins d v found [] l a h = a
with_begins d v found (s ∷ ss) l a h = with_begins d v (shared found (places s)) ss l (shared_begins d v found (places s) l a (h s (inl refl))) (λ t i. h t (inr i))

-- each step's places begin so
pub common_each : (d : ℕ) (ss : List Step) → d ≤ length (common_of ss) → (s : Step) → In s ss → take d (common_of ss) ≡ take d (places s)
unfolding In
common_each d [] l s i = absurd i
common_each d (r ∷ ss) l s (inl e) = with_found d (places r) ss l ∙ ap (λ t. take d (places t)) (sym e)
common_each d (r ∷ ss) l s (inr i) = with_each d (places r) ss l s i

-- where all begin so, the common places do
pub common_begins : (d : ℕ) (v : List ℕ) (ss : List Step) (s : Step) → In s ss → length v ≡ d → ((r : Step) → In r ss → take d (places r) ≡ v) → take d (common_of ss) ≡ v
unfolding In
common_begins d v [] s i l h = absurd i
common_begins d v (r ∷ ss) s i l h = with_begins d v (places r) ss l (h r (inl refl)) (λ t j. h t (inr j))

-- ---- places

pub length_range : (a n : ℕ) → length (range_with_len a n) ≡ n
length_range a zero = refl
length_range a (suc n) = ap suc (length_range (a + 1) n)

pub length_places : (s : Step) → length (places s) ≡ 51
unfolding places
length_places s = length-map (range_with_len 0 deepest) (place s) ∙ length_range 0 deepest

pub take_range : (f : ℕ → ℕ) (a n d : ℕ) → d ≤ n → take d (map f (range_with_len a n)) ≡ map f (range_with_len a d)
take_range f a n zero l = refl
take_range f a zero (suc d) l = absurd (omega (arith, l))
take_range f a (suc n) (suc d) l = ap (λ t. f a ∷ t) (take_range f (a + 1) n d (omega (arith, l)))

range_each : (f g : ℕ → ℕ) (a d : ℕ) → ((e : ℕ) → a ≤ e → e < a + d → f e ≡ g e) → map f (range_with_len a d) ≡ map g (range_with_len a d)
range_each f g a zero h = refl
range_each f g a (suc d) h = let x = h a (omega arith) (omega arith) in let xs = range_each f g (a + 1) d (λ e low high. h e (omega (arith, low)) (omega (arith, high))) in λ i. x i ∷ xs i

either_first : (a i : ℕ) → (i ≡ a) ⊎ (i ≢ a)
either_first a i = grind arith

each_range : (f g : ℕ → ℕ) (a d : ℕ) → map f (range_with_len a d) ≡ map g (range_with_len a d) → (e : ℕ) → a ≤ e → e < a + d → f e ≡ g e
each_range f g a zero h e low high = absurd (omega (arith, low, high))
each_range f g a (suc d) h e low high = by (either_first a e) (each_range f g (a + 1) d (rest_is (f a) (g a) (map f (range_with_len (a + 1) d)) (map g (range_with_len (a + 1) d)) h) e)
  where
    by : (e ≡ a) ⊎ (e ≢ a) → (a + 1 ≤ e → e < a + 1 + d → f e ≡ g e) → f e ≡ g e
    by (inl is) ih = ap f is ∙ first_is (f a) (g a) (map f (range_with_len (a + 1) d)) (map g (range_with_len (a + 1) d)) h ∙ ap g (sym is)
    by (inr other) ih = ih (omega (arith, low, other)) (omega (arith, high))

pub places_agree : (d : ℕ) (x y : Step) → d ≤ 51 → ((e : ℕ) → e < d → place x e ≡ place y e) → take d (places x) ≡ take d (places y)
unfolding places
places_agree d x y l h = take_range (place x) 0 deepest d l ∙ range_each (place x) (place y) 0 d (λ e low high. h e (omega (arith, high))) ∙ sym (take_range (place y) 0 deepest d l)

pub agree_places : (d : ℕ) (x y : Step) → d ≤ 51 → take d (places x) ≡ take d (places y) → (e : ℕ) → e < d → place x e ≡ place y e
unfolding places
agree_places d x y l h e m = each_range (place x) (place y) 0 d (sym (take_range (place x) 0 deepest d l) ∙ h ∙ take_range (place y) 0 deepest d l) e (omega arith) (omega (arith, m))

pub more_range : (f : ℕ → ℕ) (a d : ℕ) → map f (range_with_len a (suc d)) ≡ map f (range_with_len a d) ++ f (a + d) ∷ []
more_range f a zero = let e : a ≡ a + 0 = omega arith in ap (λ k. f k ∷ []) e
more_range f a (suc d) = let e : a + 1 + d ≡ a + suc d = omega arith in ap (λ t. f a ∷ t) (more_range f (a + 1) d ∙ ap (λ k. map f (range_with_len (a + 1) d) ++ f k ∷ []) e)

-- the next place
pub next_place : (d : ℕ) (x : Step) → d < 51 → take (suc d) (places x) ≡ take d (places x) ++ place x d ∷ []
unfolding places
next_place d x l =
    let z : 0 + d ≡ d = omega arith in
    take_range (place x) 0 deepest (suc d) (omega (arith, l)) ∙ more_range (place x) 0 d ∙ ap (λ k. map (place x) (range_with_len 0 d) ++ place x k ∷ []) z ∙ ap (λ t. t ++ place x d ∷ []) (sym (take_range (place x) 0 deepest d (omega (arith, l))))

-- ---- entries

pub in_at : {A : Type 0} (x : A) (xs : List A) → In x xs → (j : ℕ) × (slice_get xs j ≡ Some x)
unfolding In
in_at x [] i = absurd i
in_at x (y ∷ ys) (inl e) = (0, ap (λ z. Some z) (sym e))
in_at x (y ∷ ys) (inr i) = let g = in_at x ys i in (suc g.0, g.1)

or_value : {A : Type 0} → A → Option A → A
or_value d None = d
or_value d (Some x) = x

pub some_is : {A : Type 0} (x y : A) → ◌≡◌ {A = Option A} (Some x) (Some y) → x ≡ y
unfolding or_value
some_is x y e = ap (or_value x) e

pub none_some : {A X : Type 0} (x : A) → ◌≡◌ {A = Option A} None (Some x) → X
none_some x e = cc

pub at_in : {A : Type 0} (x : A) (xs : List A) (j : ℕ) → slice_get xs j ≡ Some x → In x xs
unfolding In
at_in x [] j e = none_some x e
at_in x (y ∷ ys) zero e = inl (sym (some_is y x e))
at_in x (y ∷ ys) (suc j) e = inr (at_in x ys j e)

pub together : (d : ℕ) (es : Entries) → d ≤ 51 → AreTogether d es → (x y : Step × Tree) → In x es → In y es → take d (places x.0) ≡ take d (places y.0)
together d es l h x y i j = let a = in_at x es i in let b = in_at y es j in places_agree d x.0 y.0 l (λ e m. h e m x y a.0 b.0 a.1 b.1)

pub are_together : (d : ℕ) (es : Entries) → d ≤ 51 → ((x y : Step × Tree) → In x es → In y es → take d (places x.0) ≡ take d (places y.0)) → AreTogether d es
are_together d es l h e m x y j k a b = agree_places d x.0 y.0 l (h x y (at_in x es j a) (at_in y es k b)) e m

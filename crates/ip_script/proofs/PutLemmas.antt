-- A list of pieces, one more.
use Rattle.std.proofs.Common.{◌≡◌, ℕ, zero, suc, ◌+◌, ◌-◌, ◌<◌, ◌≤◌, List, [], ◌∷◌, ◌++◌, refl, sym, ap, ◌∙◌, length, length-append, take, drop, arith, append_assoc, append-nil, get_or, flat_map, map, Result, Ok, Err, OnOk, OnErr}
use Rattle.std.specs.List.{join_with_byte}
use Rattle.ip_base.specs.PathText.{path_text}
use Rattle.std.proofs.lemmas.List.Folds.{length-flat_map-take}
use Rattle.std.proofs.lemmas.List.{take_rest, take_at, drop_at, drop_all}

pub put_one_more : {X : Type 0} (f : X → List ℕ) (xs : List X) (k : ℕ) (d : X) → k < length xs → flat_map f (take (suc k) xs) ≡ flat_map f (take k xs) ++ f (get_or xs k d)
put_one_more f [] k d l = absurd (omega (arith, l))
put_one_more f (x ∷ xs) zero d l = append-nil (f x)
put_one_more f (x ∷ xs) (suc k) d l = ap (λ t. f x ++ t) (put_one_more f xs k d (omega (arith, l))) ∙ sym (append_assoc (f x) (flat_map f (take k xs)) (f (get_or xs k d)))

-- out holds what was put before and so many pieces; one is put behind
pub put_more : {X : Type 0} (f : X → List ℕ) (xs : List X) (k : ℕ) (d : X) (before now new : List ℕ) → k < length xs → now ≡ before ++ flat_map f (take k xs) → new ≡ now ++ f (get_or xs k d) → new ≡ before ++ flat_map f (take (k + 1) xs)
put_more f xs k d before now new l is more = more ∙ ap (λ t. t ++ f (get_or xs k d)) is ∙ append_assoc before (flat_map f (take k xs)) (f (get_or xs k d)) ∙ ap (λ t. before ++ t) (sym (put_one_more f xs k d l)) ∙ ap (λ n. before ++ flat_map f (take n xs)) (next k)
  where
    next : (n : ℕ) → suc n ≡ n + 1
    next n = omega arith

pub put_none : {X : Type 0} (f : X → List ℕ) (xs : List X) (before : List ℕ) → before ≡ before ++ flat_map f (take 0 xs)
put_none f xs before = sym (append-nil before)

-- a piece had no room behind so many others: all of them have none
pub put_room : {X : Type 0} (f : X → List ℕ) (xs : List X) (k : ℕ) (x d : X) (long now before spare : ℕ) → k < length xs → x ≡ get_or xs k d → now ≡ long + length (flat_map f (take k xs)) → before ≤ spare → spare < now + length (f x) → before < long + length (flat_map f xs)
put_room f xs k x d long now before spare l at is kept short = omega (arith, length-flat_map-take f xs k d l, ap (λ y. length (f y)) at, is, kept, short)

-- how many bytes there are with one piece more
pub put_long : {X : Type 0} (f : X → List ℕ) (xs : List X) (k : ℕ) (d : X) (long now new : ℕ) → k < length xs → now ≡ long + length (flat_map f (take k xs)) → new ≡ now + length (f (get_or xs k d)) → new ≡ long + length (flat_map f (take (k + 1) xs))
put_long f xs k d long now new l is more =
    omega (arith, is, more, ap length (put_one_more f xs k d l), length-append (flat_map f (take k xs)) (f (get_or xs k d)), ap (λ n. length (flat_map f (take n xs))) (next k))
  where
    next : (n : ℕ) → suc n ≡ n + 1
    next n = omega arith

-- words with a space between each two, of which all but the first are made of a list
pub joined : {X : Type 0} (f : X → List ℕ) (word : List ℕ) (xs : List X) → word ++ flat_map (λ x. 32 ∷ f x) xs ≡ join_with_byte 32 (word ∷ map f xs)
joined f word [] = append-nil word
joined f word (x ∷ xs) = ap (λ t. word ++ (32 ∷ t)) (joined f (f x) xs)

pub joined_pairs : {X : Type 0} (f g : X → List ℕ) (word : List ℕ) (xs : List X) → word ++ flat_map (λ x. 32 ∷ (f x ++ 32 ∷ g x)) xs ≡ join_with_byte 32 (word ∷ flat_map (λ x. f x ∷ g x ∷ []) xs)
joined_pairs f g word [] = append-nil word
joined_pairs f g word (x ∷ xs) = ap (λ t. word ++ (32 ∷ t)) (append_assoc (f x) (32 ∷ g x) (flat_map (λ x. 32 ∷ (f x ++ 32 ∷ g x)) xs) ∙ ap (λ t. f x ++ (32 ∷ t)) (joined_pairs f g (g x) xs))

-- a list behind a word and a number
pub counted_text : {X : Type 0} (f : X → List ℕ) (word number : List ℕ) (xs : List X) → (word ++ 32 ∷ number) ++ flat_map (λ x. 32 ∷ f x) xs ≡ word ++ 32 ∷ join_with_byte 32 (number ∷ map f xs)
counted_text f word number xs = append_assoc word (32 ∷ number) (flat_map (λ x. 32 ∷ f x) xs) ∙ ap (λ t. word ++ 32 ∷ t) (joined f number xs)

pub counted_pairs : {X : Type 0} (f g : X → List ℕ) (word number : List ℕ) (xs : List X) → (word ++ 32 ∷ number) ++ flat_map (λ x. 32 ∷ (f x ++ 32 ∷ g x)) xs ≡ word ++ 32 ∷ join_with_byte 32 (number ∷ flat_map (λ x. f x ∷ g x ∷ []) xs)
counted_pairs f g word number xs = append_assoc word (32 ∷ number) (flat_map (λ x. 32 ∷ (f x ++ 32 ∷ g x)) xs) ∙ ap (λ t. word ++ 32 ∷ t) (joined_pairs f g number xs)

-- one word more at the end
pub joined_last : (word : List ℕ) (words : List (List ℕ)) (last : List ℕ) → join_with_byte 32 (word ∷ words) ++ 32 ∷ last ≡ join_with_byte 32 (word ∷ (words ++ last ∷ []))
joined_last word [] last = refl
joined_last word (w ∷ words) last = append_assoc word (32 ∷ join_with_byte 32 (w ∷ words)) (32 ∷ last) ∙ ap (λ t. word ++ 32 ∷ t) (joined_last w words last)

pub path_joined : (step : List ℕ) (steps : List (List ℕ)) → step ++ flat_map (λ (s : List ℕ). 47 ∷ s) steps ≡ path_text (step ∷ steps)
path_joined step [] = append-nil step
path_joined step (s ∷ steps) = ap (λ t. step ++ 47 ∷ t) (path_joined s steps)

pub path_parts : (first : List ℕ) (steps : List (List ℕ)) → 0 < length steps → first ≡ get_or steps 0 first → first ++ flat_map (λ (s : List ℕ). 47 ∷ s) (take (length steps - 1) (drop 1 steps)) ≡ path_text steps
path_parts first [] some is = absurd (omega (arith, some))
path_parts first (s ∷ steps) some is =
    ap (λ (t : List (List ℕ)). first ++ flat_map (λ (s : List ℕ). 47 ∷ s) t) (take_rest (s ∷ steps) 1) ∙ (ap (λ (t : List ℕ). t ++ flat_map (λ (s : List ℕ). 47 ∷ s) steps) is ∙ path_joined s steps)

-- a text was made longer, and a piece as long was put there
pub put_over : (old more lent piece rest : List ℕ) (start n : ℕ) → lent ≡ old ++ more → start ≡ length old → n ≡ length lent → length piece ≡ length more
    → take n ((take start lent ++ (piece ++ drop (length lent - start) (drop start lent))) ++ drop (length (take start lent ++ (piece ++ drop (length lent - start) (drop start lent)))) rest) ≡ old ++ piece
put_over old more lent piece rest start n is at all long =
    let total : length lent ≡ length old + length more = ap length is ∙ length-append old more in
    let front : take start lent ≡ old = ap (take start) is ∙ take_at old more start (sym at) in
    let none : drop (length lent - start) (drop start lent) ≡ [] = ap (λ t. drop (length lent - start) t) (ap (drop start) is ∙ drop_at old more start (sym at)) ∙ drop_all (length lent - start) more (omega (arith, total, at)) in
    let whole : take start lent ++ (piece ++ drop (length lent - start) (drop start lent)) ≡ old ++ piece = (λ i. front i ++ (piece ++ none i)) ∙ ap (λ t. old ++ t) (append-nil piece) in
    ap (λ t. take n (t ++ drop (length t) rest)) whole ∙ take_at (old ++ piece) (drop (length (old ++ piece)) rest) n (omega (arith, length-append old piece, total, all, long))

-- a text that is written in two pieces
pub behind : (first second text old mid new : List ℕ) → first ++ second ≡ text → mid ≡ old ++ first → new ≡ mid ++ second → new ≡ old ++ text
behind first second text old mid new e is more = more ∙ ap (λ t. t ++ second) is ∙ append_assoc old first second ∙ ap (λ t. old ++ t) e

pub no_room_behind : (first second text old mid : List ℕ) (old_len mid_len before spare : ℕ) → first ++ second ≡ text → mid ≡ old ++ first → old_len ≡ length old → mid_len ≡ length mid → before ≤ spare → spare < mid_len + length second → before < old_len + length text
no_room_behind first second text old mid old_len mid_len before spare e is n m kept short = omega (arith, n, m, kept, short, ap length is, length-append old first, ap length e, length-append first second)

pub err_then : {A E : Type 0} (r : Result A E) (P Q : Type 0) → (P → Q) → OnErr r P → OnErr r Q
err_then (Ok x) P Q f h = h
err_then (Err e) P Q f h = f h

pub ok_then : {A E : Type 0} (r : Result A E) (P Q : Type 0) → (P → Q) → OnOk r P → OnOk r Q
ok_then (Ok x) P Q f h = f h
ok_then (Err e) P Q f h = h

pub on_err : {A E : Type 0} (r : Result A E) {P : Type 0} → P → OnErr r P
on_err (Ok x) h = tt
on_err (Err e) h = h

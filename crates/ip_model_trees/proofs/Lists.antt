-- Lists that are mapped element by element.
use Rattle.std.proofs.Common.{◌≡◌, ℕ, suc, ◌+◌, ◌<◌, List, [], ◌∷◌, ◌++◌, refl, sym, ap, ◌∙◌, map, length, take, arith}
use Rattle.std.specs.Prelude.{slice_index_or}
use Rattle.std.proofs.lemmas.List.{map-append}
use Rattle.std.proofs.Math.Seq.{take-suc}

pub again : {A B C : Type 0} (g : B → C) (f : A → B) (xs : List A) → map g (map f xs) ≡ map (λ x. g (f x)) xs
again g f [] = refl
again g f (x ∷ xs) = ap (λ ys. g (f x) ∷ ys) (again g f xs)

-- one element more of a list that is gone over
pub map_more : {A B : Type 0} (f : A → B) (xs : List A) (i : ℕ) (x : A) (y : B) (old new : List B) → i < length xs → x ≡ slice_index_or xs i x → y ≡ f x → old ≡ map f (take i xs) → new ≡ old ++ y ∷ [] → new ≡ map f (take (i + 1) xs)
map_more f xs i x y old new low at is before more =
    let e : suc i ≡ i + 1 = omega arith in
    let longer : take (i + 1) xs ≡ take i xs ++ x ∷ [] = ap (λ n. take n xs) (sym e) ∙ (take-suc xs i x low ∙ ap (λ z. take i xs ++ z ∷ []) (sym at)) in
    more ∙ (ap (λ ys. ys ++ y ∷ []) before ∙ (ap (λ z. map f (take i xs) ++ z ∷ []) is ∙ (sym (map-append f (take i xs) (x ∷ [])) ∙ ap (map f) (sym longer))))

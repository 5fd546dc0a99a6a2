-- Edits one after the other.
--     less_more, more_done      one more of them
--     front_of, one_of      the edits that were made are a front of all, and the next is one of them
use Rattle.std.proofs.Common.{◌≡◌, ℕ, ◌+◌, ◌<◌, List, [], ◌∷◌, ◌++◌, take, map, length, get_or, refl, sym, ap, subst, ◌∙◌, arith, append_assoc}
use Rattle.std.proofs.lemmas.List.{length-append, map-append, take-append-le, take-map, take_all, take_more}
use Rattle.std.proofs.lemmas.List.Elements.{All-contains, Contains-append_right}
use Rattle.std.specs.Prelude.{All, Contains}
use Rattle.ip_spec.specs.Path.{Path}
use Rattle.ip_spec.specs.View.{View}
use Rattle.ip_three.specs.Merging.{Coming, less, less_at, more, more_at}
use Rattle.ip_three.proofs.Elements.{contains_first}

less_append : (v : View) (xs ys : List Path) → less v (xs ++ ys) ≡ less (less v xs) ys
less_append v [] ys = refl
less_append v (x ∷ xs) ys = less_append (less_at v x) xs ys

pub less_more : (v : View) (gone : List Path) (i : ℕ) (d : Path) → i < length gone → less v (take (i + 1) gone) ≡ less_at (less v (take i gone)) (get_or gone i d)
less_more v gone i d within = ap (less v) (take_more gone i d within) ∙ less_append v (take i gone) (get_or gone i d ∷ [])

more_append : (r v : View) (xs ys : List (Path × Coming)) → more r v (xs ++ ys) ≡ more r (more r v xs) ys
more_append r v [] ys = refl
more_append r v (x ∷ xs) ys = more_append r (more_at r v x.0 x.1) xs ys

module _ {A : Type 0} (f : A → Path × Coming) (done : List A) (e : A) where
  pub more_done : (r v : View) → more r v (map f (done ++ e ∷ [])) ≡ more_at r (more r v (map f done)) (f e).0 (f e).1
  more_done r v = ap (more r v) (map-append f done (e ∷ [])) ∙ more_append r v (map f done) (f e ∷ [])

  module _ (rest all : List A) (whole : done ++ e ∷ rest ≡ all) where
    pub front_of : take (length done + 1) (map f all) ≡ map f (done ++ e ∷ [])
    front_of =
        let long = length-append done (e ∷ []) in
        take-map f (length done + 1) all
        ∙ ap (map f) (ap (take (length done + 1)) (sym whole ∙ sym (append_assoc done (e ∷ []) rest))
        ∙ take-append-le (length done + 1) (done ++ e ∷ []) rest (omega arith) ∙ take_all (length done + 1) (done ++ e ∷ []) (omega arith))

    pub one_of : (P : A → Type 0) → All P all → P e
    one_of P each = All-contains P all e each (subst (λ (xs : List A). Contains xs e) whole (Contains-append_right done (e ∷ rest) e (contains_first e rest)))

-- Finding and putting in a list that is gone over by index.
use Rattle.std.proofs.Common.{◌≡◌, Bool, ℕ, suc, ◌+◌, ◌<◌, List, [], ◌∷◌, ◌++◌, sym, ap, ◌∙◌, get_or, length, take, drop, arith, cond, true, false}
use Rattle.std.proofs.Math.ListN.{set}
use Rattle.std.proofs.lemmas.List.{drop_more, append_assoc, set_split, get_or_default}
use Rattle.std.proofs.Math.Seq.{take-suc}
use Rattle.std.specs.Prelude.{Some, insert}
use Rattle.std.specs.List.{position_from}
use Rattle.std.specs.Ordering.{eq_by_cmp}
use Rattle.std.specs.FinMap.Entries as E
use Rattle.std.specs.FinMap.Entries.{by_order, find}
use Rattle.std.specs.declared.cmp.Ordering.{Ordering}
use Rattle.std.specs.declared.cmp.Ordering.TheVariants.{Less, Equal, Greater}

-- the element at an index, and those behind it
pub split_at : {A : Type 0} (xs : List A) (i : ℕ) (x : A) → i < length xs → x ≡ get_or xs i x → drop i xs ≡ x ∷ drop (i + 1) xs
split_at xs i x low is = drop_more xs i x low ∙ ap (λ y. y ∷ drop (i + 1) xs) (sym is)

pub taken_more : {A : Type 0} (xs : List A) (i : ℕ) (x : A) → i < length xs → x ≡ get_or xs i x → take (i + 1) xs ≡ take i xs ++ x ∷ []
taken_more xs i x low is =
    let e : suc i ≡ i + 1 = omega arith in
    ap (λ n. take n xs) (sym e) ∙ (take-suc xs i x low ∙ ap (λ z. take i xs ++ z ∷ []) (sym is))

module _ {K X : Type 0} (R : K → K → Ordering) where
  pub found_here : (k : K) (es : List (K × X)) (i : ℕ) (e : K × X) → i < length es → e ≡ get_or es i e → eq_by_cmp R k e.0 ≡ true → find R k (drop i es) ≡ Some e.1
  found_here k es i e low is t = ap (find R k) (split_at es i e low is) ∙ ap (λ b. cond b (Some e.1) (find R k (drop (i + 1) es))) t

  pub found_later : (k : K) (es : List (K × X)) (i : ℕ) (e : K × X) → i < length es → e ≡ get_or es i e → eq_by_cmp R k e.0 ≡ false → find R k (drop i es) ≡ find R k (drop (i + 1) es)
  found_later k es i e low is t = ap (find R k) (split_at es i e low is) ∙ ap (λ b. cond b (Some e.1) (find R k (drop (i + 1) es))) t

  module _ (k : K) (v : X) (es : List (K × X)) (i : ℕ) (e : K × X) (low : i < length es) (is : e ≡ get_or es i e) (before : E.put R k v es ≡ take i es ++ E.put R k v (drop i es)) where
    here : E.put R k v (drop i es) ≡ by_order (R k e.0) ((k, v) ∷ e ∷ drop (i + 1) es) ((e.0, v) ∷ drop (i + 1) es) (e ∷ E.put R k v (drop (i + 1) es))
    here = ap (E.put R k v) (split_at es i e low is)

    pub put_less : R k e.0 ≡ Less → insert es i (k, v) ≡ E.put R k v es
    put_less order = ap (λ ys. take i es ++ (k, v) ∷ ys) (split_at es i e low is) ∙ sym (before ∙ ap (λ ys. take i es ++ ys) (here ∙ ap (λ o. by_order o ((k, v) ∷ e ∷ drop (i + 1) es) ((e.0, v) ∷ drop (i + 1) es) (e ∷ E.put R k v (drop (i + 1) es))) order))

    pub put_equal : R k e.0 ≡ Equal → (f : K × X) → f ≡ get_or es i f → set es i (f.0, v) ≡ E.put R k v es
    put_equal order f at =
        let same : f ≡ e = at ∙ (get_or_default es i f e low ∙ sym is) in
        let next : suc i ≡ i + 1 = omega arith in
        set_split es i (f.0, v) low
        ∙ (ap (λ (x : K × X). take i es ++ (x.0, v) ∷ drop (suc i) es) same ∙ (ap (λ n. take i es ++ (e.0, v) ∷ drop n es) next
        ∙ sym (before ∙ ap (λ ys. take i es ++ ys) (here ∙ ap (λ o. by_order o ((k, v) ∷ e ∷ drop (i + 1) es) ((e.0, v) ∷ drop (i + 1) es) (e ∷ E.put R k v (drop (i + 1) es))) order))))

    pub put_greater : R k e.0 ≡ Greater → E.put R k v es ≡ take (i + 1) es ++ E.put R k v (drop (i + 1) es)
    put_greater order =
        before ∙ (ap (λ ys. take i es ++ ys) (here ∙ ap (λ o. by_order o ((k, v) ∷ e ∷ drop (i + 1) es) ((e.0, v) ∷ drop (i + 1) es) (e ∷ E.put R k v (drop (i + 1) es))) order)
        ∙ (sym (append_assoc (take i es) (e ∷ []) (E.put R k v (drop (i + 1) es))) ∙ ap (λ ys. ys ++ E.put R k v (drop (i + 1) es)) (sym (taken_more es i e low is))))

-- ---- the place of the first that passes a test

module _ {A : Type 0} (p : A → Bool) where
  pub place_here : (xs : List A) (i : ℕ) (x : A) → i < length xs → x ≡ get_or xs i x → p x ≡ true → position_from p i (drop i xs) ≡ Some i
  place_here xs i x low is t = ap (position_from p i) (split_at xs i x low is) ∙ ap (λ b. cond b (Some i) (position_from p (i + 1) (drop (i + 1) xs))) t

  pub place_later : (xs : List A) (i : ℕ) (x : A) → i < length xs → x ≡ get_or xs i x → p x ≡ false → position_from p i (drop i xs) ≡ position_from p (i + 1) (drop (i + 1) xs)
  place_later xs i x low is t = ap (position_from p i) (split_at xs i x low is) ∙ ap (λ b. cond b (Some i) (position_from p (i + 1) (drop (i + 1) xs))) t

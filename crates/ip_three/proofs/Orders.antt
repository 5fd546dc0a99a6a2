-- The order of paths and their fronts.
--     front_not_behind      a front of a path is not behind it
--     between_fronts      what lies between a path and one under it lies under it
--     two_fronts      of two fronts of one path one lies under the other
--     not_behind_front      behind what is not before a path lies none of the fronts of that path
use Rattle.std.proofs.Common.{◌≡◌, [], ◌∷◌, ◌++◌, refl, sym, ap, ◌∙◌, Bool, true, false, inl, inr}
use Rattle.std.proofs.lemmas.Bool.{false≢true}
use Rattle.std.specs.Prelude.{◌⊎◌}
use Rattle.std.specs.Ordering.{is_lt, ordering_then, ordering_reverse}
use Rattle.std.specs.declared.cmp.Ordering.{Ordering}
use Rattle.std.specs.declared.cmp.Ordering.TheVariants.{Less, Equal, Greater}
use Rattle.std.specs.Cmp.Lexicographic.{nat_list_cmp_total}
use Rattle.ip_spec.specs.Path.{Step, Path, bytes_cmp, path_cmp}
use Rattle.ip_spec.proofs.Subtrees.{step_antisymmetric, step_itself}
use Rattle.ip_spec.proofs.TreeLaws.{path_total, path_antisymmetric}

pub front_not_behind : (p rest : Path) → is_lt (path_cmp (p ++ rest) p) ≡ false
front_not_behind [] [] = refl
front_not_behind [] (s ∷ rest) = refl
front_not_behind (s ∷ p) rest = ap (λ o. is_lt (ordering_then o (path_cmp (p ++ rest) p))) (step_itself s) ∙ front_not_behind p rest

pub between_fronts : (p q rest : Path) → is_lt (path_cmp q p) ≡ false → is_lt (path_cmp (p ++ rest) q) ≡ false → (y : Path) × (q ≡ p ++ y)
between_fronts [] q rest above below = (q, refl)
between_fronts (s ∷ p) [] rest above below = absurd (false≢true (sym above))
between_fronts (s ∷ p) (k ∷ q) rest above below = by (bytes_cmp k s) (bytes_cmp s k) refl refl (nat_list_cmp_total.antisymm s k) above below (λ a c. between_fronts p q rest a c)
  where
    by : (o u : Ordering) → bytes_cmp k s ≡ o → bytes_cmp s k ≡ u → bytes_cmp s k ≡ ordering_reverse (bytes_cmp k s) → is_lt (ordering_then o (path_cmp q p)) ≡ false → is_lt (ordering_then u (path_cmp (p ++ rest) q)) ≡ false
        → (is_lt (path_cmp q p) ≡ false → is_lt (path_cmp (p ++ rest) q) ≡ false → (y : Path) × (q ≡ p ++ y)) → (y : Path) × (k ∷ q ≡ s ∷ (p ++ y))
    by Less u is_o is_u turned a c inner = absurd (false≢true (sym a))
    by Equal u is_o is_u turned a c inner =
        let same : u ≡ Equal = sym is_u ∙ turned ∙ ap ordering_reverse is_o in
        let deep = inner a (sym (ap (λ x. is_lt (ordering_then x (path_cmp (p ++ rest) q))) same) ∙ c) in
        (deep.0, ap (λ (x : Step). x ∷ q) (step_antisymmetric k s is_o) ∙ ap (λ (x : Path). s ∷ x) deep.1)
    by Greater u is_o is_u turned a c inner = absurd (false≢true (sym c ∙ ap (λ x. is_lt (ordering_then x (path_cmp (p ++ rest) q))) (sym is_u ∙ turned ∙ ap ordering_reverse is_o)))

pub two_fronts : (p f x y : Path) → p ++ x ≡ f ++ y → ((z : Path) × (f ≡ p ++ z)) ⊎ ((s : Step) × (z : Path) × (p ≡ f ++ s ∷ z))
two_fronts [] f x y e = inl (f, refl)
two_fronts (s ∷ p) [] x y e = inr (s, p, refl)
two_fronts (s ∷ p) (k ∷ f) x y e =
    let same : s ≡ k = cc in
    let rest : p ++ x ≡ f ++ y = cc in
    by same (two_fronts p f x y rest)
  where
    by : s ≡ k → ((z : Path) × (f ≡ p ++ z)) ⊎ ((j : Step) × (z : Path) × (p ≡ f ++ j ∷ z)) → ((z : Path) × (k ∷ f ≡ s ∷ (p ++ z))) ⊎ ((j : Step) × (z : Path) × (s ∷ p ≡ k ∷ (f ++ j ∷ z)))
    by same (inl deep) = inl (deep.0, ap (λ (j : Step). j ∷ f) (sym same) ∙ ap (λ (z : Path). s ∷ z) deep.1)
    by same (inr deep) = inr (deep.0, deep.1, ap (λ (j : Step). j ∷ p) same ∙ ap (λ (z : Path). k ∷ z) deep.2)

less_of : (o : Ordering) → is_lt o ≡ true → o ≡ Less
less_of Less e = refl
less_of Equal e = absurd (false≢true e)
less_of Greater e = absurd (false≢true e)

-- p before q, and r not before q: p before r
pub less_on : (p q r : Path) → is_lt (path_cmp p q) ≡ true → is_lt (path_cmp r q) ≡ false → is_lt (path_cmp p r) ≡ true
less_on p q r less not_less = by (path_cmp r q) (path_cmp q r) refl refl not_less
  where
    by : (o u : Ordering) → path_cmp r q ≡ o → path_cmp q r ≡ u → is_lt o ≡ false → is_lt (path_cmp p r) ≡ true
    by Less u is_o is_u e = absurd (false≢true (sym e))
    by Equal u is_o is_u e = ap (λ (x : Path). is_lt (path_cmp p x)) (path_antisymmetric r q is_o) ∙ less
    by Greater u is_o is_u e = ap is_lt (path_total.trans p q r (less_of _ less) (path_total.antisymm q r ∙ ap ordering_reverse is_o))

pub not_itself : (p : Path) → is_lt (path_cmp p p) ≡ false
not_itself [] = refl
not_itself (s ∷ p) = ap (λ o. is_lt (ordering_then o (path_cmp p p))) (step_itself s) ∙ not_itself p

-- neither p before d: d is a front of q, and p is not before q
pub not_behind_front : (p d rest : Path) → is_lt (path_cmp p (d ++ rest)) ≡ false → is_lt (path_cmp p d) ≡ false
not_behind_front p d rest e = by (is_lt (path_cmp p d)) refl
  where
    by : (x : Bool) → is_lt (path_cmp p d) ≡ x → is_lt (path_cmp p d) ≡ false
    by false is = is
    by true is = absurd (false≢true (sym e ∙ less_on p d (d ++ rest) is (front_not_behind d rest)))

-- what is before another is not behind it
pub not_turned : (p q : Path) → is_lt (path_cmp p q) ≡ true → is_lt (path_cmp q p) ≡ false
not_turned p q e = by (is_lt (path_cmp q p)) refl
  where
    by : (x : Bool) → is_lt (path_cmp q p) ≡ x → is_lt (path_cmp q p) ≡ false
    by false is = is
    by true is = absurd (false≢true (sym (not_itself p) ∙ ap is_lt (path_total.trans p q p (less_of _ e) (less_of _ is))))

pub not_less_on : (p q r : Path) → is_lt (path_cmp p q) ≡ false → is_lt (path_cmp q r) ≡ false → is_lt (path_cmp p r) ≡ false
not_less_on p q r a c = by (is_lt (path_cmp p r)) refl
  where
    by : (x : Bool) → is_lt (path_cmp p r) ≡ x → is_lt (path_cmp p r) ≡ false
    by false is = is
    by true is = absurd (false≢true (sym a ∙ less_on p r q is c))

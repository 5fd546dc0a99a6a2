-- A path by its first step, as slices show it.
--     by_first, by_first_lt, by_head, by_head_lt      it is that step and what is left of it
--     by_rest      what is left as a part of a slice
--     nil_of      no steps
use Rattle.std.proofs.Common.{◌≡◌, ◌-◌, [], ◌∷◌, refl, ap, take, drop, get_or, true, false, length, length-drop, arith, sym, ◌∙◌, ◌<◌}
use Rattle.std.proofs.lemmas.List.{take_all}
use Rattle.std.proofs.lemmas.Bool.Decides.{nat_tests}
use Rattle.std.specs.Prelude.{◌==◌}
use Rattle.ip_spec.specs.Path.{Step, Path}

pub by_first : (p : Path) (s : Step) → false ≡ (length p == 0) → s ≡ get_or p 0 s → p ≡ s ∷ drop 1 p
by_first [] s some is = absurd cc
by_first (t ∷ p) s some is = let same : t ≡ s = cc in ap (λ x. x ∷ p) same

pub by_head : (p : Path) → false ≡ (length p == 0) → p ≡ get_or p 0 [] ∷ drop 1 p
by_head [] some = absurd cc
by_head (t ∷ p) some = refl

pub behind_first : (p : Path) → take (length p - 1) (drop 1 p) ≡ drop 1 p
behind_first p = take_all (length p - 1) (drop 1 p) (omega (arith, length-drop 1 p))

pub by_first_lt : (p : Path) (s : Step) → 0 < length p → s ≡ get_or p 0 s → p ≡ s ∷ drop 1 p
by_first_lt [] s some is = absurd (omega arith)
by_first_lt (t ∷ p) s some is = let same : t ≡ s = cc in ap (λ x. x ∷ p) same

pub by_rest : (p : Path) (s : Step) → p ≡ s ∷ drop 1 p → p ≡ s ∷ take (length p - 1) (drop 1 p)
by_rest p s e = e ∙ ap (λ q. s ∷ q) (sym (behind_first p))

pub nil_of : (p : Path) → true ≡ (length p == 0) → p ≡ []
nil_of [] e = refl
nil_of (s ∷ p) e = absurd (grind (arith, nat_tests))

pub by_head_lt : (p : Path) → 0 < length p → p ≡ get_or p 0 [] ∷ drop 1 p
by_head_lt [] some = absurd (omega arith)
by_head_lt (t ∷ p) some = refl

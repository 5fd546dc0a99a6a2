-- The order of paths is total, and two paths that tie in it are one.
use Rattle.std.proofs.Common.{◌≡◌, ◌∙◌, ℕ, ◌≤◌, zero, suc, Bool, true, false, ◌&&◌, [], ◌∷◌, length, take, refl, ap, arith}
use Rattle.std.proofs.lemmas.Bool.{false≢true, and_parts}
use Rattle.std.proofs.lemmas.Cmp.{nat_list_cmp_total, lists_total, tied_itself}
use Rattle.std.specs.Cmp.{IsTotalOrder}
use Rattle.std.specs.FinMap.{slice_cmp-IsAntisymmetric, nat_cmp-IsAntisymmetric}
use Rattle.std.specs.Ordering.{ordering_reverse}
use Rattle.std.specs.declared.cmp.Ordering.TheVariants.{Less, Equal, Greater}
use Rattle.ip_merge.proofs.SameText.{same_bytes_itself, same_text}
use Rattle.ip_spec.specs.Path.{Path, path_cmp, same_bytes, is_prefix}

pub paths_total : IsTotalOrder path_cmp
paths_total = lists_total nat_list_cmp_total

pub path_itself : (p : Path) → path_cmp p p ≡ Equal
path_itself = tied_itself paths_total

pub one_path : (p q : Path) → path_cmp p q ≡ Equal → p ≡ q
one_path = slice_cmp-IsAntisymmetric (slice_cmp-IsAntisymmetric nat_cmp-IsAntisymmetric)

pub greater_than : (p q : Path) → path_cmp p q ≡ Less → path_cmp q p ≡ Greater
greater_than p q h = paths_total.antisymm q p ∙ ap ordering_reverse h

pub less_than : (p q : Path) → path_cmp p q ≡ Greater → path_cmp q p ≡ Less
less_than p q h = paths_total.antisymm q p ∙ ap ordering_reverse h

-- a prefix is the steps up to its length, and all of these are prefixes
pub prefix_steps : (q p : Path) → is_prefix q p ≡ true → (length q ≤ length p) × (q ≡ take (length q) p)
prefix_steps [] p h = (omega arith, refl)
prefix_steps (s ∷ q) [] h = absurd (false≢true h)
prefix_steps (s ∷ q) (r ∷ p) h =
    let parts = and_parts (same_bytes s r) (is_prefix q p) h in
    let rest = prefix_steps q p parts.1 in
    (omega (arith, rest.0), λ i. same_text s r parts.0 i ∷ rest.1 i)

pub steps_prefix : (n : ℕ) (p : Path) → is_prefix (take n p) p ≡ true
steps_prefix zero p = refl
steps_prefix (suc n) [] = refl
steps_prefix (suc n) (s ∷ p) = ap (λ b. b && is_prefix (take n p) p) (same_bytes_itself s) ∙ steps_prefix n p

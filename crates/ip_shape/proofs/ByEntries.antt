-- The shape of the steps, by a directory's entries.
use Rattle.std.proofs.Common.{◌≡◌, ◌≤◌, ◌<◌, ◌+◌, ◌-◌, ℕ, zero, suc, true, false, List, [], ◌∷◌, length, subst, sym, ap, ◌∙◌, refl, arith}
use Rattle.std.specs.Prelude.{cond, nat_le, ◌==◌, ◌||◌}
use Rattle.std.proofs.lemmas.Bool.Decides.{nat_tests}
use Rattle.ip_spec.specs.Path.{Step}
use Rattle.ip_spec.specs.Shape.{place, at_place, is_leaf, leaf_limit, deepest, part_from}
use Rattle.ip_shape.specs.Shape.{IsPart, IsLeafOf, IsInodeOf, steps_at}
use Rattle.ip_shape.specs.Directory.{steps_of}
use Rattle.ip_shape.specs.Reading.{steps_under}
use Rattle.ip_shape.specs.declared.part.Part.{Part, out-Part}
use Rattle.ip_shape.proofs.Members.{neither}
use Rattle.ip_shape.proofs.OneShape.{in_order}
use Rattle.ip_shape.proofs.Shapes.{many_part, few_part, above}

at_limit : (n depth : ℕ) → (nat_le n leaf_limit || nat_le deepest depth) ≡ true → depth < 51 → nat_le n leaf_limit ≡ true
at_limit n depth leaf lt = grind (arith, nat_tests)

not_deepest : (depth : ℕ) → nat_le deepest depth ≡ false → depth < 51
not_deepest depth e = grind (arith, nat_tests)

module _ {C : Type 0} where
  pub steps_at_place : (depth i : ℕ) (es : List (Step × C)) → steps_of (at_place depth i es) ≡ steps_at depth i (steps_of es)
  unfolding at_place
  steps_at_place depth i [] = refl
  steps_at_place depth i (e ∷ es) =
      elim (place e.0 depth == i) as (λ b. steps_of (cond b (e ∷ at_place depth i es) (at_place depth i es)) ≡ cond b (e.0 ∷ steps_at depth i (steps_of es)) (steps_at depth i (steps_of es))) [
        | true ↦ ap (λ ss. e.0 ∷ ss) (steps_at_place depth i es)
        | false ↦ steps_at_place depth i es
      ]

  pub steps_part : (depth : ℕ) (is : List ℕ) (es : List (Step × C)) → steps_under depth is (steps_of es) ≡ steps_of (part_from depth es is)
  steps_part depth [] es = refl
  steps_part depth (i ∷ is) es = ap (steps_under (suc depth) is) (sym (steps_at_place depth i es)) ∙ steps_part (suc depth) is (at_place depth i es)

  pub as_long : (es : List (Step × C)) → length (steps_of es) ≡ length es
  as_long [] = refl
  as_long (e ∷ es) = ap suc (as_long es)

module _ {C R : Type 0} where
  pub leaf_by : (depth : ℕ) (es : List (Step × C)) (part : Part R) → depth ≤ deepest → is_leaf depth es ≡ true → IsPart (deepest - depth) depth (steps_of es) part → IsLeafOf (steps_of es) (out-Part R part)
  leaf_by depth es part le leaf is = by_levels (deepest - depth) refl is
    where
      by_levels : (levels : ℕ) → levels ≡ deepest - depth → IsPart levels depth (steps_of es) part → IsLeafOf (steps_of es) (out-Part R part)
      by_levels zero e x = x
      by_levels (suc levels) e x = few_part levels depth (steps_of es) part (ap (λ n. nat_le n leaf_limit) (as_long es) ∙ at_limit (length es) depth leaf (omega (arith, e, le))) x

  pub inode_by : (depth : ℕ) (es : List (Step × C)) (part : Part R) → depth ≤ deepest → is_leaf depth es ≡ false → IsPart (deepest - depth) depth (steps_of es) part
      → IsInodeOf (length es) (λ i child. IsPart (deepest - (depth + 1)) (depth + 1) (steps_of (at_place depth i es)) child) (out-Part R part)
  inode_by depth es part le inode is =
      let apart = neither (nat_le (length es) leaf_limit) (nat_le deepest depth) inode in
      let many : 32 < length es = above (length es) apart.0 in
      let lt : depth < 51 = not_deepest depth apart.1 in
      let levels : deepest - depth ≡ suc (deepest - (depth + 1)) = omega arith in
      let next : suc depth ≡ depth + 1 = omega arith in
      subst (λ n. IsInodeOf n (λ i child. IsPart (deepest - (depth + 1)) (depth + 1) (steps_of (at_place depth i es)) child) (out-Part R part)) (as_long es)
      (in_order (length (steps_of es)) (λ i child. IsPart (deepest - (depth + 1)) (suc depth) (steps_at depth i (steps_of es)) child) (λ i child. IsPart (deepest - (depth + 1)) (depth + 1) (steps_of (at_place depth i es)) child)
      (out-Part R part)
      (λ i child x. subst (λ n. IsPart (deepest - (depth + 1)) n (steps_of (at_place depth i es)) child) next (subst (λ (ss : List Step). IsPart (deepest - (depth + 1)) (suc depth) ss child) (sym (steps_at_place depth i es)) x))
      (many_part (deepest - (depth + 1)) depth (steps_of es) part (omega (arith, many, as_long es)) (subst (λ n. IsPart n depth (steps_of es) part) levels is)))

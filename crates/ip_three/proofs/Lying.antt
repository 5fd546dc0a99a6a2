-- Where a path lies to another, and what stands at it where a tree is placed there, or taken away.
--     Lies p q      under it, above it or beside it.      lies      which of them
--     no_front      a path is not above its front.      no_prefix      nor above what lies beside it.      between      what lies under a directory and a path that is not above the directory
--     placed_under, placed_above, placed_beside      what stands where after a tree was placed
--     removed_under, removed_beside      and after one was taken away
use Rattle.std.proofs.Common.{◌≡◌, [], ◌∷◌, ◌++◌, refl, sym, ap, ◌∙◌, None, Bool, true, false, cond}
use Rattle.std.proofs.lemmas.Bool.{false≢true, or_parts, or_right}
use Rattle.std.specs.Prelude.{not, ◌||◌, ◌&&◌}
use Rattle.std.specs.Ordering.{is_eq}
use Rattle.ip_spec.specs.Map.{get}
use Rattle.ip_spec.specs.Path.{Step, Path, same_bytes, is_prefix, is_related}
use Rattle.ip_spec.specs.Tree.{Tree, place, remove}
use Rattle.ip_spec.proofs.GraftLaws.{get-place, get-beside}
use Rattle.ip_spec.proofs.Subtrees.{prefix_of_append, same_bytes_turned, same_step, step_itself}
use Rattle.ip_spec.proofs.TreeLaws.{get-remove}

itself : (s : Step) → same_bytes s s ≡ true
itself s = ap is_eq (step_itself s)

-- ---- where a path lies

pub data Lies (p q : Path) : Type 0 where
  under : (rest : Path) → q ≡ p ++ rest → Lies p q
  above : (s : Step) (rest : Path) → p ≡ q ++ s ∷ rest → Lies p q
  beside : is_related p q ≡ false → Lies p q

pub lies : (p q : Path) → Lies p q
lies [] q = under q refl
lies (s ∷ p) [] = above s p refl
lies (s ∷ p) (r ∷ q) = by (same_bytes s r) refl (lies p q)
  where
    deeper : s ≡ r → Lies p q → Lies (s ∷ p) (r ∷ q)
    deeper same (under rest is) = under rest (ap (λ (x : Step). x ∷ q) (sym same) ∙ ap (λ (x : Path). s ∷ x) is)
    deeper same (above x rest is) = above x rest (ap (λ (y : Step). y ∷ p) same ∙ ap (λ (y : Path). r ∷ y) is)
    deeper same (beside apart) = beside (ap (λ (y : Step). is_related (y ∷ p) (r ∷ q)) same ∙ ap (λ b. b && is_prefix p q || b && is_prefix q p) (itself r) ∙ apart)

    by : (b : Bool) → same_bytes s r ≡ b → Lies p q → Lies (s ∷ p) (r ∷ q)
    by true e inner = deeper (same_step s r e) inner
    by false e inner = beside (ap (λ b. b && is_prefix p q || same_bytes r s && is_prefix q p) e ∙ ap (λ b. b && is_prefix q p) (same_bytes_turned r s ∙ e))

pub no_front : (q : Path) (s : Step) (rest : Path) → is_prefix (q ++ s ∷ rest) q ≡ false
no_front [] s rest = refl
no_front (x ∷ q) s rest = ap (λ b. b && is_prefix (q ++ s ∷ rest) q) (itself x) ∙ no_front q s rest

pub between : (p d x rest : Path) (s : Step) → p ++ rest ≡ d ++ s ∷ x → is_prefix p d ≡ false → (y : Path) × (p ≡ d ++ s ∷ y)
between [] d x rest s e not_above = absurd (false≢true (sym not_above))
between (a ∷ p) [] x rest s e not_above =
    let same : a ≡ s = cc in
    (p, ap (λ (k : Step). k ∷ p) same)
between (a ∷ p) (k ∷ d) x rest s e not_above =
    let same : a ≡ k = cc in
    let inner : p ++ rest ≡ d ++ s ∷ x = cc in
    let none : is_prefix p d ≡ false = sym (ap (λ b. b && is_prefix p d) (ap (λ (y : Step). same_bytes y k) same ∙ itself k)) ∙ not_above in
    let deep = between p d x rest s inner none in
    (deep.0, ap (λ (y : Step). y ∷ p) same ∙ ap (λ (y : Path). k ∷ y) deep.1)

-- ---- what stands there

-- neither of two is a front of the other
pub no_prefix : (p q : Path) → is_related p q ≡ false → is_prefix p q ≡ false
no_prefix p q apart = (or_parts (is_prefix p q) (is_prefix q p) apart).0

module _ (t : Tree) (p : Path) (sub : Tree) (q : Path) where
  pub placed_under : (rest : Path) → q ≡ p ++ rest → get (place t p sub) q ≡ get sub rest
  placed_under rest is = ap (get (place t p sub)) is ∙ get-place t p sub rest

  pub placed_above : (s : Step) (rest : Path) → p ≡ q ++ s ∷ rest → get (place t p sub) q ≡ None
  placed_above s rest is =
      let none : is_prefix p q ≡ false = ap (λ (x : Path). is_prefix x q) is ∙ no_front q s rest in
      let related : is_related p q ≡ true = or_right (is_prefix p q) (is_prefix q p) (ap (is_prefix q) is ∙ prefix_of_append q (s ∷ rest)) in
      get-beside t p sub q none ∙ ap (λ b. cond (not b) (get t q) None) related

  pub placed_beside : is_related p q ≡ false → get (place t p sub) q ≡ get t q
  placed_beside apart = get-beside t p sub q (no_prefix p q apart) ∙ ap (λ b. cond (not b) (get t q) None) apart

module _ (t : Tree) (p q : Path) where
  pub removed_under : is_prefix p q ≡ true → get (remove t p) q ≡ None
  removed_under is = get-remove t p q ∙ ap (λ b. cond (not b) (get t q) None) is

  pub removed_beside : is_prefix p q ≡ false → get (remove t p) q ≡ get t q
  removed_beside apart = get-remove t p q ∙ ap (λ b. cond (not b) (get t q) None) apart

-- The parts of one set of steps are alike.
use Rattle.std.proofs.Common.{◌≡◌, ◌<◌, ◌+◌, ℕ, zero, suc, Bool, true, false, List, [], length, ap, sym, subst, refl, ◌∙◌, arith}
use Rattle.std.specs.Prelude.{nat_le, ◌==◌}
use Rattle.std.proofs.lemmas.Bool.{eq-eqb, eqb-true, eqb-false, ne_eqb}
use Rattle.ip_spec.specs.Path.{Step}
use Rattle.ip_spec.specs.Shape.{leaf_limit, deepest, place}
use Rattle.ip_shape.specs.Shape.{IsPart, ByTest, IsLeafOf, IsInodeOf, IsChainTo, AreLayersAlike, AreAlike, has, steps_at}
use Rattle.ip_shape.specs.declared.part.Part.{Part, out-Part}
use Rattle.ip_shape.specs.declared.part.Part.TheOpen.{Part-F, Leaf, Inode, Unread}
use Rattle.ip_shape.proofs.Members.{all_pass, none_pass}
use Rattle.ip_shape.proofs.Shapes.{many_part}

module _ {R : Type 0} where
  leaves : (F : Part R → Part R → Type 0) (steps : List Step) (one other : Part-F R (Part R)) → IsLeafOf steps one → IsLeafOf steps other → AreLayersAlike F one other
  leaves F steps (Leaf j a) (Leaf k b) x y = x ∙ sym y
  leaves F steps (Leaf j a) (Inode k m b) x y = absurd y
  leaves F steps (Leaf j a) (Unread r m) x y = ap length x ∙ sym y
  leaves F steps (Inode j n a) other x y = absurd x
  leaves F steps (Unread r n) (Leaf k b) x y = x ∙ sym (ap length y)
  leaves F steps (Unread r n) (Inode k m b) x y = absurd y
  leaves F steps (Unread r n) (Unread q m) x y = x ∙ sym y

  inodes : (F : Part R → Part R → Type 0) (total : ℕ) (G : ℕ → Part R → Type 0) (one other : Part-F R (Part R)) → ((i : ℕ) (x y : Part R) → G i x → G i y → F x y)
      → IsInodeOf total G one → IsInodeOf total G other → AreLayersAlike F one other
  inodes F total G (Leaf j a) other alike x y = absurd x
  inodes F total G (Inode j n a) (Leaf k b) alike x y = absurd y
  inodes F total G (Inode j n a) (Inode k m b) alike x y = (x.0 ∙ sym y.0, x.1 ∙ sym y.1, λ i p q e f. alike i p q (x.2 i p e) (y.2 i q f))
  inodes F total G (Inode j n a) (Unread r m) alike x y = x.0 ∙ sym y
  inodes F total G (Unread r n) (Leaf k b) alike x y = absurd y
  inodes F total G (Unread r n) (Inode k m b) alike x y = x ∙ sym y.0
  inodes F total G (Unread r n) (Unread q m) alike x y = x ∙ sym y

by_count : (b : Bool) (A B A' B' R : Type 0) → (A → A' → R) → (B → B' → R) → ByTest b A B → ByTest b A' B' → R
by_count true A B A' B' R few many x y = few x y
by_count false A B A' B' R few many x y = many x y

module _ {R : Type 0} where
  pub alike : (levels depth : ℕ) (steps : List Step) (one other : Part R) → IsPart levels depth steps one → IsPart levels depth steps other → AreAlike levels one other
  alike zero depth steps one other x y = leaves (λ _ _. ⊥) steps (out-Part R one) (out-Part R other) x y
  alike (suc levels) depth steps one other x y =
      by_count (nat_le (length steps) leaf_limit) _ _ _ _ _
      (λ a b. leaves (AreAlike levels) steps (out-Part R one) (out-Part R other) a b)
      (λ a b. inodes (AreAlike levels) (length steps) (λ i child. IsPart levels (suc depth) (steps_at depth i steps) child) (out-Part R one) (out-Part R other)
      (λ i p q s t. alike levels (suc depth) (steps_at depth i steps) p q s t) a b)
      x y

  pub in_order : (total : ℕ) (F G : ℕ → Part R → Type 0) (part : Part-F R (Part R)) → ((i : ℕ) (child : Part R) → F i child → G i child) → IsInodeOf total F part → IsInodeOf total G part
  in_order total F G (Leaf k a) to x = absurd x
  in_order total F G (Inode k n a) to x = (x.0, x.1, λ i child e. to i child (x.2 i child e))
  in_order total F G (Unread r n) to x = x

by_test : (b : Bool) (Yes No : Type 0) → (b ≡ true → Yes) → (b ≡ false → No) → ByTest b Yes No
by_test true Yes No at_true at_false = at_true refl
by_test false Yes No at_true at_false = at_false refl

module _ {R : Type 0} where
  none_of_few : (levels depth : ℕ) (part : Part R) → IsPart levels depth [] part → IsLeafOf [] (out-Part R part)
  none_of_few zero depth part is = is
  none_of_few (suc levels) depth part is = is

module _ (s : Step) (steps : List Step) (many : 32 < length steps) (agree : (t : Step) (depth : ℕ) → has t steps ≡ true → depth < deepest → place t depth ≡ place s depth) where
  all_at : (depth i : ℕ) → depth < deepest → i ≡ place s depth → steps_at depth i steps ≡ steps
  all_at depth i lt at = all_pass (λ t. place t depth == i) steps (λ t is_in. eq-eqb (place t depth) i (agree t depth is_in lt ∙ sym at))

  none_at : (depth i : ℕ) → depth < deepest → (i ≡ place s depth → ⊥) → steps_at depth i steps ≡ []
  none_at depth i lt apart = none_pass (λ t. place t depth == i) steps (λ t is_in. ne_eqb (place t depth) i (λ e. apart (sym e ∙ agree t depth is_in lt)))

  module _ {R : Type 0} where
    pub chain : (levels depth : ℕ) (part : Part R) → levels + depth ≡ 51 → IsPart levels depth steps part → IsChainTo levels depth s steps part
    chain zero depth part all is = is
    chain (suc levels) depth part all is =
        in_order (length steps) (λ i child. IsPart levels (suc depth) (steps_at depth i steps) child) (λ i child. ByTest (i == place s depth) (IsChainTo levels (suc depth) s steps child) (IsLeafOf [] (out-Part R child)))
        (out-Part R part)
        (λ i child below. by_test (i == place s depth) _ _
        (λ e. chain levels (suc depth) child (omega (arith, all)) (subst (λ (ss : List Step). IsPart levels (suc depth) ss child) (all_at depth i (omega (arith, all)) (eqb-true i (place s depth) e)) below))
        (λ e. none_of_few levels (suc depth) child (subst (λ (ss : List Step). IsPart levels (suc depth) ss child) (none_at depth i (omega (arith, all)) (eqb-false i (place s depth) e)) below)))
        (many_part levels depth steps part many is)

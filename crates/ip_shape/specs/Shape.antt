-- The shape of a directory, which its set of steps determines.
--     steps_at depth i steps      the steps whose place at a depth is i
--     has s steps      whether a step stands among them
--     add, take_out      a step among steps that ascend
--     AreSteps steps      they ascend, and each stands once
--     IsPart levels depth steps part      the part is the one shape of these steps at a depth, with so many depths left below:
--         at most 32 steps are a leaf, and so is every part at depth 51; more are an inode of 32 parts one depth down, the one at
--         index i of the steps whose place is i, an empty leaf where there are none, and it counts its steps
use Rattle.std.specs.Prelude.{◌≡◌, ℕ, zero, suc, Bool, true, false, not, ◌==◌, ◌&&◌, ◌||◌, List, [], ◌∷◌, length, filter, T, nat_le, slice_get, Some}
use Rattle.std.specs.List.{list_any}
use Rattle.std.specs.Ordering.{is_lt}
use Rattle.std.specs.FinMap.Entries.{by_order}
use Rattle.ip_spec.specs.Path.{Step, bytes_cmp, same_bytes}
use Rattle.ip_spec.specs.Shape.{place, leaf_limit}
use Rattle.ip_shape.specs.declared.part.Part.{Part, out-Part}
use Rattle.ip_shape.specs.declared.part.Part.TheOpen.{Part-F, Leaf, Inode, Unread}

abbrev pub steps_at : ℕ → ℕ → List Step → List Step
steps_at depth i steps = filter (λ s. place s depth == i) steps

abbrev pub has : Step → List Step → Bool
has s steps = list_any (same_bytes s) steps

abbrev pub add : Step → List Step → List Step
add s [] = s ∷ []
add s (t ∷ ts) = by_order (bytes_cmp s t) (s ∷ t ∷ ts) (t ∷ ts) (t ∷ add s ts)

abbrev pub take_out : Step → List Step → List Step
take_out s steps = filter (λ t. not (same_bytes s t)) steps

-- the third list has the steps of the first two, and no others
abbrev pub AreUnited : List Step → List Step → List Step → Type 0
AreUnited one other all = (s : Step) → has s all ≡ (has s one || has s other)

abbrev pub is_below_all : Step → List Step → Bool
is_below_all s [] = true
is_below_all s (t ∷ ts) = is_lt (bytes_cmp s t) && is_below_all s ts

abbrev pub ascend : List Step → Bool
ascend [] = true
ascend (s ∷ ss) = is_below_all s ss && ascend ss

abbrev pub AreSteps : List Step → Type 0
AreSteps steps = T (ascend steps)

abbrev pub ByTest : Bool → Type 0 → Type 0 → Type 0
ByTest true Yes No = Yes
ByTest false Yes No = No

module _ {R : Type 0} where
  -- Of a part that was not read so far, only how many steps it has is told.
  abbrev pub IsLeafOf : List Step → Part-F R (Part R) → Type 0
  IsLeafOf steps (Leaf known held) = held.items ≡ steps
  IsLeafOf steps (Inode known count children) = ⊥
  IsLeafOf steps (Unread r count) = count ≡ length steps

  abbrev pub IsInodeOf : ℕ → (ℕ → Part R → Type 0) → Part-F R (Part R) → Type 0
  IsInodeOf total IsChild (Leaf known held) = ⊥
  IsInodeOf total IsChild (Inode known count children) =
      (count ≡ total) × (length children.items ≡ 32) × ((i : ℕ) (child : Part R) → slice_get children.items i ≡ Some child → IsChild i child)
  IsInodeOf total IsChild (Unread r count) = count ≡ total

  abbrev pub IsPart : ℕ → ℕ → List Step → Part R → Type 0
  IsPart zero depth steps part = IsLeafOf steps (out-Part R part)
  IsPart (suc levels) depth steps part =
      ByTest (nat_le (length steps) leaf_limit)
      (IsLeafOf steps (out-Part R part))
      (IsInodeOf (length steps) (λ i child. IsPart levels (suc depth) (steps_at depth i steps) child) (out-Part R part))

  -- Two parts are alike: leaves of the same steps, or inodes whose children are alike, one by one, or of as many steps, where one was not read. Levels as above.
  abbrev pub count_in : Part-F R (Part R) → ℕ
  count_in (Leaf known held) = length held.items
  count_in (Inode known count children) = count
  count_in (Unread r count) = count

  abbrev pub AreLayersAlike : (Part R → Part R → Type 0) → Part-F R (Part R) → Part-F R (Part R) → Type 0
  AreLayersAlike AreAlikeBelow (Leaf j one) (Leaf k other) = one.items ≡ other.items
  AreLayersAlike AreAlikeBelow (Leaf j one) (Inode k m other) = ⊥
  AreLayersAlike AreAlikeBelow (Inode j n one) (Leaf k other) = ⊥
  AreLayersAlike AreAlikeBelow (Inode j n one) (Inode k m other) =
      (n ≡ m) × (length one.items ≡ length other.items)
      × ((i : ℕ) (x y : Part R) → slice_get one.items i ≡ Some x → slice_get other.items i ≡ Some y → AreAlikeBelow x y)
  AreLayersAlike AreAlikeBelow (Unread r n) other = n ≡ count_in other
  AreLayersAlike AreAlikeBelow one (Unread r n) = count_in one ≡ n

  abbrev pub AreAlike : ℕ → Part R → Part R → Type 0
  AreAlike zero one other = AreLayersAlike (λ _ _. ⊥) (out-Part R one) (out-Part R other)
  AreAlike (suc levels) one other = AreLayersAlike (AreAlike levels) (out-Part R one) (out-Part R other)

  -- From a part at a depth down: inodes that have one child each, the one at the place of a step, and at depth 51 a leaf of these steps. Levels as above.
  abbrev pub IsChainTo : ℕ → ℕ → Step → List Step → Part R → Type 0
  IsChainTo zero depth s steps part = IsLeafOf steps (out-Part R part)
  IsChainTo (suc levels) depth s steps part =
      IsInodeOf (length steps) (λ i child. ByTest (i == place s depth) (IsChainTo levels (suc depth) s steps child) (IsLeafOf [] (out-Part R child))) (out-Part R part)

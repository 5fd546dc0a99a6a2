-- What a merge of three trees takes for granted, and what a plan of the whole merge gives.
--     IsOneTree v w      what stands under two directories that one record spells is the same
--     AreMerging rule b l r      each rule means one answer, the maps are trees, and one record is one tree
--     IsEdited rule b l r plan t      the plan's edits make the left tree the merge
use Rattle.std.specs.Prelude.{◌≡◌, ◌<◌, ◌≤◌, true, ◌∷◌, ◌++◌, length, Some, IsTrue, IsFalse}
use Rattle.ip_spec.specs.Map.{get}
use Rattle.ip_spec.specs.Merge.{IsOneAnswer, Merges, Rule, merged}
use Rattle.ip_spec.specs.Path.{Bytes, Path, Step}
use Rattle.ip_spec.specs.Step.{contents_limit}
use Rattle.ip_spec.specs.Tree.{IsTree, Tree}
use Rattle.ip_spec.specs.View.{View}
use Rattle.ip_three.specs.Merging.{AreEdits, Follows, same_directory}
use Rattle.ip_three.specs.Planning.{Plan}

abbrev pub IsOneTree : View → View → Type 0
IsOneTree v w = (p : Path) → same_directory v w p ≡ true → (s : Step) (q : Path) → get v.map (p ++ s ∷ q) ≡ get w.map (p ++ s ∷ q)

pub record AreMerging (rule : Rule) (b l r : View) : Type 0 where
  pub one : (p : Path) → IsOneAnswer (rule p)
  pub base : IsTree b.map
  pub left : IsTree l.map
  pub right : IsTree r.map
  pub sides : IsOneTree l r
  pub left_base : IsOneTree l b
  pub right_base : IsOneTree r b

-- no contents of the tree are too long
abbrev pub AreShort : Tree → Type 0
AreShort t = (p : Path) (bytes : Bytes) → get t p ≡ Some bytes → length bytes ≤ contents_limit

pub record IsEdited (rule : Rule) (b l r : View) (plan : Plan) (t : Tree) : Type 0 where
  pub merges : Merges rule b.map l.map r.map (merged t)
  pub edits : AreEdits b l r t plan.gone plan.come
  pub follows : Follows b l r t
  pub tree : IsTree t
  pub short : IsFalse plan.long → AreShort l.map → AreShort r.map → AreShort t
  pub long : IsTrue plan.long → (p : Path) × (bytes : Bytes) × (get t p ≡ Some bytes) × (contents_limit < length bytes)

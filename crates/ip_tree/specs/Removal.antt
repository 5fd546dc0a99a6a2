-- What a removal does.
--     taken_front t path      how many first steps of a path go where what stands at it goes: the last directory on it that holds anything else, or the root,
--         loses its entry on the way
--     FindsFront, FindsFrontAt      what is answered of a path below a directory and at a node: that nothing stands there, or so many steps
--     Takes, TakesAt, RemovesFrom      what is answered where it is taken away
--     IsTaken records p old new t      what stood at the path or under it is gone, and of the other parts those are known that it does not touch
use Rattle.std.specs.Prelude.{◌≡◌, ℕ, zero, suc, Bool, true, false, cond, [], ◌∷◌, Option, IsTrue, IsFalse, Result, Ok, Err}
use Rattle.ip_spec.specs.Path.{Path}
use Rattle.ip_spec.specs.declared.record.Record.{Record}
use Rattle.ip_spec.specs.Tree.{Tree, subtree, is_empty, remove}
use Rattle.ip_spec.specs.View.{Part}
use Rattle.ip_tree.specs.Node.{Node}
use Rattle.ip_tree.specs.Meaning.{NodeIs}
use Rattle.ip_tree.specs.Known.{knows}
use Rattle.ip_tree.specs.Edits.{IsDirectory, IsSame, IsKept, known_after}
use Rattle.ip_tree.specs.declared.remove.Front.{Front}
use Rattle.ip_tree.specs.declared.remove.Front.TheVariants.{Nothing, Steps}
use Rattle.ip_tree.specs.declared.tree.TreeFault.{TreeFault}

-- Below the first step, what would be left of what stands there: nothing, and then the step goes itself.
abbrev pub taken_front : Tree → Path → ℕ
taken_front t [] = zero
taken_front t (s ∷ p) = let sub = subtree t (s ∷ []) in cond (is_empty (remove sub p)) 1 (suc (taken_front sub p))

-- Taking away so many steps of the path takes the same away, and each directory on the way to them holds something else
pub record IsFront (path : Path) (n : ℕ) (t : Tree) : Type 0 where
  pub stands : IsFalse (is_empty (subtree t path))
  pub count : n ≡ taken_front t path

-- the same of what stands at a step, counted from above it
pub record IsFrontAt (path : Path) (n : ℕ) (t : Tree) : Type 0 where
  pub stands : IsFalse (is_empty (subtree t path))
  pub count : n ≡ cond (is_empty (remove t path)) 1 (suc (taken_front t path))

abbrev pub FindsFront : (ℕ → Option Record) → Path → Node → Node → Tree → Result Front TreeFault → Type 0
FindsFront records path old new t (Ok Nothing) = IsTrue (is_empty (subtree t path)) × IsSame (IsDirectory records) records old new t
FindsFront records path old new t (Ok (Steps n)) = IsFront path n t × IsSame (IsDirectory records) records old new t
FindsFront records path old new t (Err fault) = IsKept (IsDirectory records) records old new t fault

abbrev pub FindsFrontAt : (ℕ → Option Record) → Path → Node → Node → Tree → Result Front TreeFault → Type 0
FindsFrontAt records path old new t (Ok Nothing) = IsTrue (is_empty (subtree t path)) × IsSame (NodeIs records) records old new t
FindsFrontAt records path old new t (Ok (Steps n)) = IsFrontAt path n t × IsSame (NodeIs records) records old new t
FindsFrontAt records path old new t (Err fault) = IsKept (NodeIs records) records old new t fault

pub record IsTaken (records : ℕ → Option Record) (path : Path) (old new : Node) (t : Tree) : Type 0 where
  pub means : IsDirectory records new (remove t path)
  pub known : (part : Part) → knows records new part ≡ known_after (knows records old) path (remove t path) part

abbrev pub Takes : (ℕ → Option Record) → Path → Node → Node → Tree → Result (Unit {0}) TreeFault → Type 0
Takes records path old new t (Ok done) = IsTaken records path old new t
Takes records path old new t (Err fault) = IsKept (IsDirectory records) records old new t fault

-- of a node that is a directory
abbrev pub TakesAt : (ℕ → Option Record) → Path → Node → Node → Tree → Result (Unit {0}) TreeFault → Type 0
TakesAt records path old new t (Ok done) = IsTaken records path old new t
TakesAt records path old new t (Err fault) = IsKept (NodeIs records) records old new t fault

abbrev pub RemovesFrom : (ℕ → Option Record) → Path → Node → Node → Tree → Result Bool TreeFault → Type 0
RemovesFrom records path old new t (Ok true) = IsFalse (is_empty (subtree t path)) × IsTaken records path old new t
RemovesFrom records path old new t (Ok false) = IsTrue (is_empty (subtree t path)) × IsSame (IsDirectory records) records old new t
RemovesFrom records path old new t (Err fault) = IsKept (IsDirectory records) records old new t fault

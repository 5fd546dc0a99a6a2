-- What a merge of three trees answers.
--     IsGiven rule o a b p bytes      contents that the rule of a path gave, which each side had changed in its own way
--     GivesShort, GivesLong rule o a b      none of these are too long, or some are
--     whole_view l r side      that side, with the least number of both
--     MergedView b l r t v      this is the view of their merge t: a side, where the root is one side's, else the left one behind all edits
--     IsMerge records rule b l r tree      the tree is their merge
--     MergesTrees records rule b l r result      their merge; its least conflict; or a limit that it passes, that of contents before that of entries
--     IsEditedTo, EditsTree, PutsPlan      the same of the parts of it
--     three_fault fault      a fault of a tree.      counted_three fault      it is the ground's.      IsMergeCause      what it says of the records that the space reads
use Rattle.std.specs.Prelude.{◌≡◌, ◌<◌, ◌≤◌, ℕ, Bool, false, IsFalse, IsTrue, List, [], length, take, Option, Some, None, Result, Ok, Err}
use Rattle.ip_ground.specs.Counts.{Counted, as_nothing}
use Rattle.ip_base.specs.declared.limit.Limit.TheVariants.{Contents, Entries}
use Rattle.ip_ground.specs.Told.{Told}
use Rattle.ip_space.specs.Faults.{counted_fetch}
use Rattle.ip_space.specs.SpaceView.{SpaceView}
use Rattle.ip_spec.specs.Map.{get}
use Rattle.ip_spec.specs.Merge.{Merges, Rule, conflict_at, merged, same_value}
use Rattle.ip_spec.specs.declared.merge.Merged.TheVariants.{Keep}
use Rattle.ip_spec.specs.Path.{Bytes, Path}
use Rattle.ip_spec.specs.Step.{contents_limit, entries_limit}
use Rattle.ip_spec.specs.Tree.{Tree, widest}
use Rattle.ip_spec.specs.View.{View, least}
use Rattle.ip_spec.specs.declared.record.Record.{Record}
use Rattle.ip_tree.specs.Reads.{IsCause, IsFree}
use Rattle.ip_tree.specs.TreeView.{IsView}
use Rattle.ip_tree.specs.declared.tree.Tree as code
use Rattle.ip_tree.specs.declared.tree.TreeFault.{TreeFault}
use Rattle.ip_tree.specs.declared.tree.TreeFault.TheVariants as fault
use Rattle.ip_three.specs.Merging.{AreEdits, Coming, Side, of_left, of_right, directory_side, edited_view, map_of, merged_view, more}
use Rattle.ip_three.specs.Applying.{as_edits}
use Rattle.ip_three.specs.Clashes.{lesser}
use Rattle.ip_three.specs.declared.plan.Plan as plan
use Rattle.ip_three.specs.declared.merge.ThreeFault.{ThreeFault}
use Rattle.ip_three.specs.declared.merge.ThreeFault.TheVariants.{Conflict, Limit, Fetch, Memory}

-- ---- what rules gave

module _ (rule : Rule) (o a b : Tree) where
  abbrev pub IsGiven : Path → Bytes → Type 0
  IsGiven p bytes = (same_value (get a p) (get b p) ≡ false) × (same_value (get a p) (get o p) ≡ false) × (same_value (get b p) (get o p) ≡ false) × rule p (get o p) (get a p) (get b p) (Keep (Some bytes))

  abbrev pub GivesShort : Type 0
  GivesShort = (p : Path) (bytes : Bytes) → IsGiven p bytes → length bytes ≤ contents_limit

  abbrev pub GivesLong : Type 0
  GivesLong = (p : Path) × (bytes : Bytes) × IsGiven p bytes × (contents_limit < length bytes)

-- ---- views

abbrev pub view_of : View → View → Side → View
view_of l r of_left = l
view_of l r of_right = r

abbrev pub whole_view : View → View → Side → View
whole_view l r side = record (view_of l r side) { oldest = least l.oldest r.oldest }

pub data MergedView (b l r : View) (t : Tree) : View → Type 0 where
  whole : (side : Side) → directory_side b l r [] ≡ Some side → t ≡ map_of l r side → MergedView b l r t (whole_view l r side)
  edited : (gone : List Path) (come : List (Path × Coming)) → directory_side b l r [] ≡ None → AreEdits b l r t gone come → MergedView b l r t (merged_view l r t gone come)

-- ---- answers

abbrev pub IsMergeFault : Rule → View → View → View → ThreeFault → Type 0
IsMergeFault rule b l r (Conflict p) = Merges rule b.map l.map r.map (conflict_at p)
IsMergeFault rule b l r (Limit Contents) = (t : Tree) × Merges rule b.map l.map r.map (merged t) × GivesLong rule b.map l.map r.map
IsMergeFault rule b l r (Limit Entries) = (t : Tree) × Merges rule b.map l.map r.map (merged t) × GivesShort rule b.map l.map r.map × (entries_limit < widest t)
IsMergeFault rule b l r (Limit other) = ⊥
IsMergeFault rule b l r (Fetch f) = IsFree (fault.Fetch f)
IsMergeFault rule b l r Memory = Unit {0}

pub record IsMerge (records : ℕ → Option Record) (rule : Rule) (b l r : View) (tree : code.Tree) : Type 0 where
  pub map : Tree
  pub merges : Merges rule b.map l.map r.map (merged map)
  pub short : GivesShort rule b.map l.map r.map
  pub view : View
  pub made : MergedView b l r map view
  pub is : IsView records tree view

abbrev pub MergesTrees : (ℕ → Option Record) → Rule → View → View → View → Result code.Tree ThreeFault → Type 0
MergesTrees records rule b l r (Ok tree) = IsMerge records rule b l r tree
MergesTrees records rule b l r (Err f) = IsMergeFault rule b l r f

-- ---- on the way there

-- the left tree became the merge, but for the least number
pub record IsEditedTo (records : ℕ → Option Record) (rule : Rule) (b l r : View) (tree : code.Tree) : Type 0 where
  pub map : Tree
  pub merges : Merges rule b.map l.map r.map (merged map)
  pub short : GivesShort rule b.map l.map r.map
  pub gone : List Path
  pub come : List (Path × Coming)
  pub edits : AreEdits b l r map gone come
  pub is : IsView records tree (edited_view l r map gone come)

abbrev pub EditsTree : (ℕ → Option Record) → Rule → View → View → View → code.Tree → Result (Unit {0}) ThreeFault → Type 0
EditsTree records rule b l r new (Ok done) = IsEditedTo records rule b l r new
EditsTree records rule b l r new (Err f) = IsMergeFault rule b l r f

-- what becomes of a plan, where the tree is this view behind all that goes
module _ (records : ℕ → Option Record) (v r : View) (p : plan.Plan) (clash : Option Path) (new : code.Tree) where
  abbrev pub PutsPlan : Result (Unit {0}) ThreeFault → Type 0
  PutsPlan (Ok done) = (lesser p.conflict clash ≡ None) × IsFalse p.is_long × IsView records new (more r v (as_edits p.come.items))
  PutsPlan (Err (Conflict c)) = lesser p.conflict clash ≡ Some c
  PutsPlan (Err (Limit Contents)) = (lesser p.conflict clash ≡ None) × IsTrue p.is_long
  PutsPlan (Err (Limit Entries)) = (lesser p.conflict clash ≡ None) × IsFalse p.is_long × ((n : ℕ) × (entries_limit < widest (more r v (take n (as_edits p.come.items))).map))
  PutsPlan (Err (Limit other)) = ⊥
  PutsPlan (Err (Fetch f)) = IsFree (fault.Fetch f)
  PutsPlan (Err Memory) = Unit {0}

-- ---- faults

abbrev pub three_fault : TreeFault → ThreeFault
three_fault (fault.Limit l) = Limit l
three_fault (fault.Fetch f) = Fetch f
three_fault fault.Memory = Memory

abbrev pub counted_three : ThreeFault → Counted
counted_three (Conflict p) = as_nothing
counted_three (Limit l) = as_nothing
counted_three (Fetch f) = counted_fetch f
counted_three Memory = as_nothing

abbrev pub IsMergeCause : Bool → Told → SpaceView → ThreeFault → Type 0
IsMergeCause tells told space (Conflict p) = Unit {0}
IsMergeCause tells told space (Limit l) = Unit {0}
IsMergeCause tells told space (Fetch f) = IsCause tells told space (fault.Fetch f)
IsMergeCause tells told space Memory = Unit {0}

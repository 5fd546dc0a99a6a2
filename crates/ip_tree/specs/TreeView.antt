-- A lazy tree as its users see it.
--     IsView records tree v      over these records, the tree is this view: its map, the least number that it took
--         from, and the parts that records are known to spell, with their offsets; below such a part nothing is new
--     stored_view records n at map      the view of a tree that is read from the store
--     Sets, Removes, Grafts      what the edits do
--     IsSetFault, IsGraftFault      when a limit is answered
use Rattle.std.specs.Prelude.{◌≡◌, ℕ, ◌+◌, ◌<◌, ◌≤◌, Bool, not, length, Option, Some, IsTrue, IsFalse, Result, Ok, Err, if◌then◌else◌}
use Rattle.ip_base.specs.declared.limit.Limit.TheVariants.{Contents, Depth, Entries}
use Rattle.ip_spec.specs.Path.{Bytes, Path}
use Rattle.ip_spec.specs.declared.record.Record.{Record}
use Rattle.ip_spec.specs.Step.{contents_limit, entries_limit, steps_limit}
use Rattle.ip_spec.specs.Tree.{Tree, IsTree, height, widest, subtree, is_empty, put, graft}
use Rattle.ip_spec.specs.View.{View, Part, KnowsBelow, put_view, remove_view, graft_view}
use Rattle.ip_spec.specs.StoredParts.{stored_part}
use Rattle.ip_tree.specs.Meaning.{RootIs}
use Rattle.ip_tree.specs.Known.{known_of}
use Rattle.ip_tree.specs.Reads.{IsFree}
use Rattle.ip_tree.specs.Shown.{shown_root}
use Rattle.ip_tree.specs.declared.tree.Tree as code
use Rattle.ip_tree.specs.declared.tree.TreeFault.{TreeFault}
use Rattle.ip_tree.specs.declared.tree.TreeFault.TheVariants.{Limit}

pub record IsView (records : ℕ → Option Record) (tree : code.Tree) (v : View) : Type 0 where
  pub root : RootIs records (shown_root tree.root) v.map
  pub lawful : IsTree v.map
  pub narrow : widest v.map ≤ entries_limit
  pub oldest : v.oldest ≡ tree.oldest
  pub known : (part : Part) → v.known part ≡ known_of records (shown_root tree.root) part
  pub below : KnowsBelow v

abbrev pub stored_view : (ℕ → Option Record) → ℕ → ℕ → Tree → View
stored_view records n at map = record { map = map; oldest = Some n; known = λ part. stored_part records at part.path part.indexes }

-- ---- setting

-- contents that are too long come before a directory that would have too many entries
abbrev pub IsSetFault : Tree → Path → Bytes → TreeFault → Type 0
IsSetFault t path bytes (Limit Contents) = contents_limit < length bytes
IsSetFault t path bytes (Limit Entries) = (length bytes ≤ contents_limit) × (entries_limit < widest (put t path bytes))
IsSetFault t path bytes fault = IsFree fault

-- the contents stand at the path, and no limit was passed
pub record IsSet (records : ℕ → Option Record) (path : Path) (bytes : Bytes) (new : code.Tree) (v : View) : Type 0 where
  pub view : IsView records new (put_view v path bytes)
  pub short : length bytes ≤ contents_limit
  pub narrow : widest (put v.map path bytes) ≤ entries_limit

-- nothing changed
pub record IsNotSet (records : ℕ → Option Record) (path : Path) (bytes : Bytes) (new : code.Tree) (v : View) (fault : TreeFault) : Type 0 where
  pub view : IsView records new v
  pub cause : IsSetFault v.map path bytes fault

abbrev pub Sets : (ℕ → Option Record) → Path → Bytes → code.Tree → View → Result (Unit {0}) TreeFault → Type 0
Sets records path bytes new v (Ok done) = IsSet records path bytes new v
Sets records path bytes new v (Err fault) = IsNotSet records path bytes new v fault

-- ---- removing

-- true exactly where something stands at the path or under it, which is gone then
pub record IsRemoved (records : ℕ → Option Record) (path : Path) (new : code.Tree) (v : View) (answer : Bool) : Type 0 where
  pub found : answer ≡ not (is_empty (subtree v.map path))
  pub view : IsView records new (if answer then remove_view v path else v)

pub record IsNotRemoved (records : ℕ → Option Record) (new : code.Tree) (v : View) (fault : TreeFault) : Type 0 where
  pub view : IsView records new v
  pub cause : IsFree fault

abbrev pub Removes : (ℕ → Option Record) → Path → code.Tree → View → Result Bool TreeFault → Type 0
Removes records path new v (Ok found) = IsRemoved records path new v found
Removes records path new v (Err fault) = IsNotRemoved records new v fault

-- ---- grafting

-- limits come only where something is grafted, and a path that is too long before a directory that would have too many entries
abbrev pub IsGraftFault : Tree → Tree → Path → Path → TreeFault → Type 0
IsGraftFault t source from to (Limit Depth) = IsFalse (is_empty (subtree source from)) × (steps_limit < length to + height (subtree source from))
IsGraftFault t source from to (Limit Entries) =
    IsFalse (is_empty (subtree source from)) × (length to + height (subtree source from) ≤ steps_limit) × (entries_limit < widest (graft t source from to))
IsGraftFault t source from to fault = IsFree fault

-- true exactly where something stands in the source at the path or under it, which stands at the other path then
pub record IsGrafted (records : ℕ → Option Record) (from to : Path) (new : code.Tree) (v source : View) (answer : Bool) : Type 0 where
  pub found : answer ≡ not (is_empty (subtree source.map from))
  pub view : IsView records new (if answer then graft_view v source from to else v)
  pub shallow : IsTrue answer → length to + height (subtree source.map from) ≤ steps_limit
  pub narrow : IsTrue answer → widest (graft v.map source.map from to) ≤ entries_limit

pub record IsNotGrafted (records : ℕ → Option Record) (from to : Path) (new : code.Tree) (v source : View) (fault : TreeFault) : Type 0 where
  pub view : IsView records new v
  pub cause : IsGraftFault v.map source.map from to fault

abbrev pub Grafts : (ℕ → Option Record) → Path → Path → code.Tree → View → View → Result Bool TreeFault → Type 0
Grafts records from to new v source (Ok found) = IsGrafted records from to new v source found
Grafts records from to new v source (Err fault) = IsNotGrafted records from to new v source fault

-- Making the edits of a merge.
--     as_coming coming, as_edit edit, as_edits edits      the code's edits.      node_of coming      what comes, as a node
--     IsFoundAt records r path coming      contents are not too long, and what is taken stands there in the right tree.      IsFound      of an edit, whose path is one
--     Puts records w new result      with one edit the tree is this view, or a directory of it would have too many entries
--     PutsAll records r v come new result      the same of all edits, where one directory would behind some front of them
--     CanApply records b l r t gone come      these are the edits by which the left tree becomes the merge
--     Applies records l r t gone come new result      it became that, or a directory of the merge has too many entries
use Rattle.std.specs.Prelude.{◌≡◌, ℕ, ◌<◌, ◌≤◌, List, [], take, map, length, All, Option, Some, Result, Ok, Err}
use Rattle.ip_base.specs.declared.limit.Limit.TheVariants.{Entries}
use Rattle.ip_spec.specs.Path.{Path, IsPath}
use Rattle.ip_spec.specs.Step.{contents_limit, entries_limit}
use Rattle.ip_spec.specs.Tree.{Tree, IsTree, widest}
use Rattle.ip_spec.specs.View.{View}
use Rattle.ip_spec.specs.declared.record.Record.{Record}
use Rattle.ip_three.specs.Merging.{AreEdits, Coming, Follows, directory_side, edited_view, more, of_right, put, taken}
use Rattle.ip_three.specs.declared.apply.Coming as code
use Rattle.ip_three.specs.declared.apply.Coming.TheVariants.{Put, Taken}
use Rattle.ip_three.specs.declared.apply.Edit.{Edit}
use Rattle.ip_tree.specs.Finding.{IsPartOf}
use Rattle.ip_tree.specs.Node.{Node, contents}
use Rattle.ip_tree.specs.Reads.{IsFree}
use Rattle.ip_tree.specs.Shown.{shown}
use Rattle.ip_tree.specs.TreeView.{IsView}
use Rattle.ip_tree.specs.declared.tree.Tree as tree
use Rattle.ip_tree.specs.declared.tree.TreeFault.{TreeFault}
use Rattle.ip_tree.specs.declared.tree.TreeFault.TheVariants.{Limit}

abbrev pub as_coming : code.Coming → Coming
as_coming (Put bytes) = put bytes
as_coming (Taken node) = taken

abbrev pub as_edit : Edit → Path × Coming
as_edit e = (e.path, as_coming e.coming)

abbrev pub as_edits : List Edit → List (Path × Coming)
as_edits es = map as_edit es

-- ---- what comes

abbrev pub node_of : code.Coming → Node
node_of (Put bytes) = contents bytes
node_of (Taken node) = shown node

abbrev pub IsFoundAt : (ℕ → Option Record) → View → Path → code.Coming → Type 0
IsFoundAt records r path (Put bytes) = length bytes ≤ contents_limit
IsFoundAt records r path (Taken node) = IsPartOf records r path (shown node)

pub record IsFound (records : ℕ → Option Record) (r : View) (e : Edit) : Type 0 where
  pub path_is : IsPath e.path
  pub found : IsFoundAt records r e.path e.coming

-- ---- edits

-- where the map has too wide a directory
abbrev pub IsPutFault : Tree → TreeFault → Type 0
IsPutFault t (Limit Entries) = entries_limit < widest t
IsPutFault t fault = IsFree fault

abbrev pub Puts : (ℕ → Option Record) → View → tree.Tree → Result (Unit {0}) TreeFault → Type 0
Puts records w new (Ok done) = IsView records new w
Puts records w new (Err fault) = IsPutFault w.map fault

abbrev pub PutsAll : (ℕ → Option Record) → View → View → List (Path × Coming) → tree.Tree → Result (Unit {0}) TreeFault → Type 0
PutsAll records r v come new (Ok done) = IsView records new (more r v come)
PutsAll records r v come new (Err fault) = (n : ℕ) × IsPutFault (more r v (take n come)).map fault

-- ---- all of them

pub record CanApply (records : ℕ → Option Record) (b l r : View) (t : Tree) (gone : List Path) (come : List Edit) : Type 0 where
  -- the merge is a tree
  pub lawful : IsTree t
  pub follows : Follows b l r t
  -- the whole is not the right tree's
  pub whole : directory_side b l r [] ≡ Some of_right → ⊥
  pub edits : AreEdits b l r t gone (as_edits come)
  pub found : All (λ e. IsFoundAt records r e.path e.coming) come

abbrev pub Applies : (ℕ → Option Record) → View → View → Tree → List Path → List Edit → tree.Tree → Result (Unit {0}) TreeFault → Type 0
Applies records l r t gone come new (Ok done) = IsView records new (edited_view l r t gone (as_edits come))
Applies records l r t gone come new (Err fault) = IsPutFault t fault

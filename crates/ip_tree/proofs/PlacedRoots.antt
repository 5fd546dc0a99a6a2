-- The root of a tree in which a node was placed, by its view.
--     placed_in      a node was placed below the root, or was not
use Rattle.std.proofs.Common.{◌≡◌, ℕ, sym, ◌∙◌, Option}
use Rattle.std.specs.Prelude.{Result, Ok, Err}
use Rattle.ip_spec.specs.Path.{Path}
use Rattle.ip_spec.specs.Tree.{Tree, place}
use Rattle.ip_spec.specs.View.{View}
use Rattle.ip_spec.specs.declared.record.Record.{Record}
use Rattle.ip_shape.specs.declared.dir.Dir.{Dir}
use Rattle.ip_tree.specs.Edits.{IsDirectory}
use Rattle.ip_tree.specs.Known.{knows}
use Rattle.ip_tree.specs.Node as told
use Rattle.ip_tree.specs.Placing.{Places, PlacesTree}
use Rattle.ip_tree.specs.Shown.{shown_directory}
use Rattle.ip_tree.specs.TreeView.{IsView}
use Rattle.ip_tree.specs.declared.node.Node.{Node}
use Rattle.ip_tree.specs.declared.node.Stored.{Stored}
use Rattle.ip_tree.specs.declared.tree.Root.TheVariants.{Loaded}
use Rattle.ip_tree.specs.declared.tree.Tree as code
use Rattle.ip_tree.specs.declared.tree.TreeFault.{TreeFault}
use Rattle.ip_tree.proofs.PlacedParts.{after_same}
use Rattle.ip_tree.proofs.Roots.{same_view, view_knows}

module _ (records : ℕ → Option Record) (tree : code.Tree) (v : View) (is : IsView records tree v) (d : Dir Node Stored) (same : tree.root ≡ Loaded d) where
  pub placed_in : (path : Path) (n : told.Node) (sub : Tree) (new : Dir Node Stored) (result : Result (Unit {0}) TreeFault) → Places (IsDirectory records) records path n sub (shown_directory d) (shown_directory new) v.map result
      → PlacesTree records path n sub (record { root = Loaded new; oldest = tree.oldest }) v result
  placed_in path n sub new (Ok done) put = record {
    root = put.means;
    oldest = is.oldest;
    known = λ part. put.known part ∙ after_same records n path (knows records (shown_directory d)) v.known (place v.map path sub) part (sym (view_knows records tree v is d same part));
    room = put.room;
  }
  placed_in path n sub new (Err fault) not = record { view = same_view records tree v is d new same not.same; cause = not.cause }

-- Removing from a tree, by its view.
--     removes_view      what is answered of the root directory, as of the tree
use Rattle.std.proofs.Common.{◌≡◌, ℕ, sym, ap, ◌∙◌, Option, None, true, false}
use Rattle.std.specs.Prelude.{◌&&◌, Bool, Result, Ok, Err, not, if◌then◌else◌}
use Rattle.ip_spec.specs.Path.{Path}
use Rattle.ip_spec.specs.Tree.{remove}
use Rattle.ip_spec.specs.View.{View, is_part, remove_view, touches}
use Rattle.ip_spec.specs.declared.record.Record.{Record}
use Rattle.ip_spec.proofs.KnownBelow.{remove_below}
use Rattle.ip_shape.specs.declared.dir.Dir.{Dir}
use Rattle.ip_tree.specs.Known.{known_of}
use Rattle.ip_tree.specs.Removal.{IsTaken, RemovesFrom}
use Rattle.ip_tree.specs.Shown.{shown_directory, shown_root}
use Rattle.ip_tree.specs.TreeView.{IsView, Removes}
use Rattle.ip_tree.specs.declared.node.Node.{Node}
use Rattle.ip_tree.specs.declared.node.Stored.{Stored}
use Rattle.ip_tree.specs.declared.tree.Root.{Root}
use Rattle.ip_tree.specs.declared.tree.Root.TheVariants.{Loaded}
use Rattle.ip_tree.specs.declared.tree.Tree as code
use Rattle.ip_tree.specs.declared.tree.TreeFault.{TreeFault}
use Rattle.ip_tree.proofs.RemovedTrees.{lawful_remove, remove_narrow}
use Rattle.ip_tree.proofs.Roots.{same_view}

module _ (records : ℕ → Option Record) (tree : code.Tree) (v : View) (d : Dir Node Stored) (is : IsView records tree v) (loaded : tree.root ≡ Loaded d) where
  abbrev with_root : Dir Node Stored → code.Tree
  with_root new = record { root = Loaded new; oldest = tree.oldest }

  taken_view : (path : Path) (new : Dir Node Stored) → IsTaken records path (shown_directory d) (shown_directory new) v.map → IsView records (with_root new) (remove_view v path)
  unfolding remove_view
  taken_view path new taken = record {
    root = taken.means;
    lawful = lawful_remove v.map path is.lawful;
    narrow = remove_narrow v.map path is.narrow;
    oldest = is.oldest;
    known = λ part. ap (λ k. if is_part (remove v.map path) part && not (touches part path) then k else None) (is.known part ∙ ap (λ (x : Root). known_of records (shown_root x) part) loaded) ∙ sym (taken.known part);
    below = remove_below v path is.below;
  }

  pub removes_view : (path : Path) (new : Dir Node Stored) (result : Result Bool TreeFault) → RemovesFrom records path (shown_directory d) (shown_directory new) v.map result → Removes records path (with_root new) v result
  removes_view path new (Ok true) taken = record { found = sym (ap not taken.0); view = taken_view path new taken.1 }
  removes_view path new (Ok false) kept = record { found = sym (ap not kept.0); view = same_view records tree v is d new loaded kept.1 }
  removes_view path new (Err fault) kept = record { view = same_view records tree v is d new loaded kept.same; cause = kept.cause }

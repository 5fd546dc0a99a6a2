-- A directory of the code of which one more part was read: it means the same and knows the same.
--     inode_entered, leaf_entered
use Rattle.std.proofs.Common.{◌≡◌, ℕ, List, [], map, refl, sym, ap, subst, ◌∙◌, Option, Some}
use Rattle.ip_spec.specs.Path.{Step}
use Rattle.ip_spec.specs.declared.record.Record.{Record}
use Rattle.ip_spec.specs.declared.record.LeafEntry.{LeafEntry}
use Rattle.ip_spec.specs.declared.record.InodeChild.{InodeChild}
use Rattle.ip_spec.specs.Tree.{Tree, entries_of}
use Rattle.ip_shape.specs.Directory.{IsPartly, entries_from, root_of, steps_of}
use Rattle.ip_shape.specs.Loaded.{unread_in}
use Rattle.ip_shape.specs.Reading.{IsInodeRead, IsLeafRead}
use Rattle.ip_shape.specs.Shape.{AreSteps}
use Rattle.ip_shape.specs.declared.dir.Dir.{Dir}
use Rattle.ip_tree.specs.Node as told
use Rattle.ip_tree.specs.Node.{directory, nodes_of, steps_in}
use Rattle.ip_tree.specs.Meaning.{NodesAre}
use Rattle.ip_tree.specs.Known.{knows}
use Rattle.ip_tree.specs.Edits.{IsDirectory, IsSame}
use Rattle.ip_tree.specs.Shown.{entries_shown, shown, shown_directory}
use Rattle.ip_tree.specs.Reads.{children_read, leaf_read}
use Rattle.ip_tree.specs.declared.node.Node.{Node}
use Rattle.ip_tree.specs.declared.node.Stored.{Stored}
use Rattle.ip_tree.proofs.ChildNodes.{nodes_from}
use Rattle.ip_tree.proofs.InodeEntered.{inode_knows, inode_same}
use Rattle.ip_tree.proofs.LeafEntered.{leaf_knows, leaf_nodes, leaf_same}
use Rattle.ip_tree.proofs.PartlyShown.{has_steps, map_from, show, steps_nodes}
use Rattle.ip_tree.proofs.PartsPut.{read_ascends}

module _ (records : ℕ → Option Record) (d e : Dir Node Stored) (t : Tree) (is : List ℕ) (r : Stored) (means : IsDirectory records (shown_directory d) t) (found : unread_in is (root_of d) ≡ Some (r, [])) where
  pub inode_entered : (depth : ℕ) (cs : List InodeChild) → records r.reference.at ≡ Some (Record.Inode depth cs) → IsPartly e (steps_of (entries_of t).entries) d.entries.entries
      → IsInodeRead is r (children_read cs) (root_of d) (root_of e) → IsSame (IsDirectory records) records (shown_directory d) (shown_directory e) t
  inode_entered depth cs here partly read = record {
    means = record {
      directory = means.directory;
      steps = has_steps e (steps_of (entries_of t).entries) d.entries.entries (entries_of t).entries partly refl;
      parts = inode_knows records (entries_of t).entries is r depth cs (root_of d) (root_of e) means.parts found here read;
      nodes = subst (λ (l : List (Step × Node)). NodesAre records (nodes_of (map show l)) (entries_of t).entries) (sym partly.0) means.nodes;
    };
    known = λ p.
        ap (λ (l : List (Step × Node)). knows records (directory (root_of e) (nodes_of (map show l))) p) partly.0
        ∙ inode_same records (entries_of t).entries is r depth cs (root_of d) (root_of e) means.parts found here read (nodes_of (entries_shown d)) p;
  }

  pub leaf_entered : (fields : List LeafEntry) (given : List (Step × Node)) → records r.reference.at ≡ Some (Record.Leaf fields) → map show given ≡ leaf_read fields
      → IsPartly e (steps_of (entries_of t).entries) (entries_from given d.entries.entries) → IsLeafRead is r (root_of d) (root_of e) → IsSame (IsDirectory records) records (shown_directory d) (shown_directory e) t
  leaf_entered fields given here given_is partly read =
      let es = (entries_of t).entries in
      let ys = entries_shown d in
      let before = steps_in (nodes_of ys) in
      let now : entries_shown e ≡ entries_from (leaf_read fields) ys = ap (λ (l : List (Step × Node)). map show l) partly.0 ∙ map_from shown given d.entries.entries ∙ ap (λ (l : List told.Entry). entries_from l ys) given_is in record {
        means = record {
          directory = means.directory;
          steps = has_steps e (steps_of es) (entries_from given d.entries.entries) es partly refl;
          parts = leaf_knows records es (entries_of t).sorted is r fields (root_of d) (root_of e) before means.steps means.parts found here read;
          nodes = subst (λ (l : List told.Entry). NodesAre records (nodes_of l) es) (sym now)
              (nodes_from records (leaf_read fields) ys es (subst AreSteps (steps_nodes ys) (read_ascends (root_of d) before es means.steps))
              (leaf_nodes records es (entries_of t).sorted is r fields (root_of d) (root_of e) before means.steps means.parts found here) means.nodes);
        };
        known = λ p.
            ap (λ (l : List told.Entry). knows records (directory (root_of e) (nodes_of l)) p) now
            ∙ leaf_same records es (entries_of t).sorted is r fields (root_of d) (root_of e) before means.steps means.parts found here read ys (steps_nodes ys) p;
      }

-- Reading the parts on the way to a path: the directory, or the node, still means the same and knows the same.
--     reached_here, reached_below      a directory of which the way to a step was read, and the child there was taken out and put back
--     reached_through      a node that was opened, and is a directory
use Rattle.std.proofs.Common.{◌≡◌, ℕ, false, refl, sym, subst, Option}
use Rattle.ip_spec.specs.Path.{Step}
use Rattle.ip_spec.specs.declared.record.Record.{Record}
use Rattle.ip_spec.specs.Tree.{Tree, entries_of}
use Rattle.ip_shape.specs.Directory.{steps_of}
use Rattle.ip_shape.specs.declared.dir.Dir.{Dir}
use Rattle.ip_tree.specs.Edits.{IsDirectory, IsOpened, IsSame}
use Rattle.ip_tree.specs.Meaning.{NodeIs}
use Rattle.ip_tree.specs.Node as told
use Rattle.ip_tree.specs.Shown.{shown, shown_directory}
use Rattle.ip_tree.specs.declared.node.Node.{Node}
use Rattle.ip_tree.specs.declared.node.Node.TheVariants as variant
use Rattle.ip_tree.specs.declared.node.Stored.{Stored}
use Rattle.ip_tree.proofs.Nodes.{directory_shown}
use Rattle.ip_tree.proofs.RemovedDirectories.{IsBack, same_under}
use Rattle.ip_tree.proofs.Directories.{IsChild, same_node, same_on}

module _ (records : ℕ → Option Record) where
  pub itself : (Means : told.Node → Tree → Type 0) (n : told.Node) (t : Tree) → Means n t → IsSame Means records n n t
  itself Means n t is = record { means = is; known = λ part. refl }

  module _ (first : told.Node) (d e : Dir Node Stored) (t : Tree) (s : Step) (opened : IsOpened records s first (shown_directory d) t) where
    -- no such step
    pub reached_here : e ≡ d → IsSame (IsDirectory records) records first (shown_directory e) t
    reached_here same = subst (λ (x : Dir Node Stored). IsSame (IsDirectory records) records first (shown_directory x) t) (sym same) opened.same

    pub reached_below : (n m : Node) (c : IsChild records d t s n) → IsBack d e (steps_of (entries_of t).entries) s m false → IsSame (NodeIs records) records (shown n) (shown m) c.sub → IsSame (IsDirectory records) records first (shown_directory e) t
    reached_below n m c back kept = same_on (IsDirectory records) records first (shown_directory d) (shown_directory e) t opened.same (same_under records d e t s n m opened.same.means c back kept)

  module _ (old : told.Node) (d e : Dir Node Stored) (t : Tree) (same : IsSame (NodeIs records) records old (shown_directory d) t) where
    pub reached_through : IsSame (IsDirectory records) records (shown_directory d) (shown_directory e) t → IsSame (NodeIs records) records old (shown (variant.Directory e)) t
    reached_through kept =
        subst (λ (n : told.Node). IsSame (NodeIs records) records old n t) (sym (directory_shown e))
        (same_on (NodeIs records) records old (shown_directory d) (shown_directory e) t same (same_node records (shown_directory d) (shown_directory e) t same.means.0.some kept))

-- A node's layer as contracts see it.
use Rattle.std.proofs.Common.{◌≡◌, sym, ap, ◌∙◌}
use Rattle.ip_shape.specs.declared.dir.Dir.{Dir}
use Rattle.ip_spec.specs.Path.{Bytes}
use Rattle.ip_tree.specs.Node as view
use Rattle.ip_tree.specs.Shown.{shown, shown_directory}
use Rattle.ip_tree.specs.declared.node.Stored.{Stored}
use Rattle.ip_tree.specs.declared.node.Node.{Node, out-Node}
use Rattle.ip_tree.specs.declared.node.Node.TheVariants as variant
use Rattle.ip_tree.specs.declared.node.Node.TheOpen as layer
use Rattle.ip_tree.specs.declared.node.Node.TheFolds.{fold_out-Node, fold-roll-Node}

pub stored_shown : (x : Stored) → shown (variant.Stored x) ≡ view.stored x
unfolding out-Node denote.Hole.Carrier.out
stored_shown x = fold_out-Node _ _ (variant.Stored x)

pub contents_shown : (bytes : Bytes) → shown (variant.Contents bytes) ≡ view.contents bytes
unfolding out-Node denote.Hole.Carrier.out
contents_shown bytes = fold_out-Node _ _ (variant.Contents bytes)

pub directory_shown : (d : Dir Node Stored) → shown (variant.Directory d) ≡ shown_directory d
directory_shown d = ap shown (sym (variant.rolls-Directory d)) ∙ fold-roll-Node _ _ (layer.Directory d)

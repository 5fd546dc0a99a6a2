-- How high the parts of a directory are, as their records tell it: the greatest number of steps of what they lead to.
--     raised h      a height one step further up, where 255 stands for all above
--     leaf_height es, inode_height cs      of a leaf, by its entries, and of an inode, by its children
use Rattle.std.specs.Prelude.{ℕ, ◌+◌, max, min, List, [], ◌∷◌}
use Rattle.ip_spec.specs.declared.record.InodeChild.{InodeChild}
use Rattle.ip_spec.specs.declared.record.LeafEntry.{LeafEntry}

abbrev pub raised : ℕ → ℕ
raised h = min 255 (h + 1)

abbrev pub leaf_height : List LeafEntry → ℕ
leaf_height [] = 0
leaf_height (e ∷ es) = max (raised e.height) (leaf_height es)

abbrev pub inode_height : List InodeChild → ℕ
inode_height [] = 0
inode_height (c ∷ cs) = max c.height (inode_height cs)

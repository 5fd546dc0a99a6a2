-- The names of the parts of a directory, by what their records tell.
--     leaf_name es, inode_name depth cs      of a leaf, by its entries, and of an inode, by its depth and its children
use Rattle.std.specs.Prelude.{ℕ, List, map}
use Rattle.sha2.specs.Sha256.{sha256}
use Rattle.ip_spec.specs.Record.{Hash, hashed_inode, hashed_leaf}
use Rattle.ip_spec.specs.declared.record.InodeChild.{InodeChild}
use Rattle.ip_spec.specs.declared.record.LeafEntry.{LeafEntry}

abbrev pub leaf_name : List LeafEntry → Hash
leaf_name entries = sha256 (hashed_leaf (map (λ e. (e.step, (e.kind, e.name))) entries))

abbrev pub inode_name : ℕ → List InodeChild → Hash
inode_name depth children = sha256 (hashed_inode depth (map (λ c. (c.index, c.count, c.name)) children))

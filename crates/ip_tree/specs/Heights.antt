-- How many steps there are below nodes, as the records of what was not read tell it. 255 stands for more.
--     unread_height root      the greatest height of the parts of a directory that were not read
--     node_height n      below a node.      highest ns most      below these entries, or more
--     content_height content      of a record of a directory
use Rattle.std.specs.Prelude.{ℕ, max, fold}
use Rattle.ip_shape.specs.Heights.{inode_height, leaf_height, raised}
use Rattle.ip_shape.specs.declared.part.Part.{Part}
use Rattle.ip_shape.specs.declared.part.Part.TheOpen.{Part-F, Leaf, Inode, Unread}
use Rattle.ip_shape.specs.declared.part.Part.TheFolds.{fold-Part}
use Rattle.ip_tree.specs.Node.{Node, Nodes, stored, contents, directory, none, first}
use Rattle.ip_tree.specs.declared.fetch.Content.{Content}
use Rattle.ip_tree.specs.declared.fetch.Content.TheVariants as content
use Rattle.ip_tree.specs.declared.node.Stored.{Stored}

abbrev pub unread_step : Part-F Stored ℕ → ℕ
unread_step (Leaf known steps) = 0
unread_step (Inode known count children) = fold max 0 children.items
unread_step (Unread x count) = x.height

abbrev pub unread_height : Part Stored → ℕ
unread_height = fold-Part Stored ℕ unread_step

abbrev mutual
  pub node_height : Node → ℕ
  node_height (stored x) = x.height
  node_height (contents bytes) = 0
  node_height (directory root ns) = highest ns (unread_height root)

  pub highest : Nodes → ℕ → ℕ
  highest none most = most
  highest (first s n ns) most = highest ns (max most (raised (node_height n)))

-- what a record of a directory tells of it
abbrev pub content_height : Content → ℕ
content_height (content.Leaf entries) = leaf_height entries
content_height (content.Inode depth children) = inode_height children

use Rattle.ip_differ.proofs.Parting.{held_unread, inode_read, leaf_read}
use Rattle.ip_differ.proofs.piece.part_piece.Goals as goal

pub returns-in-Unread : goal.returns-in-Unread
returns-in-Unread c records a es is low held = held_unread records a es is c.args.dir.now c.args.part.now c.in-Unread.record c.in-Unread.count low held c.in-Unread.is

pub returns-in-Leaf : goal.returns-in-Leaf
returns-in-Leaf c records a es is low held = record { held = held; read = leaf_read c.args.part.now c.in-Leaf.known c.in-Leaf.steps c.in-Leaf.is }

pub returns-in-Inode : goal.returns-in-Inode
returns-in-Inode c records a es is low held = record { held = held; read = inode_read c.args.part.now c.in-Inode.known c.in-Inode.count c.in-Inode.children c.in-Inode.is }

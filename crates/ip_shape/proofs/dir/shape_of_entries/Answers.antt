use Rattle.ip_shape.proofs.ByEntries.{leaf_by, inode_by, steps_part}
use Rattle.ip_shape.proofs.dir.shape_of_entries.Goals as goal

pub returns-clause-leaf : goal.returns-clause-leaf
returns-clause-leaf g c depth entries part le leaf is = leaf_by depth entries part le leaf is

pub returns-clause-inode : goal.returns-clause-inode
returns-clause-inode g c depth entries part le inode is = inode_by depth entries part le inode is

pub returns-clause-under : goal.returns-clause-under
returns-clause-under g c depth indexes entries = steps_part depth indexes entries

use Rattle.std.proofs.Common.{List, ap, ◌∙◌, None, cond}
use Rattle.std.specs.FinMap.Entries.{find}
use Rattle.std.specs.Prelude.{option_map}
use Rattle.ip_shape.specs.Directory.{entries_in}
use Rattle.ip_shape.specs.Shape.{has}
use Rattle.ip_shape.proofs.Ways.{on_ok}
use Rattle.ip_spec.specs.Path.{Step, bytes_cmp}
use Rattle.ip_differ.specs.Pieces.{read_entry}
use Rattle.ip_differ.specs.Sides.{with_side}
use Rattle.ip_differ.proofs.Leaves.{no_inode, no_unread, read_leaf}
use Rattle.ip_differ.proofs.put.put_part.Goals as goal

pub returns-in-Leaf : goal.returns-in-Leaf
returns-in-Leaf c records a es is low leaf read =
    let d = c.args.dir.now in
    on_ok c.put_steps.result _ _
    (λ puts s. puts s
    ∙ ap (λ o. with_side c.args.side o (find bytes_cmp s c.args.found.now.entries))
    (ap (λ (l : List Step). cond (has s l) (option_map read_entry (find bytes_cmp s (entries_in d))) None) c.deref.ensures.value
    ∙ read_leaf records a es is s d c.args.part.now read c.in-Leaf.known c.in-Leaf.steps c.in-Leaf.is low)) c.put_steps.ensures

pub returns-in-Inode : goal.returns-in-Inode
returns-in-Inode c records a es is low leaf read = no_inode c.args.part.now c.in-Inode.known c.in-Inode.count c.in-Inode.children c.in-Inode.is leaf

pub returns-in-Unread : goal.returns-in-Unread
returns-in-Unread c records a es is low leaf read = no_unread c.args.part.now c.in-Unread.record c.in-Unread.count c.in-Unread.is read.read

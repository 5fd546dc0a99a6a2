use Rattle.std.proofs.Common.{ℕ, List, Some, ap, sym, ◌∙◌}
use Rattle.std.specs.Prelude.{option_map}
use Rattle.ip_shape.specs.Reading.{child_in}
use Rattle.ip_spec.specs.declared.record.InodeChild.{InodeChild}
use Rattle.ip_tree.specs.Reads.{children_read, record_of}
use Rattle.ip_tree.specs.declared.fetch.Content.{Content}
use Rattle.ip_tree.specs.declared.node.Stored.{Stored}
use Rattle.ip_differ.proofs.Parting.{child_found, child_lost}
use Rattle.ip_differ.proofs.piece.fetched_child.Goals as goal

pub returns-in-Some : goal.returns-in-Some
returns-in-Some c records a es is x inode unread here =
    let cs = c.in-Inode.children in
    let at = here ∙ ap (λ (k : Content). Some (record_of k)) c.in-Inode.is in
    let found = sym c.in-Some.is ∙ c.child_at.ensures ∙ ap (λ (l : List InodeChild). option_map (λ (k : Stored × ℕ). k.0) (child_in c.args.index (children_read l))) c.as_slice.ensures in
    child_found records a es is x unread c.in-Inode.depth cs at c.args.index c.in-Some.stored found

pub returns-in-None : goal.returns-in-None
returns-in-None c records a es is x inode unread here =
    let cs = c.in-Inode.children in
    let at = here ∙ ap (λ (k : Content). Some (record_of k)) c.in-Inode.is in
    let found = sym c.in-None.is ∙ c.child_at.ensures ∙ ap (λ (l : List InodeChild). option_map (λ (k : Stored × ℕ). k.0) (child_in c.args.index (children_read l))) c.as_slice.ensures in
    child_lost records a es is x unread c.in-Inode.depth cs at c.args.index found

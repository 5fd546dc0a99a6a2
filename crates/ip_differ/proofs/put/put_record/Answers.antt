use Rattle.std.proofs.Common.{◌≡◌, Some, false, ap, subst, sym, ◌∙◌}
use Rattle.std.proofs.lemmas.Bool.{false≢true}
use Rattle.std.specs.FinMap.Entries.{find}
use Rattle.ip_shape.proofs.Ways.{on_ok}
use Rattle.ip_spec.specs.Path.{bytes_cmp}
use Rattle.ip_tree.specs.Reads.{record_of}
use Rattle.ip_tree.specs.declared.fetch.Content.{Content}
use Rattle.ip_differ.specs.Pieces.{is_inode_content}
use Rattle.ip_differ.specs.Sides.{with_side}
use Rattle.ip_differ.proofs.Leaves.{fetched_leaf}
use Rattle.ip_differ.proofs.put.put_record.Goals as goal

pub returns-in-Leaf : goal.returns-in-Leaf
returns-in-Leaf c records a es is x leaf unread here =
    let at = here ∙ ap (λ (k : Content). Some (record_of k)) c.in-Leaf.is in
    on_ok c.put_entries.result _ _
    (λ puts s. puts s ∙ ap (λ o. with_side c.args.side o (find bytes_cmp s c.args.found.now.entries)) (fetched_leaf records a es is s x c.in-Leaf.entries unread at)) c.put_entries.ensures

pub returns-in-Inode : goal.returns-in-Inode
returns-in-Inode c records a es is x leaf unread here = absurd (false≢true (sym (subst (λ (k : Content). is_inode_content k ≡ false) c.in-Inode.is leaf)))

use Rattle.std.proofs.Common.{ℕ, sym, ap, ◌∙◌}
use Rattle.std.specs.Prelude.{nat_lt}
use Rattle.std.specs.List.{list_all}
use Rattle.std.proofs.lemmas.List.Folds.{list_all-map}
use Rattle.ip_spec.specs.declared.record.LeafEntry.{LeafEntry}
use Rattle.ip_spec.specs.declared.record.InodeChild.{InodeChild}
use Rattle.ip_keep.specs.Entering.{are_below, refs_of}
use Rattle.ip_keep.proofs.Entered.{leaf_refs, inode_refs}
use Rattle.ip_keep.proofs.read.refers_below.Goals as goal

pub returns-in-Leaf : goal.returns-in-Leaf
returns-in-Leaf c =
    c.entries_below.ensures ∙ ap (list_all (λ (e : LeafEntry). nat_lt e.at c.args.at)) c.as_slice.ensures
    ∙ sym (list_all-map (λ (n : ℕ). nat_lt n c.args.at) (λ (e : LeafEntry). e.at) c.in-Leaf.entries) ∙ ap (are_below c.args.at) (leaf_refs c.in-Leaf.entries ∙ ap refs_of (sym c.in-Leaf.is))

pub returns-in-Inode : goal.returns-in-Inode
returns-in-Inode c =
    c.children_below.ensures ∙ ap (list_all (λ (e : InodeChild). nat_lt e.at c.args.at)) c.as_slice-in-Inode.ensures
    ∙ sym (list_all-map (λ (n : ℕ). nat_lt n c.args.at) (λ (e : InodeChild). e.at) c.in-Inode.children) ∙ ap (are_below c.args.at) (inode_refs c.in-Inode.depth c.in-Inode.children ∙ ap refs_of (sym c.in-Inode.is))

use Rattle.std.proofs.Common.{List, ℕ, map, subst, sym, ap, ◌∙◌, OnOk}
use Rattle.ip_spec.specs.declared.record.LeafEntry.{LeafEntry}
use Rattle.ip_spec.specs.declared.record.InodeChild.{InodeChild}
use Rattle.ip_keep.specs.Entering.{refs_of, Gains, GainsSome}
use Rattle.ip_keep.proofs.Entered.{leaf_refs, inode_refs}
use Rattle.ip_keep.proofs.enter.enter.Goals as goal

pub returns-in-Leaf-clause-all : goal.returns-in-Leaf-clause-all
returns-in-Leaf-clause-all c = subst (λ (refs : List ℕ). OnOk c.enter_entries.result (Gains c.args.waiting.now.keys c.enter_entries.new.waiting.keys refs c.args.below)) (ap (map (λ (e : LeafEntry). e.at)) c.as_slice.ensures ∙ leaf_refs c.in-Leaf.entries ∙ ap refs_of (sym c.in-Leaf.is)) c.enter_entries.ensures.all

pub returns-in-Leaf-clause-some : goal.returns-in-Leaf-clause-some
returns-in-Leaf-clause-some c = subst (λ (refs : List ℕ). GainsSome c.args.waiting.now.keys c.enter_entries.new.waiting.keys refs c.args.below) (ap (map (λ (e : LeafEntry). e.at)) c.as_slice.ensures ∙ leaf_refs c.in-Leaf.entries ∙ ap refs_of (sym c.in-Leaf.is)) c.enter_entries.ensures.some

pub returns-in-Inode-clause-all : goal.returns-in-Inode-clause-all
returns-in-Inode-clause-all c = subst (λ (refs : List ℕ). OnOk c.enter_children.result (Gains c.args.waiting.now.keys c.enter_children.new.waiting.keys refs c.args.below)) (ap (map (λ (e : InodeChild). e.at)) c.as_slice-in-Inode.ensures ∙ inode_refs c.in-Inode.depth c.in-Inode.children ∙ ap refs_of (sym c.in-Inode.is)) c.enter_children.ensures.all

pub returns-in-Inode-clause-some : goal.returns-in-Inode-clause-some
returns-in-Inode-clause-some c = subst (λ (refs : List ℕ). GainsSome c.args.waiting.now.keys c.enter_children.new.waiting.keys refs c.args.below) (ap (map (λ (e : InodeChild). e.at)) c.as_slice-in-Inode.ensures ∙ inode_refs c.in-Inode.depth c.in-Inode.children ∙ ap refs_of (sym c.in-Inode.is)) c.enter_children.ensures.some

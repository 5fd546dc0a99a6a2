use Rattle.std.proofs.Common.{◌^◌, ◌<◌, ◌∷◌, ◌++◌, length, flat_map, sym, subst, ap, ◌∙◌, Some}
use Rattle.sha2.specs.Sha256.{sha256}
use Rattle.ip_spec.specs.Record.{IsInode, FieldsFit, name_of, u32, bitmap}
use Rattle.ip_object.specs.Lists.{commit_of, hashed_entry, hashed_child}
use Rattle.ip_spec.specs.declared.record.Parent.{Parent}
use Rattle.ip_spec.specs.declared.record.Record.TheVariants as Record
use Rattle.std.specs.Prelude.{List}
use Rattle.ip_object.proofs.Hashed.{leaf_hashed, inode_hashed}
use Rattle.ip_spec.proofs.ReadingExact.{bitmap_small}
use Rattle.ip_object.proofs.name.name_of_record.Goals as goal

pub inode_name-requires-clause-small : goal.inode_name-requires-clause-small
inode_name-requires-clause-small g c =
    let fits : IsInode c.in-Inode.depth c.in-Inode.children = subst (FieldsFit g.version) c.in-Inode.is c.requires.fields in
    subst (λ cs. bitmap cs < 2 ^ 32) (sym c.as_slice-in-Inode.ensures) (bitmap_small c.in-Inode.depth c.in-Inode.children fits)

pub returns-in-Leaf : goal.returns-in-Leaf
returns-in-Leaf g c =
    ap Some (c.leaf_name.ensures ∙ ap (λ es. sha256 (2 ∷ u32 (length es) ++ flat_map hashed_entry es)) c.as_slice-in-Leaf.ensures ∙ ap sha256 (leaf_hashed c.in-Leaf.entries)) ∙ sym (ap name_of c.in-Leaf.is)

pub returns-in-Inode : goal.returns-in-Inode
returns-in-Inode g c =
    ap Some (c.inode_name.ensures ∙ ap (λ cs. sha256 (3 ∷ c.in-Inode.depth ∷ u32 (bitmap cs) ++ flat_map hashed_child cs)) c.as_slice-in-Inode.ensures ∙ ap sha256 (inode_hashed c.in-Inode.depth c.in-Inode.children)) ∙ sym (ap name_of c.in-Inode.is)

pub returns-in-Commit : goal.returns-in-Commit
returns-in-Commit g c =
    let named = c.commit_name.ensures c.in-Commit.c.number in
    let same = ap (λ (ps : List Parent). name_of (Record.Commit (commit_of c.in-Commit.c.number (record { at = c.in-Commit.c.root_at; name = c.in-Commit.c.root_name; kind = 2 }) ps c.in-Commit.c.info))) c.as_slice-in-Commit.ensures in
    sym named ∙ same ∙ sym (ap name_of c.in-Commit.is)

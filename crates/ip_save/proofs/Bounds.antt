-- Records of contents, of leaves, of inodes, of the commit and of its branch are within their bounds.
use Rattle.std.proofs.Common.{◌≡◌, ℕ, ◌+◌, ◌*◌, ◌<◌, ◌≤◌, ◌^◌, List, [], ◌∷◌, length, flat_map, arith}
use Rattle.std.proofs.lemmas.List.{length-append}
use Rattle.std.specs.Prelude.{OnOk, Result, Ok, Err}
use Rattle.std.specs.List.{AllByRecursion}
use Rattle.std.proofs.lemmas.List.Elements.{recursion_from_All}
use Rattle.ip_spec.specs.declared.record.Record.TheVariants as Record
use Rattle.ip_spec.specs.declared.record.LeafEntry.{LeafEntry}
use Rattle.ip_spec.specs.declared.record.InodeChild.{InodeChild}
use Rattle.ip_spec.specs.declared.record.Ref.{Ref}
use Rattle.ip_spec.specs.Path.{Bytes, AreBytes}
use Rattle.ip_spec.specs.Record.{u8, u32, u64, short_text, entry_spelling, child_spelling, spelling, body, IsCommitRecord, IsInode, IsInodeChild, IsLeaf, IsLeafEntry, IsHash, Fits}
use Rattle.ip_object.specs.Lists.{commit_of}
use Rattle.ip_object.proofs.Sizes.{five, commit_size, branch_size}
use Rattle.ip_spec.specs.Batch.{CommitFields}
use Rattle.ip_save.specs.Batches.{AreFields, commit_record}
use Rattle.ip_save.specs.Laid.{size}

-- ---- contents

pub size_is : (b : Bytes) → size b ≡ length b + 5
unfolding spelling body
size_is b = omega arith

pub contents_fit : (b : Bytes) → length b ≤ 1048576 → AreBytes b → Fits 1 (Record.Contents b)
unfolding body
contents_fit b short bytes = record { size = omega (arith, short); fields = (short, bytes) }

-- ---- the leaf

entry_room : (e : LeafEntry) → IsLeafEntry e → length (entry_spelling e) ≤ 298
entry_room e is =
    let size = five (short_text e.step) (u8 e.kind) (u8 e.height) e.name (u64 e.at) in
    let short = is.step.short in
    let name = is.name.0 in
    omega (arith, size, short, name)

entries_room : (es : List LeafEntry) → AllByRecursion IsLeafEntry es → length (flat_map entry_spelling es) ≤ 298 * length es
entries_room [] each = omega arith
entries_room (e ∷ es) (i, is) = let rest = entries_room es is in omega (arith, rest, entry_room e i, length-append (entry_spelling e) (flat_map entry_spelling es))

leaf_body : (es : List LeafEntry) → length (body (Record.Leaf es)) ≡ 4 + length (flat_map entry_spelling es)
unfolding body
leaf_body es = omega arith

pub leaf_fits : (es : List LeafEntry) → length es ≤ 1048576 → IsLeaf es → Fits 1 (Record.Leaf es)
leaf_fits es few is = record { size = omega (arith, leaf_body es, entries_room es (recursion_from_All IsLeafEntry es is.each), few); fields = is }

-- ---- the inode

child_room : (c : InodeChild) → IsInodeChild c → length (child_spelling c) ≤ 45
child_room c is =
    let size = five [] (u32 c.count) (u8 c.height) c.name (u64 c.at) in
    let name = is.name.0 in
    omega (arith, size, name)

children_room : (cs : List InodeChild) → AllByRecursion IsInodeChild cs → length (flat_map child_spelling cs) ≤ 45 * length cs
children_room [] each = omega arith
children_room (c ∷ cs) (i, is) = let rest = children_room cs is in omega (arith, rest, child_room c i, length-append (child_spelling c) (flat_map child_spelling cs))

inode_body : (depth : ℕ) (cs : List InodeChild) → length (body (Record.Inode depth cs)) ≡ 5 + length (flat_map child_spelling cs)
unfolding body
inode_body depth cs = omega arith

pub inode_fits : (depth : ℕ) (cs : List InodeChild) → length cs ≤ 32 → IsInode depth cs → Fits 1 (Record.Inode depth cs)
inode_fits depth cs few is = record { size = omega (arith, inode_body depth cs, children_room cs (recursion_from_All IsInodeChild cs is.each), few); fields = is }

-- ---- the commit and its branch

pub commit_fits : (f : CommitFields) → AreFields f → (root : Ref) → IsHash root.name → root.at < 2 ^ 64 → Fits 1 (commit_record f root)
commit_fits f are root hash low =
    let is : IsCommitRecord (commit_of f.number root f.parents f.info) = record { number = are.number; root_name = hash; root_at = low; parents = are.few; each = are.each; info = are.is_info } in
    let few = are.few in
    let author = are.is_info.author_short in
    let message = are.is_info.message_short in
    record { size = omega (arith, commit_size (commit_of f.number root f.parents f.info) is, few, author, message); fields = is }

pub branch_fits : (f : CommitFields) → AreFields f → Fits 1 (Record.BranchSet f.number f.branch)
branch_fits f are = let short = are.is_branch.short in record { size = omega (arith, branch_size f.number f.branch, short); fields = (are.number, are.is_branch) }

pub always_ok : {A E P : Type 0} (r : Result A E) → P → OnOk r P
always_ok (Ok x) p = p
always_ok (Err e) p = tt

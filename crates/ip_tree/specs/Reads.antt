-- What records are read, and why a call on a tree failed.
--     IsOver told space records      the space reads these records, and perhaps more
--     IsPartRef records depth r es      the record at the reference is the part of a directory, at the depth, that has these entries
--     Reaches records r sub      the record at the reference is contents, or the root of a directory, perhaps empty
--     ref_of_entry e, stored_of_entry e, ref_of_child c, stored_of_child c      what an entry of a leaf and a child of an inode refer to
--     node_of_entry e, unread_child c      the same as what was not read
--     leaf_read fields, children_read cs      the entries of a leaf and the children of an inode, not read
--     record_of content, content_count content      a record of a directory, and how many entries it tells
--     as_content lent      what it holds, where it is lent
--     lent_at space at found      the record that was brought for an offset: the one that was handed out, or the one that is kept
--     IsPartRecord r      it is the record of a directory, or of a part of one, within the bounds of the format
--     entry_below records levels at s      what a walk through any records finds at a step
--     FindsEntry records es s found      what an entry refers to, or that there is none
--     Looks tells old new space now      a call only read records
--     IsFree fault      no record was missing or another one, and no limit was passed
--     IsFetchFault fault      a read is its cause
--     IsOwn fault      no read is its cause
--     IsBlamed fault      a fault of a fetch is one that fetching some reference may answer, whatever is told
--     IsDamage records fault      and the records have at that reference what it says
--     IsCause tells told space fault      both, of the records that the space reads
use Rattle.std.specs.Prelude.{◌≡◌, ℕ, List, Option, Some, None, IsTrue, IsFalse, Bool, length, sum_by, map, Err, option_map}
use Rattle.std.specs.FinMap.Entries.{find}
use Rattle.sha2.specs.Sha256.{sha256}
use Rattle.ip_ground.specs.Told.{Told}
use Rattle.ip_spec.specs.Path.{Bytes, Step, bytes_cmp}
use Rattle.ip_spec.specs.declared.kind.TheConstants as kinds
use Rattle.ip_spec.specs.declared.record.InodeChild.{InodeChild}
use Rattle.ip_spec.specs.declared.record.LeafEntry.{LeafEntry}
use Rattle.ip_spec.specs.declared.record.Ref.{Ref}
use Rattle.ip_spec.specs.declared.record.Record.{Record}
use Rattle.ip_spec.specs.Record.{Fits, reference_kind}
use Rattle.ip_spec.specs.Tree as Tree
use Rattle.ip_spec.specs.Tree.{Tree, is_contents}
use Rattle.ip_spec.specs.Shape.{Entries, name_of_part}
use Rattle.ip_spec.specs.StoredParts.{entry_through}
use Rattle.ip_spec.specs.TreeAt.{PartAt}
use Rattle.ip_space.specs.SpaceView.{SpaceView, IsReadable, OnlyReads, kept_at, records_of}
use Rattle.ip_space.specs.Fetching.{Blames, Fetches}
use Rattle.ip_space.specs.declared.fault.FetchFault.TheVariants as fetch
use Rattle.ip_shape.specs.declared.reading.Child.{Child}
use Rattle.ip_tree.specs.Meaning.{Spells, StoredIs}
use Rattle.ip_tree.specs.Node.{Entry, stored}
use Rattle.ip_tree.specs.declared.fetch.Content.{Content}
use Rattle.ip_tree.specs.declared.fetch.Content.TheVariants as content
use Rattle.ip_tree.specs.declared.fetch.LentContent.{LentContent}
use Rattle.ip_tree.specs.declared.fetch.LentContent.TheVariants as lending
use Rattle.ip_tree.specs.declared.node.Stored.{Stored}
use Rattle.ip_tree.specs.declared.tree.TreeFault.{TreeFault}
use Rattle.ip_tree.specs.declared.tree.TreeFault.TheVariants.{Limit, Fetch, Memory}

pub record IsOver (told : Told) (space : SpaceView) (records : ℕ → Option Record) : Type 0 where
  pub readable : IsReadable told space
  pub held : (at : ℕ) (r : Record) → records at ≡ Some r → records_of told space at ≡ Some r

pub record IsPartRef (records : ℕ → Option Record) (depth : ℕ) (r : Ref) (es : Entries) : Type 0 where
  pub part : PartAt records depth r.at es
  pub kind : r.kind ≡ kinds.DIRECTORY
  pub name : r.name ≡ name_of_part depth es

pub data Reaches (records : ℕ → Option Record) (r : Ref) : Tree → Type 0 where
  contents_at : (bytes : Bytes) → records r.at ≡ Some (Record.Contents bytes) → r.kind ≡ kinds.CONTENTS → r.name ≡ sha256 bytes → Reaches records r (Tree.contents bytes)
  directory_at : (sub : Tree) → Spells records r sub → IsFalse (is_contents sub) → Reaches records r sub

abbrev pub ref_of_entry : LeafEntry → Ref
ref_of_entry e = record { at = e.at; name = e.name; kind = e.kind }

-- what stands there, not read
abbrev pub stored_of_entry : LeafEntry → Stored
stored_of_entry e = record { reference = ref_of_entry e; height = e.height }

abbrev pub ref_of_child : InodeChild → Ref
ref_of_child c = record { at = c.at; name = c.name; kind = kinds.DIRECTORY }

abbrev pub stored_of_child : InodeChild → Stored
stored_of_child c = record { reference = ref_of_child c; height = c.height }

-- the entry of a leaf, and the child of an inode, as what was not read
abbrev pub node_of_entry : LeafEntry → Entry
node_of_entry e = (e.step, stored (stored_of_entry e))

abbrev pub unread_child : InodeChild → Child Stored
unread_child c = record { index = c.index; «record» = stored_of_child c; count = c.count }

abbrev pub leaf_read : List LeafEntry → List Entry
leaf_read fields = map node_of_entry fields

abbrev pub children_read : List InodeChild → List (Child Stored)
children_read cs = map unread_child cs

abbrev pub record_of : Content → Record
record_of (content.Leaf entries) = Record.Leaf entries
record_of (content.Inode depth children) = Record.Inode depth children

abbrev pub content_count : Content → ℕ
content_count (content.Leaf entries) = length entries
content_count (content.Inode depth children) = sum_by (λ (c : InodeChild). c.count) children

-- what a record holds, where it is lent
abbrev pub as_content : LentContent → Content
as_content (lending.Leaf entries) = content.Leaf entries.now
as_content (lending.Inode depth children) = content.Inode depth children.now

-- the record that was brought for an offset
abbrev pub lent_at : SpaceView → ℕ → Option Record → Option Record
lent_at space at (Some rec) = Some rec
lent_at space at None = kept_at at space.kept

abbrev pub IsPartRecord : Option Record → Type 0
IsPartRecord None = ⊥
IsPartRecord (Some rec) = (reference_kind rec ≡ kinds.DIRECTORY) × (version : ℕ) × Fits version rec

-- through any records
abbrev pub entry_below : (ℕ → Option Record) → ℕ → ℕ → Step → Option Stored
entry_below records levels at s = option_map stored_of_entry (entry_through levels records s at)

abbrev pub FindsEntry : (ℕ → Option Record) → Entries → Step → Option Stored → Type 0
FindsEntry records es s None = find bytes_cmp s es ≡ None
FindsEntry records es s (Some x) = (sub : Tree) × (find bytes_cmp s es ≡ Some sub) × StoredIs records x sub

-- ---- what every call keeps

pub record Looks (tells : Bool) (old new : Told) (space now : SpaceView) : Type 0 where
  pub reads : IsTrue tells → OnlyReads old new space now
  pub layout : now.layout ≡ space.layout
  pub runs : now.runs ≡ space.runs

-- ---- faults

abbrev pub IsFree : TreeFault → Type 0
IsFree (Limit l) = ⊥
IsFree (Fetch fetch.Ground) = Unit {0}
IsFree (Fetch (fetch.Form at fault)) = ⊥
IsFree (Fetch (fetch.Name at want got)) = ⊥
IsFree (Fetch fetch.Memory) = Unit {0}
IsFree Memory = Unit {0}

-- a read is its cause
abbrev pub IsFetchFault : TreeFault → Type 0
IsFetchFault (Limit l) = ⊥
IsFetchFault (Fetch fault) = Unit {0}
IsFetchFault Memory = ⊥

-- no read is its cause
abbrev pub IsOwn : TreeFault → Type 0
IsOwn (Limit l) = Unit {0}
IsOwn (Fetch fault) = ⊥
IsOwn Memory = Unit {0}

abbrev pub IsBlamed : TreeFault → Type 0
IsBlamed (Limit l) = Unit {0}
IsBlamed (Fetch fault) = (r : Ref) × Blames r (Err fault)
IsBlamed Memory = Unit {0}

abbrev pub IsDamage : (ℕ → Option Record) → TreeFault → Type 0
IsDamage records (Limit l) = Unit {0}
IsDamage records (Fetch fault) = (r : Ref) × Blames r (Err fault) × Fetches records r (Err fault)
IsDamage records Memory = Unit {0}

pub record IsCause (tells : Bool) (told : Told) (space : SpaceView) (fault : TreeFault) : Type 0 where
  pub blamed : IsBlamed fault
  pub damage : IsTrue tells → IsReadable told space → IsDamage (records_of told space) fault

-- What the walks over a lazy tree write and answer, by its nodes alone.
--     record_of part      the record that spells a part, where one is known.      unless_known      nothing, where there is such a record
--     fresh n      the new contents, in the order of their paths.      contents_bytes bs      the bytes of their records.      size_of bs      how many these are
--     tallies n      what lies below each directory that was loaded and that no record is known to spell, the first one's own tally first; of one with a record no_tally alone.      tallies_in ns s      of the node at a step
--     new_in ts, behind_first ts      how many new contents the first tally tells, and the tallies behind those of its directory.      BeginsWith front all      these are the first of all
--     longest n      the greatest length of the new contents.      breadth n      the most entries of a directory that was loaded
--     count_of part      how many entries a part has
--     ref_at refs      the first of these references.      behind_refs n refs      those that are left behind a node
--     lay n refs at      the records of the directories that are to be written, from the offset `at` on, where the first of `refs` refer to the new contents below the node
--     lay_at ns refs s at      of the node at a step, where they refer to those below the nodes.      start_in ns refs s      those from the step on
--     lay_part child levels depth part at      of a part, where `child` lays what stands at a step
--     fresh_root, longest_root, breadth_root, lay_root      of a root
--     AreStarts ns refs starts, IsReady dir refs table end      a table of the references from each entry on
--     IsLaid, IsRow, IsLaidRoot      what the walk over directories does.      IsCause b h fault      a limit only where one of the two is passed
use Rattle.std.specs.Prelude.{◌≡◌, ℕ, zero, suc, ◌+◌, ◌<◌, ◌≤◌, ◌==◌, cond, max, List, [], ◌∷◌, ◌++◌, length, drop, map, flat_map, slice_get, unwrap_or, Option, Some, None}
use Rattle.std.specs.List.{AllByRecursion}
use Rattle.sha2.specs.Sha256.{sha256}
use Rattle.ip_base.specs.declared.limit.TheConstants.{OFFSET_MAX}
use Rattle.ip_base.specs.declared.limit.Limit.TheVariants.{Depth, Entries}
use Rattle.ip_spec.specs.Path.{Bytes, Step, same_bytes}
use Rattle.ip_spec.specs.declared.kind.TheConstants as kinds
use Rattle.ip_spec.specs.declared.record.Record.{Record}
use Rattle.ip_spec.specs.declared.record.LeafEntry.{LeafEntry}
use Rattle.ip_spec.specs.declared.record.InodeChild.{InodeChild}
use Rattle.ip_spec.specs.declared.record.Ref.{Ref}
use Rattle.ip_spec.specs.Record.{Hash, Fits, spelling, spelling_of}
use Rattle.ip_spec.specs.Shape.{deepest}
use Rattle.ip_spec.specs.Step.{entries_limit, steps_limit}
use Rattle.ip_spec.specs.TreeAt.{Records}
use Rattle.ip_shape.specs.Heights.{inode_height, leaf_height}
use Rattle.ip_shape.specs.PartNames.{inode_name, leaf_name}
use Rattle.ip_shape.specs.Shape.{AreSteps, count_in}
use Rattle.ip_shape.specs.declared.dir.Dir.{Dir}
use Rattle.ip_shape.specs.declared.part.Part.{Part, out-Part}
use Rattle.ip_shape.specs.declared.part.Part.TheOpen.{Part-F, Leaf, Inode, Unread}
use Rattle.ip_tree.specs.Node.{Node, Nodes, Root, stored, contents, directory, none, first, unread, loaded, nodes_of, steps_in}
use Rattle.ip_tree.specs.Shown.{entries_shown}
use Rattle.ip_tree.specs.declared.node.Node as code
use Rattle.ip_tree.specs.declared.node.Stored.{Stored}
use Rattle.ip_save.specs.declared.batch.SaveFault.{SaveFault}
use Rattle.ip_save.specs.declared.batch.SaveFault.TheVariants.{Limit, Space, Fetch, Memory}
use Rattle.ip_save.specs.declared.starts.Start.{Start}
use Rattle.ip_save.specs.declared.tally.Tally.{Tally}

-- ---- records that are known

abbrev pub record_in : Part-F Stored (Part Stored) → Option Stored
record_in (Leaf known steps) = known
record_in (Inode known n children) = known
record_in (Unread x n) = Some x

abbrev pub record_of : Part Stored → Option Stored
record_of part = record_in (out-Part Stored part)

-- of a directory as a whole: below one that a record is known to spell nothing is new
abbrev pub unless_known : {A : Type 0} → Option Stored → A → A → A
unless_known (Some x) nothing all = nothing
unless_known None nothing all = all

-- ---- new contents

abbrev mutual
  pub fresh : Node → List Bytes
  fresh (stored x) = []
  fresh (contents bytes) = bytes ∷ []
  fresh (directory root ns) = unless_known (record_of root) [] (fresh_among ns)

  pub fresh_among : Nodes → List Bytes
  fresh_among none = []
  fresh_among (first s n ns) = fresh n ++ fresh_among ns

-- ---- tallies

abbrev pub no_tally : Tally
no_tally = record { new = 0; directories = 0 }

abbrev mutual
  pub tallies : Node → List Tally
  tallies (stored x) = []
  tallies (contents bytes) = []
  tallies (directory root ns) = unless_known (record_of root) (no_tally ∷ []) (record { new = length (fresh_among ns); directories = length (tallies_among ns) } ∷ tallies_among ns)

  pub tallies_among : Nodes → List Tally
  tallies_among none = []
  tallies_among (first s n ns) = tallies n ++ tallies_among ns

abbrev pub tallies_root : Root → List Tally
tallies_root (unread r) = []
tallies_root (loaded root ns) = tallies (directory root ns)

abbrev pub tallies_in : Nodes → Step → List Tally
tallies_in none s = []
tallies_in (first t n ns) s = cond (same_bytes s t) (tallies n) (tallies_in ns s)

abbrev pub new_in : List Tally → ℕ
new_in [] = 0
new_in (t ∷ ts) = t.new

abbrev pub behind_first : List Tally → List Tally
behind_first [] = []
behind_first (t ∷ ts) = drop t.directories ts

pub record BeginsWith (front all : List Tally) : Type 0 where
  pub tail : List Tally
  pub is : all ≡ front ++ tail

-- ---- the bytes of new contents

abbrev pub size : Bytes → ℕ
size bytes = length (spelling (Record.Contents bytes))

abbrev pub contents_bytes : List Bytes → Bytes
contents_bytes bs = flat_map (λ b. spelling (Record.Contents b)) bs

abbrev pub size_of : List Bytes → ℕ
size_of [] = 0
size_of (b ∷ bs) = size b + size_of bs

-- ---- measures

abbrev mutual
  pub longest : Node → ℕ
  longest (stored x) = 0
  longest (contents bytes) = length bytes
  longest (directory root ns) = unless_known (record_of root) 0 (longest_among ns)

  pub longest_among : Nodes → ℕ
  longest_among none = 0
  longest_among (first s n ns) = max (longest n) (longest_among ns)

abbrev pub count_of : Part Stored → ℕ
count_of part = count_in (out-Part Stored part)

abbrev mutual
  pub breadth : Node → ℕ
  breadth (stored x) = 0
  breadth (contents bytes) = 0
  breadth (directory root ns) = max (count_of root) (breadth_among ns)

  pub breadth_among : Nodes → ℕ
  breadth_among none = 0
  breadth_among (first s n ns) = max (breadth n) (breadth_among ns)

-- ---- directories

-- the records, what refers to the thing itself, and the place of the next record
pub record Laid : Type 0 where
  pub records : Records
  pub stands : Stored
  pub next : ℕ

-- the same of the entries of a leaf, or of the children of an inode
pub record LaidRow (F : Type 0) : Type 0 where
  pub records : Records
  pub fields : List F
  pub next : ℕ

abbrev pub no_row : {F : Type 0} → ℕ → LaidRow F
no_row at = record { records = []; fields = []; next = at }

abbrev pub in_front : {F : Type 0} → Laid → F → LaidRow F → LaidRow F
in_front x field row = record { records = x.records ++ row.records; fields = field ∷ row.fields; next = row.next }

abbrev pub field_for : Step → Stored → LeafEntry
field_for s x = record { step = s; kind = x.reference.kind; height = x.height; name = x.reference.name; at = x.reference.at }

abbrev pub child_for : ℕ → ℕ → Stored → InodeChild
child_for i n x = record { index = i; count = n; height = x.height; name = x.reference.name; at = x.reference.at }

-- contents whose record lies there
abbrev pub contents_at : Bytes → ℕ → Stored
contents_at bytes at = record { reference = record { at = at; name = sha256 bytes; kind = kinds.CONTENTS }; height = 0 }

-- a part of a directory whose record lies there
abbrev pub part_at : ℕ → Hash → ℕ → Stored
part_at height name at = record { reference = record { at = at; name = name; kind = kinds.DIRECTORY }; height = height }

abbrev pub new_leaf : List LeafEntry → ℕ → Stored
new_leaf fields at = part_at (leaf_height fields) (leaf_name fields) at

abbrev pub new_inode : ℕ → List InodeChild → ℕ → Stored
new_inode depth fields at = part_at (inode_height fields) (inode_name depth fields) at

-- what a record spells is only referred to
abbrev pub there : Stored → ℕ → Laid
there x at = record { records = []; stands = x; next = at }

abbrev pub behind : {F : Type 0} → (List F → Record) → (List F → ℕ → Stored) → LaidRow F → Laid
behind made refer row = record {
  records = row.records ++ (row.next, made row.fields) ∷ [];
  stands = refer row.fields row.next;
  next = row.next + length (spelling (made row.fields));
}

abbrev pub behind_leaf : LaidRow LeafEntry → Laid
behind_leaf row = behind Record.Leaf new_leaf row

abbrev pub behind_inode : ℕ → LaidRow InodeChild → Laid
behind_inode depth row = behind (Record.Inode depth) (new_inode depth) row

abbrev pub known_or : Option Stored → ℕ → Laid → Laid
known_or (Some x) at new = there x at
known_or None at new = new

module _ (child : Step → ℕ → Laid) where
  abbrev pub lay_steps : List Step → ℕ → LaidRow LeafEntry
  lay_steps [] at = no_row at
  lay_steps (s ∷ ss) at = let x = child s at in in_front x (field_for s x.stands) (lay_steps ss x.next)

  -- the children from an index on: an empty one is left out
  abbrev pub lay_children : (Part Stored → ℕ → Laid) → ℕ → List (Part Stored) → ℕ → LaidRow InodeChild
  lay_children deeper i [] at = no_row at
  lay_children deeper i (c ∷ cs) at =
      cond (count_of c == 0) (lay_children deeper (suc i) cs at)
      (let x = deeper c at in in_front x (child_for i (count_of c) x.stands) (lay_children deeper (suc i) cs x.next))

  -- a part that no record is known to spell
  abbrev pub lay_new : (Part Stored → ℕ → Laid) → ℕ → Part-F Stored (Part Stored) → ℕ → Laid
  lay_new deeper depth (Leaf known steps) at = behind_leaf (lay_steps steps.items at)
  lay_new deeper depth (Inode known n children) at = behind_inode depth (lay_children deeper 0 children.items at)
  lay_new deeper depth (Unread x n) at = there x at

  abbrev pub lay_layer : (Part Stored → ℕ → Laid) → ℕ → Part-F Stored (Part Stored) → ℕ → Laid
  lay_layer deeper depth layer at = known_or (record_in layer) at (lay_new deeper depth layer at)

  -- no inode is so deep
  abbrev pub lay_nothing : Part Stored → ℕ → Laid
  lay_nothing part at = behind_leaf (no_row at)

  abbrev pub lay_part : ℕ → ℕ → Part Stored → ℕ → Laid
  lay_part zero depth part at = lay_layer lay_nothing depth (out-Part Stored part) at
  lay_part (suc levels) depth part at = lay_layer (lay_part levels (suc depth)) depth (out-Part Stored part) at

-- the first of these references
abbrev pub ref_at : List Stored → Stored
ref_at refs = unwrap_or (slice_get refs 0) (contents_at [] 0)

-- those that are left behind a node
abbrev pub behind_refs : Node → List Stored → List Stored
behind_refs n refs = drop (length (fresh n)) refs

abbrev mutual
  pub lay : Node → List Stored → ℕ → Laid
  lay (stored x) refs at = there x at
  lay (contents bytes) refs at = there (ref_at refs) at
  lay (directory root ns) refs at = lay_part (λ s. lay_at ns refs s) deepest 0 root at

  pub lay_at : Nodes → List Stored → Step → ℕ → Laid
  lay_at none refs s at = behind_leaf (no_row at)
  lay_at (first t n ns) refs s at = cond (same_bytes s t) (lay n refs at) (lay_at ns (behind_refs n refs) s at)

abbrev pub start_in : Nodes → List Stored → Step → List Stored
start_in none refs s = refs
start_in (first t n ns) refs s = cond (same_bytes s t) refs (start_in ns (behind_refs n refs) s)

-- ---- roots

abbrev pub fresh_root : Root → List Bytes
fresh_root (unread r) = []
fresh_root (loaded root ns) = fresh (directory root ns)

abbrev pub longest_root : Root → ℕ
longest_root (unread r) = 0
longest_root (loaded root ns) = longest (directory root ns)

abbrev pub breadth_root : Root → ℕ
breadth_root (unread r) = 0
breadth_root (loaded root ns) = breadth (directory root ns)

abbrev pub lay_root : List Stored → Root → ℕ → Laid
lay_root refs (unread r) at = there (record { reference = r; height = 0 }) at
lay_root refs (loaded root ns) at = lay (directory root ns) refs at

-- ---- what refers to new contents

abbrev pub AreStarts : Nodes → List Stored → List Start → Type 0
AreStarts none refs [] = Unit {0}
AreStarts none refs (x ∷ xs) = ⊥
AreStarts (first s n ns) refs [] = ⊥
AreStarts (first s n ns) refs (x ∷ xs) = (x.step.now ≡ s) × (x.refs.now ≡ refs) × BeginsWith (tallies n) x.ahead.now × AreStarts ns (behind_refs n refs) xs

-- what stands in a directory at the steps whose parts were read
abbrev pub nodes_in : Dir code.Node Stored → Nodes
nodes_in dir = nodes_of (entries_shown dir)

-- the table is the directory's, there are references enough, and the offsets from the end of what there was on can be counted
pub record IsReady (dir : Dir code.Node Stored) (refs : List Stored) (table : List Start) (end : ℕ) : Type 0 where
  pub ascend : AreSteps (steps_in (nodes_in dir))
  pub starts : AreStarts (nodes_in dir) refs table
  pub enough : length (fresh_among (nodes_in dir)) ≤ length refs
  pub low : end ≤ OFFSET_MAX

-- ---- what the walks do

-- the bytes of records, one behind the other
abbrev pub bytes_of : Records → Bytes
bytes_of records = spelling_of (map (λ x. x.1) records)

abbrev pub AllFit : Records → Type 0
AllFit records = AllByRecursion (λ x. Fits 1 x.1) records

abbrev pub IsShort : Bytes → Type 0
IsShort bytes = Fits 1 (Record.Contents bytes)

-- the place behind bytes whose first lies at the offset `end`
abbrev pub behind_bytes : ℕ → Bytes → ℕ
behind_bytes end bytes = end + length bytes

-- what a walk laid, behind bytes whose first lies at the offset `end`
pub record IsLaid (end : ℕ) (walk : ℕ → Laid) (before after : Bytes) (x : Stored) : Type 0 where
  pub bytes : after ≡ before ++ bytes_of (walk (behind_bytes end before)).records
  pub stands : x ≡ (walk (behind_bytes end before)).stands
  pub fits : AllFit (walk (behind_bytes end before)).records

-- the entries of a leaf, or the children of an inode
pub record IsRow {F : Type 0} (end : ℕ) (walk : ℕ → LaidRow F) (before after : Bytes) (row : List F) : Type 0 where
  pub bytes : after ≡ before ++ bytes_of (walk (behind_bytes end before)).records
  pub fields : row ≡ (walk (behind_bytes end before)).fields
  pub fits : AllFit (walk (behind_bytes end before)).records

pub record IsLaidRoot (end : ℕ) (refs : List Stored) (root : Root) (before after : Bytes) (r : Ref) : Type 0 where
  pub bytes : after ≡ before ++ bytes_of (lay_root refs root (behind_bytes end before)).records
  pub stands : r ≡ (lay_root refs root (behind_bytes end before)).stands.reference
  pub fits : AllFit (lay_root refs root (behind_bytes end before)).records

-- limits of a directory's entries and of steps
abbrev pub IsCause : ℕ → ℕ → SaveFault → Type 0
IsCause b h (Limit Entries) = entries_limit < b
IsCause b h (Limit Depth) = steps_limit < h
IsCause b h (Limit other) = ⊥
IsCause b h (Space name) = ⊥
IsCause b h (Fetch fault) = ⊥
IsCause b h Memory = Unit {0}

-- steps alone
abbrev pub IsHighFault : ℕ → SaveFault → Type 0
IsHighFault h = IsCause 0 h

-- of a walk over directories of at most so many entries: the height is that of what it lays
abbrev pub IsLayFault : ℕ → ℕ → (ℕ → Laid) → Bytes → SaveFault → Type 0
IsLayFault breadth end walk before = IsCause breadth (walk (behind_bytes end before)).stands.height

abbrev pub IsRowFault : {F : Type 0} → (List F → ℕ) → ℕ → ℕ → (ℕ → LaidRow F) → Bytes → SaveFault → Type 0
IsRowFault height breadth end walk before = IsCause breadth (height (walk (behind_bytes end before)).fields)

abbrev pub IsRootFault : ℕ → List Stored → Root → Bytes → SaveFault → Type 0
IsRootFault end refs root before = IsLayFault (breadth_root root) end (lay_root refs root) before

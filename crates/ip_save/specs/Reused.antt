-- Which records contents are taken from that no record is known to hold: the first parent's tree is asked first, and then what the batch itself has.
--     held_by records b other      the offset of the record that other contents lie in, if they are the same bytes
--     again n other      of each of the new contents below a node, where the other tree has the same bytes at their path, if it does.      again_root      of a tree
--     Fresh      new contents, and the offset of a record that holds them, if one was found.      told_fresh      a table of them
--     place_of seen b      where contents lie that the batch has already
--     spelled_from seen xs      those that the batch spells.      places_from seen at xs      where all of them lie, if the first that is spelled does at an offset
--     refs_of xs places      what refers to them
--     IsFreshFault l fault      what comes of contents of at most this length.      IsFreeSave fault      no record was missing or another one.      IsUnfetched fault      it comes of no fetch
--     look_fault fault      the fault of a look-up
--     IsThere records r, IsDirectoryThere records r      what is told of the other tree, if there is such a thing, lies in these records
--     IsFound tells told space bs held before after      a walk put these new contents into the table, found again as `held` says.      IsLost      it failed
use Rattle.std.specs.Prelude.{◌≡◌, ℕ, ◌+◌, ◌<◌, ◌&&◌, ◌==◌, Bool, List, [], ◌∷◌, ◌++◌, map, Option, Some, None, if◌then◌else◌, IsTrue}
use Rattle.std.specs.List.{AllByRecursion}
use Rattle.ip_ground.specs.Counts.{Counted, as_nothing}
use Rattle.sha2.specs.Sha256.{sha256}
use Rattle.ip_base.specs.declared.limit.Limit.TheVariants.{Contents}
use Rattle.ip_ground.specs.Told.{Told}
use Rattle.ip_space.specs.Faults.{counted_fetch}
use Rattle.ip_space.specs.SpaceView.{SpaceView, IsReadable, records_of}
use Rattle.ip_space.specs.declared.fault.FetchFault.TheVariants as fetch
use Rattle.ip_spec.specs.Path.{Bytes, Step, same_bytes}
use Rattle.ip_spec.specs.Shape.{Entries, deepest}
use Rattle.ip_spec.specs.Step.{contents_limit}
use Rattle.ip_spec.specs.declared.kind.TheConstants as kinds
use Rattle.ip_spec.specs.declared.record.Record.{Record}
use Rattle.ip_spec.specs.declared.record.Ref.{Ref}
use Rattle.ip_spec.specs.Tree.{Tree}
use Rattle.ip_tree.specs.Node.{Node, Nodes, Root, stored, contents, directory, none, first, unread, loaded}
use Rattle.ip_tree.specs.Reads.{IsCause, IsOver, IsPartRef, Reaches, entry_below}
use Rattle.ip_tree.specs.declared.node.Stored.{Stored}
use Rattle.ip_tree.specs.declared.tree.TreeFault.{TreeFault}
use Rattle.ip_tree.specs.declared.tree.TreeFault.TheVariants as fault
use Rattle.ip_save.specs.Laid.{IsShort, contents_at, record_of, size, unless_known}
use Rattle.ip_save.specs.declared.batch.SaveFault.{SaveFault}
use Rattle.ip_save.specs.declared.batch.SaveFault.TheVariants.{Limit, Space, Fetch, Memory}
use Rattle.ip_save.specs.declared.fresh.Fresh.{Fresh}

-- ---- in another tree, by the records that it is read from

abbrev pub same_contents : Bytes → ℕ → Option Record → Option ℕ
same_contents b at (Some (Record.Contents c)) = if same_bytes b c then Some at else None
same_contents b at other = None

-- by the name first: contents of another name are others
abbrev pub held_by : (ℕ → Option Record) → Bytes → Option Ref → Option ℕ
held_by records b None = None
held_by records b (Some r) = if (r.kind == kinds.CONTENTS) && same_bytes r.name (sha256 b) then same_contents b r.at (records r.at) else None

abbrev pub as_directory : Option Ref → Option Ref
as_directory None = None
as_directory (Some r) = if r.kind == kinds.DIRECTORY then Some r else None

abbrev pub reference_in : Option Stored → Option Ref
reference_in None = None
reference_in (Some x) = Some x.reference

-- what stands at a step of a directory that is a record
abbrev pub entry_at : (ℕ → Option Record) → Step → Option Ref → Option Ref
entry_at records s None = None
entry_at records s (Some r) = reference_in (entry_below records deepest r.at s)

abbrev mutual
  pub again : (ℕ → Option Record) → Node → Option Ref → List (Option ℕ)
  again records (stored x) other = []
  again records (contents b) other = held_by records b other ∷ []
  again records (directory root ns) other = unless_known (record_of root) [] (again_among records ns (as_directory other))

  pub again_among : (ℕ → Option Record) → Nodes → Option Ref → List (Option ℕ)
  again_among records none dir = []
  again_among records (first s n ns) dir = again records n (entry_at records s dir) ++ again_among records ns dir

abbrev pub again_root : (ℕ → Option Record) → Root → Option Ref → List (Option ℕ)
again_root records (unread r) other = []
again_root records (loaded root ns) other = unless_known (record_of root) [] (again_among records ns other)

-- ---- a table of new contents

abbrev pub bytes_in : List Fresh → List Bytes
bytes_in fresh = map (λ (f : Fresh). f.bytes.now) fresh

abbrev pub found_in : List Fresh → List (Option ℕ)
found_in fresh = map (λ (f : Fresh). f.at) fresh

abbrev pub told_fresh : List Fresh → List (Bytes × Option ℕ)
told_fresh fresh = map (λ (f : Fresh). (f.bytes.now, f.at)) fresh

abbrev pub AreHashed : List Fresh → Type 0
AreHashed fresh = AllByRecursion (λ (f : Fresh). f.name ≡ sha256 f.bytes.now) fresh

-- ---- in the batch

-- what the batch spells so far, each with its offset
abbrev pub place_of : List (Bytes × ℕ) → Bytes → Option ℕ
place_of [] b = None
place_of (x ∷ seen) b = if same_bytes b x.0 then Some x.1 else place_of seen b

abbrev pub spelled_by : Bytes → List Bytes → List Bytes → Option ℕ → List Bytes
spelled_by b old new (Some k) = old
spelled_by b old new None = b ∷ new

abbrev pub spelled_from : List (Bytes × ℕ) → ℕ → List (Bytes × Option ℕ) → List Bytes
spelled_from seen at [] = []
spelled_from seen at ((b, Some k) ∷ xs) = spelled_from seen at xs
spelled_from seen at ((b, None) ∷ xs) = spelled_by b (spelled_from seen at xs) (spelled_from ((b, at) ∷ seen) (at + size b) xs) (place_of seen b)

abbrev pub places_by : ℕ → List ℕ → List ℕ → Option ℕ → List ℕ
places_by at old new (Some k) = k ∷ old
places_by at old new None = at ∷ new

abbrev pub places_from : List (Bytes × ℕ) → ℕ → List (Bytes × Option ℕ) → List ℕ
places_from seen at [] = []
places_from seen at ((b, Some k) ∷ xs) = k ∷ places_from seen at xs
places_from seen at ((b, None) ∷ xs) = places_by at (places_from seen at xs) (places_from ((b, at) ∷ seen) (at + size b) xs) (place_of seen b)

abbrev pub refs_of : List (Bytes × Option ℕ) → List ℕ → List Stored
refs_of [] places = []
refs_of (x ∷ xs) [] = []
refs_of (x ∷ xs) (at ∷ places) = contents_at x.0 at ∷ refs_of xs places

-- ---- faults

abbrev pub IsFreshFault : ℕ → SaveFault → Type 0
IsFreshFault l (Limit Contents) = contents_limit < l
IsFreshFault l (Limit other) = ⊥
IsFreshFault l (Space name) = ⊥
IsFreshFault l (Fetch f) = Unit {0}
IsFreshFault l Memory = Unit {0}

abbrev pub IsFreeSave : SaveFault → Type 0
IsFreeSave (Fetch (fetch.Form at f)) = ⊥
IsFreeSave (Fetch (fetch.Name at want got)) = ⊥
IsFreeSave other = Unit {0}

abbrev pub IsUnfetched : SaveFault → Type 0
IsUnfetched (Fetch f) = ⊥
IsUnfetched other = Unit {0}

abbrev pub look_fault : TreeFault → SaveFault
look_fault (fault.Limit l) = Limit l
look_fault (fault.Fetch f) = Fetch f
look_fault fault.Memory = Memory

abbrev pub counted_save : SaveFault → Counted
counted_save (Fetch f) = counted_fetch f
counted_save other = as_nothing

abbrev pub IsSaveCause : Bool → Told → SpaceView → SaveFault → Type 0
IsSaveCause tells told space (Fetch f) = IsCause tells told space (fault.Fetch f)
IsSaveCause tells told space other = Unit {0}

-- ---- what the walk does

-- what stands at a reference of the other tree, if there is one, lies in these records
abbrev pub IsThere : (ℕ → Option Record) → Option Ref → Type 0
IsThere records None = Unit {0}
IsThere records (Some r) = (t : Tree) × Reaches records r t

-- the same of a directory
abbrev pub IsDirectoryThere : (ℕ → Option Record) → Option Ref → Type 0
IsDirectoryThere records None = Unit {0}
IsDirectoryThere records (Some r) = (es : Entries) × IsPartRef records 0 r es

pub record IsFound (tells : Bool) (told : Told) (space : SpaceView) (bs : List Bytes) (held : (ℕ → Option Record) → List (Option ℕ)) (before after : List Fresh) : Type 0 where
  pub bytes : bytes_in after ≡ bytes_in before ++ bs
  pub found : IsTrue tells → IsReadable told space → found_in after ≡ found_in before ++ held (records_of told space)
  pub hashed : AreHashed before → AreHashed after
  pub short : AllByRecursion IsShort bs

-- where the records that it looks at are there, none was missing or another one
pub record IsLost (tells : Bool) (told : Told) (space : SpaceView) (l : ℕ) (there : (ℕ → Option Record) → Type 0) (fault : SaveFault) : Type 0 where
  pub cause : IsFreshFault l fault
  pub because : IsSaveCause tells told space fault
  pub free : IsTrue tells → (records : ℕ → Option Record) → IsOver told space records → there records → IsFreeSave fault

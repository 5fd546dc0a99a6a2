-- The records of a tree's batch are contents and parts of directories, whatever holds them so that the tree is spelled.
--     IsTreePart J at r      contents, or a part of some directory
--     directory_parts      where a directory is spelled, so are those of its parts that were not known
--     part_found      a record lies where a part does
use Rattle.std.proofs.Common.{◌≡◌, ℕ, zero, suc, ◌+◌, ◌-◌, List, [], ◌∷◌, ◌++◌, refl, sym, subst, ◌∙◌, Option, Some, None, Bool, true, false, arith}
use Rattle.std.proofs.lemmas.Bool.{false≢true}
use Rattle.std.proofs.lemmas.List.Elements.{recursion_from_All}
use Rattle.std.specs.Prelude.{if◌then◌else◌}
use Rattle.std.specs.List.{AllByRecursion}
use Rattle.ip_spec.specs.declared.record.Record.{Record}
use Rattle.ip_spec.specs.declared.record.LeafEntry.{LeafEntry}
use Rattle.ip_spec.specs.declared.record.InodeChild.{InodeChild}
use Rattle.ip_spec.specs.Path.{Bytes, Step, Path}
use Rattle.ip_spec.specs.Step.{entries_limit}
use Rattle.ip_spec.specs.Tree.{Tree, entries_of, is_contents, contents, tree_runs}
use Rattle.ip_spec.specs.Shape.{Entries, is_leaf, children_of}
use Rattle.ip_spec.specs.TreeAt.{Records, EntryAt, EntriesAt, ChildrenAt, PartAt, contents_at, directory_at, entry_first, child_first, leaf_at, inode_at}
use Rattle.ip_spec.specs.View.{View}
use Rattle.ip_spec.specs.Batch.{Spelled, entry_record, there_already, behind, known_or, spell_entry, spell_entries, spell_children, spell_part, spell_directory}
use Rattle.ip_spec.proofs.Spelling.{AllHeld, held_left, held_right}
use Rattle.ip_spec.proofs.Unique.{same_fields, same_inode, leaf_or_inode}
use Rattle.ip_spec.proofs.Widths.{NoneWider}
use Rattle.ip_image.specs.Standing.{IsSomePart}
use Rattle.ip_image.proofs.PartEntries.{ArePart, of_directory, of_children, is_some_part}

-- ---- of each in a list

pub all_left : {X : Type 0} (P : X → Type 0) (xs ys : List X) → AllByRecursion P (xs ++ ys) → AllByRecursion P xs
all_left P [] ys all = tt
all_left P (x ∷ xs) ys all = (all.0, all_left P xs ys all.1)

pub all_right : {X : Type 0} (P : X → Type 0) (xs ys : List X) → AllByRecursion P (xs ++ ys) → AllByRecursion P ys
all_right P [] ys all = all
all_right P (x ∷ xs) ys all = all_right P xs ys all.1

pub all_join : {X : Type 0} (P : X → Type 0) (xs ys : List X) → AllByRecursion P xs → AllByRecursion P ys → AllByRecursion P (xs ++ ys)
all_join P [] ys all later = later
all_join P (x ∷ xs) ys all later = (all.0, all_join P xs ys all.1 later)

pub all_onto : {X : Type 0} (P Q : X → Type 0) (xs : List X) → ((x : X) → P x → Q x) → AllByRecursion P xs → AllByRecursion Q xs
all_onto P Q [] f all = tt
all_onto P Q (x ∷ xs) f all = (f x all.0, all_onto P Q xs f all.1)

-- ---- what a spelled part says of those under it

contents_are : (bytes : Bytes) → is_contents (contents bytes) ≡ true
unfolding tree_runs
contents_are bytes = refl

module _ (J : ℕ → Option Record) where
  directory_in : {bound : ℕ} {f : LeafEntry} {x : Step × Tree} → EntryAt J bound f x → is_contents x.1 ≡ false → PartAt J 0 f.at (entries_of x.1).entries
  directory_in (contents_at bytes below is height child) directory = absurd (false≢true (sym directory ∙ contents_are bytes))
  directory_in (directory_at sub below part is_directory some height child) directory = part

  first_entry : {bound : ℕ} {f : LeafEntry} {fs : List LeafEntry} {x : Step × Tree} {xs : Entries} → EntriesAt J bound (f ∷ fs) (x ∷ xs) → EntryAt J bound f x × EntriesAt J bound fs xs
  first_entry (entry_first entry entries) = (entry, entries)

  first_child : {depth bound : ℕ} {f : InodeChild} {fs : List InodeChild} {x : ℕ × Entries} {xs : List (ℕ × Entries)} → ChildrenAt J depth bound (f ∷ fs) (x ∷ xs) → PartAt J (suc depth) f.at x.1 × ChildrenAt J depth bound fs xs
  first_child (child_first below part count height name children) = (part, children)

  leaf_entries : {depth at : ℕ} {es : Entries} → PartAt J depth at es → (fields : List LeafEntry) → J at ≡ Some (Record.Leaf fields) → EntriesAt J at fields es
  leaf_entries (leaf_at {at = at} {es = es} others is leaf each) fields held = subst (λ (fs : List LeafEntry). EntriesAt J at fs es) (same_fields (J at) others fields is held) each
  leaf_entries (inode_at {depth = depth} {at = at} children is inode each) fields held = leaf_or_inode (J at) fields depth children held is

  inode_children : {depth at : ℕ} {es : Entries} → PartAt J depth at es → (deep : ℕ) (fields : List InodeChild) → J at ≡ Some (Record.Inode deep fields) → ChildrenAt J depth at fields (children_of depth es)
  inode_children (leaf_at {at = at} others is leaf each) deep fields held = leaf_or_inode (J at) others deep fields is held
  inode_children (inode_at {depth = depth} {at = at} {es = es} others is inode each) deep fields held =
      subst (λ (cs : List InodeChild). ChildrenAt J depth at cs (children_of depth es)) (same_inode (J at) depth deep others fields is held) each

  pub part_found : {depth at : ℕ} {es : Entries} → PartAt J depth at es → (r : Record) × (J at ≡ Some r)
  part_found (leaf_at fields is leaf each) = (Record.Leaf fields, is)
  part_found (inode_at {depth = depth} children is inode each) = (Record.Inode depth children, is)

  -- ---- the records of the parts that were not known

  abbrev pub IsTreePart : ℕ → Record → Type 0
  IsTreePart at (Record.Contents bytes) = Unit {0}
  IsTreePart at (Record.Leaf fields) = IsSomePart J at
  IsTreePart at (Record.Inode depth children) = IsSomePart J at
  IsTreePart at r = ⊥

  abbrev IsTreePartAt : ℕ × Record → Type 0
  IsTreePartAt x = IsTreePart x.0 x.1

  abbrev pub AreTreeParts : Records → Type 0
  AreTreeParts xs = AllByRecursion (λ (x : ℕ × Record). IsTreePart x.0 x.1) xs

  -- what is spelled for a part at this depth, where it is spelled
  abbrev PartsOf : ℕ → Entries → Spelled → Type 0
  PartsOf depth es s = PartAt J depth s.root es → AllHeld J s.records → AreTreeParts s.records

  of_unknown : (k : Option ℕ) (at : ℕ) (depth : ℕ) (es : Entries) (s : Spelled) → PartsOf depth es s → PartsOf depth es (known_or k at s)
  of_unknown (Some root) at depth es s parts part held = tt
  of_unknown None at depth es s parts part held = parts part held

  abbrev DirectoryParts : (Path → Tree → ℕ → Spelled) → Type 0
  DirectoryParts deeper = (path : Path) (sub : Tree) (at : ℕ) → NoneWider entries_limit sub → PartsOf 0 (entries_of sub).entries (deeper path sub at)

  -- ---- the children of an inode

  abbrev ChildParts : (ℕ × Entries → ℕ → Spelled) → ℕ → ℕ × Entries → Type 0
  ChildParts one depth c = (at : ℕ) → PartsOf depth c.1 (one c at)

  children_parts : (one : ℕ × Entries → ℕ → Spelled) (depth : ℕ) (cs : List (ℕ × Entries)) (at bound : ℕ) → AllByRecursion (ChildParts one (suc depth)) cs
      → ChildrenAt J depth bound (spell_children one (suc depth) cs at).fields cs → AllHeld J (spell_children one (suc depth) cs at).records → AreTreeParts (spell_children one (suc depth) cs at).records
  children_parts one depth [] at bound parts each held = tt
  children_parts one depth (c ∷ cs) at bound parts each held =
      let s = one c at in
      let row = spell_children one (suc depth) cs s.next in
      let child = first_child each in
      all_join IsTreePartAt s.records row.records
      (parts.0 at child.0 (held_left J s.records row.records held))
      (children_parts one depth cs s.next bound parts.1 child.1 (held_right J s.records row.records held))

  inode_parts : (one : ℕ × Entries → ℕ → Spelled) (depth : ℕ) (es : Entries) (at : ℕ) → ArePart depth es → AllByRecursion (ChildParts one (suc depth)) (children_of depth es)
      → PartsOf depth es (behind (Record.Inode depth) (spell_children one (suc depth) (children_of depth es) at))
  inode_parts one depth es at are parts part held =
      let row = spell_children one (suc depth) (children_of depth es) at in
      let own = held_right J row.records _ held in
      all_join IsTreePartAt row.records _
      (children_parts one depth (children_of depth es) at row.next parts (inode_children part depth row.fields own.0) (held_left J row.records _ held))
      (is_some_part J are part, tt)

  module _ (offset : Path → ℕ) (deeper : Path → Tree → ℕ → Spelled) (parts : DirectoryParts deeper) (path : Path) where
    entry_parts : (e : Step × Tree) (at bound : ℕ) → NoneWider entries_limit e.1 → EntryAt J bound (entry_record e (spell_entry offset deeper path e at).root) e → AllHeld J (spell_entry offset deeper path e at).records
        → AreTreeParts (spell_entry offset deeper path e at).records
    entry_parts e at bound narrow entry held = by (is_contents e.1) refl entry held
      where
        by : (b : Bool) → is_contents e.1 ≡ b → EntryAt J bound (entry_record e (if b then there_already (offset (path ++ e.0 ∷ [])) at else deeper (path ++ e.0 ∷ []) e.1 at).root) e
            → AllHeld J (if b then there_already (offset (path ++ e.0 ∷ [])) at else deeper (path ++ e.0 ∷ []) e.1 at).records → AreTreeParts (if b then there_already (offset (path ++ e.0 ∷ [])) at else deeper (path ++ e.0 ∷ []) e.1 at).records
        by true c entry held = tt
        by false c entry held = parts (path ++ e.0 ∷ []) e.1 at narrow (directory_in entry c) held

    entries_parts : (es : Entries) (at bound : ℕ) → AllByRecursion (λ (e : Step × Tree). NoneWider entries_limit e.1) es → EntriesAt J bound (spell_entries offset deeper path es at).fields es
        → AllHeld J (spell_entries offset deeper path es at).records → AreTreeParts (spell_entries offset deeper path es at).records
    entries_parts [] at bound narrow each held = tt
    entries_parts (e ∷ es) at bound narrow each held =
        let s = spell_entry offset deeper path e at in
        let row = spell_entries offset deeper path es s.next in
        let entry = first_entry each in
        all_join IsTreePartAt s.records row.records
        (entry_parts e at bound narrow.0 entry.0 (held_left J s.records row.records held))
        (entries_parts es s.next bound narrow.1 entry.1 (held_right J s.records row.records held))

    leaf_parts : (depth : ℕ) (es : Entries) (at : ℕ) → ArePart depth es → PartsOf depth es (behind Record.Leaf (spell_entries offset deeper path es at))
    leaf_parts depth es at are part held =
        let row = spell_entries offset deeper path es at in
        let own = held_right J row.records _ held in
        all_join IsTreePartAt row.records _
        (entries_parts es at row.next (recursion_from_All (λ (e : Step × Tree). NoneWider entries_limit e.1) es are.narrow) (leaf_entries part row.fields own.0) (held_left J row.records _ held))
        (is_some_part J are part, tt)

    part_parts : (v : View) (levels depth : ℕ) (indexes : List ℕ) (es : Entries) (at : ℕ) → levels + depth ≡ 51 → ArePart depth es → PartsOf depth es (spell_part v offset deeper levels path indexes es at)
    part_parts v zero depth indexes es at left are part held =
        of_unknown (v.known (record { path = path; indexes = indexes })) at depth es (behind Record.Leaf (spell_entries offset deeper path es at)) (leaf_parts depth es at are) part held
    part_parts v (suc levels) depth indexes es at left are part held =
        let same : depth ≡ 50 - levels = omega (arith, left) in
        let are : ArePart (50 - levels) es = subst (λ (n : ℕ). ArePart n es) same are in
        let one = (λ (c : ℕ × Entries). spell_part v offset deeper levels path (indexes ++ c.0 ∷ []) c.1) in
        let leaf = behind Record.Leaf (spell_entries offset deeper path es at) in
        let inode = behind (Record.Inode (50 - levels)) (spell_children one (suc (50 - levels)) (children_of (50 - levels) es) at) in
        of_unknown (v.known (record { path = path; indexes = indexes })) at (50 - levels) es (if is_leaf (50 - levels) es then leaf else inode)
        (elim (is_leaf (50 - levels) es) as (λ (b : Bool). PartsOf (50 - levels) es (if b then leaf else inode)) [
          | true ↦ leaf_parts (50 - levels) es at are
          | false ↦ inode_parts one (50 - levels) es at are
              (all_onto (λ (c : ℕ × Entries). ArePart (suc (50 - levels)) c.1) (ChildParts one (suc (50 - levels))) (children_of (50 - levels) es)
              (λ c child a part held. part_parts v levels (suc (50 - levels)) (indexes ++ c.0 ∷ []) c.1 a (omega (arith, left)) child part held)
              (of_children (50 - levels) es are))
        ])
        (subst (λ (n : ℕ). PartAt J n (spell_part v offset deeper (suc levels) path indexes es at).root es) same part) held

  pub directory_parts : (v : View) (offset : Path → ℕ) (h : ℕ) → DirectoryParts (spell_directory v offset h)
  unfolding spell_directory
  directory_parts v offset zero path sub at narrow part held = tt
  directory_parts v offset (suc h) path sub at narrow part held =
      part_parts offset (spell_directory v offset h) (directory_parts v offset h) path v 51 0 [] (entries_of sub).entries at refl (of_directory sub narrow) part held

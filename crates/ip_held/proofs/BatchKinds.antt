-- The records of a batch: contents and parts of directories, then the commit and its branch.
--     batch_served      each is of a kind that is there so far
--     batch_places      one of them is a commit, where the batch says.      batch_commit      it is this one
use Rattle.std.proofs.Common.{◌≡◌, inl, ℕ, zero, suc, Bool, true, false, List, [], ◌∷◌, ◌++◌, map, Option, Some, None, refl, ◌∙◌, ap}
use Rattle.std.specs.Prelude.{◌-◌, All, if◌then◌else◌}
use Rattle.std.specs.List.{AllByRecursion, cons_option}
use Rattle.std.proofs.lemmas.List.Elements.{filter_map-append, recursion_from_All, All-from_recursion}
use Rattle.ip_spec.specs.declared.record.Record.{Record}
use Rattle.ip_spec.specs.declared.record.InodeChild.{InodeChild}
use Rattle.ip_spec.specs.Path.{Step, Path}
use Rattle.ip_spec.specs.Record.{Fits}
use Rattle.ip_spec.specs.Tree.{Tree, entries_of, is_contents, height}
use Rattle.ip_spec.specs.Shape.{Entries, deepest, is_leaf, children_of}
use Rattle.ip_spec.specs.TreeAt.{Records}
use Rattle.ip_spec.specs.View.{View}
use Rattle.ip_spec.specs.Batch.{commit_of, CommitFields, Sources, Spelled, Row, contents_record, contents_offset, contents_end, new_contents, placed, there_already, behind, known_or, spell_entry, spell_entries, spell_children, spell_part, spell_directory, root_spelled, tree_batch, batch}
use Rattle.ip_image.specs.Standing.{IsServedKind}
use Rattle.ip_image.specs.Appending.{AreWithin}
use Rattle.ip_image.proofs.PairLaws.{Has}
use Rattle.ip_image.proofs.StayingRecords.{has_right}
use Rattle.ip_image.proofs.TreeParts.{all_join}
use Rattle.ip_held.specs.Placed.{place_of, places_in}

-- contents, or a part of a directory
abbrev IsPlain : Record → Type 0
IsPlain (Record.Contents bytes) = Unit {0}
IsPlain (Record.Leaf fields) = Unit {0}
IsPlain (Record.Inode depth children) = Unit {0}
IsPlain r = ⊥

abbrev IsPlainAt : ℕ × Record → Type 0
IsPlainAt x = IsPlain x.1

abbrev ArePlain : Records → Type 0
ArePlain xs = AllByRecursion IsPlainAt xs

-- ---- directories

abbrev ArePlainBelow : (Path → Tree → ℕ → Spelled) → Type 0
ArePlainBelow deeper = (path : Path) (sub : Tree) (at : ℕ) → ArePlain (deeper path sub at).records

unknown_plain : (k : Option ℕ) (at : ℕ) (s : Spelled) → ArePlain s.records → ArePlain (known_or k at s).records
unknown_plain (Some root) at s plain = tt
unknown_plain None at s plain = plain

children_plain : (one : ℕ × Entries → ℕ → Spelled) → ((c : ℕ × Entries) (at : ℕ) → ArePlain (one c at).records) → (depth : ℕ) (cs : List (ℕ × Entries)) (at : ℕ) → ArePlain (spell_children one depth cs at).records
children_plain one plain depth [] at = tt
children_plain one plain depth (c ∷ cs) at =
    let s = one c at in all_join IsPlainAt s.records (spell_children one depth cs s.next).records (plain c at) (children_plain one plain depth cs s.next)

module _ (offset : Path → ℕ) (deeper : Path → Tree → ℕ → Spelled) (plain : ArePlainBelow deeper) where
  entry_plain : (path : Path) (e : Step × Tree) (at : ℕ) → ArePlain (spell_entry offset deeper path e at).records
  entry_plain path e at = by (is_contents e.1)
    where
      by : (b : Bool) → ArePlain (if b then there_already (offset (path ++ e.0 ∷ [])) at else deeper (path ++ e.0 ∷ []) e.1 at).records
      by true = tt
      by false = plain (path ++ e.0 ∷ []) e.1 at

  entries_plain : (path : Path) (es : Entries) (at : ℕ) → ArePlain (spell_entries offset deeper path es at).records
  entries_plain path [] at = tt
  entries_plain path (e ∷ es) at =
      let s = spell_entry offset deeper path e at in
      all_join IsPlainAt s.records (spell_entries offset deeper path es s.next).records (entry_plain path e at) (entries_plain path es s.next)

  leaf_plain : (path : Path) (es : Entries) (at : ℕ) → ArePlain (behind Record.Leaf (spell_entries offset deeper path es at)).records
  leaf_plain path es at = all_join IsPlainAt (spell_entries offset deeper path es at).records _ (entries_plain path es at) (tt, tt)

  part_plain : (v : View) (levels : ℕ) (path : Path) (indexes : List ℕ) (es : Entries) (at : ℕ) → ArePlain (spell_part v offset deeper levels path indexes es at).records
  part_plain v zero path indexes es at = unknown_plain (v.known (record { path = path; indexes = indexes })) at _ (leaf_plain path es at)
  part_plain v (suc levels) path indexes es at =
      unknown_plain (v.known (record { path = path; indexes = indexes })) at _ (by (λ c at. part_plain v levels path (indexes ++ c.0 ∷ []) c.1 at) (is_leaf (50 - levels) es))
    where
      one : ℕ × Entries → ℕ → Spelled
      one c = spell_part v offset deeper levels path (indexes ++ c.0 ∷ []) c.1

      row : Row InodeChild
      row = spell_children one (suc (50 - levels)) (children_of (50 - levels) es) at

      inode : Spelled
      inode = behind (Record.Inode (50 - levels)) row

      by : ((c : ℕ × Entries) (at : ℕ) → ArePlain (one c at).records) → (b : Bool) → ArePlain (if b then behind Record.Leaf (spell_entries offset deeper path es at) else inode).records
      by below true = leaf_plain path es at
      by below false = all_join IsPlainAt row.records _ (children_plain one below (suc (50 - levels)) (children_of (50 - levels) es) at) (tt, tt)

directory_plain : (v : View) (offset : Path → ℕ) (h : ℕ) → ArePlainBelow (spell_directory v offset h)
unfolding spell_directory
directory_plain v offset zero path sub at = tt
directory_plain v offset (suc h) path sub at = part_plain offset (spell_directory v offset h) (directory_plain v offset h) v deepest path [] (entries_of sub).entries at

-- ---- the batch

contents_plain : (v : View) (xs : List (Path × ℕ)) → ArePlain (map (λ (x : Path × ℕ). (x.1, contents_record v x.0)) xs)
contents_plain v [] = tt
contents_plain v (x ∷ xs) = (tt, contents_plain v xs)

module _ (v : View) (from : Sources) (f : CommitFields) (end : ℕ) where
  tree_plain : ArePlain (tree_batch v from end)
  unfolding tree_batch
  tree_plain = all_join IsPlainAt (map (λ (x : Path × ℕ). (x.1, contents_record v x.0)) (placed v end (new_contents v from))) (root_spelled v from end).records
      (contents_plain v (placed v end (new_contents v from)))
      (directory_plain v (contents_offset v from end) (suc (height v.map)) [] v.map (contents_end v end (new_contents v from)))

  plain_served : (xs : Records) → ArePlain xs → AllByRecursion (λ (x : ℕ × Record). IsServedKind x.1) xs
  plain_served [] are = tt
  plain_served (x ∷ xs) are = (by x.1 are.0, plain_served xs are.1)
    where
      by : (r : Record) → IsPlain r → IsServedKind r
      by (Record.Contents bytes) is = tt
      by (Record.Leaf fields) is = tt
      by (Record.Inode depth children) is = tt
      by _ is = absurd is

  served : AllByRecursion (λ (x : ℕ × Record). IsServedKind x.1) (batch v from f end)
  unfolding batch
  served = all_join (λ (x : ℕ × Record). IsServedKind x.1) (tree_batch v from end) _ (plain_served (tree_batch v from end) tree_plain) (tt, (tt, tt))

  pub batch_served : (version : ℕ) → All (λ (x : ℕ × Record). Fits version x.1) (batch v from f end) → AreWithin version (batch v from f end)
  batch_served version fit = All-from_recursion (λ (x : ℕ × Record). Fits version x.1 × IsServedKind x.1) (batch v from f end)
      (both (batch v from f end) (recursion_from_All (λ (x : ℕ × Record). Fits version x.1) (batch v from f end) fit) served)
    where
      both : (xs : Records) → AllByRecursion (λ (x : ℕ × Record). Fits version x.1) xs → AllByRecursion (λ (x : ℕ × Record). IsServedKind x.1) xs → AllByRecursion (λ (x : ℕ × Record). Fits version x.1 × IsServedKind x.1) xs
      both [] one other = tt
      both (x ∷ xs) one other = ((one.0, other.0), both xs one.1 other.1)

  no_places : (xs : Records) → ArePlain xs → places_in xs ≡ []
  no_places [] are = refl
  no_places (x ∷ xs) are = by x.0 x.1 are.0 ∙ no_places xs are.1
    where
      by : (at : ℕ) (r : Record) → IsPlain r → cons_option (place_of (at, r)) (places_in xs) ≡ places_in xs
      by at (Record.Contents bytes) is = refl
      by at (Record.Leaf fields) is = refl
      by at (Record.Inode depth children) is = refl
      by at _ is = absurd is

  pub batch_places : places_in (batch v from f end) ≡ (root_spelled v from end).next ∷ []
  unfolding batch
  batch_places = filter_map-append place_of (tree_batch v from end) _ ∙ ap (λ (ps : List ℕ). ps ++ (root_spelled v from end).next ∷ []) (no_places (tree_batch v from end) tree_plain)

  pub batch_commit : Has (batch v from f end) ((root_spelled v from end).next, commit_of v from f end)
  unfolding batch
  batch_commit = has_right (tree_batch v from end) _ ((root_spelled v from end).next, commit_of v from f end) (inl refl)

-- A tree that good records spell: it is lawful, no contents are too long, and no directory has too many entries.
use Rattle.std.proofs.Common.{◌≡◌, ◌⊎◌, inl, inr, ℕ, zero, suc, ◌≤◌, Bool, true, false, cond, List, [], ◌∷◌, length, Option, Some, None, refl, sym, ◌∙◌, ap, subst, arith}
use Rattle.std.proofs.lemmas.Bool.{false≢true}
use Rattle.std.specs.Prelude.{◌&&◌, is_some, IsSome, option_and_then, option_map}
use Rattle.std.specs.List.{AllByRecursion}
use Rattle.std.proofs.lemmas.List.Elements.{recursion_from_All, All-from_recursion}
use Rattle.std.specs.FinMap.Entries.{find}
use Rattle.ip_spec.specs.declared.record.Record.{Record}
use Rattle.ip_spec.specs.declared.record.LeafEntry.{LeafEntry}
use Rattle.ip_spec.specs.Map.{get, len}
use Rattle.ip_spec.specs.Path.{Bytes, Step, Path, bytes_cmp, same_bytes, is_prefix, IsStep, IsPath}
use Rattle.ip_spec.specs.Record.{Fits, IsLeafEntry, reference_kind}
use Rattle.ip_spec.specs.Shape.{Entries, deepest, place}
use Rattle.ip_spec.specs.Step.{contents_limit, entries_limit}
use Rattle.ip_spec.specs.Tree as Tree
use Rattle.ip_spec.specs.Tree.{Tree, IsTree, entries_of, subtree, is_empty, height, widest, tree_runs}
use Rattle.ip_spec.specs.StoredParts.{child_with, entry_by, entry_named, entry_through}
use Rattle.ip_spec.specs.TreeAt.{PartAt, TreeAt, leaf_at, inode_at}
use Rattle.ip_spec.proofs.Unique.{Ordered}
use Rattle.ip_spec.proofs.Subtrees.{get-subtree, get-entries_of, get-contents, same_itself, same_step, empty_is, some_not_empty, subtree_root, subtree_cons}
use Rattle.ip_image.specs.Slot.{newest_version}
use Rattle.ip_image.specs.Standing.{IsServedKind, IsSomePart}
use Rattle.ip_image.proofs.PartEntries.{few_entries}
use Rattle.ip_save.specs.Batches.{HasShortContents}
use Rattle.ip_tree.specs.Meaning.{StoredIs, contents_in, directory_in}
use Rattle.ip_tree.specs.Reads.{FindsEntry, stored_of_entry}
use Rattle.ip_tree.specs.declared.node.Stored.{Stored}
use Rattle.ip_tree.proofs.PartLookups.{through}
use Rattle.ip_tree.proofs.TreeHeights.{directory_height, path_height}
use Rattle.ip_tree.proofs.Trees.{entries_of_contents, entries_of_nothing, nothing_under}
use Rattle.ip_tree.proofs.Widest.{widest_of}

contents_height : (bytes : Bytes) → height (Tree.contents bytes) ≡ 0
unfolding tree_runs
contents_height bytes = refl

module _ (records : ℕ → Option Record) (good : (at : ℕ) (x : Record) → records at ≡ Some x → Fits newest_version x × IsServedKind x)
    (parts : (at : ℕ) (x : Record) → records at ≡ Some x → reference_kind x ≡ 2 → IsSomePart records at) where
  -- contents that are short enough, or a directory
  abbrev Stands : Tree → Type 0
  Stands t = ((b : Bytes) × (t ≡ Tree.contents b) × (length b ≤ contents_limit)) ⊎ ((at : ℕ) × TreeAt records at t)

  stored_stands : {x : Stored} {sub : Tree} → StoredIs records x sub → Stands sub
  stored_stands {x = x} (contents_in bytes is height child) = inl (bytes, refl, (good x.reference.at (Record.Contents bytes) is).0.fields.0)
  stored_stands {x = x} (directory_in sub some spells) = inr (x.reference.at, (some.directory, spells.part))

  stored_low : {x : Stored} {sub : Tree} → StoredIs records x sub → x.height ≤ 63 → height sub ≤ 63
  stored_low (contents_in bytes is height child) low = let none = contents_height bytes in omega (arith, none)
  stored_low (directory_in sub some spells) low = let same = spells.height in let is = directory_height sub some.directory in omega (arith, same, is, low)

  -- ---- entries

  -- an entry of a leaf within its bounds, at the step
  record IsHeld (s : Step) (e : LeafEntry) : Type 0 where
    fits : IsLeafEntry e
    step : s ≡ e.step

  named_held : (s : Step) (fields : List LeafEntry) → AllByRecursion IsLeafEntry fields → (e : LeafEntry) → entry_named s fields ≡ Some e → IsHeld s e
  named_held s [] each e is = absurd (false≢true (ap is_some is))
  named_held s (x ∷ fields) each e is = by (same_bytes s x.step) refl is (named_held s fields each.1 e)
    where
      by : (b : Bool) → same_bytes s x.step ≡ b → cond b (Some x) (entry_named s fields) ≡ Some e → (entry_named s fields ≡ Some e → IsHeld s e) → IsHeld s e
      by true same is later = let one : x ≡ e = cc (is) in subst (IsHeld s) one (record { fits = each.0; step = same_step s x.step same })
      by false same is later = later is

  -- of the record of a part, where those below it are so
  entry_held : (s : Step) (deeper : ℕ → Option LeafEntry) → ((at : ℕ) (e : LeafEntry) → deeper at ≡ Some e → IsHeld s e)
      → (at : ℕ) (o : Option Record) → records at ≡ o → (e : LeafEntry) → entry_by deeper s o ≡ Some e → IsHeld s e
  entry_held s deeper below at (Some (Record.Leaf fields)) is e found = named_held s fields (recursion_from_All IsLeafEntry fields (good at (Record.Leaf fields) is).0.fields.each) e found
  entry_held s deeper below at (Some (Record.Inode depth children)) is e found = by (child_with (place s depth) children) found
    where
      by : (o : Option ℕ) → option_and_then deeper o ≡ Some e → IsHeld s e
      by None found = absurd (false≢true (ap is_some found))
      by (Some o) found = below o e found
  entry_held s deeper below at _ is e found = absurd (false≢true (ap is_some found))

  through_held : (levels : ℕ) (s : Step) (at : ℕ) (e : LeafEntry) → entry_through levels records s at ≡ Some e → IsHeld s e
  through_held zero s at e found = entry_held s (λ at. None) (λ at e none. absurd (false≢true (ap is_some none))) at (records at) refl e found
  through_held (suc levels) s at e found = entry_held s (entry_through levels records s) (through_held levels s) at (records at) refl e found

  -- what an entry of a directory tells
  record Entry (s : Step) (sub : Tree) : Type 0 where
    entry : LeafEntry
    held : IsHeld s entry
    means : StoredIs records (stored_of_entry entry) sub

  part_entry : {at : ℕ} {es : Entries} → PartAt records 0 at es → (s : Step) (sub : Tree) → find bytes_cmp s es ≡ Some sub → Entry s sub
  part_entry {at = at} {es = es} part s sub found = by (entry_through deepest records s at) refl (through records deepest part refl s)
    where
      by : (o : Option LeafEntry) → entry_through deepest records s at ≡ o → FindsEntry records es s (option_map stored_of_entry o) → Entry s sub
      by None is none = absurd (false≢true (ap is_some (sym none ∙ found)))
      by (Some e) is (other, there, means) =
          let same : other ≡ sub = cc (sym there ∙ found) in
          record { entry = e; held = through_held deepest s at e is; means = subst (StoredIs records (stored_of_entry e)) same means }

  part_stands : {at : ℕ} {es : Entries} → PartAt records 0 at es → (s : Step) (sub : Tree) → find bytes_cmp s es ≡ Some sub → Stands sub
  part_stands part s sub found = stored_stands (part_entry part s sub found).means

  -- the record of a directory is a part of some directory, and so of no other one
  part_few : {at : ℕ} {es : Entries} → PartAt records 0 at es → Ordered es → length es ≤ entries_limit
  part_few (leaf_at {at = at} fields is leaf each) ordered = few_entries records {depth = 0} (parts at (Record.Leaf fields) is refl) (leaf_at fields is leaf each) ordered
  part_few (inode_at {at = at} children is many each) ordered = few_entries records {depth = 0} (parts at (Record.Inode 0 children) is refl) (inode_at children is many each) ordered

  -- what stands under it, where something does
  below_stands : (t : Tree) → Stands t → (s : Step) → is_empty (subtree t (s ∷ [])) ≡ false → Stands (subtree t (s ∷ []))
  below_stands t (inr (at, part)) s some = part_stands part.1 s (subtree t (s ∷ [])) (get-entries_of t s ∙ ap (λ b. cond b None (Some (subtree t (s ∷ [])))) some)
  below_stands t (inl (b, is, short)) s some =
      let found : find bytes_cmp s (entries_of t).entries ≡ Some (subtree t (s ∷ [])) = get-entries_of t s ∙ ap (λ b. cond b None (Some (subtree t (s ∷ [])))) some in
      let none : find bytes_cmp s (entries_of t).entries ≡ None = ap (find bytes_cmp s) (ap (λ (u : Tree). (entries_of u).entries) is ∙ entries_of_contents b) in
      absurd (false≢true (ap is_some (sym none ∙ found)))

  stands_short : (t : Tree) → Stands t → (p : Path) (bytes : Bytes) → get t p ≡ Some bytes → length bytes ≤ contents_limit
  stands_short t (inl (b, is, short)) [] bytes found =
      let same : b ≡ bytes = cc (sym (ap (λ (u : Tree). get u []) is ∙ get-contents b [] ∙ ap (λ x. cond x (Some b) None) (same_itself [])) ∙ found) in
      subst (λ (c : Bytes). length c ≤ contents_limit) same short
  stands_short t (inr (at, part)) [] bytes found = absurd (false≢true (sym part.0 ∙ ap is_some found))
  stands_short t stands (s ∷ p) bytes found =
      let below : get (subtree t (s ∷ [])) p ≡ Some bytes = get-subtree t (s ∷ []) p ∙ found in
      stands_short (subtree t (s ∷ [])) (below_stands t stands s (some_not_empty (subtree t (s ∷ [])) p bytes below)) p bytes below

  few_here : (t : Tree) → Stands t → len (entries_of t) ≤ entries_limit
  few_here t (inl (b, is, short)) = let none : len (entries_of t) ≡ 0 = ap length (ap (λ (u : Tree). (entries_of u).entries) is ∙ entries_of_contents b) in omega (arith, none)
  few_here t (inr (at, part)) = part_few part.1 (entries_of t).sorted

  stands_narrow : (t : Tree) → Stands t → (p : Path) → len (entries_of (subtree t p)) ≤ entries_limit
  stands_narrow t stands [] = subst (λ (u : Tree). len (entries_of u) ≤ entries_limit) (sym (subtree_root t)) (few_here t stands)
  stands_narrow t stands (s ∷ p) =
      subst (λ (u : Tree). len (entries_of u) ≤ entries_limit) (sym (subtree_cons t s p)) (by (is_empty (subtree t (s ∷ []))) refl (λ below. stands_narrow (subtree t (s ∷ [])) below p))
    where
      by : (b : Bool) → is_empty (subtree t (s ∷ [])) ≡ b → (Stands (subtree t (s ∷ [])) → len (entries_of (subtree (subtree t (s ∷ [])) p)) ≤ entries_limit) → len (entries_of (subtree (subtree t (s ∷ [])) p)) ≤ entries_limit
      by true e rest =
          let none : len (entries_of (subtree (subtree t (s ∷ [])) p)) ≡ 0 = ap (λ (u : Tree). len (entries_of (subtree u p))) (empty_is (subtree t (s ∷ [])) e) ∙ ap (λ (u : Tree). len (entries_of u)) (nothing_under p) ∙ ap length entries_of_nothing in
          omega (arith, none)
      by false e rest = rest (below_stands t stands s e)

  pub short_contents : (at : ℕ) (t : Tree) → TreeAt records at t → HasShortContents t
  short_contents at t is p bytes found = stands_short t (inr (at, is)) p bytes found

  pub narrow_tree : (at : ℕ) (t : Tree) → TreeAt records at t → widest t ≤ entries_limit
  narrow_tree at t is = widest_of t (stands_narrow t (inr (at, is)))

  -- ---- it is lawful

  -- what stands there is an entry
  found_below : (t : Tree) (s : Step) → is_empty (subtree t (s ∷ [])) ≡ false → find bytes_cmp s (entries_of t).entries ≡ Some (subtree t (s ∷ []))
  found_below t s some = get-entries_of t s ∙ ap (λ b. cond b None (Some (subtree t (s ∷ [])))) some

  part_low : {at : ℕ} {es : Entries} → PartAt records 0 at es → (s : Step) (sub : Tree) → find bytes_cmp s es ≡ Some sub → IsStep s × (height sub ≤ 63)
  part_low part s sub found =
      let is = part_entry part s sub found in
      (subst IsStep (sym is.held.step) is.held.fits.step, stored_low is.means is.held.fits.height)

  below_low : (t : Tree) → Stands t → (s : Step) → is_empty (subtree t (s ∷ [])) ≡ false → IsStep s × (height (subtree t (s ∷ [])) ≤ 63)
  below_low t (inr (at, part)) s some = part_low part.1 s (subtree t (s ∷ [])) (found_below t s some)
  below_low t (inl (b, is, short)) s some =
      let none : find bytes_cmp s (entries_of t).entries ≡ None = ap (find bytes_cmp s) (ap (λ (u : Tree). (entries_of u).entries) is ∙ entries_of_contents b) in
      absurd (false≢true (ap is_some (sym none ∙ found_below t s some)))

  stands_steps : (t : Tree) → Stands t → (p : Path) (bytes : Bytes) → get t p ≡ Some bytes → AllByRecursion IsStep p
  stands_steps t stands [] bytes is = tt
  stands_steps t stands (s ∷ p) bytes is =
      let below : get (subtree t (s ∷ [])) p ≡ Some bytes = get-subtree t (s ∷ []) p ∙ is in
      let some = some_not_empty (subtree t (s ∷ [])) p bytes below in
      ((below_low t stands s some).0, stands_steps (subtree t (s ∷ [])) (below_stands t stands s some) p bytes below)

  stands_apart : (t : Tree) → Stands t → (p q : Path) (b c : Bytes) → get t p ≡ Some b → get t q ≡ Some c → is_prefix p q ≡ true → p ≡ q
  stands_apart t stands [] [] b c here there prefix = refl
  stands_apart t (inr (at, part)) [] (s ∷ q) b c here there prefix = absurd (false≢true (sym part.0 ∙ ap is_some here))
  stands_apart t (inl (d, is, short)) [] (s ∷ q) b c here there prefix = absurd (false≢true (ap is_some (sym (ap (λ (u : Tree). get u (s ∷ q)) is ∙ get-contents d (s ∷ q)) ∙ there)))
  stands_apart t stands (s ∷ p) [] b c here there prefix = absurd (false≢true prefix)
  stands_apart t stands (s ∷ p) (r ∷ q) b c here there prefix =
      let below : get (subtree t (s ∷ [])) p ≡ Some b = get-subtree t (s ∷ []) p ∙ here in
      let stands_below = below_stands t stands s (some_not_empty (subtree t (s ∷ [])) p b below) in
      by (same_bytes s r) refl prefix (λ same deeper. stands_apart (subtree t (s ∷ [])) stands_below p q b c below (get-subtree t (s ∷ []) q ∙ ap (λ (k : Step). get t (k ∷ q)) same ∙ there) deeper)
    where
      by : (x : Bool) → same_bytes s r ≡ x → (x && is_prefix p q) ≡ true → (s ≡ r → is_prefix p q ≡ true → p ≡ q) → s ∷ p ≡ r ∷ q
      by true e both later = let same = same_step s r e in let rest = later same both in (λ i. same i ∷ rest i)
      by false e both later = absurd (false≢true both)

  some_bytes : (o : Option Bytes) → IsSome o → (b : Bytes) × (o ≡ Some b)
  some_bytes None e = absurd (false≢true e)
  some_bytes (Some b) e = (b, refl)

  path_there : (at : ℕ) (t : Tree) → TreeAt records at t → (p : Path) (bytes : Bytes) → get t p ≡ Some bytes → IsPath p
  path_there at t is [] bytes there = absurd (false≢true (sym is.0 ∙ ap is_some there))
  path_there at t is (s ∷ p) bytes there =
      let below : get (subtree t (s ∷ [])) p ≡ Some bytes = get-subtree t (s ∷ []) p ∙ there in
      let low = (below_low t (inr (at, is)) s (some_not_empty (subtree t (s ∷ [])) p bytes below)).1 in
      let long = path_height (subtree t (s ∷ [])) p bytes below in
      record { some = omega arith; short = omega (arith, low, long); each = All-from_recursion IsStep (s ∷ p) (stands_steps t (inr (at, is)) (s ∷ p) bytes there) }

  pub lawful_tree : (at : ℕ) (t : Tree) → TreeAt records at t → IsTree t
  lawful_tree at t is = record {
    prefix_free = λ p q here there prefix. let b = some_bytes (get t p) here in let c = some_bytes (get t q) there in stands_apart t (inr (at, is)) p q b.0 c.0 b.1 c.1 prefix;
    paths = λ p here. let b = some_bytes (get t p) here in path_there at t is p b.0 b.1;
  }

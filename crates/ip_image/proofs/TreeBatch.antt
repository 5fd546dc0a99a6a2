-- The batch of a tree behind the records of a store: each of its records fits behind those before it, and with them they spell the tree.
--     ends_split      records end to end, cut at one of them
--     ends_apart, found_above, found_below      where records lie tells where they are found
--     found_together      what is found in a batch, or else before it
--     TreeBatch terms v from f end old      what the batch has, behind these records
--     tree_behind      a batch has it, where it may refer to what it refers to
use Rattle.std.proofs.Common.{◌≡◌, ℕ, suc, ◌+◌, ◌<◌, ◌≤◌, List, [], ◌∷◌, ◌++◌, refl, sym, ap, subst, ◌∙◌, Option, Some, None, Bool, true, false, cond, length, arith, append_assoc, map}
use Rattle.std.proofs.lemmas.Bool.{false≢true}
use Rattle.std.proofs.lemmas.Cmp.{nat_cmp_total}
use Rattle.std.specs.Prelude.{is_some}
use Rattle.std.specs.Cmp.{tied_itself}
use Rattle.std.specs.Ordering.{is_eq, nat_cmp, eq_by_cmp}
use Rattle.std.specs.FinMap.{nat_cmp-IsAntisymmetric}
use Rattle.std.specs.FinMap.Entries.{find}
use Rattle.ip_spec.specs.declared.record.Record.{Record}
use Rattle.ip_spec.specs.declared.record.LeafEntry.{LeafEntry}
use Rattle.ip_spec.specs.declared.record.InodeChild.{InodeChild}
use Rattle.ip_spec.specs.declared.record.CommitRecord.{CommitRecord}
use Rattle.ip_spec.specs.Path.{Step, Path}
use Rattle.ip_spec.specs.Record.{spelling}
use Rattle.ip_spec.specs.Step.{entries_limit}
use Rattle.ip_spec.specs.Tree.{Tree, IsTree, height}
use Rattle.ip_spec.specs.Shape.{Entries, root_name}
use Rattle.ip_spec.specs.TreeAt.{Records, present, EntryAt, EntriesAt, ChildrenAt, PartAt, TreeAt, contents_at, directory_at, no_entries, entry_first, no_children, child_first, leaf_at, inode_at}
use Rattle.ip_spec.specs.View.{View}
use Rattle.ip_spec.specs.Batch.{CommitFields, Sources, placed, contents_end, contents_record, new_contents, contents_offset, root_spelled, tree_batch, batch_root, batch, batch_end, with_batch, either, AreEndToEnd, KnownStand, SourcesStand}
use Rattle.ip_spec.proofs.TreeAtLaws.{more_part}
use Rattle.ip_spec.proofs.BatchLaws.{batch_lies, tree_stands}
use Rattle.ip_spec.proofs.Spelling.{AllHeld, held_right, some_bytes}
use Rattle.ip_spec.proofs.Widths.{NoneWider}
use Rattle.ip_image.specs.Standing.{Terms, EndToEnd, IsSomePart, RecordFits}
use Rattle.ip_image.proofs.InChunk.{eq_of}
use Rattle.ip_image.proofs.SpelledCommits.{FitCommits, present_front, present_behind}
use Rattle.ip_image.proofs.TreeParts.{IsTreePart, AreTreeParts, part_found, directory_parts}

-- ---- records end to end

pub ends_apart : (f : ℕ → Option ℕ) (from : ℕ) (xs : Records) (to : ℕ) → EndToEnd f from xs to → AreEndToEnd from xs to
ends_apart f from [] to e = e
ends_apart f from (x ∷ xs) to (at, stands, e) = (at, ends_apart f (from + length (spelling x.1)) xs to e)

-- up to a record that lies behind them
ends_split : (from : ℕ) (xs : Records) (y : ℕ × Record) (ys : Records) (to : ℕ) → AreEndToEnd from (xs ++ y ∷ ys) to → AreEndToEnd from xs y.0
ends_split from [] y ys to e = sym e.0
ends_split from (x ∷ xs) y ys to e = (e.0, ends_split (from + length (spelling x.1)) xs y ys to e.1)

ends_on : (from : ℕ) (xs : Records) (to : ℕ) → AreEndToEnd from xs to → from ≤ to
ends_on from [] to e = omega (arith, e)
ends_on from (x ∷ xs) to e = let later = ends_on (from + length (spelling x.1)) xs to e.1 in omega (arith, later)

found_above : (from : ℕ) (xs : Records) (to at : ℕ) (r : Record) → AreEndToEnd from xs to → present xs at ≡ Some r → from ≤ at
found_above from [] to at r e is = absurd (false≢true (ap is_some is))
found_above from (x ∷ xs) to at r (place, e) is = by (eq_by_cmp nat_cmp at x.0) refl is (found_above (from + length (spelling x.1)) xs to at r e)
  where
    by : (b : Bool) → eq_by_cmp nat_cmp at x.0 ≡ b → cond b (Some x.1) (find nat_cmp at xs) ≡ Some r → (find nat_cmp at xs ≡ Some r → from + length (spelling x.1) ≤ at) → from ≤ at
    by true b is later = let same : at ≡ x.0 = nat_cmp-IsAntisymmetric at x.0 (eq_of _ b) in omega (arith, same, place)
    by false b is later = let l = later is in omega (arith, l)

pub found_below : (from : ℕ) (xs : Records) (to at : ℕ) (r : Record) → AreEndToEnd from xs to → present xs at ≡ Some r → at < to
found_below from [] to at r e is = absurd (false≢true (ap is_some is))
found_below from (x ∷ xs) to at r (place, e) is = by (eq_by_cmp nat_cmp at x.0) refl is (found_below (from + length (spelling x.1)) xs to at r e)
  where
    by : (b : Bool) → eq_by_cmp nat_cmp at x.0 ≡ b → cond b (Some x.1) (find nat_cmp at xs) ≡ Some r → (find nat_cmp at xs ≡ Some r → at < to) → at < to
    by true b is later =
        let same : at ≡ x.0 = nat_cmp-IsAntisymmetric at x.0 (eq_of _ b) in
        let some = some_bytes x.1 in
        let end = ends_on (from + length (spelling x.1)) xs to e in
        omega (arith, same, place, some, end)
    by false b is later = later is

found_first : (at : ℕ) (r : Record) (xs : Records) → present ((at, r) ∷ xs) at ≡ Some r
found_first at r xs = ap (λ b. cond b (Some r) (find nat_cmp at xs)) (ap is_eq (tied_itself nat_cmp_total at))

found_later : (x : ℕ × Record) (xs : Records) (at : ℕ) (r : Record) → x.0 < at → present xs at ≡ Some r → present (x ∷ xs) at ≡ Some r
found_later x xs at r l is = by (eq_by_cmp nat_cmp at x.0) refl
  where
    by : (b : Bool) → eq_by_cmp nat_cmp at x.0 ≡ b → cond b (Some x.1) (find nat_cmp at xs) ≡ Some r
    by true b = let same : at ≡ x.0 = nat_cmp-IsAntisymmetric at x.0 (eq_of _ b) in absurd (omega (arith, same, l))
    by false b = is

-- each is found where it lies
each_found : (J : ℕ → Option Record) (from : ℕ) (xs : Records) (to : ℕ) → AreEndToEnd from xs to → ((at : ℕ) (r : Record) → from ≤ at → present xs at ≡ Some r → J at ≡ Some r) → AllHeld J xs
each_found J from [] to e keeps = tt
each_found J from (x ∷ xs) to (at, e) keeps = (
  keeps x.0 x.1 (omega (arith, at)) (found_first x.0 x.1 xs),
  each_found J (from + length (spelling x.1)) xs to e (λ a r l is. let some = some_bytes x.1 in keeps a r (omega (arith, l)) (found_later x xs a r (omega (arith, at, some, l)) is)),
)

-- ---- records behind others

module _ (old new : Records) (end : ℕ) where
  there_behind : ((at : ℕ) (r : Record) → present old at ≡ Some r → at < end) → (at : ℕ) (r : Record) → end ≤ at → present new at ≡ Some r → present (old ++ new) at ≡ Some r
  there_behind below at r l is = present_behind old new at (by (present old at) refl) ∙ is
    where
      by : (o : Option Record) → present old at ≡ o → present old at ≡ None
      by None e = e
      by (Some q) e = let low = below at q e in absurd (omega (arith, l, low))

  -- what is found in a batch, or else before it, is found in the one list
  pub found_together : (to : ℕ) → ((at : ℕ) (r : Record) → present old at ≡ Some r → at < end) → AreEndToEnd end new to → (at : ℕ) (r : Record) → with_batch (present old) new at ≡ Some r → present (old ++ new) at ≡ Some r
  found_together to below ends at r is = by (present new at) refl is
    where
      by : (o : Option Record) → present new at ≡ o → either o (present old at) ≡ Some r → present (old ++ new) at ≡ Some r
      by None e is = present_front old new at r is
      by (Some q) e is = there_behind below at r (found_above end new to at q ends e) (e ∙ is)

-- ---- a part refers to what lies below it

module _ (J K : ℕ → Option Record) (top : ℕ) (keeps : (at : ℕ) (r : Record) → at ≤ top → J at ≡ Some r → K at ≡ Some r) where
  mutual
    less_entry : {at : ℕ} {e : LeafEntry} {x : Step × Tree} → at ≤ top → EntryAt J at e x → EntryAt K at e x
    less_entry low (contents_at {e = e} bytes below is height child) = contents_at bytes below (keeps e.at (Record.Contents bytes) (omega (arith, low, below)) is) height child
    less_entry low (directory_at {e = e} sub below part directory some height child) = directory_at sub below (less_part (omega (arith, low, below)) part) directory some height child

    less_entries : {at : ℕ} {es : List LeafEntry} {xs : Entries} → at ≤ top → EntriesAt J at es xs → EntriesAt K at es xs
    less_entries low no_entries = no_entries
    less_entries low (entry_first e es) = entry_first (less_entry low e) (less_entries low es)

    less_children : {depth at : ℕ} {cs : List InodeChild} {xs : List (ℕ × Entries)} → at ≤ top → ChildrenAt J depth at cs xs → ChildrenAt K depth at cs xs
    less_children low no_children = no_children
    less_children low (child_first {c = c} below part count height name cs) = child_first below (less_part (omega (arith, low, below)) part) count height name (less_children low cs)

    less_part : {depth at : ℕ} {es : Entries} → at ≤ top → PartAt J depth at es → PartAt K depth at es
    less_part low (leaf_at {at = at} fields is leaf each) = leaf_at fields (keeps at (Record.Leaf fields) low is) leaf (less_entries low each)
    less_part low (inode_at {depth = depth} {at = at} children is inode each) = inode_at children (keeps at (Record.Inode depth children) low is) inode (less_children low each)

-- ---- the batch

abbrev pub commit_record : Tree → CommitFields → ℕ → CommitRecord
commit_record tree f root = record { number = f.number; root_name = root_name tree; root_at = root; parents = f.parents; info = f.info }

pub record TreeBatch (terms : Terms) (v : View) (from : Sources) (f : CommitFields) (end : ℕ) (old : Records) : Type 0 where
  pub parts : Records
  pub root : ℕ
  pub commit_at : ℕ
  pub branch_at : ℕ
  pub is : batch v from f end ≡ parts ++ (commit_at, Record.Commit (commit_record v.map f root)) ∷ (branch_at, Record.BranchSet f.number f.branch) ∷ []
  pub fit : FitCommits terms old parts
  pub are_parts : AreTreeParts (present (old ++ parts)) parts
  pub root_below : root < commit_at
  pub spelled : TreeAt (present (old ++ parts)) root v.map

module _ (terms : Terms) (v : View) (from : Sources) (f : CommitFields) (end : ℕ) (old : Records)
    (known : KnownStand (present old) v end) (stand : SourcesStand (present old) v from) (lawful : IsTree v.map) (narrow : NoneWider entries_limit v.map) where
  abbrev parts : Records
  parts = tree_batch v from end

  abbrev commit_at : ℕ
  commit_at = (root_spelled v from end).next

  abbrev commit : Record
  commit = Record.Commit (commit_record v.map f (batch_root v from end).at)

  abbrev branch_at : ℕ
  branch_at = commit_at + length (spelling commit)

  abbrev behind_parts : Records
  behind_parts = (commit_at, commit) ∷ (branch_at, Record.BranchSet f.number f.branch) ∷ []

  whole : batch v from f end ≡ parts ++ behind_parts
  unfolding batch
  whole = refl

  parts_end : AreEndToEnd end parts commit_at
  parts_end = ends_split end parts (commit_at, commit) ((branch_at, Record.BranchSet f.number f.branch) ∷ []) (batch_end v from f end) (subst (λ (xs : Records). AreEndToEnd end xs (batch_end v from f end)) whole (batch_lies v from f end))

  abbrev all : ℕ → Option Record
  all = present (old ++ parts)

  part_there : (at : ℕ) (r : Record) → end ≤ at → present parts at ≡ Some r → all at ≡ Some r
  part_there at r l is = there_behind old parts end known.below at r l is

  root_spelled_there : TreeAt all (batch_root v from end).at v.map
  root_spelled_there =
      let stands = tree_stands (present old) v from end known stand lawful in
      (stands.0, more_part (with_batch (present old) parts) all (found_together old parts end commit_at known.below parts_end) stands.1)

  root_low : (batch_root v from end).at < commit_at
  root_low =
      let found = part_found all root_spelled_there.1 in
      by (present old (batch_root v from end).at) refl found.0 found.1
    where
      by : (o : Option Record) → present old (batch_root v from end).at ≡ o → (r : Record) → all (batch_root v from end).at ≡ Some r → (batch_root v from end).at < commit_at
      by None e r is = found_below end parts commit_at (batch_root v from end).at r parts_end (sym (present_behind old parts (batch_root v from end).at e) ∙ is)
      by (Some q) e r is = let low = known.below (batch_root v from end).at q e in let up = ends_on end parts commit_at parts_end in omega (arith, low, up)

  held : AllHeld all parts
  held = each_found all end parts commit_at parts_end part_there

  abbrev contents : Records
  contents = map (λ (x : Path × ℕ). (x.1, contents_record v x.0)) (placed v end (new_contents v from))

  contents_parts : (xs : List (Path × ℕ)) (later : Records) → AreTreeParts all later → AreTreeParts all (map (λ (x : Path × ℕ). (x.1, contents_record v x.0)) xs ++ later)
  contents_parts [] later are = are
  contents_parts (x ∷ xs) later are = (tt, contents_parts xs later are)

  pieces : parts ≡ contents ++ (root_spelled v from end).records
  unfolding tree_batch
  pieces = refl

  all_parts : AreTreeParts all parts
  all_parts = subst (AreTreeParts all) (sym pieces) (contents_parts (placed v end (new_contents v from)) (root_spelled v from end).records
      (directory_parts all v (contents_offset v from end) (suc (height v.map)) [] v.map (contents_end v end (new_contents v from)) narrow root_spelled_there.1
      (held_right all contents (root_spelled v from end).records (subst (AllHeld all) pieces held))))

  -- ---- each behind those before it

  module _ (before later : Records) (at to : ℕ) (r : Record) (here : before ++ (at, r) ∷ later ≡ old ++ parts) (ends : AreEndToEnd (at + length (spelling r)) later to) where
    found_before : (a : ℕ) (q : Record) → a ≤ at → all a ≡ Some q → present (before ++ (at, r) ∷ []) a ≡ Some q
    found_before a q l is = by (present (before ++ (at, r) ∷ []) a) refl
      where
        there : present ((before ++ (at, r) ∷ []) ++ later) a ≡ Some q
        there = subst (λ (rs : Records). present rs a ≡ Some q) (sym here ∙ sym (append_assoc before ((at, r) ∷ []) later)) is

        by : (o : Option Record) → present (before ++ (at, r) ∷ []) a ≡ o → present (before ++ (at, r) ∷ []) a ≡ Some q
        by None e =
            let above = found_above (at + length (spelling r)) later to a q ends (sym (present_behind (before ++ (at, r) ∷ []) later a e) ∙ there) in
            let some = some_bytes r in
            absurd (omega (arith, l, above, some))
        by (Some p) e = e ∙ sym (present_front (before ++ (at, r) ∷ []) later a p e) ∙ there

    some_part : IsSomePart all at → IsSomePart (present (before ++ (at, r) ∷ [])) at
    some_part (depth, es, part, together, few) = (depth, es, less_part all (present (before ++ (at, r) ∷ [])) at found_before (omega arith) part, together, few)

  one_fits : (before later : Records) (at to : ℕ) (r : Record) → before ++ (at, r) ∷ later ≡ old ++ parts → AreEndToEnd (at + length (spelling r)) later to → IsTreePart all at r → RecordFits terms before at r
  one_fits before later at to (Record.Contents bytes) here ends part = tt
  one_fits before later at to (Record.Leaf fields) here ends part = some_part before later at to (Record.Leaf fields) here ends part
  one_fits before later at to (Record.Inode depth children) here ends part = some_part before later at to (Record.Inode depth children) here ends part
  one_fits before later at to _ here ends part = absurd part

  parts_fit : (before xs : Records) (at to : ℕ) → before ++ xs ≡ old ++ parts → AreEndToEnd at xs to → AreTreeParts all xs → FitCommits terms before xs
  parts_fit before [] at to here ends are = tt
  parts_fit before (x ∷ xs) at to here ends are = (
    one_fits before xs x.0 to x.1 here (subst (λ (n : ℕ). AreEndToEnd (n + length (spelling x.1)) xs to) (sym ends.0) ends.1) are.0,
    parts_fit (before ++ x ∷ []) xs (at + length (spelling x.1)) to (append_assoc before (x ∷ []) xs ∙ here) ends.1 are.1,
  )

  pub tree_behind : TreeBatch terms v from f end old
  tree_behind = record {
    parts = parts;
    root = (batch_root v from end).at;
    commit_at = commit_at;
    branch_at = branch_at;
    is = whole;
    fit = parts_fit old parts end commit_at refl parts_end all_parts;
    are_parts = all_parts;
    root_below = root_low;
    spelled = root_spelled_there;
  }

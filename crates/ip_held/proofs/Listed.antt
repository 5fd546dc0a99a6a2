-- The records of an image, and what a store holds.
--     good_newest, within_fits, places_size      good records are within the bounds of the newest version; and have as many places as commits
--     same_rows, more_records      the rows of an image that goes on, and its records.      space_stays, pair_stays      what calls keep that change no file
--     current_behind, current_on      what is kept of a space stays current where the bytes of the slot's records stay, up to a later end too.      none_current      so it does where nothing is kept
--     readable_of      a store's space is readable.      holds_on      a store holds on what it held, where the live slot and the bytes of its records are as before
--     commits_there      at the store's places stand the records of its commits
--     over, records_good, records_parts, records_below      of the records of the image that a store holds: the space reads them; what each of them is, and of what it is a part; where it lies
--     list_by, list_in      an image with the live slot and the bytes of the records has the same ones
--     same_list, same_records      of two images of which one reads as the other did; and of one image, whichever proof says that it stands
use Rattle.std.proofs.Common.{◌≡◌, ◌≢◌, ◌⊎◌, inl, inr, ℕ, zero, suc, ◌+◌, ◌≤◌, List, [], ◌∷◌, ◌++◌, map, length, refl, sym, ◌∙◌, ap, subst, arith, append_assoc, append-nil, length-append}
use Rattle.std.specs.Prelude.{◌<◌, Bool, true, false, cond, Option, Some, IfSome, slice_get}
use Rattle.std.specs.Ordering.{nat_cmp, eq_by_cmp}
use Rattle.std.specs.List.{AllByRecursion, AllZip}
use Rattle.std.proofs.lemmas.List.Elements.{filter_map-append, recursion_from_All}
use Rattle.ip_ground.specs.declared.names.FileName.{FileName}
use Rattle.ip_ground.specs.declared.names.FileName.TheVariants.{Control, Chunk, Mapping, Prefix}
use Rattle.ip_ground.specs.Contents.{Content, Image, bytes_of}
use Rattle.ip_ground.specs.Told.{Told, IsForeign, IsSynced}
use Rattle.ip_spec.specs.declared.record.Record.{Record}
use Rattle.ip_spec.specs.declared.record.CommitRecord.{CommitRecord}
use Rattle.ip_spec.specs.Record.{Fits, reference_kind, spelling, spelling_of}
use Rattle.ip_spec.specs.Batch.{AreEndToEnd}
use Rattle.ip_spec.specs.Shape.{root_name}
use Rattle.ip_spec.specs.TreeAt.{Records, present}
use Rattle.ip_spec.specs.Repository.{Repository, Commit}
use Rattle.ip_spec.proofs.TreeAtLaws.{more_part}
use Rattle.ip_spec.proofs.Unique.{one_tree}
use Rattle.ip_image.specs.declared.slot.Slot.{Slot}
use Rattle.ip_image.specs.declared.layout.Layout.{Layout}
use Rattle.ip_image.specs.declared.run.Run.{Run}
use Rattle.ip_image.specs.Slot.{IsSlot, IsLive, layout_of, newest_version}
use Rattle.ip_image.specs.declared.run.Row.{Row}
use Rattle.ip_image.specs.Virtual.{run_of, byte_of, mapping_file, chunk_of, place_in_chunk, chunk_byte, virtual_byte}
use Rattle.ip_image.specs.Standing.{EndToEnd, RunByRun, IsServedKind, IsSomePart, IsGood, AreGood, Generation, commit_of, commits_in, Spells, Standing, StandsFor}
use Rattle.ip_image.specs.Stored.{stored}
use Rattle.ip_image.specs.Appending.{SameGeneration, AreWithin}
use Rattle.ip_image.specs.Pending.{HasLive, SameSpace}
use Rattle.ip_image.proofs.OneRepository.{same_record, some_bytes, goes_on, fit_front, fit_back, same_runs, good_fit, same_files, same_some, zero_or_not, all_records}
use Rattle.ip_image.proofs.DamageLaws.{slot_is}
use Rattle.ip_image.proofs.AppendingLaws.{stands_still}
use Rattle.ip_image.proofs.RecordsOn.{records_go_on}
use Rattle.ip_image.proofs.HeadlineLaws.{same_generation_itself}
use Rattle.ip_image.proofs.SpelledCommits.{present_front}
use Rattle.ip_image.proofs.PartEntries.{part_of_good}
use Rattle.ip_image.proofs.PairLaws.{Has, Rises}
use Rattle.ip_image.proofs.KeptRuns.{Ordered}
use Rattle.ip_image.proofs.InChunk.{ordered_below, LiesIn, lies_ordered, lies_on, chunk_lies, chunk_good}
use Rattle.ip_image.proofs.StayingRecords.{has_right, has_present, ordered_rises}
use Rattle.ip_image.proofs.StoredLaws.{standing_stored}
use Rattle.ip_image.proofs.TreeBatch.{ends_apart}
use Rattle.ip_space.specs.SpaceView.{SpaceView, AreCurrent, IsReadable, grown, records_in, records_of}
use Rattle.ip_space.proofs.Current.{same_below, current_grown}
use Rattle.ip_held.specs.declared.held.Held.{Held}
use Rattle.ip_held.specs.Placed.{places_in, IsSpaceOf, IsCommitAt, AreCommitsAt}
use Rattle.ip_tree.specs.Reads.{IsOver}
use Rattle.ip_held.specs.Collecting.{Collects}
use Rattle.ip_held.specs.Held.{OwnsPair, Holds, image_records}
use Rattle.ip_held.specs.Step.{AreNewest}

pub newest : (s : Slot) → IsSlot s → s.version ≡ newest_version
newest s is = let low = is.version_low in let high = is.version_high in omega (arith, low, high)

-- within the bounds of the newest version
pub good_newest : (s : Slot) → IsSlot s → (records : Records) → AreGood s [] records → AreNewest records
good_newest s is records good = subst (λ (v : ℕ). AllByRecursion (λ (x : ℕ × Record). Fits v x.1) records) (newest s is) (good_fit s [] records good)

pub within_fits : (s : Slot) → IsSlot s → (records : Records) → AreWithin s.version records → AreNewest records
within_fits s is records within = by records (subst (λ (v : ℕ). AllByRecursion (λ (x : ℕ × Record). Fits v x.1 × IsServedKind x.1) records) (newest s is) (recursion_from_All (λ (x : ℕ × Record). Fits s.version x.1 × IsServedKind x.1) records within))
  where
    by : (records : Records) → AllByRecursion (λ (x : ℕ × Record). Fits newest_version x.1 × IsServedKind x.1) records → AreNewest records
    by [] all = tt
    by (x ∷ records) all = (all.0.0, by records all.1)

-- each that is found is good
pub good_found : (s : Slot) (before records : Records) → AreGood s before records → (at : ℕ) (x : Record) → present records at ≡ Some x → Fits s.version x × IsServedKind x
good_found s before [] good at x is = absurd (cc (is))
good_found s before (y ∷ records) good at x is = by (eq_by_cmp nat_cmp at y.0) is (good_found s (before ++ y ∷ []) records good.1 at x)
  where
    by : (b : Bool) → cond b (Some y.1) (present records at) ≡ Some x → (present records at ≡ Some x → Fits s.version x × IsServedKind x) → Fits s.version x × IsServedKind x
    by true is later = let same : y.1 ≡ x = cc (is) in subst (λ (z : Record). Fits s.version z × IsServedKind z) same (good.0.bounds, good.0.served)
    by false is later = later is

-- as many places as commits
pub places_size : (records : Records) → length (places_in records) ≡ length (commits_in records)
places_size [] = refl
places_size ((at, Record.Commit c) ∷ records) = ap suc (places_size records)
places_size ((at, Record.Contents bytes) ∷ records) = places_size records
places_size ((at, Record.Leaf es) ∷ records) = places_size records
places_size ((at, Record.Inode depth cs) ∷ records) = places_size records
places_size ((at, Record.BranchSet n name) ∷ records) = places_size records
places_size ((at, Record.BranchRemove name) ∷ records) = places_size records
places_size ((at, Record.BranchTable rows) ∷ records) = places_size records
places_size ((at, Record.TagSet n name) ∷ records) = places_size records
places_size ((at, Record.TagRemove name) ∷ records) = places_size records
places_size ((at, Record.TagTable rows) ∷ records) = places_size records

module _ (image : Image) (s : Slot) (has : HasLive s image) (A : Standing image) where
  pub same_slot : A.slot ≡ s
  same_slot = slot_is image A has.control has.index has.held s has.live

-- ---- where the commits stand

module _ (s : Slot) (all : Records) (rise : Rises all) where
  front_there : (pre rest : Records) → pre ++ rest ≡ all → (at : ℕ) (r : Record) → present pre at ≡ Some r → present all at ≡ Some r
  front_there pre rest is at r there = subst (λ (rs : Records). present rs at ≡ Some r) is (present_front pre rest at r there)

  one_commit : (pre rest : Records) (at : ℕ) (c : CommitRecord) (m : Commit) → pre ++ (at, Record.Commit c) ∷ rest ≡ all → IsGood s pre (at, Record.Commit c) → Spells all c m
      → IsCommitAt (present all) (s.floor + length (commits_in pre)) at m
  one_commit pre rest at c m is good spells =
      let tree = good.fits.root.0 in
      let there = good.fits.root.1 in
      let same : tree ≡ m.tree = one_tree (present all) c.root_at tree m.tree (there.0, more_part (present pre) (present all) (front_there pre ((at, Record.Commit c) ∷ rest) is) there.1) spells.tree in
      record {
        spelled = c;
        here = has_present all (at, Record.Commit c) rise (subst (λ (rs : Records). Has rs (at, Record.Commit c)) is (has_right pre ((at, Record.Commit c) ∷ rest) (at, Record.Commit c) (inl refl)));
        spells = record {
          number = good.fits.number;
          name = spells.name;
          parents = spells.parents;
          info = spells.info;
          root = good.fits.root.2 ∙ ap root_name same;
          tree = spells.tree;
        };
      }

  abbrev CommitsFrom : ℕ → Records → List Commit → Type 0
  CommitsFrom number xs ms = AreCommitsAt (present all) number (places_in xs) ms

  no_more : (pre xs : Records) (x : ℕ × Record) (ms : List Commit) → commits_in (x ∷ []) ≡ [] → CommitsFrom (s.floor + length (commits_in (pre ++ x ∷ []))) xs ms → CommitsFrom (s.floor + length (commits_in pre)) xs ms
  no_more pre xs x ms none are =
      subst (λ (cs : List CommitRecord). CommitsFrom (s.floor + length cs) xs ms) (filter_map-append commit_of pre (x ∷ []) ∙ ap (λ cs. commits_in pre ++ cs) none ∙ append-nil (commits_in pre)) are

  one_more : (pre xs : Records) (at : ℕ) (c : CommitRecord) (ms : List Commit) → CommitsFrom (s.floor + length (commits_in (pre ++ (at, Record.Commit c) ∷ []))) xs ms → CommitsFrom (suc (s.floor + length (commits_in pre))) xs ms
  one_more pre xs at c ms are =
      let cs = ap length (filter_map-append commit_of pre ((at, Record.Commit c) ∷ [])) ∙ length-append (commits_in pre) (c ∷ []) in
      subst (λ (n : ℕ). CommitsFrom n xs ms) (let e : s.floor + length (commits_in (pre ++ (at, Record.Commit c) ∷ [])) ≡ suc (s.floor + length (commits_in pre)) = omega (arith, cs) in e) are

  pub commits_from : (pre xs : Records) (ms : List Commit) → pre ++ xs ≡ all → AreGood s pre xs → AllZip (Spells all) (commits_in xs) ms → CommitsFrom (s.floor + length (commits_in pre)) xs ms
  commits_from pre [] [] is good zip = tt
  commits_from pre [] (m ∷ ms) is good zip = absurd zip
  commits_from pre ((at, Record.Commit c) ∷ xs) [] is good zip = absurd zip
  commits_from pre ((at, Record.Commit c) ∷ xs) (m ∷ ms) is good zip = (
    one_commit pre xs at c m is good.0 zip.0,
    one_more pre xs at c ms (commits_from (pre ++ (at, Record.Commit c) ∷ []) xs ms (append_assoc pre ((at, Record.Commit c) ∷ []) xs ∙ is) good.1 zip.1),
  )
  commits_from pre ((at, Record.Contents bytes) ∷ xs) ms is good zip =
      no_more pre xs (at, Record.Contents bytes) ms refl (commits_from (pre ++ (at, Record.Contents bytes) ∷ []) xs ms (append_assoc pre ((at, Record.Contents bytes) ∷ []) xs ∙ is) good.1 zip)
  commits_from pre ((at, Record.Leaf es) ∷ xs) ms is good zip =
      no_more pre xs (at, Record.Leaf es) ms refl (commits_from (pre ++ (at, Record.Leaf es) ∷ []) xs ms (append_assoc pre ((at, Record.Leaf es) ∷ []) xs ∙ is) good.1 zip)
  commits_from pre ((at, Record.Inode depth cs) ∷ xs) ms is good zip =
      no_more pre xs (at, Record.Inode depth cs) ms refl (commits_from (pre ++ (at, Record.Inode depth cs) ∷ []) xs ms (append_assoc pre ((at, Record.Inode depth cs) ∷ []) xs ∙ is) good.1 zip)
  commits_from pre ((at, Record.BranchSet n name) ∷ xs) ms is good zip =
      no_more pre xs (at, Record.BranchSet n name) ms refl (commits_from (pre ++ (at, Record.BranchSet n name) ∷ []) xs ms (append_assoc pre ((at, Record.BranchSet n name) ∷ []) xs ∙ is) good.1 zip)
  commits_from pre ((at, Record.BranchRemove name) ∷ xs) ms is good zip =
      no_more pre xs (at, Record.BranchRemove name) ms refl (commits_from (pre ++ (at, Record.BranchRemove name) ∷ []) xs ms (append_assoc pre ((at, Record.BranchRemove name) ∷ []) xs ∙ is) good.1 zip)
  commits_from pre ((at, Record.BranchTable rows) ∷ xs) ms is good zip =
      no_more pre xs (at, Record.BranchTable rows) ms refl (commits_from (pre ++ (at, Record.BranchTable rows) ∷ []) xs ms (append_assoc pre ((at, Record.BranchTable rows) ∷ []) xs ∙ is) good.1 zip)
  commits_from pre ((at, Record.TagSet n name) ∷ xs) ms is good zip = absurd good.0.served
  commits_from pre ((at, Record.TagRemove name) ∷ xs) ms is good zip = absurd good.0.served
  commits_from pre ((at, Record.TagTable rows) ∷ xs) ms is good zip = absurd good.0.served

pub nth_commit : (records : ℕ → Option Record) (number : ℕ) (places : List ℕ) (ms : List Commit) → AreCommitsAt records number places ms → (k place : ℕ) (m : Commit) → slice_get places k ≡ Some place → slice_get ms k ≡ Some m → IsCommitAt records (number + k) place m
nth_commit records number [] [] are k place m p q = absurd (cc (p))
nth_commit records number [] (x ∷ ms) are k place m p q = absurd are
nth_commit records number (at ∷ places) [] are k place m p q = absurd are
nth_commit records number (at ∷ places) (x ∷ ms) are zero place m p q =
    let there : at ≡ place = cc (p) in
    let same : x ≡ m = cc (q) in
    let none : number + 0 ≡ number = omega arith in
    subst (λ (n : ℕ). IsCommitAt records n place m) (sym none) (subst (λ (n : ℕ). IsCommitAt records number n m) there (subst (λ (c : Commit). IsCommitAt records number at c) same are.0))
nth_commit records number (at ∷ places) (x ∷ ms) are (suc k) place m p q =
    let next : suc number + k ≡ number + suc k = omega arith in
    subst (λ (n : ℕ). IsCommitAt records n place m) next (nth_commit records (suc number) places ms are.1 k place m p q)

-- ---- an image that goes on

-- what lies end to end up to one place is the front of what does so up to a later one, and the others lie behind it
front_of : (v : ℕ) (f : ℕ → Option ℕ) (from middle to : ℕ) (xs ys : Records) → AllByRecursion (λ (x : ℕ × Record). Fits v x.1) xs → AllByRecursion (λ (x : ℕ × Record). Fits v x.1) ys → EndToEnd f from xs middle → EndToEnd f from ys to → middle ≤ to
    → (rest : Records) × (ys ≡ xs ++ rest) × AreEndToEnd middle rest to
front_of v f from middle to [] ys a b p q le = (ys, refl, subst (λ (n : ℕ). AreEndToEnd n ys to) p (ends_apart f from ys to q))
front_of v f from middle to (x ∷ xs) [] a b p q le = let g = goes_on v f (from + length (spelling x.1)) middle xs p.2 in let some = some_bytes v f x.1 in absurd (omega (arith, q, g, some, le))
front_of v f from middle to (x ∷ xs) (y ∷ ys) a b p q le =
    let one : y.1 ≡ x.1 = same_record v f from y.1 x.1 b.0 a.0 q.1 p.1 in
    let at : y.0 ≡ x.0 = q.0 ∙ sym p.0 in
    let rest = front_of v f (from + length (spelling x.1)) middle to xs ys a.1 b.1 p.2 (subst (λ (z : Record). EndToEnd f (from + length (spelling z)) ys to) one q.2) le in
    (rest.0, (λ i. (at i, one i) ∷ rest.1 i), rest.2)

-- one list of rows stands in two images with the same mapping
one_rows : (image other : Image) (l m : Layout) → m.live ≡ l.live → m.horizon ≡ l.horizon → m.rows ≡ l.rows → (l.live ≢ 0 → other (Mapping l.live) ≡ image (Mapping l.live)) → (xs ys : List Row) → Generation image l xs → Generation other m ys → ys ≡ xs
one_rows image other l m live horizon count kept xs ys first second = by (zero_or_not l.live)
  where
    by : (l.live ≡ 0) ⊎ (l.live ≢ 0) → ys ≡ xs
    by (inl none) = second.none (live ∙ none) ∙ sym (first.none none)
    by (inr some) =
        let M = first.file some in
        let N = second.file (λ none. some (sym live ∙ none)) in
        let file : other (Mapping l.live) ≡ Some (mapping_file l.horizon N.end ys) =
        subst (λ (h : ℕ). other (Mapping l.live) ≡ Some (mapping_file h N.end ys)) horizon (subst (λ (n : ℕ). other (Mapping n) ≡ Some (mapping_file m.horizon N.end ys)) live N.file) in
        same_files l.horizon N.end M.end ys xs N.numbers M.numbers (N.count ∙ count ∙ sym M.count) (same_some (mapping_file l.horizon N.end ys) (mapping_file l.horizon M.end xs) (sym file ∙ kept some ∙ M.file))

module _ (image other : Image) (s t : Slot) (has : HasLive s image) (has' : HasLive t other) (same : SameGeneration s t) (A : Standing image) (B : Standing other) where
  -- the rows of an image that goes on are those of the other, in whatever way both stand
  pub same_rows : (s.live ≢ 0 → other (Mapping s.live) ≡ image (Mapping s.live)) → B.rows ≡ A.rows
  same_rows kept = one_rows image other (layout_of s) (layout_of t) same.live same.horizon same.rows kept A.rows B.rows
      (subst (λ (u : Slot). Generation image (layout_of u) A.rows) (same_slot image s has A) A.generation)
      (subst (λ (u : Slot). Generation other (layout_of u) B.rows) (same_slot other t has' B) B.generation)

  -- where the bytes of the records are the same, its records are those of the other and more end to end behind them, whatever these are
  pub more_records : s.end ≤ t.end → SameSpace s image other → (more : Records) × (B.records ≡ A.records ++ more) × AreEndToEnd s.end more t.end
  unfolding virtual_byte spelling_of
  more_records longer space = (rest.0, high.is ∙ (λ i. kept i ++ rest.1 i) ∙ sym (append_assoc low.kept low.later rest.0) ∙ ap (λ (rs : Records). rs ++ rest.0) (sym low.is ∙ append-nil A.records), rest.2)
    where
      -- the other's slot, which ends where the first does
      u : Slot
      u = record t { end = s.end }

      low : LiesIn (layout_of u) other (A.records ++ [])
      low = lies_on s u image other has.live.fields.none_live.0 (record { version = same.version; chunk = same.chunk; horizon = same.horizon; floor = same.floor; live = same.live; prefix_len = same.prefix_len; rows = same.rows })
          A.records [] (chunk_lies image s has A) refl (record { same = space; added = λ k below. absurd (omega (arith, below)) })

      high : LiesIn (layout_of t) other B.records
      high = chunk_lies other t has' B

      low_fit : AreNewest (low.kept ++ low.later)
      low_fit = subst AreNewest (sym (append-nil A.records) ∙ low.is) (good_newest s has.live.fields A.records (chunk_good image s has A))

      high_fit : AreNewest (high.kept ++ high.later)
      high_fit = subst AreNewest high.is (good_newest t has'.live.fields B.records (chunk_good other t has' B))

      rows : high.rows ≡ low.rows
      rows = one_rows other other (layout_of u) (layout_of t) refl refl refl (λ live. refl) low.rows high.rows low.generation high.generation

      below : ℕ → Option ℕ
      below = virtual_byte other (layout_of t) (map run_of low.rows)

      kept : high.kept ≡ low.kept
      kept = same_runs newest_version below (map run_of low.rows) high.kept low.kept (fit_front newest_version below high.kept high.later high_fit) (fit_front newest_version below low.kept low.later low_fit)
          (subst (λ (rs : List Row). RunByRun (virtual_byte other (layout_of t) (map run_of rs)) (map run_of rs) high.kept) rows high.runs) low.runs

      rest : (rest : Records) × (high.later ≡ low.later ++ rest) × AreEndToEnd s.end rest t.end
      rest = front_of newest_version (chunk_byte t.chunk other) t.horizon s.end t.end low.later high.later
          (fit_back newest_version (chunk_byte t.chunk other) low.kept low.later low_fit) (fit_back newest_version (chunk_byte t.chunk other) high.kept high.later high_fit) low.lies high.lies longer

-- While no file changes but those of children, none of which has a slot's pair, the bytes of the slot's records read as before,
pub space_stays : (s : Slot) (a b : Told) → ((file : FileName) → ¬ IsForeign a file → b.held file ≡ a.held file) → OwnsPair a s → SameSpace s a.held b.held
unfolding chunk_byte
space_stays s a b held owns = record {
  chunks = λ at low high. ap (λ (c : Content). byte_of c (place_in_chunk s.chunk at)) (held (Chunk (chunk_of s.chunk at)) (λ foreign. foreign));
  mapping = λ live. held (Mapping s.live) (owns live).mapping;
  prefix = λ live. held (Prefix s.live) (owns live).prefix;
}

-- and the pair is no child's.
pub pair_stays : (s : Slot) (a b : Told) → ((file : FileName) → ¬ IsForeign a file → ¬ IsForeign b file) → OwnsPair a s → OwnsPair b s
pair_stays s a b own owns live = record { mapping = own (Mapping s.live) (owns live).mapping; prefix = own (Prefix s.live) (owns live).prefix }

-- ---- what a store holds

pub current_behind : (s : Slot) (image other : Image) (space : SpaceView) (end : ℕ) → IsSpaceOf s space → s.end ≤ end → SameSpace s image other → AreCurrent (records_in image space) space.kept → AreCurrent (records_in other (grown space end)) space.kept
current_behind s image other space end of further same current =
    let ends = ap (λ (l : Layout). l.end) of.layout in
    current_grown image other space end (omega (arith, ends, further)) (same_below s image other space of.layout of.runs same) current

pub current_on : (s : Slot) (image other : Image) (space : SpaceView) → IsSpaceOf s space → SameSpace s image other → AreCurrent (records_in image space) space.kept → AreCurrent (records_in other space) space.kept
current_on s image other space of same current = current_grown image other space space.layout.end (omega arith) (same_below s image other space of.layout of.runs same) current

pub none_current : (records : ℕ → Option Record) (kept : List (ℕ × Record)) → kept ≡ [] → AreCurrent records kept
none_current records kept none = subst (AreCurrent records) (sym none) (λ at r there. let within = there.1 in absurd (omega (arith, within)))

pub readable_of : (store : Held) (r : Repository) (told : Told) → Holds store told r → IsReadable told store.space
readable_of store r told holds =
    let live : store.space.layout.live ≡ store.slot.live = ap (λ (l : Layout). l.live) holds.tables.space.layout in
    record {
      own = λ some. subst (λ (n : ℕ). ¬ IsForeign told (Prefix n)) (sym live) (holds.pair (λ none. some (live ∙ none))).prefix;
      none = λ none. holds.tables.space.runs (sym live ∙ none);
      kept = holds.current;
    }

-- an image with the live slot and all bytes of the records has the same ones, in whatever way it stands
pub list_by : (image other : Image) (s : Slot) (A : Standing image) → HasLive s image → HasLive s other → SameSpace s image other → (B : Standing other) → B.records ≡ A.records
unfolding spelling_of
list_by image other s A has live same B =
    records_go_on image other s s [] A B has live (same_generation_itself s) refl (λ k d low. absurd (omega (arith, low)))
    (record { same = same; added = λ k low. absurd (omega (arith, low)) }) ∙ append-nil A.records

module _ (store : Held) (told : Told) (r : Repository) (holds : Holds store told r) where
  abbrev A : Standing told.held
  A = holds.stands.standing

  has : HasLive store.slot told.held
  has = record {
    control = A.control;
    index = store.index;
    held = A.held;
    live = subst (λ (content : Content). IsLive (bytes_of content) store.index store.slot) A.held holds.live;
  }

  slot_here : A.slot ≡ store.slot
  slot_here = same_slot told.held store.slot has A

  -- ---- the records of the image

  -- each is one of the store's space
  pub records_held : (at : ℕ) (x : Record) → image_records holds at ≡ Some x → records_of told store.space at ≡ Some x
  records_held at x is =
      subst (λ (l : Layout). stored told.held l store.space.runs at ≡ Some x) (sym holds.tables.space.layout)
      (subst (λ (rs : List Run). stored told.held (layout_of store.slot) rs at ≡ Some x) (sym holds.runs)
      (subst (λ (t : Slot). stored told.held (layout_of t) (map run_of A.rows) at ≡ Some x) slot_here (standing_stored told.held A at x is)))

  pub over : IsOver told store.space (image_records holds)
  over = record { readable = readable_of store r told holds; held = records_held }

  pub good_here : AreGood store.slot [] A.records
  good_here = subst (λ (t : Slot). AreGood t [] A.records) slot_here A.good

  -- each is within its bounds, and of a kind that is there so far
  pub records_good : (at : ℕ) (x : Record) → image_records holds at ≡ Some x → Fits newest_version x × IsServedKind x
  records_good at x is =
      let good = good_found store.slot [] A.records good_here at x is in
      (subst (λ (v : ℕ). Fits v x) (newest store.slot holds.tables.slot) good.0, good.1)

  -- a leaf or an inode is a part of some directory
  pub records_parts : (at : ℕ) (x : Record) → image_records holds at ≡ Some x → reference_kind x ≡ 2 → IsSomePart (image_records holds) at
  records_parts at x is kind = part_of_good store.slot [] A.records good_here at x is kind

  pub records_ordered : Ordered 0 A.records store.slot.end
  records_ordered = lies_ordered told.held (layout_of store.slot) has.live.fields.horizon A.records (chunk_lies told.held store.slot has A)

  -- each is found
  pub found_here : (x : ℕ × Record) → Has A.records x → image_records holds x.0 ≡ Some x.1
  found_here x has = has_present A.records x (ordered_rises 0 A.records store.slot.end records_ordered) has

  -- and lies below the end
  pub records_below : (at : ℕ) (x : Record) → image_records holds at ≡ Some x → at < store.slot.end
  records_below at x is = ordered_below 0 A.records store.slot.end at x records_ordered is

  pub commits_there : AreCommitsAt (image_records holds) r.floor store.places r.commits
  commits_there =
      let of = holds.tables in
      subst (λ (ps : List ℕ). AreCommitsAt (present A.records) r.floor ps r.commits) (sym holds.places)
      (subst (λ (n : ℕ). AreCommitsAt (present A.records) n (places_in A.records) r.commits) (let f = of.floor in omega (arith, f))
      (commits_from store.slot A.records (ordered_rises 0 A.records store.slot.end records_ordered) [] A.records r.commits refl good_here holds.stands.commits))

  pub list_in : (image : Image) → HasLive store.slot image → SameSpace store.slot told.held image → (B : Standing image) → B.records ≡ A.records
  list_in image live same B = list_by told.held image store.slot A has live same B

  -- while all bytes of the records and the live slot are as before
  module _ (new : Told) (control : new.held Control ≡ told.held Control) (same : SameSpace store.slot told.held new.held) where
    has_new : HasLive store.slot new.held
    has_new = record { control = has.control; index = has.index; held = control ∙ has.held; live = has.live }

    pub same_list : (B : Standing new.held) → B.records ≡ A.records
    same_list B = list_in new.held has_new same B

    pub holds_on : IsSynced new Control → OwnsPair new store.slot → IfSome store.collection (Collects new store.slot A.records r) → Holds store new r
    holds_on kept owns collects =
        let stands : StandsFor new.held r = stands_still told.held new.held r store.slot store.slot holds.stands has has_new (same_generation_itself store.slot) refl refl same in
        record {
          tables = holds.tables;
          stands = stands;
          live = subst (λ (content : Content). IsLive (bytes_of content) store.index store.slot) (sym control) holds.live;
          kept = kept;
          pair = owns;
          runs = holds.runs ∙ ap (map run_of) (sym (same_rows told.held new.held store.slot store.slot has has_new (same_generation_itself store.slot) A stands.standing same.mapping));
          places = holds.places ∙ ap places_in (sym (same_list stands.standing));
          collects = subst (λ (rs : Records). IfSome store.collection (Collects new store.slot rs r)) (sym (same_list stands.standing)) collects;
          current = current_on store.slot told.held new.held store.space holds.tables.space same holds.current;
        }

-- ---- two ways to hold

pub same_records : (told : Told) (one other : Held) (q r : Repository) (holds : Holds one told q) (holds' : Holds other told r) → image_records holds ≡ image_records holds'
same_records told one other q r holds holds' = ap (λ (rs : Records). present rs) (all_records told.held holds.stands.standing holds'.stands.standing)

-- The law of a tree of any depth, on two commits: `set a/b 02`, and then `set c 01`. The directory `a` is known to the second one, and so is what stands there:
-- its batch has neither.
use Rattle.std.proofs.Common.{◌≡◌, ◌≢◌, inl, inr, ℕ, zero, ◌+◌, ◌<◌, ◌≤◌, List, [], ◌∷◌, ◌++◌, refl, sym, ap, subst, ◌∙◌, Option, Some, None, Bool, true, false, T, lit<, lit≤, arith, length}
use Rattle.std.proofs.lemmas.Bool.{false≢true, true≢false}
use Rattle.std.proofs.lemmas.List.Elements.{All-from_recursion}
use Rattle.std.specs.Prelude.{codes, IsTrue, is_some, slice_get, not, ◌&&◌, ◌==◌}
use Rattle.std.specs.List.{list_all}
use Rattle.sha2.specs.Sha256.{sha256}
use Rattle.ip_ground.specs.Contents.{Image}
use Rattle.ip_ground.specs.declared.names.FileName.TheVariants.{Control, Chunk}
use Rattle.ip_spec.specs.declared.record.Record.{Record}
use Rattle.ip_spec.specs.declared.record.LeafEntry.{LeafEntry}
use Rattle.ip_spec.specs.declared.record.CommitRecord.{CommitRecord}
use Rattle.ip_spec.specs.declared.record.Parent.{Parent}
use Rattle.ip_spec.specs.Map.{get}
use Rattle.ip_spec.specs.Path.{Bytes, Path, IsStep, IsWordByte, same_path}
use Rattle.ip_spec.specs.Record.{Fits, IsLeafEntry, IsHash, IsU64}
use Rattle.ip_spec.specs.Tree as Tree
use Rattle.ip_spec.specs.Tree.{Tree, IsTree, subtree, entries_of, is_contents}
use Rattle.ip_spec.specs.Shape.{root_name, part, shape_runs}
use Rattle.ip_spec.specs.TreeAt.{Records, present, PartAt, leaf_at, contents_at, entry_first, no_entries}
use Rattle.ip_spec.specs.View.{View, Part}
use Rattle.ip_spec.specs.Batch.{CommitFields, AreEndToEnd, KnownStand, SourcesStand, sources, batch, batch_end, batch_runs}
use Rattle.ip_spec.proofs.BatchLaws.{sources_stand}
use Rattle.ip_spec.specs.Repository.{Repository, no_repository, is_retained}
use Rattle.ip_spec.specs.Step.{new_commit, with_commit, step_runs}
use Rattle.ip_spec.proofs.Subtrees.{lawful_put, same_as}
use Rattle.ip_image.specs.Slot.{Slot, IsSlot, layout_of, fresh, slot_bytes}
use Rattle.ip_image.specs.Virtual.{chunk_byte}
use Rattle.ip_image.specs.Standing.{StandsFor, IsServedKind}
use Rattle.ip_image.specs.Collection.{image_runs}
use Rattle.ip_image.specs.Pending.{HasLive}
use Rattle.ip_image.specs.Appending.{SameGeneration, AddsBytes, unread, MayGrow, fields_of, bytes_of_records, AreWithin}
use Rattle.ip_image.proofs.OneRepository.{good_fit, same_stretch}
use Rattle.ip_image.proofs.InChunk.{lies_in_chunk, lies_below, chunk_lies, chunk_good, first_chunk_byte}
use Rattle.ip_image.proofs.TreeBatch.{found_below}
use Rattle.ip_image.proofs.AppendingLaws.{stands_grown}
use Rattle.ip_image.proofs.KeptRuns.{get_front, get_behind}
use Rattle.ip_image.proofs.StoreExample.{info, is_info, is_main, is_hash, are_bytes, each, is_word_byte, step_byte}
use Rattle.ip_image.proofs.AppendingExample.{fresh_image, starts, fresh_live, no_lawful, none_below, nothing_known, same_generation}

-- ---- the trees, and what the second one knows

abbrev at_a : Path
at_a = codes "a" ∷ []

abbrev at_b : Path
at_b = codes "a" ∷ codes "b" ∷ []

abbrev at_c : Path
at_c = codes "c" ∷ []

abbrev first_tree : Tree
first_tree = Tree.put Tree.no_tree at_b (2 ∷ [])

abbrev second_tree : Tree
second_tree = Tree.put first_tree at_c (1 ∷ [])

abbrev known_by : List ℕ → Bool → Bool → Option ℕ
known_by [] true b = Some 6
known_by [] false true = Some 0
known_by [] false false = None
known_by (i ∷ indexes) a b = None

abbrev second_view : View
second_view = record { map = second_tree; oldest = Some 0; known = λ (x : Part). known_by x.indexes (same_path x.path at_a) (same_path x.path at_b) }

-- ---- the records

abbrev below : List LeafEntry
below = record { step = codes "b"; kind = 1; height = 0; name = sha256 (2 ∷ []); at = 0 } ∷ []

abbrev directory : LeafEntry
directory = record { step = codes "a"; kind = 2; height = 1; name = root_name (subtree first_tree at_a); at = 6 }

abbrev beside : LeafEntry
beside = record { step = codes "c"; kind = 1; height = 0; name = sha256 (1 ∷ []); at = 197 }

abbrev after_first : Repository
after_first = with_commit no_repository (new_commit no_repository first_tree [] info) (codes "main")

abbrev after_second : Repository
after_second = with_commit after_first (new_commit after_first second_tree (0 ∷ []) info) (codes "main")

abbrev first_commit : CommitRecord
first_commit = record { number = 0; root_name = root_name first_tree; root_at = 59; parents = []; info = info }

abbrev second_commit : CommitRecord
second_commit = record { number = 1; root_name = root_name second_tree; root_at = 203; parents = record { number = 0; name = (new_commit no_repository first_tree [] info).name } ∷ []; info = info }

abbrev first_records : Records
first_records = (0, Record.Contents (2 ∷ [])) ∷ (6, Record.Leaf below) ∷ (59, Record.Leaf (directory ∷ [])) ∷ (112, Record.Commit first_commit) ∷ (179, Record.BranchSet 0 (codes "main")) ∷ []

abbrev second_records : Records
second_records = (197, Record.Contents (1 ∷ [])) ∷ (203, Record.Leaf (directory ∷ beside ∷ [])) ∷ (300, Record.Commit second_commit) ∷ (407, Record.BranchSet 1 (codes "main")) ∷ []

abbrev first_fields : CommitFields
first_fields = fields_of no_repository [] info (codes "main")

abbrev second_fields : CommitFields
second_fields = fields_of after_first (0 ∷ []) info (codes "main")

first_batch : batch (unread first_tree) (sources (unread first_tree)) first_fields 0 ≡ first_records
unfolding batch_runs image_runs step_runs
first_batch = refl

first_end : batch_end (unread first_tree) (sources (unread first_tree)) first_fields 0 ≡ 197
unfolding batch_runs image_runs step_runs
first_end = refl

second_batch : batch second_view (sources second_view) second_fields 197 ≡ second_records
unfolding batch_runs image_runs step_runs
second_batch = refl

second_end : batch_end second_view (sources second_view) second_fields 197 ≡ 425
unfolding batch_runs image_runs step_runs
second_end = refl

-- ---- the images

abbrev first_slot : Slot
first_slot = record (fresh 4096) { sequence = 2; end = 197; next = 1 }

abbrev second_slot : Slot
second_slot = record (fresh 4096) { sequence = 3; end = 425; next = 2 }

abbrev first_chunk : Bytes
first_chunk = bytes_of_records first_records

abbrev second_chunk : Bytes
second_chunk = first_chunk ++ bytes_of_records second_records

first_image : Image
first_image Control = Some (slot_bytes (fresh 4096) ++ slot_bytes first_slot)
first_image (Chunk zero) = Some first_chunk
first_image file = None

second_image : Image
second_image Control = Some (slot_bytes second_slot ++ slot_bytes first_slot)
second_image (Chunk zero) = Some second_chunk
second_image file = None

allowed : (sequence end next : ℕ) → 1 ≤ sequence → sequence ≤ 3 → end ≤ 425 → next ≤ end → IsSlot (record (fresh 4096) { sequence = sequence; end = end; next = next })
allowed sequence end next low high short few = record {
  version_low = lit≤ tt;
  version_high = lit≤ tt;
  chunk = (12, lit≤ tt, lit≤ tt, refl);
  sequence_low = low;
  sequence_high = omega (arith, high);
  horizon = omega arith;
  ends = omega (arith, short);
  floor = omega arith;
  next = few;
  live = lit≤ tt;
  next_attempt = lit≤ tt;
  prefix_len = lit≤ tt;
  rows = lit≤ tt;
  first_attempt_low = lit≤ tt;
  first_attempt_high = lit≤ tt;
  first_attempt_live = λ h. absurd (h refl);
  first_chunk = lit≤ tt;
  none_live = (λ _. refl, λ _. refl);
  nothing_below = λ _. (refl, refl, refl);
}

first_live : HasLive first_slot first_image
unfolding image_runs first_image
first_live = record {
  control = slot_bytes (fresh 4096) ++ slot_bytes first_slot;
  index = 1;
  held = refl;
  live = record { index = refl; one = refl; bytes = refl; fields = allowed 2 197 1 (lit≤ tt) (lit≤ tt) (lit≤ tt) (lit≤ tt) };
}

second_live : HasLive second_slot second_image
unfolding image_runs second_image
second_live = record {
  control = slot_bytes second_slot ++ slot_bytes first_slot;
  index = 0;
  held = refl;
  live = record { index = refl; one = refl; bytes = refl; fields = allowed 3 425 2 (lit≤ tt) (lit≤ tt) (lit≤ tt) (lit≤ tt) };
}

-- ---- what the commits are made of

step_of : (s : Bytes) → 0 < length s → length s ≤ 255 → T (list_all (λ b. not (b == 47) && is_word_byte b) s) → IsStep s
step_of s some short bytes = record { some = some; short = short; each = each (λ b. IsWordByte b × (b ≢ 47)) (λ b. not (b == 47) && is_word_byte b) step_byte s bytes }

is_a : IsStep (codes "a")
is_a = step_of (codes "a") (lit< tt) (lit≤ tt) tt

is_b : IsStep (codes "b")
is_b = step_of (codes "b") (lit< tt) (lit≤ tt) tt

is_c : IsStep (codes "c")
is_c = step_of (codes "c") (lit< tt) (lit≤ tt) tt

first_lawful : IsTree first_tree
first_lawful = lawful_put Tree.no_tree at_b (2 ∷ []) no_lawful (record { some = lit< tt; short = lit≤ tt; each = All-from_recursion IsStep at_b (is_a, (is_b, tt)) })

second_lawful : IsTree second_tree
second_lawful = lawful_put first_tree at_c (1 ∷ []) first_lawful (record { some = lit< tt; short = lit≤ tt; each = All-from_recursion IsStep at_c (is_c, tt) })

first_may : MayGrow no_repository first_tree [] info (codes "main")
unfolding step_runs
first_may = record {
  is_tree = first_lawful;
  narrow = lit≤ tt;
  retained = λ k d l. absurd (none_below k l);
  distinct = λ i j d low high. absurd (none_below j high);
  few = lit≤ tt;
  is_info = is_info;
  is_branch = is_main;
  new_name = refl;
  room = lit≤ tt;
}

second_may : MayGrow after_first second_tree (0 ∷ []) info (codes "main")
unfolding step_runs
second_may = record {
  is_tree = second_lawful;
  narrow = lit≤ tt;
  retained = All-from_recursion (λ n. IsTrue (is_retained after_first n)) (0 ∷ []) (refl, tt);
  distinct = λ i j d low high. absurd (omega (arith, low, high));
  few = lit≤ tt;
  is_info = is_info;
  is_branch = is_main;
  new_name = refl;
  room = lit≤ tt;
}

-- ---- the bounds of the records

is_below : IsLeafEntry (record { step = codes "b"; kind = 1; height = 0; name = sha256 (2 ∷ []); at = 0 })
unfolding image_runs
is_below = record { step = is_b; kind = inl refl; height = lit≤ tt; name = is_hash (sha256 (2 ∷ [])) refl tt; at = lit< tt }

is_directory : IsLeafEntry directory
unfolding image_runs shape_runs
is_directory = record { step = is_a; kind = inr refl; height = lit≤ tt; name = is_hash (root_name (subtree first_tree at_a)) refl tt; at = lit< tt }

is_beside : IsLeafEntry beside
unfolding image_runs
is_beside = record { step = is_c; kind = inl refl; height = lit≤ tt; name = is_hash (sha256 (1 ∷ [])) refl tt; at = lit< tt }

abbrev IsWithin : ℕ × Record → Type 0
IsWithin x = Fits 1 x.1 × IsServedKind x.1

first_within : AreWithin 1 first_records
unfolding image_runs shape_runs
first_within = All-from_recursion IsWithin first_records (
  (record { size = lit< tt; fields = (lit≤ tt, are_bytes (2 ∷ []) tt) }, tt),
  (
    (record { size = lit< tt; fields = record { count = lit< tt; each = All-from_recursion IsLeafEntry below (is_below, tt); rising = refl } }, tt),
    (
      (record { size = lit< tt; fields = record { count = lit< tt; each = All-from_recursion IsLeafEntry (directory ∷ []) (is_directory, tt); rising = refl } }, tt),
      (
        (record { size = lit< tt; fields = record { number = lit< tt; root_name = is_hash (root_name first_tree) refl tt; root_at = lit< tt; parents = lit≤ tt; each = All-from_recursion _ [] tt; info = is_info } }, tt),
        ((record { size = lit< tt; fields = (lit< tt, is_main) }, tt), tt),
      ),
    ),
  ),
)

second_within : AreWithin 1 second_records
unfolding image_runs shape_runs step_runs
second_within = All-from_recursion IsWithin second_records (
  (record { size = lit< tt; fields = (lit≤ tt, are_bytes (1 ∷ []) tt) }, tt),
  (
    (record { size = lit< tt; fields = record { count = lit< tt; each = All-from_recursion IsLeafEntry (directory ∷ beside ∷ []) (is_directory, (is_beside, tt)); rising = refl } }, tt),
    (
      (
        record {
          size = lit< tt;
          fields = record {
            number = lit< tt;
            root_name = is_hash (root_name second_tree) refl tt;
            root_at = lit< tt;
            parents = lit≤ tt;
            each = All-from_recursion (λ (p : Parent). IsU64 p.number × IsHash p.name) second_commit.parents ((lit< tt, is_hash (new_commit no_repository first_tree [] info).name refl tt), tt);
            info = is_info;
          };
        },
        tt,
      ),
      ((record { size = lit< tt; fields = (lit< tt, is_main) }, tt), tt),
    ),
  ),
)

-- ---- the first commit

nothing_before : starts.standing.records ≡ []
nothing_before = same_stretch 1 (chunk_byte 4096 fresh_image) 0 0 starts.standing.records [] (good_fit (fresh 4096) [] starts.standing.records (chunk_good fresh_image (fresh 4096) fresh_live starts.standing)) tt
    (lies_in_chunk (layout_of (fresh 4096)) fresh_image starts.standing.records refl refl (chunk_lies fresh_image (fresh 4096) fresh_live starts.standing)) refl

first_known : KnownStand (present starts.standing.records) (unread first_tree) 0
first_known = nothing_known (present starts.standing.records) first_tree 0
    (λ at r is. lies_below fresh_image (layout_of (fresh 4096)) (lit≤ tt) starts.standing.records (chunk_lies fresh_image (fresh 4096) fresh_live starts.standing) at r is)

first_length : length first_chunk ≡ 197
unfolding image_runs shape_runs
first_length = refl

first_adds : AddsBytes (fresh 4096) first_chunk fresh_image first_image
unfolding first_image
first_adds = record {
  same = record { chunks = λ at low high. absurd (none_below at high); mapping = λ some. absurd (some refl); prefix = λ some. absurd (some refl) };
  added = λ k l. first_chunk_byte first_image (0 + k) (omega (arith, l, first_length)) ∙ get_behind [] first_chunk k;
}

the_first : (stands : StandsFor first_image after_first) × (stands.standing.records ≡ starts.standing.records ++ batch (unread first_tree) (sources (unread first_tree)) first_fields 0)
the_first = stands_grown fresh_image first_image no_repository (fresh 4096) first_slot (unread first_tree) (sources (unread first_tree)) [] info (codes "main") starts fresh_live first_may first_known
    (sources_stand (present starts.standing.records) (unread first_tree) 0 first_known)
    (subst (AreWithin 1) (sym first_batch) first_within) first_live (same_generation 2 197 1) (sym first_end) refl
    (subst (λ (rs : Records). AddsBytes (fresh 4096) (bytes_of_records rs) fresh_image first_image) (sym first_batch) first_adds)

first_holds : the_first.0.standing.records ≡ first_records
first_holds = the_first.1 ∙ (λ i. nothing_before i ++ first_batch i)

-- ---- the second, over the first one's directory

known_at : (p : Path) (indexes : List ℕ) → second_view.known (record { path = p; indexes = indexes }) ≡ known_by indexes (same_path p at_a) (same_path p at_b)
known_at p indexes = refl

the_directory : PartAt (present first_records) 0 6 (part (entries_of (subtree second_tree at_a)).entries [])
unfolding image_runs shape_runs
the_directory = leaf_at below refl refl (entry_first (contents_at (2 ∷ []) (lit< tt) refl refl refl) no_entries)

no_contents : get second_tree at_a ≡ None
unfolding shape_runs
no_contents = refl

the_contents : get second_tree at_b ≡ Some (2 ∷ [])
unfolding shape_runs
the_contents = refl

is_no_directory : is_contents (subtree second_tree at_b) ≡ true
unfolding shape_runs
is_no_directory = refl

first_ends : AreEndToEnd 0 first_records 197
unfolding image_runs shape_runs
first_ends = (refl, (refl, (refl, (refl, (refl, refl)))))

second_known : KnownStand (present first_records) second_view 197
second_known = record {
  below = λ at r is. found_below 0 first_records 197 at r first_ends is;
  bytes = λ p at b known is. bytes p at b (same_path p at_a) (same_path p at_b) refl refl known is;
  parts = λ p indexes at known is. parts p indexes at (same_path p at_a) (same_path p at_b) refl refl known is;
}
  where
    some_same : {A : Type 0} (x y : A) → Some x ≡ Some y → x ≡ y
    some_same x y e = cc

    bytes : (p : Path) (at : ℕ) (b : Bytes) (x y : Bool) → same_path p at_a ≡ x → same_path p at_b ≡ y → known_by [] x y ≡ Some at → get second_tree p ≡ Some b → present first_records at ≡ Some (Record.Contents b)
    bytes p at b true y x_is y_is known is = absurd (false≢true (ap is_some (sym no_contents ∙ ap (get second_tree) (sym (same_as p at_a x_is)) ∙ is)))
    bytes p at b false true x_is y_is known is =
        let place : 0 ≡ at = some_same 0 at known in
        let same : 2 ∷ [] ≡ b = some_same (2 ∷ []) b (sym the_contents ∙ ap (get second_tree) (sym (same_as p at_b y_is)) ∙ is) in
        subst (λ (n : ℕ). present first_records n ≡ Some (Record.Contents b)) place (ap (λ (c : Bytes). Some (Record.Contents c)) same)
    bytes p at b false false x_is y_is known is = absurd (false≢true (ap is_some known))

    parts : (p : Path) (indexes : List ℕ) (at : ℕ) (x y : Bool) → same_path p at_a ≡ x → same_path p at_b ≡ y → known_by indexes x y ≡ Some at → is_contents (subtree second_tree p) ≡ false
        → PartAt (present first_records) (length indexes) at (part (entries_of (subtree second_tree p)).entries indexes)
    parts p [] at true y x_is y_is known is =
        subst (λ (q : Path). PartAt (present first_records) 0 at (entries_of (subtree second_tree q)).entries) (sym (same_as p at_a x_is))
        (subst (λ (n : ℕ). PartAt (present first_records) 0 n (entries_of (subtree second_tree at_a)).entries) (some_same 6 at known) the_directory)
    parts p [] at false true x_is y_is known is = absurd (true≢false (sym is_no_directory ∙ ap (λ (q : Path). is_contents (subtree second_tree q)) (sym (same_as p at_b y_is)) ∙ is))
    parts p [] at false false x_is y_is known is = absurd (false≢true (ap is_some known))
    parts p (i ∷ indexes) at x y x_is y_is known is = absurd (false≢true (ap is_some known))

second_length : length (bytes_of_records second_records) ≡ 228
unfolding image_runs shape_runs
second_length = refl

second_adds : AddsBytes first_slot (bytes_of_records second_records) first_image second_image
unfolding first_image second_image
second_adds = record {
  same = record {
    chunks = λ at low high. first_chunk_byte second_image at (omega (arith, high)) ∙ get_front first_chunk (bytes_of_records second_records) at (subst (λ (n : ℕ). at < n) (sym first_length) high)
        ∙ sym (first_chunk_byte first_image at (omega (arith, high)));
    mapping = λ some. absurd (some refl);
    prefix = λ some. absurd (some refl);
  };
  added = λ k l. first_chunk_byte second_image (197 + k) (omega (arith, l, second_length)) ∙ ap (λ n. slice_get second_chunk (n + k)) (sym first_length) ∙ get_behind first_chunk (bytes_of_records second_records) k;
}

on_from_first : SameGeneration first_slot second_slot
on_from_first = record { version = refl; chunk = refl; horizon = refl; floor = refl; live = refl; prefix_len = refl; rows = refl }

the_second : (stands : StandsFor second_image after_second) × (stands.standing.records ≡ the_first.0.standing.records ++ batch second_view (sources second_view) second_fields 197)
the_second = stands_grown first_image second_image after_first first_slot second_slot second_view (sources second_view) (0 ∷ []) info (codes "main") the_first.0 first_live second_may
    (subst (λ (rs : Records). KnownStand (present rs) second_view 197) (sym first_holds) second_known)
    (subst (λ (rs : Records). SourcesStand (present rs) second_view (sources second_view)) (sym first_holds) (sources_stand (present first_records) second_view 197 second_known))
    (subst (AreWithin 1) (sym second_batch) second_within) second_live on_from_first (sym second_end) refl
    (subst (λ (rs : Records). AddsBytes first_slot (bytes_of_records rs) first_image second_image) (sym second_batch) second_adds)

the_records_of_both : the_second.0.standing.records ≡ first_records ++ second_records
the_records_of_both = the_second.1 ∙ (λ i. first_holds i ++ second_batch i)

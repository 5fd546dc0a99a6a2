-- The store with its only commit, collected at it twice. A table goes behind its records, and the valid pair with a horizon at the commit takes the place of
-- the bytes below; then, over this generation, another table comes while a collection goes on, and its pair takes the place of the first one.
use Rattle.std.proofs.Common.{◌≡◌, ℕ, zero, suc, ◌+◌, ◌^◌, ◌<◌, ◌≤◌, [], ◌∷◌, ◌++◌, refl, sym, ap, subst, inl, inr, ◌∙◌, Some, None, true, length, drop, arith, lit<, lit≤}
use Rattle.std.specs.Prelude.{codes, All, List, map, slice_get}
use Rattle.std.proofs.lemmas.List.Elements.{All-from_recursion}
use Rattle.ip_spec.specs.declared.record.Record.{Record}
use Rattle.ip_spec.specs.declared.record.Branch.{Branch}
use Rattle.ip_ground.specs.declared.names.FileName.TheVariants.{Control, Chunk, Prefix, Mapping}
use Rattle.ip_ground.specs.Contents.{Image}
use Rattle.ip_spec.specs.Path.{Bytes}
use Rattle.ip_spec.specs.Record.{Fits, spelling, IsBranchName, IsU64}
use Rattle.ip_spec.specs.TreeAt.{Records, present}
use Rattle.ip_spec.specs.Shape.{shape_runs}
use Rattle.ip_spec.specs.Core.{CorePhase, FollowOn, core_records}
use Rattle.ip_spec.specs.Repository.{Repository}
use Rattle.ip_spec.specs.Step.{collected_at, step_runs}
use Rattle.ip_image.specs.Slot.{Slot, IsSlot, slot_bytes}
use Rattle.ip_image.specs.Virtual.{chunk_byte, mapping_bytes}
use Rattle.ip_image.specs.Standing.{Standing, StandsFor, row_of}
use Rattle.ip_image.specs.Collection.{IsKept, kept_bytes, runs_of, Pair, IsValid, image_runs}
use Rattle.ip_image.specs.Pending.{HasLive, SameChunks}
use Rattle.ip_image.specs.Appending.{SameGeneration, AddsBytes}
use Rattle.ip_image.specs.Collected.{HasTable, IsCollectable, IsSwapped, remaining}
use Rattle.ip_image.proofs.DamageLaws.{slot_is}
use Rattle.ip_image.proofs.PairLaws.{Has}
use Rattle.ip_image.proofs.InChunk.{first_chunk_byte}
use Rattle.ip_image.proofs.KeptRuns.{get_front, get_behind}
use Rattle.ip_image.proofs.StoreExample as Store
use Rattle.ip_image.proofs.StoreExample.{the_commit, repository, is_main}
use Rattle.ip_image.proofs.ValidExample as Valid
use Rattle.ip_image.proofs.Renaming.{stands_tabled}
use Rattle.ip_image.proofs.CoreTies.{image_rises, kept_on, collection_starts, collection_goes_on}
use Rattle.ip_image.proofs.SwapLaws.{stands_collected}

-- ---- the table

abbrev rows : List Branch
rows = record { name = codes "main"; number = 0 } ∷ []

abbrev the_table : Record
the_table = Record.BranchTable rows

abbrev table_bytes : Bytes
table_bytes = 7 ∷ 15 ∷ 0 ∷ 0 ∷ 0 ∷ 1 ∷ 0 ∷ 4 ∷ 109 ∷ 97 ∷ 105 ∷ 110 ∷ 0 ∷ 0 ∷ 0 ∷ 0 ∷ 0 ∷ 0 ∷ 0 ∷ 0 ∷ []

all_branches : map row_of rows ≡ repository.branches.entries
unfolding step_runs
all_branches = refl

table_fits : Fits 1 the_table
unfolding image_runs shape_runs
table_fits = record { size = lit< tt; fields = record { count = lit≤ tt; each = All-from_recursion (λ (row : Branch). IsBranchName row.name × IsU64 row.number) rows ((is_main, lit< tt), tt); rising = refl } }

table_length : length (spelling the_table) ≡ 20
unfolding image_runs shape_runs
table_length = refl

table_spelled : spelling the_table ≡ table_bytes
unfolding image_runs shape_runs
table_spelled = refl

-- ---- the slots

abbrev slot : Slot
slot = record Store.slot { sequence = 3; end = 164; next_attempt = 2 }

fields : IsSlot slot
fields = record {
  version_low = lit≤ tt;
  version_high = lit≤ tt;
  chunk = (12, lit≤ tt, lit≤ tt, refl);
  sequence_low = lit≤ tt;
  sequence_high = lit≤ tt;
  horizon = lit≤ tt;
  ends = lit≤ tt;
  floor = lit≤ tt;
  next = lit≤ tt;
  live = lit≤ tt;
  next_attempt = lit≤ tt;
  prefix_len = lit≤ tt;
  rows = lit≤ tt;
  first_attempt_low = lit≤ tt;
  first_attempt_high = lit≤ tt;
  first_attempt_live = λ h. absurd (h refl);
  first_chunk = lit≤ tt;
  none_live = (λ _. refl, λ _. refl);
  nothing_below = λ _. (refl, refl, refl);
}

-- with a generation: 59 bytes below the commit, in one run
abbrev generation_slot : ℕ → ℕ → ℕ → ℕ → Slot
generation_slot sequence end live next_attempt = record slot { sequence = sequence; horizon = 59; end = end; live = live; next_attempt = next_attempt; prefix_len = 59; rows = 1 }

generation_fields : (sequence end live next_attempt : ℕ) → 1 ≤ sequence → sequence ≤ 2 ^ 62 → 59 ≤ end → end ≤ 2 ^ 62 → 1 ≤ live → live < next_attempt → next_attempt ≤ 2 ^ 62 → IsSlot (generation_slot sequence end live next_attempt)
generation_fields sequence end live next_attempt low high long short some drawn few = record {
  version_low = lit≤ tt;
  version_high = lit≤ tt;
  chunk = (12, lit≤ tt, lit≤ tt, refl);
  sequence_low = low;
  sequence_high = high;
  horizon = long;
  ends = short;
  floor = lit≤ tt;
  next = omega (arith, long);
  live = drawn;
  next_attempt = few;
  prefix_len = lit< tt;
  rows = lit< tt;
  first_attempt_low = lit≤ tt;
  first_attempt_high = omega (arith, some, drawn);
  first_attempt_live = λ _. some;
  first_chunk = lit≤ tt;
  none_live = (λ e. absurd (omega (arith, e, some)), λ e. absurd (omega (arith, e)));
  nothing_below = λ e. absurd (omega (arith, e, some));
}

-- ---- the first table

abbrev pair : Pair
pair = record { mapping = mapping_bytes 59 164 (record { at = 0; length = 59 } ∷ []); prefix = kept_bytes Valid.kept }

chunk0 : Bytes
chunk0 = Store.chunk0 ++ table_bytes

control : Bytes
control = slot_bytes slot ++ drop 128 Store.control

abbrev image : Image
image Control = Some control
image (Chunk zero) = Some chunk0
image file = None

has_live : HasLive slot image
unfolding control image_runs
has_live = record { control = control; index = 0; held = refl; live = record { index = refl; one = refl; bytes = refl; fields = fields } }

old_live : HasLive Store.slot Store.image
old_live = record { control = Store.control; index = 1; held = refl; live = Store.live }

first_adds : AddsBytes Store.slot (spelling the_table) Store.image image
unfolding chunk0
first_adds = record {
  same = record { chunks = λ at low high. first_chunk_byte image at (omega (arith, high)) ∙ get_front Store.chunk0 table_bytes at high ∙ sym (first_chunk_byte Store.image at (omega (arith, high))); mapping = λ some. absurd (some refl); prefix = λ some. absurd (some refl) };
  added = subst (λ (bytes : Bytes). (k : ℕ) → k < length bytes → chunk_byte 4096 image (144 + k) ≡ slice_get bytes k) (sym table_spelled)
      (λ k l. first_chunk_byte image (144 + k) (omega (arith, l)) ∙ get_behind Store.chunk0 table_bytes k);
}

first_generation : SameGeneration Store.slot slot
first_generation = record { version = refl; chunk = refl; horizon = refl; floor = refl; live = refl; prefix_len = refl; rows = refl }

tabled : (after : StandsFor image repository) × (after.standing.records ≡ Store.a_stored_commit_stands_for_its_repository.standing.records ++ (144, the_table) ∷ [])
tabled = stands_tabled Store.image image repository Store.slot slot rows Store.a_stored_commit_stands_for_its_repository old_live all_branches table_fits has_live first_generation (ap (λ (n : ℕ). 144 + n) (sym table_length)) refl first_adds

tabled_records : tabled.0.standing.records ≡ Valid.records
tabled_records = tabled.1 ∙ ap (λ (rs : Records). rs ++ (144, the_table) ∷ []) Store.the_records

-- ---- what a collection rests on

mapping_is : pair.mapping ≡ mapping_bytes 59 164 (runs_of Valid.kept)
unfolding image_runs shape_runs
mapping_is = refl

abbrev valid_by : (records : Records) → IsKept records 59 164 Valid.kept → IsValid records 59 164 pair
valid_by records is = record { kept = Valid.kept; each = is; mapping = mapping_is; prefix = refl }

none_behind : All (λ (e : Bytes × ℕ). 0 ≤ e.1) repository.branches.entries
none_behind = λ k d l. omega arith

some_table : HasTable 59 Valid.records
some_table = record { at = 144; rows = rows; above = lit≤ tt; here = refl }

-- over these records up to the end of a slot that ends behind the first table
module _ (image : Image) (s : Slot) (live : HasLive s image) (end : s.end ≡ 164) (A : Standing image) (is : A.records ≡ Valid.records) where
  slot_here : A.slot ≡ s
  slot_here = slot_is image A live.control live.index live.held s live.live

  kept_here : IsKept A.records 59 164 Valid.kept
  kept_here = subst (λ (rs : Records). IsKept rs 59 164 Valid.kept) (sym is) Valid.is_kept

  end_here : A.slot.end ≡ 164
  end_here = ap (λ (u : Slot). u.end) slot_here ∙ end

  starts_here : IsCollectable A.records repository A.slot.horizon 0 59 A.slot.end (0 ∷ 6 ∷ []) true
  starts_here = collection_starts image A repository the_commit 59 Valid.kept true (subst (λ (rs : Records). present rs 59 ≡ Some (Record.Commit the_commit)) (sym is) refl) none_behind
      (subst (HasTable 59) (sym is) some_table) (subst (λ (n : ℕ). IsKept A.records 59 n Valid.kept) (sym end_here) kept_here)

  collectable : IsCollectable A.records repository s.horizon 0 59 164 (0 ∷ 6 ∷ []) true
  collectable = subst (λ (u : Slot). IsCollectable A.records repository u.horizon 0 59 164 (0 ∷ 6 ∷ []) true) slot_here
      (subst (λ (n : ℕ). IsCollectable A.records repository A.slot.horizon 0 59 n (0 ∷ 6 ∷ []) true) end_here starts_here)

-- ---- the first swap

abbrev swapped_slot : Slot
swapped_slot = generation_slot 4 164 1 2

swapped_control : Bytes
swapped_control = slot_bytes slot ++ slot_bytes swapped_slot

abbrev swapped_image : Image
swapped_image Control = Some swapped_control
swapped_image (Chunk zero) = Some chunk0
swapped_image (Mapping (suc zero)) = Some pair.mapping
swapped_image (Prefix (suc zero)) = Some pair.prefix
swapped_image file = None

swapped_live : HasLive swapped_slot swapped_image
unfolding swapped_control image_runs
swapped_live = record {
  control = swapped_control;
  index = 1;
  held = refl;
  live = record { index = refl; one = refl; bytes = refl; fields = generation_fields 4 164 1 2 (lit≤ tt) (lit≤ tt) (lit≤ tt) (lit≤ tt) (lit≤ tt) (lit< tt) (lit≤ tt) };
}

prefix_length : length pair.prefix ≡ 59
unfolding image_runs shape_runs
prefix_length = refl

kept_runs : length (runs_of Valid.kept) ≡ 1
unfolding image_runs shape_runs
kept_runs = refl

first_swap : IsSwapped slot swapped_slot 0 59 1 Valid.kept pair
first_swap = record { version = refl; chunk = refl; horizon = refl; end = refl; floor = refl; next = refl; live = refl; prefix_len = sym prefix_length; rows = sym kept_runs }

first_chunks : SameChunks 4096 59 164 image swapped_image
first_chunks = λ at low high. first_chunk_byte swapped_image at (omega (arith, high)) ∙ sym (first_chunk_byte image at (omega (arith, high)))

-- the only commit stays
nothing_given_up : collected_at repository 0 ≡ repository
unfolding step_runs
nothing_given_up = refl

abbrev StandsBy : Image → Records → Repository → Type 0
StandsBy image records r = (after : StandsFor image r) × (after.standing.records ≡ records)

first_collected : StandsBy swapped_image (remaining 59 Valid.kept tabled.0.standing.records) repository
first_collected = subst (StandsBy swapped_image (remaining 59 Valid.kept tabled.0.standing.records)) nothing_given_up
    (stands_collected image swapped_image repository slot swapped_slot 0 59 164 1 (0 ∷ 6 ∷ []) true pair tabled.0 has_live swapped_live
    (collectable image slot has_live refl tabled.0.standing tabled_records) (lit≤ tt)
    (valid_by tabled.0.standing.records (kept_here image slot has_live refl tabled.0.standing tabled_records)) first_swap refl refl first_chunks)

-- all are there that were: what is kept lies in the prefix
first_left : first_collected.0.standing.records ≡ Valid.records
first_left = first_collected.1 ∙ ap (remaining 59 Valid.kept) tabled_records

-- ---- another table, over the generation

abbrev longer_slot : Slot
longer_slot = generation_slot 5 184 1 3

longer_control : Bytes
longer_control = slot_bytes longer_slot ++ slot_bytes swapped_slot

longer_chunk0 : Bytes
longer_chunk0 = chunk0 ++ table_bytes

abbrev longer_image : Image
longer_image Control = Some longer_control
longer_image (Chunk zero) = Some longer_chunk0
longer_image (Mapping (suc zero)) = Some pair.mapping
longer_image (Prefix (suc zero)) = Some pair.prefix
longer_image file = None

longer_live : HasLive longer_slot longer_image
unfolding longer_control image_runs
longer_live = record {
  control = longer_control;
  index = 0;
  held = refl;
  live = record { index = refl; one = refl; bytes = refl; fields = generation_fields 5 184 1 3 (lit≤ tt) (lit≤ tt) (lit≤ tt) (lit≤ tt) (lit≤ tt) (lit< tt) (lit≤ tt) };
}

chunk_length : length chunk0 ≡ 164
unfolding chunk0
chunk_length = refl

second_adds : AddsBytes swapped_slot (spelling the_table) swapped_image longer_image
unfolding longer_chunk0
second_adds = record {
  same = record { chunks = λ at low high. first_chunk_byte longer_image at (omega (arith, high)) ∙ get_front chunk0 table_bytes at (subst (λ (n : ℕ). at < n) (sym chunk_length) high) ∙ sym (first_chunk_byte swapped_image at (omega (arith, high))); mapping = λ some. refl; prefix = λ some. refl };
  added = subst (λ (bytes : Bytes). (k : ℕ) → k < length bytes → chunk_byte 4096 longer_image (164 + k) ≡ slice_get bytes k) (sym table_spelled)
      (λ k l. first_chunk_byte longer_image (164 + k) (omega (arith, l)) ∙ ap (λ (n : ℕ). slice_get (chunk0 ++ table_bytes) (n + k)) (sym chunk_length) ∙ get_behind chunk0 table_bytes k);
}

same_generation : SameGeneration swapped_slot longer_slot
same_generation = record { version = refl; chunk = refl; horizon = refl; floor = refl; live = refl; prefix_len = refl; rows = refl }

abbrev second_table : Records
second_table = (164, the_table) ∷ []

longer : StandsBy longer_image (first_collected.0.standing.records ++ second_table) repository
longer = stands_tabled swapped_image longer_image repository swapped_slot longer_slot rows first_collected.0 swapped_live all_branches table_fits longer_live same_generation (ap (λ (n : ℕ). 164 + n) (sym table_length)) refl second_adds

-- the collection began before it
second_behind : All (λ (x : ℕ × Record). 164 ≤ x.0) second_table
second_behind = All-from_recursion (λ (x : ℕ × Record). 164 ≤ x.0) second_table (lit≤ tt, tt)

follows : FollowOn (core_records Valid.records) (CorePhase.collecting 59 (0 ∷ 6 ∷ []) true) (core_records second_table)
unfolding image_runs shape_runs
follows = (record { at = refl; some = lit< tt; room = lit≤ tt; refs = tt }, tt)

began : IsCollectable first_collected.0.standing.records repository 59 0 59 164 (0 ∷ 6 ∷ []) true
began = collectable swapped_image swapped_slot swapped_live refl first_collected.0.standing first_left

went_on : IsCollectable (first_collected.0.standing.records ++ second_table) repository 59 0 59 164 (0 ∷ 6 ∷ []) true
went_on = collection_goes_on first_collected.0.standing.records second_table repository repository 59 0 59 164 (0 ∷ 6 ∷ []) true began
    (subst (λ (rs : Records). FollowOn (core_records rs) (CorePhase.collecting 59 (0 ∷ 6 ∷ []) true) (core_records second_table)) (sym first_left) follows) second_behind none_behind

kept_still : IsKept (first_collected.0.standing.records ++ second_table) 59 164 Valid.kept
kept_still =
    let A = first_collected.0.standing in
    kept_on A.slot A.records (image_rises swapped_image A) A.good 59 164 Valid.kept (kept_here swapped_image swapped_slot swapped_live refl A first_left) second_table (lit≤ tt) behind
  where
    behind : (x : ℕ × Record) → Has second_table x → 164 ≤ x.0
    behind x (inl is) = subst (λ (z : ℕ × Record). 164 ≤ z.0) is (lit≤ tt)
    behind x (inr none) = absurd none

-- ---- the second swap

abbrev last_slot : Slot
last_slot = generation_slot 6 184 2 3

last_control : Bytes
last_control = slot_bytes longer_slot ++ slot_bytes last_slot

abbrev last_image : Image
last_image Control = Some last_control
last_image (Chunk zero) = Some longer_chunk0
last_image (Mapping (suc (suc zero))) = Some pair.mapping
last_image (Prefix (suc (suc zero))) = Some pair.prefix
last_image file = None

last_live : HasLive last_slot last_image
unfolding last_control image_runs
last_live = record {
  control = last_control;
  index = 1;
  held = refl;
  live = record { index = refl; one = refl; bytes = refl; fields = generation_fields 6 184 2 3 (lit≤ tt) (lit≤ tt) (lit≤ tt) (lit≤ tt) (lit≤ tt) (lit< tt) (lit≤ tt) };
}

second_swap : IsSwapped longer_slot last_slot 0 59 2 Valid.kept pair
second_swap = record { version = refl; chunk = refl; horizon = refl; end = refl; floor = refl; next = refl; live = refl; prefix_len = sym prefix_length; rows = sym kept_runs }

second_chunks : SameChunks 4096 59 184 longer_image last_image
unfolding chunk_byte
second_chunks = λ at low high. refl

collected_again : StandsFor last_image (collected_at repository 0)
collected_again = (stands_collected longer_image last_image repository longer_slot last_slot 0 59 164 2 (0 ∷ 6 ∷ []) true pair longer.0 longer_live last_live
    (subst (λ (rs : Records). IsCollectable rs repository 59 0 59 164 (0 ∷ 6 ∷ []) true) (sym longer.1) went_on) (lit≤ tt)
    (valid_by longer.0.standing.records (subst (λ (rs : Records). IsKept rs 59 164 Valid.kept) (sym longer.1) kept_still)) second_swap refl refl second_chunks).0

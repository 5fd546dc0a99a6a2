-- An image stands for what its live slot, its live pair and its chunks hold.
--     LiesIn l image records      the records lie in the live prefix, and from the horizon on in the chunks.      lies_in_chunk      where no generation is live, in the chunks alone
--     lies_of_whole, whole_of_lies      so they fill the stretches, and what fills them lies so
--     lies_ordered, lies_below, lies_above      they lie in order, below the end, and behind the horizon of a generation lies something
--     lies_on      they lie so in an image that has their bytes and those of more behind them.      one_lies      the same records lie in one image
--     InChunk s image r      the records of an image, and the repository that they and the slot stand for
--     in_chunk, stands_by      what stands for a repository has it there; and what has it there stands for it
--     same_in_chunk, same_standing      by the same records
--     chunk_lies, chunk_good      the records of an image that stands, there.      space_filled      from the horizon to the end no byte is missing
--     ends_append, ends_filled      records that lie end to end, behind others; no byte of theirs is missing
--     ordered_below      records in order are present below their end.      byte_is, byte_inside, all_inside      the bytes of a file, and how far they go
--     first_chunk_byte      in chunks of 4096 bytes the first places are those of the first chunk
use Rattle.std.proofs.Common.{◌≡◌, ◌≢◌, ◌⊎◌, inl, inr, ℕ, ◌+◌, ◌-◌, ◌<◌, ◌≤◌, List, [], ◌∷◌, ◌++◌, refl, sym, ap, subst, ◌∙◌, Option, Some, None, Bool, true, false, cond, length, arith, append_assoc, length-append, map}
use Rattle.std.proofs.lemmas.Bool.{false≢true, cases_lt}
use Rattle.std.proofs.lemmas.Option.{slice_get-get_or, slice_get_within}
use Rattle.std.specs.Prelude.{is_some, IsSome, IsSomeAnd, slice_get}
use Rattle.std.specs.List.{AllByRecursion, AllZip}
use Rattle.std.specs.Option.{option_and_then}
use Rattle.std.specs.Ordering.{nat_cmp, eq_by_cmp, is_eq}
use Rattle.std.specs.FinMap.{nat_cmp-IsAntisymmetric}
use Rattle.std.specs.FinMap.Entries.{find}
use Rattle.std.specs.declared.cmp.Ordering.{Ordering}
use Rattle.std.specs.declared.cmp.Ordering.TheVariants.{Less, Equal, Greater}
use Rattle.ip_ground.specs.declared.names.FileName.TheVariants.{Chunk}
use Rattle.ip_ground.specs.Contents.{Content, Image, bytes_of, size_of}
use Rattle.ip_spec.specs.declared.record.Record.{Record}
use Rattle.ip_spec.specs.Path.{Bytes}
use Rattle.ip_spec.specs.Record.{Names, Fits, spelling, spelling_of}
use Rattle.ip_spec.specs.Batch.{AreEndToEnd}
use Rattle.ip_spec.specs.TreeAt.{Records, present}
use Rattle.ip_spec.specs.Repository.{Repository}
use Rattle.ip_image.specs.Slot.{Slot, Layout, layout_of}
use Rattle.ip_image.specs.Virtual.{Run, Row, Stands, run_of, mapping_file, locate, byte_of, chunk_of, place_in_chunk, chunk_byte, virtual_byte}
use Rattle.ip_image.specs.Standing.{EndToEnd, RunByRun, AreGood, WholeFits, Generation, stretches, named, commits_in, Spells, Standing, StandsFor}
use Rattle.ip_image.specs.Pending.{HasLive, SameSpace}
use Rattle.ip_image.specs.Appending.{SameGeneration, AddsBytes, bytes_of_records}
use Rattle.ip_image.proofs.OneRepository.{some_bytes, zero_or_not, same_runs, same_files, same_some}
use Rattle.ip_image.proofs.DamageLaws.{slot_is}
use Rattle.ip_image.proofs.KeptRuns.{Ordered, ordered_up, ordered_append, get_front, get_behind}
use Rattle.ip_image.proofs.Stretches.{ends_ordered, runs_ordered, last_run, join_run, ends_over, runs_over, above_byte, below_byte}

-- ---- records end to end

pub ends_append : (f : ℕ → Option ℕ) (from : ℕ) (xs ys : Records) (middle to : ℕ) → EndToEnd f from xs middle → EndToEnd f middle ys to → EndToEnd f from (xs ++ ys) to
ends_append f from [] ys middle to e later = subst (λ (n : ℕ). EndToEnd f n ys to) (sym e) later
ends_append f from (x ∷ xs) ys middle to (at, stands, e) later = (at, stands, ends_append f (from + length (spelling x.1)) xs ys middle to e later)

pub eq_of : (o : Ordering) → is_eq o ≡ true → o ≡ Equal
eq_of Less e = absurd (false≢true e)
eq_of Equal e = refl
eq_of Greater e = absurd (false≢true e)

pub ordered_below : (from : ℕ) (xs : Records) (to at : ℕ) (r : Record) → Ordered from xs to → present xs at ≡ Some r → at < to
ordered_below from [] to at r o is = absurd (false≢true (ap is_some is))
ordered_below from (x ∷ xs) to at r (low, some, o) is = by (eq_by_cmp nat_cmp at x.0) refl is (ordered_below (x.0 + length (spelling x.1)) xs to at r o)
  where
    by : (b : Bool) → eq_by_cmp nat_cmp at x.0 ≡ b → cond b (Some x.1) (find nat_cmp at xs) ≡ Some r → (find nat_cmp at xs ≡ Some r → at < to) → at < to
    by true b is later =
        let same : at ≡ x.0 = nat_cmp-IsAntisymmetric at x.0 (eq_of _ b) in
        let up = ordered_up (x.0 + length (spelling x.1)) xs to o in
        omega (arith, same, some, up)
    by false b is later = later is

pub byte_is : (content : Content) (k : ℕ) → byte_of content k ≡ slice_get (bytes_of content) k
byte_is None k = refl
byte_is (Some bytes) k = refl

pub byte_inside : (content : Content) (k b : ℕ) → byte_of content k ≡ Some b → k < size_of content
byte_inside content k b is = slice_get_within (bytes_of content) k b (sym (byte_is content k) ∙ is)

-- all of their bytes are there
pub all_inside : (content : Content) (from : ℕ) (xs : Records) (to : ℕ) → from ≤ size_of content → EndToEnd (byte_of content) from xs to → to ≤ size_of content
all_inside content from [] to low e = omega (arith, low, e)
all_inside content from (x ∷ xs) to low (at, stands, e) =
    let some = some_bytes 0 (byte_of content) x.1 in
    let l : length (spelling x.1) - 1 < length (spelling x.1) = omega (arith, some) in
    let last = byte_inside content (from + (length (spelling x.1) - 1)) _ (stands (length (spelling x.1) - 1) l ∙ slice_get-get_or (spelling x.1) (length (spelling x.1) - 1) 0 l) in
    all_inside content (from + length (spelling x.1)) xs to (omega (arith, last, some)) e

-- there is a byte at each place of theirs
pub ends_filled : (f : ℕ → Option ℕ) (from : ℕ) (xs : Records) (to at : ℕ) → EndToEnd f from xs to → from ≤ at → at < to → IsSome (f at)
ends_filled f from [] to at e low high = absurd (omega (arith, e, low, high))
ends_filled f from (x ∷ xs) to at (place, stands, e) low high = elim (cases_lt at (from + length (spelling x.1))) [
  | inl here ↦
      let inside : at - from < length (spelling x.1) = omega (arith, low, here) in
      subst (λ (n : ℕ). IsSome (f n)) (omega (arith, low)) (ap is_some (stands (at - from) inside ∙ slice_get-get_or (spelling x.1) (at - from) 0 inside))
  | inr later ↦ ends_filled f (from + length (spelling x.1)) xs to at e later high
]

-- records lie where the bytes that spell them stand
pub spelled_lies : (f : ℕ → Option ℕ) (from : ℕ) (xs : Records) (to : ℕ) → AreEndToEnd from xs to → Stands f from (bytes_of_records xs) → EndToEnd f from xs to
unfolding spelling_of
spelled_lies f from [] to e stands = e
spelled_lies f from (x ∷ xs) to e stands =
    let both = length-append (spelling x.1) (bytes_of_records xs) in (
      e.0,
      (λ k l. stands k (omega (arith, l, both)) ∙ get_front (spelling x.1) (bytes_of_records xs) k l),
      spelled_lies f (from + length (spelling x.1)) xs to e.1 (λ k l.
          let place : from + length (spelling x.1) + k ≡ from + (length (spelling x.1) + k) = omega arith in
          ap f place ∙ stands (length (spelling x.1) + k) (omega (arith, l, both)) ∙ get_behind (spelling x.1) (bytes_of_records xs) k),
    )

-- records end to end end no earlier than they begin
pub ends_late : (from : ℕ) (xs : Records) (to : ℕ) → AreEndToEnd from xs to → from ≤ to
ends_late from [] to e = omega (arith, e)
ends_late from (x ∷ xs) to e = let up = ends_late (from + length (spelling x.1)) xs to e.1 in omega (arith, up)

-- ---- where records lie

pub record LiesIn (l : Layout) (image : Image) (records : Records) : Type 0 where
  pub rows : List Row
  pub kept : Records
  pub later : Records
  pub is : records ≡ kept ++ later
  pub generation : Generation image l rows
  pub runs : RunByRun (virtual_byte image l (map run_of rows)) (map run_of rows) kept
  pub lies : EndToEnd (chunk_byte l.chunk image) l.horizon later l.end

module _ (image : Image) (l : Layout) (low : l.horizon ≤ l.end) where
  chunk_ends : (runs : List Run) (xs : Records) (to : ℕ) → EndToEnd (virtual_byte image l runs) l.horizon xs to → EndToEnd (chunk_byte l.chunk image) l.horizon xs to
  chunk_ends runs xs to e = ends_over (virtual_byte image l runs) (chunk_byte l.chunk image) l.horizon xs to (λ k b over under is. sym (above_byte image l runs k over) ∙ is) e

  virtual_ends : (runs : List Run) (xs : Records) (to : ℕ) → EndToEnd (chunk_byte l.chunk image) l.horizon xs to → EndToEnd (virtual_byte image l runs) l.horizon xs to
  virtual_ends runs xs to e = ends_over (chunk_byte l.chunk image) (virtual_byte image l runs) l.horizon xs to (λ k b over under is. above_byte image l runs k over ∙ is) e

  pub lies_of_whole : (rows : List Row) (records : Records) → Generation image l rows → RunByRun (virtual_byte image l (map run_of rows)) (stretches l rows) records → LiesIn l image records
  lies_of_whole rows records generation whole =
      let last = last_run (virtual_byte image l (map run_of rows)) (map run_of rows) (record { at = l.horizon; length = l.end - l.horizon }) records whole in
      record {
        rows = rows;
        kept = last.front;
        later = last.back;
        is = last.is;
        generation = generation;
        runs = last.runs_hold;
        lies = chunk_ends (map run_of rows) last.back l.end (subst (λ (n : ℕ). EndToEnd (virtual_byte image l (map run_of rows)) l.horizon last.back n) (omega (arith, low)) last.ends);
      }

  module _ (records : Records) (lies : LiesIn l image records) where
    pub whole_of_lies : RunByRun (virtual_byte image l (map run_of lies.rows)) (stretches l lies.rows) records
    whole_of_lies = subst (λ (xs : Records). RunByRun (virtual_byte image l (map run_of lies.rows)) (stretches l lies.rows) xs) (sym lies.is)
        (join_run (virtual_byte image l (map run_of lies.rows)) (map run_of lies.rows) (record { at = l.horizon; length = l.end - l.horizon }) lies.kept lies.later lies.runs
        (subst (λ (n : ℕ). EndToEnd (virtual_byte image l (map run_of lies.rows)) l.horizon lies.later n) (omega (arith, low)) (virtual_ends (map run_of lies.rows) lies.later l.end lies.lies)))

    pub lies_ordered : Ordered 0 records l.end
    lies_ordered = subst (λ (xs : Records). Ordered 0 xs l.end) (sym lies.is)
        (ordered_append 0 lies.kept lies.later l.horizon l.end
        (runs_ordered (virtual_byte image l (map run_of lies.rows)) l.horizon 0 0 0 lies.rows lies.kept lies.generation.fits (omega arith) (omega arith) lies.runs)
        (ends_ordered (chunk_byte l.chunk image) l.horizon lies.later l.end lies.lies))

    pub lies_below : (at : ℕ) (r : Record) → present records at ≡ Some r → at < l.end
    lies_below at r is = ordered_below 0 records l.end at r lies_ordered is

    pub lies_above : l.live ≢ 0 → l.horizon < l.end
    lies_above some = let M = lies.generation.file some in let above = M.above in let inside = M.inside in omega (arith, above, inside)

pub lies_in_chunk : (l : Layout) (image : Image) (records : Records) → l.live ≡ 0 → l.horizon ≡ 0 → LiesIn l image records → EndToEnd (chunk_byte l.chunk image) 0 records l.end
lies_in_chunk l image records nothing low lies =
    let rows : lies.rows ≡ [] = lies.generation.none nothing in
    let kept : lies.kept ≡ [] = subst (λ (rs : List Row). RunByRun (virtual_byte image l (map run_of rs)) (map run_of rs) lies.kept) rows lies.runs in
    subst (λ (xs : Records). EndToEnd (chunk_byte l.chunk image) 0 xs l.end) (sym (lies.is ∙ ap (λ (xs : Records). xs ++ lies.later) kept))
    (subst (λ (n : ℕ). EndToEnd (chunk_byte l.chunk image) n lies.later l.end) low lies.lies)

pub one_lies : (v : ℕ) (l : Layout) (image : Image) (xs ys : Records) → l.horizon ≤ l.end → AllByRecursion (λ (x : ℕ × Record). Fits v x.1) xs → AllByRecursion (λ (x : ℕ × Record). Fits v x.1) ys → LiesIn l image xs → LiesIn l image ys → xs ≡ ys
one_lies v l image xs ys low fits others a b =
    same_runs v (virtual_byte image l (map run_of a.rows)) (stretches l a.rows) xs ys fits others (whole_of_lies image l low xs a)
    (subst (λ (rs : List Row). RunByRun (virtual_byte image l (map run_of rs)) (stretches l rs) ys) (sym (by (zero_or_not l.live))) (whole_of_lies image l low ys b))
  where
    by : (l.live ≡ 0) ⊎ (l.live ≢ 0) → a.rows ≡ b.rows
    by (inl nothing) = a.generation.none nothing ∙ sym (b.generation.none nothing)
    by (inr some) =
        let M = a.generation.file some in
        let N = b.generation.file some in
        same_files l.horizon M.end N.end a.rows b.rows M.numbers N.numbers (M.count ∙ sym N.count) (same_some (mapping_file l.horizon M.end a.rows) (mapping_file l.horizon N.end b.rows) (sym M.file ∙ N.file))

-- ---- in an image that goes on

module _ (s t : Slot) (image other : Image) (none : s.live ≡ 0 → s.horizon ≡ 0) (generation : SameGeneration s t) where
  -- the layout of the slot, up to the other's end
  abbrev longer : Layout
  longer = record (layout_of s) { end = t.end }

  same_layout : layout_of t ≡ longer
  same_layout = λ i. record { chunk = generation.chunk i; horizon = generation.horizon i; end = t.end; live = generation.live i; prefix_len = generation.prefix_len i; rows = generation.rows i }

  module _ (runs : List Run) (same : SameSpace s image other) where
    kept_byte : (k b : ℕ) → k < s.horizon → virtual_byte image (layout_of s) runs k ≡ Some b → virtual_byte other longer runs k ≡ Some b
    kept_byte k b under is = by (zero_or_not s.live)
      where
        by : (s.live ≡ 0) ⊎ (s.live ≢ 0) → virtual_byte other longer runs k ≡ Some b
        by (inl nothing) = let zero = none nothing in absurd (omega (arith, zero, under))
        by (inr some) =
            below_byte other longer runs k under
            ∙ ap (λ (o : Option Bytes). option_and_then (λ place. byte_of o place) (locate runs k)) (same.prefix some)
            ∙ sym (below_byte image (layout_of s) runs k under) ∙ is

  pub lies_on : (records new : Records) → LiesIn (layout_of s) image records → AreEndToEnd s.end new t.end → AddsBytes s (bytes_of_records new) image other → LiesIn (layout_of t) other (records ++ new)
  lies_on records new lies ends adds = subst (λ (l : Layout). LiesIn l other (records ++ new)) (sym same_layout) (record {
    rows = lies.rows;
    kept = lies.kept;
    later = lies.later ++ new;
    is = ap (λ (xs : Records). xs ++ new) lies.is ∙ append_assoc lies.kept lies.later new;
    generation = record {
      file = λ some. (let M = lies.generation.file some in let inside = M.inside in let more = ends_late s.end new t.end ends in
          record { end = M.end; file = adds.same.mapping some ∙ M.file; count = M.count; numbers = M.numbers; above = M.above; inside = omega (arith, inside, more) });
      fits = lies.generation.fits;
      sum = lies.generation.sum;
      prefix = λ some. subst (λ (o : Option Bytes). IsSomeAnd o (λ bytes. length bytes ≡ s.prefix_len)) (sym (adds.same.prefix some)) (lies.generation.prefix some);
      none = lies.generation.none;
    };
    runs = runs_over (virtual_byte image (layout_of s) (map run_of lies.rows)) (virtual_byte other longer (map run_of lies.rows)) s.horizon 0 0 lies.rows lies.kept lies.generation.fits (kept_byte (map run_of lies.rows) adds.same) lies.runs;
    lies = ends_append (chunk_byte s.chunk other) s.horizon lies.later new s.end t.end
        (ends_over (chunk_byte s.chunk image) (chunk_byte s.chunk other) s.horizon lies.later s.end (λ k b over under is. adds.same.chunks k over under ∙ is) lies.lies)
        (spelled_lies (chunk_byte s.chunk other) s.end new t.end ends adds.added);
  })

-- ---- what an image holds

pub record InChunk (s : Slot) (image : Image) (r : Repository) : Type 0 where
  pub records : Records
  pub lies : LiesIn (layout_of s) image records
  pub good : AreGood s [] records
  pub fits : WholeFits s records
  pub floor : r.floor ≡ s.floor
  pub commits : AllZip (Spells records) (commits_in records) r.commits
  pub branches : r.branches ≡ named Names.branches records
  pub tags : r.tags ≡ named Names.tags records

module _ (image : Image) (s : Slot) (live : HasLive s image) where
  module _ (A : Standing image) where
    is_slot : A.slot ≡ s
    is_slot = slot_is image A live.control live.index live.held s live.live

    -- where its records lie
    pub chunk_lies : LiesIn (layout_of s) image A.records
    chunk_lies = lies_of_whole image (layout_of s) live.live.fields.horizon A.rows A.records (subst (λ (t : Slot). Generation image (layout_of t) A.rows) is_slot A.generation)
        (subst (λ (t : Slot). RunByRun (virtual_byte image (layout_of t) (map run_of A.rows)) (stretches (layout_of t) A.rows) A.records) is_slot A.whole)

    -- from the horizon to the end the chunks have no gap
    pub space_filled : (at : ℕ) → s.horizon ≤ at → at < s.end → IsSome (chunk_byte s.chunk image at)
    space_filled at low high = ends_filled (chunk_byte s.chunk image) s.horizon chunk_lies.later s.end at chunk_lies.lies low high

    pub chunk_good : AreGood s [] A.records
    chunk_good = subst (λ (t : Slot). AreGood t [] A.records) is_slot A.good

  pub in_chunk : (r : Repository) → StandsFor image r → InChunk s image r
  in_chunk r stands =
      let A = stands.standing in
      record {
        records = A.records;
        lies = chunk_lies A;
        good = chunk_good A;
        fits = subst (λ (t : Slot). WholeFits t A.records) (is_slot A) A.fits;
        floor = stands.floor ∙ ap (λ (t : Slot). t.floor) (is_slot A);
        commits = stands.commits;
        branches = stands.branches;
        tags = stands.tags;
      }

  pub same_in_chunk : (r : Repository) (stands : StandsFor image r) → (in_chunk r stands).records ≡ stands.standing.records
  unfolding in_chunk
  same_in_chunk r stands = refl

  module _ (r : Repository) (chunk : InChunk s image r) where
    standing_by : Standing image
    standing_by = record {
      control = live.control;
      index = live.index;
      slot = s;
      rows = chunk.lies.rows;
      records = chunk.records;
      held = live.held;
      live = live.live;
      generation = chunk.lies.generation;
      whole = whole_of_lies image (layout_of s) live.live.fields.horizon chunk.records chunk.lies;
      good = chunk.good;
      fits = chunk.fits;
    }

    pub stands_by : StandsFor image r
    unfolding standing_by
    stands_by = record { standing = standing_by; floor = chunk.floor; commits = chunk.commits; branches = chunk.branches; tags = chunk.tags }

    pub same_standing : stands_by.standing.records ≡ chunk.records
    unfolding standing_by stands_by
    same_standing = refl

pub first_chunk_byte : (image : Image) (at : ℕ) → at < 4096 → chunk_byte 4096 image at ≡ byte_of (image (Chunk 0)) at
unfolding chunk_byte
first_chunk_byte image at small =
    let chunk : chunk_of 4096 at ≡ 0 = omega (arith, small) in
    let place : place_in_chunk 4096 at ≡ at = omega (arith, small) in
    ap (λ (number : ℕ). byte_of (image (Chunk number)) (place_in_chunk 4096 at)) chunk ∙ ap (byte_of (image (Chunk 0))) place

-- Reading below the horizon.
--     gone_byte      an offset that no run has is without a byte.      run_read      one read of the prefix gives bytes of one run
--     read_short, read_to_gap, read_both      what a read of two parts comes to
use Rattle.std.proofs.Common.{◌≡◌, ℕ, ◌+◌, ◌-◌, ◌<◌, ◌≤◌, List, [], ◌++◌, length, take, drop, Bool, false, min, sym, ◌∙◌, ap, subst, arith}
use Rattle.std.specs.Prelude.{Option, Some, None, Result, Ok, Err, map, nat_le, option_and_then, if◌then◌else◌}
use Rattle.std.proofs.lemmas.Bool.{lt-leb}
use Rattle.std.proofs.Math.Seq.{take-append-add}
use Rattle.std.proofs.lemmas.List.{length-take, take-append-le, take_all}
use Rattle.ip_ground.specs.declared.names.GroundFault.{GroundFault}
use Rattle.ip_ground.specs.declared.names.FileName.TheVariants.{Prefix}
use Rattle.ip_ground.specs.Contents.{Content, Image, bytes_of, size_of}
use Rattle.ip_ground.specs.Told.{Told, IsForeign}
use Rattle.ip_ground.specs.Calls.{Reads}
use Rattle.ip_image.specs.declared.layout.Layout.{Layout}
use Rattle.ip_image.specs.declared.run.Run.{Run}
use Rattle.ip_image.specs.declared.run.Row.{Row}
use Rattle.ip_image.specs.Virtual.{run_of, locate, virtual_byte, byte_of, Stands}
use Rattle.ip_mapping.specs.Parsing.{IsRowAt}
use Rattle.ip_chunks.proofs.Writing.{bytes_stand, gap_behind}
use Rattle.ip_space.specs.SpaceView.{IsReadable, byte_at}
use Rattle.ip_space.specs.Viewed.{view_of, IsSource}
use Rattle.ip_space.specs.Ahead.{ReadsBytes}
use Rattle.ip_space.specs.declared.source.Source.{Source}
use Rattle.ip_space.proofs.StoodBytes.{stands_both}

not_from : (m n : ℕ) → n < m → nat_le m n ≡ false
not_from m n l = lt-leb m n l

by_false : (b : Bool) (x y : Option ℕ) → b ≡ false → (if b then x else y) ≡ y
by_false b x y is = ap (λ (b : Bool). if b then x else y) is

-- below the horizon a byte is where the mapping says
below_byte : (image : Image) (s : Layout) (runs : List Run) (at : ℕ) (place : Option ℕ) → at < s.horizon → locate runs at ≡ place
    → virtual_byte image s runs at ≡ option_and_then (λ place. byte_of (image (Prefix s.live)) place) place
unfolding virtual_byte
below_byte image s runs at place below is =
    by_false (nat_le s.horizon at) _ _ (not_from s.horizon at below) ∙ ap (λ (p : Option ℕ). option_and_then (λ place. byte_of (image (Prefix s.live)) place) p) is

pub gone_byte : (image : Image) (s : Layout) (runs : List Run) (at : ℕ) → at < s.horizon → locate runs at ≡ None → virtual_byte image s runs at ≡ None
gone_byte image s runs at below is = below_byte image s runs at None below is

module _ (s : Source) (is : IsSource s) (at : ℕ) (row : Row) (here : IsRowAt s.mapping at row) where
  run_byte : (image : Image) (k : ℕ) → row.at ≤ k → k < row.at + row.length → virtual_byte image s.layout (map run_of s.mapping.rows) k ≡ byte_of (image (Prefix s.layout.live)) (row.place + (k - row.at))
  run_byte image k low high =
      let below = here.below in
      let horizon = is.horizon in
      below_byte image s.layout (map run_of s.mapping.rows) k (Some (row.place + (k - row.at))) (omega (arith, high, below, horizon)) (here.side_by_side k low high)

  -- behind the run a byte is missing, where that is below the horizon
  pub behind_run : (image : Image) → row.at + row.length < s.layout.horizon → virtual_byte image s.layout (map run_of s.mapping.rows) (row.at + row.length) ≡ None
  behind_run image below = gone_byte image s.layout (map run_of s.mapping.rows) (row.at + row.length) below here.missing

  no_runs : map run_of s.mapping.rows ≡ [] → ⊥
  unfolding locate
  no_runs none =
      let there : locate (map run_of s.mapping.rows) at ≡ Some (row.place + (at - row.at)) = here.side_by_side at here.from here.to in
      let gone : locate (map run_of s.mapping.rows) at ≡ None = ap (λ (runs : List Run). locate runs at) none in
      cc (there, gone)

  pub own_prefix : (told : Told) → IsReadable told (view_of s) → ¬ IsForeign told (Prefix s.layout.live)
  own_prefix told readable = readable.own (λ none. no_runs (readable.none none))

  module _ (out filled : List ℕ) (a b : Told) (readable : IsReadable a (view_of s)) (inside : at + length out ≤ row.at + row.length) where
    abbrev place : ℕ
    place = row.place + (at - row.at)

    same_place : (k : ℕ) → row.place + (at + k - row.at) ≡ place + k
    same_place k = let low : row.at ≤ at = here.from in omega (arith, low)

    byte_here : (k : ℕ) → k < length out → byte_at a (view_of s) (at + k) ≡ byte_of (a.held (Prefix s.layout.live)) (place + k)
    byte_here k below =
        let low : row.at ≤ at = here.from in
        run_byte a.held (at + k) (omega (arith, low)) (omega (arith, below, inside)) ∙ ap (byte_of (a.held (Prefix s.layout.live))) (same_place k)

    pub run_read : (r : Result ℕ GroundFault) → Reads (Prefix s.layout.live) (row.place + (at - row.at)) out filled r a b → ReadsBytes (byte_at a (view_of s)) at (length out) filled r
    run_read (Err e) reads = record { bytes = tt; gap = tt }
    run_read (Ok n) reads = record {
      bytes = λ k below.
          let l = length-take n filled in
          byte_here k (omega (arith, below, l, count)) ∙ bytes_stand place n out filled content count taken k below;
      gap = λ short. byte_here n short ∙ gap_behind place n out filled content count taken short;
    }
      where
        content : Content
        content = a.held (Prefix s.layout.live)

        same : b.held (Prefix s.layout.live) ≡ content
        same = (reads.only.others (Prefix s.layout.live) (λ none. none)).held (own_prefix a readable)

        count : n ≡ min (length out) (size_of content - place)
        count = subst (λ c. n ≡ min (length out) (size_of c - place)) same reads.count

        taken : take n filled ≡ take n (drop place (bytes_of content))
        taken = subst (λ c. take n filled ≡ take n (drop place (bytes_of c))) same reads.bytes

pub read_nothing : (f : ℕ → Option ℕ) (at room : ℕ) (filled : List ℕ) → f at ≡ None → ReadsBytes f at room filled (Ok 0)
read_nothing f at room filled gone = record {
  bytes = λ k below. absurd (omega (arith, below, length-take 0 filled));
  gap = λ _. (let e : at + 0 ≡ at = omega arith in ap f e) ∙ gone;
}

-- ---- two parts, one behind the other

module _ (f : ℕ → Option ℕ) (at left n : ℕ) (front back : List ℕ) (room : ℕ) (reads : ReadsBytes f at left front (Ok n)) (size : length front ≡ left) (fits : n ≤ left) where
  first : take n (front ++ back) ≡ take n front
  first = take-append-le n front back (omega (arith, size, fits))

  -- the first one ended early
  pub read_short : n < left → ReadsBytes f at room (front ++ back) (Ok n)
  read_short short = record { bytes = subst (Stands f at) (sym first) reads.bytes; gap = λ _. reads.gap short }

  -- behind the first one a byte is missing
  pub read_to_gap : n ≡ left → f (at + left) ≡ None → ReadsBytes f at room (front ++ back) (Ok n)
  read_to_gap full gap = record { bytes = subst (Stands f at) (sym first) reads.bytes; gap = λ _. ap (λ (k : ℕ). f (at + k)) full ∙ gap }

  -- both
  pub read_both : n ≡ left → (m rest : ℕ) → room ≡ left + rest → ReadsBytes f (at + left) rest back (Ok m) → ReadsBytes f at room (front ++ back) (Ok (n + m))
  read_both full m rest all more = record {
    bytes = subst (Stands f at) (sym whole) (stands_both f at front (take m back) (subst (Stands f at) front_whole reads.bytes) (subst (λ (k : ℕ). Stands f (at + k) (take m back)) (sym size) more.bytes));
    gap = λ short.
        let place : at + (n + m) ≡ at + left + m = omega (arith, full) in
        ap f place ∙ more.gap (omega (arith, short, full, all));
  }
    where
      front_whole : take n front ≡ front
      front_whole = take_all n front (omega (arith, size, full))

      whole : take (n + m) (front ++ back) ≡ front ++ take m back
      whole = ap (λ (k : ℕ). take k (front ++ back)) (omega (arith, full, size)) ∙ take-append-add front back m

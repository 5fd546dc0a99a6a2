-- What the core sees of an image that stands, and of a collection over it.
--     image_ordered, image_below, image_rises, records_closed      its records lie in order below its end, and their core is closed.      offsets_reached      what is kept is what the core keeps
--     core_rests, kept_set      so the records behind the end of a collection rest on it, and where they do the core keeps it.      staying_is, accepted      what remains is what the core leaves
--     valid_on, valid_since      records behind the end of a collection change nothing of its valid pair
--     some_valid      there is a valid pair
--     collected_present, collected_tree      what a record from the commit on reaches stays
--     collection_starts, collection_goes_on, collection_ends      what holds while a collection goes on: when it starts, with more records behind the others, and when its child has ended
use Rattle.std.proofs.Common.{◌≡◌, ◌⊎◌, inl, inr, ℕ, zero, suc, ◌+◌, ◌<◌, ◌≤◌, List, [], ◌∷◌, ◌++◌, refl, sym, ap, subst, ◌∙◌, Some, Bool, true, false, cond, length, arith, append_assoc}
use Rattle.std.proofs.lemmas.Bool.{false≢true}
use Rattle.std.proofs.lemmas.Bool.Decides.{nat_tests}
use Rattle.std.proofs.lemmas.List.{map-append}
use Rattle.std.proofs.lemmas.List.Kept.{AllPairs-from_increasing}
use Rattle.std.specs.Prelude.{◌↔◌, All, filter, nat_le, nat_lt, ◌==◌, ◌&&◌, ◌||◌, Contains, slice_index}
use Rattle.std.specs.List.{list_any}
use Rattle.std.specs.List.Sorted.{IsStrictlyIncreasing}
use Rattle.ip_spec.specs.declared.record.Record.{Record}
use Rattle.ip_spec.specs.declared.event.CoreRecord.{CoreRecord}
use Rattle.ip_spec.specs.Record.{spelling}
use Rattle.ip_spec.specs.Tree.{Tree}
use Rattle.ip_spec.specs.TreeAt.{Records, present, TreeAt}
use Rattle.ip_spec.specs.Core.{core_record, core_records, core_of, CorePhase, AreReached, IsPresent, IsKeptSet, AreInOrder, IsClosed, stays, Reached, from_above, from_kept, Reaches, itself, by_ref}
use Rattle.ip_ground.specs.Contents.{Image}
use Rattle.ip_image.specs.Slot.{Slot, layout_of}
use Rattle.ip_image.specs.Standing.{AreGood, Standing}
use Rattle.ip_image.specs.Collection.{IsKept, Pair, IsValid, runs_of, kept_bytes}
use Rattle.ip_image.specs.Virtual.{mapping_bytes}
use Rattle.ip_image.specs.Collected.{offsets_of, from, remaining, HasTable, IsCollectable}
use Rattle.ip_spec.specs.Repository.{Repository}
use Rattle.ip_spec.specs.declared.record.CommitRecord.{CommitRecord}
use Rattle.ip_spec.specs.Core.{FollowOn}
use Rattle.ip_spec.specs.declared.event.Event.{Event}
use Rattle.ip_spec.proofs.CoreLaws.{step_keeps}
use Rattle.ip_image.proofs.SpelledCommits.{present_front}
use Rattle.ip_image.proofs.PairLaws.{Has, Rises, has_from, contains_from, rises, same_records, one_valid}
use Rattle.ip_image.proofs.KeptRuns.{Ordered, ordered_has}
use Rattle.ip_image.proofs.StayingRecords.{above_or_below, RestsOn, or_left, or_right, or_cases, le_test, le_is, any_there, there_any, one_at, good_both, rises_front, In, in_from, in_contains, of_map, in_map, has_in, in_has, has_left, has_right, has_either, ordered_rises, present_has, has_present, filter_has, has_filter, filter_rises, filter_present, staying_part, test, test_stays, refs_of, Leads, good_refers, cut, Stays, stays_closed}
use Rattle.ip_image.proofs.InChunk.{LiesIn, lies_of_whole, lies_ordered, lies_below}

-- ---- records that stand lie in order

module _ (image : Image) (A : Standing image) where
  image_lies : LiesIn (layout_of A.slot) image A.records
  image_lies = lies_of_whole image (layout_of A.slot) A.live.fields.horizon A.rows A.records A.generation A.whole

  pub image_ordered : Ordered 0 A.records A.slot.end
  image_ordered = lies_ordered image (layout_of A.slot) A.live.fields.horizon A.records image_lies

  pub image_below : (at : ℕ) (r : Record) → present A.records at ≡ Some r → at < A.slot.end
  image_below = lies_below image (layout_of A.slot) A.live.fields.horizon A.records image_lies

  pub image_rises : Rises A.records
  image_rises = ordered_rises 0 A.records A.slot.end image_ordered

core_ordered : (from : ℕ) (xs : Records) (to : ℕ) → Ordered from xs to → AreInOrder from (core_records xs)
core_ordered from [] to o = tt
core_ordered from (x ∷ xs) to (low, some, o) = (low, some, core_ordered (x.0 + length (spelling x.1)) xs to o)

module _ (s : Slot) (records : Records) (rise : Rises records) (good : AreGood s [] records) where
  core_leads : (q : CoreRecord) (at : ℕ) → Contains (core_records records) q → Contains q.refs at → Leads (present records) q.at at
  core_leads q at in_q ref =
      let (x, there, is) = of_map core_record records q (in_from (core_records records) q in_q) in
      subst (λ (n : ℕ). Leads (present records) n at) (ap (λ (c : CoreRecord). c.at) is)
      (good_refers s records rise good x (in_has records x there) at (in_from (refs_of x.1) at (subst (λ (c : CoreRecord). Contains c.refs at) (sym is) ref)))

  is_present : (at : ℕ) (r : Record) → present records at ≡ Some r → IsPresent (core_records records) at
  is_present at r is = (core_record (at, r), in_contains (core_records records) (core_record (at, r)) (in_map core_record records (at, r) (has_in records (at, r) (present_has records at r is))), refl)

  refers_below : (q : CoreRecord) (at : ℕ) → Contains (core_records records) q → Contains q.refs at → (at < q.at) × IsPresent (core_records records) at
  refers_below q at in_q ref = let l = core_leads q at in_q ref in (l.below, is_present at l.to l.there)

  pub records_closed : (horizon to : ℕ) → Ordered 0 records to → IsClosed (core_of records horizon CorePhase.idle)
  records_closed horizon to o = record { order = core_ordered 0 records to o; below = refers_below; keeps = tt }

  -- what is reached is a record below
  reached_there : (h e0 at : ℕ) → Reached (core_records records) h e0 at → Leads (present records) h at
  reached_there h e0 at (from_above q b in_q high low ref under) = let l = core_leads q b in_q ref in record { below = under; to = l.to; there = l.there; kind = l.kind }
  reached_there h e0 at (from_kept q b in_q deep ref) =
      let l = core_leads q b in_q ref in
      let under = (reached_there h e0 q.at deep).below in
      let low = l.below in
      record { below = omega (arith, low, under); to = l.to; there = l.there; kind = l.kind }

  module _ (h e0 : ℕ) (kept : Records) (is_kept : IsKept records h e0 kept) where
    pub offsets_reached : AreReached (core_records records) h e0 (offsets_of kept)
    offsets_reached = record { ascending = is_kept.ascending; each = λ at. (to at, from at) }
      where
        to : (at : ℕ) → Contains (offsets_of kept) at → Reached (core_records records) h e0 at
        to at c =
            let (x, there, is) = of_map (λ (x : ℕ × Record). x.0) kept at (in_from (offsets_of kept) at c) in
            subst (Reached (core_records records) h e0) is ((is_kept.each x).0 (in_contains kept x there)).1

        from : (at : ℕ) → Reached (core_records records) h e0 at → Contains (offsets_of kept) at
        from at reached =
            let l = reached_there h e0 at reached in
            let there = (is_kept.each (at, l.to)).1 (contains_from records (at, l.to) (present_has records at l.to l.there), reached) in
            in_contains (offsets_of kept) at (in_map (λ (x : ℕ × Record). x.0) kept (at, l.to) (in_from kept (at, l.to) there))

    pub kept_rises : Rises kept
    kept_rises = rises kept (AllPairs-from_increasing (offsets_of kept) is_kept.ascending)

    pub kept_among : (x : ℕ × Record) → Has kept x → Has records x × (x.0 < h)
    kept_among x has =
        let ((k, l, e), reached) = (is_kept.each x).0 (contains_from kept x has) in
        (has_from records x k l e, (reached_there h e0 x.0 reached).below)

    -- the records behind the collection's end rest on what it keeps, where the core keeps what these refer to
    pub core_rests : (offsets : List ℕ) → h ≤ e0 → AreReached (core_records records) h e0 offsets → IsKeptSet (core_records records) h offsets → RestsOn records h e0 kept
    core_rests offsets low reached set x at in_x late ref = by (set.above x at in_x (omega (arith, low, late)) ref)
      where
        by : (h ≤ at) ⊎ Contains offsets at → (h ≤ at) ⊎ Contains (offsets_of kept) at
        by (inl over) = inl over
        by (inr there) = inr ((offsets_reached.each at).1 ((reached.each at).0 there))

    -- and where they rest on it, the core keeps that
    pub kept_set : RestsOn records h e0 kept → IsKeptSet (core_records records) h (offsets_of kept)
    kept_set rests = record {
      below = λ at c. (let l = reached_there h e0 at ((offsets_reached.each at).0 c) in (l.below, is_present at l.to l.there));
      closed = λ r at in_r c ref. (offsets_reached.each at).1 (from_kept r at in_r ((offsets_reached.each r.at).0 c) ref);
      above = λ r at in_r high ref. by r at in_r high ref (above_or_below h at) (above_or_below e0 r.at);
    }
      where
        by : (r : CoreRecord) (at : ℕ) → Contains (core_records records) r → h ≤ r.at → Contains r.refs at → (h ≤ at) ⊎ (at < h) → (e0 ≤ r.at) ⊎ (r.at < e0) → (h ≤ at) ⊎ Contains (offsets_of kept) at
        by r at in_r high ref (inl over) _ = inl over
        by r at in_r high ref (inr under) (inl late) = rests r at in_r late ref
        by r at in_r high ref (inr under) (inr early) = inr ((offsets_reached.each at).1 (from_above r at in_r high early ref under))

    -- ---- records behind the end of the collection

    core_either : (new : Records) (q : CoreRecord) → Contains (core_records (records ++ new)) q → Contains (core_records records) q ⊎ Contains (core_records new) q
    core_either new q c =
        let (x, there, is) = of_map core_record (records ++ new) q (in_from (core_records (records ++ new)) q c) in
        by x is (has_either records new x (in_has (records ++ new) x there))
      where
        by : (x : ℕ × Record) → core_record x ≡ q → Has records x ⊎ Has new x → Contains (core_records records) q ⊎ Contains (core_records new) q
        by x is (inl there) = inl (subst (Contains (core_records records)) is (in_contains (core_records records) (core_record x) (in_map core_record records x (has_in records x there))))
        by x is (inr there) = inr (subst (Contains (core_records new)) is (in_contains (core_records new) (core_record x) (in_map core_record new x (has_in new x there))))

    core_left : (new : Records) (q : CoreRecord) → Contains (core_records records) q → Contains (core_records (records ++ new)) q
    core_left new q c =
        let (x, there, is) = of_map core_record records q (in_from (core_records records) q c) in
        subst (Contains (core_records (records ++ new))) is
        (in_contains (core_records (records ++ new)) (core_record x) (in_map core_record (records ++ new) x (has_in (records ++ new) x (has_left records new x (in_has records x there)))))

    module _ (new : Records) (order : h ≤ e0) (behind : (x : ℕ × Record) → Has new x → e0 ≤ x.0) where
      core_behind : (q : CoreRecord) → Contains (core_records new) q → e0 ≤ q.at
      core_behind q c =
          let (x, there, is) = of_map core_record new q (in_from (core_records new) q c) in
          subst (λ (c : CoreRecord). e0 ≤ c.at) is (behind x (in_has new x there))

      reached_before : (at : ℕ) → Reached (core_records (records ++ new)) h e0 at → Reached (core_records records) h e0 at
      reached_before at (from_above q b in_q high low ref under) = by (core_either new q in_q)
        where
          by : Contains (core_records records) q ⊎ Contains (core_records new) q → Reached (core_records records) h e0 b
          by (inl c) = from_above q b c high low ref under
          by (inr c) = let late = core_behind q c in absurd (omega (arith, late, low))
      reached_before at (from_kept q b in_q deep ref) = by (core_either new q in_q) (reached_before q.at deep)
        where
          by : Contains (core_records records) q ⊎ Contains (core_records new) q → Reached (core_records records) h e0 q.at → Reached (core_records records) h e0 b
          by (inl c) reached = from_kept q b c reached ref
          by (inr c) reached = let late = core_behind q c in let under = (reached_there h e0 q.at reached).below in absurd (omega (arith, late, under, order))

      reached_after : (at : ℕ) → Reached (core_records records) h e0 at → Reached (core_records (records ++ new)) h e0 at
      reached_after at (from_above q b in_q high low ref under) = from_above q b (core_left new q in_q) high low ref under
      reached_after at (from_kept q b in_q deep ref) = from_kept q b (core_left new q in_q) (reached_after q.at deep) ref

      pub kept_on : IsKept (records ++ new) h e0 kept
      kept_on = record { ascending = is_kept.ascending; each = λ x. (to x, from x) }
        where
          to : (x : ℕ × Record) → Contains kept x → Contains (records ++ new) x × Reached (core_records (records ++ new)) h e0 x.0
          to x c =
              let (there, reached) = (is_kept.each x).0 c in
              let (k, l, e) = there in
              (contains_from (records ++ new) x (has_left records new x (has_from records x k l e)), reached_after x.0 reached)

          from : (x : ℕ × Record) → Contains (records ++ new) x × Reached (core_records (records ++ new)) h e0 x.0 → Contains kept x
          from x (there, reached) =
              let (k, l, e) = there in
              let before = reached_before x.0 reached in
              by (has_either records new x (has_from (records ++ new) x k l e)) before (reached_there h e0 x.0 before).below
            where
              by : Has records x ⊎ Has new x → Reached (core_records records) h e0 x.0 → x.0 < h → Contains kept x
              by (inl has) reached under = (is_kept.each x).1 (contains_from records x has, reached)
              by (inr has) reached under = let late = behind x has in absurd (omega (arith, late, under, order))

  pub valid_on : (h e0 : ℕ) (pair : Pair) (new : Records) → h ≤ e0 → ((x : ℕ × Record) → Has new x → e0 ≤ x.0) → IsValid records h e0 pair → IsValid (records ++ new) h e0 pair
  valid_on h e0 pair new order behind valid = record { kept = valid.kept; each = kept_on h e0 valid.kept valid.each new order behind; mapping = valid.mapping; prefix = valid.prefix }

-- ---- what remains is what the core leaves

-- by the core's own test
abbrev pub staying : ℕ → Records → Records → Records
staying h kept records = filter (λ (x : ℕ × Record). stays h (offsets_of kept) (core_record x)) records

staying_cores : (records : Records) (h : ℕ) (kept : Records) → core_records (staying h kept records) ≡ filter (stays h (offsets_of kept)) (core_records records)
staying_cores [] h kept = refl
staying_cores (x ∷ records) h kept = by (stays h (offsets_of kept) (core_record x)) (staying_cores records h kept)
  where
    by : (b : Bool) → core_records (staying h kept records) ≡ filter (stays h (offsets_of kept)) (core_records records)
        → core_records (cond b (x ∷ staying h kept records) (staying h kept records)) ≡ cond b (core_record x ∷ filter (stays h (offsets_of kept)) (core_records records)) (filter (stays h (offsets_of kept)) (core_records records))
    by true e = ap (λ (l : List CoreRecord). core_record x ∷ l) e
    by false e = e

rises_join : (xs ys : Records) → Rises xs → Rises ys → ((x y : ℕ × Record) → Has xs x → Has ys y → x.0 < y.0) → Rises (xs ++ ys)
rises_join [] ys a b apart = b
rises_join (x ∷ xs) ys (above, a) b apart = ((λ y has. by y (has_either xs ys y has)), rises_join xs ys a b (λ y z has there. apart y z (inr has) there))
  where
    by : (y : ℕ × Record) → Has xs y ⊎ Has ys y → x.0 < y.0
    by y (inl has) = above y has
    by y (inr has) = apart x y (inl refl) has

-- the kept records lie below h, among the others
module _ (records : Records) (rise : Rises records) (h : ℕ) (kept : Records) (kept_rise : Rises kept) (among : (x : ℕ × Record) → Has kept x → Has records x × (x.0 < h)) where
  abbrev stay_test : ℕ × Record → Bool
  stay_test x = stays h (offsets_of kept) (core_record x)

  abbrev high_test : ℕ × Record → Bool
  high_test x = nat_le h x.0

  pub staying_is : staying h kept records ≡ remaining h kept records
  staying_is = same_records (staying h kept records) (remaining h kept records) (filter_rises stay_test records rise)
      (rises_join kept (from h records) kept_rise (filter_rises high_test records rise)
      (λ x y has there. let under = (among x has).1 in let over = le_is h y.0 (filter_has high_test records y there).1 in omega (arith, under, over))) onto back
    where
      onto : (z : ℕ × Record) → Has (staying h kept records) z → Has (remaining h kept records) z
      onto z has = let (there, taken) = filter_has stay_test records z has in by there (or_cases (nat_le h z.0) (list_any (λ at. at == z.0) (offsets_of kept)) taken)
        where
          by : Has records z → (nat_le h z.0 ≡ true) ⊎ (list_any (λ at. at == z.0) (offsets_of kept) ≡ true) → Has (remaining h kept records) z
          by there (inl over) = has_right kept (from h records) z (has_filter high_test records z there over)
          by there (inr any) =
              let (x, in_kept, place) = of_map (λ (x : ℕ × Record). x.0) kept z.0 (there_any (offsets_of kept) z.0 any) in
              let has = in_has kept x in_kept in
              let same = one_at records x z rise (among x has).0 there place in
              has_left kept (from h records) z (subst (Has kept) (λ i. (place i, same i)) has)

      back : (z : ℕ × Record) → Has (remaining h kept records) z → Has (staying h kept records) z
      back z has = by (has_either kept (from h records) z has)
        where
          by : Has kept z ⊎ Has (from h records) z → Has (staying h kept records) z
          by (inl has) =
              has_filter stay_test records z (among z has).0
              (or_right (nat_le h z.0) (list_any (λ at. at == z.0) (offsets_of kept)) (any_there (offsets_of kept) z.0 (in_map (λ (x : ℕ × Record). x.0) kept z (has_in kept z has))))
          by (inr has) =
              let (there, over) = filter_has high_test records z has in
              has_filter stay_test records z there (or_left (nat_le h z.0) (list_any (λ at. at == z.0) (offsets_of kept)) over)

  pub accepted : core_records (remaining h kept records) ≡ filter (stays h (offsets_of kept)) (core_records records)
  accepted = ap core_records (sym staying_is) ∙ staying_cores records h kept

-- ---- there is a valid pair

abbrev any_of : List ℕ → ℕ → Bool
any_of ks n = list_any (λ at. at == n) ks

-- what the records mark, from the last one down: a record of the collection, and one below it that is marked, marks what it refers to
module _ (h e0 : ℕ) where
  takes : List ℕ → ℕ → Bool
  takes marks at = (nat_le h at && nat_lt at e0) || (nat_lt at h && any_of marks at)

  marked : Records → List ℕ
  marked [] = []
  marked (x ∷ xs) = cond (takes (marked xs) x.0) (refs_of x.1 ++ marked xs) (marked xs)

and_both : (c d : Bool) → c ≡ true → d ≡ true → (c && d) ≡ true
and_both true d e f = f
and_both false d e f = absurd (false≢true e)

and_cases : (c d : Bool) → (c && d) ≡ true → (c ≡ true) × (d ≡ true)
and_cases true d e = (refl, e)
and_cases false d e = absurd (false≢true e)

lt_test : (m n : ℕ) → m < n → nat_lt m n ≡ true
lt_test m n l = grind (arith, nat_tests)

lt_is : (m n : ℕ) → nat_lt m n ≡ true → m < n
lt_is m n e = grind (arith, nat_tests)

in_left : {X : Type 0} (xs ys : List X) (n : X) → In xs n → In (xs ++ ys) n
in_left [] ys n i = absurd i
in_left (x ∷ xs) ys n (inl e) = inl e
in_left (x ∷ xs) ys n (inr i) = inr (in_left xs ys n i)

in_right : {X : Type 0} (xs ys : List X) (n : X) → In ys n → In (xs ++ ys) n
in_right [] ys n i = i
in_right (x ∷ xs) ys n i = inr (in_right xs ys n i)

in_either : {X : Type 0} (xs ys : List X) (n : X) → In (xs ++ ys) n → In xs n ⊎ In ys n
in_either [] ys n i = inr i
in_either (x ∷ xs) ys n (inl e) = inl (inl e)
in_either (x ∷ xs) ys n (inr i) = by (in_either xs ys n i)
  where
    by : In xs n ⊎ In ys n → ((x ≡ n) ⊎ In xs n) ⊎ In ys n
    by (inl a) = inl (inr a)
    by (inr b) = inr b

rising_offsets : (xs : Records) → Rises xs → IsStrictlyIncreasing (offsets_of xs)
rising_offsets [] rise k l = absurd (omega (arith, l))
rising_offsets (x ∷ []) rise k l = absurd (omega (arith, l))
rising_offsets (x ∷ y ∷ xs) (above, rise) zero l = above y (inl refl)
rising_offsets (x ∷ y ∷ xs) (above, rise) (suc k) l =
    let e : suc (k + 1) ≡ suc k + 1 = omega arith in
    subst (λ (n : ℕ). slice_index (offsets_of (x ∷ y ∷ xs)) (suc k) < slice_index (offsets_of (x ∷ y ∷ xs)) n) e (rising_offsets (y ∷ xs) rise k (omega (arith, l)))

module _ (s : Slot) (records : Records) (rise : Rises records) (good : AreGood s [] records) (h e0 : ℕ) where
  core_there : (x : ℕ × Record) → Has records x → Contains (core_records records) (core_record x)
  core_there x has = in_contains (core_records records) (core_record x) (in_map core_record records x (has_in records x has))

  -- what is marked below the commit is reached
  marked_reached : (xs : Records) → ((x : ℕ × Record) → Has xs x → Has records x) → (at : ℕ) → In (marked h e0 xs) at → at < h → Reached (core_records records) h e0 at
  unfolding marked takes
  marked_reached [] there at i under = absurd i
  marked_reached (x ∷ xs) there at i under = by (takes h e0 (marked h e0 xs) x.0) refl i (λ at i under. marked_reached xs (λ y has. there y (inr has)) at i under)
    where
      ref_reached : ((at : ℕ) → In (marked h e0 xs) at → at < h → Reached (core_records records) h e0 at) → In (refs_of x.1) at
          → ((nat_le h x.0 && nat_lt x.0 e0) ≡ true) ⊎ ((nat_lt x.0 h && any_of (marked h e0 xs) x.0) ≡ true) → Reached (core_records records) h e0 at
      ref_reached later ref (inl e) =
          let (low, high) = and_cases (nat_le h x.0) (nat_lt x.0 e0) e in
          from_above (core_record x) at (core_there x (there x (inl refl))) (le_is h x.0 low) (lt_is x.0 e0 high) (in_contains (refs_of x.1) at ref) under
      ref_reached later ref (inr e) =
          let (below, any) = and_cases (nat_lt x.0 h) (any_of (marked h e0 xs) x.0) e in
          from_kept (core_record x) at (core_there x (there x (inl refl))) (later x.0 (there_any (marked h e0 xs) x.0 any) (lt_is x.0 h below)) (in_contains (refs_of x.1) at ref)

      by : (b : Bool) → takes h e0 (marked h e0 xs) x.0 ≡ b → In (cond b (refs_of x.1 ++ marked h e0 xs) (marked h e0 xs)) at → ((at : ℕ) → In (marked h e0 xs) at → at < h → Reached (core_records records) h e0 at) → Reached (core_records records) h e0 at
      by true e i later = pick (in_either (refs_of x.1) (marked h e0 xs) at i)
        where
          pick : In (refs_of x.1) at ⊎ In (marked h e0 xs) at → Reached (core_records records) h e0 at
          pick (inl ref) = ref_reached later ref (or_cases (nat_le h x.0 && nat_lt x.0 e0) (nat_lt x.0 h && any_of (marked h e0 xs) x.0) e)
          pick (inr i) = later at i under
      by false e i later = later at i under

  -- what later records mark stays marked
  marks_stay : (before after : Records) (at : ℕ) → In (marked h e0 after) at → In (marked h e0 (before ++ after)) at
  unfolding marked
  marks_stay [] after at i = i
  marks_stay (x ∷ before) after at i = by (takes h e0 (marked h e0 (before ++ after)) x.0) (marks_stay before after at i)
    where
      by : (b : Bool) → In (marked h e0 (before ++ after)) at → In (cond b (refs_of x.1 ++ marked h e0 (before ++ after)) (marked h e0 (before ++ after))) at
      by true i = in_right (refs_of x.1) (marked h e0 (before ++ after)) at i
      by false i = i

  -- what is marked is marked by a later record
  marks_later : (before after : Records) (at : ℕ) → ((x : ℕ × Record) → Has before x → (Has records x × (x.0 ≤ at))) → In (marked h e0 (before ++ after)) at → In (marked h e0 after) at
  unfolding marked
  marks_later [] after at low i = i
  marks_later (x ∷ before) after at low i = by (takes h e0 (marked h e0 (before ++ after)) x.0) i (marks_later before after at (λ y has. low y (inr has)))
    where
      none : In (refs_of x.1) at → In (marked h e0 after) at
      none ref =
          let (there, under) = low x (inl refl) in
          let below = (good_refers s records rise good x there at ref).below in
          absurd (omega (arith, below, under))

      by : (b : Bool) → In (cond b (refs_of x.1 ++ marked h e0 (before ++ after)) (marked h e0 (before ++ after))) at → (In (marked h e0 (before ++ after)) at → In (marked h e0 after) at) → In (marked h e0 after) at
      by true i later = pick (in_either (refs_of x.1) (marked h e0 (before ++ after)) at i)
        where
          pick : In (refs_of x.1) at ⊎ In (marked h e0 (before ++ after)) at → In (marked h e0 after) at
          pick (inl ref) = none ref
          pick (inr i) = later i
      by false i later = later i

  -- a record that is taken marks what it refers to
  takes_marks : (x : ℕ × Record) (after : Records) (at : ℕ) → takes h e0 (marked h e0 after) x.0 ≡ true → In (refs_of x.1) at → In (marked h e0 (x ∷ after)) at
  unfolding marked
  takes_marks x after at e ref = subst (λ (b : Bool). In (cond b (refs_of x.1 ++ marked h e0 after) (marked h e0 after)) at) (sym e) (in_left (refs_of x.1) (marked h e0 after) at ref)

  -- the records up to one lie at or below it
  rises_up_to : (before after : Records) (x : ℕ × Record) → Rises (before ++ x ∷ after) → (y : ℕ × Record) → Has (before ++ x ∷ []) y → y.0 ≤ x.0
  rises_up_to [] after x r y (inl e) = let same = ap (λ (z : ℕ × Record). z.0) e in omega (arith, same)
  rises_up_to [] after x r y (inr h) = absurd h
  rises_up_to (z ∷ before) after x (above, r) y (inl e) =
      let same = ap (λ (z : ℕ × Record). z.0) e in
      let low = above x (has_right before (x ∷ after) x (inl refl)) in
      omega (arith, same, low)
  rises_up_to (z ∷ before) after x (above, r) y (inr h) = rises_up_to before after x r y h

  reached_marked : (at : ℕ) → Reached (core_records records) h e0 at → In (marked h e0 records) at
  unfolding takes
  reached_marked at (from_above q b in_q high low ref under) =
      let (x, there, is) = of_map core_record records q (in_from (core_records records) q in_q) in
      let k = cut records x (in_has records x there) in
      let place : x.0 ≡ q.at = ap (λ (c : CoreRecord). c.at) is in
      subst (λ (l : Records). In (marked h e0 l) b) (sym k.is)
      (marks_stay k.before (x ∷ k.after) b
      (takes_marks x k.after b (or_left (nat_le h x.0 && nat_lt x.0 e0) (nat_lt x.0 h && any_of (marked h e0 k.after) x.0) (and_both (nat_le h x.0) (nat_lt x.0 e0) (le_test h x.0 (omega (arith, place, high))) (lt_test x.0 e0 (omega (arith, place, low)))))
      (in_from (refs_of x.1) b (subst (λ (c : CoreRecord). Contains c.refs b) (sym is) ref))))
  reached_marked at (from_kept q b in_q deep ref) =
      let (x, there, is) = of_map core_record records q (in_from (core_records records) q in_q) in
      let k = cut records x (in_has records x there) in
      let place : x.0 ≡ q.at = ap (λ (c : CoreRecord). c.at) is in
      let whole : records ≡ (k.before ++ x ∷ []) ++ k.after = k.is ∙ sym (append_assoc k.before (x ∷ []) k.after) in
      let below = (reached_there s records rise good h e0 q.at deep).below in
      let here : In (marked h e0 ((k.before ++ x ∷ []) ++ k.after)) x.0 = subst (λ (l : Records). In (marked h e0 l) x.0) whole (subst (λ (n : ℕ). In (marked h e0 records) n) (sym place) (reached_marked q.at deep)) in
      let later = marks_later (k.before ++ x ∷ []) k.after x.0
      (λ y has. (subst (λ (l : Records). Has l y) (sym whole) (has_left (k.before ++ x ∷ []) k.after y has), rises_up_to k.before k.after x (subst Rises k.is rise) y has)) here in
      subst (λ (l : Records). In (marked h e0 l) b) (sym k.is)
      (marks_stay k.before (x ∷ k.after) b
      (takes_marks x k.after b (or_right (nat_le h x.0 && nat_lt x.0 e0) (nat_lt x.0 h && any_of (marked h e0 k.after) x.0) (and_both (nat_lt x.0 h) (any_of (marked h e0 k.after) x.0) (lt_test x.0 h (omega (arith, place, below))) (any_there (marked h e0 k.after) x.0 later)))
      (in_from (refs_of x.1) b (subst (λ (c : CoreRecord). Contains c.refs b) (sym is) ref))))

  kept_test : ℕ × Record → Bool
  kept_test x = nat_lt x.0 h && any_of (marked h e0 records) x.0

  some_kept : IsKept records h e0 (filter kept_test records)
  unfolding kept_test
  some_kept = record { ascending = rising_offsets (filter kept_test records) (filter_rises kept_test records rise); each = λ x. (to x, from x) }
    where
      to : (x : ℕ × Record) → Contains (filter kept_test records) x → Contains records x × Reached (core_records records) h e0 x.0
      to x (k, l, e) =
          let (there, taken) = filter_has kept_test records x (has_from (filter kept_test records) x k l e) in
          let (under, any) = and_cases (nat_lt x.0 h) (any_of (marked h e0 records) x.0) taken in
          (contains_from records x there, marked_reached records (λ y has. has) x.0 (there_any (marked h e0 records) x.0 any) (lt_is x.0 h under))

      from : (x : ℕ × Record) → Contains records x × Reached (core_records records) h e0 x.0 → Contains (filter kept_test records) x
      from x ((k, l, e), reached) =
          contains_from (filter kept_test records) x
          (has_filter kept_test records x (has_from records x k l e)
          (and_both (nat_lt x.0 h) (any_of (marked h e0 records) x.0) (lt_test x.0 h (reached_there s records rise good h e0 x.0 reached).below) (any_there (marked h e0 records) x.0 (reached_marked x.0 reached))))

  pub some_valid : (pair : Pair) × IsValid records h e0 pair
  some_valid = (
    record { mapping = mapping_bytes h e0 (runs_of (filter kept_test records)); prefix = kept_bytes (filter kept_test records) },
    record { kept = filter kept_test records; each = some_kept; mapping = refl; prefix = refl },
  )

-- ---- what stays of what is reached from the commit on

module _ (s : Slot) (records : Records) (rise : Rises records) (good : AreGood s [] records) (h e0 : ℕ) (kept : Records) (is_kept : IsKept records h e0 kept) (rests : RestsOn records h e0 kept) where
  reaches_stays : (from at : ℕ) → h ≤ from → Reaches (core_records records) from at → Stays s records rise good h e0 kept is_kept rests at
  reaches_stays from to low itself = inl low
  reaches_stays from to low (by_ref q b reach in_q ref) =
      let (x, there, is) = of_map core_record records q (in_from (core_records records) q in_q) in
      let place : x.0 ≡ q.at = ap (λ (c : CoreRecord). c.at) is in
      stays_closed s records rise good h e0 kept is_kept rests q.at x.1 b (reaches_stays from q.at low reach) (subst (λ (n : ℕ). present records n ≡ Some x.1) place (has_present records x rise (in_has records x there)))
      (in_from (refs_of x.1) b (subst (λ (c : CoreRecord). Contains c.refs b) (sym is) ref))

  staying_present : (at : ℕ) (r : Record) → Stays s records rise good h e0 kept is_kept rests at → present records at ≡ Some r → present (staying h kept records) at ≡ Some r
  staying_present at r stay is =
      filter_present (test s records rise good h e0 kept is_kept rests) records at r rise is (test_stays s records rise good h e0 kept is_kept rests (at, r) (present_has records at r is) stay)

  pub reached_present : (from at : ℕ) (r : Record) → h ≤ from → Reaches (core_records records) from at → present records at ≡ Some r → present (staying h kept records) at ≡ Some r
  reached_present from at r low reach is = staying_present at r (reaches_stays from at low reach) is

  pub reached_tree : (from root : ℕ) (tree : Tree) → h ≤ from → Reaches (core_records records) from root → TreeAt (present records) root tree → TreeAt (present (staying h kept records)) root tree
  reached_tree from root tree low reach (directory, part) = (
    directory,
    staying_part (present records) (present (staying h kept records)) (Stays s records rise good h e0 kept is_kept rests)
        (λ at r stay is. staying_present at r stay is)
        (λ at r b stay is ref. stays_closed s records rise good h e0 kept is_kept rests at r b stay is ref)
        (reaches_stays from root low reach) part,
  )

-- ---- records behind the end of a collection

module _ (image : Image) (A : Standing image) (h e0 : ℕ) (pair : Pair) (before since : Records) (is : A.records ≡ before ++ since) (order : h ≤ e0) (behind : (x : ℕ × Record) → Has since x → e0 ≤ x.0) where
  before_rises : Rises before
  before_rises = rises_front before since (subst Rises is (image_rises image A))

  before_good : AreGood A.slot [] before
  before_good = (good_both A.slot [] before since (subst (AreGood A.slot []) is A.good)).0

  valid_with : (p : Pair) → IsValid before h e0 p → IsValid (before ++ since) h e0 p
  valid_with p valid = valid_on A.slot before before_rises before_good h e0 p since order behind valid

  -- the valid pair of those before is that of all
  pub valid_since : IsValid before h e0 pair ↔ IsValid A.records h e0 pair
  valid_since = (λ valid. subst (λ (xs : Records). IsValid xs h e0 pair) (sym is) (valid_with pair valid), λ valid. back valid)
    where
      back : IsValid A.records h e0 pair → IsValid before h e0 pair
      back valid =
          let (p, there) = some_valid A.slot before before_rises before_good h e0 in
          subst (λ (q : Pair). IsValid before h e0 q) (one_valid (before ++ since) h e0 p pair (valid_with p there) (subst (λ (xs : Records). IsValid xs h e0 pair) is valid)) there

-- ---- what stays of what is reached from the commit of a collection on

module _ (image : Image) (A : Standing image) (r : Repository) (horizon c h e0 : ℕ) (offsets : List ℕ) (ended : Bool) (kept : Records)
    (collectable : IsCollectable A.records r horizon c h e0 offsets ended) (is_kept : IsKept A.records h e0 kept) where
  collected_rests : RestsOn A.records h e0 kept
  collected_rests = core_rests A.slot A.records (image_rises image A) A.good h e0 kept is_kept offsets (let below = collectable.below in omega (arith, below)) collectable.reached collectable.core.keeps

  collected_is : staying h kept A.records ≡ remaining h kept A.records
  collected_is = staying_is A.records (image_rises image A) h kept (kept_rises A.slot A.records (image_rises image A) A.good h e0 kept is_kept) (kept_among A.slot A.records (image_rises image A) A.good h e0 kept is_kept)

  pub collected_present : (from at : ℕ) (x : Record) → h ≤ from → Reaches (core_records A.records) from at → present A.records at ≡ Some x → present (remaining h kept A.records) at ≡ Some x
  collected_present from at x low reach is =
      subst (λ (xs : Records). present xs at ≡ Some x) collected_is (reached_present A.slot A.records (image_rises image A) A.good h e0 kept is_kept collected_rests from at x low reach is)

  pub collected_tree : (from root : ℕ) (tree : Tree) → h ≤ from → Reaches (core_records A.records) from root → TreeAt (present A.records) root tree → TreeAt (present (remaining h kept A.records)) root tree
  collected_tree from root tree low reach is =
      subst (λ (xs : Records). TreeAt (present xs) root tree) collected_is (reached_tree A.slot A.records (image_rises image A) A.good h e0 kept is_kept collected_rests from root tree low reach is)

-- ---- a collection starts

-- no record lies at the end or behind it
rests_at_end : (image : Image) (A : Standing image) (h : ℕ) (kept : Records) → RestsOn A.records h A.slot.end kept
rests_at_end image A h kept x at in_x late ref =
    let (y, there, is) = of_map core_record A.records x (in_from (core_records A.records) x in_x) in
    let (_, under, some) = ordered_has 0 A.records A.slot.end y (image_ordered image A) (in_has A.records y there) in
    let place : y.0 ≡ x.at = ap (λ (c : CoreRecord). c.at) is in
    absurd (omega (arith, late, under, some, place))

-- over all records up to the end
pub collection_starts : (image : Image) (A : Standing image) (r : Repository) (commit : CommitRecord) (h : ℕ) (kept : Records) (ended : Bool) → present A.records h ≡ Some (Record.Commit commit)
    → All (λ e. commit.number ≤ e.1) r.branches.entries → HasTable h A.records → IsKept A.records h A.slot.end kept → IsCollectable A.records r A.slot.horizon commit.number h A.slot.end (offsets_of kept) ended
collection_starts image A r commit h kept ended here heads table is_kept =
    let closed = records_closed A.slot A.records (image_rises image A) A.good A.slot.horizon A.slot.end (image_ordered image A) in
    record {
      commit = commit;
      here = here;
      number = refl;
      below = image_below image A h (Record.Commit commit) here;
      heads = heads;
      table = table;
      reached = offsets_reached A.slot A.records (image_rises image A) A.good h A.slot.end kept is_kept;
      core = record {
        order = closed.order;
        below = closed.below;
        keeps = kept_set A.slot A.records (image_rises image A) A.good h A.slot.end kept is_kept (rests_at_end image A h kept);
      };
    }

-- ---- and goes on

-- records behind the end of a collection reach nothing more
module _ (records new : List CoreRecord) (h e0 : ℕ) (kept : List ℕ) (reached : AreReached records h e0 kept) (set : IsKeptSet records h kept) (order : h ≤ e0) (behind : (q : CoreRecord) → Contains new q → e0 ≤ q.at) where
  either_of : (q : CoreRecord) → Contains (records ++ new) q → Contains records q ⊎ Contains new q
  either_of q c = by (in_either records new q (in_from (records ++ new) q c))
    where
      by : In records q ⊎ In new q → Contains records q ⊎ Contains new q
      by (inl i) = inl (in_contains records q i)
      by (inr i) = inr (in_contains new q i)

  among_all : (q : CoreRecord) → Contains records q → Contains (records ++ new) q
  among_all q c = in_contains (records ++ new) q (in_left records new q (in_from records q c))

  reached_less : (at : ℕ) → Reached (records ++ new) h e0 at → Reached records h e0 at
  reached_less at (from_above q b in_q high low ref under) = by (either_of q in_q)
    where
      by : Contains records q ⊎ Contains new q → Reached records h e0 b
      by (inl c) = from_above q b c high low ref under
      by (inr c) = let late = behind q c in absurd (omega (arith, late, low))
  reached_less at (from_kept q b in_q deep ref) = by (either_of q in_q) (reached_less q.at deep)
    where
      by : Contains records q ⊎ Contains new q → Reached records h e0 q.at → Reached records h e0 b
      by (inl c) there = from_kept q b c there ref
      by (inr c) there = let late = behind q c in let under = (set.below q.at ((reached.each q.at).1 there)).0 in absurd (omega (arith, late, under, order))

  reached_more : (at : ℕ) → Reached records h e0 at → Reached (records ++ new) h e0 at
  reached_more at (from_above q b in_q high low ref under) = from_above q b (among_all q in_q) high low ref under
  reached_more at (from_kept q b in_q deep ref) = from_kept q b (among_all q in_q) (reached_more q.at deep) ref

  reached_on : AreReached (records ++ new) h e0 kept
  reached_on = record { ascending = reached.ascending; each = λ at. ((λ c. reached_more at ((reached.each at).0 c)), λ there. (reached.each at).1 (reached_less at there)) }

cores_behind : (e0 : ℕ) (new : Records) → All (λ (x : ℕ × Record). e0 ≤ x.0) new → (q : CoreRecord) → Contains (core_records new) q → e0 ≤ q.at
cores_behind e0 new behind q c =
    let (x, there, is) = of_map core_record new q (in_from (core_records new) q c) in
    let (k, l, e) = in_contains new x there in
    subst (λ (c : CoreRecord). e0 ≤ c.at) is (subst (λ (z : ℕ × Record). e0 ≤ z.0) e (behind k x l))

-- with more records behind the others, that the core can append, and branches of which none is at a commit that goes
pub collection_goes_on : (records new : Records) (r q : Repository) (horizon c h e0 : ℕ) (kept : List ℕ) (ended : Bool) → IsCollectable records r horizon c h e0 kept ended
    → FollowOn (core_records records) (CorePhase.collecting h kept ended) (core_records new) → All (λ (x : ℕ × Record). e0 ≤ x.0) new → All (λ e. c ≤ e.1) q.branches.entries
    → IsCollectable (records ++ new) q horizon c h e0 kept ended
collection_goes_on records new r q horizon c h e0 kept ended is follow behind heads = record {
  commit = is.commit;
  here = present_front records new h (Record.Commit is.commit) is.here;
  number = is.number;
  below = is.below;
  heads = heads;
  table = record { at = is.table.at; rows = is.table.rows; above = is.table.above; here = present_front records new is.table.at (Record.BranchTable is.table.rows) is.table.here };
  reached = subst (λ (cores : List CoreRecord). AreReached cores h e0 kept) (sym (map-append core_record records new))
      (reached_on (core_records records) (core_records new) h e0 kept is.reached is.core.keeps (let below = is.below in omega (arith, below)) (cores_behind e0 new behind));
  core = (step_keeps (core_of records horizon (CorePhase.collecting h kept ended)) (core_of (records ++ new) horizon (CorePhase.collecting h kept ended)) (Event.Append (core_records new)) (follow, λ i. record { records = map-append core_record records new i; horizon = horizon; phase = CorePhase.collecting h kept ended }) is.core).0;
}

-- whether its child has ended or not
pub collection_ends : (records : Records) (r : Repository) (horizon c h e0 : ℕ) (kept : List ℕ) (ended other : Bool) → IsCollectable records r horizon c h e0 kept ended → IsCollectable records r horizon c h e0 kept other
collection_ends records r horizon c h e0 kept ended other is = record {
  commit = is.commit;
  here = is.here;
  number = is.number;
  below = is.below;
  heads = is.heads;
  table = is.table;
  reached = is.reached;
  core = record { order = is.core.order; below = is.core.below; keeps = is.core.keeps };
}

-- A look at a record, over values.
--     entered      references that were entered are found.      passed      the record from the horizon on was looked at.      kept_one      so was the greatest that waits
--     stays_keep, passed_keep, kept_keep      what holds over any files
use Rattle.std.proofs.Common.{◌≡◌, ◌⊎◌, inl, inr, ℕ, ◌+◌, ◌<◌, ◌≤◌, List, [], ◌∷◌, ◌++◌, refl, sym, ap, subst, ◌∙◌, true, length, arith}
use Rattle.std.specs.Prelude.{nat_lt, Contains, Option, Some, None, IsSome}
use Rattle.std.specs.List.{AllByRecursion}
use Rattle.std.specs.List.Sorted.{IsStrictlyIncreasing}
use Rattle.ip_ground.specs.Contents.{Image}
use Rattle.ip_spec.specs.declared.record.Record.{Record}
use Rattle.ip_spec.specs.declared.event.CoreRecord.{CoreRecord}
use Rattle.ip_spec.specs.Record.{spelling}
use Rattle.ip_spec.specs.TreeAt.{Records, present}
use Rattle.ip_spec.specs.Core.{core_record, core_records, Reached, from_above, from_kept, IsPresent}
use Rattle.ip_image.specs.declared.run.Run.{Run}
use Rattle.ip_image.proofs.PairLaws.{Has}
use Rattle.ip_image.proofs.StayingRecords.{In, in_from, in_contains, present_has, has_present}
use Rattle.ip_space.specs.Scanning.{RunsTo, at_the_end, behind}
use Rattle.std.proofs.lemmas.Bool.{cases_lt}
use Rattle.std.proofs.lemmas.Bool.Decides.{nat_tests}
use Rattle.std.proofs.lemmas.Option.{same_Some}
use Rattle.ip_spec.proofs.ReadingLaws.{all_test}
use Rattle.ip_spec.proofs.Spelling.{some_bytes}
use Rattle.ip_keep.specs.Entering.{are_below, refs_of, GainsSome}
use Rattle.ip_keep.specs.KeepView.{KeepView}
use Rattle.ip_keep.specs.Keeping.{IsKeep, IsKeeping, IsFound, offsets, lowest}
use Rattle.ip_keep.specs.Runs.{least}
use Rattle.ip_keep.specs.Whole.{AreRecords}
use Rattle.ip_keep.proofs.Ascending.{Lies, all_in, up, in_push, push_in, push_last, push_below, in_order, one_here, counted}
use Rattle.ip_keep.proofs.WholeRecords.{in_place, rise, of_core, core_here, present_here}

-- what waits, where references were entered
abbrev pub waits : KeepView → List ℕ → KeepView
waits k waiting = record k { waiting = waiting }

-- behind a record that was looked at
abbrev pub behind_next : KeepView → Record → KeepView
behind_next k r = record k { next = k.next + length (spelling r); seen = k.seen + 1 }

-- the greatest that waits is kept
abbrev pub with_kept : KeepView → List ℕ → Run → KeepView
with_kept k rest run = record k { waiting = rest; kept = run ∷ k.kept }

-- ---- over any files

all_at : (P : ℕ → Type 0) (xs : List ℕ) → AllByRecursion P xs → (x : ℕ) → In xs x → P x
all_at P [] all x c = absurd c
all_at P (y ∷ xs) all x (inl e) = subst P e all.0
all_at P (y ∷ xs) all x (inr c) = all_at P xs all.1 x c

all_below : (n : ℕ) (refs : List ℕ) → ((at : ℕ) → In refs at → at < n) → are_below n refs ≡ true
all_below n refs each = all_test (λ (at : ℕ). at < n) (λ (at : ℕ). nat_lt at n) (λ at less. grind (arith, nat_tests)) refs (all_in (λ (at : ℕ). at < n) refs each)

pub waits_below : (k : KeepView) → IsKeep k → (at : ℕ) → Contains k.waiting at → at < lowest k
waits_below k keep at c = all_at (λ at. at < lowest k) k.waiting keep.below at (in_from k.waiting at c)

-- what was entered lies below a bound, which is not above the lowest that was kept
pub stays_keep : (k : KeepView) (w refs : List ℕ) (below : ℕ) → IsKeep k → below ≤ lowest k → GainsSome k.waiting w refs below → IsKeep (waits k w)
stays_keep k w refs below keep le gains = record {
  ends = keep.ends;
  low = keep.low;
  high = keep.high;
  seen = keep.seen;
  waits = gains.rises keep.waits;
  below = all_in (λ at. at < lowest k) w (λ at c. by at (gains.only at (in_contains w at c)));
  apart = keep.apart;
  first = keep.first;
}
  where
    by : (at : ℕ) → Contains k.waiting at ⊎ (Contains refs at × (at < below)) → at < lowest k
    by at (inl c) = waits_below k keep at c
    by at (inr (c, less)) = omega (arith, less, le)

pub horizon_low : (k : KeepView) → IsKeep k → k.next < k.space.layout.end → k.horizon ≤ lowest k
horizon_low k keep more = let e = ap (least k.horizon) (keep.first more) in omega (arith, e)

pub passed_keep : (k : KeepView) (r : Record) → IsKeep k → k.next < k.space.layout.end → k.next + length (spelling r) ≤ k.space.layout.end → IsKeep (behind_next k r)
passed_keep k r keep more inside = record {
  ends = keep.ends;
  low = let l = keep.low in omega (arith, l);
  high = inside;
  seen = let l = keep.seen in let some = some_bytes r in omega (arith, l, some);
  waits = keep.waits;
  below = keep.below;
  apart = keep.apart;
  first = λ less. keep.first more;
}

pub kept_keep : (k : KeepView) (rest : List ℕ) (run : Run) → IsKeep k → k.next ≡ k.space.layout.end → k.waiting ≡ rest ++ run.at ∷ [] → 0 < run.length → run.at + run.length ≤ lowest k
    → IsStrictlyIncreasing rest → IsKeep (with_kept k rest run)
kept_keep k rest run keep through is some inside rises = record {
  ends = keep.ends;
  low = keep.low;
  high = keep.high;
  seen = keep.seen;
  waits = rises;
  below = all_in (λ at. at < run.at) rest (λ at c. push_below rest run.at at (up (rest ++ run.at ∷ []) (subst IsStrictlyIncreasing is keep.waits)) c);
  apart = (some, inside, keep.apart);
  first = λ less. absurd (omega (arith, less, through));
}

-- ---- what was found

module _ (image : Image) (records : Records) (k : KeepView) (whole : AreRecords image k.space k.horizon records) (keeping : IsKeeping records k) where
  abbrev cores : List CoreRecord
  cores = core_records records

  abbrev Sound : ℕ → Type 0
  Sound at = Reached cores k.horizon k.space.layout.end at

  found_on : (w : List ℕ) → ((at : ℕ) → Contains k.waiting at → Contains w at) → (at : ℕ) → IsFound k at → IsFound (waits k w) at
  found_on w on at (inl c) = inl (on at c)
  found_on w on at (inr c) = inr c

  -- references of a record that are in the least set
  pub entered : (w refs : List ℕ) (below : ℕ) → GainsSome k.waiting w refs below → ((at : ℕ) → Contains refs at → at < below → Sound at) → IsKeeping records (waits k w)
  entered w refs below gains sound = record {
    border = keeping.border;
    seen = keeping.seen;
    sound = λ at c. by at c;
    above = λ r at c low high ref under. found_on w gains.kept at (keeping.above r at c low high ref under);
    closed = λ r at c kept ref. found_on w gains.kept at (keeping.closed r at c kept ref);
    lengths = keeping.lengths;
  }
    where
      pick : (at : ℕ) → Contains k.waiting at ⊎ (Contains refs at × (at < below)) → Sound at
      pick at (inl c) = keeping.sound at (inl c)
      pick at (inr (c, less)) = sound at c less

      by : (at : ℕ) → IsFound (waits k w) at → Sound at
      by at (inl c) = pick at (gains.only at c)
      by at (inr c) = keeping.sound at (inr c)

  -- those of a record from the horizon on
  pub above_sound : (r : Record) (n : ℕ) → k.horizon ≤ n → n < k.space.layout.end → present records n ≡ Some r → (at : ℕ) → Contains (refs_of r) at → at < k.horizon → Sound at
  above_sound r n low high here at c under = from_above (core_record (n, r)) at (core_here image k.space k.horizon records whole (n, r) (present_has records n r here)) low high c under

  -- those of one that waits
  pub below_sound : (r : Record) (n : ℕ) → Contains k.waiting n → present records n ≡ Some r → (at : ℕ) → Contains (refs_of r) at → Sound at
  below_sound r n waits here at c = from_kept (core_record (n, r)) at (core_here image k.space k.horizon records whole (n, r) (present_has records n r here)) (keeping.sound n (inl waits)) c

  -- ---- a record from the horizon on

  pub next_there : k.next < k.space.layout.end → (r : Record) × (present records k.next ≡ Some r)
  next_there more = by k.next k.space.layout.end keeping.border more
    where
      by : (from to : ℕ) → RunsTo (present records) from to → from < to → (r : Record) × (present records from ≡ Some r)
      by from to at_the_end less = absurd (omega (arith, less))
      by from to (behind found there rest) less = (found, there)

  runs_on : (from to : ℕ) (r : Record) → RunsTo (present records) from to → from < to → present records from ≡ Some r → RunsTo (present records) (from + length (spelling r)) to
  runs_on from to r at_the_end less is = absurd (omega (arith, less))
  runs_on from to r (behind other there rest) less is =
      let same : other ≡ r = same_Some other r (sym there ∙ is) in
      subst (λ (x : Record). RunsTo (present records) (from + length (spelling x)) to) same rest

  pub passed : (r : Record) → IsKeep k → k.next < k.space.layout.end → present records k.next ≡ Some r → ((at : ℕ) → Contains (refs_of r) at → at < k.horizon → IsFound k at) → IsKeeping records (behind_next k r)
  passed r keep more here found = record {
    border = runs_on k.next k.space.layout.end r keeping.border more here;
    seen = (let s = keeping.seen in let c = counted k.horizon 0 records place.to (k.next, r) keep.low place.ordered has in omega (arith, s, c));
    sound = keeping.sound;
    above = above;
    closed = keeping.closed;
    lengths = keeping.lengths;
  }
    where
      place : Lies 0 records
      place = in_place image k.space k.horizon records whole

      has : Has records (k.next, r)
      has = present_has records k.next r here

      above : (q : CoreRecord) (at : ℕ) → Contains cores q → k.horizon ≤ q.at → q.at < k.next + length (spelling r) → Contains q.refs at → at < k.horizon → IsFound k at
      above q at c low high ref under = by (cases_lt q.at k.next)
        where
          by : (q.at < k.next) ⊎ (k.next ≤ q.at) → IsFound k at
          by (inl before) = keeping.above q at c low before ref under
          by (inr from) =
              let (x, there, is) = of_core image k.space k.horizon records whole q c in
              let at_x : x.0 ≡ q.at = ap (λ (c : CoreRecord). c.at) is in
              let same : (k.next, r) ≡ x = one_here 0 records place.to (k.next, r) x place.ordered has there (omega (arith, from, at_x)) (omega (arith, high, at_x)) in
              found at (subst (λ (c : CoreRecord). Contains c.refs at) (sym (ap core_record same ∙ is)) ref) under

  -- ---- one that waits

  pub waits_there : (at : ℕ) → Contains k.waiting at → (r : Record) × (present records at ≡ Some r)
  waits_there at c = present_here image k.space k.horizon records whole at (by at (keeping.sound at (inl c)))
    where
      by : (at : ℕ) → Sound at → IsPresent cores at
      by at (from_above q b c low high ref under) = (whole.closed.below q b c ref).1
      by at (from_kept q b c deep ref) = (whole.closed.below q b c ref).1

  -- it ends at or below the lowest that was kept
  pub inside_lowest : (at : ℕ) (r : Record) → at < lowest k → present records at ≡ Some r → at + length (spelling r) ≤ lowest k
  inside_lowest at r less here = by k.kept refl
    where
      place : Lies 0 records
      place = in_place image k.space k.horizon records whole

      over : (n : ℕ) → at < n → (s : Record) × (present records n ≡ Some s) → at + length (spelling r) ≤ n
      over n less (s, there) = in_order 0 records place.to (at, r) (n, s) place.ordered (present_has records at r here) (present_has records n s there) less

      some_of : (o : Option Record) → IsSome o → (s : Record) × (o ≡ Some s)
      some_of None is = absurd (cc (is))
      some_of (Some s) is = (s, refl)

      by : (runs : List Run) → k.kept ≡ runs → at + length (spelling r) ≤ lowest k
      by [] is =
          let low : lowest k ≡ k.horizon = ap (least k.horizon) is in
          let l = over k.horizon (omega (arith, less, low)) (some_of (present records k.horizon) whole.here) in omega (arith, l, low)
      by (run ∷ runs) is =
          let low : lowest k ≡ run.at = ap (least k.horizon) is in
          let (s, there, long) = keeping.lengths run (in_contains k.kept run (subst (λ (l : List Run). In l run) (sym is) (inl refl))) in
          let l = over run.at (omega (arith, less, low)) (s, there) in omega (arith, l, low)

  pub refers_under : (r : Record) (n : ℕ) → present records n ≡ Some r → (at : ℕ) → Contains (refs_of r) at → at < n
  refers_under r n here at c = (whole.closed.below (core_record (n, r)) at (core_here image k.space k.horizon records whole (n, r) (present_has records n r here)) c).0

  pub refers_below : (r : Record) (n : ℕ) → present records n ≡ Some r → are_below n (refs_of r) ≡ true
  refers_below r n here = all_below n (refs_of r) (λ at c. refers_under r n here at (in_contains (refs_of r) at c))

  pub kept_one : (rest : List ℕ) (run : Run) (r : Record) → k.waiting ≡ rest ++ run.at ∷ [] → present records run.at ≡ Some r → run.length ≡ length (spelling r)
      → ((at : ℕ) → Contains (refs_of r) at → IsFound k at) → IsKeeping records (with_kept k rest run)
  kept_one rest run r is here long found = record {
    border = keeping.border;
    seen = keeping.seen;
    sound = λ at c. keeping.sound at (was at c);
    above = λ q at c low high ref under. now at (keeping.above q at c low high ref under);
    closed = λ q at c kept ref. now at (by q at c (in_from (offsets (run ∷ k.kept)) q.at kept) ref);
    lengths = λ one c. lengths one (in_from (run ∷ k.kept) one c);
  }
    where
      now : (at : ℕ) → IsFound k at → IsFound (with_kept k rest run) at
      now at (inl c) = pick (in_push rest run.at at (in_from (rest ++ run.at ∷ []) at (subst (λ (l : List ℕ). Contains l at) is c)))
        where
          pick : In rest at ⊎ (run.at ≡ at) → IsFound (with_kept k rest run) at
          pick (inl d) = inl (in_contains rest at d)
          pick (inr e) = inr (in_contains (offsets (run ∷ k.kept)) at (inl e))
      now at (inr c) = inr (in_contains (offsets (run ∷ k.kept)) at (inr (in_from (offsets k.kept) at c)))

      was : (at : ℕ) → IsFound (with_kept k rest run) at → IsFound k at
      was at (inl c) = inl (subst (λ (l : List ℕ). Contains l at) (sym is) (in_contains (rest ++ run.at ∷ []) at (push_in rest run.at at (in_from rest at c))))
      was at (inr c) = pick (in_from (offsets (run ∷ k.kept)) at c)
        where
          pick : (run.at ≡ at) ⊎ In (offsets k.kept) at → IsFound k at
          pick (inl e) = inl (subst (λ (l : List ℕ). Contains l at) (sym is) (in_contains (rest ++ run.at ∷ []) at (subst (In (rest ++ run.at ∷ [])) e (push_last rest run.at))))
          pick (inr d) = inr (in_contains (offsets k.kept) at d)

      by : (q : CoreRecord) (at : ℕ) → Contains cores q → (run.at ≡ q.at) ⊎ In (offsets k.kept) q.at → Contains q.refs at → IsFound k at
      by q at c (inl e) ref =
          let (x, there, same) = of_core image k.space k.horizon records whole q c in
          let place : x.0 ≡ run.at = ap (λ (c : CoreRecord). c.at) same ∙ sym e in
          let x_here = subst (λ (n : ℕ). present records n ≡ Some x.1) place (has_present records x (rise image k.space k.horizon records whole) there) in
          let rec : x.1 ≡ r = same_Some x.1 r (sym x_here ∙ here) in
          found at (subst (λ (s : Record). Contains (refs_of s) at) rec (subst (λ (c : CoreRecord). Contains c.refs at) (sym same) ref))
      by q at c (inr d) ref = keeping.closed q at c (in_contains (offsets k.kept) q.at d) ref

      lengths : (one : Run) → In (run ∷ k.kept) one → (s : Record) × (present records one.at ≡ Some s) × (one.length ≡ length (spelling s))
      lengths one (inl e) = subst (λ (one : Run). (s : Record) × (present records one.at ≡ Some s) × (one.length ≡ length (spelling s))) e (r, here, long)
      lengths one (inr c) = keeping.lengths one (in_contains k.kept one c)

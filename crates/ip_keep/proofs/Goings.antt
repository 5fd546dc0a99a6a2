-- How the search goes on, over what is told.
--     goes_nowhere, goes_on      no call, and two.      blames_later, breaks_later      what is met by the second one is met by both
--     goes_read, goes_up, goes_behind      a record from the horizon on: not entered whole, or looked at.      goes_down, goes_kept      one that waits
--     blameless_up, blameless_down      no damage is met where records are whole
--     blames_as, blamed_as, breaks_as      of a fault, whatever an answer would have been
use Rattle.std.proofs.Common.{◌≡◌, ◌⊎◌, inl, inr, ℕ, ◌+◌, ◌<◌, ◌≤◌, List, [], ◌∷◌, ◌++◌, refl, sym, ap, subst, ◌∙◌, Bool, true, false, length, arith}
use Rattle.std.proofs.lemmas.Bool.{false≢true}
use Rattle.std.specs.Prelude.{Contains, Option, Some, IsTrue, IsSomeAnd, Result, Err, IsErrOf}
use Rattle.std.specs.List.Sorted.{IsStrictlyIncreasing}
use Rattle.std.proofs.lemmas.Option.{same_Some}
use Rattle.ip_ground.specs.Told.{Told, NoFile, ChangesOnly}
use Rattle.ip_ground.proofs.Spans.{only_nowhere, only_on}
use Rattle.ip_spec.specs.declared.record.Record.{Record}
use Rattle.ip_spec.specs.Record.{spelling}
use Rattle.ip_spec.specs.TreeAt.{Records, present}
use Rattle.ip_image.specs.declared.run.Run.{Run}
use Rattle.ip_image.specs.Standing.{RunByRun}
use Rattle.ip_image.specs.Virtual.{Stands}
use Rattle.ip_image.proofs.StayingRecords.{in_from, in_contains}
use Rattle.ip_space.specs.SpaceView.{SpaceView, IsReadable, byte_at, records_of, stretches_of}
use Rattle.ip_space.proofs.Stayed.{byte_stays, only_looks, readable_stays}
use Rattle.ip_space.proofs.StoodBytes.{alike}
use Rattle.ip_spec.proofs.Spelling.{some_bytes}
use Rattle.ip_keep.specs.declared.fault.KeepFault.{KeepFault}
use Rattle.ip_keep.specs.Entering.{are_below, refs_of, Gains, GainsSome}
use Rattle.ip_keep.specs.Going.{Goes, Blameless, Blames, Breaks}
use Rattle.ip_keep.specs.KeepView.{KeepView}
use Rattle.ip_keep.specs.Keeping.{IsKeep, IsKeeping, LeadsDown, SameWork, behind, lowest}
use Rattle.ip_keep.specs.Runs.{AreHeld}
use Rattle.ip_keep.specs.Whole.{AreRecords}
use Rattle.ip_keep.proofs.Ascending.{up, increasing, up_front, last_is}
use Rattle.ip_keep.proofs.Looked.{waits, behind_next, with_kept, waits_below, stays_keep, horizon_low, passed_keep, kept_keep, entered, above_sound, below_sound, next_there, passed, waits_there, inside_lowest, refers_under, refers_below, kept_one}
use Rattle.ip_keep.proofs.WholeRecords.{in_space}
use Rattle.ip_keep.proofs.Held.{held_stood, held_later}

pub later_whole : (a b : Told) (space : SpaceView) (h : ℕ) (records : Records) → ChangesOnly NoFile a b → IsReadable a space → AreRecords a.held space h records → AreRecords b.held space h records
later_whole a b space h records only readable whole = record {
  rows = whole.rows;
  whole = subst (λ (f : ℕ → Option ℕ). RunByRun f (stretches_of space) records) (sym (alike (byte_at a space) (byte_at b space) (byte_stays a b only space readable))) whole.whole;
  bounds = whole.bounds;
  closed = whole.closed;
  above = whole.above;
  below = whole.below;
  here = whole.here;
}

other_whole : (a : Told) (k m : KeepView) (records : Records) → SameWork k m → AreRecords a.held k.space k.horizon records → AreRecords a.held m.space m.horizon records
other_whole a k m records work whole =
    subst (λ (n : ℕ). AreRecords a.held m.space n records) (sym work.horizon) (subst (λ (s : SpaceView). AreRecords a.held s k.horizon records) (sym work.space) whole)

-- what is read as a record stays so
same_records : (a b : Told) → ChangesOnly NoFile a b → (space now : SpaceView) → now ≡ space → IsReadable a space → records_of b now ≡ records_of a space
same_records a b only space now same readable i at = (ap (λ (s : SpaceView). records_of b s at) same ∙ (only_looks a b only space).records readable at) i

pub same_work : (k : KeepView) → SameWork k k
same_work k = record { space = refl; horizon = refl }

module _ (tells : Bool) where
  pub goes_nowhere : (a : Told) (k : KeepView) → IsKeep k → Goes tells a a k k
  goes_nowhere a k keep = record { keep = keep; work = same_work k; only = λ t. only_nowhere a NoFile; keeping = λ t readable records whole keeping. keeping; held = λ t readable held. held; down = λ t readable down. down }

  pub goes_on : (a b c : Told) (k m n : KeepView) → Goes tells a b k m → Goes tells b c m n → Goes tells a c k n
  goes_on a b c k m n one two = record {
    keep = two.keep;
    work = record { space = two.work.space ∙ one.work.space; horizon = two.work.horizon ∙ one.work.horizon };
    only = λ t. only_on a b c NoFile (one.only t) (two.only t);
    keeping = λ t readable records whole keeping.
        two.keeping t (subst (IsReadable b) (sym one.work.space) (readable_stays a b (one.only t) k.space readable)) records
        (other_whole b k m records one.work (later_whole a b k.space k.horizon records (one.only t) readable whole)) (one.keeping t readable records whole keeping);
    held = λ t readable held.
        subst (λ (s : SpaceView). AreHeld (byte_at c s) n.kept) one.work.space
        (two.held t (subst (IsReadable b) (sym one.work.space) (readable_stays a b (one.only t) k.space readable))
        (subst (λ (s : SpaceView). AreHeld (byte_at b s) m.kept) (sym one.work.space) (one.held t readable held)));
    down = λ t readable down.
        let same = same_records a b (one.only t) k.space m.space one.work.space readable in
        subst (λ (f : ℕ → Option Record). LeadsDown f n) same
        (two.down t (subst (IsReadable b) (sym one.work.space) (readable_stays a b (one.only t) k.space readable))
        (subst (λ (f : ℕ → Option Record). LeadsDown f m) (sym same) (one.down t readable down)));
  }

  pub blames_later : {A : Type 0} (a b : Told) (k m : KeepView) (result : Result A KeepFault) → Goes tells a b k m → Blameless tells b m result → Blameless tells a k result
  blames_later a b k m result one later t readable records whole keeping =
      later t (subst (IsReadable b) (sym one.work.space) (readable_stays a b (one.only t) k.space readable)) records
      (other_whole b k m records one.work (later_whole a b k.space k.horizon records (one.only t) readable whole)) (one.keeping t readable records whole keeping)

  pub breaks_later : {A : Type 0} (a b : Told) (k m n : KeepView) (result : Result A KeepFault) → Goes tells a b k m → Breaks tells b m n result → Breaks tells a k n result
  breaks_later a b k m n result one later t readable at is rec there =
      later t (subst (IsReadable b) (sym one.work.space) (readable_stays a b (one.only t) k.space readable)) at is rec
      (ap (λ (s : SpaceView). records_of b s at) one.work.space ∙ (only_looks a b (one.only t) k.space).records readable at ∙ there)

  -- ---- a record is read

  module _ (a b : Told) (k : KeepView) (keep : IsKeep k) (only : IsTrue tells → ChangesOnly NoFile a b) where
    still_held : IsTrue tells → IsReadable a k.space → AreHeld (byte_at a k.space) k.kept → AreHeld (byte_at b k.space) k.kept
    still_held t readable held = held_later a b k.space (only t) readable k.kept held

    pub goes_read : Goes tells a b k k
    goes_read = record { keep = keep; work = same_work k; only = only; keeping = λ t readable records whole keeping. keeping; held = still_held; down = λ t readable down. down }

    -- the one that stands there is the one that was read
    is_there : (records : Records) → AreRecords a.held k.space k.horizon records → (at : ℕ) (r : Record) → records_of a k.space at ≡ Some r → (s : Record) × (present records at ≡ Some s) → present records at ≡ Some r
    is_there records whole at r read (s, there) =
        let e : s ≡ r = same_Some s r (sym (in_space a.held k.space k.horizon records whole at s there) ∙ read) in
        there ∙ ap (λ (x : Record). Some x) e

    module _ (r : Record) (w : List ℕ) (more : k.next < k.space.layout.end) (found : IsTrue tells → IsReadable a k.space → records_of a k.space k.next ≡ Some r) where
      here : (t : IsTrue tells) → IsReadable a k.space → (records : Records) → AreRecords a.held k.space k.horizon records → IsKeeping records k → present records k.next ≡ Some r
      here t readable records whole keeping = is_there records whole k.next r (found t readable) (next_there a.held records k whole keeping more)

      some_entered : GainsSome k.waiting w (refs_of r) k.horizon → (t : IsTrue tells) → IsReadable a k.space → (records : Records) → AreRecords a.held k.space k.horizon records → IsKeeping records k → IsKeeping records (waits k w)
      some_entered gains t readable records whole keeping =
          entered a.held records k whole keeping w (refs_of r) k.horizon gains (above_sound a.held records k whole keeping r k.next keep.low more (here t readable records whole keeping))

      pub goes_up : GainsSome k.waiting w (refs_of r) k.horizon → Goes tells a b k (waits k w)
      goes_up gains = record {
        keep = stays_keep k w (refs_of r) k.horizon keep (horizon_low k keep more) gains;
        work = record { space = refl; horizon = refl };
        only = only;
        keeping = some_entered gains;
        held = still_held;
        down = λ t readable down. record { above = down.above; kept = down.kept };
      }

      pub goes_behind : Gains k.waiting w (refs_of r) k.horizon → k.next + length (spelling r) ≤ k.space.layout.end → are_below k.next (refs_of r) ≡ true → Goes tells a b k (behind_next (waits k w) r)
      goes_behind gains inside under = record {
        keep = passed_keep (waits k w) r kept more inside;
        work = record { space = refl; horizon = refl };
        only = only;
        keeping = λ t readable records whole keeping.
            passed a.held records (waits k w) whole (some_entered gains.some t readable records whole keeping) r kept more (here t readable records whole keeping) (λ at c under. inl (gains.all at c under));
        held = still_held;
        down = λ t readable down. record { above = behind r down.above (found t readable) under; kept = down.kept };
      }
        where
          kept : IsKeep (waits k w)
          kept = stays_keep k w (refs_of r) k.horizon keep (horizon_low k keep more) gains.some

    -- ---- one that waits

    module _ (r : Record) (w : List ℕ) (at : ℕ) (there : Contains k.waiting at) (found : IsTrue tells → IsReadable a k.space → records_of a k.space at ≡ Some r) where
      stands : (t : IsTrue tells) → IsReadable a k.space → (records : Records) → AreRecords a.held k.space k.horizon records → IsKeeping records k → present records at ≡ Some r
      stands t readable records whole keeping = is_there records whole at r (found t readable) (waits_there a.held records k whole keeping at there)

      below_entered : GainsSome k.waiting w (refs_of r) at → (t : IsTrue tells) → IsReadable a k.space → (records : Records) → AreRecords a.held k.space k.horizon records → IsKeeping records k → IsKeeping records (waits k w)
      below_entered gains t readable records whole keeping =
          entered a.held records k whole keeping w (refs_of r) at gains (λ n c less. below_sound a.held records k whole keeping r at there (stands t readable records whole keeping) n c)

      at_low : at ≤ lowest k
      at_low = let l = waits_below k keep at there in omega (arith, l)

      pub goes_down : GainsSome k.waiting w (refs_of r) at → Goes tells a b k (waits k w)
      goes_down gains = record {
        keep = stays_keep k w (refs_of r) at keep at_low gains;
        work = record { space = refl; horizon = refl };
        only = only;
        keeping = below_entered gains;
        held = still_held;
        down = λ t readable down. record { above = down.above; kept = down.kept };
      }

      -- it is the last one still
      pub still_last : GainsSome k.waiting w (refs_of r) at → ((n : ℕ) → Contains k.waiting n → n ≤ at) → (rest : List ℕ) × (w ≡ rest ++ at ∷ [])
      still_last gains most = last_is w at (up w (gains.rises keep.waits)) (in_from w at (gains.kept at there)) (λ n c. by n (gains.only n (in_contains w n c)))
        where
          by : (n : ℕ) → Contains k.waiting n ⊎ (Contains (refs_of r) n × (n < at)) → n ≤ at
          by n (inl c) = most n c
          by n (inr (c, less)) = omega (arith, less)

      pub goes_kept : (rest : List ℕ) (size : ℕ) → Gains k.waiting w (refs_of r) at → are_below at (refs_of r) ≡ true → k.next ≡ k.space.layout.end → w ≡ rest ++ at ∷ [] → size ≡ length (spelling r) → at + size ≤ lowest k
          → (IsTrue tells → IsReadable a k.space → Stands (byte_at b k.space) at (spelling r)) → Goes tells a b k (with_kept (waits k w) rest (record { at = at; length = size }))
      goes_kept rest size gains under through is long inside stands_read = record {
        keep = kept_keep (waits k w) rest run (stays_keep k w (refs_of r) at keep at_low gains.some) through is (let some = some_bytes r in omega (arith, some, long)) inside
            (increasing rest (up_front rest at (up (rest ++ at ∷ []) (subst IsStrictlyIncreasing is (gains.some.rises keep.waits)))));
        work = record { space = refl; horizon = refl };
        only = only;
        keeping = λ t readable records whole keeping.
            kept_one a.held records (waits k w) whole (below_entered gains.some t readable records whole keeping) rest run r is (stands t readable records whole keeping) long
            (λ n c. inl (gains.all n c (refers_under a.held records k whole keeping r at (stands t readable records whole keeping) n c)));
        held = λ t readable held. (held_stood (byte_at b k.space) at size (spelling r) (stands_read t readable) (sym long), still_held t readable held);
        down = λ t readable down. record { above = down.above; kept = (subst (λ (o : Option Record). IsSomeAnd o (λ rec. are_below at (refs_of rec) ≡ true)) (sym (found t readable)) under, down.kept) };
      }
        where
          run : Run
          run = record { at = at; length = size }

  -- ---- no damage

  module _ {A : Type 0} (a : Told) (k : KeepView) (result : Result A KeepFault) where
    pub blameless_up : k.next < k.space.layout.end → (IsTrue tells → IsReadable a k.space → (at : ℕ) → IsErrOf result (KeepFault.Damaged at) →
        (r : Record) → records_of a k.space k.next ≡ Some r → are_below k.next (refs_of r) ≡ false) → Blameless tells a k result
    blameless_up more ahead t readable records whole keeping at is =
        let (r, there) = next_there a.held records k whole keeping more in
        let bad = ahead t readable at is r (in_space a.held k.space k.horizon records whole k.next r there) in
        false≢true (sym bad ∙ refers_below a.held records k whole keeping r k.next there)

    pub blameless_down : (at : ℕ) → IsKeep k → Contains k.waiting at
        → (IsTrue tells → IsReadable a k.space → (place : ℕ) → IsErrOf result (KeepFault.Damaged place) → (r : Record) → records_of a k.space at ≡ Some r → are_below at (refs_of r) ≡ true → lowest k < at + length (spelling r)) → Blameless tells a k result
    blameless_down at keep there long t readable records whole keeping place is =
        let (r, here) = waits_there a.held records k whole keeping at there in
        let over = long t readable place is r (in_space a.held k.space k.horizon records whole at r here) (refers_below a.held records k whole keeping r at here) in
        let within = inside_lowest a.held records k whole keeping at r (waits_below k keep at there) here in
        absurd (omega (arith, over, within))

same_fault : {A : Type 0} (f g : KeepFault) → ◌≡◌ {A = Result A KeepFault} (Err f) (Err g) → f ≡ g
same_fault f g e = cc

-- a fault, whatever an answer would have been
pub blames_as : {A B : Type 0} (tells : Bool) (a : Told) (k : KeepView) (fault : KeepFault) → Blameless {A = A} tells a k (Err fault) → Blameless {A = B} tells a k (Err fault)
blames_as tells a k fault none t readable records whole keeping at is = none t readable records whole keeping at (ap Err (same_fault fault (KeepFault.Damaged at) is))

pub blamed_as : {A B : Type 0} (k : KeepView) (fault : KeepFault) → Blames {A = A} (Err fault) k → Blames {A = B} (Err fault) k
blamed_as k fault blames at is = blames at (ap Err (same_fault fault (KeepFault.Damaged at) is))

pub breaks_as : {A B : Type 0} (tells : Bool) (a : Told) (k n : KeepView) (fault : KeepFault) → Breaks {A = A} tells a k n (Err fault) → Breaks {A = B} tells a k n (Err fault)
breaks_as tells a k n fault breaks t readable at is = breaks t readable at (ap Err (same_fault fault (KeepFault.Damaged at) is))

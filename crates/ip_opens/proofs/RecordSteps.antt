-- The walk, from one record to the next, and from one stretch to the next.
--     stays_there, goes_on      after a step that found nothing, and behind a record.      further      a record has bytes
--     bad_taken, too_long, bad_unread      where no good record stands
--     within_stretches      a number names one of the stretches.      nothing_filled      none is filled at first
--     begins_stretch, ends_stretch, covers_all      at the beginning of a stretch, behind it, and behind all of them
--     same_fault      one answer has one fault
use Rattle.std.proofs.Common.{◌≡◌, ℕ, zero, suc, ◌+◌, ◌<◌, ◌≤◌, Bool, List, [], ◌∷◌, ◌++◌, length, take, get_or, refl, sym, ◌∙◌, ap, subst, inl, inr, arith, append_assoc, append-nil}
use Rattle.std.proofs.lemmas.List.{take_more, take_all}
use Rattle.std.proofs.lemmas.Option.{same_Some, slice_get-get_or, slice_get_within}
use Rattle.std.specs.Prelude.{Option, Some, None, Ok, Err, IsTrue, IsErrOf, slice_get}
use Rattle.ip_ground.specs.declared.names.FileName.{FileName}
use Rattle.ip_ground.specs.Told.{Told, NoFile, ChangesOnly}
use Rattle.ip_spec.specs.declared.record.Record.{Record}
use Rattle.ip_spec.specs.Record.{Fits, spelling}
use Rattle.ip_spec.specs.TreeAt.{Records}
use Rattle.ip_image.specs.declared.run.Run.{Run}
use Rattle.ip_image.specs.declared.slot.Slot.{Slot}
use Rattle.ip_image.specs.Slot.{newest_version, IsSlot}
use Rattle.ip_image.specs.Virtual.{Stands}
use Rattle.ip_image.specs.Standing.{EndToEnd, RunByRun, FillTo, IsGood}
use Rattle.ip_image.proofs.InChunk.{ends_append}
use Rattle.ip_image.proofs.OneRepository.{same_record}
use Rattle.ip_image.proofs.Stretches.{join_run}
use Rattle.ip_audit.specs.Audits.{IsBeyond}
use Rattle.ip_space.specs.SpaceView.{SpaceView, IsReadable, OnlyReads, byte_at, records_of, stretches_of, AreBelow}
use Rattle.ip_space.specs.ScanView.{ScanView}
use Rattle.ip_space.specs.Scanning.{IsCurrent, Stays, Steps, Finds}
use Rattle.ip_space.specs.Fetching.{BlamesPlace}
use Rattle.ip_space.specs.declared.fault.FetchFault.{FetchFault}
use Rattle.ip_space.proofs.StoodBytes.{alike}
use Rattle.ip_space.proofs.Stayed.{byte_stays, readable_before}
use Rattle.ip_space.proofs.Answered.{some_bytes}
use Rattle.ip_space.proofs.Lying.{stands_there}
use Rattle.ip_opens.specs.declared.opening.OpenFault.{OpenFault}
use Rattle.ip_opens.specs.declared.walk.Found.{Found}
use Rattle.ip_opens.specs.declared.walk.Walk.{Walk}
use Rattle.ip_opens.specs.Walk.{Tells, IsPlaced, IsUnread, TakesRead, Filled, Walks, Covers, BadRecord}
use Rattle.ip_held.proofs.Listed.{newest}
use Rattle.ip_opens.proofs.Walking.{beyond_push, beyond_up}

-- one answer has one fault
pub same_fault : {A : Type 0} (one other : OpenFault) → IsErrOf {T = A} (Err one) other → one ≡ other
same_fault one other e = cc

-- ---- stretches

-- of the stretches before one, and of its own up to an offset
fill_to : (f : ℕ → Option ℕ) (stretches : List Run) (number : ℕ) (run : Run) (before behind : Records) (at : ℕ) → slice_get stretches number ≡ Some run → RunByRun f (take number stretches) before
    → EndToEnd f run.at behind at → at < run.at + run.length → FillTo f stretches (before ++ behind) at (run.at + run.length)
fill_to f [] zero run before behind at is fill lies inside = absurd (cc (is))
fill_to f [] (suc number) run before behind at is fill lies inside = absurd (cc (is))
fill_to f (r ∷ runs) zero run before behind at is none lies inside =
    subst (λ (x : Run). FillTo f (x ∷ runs) (before ++ behind) at (run.at + run.length)) (sym (same_Some r run is))
    (inl (subst (λ (l : Records). EndToEnd f run.at (l ++ behind) at) (sym none) lies, inside, refl))
fill_to f (r ∷ runs) (suc number) run before behind at is (here, later, e, ends, rest) lies inside =
    inr (here, later ++ behind, ap (λ (l : Records). l ++ behind) e ∙ append_assoc here later behind, ends, fill_to f runs number run later behind at is rest lies inside)

take_one : (runs : List Run) (number : ℕ) (run : Run) → slice_get runs number ≡ Some run → take (number + 1) runs ≡ take number runs ++ run ∷ []
take_one runs number run is =
    let below = slice_get_within runs number run is in
    take_more runs number run below ∙ ap (λ (r : Run). take number runs ++ r ∷ []) (same_Some (get_or runs number run) run (sym (slice_get-get_or runs number run below) ∙ is))

pub within_stretches : (space : SpaceView) (number : ℕ) (run : Run) → slice_get (stretches_of space) number ≡ Some run → number < length (stretches_of space)
within_stretches space number run is = slice_get_within (stretches_of space) number run is

below_more : (at : ℕ) (runs : List Run) (run : Run) → AreBelow at (runs ++ run ∷ []) → run.at + run.length ≤ at
below_more at [] run below = below.0
below_more at (r ∷ runs) run below = below_more at runs run below.1

-- ---- the walk

module _ (s : Slot) (is : IsSlot s) (space : SpaceView) where
  pub nothing_filled : (tells : Bool) (told : Told) (found : Found) → Tells s found [] → Filled s tells told space 0 found
  nothing_filled tells told found nothing = record { records = []; true_of = nothing; below = λ at below. tt; within = tt; fill = λ t readable. refl }

  pub begins_stretch : (tells : Bool) (told : Told) (number : ℕ) (found : Found) → Filled s tells told space number found → (stretch : Run) → slice_get (stretches_of space) number ≡ Some stretch
      → AreBelow stretch.at (take number (stretches_of space)) → stretch.at + stretch.length ≤ space.layout.end → (scan : ScanView) → scan ≡ record { next = stretch.at; to = stretch.at + stretch.length; ahead = [] }
      → Walks s tells told space (record { number = number; stretch = stretch; scan = scan }) found
  begins_stretch tells told number found filled stretch here order inside scan new =
      subst (λ (v : ScanView). Walks s tells told space (record { number = number; stretch = stretch; scan = v }) found) (sym new) (record {
        here = here;
        from = omega arith;
        to = refl;
        inside = omega arith;
        below = inside;
        before = filled.records;
        behind = [];
        true_of = subst (Tells s found) (sym (append-nil filled.records)) filled.true_of;
        beyond = subst (IsBeyond stretch.at) (sym (append-nil filled.records)) (filled.below stretch.at order);
        fill = filled.fill;
        lies = λ t readable. refl;
        current = λ t readable. record { stands = λ k below. absurd (omega (arith, below)); inside = omega arith };
      })

  pub ends_stretch : (tells : Bool) (told : Told) (walk : Walk) (found : Found) → Walks s tells told space walk found → walk.scan.next ≡ walk.scan.to → Filled s tells told space (walk.number + 1) found
  ends_stretch tells told walk found walks end =
      let taken = take_one (stretches_of space) walk.number walk.stretch walks.here in
      let at_end : walk.scan.next ≡ walk.stretch.at + walk.stretch.length = end ∙ walks.to in
      record {
        records = walks.before ++ walks.behind;
        true_of = walks.true_of;
        below = λ at below.
            let last = below_more at (take walk.number (stretches_of space)) walk.stretch (subst (AreBelow at) taken below) in
            beyond_up walk.scan.next at (walks.before ++ walks.behind) (omega (arith, last, at_end)) walks.beyond;
        within = (let inside = walks.inside in let last = walks.below in beyond_up walk.scan.next space.layout.end (walks.before ++ walks.behind) (omega (arith, inside, last)) walks.beyond);
        fill = λ t readable. subst (λ (runs : List Run). RunByRun (byte_at told space) runs (walks.before ++ walks.behind)) (sym taken)
            (join_run (byte_at told space) (take walk.number (stretches_of space)) walk.stretch walks.before walks.behind (walks.fill t readable)
            (subst (EndToEnd (byte_at told space) walk.stretch.at walks.behind) at_end (walks.lies t readable)));
      }

  pub covers_all : (tells : Bool) (told : Told) (number : ℕ) (found : Found) → length (stretches_of space) ≤ number → Filled s tells told space number found → Covers s tells told space found
  covers_all tells told number found all filled = record {
    records = filled.records;
    true_of = filled.true_of;
    within = filled.within;
    fill = λ t readable. subst (λ (runs : List Run). RunByRun (byte_at told space) runs filled.records) (take_all number (stretches_of space) all) (filled.fill t readable);
  }

  module _ (tells : Bool) (told now : Told) (walk : Walk) (found : Found) (walks : Walks s tells told space walk found) (only : IsTrue tells → ChangesOnly NoFile told now) where
    abbrev known : Records
    known = walks.before ++ walks.behind

    abbrev at_scan : ScanView → Walk
    at_scan scan = record { number = walk.number; stretch = walk.stretch; scan = scan }

    was_readable : IsTrue tells → IsReadable now space → IsReadable told space
    was_readable t readable = readable_before told now (only t) space readable

    bytes_stay : IsTrue tells → IsReadable told space → byte_at now space ≡ byte_at told space
    bytes_stay t readable = alike (byte_at told space) (byte_at now space) (byte_stays told now (only t) space readable)

    fill_still : IsTrue tells → IsReadable told space → RunByRun (byte_at now space) (take walk.number (stretches_of space)) walks.before
    fill_still t readable = subst (λ (f : ℕ → Option ℕ). RunByRun f (take walk.number (stretches_of space)) walks.before) (sym (bytes_stay t readable)) (walks.fill t readable)

    lies_still : IsTrue tells → IsReadable told space → EndToEnd (byte_at now space) walk.stretch.at walks.behind walk.scan.next
    lies_still t readable = subst (λ (f : ℕ → Option ℕ). EndToEnd f walk.stretch.at walks.behind walk.scan.next) (sym (bytes_stay t readable)) (walks.lies t readable)

    pub stays_there : (new : ScanView) → Stays walk.scan new → (IsTrue tells → IsReadable told space → IsCurrent now space new) → Walks s tells now space (at_scan new) found
    stays_there new stays current =
        let next = stays.next in
        let to = stays.to in
        let from = walks.from in
        let inside = walks.inside in
        let below = walks.below in
        record {
          here = walks.here;
          from = omega (arith, from, next);
          to = to ∙ walks.to;
          inside = omega (arith, inside, next, to);
          below = omega (arith, below, to);
          before = walks.before;
          behind = walks.behind;
          true_of = walks.true_of;
          beyond = subst (λ (n : ℕ). IsBeyond n known) (sym next) walks.beyond;
          fill = λ t readable. fill_still t (was_readable t readable);
          lies = λ t readable. subst (EndToEnd (byte_at now space) walk.stretch.at walks.behind) (sym next) (lies_still t (was_readable t readable));
          current = λ t readable. current t (was_readable t readable);
        }

    -- none that is good stands at the walk's place and ends in its stretch
    bad_here : IsTrue tells → IsReadable told space → (file : FileName) (place : ℕ) → walk.scan.next < walk.scan.to → IsPlaced space walk.scan.next (OpenFault.Damaged file place)
        → ((q : Record) → Fits newest_version q → walk.scan.next + length (spelling q) ≤ walk.scan.to → Stands (byte_at now space) walk.scan.next (spelling q) → ¬ IsGood s known (walk.scan.next, q)) → BadRecord s now space file place
    bad_here t readable file place more placed none =
        let to = walks.to in
        record {
          before = known;
          good = walks.true_of.good;
          at = walk.scan.next;
          to = walk.stretch.at + walk.stretch.length;
          fill = fill_to (byte_at now space) (stretches_of space) walk.number walk.stretch walks.before walks.behind walk.scan.next walks.here (fill_still t readable) (lies_still t readable) (omega (arith, more, to));
          none = λ q inside stands good. none q (subst (λ (v : ℕ). Fits v q) (newest s is) good.bounds) (omega (arith, inside, to)) stands good;
          here = placed;
        }

    module _ (new : ScanView) (at : ℕ) (r : Record) (fits : Fits newest_version r) (steps : Steps walk.scan new at r) where
      next_is : new.next ≡ walk.scan.next + length (spelling r)
      next_is = let n = steps.next in let p = steps.place in omega (arith, n, p)

      pub further : (walk.scan.next < new.next) × (walk.scan.next < walk.scan.to)
      further = let some = some_bytes r in let n = next_is in (omega (arith, some, n), steps.more)

      pub told_some : (n : ℕ) → n ≡ at → IsBeyond n known
      told_some n same = subst (λ (k : ℕ). IsBeyond k known) (sym (same ∙ steps.place)) walks.beyond

      module _ (whole : IsTrue tells → IsReadable told space → Stands (byte_at now space) walk.scan.next (spelling r) × (walk.scan.next + length (spelling r) ≤ space.layout.end)) where
        pub goes_on : (taken : Found) (u : Unit {0}) → TakesRead s space at r found taken (Ok u) → new.next ≤ walk.stretch.at + walk.stretch.length → (IsTrue tells → IsReadable told space → IsCurrent now space new)
            → Walks s tells now space (at_scan new) taken
        goes_on taken u takes within current =
            let took = takes known walks.true_of (told_some at refl) in
            let more = further in
            let place = steps.place in
            let to = steps.to in
            let all = walks.to in
            let from = walks.from in
            let below = walks.below in
            let joined : known ++ (at, r) ∷ [] ≡ walks.before ++ (walks.behind ++ (at, r) ∷ []) = append_assoc walks.before walks.behind ((at, r) ∷ []) in
            record {
              here = walks.here;
              from = omega (arith, from, more.0);
              to = to ∙ all;
              inside = omega (arith, within, to, all);
              below = omega (arith, below, to);
              before = walks.before;
              behind = walks.behind ++ (at, r) ∷ [];
              true_of = subst (Tells s taken) joined took.1;
              beyond = subst (IsBeyond new.next) joined (beyond_push at new.next known r (omega (arith, more.0, place)) (told_some at refl));
              fill = λ t readable. fill_still t (was_readable t readable);
              lies = λ t readable.
                  let was = was_readable t readable in
                  ends_append (byte_at now space) walk.stretch.at walks.behind ((at, r) ∷ []) walk.scan.next new.next (lies_still t was) (place, (whole t was).0, sym next_is);
              current = λ t readable. current t (was_readable t readable);
            }

        -- whatever record stands there is the one that was read
        one_read : IsTrue tells → IsReadable told space → (q : Record) → Fits newest_version q → Stands (byte_at now space) walk.scan.next (spelling q) → q ≡ r
        one_read t readable q small stands = same_record newest_version (byte_at now space) walk.scan.next q r small fits stands (whole t readable).0

        bad_taken : (taken : Found) → IsTrue tells → IsReadable told space → (file : FileName) (place : ℕ) → TakesRead s space at r found taken (Err (OpenFault.Damaged file place)) → BadRecord s now space file place
        bad_taken taken t readable file place takes =
            bad_here t readable file place steps.more (subst (λ (n : ℕ). IsPlaced space n (OpenFault.Damaged file place)) steps.place takes.0) (λ q small inside stands good.
            takes.1 known walks.true_of (told_some at refl)
            (subst (λ (n : ℕ). IsGood s known (n, r)) (sym steps.place) (subst (λ (x : Record). IsGood s known (walk.scan.next, x)) (one_read t readable q small stands) good)))

        pub bad_taken_as : (taken : Found) → IsTrue tells → IsReadable told space → (out : OpenFault) (file : FileName) (place : ℕ) → IsErrOf {T = Bool} (Err out) (OpenFault.Damaged file place)
            → TakesRead s space at r found taken (Err out) → BadRecord s now space file place
        bad_taken_as taken t readable out file place is_fault takes =
            bad_taken taken t readable file place (subst (λ (f : OpenFault). TakesRead s space at r found taken (Err f)) (same_fault out (OpenFault.Damaged file place) is_fault) takes)

        -- one that ends behind its stretch
        pub too_long : IsTrue tells → IsReadable told space → walk.stretch.at + walk.stretch.length < new.next → (out : OpenFault) (file : FileName) (place : ℕ) → IsErrOf {T = Bool} (Err out) (OpenFault.Damaged file place)
            → IsPlaced space at out → BadRecord s now space file place
        too_long t readable behind out file place is_fault placed =
            let here = subst (IsPlaced space at) (same_fault out (OpenFault.Damaged file place) is_fault) placed in
            bad_here t readable file place steps.more (subst (λ (n : ℕ). IsPlaced space n (OpenFault.Damaged file place)) steps.place here) (λ q small inside stands good.
            let same = ap (λ (x : Record). length (spelling x)) (one_read t readable q small stands) in
            let n = next_is in
            let to = walks.to in
            absurd (omega (arith, inside, same, n, to, behind)))

    module _ (t : IsTrue tells) (readable : IsReadable told space) (file : FileName) (place : ℕ) (more : walk.scan.next < walk.scan.to) (reads : OnlyReads told now space space) where
      -- where the bytes spell none, none stands
      bad_form : (at : ℕ) → at ≡ walk.scan.next → records_of told space walk.scan.next ≡ None → IsPlaced space at (OpenFault.Damaged file place) → BadRecord s now space file place
      bad_form at same none placed = bad_here t readable file place more (subst (λ (n : ℕ). IsPlaced space n (OpenFault.Damaged file place)) same placed) (λ q small inside stands good.
          let below = walks.below in
          let there : records_of now space walk.scan.next ≡ Some q = stands_there now space walk.scan.next q small stands (omega (arith, inside, below)) in
          let was : records_of now space walk.scan.next ≡ None = reads.records readable walk.scan.next ∙ none in
          absurd (cc (there, was)))

      by_cause : (fault : FetchFault) (out : OpenFault) → out ≡ OpenFault.Damaged file place → IsUnread space fault out → Finds (records_of told space) walk.scan.next (Err fault)
          → BlamesPlace {A = Option (ℕ × Record)} walk.scan.next (Err fault) → BadRecord s now space file place
      by_cause FetchFault.Ground out is unread finds blames = absurd (cc (is, unread))
      by_cause (FetchFault.Form at fault) out is unread finds blames = bad_form at blames.0 finds (subst (IsPlaced space at) is unread)
      by_cause (FetchFault.Name at want got) out is unread finds blames = absurd unread
      by_cause FetchFault.Memory out is unread finds blames = absurd (cc (is, unread))

      pub bad_unread : (fault : FetchFault) (out : OpenFault) → IsErrOf {T = Bool} (Err out) (OpenFault.Damaged file place) → IsUnread space fault out → Finds (records_of told space) walk.scan.next (Err fault)
          → BlamesPlace {A = Option (ℕ × Record)} walk.scan.next (Err fault) → BadRecord s now space file place
      bad_unread fault out is_fault unread finds blames = by_cause fault out (same_fault out (OpenFault.Damaged file place) is_fault) unread finds blames

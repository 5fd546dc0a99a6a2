-- The store that is made of a slot and of what was found, and what opening answers.
--     whole_of, whole_by      the test at the end, and back from what is whole.      tables_of, holds_of      the repository of the store, which it holds
--     sync_only, finds_fault, finds, finds_form      the exits of finding the slot.      opens_none, opens_no_space, opens_bad_as, opens_by      those of opening
use Rattle.std.proofs.Common.{◌≡◌, ◌≢◌, ℕ, ◌+◌, ◌*◌, ◌<◌, ◌≤◌, inl, inr, Bool, true, List, [], ◌∷◌, map, length, refl, sym, ◌∙◌, ap, subst, arith}
use Rattle.std.specs.Prelude.{Option, Some, None, Result, Ok, Err, IfOk, OnOk, IsErr, IsErrAnd, IsErrOf, IsSome, IfSome, IsTrue, All, is_none, option_map}
use Rattle.std.specs.List.{AllByRecursion}
use Rattle.std.proofs.lemmas.Bool.{cases_lt}
use Rattle.std.proofs.lemmas.List.{length-map}
use Rattle.std.proofs.lemmas.List.Elements.{All-from_recursion}
use Rattle.ip_ground.specs.declared.names.FileName.{FileName}
use Rattle.ip_ground.specs.declared.names.FileName.TheVariants.{Control, Prefix, Mapping}
use Rattle.ip_ground.specs.declared.names.GroundFault.{GroundFault}
use Rattle.ip_ground.specs.Contents.{Content}
use Rattle.ip_ground.specs.Told.{Told, NoFile, Only, KeepsFile, ChangesOnly, SyncsOnly, IsSynced}
use Rattle.ip_ground.specs.Calls.{Syncs}
use Rattle.ip_ground.proofs.Spans.{only_nowhere, only_on, syncs_none, syncs_on}
use Rattle.ip_ground.proofs.Durable.{sync_syncs, kept_passes}
use Rattle.ip_spec.specs.Map.{Map}
use Rattle.ip_spec.specs.Path.{Bytes, bytes_cmp}
use Rattle.ip_spec.specs.declared.record.CommitRecord.{CommitRecord}
use Rattle.ip_spec.specs.Record.{IsHash, IsBranchName}
use Rattle.ip_spec.specs.TreeAt.{Records}
use Rattle.ip_spec.specs.Repository.{Repository, next}
use Rattle.ip_image.specs.declared.layout.Layout.{Layout}
use Rattle.ip_image.specs.declared.slot.Slot.{Slot}
use Rattle.ip_image.specs.Slot.{IsSlot, IsLive, live_index, layout_of}
use Rattle.ip_image.specs.declared.run.Row.{Row}
use Rattle.ip_image.specs.Virtual.{run_of}
use Rattle.ip_image.specs.Standing.{RunByRun, AreRetained, Generation, WholeFits, DamagedAt, commits_in}
use Rattle.ip_image.specs.Pending.{HasLive, NothingPending}
use Rattle.ip_image.proofs.HeadlineLaws.{pending_synced}
use Rattle.ip_control.specs.declared.fault.ControlFault.{ControlFault}
use Rattle.ip_control.specs.Finding.{Finds}
use Rattle.ip_audit.specs.Audits.{commit_name, IsBeyond}
use Rattle.ip_opens.specs.declared.opening.OpenFault.{OpenFault}
use Rattle.ip_held.specs.declared.held.Held.{Held}
use Rattle.ip_opens.specs.declared.walk.Found.{Found}
use Rattle.ip_held.specs.Control.{control_in}
use Rattle.ip_space.specs.SpaceView.{SpaceView, AreCurrent, IsReadable, byte_at, records_of, stretches_of}
use Rattle.ip_space.specs.Pair.{HasRowsLength}
use Rattle.ip_space.proofs.LivePair.{rows_length}
use Rattle.ip_space.proofs.Stayed.{readable_stays}
use Rattle.ip_held.specs.Collecting.{IsGoing, Collects}
use Rattle.ip_held.specs.Placed.{places_in, IsSpaceOf}
use Rattle.ip_opens.specs.Walk.{Tells, Covers, BadRecord}
use Rattle.ip_opens.specs.Found.{IsReached, FoundIn, FindsSlot, FindsGeneration, Finished, Finishes}
use Rattle.ip_held.specs.Held.{IsOf, OwnsPair, OwnsLive, Holds}
use Rattle.ip_opens.specs.Opening.{RecoversOnceOpen, Opens}
use Rattle.ip_held.proofs.Phases.{no_phase}
use Rattle.ip_held.proofs.Recovering.{recovers_from}
use Rattle.ip_save.proofs.Hashes.{sha_is_hash}
use Rattle.ip_held.proofs.Listed.{places_size}
use Rattle.ip_held.proofs.BranchNames.{named_all, placed_within}
use Rattle.ip_held.proofs.Stepping.{space_same, unswept_same, within_same, rising_same}
use Rattle.ip_held.proofs.Reading.{own, control_passes}
use Rattle.ip_opens.proofs.RecordSteps.{same_fault}
use Rattle.ip_opens.proofs.OpenedImages.{has_live, form_damaged, generation_stays, pair_damaged, bad_damaged, misfit_damaged, standing_of, whole_from, repository_of, repository_names, repository_history, repository_floor, repository_branches, repository_tags, repository_size, commits_are}

abbrev Branching : Type 0
Branching = Map bytes_cmp ℕ

-- the names are the commits'
names_size : (names : _) (records : Records) → names ≡ map commit_name (commits_in records) → length names ≡ length (commits_in records)
names_size names records is = ap length is ∙ length-map (commits_in records) commit_name

pub whole_of : (s : Slot) (found : Found) (names : _) (records : Records) → Tells s found records → names ≡ map commit_name (commits_in records)
    → (s.next ≡ s.floor + length names) × AreRetained s found.branches → WholeFits s records
whole_of s found names records tells is whole =
    let size = names_size names records is in
    whole_from s records tells.good (let n = whole.0 in omega (arith, n, size)) (subst (λ (m : Branching). AreRetained s m) tells.branches whole.1)

pub whole_by : (s : Slot) (found : Found) (names : _) (records : Records) → Tells s found records → names ≡ map commit_name (commits_in records)
    → WholeFits s records → (s.next ≡ s.floor + length names) × AreRetained s found.branches
whole_by s found names records tells is fits =
    let size = names_size names records is in
    let next = fits.next in
    (omega (arith, next, size), subst (λ (m : Branching). AreRetained s m) (sym tells.branches) fits.branches)

are_hashes : (cs : List CommitRecord) → All IsHash (map commit_name cs)
are_hashes cs = All-from_recursion IsHash (map commit_name cs) (each cs)
  where
    each : (cs : List CommitRecord) → AllByRecursion IsHash (map commit_name cs)
    each [] = tt
    each (c ∷ cs) = (sha_is_hash _, each cs)

within_slot : (s : Slot) (space : SpaceView) (records : Records) → IsSpaceOf s space → IsBeyond space.layout.end records → IsBeyond s.end records
within_slot s space records of within = subst (λ (l : Layout). IsBeyond l.end records) of.layout within

module _ (index : ℕ) (s : Slot) (is : IsSlot s) (below : index < 2) (found : Found) (store : Held) (records : Records) (tells : Tells s found records) (beyond : IsBeyond s.end records) (finished : Finished index s found store) where
  fits : WholeFits s records
  fits = finished.fits records tells

  pub tables_of : IsOf store (repository_of s records tells.good)
  tables_of =
      let floor = repository_floor s records tells.good in
      let size = repository_size s records tells.good in
      let branches = repository_branches s records tells.good in
      let whole = fits.next in
      record {
        slot = subst IsSlot (sym finished.slot) is;
        index = subst (λ (n : ℕ). n < 2) (sym finished.index) below;
        floor = floor ∙ ap (λ (t : Slot). t.floor) (sym finished.slot);
        next = (let e : next (repository_of s records tells.good) ≡ s.next = omega (arith, floor, size, whole) in e) ∙ ap (λ (t : Slot). t.next) (sym finished.slot);
        names = repository_names s records tells.good ∙ finished.names records tells;
        hashes = subst (All IsHash) (finished.names records tells) (are_hashes (commits_in records));
        branches = branches ∙ finished.branches records tells;
        history = repository_history s records tells.good ∙ finished.history records tells;
        parents_first = finished.parents_first records tells;
        phase = no_phase store.slot (repository_of s records tells.good) store.collection finished.idle;
        space = space_same s store.slot store.space store.space finished.slot refl finished.space;
        placed = ap length (sym (finished.places records tells)) ∙ places_size records ∙ sym size;
        retained = subst (λ (t : Slot). AreRetained t (repository_of s records tells.good).branches) (sym finished.slot) (subst (λ (m : Branching). AreRetained s m) (sym branches) fits.branches);
        unswept = unswept_same s store.slot (record { chunk = s.first_chunk; attempt = s.first_attempt }) store.unswept finished.slot finished.unswept
            (record { chunk = is.first_chunk; low = is.first_attempt_low; high = is.first_attempt_high; live = is.first_attempt_live });
        named = subst (λ (m : Branching). All (λ e. IsBranchName e.0) m.entries) (sym branches) (named_all s records tells.good);
        within = within_same s store.slot (places_in records) store.places finished.slot (sym (finished.places records tells)) (placed_within s s.end records tells.good beyond);
        rising = rising_same s store.slot found.places store.places finished.slot (sym (finished.places records tells) ∙ sym tells.places) tells.rising;
        going = subst (λ o. IfSome o (IsGoing store.slot.floor store.places store.unswept store.space)) (sym finished.idle) tt;
      }

  pub holds_of : (told : Told) → IsLive (control_in told.held) index s → (rows : List Row) → Generation told.held (layout_of s) rows → (space : SpaceView) → IsSpaceOf s space → space.runs ≡ map run_of rows
      → RunByRun (byte_at told space) (stretches_of space) records → store.space ≡ space → AreCurrent (records_of told space) space.kept → IsSynced told Control → OwnsPair told s → Holds store told (repository_of s records tells.good)
  holds_of told live rows generation space of runs fill space_is current kept owns = record {
    tables = tables_of;
    stands = record {
      standing = standing_of told index s live rows generation space of runs records tells.good fill fits;
      floor = repository_floor s records tells.good;
      commits = commits_are s records tells.good;
      branches = repository_branches s records tells.good;
      tags = repository_tags s records tells.good;
    };
    live = subst (λ (n : ℕ). IsLive (control_in told.held) n store.slot) (sym finished.index) (subst (IsLive (control_in told.held) index) (sym finished.slot) live);
    kept = kept;
    pair = subst (OwnsPair told) (sym finished.slot) owns;
    runs = ap (λ (v : SpaceView). v.runs) space_is ∙ runs;
    places = sym (finished.places records tells);
    collects = subst (λ o. IfSome o (Collects told store.slot records (repository_of s records tells.good))) (sym finished.idle) tt;
    current = subst (λ (v : SpaceView). AreCurrent (records_of told v) v.kept) (sym space_is) current;
  }

-- ---- finding the slot

-- the calls up to the sync
pub sync_only : (a b c : Told) (result : Result (Unit {0}) GroundFault) → ChangesOnly NoFile a b → Syncs Control result b c → SyncsOnly (Only Control) a c
sync_only a b c result passes syncs = syncs_on a b c (Only Control) (syncs_none a b (Only Control) passes) (sync_syncs Control own result b c syncs)

-- no moment is so late
too_late : {X : Type 0} (now t : ℕ) → now + 1 ≤ t → t ≤ now → X
too_late now t late le = absurd (omega (arith, late, le))

pub finds_fault : (r : Result (ℕ × Slot) OpenFault) (a b : Told) → IsErrAnd r (λ e. e ≡ OpenFault.Ground) → SyncsOnly (Only Control) a b → FindsSlot r a b
finds_fault (Ok live) a b is only = absurd is
finds_fault (Err fault) a b is only = record {
  only = only;
  finds = subst (λ (f : OpenFault). FoundIn b.held (Err f)) (sym is) tt;
  kept = tt;
  since = b.moment + 1;
  begins = (let later = only.changes.goes.later in omega (arith, later));
  reached = λ answered. absurd (subst (λ (f : OpenFault). IsReached {A = ℕ × Slot} (Err f)) is answered);
  left = λ t late le. too_late b.moment t late le;
}

pub measured : (size : Option ℕ) (content : Content) → is_none size ≡ true → size ≡ option_map length content → content ≡ None
measured size None none is = refl
measured size (Some bytes) none is = let e : is_none (Some (length bytes)) ≡ true = sym (ap is_none is) ∙ none in absurd (cc (e))

-- no control file is there
pub finds_none : (a b : Told) → ChangesOnly NoFile a b → b.held Control ≡ None → FindsSlot (Err OpenFault.NoStore) a b
finds_none a b only none = record {
  only = syncs_none a b (Only Control) only;
  finds = subst (λ (c : Content). IfSome c (λ control. live_index control ≡ None)) (sym none) tt;
  kept = tt;
  since = b.moment + 1;
  begins = (let later = only.goes.later in omega (arith, later));
  reached = λ answered some. no_file (subst IsSome (sym ((only.others Control (λ x. absurd x)).held (λ x. x)) ∙ none) some);
  left = λ t late le. too_late b.moment t late le;
}
  where
    none_held : Content
    none_held = None

    no_file : {X : Type 0} → IsSome none_held → X
    no_file some = absurd (cc (some))

on_ok : {A E : Type 0} (r : Result A E) (P : Type 0) → P → OnOk r P
on_ok (Ok x) P p = p
on_ok (Err e) P p = tt

abbrev Live : Type 0
Live = Option (ℕ × Slot)

-- what was read of the control file, by its case
pub found_some : (control : Bytes) (o : Live) (live : ℕ × Slot) → o ≡ Some live → Finds control (Ok o) → IsLive control live.0 live.1
found_some control o live is found = subst (λ (x : Live). Finds control (Ok x)) is found

pub found_none : (control : Bytes) (o : Live) → o ≡ None → Finds control (Ok o) → live_index control ≡ None
found_none control o is found = subst (λ (x : Live). Finds control (Ok x)) is found

pub found_form : (control : Bytes) (fault : ControlFault) (index : ℕ) → fault ≡ ControlFault.Form index → Finds control (Err fault) → Finds control (Err (ControlFault.Form index))
found_form control fault index is found = subst (λ (x : ControlFault). Finds control (Err x)) is found

module _ (a b c d : Told) (passes : ChangesOnly NoFile a b) (syncs : Syncs Control (Ok tt) b c) (reads : ChangesOnly NoFile c d) where
  pub finds : (r : Result (ℕ × Slot) OpenFault) → FoundIn d.held r → FindsSlot r a d
  finds r found = record {
    only = syncs_on a c d (Only Control) (sync_only a b c (Ok tt) passes syncs) (syncs_none c d (Only Control) reads);
    finds = found;
    kept = on_ok r (IsSynced d Control) (kept_passes Control own c d reads (syncs.ok (λ x. x)));
    since = c.moment;
    begins = (let later = passes.goes.later in let next = syncs.advances in omega (arith, later, next));
    reached = λ answered some. reads.goes.later;
    left = left_since;
  }
    where
      stays : KeepsFile c d Control
      stays = reads.others Control (λ x. absurd x)

      left_since : (t : ℕ) → c.moment ≤ t → t ≤ d.moment → (content : Content) → d.may_leave t Control content → content ≡ d.held Control
      left_since t late le content left = elim (cases_lt c.moment t) [
        | inl now ↦ syncs.ok (λ x. x) content (stays.left (λ x. x) t content now le left) ∙ sym (stays.held (λ x. x))
        | inr still ↦
            let same : t ≡ c.moment = omega (arith, late, still) in
            syncs.ok (λ x. x) content (subst (λ n. c.may_leave n Control content) same (reads.goes.left t Control content still left)) ∙ sym (stays.held (λ x. x))
      ]

  pub finds_form : (index : ℕ) (out : OpenFault) → Finds (control_in d.held) (Err (ControlFault.Form index)) → out ≡ OpenFault.Damaged Control (128 * index) → FindsSlot (Err out) a d
  finds_form index out found is = finds (Err out) (subst (λ (f : OpenFault). FoundIn d.held (Err f)) (sym is) (form_damaged d.held index found.0 found.1))

-- ---- opening

synced_order : (a b : Told) → SyncsOnly (Only Control) a b → NothingPending a → NothingPending b
synced_order a b only = pending_synced a b only.changes.goes only.files only.changes.lending

-- no slot was found
pub opens_none : (fault : OpenFault) (r : Result Held OpenFault) (a b : Told) → IsErr r × IsErrAnd r (λ e. e ≡ fault) → FindsSlot (Err fault) a b → Opens r a b
opens_none fault (Ok store) a b is slot = absurd is.1
opens_none fault (Err other) a b is slot = record {
  only = slot.only;
  no_store = λ none. subst (λ (f : OpenFault). FoundIn b.held (Err f)) (sym is.1 ∙ same_fault other OpenFault.NoStore none) slot.finds;
  damaged = λ owns file at damaged. subst (λ (f : OpenFault). FoundIn b.held (Err f)) (sym is.1 ∙ same_fault other (OpenFault.Damaged file at) damaged) slot.finds;
  memory = λ memory. absurd (subst (λ (f : OpenFault). FoundIn b.held (Err f)) (sym is.1 ∙ same_fault other OpenFault.Memory memory) slot.finds);
  holds = λ owns. tt;
  opening = record {
    since = slot.since;
    begins = slot.begins;
    kept = slot.left;
    recovers = recovers_from a b slot.since slot.begins slot.only slot.left;
    nothing_pending = synced_order a b slot.only;
  };
  reached = λ answered some. slot.reached (subst (λ (f : OpenFault). IsReached {A = ℕ × Slot} (Err f)) is.1 (by other answered)) some;
}
  where
    by : (f : OpenFault) → IsReached {A = Held} (Err f) → IsReached {A = ℕ × Slot} (Err f)
    by OpenFault.NoStore answered = tt
    by (OpenFault.Damaged file at) answered = tt
    by OpenFault.Ground answered = answered
    by OpenFault.Memory answered = tt

module _ (index : ℕ) (s : Slot) (below : index < 2) (is : IsSlot s) (a b : Told) (slot : FindsSlot (Ok (index, s)) a b) where
  -- at a moment after calls that change no file
  module _ (c : Told) (reads : ChangesOnly NoFile b c) where
    live_now : IsLive (control_in c.held) index s
    live_now = subst (λ (bytes : Bytes). IsLive bytes index s) (sym (control_passes b c reads)) slot.finds

    only_now : SyncsOnly (Only Control) a c
    only_now = syncs_on a b c (Only Control) slot.only (syncs_none b c (Only Control) reads)

    reached_now : IsSome (a.held Control) → slot.since ≤ c.moment
    reached_now some = let was = slot.reached tt some in let later = reads.goes.later in omega (arith, was, later)

    stays : KeepsFile b c Control
    stays = reads.others Control (λ x. absurd x)

    left_now : (t : ℕ) → slot.since ≤ t → t ≤ c.moment → (content : Content) → c.may_leave t Control content → content ≡ c.held Control
    left_now t late le content left = elim (cases_lt b.moment t) [
      | inl now ↦ slot.kept content (stays.left (λ x. x) t content now le left) ∙ sym (stays.held (λ x. x))
      | inr was ↦ slot.left t late was content (reads.goes.left t Control content was left) ∙ sym (stays.held (λ x. x))
    ]

    abbrev opening_now : RecoversOnceOpen a c
    opening_now = record {
      since = slot.since;
      begins = slot.begins;
      kept = left_now;
      recovers = recovers_from a c slot.since slot.begins only_now left_now;
      nothing_pending = synced_order a c only_now;
    }

    -- what no child changed before opening, none changes now
    pub owns_now : OwnsLive a → OwnsPair c s
    owns_now owns live =
        let has : HasLive s c.held = has_live c.held index s live_now in
        let pair = owns s (record { control = has.control; index = has.index; held = sym ((only_now.files Control).held (λ x. x)) ∙ has.held; live = has.live }) live in
        record { mapping = (only_now.files (Mapping s.live)).own pair.mapping; prefix = (only_now.files (Prefix s.live)).own pair.prefix }

    -- an answer without a store
    opens_without : (fault : OpenFault) → (fault ≡ OpenFault.NoStore → ⊥) → (OwnsLive a → fault ≡ OpenFault.Memory → s.live ≢ 0 → HasRowsLength c.held (layout_of s))
        → (OwnsLive a → (file : FileName) (at : ℕ) → fault ≡ OpenFault.Damaged file at → DamagedAt c.held file at) → Opens (Err fault) a c
    opens_without fault there wanted damaged = record {
      only = only_now;
      no_store = λ none. absurd (there (same_fault fault OpenFault.NoStore none));
      damaged = λ owns file at is. damaged owns file at (same_fault fault (OpenFault.Damaged file at) is);
      memory = λ memory. (s, has_live c.held index s live_now, λ owns live. wanted owns (same_fault fault OpenFault.Memory memory) live);
      holds = λ owns. tt;
      opening = opening_now;
      reached = λ answered some. reached_now some;
    }

    bad_generation : (fault : OpenFault) → FindsGeneration c.held s (Err fault) → (file : FileName) (at : ℕ) → fault ≡ OpenFault.Damaged file at → DamagedAt c.held file at
    bad_generation fault finds file at is = let bad = subst (λ (f : OpenFault). FindsGeneration c.held s (Err f)) is finds in pair_damaged c index s live_now bad.0 file at bad.1

  -- no space was found
  pub opens_no_space : (c : Told) (reads : ChangesOnly NoFile b c) (r : Result Held OpenFault) (fault : OpenFault) → IsErr r × IsErrAnd r (λ e. e ≡ fault) → (IsErrOf {T = SpaceView} (Err fault) OpenFault.NoStore → ⊥)
      → (OwnsPair b s → FindsGeneration c.held s (Err fault)) → Opens r a c
  opens_no_space c reads (Ok store) fault is there finds = absurd is.1
  opens_no_space c reads (Err other) fault is there finds =
      opens_without c reads other (λ none. there (ap (λ (f : OpenFault). Err f) (sym is.1 ∙ none)))
      (λ owns memory. subst (λ (f : OpenFault). FindsGeneration c.held s (Err f)) (sym is.1 ∙ memory) (finds (owns_now b (only_nowhere b NoFile) owns)))
      (λ owns file at damaged. bad_generation c reads fault (finds (owns_now b (only_nowhere b NoFile) owns)) file at (sym is.1 ∙ damaged))

  -- a space was found at one moment, and its records were read up to another
  module _ (m c : Told) (first : ChangesOnly NoFile b m) (later : ChangesOnly NoFile m c) (space : SpaceView) (of : IsSpaceOf s space) (finds : OwnsPair b s → FindsGeneration m.held s (Ok space))
      (readable : OwnsPair b s → IsReadable m space) where
    abbrev reads : ChangesOnly NoFile b c
    reads = only_on b m c NoFile first later

    owned : OwnsLive a → OwnsPair b s
    owned owns = owns_now b (only_nowhere b NoFile) owns

    readable_then : OwnsLive a → IsReadable m space
    readable_then owns = readable (owned owns)

    readable_now : OwnsLive a → IsReadable c space
    readable_now owns = readable_stays m c later space (readable_then owns)

    generation_now : (owns : OwnsLive a) → Generation c.held (layout_of s) (finds (owned owns)).0
    generation_now owns = generation_stays s m c later (owns_now m first owns) (finds (owned owns)).0 (finds (owned owns)).1

    length_now : OwnsLive a → s.live ≢ 0 → HasRowsLength c.held (layout_of s)
    length_now owns live = rows_length c.held (layout_of s) (finds (owned owns)).0 ((generation_now owns).file live)

    pub opens_bad_as : (r : Result Held OpenFault) (fault : OpenFault) → IsErr r × IsErrAnd r (λ e. e ≡ fault) → (IsErrOf {T = Found} (Err fault) OpenFault.NoStore → ⊥)
        → (IsReadable m space → (file : FileName) (at : ℕ) → IsErrOf {T = Found} (Err fault) (OpenFault.Damaged file at) → BadRecord s c space file at) → Opens r a c
    opens_bad_as (Ok store) fault is there bad = absurd is.1
    opens_bad_as (Err other) fault is there bad =
        opens_without c reads other (λ none. there (ap (λ (f : OpenFault). Err f) (sym is.1 ∙ none))) (λ owns memory live. length_now owns live) (λ owns file at damaged.
        bad_damaged c index s (live_now c reads) (finds (owned owns)).0 (generation_now owns) space of (finds (owned owns)).2 file at
        (bad (readable_then owns) file at (ap (λ (f : OpenFault). Err f) (sym is.1 ∙ damaged))))

    opens_at_end : (found : Found) (r : Result Held OpenFault) → Covers s true c space found → Finishes index s found r → IfOk r (λ store. store.space ≡ space) → Opens r a c
    opens_at_end found (Ok store) covers finished space_is = record {
      only = only_now c reads;
      no_store = λ none. absurd (cc (none));
      damaged = λ owns file at damaged. absurd (cc (damaged));
      memory = λ memory. absurd (cc (memory));
      holds = λ owns. (
        repository_of s covers.records covers.true_of.good,
        holds_of index s is below found store covers.records covers.true_of (within_slot s space covers.records of covers.within) finished c (live_now c reads) (finds (owned owns)).0 (generation_now owns) space of (finds (owned owns)).2
            (covers.fill refl (readable_now owns)) space_is (readable_now owns).kept (kept_passes Control own b c reads slot.kept) (owns_now c reads owns),
      );
      opening = opening_now c reads;
      reached = λ answered some. reached_now c reads some;
    }
    opens_at_end found (Err fault) covers finished space_is =
        opens_without c reads fault (λ none. absurd (other_fault (sym finished.0 ∙ none))) (λ owns memory. absurd (no_memory (sym finished.0 ∙ memory))) (λ owns file at damaged. at_slot owns file at (sym finished.0 ∙ damaged))
      where
        other_fault : OpenFault.Damaged Control (128 * index) ≡ OpenFault.NoStore → ⊥
        other_fault e = cc

        no_memory : OpenFault.Damaged Control (128 * index) ≡ OpenFault.Memory → ⊥
        no_memory e = cc

        at_slot : OwnsLive a → (file : FileName) (at : ℕ) → OpenFault.Damaged Control (128 * index) ≡ OpenFault.Damaged file at → DamagedAt c.held file at
        at_slot owns file at e =
            let f : Control ≡ file = cc in
            let n : 128 * index ≡ at = cc in
            subst (λ (m : ℕ). DamagedAt c.held file m) n
            (subst (λ (g : FileName). DamagedAt c.held g (128 * index)) f
            (misfit_damaged c index s (live_now c reads) (finds (owned owns)).0 (generation_now owns) space of (finds (owned owns)).2 covers.records covers.true_of.good
            (covers.fill refl (readable_now owns)) (finished.1 covers.records covers.true_of)))

    -- by the flag that the ground tells
    pub opens_by : (found : Found) (r : Result Held OpenFault) (tells : Bool) → IsTrue tells → Covers s tells c space found → Finishes index s found r → IfOk r (λ store. store.space ≡ space) → Opens r a c
    opens_by found r tells told covers finished space_is = opens_at_end found r (subst (λ (b : Bool). Covers s b c space found) told covers) finished space_is

pub tables_at_end : (index : ℕ) (s : Slot) → IsSlot s → index < 2 → (tells : Bool) (told : Told) (space : SpaceView) → IsSpaceOf s space → (found : Found) (r : Result Held OpenFault) → Covers s tells told space found → Finishes index s found r
    → IfOk r (λ store. (q : Repository) × IsOf store q)
tables_at_end index s is below tells told space of found (Ok store) covers finished =
    (repository_of s covers.records covers.true_of.good, tables_of index s is below found store covers.records covers.true_of (within_slot s space covers.records of covers.within) finished)
tables_at_end index s is below tells told space of found (Err fault) covers finished = tt

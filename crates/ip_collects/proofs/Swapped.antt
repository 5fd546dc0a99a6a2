-- The swap: its slot, and the tables behind it.
--     few_bytes, few_rows      the runs that a check has found are few
--     check_of      the check of the collection that goes on
--     swapped_is, swapped_unswept      the slot is one
--     raises      so many commits are there to be given up.      swapped_tables      the tables are those of the repository without the commits that were given up
--     ready_for, newer_swap      the slot may be made live.      turns_err      of a call that failed
use Rattle.std.proofs.Common.{◌≡◌, ◌≢◌, ℕ, zero, suc, ◌+◌, ◌-◌, ◌^◌, ◌<◌, ◌≤◌, List, [], ◌∷◌, drop, length, length-drop, map, Option, Some, None, Ok, Err, refl, sym, ◌∙◌, ap, subst, arith}
use Rattle.std.specs.Prelude.{All, IfSome, IsErr, IsSome, Result, filter_map}
use Rattle.std.specs.List.{AllByRecursion}
use Rattle.std.proofs.lemmas.List.{drop-map, length-map}
use Rattle.std.proofs.lemmas.List.Elements.{All-drop, All-from_recursion}
use Rattle.ip_ground.specs.declared.names.GroundFault.{GroundFault}
use Rattle.ip_ground.specs.Told.{Told}
use Rattle.ip_spec.specs.Map.{get}
use Rattle.ip_spec.specs.Record.{IsHash}
use Rattle.ip_spec.specs.Repository.{Repository, Commit, CommitParent, next}
use Rattle.ip_spec.specs.Step.{collected_at}
use Rattle.ip_image.specs.declared.slot.Slot.{Slot}
use Rattle.ip_image.specs.Slot.{IsSlot, layout_of}
use Rattle.ip_image.specs.Standing.{AreRetained}
use Rattle.ip_image.specs.Virtual.{total}
use Rattle.ip_chunks.proofs.Borders.{some_size, chunk_up}
use Rattle.ip_control.specs.Changes.{control, IsReady}
use Rattle.ip_control.specs.Live.{live_of, IsNewer}
use Rattle.ip_control.proofs.LiveLaws.{spare_from, newer_from, reaches_from}
use Rattle.ip_history.specs.History.{History, HasParentsFirst, history_of}
use Rattle.ip_history.proofs.Parents.{first_drop}
use Rattle.ip_keep.specs.KeepView.{KeepView}
use Rattle.ip_keep.specs.Keeping.{IsKeep}
use Rattle.ip_keep.specs.Runs.{joined}
use Rattle.ip_keep.proofs.RunsApart.{apart_total, apart_few, joined_few}
use Rattle.ip_check.specs.CheckView.{CheckView}
use Rattle.ip_check.specs.Checking.{IsCheck}
use Rattle.ip_check.proofs.Making.{total_joined}
use Rattle.ip_space.specs.SpaceView.{bare, grown}
use Rattle.ip_held.specs.declared.collection.Collection.{Collection}
use Rattle.ip_held.specs.declared.collection.Unswept.{Unswept}
use Rattle.ip_held.specs.declared.held.Held.{Held}
use Rattle.ip_collects.specs.declared.swapping.Swap.{Swap}
use Rattle.ip_held.specs.Collecting.{IsPhase, IsUnswept, IsGoing}
use Rattle.ip_collects.specs.Finishing.{swapped_slot}
use Rattle.ip_held.specs.Placed.{AreRising}
use Rattle.ip_publish.specs.Publishing.{TurnsGate}
use Rattle.ip_held.specs.Held.{IsOf, Holds}
use Rattle.ip_collects.specs.Swapping.{IsSwap, SwapsTables}
use Rattle.ip_held.proofs.Going.{rising_low, rising_drop, highs, phase_here, going_here}
use Rattle.ip_held.proofs.Phases.{no_phase, retained_is}
use Rattle.ip_held.proofs.Stepping.{space_same, unswept_same, within_same, rising_same}

-- ---- the runs

pub few_bytes : (k : KeepView) → IsKeep k → total (joined k.kept) ≤ 2 ^ 62
few_bytes k keep =
    let t = apart_total k.horizon k.kept keep.apart in
    let same = total_joined k.kept in
    let a = keep.ends in
    let b = keep.low in
    let d = keep.high in
    omega (arith, t, same, a, b, d)

pub few_rows : (k : KeepView) → IsKeep k → length (joined k.kept) ≤ 2 ^ 62
few_rows k keep =
    let t = apart_total k.horizon k.kept keep.apart in
    let f = apart_few k.horizon k.kept keep.apart in
    let few = joined_few k.kept in
    let a = keep.ends in
    let b = keep.low in
    let d = keep.high in
    omega (arith, t, f, few, a, b, d)

-- ---- what goes on

module _ (store : Held) (r : Repository) (of : IsOf store r) (c : Collection) (runs : store.collection ≡ Some c) where
  pub check_of : (check : CheckView) → c.check ≡ Some check → IsCheck check × (check.job ≡ c.job)
  check_of check kept =
      let is : IsCheck check × (check.job ≡ c.job) × (check.keep.space ≡ bare (grown store.space c.job.end)) × IsSome c.exit = subst (λ (o : Option CheckView). IfSome o (λ check. IsCheck check × (check.job ≡ c.job) × (check.keep.space ≡ bare (grown store.space c.job.end)) × IsSome c.exit)) kept (going_here store r c runs of).check in
      (is.0, is.1)

-- ---- the slot

module _ (s : Slot) (u : Unswept) (c : Collection) (r : Repository) (bytes rows : ℕ) where
  abbrev to : Slot
  to = swapped_slot s u c bytes rows

  module _ (is : IsSlot s) (unswept : IsUnswept s u) (phase : IsPhase s r c) (floor : r.floor ≡ s.floor) (nexts : next r ≡ s.next) (drawn : u.attempt ≤ c.job.attempt) where
    higher : s.horizon ≤ c.job.horizon
    higher = (let told = phase.told in omega (arith, told.valid.horizon, told.old_horizon))

    some : c.job.attempt ≢ 0
    some none = (let first = unswept.low in absurd (omega (arith, first, none, drawn)))

    pub swapped_unswept : IsUnswept to u
    swapped_unswept = record {
      chunk = (let was = unswept.chunk in let rises = chunk_up s.chunk (some_size s.chunk is.chunk) s.horizon c.job.horizon higher in omega (arith, was, rises));
      low = unswept.low;
      high = unswept.high;
      live = λ live. drawn;
    }

    pub swapped_is : s.sequence < 2 ^ 62 → 0 < c.job.horizon → bytes ≤ 2 ^ 62 → rows ≤ 2 ^ 62 → IsSlot to
    swapped_is more above small few =
        let told = phase.told in
        let retained = retained_is r c.commit phase.retained in
        record {
          version_low = is.version_low;
          version_high = is.version_high;
          chunk = is.chunk;
          sequence_low = omega arith;
          sequence_high = omega (arith, more);
          horizon = omega (arith, told.valid.some, told.end);
          ends = is.ends;
          floor = omega (arith, retained.1, nexts);
          next = is.next;
          live = omega (arith, told.attempt);
          next_attempt = is.next_attempt;
          prefix_len = omega (arith, small);
          rows = omega (arith, few);
          first_attempt_low = unswept.low;
          first_attempt_high = unswept.high;
          first_attempt_live = λ live. drawn;
          first_chunk = swapped_unswept.chunk;
          none_live = (λ none. absurd (some none), λ none. absurd (omega (arith, none, above)));
          nothing_below = λ none. absurd (some none);
        }

    branch_on : (o : Option ℕ) → IfSome o (λ n. (s.floor ≤ n) × (n < s.next)) → IfSome o (λ n. c.commit ≤ n) → IfSome o (λ n. (c.commit ≤ n) × (n < s.next))
    branch_on None was above = tt
    branch_on (Some n) was above = (above, was.1)

    pub swapped_retained : AreRetained s r.branches → AreRetained to r.branches
    swapped_retained was = record { each = λ name. branch_on (get r.branches name) (was.each name) (phase.heads name); few = was.few }

-- ---- the places

rising_within : (low end : ℕ) (places : List ℕ) → AreRising low places → AllByRecursion (λ p. p < end) places → AllByRecursion (λ at. (low ≤ at) × (at < end)) places
rising_within low end [] rising below = tt
rising_within low end (p ∷ places) rising below = ((rising.0, below.0), rising_within low end places (rising_low low (p + 1) places (let first = rising.0 in omega (arith, first)) rising.1) below.1)

below_drop : (end k : ℕ) (places : List ℕ) → AllByRecursion (λ p. p < end) places → AllByRecursion (λ p. p < end) (drop k places)
below_drop end zero [] below = tt
below_drop end (suc k) [] below = tt
below_drop end zero (p ∷ places) below = below
below_drop end (suc k) (p ∷ places) below = below_drop end k places below.1

-- ---- the tables

module _ (store : Held) (r : Repository) (c : Collection) (check : CheckView) (swap : Swap) (of : IsOf store r) (runs : store.collection ≡ Some c) (kept : c.check ≡ Some check) (plan : IsSwap store c check swap) where
  abbrev fields : Slot
  fields = swapped_slot store.slot store.unswept c (total (joined check.keep.kept)) (length (joined check.keep.kept))

  abbrev gone : ℕ
  gone = c.commit - store.slot.floor

  phase : IsPhase store.slot r c
  phase = phase_here store r c runs of

  going : IsGoing store.slot.floor store.places store.unswept store.space c
  going = going_here store r c runs of

  -- so many commits go
  gone_is : swap.slot.floor - store.slot.floor ≡ gone
  gone_is = ap (λ (s : Slot). s.floor - store.slot.floor) plan.slot

  gone_here : c.commit - r.floor ≡ gone
  gone_here = ap (λ (n : ℕ). c.commit - n) of.floor

  retained : (r.floor ≤ c.commit) × (c.commit < next r)
  retained = retained_is r c.commit phase.retained

  pub same_floor : store.history.floor ≡ store.slot.floor
  same_floor = sym (ap (λ (h : History). h.floor) of.history) ∙ of.floor

  low : store.slot.floor ≤ c.commit
  low = (let first = retained.0 in let floor = of.floor in omega (arith, first, floor))

  rising : AreRising c.job.horizon (drop gone store.places)
  rising = rising_drop store.slot.horizon gone c.job.horizon store.places going.placed of.rising

  abbrev numbers : Commit → List ℕ
  numbers c = filter_map (λ (p : CommitParent). p.number) c.parents

  keep : IsKeep check.keep
  keep = (check_of store r of c runs check kept).0.keep

  floor_is : swap.slot.floor ≡ c.commit
  floor_is = ap (λ (s : Slot). s.floor) plan.slot

  pub raises : (store.history.floor ≤ swap.slot.floor) × (swap.slot.floor ≤ store.history.floor + length store.history.parents)
  raises =
      let f = same_floor in
      let l = low in
      let is = floor_is in
      let many = ap (λ (h : History). length h.parents) of.history in
      let each = length-map r.commits numbers in
      let first = of.floor in
      let last = retained.1 in
      (omega (arith, f, l, is), omega (arith, f, is, many, each, first, last))

  -- behind it
  module _ (now : Held) (swaps : SwapsTables swap store now) where
    slot : now.slot ≡ fields
    slot = swaps.slot ∙ plan.slot

    names : now.names ≡ drop gone store.names
    names = swaps.names ∙ plan.names

    places : now.places ≡ drop gone store.places
    places = swaps.places ∙ ap (λ (n : ℕ). drop n store.places) gone_is

    history : now.history ≡ record { floor = c.commit; parents = drop gone store.history.parents }
    history = swaps.history ∙ (λ i. record { floor = (ap (λ (s : Slot). s.floor) plan.slot) i; parents = drop (gone_is i) store.history.parents })

    history_now : history_of (collected_at r c.commit) ≡ now.history
    history_now =
        ap (λ (xss : List (List ℕ)). record { floor = c.commit; parents = xss }) (sym (drop-map numbers (c.commit - r.floor) r.commits) ∙ ap (λ (n : ℕ). drop n (map numbers r.commits)) gone_here ∙ ap (λ (h : History). drop gone h.parents) of.history)
        ∙ sym history

    pub swapped_tables : IsOf now (collected_at r c.commit)
    swapped_tables = record {
      slot = subst IsSlot (sym slot) (swapped_is store.slot store.unswept c r (total (joined check.keep.kept)) (length (joined check.keep.kept)) of.slot of.unswept phase of.floor of.next going.drawn plan.sequence plan.above (few_bytes check.keep keep) (few_rows check.keep keep));
      index = (let is = swaps.index in omega (arith, is));
      floor = ap (λ (s : Slot). s.floor) (sym slot);
      next = (let many = length-drop (c.commit - r.floor) r.commits in let nexts = of.next in omega (arith, many, nexts, retained.0, retained.1)) ∙ ap (λ (s : Slot). s.next) (sym slot);
      names = sym (drop-map (λ (m : Commit). m.name) (c.commit - r.floor) r.commits) ∙ ap (λ (n : ℕ). drop n (map (λ (m : Commit). m.name) r.commits)) gone_here ∙ ap (drop gone) of.names ∙ sym names;
      hashes = subst (All IsHash) (sym names) (All-drop IsHash gone store.names of.hashes);
      branches = of.branches ∙ sym swaps.branches;
      retained = subst (λ (s : Slot). AreRetained s r.branches) (sym slot) (swapped_retained store.slot store.unswept c r (total (joined check.keep.kept)) (length (joined check.keep.kept)) of.slot of.unswept phase of.floor of.next going.drawn of.retained);
      history = history_now;
      parents_first = subst HasParentsFirst (sym history) (first_drop store.history of.parents_first gone c.commit (let f = same_floor in let l = low in omega (arith, f, l)));
      space = space_same fields now.slot (record { layout = layout_of fields; runs = joined check.keep.kept; kept = [] }) now.space slot (swaps.space ∙ plan.space ∙ ap (λ (s : Slot). record { layout = layout_of s; runs = joined check.keep.kept; kept = [] }) plan.slot)
          (record { layout = refl; runs = λ none. absurd (some store.slot store.unswept c r (total (joined check.keep.kept)) (length (joined check.keep.kept)) of.slot of.unswept phase of.floor of.next going.drawn none) });
      placed = ap length places ∙ length-drop gone store.places ∙ (let e = of.placed in let g = gone_here in let many = length-drop (c.commit - r.floor) r.commits in omega (arith, e, g, many));
      phase = no_phase now.slot (collected_at r c.commit) now.collection swaps.collection;
      unswept = unswept_same fields now.slot store.unswept now.unswept slot swaps.unswept
          (swapped_unswept store.slot store.unswept c r (total (joined check.keep.kept)) (length (joined check.keep.kept)) of.slot of.unswept phase of.floor of.next going.drawn);
      going = subst (λ (o : Option Collection). IfSome o (IsGoing now.slot.floor now.places now.unswept now.space)) (sym swaps.collection) tt;
      named = of.named;
      within = within_same fields now.slot (drop gone store.places) now.places slot places
          (All-from_recursion (λ at. (c.job.horizon ≤ at) × (at < store.slot.end)) (drop gone store.places)
          (rising_within c.job.horizon store.slot.end (drop gone store.places) rising (below_drop store.slot.end gone store.places (highs store.slot.horizon store.slot.end store.places of.within))));
      rising = rising_same fields now.slot (drop gone store.places) now.places slot places rising;
    }

-- of the collection that goes on, whoever says so
pub swapped_again : (store now : Held) (r : Repository) (c d : Collection) (check : CheckView) (swap : Swap) → IsOf store r → store.collection ≡ Some d → store.collection ≡ Some c → c.check ≡ Some check → IsSwap store c check swap → SwapsTables swap store now → IsOf now (collected_at r d.commit)
swapped_again store now r c d check swap of there runs kept plan swaps =
    let same : c ≡ d = cc (there, runs) in
    subst (λ (e : Collection). IsOf now (collected_at r e.commit)) same (swapped_tables store r c check swap of runs kept plan now swaps)

-- ---- the files

module _ (store : Held) (r : Repository) (a : Told) (held : Holds store a r) where
  other : store.index ≢ 1 - store.index
  other e = let two = held.tables.index in absurd (omega (arith, e, two))

  pub ready_for : IsReady (1 - store.index) a
  ready_for = record {
    kept = held.kept;
    reaches = reaches_from (control a) store.index (1 - store.index) store.slot held.live (omega arith) (λ e. other (sym e));
    spare = spare_from (control a) store.index (1 - store.index) store.slot held.live other;
  }

  pub newer_swap : (c : Collection) (check : CheckView) (swap : Swap) → IsSwap store c check swap → IsNewer swap.slot.sequence (live_of (control a))
  newer_swap c check swap plan = newer_from (control a) store.index swap.slot.sequence store.slot held.live (let is = ap (λ (s : Slot). s.sequence) plan.slot in omega (arith, is))

pub turns_err : (slot : ℕ) (fields : Slot) (r s : Result (Unit {0}) GroundFault) (a b : Told) → IsErr s → TurnsGate slot fields r a b → TurnsGate slot fields s a b
turns_err slot fields r (Ok u) a b err turns = absurd (cc (err))
turns_err slot fields r (Err e) a b err turns = record { changes = turns.changes; live = turns.live; kept = tt; opens = tt }

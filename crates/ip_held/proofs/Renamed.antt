-- The step of a record of a branch.
--     named_may, named_step      what taking it asks, and where it leads.      named_tables      the tables there.      slot_from      the slot of a step that draws no attempt
--     may_same      it may stand behind the records of whatever repository the tables are of
use Rattle.std.proofs.Common.{◌≡◌, inl, inr, ℕ, ◌-◌, ◌<◌, ◌≤◌, Bool, true, false, List, [], ◌∷◌, ◌++◌, length, Option, Some, None, refl, sym, ◌∙◌, ap, subst, arith, append-nil}
use Rattle.std.specs.Prelude.{Ok, All, IfSome, not, nat_le, nat_lt, ◌&&◌, cond}
use Rattle.std.proofs.lemmas.Bool.Decides.{nat_tests}
use Rattle.std.specs.Cmp.Lexicographic.{nat_list_cmp_total}
use Rattle.std.specs.Ordering.{eq_by_cmp}
use Rattle.ip_ground.specs.Told.{Told}
use Rattle.ip_spec.specs.declared.record.Record.{Record}
use Rattle.ip_spec.specs.Map.{get, insert, remove, len, from_entries, get-insert}
use Rattle.ip_spec.specs.Path.{Bytes, bytes_cmp}
use Rattle.ip_spec.specs.Record.{Names, Fits, spelling}
use Rattle.ip_spec.specs.Repository.{Repository, next}
use Rattle.ip_image.specs.declared.slot.Slot.{Slot}
use Rattle.ip_image.specs.Standing.{AreRetained, IsServedKind, names_after}
use Rattle.ip_image.specs.Appending.{MayName, renamed}
use Rattle.ip_image.proofs.PairLaws.{Has}
use Rattle.ip_image.proofs.StayingRecords.{In, refs_of}
use Rattle.ip_image.proofs.Renaming.{get_without, few_without, spelled_is, stands_renamed}
use Rattle.ip_image.proofs.Tables.{made_again}
use Rattle.ip_space.specs.SpaceView.{grown}
use Rattle.ip_spec.proofs.Spelling.{some_bytes}
use Rattle.ip_held.specs.declared.held.Held.{Held}
use Rattle.ip_held.specs.declared.step.Entry.{Entry}
use Rattle.ip_held.specs.Changes.{IsNextSlot}
use Rattle.ip_held.specs.Collecting.{IsAbove, IsGoing, carried}
use Rattle.ip_held.specs.Held.{IsOf, Holds}
use Rattle.ip_held.specs.Placed.{places_in}
use Rattle.ip_held.specs.Step.{HasRoom, IsStep, MayEnter, MayTake, entered, entered_tables, slot_behind}
use Rattle.ip_held.proofs.BranchNames.{named_after}
use Rattle.ip_held.proofs.Going.{going_on}
use Rattle.ip_held.proofs.NextSlot.{next_room, next_is, next_generation, next_space, unswept_on, within_on}
use Rattle.ip_held.proofs.Phases.{DrawsNone, phase_named}
use Rattle.ip_held.proofs.Recovering.{held_has}

abbrev IsAmong : Slot → ℕ → Type 0
IsAmong s n = (s.floor ≤ n) × (n < s.next)

within : (floor n m : ℕ) → (nat_le floor n && nat_lt n m) ≡ true → (floor ≤ n) × (n < m)
within floor n m is = (low floor n m is, high floor n m is)
  where
    low : (floor n m : ℕ) → (nat_le floor n && nat_lt n m) ≡ true → floor ≤ n
    low floor n m is = grind (arith, nat_tests)

    high : (floor n m : ℕ) → (nat_le floor n && nat_lt n m) ≡ true → n < m
    high floor n m is = grind (arith, nat_tests)

-- the slot that a limit allowed
pub slot_from : (store : Held) (r : Repository) (length commits : ℕ) (slot : Slot) → IsOf store r → commits ≤ length → IsNextSlot (carried store) length commits (Ok slot)
    → (slot ≡ slot_behind store.slot store.unswept store.slot.next_attempt length commits) × HasRoom store.slot store.slot.next_attempt length commits
slot_from store r length commits slot of few (same, small, low) = (same, next_room store.slot length commits of.slot small low few)

-- whatever repository the tables are of
pub may_same : (store : Held) (q r : Repository) (x : Record) → IsOf store q → IsOf store r → MayName q x → MayName r x
may_same store q r (Record.BranchSet number name) a b may = (
  subst (λ (f : ℕ). (nat_le f number && nat_lt number (next r)) ≡ true) (a.floor ∙ sym b.floor) (subst (λ (n : ℕ). (nat_le q.floor number && nat_lt number n) ≡ true) (a.next ∙ sym b.next) may.0),
  subst (λ m. len (insert m name number) ≤ 4096) (a.branches ∙ sym b.branches) may.1,
)
may_same store q r (Record.BranchRemove name) a b may = tt
may_same store q r (Record.BranchTable rows) a b may = may ∙ ap (λ m. m.entries) (a.branches ∙ sym b.branches)
may_same store q r _ a b may = absurd may

no_place : (r : Repository) (at : ℕ) (x : Record) → MayName r x → places_in ((at, x) ∷ []) ≡ []
no_place r at (Record.BranchSet number name) may = refl
no_place r at (Record.BranchRemove name) may = refl
no_place r at (Record.BranchTable rows) may = refl
no_place r at _ may = absurd may

none_referred : (r : Repository) (x : Record) → MayName r x → (at : ℕ) → In (refs_of x) at → ⊥
none_referred r (Record.BranchSet number name) may at ref = ref
none_referred r (Record.BranchRemove name) may at ref = ref
none_referred r (Record.BranchTable rows) may at ref = ref
none_referred r _ may at ref = absurd may

module _ (r : Repository) (store : Held) (of : IsOf store r) where
  retained_set : (name : Bytes) (number : ℕ) → IsAmong store.slot number → (q : Bytes) → IfSome (get (insert r.branches name number) q) (IsAmong store.slot)
  retained_set name number among q = subst (λ (o : Option ℕ). IfSome o (IsAmong store.slot)) (sym (get-insert nat_list_cmp_total r.branches name number q)) (by (eq_by_cmp bytes_cmp q name) (get r.branches q) (of.retained.each q))
    where
      by : (b : Bool) (o : Option ℕ) → IfSome o (IsAmong store.slot) → IfSome (cond b (Some number) o) (IsAmong store.slot)
      by true o is = among
      by false o is = is

  retained_without : (name q : Bytes) → IfSome (get (remove r.branches name) q) (IsAmong store.slot)
  retained_without name q = subst (λ (o : Option ℕ). IfSome o (IsAmong store.slot)) (sym (get_without r.branches name q)) (by (not (eq_by_cmp bytes_cmp name q)) (get r.branches q) (of.retained.each q))
    where
      by : (b : Bool) (o : Option ℕ) → IfSome o (IsAmong store.slot) → IfSome (cond b o None) (IsAmong store.slot)
      by true o is = is
      by false o is = tt

  retained_after : (x : Record) → MayName r x → AreRetained store.slot (names_after Names.branches r.branches x)
  retained_after (Record.BranchSet number name) may = record {
    each = retained_set name number (let (a, b) = within r.floor number (next r) may.0 in let f = of.floor in let n = of.next in (omega (arith, a, f), omega (arith, b, n)));
    few = may.1;
  }
  retained_after (Record.BranchRemove name) may = record {
    each = retained_without name;
    few = (let few = few_without r.branches name in let was = of.retained.few in omega (arith, few, was));
  }
  retained_after (Record.BranchTable rows) may =
      subst (AreRetained store.slot) (sym (ap from_entries may ∙ made_again r.branches)) of.retained
  retained_after _ may = absurd may

  module _ (x : Record) (may : MayName r x) (fits : Fits 1 x) (attempt : ℕ) (room : HasRoom store.slot attempt (length (spelling x)) 0) (drawn : DrawsNone store.slot attempt store.collection) (above : IsAbove store.collection x) where
    abbrev next_live : Slot
    next_live = slot_behind store.slot store.unswept attempt (length (spelling x)) 0

    same_next : next_live.next ≡ store.slot.next
    same_next = omega arith

    renamed_tables : IsOf (entered store (record { slot = next_live; entry = Entry.Branch x })) (renamed r x)
    renamed_tables = record {
      slot = next_is store.slot store.unswept attempt (length (spelling x)) 0 of.slot of.unswept room;
      index = omega arith;
      floor = of.floor;
      next = of.next ∙ sym same_next;
      names = of.names;
      hashes = of.hashes;
      branches = ap (λ m. names_after Names.branches m x) of.branches;
      retained = (let is = retained_after x may in record { each = λ name. subst (λ (n : ℕ). IfSome (get (names_after Names.branches r.branches x) name) (λ m. (store.slot.floor ≤ m) × (m < n))) (sym same_next) (is.each name); few = is.few });
      history = of.history;
      parents_first = of.parents_first;
      space = next_space store.slot store.unswept attempt (length (spelling x)) 0 store.space of.space;
      placed = of.placed;
      phase = phase_named store.slot store.unswept attempt (length (spelling x)) 0 r (renamed r x) x store.collection may above refl (omega arith) drawn refl of.phase;
      unswept = unswept_on store.slot store.unswept attempt (length (spelling x)) 0 room of.unswept;
      going = subst (λ (ps : List ℕ). IfSome store.collection (IsGoing store.slot.floor ps store.unswept (grown store.space next_live.end))) (append-nil store.places) (going_on store.slot.floor next_live.end store.places [] store.unswept store.space store.collection of.going);
      named = named_after 1 r.branches x fits of.named;
      within = subst (All (λ at. (next_live.horizon ≤ at) × (at < next_live.end))) (append-nil store.places) (within_on store.slot next_live store.places [] (omega arith) (omega arith) of.within tt);
      rising = of.rising;
    }

    -- the entry, whatever it is, enters what the record says
    module _ (entry : Entry) (enters : entered_tables entry store ≡ record store { branches = names_after Names.branches store.branches x }) where
      tables_spelled : IsOf (entered store (record { slot = next_live; entry = entry })) (renamed r x)
      tables_spelled = subst (λ (t : Held). IsOf (record t { index = 1 - store.index; slot = next_live; space = grown store.space next_live.end }) (renamed r x)) (sym enters) renamed_tables

      step_spelled : IsServedKind x → {told : Told} (held : Holds store told r) → IsStep held (renamed r x) ((store.slot.end, x) ∷ []) (spelling x) (record { slot = next_live; entry = entry })
      step_spelled served {told = told} held = record {
        spelled = spelled_is store.slot.end x;
        newest = (fits, tt);
        lie = (refl, refl);
        tables = tables_spelled;
        placed = ap (λ (t : Held). t.places) enters ∙ sym (append-nil store.places) ∙ ap (λ (ps : List ℕ). store.places ++ ps) (sym (no_place r store.slot.end x may));
        rests = λ c is collects y has at ref. absurd (no_refs y has at ref);
        stands = λ image live adds. stands_renamed told.held image r store.slot next_live x held.stands (held_has store r told held) may
            (subst (λ (v : ℕ). Fits v x) (let l = of.slot.version_low in let h = of.slot.version_high in omega (arith, l, h)) fits) served live
            (next_generation store.slot store.unswept attempt (length (spelling x)) 0) refl same_next adds;
      }
        where
          -- a record of branches refers to nothing
          no_refs : (y : ℕ × Record) → Has ((store.slot.end, x) ∷ []) y → (at : ℕ) → In (refs_of y.1) at → ⊥
          no_refs y (inl same) at ref = none_referred r x may at (subst (λ (z : ℕ × Record). In (refs_of z.1) at) (sym same) ref)
          no_refs y (inr none) at ref = none

module _ (r : Repository) (store : Held) (of : IsOf store r) (x : Record) (may : MayName r x) (fits : Fits 1 x) (served : IsServedKind x) (bytes : Bytes) (is : bytes ≡ spelling x) (slot : Slot) (attempt : ℕ) (slot_is : slot ≡ slot_behind store.slot store.unswept attempt (length bytes) 0)
    (room : HasRoom store.slot attempt (length bytes) 0) (drawn : DrawsNone store.slot attempt store.collection) (above : IsAbove store.collection x) (entry : Entry) (enters : entered_tables entry store ≡ record store { branches = names_after Names.branches store.branches x }) where
  pub named_tables : IsOf (entered store (record { slot = slot; entry = entry })) (renamed r x)
  named_tables =
      subst (λ (s : Slot). IsOf (entered store (record { slot = s; entry = entry })) (renamed r x)) (sym slot_is)
      (subst (λ (bs : Bytes). IsOf (entered store (record { slot = slot_behind store.slot store.unswept attempt (length bs) 0; entry = entry })) (renamed r x)) (sym is)
      (tables_spelled r store of x may fits attempt (subst (λ (bs : Bytes). HasRoom store.slot attempt (length bs) 0) is room) drawn above entry enters))

  pub named_may : MayEnter store entry → MayTake store bytes (record { slot = slot; entry = entry })
  named_may may_enter = record { enters = may_enter; attempt = attempt; commits = 0; slot = slot_is; room = room; some = subst (λ (bs : Bytes). 0 < length bs) (sym is) (some_bytes x) }

  pub named_step : {told : Told} (held : Holds store told r) → IsStep held (renamed r x) ((store.slot.end, x) ∷ []) bytes (record { slot = slot; entry = entry })
  named_step {told = told} held =
      subst (λ (s : Slot). IsStep held (renamed r x) ((store.slot.end, x) ∷ []) bytes (record { slot = s; entry = entry })) (sym slot_is)
      (subst (λ (bs : Bytes). IsStep held (renamed r x) ((store.slot.end, x) ∷ []) bs (record { slot = slot_behind store.slot store.unswept attempt (length bs) 0; entry = entry })) (sym is)
      (step_spelled r store of x may fits attempt (subst (λ (bs : Bytes). HasRoom store.slot attempt (length bs) 0) is room) drawn above entry enters served held))

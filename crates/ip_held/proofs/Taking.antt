-- What an answer does to the records and to the repository, from what a call below did.
--     refused_took, refused_grew      nothing was done.      still_took, still_grew      a value that appends nothing
--     value_took, value_grew, fault_took, fault_grew      of a step's answer, with another value, and as the fault of another call
--     looked_took, looked_grew, looked_still_took, looked_still_grew      a call that only looked.      looked_stays      each record stays
--     behind_took, behind_grew      a call behind one that only looked
--     entered_keeps      what a step leaves of the tables.      entered_is      what the store holds behind it
--     may_take      what the durable step asks.      taken_clear, cut_clear, taken_took, cut_took, taken_grew, cut_grew      what taking a step does, and what a fault of the ground leaves
use Rattle.std.proofs.Common.{◌≡◌, ℕ, ◌+◌, ◌-◌, Bool, true, false, ◌++◌, length, Option, Some, refl, sym, ◌∙◌, ap, subst, arith}
use Rattle.std.specs.Prelude.{IfSome, Result, Ok, Err}
use Rattle.ip_ground.specs.declared.names.GroundFault.{GroundFault}
use Rattle.ip_ground.specs.Contents.{Image}
use Rattle.ip_ground.specs.declared.names.FileName.TheVariants.{Control}
use Rattle.ip_ground.specs.Told.{Told, NoFile}
use Rattle.ip_spec.specs.declared.record.Record.{Record}
use Rattle.ip_spec.specs.Batch.{AreEndToEnd}
use Rattle.ip_spec.specs.Path.{Bytes}
use Rattle.ip_spec.specs.Repository.{Repository}
use Rattle.ip_spec.specs.TreeAt.{Records}
use Rattle.ip_image.specs.declared.slot.Slot.{Slot}
use Rattle.ip_image.specs.Appending.{AddsBytes, bytes_of_records}
use Rattle.ip_image.specs.Pending.{HasLive, NothingPending}
use Rattle.ip_image.specs.Standing.{Standing, StandsFor}
use Rattle.ip_publish.specs.Publishing.{CanStep, IsWritten, MakesStep, WritesTo}
use Rattle.ip_space.specs.SpaceView.{SpaceView, grown}
use Rattle.ip_held.specs.declared.collection.Collection.{Collection}
use Rattle.ip_held.specs.declared.fault.StoreFault.{StoreFault}
use Rattle.ip_held.specs.declared.held.Held.{Held}
use Rattle.ip_held.specs.declared.step.Entry.{Entry}
use Rattle.ip_held.specs.declared.step.Step.{Step}
use Rattle.ip_held.specs.Changes.{Changes, HasAnswer}
use Rattle.ip_held.specs.Clear.{KeepsClear}
use Rattle.ip_held.specs.Collecting.{Collects, IsPhaseOf}
use Rattle.ip_held.specs.Fronts.{LeavesFront}
use Rattle.ip_held.specs.Held.{IsOf, Holds, SameTables, image_records}
use Rattle.ip_held.specs.Slots.{KeepsSlots}
use Rattle.ip_held.specs.Step.{IsStep, Grew, MayTake, Took, entered, entered_tables, slot_behind}
use Rattle.ip_held.specs.Tie.{appending}
use Rattle.ip_held.specs.TieAppends.{IsTiedBy}
use Rattle.ip_held.specs.Trees.{OnlyLooks, RecordsStay}
use Rattle.ip_held.proofs.Clearing.{changed_clear, looked_clear}
use Rattle.ip_held.proofs.CollectsOn.{collects_on, unwritten}
use Rattle.ip_held.proofs.CoreAppends.{answer_seen, is_appended, sees_back, sees_itself, sees_same, sees_still, still_fault, still_value}
use Rattle.ip_held.proofs.Listed.{same_records}
use Rattle.ip_held.proofs.LookedUp.{changes_behind, changes_looked, pending_on, stays_behind}
use Rattle.ip_held.proofs.SlotLaws.{slots_none, slots_only, slots_then, writes_none, writes_still, writes_then}
use Rattle.ip_held.proofs.StepFronts.{leaves_behind, leaves_looked, leaves_none, leaves_step, slots_step}
use Rattle.ip_held.proofs.Stepping.{changed, changes_none, changes_still, cut_short, itself, list_after, only_changes, may_step, more_made, same_can_step, same_step, stays_made, stays_still, still_list, with_answer, with_fault, with_value}

-- ---- nothing was done

module _ {A : Type 0} (made : A → Bool) (fault : StoreFault) {store : Held} {r : Repository} {a : Told} (held : Holds store a r) where
  pub refused_took : (after : Repository) (more : Records) → Took {A = A} made held after more (Err fault) store a
  refused_took after more = record {
    changes = changes_none r after fault store store a (itself store) refl held;
    list = λ is. absurd is;
    clear = λ has clear. clear;
    fronts = λ pending. leaves_none store held.stands.standing.records (appending more) a;
    slots = λ pending. slots_none a;
    writes = writes_none store.slot.chunk store.slot.end (store.slot.end + length (bytes_of_records more)) a;
  }

  pub refused_grew : Grew {A = A} made held (Err fault) store a
  refused_grew = record {
    stay = λ has q still. stays_still store store (itself store) r q a held still;
    tied = λ q still. still_fault store store held.stands.standing.records still.stands.standing.records (sees_same store store (itself store) a r q held still) fault;
  }

-- the same, as what is there says it
pub none_took : {A : Type 0} (made : A → Bool) (fault : StoreFault) {store : Held} {r : Repository} {a : Told} (held : Holds store a r) (after : Repository) (more : Records) (res : Result A StoreFault) (now : Held) → res ≡ Err fault → now ≡ store
    → Took made held after more res now a
none_took {A = A} made fault {store = store} {a = a} held after more res now is same =
    subst (λ (s : Held). Took made held after more res s a) (sym same) (subst (λ (res : Result A StoreFault). Took made held after more res store a) (sym is) (refused_took made fault held after more))

pub none_grew : {A : Type 0} (made : A → Bool) (fault : StoreFault) {store : Held} {r : Repository} {a : Told} (held : Holds store a r) (res : Result A StoreFault) (now : Held) → res ≡ Err fault → now ≡ store → Grew made held res now a
none_grew {A = A} made fault {store = store} {a = a} held res now is same =
    subst (λ (s : Held). Grew made held res s a) (sym same) (subst (λ (res : Result A StoreFault). Grew made held res store a) (sym is) (refused_grew made fault held))

-- a fault of the ground: each record that there was is unknown till the store is opened anew
pub cut_grew : {A : Type 0} (made : A → Bool) {store : Held} {r : Repository} {a : Told} (held : Holds store a r) (res : Result A StoreFault) (now : Held) (b : Told) → res ≡ Err StoreFault.Ground → Grew made held res now b
cut_grew {A = A} made held res now b is = subst (λ (res : Result A StoreFault). Grew made held res now b) (sym is) (record { stay = λ has. absurd has; tied = λ q still. tt })

pub cut_clear : (res : Result (Unit {0}) StoreFault) (store now : Held) (a b : Told) → res ≡ Err StoreFault.Ground → HasAnswer res → KeepsClear store now a b
cut_clear res store now a b is has clear = absurd (subst (λ (res : Result (Unit {0}) StoreFault). HasAnswer res) is has)

module _ {A : Type 0} (made : A → Bool) (x : A) (none : made x ≡ false) {store : Held} {r : Repository} {a : Told} (held : Holds store a r) where
  pub still_took : (more : Records) → Took made held r more (Ok x) store a
  still_took more = record {
    changes = changes_still x r store a held;
    list = λ is. absurd (cc (is, none));
    clear = λ has clear. clear;
    fronts = λ pending. leaves_none store held.stands.standing.records (appending more) a;
    slots = λ pending. slots_none a;
    writes = writes_none store.slot.chunk store.slot.end (store.slot.end + length (bytes_of_records more)) a;
  }

  pub still_grew : Grew made held (Ok x) store a
  still_grew = record {
    stay = λ has q still. stays_still store store (itself store) r q a held still;
    tied = λ q still. still_value store store held.stands.standing.records still.stands.standing.records (sees_same store store (itself store) a r q held still) (made x) none;
  }

-- ---- of a step's answer

module _ {A : Type 0} (made : A → Bool) (y : A) (some : made y ≡ true) {store : Held} {r : Repository} {a b : Told} (held : Holds store a r) where
  pub value_took : (after : Repository) (more : Records) (now : Held) → Took (λ (u : Unit {0}). true) held after more (Ok tt) now b → Took made held after more (Ok y) now b
  value_took after more now took = record {
    changes = with_value tt y r after now a b took.changes;
    list = λ is. took.list refl;
    clear = λ has. took.clear tt;
    fronts = took.fronts;
    slots = took.slots;
    writes = took.writes;
  }

  pub value_grew : (now : Held) → Grew (λ (u : Unit {0}). true) held (Ok tt) now b → Grew made held (Ok y) now b
  value_grew now grew = record {
    stay = λ has. grew.stay tt;
    tied = λ q still. subst (λ (m : Bool). IsTiedBy m store held.stands.standing.records now still.stands.standing.records) (sym some) (grew.tied q still);
  }

module _ {A B : Type 0} (of : A → Bool) (made : B → Bool) (fault : StoreFault) {store : Held} {r : Repository} {a b : Told} (held : Holds store a r) where
  pub fault_took : (after : Repository) (more : Records) (now : Held) → Took {A = A} of held after more (Err fault) now b → Took {A = B} made held after more (Err fault) now b
  fault_took after more now took = record {
    changes = with_fault fault r after now a b took.changes;
    list = λ is. absurd is;
    clear = λ has. took.clear (with_answer A B fault has);
    fronts = took.fronts;
    slots = took.slots;
    writes = took.writes;
  }

  pub fault_grew : (now : Held) → Grew {A = A} of held (Err fault) now b → Grew {A = B} made held (Err fault) now b
  fault_grew now grew = record { stay = λ has. grew.stay (with_answer A B fault has); tied = grew.tied }

-- ---- a call that only looked

-- whichever proof says that it holds the records
pub looked_stays : (store mid : Held) (a b : Told) → OnlyLooks a b store mid → (r q : Repository) (held : Holds store a r) (now : Holds mid b q) → RecordsStay (image_records held) (image_records now)
looked_stays store mid a b looks r q held now at x is =
    let still = looks.holds r held in
    subst (λ (records : ℕ → Option Record). records at ≡ Some x) (sym (looks.records r held still) ∙ same_records b mid mid r q still now) is

module _ {A : Type 0} (made : A → Bool) (fault : StoreFault) {store mid : Held} {r : Repository} {a b : Told} (same : SameTables store mid) (looks : OnlyLooks a b store mid) (held : Holds store a r) where
  pub looked_took : (after : Repository) (more : Records) → Took {A = A} made held after more (Err fault) mid b
  looked_took after more = record {
    changes = changes_looked r store a held b looks.reads.only after (Err fault) mid (looks.holds r held) tt;
    list = λ is. absurd is;
    clear = λ has. looked_clear store mid a b same.slot same.unswept looks.reads.only;
    fronts = λ pending. leaves_looked store r a held b looks.reads.only pending (appending more);
    slots = λ pending. slots_only a b held.kept NoFile (λ none. none) looks.reads.only;
    writes = writes_still store.slot.chunk store.slot.end (store.slot.end + length (bytes_of_records more)) a b looks.reads.only;
  }

  pub looked_grew : Grew {A = A} made held (Err fault) mid b
  looked_grew = record {
    stay = λ has q still. looked_stays store mid a b looks r q held still;
    tied = λ q still. still_fault store mid held.stands.standing.records still.stands.standing.records (sees_still store mid same a b looks.reads.only r q held still) fault;
  }

module _ {A : Type 0} (made : A → Bool) (x : A) (none : made x ≡ false) {store mid : Held} {r : Repository} {a b : Told} (same : SameTables store mid) (looks : OnlyLooks a b store mid) (held : Holds store a r) where
  pub looked_still_took : (more : Records) → Took made held r more (Ok x) mid b
  looked_still_took more = record {
    changes = changes_looked r store a held b looks.reads.only r (Ok x) mid (looks.holds r held) refl;
    list = λ is. absurd (cc (is, none));
    clear = λ has. looked_clear store mid a b same.slot same.unswept looks.reads.only;
    fronts = λ pending. leaves_looked store r a held b looks.reads.only pending (appending more);
    slots = λ pending. slots_only a b held.kept NoFile (λ none. none) looks.reads.only;
    writes = writes_still store.slot.chunk store.slot.end (store.slot.end + length (bytes_of_records more)) a b looks.reads.only;
  }

  pub looked_still_grew : Grew made held (Ok x) mid b
  looked_still_grew = record {
    stay = λ has q still. looked_stays store mid a b looks r q held still;
    tied = λ q still. still_value store mid held.stands.standing.records still.stands.standing.records (sees_still store mid same a b looks.reads.only r q held still) (made x) none;
  }

module _ {A : Type 0} (made : A → Bool) (res : Result A StoreFault) {store mid : Held} {r : Repository} {a b c : Told} (same : SameTables store mid) (looks : OnlyLooks a b store mid) (held : Holds store a r) where
  pub behind_took : (after : Repository) (more : Records) (now : Held) → Took made (looks.holds r held) after more res now c → Took made held after more res now c
  behind_took after more now took = record {
    changes = changes_behind r store a held b looks.reads.only after res now c took.changes;
    list = λ is q still. took.list is q still ∙ ap (λ (rs : Records). rs ++ more) (still_list store mid same r r a b looks.reads.only held (looks.holds r held));
    clear = λ has clear. took.clear has (looked_clear store mid a b same.slot same.unswept looks.reads.only clear);
    fronts = λ pending.
        leaves_behind store r a held b looks.reads.only pending (appending more) mid same (looks.holds r held) c took.changes.only.goes (took.fronts (pending_on r store a held b looks.reads.only pending));
    slots = λ pending. slots_then a b c held.kept (looks.reads.only.others Control (λ none. none)) took.changes.only.goes (took.slots (pending_on r store a held b looks.reads.only pending));
    writes = writes_then store.slot.chunk store.slot.end (store.slot.end + length (bytes_of_records more)) a b c looks.reads.only
        (subst (λ (s : Slot). WritesTo s.chunk s.end (s.end + length (bytes_of_records more)) b c) same.slot took.writes);
  }

  pub behind_grew : (now : Held) → Grew made (looks.holds r held) res now c → Grew made held res now c
  behind_grew now grew = record {
    stay = λ has q still. stays_behind a b store mid looks c now r q held still (grew.stay has q still);
    tied = λ q still.
        let here = looks.holds r held in
        answer_seen mid store here.stands.standing.records held.stands.standing.records (sees_back store mid held.stands.standing.records here.stands.standing.records (sees_still store mid same a b looks.reads.only r r held here))
        now now still.stands.standing.records still.stands.standing.records (sees_itself now still.stands.standing.records) made res (grew.tied q still);
  }

-- ---- a step

-- what it leaves of what the store held
pub record IsBeside (store now : Held) : Type 0 where
  pub index : now.index ≡ store.index
  pub slot : now.slot ≡ store.slot
  pub space : now.space ≡ store.space
  pub collection : now.collection ≡ store.collection
  pub unswept : now.unswept ≡ store.unswept

pub entered_keeps : (entry : Entry) (store : Held) → IsBeside store (entered_tables entry store)
entered_keeps (Entry.Commit name parents branch place) store = record { index = refl; slot = refl; space = refl; collection = refl; unswept = refl }
entered_keeps (Entry.Branch x) store = record { index = refl; slot = refl; space = refl; collection = refl; unswept = refl }
entered_keeps Entry.Nothing store = record { index = refl; slot = refl; space = refl; collection = refl; unswept = refl }

-- by what comes of the tables alone
pub entered_is : (store : Held) (step : Step) (now : Held) → now ≡ entered_tables step.entry store → (space : SpaceView) → space ≡ grown now.space step.slot.end
    → record now { index = 1 - now.index; slot = step.slot; space = space } ≡ entered store step
entered_is store step now is space grows =
    let keeps = entered_keeps step.entry store in
    λ i. record (is i) {
      index = 1 - (ap (λ (held : Held). held.index) is ∙ keeps.index) i;
      slot = step.slot;
      space = (grows ∙ ap (λ (held : Held). grown held.space step.slot.end) is ∙ ap (λ (space : SpaceView). grown space step.slot.end) keeps.space) i;
    }

module _ (store : Held) (bytes : Bytes) (step : Step) (may : MayTake store bytes step) (r : Repository) (of : IsOf store r) where
  abbrev next : Slot
  next = slot_behind store.slot store.unswept may.attempt (length bytes) may.commits

  collection : (entered store step).collection ≡ store.collection
  collection = (entered_keeps step.entry store).collection

  module _ (a : Told) (held : Holds store a r) where
    -- of the store once its tables are entered
    module _ (mid : Held) (is : mid ≡ entered_tables step.entry store) where
      keeps : IsBeside store mid
      keeps = subst (IsBeside store) (sym is) (entered_keeps step.entry store)

      pub may_take : CanStep mid.slot.end (1 - mid.index) step.slot a
      may_take = same_can_step mid.slot.end store.slot.end mid.index store.index step.slot next a (ap (λ (s : Slot). s.end) keeps.slot) keeps.index may.slot (may_step r r store may.attempt may.commits bytes of may.room a held)

      pub step_from : (b : Told) (res : Result (Unit {0}) GroundFault) → MakesStep mid.slot.end bytes (1 - mid.index) step.slot res a b → MakesStep store.slot.end bytes (1 - store.index) step.slot res a b
      step_from b res makes = same_step mid.slot.end store.slot.end mid.index store.index bytes bytes step.slot step.slot res a b (ap (λ (s : Slot). s.end) keeps.slot) keeps.index refl refl makes

    module _ (b : Told) (res : Result (Unit {0}) GroundFault) (makes : MakesStep store.slot.end bytes (1 - store.index) step.slot res a b) where
      makes_next : MakesStep store.slot.end bytes (1 - store.index) next res a b
      makes_next = subst (λ (s : Slot). MakesStep store.slot.end bytes (1 - store.index) s res a b) may.slot makes

      slots : NothingPending a → KeepsSlots a b
      slots pending = slots_step r r store may.attempt may.commits bytes of may.room a held b res makes_next pending

      module _ (after : Repository) (more : Records) (is : IsStep held after more bytes step) where
        lie : AreEndToEnd store.slot.end more next.end
        lie = subst (λ (s : Slot). AreEndToEnd store.slot.end more s.end) may.slot is.lie

        abbrev StandsNew : Type 0
        StandsNew = (image : Image) → HasLive next image → AddsBytes store.slot bytes a.held image → StandsFor image after

        stands_new : StandsNew
        stands_new = subst (λ (s : Slot). (image : Image) → HasLive s image → AddsBytes store.slot bytes a.held image → StandsFor image after) may.slot is.stands

        fronts : NothingPending a → LeavesFront store held.stands.standing.records (appending more) a b
        fronts pending = leaves_step r after store may.attempt may.commits bytes of may.room a held stands_new more is.newest lie is.spelled is.rests b res makes_next pending

        writes : WritesTo store.slot.chunk store.slot.end (store.slot.end + length (bytes_of_records more)) a b
        writes = subst (λ (bs : Bytes). WritesTo store.slot.chunk store.slot.end (store.slot.end + length bs) a b) is.spelled makes_next.writes

        -- a fault of the ground cut it short
        pub cut_took : (now : Held) → Took {A = Unit {0}} (λ done. true) held after more (Err StoreFault.Ground) now b
        cut_took now = record {
          changes = cut_short r after store may.attempt may.commits bytes of may.room a held stands_new b now res makes_next;
          list = λ none. absurd none;
          clear = λ has. absurd has;
          fronts = fronts;
          slots = slots;
          writes = writes;
        }

    module _ (b : Told) (makes : MakesStep store.slot.end bytes (1 - store.index) step.slot (Ok tt) a b) where
      made : MakesStep store.slot.end bytes (1 - store.index) next (Ok tt) a b
      made = makes_next b (Ok tt) makes

      pub taken_grew : Grew {A = Unit {0}} (λ done. true) held (Ok tt) (entered store step) b
      taken_grew = record {
        stay = λ has q still. stays_made r r store may.attempt may.commits bytes of may.room a held b made (entered store step) q still;
        tied = λ q still.
            let list = more_made r r store may.attempt may.commits bytes of may.room a held b made (entered store step) q still in
            is_appended store (entered store step) a b r q held still collection (ap (λ (s : Slot). s.horizon) may.slot) list.0 list.1
            (subst (λ (s : Slot). AreEndToEnd store.slot.end list.0 s.end) (sym may.slot) list.2);
      }

      pub taken_clear : KeepsClear store (entered store step) a b
      taken_clear = changed_clear store r a b held step.slot (entered store step).unswept (ap (λ (s : Slot). s.first_chunk) may.slot, ap (λ (s : Slot). s.first_attempt) may.slot) (entered_keeps step.entry store).unswept
          (only_changes r r store may.attempt may.commits bytes of may.room a held b (Ok tt) made)

      module _ (after : Repository) (more : Records) (is : IsStep held after more bytes step) where
        list : (B : Standing b.held) → B.records ≡ held.stands.standing.records ++ more
        list = list_after r after store may.attempt may.commits bytes of may.room a held (stands_new b (Ok tt) makes after more is) b made more is.newest (lie b (Ok tt) makes after more is) is.spelled

        phase : IsPhaseOf step.slot after store.collection
        phase = subst (IsPhaseOf step.slot after) collection is.tables.phase

        collects : (B : Standing b.held) → IfSome (entered store step).collection (Collects b step.slot B.records after)
        collects B = subst (λ (o : Option Collection). IfSome o (Collects b step.slot B.records after)) (sym collection)
            (collects_on store r after a b held (IsWritten step.slot.chunk store.slot.end (store.slot.end + length bytes)) makes.writes.only (λ file n of. unwritten step.slot.chunk store.slot.end (store.slot.end + length bytes) file n of) step.slot (ap (λ (s : Slot). s.horizon) may.slot)
            (let ends = ap (λ (s : Slot). s.end) may.slot in let some = may.some in omega (arith, ends, some))
            (let ends = ap (λ (s : Slot). s.end) may.slot in let small = may.room.ends in omega (arith, ends, small)) more is.lie phase is.rests B (list B))

        changes : Changes {A = Unit {0}} r after (Ok tt) (entered store step) a b
        changes = changed r after store may.attempt may.commits bytes of may.room a held (stands_new b (Ok tt) makes after more is) b made more is.newest (lie b (Ok tt) makes after more is) is.spelled
            (entered store step) may.slot refl (ap (λ (s : Slot). grown store.space s.end) may.slot) is.tables is.placed collects tt

        pub taken_took : Took {A = Unit {0}} (λ done. true) held after more (Ok tt) (entered store step) b
        taken_took = record {
          changes = changes;
          list = λ some q still. list still.stands.standing;
          clear = λ has. changed_clear store r a b held step.slot (entered store step).unswept (ap (λ (s : Slot). s.first_chunk) may.slot, ap (λ (s : Slot). s.first_attempt) may.slot) (entered_keeps step.entry store).unswept changes.only;
          fronts = fronts b (Ok tt) makes after more is;
          slots = slots b (Ok tt) makes;
          writes = writes b (Ok tt) makes after more is;
        }

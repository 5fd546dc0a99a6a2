-- What a crash leaves of a call that appends records, by the core of collections.
--     comes_still      an image with the bytes that were there comes of the core by a stop.      comes_on      one with records behind them, by an append and a stop
--     leaves_none      no moment has passed.      leaves_looked      no file was changed.      leaves_behind      a call behind one that only looked
--     leaves_step      a durable step.      slots_step      which slot is live behind it
use Rattle.std.proofs.Common.{◌≡◌, ◌⊎◌, inl, inr, ℕ, ◌-◌, ◌≤◌, List, [], ◌++◌, Option, Some, None, length, refl, sym, ◌∙◌, ap, subst, arith}
use Rattle.std.proofs.lemmas.Bool.{cases_lt}
use Rattle.std.proofs.lemmas.List.{map-append}
use Rattle.std.proofs.lemmas.List.Elements.{All-from_recursion}
use Rattle.std.specs.List.{AllByRecursion}
use Rattle.std.specs.Prelude.{All, Contains, IfSome, Result, is_some}
use Rattle.ip_base.specs.declared.limit.TheConstants.{OFFSET_MAX}
use Rattle.ip_ground.specs.declared.names.FileName.TheVariants.{Control}
use Rattle.ip_ground.specs.declared.names.GroundFault.{GroundFault}
use Rattle.ip_ground.specs.Contents.{Image}
use Rattle.ip_ground.specs.Told.{Told, KeepsPast, NoFile, ChangesOnly}
use Rattle.ip_spec.specs.declared.event.Event.{Event}
use Rattle.ip_spec.specs.declared.record.Record.{Record}
use Rattle.ip_spec.specs.Batch.{AreEndToEnd}
use Rattle.ip_spec.specs.Core.{Core, CorePhase, FollowOn, Stays, core_of, core_record, core_records, with_phase}
use Rattle.ip_spec.specs.Record.{Fits}
use Rattle.ip_spec.specs.Repository.{Repository}
use Rattle.ip_spec.specs.TreeAt.{Records}
use Rattle.ip_image.specs.declared.slot.Slot.{Slot}
use Rattle.ip_image.specs.Appending.{AddsBytes, SameGeneration, bytes_of_records}
use Rattle.ip_image.specs.Pending.{HasLive, SameSpace, NothingPending}
use Rattle.ip_image.specs.Standing.{Standing, StandsFor}
use Rattle.ip_image.proofs.CoreTies.{image_rises}
use Rattle.ip_image.proofs.PairLaws.{Has}
use Rattle.ip_image.proofs.RecordsOn.{records_go_on}
use Rattle.ip_image.proofs.StayingRecords.{In, refs_of}
use Rattle.ip_held.specs.declared.collection.Collection.{Collection}
use Rattle.ip_held.specs.declared.held.Held.{Held}
use Rattle.ip_held.specs.Collecting.{Collects}
use Rattle.ip_held.specs.Fronts.{ComesOf, LeavesFront, IsCoreIn}
use Rattle.ip_publish.specs.Publishing.{MakesStep}
use Rattle.ip_held.specs.Held.{IsOf, Holds, SameTables}
use Rattle.ip_held.specs.Slots.{KeepsSlots}
use Rattle.ip_held.specs.Tie.{CorePhaseOf, IsCoreOf, appending}
use Rattle.ip_held.proofs.BatchRests.{end_reached, follow_on}
use Rattle.ip_held.specs.Step.{RestsBy}
use Rattle.ip_held.proofs.CoreAppends.{core_seen, one_kept, sees_back, sees_still}
use Rattle.ip_held.proofs.LeftImages.{by_same}
use Rattle.ip_held.proofs.Listed.{newest, same_slot}
use Rattle.ip_held.specs.Step.{AreNewest}
use Rattle.ip_held.proofs.LookedUp.{space_between}
use Rattle.ip_held.proofs.NextSlot.{next_generation, next_is}
use Rattle.ip_held.specs.Step.{slot_behind, HasRoom}
use Rattle.ip_held.proofs.Recovering.{held_has, in_image}
use Rattle.ip_held.proofs.SlotLaws.{slots_stepped}
use Rattle.ip_held.proofs.Stepping.{images_at}
use Rattle.ip_held.specs.StandsBy.{StandsBy}

pub core_in : (records : Records) (horizon : ℕ) (image : Image) → StandsBy records horizon image → IsCoreIn image (core_of records horizon CorePhase.idle)
core_in records horizon image by = record { repository = by.repository; stands = by.stands; core_is = λ i. core_of (sym by.list i) (sym by.low i) CorePhase.idle }

module _ (store : Held) (image : Image) (A : Standing image) (core : Core) (is : IsCoreOf store A.records core) (other : Image) where
  abbrev pub stopped : Core
  stopped = core_of A.records store.slot.horizon CorePhase.idle

  -- a stop gives up what ran
  pub still_front : (events : List Event) → StandsBy A.records store.slot.horizon other → ComesOf core events other
  still_front events by = record {
    front = [];
    rest = events;
    all = refl;
    left = stopped;
    is = core_in A.records store.slot.horizon other by;
    run = (stopped, ap (λ (x : Core). with_phase x CorePhase.idle) (sym is.core_is), refl);
  }

-- ---- one image

module _ (store : Held) (r : Repository) (a : Told) (held : Holds store a r) where
  abbrev A : Standing a.held
  A = held.stands.standing

  has : HasLive store.slot a.held
  has = held_has store r a held

  pub comes_still : (image : Image) → HasLive store.slot image → SameSpace store.slot a.held image → (events : List Event) (core : Core) → IsCoreOf store A.records core → ComesOf core events image
  comes_still image live same events core is = still_front store a.held A core is image events (by_same a.held image store.slot r held.stands has live same)

  module _ (next : Slot) (generation : SameGeneration store.slot next) (more : Records) (lie : AreEndToEnd store.slot.end more next.end) (small : next.end ≤ OFFSET_MAX) (fit : All (λ (x : ℕ × Record). Fits next.version x.1) more)
      (rests : RestsBy held more store.collection) (image : Image) (live : HasLive next image) (adds : AddsBytes store.slot (bytes_of_records more) a.held image) (after : Repository) (stands : StandsFor image after) where
    abbrev B : Standing image
    B = stands.standing

    list : B.records ≡ A.records ++ more
    list = records_go_on a.held image store.slot next more A B has live generation lie fit adds

    follow : (phase : CorePhase) → ((x : ℕ × Record) → Has more x → (at : ℕ) → In (refs_of x.1) at → Stays phase at) → FollowOn (core_records A.records) phase (core_records more)
    follow phase stay = follow_on B.slot B.records (image_rises image B) B.good phase A.records more store.slot.end next.end (sym list) (end_reached a.held store.slot has A) lie small stay

    follows_by : (o : Option Collection) → RestsBy held more o → IfSome o (Collects a store.slot A.records r) → (phase : CorePhase) → CorePhaseOf A.records o phase → FollowOn (core_records A.records) phase (core_records more)
    follows_by None rest collects phase seen = subst (λ (p : CorePhase). FollowOn (core_records A.records) p (core_records more)) (sym seen) (follow CorePhase.idle (λ x has at ref. tt))
    follows_by (Some c) rest collects phase (kept, reached, seen) =
        let same : collects.kept ≡ kept = one_kept (core_records A.records) c.job.horizon c.job.end kept collects.kept reached collects.collectable.reached in
        subst (λ (p : CorePhase). FollowOn (core_records A.records) p (core_records more)) (sym seen) (follow (CorePhase.collecting c.job.horizon kept (is_some c.exit))
        (λ x has at ref. subst (λ (ks : List ℕ). (c.job.horizon ≤ at) ⊎ Contains ks at) same (rest c refl collects x has at ref)))

    pub comes_on : (core : Core) → IsCoreOf store A.records core → ComesOf core (appending more) image
    comes_on core is = record {
      front = appending more;
      rest = [];
      all = refl;
      left = core_of B.records B.slot.horizon CorePhase.idle;
      is = record { repository = after; stands = stands; core_is = refl };
      run = (
        record core { records = core.records ++ core_records more },
        (subst (λ (c : Core). FollowOn c.records c.phase (core_records more)) (sym is.core_is) (follows_by store.collection rests held.collects is.phase is.seen), refl),
        (core_of B.records B.slot.horizon CorePhase.idle, (λ i. record { records = cores i; horizon = low i; phase = CorePhase.idle }), refl),
      );
    }
      where
        cores : core_records B.records ≡ core.records ++ core_records more
        cores = ap core_records list ∙ map-append core_record A.records more ∙ ap (λ (c : Core). c.records ++ core_records more) (sym is.core_is)

        low : B.slot.horizon ≡ core.horizon
        low = ap (λ (s : Slot). s.horizon) (same_slot image next live B) ∙ generation.horizon ∙ ap (λ (c : Core). c.horizon) (sym is.core_is)

-- ---- calls that append nothing

pub leaves_none : (store : Held) (records : Records) (events : List Event) (a : Told) → LeavesFront store records events a a
leaves_none store records events a core is t late le = absurd (omega (arith, late, le))

module _ (store : Held) (r : Repository) (a : Told) (held : Holds store a r) (b : Told) (only : ChangesOnly NoFile a b) (pending : NothingPending a) (events : List Event) where
  pub leaves_looked : LeavesFront store held.stands.standing.records events a b
  leaves_looked core is t late le image possible =
      comes_still store r a held image live (space_between r store a held b only pending store.slot has t late le image possible) events core is
    where
      has : HasLive store.slot a.held
      has = held_has store r a held

      live : HasLive store.slot image
      live = record { control = has.control; index = has.index; held = held.kept (image Control) ((only.others Control (λ none. none)).left (λ x. x) t (image Control) late le (possible Control)) ∙ has.held; live = has.live }

  pub leaves_behind : (mid : Held) → SameTables store mid → (now : Holds mid b r) (c : Told) → KeepsPast b c → LeavesFront mid now.stands.standing.records events b c → LeavesFront store held.stands.standing.records events a c
  leaves_behind mid same now c goes next core is t late le image possible = elim (cases_lt b.moment t) [
    | inl after ↦ next core (core_seen mid store now.stands.standing.records held.stands.standing.records (sees_back store mid held.stands.standing.records now.stands.standing.records (sees_still store mid same a b only r r held now)) core is) t after le image possible
    | inr was ↦ leaves_looked core is t late was image (λ file. goes.left t file (image file) was (possible file))
  ]

-- ---- a durable step

module _ (r after : Repository) (store : Held) (attempt commits : ℕ) (bytes : List ℕ) (of : IsOf store r) (room : HasRoom store.slot attempt (length bytes) commits) (a : Told) (held : Holds store a r) where
  abbrev next : Slot
  next = slot_behind store.slot store.unswept attempt (length bytes) commits

  pub slots_step : (b : Told) (res : Result (Unit {0}) GroundFault) → MakesStep store.slot.end bytes (1 - store.index) next res a b → NothingPending a → KeepsSlots a b
  slots_step b res step pending =
      slots_stepped a b store.slot next (held_has store r a held) (record { sequence = refl; drawn = room.drawn; one = room.one })
      (λ t late le image possible. elim (images_at r after store attempt commits bytes of room a held b res step pending t late le image possible) [
        | inl old ↦ inl (in_image store.index store.slot image of.slot old.0)
        | inr new ↦ inr (in_image (1 - store.index) next image (next_is store.slot store.unswept attempt (length bytes) commits of.slot of.unswept room) new.0)
      ])

  module _ (stands_new : (image : Image) → HasLive next image → AddsBytes store.slot bytes a.held image → StandsFor image after) (more : Records) (fit : AreNewest more) (lie : AreEndToEnd store.slot.end more next.end) (spelled : bytes ≡ bytes_of_records more)
      (rests : RestsBy held more store.collection) where
    -- an image with the next slot live
    pub comes_stepped : (image : Image) → HasLive next image → AddsBytes store.slot bytes a.held image → (core : Core) → IsCoreOf store held.stands.standing.records core → ComesOf core (appending more) image
    comes_stepped image live adds =
        comes_on store r a held next (next_generation store.slot store.unswept attempt (length bytes) commits) more lie room.ends
        (All-from_recursion (λ (x : ℕ × Record). Fits next.version x.1) more (subst (λ (v : ℕ). AllByRecursion (λ (x : ℕ × Record). Fits v x.1) more) (sym (newest store.slot of.slot)) fit))
        rests image live (subst (λ (bs : List ℕ). AddsBytes store.slot bs a.held image) spelled adds) after (stands_new image live adds)

    pub leaves_step : (b : Told) (res : Result (Unit {0}) GroundFault) → MakesStep store.slot.end bytes (1 - store.index) next res a b → NothingPending a → LeavesFront store held.stands.standing.records (appending more) a b
    leaves_step b res step pending core is t late le image possible = elim (images_at r after store attempt commits bytes of room a held b res step pending t late le image possible) [
      | inl old ↦ comes_still store r a held image (in_image store.index store.slot image of.slot old.0) old.1 (appending more) core is
      | inr new ↦ comes_stepped image (in_image (1 - store.index) next image (next_is store.slot store.unswept attempt (length bytes) commits of.slot of.unswept room) new.0) new.1 core is
    ]

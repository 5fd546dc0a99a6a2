-- What the beginning of a collection does to the core.
--     started_tied      a table of the branches is appended, and a collection starts behind it.      refused_tied      nothing was done
use Rattle.std.proofs.Common.{◌≡◌, ℕ, ◌+◌, ◌-◌, ◌<◌, ◌≤◌, List, [], ◌∷◌, ◌++◌, Option, Some, None, length, refl, sym, ◌∙◌, ap, subst}
use Rattle.std.proofs.lemmas.List.{map-append}
use Rattle.std.specs.Prelude.{Err, Contains, IfSome, IsTrue}
use Rattle.ip_base.specs.declared.limit.TheConstants.{OFFSET_MAX}
use Rattle.ip_ground.specs.Contents.{Image}
use Rattle.ip_ground.specs.Told.{Told}
use Rattle.ip_spawn.specs.declared.job.Job.{Job}
use Rattle.ip_spec.specs.declared.event.CoreRecord.{CoreRecord}
use Rattle.ip_spec.specs.declared.event.Event.{Event}
use Rattle.ip_spec.specs.declared.event.Event.TheVariants as Event
use Rattle.ip_spec.specs.declared.record.Record.{Record}
use Rattle.ip_spec.specs.Core.{AreReached, Core, CorePhase, CoreRun, CoreStep, core_of, core_record, core_records, end_of}
use Rattle.ip_spec.specs.Record.{spelling}
use Rattle.ip_spec.specs.Repository.{Repository}
use Rattle.ip_spec.specs.TreeAt.{Records}
use Rattle.ip_spec.proofs.Spelling.{some_bytes}
use Rattle.ip_image.specs.declared.slot.Slot.{Slot}
use Rattle.ip_image.specs.Standing.{Standing}
use Rattle.ip_image.proofs.OneRepository.{all_records}
use Rattle.ip_image.proofs.StayingRecords.{has_in, in_contains, in_map, present_has}
use Rattle.ip_held.specs.declared.collection.Collection.{Collection}
use Rattle.ip_collects.specs.declared.starting.CollectFault.{CollectFault}
use Rattle.ip_held.specs.declared.held.Held.{Held}
use Rattle.ip_held.specs.Collecting.{Collects}
use Rattle.ip_collects.specs.Starting.{Begins, IsJobAt, RefusesStart, new_collection}
use Rattle.ip_held.specs.TableRecord.{table_of}
use Rattle.ip_held.specs.Held.{Holds}
use Rattle.ip_held.specs.Tie.{CorePhaseOf, IsCoreOf, IsTied, appending}
use Rattle.ip_collects.specs.CollectEvents.{begin_events, starting}
use Rattle.ip_held.proofs.BatchRests.{end_reached}
use Rattle.ip_held.proofs.CoreAppends.{tied_still}
use Rattle.ip_held.proofs.OneCore.{run_on}
use Rattle.ip_held.proofs.Recovering.{held_has}
use Rattle.ip_collects.proofs.Started.{place_within}

-- none runs in the core
idle_core : (store : Held) (records : Records) (core : Core) → store.collection ≡ None → IsCoreOf store records core → core ≡ core_of records store.slot.horizon CorePhase.idle
idle_core store records core none is = is.core_is ∙ ap (core_of records store.slot.horizon) (subst (λ (o : Option Collection). CorePhaseOf records o is.phase) none is.seen)

module _ (store now : Held) (a b : Told) (r q : Repository) (number : ℕ) (job : Job) (held : Holds store a r) (here : Holds now b q) (none : store.collection ≡ None) (at : IsJobAt store number now.slot job)
    (runs : now.collection ≡ Some (new_collection number job)) (small : store.slot.end + length (spelling (table_of r)) ≤ OFFSET_MAX) (begins : Begins r store now a b) where
  abbrev records : Records
  records = held.stands.standing.records

  abbrev table : ℕ × Record
  table = (store.slot.end, table_of r)

  abbrev horizon : ℕ
  horizon = store.slot.horizon

  abbrev behind : Core
  behind = record { records = core_records records ++ core_records (table ∷ []); horizon = horizon; phase = CorePhase.idle }

  -- the commit's record lies from the horizon on, so that there is one
  inside : (horizon ≤ job.horizon) × (job.horizon < store.slot.end)
  inside = place_within (λ at. (horizon ≤ at) × (at < store.slot.end)) store.places (number - store.slot.floor) job.horizon held.tables.within at.horizon

  ends : end_of (core_records records) ≡ store.slot.end
  ends = end_reached a.held store.slot (held_has store r a held) held.stands.standing

  low_now : now.slot.horizon ≡ horizon
  low_now = ap (λ (s : Slot). s.horizon) begins.slot

  list : here.stands.standing.records ≡ records ++ table ∷ []
  list = begins.records q held here

  cores : core_records here.stands.standing.records ≡ core_records records ++ core_records (table ∷ [])
  cores = ap core_records list ∙ map-append core_record records (table ∷ [])

  appends : (core : Core) → IsCoreOf store records core → CoreRun core (appending (table ∷ [])) behind
  appends core is = subst (λ (x : Core). CoreRun x (appending (table ∷ [])) behind) (sym (idle_core store records core none is))
      (behind, ((record { at = sym ends; some = some_bytes (table_of r); room = small; refs = tt }, tt), refl), refl)

  abbrev h : ℕ
  h = job.horizon

  collects : Collects b now.slot here.stands.standing.records q (new_collection number job)
  collects = subst (λ (o : Option Collection). IfSome o (Collects b now.slot here.stands.standing.records q)) runs here.collects

  commit_there : (x : CoreRecord) × Contains (core_records here.stands.standing.records) x × (x.at ≡ h) × IsTrue x.commit
  commit_there =
      let r' : ℕ × Record = (h, Record.Commit collects.collectable.commit) in (
        core_record r',
        in_contains (core_records here.stands.standing.records) (core_record r') (in_map core_record here.stands.standing.records r'
            (has_in here.stands.standing.records r' (present_has here.stands.standing.records h (Record.Commit collects.collectable.commit) collects.collectable.here))),
        refl,
        refl,
      )

  end_now : end_of (core_records here.stands.standing.records) ≡ job.end
  end_now = end_reached b.held now.slot (held_has now q b here) here.stands.standing ∙ sym at.end

  -- it starts behind the table
  starts : (core' : Core) → IsCoreOf now here.stands.standing.records core' → CoreStep behind (Event.Start h) core'
  starts core' is' =
      let (kept, are, phase) : CorePhaseOf here.stands.standing.records (Some (new_collection number job)) is'.phase = subst (λ (o : Option Collection). CorePhaseOf here.stands.standing.records o is'.phase) runs is'.seen in (
        refl,
        inside.0,
        subst (λ (cs : List CoreRecord). (x : CoreRecord) × Contains cs x × (x.at ≡ h) × IsTrue x.commit) cores commit_there,
        (
          kept,
          subst (λ (cs : List CoreRecord). AreReached cs h (end_of cs) kept) cores (subst (λ (n : ℕ). AreReached (core_records here.stands.standing.records) h n kept) (sym end_now) are),
          is'.core_is ∙ (λ i. record { records = cores i; horizon = low_now i; phase = phase i }),
        ),
      )

  started : IsTied store records now here.stands.standing.records (appending (table ∷ []) ++ Event.Start h ∷ [])
  started core core' is is' = run_on core behind core' (appending (table ∷ [])) (Event.Start h ∷ []) (appends core is) (core', starts core' is', refl)

  pub started_tied : IsTied store records now here.stands.standing.records (appending (table ∷ []) ++ starting now.collection)
  started_tied = subst (λ (o : Option Collection). IsTied store records now here.stands.standing.records (appending (table ∷ []) ++ starting o)) (sym runs) started

-- ---- nothing was done

no_event : (p : Repository) (number : ℕ) (store : Held) (fault : CollectFault) → RefusesStart p number store fault → (new : Records) (running : Option Collection) → [] ≡ begin_events new running (Err fault)
no_event p number store (CollectFault.Busy name) refuses new running = refl
no_event p number store (CollectFault.Held place) refuses new running = refl
no_event p number store (CollectFault.Limit limit) refuses new running = refl
no_event p number store CollectFault.Memory refuses new running = refl
no_event p number store CollectFault.Start refuses new running = absurd refuses
no_event p number store CollectFault.Ground refuses new running = absurd refuses

pub refused_tied : (p : Repository) (number : ℕ) (store : Held) (fault : CollectFault) → RefusesStart p number store fault → (image : Image) (A B : Standing image) (new : Records) → IsTied store A.records store B.records (begin_events new store.collection (Err fault))
refused_tied p number store fault refuses image A B new =
    subst (IsTied store A.records store B.records) (no_event p number store fault refuses new store.collection) (tied_still store store A.records B.records refl refl (sym (all_records image A B)))

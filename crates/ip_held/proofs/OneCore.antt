-- The core of what a store holds: there is one, and it is closed.
--     one_phase, one_core      there is one core at most
--     has_core      a store that holds a repository has one, and it is closed
--     reopened      a stop, and a store that was opened over the same files
--     run_on      one run behind another.      arrives      a run that comes to a core of a store comes to the only one
use Rattle.std.proofs.Common.{◌≡◌, ℕ, List, [], ◌∷◌, ◌++◌, Option, Some, None, refl, sym, ◌∙◌, ap, subst}
use Rattle.std.specs.Prelude.{IfSome, is_some}
use Rattle.ip_ground.specs.Contents.{Image}
use Rattle.ip_ground.specs.Told.{Told}
use Rattle.ip_spec.specs.declared.event.Event.{Event}
use Rattle.ip_spec.specs.Core.{Core, CorePhase, CoreRun, IsClosed, core_of, core_records, with_phase}
use Rattle.ip_spec.specs.Repository.{Repository}
use Rattle.ip_spec.specs.TreeAt.{Records}
use Rattle.ip_image.specs.declared.slot.Slot.{Slot}
use Rattle.ip_image.specs.Pending.{HasLive}
use Rattle.ip_image.specs.Standing.{Standing}
use Rattle.ip_image.proofs.CoreTies.{image_ordered, image_rises, records_closed}
use Rattle.ip_image.proofs.HeadlineLaws.{one_slot}
use Rattle.ip_image.proofs.OneRepository.{all_records}
use Rattle.ip_held.specs.declared.collection.Collection.{Collection}
use Rattle.ip_held.specs.declared.held.Held.{Held}
use Rattle.ip_held.specs.Collecting.{Collects}
use Rattle.ip_held.specs.Held.{Holds}
use Rattle.ip_held.specs.Tie.{CorePhaseOf, IsCoreOf, IsTied}
use Rattle.ip_held.proofs.CoreAppends.{one_kept}
use Rattle.ip_held.proofs.Recovering.{held_has}

-- ---- one core

pub one_phase : (records : Records) (running : Option Collection) (phase other : CorePhase) → CorePhaseOf records running phase → CorePhaseOf records running other → phase ≡ other
one_phase records None phase other is also = is ∙ sym also
one_phase records (Some c) phase other (kept, are, is) (ks, are', also) =
    is ∙ (ap (λ (xs : List ℕ). CorePhase.collecting c.job.horizon xs (is_some c.exit)) (one_kept (core_records records) c.job.horizon c.job.end ks kept are' are) ∙ sym also)

pub one_core : (store : Held) (records : Records) (core other : Core) → IsCoreOf store records core → IsCoreOf store records other → core ≡ other
one_core store records core other is also = is.core_is ∙ (ap (core_of records store.slot.horizon) (one_phase records store.collection is.phase also.phase is.seen also.seen) ∙ sym also.core_is)

module _ (store : Held) (told : Told) (r : Repository) (held : Holds store told r) where
  abbrev records : Records
  records = held.stands.standing.records

  by_collection : (running : Option Collection) → IfSome running (Collects told store.slot records r) → (phase : CorePhase) × CorePhaseOf records running phase × IsClosed (core_of records store.slot.horizon phase)
  by_collection None none =
      let A : Standing told.held = held.stands.standing in
      (CorePhase.idle, refl, records_closed A.slot A.records (image_rises told.held A) A.good store.slot.horizon A.slot.end (image_ordered told.held A))
  by_collection (Some c) collects = (CorePhase.collecting c.job.horizon collects.kept (is_some c.exit), (collects.kept, collects.collectable.reached, refl), collects.collectable.core)

  pub has_core : (core : Core) × IsCoreOf store records core × IsClosed core
  has_core = (let (phase, seen, closed) = by_collection store.collection held.collects in (core_of records store.slot.horizon phase, record { phase = phase; seen = seen; core_is = refl }, closed))

-- ---- a stop

-- over the same files a store that was opened anew has the same records, and no collection goes on
pub reopened : (store now : Held) (a b : Told) (r q : Repository) (held : Holds store a r) (here : Holds now b q) → b.held ≡ a.held → now.collection ≡ None → IsTied store held.stands.standing.records now here.stands.standing.records (Event.Crash ∷ [])
reopened store now a b r q held here same none core core' is is' = (core', is'.core_is ∙ ((λ i. core_of (list i) (low i) (idle i)) ∙ ap (λ (x : Core). with_phase x CorePhase.idle) (sym is.core_is)), refl)
  where
    idle : is'.phase ≡ CorePhase.idle
    idle = subst (λ (o : Option Collection). CorePhaseOf here.stands.standing.records o is'.phase) none is'.seen

    list : here.stands.standing.records ≡ held.stands.standing.records
    list = subst (λ (image : Image). (B : Standing image) → B.records ≡ held.stands.standing.records) (sym same) (λ B. sym (all_records a.held held.stands.standing B)) here.stands.standing

    low : now.slot.horizon ≡ store.slot.horizon
    low = ap (λ (s : Slot). s.horizon) (sym (one_slot store.slot now.slot a.held (held_has store r a held) (subst (HasLive now.slot) same (held_has now q b here))))

-- ---- runs

pub run_on : (core mid core' : Core) (events more : List Event) → CoreRun core events mid → CoreRun mid more core' → CoreRun core (events ++ more) core'
run_on core mid core' [] more is run = subst (λ (c : Core). CoreRun c more core') is run
run_on core mid core' (event ∷ events) more (next, step, rest) run = (next, step, run_on next mid core' events more rest run)

pub arrives : (store : Held) (records : Records) (core target core' : Core) (events : List Event) → IsCoreOf store records target → IsCoreOf store records core' → CoreRun core events target → CoreRun core events core'
arrives store records core target core' events there is run = subst (CoreRun core events) (one_core store records target core' there is) run

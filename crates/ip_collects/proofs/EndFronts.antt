-- What a crash leaves of the end of a collection, by the core of collections.
--     still_front      an image that stands by the same records comes of a stop alone.      swap_front      one behind the swap of the events with which a collection is accepted
--     still_fronts, none_fronts      so it is of a call that leaves the records, or that does nothing.      swap_fronts      and of one that may swap
--     finish_fronts      of one that looks whether a collection has ended, or finishes it
use Rattle.std.proofs.Common.{◌≡◌, inl, inr, ℕ, List, [], ◌∷◌, ◌++◌, Option, Some, None, refl, sym, ap, subst, arith, append-nil}
use Rattle.std.specs.Prelude.{Result}
use Rattle.ip_base.specs.declared.exit.Reaped.{Reaped}
use Rattle.ip_ground.specs.Contents.{Image}
use Rattle.ip_ground.specs.Told.{Told}
use Rattle.ip_spec.specs.declared.event.Event.{Event}
use Rattle.ip_spec.specs.declared.event.Event.TheVariants as Event
use Rattle.ip_spec.specs.declared.met.Child.{Child}
use Rattle.ip_spec.specs.declared.met.Child.TheVariants as Child
use Rattle.ip_spec.specs.declared.met.Met.{Met}
use Rattle.ip_spec.specs.Core.{Core, CorePhase, core_of}
use Rattle.ip_spec.specs.Repository.{Repository}
use Rattle.ip_spec.specs.TreeAt.{Records}
use Rattle.ip_image.specs.Collected.{remaining}
use Rattle.ip_image.specs.Standing.{Standing}
use Rattle.ip_held.specs.declared.collection.Collection.{Collection}
use Rattle.ip_collects.specs.declared.finishing.FinishFault.{FinishFault}
use Rattle.ip_collects.specs.declared.finishing.Looked.{Looked}
use Rattle.ip_held.specs.declared.held.Held.{Held}
use Rattle.ip_collects.specs.Ending.{Goes}
use Rattle.ip_collects.specs.Finishing.{IsQuiet}
use Rattle.ip_held.specs.Fronts.{ComesOf, LeavesFront}
use Rattle.ip_held.specs.StandsBy.{LeavesStill, LeavesSwapped, StandsSwapped}
use Rattle.ip_held.specs.Held.{Holds}
use Rattle.ip_held.specs.Tie.{IsCoreOf}
use Rattle.ip_collects.specs.CollectEvents.{ending}
use Rattle.ip_collects.proofs.EndTied.{accepts}
use Rattle.ip_held.proofs.OneCore.{run_on}
use Rattle.ip_held.proofs.Recovering.{held_has}
use Rattle.ip_held.proofs.StepFronts.{still_front, core_in}

module _ (store : Held) (image : Image) (A : Standing image) (core : Core) (is : IsCoreOf store A.records core) (other : Image) where
  module _ (c : Collection) (runs : store.collection ≡ Some c) where
    abbrev accepting : List Event
    accepting = ending store.collection ++ Event.Accept ∷ Event.Sweep ∷ []

    -- the store as the swap would leave it
    abbrev swapped : Held
    swapped = record store { collection = None; slot = record store.slot { horizon = c.job.horizon } }

    swap_front : StandsSwapped A.records c other → ComesOf core (ending store.collection ++ Event.Accept ∷ Event.Sweep ∷ []) other
    swap_front (kept, each, by) =
        let records : Records = remaining c.job.horizon kept A.records in
        let left : Core = core_of records c.job.horizon CorePhase.idle in
        record {
          front = accepting;
          rest = [];
          all = append-nil accepting;
          left = left;
          is = core_in records c.job.horizon other by;
          run = run_on core left left accepting (Event.Crash ∷ [])
              (accepts store c runs image A core is swapped records left (record { phase = CorePhase.idle; seen = refl; core_is = refl }) refl refl kept each refl)
              (left, refl, refl);
        }

-- ---- the calls

module _ (store : Held) (r : Repository) (a : Told) (held : Holds store a r) (b : Told) where
  abbrev records : Records
  records = held.stands.standing.records

  pub still_fronts : (events : List Event) → LeavesStill held.stands.standing.records a b → LeavesFront store held.stands.standing.records events a b
  still_fronts events still core is t after le image possible = still_front store a.held held.stands.standing core is image events (still store.slot (held_has store r a held) t after le image possible)

  pub none_fronts : (events : List Event) → b ≡ a → LeavesFront store held.stands.standing.records events a b
  none_fronts events same core is t after le image possible = (let now = ap (λ (x : Told). x.moment) same in absurd (omega (arith, after, le, now)))

  swap_fronts : (c : Collection) → store.collection ≡ Some c → LeavesSwapped records c a b → LeavesFront store records (ending store.collection ++ Event.Accept ∷ Event.Sweep ∷ []) a b
  swap_fronts c runs leaves core is t after le image possible = elim (leaves store.slot (held_has store r a held) t after le image possible) [
    | inl by ↦ still_front store a.held held.stands.standing core is image (ending store.collection ++ Event.Accept ∷ Event.Sweep ∷ []) by
    | inr by ↦ swap_front store a.held held.stands.standing core is image c runs by
  ]

  -- whatever was heard
  module _ (child : Child) (most : ℕ) (result : Result Looked FinishFault) (met : Met) (now : Held) (goes : Goes child most result met store now) (quiet : IsQuiet result → b ≡ a) where
    pub finish_fronts : ((c : Collection) (reaped : Reaped) → store.collection ≡ Some c → child ≡ Child.Ended reaped → LeavesSwapped held.stands.standing.records c a b)
        → LeavesFront store held.stands.standing.records (ending store.collection ++ Event.Accept ∷ Event.Sweep ∷ []) a b
    finish_fronts loud = elim goes.ended [
      | inl is ↦ none_fronts (ending store.collection ++ Event.Accept ∷ Event.Sweep ∷ []) (quiet is)
      | inr it ↦ by store.collection refl it
    ]
      where
        by : (o : Option Collection) → store.collection ≡ o → (reaped : Reaped) × (child ≡ Child.Ended reaped) → LeavesFront store records (ending store.collection ++ Event.Accept ∷ Event.Sweep ∷ []) a b
        by None none it = none_fronts (ending store.collection ++ Event.Accept ∷ Event.Sweep ∷ []) (quiet (subst IsQuiet (sym (goes.runs.0 none)) tt))
        by (Some c) runs it = swap_fronts c runs (loud c it.0 runs it.1)

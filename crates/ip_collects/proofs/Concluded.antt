-- What is promised of the end of a collection, put together of what was heard of its child and of what came of that.
--     asked_by      a finish waits, and makes the whole check.      concludes_as      all that is promised
use Rattle.std.proofs.Common.{◌≡◌, ◌≢◌, ℕ, Bool, true, false, Some, refl}
use Rattle.std.specs.Prelude.{Result, IsErrOf, IsTrue}
use Rattle.ip_base.specs.declared.exit.Reaped.{Reaped}
use Rattle.ip_ground.specs.Told.{Told, NoFile}
use Rattle.ip_spec.specs.declared.command.Command.{Command}
use Rattle.ip_spec.specs.declared.met.Child.{Child}
use Rattle.ip_spec.specs.declared.met.Met.{Met}
use Rattle.ip_spec.specs.Repository.{Repository}
use Rattle.ip_held.specs.declared.collection.Collection.{Collection}
use Rattle.ip_held.specs.declared.held.Held.{Held}
use Rattle.ip_held.specs.Held.{Holds, OwnsPair}
use Rattle.ip_held.specs.Sweeping.{EndsFor}
use Rattle.ip_collects.specs.declared.finishing.FinishFault.{FinishFault}
use Rattle.ip_collects.specs.declared.finishing.Looked.{Looked}
use Rattle.ip_collects.specs.Concluding.{ConcludesAs, asking, most_of}
use Rattle.ip_collects.specs.Ending.{Goes}
use Rattle.ip_collects.specs.Finishing.{FinishesBy, HasAnswer, IsAsked, IsAccepted, IsQuiet, IsUndamaged, LooksWithin, WorksStay, met_by_finish}
use Rattle.ip_collects.specs.Judging.{IsBlamedIn, IsDamagedIn}
use Rattle.ip_collects.proofs.ClearEnds.{finish_clear}
use Rattle.ip_collects.proofs.EndFronts.{finish_fronts}
use Rattle.ip_collects.proofs.EndTied.{finish_tied, finishes_leaves, quiet_list}

asked_by : (wait : Bool) (child : Child) (result : Result Looked FinishFault) (met : Met) (store now : Held) → Goes child (most_of wait) result met store now → (wait ≡ true → child ≢ Child.Running) → IsAsked (asking wait) result
asked_by true child result met store now goes ended = (goes.running (ended refl), goes.whole refl)
asked_by false child result met store now goes ended = tt

module _ (tells wait : Bool) (child : Child) (result : Result Looked FinishFault) (left : ℕ) (store now : Held) (a b : Told)
    (goes : Goes child (most_of wait) result (met_by_finish child result left) store now) (ended : wait ≡ true → child ≢ Child.Running) (quiet : IsQuiet result → b ≡ a)
    (moments : IsTrue tells → (r : Repository) (held : Holds store a r) (c : Collection) (reaped : Reaped) → store.collection ≡ Some c → child ≡ Child.Ended reaped → (command : Command) → IsAsked command result → FinishesBy held.stands.standing.records r c command result store.unswept (met_by_finish child result left) now a b)
    (bounded : IsTrue tells → (r : Repository) (held : Holds store a r) (c : Collection) → store.collection ≡ Some c → IsAccepted result → LooksWithin (most_of wait) held.stands.standing.records c)
    (undamaged : IsTrue tells → (r : Repository) → Holds store a r → IsUndamaged result)
    (untouched : IsTrue tells → ¬ IsUndamaged result → (c : Collection) → store.collection ≡ Some c → EndsFor c.job.attempt NoFile a b)
    (blames : (at : ℕ) → IsErrOf result (FinishFault.Damaged at) → IsBlamedIn now.collection at)
    (broken : IsTrue tells → OwnsPair a store.slot → (at : ℕ) → IsErrOf result (FinishFault.Damaged at) → IsDamagedIn b now.collection at)
    (works : IsTrue tells → HasAnswer result → (r q : Repository) (held : Holds store a r) (still : Holds now b q) → WorksStay held still) where
  abbrev met : Met
  met = met_by_finish child result left

  asked : IsAsked (asking wait) result
  asked = asked_by wait child result met store now goes ended

  finishes : IsTrue tells → (r : Repository) (held : Holds store a r) (c : Collection) (reaped : Reaped) → store.collection ≡ Some c → child ≡ Child.Ended reaped → FinishesBy held.stands.standing.records r c (asking wait) result store.unswept met now a b
  finishes told r held c reaped runs is = moments told r held c reaped runs is (asking wait) asked

  pub concludes_as : ConcludesAs tells wait result (met_by_finish child result left) store now a b
  concludes_as = record {
    goes = goes;
    answered = λ r of. goes.answered r of (asking wait) asked;
    asked = asked;
    any_moment = finishes;
    bounded = bounded;
    undamaged = undamaged;
    untouched = untouched;
    blames = blames;
    broken = broken;
    works_stay = works;
    clear = λ told has r held. finish_clear child (most_of wait) result met store now goes r a b held quiet (λ c reaped runs is. (_, (finishes told r held c reaped runs is).does)) has;
    tied = λ told has r q held still. finish_tied child (most_of wait) met store now a.held held.stands.standing still.stands.standing.records result (record {
      goes = goes;
      quiet = λ is. quiet_list a b held.stands.standing (quiet is) still.stands.standing;
      loud = λ c reaped runs is. finishes_leaves r q c (asking wait) result store.unswept met now a b held.stands.standing.records still (finishes told r held c reaped runs is);
    }) has;
    fronts = λ told r held pending. finish_fronts store r a held b child (most_of wait) result met now goes quiet (λ c reaped runs is. (finishes told r held c reaped runs is).leaves pending);
  }

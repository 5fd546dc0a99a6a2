-- All that is promised of a collection that is cancelled, by each way out.
--     idle_cancels      none runs.      orphan_cancels      its child could not be killed.      cut_cancels      its attempt could not be settled.      done_cancels      it was, and files were removed
use Rattle.std.proofs.Common.{◌≡◌, ℕ, true, [], ◌∷◌, List, Option, Some, None, refl, sym, ◌∙◌, subst}
use Rattle.std.specs.Prelude.{Bool, Result, Ok, Err, IsTrue}
use Rattle.ip_ground.specs.declared.names.GroundFault.{GroundFault}
use Rattle.ip_ground.specs.Calls.{Settles}
use Rattle.ip_ground.specs.Told.{Told}
use Rattle.ip_spec.specs.declared.event.Event.{Event}
use Rattle.ip_spec.specs.declared.event.Event.TheVariants as Event
use Rattle.ip_image.proofs.OneRepository.{all_records}
use Rattle.ip_collects.specs.declared.cancelling.CancelFault.{CancelFault}
use Rattle.ip_collects.specs.declared.cancelling.Cancelled.{Cancelled}
use Rattle.ip_held.specs.declared.collection.Collection.{Collection}
use Rattle.ip_held.specs.declared.held.Held.{Held}
use Rattle.ip_held.specs.Answers.{met_nothing}
use Rattle.ip_held.specs.Sweeping.{IsSwept, SweepsFiles}
use Rattle.ip_collects.specs.Cancelling.{CancelsCollecting}
use Rattle.ip_held.proofs.CoreAppends.{tied_still}
use Rattle.ip_collects.proofs.Cancels.{over, ending, unswept_now, idle_answers, orphan_answers, done_answers, orphan_left, orphan_stays, cut_off, cut_leaves, swept_away, swept_leaves, swept_list, swept_stays}
use Rattle.ip_collects.proofs.ClearBegun.{cancel_clear}
use Rattle.ip_collects.proofs.EndFronts.{none_fronts, still_fronts}
use Rattle.ip_collects.proofs.EndTied.{cancel_tied}

abbrev events : List Event
events = Event.Cancel ∷ Event.Sweep ∷ []

-- whatever says that none runs then
module _ (tells : Bool) (store : Held) (a : Told) (o : Option Collection) (gone : o ≡ None) where
  pub idle_cancels : store.collection ≡ None → CancelsCollecting tells (Err CancelFault.Idle) met_nothing store (ending store o store.unswept) a a
  idle_cancels none = subst (λ (p : Option Collection). CancelsCollecting tells (Err CancelFault.Idle) met_nothing store (ending store p store.unswept) a a) (sym gone) (record {
    answered = λ r of. idle_answers store r of none;
    told = (0, refl);
    runs = (λ is. refl, λ is. none);
    unswept = refl;
    same = refl;
    any_moment = λ told r held c some. (let both = sym none ∙ some in absurd (cc (both)));
    stay = λ told ok. absurd (cc (ok));
    clear = λ told answered r held. (λ clear. clear, λ done. absurd (cc (done)));
    tied = λ told answered r q held now. tied_still store (over store store.unswept) held.stands.standing.records now.stands.standing.records (sym none) refl (sym (all_records a.held held.stands.standing now.stands.standing));
    fronts = λ told r held pending. none_fronts store r a held a events refl;
  })

  module _ (c : Collection) (runs : store.collection ≡ Some c) where
    some_runs : store.collection ≡ None → ⊥
    some_runs none = (let both = sym none ∙ runs in absurd (cc (both)))

    pub orphan_cancels : c.exit ≡ None → CancelsCollecting tells (Ok Cancelled.Orphan) (record met_nothing { kill_failed = true }) store (ending store o store.unswept) a a
    orphan_cancels exit = subst (λ (p : Option Collection). CancelsCollecting tells (Ok Cancelled.Orphan) (record met_nothing { kill_failed = true }) store (ending store p store.unswept) a a) (sym gone) (record {
      answered = λ r of. orphan_answers store r of c runs exit;
      told = (0, refl);
      runs = (λ none. absurd (some_runs none), λ is. absurd (cc (is)));
      unswept = refl;
      same = refl;
      any_moment = λ told r held x here. orphan_left store r a held x here;
      stay = λ told ok r q held now. orphan_stays store r a held c runs (over store store.unswept) q now;
      clear = λ told answered r held. (λ clear. clear, λ done. absurd (cc (done)));
      tied = λ told answered r q held now. cancel_tied store (over store store.unswept) c runs refl refl a.held held.stands.standing now.stands.standing.records (sym (all_records a.held held.stands.standing now.stands.standing)) (Ok Cancelled.Orphan) refl;
      fronts = λ told r held pending. none_fronts store r a held a events refl;
    })

    -- it is the one of whoever says so
    same : (x : Collection) → store.collection ≡ Some x → c ≡ x
    same x here = cc (runs, here)

    pub cut_cancels : (e : GroundFault) (b : Told) → (IsTrue tells → Settles c.job.attempt (Err e) a b) → CancelsCollecting tells (Err CancelFault.Ground) met_nothing store (ending store o store.unswept) a b
    cut_cancels e b settles = subst (λ (p : Option Collection). CancelsCollecting tells (Err CancelFault.Ground) met_nothing store (ending store p store.unswept) a b) (sym gone) (record {
      answered = λ r of. tt;
      told = (0, refl);
      runs = (λ none. absurd (some_runs none), λ is. absurd (cc (is)));
      unswept = refl;
      same = refl;
      any_moment = λ told r held x here. cut_off store r a held x here e b (subst (λ (y : Collection). Settles y.job.attempt (Err e) a b) (same x here) (settles told));
      stay = λ told ok. absurd (cc (ok));
      clear = λ told answered. absurd (answered refl);
      tied = λ told answered. absurd (answered refl);
      fronts = λ told r held pending. still_fronts store r a held b events (cut_leaves store r a held c runs e b (settles told) pending);
    })

    pub done_cancels : (left : ℕ) (b d : Told) → (IsTrue tells → Settles c.job.attempt (Ok tt) a b) → (IsTrue tells → SweepsFiles (IsSwept store.slot store.unswept) left b d) → (now : Held) → now ≡ ending store o (unswept_now store left)
        → CancelsCollecting tells (Ok Cancelled.Done) (record met_nothing { left = left }) store now a d
    done_cancels left b d settles sweeps now is =
        subst (λ (s : Held). CancelsCollecting tells (Ok Cancelled.Done) (record met_nothing { left = left }) store s a d) (sym is)
        (subst (λ (p : Option Collection). CancelsCollecting tells (Ok Cancelled.Done) (record met_nothing { left = left }) store (ending store p (unswept_now store left)) a d) (sym gone) (record {
          answered = λ r of. done_answers store r of c runs left;
          told = (left, refl);
          runs = (λ none. absurd (some_runs none), λ is. absurd (cc (is)));
          unswept = refl;
          same = refl;
          any_moment = λ told r held x here. swept_away store r a held x here left b d (subst (λ (y : Collection). Settles y.job.attempt (Ok tt) a b) (same x here) (settles told)) (sweeps told);
          stay = λ told ok r q held now. swept_stays store r a held c runs left b d (settles told) (sweeps told) (over store (unswept_now store left)) q now;
          clear = λ told answered r held.
              cancel_clear store (over store (unswept_now store left)) r c a d held runs (◌≡◌ {A = Result Cancelled CancelFault} (Ok Cancelled.Done) (Ok Cancelled.Done)) left (swept_away store r a held c runs left b d (settles told) (sweeps told)) refl refl;
          tied = λ told answered r q held now.
              cancel_tied store (over store (unswept_now store left)) c runs refl refl a.held held.stands.standing now.stands.standing.records
              (swept_list store r a held c runs left b d (settles told) (sweeps told) (over store (unswept_now store left)) q now) (Ok Cancelled.Done) refl;
          fronts = λ told r held pending. still_fronts store r a held d events (swept_leaves store r a held c runs left b d (settles told) (sweeps told) pending);
        }))

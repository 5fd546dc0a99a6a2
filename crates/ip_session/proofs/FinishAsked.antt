-- What a look and a finish ask of the spawner, what is counted meanwhile, and all that the session does then.
--     Sees child end ran failed      what was answered of a child: how it ended, whether it runs, and whether the call failed.      seen_so, reaped_so      so by a look and by a wait
--     Answered c      the child of a collection was asked.      finish_asked      what the command asks
--     finish_counts, finish_quiet      what was counted.      finish_ends      how the session may end.      finish_still      and what has changed where it ends by damage
--     Knows a b before store command looked r held      what the store says besides where the ground tells what it holds.      finish_ran      all that the session does
use Rattle.std.proofs.Common.{◌≡◌, ◌≢◌, ◌⊎◌, inl, inr, ℕ, zero, suc, ◌+◌, ◌-◌, ◌^◌, ◌<◌, ◌≤◌, ◌++◌, Bool, true, false, List, [], ◌∷◌, refl, sym, ap, ◌∙◌, subst, arith, Option, Some, None, Ok, Err, IsTrue, append-nil}
use Rattle.std.specs.Prelude.{◌↔◌, Result, IfOk, IfErr, IfSome, IsErr, IsErrOf, IsSomeAnd, is_some, is_ok, is_err, option_map}
use Rattle.ip_base.specs.declared.exit.Reaped.{Reaped}
use Rattle.ip_ground.specs.Counts.{Noted, CountsLeft}
use Rattle.ip_ground.specs.Contents.{Image}
use Rattle.ip_ground.specs.Told.{Told, NoFile, IsSettledAs}
use Rattle.ip_spawn.specs.Children.{told_after, end_seen, end_reaped, is_running}
use Rattle.ip_spawn.specs.Children as spawn
use Rattle.ip_spawn.specs.Counts as spawned
use Rattle.ip_spawn.specs.declared.spawner.Look.{Look}
use Rattle.ip_spawn.specs.declared.spawner.SpawnCounts.{SpawnCounts}
use Rattle.ip_spawn.specs.declared.spawner.SpawnFault.{SpawnFault}
use Rattle.ip_spec.specs.declared.command.Command.{Command}
use Rattle.ip_spec.specs.declared.met.Child.{Child}
use Rattle.ip_spec.specs.declared.met.Met.{Met}
use Rattle.ip_spec.specs.declared.reply.Reply.{Reply}
use Rattle.ip_spec.specs.Machine.{Phase, empty_work}
use Rattle.ip_spec.specs.Path.{Bytes}
use Rattle.ip_spec.specs.Repository.{Repository}
use Rattle.ip_spec.specs.Step.{MayHear}
use Rattle.ip_spec.specs.Step as Machine
use Rattle.ip_held.specs.declared.collection.Collection.{Collection}
use Rattle.ip_collects.specs.declared.finishing.FinishFault.{FinishFault}
use Rattle.ip_collects.specs.declared.finishing.Looked.{Looked}
use Rattle.ip_collects.specs.declared.finishing.Rejection.{Rejection}
use Rattle.ip_held.specs.declared.held.Held.{Held}
use Rattle.ip_held.specs.Clear.{KeepsClear, ClearsAll}
use Rattle.ip_held.specs.Collecting.{child_of, phase_of, IsPhaseOf}
use Rattle.ip_collects.specs.Finishing.{LookReplies, child_seen, child_reaped, CountsFinish, FinishesBy, HasAnswer, IsAccepted, IsKept, IsOver, IsQuiet, IsSliced, IsSweptBehind, IsUndamaged, KeepsCollection, LooksWithin, Slices, WorksStay, looked_at, checking_in, refused_in, short_in}
use Rattle.ip_held.specs.Held.{IsOf, Holds, image_records}
use Rattle.ip_held.specs.Sweeping.{EndsFor}
use Rattle.ip_collects.proofs.FinishTurns.{IsEnding}
use Rattle.ip_session.specs.declared.session.Session.{Session}
use Rattle.ip_session.specs.declared.session.SessionEnd.{SessionEnd}
use Rattle.ip_session.specs.Asking.{HasStarted, HeardOf, AsksNoGround, IsUnanswered, GoesOnBy, IsBoundedIn, IsSlicedIn, QuietIfLong, looked_in, looks}
use Rattle.ip_session.specs.Running.{IsKnown, Ran}
use Rattle.ip_session.specs.Session.{unasked, ChangesBy, CountsBy, EndsBy, IsLong, IsServing, MetDamage, StillBy}
use Rattle.ip_session.specs.Starting.{look_answer}
use Rattle.ip_session.proofs.Asking.{AskedSo, CutsSo, nothing_asked, goes_itself, none_added, never_failed, none_left}
use Rattle.ip_session.proofs.ClearGoes.{finish_clear, Remains, Settles}
use Rattle.ip_session.proofs.Wanted.{look_wants}
use Rattle.ip_session.proofs.FinishGoes.{Says, by_end, concluded, may_reap, finish_serves, finish_goes, finish_cuts, finish_placed}
use Rattle.ip_store.specs.declared.store.Store.{Store}

-- ---- what was answered

abbrev pub Sees : Child → Option Reaped → Bool → Bool → Type 0
Sees Child.NotAsked end ran failed = ⊥
Sees Child.Running end ran failed = (end ≡ None) × (ran ≡ true) × (failed ≡ false)
Sees Child.Fault end ran failed = (end ≡ None) × (ran ≡ false) × (failed ≡ true)
Sees (Child.Ended reaped) end ran failed = (end ≡ Some reaped) × (ran ≡ false) × (failed ≡ false)

pub seen_so : (answer : Result Look SpawnFault) → Sees (child_seen answer) (end_seen answer) (is_running answer) (is_err answer)
seen_so (Ok Look.Running) = (refl, refl, refl)
seen_so (Ok (Look.Ended reaped)) = (refl, refl, refl)
seen_so (Err fault) = (refl, refl, refl)

pub reaped_so : (answer : Result Reaped SpawnFault) → Sees (child_reaped answer) (end_reaped answer) false (is_err answer)
reaped_so (Ok reaped) = (refl, refl, refl)
reaped_so (Err fault) = (refl, refl, refl)

pub reaps_so : (answer : Result Reaped SpawnFault) → is_ok answer ≡ is_some (end_reaped answer)
reaps_so (Ok reaped) = refl
reaps_so (Err fault) = refl

-- ---- what is asked

never_started : (looked : Result Looked FinishFault) → ¬ HasStarted (look_answer looked)
never_started (Ok Looked.Running) has = has
never_started (Ok (Looked.Checking left)) has = has
never_started (Ok (Looked.Collected collected)) has = has
never_started (Err FinishFault.Idle) has = has
never_started (Err FinishFault.Wait) has = has
never_started (Err (FinishFault.Rejected (Rejection.Exit exit))) has = has
never_started (Err (FinishFault.Rejected (Rejection.Differs difference))) has = has
never_started (Err (FinishFault.Limit limit)) has = has
never_started (Err FinishFault.Memory) has = has
never_started (Err FinishFault.Ground) has = has
never_started (Err (FinishFault.Damaged at)) has = has

never_over : (looked : Result Looked FinishFault) → look_answer looked ≢ Ok Reply.Cancelled
never_over (Ok Looked.Running) is = absurd (cc is)
never_over (Ok (Looked.Checking left)) is = absurd (cc is)
never_over (Ok (Looked.Collected collected)) is = absurd (cc is)
never_over (Err FinishFault.Idle) is = absurd (cc is)
never_over (Err FinishFault.Wait) is = absurd (cc is)
never_over (Err (FinishFault.Rejected (Rejection.Exit exit))) is = absurd (cc is)
never_over (Err (FinishFault.Rejected (Rejection.Differs difference))) is = absurd (cc is)
never_over (Err (FinishFault.Limit limit)) is = absurd (cc is)
never_over (Err FinishFault.Memory) is = absurd (cc is)
never_over (Err FinishFault.Ground) is = absurd (cc is)
never_over (Err (FinishFault.Damaged at)) is = absurd (cc is)

not_ran : (child : Child) (end : Option Reaped) (ran failed : Bool) → Sees child end ran failed → child ≢ Child.Running → ran ≡ false
not_ran Child.NotAsked end ran failed sees not = absurd sees
not_ran Child.Running end ran failed sees not = absurd (not refl)
not_ran Child.Fault end ran failed sees not = sees.1
not_ran (Child.Ended reaped) end ran failed sees not = sees.1

not_failed : (child : Child) (end : Option Reaped) (ran failed : Bool) → Sees child end ran failed → child ≢ Child.Fault → failed ≡ false
not_failed Child.NotAsked end ran failed sees not = absurd sees
not_failed Child.Running end ran failed sees not = sees.2
not_failed Child.Fault end ran failed sees not = absurd (not refl)
not_failed (Child.Ended reaped) end ran failed sees not = sees.2

counted_or : (b : Bool) (old new : ℕ) → new ≡ spawned.counted b old → (new ≡ old) ⊎ (new ≡ spawned.counted true old)
counted_or false old new is = inl is
counted_or true old new is = inr is

-- one that was cut short was followed by no sweep
cut_unswept : (looked : Result Looked FinishFault) → IsErr (look_answer looked) → ¬ IsSweptBehind looked
cut_unswept (Ok Looked.Running) failed swept = swept
cut_unswept (Ok (Looked.Checking left)) failed swept = swept
cut_unswept (Ok (Looked.Collected collected)) failed swept = absurd (cc failed)
cut_unswept (Err (FinishFault.Rejected (Rejection.Exit exit))) failed swept = absurd (cc failed)
cut_unswept (Err (FinishFault.Rejected (Rejection.Differs difference))) failed swept = absurd (cc failed)
cut_unswept (Err FinishFault.Idle) failed swept = swept
cut_unswept (Err FinishFault.Wait) failed swept = swept
cut_unswept (Err (FinishFault.Limit limit)) failed swept = swept
cut_unswept (Err FinishFault.Memory) failed swept = swept
cut_unswept (Err FinishFault.Ground) failed swept = swept
cut_unswept (Err (FinishFault.Damaged at)) failed swept = swept

-- of all that has no answer a fault of the ground and damage alone are left
cut_bare : (looked : Result Looked FinishFault) → IsErr (look_answer looked) → (refused_in looked ≡ false) × (short_in looked ≡ None) × (checking_in looked ≡ None)
cut_bare (Ok Looked.Running) failed = absurd (cc failed)
cut_bare (Ok (Looked.Checking left)) failed = absurd (cc failed)
cut_bare (Ok (Looked.Collected collected)) failed = absurd (cc failed)
cut_bare (Err (FinishFault.Rejected (Rejection.Exit exit))) failed = absurd (cc failed)
cut_bare (Err (FinishFault.Rejected (Rejection.Differs difference))) failed = absurd (cc failed)
cut_bare (Err FinishFault.Idle) failed = absurd (cc failed)
cut_bare (Err FinishFault.Wait) failed = absurd (cc failed)
cut_bare (Err (FinishFault.Limit limit)) failed = absurd (cc failed)
cut_bare (Err FinishFault.Memory) failed = absurd (cc failed)
cut_bare (Err FinishFault.Ground) failed = (refl, refl, refl)
cut_bare (Err (FinishFault.Damaged at)) failed = (refl, refl, refl)

reaches : (command : Command) → IsEnding command → ¬ AsksNoGround command
reaches Command.Look is none = none
reaches Command.Finish is none = none
reaches _ is none = absurd is

ended_alike : (one other : Reaped) → ◌≡◌ {A = Child} (Child.Ended one) (Child.Ended other) → one ≡ other
ended_alike one other is = cc is

none_heard : (command : Command) → IsEnding command → (child : Child) → MayHear Phase.Idle command child → child ≡ Child.NotAsked
none_heard Command.Look is child may = may
none_heard Command.Finish is child may = may
none_heard _ is child may = absurd is

module _ (tells : Bool) (dir : Bytes) (x y : spawn.Told) (s : Session) (store : Store) (met : Met) (command : Command) (ending : IsEnding command) (looked : Result Looked FinishFault) (is_met : met ≡ store.met) (says : Says s store command looked) (m n : SpawnCounts) where
  abbrev after_it : Session
  after_it = record s { store = store; met = met }

  abbrev Asks : Type 0
  Asks = AskedSo tells dir x y s after_it command (look_answer looked) m n

  no_start : met.start_failed ≡ false
  no_start = ap (λ (k : Met). k.start_failed) (is_met ∙ says.goes.told)

  no_kill : met.kill_failed ≡ false
  no_kill = ap (λ (k : Met). k.kill_failed) (is_met ∙ says.goes.told)

  none_left_so : ¬ IsSweptBehind looked → met.left ≡ 0
  none_left_so unswept = ap (λ (k : Met). k.left) is_met ∙ says.goes.none unswept

  cut_short : IsErr (look_answer looked) → (met.start_failed ≡ false) × (met.kill_failed ≡ false) × (met.left ≡ 0)
  cut_short failed = (no_start, no_kill, none_left_so (cut_unswept looked failed))

  cuts : CutsSo after_it command (look_answer looked)
  cuts failed = (subst IsUnanswered (sym (is_met ∙ says.goes.told)) (cut_bare looked failed), reaches command ending)

  child_is : met.child ≡ store.met.child
  child_is = ap (λ (k : Met). k.child) is_met

  -- nothing was done, or it is over, or it goes on
  each_end : (P : Option Collection → Type 0) → P s.store.held.collection → P None → ((c : Collection) (reaped : Reaped) → s.store.held.collection ≡ Some c → store.met.child ≡ Child.Ended reaped → KeepsCollection says.most c reaped store.held.collection → P store.held.collection)
      → IfOk (look_answer looked) (λ reply. P store.held.collection)
  each_end P same over going = by looked refl
    where
      stays : (x : Result Looked FinishFault) → looked ≡ x → IsQuiet x → P store.held.collection
      stays x is quiet = subst P (sym (ap (λ (k : Held). k.collection) (says.goes.quiet (subst IsQuiet (sym is) quiet)))) same

      ends : (x : Result Looked FinishFault) → looked ≡ x → IsOver x → P store.held.collection
      ends x is ended = subst P (sym (says.goes.over (subst IsOver (sym is) ended))) over

      kept : IsKept looked → (looked ≢ Err FinishFault.Idle) → ¬ IsQuiet looked → P store.held.collection
      kept is not loud = run s.store.held.collection refl
        where
          run : (o : Option Collection) → s.store.held.collection ≡ o → P store.held.collection
          run None none = absurd (not (says.goes.runs.0 none))
          run (Some c) runs = elim says.goes.ended [ inl quiet ↦ absurd (loud quiet) | inr heard ↦ going c heard.0 runs heard.1 (says.goes.goes_on is c heard.0 runs heard.1) ]

      by : (x : Result Looked FinishFault) → looked ≡ x → IfOk (look_answer x) (λ reply. P store.held.collection)
      by (Ok Looked.Running) is = stays (Ok Looked.Running) is tt
      by (Ok (Looked.Checking left)) is = kept (subst IsKept (sym is) tt) (λ e. absurd (cc (sym is ∙ e))) (λ quiet. subst IsQuiet is quiet)
      by (Ok (Looked.Collected collected)) is = ends (Ok (Looked.Collected collected)) is tt
      by (Err FinishFault.Idle) is = stays (Err FinishFault.Idle) is tt
      by (Err FinishFault.Wait) is = stays (Err FinishFault.Wait) is tt
      by (Err (FinishFault.Rejected (Rejection.Exit exit))) is = ends (Err (FinishFault.Rejected (Rejection.Exit exit))) is tt
      by (Err (FinishFault.Rejected (Rejection.Differs difference))) is = ends (Err (FinishFault.Rejected (Rejection.Differs difference))) is tt
      by (Err (FinishFault.Limit limit)) is = ends (Err (FinishFault.Limit limit)) is tt
      by (Err FinishFault.Memory) is = kept (subst IsKept (sym is) tt) (λ e. absurd (cc (sym is ∙ e))) (λ quiet. subst IsQuiet is quiet)
      by (Err FinishFault.Ground) is = tt
      by (Err (FinishFault.Damaged at)) is = tt

  goes_on : IfOk (look_answer looked) (λ reply. GoesOnBy met.child [] s.store.held.collection store.held.collection)
  goes_on = each_end (GoesOnBy met.child [] s.store.held.collection) (goes_itself met.child s.store.held.collection) tt (λ c reaped runs heard K.
      subst (λ (o : Option Collection). GoesOnBy met.child [] o store.held.collection) (sym runs) (subst (GoesOnBy met.child [] (Some c)) (sym K.is)
      (inr (refl, (K.commit, K.job, (λ none. absurd (cc (sym K.exit ∙ none))), (K.looked.0, λ unheard. absurd (unheard reaped (child_is ∙ heard))))))))

  few : command ≡ Command.Look → IfOk (look_answer looked) (λ reply. looked_in store.held.collection ≤ looked_in s.store.held.collection + looks)
  few look = each_end (λ (o : Option Collection). looked_in o ≤ looked_in s.store.held.collection + looks) (omega arith) (omega arith) (λ c reaped runs heard K.
      subst (λ (o : Option Collection). looked_in store.held.collection ≤ looked_in o + looks) (sym runs) (subst (λ (o : Option Collection). looked_in o ≤ looked_at c + looks) (sym K.is)
      (subst (λ (k : ℕ). looked_at K.same ≤ looked_at c + k) (says.few look) K.looked.1)))

  -- a check that is not through
  checking : (left : ℕ) → looked ≡ Ok (Looked.Checking left) → IsSomeAnd s.store.held.collection (λ c. IsSliced looks c left store.held.collection)
  checking left is = go s.store.held.collection refl
    where
      go : (o : Option Collection) → s.store.held.collection ≡ o → IsSomeAnd o (λ c. IsSliced looks c left store.held.collection)
      go None none = absurd (cc (sym is ∙ says.goes.runs.0 none))
      go (Some c) runs = subst (λ (k : ℕ). IsSliced k c left store.held.collection) (says.slices left is) (subst (λ (x : Result Looked FinishFault). Slices says.most c x store.held.collection) is (says.goes.sliced c runs))

  sliced : IfOk (look_answer looked) (IsSlicedIn s.store.held.collection store.held.collection)
  sliced = by looked refl
    where
      by : (x : Result Looked FinishFault) → looked ≡ x → IfOk (look_answer x) (IsSlicedIn s.store.held.collection store.held.collection)
      by (Ok Looked.Running) is = tt
      by (Ok (Looked.Checking left)) is = checking left is
      by (Ok (Looked.Collected collected)) is = tt
      by (Err FinishFault.Idle) is = tt
      by (Err FinishFault.Wait) is = tt
      by (Err (FinishFault.Rejected (Rejection.Exit exit))) is = tt
      by (Err (FinishFault.Rejected (Rejection.Differs difference))) is = tt
      by (Err (FinishFault.Limit limit)) is = tt
      by (Err FinishFault.Memory) is = tt
      by (Err FinishFault.Ground) is = tt
      by (Err (FinishFault.Damaged at)) is = tt

  -- none runs
  idle_asked : (r : Repository) → IsOf s.store.held r → s.store.held.collection ≡ None → looked ≡ Err FinishFault.Idle → (y ≡ x) × (n ≡ m) → Asks
  idle_asked r tables none is same =
      let says_idle = concluded s store met command ending looked is_met says r tables Reply.Idle (ap look_answer is) in
      let heard : MayHear Phase.Idle command store.met.child = subst (λ (o : Option Collection). MayHear (phase_of o) command store.met.child) none (says_idle.turns empty_work).0.child in
      nothing_asked tells dir x y s after_it command (look_answer looked) m n same.0 same.1 (never_started looked) (never_over looked) (no_start, no_kill, child_is ∙ none_heard command ending store.met.child heard, none_left_so (subst (λ (x : Result Looked FinishFault). ¬ IsSweptBehind x) (sym is) (λ swept. swept))) goes_on sliced cuts

  -- its child had been reaped
  kept_asked : (r : Repository) → IsOf s.store.held r → (c : Collection) (kept : Reaped) → s.store.held.collection ≡ Some c → c.exit ≡ Some kept → (y ≡ x) × (n ≡ m) → Asks
  kept_asked r tables c kept runs exit same =
      let child : met.child ≡ Child.Ended kept = child_is ∙ says.kept c kept runs exit in
      let attempt : kept.attempt ≡ c.job.attempt = subst (λ (o : Option Reaped). IfSome o (λ reaped. reaped.attempt ≡ c.job.attempt)) exit (subst (IsPhaseOf s.store.held.slot r) runs tables.phase).reaped in (
        [],
        [],
        λ _. same.0 ∙ none_added x,
        record {
          started = λ has. absurd (never_started looked has);
          none_started = λ _. refl;
          goes_on = goes_on;
          sliced = sliced;
          few = few;
          running = λ is. absurd (cc (sym is ∙ child));
          not_running = λ _. ap (λ (k : SpawnCounts). k.running) same.1;
          waits = inl (ap (λ (k : SpawnCounts). k.waits) same.1);
          no_wait = λ _. ap (λ (k : SpawnCounts). k.waits) same.1;
          waited = λ _ either. elim either [ inl some ↦ absurd (some refl) | inr fault ↦ absurd (cc (sym fault ∙ child)) ];
          reaps = inl (ap (λ (k : SpawnCounts). k.reaps) same.1);
          none_reaped = λ not. absurd (not (may_reap command ending));
          heard = λ reaped is. (let e : kept ≡ reaped = ended_alike kept reaped (sym child ∙ is) in
              subst (λ (o : Option Collection). IsSomeAnd o (λ d. HeardOf d reaped [] m n)) (sym runs) (subst (λ (k : Reaped). k.attempt ≡ c.job.attempt) e attempt, inr (exit ∙ ap Some e, refl, same.1)));
          cancelled = λ is. absurd (never_over looked is);
          unheard = λ is. absurd (cc (sym is ∙ child));
          start = λ failed. never_failed met.start_failed no_start failed;
          kill = λ failed. never_failed met.kill_failed no_kill failed;
          no_fault = λ _ _ _. ap (λ (k : SpawnCounts). k.spawn_faults) same.1;
          cut = cut_short;
          unanswered = λ failed. (cuts failed).0;
          reached = λ failed. (cuts failed).1;
        },
      )

  -- it was asked
  pub record Answered (c : Collection) : Type 0 where
    pub end : Option Reaped
    pub ran : Bool
    pub waited : Bool
    pub failed : Bool
    pub sees : Sees store.met.child end ran failed
    pub waits : (waited ≡ false) ⊎ (command ≡ Command.Finish)
    pub awaits : command ≡ Command.Finish → waited ≡ true
    pub attempt : IfSome end (λ reaped. reaped.attempt ≡ c.job.attempt)
    pub told : IsTrue tells → y ≡ told_after end x
    pub counts : spawned.Counts ran waited (is_some end) failed m n

  abbrev ends_in : Option Reaped → List Reaped
  ends_in None = []
  ends_in (Some reaped) = reaped ∷ []

  told_so : (end : Option Reaped) → told_after end x ≡ record { started = x.started ++ []; reaped = x.reaped ++ ends_in end }
  told_so None = none_added x
  told_so (Some reaped) = λ i. record { started = sym (append-nil x.started) i; reaped = x.reaped ++ reaped ∷ [] }

  now_asked : (c : Collection) → s.store.held.collection ≡ Some c → c.exit ≡ None → Answered c → Asks
  now_asked c runs fresh A = (
    [],
    ends_in A.end,
    λ t. A.told t ∙ told_so A.end,
    record {
      started = λ has. absurd (never_started looked has);
      none_started = λ _. refl;
      goes_on = goes_on;
      sliced = sliced;
      few = few;
      running = λ is. (let sees = subst (λ (k : Child). Sees k A.end A.ran A.failed) (sym child_is ∙ is) A.sees in
          A.counts.running ∙ ap (λ (b : Bool). spawned.counted b m.running) sees.1);
      not_running = λ not. A.counts.running ∙ ap (λ (b : Bool). spawned.counted b m.running) (not_ran store.met.child A.end A.ran A.failed A.sees (λ is. not (child_is ∙ is)));
      waits = counted_or A.waited m.waits n.waits A.counts.waits;
      no_wait = λ not. elim A.waits [ inl none ↦ A.counts.waits ∙ ap (λ (b : Bool). spawned.counted b m.waits) none | inr is ↦ absurd (not is) ];
      waited = λ is _. A.counts.waits ∙ ap (λ (b : Bool). spawned.counted b m.waits) (A.awaits is);
      reaps = counted_or (is_some A.end) m.reaps n.reaps A.counts.reaps;
      none_reaped = λ not. absurd (not (may_reap command ending));
      heard = λ reaped is. (let sees = subst (λ (k : Child). Sees k A.end A.ran A.failed) (sym child_is ∙ is) A.sees in
          subst (λ (o : Option Collection). IsSomeAnd o (λ d. HeardOf d reaped (ends_in A.end) m n)) (sym runs) (
            subst (λ (o : Option Reaped). IfSome o (λ k. k.attempt ≡ c.job.attempt)) sees.0 A.attempt,
            inl (
              fresh,
              ap ends_in sees.0,
              A.counts.reaps ∙ ap (λ (o : Option Reaped). spawned.counted (is_some o) m.reaps) sees.0,
            ),
          ));
      cancelled = λ is. absurd (never_over looked is);
      unheard = λ is. (let sees = subst (λ (k : Child). Sees k A.end A.ran A.failed) (sym child_is ∙ is) A.sees in A.counts.spawn_faults ∙ ap (λ (b : Bool). spawned.counted b m.spawn_faults) sees.2);
      start = λ failed. never_failed met.start_failed no_start failed;
      kill = λ failed. never_failed met.kill_failed no_kill failed;
      no_fault = λ not _ _. A.counts.spawn_faults ∙ ap (λ (b : Bool). spawned.counted b m.spawn_faults) (not_failed store.met.child A.end A.ran A.failed A.sees (λ is. not (child_is ∙ is)));
      cut = cut_short;
      unanswered = λ failed. (cuts failed).0;
      reached = λ failed. (cuts failed).1;
    },
  )

  pub finish_asked : (r : Repository) → IsOf s.store.held r → (looked ≡ Err FinishFault.Idle → (y ≡ x) × (n ≡ m)) → ((c : Collection) (reaped : Reaped) → s.store.held.collection ≡ Some c → c.exit ≡ Some reaped → (y ≡ x) × (n ≡ m))
      → ((c : Collection) → s.store.held.collection ≡ Some c → c.exit ≡ None → Answered c) → Asks
  finish_asked r tables idle kept now = by s.store.held.collection refl
    where
      one : (c : Collection) → s.store.held.collection ≡ Some c → (exit : Option Reaped) → c.exit ≡ exit → Asks
      one c runs None fresh = now_asked c runs fresh (now c runs fresh)
      one c runs (Some reaped) exit = kept_asked r tables c reaped runs exit (kept c reaped runs exit)

      by : (o : Option Collection) → s.store.held.collection ≡ o → Asks
      by None none = (let is = says.goes.runs.0 none in idle_asked r tables none is (idle is))
      by (Some c) runs = one c runs c.exit refl

-- ---- what is counted

left_by : (command : Command) → IsEnding command → (reply : Reply) (met : Met) (old new : Noted) → CountsLeft met.left old new → CountsBy (Ok reply) command met old new
left_by Command.Look is reply met old new counts = counts
left_by Command.Finish is reply met old new counts = counts
left_by _ is reply met old new counts = absurd is

-- no sweep, so none failed
none_by : (left : ℕ) (old new : Noted) → ¬ (0 < left) → new ≡ old → CountsLeft left old new
none_by zero old new none same = subst (CountsLeft 0 old) (sym same) (none_left old)
none_by (suc k) old new none same = absurd (none (omega arith))

counts_so : (command : Command) → IsEnding command → (met : Met) (old new : Noted) (looked : Result Looked FinishFault) → LookReplies looked (λ reply. 0 < met.left → Machine.IsSwept reply) → CountsFinish looked met.left old new → CountsBy (look_answer looked) command met old new
counts_so command is met old new (Ok Looked.Running) left counts = left_by command is Reply.Running met old new (none_by met.left old new left counts)
counts_so command is met old new (Ok (Looked.Checking k)) left counts = left_by command is (Reply.Checking k) met old new (none_by met.left old new left counts)
counts_so command is met old new (Ok (Looked.Collected collected)) left counts = left_by command is (Reply.Collected collected.floor collected.left) met old new counts
counts_so command is met old new (Err FinishFault.Idle) left counts = left_by command is Reply.Idle met old new (none_by met.left old new left counts)
counts_so command is met old new (Err FinishFault.Wait) left counts = left_by command is Reply.WaitFault met old new (none_by met.left old new left counts)
counts_so command is met old new (Err (FinishFault.Rejected (Rejection.Exit exit))) left counts = left_by command is (Reply.RejectedExit exit) met old new counts
counts_so command is met old new (Err (FinishFault.Rejected (Rejection.Differs difference))) left counts = left_by command is (Reply.Rejected difference) met old new counts
counts_so command is met old new (Err (FinishFault.Limit limit)) left counts = left_by command is (Reply.Limit limit) met old new (none_by met.left old new left counts)
counts_so command is met old new (Err FinishFault.Memory) left counts = left_by command is Reply.Memory met old new (none_by met.left old new left counts)
counts_so command is met old new (Err FinishFault.Ground) left counts = counts
counts_so command is met old new (Err (FinishFault.Damaged at)) left counts = counts

-- what is so of each reply
replies_weaker : (P Q : Reply → Type 0) → ((reply : Reply) → P reply → Q reply) → (looked : Result Looked FinishFault) → LookReplies looked P → LookReplies looked Q
replies_weaker P Q by (Ok Looked.Running) says = by Reply.Running says
replies_weaker P Q by (Ok (Looked.Checking left)) says = by (Reply.Checking left) says
replies_weaker P Q by (Ok (Looked.Collected collected)) says = by (Reply.Collected collected.floor collected.left) says
replies_weaker P Q by (Err FinishFault.Idle) says = by Reply.Idle says
replies_weaker P Q by (Err FinishFault.Wait) says = by Reply.WaitFault says
replies_weaker P Q by (Err (FinishFault.Rejected (Rejection.Exit exit))) says = by (Reply.RejectedExit exit) says
replies_weaker P Q by (Err (FinishFault.Rejected (Rejection.Differs difference))) says = by (Reply.Rejected difference) says
replies_weaker P Q by (Err (FinishFault.Limit limit)) says = by (Reply.Limit limit) says
replies_weaker P Q by (Err FinishFault.Memory) says = by Reply.Memory says
replies_weaker P Q by (Err FinishFault.Ground) says = tt
replies_weaker P Q by (Err (FinishFault.Damaged at)) says = tt

pub finish_counts : (s : Session) (store : Store) (met : Met) (command : Command) (ending : IsEnding command) (looked : Result Looked FinishFault) → met ≡ store.met → Says s store command looked → (r : Repository) → IsOf s.store.held r → (old new : Noted)
    → CountsFinish looked store.met.left old new → CountsBy (look_answer looked) command met old new
finish_counts s store met command ending looked is_met says r tables old new counts =
    subst (λ (k : Met). CountsBy (look_answer looked) command k old new) (sym is_met) (counts_so command ending store.met old new looked
    (replies_weaker _ (λ reply. 0 < store.met.left → Machine.IsSwept reply) (λ reply C. (C.turns empty_work).0.left) looked (says.answered r tables)) counts)

pub finish_quiet : (result : Result Reply SessionEnd) (met : Met) (old new : Noted) → IfOk result (λ reply. ¬ IsLong reply) → IfOk result (QuietIfLong met old new)
finish_quiet (Ok reply) met old new short = λ long. absurd (short long)
finish_quiet (Err end) met old new short = tt

pub finish_ends : (looked : Result Looked FinishFault) (held : Type 0) → (held → IsUndamaged looked) → IfErr (look_answer looked) (EndsBy held)
finish_ends (Ok Looked.Running) held whole = tt
finish_ends (Ok (Looked.Checking left)) held whole = tt
finish_ends (Ok (Looked.Collected collected)) held whole = tt
finish_ends (Err FinishFault.Idle) held whole = tt
finish_ends (Err FinishFault.Wait) held whole = tt
finish_ends (Err (FinishFault.Rejected (Rejection.Exit exit))) held whole = tt
finish_ends (Err (FinishFault.Rejected (Rejection.Differs difference))) held whole = tt
finish_ends (Err (FinishFault.Limit limit)) held whole = tt
finish_ends (Err FinishFault.Memory) held whole = tt
finish_ends (Err FinishFault.Ground) held whole = tt
finish_ends (Err (FinishFault.Damaged at)) held whole = (whole, tt)

-- damage ends it only where the call met it, and then of all files the child's alone may have changed
damage_looked : (looked : Result Looked FinishFault) → MetDamage (look_answer looked) → ¬ IsUndamaged looked
damage_looked looked damaged sound = by (look_answer looked) (finish_ends looked (Unit {0}) (λ _. sound)) damaged
  where
    by : (result : Result Reply SessionEnd) → IfErr result (EndsBy (Unit {0})) → ¬ MetDamage result
    by (Ok reply) ends damaged = damaged
    by (Err SessionEnd.Ground) ends damaged = damaged
    by (Err (SessionEnd.Damaged at names)) ends damaged = ends.0 tt

finish_still : (before : Held) (store : Store) (command : Command) → IsEnding command → (looked : Result Looked FinishFault) (a b : Told) → (before.collection ≡ None) ↔ IsErrOf looked FinishFault.Idle → (¬ IsUndamaged looked → (c : Collection) → before.collection ≡ Some c → EndsFor c.job.attempt NoFile a b)
    → MetDamage (look_answer looked) → StillBy before a b command
finish_still before store command ending looked a b runs untouched damaged = by before.collection refl
  where
    idle : (looked : Result Looked FinishFault) → IsErrOf looked FinishFault.Idle → MetDamage (look_answer looked) → ⊥
    idle (Err FinishFault.Idle) is met = met
    idle (Ok _) is met = absurd (cc is)
    idle (Err _) is met = absurd (cc is)

    each : (command : Command) → IsEnding command → (o : Option Collection) → before.collection ≡ o → ChangesBy true (option_map (λ (c : Collection). c.job.attempt) o) NoFile a b → StillBy before a b command
    each Command.Look ending o is still = subst (λ (o : Option Collection). ChangesBy true (option_map (λ (c : Collection). c.job.attempt) o) NoFile a b) (sym is) still
    each Command.Finish ending o is still = subst (λ (o : Option Collection). ChangesBy true (option_map (λ (c : Collection). c.job.attempt) o) NoFile a b) (sym is) still
    each _ ending o is still = absurd ending

    by : (o : Option Collection) → before.collection ≡ o → StillBy before a b command
    by None is = absurd (idle looked (runs.0 is) damaged)
    by (Some c) is = each command ending (Some c) is (untouched (damage_looked looked damaged) c is)

quiet_unswept : (looked : Result Looked FinishFault) → IsQuiet looked → ¬ IsSweptBehind looked
quiet_unswept (Ok (Looked.Collected collected)) quiet swept = quiet
quiet_unswept (Err (FinishFault.Rejected rejection)) quiet swept = quiet
quiet_unswept _ quiet swept = swept

swept_answer : (looked : Result Looked FinishFault) → IsSweptBehind looked → HasAnswer looked
swept_answer (Err FinishFault.Ground) swept = swept
swept_answer (Err (FinishFault.Damaged at)) swept = swept
swept_answer _ swept = tt

-- ---- all that the session does

pub record Knows (a b : Told) (before : Held) (store : Store) (command : Command) (looked : Result Looked FinishFault) (r : Repository) (held : Holds before a r) : Type 0 where
  pub any_moment : (c : Collection) (reaped : Reaped) → before.collection ≡ Some c → store.met.child ≡ Child.Ended reaped → FinishesBy held.stands.standing.records r c command looked before.unswept store.met store.held a b
  pub undamaged : IsUndamaged looked
  pub works_stay : HasAnswer looked → (q : Repository) (now : Holds store.held b q) → WorksStay held now
  pub clear : HasAnswer looked → KeepsClear before store.held a b × ClearsAll (IsSweptBehind looked) store.met.left before store.held a b
  -- a look looks at so many records at most
  pub bounded : command ≡ Command.Look → (c : Collection) → before.collection ≡ Some c → IsAccepted looked → LooksWithin looks held.stands.standing.records c

module _ (tells : Bool) (a b : Told) (p q : Noted) (spawns : Bool) (held : Option ℕ) (dir : Bytes) (x y : spawn.Told) (m n : SpawnCounts) (s : Session) (store : Store) (met : Met) (command : Command) (ending : IsEnding command) (looked : Result Looked FinishFault) (is_met : met ≡ store.met) (says : Says s store command looked) where
  abbrev Does : Result Reply SessionEnd → Type 0
  Does = Ran (IsTrue tells) (IsTrue tells) unasked a b p q spawns held dir x y m n s (record s { store = store; met = met }) command

  -- a sweep is made only once the child has ended
  finish_settles : (r : Repository) (here : Holds s.store.held a r) → Knows a b s.store.held store command looked r here → IsSweptBehind looked → Settles a b s store met is_met
  finish_settles r here known swept = by_end s store met command ending looked is_met says (Settles a b s store met is_met) (λ quiet un. absurd (quiet_unswept looked quiet swept))
      (λ c reaped runs heard. subst (λ (o : Option Collection). IsSomeAnd o (λ d. (pair : Image) × IsSettledAs b d.job.attempt pair)) (sym runs) ((known.any_moment c reaped runs heard).does.settled (swept_answer looked swept)))

  finish_remains : (r : Repository) (here : Holds s.store.held a r) → Knows a b s.store.held store command looked r here → IsSweptBehind looked → Remains a b s store met is_met
  finish_remains r here known swept = by_end s store met command ending looked is_met says (Remains a b s store met is_met) (λ quiet un. absurd (quiet_unswept looked quiet swept))
      (λ c reaped runs heard. (known.any_moment c reaped runs heard).does.all_but swept)

  finish_bounded : (r : Repository) (here : Holds s.store.held a r) → Knows a b s.store.held store command looked r here → command ≡ Command.Look → IfOk (look_answer looked) (IsBoundedIn here.stands.standing.records s.store.held.collection)
  finish_bounded r here known look = by looked refl
    where
      accepted : IsAccepted looked → IsSomeAnd s.store.held.collection (LooksWithin looks here.stands.standing.records)
      accepted is = go s.store.held.collection refl
        where
          go : (o : Option Collection) → s.store.held.collection ≡ o → IsSomeAnd o (LooksWithin looks here.stands.standing.records)
          go None none = absurd (subst IsAccepted (says.goes.runs.0 none) is)
          go (Some c) runs = known.bounded look c runs is

      by : (x : Result Looked FinishFault) → looked ≡ x → IfOk (look_answer x) (IsBoundedIn here.stands.standing.records s.store.held.collection)
      by (Ok Looked.Running) is = tt
      by (Ok (Looked.Checking left)) is = tt
      by (Ok (Looked.Collected done)) is = accepted (subst IsAccepted (sym is) tt)
      by (Err FinishFault.Idle) is = tt
      by (Err FinishFault.Wait) is = tt
      by (Err (FinishFault.Rejected (Rejection.Exit exit))) is = tt
      by (Err (FinishFault.Rejected (Rejection.Differs difference))) is = tt
      by (Err (FinishFault.Limit limit)) is = accepted (subst IsAccepted (sym is) tt)
      by (Err FinishFault.Memory) is = tt
      by (Err FinishFault.Ground) is = tt
      by (Err (FinishFault.Damaged at)) is = tt

  pub finish_ran : (result : Result Reply SessionEnd) → result ≡ look_answer looked → IfOk result (λ reply. ¬ IsLong reply) → IsServing s → (IsTrue tells → (r : Repository) (here : Holds s.store.held a r) → Knows a b s.store.held store command looked r here) → (IsTrue tells → ¬ IsUndamaged looked → (c : Collection) → s.store.held.collection ≡ Some c → EndsFor c.job.attempt NoFile a b) → (IsQuiet looked → b ≡ a) → CountsFinish looked store.met.left p q
      → held ≡ child_of store.held.collection → AskedSo spawns dir x y s (record s { store = store; met = met }) command (look_answer looked) m n → Does result
  finish_ran result is brief (r0, of) known untouched still counts child asked =
      let short = subst (λ (z : Result Reply SessionEnd). IfOk z (λ reply. ¬ IsLong reply)) is brief in
      subst Does (sym is) (record {
        runs = record {
          serving = finish_serves s store met command ending looked is_met says r0 of.0 of.1;
          goes = λ t r v here. let K = known t r here.holds in finish_goes s store met command ending looked is_met says a b r v here K.any_moment K.works_stay still short;
          placed = λ t r v here. finish_placed s store met command ending looked is_met says r here.holds.tables v (image_records here.holds);
          bounded = λ t r v here look. finish_bounded r here.holds (known t r here.holds) look;
          clear = λ t r v here. let K = known t r here.holds in finish_clear a b s store met is_met command looked (may_reap command ending) K.clear says.goes.unswept (finish_settles r here.holds K) (finish_remains r here.holds K);
          cut = λ t r v here. let K = known t r here.holds in finish_cuts s store met command ending looked is_met says a b r v here K.any_moment K.undamaged;
          cause = finish_ends looked (IsKnown (IsTrue tells) a s) (λ (t, (r, v, here)). (known t r here.holds).undamaged);
          untouched = λ t damaged. finish_still s.store.held store command ending looked a b says.goes.runs (untouched t) damaged;
        };
        child = child;
        asked = asked;
        quiet = finish_quiet (look_answer looked) met p q short;
        memory = look_wants s store met command ending looked is_met says;
        counts = finish_counts s store met command ending looked is_met says r0 of.0 p q counts;
      })

-- What a command asks of the spawner, and what is counted meanwhile.
--     goes_itself, goes_same, goes_none      a collection goes on that ran before, or none does.      few_still      where its child was not heard to have ended no more was looked at
--     CutsSo s' command result      what is so of one that was cut short.      faulted_bare      so of a call of the store that has no answer
--     tells_slice, tells_unswept      its reply tells of no check, and of no sweep.      start_unswept      so of a collection that was to begin.      nothing_asked      it asks nothing.      plain_asked      so for a command that has to do with no child.      nothing_spawned      for a line
--     none_met, faulted      no child was met.      start_asked      a collection was to begin.      start_quiet, start_counts      what was counted of the ground.      start_ends      how the session may end.      start_sound      by no damage
--     cancel_asked, cancel_counts, cancel_quiet, cancel_sound      so of one that was to end
--     plain_counts, plain_quiet      so of the others
--     lined_asked, lined_counts      so of the line that spells a command.      any_counts, none_counts      of any line, and of one that is none
--     whole_asked, unwritten      a reply's text was written, or there was no memory for it
use Rattle.std.proofs.Common.{◌≡◌, ◌≢◌, ◌↔◌, ◌⊎◌, inl, inr, ℕ, ◌+◌, ◌-◌, ◌^◌, ◌≤◌, ◌++◌, Bool, true, false, List, [], ◌∷◌, refl, sym, ap, ◌∙◌, subst, arith, Option, Some, None, Ok, Err, IsTrue, length, append-nil}
use Rattle.std.specs.Prelude.{Result, IfOk, OnOk, IfErr, IsErr, IsErrOf, IsSome, IsSomeAnd, is_err, is_some, not}
use Rattle.ip_base.specs.declared.exit.Reaped.{Reaped}
use Rattle.ip_ground.specs.Counts.{Noted, Counts, CountsLeft}
use Rattle.ip_spawn.specs.Children.{told_after}
use Rattle.ip_spawn.specs.Children as spawn
use Rattle.ip_spawn.specs.Counts as spawned
use Rattle.ip_spawn.specs.declared.job.Job.{Job}
use Rattle.ip_spawn.specs.declared.spawner.SpawnCounts.{SpawnCounts}
use Rattle.ip_spec.specs.declared.command.Command.{Command}
use Rattle.ip_spec.specs.declared.command.Target.{Target}
use Rattle.ip_spec.specs.declared.met.Child.{Child}
use Rattle.ip_spec.specs.declared.met.Met.{Met}
use Rattle.ip_spec.specs.declared.reply.Reply.{Reply}
use Rattle.ip_spec.specs.Machine.{exit_kept}
use Rattle.ip_spec.specs.Path.{Bytes}
use Rattle.ip_spec.specs.Step.{IsMet, IsSwept}
use Rattle.ip_spec.specs.View.{no_view}
use Rattle.ip_spec.specs.Record.{Hash}
use Rattle.ip_spec.specs.Repository.{Repository}
use Rattle.ip_spec.specs.Line.{IsLineOf}
use Rattle.ip_collects.specs.declared.cancelling.CancelFault.{CancelFault}
use Rattle.ip_collects.specs.declared.cancelling.Cancelled.{Cancelled}
use Rattle.ip_held.specs.declared.collection.Collection.{Collection}
use Rattle.ip_held.specs.declared.fault.StoreFault.{StoreFault}
use Rattle.ip_collects.specs.declared.starting.CollectFault.{CollectFault}
use Rattle.ip_collects.specs.Cancelling.{CancelReplies, met_by_cancel, CountsCancel, IsKilled}
use Rattle.ip_held.specs.Collecting.{phase_of}
use Rattle.ip_held.specs.Answers as commits
use Rattle.ip_held.specs.Answers.{met_by, met_of}
use Rattle.ip_collects.specs.CollectFaults.{counted_start}
use Rattle.ip_collects.specs.Finishing.{looked_of}
use Rattle.ip_collects.specs.Starting.{AnswersCall, branch_name_at, met_by_start, IsBegun, IsTurnedDown, IsJobAt, started_by}
use Rattle.ip_held.specs.Work.{work_at, state_at}
use Rattle.ip_session.specs.declared.session.Session.{Session}
use Rattle.ip_session.specs.declared.session.SessionEnd.{SessionEnd}
use Rattle.ip_session.specs.Asking.{HasStarted, HandlesNone, AsksNoGround, TellsNone, MeetsNone, IsUnanswered, QuietIfLong, GoesOnBy, IsSlicedIn, Asked, Spawns, looked_in, looks, starts_in}
use Rattle.ip_session.specs.Session.{met_only, fault_answer, IsAnswer, IsLong, CountsBy, CountsAny, CountsIn, EndsBy, MetDamage, counted_end}
use Rattle.ip_session.specs.Starting.{HeldReplies, StartReplies, cancel_answer}
use Rattle.ip_session.proofs.SessionLemmas.{started_is_short, start_fault_is_short, cancelled_is_short, orphan_is_short, idle_is_short}
use Rattle.ip_store.specs.declared.store.Store.{Store}

-- two facts on what there is
pub both_some : {X : Type 0} (o : Option X) (P Q : X → Type 0) (R : Type 0) → ((x : X) → P x → Q x → R) → IsSomeAnd o P → IsSomeAnd o Q → R
both_some None P Q R each p q = absurd p
both_some (Some x) P Q R each p q = each x p q

-- ---- a collection goes on

pub goes_itself : (child : Child) (o : Option Collection) → GoesOnBy child [] o o
goes_itself child None = tt
goes_itself child (Some c) = inr (refl, (refl, refl, (λ none. none), (omega arith, λ unheard. refl)))

pub goes_same : (child : Child) (result : Result Reply SessionEnd) (before now : Option Collection) → now ≡ before → IfOk result (λ reply. GoesOnBy child [] before now)
goes_same child (Ok reply) before now is = subst (GoesOnBy child [] before) (sym is) (goes_itself child before)
goes_same child (Err end) before now is = tt

pub goes_none : (child : Child) (result : Result Reply SessionEnd) (jobs : List Job) (before now : Option Collection) → now ≡ None → IfOk result (λ reply. GoesOnBy child jobs before now)
goes_none child (Ok reply) jobs before now is = subst (GoesOnBy child jobs before) (sym is) tt
goes_none child (Err end) jobs before now is = tt

-- of a child that was not heard to have ended no record more was looked at
few_still : (child : Child) (result : Result Reply SessionEnd) (before now : Option Collection) → ((reaped : Reaped) → child ≢ Child.Ended reaped) → IfOk result (λ reply. GoesOnBy child [] before now) → IfOk result (λ reply. looked_in now ≤ looked_in before + looks)
few_still child (Ok reply) before None unheard goes = omega arith
few_still child (Ok reply) before (Some c) unheard (inl started) = (let none = ap looked_of started.1 in omega (arith, none))
few_still child (Ok reply) None (Some c) unheard (inr ran) = absurd ran.1
few_still child (Ok reply) (Some d) (Some c) unheard (inr ran) = (let same = ran.1.3.1 unheard in omega (arith, same))
few_still child (Err end) before now unheard goes = tt

-- ---- nothing is asked

abbrev pub AskedSo : (tells : Bool) (dir : Bytes) (x y : spawn.Told) (s s' : Session) (command : Command) (result : Result Reply SessionEnd) (m n : SpawnCounts) → Type 0
AskedSo tells dir x y s s' command result m n = (jobs : List Job) × (ends : List Reaped) × (IsTrue tells → y ≡ record { started = x.started ++ starts_in dir jobs; reaped = x.reaped ++ ends }) × Asked s s' command result jobs ends m n

-- and nothing was added to what is told
pub none_added : (x : spawn.Told) → x ≡ record { started = x.started ++ []; reaped = x.reaped ++ [] }
none_added x = λ i. record { started = sym (append-nil x.started) i; reaped = sym (append-nil x.reaped) i }

pub never_failed : {A : Type 0} (b : Bool) → b ≡ false → IsTrue b → A
never_failed b is failed = absurd (cc (is, failed))

-- nothing was met that has an answer, and it asks the ground for something
abbrev pub CutsSo : Session → Command → Result Reply SessionEnd → Type 0
CutsSo s' command result = IsErr result → IsUnanswered s'.met × (¬ AsksNoGround command)

never_cut : (s' : Session) (command : Command) (reply : Reply) → CutsSo s' command (Ok reply)
never_cut s' command reply failed = absurd (cc failed)

pub asks_nothing : (s s' : Session) (command : Command) (result : Result Reply SessionEnd) (m : SpawnCounts) → ¬ HasStarted result → result ≢ Ok Reply.Cancelled → MeetsNone s'.met → IfOk result (λ reply. GoesOnBy s'.met.child [] s.store.held.collection s'.store.held.collection) → IfOk result (IsSlicedIn s.store.held.collection s'.store.held.collection) → CutsSo s' command result → Asked s s' command result [] [] m m
asks_nothing s s' command result m never over met goes_on sliced cuts = record {
  started = λ has. absurd (never has);
  none_started = λ _. refl;
  goes_on = goes_on;
  sliced = sliced;
  few = λ _. few_still s'.met.child result s.store.held.collection s'.store.held.collection (λ reaped is. absurd (cc (sym met.2 ∙ is))) goes_on;
  running = λ is. absurd (cc (sym met.2 ∙ is));
  not_running = λ _. refl;
  waits = inl refl;
  no_wait = λ _. refl;
  waited = λ _ either. elim either [ inl some ↦ absurd (some refl) | inr fault ↦ absurd (cc (sym met.2 ∙ fault)) ];
  reaps = inl refl;
  none_reaped = λ _. (refl, refl);
  heard = λ reaped is. absurd (cc (sym met.2 ∙ is));
  cancelled = λ is. absurd (over is);
  unheard = λ is. absurd (cc (sym met.2 ∙ is));
  start = λ failed. never_failed s'.met.start_failed met.0 failed;
  kill = λ failed. never_failed s'.met.kill_failed met.1 failed;
  no_fault = λ _ _ _. refl;
  cut = λ _. (met.0, met.1, met.3);
  unanswered = λ failed. (cuts failed).0;
  reached = λ failed. (cuts failed).1;
}

pub nothing_asked : (tells : Bool) (dir : Bytes) (x y : spawn.Told) (s s' : Session) (command : Command) (result : Result Reply SessionEnd) (m n : SpawnCounts) → y ≡ x → n ≡ m → ¬ HasStarted result → result ≢ Ok Reply.Cancelled → MeetsNone s'.met → IfOk result (λ reply. GoesOnBy s'.met.child [] s.store.held.collection s'.store.held.collection) → IfOk result (IsSlicedIn s.store.held.collection s'.store.held.collection) → CutsSo s' command result → AskedSo tells dir x y s s' command result m n
nothing_asked tells dir x y s s' command result m n same still never over met goes_on sliced cuts =
    ([], [], λ _. same ∙ none_added x, subst (λ (k : SpawnCounts). Asked s s' command result [] [] m k) (sym still) (asks_nothing s s' command result m never over met goes_on sliced cuts))

tells_start : (result : Result Reply SessionEnd) → IfOk result TellsNone → ¬ HasStarted result
tells_start (Ok (Reply.Started name)) none has = none
tells_start (Ok _) none has = has
tells_start (Err end) none has = has

tells_over : (result : Result Reply SessionEnd) → IfOk result TellsNone → result ≢ Ok Reply.Cancelled
tells_over result none is = subst (λ (x : Result Reply SessionEnd). IfOk x TellsNone) is none

-- and of no sweep
tells_unswept : (reply : Reply) → TellsNone reply → ¬ IsSwept reply
tells_unswept (Reply.Collected floor left) none is = none
tells_unswept (Reply.RejectedExit exit) none is = none
tells_unswept (Reply.Rejected difference) none is = none
tells_unswept Reply.Cancelled none is = none
tells_unswept _ none is = is

-- it tells of no check
tells_slice : (result : Result Reply SessionEnd) (before now : Option Collection) → IfOk result TellsNone → IfOk result (IsSlicedIn before now)
tells_slice (Ok (Reply.Checking left)) before now none = absurd none
tells_slice (Ok _) before now none = tt
tells_slice (Err end) before now none = tt

pub plain_asked : (tells : Bool) (dir : Bytes) (x : spawn.Told) (s s' : Session) (command : Command) (result : Result Reply SessionEnd) (m : SpawnCounts) → IfOk result TellsNone → MeetsNone s'.met → s'.store.held.collection ≡ s.store.held.collection → CutsSo s' command result → AskedSo tells dir x x s s' command result m m
plain_asked tells dir x s s' command result m none met same cuts = nothing_asked tells dir x x s s' command result m m refl refl (tells_start result none) (tells_over result none) met (goes_same s'.met.child result s.store.held.collection s'.store.held.collection same) (tells_slice result s.store.held.collection s'.store.held.collection none) cuts

pub none_met : (met : Met) (refused : Bool) → met ≡ met_only refused → MeetsNone met
none_met met refused is = (ap (λ (m : Met). m.start_failed) is, ap (λ (m : Met). m.kill_failed) is, ap (λ (m : Met). m.child) is, ap (λ (m : Met). m.left) is)

-- by a call of the store that has to do with no child
pub faulted : {A : Type 0} (made : Result A StoreFault) → MeetsNone (met_by made)
faulted (Ok x) = (refl, refl, refl, refl)
faulted (Err (StoreFault.Limit limit)) = (refl, refl, refl, refl)
faulted (Err StoreFault.Memory) = (refl, refl, refl, refl)
faulted (Err _) = (refl, refl, refl, refl)

-- of all faults want of memory and limits alone are met, and they have an answer
pub faulted_bare : {A : Type 0} (replied : Option Reply) (made : Result A StoreFault) (result : Result Reply SessionEnd) → IsAnswer replied made result → IsErr result → IsUnanswered (met_by made)
faulted_bare replied made (Ok reply) answer failed = absurd (cc failed)
faulted_bare replied (Ok x) (Err end) answer failed = (refl, refl, refl)
faulted_bare replied (Err fault) (Err end) answer failed = by fault answer.1
  where
    by : (fault : StoreFault) → fault_answer fault ≡ Err end → IsUnanswered (met_of fault)
    by (StoreFault.GivenUp number) is = (refl, refl, refl)
    by (StoreFault.HeadMoved name) is = (refl, refl, refl)
    by (StoreFault.Leaving number) is = (refl, refl, refl)
    by (StoreFault.Existing name) is = (refl, refl, refl)
    by (StoreFault.Limit limit) is = absurd (cc is)
    by StoreFault.Memory is = absurd (cc is)
    by StoreFault.Ground is = (refl, refl, refl)
    by (StoreFault.Damaged at names) is = (refl, refl, refl)

-- ---- a collection is to begin

-- none did
module _ (tells : Bool) (dir : Bytes) (x y : spawn.Told) (s s' : Session) (target : Target) (m n : SpawnCounts) (same : (y ≡ x) × (n ≡ m)) (stays : s'.store.held.collection ≡ s.store.held.collection) where
  abbrev None_of : Result Reply SessionEnd → Type 0
  None_of result = AskedSo tells dir x y s s' (Command.Collect target) result m n

  unstarted : (result : Result Reply SessionEnd) (reply : Reply) → result ≡ Ok reply → TellsNone reply → MeetsNone s'.met → None_of result
  unstarted result reply is none met = subst None_of (sym is) (nothing_asked tells dir x y s s' (Command.Collect target) (Ok reply) m n same.0 same.1 (tells_start (Ok reply) none) (tells_over (Ok reply) none) met (goes_same s'.met.child (Ok reply) s.store.held.collection s'.store.held.collection stays) (tells_slice (Ok reply) s.store.held.collection s'.store.held.collection none) (never_cut s' (Command.Collect target) reply))

  unended : (result : Result Reply SessionEnd) (end : SessionEnd) → result ≡ Err end → MeetsNone s'.met → IsUnanswered s'.met → None_of result
  unended result end is met bare = subst None_of (sym is) (nothing_asked tells dir x y s s' (Command.Collect target) (Err end) m n same.0 same.1 (λ h. h) (λ e. absurd (cc e)) met tt tt (λ _. (bare, λ h. h)))

meets : (m m' : Met) → m ≡ m' → MeetsNone m' → MeetsNone m
meets m m' is none = subst MeetsNone (sym is) none

module _ (tells : Bool) (dir : Bytes) (x y : spawn.Told) (s : Session) (store : Store) (r : Repository) (target : Target) (number : ℕ) (met : Met) (result : Result Reply SessionEnd) (m n : SpawnCounts) where
  abbrev now : Session
  now = record s { store = store; met = met }

  abbrev Begun : Result Hash CollectFault → Type 0
  Begun begun = (job : Job) × IsJobAt s.store.held number store.held.slot job × OnOk begun (store.held.collection ≡ Some (record { commit = number; job = job; exit = None; check = None }))
      × (IsTrue tells → y ≡ record { started = x.started ++ started_by dir job begun; reaped = x.reaped }) × spawned.Counts false false false (is_err begun) m n

  pub start_asked : (begun : Result Hash CollectFault) → StartReplies r begun store.met met result → store.met ≡ met_by_start begun → (IsTurnedDown begun ⊎ IsErrOf begun CollectFault.Ground → (y ≡ x) × (n ≡ m)) → (IsErr begun → store.held.collection ≡ s.store.held.collection) → (IsBegun begun → Begun begun)
      → AskedSo tells dir x y s now (Command.Collect target) result m n
  start_asked (Ok name) says is_met still stays asked =
      let (job, at, runs, told, counts) = asked tt in
      let none : MeetsNone met = meets met (met_by_start (Ok name)) (says.1 ∙ is_met) (refl, refl, refl, refl) in (
        job ∷ [],
        [],
        λ t. told t ∙ (λ i. record { started = x.started ++ starts_in dir (job ∷ []); reaped = sym (append-nil x.reaped) i }),
        record {
          started = λ _. subst (λ (o : Option Collection). IsSomeAnd o (λ c. (job ∷ [] ≡ c.job ∷ []) × (c.exit ≡ None) × IsJobAt s.store.held c.commit store.held.slot c.job)) (sym runs) (refl, refl, at);
          none_started = λ not. absurd (not (subst HasStarted (sym says.0) tt));
          goes_on = subst (λ (z : Result Reply SessionEnd). IfOk z (λ reply. GoesOnBy met.child (job ∷ []) s.store.held.collection store.held.collection)) (sym says.0) (subst (GoesOnBy met.child (job ∷ []) s.store.held.collection) (sym runs) (inl (refl, refl)));
          sliced = subst (λ (z : Result Reply SessionEnd). IfOk z (IsSlicedIn s.store.held.collection store.held.collection)) (sym says.0) tt;
          few = λ is. absurd (cc is);
          running = λ is. absurd (cc (sym none.2 ∙ is));
          not_running = λ _. counts.running;
          waits = inl counts.waits;
          no_wait = λ _. counts.waits;
          waited = λ is. absurd (cc is);
          reaps = inl counts.reaps;
          none_reaped = λ _. (refl, counts.reaps);
          heard = λ reaped is. absurd (cc (sym none.2 ∙ is));
          cancelled = λ is. absurd (cc (sym says.0 ∙ is));
          unheard = λ is. absurd (cc (sym none.2 ∙ is));
          start = λ failed. never_failed met.start_failed none.0 failed;
          kill = λ failed. never_failed met.kill_failed none.1 failed;
          no_fault = λ _ _ _. counts.spawn_faults;
          cut = λ _. (none.0, none.1, none.3);
          unanswered = λ failed. absurd (cc (subst IsErr says.0 failed));
          reached = λ _ h. h;
        },
      )
  start_asked (Err CollectFault.Start) says is_met still stays asked =
      let (job, at, runs, told, counts) = asked tt in
      let none : met.child ≡ Child.NotAsked = ap (λ (k : Met). k.child) (says.1 ∙ is_met) in (
        [],
        [],
        λ t. told t ∙ (λ i. record { started = x.started ++ []; reaped = sym (append-nil x.reaped) i }),
        record {
          started = λ has. absurd (subst HasStarted says.0 has);
          none_started = λ not. refl;
          goes_on = goes_same met.child result s.store.held.collection store.held.collection (stays refl);
          sliced = subst (λ (z : Result Reply SessionEnd). IfOk z (IsSlicedIn s.store.held.collection store.held.collection)) (sym says.0) tt;
          few = λ is. absurd (cc is);
          running = λ is. absurd (cc (sym none ∙ is));
          not_running = λ _. counts.running;
          waits = inl counts.waits;
          no_wait = λ _. counts.waits;
          waited = λ is. absurd (cc is);
          reaps = inl counts.reaps;
          none_reaped = λ _. (refl, counts.reaps);
          heard = λ reaped is. absurd (cc (sym none ∙ is));
          cancelled = λ is. absurd (cc (sym says.0 ∙ is));
          unheard = λ is. absurd (cc (sym none ∙ is));
          start = λ failed. counts.spawn_faults;
          kill = λ failed. never_failed met.kill_failed (ap (λ (k : Met). k.kill_failed) (says.1 ∙ is_met)) failed;
          no_fault = λ _ start _. absurd (cc (sym (ap (λ (k : Met). k.start_failed) (says.1 ∙ is_met)) ∙ start));
          cut = λ failed. absurd (cc (subst IsErr says.0 failed));
          unanswered = λ failed. absurd (cc (subst IsErr says.0 failed));
          reached = λ _ h. h;
        },
      )
  start_asked (Err (CollectFault.Busy name)) says is_met still stays asked = unstarted tells dir x y s now target m n (still (inl tt)) (stays refl) result (Reply.Busy name) says.0 tt (meets met commits.met_nothing (says.1 ∙ is_met) (refl, refl, refl, refl))
  start_asked (Err (CollectFault.Limit limit)) says is_met still stays asked = unstarted tells dir x y s now target m n (still (inl tt)) (stays refl) result (Reply.Limit limit) says.0 tt (meets met (met_by_start (Err (CollectFault.Limit limit))) (says.1 ∙ is_met) (refl, refl, refl, refl))
  start_asked (Err CollectFault.Memory) says is_met still stays asked = unstarted tells dir x y s now target m n (still (inl tt)) (stays refl) result Reply.Memory says.0 tt (meets met (met_by_start (Err CollectFault.Memory)) (says.1 ∙ is_met) (refl, refl, refl, refl))
  start_asked (Err CollectFault.Ground) says is_met still stays asked = unended tells dir x y s now target m n (still (inr refl)) (stays refl) result SessionEnd.Ground says.0 (meets met commits.met_nothing (says.1 ∙ is_met) (refl, refl, refl, refl)) (subst IsUnanswered (sym (says.1 ∙ is_met)) (refl, refl, refl))
  start_asked (Err (CollectFault.Held place)) says is_met still stays asked = both_some (branch_name_at r place) _ _ (AskedSo tells dir x y s now (Command.Collect target) result m n) each says says
    where
      each : (name : Bytes) → (reply : Reply) × (result ≡ Ok reply) × HeldReplies name store.met met reply → (reply : Reply) × (result ≡ Ok reply) × HeldReplies name store.met met reply → AskedSo tells dir x y s now (Command.Collect target) result m n
      each name (reply, is, inl told) other = unstarted tells dir x y s now target m n (still (inl tt)) (stays refl) result (Reply.Held name) (is ∙ ap Ok told.0) tt (meets met commits.met_nothing (told.1 ∙ is_met) (refl, refl, refl, refl))
      each name (reply, is, inr short) other = unstarted tells dir x y s now target m n (still (inl tt)) (stays refl) result Reply.Memory (is ∙ ap Ok short.0) tt (meets met (met_only true) short.1 (refl, refl, refl, refl))

-- behind none of its replies a sweep was made
start_unswept : (r : Repository) (before met : Met) (result : Result Reply SessionEnd) (begun : Result Hash CollectFault) → StartReplies r begun before met result → IfOk result (λ reply. ¬ IsSwept reply)
start_unswept r before met result begun says = by begun says
  where
    Unswept : Result Reply SessionEnd → Type 0
    Unswept result = IfOk result (λ reply. ¬ IsSwept reply)

    told : (reply : Reply) → result ≡ Ok reply → ¬ IsSwept reply → Unswept result
    told reply is not = subst Unswept (sym is) not

    held : (name : Bytes) (reply : Reply) → result ≡ Ok reply → HeldReplies name before met reply → Unswept result
    held name reply is (inl answer) = told (Reply.Held name) (is ∙ ap Ok answer.0) (λ h. h)
    held name reply is (inr short) = told Reply.Memory (is ∙ ap Ok short.0) (λ h. h)

    by : (begun : Result Hash CollectFault) → StartReplies r begun before met result → Unswept result
    by (Ok name) says = told (Reply.Started name) says.0 (λ h. h)
    by (Err CollectFault.Start) says = told Reply.StartFault says.0 (λ h. h)
    by (Err (CollectFault.Busy name)) says = told (Reply.Busy name) says.0 (λ h. h)
    by (Err (CollectFault.Limit limit)) says = told (Reply.Limit limit) says.0 (λ h. h)
    by (Err CollectFault.Memory) says = told Reply.Memory says.0 (λ h. h)
    by (Err CollectFault.Ground) says = subst Unswept (sym says.0) tt
    by (Err (CollectFault.Held place)) says = both_some (branch_name_at r place) _ _ (Unswept result) (λ name h other. held name h.0 h.1 h.2) says says

-- what was counted of the ground
module _ (r : Repository) (before met : Met) (result : Result Reply SessionEnd) (target : Target) (old new : Noted) where
  counts_ok : (reply : Reply) → result ≡ Ok reply → new ≡ old → CountsBy result (Command.Collect target) met old new
  counts_ok reply is same = subst (λ (x : Result Reply SessionEnd). CountsBy x (Command.Collect target) met old new) (sym is) same

  pub start_counts : (begun : Result Hash CollectFault) → StartReplies r begun before met result → Counts counted_start begun old new → CountsBy result (Command.Collect target) met old new
  start_counts (Ok name) says counts = counts_ok (Reply.Started name) says.0 counts
  start_counts (Err CollectFault.Start) says counts = counts_ok Reply.StartFault says.0 counts
  start_counts (Err (CollectFault.Busy name)) says counts = counts_ok (Reply.Busy name) says.0 counts
  start_counts (Err (CollectFault.Limit limit)) says counts = counts_ok (Reply.Limit limit) says.0 counts
  start_counts (Err CollectFault.Memory) says counts = counts_ok Reply.Memory says.0 counts
  start_counts (Err CollectFault.Ground) says counts = subst (λ (x : Result Reply SessionEnd). CountsBy x (Command.Collect target) met old new) (sym says.0) counts
  start_counts (Err (CollectFault.Held place)) says counts = both_some (branch_name_at r place) _ _ (CountsBy result (Command.Collect target) met old new) (λ name h other. counts_ok h.0 h.1 counts) says says

  -- a long reply is no start
  pub start_quiet : (begun : Result Hash CollectFault) → StartReplies r begun before met result → before ≡ met_by_start begun → IfOk begun (λ name. length name ≤ 32) → CountsBy result (Command.Collect target) met old new → IfOk result (QuietIfLong met old new)
  start_quiet begun says is_met size counts = by result (unmet begun says is_met) counts (start_unswept r before met result begun says) (λ name is. whole begun size says name is)
    where
      by : (result : Result Reply SessionEnd) → (result ≢ Ok Reply.StartFault → MeetsNone met) → CountsBy result (Command.Collect target) met old new → IfOk result (λ reply. ¬ IsSwept reply) → ((name : Hash) → result ≡ Ok (Reply.Started name) → ¬ IsLong (Reply.Started name)) → IfOk result (QuietIfLong met old new)
      by (Ok (Reply.Started name)) none counts unswept short = λ long. absurd (short name refl long)
      by (Ok Reply.StartFault) none counts unswept short = λ long. absurd (start_fault_is_short long)
      by (Ok reply) none counts unswept short = λ long. (λ h. h, none (λ is. absurd (cc is)), counts, unswept)
      by (Err end) none counts unswept short = tt

      -- nothing was met of a child, but of a start that failed
      unmet : (begun : Result Hash CollectFault) → StartReplies r begun before met result → before ≡ met_by_start begun → result ≢ Ok Reply.StartFault → MeetsNone met
      unmet (Ok name) says is_met not = meets met (met_by_start (Ok name)) (says.1 ∙ is_met) (refl, refl, refl, refl)
      unmet (Err (CollectFault.Held place)) says is_met not = both_some (branch_name_at r place) _ _ (MeetsNone met) (λ own h again. held_unmet own h.0 h.2) says says
        where
          held_unmet : (own : Bytes) (reply : Reply) → HeldReplies own before met reply → MeetsNone met
          held_unmet own reply (inl told) = meets met (met_by_start (Err (CollectFault.Held place))) (told.1 ∙ is_met) (refl, refl, refl, refl)
          held_unmet own reply (inr short) = meets met (met_only true) short.1 (refl, refl, refl, refl)
      unmet (Err (CollectFault.Limit limit)) says is_met not = meets met (met_by_start (Err (CollectFault.Limit limit))) (says.1 ∙ is_met) (refl, refl, refl, refl)
      unmet (Err CollectFault.Start) says is_met not = absurd (not says.0)
      unmet (Err CollectFault.Memory) says is_met not = meets met (met_by_start (Err CollectFault.Memory)) (says.1 ∙ is_met) (refl, refl, refl, refl)
      unmet (Err (CollectFault.Busy name)) says is_met not = meets met (met_by_start (Err (CollectFault.Busy name))) (says.1 ∙ is_met) (refl, refl, refl, refl)
      unmet (Err CollectFault.Ground) says is_met not = meets met (met_by_start (Err CollectFault.Ground)) (says.1 ∙ is_met) (refl, refl, refl, refl)

      other : {X : Type 0} (reply : Reply) (name : Hash) → result ≡ Ok reply → result ≡ Ok (Reply.Started name) → ¬ HasStarted (Ok reply) → X
      other reply name is started never = absurd (never (subst HasStarted (sym started ∙ is) tt))

      whole : (begun : Result Hash CollectFault) → IfOk begun (λ name. length name ≤ 32) → StartReplies r begun before met result → (name : Hash) → result ≡ Ok (Reply.Started name) → ¬ IsLong (Reply.Started name)
      whole (Ok own) size says name is long = (let same : own ≡ name = cc (sym says.0 ∙ is) in started_is_short name (subst (λ (h : Hash). length h ≤ 32) same size) long)
      whole (Err CollectFault.Start) size says name is long = other Reply.StartFault name says.0 is (λ h. h)
      whole (Err (CollectFault.Busy h)) size says name is long = other (Reply.Busy h) name says.0 is (λ h. h)
      whole (Err (CollectFault.Limit limit)) size says name is long = other (Reply.Limit limit) name says.0 is (λ h. h)
      whole (Err CollectFault.Memory) size says name is long = other Reply.Memory name says.0 is (λ h. h)
      whole (Err CollectFault.Ground) size says name is long = absurd (cc (sym says.0 ∙ is))
      whole (Err (CollectFault.Held place)) size says name is long = both_some (branch_name_at r place) _ _ ⊥ (λ own h again. held own h.0 h.1 h.2) says says
        where
          held : (own : Bytes) (reply : Reply) → result ≡ Ok reply → HeldReplies own before met reply → ⊥
          held own reply is_it (inl told) = other (Reply.Held own) name (is_it ∙ ap Ok told.0) is (λ h. h)
          held own reply is_it (inr short) = other Reply.Memory name (is_it ∙ ap Ok short.0) is (λ h. h)

-- the session ends by a fault of the ground alone
pub start_ends : (r : Repository) (before met : Met) (result : Result Reply SessionEnd) (held : Type 0) (begun : Result Hash CollectFault) → StartReplies r begun before met result → IfErr result (EndsBy held)
start_ends r before met result held begun says = by begun says
  where
    Ends : Result Reply SessionEnd → Type 0
    Ends result = IfErr result (EndsBy held)

    told : (reply : Reply) → result ≡ Ok reply → Ends result
    told reply is = subst Ends (sym is) tt

    by : (begun : Result Hash CollectFault) → StartReplies r begun before met result → Ends result
    by (Ok name) says = told (Reply.Started name) says.0
    by (Err CollectFault.Start) says = told Reply.StartFault says.0
    by (Err (CollectFault.Busy name)) says = told (Reply.Busy name) says.0
    by (Err (CollectFault.Limit limit)) says = told (Reply.Limit limit) says.0
    by (Err CollectFault.Memory) says = told Reply.Memory says.0
    by (Err CollectFault.Ground) says = subst Ends (sym says.0) tt
    by (Err (CollectFault.Held place)) says = both_some (branch_name_at r place) _ _ (Ends result) (λ name h other. told h.0 h.1) says says

-- and it meets no damage
pub start_sound : (r : Repository) (before met : Met) (result : Result Reply SessionEnd) (begun : Result Hash CollectFault) → StartReplies r begun before met result → ¬ MetDamage result
start_sound r before met result begun says = by result (start_ends r before met result (Unit {0}) begun says)
  where
    by : (result : Result Reply SessionEnd) → IfErr result (EndsBy (Unit {0})) → ¬ MetDamage result
    by (Ok reply) ends damaged = damaged
    by (Err SessionEnd.Ground) ends damaged = damaged
    by (Err (SessionEnd.Damaged at names)) ends damaged = ends.0 tt

-- ---- one is to end

pub none_left : (c : Noted) → CountsLeft 0 c c
none_left c = record { rose = inl (omega arith); none = λ _. refl; file_faults = refl; say_faults = refl; damages = refl; bound = refl }

pub cancel_counts : (done : Result Cancelled CancelFault) (met : Met) (left : ℕ) (old new : Noted) → met ≡ met_by_cancel done left → CountsCancel done met.left old new → CountsBy (cancel_answer done) Command.Cancel met old new
cancel_counts (Ok Cancelled.Done) met left old new is counts = counts
cancel_counts (Ok Cancelled.Orphan) met left old new is counts = subst (λ (k : ℕ). CountsLeft k old new) (sym (ap (λ (m : Met). m.left) is)) (subst (CountsLeft 0 old) (sym counts) (none_left old))
cancel_counts (Err CancelFault.Idle) met left old new is counts = subst (λ (k : ℕ). CountsLeft k old new) (sym (ap (λ (m : Met). m.left) is)) (subst (CountsLeft 0 old) (sym counts) (none_left old))
cancel_counts (Err CancelFault.Ground) met left old new is counts = counts

pub cancel_quiet : (done : Result Cancelled CancelFault) (met : Met) (old new : Noted) → IfOk (cancel_answer done) (QuietIfLong met old new)
cancel_quiet (Ok Cancelled.Done) met old new = λ long. absurd (cancelled_is_short long)
cancel_quiet (Ok Cancelled.Orphan) met old new = λ long. absurd (orphan_is_short long)
cancel_quiet (Err CancelFault.Idle) met old new = λ long. absurd (idle_is_short long)
cancel_quiet (Err CancelFault.Ground) met old new = tt

pub cancel_sound : (done : Result Cancelled CancelFault) → ¬ MetDamage (cancel_answer done)
cancel_sound (Ok Cancelled.Done) damaged = damaged
cancel_sound (Ok Cancelled.Orphan) damaged = damaged
cancel_sound (Err CancelFault.Idle) damaged = damaged
cancel_sound (Err CancelFault.Ground) damaged = damaged

pub cancel_ends : (done : Result Cancelled CancelFault) (held : Type 0) → IfErr (cancel_answer done) (EndsBy held)
cancel_ends (Ok Cancelled.Done) held = tt
cancel_ends (Ok Cancelled.Orphan) held = tt
cancel_ends (Err CancelFault.Idle) held = tt
cancel_ends (Err CancelFault.Ground) held = tt

module _ (tells : Bool) (dir : Bytes) (x y : spawn.Told) (s : Session) (store : Store) (met : Met) (done : Result Cancelled CancelFault) (left : ℕ) (is_met : met ≡ met_by_cancel done left) (over : store.held.collection ≡ None) (m n : SpawnCounts) where
  abbrev Over : Type 0
  Over = AskedSo tells dir x y s (record s { store = store; met = met }) Command.Cancel (cancel_answer done) m n

  abbrev Killed : Collection → Type 0
  Killed c = (end : Option Reaped) × IsKilled c done end × (IsTrue tells → y ≡ told_after end x) × spawned.Counts false false (is_some end) (not (is_some end)) m n

  start_never : (done : Result Cancelled CancelFault) → (met_by_cancel done left).start_failed ≡ false
  start_never (Ok Cancelled.Done) = refl
  start_never (Ok Cancelled.Orphan) = refl
  start_never (Err fault) = refl

  no_start : met.start_failed ≡ false
  no_start = ap (λ (k : Met). k.start_failed) is_met ∙ start_never done

  child_never : (done : Result Cancelled CancelFault) → (met_by_cancel done left).child ≡ Child.NotAsked
  child_never (Ok Cancelled.Done) = refl
  child_never (Ok Cancelled.Orphan) = refl
  child_never (Err fault) = refl

  no_child : met.child ≡ Child.NotAsked
  no_child = ap (λ (k : Met). k.child) is_met ∙ child_never done

  -- only where the kill failed
  kill_so : (done : Result Cancelled CancelFault) → done ≢ Ok Cancelled.Orphan → (met_by_cancel done left).kill_failed ≡ false
  kill_so (Ok Cancelled.Done) not = refl
  kill_so (Ok Cancelled.Orphan) not = absurd (not refl)
  kill_so (Err fault) not = refl

  no_kill : done ≢ Ok Cancelled.Orphan → met.kill_failed ≡ false
  no_kill not = ap (λ (k : Met). k.kill_failed) is_met ∙ kill_so done not

  kill_of : done ≡ Ok Cancelled.Orphan → met.kill_failed ≡ true
  kill_of is = ap (λ (k : Met). k.kill_failed) (is_met ∙ ap (λ (d : Result Cancelled CancelFault). met_by_cancel d left) is)

  -- behind a fault no sweep was made
  left_never : (done : Result Cancelled CancelFault) → IsErr done → (met_by_cancel done left).left ≡ 0
  left_never (Ok x) failed = absurd (cc failed)
  left_never (Err fault) failed = refl

  none_unswept : IsErr done → met.left ≡ 0
  none_unswept failed = ap (λ (k : Met). k.left) is_met ∙ left_never done failed

  cut_short : IsErr (cancel_answer done) → (met.start_failed ≡ false) × (met.kill_failed ≡ false) × (met.left ≡ 0)
  cut_short = by done refl
    where
      by : (x : Result Cancelled CancelFault) → done ≡ x → IsErr (cancel_answer x) → (met.start_failed ≡ false) × (met.kill_failed ≡ false) × (met.left ≡ 0)
      by (Ok Cancelled.Done) is failed = absurd (cc failed)
      by (Ok Cancelled.Orphan) is failed = absurd (cc failed)
      by (Err CancelFault.Idle) is failed = absurd (cc failed)
      by (Err CancelFault.Ground) is failed = (no_start, no_kill (λ orphan. absurd (cc (sym is ∙ orphan))), none_unswept (subst IsErr (sym is) refl))

  bare_by : (done : Result Cancelled CancelFault) → IsUnanswered (met_by_cancel done left)
  bare_by (Ok Cancelled.Done) = (refl, refl, refl)
  bare_by (Ok Cancelled.Orphan) = (refl, refl, refl)
  bare_by (Err fault) = (refl, refl, refl)

  bare : IsUnanswered met
  bare = subst IsUnanswered (sym is_met) (bare_by done)

  never_started : (done : Result Cancelled CancelFault) → ¬ HasStarted (cancel_answer done)
  never_started (Ok Cancelled.Done) has = has
  never_started (Ok Cancelled.Orphan) has = has
  never_started (Err CancelFault.Idle) has = has
  never_started (Err CancelFault.Ground) has = has

  done_of : (done : Result Cancelled CancelFault) → cancel_answer done ≡ Ok Reply.Cancelled → done ≡ Ok Cancelled.Done
  done_of (Ok Cancelled.Done) is = refl
  done_of (Ok Cancelled.Orphan) is = absurd (cc is)
  done_of (Err CancelFault.Idle) is = absurd (cc is)
  done_of (Err CancelFault.Ground) is = absurd (cc is)

  never_sliced : (done : Result Cancelled CancelFault) (one other : Option Collection) → IfOk (cancel_answer done) (IsSlicedIn one other)
  never_sliced (Ok Cancelled.Done) one other = tt
  never_sliced (Ok Cancelled.Orphan) one other = tt
  never_sliced (Err CancelFault.Idle) one other = tt
  never_sliced (Err CancelFault.Ground) one other = tt

  -- none runs
  pub idle_asked : done ≡ Err CancelFault.Idle → y ≡ x → n ≡ m → Over
  idle_asked is same still = nothing_asked tells dir x y s (record s { store = store; met = met }) Command.Cancel (cancel_answer done) m n same still (never_started done) (λ cancelled. absurd (cc (sym (done_of done cancelled) ∙ is))) (no_start, no_kill (λ orphan. absurd (cc (sym orphan ∙ is))), no_child, none_unswept (subst IsErr (sym is) refl)) (goes_none met.child (cancel_answer done) [] s.store.held.collection store.held.collection over) (never_sliced done s.store.held.collection store.held.collection) (λ _. (bare, λ h. h))

  -- its child had been reaped
  pub kept_asked : (c : Collection) → s.store.held.collection ≡ Some c → IsSome c.exit → done ≢ Ok Cancelled.Orphan → y ≡ x → n ≡ m → Over
  kept_asked c runs kept not same still = (
    [],
    [],
    λ _. same ∙ none_added x,
    record {
      started = λ has. absurd (never_started done has);
      none_started = λ _. refl;
      goes_on = goes_none met.child (cancel_answer done) [] s.store.held.collection store.held.collection over;
      sliced = never_sliced done s.store.held.collection store.held.collection;
      few = λ is. absurd (cc is);
      running = λ is. absurd (cc (sym no_child ∙ is));
      not_running = λ _. ap (λ (k : SpawnCounts). k.running) still;
      waits = inl (ap (λ (k : SpawnCounts). k.waits) still);
      no_wait = λ _. ap (λ (k : SpawnCounts). k.waits) still;
      waited = λ is. absurd (cc is);
      reaps = inl (ap (λ (k : SpawnCounts). k.reaps) still);
      none_reaped = λ not. absurd (not tt);
      heard = λ reaped is. absurd (cc (sym no_child ∙ is));
      cancelled = λ is. inr (subst (λ (o : Option Collection). IsSome (exit_kept (phase_of o))) (sym runs) kept);
      unheard = λ is. absurd (cc (sym no_child ∙ is));
      start = λ failed. never_failed met.start_failed no_start failed;
      kill = λ failed. never_failed met.kill_failed (no_kill not) failed;
      no_fault = λ _ _ _. ap (λ (k : SpawnCounts). k.spawn_faults) still;
      cut = cut_short;
      unanswered = λ _. bare;
      reached = λ _ h. h;
    },
  )

  -- its child was killed
  pub killed_asked : (c : Collection) → Killed c → Over
  killed_asked c (Some reaped, killed, told, counts) = (
    [],
    reaped ∷ [],
    λ t. told t ∙ (λ i. record { started = sym (append-nil x.started) i; reaped = x.reaped ++ reaped ∷ [] }),
    record {
      started = λ has. absurd (never_started done has);
      none_started = λ _. refl;
      goes_on = goes_none met.child (cancel_answer done) [] s.store.held.collection store.held.collection over;
      sliced = never_sliced done s.store.held.collection store.held.collection;
      few = λ is. absurd (cc is);
      running = λ is. absurd (cc (sym no_child ∙ is));
      not_running = λ _. counts.running;
      waits = inl counts.waits;
      no_wait = λ _. counts.waits;
      waited = λ is. absurd (cc is);
      reaps = inr counts.reaps;
      none_reaped = λ not. absurd (not tt);
      heard = λ reaped is. absurd (cc (sym no_child ∙ is));
      cancelled = λ is. inl counts.reaps;
      unheard = λ is. absurd (cc (sym no_child ∙ is));
      start = λ failed. never_failed met.start_failed no_start failed;
      kill = λ failed. never_failed met.kill_failed (no_kill (λ orphan. absurd (cc (killed.orphan.0 orphan)))) failed;
      no_fault = λ _ _ _. counts.spawn_faults;
      cut = cut_short;
      unanswered = λ _. bare;
      reached = λ _ h. h;
    },
  )
  killed_asked c (None, killed, told, counts) = (
    [],
    [],
    λ t. told t ∙ none_added x,
    record {
      started = λ has. absurd (never_started done has);
      none_started = λ _. refl;
      goes_on = goes_none met.child (cancel_answer done) [] s.store.held.collection store.held.collection over;
      sliced = never_sliced done s.store.held.collection store.held.collection;
      few = λ is. absurd (cc is);
      running = λ is. absurd (cc (sym no_child ∙ is));
      not_running = λ _. counts.running;
      waits = inl counts.waits;
      no_wait = λ _. counts.waits;
      waited = λ is. absurd (cc is);
      reaps = inl counts.reaps;
      none_reaped = λ not. absurd (not tt);
      heard = λ reaped is. absurd (cc (sym no_child ∙ is));
      cancelled = λ is. absurd (cc (sym (done_of done is) ∙ killed.orphan.1 refl));
      unheard = λ is. absurd (cc (sym no_child ∙ is));
      start = λ failed. never_failed met.start_failed no_start failed;
      kill = λ failed. counts.spawn_faults;
      no_fault = λ _ _ kill. absurd (cc (sym (kill_of (killed.orphan.1 refl)) ∙ kill));
      cut = cut_short;
      unanswered = λ _. bare;
      reached = λ _ h. h;
    },
  )

  -- a kept exit is that of no orphan
  kept_orphan : (r : Repository) (c : Collection) (x : Result Cancelled CancelFault) → s.store.held.collection ≡ Some c → IsSome c.exit → store.met ≡ met_by_cancel x left → CancelReplies x (AnswersCall r s.store.held.collection Command.Cancel store.met store.held) → x ≢ Ok Cancelled.Orphan
  kept_orphan r c (Ok Cancelled.Done) runs kept e A is = absurd (cc is)
  kept_orphan r c (Ok Cancelled.Orphan) runs kept e A is =
      let met : IsMet (state_at r (phase_of s.store.held.collection) (work_at s.work no_view)) Command.Cancel (commits.conditions_of store.met) Reply.CancelledOrphan = (A.turns (work_at s.work no_view)).0 in
      let none : exit_kept (phase_of s.store.held.collection) ≡ None = (met.kill (subst IsTrue (sym (ap (λ (k : Met). k.kill_failed) e)) refl)).1 in
      let gone : c.exit ≡ None = subst (λ (o : Option Collection). exit_kept (phase_of o) ≡ None) runs none in
      absurd (cc (subst IsSome gone kept))
  kept_orphan r c (Err fault) runs kept e A is = absurd (cc is)

  pub cancel_asked : (r : Repository) → (s.store.held.collection ≡ None) ↔ (done ≡ Err CancelFault.Idle) → CancelReplies done (AnswersCall r s.store.held.collection Command.Cancel store.met store.held) → store.met ≡ met_by_cancel done left → (done ≡ Err CancelFault.Idle → (y ≡ x) × (n ≡ m))
      → ((c : Collection) → s.store.held.collection ≡ Some c → IsSome c.exit → (y ≡ x) × (n ≡ m)) → ((c : Collection) → s.store.held.collection ≡ Some c → c.exit ≡ None → Killed c) → Over
  cancel_asked r either A e idle kept killed = by s.store.held.collection refl
    where
      one : (c : Collection) → s.store.held.collection ≡ Some c → (exit : Option Reaped) → c.exit ≡ exit → Over
      one c is None none = killed_asked c (killed c is none)
      one c is (Some reaped) some = (let there : IsSome c.exit = ap is_some some in let same = kept c is there in kept_asked c is there (kept_orphan r c done is there e A) same.0 same.1)

      by : (o : Option Collection) → s.store.held.collection ≡ o → Over
      by None is = (let none = either.0 is in let same = idle none in idle_asked none same.0 same.1)
      by (Some c) is = one c is c.exit refl

-- ---- the other commands

pub plain_counts : (command : Command) (result : Result Reply SessionEnd) (met : Met) (old new : Noted) → HandlesNone command → Counts counted_end result old new → CountsBy result command met old new
plain_counts command (Err end) met old new handles counts = counts
plain_counts Command.Look (Ok reply) met old new handles counts = absurd handles
plain_counts Command.Finish (Ok reply) met old new handles counts = absurd handles
plain_counts Command.Cancel (Ok reply) met old new handles counts = absurd handles
plain_counts _ (Ok reply) met old new handles counts = counts

pub plain_quiet : (result : Result Reply SessionEnd) (met : Met) (old new : Noted) → IfOk result TellsNone → MeetsNone met → Counts counted_end result old new → IfOk result (QuietIfLong met old new)
plain_quiet (Ok reply) met old new none meets counts = λ long. (tells_start (Ok reply) none, meets, counts, tells_unswept reply none)
plain_quiet (Err end) met old new none meets counts = tt

-- ---- lines

pub lined_asked : (tells : Bool) (dir : Bytes) (x y : spawn.Told) (s s' : Session) (met : Met) (command : Command) (line : Bytes) (result : Result Reply SessionEnd) (m n : SpawnCounts) → IsLineOf command line → ((other : Command) → IsLineOf other line → other ≡ command)
    → AskedSo tells dir x y (record s { met = met }) s' command result m n → Spawns tells dir x y s s' line result m n
lined_asked tells dir x y s s' met command line result m n served one (jobs, ends, told, asked) = record {
  jobs = jobs;
  ends = ends;
  told = told;
  asked = record {
    command = λ other spelled. subst (λ (c : Command). Asked s s' c result jobs ends m n) (sym (one other spelled)) (record {
      started = asked.started;
      none_started = asked.none_started;
      goes_on = asked.goes_on;
      sliced = asked.sliced;
      few = asked.few;
      running = asked.running;
      not_running = asked.not_running;
      waits = asked.waits;
      no_wait = asked.no_wait;
      waited = asked.waited;
      reaps = asked.reaps;
      none_reaped = asked.none_reaped;
      heard = asked.heard;
      cancelled = asked.cancelled;
      unheard = asked.unheard;
      start = asked.start;
      kill = asked.kill;
      no_fault = asked.no_fault;
      cut = asked.cut;
      unanswered = asked.unanswered;
      reached = asked.reached;
    });
    none = λ none. absurd (none command served);
    goes_on = asked.goes_on;
    sliced = asked.sliced;
  };
}

pub nothing_spawned : (tells : Bool) (dir : Bytes) (x : spawn.Told) (s s' : Session) (line : Bytes) (reply : Reply) (m : SpawnCounts) → TellsNone reply → MeetsNone s'.met → s'.store.held.collection ≡ s.store.held.collection → Spawns tells dir x x s s' line (Ok reply) m m
nothing_spawned tells dir x s s' line reply m none met same = record {
  jobs = [];
  ends = [];
  told = λ _. none_added x;
  asked = record {
    command = λ command served. asks_nothing s s' command (Ok reply) m (tells_start (Ok reply) none) (tells_over (Ok reply) none) met (goes_same s'.met.child (Ok reply) s.store.held.collection s'.store.held.collection same) (tells_slice (Ok reply) s.store.held.collection s'.store.held.collection none) (never_cut s' command reply);
    none = λ _. (refl, refl, refl);
    goes_on = goes_same s'.met.child (Ok reply) s.store.held.collection s'.store.held.collection same;
    sliced = tells_slice (Ok reply) s.store.held.collection s'.store.held.collection none;
  };
}

any_counts : (command : Command) (result : Result Reply SessionEnd) (met : Met) (old new : Noted) → CountsBy result command met old new → CountsAny result old new
any_counts command (Err end) met old new counts = counts
any_counts Command.Look (Ok reply) met old new counts = (met.left, counts)
any_counts Command.Finish (Ok reply) met old new counts = (met.left, counts)
any_counts Command.Cancel (Ok reply) met old new counts = (met.left, counts)
any_counts _ (Ok reply) met old new counts = (0, subst (CountsLeft 0 old) (sym counts) (none_left old))

pub lined_counts : (command : Command) (line : Bytes) (result : Result Reply SessionEnd) (met : Met) (old new : Noted) → IsLineOf command line → ((other : Command) → IsLineOf other line → other ≡ command) → CountsBy result command met old new → CountsIn line result met old new
lined_counts command line result met old new is one counts = record {
  command = λ other spelled. subst (λ (c : Command). CountsBy result c met old new) (sym (one other spelled)) counts;
  any = any_counts command result met old new counts;
  none = λ no. absurd (no command is);
}

nothing_counted : (command : Command) (reply : Reply) (met : Met) (c : Noted) → met.left ≡ 0 → CountsBy (Ok reply) command met c c
nothing_counted Command.Look reply met c zero = subst (λ (k : ℕ). CountsLeft k c c) (sym zero) (none_left c)
nothing_counted Command.Finish reply met c zero = subst (λ (k : ℕ). CountsLeft k c c) (sym zero) (none_left c)
nothing_counted Command.Cancel reply met c zero = subst (λ (k : ℕ). CountsLeft k c c) (sym zero) (none_left c)
nothing_counted _ reply met c zero = refl

pub none_counts : (line : Bytes) (reply : Reply) (met : Met) (c : Noted) → met.left ≡ 0 → CountsIn line (Ok reply) met c c
none_counts line reply met c zero = record {
  command = λ command served. nothing_counted command reply met c zero;
  any = (0, none_left c);
  none = λ _. refl;
}

-- ---- texts

module _ (tells : Bool) (dir : Bytes) (x y : spawn.Told) (s s' : Session) (met : Met) (line : Bytes) (reply : Reply) (m n : SpawnCounts) (old new : Noted) where
  abbrev Told_so : Met → Reply → Type 0
  Told_so now written = Spawns tells dir x y s (record s' { met = now }) line (Ok written) m n × CountsIn line (Ok written) now old new

  pub whole_asked : Spawns tells dir x y s s' line (Ok reply) m n → CountsIn line (Ok reply) s'.met old new → met ≡ s'.met → Told_so met reply
  whole_asked spawns counts is = subst (λ (k : Met). Told_so k reply) (sym is) (spawns, counts)

  -- there was no memory for a long text
  pub unwritten : Spawns tells dir x y s s' line (Ok reply) m n → IsLong reply → QuietIfLong s'.met old new reply → met ≡ met_only true → Told_so met Reply.Memory
  unwritten spawns long quiet is = subst (λ (k : Met). Told_so k Reply.Memory) (sym is) (
    record {
      jobs = spawns.jobs;
      ends = spawns.ends;
      told = spawns.told;
      asked = record {
        command = λ command served. (let asked = spawns.asked.command command served in record {
          started = λ has. absurd has;
          none_started = λ not. asked.none_started (quiet long).0;
          goes_on = subst (λ (k : Child). GoesOnBy k spawns.jobs s.store.held.collection s'.store.held.collection) (quiet long).1.2 asked.goes_on;
          sliced = tt;
          few = asked.few;
          running = λ is. absurd (cc is);
          not_running = λ _. asked.not_running (λ is. absurd (cc (sym (quiet long).1.2 ∙ is)));
          waits = asked.waits;
          no_wait = asked.no_wait;
          waited = λ is either. asked.waited is (elim either [ inl some ↦ inl some | inr fault ↦ absurd (cc fault) ]);
          reaps = asked.reaps;
          none_reaped = asked.none_reaped;
          heard = λ reaped is. absurd (cc is);
          cancelled = λ is. absurd (cc is);
          unheard = λ is. absurd (cc is);
          start = λ failed. absurd (cc failed);
          kill = λ failed. absurd (cc failed);
          no_fault = λ _ _ _. asked.no_fault (λ is. absurd (cc (sym (quiet long).1.2 ∙ is))) (quiet long).1.0 (quiet long).1.1;
          cut = λ failed. absurd (cc failed);
          unanswered = λ failed. absurd (cc failed);
          reached = λ failed. absurd (cc failed);
        });
        none = spawns.asked.none;
        goes_on = subst (λ (k : Child). GoesOnBy k spawns.jobs s.store.held.collection s'.store.held.collection) (quiet long).1.2 spawns.asked.goes_on;
        sliced = tt;
      };
    },
    subst (CountsIn line (Ok Reply.Memory) (met_only true) old) (sym (quiet long).2) (none_counts line Reply.Memory (met_only true) old refl),
  )

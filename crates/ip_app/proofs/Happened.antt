-- What a command met is what happened.
--     exchange_of      a line's exchange
--     started_of, starts_of      the job of the child that was started in it.      none_started_of      none was.      hears_of      which child ended that was heard of
--     happens_of      it tells what happened, by what the session asked and counted.      cut_of      so does one that was cut short
--     later_in      what the spawner counted meanwhile.      later_gone      and while a child was let go
--     happen_more, spawned_more      of one exchange more.      phase_all      the phase behind several
use Rattle.std.proofs.Common.{◌≡◌, ◌≢◌, inl, inr, ℕ, ◌+◌, ◌-◌, ◌^◌, ◌≤◌, Bool, true, false, List, [], ◌∷◌, ◌++◌, refl, sym, ap, ap₂, ◌∙◌, subst, arith, Option, None, Some, Ok, Err}
use Rattle.std.specs.Prelude.{◌⊎◌, if◌then◌else◌, IsSomeAnd, IsTrue}
use Rattle.std.proofs.lemmas.Bool.{cases_lt}
use Rattle.std.proofs.lemmas.List.{flat_map_more}
use Rattle.ip_ground.specs.Counts.{Noted, Rose, RoseBy, Counted, as_nothing, as_fault, as_damage, CountsIf}
use Rattle.ip_base.specs.declared.exit.Reaped.{Reaped}
use Rattle.ip_spawn.specs.Children as spawn
use Rattle.ip_spawn.specs.Counts.{counted}
use Rattle.ip_spawn.specs.declared.job.Job.{Job}
use Rattle.ip_spawn.specs.declared.spawner.SpawnCounts.{SpawnCounts}
use Rattle.ip_spawn.proofs.Rising.{rose_counted}
use Rattle.ip_spec.specs.declared.command.Command.{Command}
use Rattle.ip_spec.specs.declared.met.Child.{Child}
use Rattle.ip_spec.specs.declared.met.Met.{Met}
use Rattle.ip_spec.specs.declared.reply.Difference.{Difference}
use Rattle.ip_spec.specs.declared.reply.Reply.{Reply}
use Rattle.ip_spec.specs.Machine.{State, Conditions, exit_kept}
use Rattle.ip_spec.specs.Merge.{Rule}
use Rattle.ip_spec.specs.Path.{Bytes}
use Rattle.ip_spec.specs.Repository.{Repository}
use Rattle.ip_spec.specs.Line.{IsLineOf}
use Rattle.ip_spec.specs.Script.{LineStep}
use Rattle.ip_image.specs.declared.counts.TurnCounts.{TurnCounts}
use Rattle.ip_image.specs.declared.slot.Slot.{Slot}
use Rattle.ip_held.specs.declared.collection.Collection.{Collection}
use Rattle.ip_held.specs.declared.held.Held.{Held}
use Rattle.ip_held.specs.Collecting.{phase_of, IsJobOf, IsPhaseOf}
use Rattle.ip_collects.specs.Starting.{IsJobAt}
use Rattle.ip_session.specs.declared.session.Session.{Session}
use Rattle.ip_session.specs.declared.session.SessionEnd.{SessionEnd}
use Rattle.ip_session.specs.Asking.{HasStarted, MayReap, HeardOf, Asked, AskedIn, LetsGo, starts_in}
use Rattle.ip_session.specs.Session.{IsServing, conditions_with, counted_end, CountsBy, CountsIn}
use Rattle.std.specs.Prelude.{Result}
use Rattle.ip_app.specs.Exchanges.{Exchange, after_all}
use Rattle.ip_app.specs.Happening.{AsksBy, HappensBy, Happens, HappensCut, AllHappen, phase_after, started_in, ends_in}
use Rattle.ip_app.specs.Turns.{turn_counts, AreCounts, SpawnsLater}
use Rattle.ip_app.proofs.Counting.{risen}

-- a line's exchange
abbrev pub exchange_of : Bytes → Met → TurnCounts → TurnCounts → Option Difference → List Job → List Reaped → Reply → State → Exchange
exchange_of line met before later difference jobs ends reply after = record { line = line; turn = record { met = met; before = before; after = later }; difference = difference; started = jobs; reaped = ends; reply = reply; after = after }

-- the job that was started
job_of : (store : Held) (slot : Slot) (jobs : List Job) (collection : Option Collection) → IsSomeAnd collection (λ c. (jobs ≡ c.job ∷ []) × (c.exit ≡ None) × IsJobAt store c.commit slot c.job) → (job : Job) × (jobs ≡ job ∷ [])
job_of store slot jobs None h = absurd h
job_of store slot jobs (Some c) h = (c.job, h.0)

-- by the collection that ran, how the child ended that was heard of
heard_of : (collection : Option Collection) (reaped : Reaped) (ends : List Reaped) (p q : SpawnCounts) → IsSomeAnd collection (λ c. HeardOf c reaped ends p q)
    → ((exit_kept (phase_of collection) ≡ None) × (ends ≡ reaped ∷ []) × (q.reaps ≡ counted true p.reaps)) ⊎ ((exit_kept (phase_of collection) ≡ Some reaped) × (ends ≡ []) × (q ≡ p))
heard_of None reaped ends p q h = absurd h
heard_of (Some c) reaped ends p q h = h.1

left_of : (command : Command) (reply : Reply) (met : Met) (a b : Noted) → MayReap command → CountsBy (Ok reply) command met a b → RoseBy met.left a.remove_faults b.remove_faults
left_of Command.Look reply met a b may counts = counts.rose
left_of Command.Finish reply met a b may counts = counts.rose
left_of Command.Cancel reply met a b may counts = counts.rose
left_of _ reply met a b may counts = absurd may

none_left_of : (command : Command) (reply : Reply) (met : Met) (a b : Noted) → (MayReap command → met.left ≡ 0) → CountsBy (Ok reply) command met a b → b.remove_faults ≡ a.remove_faults
none_left_of Command.Look reply met a b none counts = ap (λ (c : Noted). c.remove_faults) (counts.none (none tt))
none_left_of Command.Finish reply met a b none counts = ap (λ (c : Noted). c.remove_faults) (counts.none (none tt))
none_left_of Command.Cancel reply met a b none counts = ap (λ (c : Noted). c.remove_faults) (counts.none (none tt))
none_left_of _ reply met a b none counts = ap (λ (c : Noted). c.remove_faults) counts

module _ (s s' : Session) (reply : Reply) (difference : Option Difference) (jobs : List Job) (ends : List Reaped) (after : State) (a b : Noted) (p q : SpawnCounts) where
  abbrev plain : Bytes → Exchange
  plain line = exchange_of line s'.met (turn_counts a p) (turn_counts b q) difference jobs ends reply after

  asks_by : (line : Bytes) (command : Command) (result : Result Reply SessionEnd) → Asked s s' command result jobs ends p q → AsksBy command (phase_of s.store.held.collection) (plain line)
  asks_by line command result asked = record {
    running = asked.running;
    not_running = asked.not_running;
    waits = asked.waits;
    no_wait = asked.no_wait;
    waited = asked.waited;
    reaps = asked.reaps;
    none_reaped = asked.none_reaped;
    heard = λ reaped is. heard_of s.store.held.collection reaped ends p q (asked.heard reaped is);
    unheard = asked.unheard;
    start = asked.start;
    kill = asked.kill;
    no_fault = asked.no_fault;
  }

  by_command : (line : Bytes) (command : Command) → Asked s s' command (Ok reply) jobs ends p q → CountsBy (Ok reply) command s'.met a b → HappensBy command (phase_of s.store.held.collection) (plain line)
  by_command line command asked counts = record {
    asks = asks_by line command (Ok reply) asked;
    started = λ has. job_of s.store.held s'.store.held.slot jobs s'.store.held.collection (asked.started has);
    none_started = asked.none_started;
    cancelled = λ is. asked.cancelled (ap (λ (r : Reply). Ok r) is);
    left = λ may. left_of command reply s'.met a b may counts;
    none_left = λ none. none_left_of command reply s'.met a b none counts;
  }

  plainly : (line : Bytes) → AskedIn s s' line (Ok reply) jobs ends p q → CountsIn line (Ok reply) s'.met a b → Happens (phase_of s.store.held.collection) (plain line)
  plainly line asked counts = record {
    command = λ command served. by_command line command (asked.command command served) (counts.command command served);
    none = λ no. let it = asked.none no in (it.0, it.1, it.2, ap (λ (c : Noted). c.remove_faults) (counts.none no));
  }

  pub happens_of : (line read : Bytes) (met : Met) (before later : TurnCounts) → read ≡ line → met ≡ s'.met → before ≡ turn_counts a p → later ≡ turn_counts b q → AskedIn s s' read (Ok reply) jobs ends p q → CountsIn read (Ok reply) s'.met a b
      → Happens (phase_of s.store.held.collection) (exchange_of line met before later difference jobs ends reply after)
  happens_of line read met before later same same_met from to asked counts =
      let phase = phase_of s.store.held.collection in
      subst (λ (l : Bytes). Happens phase (exchange_of l met before later difference jobs ends reply after)) same
      (subst (λ (m : Met). Happens phase (exchange_of read m before later difference jobs ends reply after)) (sym same_met)
      (subst (λ (c : TurnCounts). Happens phase (exchange_of read s'.met c later difference jobs ends reply after)) (sym from)
      (subst (λ (c : TurnCounts). Happens phase (exchange_of read s'.met (turn_counts a p) c difference jobs ends reply after)) (sym to) (plainly read asked counts))))

-- ---- a command that was cut short

-- no child was started: whether the line is a command need not be known
pub none_started_of : (s s' : Session) (line : Bytes) (result : Result Reply SessionEnd) (jobs : List Job) (ends : List Reaped) (before after : SpawnCounts) → AskedIn s s' line result jobs ends before after → ¬ HasStarted result → jobs ≡ []
none_started_of s s' line result [] ends before after asked unstarted = refl
none_started_of s s' line result (job ∷ jobs) ends before after asked unstarted = (asked.none (λ command served. (let none = (asked.command command served).none_started unstarted in absurd (cc none)))).0

-- no removal failed
removals_still : (c : Counted) (a b : Noted) → CountsIf c a b → b.remove_faults ≡ a.remove_faults
removals_still as_nothing a b same = ap (λ (n : Noted). n.remove_faults) same
removals_still as_fault a b fault = fault.remove_faults
removals_still as_damage a b found = found.remove_faults

module _ (s s' : Session) (end : SessionEnd) (difference : Option Difference) (jobs : List Job) (ends : List Reaped) (reply : Reply) (after : State) (a b : Noted) (p q : SpawnCounts) where
  cut_plainly : (line : Bytes) → AskedIn s s' line (Err end) jobs ends p q → CountsIf (counted_end end) a b → HappensCut (phase_of s.store.held.collection) (exchange_of line s'.met (turn_counts a p) (turn_counts b q) difference jobs ends reply after)
  cut_plainly line asked counted = record {
    none_started = none_started_of s s' line (Err end) jobs ends p q asked (λ has. has);
    command = λ command served. let by = asked.command command served in let none = by.cut refl in record {
      asks = asks_by s s' reply difference jobs ends after a b p q line command (Err end) by;
      none_failed = (none.0, none.1);
      none_left = (none.2, removals_still (counted_end end) a b counted);
      unanswered = by.unanswered refl;
      reached = by.reached refl;
    };
    none = λ no. let it = asked.none no in (it.1, it.2, removals_still (counted_end end) a b counted);
  }

  pub cut_of : (line : Bytes) (met : Met) (before later : TurnCounts) → met ≡ s'.met → before ≡ turn_counts a p → later ≡ turn_counts b q → AskedIn s s' line (Err end) jobs ends p q → CountsIf (counted_end end) a b → HappensCut (phase_of s.store.held.collection) (exchange_of line met before later difference jobs ends reply after)
  cut_of line met before later same_met from to asked counted =
      let phase = phase_of s.store.held.collection in
      subst (λ (m : Met). HappensCut phase (exchange_of line m before later difference jobs ends reply after)) (sym same_met)
      (subst (λ (c : TurnCounts). HappensCut phase (exchange_of line s'.met c later difference jobs ends reply after)) (sym from)
      (subst (λ (c : TurnCounts). HappensCut phase (exchange_of line s'.met (turn_counts a p) c difference jobs ends reply after)) (sym to) (cut_plainly line asked counted)))

-- ---- the child that was started

no_start : (refused : Bool) (at : ℕ) → HasStarted (Ok (if refused then Reply.Memory else Reply.Bad at)) → ⊥
no_start true at has = has
no_start false at has = has

job_at : (store : Held) (slot : Slot) (jobs : List Job) (collection : Option Collection) → IsSomeAnd collection (λ c. (jobs ≡ c.job ∷ []) × (c.exit ≡ None) × IsJobAt store c.commit slot c.job)
    → (job : Job) × (jobs ≡ job ∷ []) × IsJobOf slot job × (job.attempt ≡ store.slot.next_attempt) × (job.end ≡ slot.end)
job_at store slot jobs None h = absurd h
job_at store slot jobs (Some c) h = (c.job, h.0, h.2.of, h.2.attempt, h.2.end)

-- a line that is no command starts none, by its answer
pub started_of : (rule : Rule) (s s' : Session) (state after : State) (line : Bytes) (met : Conditions) (reply : Reply) (jobs : List Job) (ends : List Reaped) (p q : SpawnCounts) → AskedIn s s' line (Ok reply) jobs ends p q → LineStep IsLineOf rule state line met reply after → HasStarted (Ok reply)
    → IsSomeAnd s'.store.held.collection (λ c. (jobs ≡ c.job ∷ []) × (c.exit ≡ None) × IsJobAt s.store.held c.commit s'.store.held.slot c.job)
started_of rule s s' state after line met reply jobs ends p q asked (inl step) has = (asked.command step.0 step.1).started has
started_of rule s s' state after line met reply jobs ends p q asked (inr bad) has = absurd (no_start met.told.refused bad.at (subst (λ (r : Reply). HasStarted (Ok r)) bad.reply_is has))

pub starts_of : (rule : Rule) (s s' : Session) (state after : State) (line : Bytes) (met : Conditions) (reply : Reply) (jobs : List Job) (ends : List Reaped) (p q : SpawnCounts) → AskedIn s s' line (Ok reply) jobs ends p q → LineStep IsLineOf rule state line met reply after → HasStarted (Ok reply)
    → (job : Job) × (jobs ≡ job ∷ []) × IsJobOf s'.store.held.slot job × (job.attempt ≡ s.store.held.slot.next_attempt) × (job.end ≡ s'.store.held.slot.end)
starts_of rule s s' state after line met reply jobs ends p q asked step has = job_at s.store.held s'.store.held.slot jobs s'.store.held.collection (started_of rule s s' state after line met reply jobs ends p q asked step has)

-- ---- the child that was heard of

heard_at : (slot : Slot) (r : Repository) (collection : Option Collection) (reaped : Reaped) (ends : List Reaped) (p q : SpawnCounts) → IsPhaseOf slot r collection → IsSomeAnd collection (λ c. HeardOf c reaped ends p q) → reaped.attempt + 1 ≡ slot.next_attempt
heard_at slot r None reaped ends p q phase h = absurd h
heard_at slot r (Some c) reaped ends p q phase h = ap (λ (n : ℕ). n + 1) h.0 ∙ phase.told.attempt

-- a line that is no command hears of none, by what it met
pub hears_of : (rule : Rule) (s s' : Session) (state after : State) (line : Bytes) (difference : Option Difference) (reply : Reply) (jobs : List Job) (ends : List Reaped) (p q : SpawnCounts) → IsServing s → AskedIn s s' line (Ok reply) jobs ends p q
    → LineStep IsLineOf rule state line (conditions_with s'.met difference) reply after → (reaped : Reaped) → s'.met.child ≡ Child.Ended reaped → reaped.attempt + 1 ≡ s.store.held.slot.next_attempt
hears_of rule s s' state after line difference reply jobs ends p q serving asked (inl step) reaped is = heard_at s.store.held.slot serving.0 s.store.held.collection reaped ends p q serving.1.0.phase ((asked.command step.0 step.1).heard reaped is)
hears_of rule s s' state after line difference reply jobs ends p q serving asked (inr bad) reaped is =
    let none : s'.met.child ≡ Child.NotAsked = ap (λ (m : Met). m.child) bad.unasked in
    absurd (cc (is, none))

-- ---- what was counted

-- once more or not, where it was within its range
count_later : (before after : ℕ) → before ≤ 2 ^ 64 - 1 → (after ≡ before) ⊎ (after ≡ counted true before) → before ≤ after
count_later before after small (inl same) = omega (arith, same)
count_later before after small (inr more) = risen before after small (subst (Rose before) (sym more) (rose_counted before))

running_more : (child : Child) (before after : ℕ) → (child ≡ Child.Running → after ≡ counted true before) → (child ≢ Child.Running → after ≡ before) → (after ≡ before) ⊎ (after ≡ counted true before)
running_more Child.Running before after more same = inr (more refl)
running_more Child.NotAsked before after more same = inl (same (λ is. absurd (cc is)))
running_more Child.Fault before after more same = inl (same (λ is. absurd (cc is)))
running_more (Child.Ended reaped) before after more same = inl (same (λ is. absurd (cc is)))

-- a call that failed is the one that was met
faults_more : (met : Met) (before after : ℕ) → (met.child ≡ Child.Fault → after ≡ counted true before) → (IsTrue met.start_failed → after ≡ counted true before) → (IsTrue met.kill_failed → after ≡ counted true before)
    → (met.child ≢ Child.Fault → met.start_failed ≡ false → met.kill_failed ≡ false → after ≡ before) → (after ≡ before) ⊎ (after ≡ counted true before)
faults_more met before after unheard start kill same = by met.child refl met.start_failed refl met.kill_failed refl
  where
    by : (child : Child) → met.child ≡ child → (started : Bool) → met.start_failed ≡ started → (killed : Bool) → met.kill_failed ≡ killed → (after ≡ before) ⊎ (after ≡ counted true before)
    by Child.Fault is started start_is killed kill_is = inr (unheard is)
    by child is true start_is killed kill_is = inr (start start_is)
    by child is started start_is true kill_is = inr (kill kill_is)
    by Child.Running is false start_is false kill_is = inl (same (λ fault. absurd (cc (is, fault))) start_is kill_is)
    by Child.NotAsked is false start_is false kill_is = inl (same (λ fault. absurd (cc (is, fault))) start_is kill_is)
    by (Child.Ended reaped) is false start_is false kill_is = inl (same (λ fault. absurd (cc (is, fault))) start_is kill_is)

-- Whether a line is a command need not be known: a count that fell would be one of no command.
module _ (s s' : Session) (line : Bytes) (result : Result Reply SessionEnd) (jobs : List Job) (ends : List Reaped) (before after : SpawnCounts) (asked : AskedIn s s' line result jobs ends before after) where
  at_least : (count : SpawnCounts → ℕ) → ((command : Command) → Asked s s' command result jobs ends before after → count before ≤ count after) → count before ≤ count after
  at_least count rises = elim (cases_lt (count after) (count before)) [
    | inl fell ↦
        let none : (command : Command) → ¬ IsLineOf command line = λ command served. (let up = rises command (asked.command command served) in omega (arith, up, fell)) in
        let same : count after ≡ count before = ap count (asked.none none).2 in
        absurd (omega (arith, same, fell))
    | inr up ↦ up
  ]

  pub later_in : AreCounts before → SpawnsLater before after
  later_in small = record {
    running = at_least (λ c. c.running) (λ command asked. count_later before.running after.running small.running (running_more s'.met.child before.running after.running asked.running asked.not_running));
    waits = at_least (λ c. c.waits) (λ command asked. count_later before.waits after.waits small.waits asked.waits);
    reaps = at_least (λ c. c.reaps) (λ command asked. count_later before.reaps after.reaps small.reaps asked.reaps);
    spawn_faults = at_least (λ c. c.spawn_faults) (λ command asked. count_later before.spawn_faults after.spawn_faults small.spawn_faults (faults_more s'.met before.spawn_faults after.spawn_faults asked.unheard asked.start asked.kill asked.no_fault));
  }

pub later_gone : (before after : SpawnCounts) → AreCounts before → LetsGo before after → SpawnsLater before after
later_gone before after small gone = record {
  running = (let same = gone.running in omega (arith, same));
  waits = (let same = gone.waits in omega (arith, same));
  reaps = count_later before.reaps after.reaps small.reaps gone.reaps;
  spawn_faults = count_later before.spawn_faults after.spawn_faults small.spawn_faults gone.spawn_faults;
}

-- ---- one exchange more

pub happen_more : (first : State) (xs : List Exchange) (x : Exchange) → AllHappen first.phase xs → Happens (after_all first xs).phase x → AllHappen first.phase (xs ++ x ∷ [])
happen_more first [] x h now = (now, tt)
happen_more first (y ∷ xs) x h now = (h.0, happen_more y.after xs x h.1 now)

-- the phase is that of the state
pub phase_all : (first : State) (xs : List Exchange) → phase_after first.phase xs ≡ (after_all first xs).phase
phase_all first [] = refl
phase_all first (x ∷ xs) = phase_all x.after xs

-- what a spawner tells that started and reaped these
abbrev pub told_with : List spawn.Start → List Reaped → spawn.Told
told_with starts ends = record { started = starts; reaped = ends }

pub spawned_more : (dir : Bytes) (old mid new : spawn.Told) (xs : List Exchange) (x : Exchange) → mid ≡ told_with (old.started ++ started_in dir xs) (old.reaped ++ ends_in xs) → new ≡ told_with (mid.started ++ starts_in dir x.started) (mid.reaped ++ x.reaped) → new ≡ told_with (old.started ++ started_in dir (xs ++ x ∷ [])) (old.reaped ++ ends_in (xs ++ x ∷ []))
spawned_more dir old mid new xs x first next =
    next ∙ ap₂ told_with (ap (λ (t : spawn.Told). t.started ++ starts_in dir x.started) first ∙ flat_map_more (λ x. starts_in dir x.started) old.started xs x) (ap (λ (t : spawn.Told). t.reaped ++ x.reaped) first ∙ flat_map_more (λ x. x.reaped) old.reaped xs x)

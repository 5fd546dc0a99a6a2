-- What a session does that began a collection, or was to begin one.
--     idle_by, runs_none, runs_at, retained_at      the phase that the store tells
--     step_turned      what the store answered is a step of the machine
--     busy_goes, unnamed_start      one runs, or no commit has the name that was given.      quiet_start      and where the records lie then
--     start_goes      the store answered it.      start_cut      a fault of the ground cut it short.      start_placed      where its record lies.      start_serves      the session goes on serving
--     found_of      a branch that stands against it is there.      says_as      what it is answered with
use Rattle.std.proofs.Common.{◌≡◌, ◌≢◌, inl, inr, ℕ, ◌+◌, ◌^◌, ◌<◌, ◌≤◌, Bool, true, false, [], ◌∷◌, refl, sym, ap, ◌∙◌, subst, arith, length, Option, Some, None, Ok, Err, IsTrue}
use Rattle.std.specs.Prelude.{Result, IfOk, OnErr, IsErrOf, IsSome, IsSomeAnd, is_some, MatchBool, if◌then◌else◌}
use Rattle.ip_ground.specs.Told.{Told, NoFile}
use Rattle.ip_ground.proofs.Spans.{only_nowhere}
use Rattle.ip_spec.specs.declared.command.Command.{Command}
use Rattle.ip_spec.specs.declared.command.Target.{Target}
use Rattle.ip_spec.specs.declared.met.Met.{Met}
use Rattle.ip_spec.specs.declared.record.Record.{Record}
use Rattle.ip_spec.specs.declared.reply.Reply.{Reply}
use Rattle.ip_spec.specs.declared.met.Phase.{Phase as ToldPhase}
use Rattle.ip_spec.specs.Machine.{Phase, Work as MachineWork, State, Limit, phase_told}
use Rattle.ip_spec.specs.Path.{Bytes}
use Rattle.ip_spec.specs.Record.{Hash, spelling}
use Rattle.ip_spec.specs.Repository.{Repository, is_retained, name_at}
use Rattle.ip_spec.specs.Step.{Refused, Turned, ◌>>◌, ◌>>=◌, refuse_if, or_refused, unless_some, phase_at, held_branch, enough, resolve, IsMet, MayBeShort, Step, Turns, state_with_exit, outcome, answer, turned}
use Rattle.ip_spec.specs.View.{View}
use Rattle.ip_image.specs.declared.slot.Slot.{Slot}
use Rattle.ip_image.specs.Appending.{bytes_of_records}
use Rattle.ip_image.proofs.Renaming.{spelled_is}
use Rattle.ip_held.specs.declared.collection.Collection.{Collection}
use Rattle.ip_held.specs.declared.collection.Unswept.{Unswept}
use Rattle.ip_collects.specs.declared.starting.CollectFault.{CollectFault}
use Rattle.ip_held.specs.declared.held.Held.{Held}
use Rattle.ip_held.specs.Collecting.{phase_of, carried, IsPhaseOf}
use Rattle.ip_held.specs.Answers as commits
use Rattle.ip_publish.specs.Publishing.{MayChange}
use Rattle.ip_held.specs.TableRecord.{table_of}
use Rattle.ip_collects.specs.Starting.{branch_name_at, Replies, met_by_start, AnswersStart, IsBegun, IsTurnedDown, LimitsStart, begun_slot, Begins, StartsCollection}
use Rattle.ip_held.specs.Held.{IsOf, Holds, image_records}
use Rattle.ip_held.specs.Trees.{RecordsStay}
use Rattle.ip_held.specs.Views.{IsViewAfter}
use Rattle.ip_held.specs.Work.{AreParents, work_at}
use Rattle.ip_held.proofs.Apart.{for_more}
use Rattle.ip_held.proofs.Works.{works_stay}
use Rattle.ip_held.proofs.SlotLaws.{slots_none}
use Rattle.ip_session.specs.declared.session.Session.{Session}
use Rattle.ip_session.specs.declared.session.SessionEnd.{SessionEnd}
use Rattle.ip_session.specs.Placing.{HasCollected, PlacedBy, AttemptsLeft}
use Rattle.ip_session.specs.Session.{unasked, IsServing, IsWorking, state_in, met_only, conditions_of, IsLong, IsDurable, ChangedBy, TouchedBy, OnlyBy, GoesBy, CutBy}
use Rattle.ip_session.specs.Starting.{HeldReplies, IsFound, StartReplies}
use Rattle.ip_session.proofs.Asking.{both_some}
use Rattle.ip_session.proofs.Changing.{keeps_nothing, nothing_by, nothing_space, stays_beside}
use Rattle.ip_session.proofs.Placing.{unmoved}
use Rattle.ip_session.proofs.Referring.{IsUnnamed, NamesNone, names_none}
use Rattle.ip_session.proofs.SessionGoes.{still_goes}
use Rattle.ip_session.proofs.SessionLemmas.{at, plainly, heard_none, unjudged, unsettled, collect_refused, started_is_short, start_fault_is_short}
use Rattle.ip_store.specs.declared.store.Store.{Store}

-- with want of memory the next state is what is kept, and else the machine's answer
pub chosen : {A B : Type 0} (b : Bool) (x y : A × B) (reply : A) (next : B) → (if b then x else y) ≡ (reply, next) → MatchBool b ((reply ≡ x.0) × (next ≡ x.1)) ((reply, next) ≡ y)
chosen true x y reply next e = (ap (λ t. t.0) (sym e), ap (λ t. t.1) (sym e))
chosen false x y reply next e = sym e

-- a command of a collection
abbrev pub IsCollecting : Command → Type 0
IsCollecting (Command.Collect target) = Unit {0}
IsCollecting Command.Cancel = Unit {0}
IsCollecting command = ⊥

turns_plainly : (s : State) (command : Command) (met : Met) (b : Bool) (reply : Reply) (next : State) → IsCollecting command
    → MatchBool b ((reply ≡ Reply.Memory) × (next ≡ state_with_exit s s.phase met.child)) ((reply, next) ≡ answer s command (conditions_of met))
    → MatchBool b ((reply ≡ Reply.Memory) × (next ≡ state_with_exit s s.phase met.child)) (Turns unasked s command (conditions_of met) (reply, next))
turns_plainly s (Command.Collect target) met b reply next is e = e
turns_plainly s Command.Cancel met b reply next is e = e
turns_plainly s _ met b reply next is e = absurd is

pub step_turned : (s : State) (command : Command) (met : Met) (reply : Reply) (next : State) → IsCollecting command → commits.Turns s command met reply next → Step unasked s command (conditions_of met) reply next
unfolding turned
step_turned s command met reply next is turns =
    (turns.0, turns_plainly s command met met.refused reply next is (chosen met.refused (Reply.Memory, state_with_exit s s.phase met.child) (answer s command (conditions_of met)) reply next turns.1))

-- ---- the phase that the store tells

-- no collection runs, as its test says
pub idle_by : (o : Option Collection) → ((n : ℕ) (k : Bool) → phase_told (phase_of o) ≢ ToldPhase.Collecting n k) → o ≡ None
idle_by None not = refl
idle_by (Some c) not = absurd (not c.commit (is_some c.exit) refl)

pub runs_none : (o : Option Collection) → ((n : ℕ) (k : Bool) → phase_told (phase_of o) ≢ ToldPhase.Collecting n k) → phase_at (phase_of o) ≡ None
runs_none None not = refl
runs_none (Some c) not = absurd (not c.commit (is_some c.exit) refl)

pub runs_at : (o : Option Collection) (n : ℕ) (k : Bool) → phase_told (phase_of o) ≡ ToldPhase.Collecting n k → phase_at (phase_of o) ≡ Some n
runs_at None n k is = absurd (cc is)
runs_at (Some c) n k is = (let e : c.commit ≡ n = cc is in ap Some e)

-- at a commit that is retained
pub retained_at : (s : Slot) (r : Repository) (o : Option Collection) (n : ℕ) (k : Bool) → IsPhaseOf s r o → phase_told (phase_of o) ≡ ToldPhase.Collecting n k → IsTrue (is_retained r n)
retained_at s r None n k phase is = absurd (cc is)
retained_at s r (Some c) n k phase is = (let e : c.commit ≡ n = cc is in subst (λ (x : ℕ). IsTrue (is_retained r x)) e phase.retained)

-- ---- nothing was begun

module _ (r : Repository) (phase : Phase) (w : MachineWork) (target : Target) where
  abbrev s : State
  s = at r phase w

  abbrev collecting : Command
  collecting = Command.Collect target

  -- all that is behind the commit's name
  abbrev behind : Met → ℕ → Refused Turned
  behind met n =
      unless_some (held_branch r n) Reply.Held
      >> (enough (conditions_of met) Limit.Attempt
      >> (enough (conditions_of met) Limit.Space
      >> (enough (conditions_of met) Limit.Sequence
      >> (refuse_if met.start_failed Reply.StartFault
      >> Ok (Reply.Started (name_at r n), at r (Phase.Collecting n None) w)))))

  abbrev turn : Met → Option ℕ → Refused ℕ → Turned
  turn met running named = or_refused s (unless_some running (λ c. Reply.Busy (name_at r c)) >> (named >>= behind met))

  turn_is : (met : Met) → answer s collecting (conditions_of met) ≡ turn met (phase_at phase) (resolve r target)
  unfolding outcome
  turn_is met = refl

  -- the repository stays, whatever the answer is
  kept_chain : (running : Refused (Unit {0})) (named : Refused ℕ) (held : ℕ → Refused (Unit {0})) (a b c d : Refused (Unit {0})) (done : ℕ → Turned) → ((n : ℕ) → (done n).1.repository ≡ r)
      → (or_refused s (running >> (named >>= (λ n. held n >> (a >> (b >> (c >> (d >> Ok (done n))))))))).1.repository ≡ r
  kept_chain (Err e) named held a b c d done keeps = refl
  kept_chain (Ok u) (Err e) held a b c d done keeps = refl
  kept_chain (Ok u) (Ok n) held a b c d done keeps = by (held n) a b c d
    where
      by : (g a b c d : Refused (Unit {0})) → (or_refused s (g >> (a >> (b >> (c >> (d >> Ok (done n))))))).1.repository ≡ r
      by (Err e) a b c d = refl
      by (Ok u) (Err e) b c d = refl
      by (Ok u) (Ok t) (Err e) c d = refl
      by (Ok u) (Ok t) (Ok x) (Err e) d = refl
      by (Ok u) (Ok t) (Ok x) (Ok y) (Err e) = refl
      by (Ok u) (Ok t) (Ok x) (Ok y) (Ok z) = keeps n

  kept : (met : Met) → (answer s collecting (conditions_of met)).1.repository ≡ r
  kept met = ap (λ (t : Turned). t.1.repository) (turn_is met)
      ∙ kept_chain (unless_some (phase_at phase) (λ c. Reply.Busy (name_at r c))) (resolve r target) (λ n. unless_some (held_branch r n) Reply.Held) (enough (conditions_of met) Limit.Attempt) (enough (conditions_of met) Limit.Space)
      (enough (conditions_of met) Limit.Sequence) (refuse_if met.start_failed Reply.StartFault) (λ n. (Reply.Started (name_at r n), at r (Phase.Collecting n None) w)) (λ n. refl)

  busy_step : (n : ℕ) → phase_at phase ≡ Some n → Step unasked s collecting (conditions_of (met_only false)) (Reply.Busy (name_at r n)) s
  busy_step n is = (plainly r phase w collecting false (Reply.Busy (name_at r n)) tt (λ h. absurd (cc h)), sym (turn_is (met_only false) ∙ ap (λ (o : Option ℕ). turn (met_only false) o (resolve r target)) is))

  unnamed_step : (reply : Reply) → phase_at phase ≡ None → resolve r target ≡ Err reply → Step unasked s collecting (conditions_of (met_only false)) reply s
  unnamed_step reply idle is = (plainly r phase w collecting false reply tt (λ h. absurd (cc h)), sym (turn_is (met_only false) ∙ (λ i. turn (met_only false) (idle i) (is i))))

module _ (a : Told) (s : Session) (r : Repository) (v : View) (here : IsWorking a s r v) (target : Target) where
  abbrev quietly : Reply → Type 0
  quietly reply = GoesBy unasked a a s s r v (Command.Collect target) reply

  quiet_goes : (reply : Reply) → s.met ≡ met_only false → Step unasked (state_in s r v) (Command.Collect target) (conditions_of (met_only false)) reply (state_in s r v) → quietly reply
  quiet_goes reply e step = still_goes a s s.met r v here (OnlyBy s.store.held a a (Command.Collect target)) (Step unasked (state_in s r v) (Command.Collect target)) (IsViewAfter r v (Command.Collect target)) reply (ap (λ (m : Met). m.child) e)
      (subst (λ (m : Met). Step unasked (state_in s r v) (Command.Collect target) (conditions_of m) reply (state_in s r v)) (sym e) step)
      refl
      (λ long. collect_refused target r (phase_of s.store.held.collection) (work_at s.work v))
      (nothing_by false (Some s.store.held.slot.next_attempt) (ChangedBy s.store.held a.held (Command.Collect target) reply) a a (only_nowhere a NoFile))

  pub busy_goes : (n : ℕ) → s.met ≡ met_only false → phase_at (phase_of s.store.held.collection) ≡ Some n → quietly (Reply.Busy (name_at r n))
  busy_goes n e running = quiet_goes (Reply.Busy (name_at r n)) e (busy_step r (phase_of s.store.held.collection) (work_at s.work v) target n running)

  pub unnamed_start : (reply : Reply) → s.met ≡ met_only false → phase_at (phase_of s.store.held.collection) ≡ None → resolve r target ≡ Err reply → quietly reply
  unnamed_start reply e idle none = quiet_goes reply e (unnamed_step r (phase_of s.store.held.collection) (work_at s.work v) target reply idle none)

pub busy_placed : (records : ℕ → Option Record) (slot : Slot) (u : Unswept) (s : State) (v : View) (target : Target) (name : Hash) → PlacedBy unasked records slot u slot s v (Command.Collect target) (Reply.Busy name)
busy_placed records slot u s v target name = unmoved records slot u slot s v (Command.Collect target) (Reply.Busy name) unasked (λ h. h) (λ h. h) (λ l is. absurd (cc is)) (λ t is. tt) refl

pub unnamed_start_placed : (records : ℕ → Option Record) (slot : Slot) (u : Unswept) (s : State) (v : View) (target : Target) (reply : Reply) → resolve s.repository target ≡ Err reply → PlacedBy unasked records slot u slot s v (Command.Collect target) reply
unnamed_start_placed records slot u s v target reply is = by reply (subst NamesNone is (names_none s.repository target))
  where
    by : (reply : Reply) → IsUnnamed reply → PlacedBy unasked records slot u slot s v (Command.Collect target) reply
    by (Reply.NoBranch other) un = unmoved records slot u slot s v (Command.Collect target) (Reply.NoBranch other) unasked (λ h. h) (λ h. h) (λ l e. absurd (cc e)) (λ t e. tt) refl
    by (Reply.NoCommit hash) un = unmoved records slot u slot s v (Command.Collect target) (Reply.NoCommit hash) unasked (λ h. h) (λ h. h) (λ l e. absurd (cc e)) (λ t e. tt) refl
    by _ un = absurd un

-- ---- the store was asked

module _ (a b : Told) (s : Session) (store : Store) (r : Repository) (v : View) (here : IsWorking a s r v) (target : Target) (number : ℕ) (named : resolve r target ≡ Ok number) where
  abbrev command : Command
  command = Command.Collect target

  abbrev after_it : Met → Session
  after_it met = record s { store = store; met = met }

  abbrev Went : Met → Reply → Type 0
  Went met = GoesBy unasked a b s (after_it met) r v command

  abbrev Answers : Reply → Type 0
  Answers reply = AnswersStart r number s.store.held.collection store.met store.held reply

  gives : (reply : Reply) → Answers reply → Step unasked (state_in s r v) command (conditions_of store.met) reply (state_in (after_it store.met) r v)
  gives reply A = step_turned (state_in s r v) command store.met reply (state_in (after_it store.met) r v) tt ((A target named).turns (work_at s.work v))

  -- the one that is drawn is not that of a collection that runs
  other_attempt : (c : Collection) → s.store.held.collection ≡ Some c → c.job.attempt ≢ s.store.held.slot.next_attempt
  other_attempt c runs e = let drawn = (subst (IsPhaseOf s.store.held.slot r) runs here.holds.tables.phase).told.attempt in absurd (omega (arith, e, drawn))

  -- the attempt was drawn
  begun_goes : (begun : Result Hash CollectFault) (reply : Reply) → IsBegun begun → IsDurable reply command → ¬ IsLong reply → Answers reply → StartsCollection r s.store.held.slot.next_attempt begun store.held a b
      → ((q : Repository) (now : Holds store.held b q) → RecordsStay (image_records here.holds) (image_records now)) → Went store.met reply
  begun_goes begun reply is done short A M stay =
      let holds = M.holds is in
      record {
        after = r;
        view = v;
        difference = None;
        gives = gives reply A;
        judged = unjudged a b s (after_it store.met) r v (heard_none (phase_of s.store.held.collection) command tt store.met.child (gives reply A).0.child);
        settled = unsettled b s (after_it store.met) reply (heard_none (phase_of s.store.held.collection) command tt store.met.child (gives reply A).0.child);
        stays = stays_beside s.store.held.collection s.store.held.slot.next_attempt (MayChange a.held) a b M.only other_attempt;
        is_at = record { holds = holds; lawful = works_stay (image_records here.holds) (image_records holds) r r s.work v here.lawful (λ there. stay r holds) (omega arith) here.lawful.parents };
        seen = refl;
        only = for_more s.store.held.slot.next_attempt (MayChange a.held) (ChangedBy s.store.held a.held command reply) a b (λ file may. (done, may)) M.only;
        files = M.files;
        said = M.only.said;
        space = λ order none slot live. M.space order slot live;
        atomic = λ order t late le. let at_t = M.recovers order t late le in record { stands = λ image possible. inl (at_t.stands image possible); flushed = at_t.flushed };
        slots = M.slots;
        nothing_pending = λ order. M.nothing_pending order is;
        spared = λ long. absurd (short long);
        still = λ long. absurd (short long);
      }

  -- it was turned down
  module _ (same : b ≡ a) (is : store.held ≡ s.store.held) where
    -- the store that notes what was met
    abbrev noting : Held → Store
    noting held = record { held = held; met = store.met }

    down : (now : Met) (reply : Reply) → Step unasked (state_in s r v) command (conditions_of now) reply (state_in s r v) → Went now reply
    down now reply step =
        subst (λ (t : Told). GoesBy unasked a t s (after_it now) r v command reply) (sym same) (subst (λ (x : Held). GoesBy unasked a a s (record s { store = noting x; met = now }) r v command reply) (sym is) quiet)
      where
        quiet : GoesBy unasked a a s (record s { store = noting s.store.held; met = now }) r v command reply
        quiet = record {
          after = r;
          view = v;
          difference = None;
          gives = step;
          judged = unjudged a a s (record s { store = noting s.store.held; met = now }) r v (heard_none (phase_of s.store.held.collection) command tt now.child step.0.child);
          settled = unsettled a s (record s { store = noting s.store.held; met = now }) reply (heard_none (phase_of s.store.held.collection) command tt now.child step.0.child);
          stays = λ c runs pair was. was;
          is_at = here;
          seen = refl;
          only = nothing_by false (Some s.store.held.slot.next_attempt) (ChangedBy s.store.held a.held command reply) a a (only_nowhere a NoFile);
          files = keeps_nothing a a (only_nowhere a NoFile);
          said = (only_nowhere a NoFile).said;
          space = λ order none slot live. nothing_space a a (only_nowhere a NoFile) order slot live;
          atomic = λ order t late le. absurd (omega (arith, late, le));
          slots = λ order. slots_none a;
          nothing_pending = λ order. order;
          spared = λ long. record { same = refl; seen = refl; refused = collect_refused target r (phase_of s.store.held.collection) (work_at s.work v) };
          still = λ long. only_nowhere a NoFile;
        }

    refused_goes : (reply : Reply) → Answers reply → Went store.met reply
    refused_goes reply A = down store.met reply (subst (λ (x : Held). Step unasked (state_in s r v) command (conditions_of store.met) reply (state_in (record s { store = noting x }) r v)) is (gives reply A))

    memory_goes : Went (met_only true) Reply.Memory
    memory_goes = down (met_only true) Reply.Memory (collect_refused target r (phase_of s.store.held.collection) (work_at s.work v))

  so_told : (result : Result Reply SessionEnd) (reply : Reply) (met : Met) → result ≡ Ok reply → met ≡ store.met → Went store.met reply → IfOk result (Went met)
  so_told result reply met is e went = subst (λ (x : Result Reply SessionEnd). IfOk x (Went met)) (sym is) (subst (λ (m : Met). Went m reply) (sym e) went)

  pub start_goes : (begun : Result Hash CollectFault) (met : Met) (result : Result Reply SessionEnd) → StartReplies r begun store.met met result → IfOk begun (λ name. length name ≤ 32) → Replies r begun Answers → StartsCollection r s.store.held.slot.next_attempt begun store.held a b
      → (IsBegun begun → (q : Repository) (now : Holds store.held b q) → RecordsStay (image_records here.holds) (image_records now)) → (IsTurnedDown begun → (b ≡ a) × (store.held ≡ s.store.held))
      → IfOk result (Went met)
  start_goes (Ok name) met result says size A M stay down = so_told result (Reply.Started name) met says.0 says.1 (begun_goes (Ok name) (Reply.Started name) tt tt (started_is_short name size) A M (stay tt))
  start_goes (Err CollectFault.Start) met result says size A M stay down = so_told result Reply.StartFault met says.0 says.1 (begun_goes (Err CollectFault.Start) Reply.StartFault tt tt start_fault_is_short A M (stay tt))
  start_goes (Err (CollectFault.Busy name)) met result says size A M stay down = so_told result (Reply.Busy name) met says.0 says.1 (refused_goes (down tt).0 (down tt).1 (Reply.Busy name) A)
  start_goes (Err (CollectFault.Limit limit)) met result says size A M stay down = so_told result (Reply.Limit limit) met says.0 says.1 (refused_goes (down tt).0 (down tt).1 (Reply.Limit limit) A)
  start_goes (Err CollectFault.Memory) met result says size A M stay down = so_told result Reply.Memory met says.0 says.1 (refused_goes (down tt).0 (down tt).1 Reply.Memory A)
  start_goes (Err CollectFault.Ground) met result says size A M stay down = subst (λ (x : Result Reply SessionEnd). IfOk x (Went met)) (sym says.0) tt
  start_goes (Err (CollectFault.Held place)) met result says size A M stay down = both_some (branch_name_at r place) _ _ (IfOk result (Went met)) each says A
    where
      each : (name : Bytes) → (reply : Reply) × (result ≡ Ok reply) × HeldReplies name store.met met reply → Answers (Reply.Held name) → IfOk result (Went met)
      each name (reply, is, inl held) A = so_told result (Reply.Held name) met (is ∙ ap Ok held.0) held.1 (refused_goes (down tt).0 (down tt).1 (Reply.Held name) A)
      each name (reply, is, inr short) A = subst (λ (x : Result Reply SessionEnd). IfOk x (Went met)) (sym (is ∙ ap Ok short.0)) (subst (λ (m : Met). Went m Reply.Memory) (sym short.1) (memory_goes (down tt).0 (down tt).1))

  -- the machine's answer, where nothing was met
  cut_so : (met : Met) → met ≡ met_only false → StartsCollection {A = Hash} r s.store.held.slot.next_attempt (Err CollectFault.Ground) store.held a b → CutBy unasked a b s (after_it met) r v command
  cut_so met e M =
      let t = answer (state_in s r v) command (conditions_of (met_only false)) in
      record {
        reply = t.0;
        after = t.1;
        difference = None;
        gives = subst (λ (m : Met). Step unasked (state_in s r v) command (conditions_of m) t.0 t.1) (sym e) (plainly r (phase_of s.store.held.collection) (work_at s.work v) command false t.0 tt (λ h. absurd (cc h)), refl);
        judged = unjudged a b s (after_it met) r v (ap (λ (m : Met). m.child) e);
        stays = stays_beside s.store.held.collection s.store.held.slot.next_attempt (MayChange a.held) a b M.only other_attempt;
        only = for_more s.store.held.slot.next_attempt (MayChange a.held) (TouchedBy s.store.held a.held command) a b (λ file may. (refl, may)) M.only;
        files = M.files;
        said = M.only.said;
        space = λ order none slot live. M.space order slot live;
        atomic = λ order moment late le. let at_it = M.recovers order moment late le in record { stands = λ image possible. inl (at_it.stands image possible); flushed = at_it.flushed };
        slots = M.slots;
      }

  pub start_cut : (begun : Result Hash CollectFault) (met : Met) (result : Result Reply SessionEnd) → StartReplies r begun store.met met result → Replies r begun Answers → store.met ≡ met_by_start begun → StartsCollection r s.store.held.slot.next_attempt begun store.held a b
      → OnErr result (CutBy unasked a b s (after_it met) r v command)
  start_cut begun met result says A is_met M = by begun says is_met M
    where
      Cuts : Result Reply SessionEnd → Type 0
      Cuts result = OnErr result (CutBy unasked a b s (after_it met) r v command)

      no_end : (reply : Reply) → result ≡ Ok reply → Cuts result
      no_end reply is = subst Cuts (sym is) tt

      held : (name : Bytes) → (reply : Reply) × (result ≡ Ok reply) × HeldReplies name store.met met reply → (reply : Reply) × (result ≡ Ok reply) × HeldReplies name store.met met reply → Cuts result
      held name (reply, is, how) other = no_end reply is

      by : (begun : Result Hash CollectFault) → StartReplies r begun store.met met result → store.met ≡ met_by_start begun → StartsCollection r s.store.held.slot.next_attempt begun store.held a b → Cuts result
      by (Ok name) says is_met M = no_end (Reply.Started name) says.0
      by (Err CollectFault.Start) says is_met M = no_end Reply.StartFault says.0
      by (Err (CollectFault.Busy name)) says is_met M = no_end (Reply.Busy name) says.0
      by (Err (CollectFault.Limit limit)) says is_met M = no_end (Reply.Limit limit) says.0
      by (Err CollectFault.Memory) says is_met M = no_end Reply.Memory says.0
      by (Err CollectFault.Ground) says is_met M = subst Cuts (sym says.0) (cut_so met (says.1 ∙ is_met) M)
      by (Err (CollectFault.Held place)) says is_met M = both_some (branch_name_at r place) _ _ (Cuts result) held says says

  -- ---- where the record lies

  abbrev At : Reply → Type 0
  At reply = PlacedBy unasked (image_records here.holds) s.store.held.slot s.store.held.unswept store.held.slot (state_in s r v) v command reply

  -- where the table ends
  abbrev ends_at : ℕ
  ends_at = s.store.held.slot.end + length (spelling (table_of r))

  table_length : length (spelling (table_of r)) ≡ length (bytes_of_records ((s.store.held.slot.end, table_of r) ∷ []))
  table_length = ap length (spelled_is s.store.held.slot.end (table_of r))

  drawn_at : (reply : Reply) → IsDurable reply command → ((l : Limit) → reply ≢ Reply.Limit l) → AttemptsLeft s.store.held.slot reply → Begins r s.store.held store.held a b → (ends_at ≤ 2 ^ 62) × (s.store.held.slot.sequence < 2 ^ 62) → At reply
  drawn_at reply done none left begins enough = record {
    done = λ _. record {
      more = (s.store.held.slot.end, table_of r) ∷ [];
      commits = 0;
      are = (refl, refl);
      so = (
        begins.slot ∙ ap (begun_slot (carried s.store.held)) table_length,
        subst (λ (k : ℕ). s.store.held.slot.end + k ≤ 2 ^ 62) table_length enough.0,
        enough.1,
      );
    };
    quiet = λ quiet _. absurd (quiet done);
    collected = λ floor left may is. absurd may;
    ended = λ may is. absurd may;
    space = λ _ is. absurd (none Limit.Space is);
    sequence = λ _ is. absurd (none Limit.Sequence is);
    attempt = λ t is. left;
  }

  stays_at : (reply : Reply) → ¬ IsDurable reply command → ¬ HasCollected reply command → ((l : Limit) → reply ≢ Reply.Limit l) → AttemptsLeft s.store.held.slot reply → store.held.slot ≡ s.store.held.slot → At reply
  stays_at reply not over none left same = unmoved (image_records here.holds) s.store.held.slot s.store.held.unswept store.held.slot (state_in s r v) v command reply unasked not over none (λ t is. left) same

  limited_at : (limit : Limit) → MayBeShort limit → LimitsStart ends_at (Err (CollectFault.Limit limit)) s.store.held → store.held.slot ≡ s.store.held.slot → At (Reply.Limit limit)
  limited_at limit may limits same = record {
    done = λ done. absurd done;
    quiet = λ quiet _. same;
    collected = λ floor left may is. absurd may;
    ended = λ may is. absurd may;
    space = λ _ is. record {
      more = (s.store.held.slot.end, table_of r) ∷ [];
      commits = 0;
      are = (refl, refl);
      so = subst (λ (k : ℕ). 2 ^ 62 < s.store.held.slot.end + k) table_length (limits.space (limit_is Limit.Space is)).1;
    };
    sequence = λ _ is. let h = limits.sequence (limit_is Limit.Sequence is) in record {
      more = (s.store.held.slot.end, table_of r) ∷ [];
      commits = 0;
      are = (refl, refl);
      so = (subst (λ (k : ℕ). s.store.held.slot.end + k ≤ 2 ^ 62) table_length h.1, h.2);
    };
    attempt = λ t is. left limit may limits;
  }
    where
      limit_is : (other : Limit) → Reply.Limit limit ≡ Reply.Limit other → IsErrOf {T = Hash} (Err (CollectFault.Limit limit)) (CollectFault.Limit other)
      limit_is other is = cc is

      left : (limit : Limit) → MayBeShort limit → LimitsStart ends_at (Err (CollectFault.Limit limit)) s.store.held → AttemptsLeft s.store.held.slot (Reply.Limit limit)
      left Limit.Space may limits = (limits.space refl).0
      left Limit.Sequence may limits = (limits.sequence refl).0
      left Limit.Attempt may limits = limits.attempt refl
      left _ may limits = absurd may

  pub start_placed : (begun : Result Hash CollectFault) (met : Met) (result : Result Reply SessionEnd) → StartReplies r begun store.met met result → Replies r begun Answers → store.met ≡ met_by_start begun → LimitsStart ends_at begun s.store.held
      → (IsBegun begun → Begins r s.store.held store.held a b) → (IsTurnedDown begun → store.held.slot ≡ s.store.held.slot) → IfOk result At
  start_placed begun met result says A is_met limits begins down = by begun says A is_met limits begins down
    where
      at_it : (reply : Reply) → result ≡ Ok reply → At reply → IfOk result At
      at_it reply is x = subst (λ (y : Result Reply SessionEnd). IfOk y At) (sym is) x

      held : store.held.slot ≡ s.store.held.slot → (name : Bytes) → (reply : Reply) × (result ≡ Ok reply) × HeldReplies name store.met met reply → Answers (Reply.Held name) → IfOk result At
      held same name (reply, is, inl told) A = at_it (Reply.Held name) (is ∙ ap Ok told.0) (stays_at (Reply.Held name) (λ h. h) (λ h. h) (λ l e. absurd (cc e)) tt same)
      held same name (reply, is, inr short) A = at_it Reply.Memory (is ∙ ap Ok short.0) (stays_at Reply.Memory (λ h. h) (λ h. h) (λ l e. absurd (cc e)) tt same)

      may_be : (limit : Limit) → Answers (Reply.Limit limit) → store.met ≡ met_by_start (Err (CollectFault.Limit limit)) → MayBeShort limit
      may_be limit A is_met = (subst (λ (m : Met). IsMet (state_in s r v) command (conditions_of m) (Reply.Limit limit)) is_met ((A target named).turns (work_at s.work v)).0).short.1

      by : (begun : Result Hash CollectFault) → StartReplies r begun store.met met result → Replies r begun Answers → store.met ≡ met_by_start begun → LimitsStart ends_at begun s.store.held
          → (IsBegun begun → Begins r s.store.held store.held a b) → (IsTurnedDown begun → store.held.slot ≡ s.store.held.slot) → IfOk result At
      by (Ok name) says A is_met limits begins down = (let enough = limits.enough tt in at_it (Reply.Started name) says.0 (drawn_at (Reply.Started name) tt (λ l e. absurd (cc e)) enough.0 (begins tt) (enough.1, enough.2)))
      by (Err CollectFault.Start) says A is_met limits begins down = (let enough = limits.enough tt in at_it Reply.StartFault says.0 (drawn_at Reply.StartFault tt (λ l e. absurd (cc e)) enough.0 (begins tt) (enough.1, enough.2)))
      by (Err (CollectFault.Busy name)) says A is_met limits begins down = at_it (Reply.Busy name) says.0 (stays_at (Reply.Busy name) (λ h. h) (λ h. h) (λ l e. absurd (cc e)) tt (down tt))
      by (Err (CollectFault.Limit limit)) says A is_met limits begins down = at_it (Reply.Limit limit) says.0 (limited_at limit (may_be limit A is_met) limits (down tt))
      by (Err CollectFault.Memory) says A is_met limits begins down = at_it Reply.Memory says.0 (stays_at Reply.Memory (λ h. h) (λ h. h) (λ l e. absurd (cc e)) tt (down tt))
      by (Err CollectFault.Ground) says A is_met limits begins down = subst (λ (y : Result Reply SessionEnd). IfOk y At) (sym says.0) tt
      by (Err (CollectFault.Held place)) says A is_met limits begins down = both_some (branch_name_at r place) _ _ (IfOk result At) (held (down tt)) says A

-- ---- whatever is told

module _ (s : Session) (store : Store) (r : Repository) (target : Target) (number : ℕ) (named : resolve r target ≡ Ok number) (met : Met) (result : Result Reply SessionEnd) where
  abbrev Replied : Reply → Type 0
  Replied reply = AnswersStart r number s.store.held.collection store.met store.held reply

  -- the session goes on serving
  pub start_serves : (begun : Result Hash CollectFault) → StartReplies r begun store.met met result → Replies r begun Replied → AreParents r s.work.least s.work.parents → IfOk result (λ reply. IsServing (record s { store = store; met = met }))
  start_serves begun says A parents = by begun says A
    where
      on : (reply : Reply) → Replied reply → IsServing (record s { store = store; met = met })
      on reply A = (r, ((A target named).tables, parents))

      on_it : (reply : Reply) → Replied reply → IfOk result (λ reply. IsServing (record s { store = store; met = met }))
      on_it reply A = each result
        where
          each : (result : Result Reply SessionEnd) → IfOk result (λ reply. IsServing (record s { store = store; met = met }))
          each (Ok x) = on reply A
          each (Err end) = tt

      by : (begun : Result Hash CollectFault) → StartReplies r begun store.met met result → Replies r begun Replied → IfOk result (λ reply. IsServing (record s { store = store; met = met }))
      by (Ok name) says A = on_it (Reply.Started name) A
      by (Err CollectFault.Start) says A = on_it Reply.StartFault A
      by (Err (CollectFault.Busy name)) says A = on_it (Reply.Busy name) A
      by (Err (CollectFault.Limit limit)) says A = on_it (Reply.Limit limit) A
      by (Err CollectFault.Memory) says A = on_it Reply.Memory A
      by (Err CollectFault.Ground) says A = subst (λ (y : Result Reply SessionEnd). IfOk y (λ reply. IsServing (record s { store = store; met = met }))) (sym says.0) tt
      by (Err (CollectFault.Held place)) says A = both_some (branch_name_at r place) _ _ (IfOk result (λ reply. IsServing (record s { store = store; met = met }))) (λ name other x. on_it (Reply.Held name) x) A A

is_there : {X : Type 0} (o : Option X) (P : X → Type 0) → IsSomeAnd o P → IsSome o
is_there None P p = absurd p
is_there (Some x) P p = refl

-- the branch that stands against it is there
pub found_of : (r : Repository) (number : ℕ) (o : Option Collection) (met : Met) (store : Held) (target : Target) → resolve r target ≡ Ok number → (begun : Result Hash CollectFault) → Replies r begun (AnswersStart r number o met store) → IsFound r store begun
found_of r number o met store target named (Ok name) A = tt
found_of r number o met store target named (Err (CollectFault.Busy name)) A = tt
found_of r number o met store target named (Err (CollectFault.Held place)) A = (both_some (branch_name_at r place) _ _ (IsOf store r) (λ name x y. (x target named).tables) A A, is_there (branch_name_at r place) _ A)
found_of r number o met store target named (Err (CollectFault.Limit limit)) A = tt
found_of r number o met store target named (Err CollectFault.Start) A = tt
found_of r number o met store target named (Err CollectFault.Ground) A = tt
found_of r number o met store target named (Err CollectFault.Memory) A = tt

-- by what the session met before, which is what the store met
pub says_as : (r : Repository) (number : ℕ) (o : Option Collection) (store : Store) (target : Target) (named : resolve r target ≡ Ok number) (begun : Result Hash CollectFault) (before met : Met) (result : Result Reply SessionEnd) → before ≡ store.met
    → Replies r begun (AnswersStart r number o store.met store.held) → (IsFound r store.held begun → StartReplies r begun before met result) → StartReplies r begun store.met met result
says_as r number o store target named begun before met result is A says = subst (λ (m : Met). StartReplies r begun m met result) is (says (found_of r number o store.met store.held target named begun A))

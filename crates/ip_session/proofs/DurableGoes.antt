-- What a session does that ran a command which may change files.
--     keeps_still      a call that changes no file, at every moment
--     IsWhole r work command after      refused it changes nothing, and done it leaves this repository
--     IsTurn b s store work r v command reply      what the store answered it is the machine's turn, the work is lawful where the store holds the repository after it, and its tree's view comes of v
--     refused_so, fault_so      the store refused it.      done_so      it did it.      cut_so      a fault of the ground cut it short
--     reply_so      of an answer that there is
--     floor_stays      an answered call gives no commits up
--     answered      a fault that has a reply
--     by_answer      a call of the store has a reply, or why the session ends: by fault_ends.      fault_ground, fault_met      by a fault that is none of the files, by which nothing was met.      damage_of      by damage.      answer_counts      which faults were counted
use Rattle.std.proofs.Common.{◌≡◌, inl, ℕ, Bool, true, false, refl, sym, ap, ◌∙◌, subst, arith, Option, Some, None, Ok, Err}
use Rattle.std.specs.Prelude.{Result, IfSome, IfErr, IsErrAnd, IsErrOf, MatchBool, if◌then◌else◌}
use Rattle.ip_ground.specs.Counts.{Noted, CountsIf, Counts}
use Rattle.ip_ground.specs.Told.{Told, NoFile, ChangesOnly}
use Rattle.ip_ground.proofs.Spans.{only_more}
use Rattle.ip_image.specs.Pending.{NothingPending}
use Rattle.ip_image.specs.Headline.{IsAtomic}
use Rattle.ip_image.proofs.HeadlineLaws.{pending_passes}
use Rattle.ip_spec.specs.declared.command.Command.{Command}
use Rattle.ip_spec.specs.declared.met.Met.{Met}
use Rattle.ip_spec.specs.declared.reply.Reply.{Reply}
use Rattle.ip_spec.specs.Record.{Hash}
use Rattle.ip_spec.specs.Repository.{Repository}
use Rattle.ip_spec.specs.declared.met.Child.{Child}
use Rattle.ip_spec.specs.Machine.{Phase, Work as MachineWork, State, Conditions}
use Rattle.ip_spec.specs.Step.{Turned, IsMet, Turns, Step, answer, turned, state_with_exit}
use Rattle.ip_spec.specs.View.{View}
use Rattle.ip_held.specs.declared.held.Held.{Held}
use Rattle.ip_held.specs.declared.work.Work.{Work}
use Rattle.ip_held.specs.declared.fault.StoreFault.{StoreFault}
use Rattle.ip_held.specs.Changes.{HasAnswer, IsUndamaged, Changes}
use Rattle.ip_held.specs.Collecting.{phase_of}
use Rattle.ip_held.specs.Answers.{fault_reply, met_by, met_of}
use Rattle.ip_held.specs.Faults.{counted_store}
use Rattle.ip_held.specs.Answers as commits
use Rattle.ip_held.specs.Held.{IsOf, Holds}
use Rattle.ip_held.specs.Slots.{KeepsSlots}
use Rattle.ip_held.specs.Views.{IsViewAfter}
use Rattle.ip_held.specs.Work.{work_at, session, IsAt}
use Rattle.ip_publish.specs.Publishing.{MayChange}
use Rattle.ip_held.proofs.Machine.{AsksNone}
use Rattle.ip_held.proofs.KeptFiles.{keeps_store}
use Rattle.ip_held.proofs.Recovering.{recovers_since}
use Rattle.ip_held.proofs.Stepping.{of_store}
use Rattle.ip_session.specs.declared.session.Session.{Session}
use Rattle.ip_session.specs.declared.session.SessionEnd.{SessionEnd}
use Rattle.ip_session.specs.Session.{unasked, attempt_of, hears, IsWorking, state_in, met_only, conditions_of, IsLong, is_durable, IsDurable, ChangedBy, TouchedBy, GoesBy, CutBy, EndsBy, IsAnswer, MetDamage, fault_answer, counted_end}
use Rattle.ip_session.proofs.Damage.{TellsApart}
use Rattle.ip_session.proofs.Changing.{changed_by, nothing_by, nothing_space, slots_same, changed_so, touched_so, keeps_nothing, stays_only}
use Rattle.ip_session.proofs.SessionLemmas.{at, heard_none, unjudged, unsettled, nothing_kept, plainly, Refusable}
use Rattle.ip_store.specs.declared.store.Store.{Store}

pub keeps_still : (store : Held) (r after : Repository) (a b : Told) → Holds store a r → NothingPending a → ChangesOnly NoFile a b → IsAtomic a b r after
keeps_still store r after a b holds order only t late le =
    let now = recovers_since store r a holds order b (λ file. only.others file (λ none. none)) only.lending t late le in
    record { stands = λ image possible. inl (now.stands image possible); flushed = now.flushed }

durable_asks : (command : Command) → is_durable command ≡ true → AsksNone command
durable_asks Command.Look durable = absurd (cc durable)
durable_asks Command.Finish durable = absurd (cc durable)
durable_asks _ durable = tt

module _ (r : Repository) (phase : Phase) (w : MachineWork) (command : Command) where
  abbrev s : State
  s = at r phase w

  -- plain: it is no merge, whose turns are a relation
  pub record IsWhole (after : Repository) : Type 0 where
    pub quiet : (met : Met) → ¬ IsDurable (answer s command (conditions_of met)).0 command → (answer s command (conditions_of met)).1 ≡ s
    pub done : (met : Met) → IsDurable (answer s command (conditions_of met)).0 command → (answer s command (conditions_of met)).1.repository ≡ after
    pub plain : (met : Conditions) (t : Turned) → t ≡ answer s command met → Turns unasked s command met t
    pub refusable : Refusable command
    pub durable : is_durable command ≡ true

  pub turned_by : (met : Met) (b : Bool) → met.child ≡ Child.NotAsked → met.refused ≡ b → turned s command (conditions_of met) ≡ (if b then (Reply.Memory, s) else answer s command (conditions_of met))
  unfolding turned
  turned_by met b heard e = ap (λ (t : State). if met.refused then (Reply.Memory, t) else answer s command (conditions_of met)) (nothing_kept s met.child heard)
      ∙ ap (λ (b : Bool). if b then (Reply.Memory, s) else answer s command (conditions_of met)) e

  module _ (after : Repository) (whole : IsWhole after) (met : Met) (heard : met.child ≡ Child.NotAsked) (reply : Reply) (s' : State) (e : turned s command (conditions_of met) ≡ (reply, s')) where
    -- memory was refused, or this is the machine's answer
    pub unless_refused : (P : Reply → State → Type 0) → P Reply.Memory s → P (answer s command (conditions_of met)).0 (answer s command (conditions_of met)).1 → P reply s'
    unless_refused P refused answered = by met.refused refl
      where
        by : (b : Bool) → met.refused ≡ b → P reply s'
        by true is = let same = sym (turned_by met true heard is) ∙ e in subst (λ (t : Turned). P t.0 t.1) same refused
        by false is = let same = sym (turned_by met false heard is) ∙ e in subst (λ (t : Turned). P t.0 t.1) same answered

    pub stays : ¬ IsDurable reply command → s' ≡ s
    stays = unless_refused (λ x t. ¬ IsDurable x command → t ≡ s) (λ quiet. refl) (whole.quiet met)

    made : IsDurable reply command → s'.repository ≡ after
    made = unless_refused (λ x t. IsDurable x command → t.repository ≡ after) (λ done. absurd done) (whole.done met)

    step_of : IsMet s command (conditions_of met) reply → Step unasked s command (conditions_of met) reply s'
    step_of is_met = (is_met, by met.refused refl)
      where
        by : (b : Bool) → met.refused ≡ b → MatchBool b ((reply ≡ Reply.Memory) × (s' ≡ state_with_exit s s.phase met.child)) (Turns unasked s command (conditions_of met) (reply, s'))
        by true is = let same = sym e ∙ turned_by met true heard is in (ap (λ (t : Turned). t.0) same, ap (λ (t : Turned). t.1) same ∙ sym (nothing_kept s met.child heard))
        by false is = whole.plain (conditions_of met) (reply, s') (sym e ∙ turned_by met false heard is)

-- a command that was not done leaves what is known of the work's tree
kept_view : (r : Repository) (v : View) (command : Command) (reply : Reply) (view : View) → is_durable command ≡ true → ¬ IsDurable reply command → IsViewAfter r v command reply view → view ≡ v
kept_view r v (Command.Commit branch info) (Reply.Committed name) view durable quiet seen = absurd (quiet tt)
kept_view r v (Command.Commit branch info) _ view durable quiet seen = seen
kept_view r v (Command.Merge target branch info) reply view durable quiet seen = seen
kept_view r v (Command.Branch name target) reply view durable quiet seen = seen
kept_view r v (Command.BranchRm name) reply view durable quiet seen = seen
kept_view r v (Command.Collect target) reply view durable quiet seen = seen
kept_view r v _ reply view durable quiet seen = absurd (cc durable)

pub record IsTurn (b : Told) (s : Session) (store : Store) (work : Work) (r : Repository) (v : View) (command : Command) (reply : Reply) : Type 0 where
  pub next : Repository
  pub view : View
  pub turns : commits.Turns (state_in s r v) command store.met reply (session next (phase_of store.held.collection) work view)
  pub is_at : Holds store.held b next → IsAt b store.held next work view
  pub seen : IsViewAfter r v command reply view

module _ (a b : Told) (s : Session) (store : Store) (work : Work) (r after : Repository) (v : View) (here : IsWorking a s r v) (command : Command) (whole : IsWhole r (phase_of s.store.held.collection) (work_at s.work v) command after) where
  abbrev pub after_it : Session
  after_it = record s { store = store; work = work; met = store.met }

  abbrev pub Went : Reply → Type 0
  Went = GoesBy unasked a b s after_it r v command

  abbrev pub Turn : Reply → Type 0
  Turn = IsTurn b s store work r v command

  heard_as : {reply : Reply} → Turn reply → store.met.child ≡ Child.NotAsked
  heard_as T = heard_none (phase_of s.store.held.collection) command (durable_asks command whole.durable) store.met.child T.turns.0.child

  pub refused_so : (reply : Reply) → ¬ IsDurable reply command → Turn reply → ChangesOnly NoFile a b × Holds store.held b r → Went reply
  refused_so reply quiet T does =
      let only : ChangesOnly NoFile a b = does.0 in
      let state : session T.next (phase_of store.held.collection) work T.view ≡ state_in s r v = stays r (phase_of s.store.held.collection) (work_at s.work v) command after whole store.met (heard_as T) reply (session T.next (phase_of store.held.collection) work T.view) T.turns.1 quiet in
      let repository : T.next ≡ r = ap (λ (t : State). t.repository) state in
      record {
        after = T.next;
        view = T.view;
        difference = None;
        gives = step_of r (phase_of s.store.held.collection) (work_at s.work v) command after whole store.met (heard_as T) reply (session T.next (phase_of store.held.collection) work T.view) T.turns.1 T.turns.0;
        judged = unjudged a b s after_it r v (heard_as T);
        settled = unsettled b s after_it reply (heard_as T);
        stays = stays_only s.store.held.collection NoFile a b only;
        is_at = T.is_at (subst (Holds store.held b) (sym repository) does.1);
        seen = T.seen;
        only = nothing_by (hears command) (attempt_of s.store.held command) (ChangedBy s.store.held a.held command reply) a b only;
        files = keeps_nothing a b only;
        said = only.said;
        space = λ order none slot live. nothing_space a b only order slot live;
        atomic = λ order. keeps_still s.store.held r T.next a b here.holds order only;
        slots = λ order. slots_same s.store.held r a b here.holds only;
        nothing_pending = λ order. pending_passes a b only.goes (λ file. only.others file (λ none. none)) only.lending order;
        spared = λ long. record { same = state; seen = kept_view r v command reply T.view whole.durable quiet T.seen; refused = whole.refusable r (phase_of s.store.held.collection) (work_at s.work v) };
        still = λ long. only;
      }

  pub fault_so : {A : Type 0} (fault : StoreFault) → IfSome (fault_reply fault) (λ reply. HasAnswer {A = A} (Err fault) → Turn reply) → Changes {A = A} r after (Err fault) store.held a b → IfSome (fault_reply fault) Went
  fault_so (StoreFault.GivenUp number) T does = refused_so (Reply.GivenUp number) (λ h. h) (T tt) (does.refused (refl, tt))
  fault_so (StoreFault.Leaving number) T does = refused_so (Reply.Leaving number) (λ h. h) (T tt) (does.refused (refl, tt))
  fault_so (StoreFault.HeadMoved name) T does = refused_so (Reply.HeadMoved name) (λ h. h) (T tt) (does.refused (refl, tt))
  fault_so (StoreFault.Existing name) T does = refused_so (Reply.Existing name) (λ h. h) (T tt) (does.refused (refl, tt))
  fault_so (StoreFault.Limit limit) T does = refused_so (Reply.Limit limit) (λ h. h) (T tt) (does.refused (refl, tt))
  fault_so StoreFault.Memory T does = refused_so Reply.Memory (λ h. h) (T tt) (does.refused (refl, tt))
  fault_so StoreFault.Ground T does = tt
  fault_so (StoreFault.Damaged at names) T does = tt

  pub done_so : {A : Type 0} (x : A) (reply : Reply) → IsDurable reply command → ¬ IsLong reply → Turn reply → Changes {A = A} r after (Ok x) store.held a b → (NothingPending a → KeepsSlots a b) → Went reply
  done_so x reply done short T does slots =
      let repository : T.next ≡ after = made r (phase_of s.store.held.collection) (work_at s.work v) command after whole store.met (heard_as T) reply (session T.next (phase_of store.held.collection) work T.view) T.turns.1 done in
      record {
        after = T.next;
        view = T.view;
        difference = None;
        gives = step_of r (phase_of s.store.held.collection) (work_at s.work v) command after whole store.met (heard_as T) reply (session T.next (phase_of store.held.collection) work T.view) T.turns.1 T.turns.0;
        judged = unjudged a b s after_it r v (heard_as T);
        settled = unsettled b s after_it reply (heard_as T);
        stays = stays_only s.store.held.collection (MayChange a.held) a b does.only;
        is_at = T.is_at (subst (Holds store.held b) (sym repository) does.ok);
        seen = T.seen;
        only = changed_by (hears command) (attempt_of s.store.held command) (ChangedBy s.store.held a.held command reply) a b (only_more a b _ (ChangedBy s.store.held a.held command reply) (λ file changed. changed_so s.store.held a.held command reply file done changed) does.only) (keeps_store a b (MayChange a.held) (of_store a.held) does.only);
        files = keeps_store a b (MayChange a.held) (of_store a.held) does.only;
        said = does.only.said;
        space = λ order none slot live. does.space order slot live;
        atomic = λ order. subst (λ (q : Repository). IsAtomic a b r q) (sym repository) (does.atomic order);
        slots = slots;
        nothing_pending = λ order. does.nothing_pending order tt;
        spared = λ long. absurd (short long);
        still = λ long. absurd (short long);
      }

  -- the store.held tells what was met
  pub reply_so : (met : Met) (o : Option Reply) (reply : Reply) → met ≡ store.met → o ≡ Some reply → IfSome o Went → GoesBy unasked a b s (record s { store = store; work = work; met = met }) r v command reply
  reply_so met o reply m e went =
      subst (λ (x : Met). GoesBy unasked a b s (record s { store = store; work = work; met = x }) r v command reply) (sym m) (subst (λ (x : Option Reply). IfSome x Went) e went)

  -- what the machine gives where nothing was met
  pub cut_so : {A : Type 0} (result : Result A StoreFault) (met : Met) → met ≡ met_only false → is_durable command ≡ true → (answer (state_in s r v) command (conditions_of (met_only false))).1.repository ≡ after → Changes {A = A} r after result store.held a b → (NothingPending a → KeepsSlots a b)
      → CutBy unasked a b s (record s { store = store; work = work; met = met }) r v command
  cut_so result met e durable repository does slots =
      let t = answer (state_in s r v) command (conditions_of (met_only false)) in
      record {
        reply = t.0;
        after = t.1;
        difference = None;
        gives = subst (λ (m : Met). Step unasked (state_in s r v) command (conditions_of m) t.0 t.1) (sym e) (plainly r (phase_of s.store.held.collection) (work_at s.work v) command false t.0 (durable_asks command durable) (λ h. absurd (cc h)), whole.plain (conditions_of (met_only false)) t refl);
        judged = unjudged a b s (record s { store = store; work = work; met = met }) r v (ap (λ (m : Met). m.child) e);
        stays = stays_only s.store.held.collection (MayChange a.held) a b does.only;
        only = changed_by (hears command) (attempt_of s.store.held command) (TouchedBy s.store.held a.held command) a b (only_more a b (MayChange a.held) (TouchedBy s.store.held a.held command) (λ file changed. touched_so s.store.held a.held command file durable changed) does.only) (keeps_store a b (MayChange a.held) (of_store a.held) does.only);
        files = keeps_store a b (MayChange a.held) (of_store a.held) does.only;
        said = does.only.said;
        space = λ order none slot live. does.space order slot live;
        atomic = λ order. subst (λ (q : Repository). IsAtomic a b r q) (sym repository) (does.atomic order);
        slots = slots;
      }

-- an answered call gives no commits up, if the repository that it leaves does not
pub floor_stays : {A : Type 0} (r after q : Repository) (made : Result A StoreFault) (store : Held) (a b : Told) → after.floor ≡ r.floor → Changes r after made store a b → HasAnswer made → IsOf store q → q.floor ≡ r.floor
floor_stays r after q (Ok x) store a b le does has of = let after_is = does.ok.tables.floor in let q_is = of.floor in omega (arith, le, after_is, q_is)
floor_stays r after q (Err fault) store a b le does has of = let r_is = (does.refused (refl, has)).1.tables.floor in let q_is = of.floor in omega (arith, r_is, q_is)

pub answered : (A : Type 0) (fault : StoreFault) (reply : Reply) → fault_reply fault ≡ Some reply → HasAnswer {A = A} (Err fault)
answered A (StoreFault.GivenUp number) reply e = tt
answered A (StoreFault.Leaving number) reply e = tt
answered A (StoreFault.HeadMoved name) reply e = tt
answered A (StoreFault.Existing name) reply e = tt
answered A (StoreFault.Limit limit) reply e = tt
answered A StoreFault.Memory reply e = tt
answered A StoreFault.Ground reply e = absurd (cc e)
answered A (StoreFault.Damaged at names) reply e = absurd (cc e)

-- ---- what a call of the store is answered with

abbrev pub EndsBecause : {A : Type 0} → Result A StoreFault → SessionEnd → Type 0
EndsBecause made end = IsErrAnd made (λ fault. fault_answer fault ≡ Err end)

pub by_answer : {A : Type 0} (replied : Option Reply) (made : Result A StoreFault) (result : Result Reply SessionEnd) (P : Result Reply SessionEnd → Type 0) → IsAnswer replied made result → ((reply : Reply) → replied ≡ Some reply → P (Ok reply)) → ((end : SessionEnd) → EndsBecause made end → P (Err end)) → P result
by_answer replied made (Ok reply) P is answers ends = answers reply is.0
by_answer replied made (Err end) P is answers ends = ends end is.1

-- two faults end a session
by_end : (P : StoreFault → SessionEnd → Type 0) (fault : StoreFault) (end : SessionEnd) → fault_answer fault ≡ Err end → P StoreFault.Ground SessionEnd.Ground → ((at_ : ℕ) (names : Option (Hash × Hash)) → P (StoreFault.Damaged at_ names) (SessionEnd.Damaged at_ names)) → P fault end
by_end P StoreFault.Ground end is ground damaged = (let same : SessionEnd.Ground ≡ end = cc is in subst (P StoreFault.Ground) same ground)
by_end P (StoreFault.Damaged at_ names) end is ground damaged = (let same : SessionEnd.Damaged at_ names ≡ end = cc is in subst (P (StoreFault.Damaged at_ names)) same (damaged at_ names))
by_end P (StoreFault.GivenUp number) end is ground damaged = absurd (cc is)
by_end P (StoreFault.Leaving number) end is ground damaged = absurd (cc is)
by_end P (StoreFault.HeadMoved name) end is ground damaged = absurd (cc is)
by_end P (StoreFault.Existing name) end is ground damaged = absurd (cc is)
by_end P (StoreFault.Limit limit) end is ground damaged = absurd (cc is)
by_end P StoreFault.Memory end is ground damaged = absurd (cc is)

-- files that others changed are never met where it is known what the store holds
pub fault_ends : {A : Type 0} (made : Result A StoreFault) (end : SessionEnd) (held : Type 0) → EndsBecause made end → IfErr made TellsApart → (held → IsUndamaged made) → EndsBy held end
fault_ends (Ok x) end held is apart sound = absurd is
fault_ends {A = A} (Err fault) end held is apart sound = by_end (λ f e. TellsApart f → (held → IsUndamaged {A = A} (Err f)) → EndsBy held e) fault end is (λ a s. tt) (λ at_ names a s. (s, a)) apart sound

pub fault_ground : {A : Type 0} (made : Result A StoreFault) (end : SessionEnd) → EndsBecause made end → IsUndamaged made → IsErrOf made StoreFault.Ground
fault_ground (Ok x) end is sound = absurd is
fault_ground {A = A} (Err fault) end is sound = ap Err (by_end (λ f e. IsUndamaged {A = A} (Err f) → f ≡ StoreFault.Ground) fault end is (λ s. refl) (λ at_ names s. absurd s) sound)

-- damage ends it only where the call met it
pub damage_of : {A : Type 0} (made : Result A StoreFault) (end : SessionEnd) → EndsBecause made end → MetDamage {A = Reply} (Err end) → ¬ IsUndamaged made
damage_of (Ok x) end is met sound = is
damage_of {A = A} (Err fault) end is met sound = by_end (λ f e. MetDamage {A = Reply} (Err e) → IsUndamaged {A = A} (Err f) → ⊥) fault end is (λ m s. m) (λ at_ names m s. s) met sound

-- nothing was met by it
pub fault_met : {A : Type 0} (made : Result A StoreFault) (end : SessionEnd) → EndsBecause made end → met_by made ≡ met_only false
fault_met (Ok x) end is = absurd is
fault_met (Err fault) end is = by_end (λ f e. met_of f ≡ met_only false) fault end is refl (λ at_ names. refl)

-- a fault of the ground was counted, or damage, and of all else nothing
pub answer_counts : {A : Type 0} (replied : Option Reply) (made : Result A StoreFault) (result : Result Reply SessionEnd) (old new : Noted) → IsAnswer replied made result → ((reply : Reply) → replied ≡ Some reply → HasAnswer made) → Counts counted_store made old new → Counts counted_end result old new
answer_counts {A = A} replied made result old new is has counts = by_answer replied made result (λ x. Counts counted_end x old new) is (λ reply e. still made (has reply e) counts) (λ end e. counted made end e counts)
  where
    still : (made : Result A StoreFault) → HasAnswer made → Counts counted_store made old new → new ≡ old
    still (Ok x) has counts = counts
    still (Err StoreFault.Ground) has counts = absurd has
    still (Err (StoreFault.Damaged at_ names)) has counts = absurd has
    still (Err _) has counts = counts

    counted : (made : Result A StoreFault) (end : SessionEnd) → EndsBecause made end → Counts counted_store made old new → CountsIf (counted_end end) old new
    counted (Ok x) end e counts = absurd e
    counted (Err fault) end e counts = by_end (λ f e. CountsIf (counted_store f) old new → CountsIf (counted_end e) old new) fault end e (λ c. c) (λ at_ names c. c) counts

-- What a session does that put a branch at a commit, or took one away.
--     set_goes, remove_goes      the store answered it.      set_cut, remove_cut      a fault of the ground cut it short
--     unnamed_goes      no commit has the name that was given.      serves      the session goes on serving, whatever is told
--     has_answer_set, has_answer_removed      what has a reply is an answer
use Rattle.std.proofs.Common.{◌≡◌, ℕ, Bool, true, false, refl, sym, ap, ◌∙◌, subst, Option, Some, None, Ok, Err}
use Rattle.std.specs.Prelude.{Result, IfSome, IsSome}
use Rattle.std.proofs.lemmas.Option.{IfSome_then}
use Rattle.ip_ground.specs.Told.{Told, NoFile, ChangesOnly}
use Rattle.ip_ground.proofs.Spans.{only_nowhere}
use Rattle.ip_spec.specs.declared.command.Command.{Command}
use Rattle.ip_spec.specs.declared.command.Target.{Target}
use Rattle.ip_spec.specs.declared.met.Met.{Met}
use Rattle.ip_spec.specs.declared.reply.Reply.{Reply}
use Rattle.ip_spec.specs.Map.{Map}
use Rattle.ip_spec.specs.Path.{Bytes, bytes_cmp}
use Rattle.ip_spec.specs.Repository.{Repository, head}
use Rattle.ip_spec.specs.Machine.{Phase, Work as MachineWork, State, Limit}
use Rattle.ip_spec.specs.Step.{Refused, ◌>>◌, ◌>>=◌, refuse_if, or_refused, Turned, below, present, unless_some, not_leaving, resolve, room_for_branch, with_branch, is_short, Step, outcome, answer}
use Rattle.ip_spec.specs.View.{View}
use Rattle.ip_image.specs.Pending.{NothingPending}
use Rattle.ip_held.specs.declared.held.Held.{Held}
use Rattle.ip_held.specs.declared.fault.StoreFault.{StoreFault}
use Rattle.ip_held.specs.Changes.{Changes, HasAnswer}
use Rattle.ip_held.specs.Collecting.{not_leaving_in, phase_of}
use Rattle.ip_held.specs.Answers.{fault_reply, Turns}
use Rattle.ip_held.specs.declared.collection.Collection.{Collection}
use Rattle.ip_appends.specs.Naming.{branch_reply, removed_reply, AnswersBranch, AnswersSet, AnswersRemove, without_branch}
use Rattle.ip_held.specs.Held.{IsOf, Holds}
use Rattle.ip_held.specs.Slots.{KeepsSlots}
use Rattle.ip_held.specs.Work.{AreParents, IsAt, work_at, session}
use Rattle.ip_held.specs.Views.{IsViewAfter}
use Rattle.ip_session.specs.declared.session.Session.{Session}
use Rattle.ip_session.specs.Session.{unasked, IsServing, IsWorking, state_in, met_only, conditions_of, IsDurable, ChangedBy, OnlyBy, GoesBy, CutBy}
use Rattle.ip_session.proofs.SessionLemmas.{at, heard_none, plainly, ok_is_short, branch_refused, branch_rm_refused}
use Rattle.ip_session.proofs.SessionGoes.{still_goes}
use Rattle.ip_session.proofs.DurableGoes.{IsWhole, IsTurn, stays, refused_so, fault_so, done_so, reply_so, cut_so, Went, floor_stays, answered}
use Rattle.ip_store.specs.declared.store.Store.{Store}

abbrev IsAccepted : Reply → Type 0
IsAccepted Reply.Accepted = Unit {0}
IsAccepted reply = ⊥

-- no refusal is an `ok`
abbrev NeverOk : {A : Type 0} → Refused A → Type 0
NeverOk (Ok u) = Unit {0}
NeverOk (Err reply) = ¬ IsAccepted reply

-- a refusal, and the limits that are met last
abbrev chain : {A : Type 0} → Refused A → (short_space short_sequence : Bool) → Turned → Refused Turned
chain g short_space short_sequence t = g >> (refuse_if short_space (Reply.Limit Limit.Space) >> (refuse_if short_sequence (Reply.Limit Limit.Sequence) >> Ok t))

quiet_chain : {A : Type 0} (s : State) (g : Refused A) (short_space short_sequence : Bool) (t : Turned) → IsAccepted t.0 → ¬ IsAccepted (or_refused s (chain g short_space short_sequence t)).0 → (or_refused s (chain g short_space short_sequence t)).1 ≡ s
quiet_chain s (Err e) short_space short_sequence t is quiet = refl
quiet_chain s (Ok u) true short_sequence t is quiet = refl
quiet_chain s (Ok u) false true t is quiet = refl
quiet_chain s (Ok u) false false t is quiet = absurd (quiet is)

done_chain : {A : Type 0} (s : State) (g : Refused A) (short_space short_sequence : Bool) (t : Turned) → NeverOk g → IsAccepted (or_refused s (chain g short_space short_sequence t)).0 → or_refused s (chain g short_space short_sequence t) ≡ t
done_chain s (Err e) short_space short_sequence t never is = absurd (never is)
done_chain s (Ok u) true short_sequence t never is = absurd is
done_chain s (Ok u) false true t never is = absurd is
done_chain s (Ok u) false false t never is = refl

-- ---- putting a branch at a commit

accepted_set : (name : Bytes) (target : Target) (reply : Reply) → IsDurable reply (Command.Branch name target) → IsAccepted reply
accepted_set name target Reply.Accepted is = is
accepted_set name target _ is = absurd is

durable_set : (name : Bytes) (target : Target) (reply : Reply) → IsAccepted reply → IsDurable reply (Command.Branch name target)
durable_set name target Reply.Accepted is = is
durable_set name target _ is = absurd is

module _ (r : Repository) (phase : Phase) (w : MachineWork) (name : Bytes) (target : Target) where
  abbrev s : State
  s = at r phase w

  abbrev set : Command
  set = Command.Branch name target

  abbrev put_at : ℕ → Turned
  put_at n = (Reply.Accepted, at (with_branch r name n) phase w)

  -- what stands against the commit, and against one branch more
  abbrev allowed : ℕ → Refused (Unit {0})
  allowed n = not_leaving_in phase (Some n) >> room_for_branch r name

  both : (g h : Refused (Unit {0})) (y : Refused Turned) → g >> (h >> y) ≡ (g >> h) >> y
  both (Err e) h y = refl
  both (Ok u) h y = refl

  abbrev behind : Met → ℕ → Refused Turned
  behind met n = not_leaving s (Some n) >> chain (room_for_branch r name) (is_short Limit.Space met.short) (is_short Limit.Sequence met.short) (put_at n)

  set_turn : (met : Met) (x : Refused ℕ) → resolve r target ≡ x → answer s set (conditions_of met) ≡ or_refused s (x >>= behind met)
  unfolding outcome
  set_turn met x is = ap (λ (g : Refused ℕ). or_refused s (g >>= behind met)) is

  never_full : (b : Bool) → NeverOk (refuse_if b (Reply.Limit Limit.Branches))
  never_full true = λ h. h
  never_full false = tt

  never_leaving : (o : Option ℕ) → NeverOk (unless_some o Reply.Leaving)
  never_leaving None = tt
  never_leaving (Some n) = λ h. h

  never_in : (phase : Phase) (n : ℕ) → NeverOk (not_leaving_in phase (Some n))
  never_in Phase.Idle n = tt
  never_in (Phase.Collecting c exit) n = never_leaving (below c (Some n))

  never_both : (g h : Refused (Unit {0})) → NeverOk g → NeverOk h → NeverOk (g >> h)
  never_both (Err e) h one other = one
  never_both (Ok u) h one other = other

  never_allowed : (n : ℕ) → NeverOk (allowed n)
  never_allowed n = never_both (not_leaving_in phase (Some n)) (room_for_branch r name) (never_in phase n) (never_full _)

  module _ (n : ℕ) (is : resolve r target ≡ Ok n) where
    chain_of : Met → Refused Turned
    chain_of met = chain (allowed n) (is_short Limit.Space met.short) (is_short Limit.Sequence met.short) (put_at n)

    answer_is : (met : Met) → answer s set (conditions_of met) ≡ or_refused s (chain_of met)
    unfolding chain_of
    answer_is met = set_turn met (Ok n) is ∙ ap (or_refused s) (both (not_leaving_in phase (Some n)) (room_for_branch r name) (refuse_if (is_short Limit.Space met.short) (Reply.Limit Limit.Space) >> (refuse_if (is_short Limit.Sequence met.short) (Reply.Limit Limit.Sequence) >> Ok (put_at n))))

    quiet_set : (met : Met) → ¬ IsDurable (answer s set (conditions_of met)).0 set → (answer s set (conditions_of met)).1 ≡ s
    unfolding chain_of
    quiet_set met quiet = ap (λ (t : Turned). t.1) (answer_is met) ∙ quiet_chain s (allowed n) (is_short Limit.Space met.short) (is_short Limit.Sequence met.short) (put_at n) tt
        (λ ok. quiet (durable_set name target (answer s set (conditions_of met)).0 (subst (λ (t : Turned). IsAccepted t.0) (sym (answer_is met)) ok)))

    done_set : (met : Met) → IsDurable (answer s set (conditions_of met)).0 set → (answer s set (conditions_of met)).1.repository ≡ with_branch r name n
    unfolding chain_of
    done_set met done = ap (λ (t : Turned). t.1.repository) (answer_is met ∙ done_chain s (allowed n) (is_short Limit.Space met.short) (is_short Limit.Sequence met.short) (put_at n) (never_allowed n)
        (subst (λ (t : Turned). IsAccepted t.0) (answer_is met) (accepted_set name target (answer s set (conditions_of met)).0 done)))

    whole_set : IsWhole r phase w set (with_branch r name n)
    whole_set = record { quiet = quiet_set; done = done_set; plain = λ met t e. e; refusable = branch_refused name target; durable = refl }

    -- where no collection gives the commit up, there is room, and no limit is met
    roomy : not_leaving_in phase (Some n) ≡ Ok tt → room_for_branch r name ≡ Ok tt → (answer s set (conditions_of (met_only false))).1.repository ≡ with_branch r name n
    unfolding chain_of
    roomy staying room = ap (λ (t : Turned). t.1.repository) (answer_is (met_only false) ∙ (λ i. or_refused s (chain (staying i >> room i) false false (put_at n))))

  unnamed : (reply : Reply) → resolve r target ≡ Err reply → Step unasked s set (conditions_of (met_only false)) reply s
  unnamed reply is = (plainly r phase w set false reply tt (λ h. absurd (cc h)), sym (set_turn (met_only false) (Err reply) is))

pub unnamed_goes : (a : Told) (s : Session) (met : Met) (r : Repository) (v : View) (here : IsWorking a s r v) (name : Bytes) (target : Target) (reply : Reply) → met ≡ met_only false → resolve r target ≡ Err reply
    → GoesBy unasked a a s (record s { met = met }) r v (Command.Branch name target) reply
unnamed_goes a s met r v here name target reply e none = still_goes a s met r v here (OnlyBy s.store.held a a (Command.Branch name target)) (Step unasked (state_in s r v) (Command.Branch name target)) (IsViewAfter r v (Command.Branch name target)) reply (ap (λ (m : Met). m.child) e)
    (subst (λ (m : Met). Step unasked (state_in s r v) (Command.Branch name target) (conditions_of m) reply (state_in s r v)) (sym e) (unnamed r (phase_of s.store.held.collection) (work_at s.work v) name target reply none))
    refl
    (λ long. branch_refused name target r (phase_of s.store.held.collection) (work_at s.work v))
    (only_nowhere a (ChangedBy s.store.held a.held (Command.Branch name target) reply))

-- the store's answer is the machine's turn, and the work is lawful where it stays so
turn_of : (b : Told) (s : Session) (store : Store) (r : Repository) (v : View) (command : Command) (reply : Reply) → store.held.collection ≡ s.store.held.collection → IsViewAfter r v command reply v → AreParents r s.work.least s.work.parents → AnswersBranch r (phase_of s.store.held.collection) command store.met reply store.held
    → ((q : Repository) → Holds store.held b q → AreParents q s.work.least s.work.parents → IsAt b store.held q s.work v) → IsTurn b s store s.work r v command reply
turn_of b s store r v command reply phase seen parents A stays = record {
  next = A.after;
  view = v;
  turns = subst (λ (o : Option Collection). Turns (state_in s r v) command store.met reply (session A.after (phase_of o) s.work v)) (sym phase) (A.turns (work_at s.work v));
  is_at = λ holds. stays A.after holds (A.parents s.work.least s.work.parents parents);
  seen = seen;
}

-- none of the commits that the work rests on was given up
works_on : {A : Type 0} (a b : Told) (s : Session) (store : Held) (r after : Repository) (v : View) (made : Result A StoreFault) → after.floor ≡ r.floor → Changes r after made store a b
    → (HasAnswer made → (q : Repository) → Holds store b q → q.floor ≡ r.floor → AreParents q s.work.least s.work.parents → IsAt b store q s.work v) → HasAnswer made → (q : Repository) → Holds store b q → AreParents q s.work.least s.work.parents → IsAt b store q s.work v
works_on a b s store r after v made le does works has q now parents = works has q now (floor_stays r after q made store a b le does has now.tables) parents

-- so the session goes on serving
pub serves : (r : Repository) (phase : Phase) (command : Command) (met : Met) (reply : Reply) (store : Store) (s : Session) → AreParents r s.work.least s.work.parents → AnswersBranch r phase command met reply store.held → IsServing (record s { store = store })
serves r phase command met reply store s parents A = (A.after, (A.tables, A.parents s.work.least s.work.parents parents))

module _ (a b : Told) (s : Session) (store : Store) (met : Met) (r : Repository) (v : View) (here : IsWorking a s r v) (name : Bytes) (target : Target) (n : ℕ) (named : resolve r target ≡ Ok n) (made : Result (Unit {0}) StoreFault) (phase_is : store.held.collection ≡ s.store.held.collection)
    (does : Changes r (with_branch r name n) made store.held a b) (slots : NothingPending a → KeepsSlots a b) (works : HasAnswer made → (q : Repository) → Holds store.held b q → q.floor ≡ r.floor → AreParents q s.work.least s.work.parents → IsAt b store.held q s.work v) where
  abbrev setting : Command
  setting = Command.Branch name target

  abbrev set_to : Repository
  set_to = with_branch r name n

  pub set_goes : (reply : Reply) → met ≡ store.met → branch_reply made ≡ Some reply → IfSome (branch_reply made) (AnswersSet r (phase_of s.store.held.collection) name n store.met store.held)
      → GoesBy unasked a b s (record s { store = store; met = met }) r v setting reply
  set_goes reply m e A = reply_so a b s store s.work r set_to v here setting whole met (branch_reply made) reply m e (by made A (works_on a b s store.held r set_to v made refl does works) does)
    where
      whole : IsWhole r (phase_of s.store.held.collection) (work_at s.work v) setting set_to
      whole = whole_set r (phase_of s.store.held.collection) (work_at s.work v) name target n named

      by : (made : Result (Unit {0}) StoreFault) → IfSome (branch_reply made) (AnswersSet r (phase_of s.store.held.collection) name n store.met store.held) → (HasAnswer made → (q : Repository) → Holds store.held b q → AreParents q s.work.least s.work.parents → IsAt b store.held q s.work v)
          → Changes r set_to made store.held a b → IfSome (branch_reply made) (Went a b s store s.work r set_to v here setting whole)
      by (Ok u) A stays does = done_so a b s store s.work r set_to v here setting whole u Reply.Accepted tt ok_is_short (turn_of b s store r v setting Reply.Accepted phase_is refl here.lawful.parents (A target named) (stays tt)) does slots
      by (Err fault) A stays does = fault_so a b s store s.work r set_to v here setting whole fault (IfSome_then (fault_reply fault) A (λ reply x has. turn_of b s store r v setting reply phase_is refl here.lawful.parents (x target named) (stays has))) does

  pub set_cut : met ≡ met_only false → not_leaving_in (phase_of s.store.held.collection) (Some n) ≡ Ok tt → room_for_branch r name ≡ Ok tt → CutBy unasked a b s (record s { store = store; met = met }) r v setting
  set_cut e staying room = cut_so a b s store s.work r set_to v here setting (whole_set r (phase_of s.store.held.collection) (work_at s.work v) name target n named) made met e refl (roomy r (phase_of s.store.held.collection) (work_at s.work v) name target n named staying room) does slots

pub has_answer_set : (made : Result (Unit {0}) StoreFault) (reply : Reply) → branch_reply made ≡ Some reply → HasAnswer made
has_answer_set (Ok done) reply e = tt
has_answer_set (Err fault) reply e = answered (Unit {0}) fault reply e

-- ---- taking a branch away

accepted_removed : (name : Bytes) (reply : Reply) → IsDurable reply (Command.BranchRm name) → IsAccepted reply
accepted_removed name Reply.Accepted is = is
accepted_removed name _ is = absurd is

durable_removed : (name : Bytes) (reply : Reply) → IsAccepted reply → IsDurable reply (Command.BranchRm name)
durable_removed name Reply.Accepted is = is
durable_removed name _ is = absurd is

module _ (r : Repository) (phase : Phase) (w : MachineWork) (name : Bytes) where
  abbrev there : Refused ℕ
  there = present (head r name) (Reply.NoBranch name)

  abbrev gone : Turned
  gone = (Reply.Accepted, at (without_branch r name) phase w)

  abbrev removed : Met → Refused Turned
  removed met = chain there (is_short Limit.Space met.short) (is_short Limit.Sequence met.short) gone

  removed_turn : (met : Met) → answer (at r phase w) (Command.BranchRm name) (conditions_of met) ≡ or_refused (at r phase w) (removed met)
  unfolding outcome
  removed_turn met = refl

  never_there : (o : Option ℕ) → NeverOk (present o (Reply.NoBranch name))
  never_there None = λ h. h
  never_there (Some n) = tt

  quiet_removed : (met : Met) → ¬ IsDurable (answer (at r phase w) (Command.BranchRm name) (conditions_of met)).0 (Command.BranchRm name) → (answer (at r phase w) (Command.BranchRm name) (conditions_of met)).1 ≡ at r phase w
  quiet_removed met quiet = ap (λ (t : Turned). t.1) (removed_turn met) ∙ quiet_chain (at r phase w) there (is_short Limit.Space met.short) (is_short Limit.Sequence met.short) gone tt
      (λ ok. quiet (durable_removed name (answer (at r phase w) (Command.BranchRm name) (conditions_of met)).0 (subst (λ (t : Turned). IsAccepted t.0) (sym (removed_turn met)) ok)))

  done_removed : (met : Met) → IsDurable (answer (at r phase w) (Command.BranchRm name) (conditions_of met)).0 (Command.BranchRm name) → (answer (at r phase w) (Command.BranchRm name) (conditions_of met)).1.repository ≡ without_branch r name
  done_removed met done = ap (λ (t : Turned). t.1.repository) (removed_turn met ∙ done_chain (at r phase w) there (is_short Limit.Space met.short) (is_short Limit.Sequence met.short) gone (never_there (head r name))
      (subst (λ (t : Turned). IsAccepted t.0) (removed_turn met) (accepted_removed name (answer (at r phase w) (Command.BranchRm name) (conditions_of met)).0 done)))

  whole_removed : IsWhole r phase w (Command.BranchRm name) (without_branch r name)
  whole_removed = record { quiet = quiet_removed; done = done_removed; plain = λ met t e. e; refusable = branch_rm_refused name; durable = refl }

  -- where there is one, and no limit is met
  found : (o : Option ℕ) → IsSome o → (or_refused (at r phase w) (chain (present o (Reply.NoBranch name)) false false gone)).1.repository ≡ without_branch r name
  found None h = absurd (cc h)
  found (Some n) h = refl

module _ (a b : Told) (s : Session) (store : Store) (met : Met) (r : Repository) (v : View) (here : IsWorking a s r v) (name : Bytes) (made : Result Bool StoreFault) (phase_is : store.held.collection ≡ s.store.held.collection) (does : Changes r (without_branch r name) made store.held a b) (slots : NothingPending a → KeepsSlots a b)
    (works : HasAnswer made → (q : Repository) → Holds store.held b q → q.floor ≡ r.floor → AreParents q s.work.least s.work.parents → IsAt b store.held q s.work v) where
  abbrev removing : Command
  removing = Command.BranchRm name

  abbrev removed_to : Repository
  removed_to = without_branch r name

  pub remove_goes : (reply : Reply) → met ≡ store.met → removed_reply name made ≡ Some reply → (made ≡ Ok false → b ≡ a) → IfSome (removed_reply name made) (AnswersRemove r (phase_of s.store.held.collection) name store.met store.held)
      → GoesBy unasked a b s (record s { store = store; met = met }) r v removing reply
  remove_goes reply m e absent A = reply_so a b s store s.work r removed_to v here removing whole met (removed_reply name made) reply m e (by made A absent (works_on a b s store.held r removed_to v made refl does works) does)
    where
      whole : IsWhole r (phase_of s.store.held.collection) (work_at s.work v) removing removed_to
      whole = whole_removed r (phase_of s.store.held.collection) (work_at s.work v) name

      -- nothing was done
      as_before : AnswersBranch r (phase_of s.store.held.collection) removing store.met (Reply.NoBranch name) store.held → b ≡ a → Changes r removed_to (Ok false) store.held a b → ChangesOnly NoFile a b × Holds store.held b r
      as_before A same does =
          let state = stays r (phase_of s.store.held.collection) (work_at s.work v) removing removed_to whole store.met (heard_none (phase_of s.store.held.collection) removing tt store.met.child (A.turns (work_at s.work v)).0.child) (Reply.NoBranch name) (session A.after (phase_of s.store.held.collection) s.work v) (A.turns (work_at s.work v)).1 (λ h. h) in
          let now = does.ok in
          let tables : IsOf store.held r = subst (IsOf store.held) (ap (λ (t : State). t.repository) state) A.tables in (
            subst (ChangesOnly NoFile a) (sym same) (only_nowhere a NoFile),
            subst (Holds store.held b) (ap (λ (m : Map bytes_cmp ℕ). record r { branches = m }) (now.tables.branches ∙ sym tables.branches)) now,
          )

      by : (made : Result Bool StoreFault) → IfSome (removed_reply name made) (AnswersRemove r (phase_of s.store.held.collection) name store.met store.held) → (made ≡ Ok false → b ≡ a)
          → (HasAnswer made → (q : Repository) → Holds store.held b q → AreParents q s.work.least s.work.parents → IsAt b store.held q s.work v) → Changes r removed_to made store.held a b
          → IfSome (removed_reply name made) (Went a b s store s.work r removed_to v here removing whole)
      by (Ok true) A absent stays_so does = done_so a b s store s.work r removed_to v here removing whole true Reply.Accepted tt ok_is_short (turn_of b s store r v removing Reply.Accepted phase_is refl here.lawful.parents A (stays_so tt)) does slots
      by (Ok false) A absent stays_so does = refused_so a b s store s.work r removed_to v here removing whole (Reply.NoBranch name) (λ h. h) (turn_of b s store r v removing (Reply.NoBranch name) phase_is refl here.lawful.parents A (stays_so tt)) (as_before A (absent refl) does)
      by (Err fault) A absent stays_so does = fault_so a b s store s.work r removed_to v here removing whole fault (IfSome_then (fault_reply fault) A (λ reply x has. turn_of b s store r v removing reply phase_is refl here.lawful.parents x (stays_so has))) does

  pub remove_cut : met ≡ met_only false → IsSome (head r name) → CutBy unasked a b s (record s { store = store; met = met }) r v removing
  remove_cut e there = cut_so a b s store s.work r removed_to v here removing (whole_removed r (phase_of s.store.held.collection) (work_at s.work v) name) made met e refl
      (ap (λ (t : Turned). t.1.repository) (removed_turn r (phase_of s.store.held.collection) (work_at s.work v) name (met_only false)) ∙ found r (phase_of s.store.held.collection) (work_at s.work v) name (head r name) there) does slots

pub has_answer_removed : (name : Bytes) (made : Result Bool StoreFault) (reply : Reply) → removed_reply name made ≡ Some reply → HasAnswer made
has_answer_removed name (Ok true) reply e = tt
has_answer_removed name (Ok false) reply e = tt
has_answer_removed name (Err fault) reply e = answered Bool fault reply e

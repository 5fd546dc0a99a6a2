-- What a session does that ran a commit.
--     commit_goes      the store answered it.      commit_cut      a fault of the ground cut it short
--     IsPast reply      it was done, or met a limit, so that (commit_there) its work was not given up
--     has_answer      what has a reply is an answer
use Rattle.std.proofs.Common.{◌≡◌, ◌≤◌, ℕ, Bool, true, false, length, refl, sym, ap, subst, ◌∙◌, arith, Option, Some, None, Ok, Err, length-append, ◌++◌, ◌∷◌, []}
use Rattle.std.specs.Prelude.{Result, IfSome, codes}
use Rattle.std.proofs.lemmas.Option.{IfSome_then}
use Rattle.ip_base.specs.declared.info.Info.{Info}
use Rattle.ip_ground.specs.Told.{Told}
use Rattle.ip_spec.specs.declared.command.Command.{Command}
use Rattle.ip_spec.specs.declared.met.Met.{Met}
use Rattle.ip_spec.specs.declared.reply.Reply.{Reply}
use Rattle.ip_spec.specs.Path.{Bytes, space}
use Rattle.ip_spec.specs.Record.{Hash}
use Rattle.ip_spec.specs.Repository.{Repository, next}
use Rattle.ip_spec.specs.Machine.{Phase, State, Limit}
use Rattle.ip_spec.specs.Machine.{Work as MachineWork}
use Rattle.ip_spec.specs.Step.{Refused, ◌>>◌, refuse_if, or_refused, Turned, below, unless_some, not_given_up, head_among_parents, not_leaving, room_for_branch, not_existing, new_commit, with_commit, is_short, outcome, answer, turned}
use Rattle.ip_spec.specs.View.{View}
use Rattle.ip_spec.specs.Text.{reply_text, hex_text}
use Rattle.ip_image.specs.Pending.{NothingPending}
use Rattle.ip_held.specs.declared.work.Work.{Work}
use Rattle.ip_held.specs.declared.fault.StoreFault.{StoreFault}
use Rattle.ip_held.specs.Changes.{Changes, HasAnswer}
use Rattle.ip_held.specs.Collecting.{phase_of}
use Rattle.ip_held.specs.Answers.{fault_reply, met_nothing, reply_to, Answers, Turns}
use Rattle.ip_appends.specs.Commits.{repository_after}
use Rattle.ip_held.specs.declared.collection.Collection.{Collection}
use Rattle.ip_held.specs.Slots.{KeepsSlots}
use Rattle.ip_held.specs.Work.{IsThere, work_at, session}
use Rattle.ip_held.proofs.Phases.{there_none}
use Rattle.ip_session.specs.declared.session.Session.{Session}
use Rattle.ip_session.specs.Session.{unasked, IsWorking, met_only, conditions_of, IsLong, IsDurable, GoesBy, CutBy}
use Rattle.ip_session.proofs.SessionLemmas.{at, heard_none, commit_refused, hex_long}
use Rattle.ip_session.proofs.NameSizes.{Short, commit_short}
use Rattle.ip_session.proofs.DurableGoes.{IsWhole, IsTurn, turned_by, unless_refused, fault_so, done_so, reply_so, cut_so, Went, answered}
use Rattle.ip_store.specs.declared.store.Store.{Store}

abbrev IsCommitted : Reply → Type 0
IsCommitted (Reply.Committed name) = Unit {0}
IsCommitted reply = ⊥

-- the refusals of a commit in their order, the last two where a limit is met
abbrev chain : (g1 g2 g3 g4 g5 : Refused (Unit {0})) (short_space short_sequence : Bool) → Turned → Refused Turned
chain g1 g2 g3 g4 g5 short_space short_sequence t = g1 >> (g2 >> (g3 >> (g4 >> (g5 >> (refuse_if short_space (Reply.Limit Limit.Space) >> (refuse_if short_sequence (Reply.Limit Limit.Sequence) >> Ok t))))))

-- what refuses, changes nothing
quiet_chain : (s : State) (g1 g2 g3 g4 g5 : Refused (Unit {0})) (short_space short_sequence : Bool) (t : Turned) → IsCommitted t.0
    → ¬ IsCommitted (or_refused s (chain g1 g2 g3 g4 g5 short_space short_sequence t)).0 → (or_refused s (chain g1 g2 g3 g4 g5 short_space short_sequence t)).1 ≡ s
quiet_chain s (Err e) g2 g3 g4 g5 short_space short_sequence t is quiet = refl
quiet_chain s (Ok u1) (Err e) g3 g4 g5 short_space short_sequence t is quiet = refl
quiet_chain s (Ok u1) (Ok u2) (Err e) g4 g5 short_space short_sequence t is quiet = refl
quiet_chain s (Ok u1) (Ok u2) (Ok u3) (Err e) g5 short_space short_sequence t is quiet = refl
quiet_chain s (Ok u1) (Ok u2) (Ok u3) (Ok u4) (Err e) short_space short_sequence t is quiet = refl
quiet_chain s (Ok u1) (Ok u2) (Ok u3) (Ok u4) (Ok u5) true short_sequence t is quiet = refl
quiet_chain s (Ok u1) (Ok u2) (Ok u3) (Ok u4) (Ok u5) false true t is quiet = refl
quiet_chain s (Ok u1) (Ok u2) (Ok u3) (Ok u4) (Ok u5) false false t is quiet = absurd (quiet is)

-- a commit that is not refused meets no limit
alike_chain : (s : State) (g1 g2 g3 g4 g5 : Refused (Unit {0})) (short_space short_sequence : Bool) (t : Turned)
    → IsCommitted (or_refused s (chain g1 g2 g3 g4 g5 short_space short_sequence t)).0 → or_refused s (chain g1 g2 g3 g4 g5 false false t) ≡ or_refused s (chain g1 g2 g3 g4 g5 short_space short_sequence t)
alike_chain s (Err e) g2 g3 g4 g5 short_space short_sequence t is = refl
alike_chain s (Ok u1) (Err e) g3 g4 g5 short_space short_sequence t is = refl
alike_chain s (Ok u1) (Ok u2) (Err e) g4 g5 short_space short_sequence t is = refl
alike_chain s (Ok u1) (Ok u2) (Ok u3) (Err e) g5 short_space short_sequence t is = refl
alike_chain s (Ok u1) (Ok u2) (Ok u3) (Ok u4) (Err e) short_space short_sequence t is = refl
alike_chain s (Ok u1) (Ok u2) (Ok u3) (Ok u4) (Ok u5) true short_sequence t is = absurd is
alike_chain s (Ok u1) (Ok u2) (Ok u3) (Ok u4) (Ok u5) false true t is = absurd is
alike_chain s (Ok u1) (Ok u2) (Ok u3) (Ok u4) (Ok u5) false false t is = refl

-- it was done, or a limit was met
abbrev pub IsPast : Reply → Type 0
IsPast (Reply.Committed name) = Unit {0}
IsPast (Reply.Limit limit) = Unit {0}
IsPast reply = ⊥

past_chain : (s : State) (o : Option ℕ) (g2 g3 g4 g5 : Refused (Unit {0})) (short_space short_sequence : Bool) (t : Turned) → IsPast (or_refused s (chain (unless_some o Reply.GivenUp) g2 g3 g4 g5 short_space short_sequence t)).0 → o ≡ None
past_chain s None g2 g3 g4 g5 short_space short_sequence t past = refl
past_chain s (Some n) g2 g3 g4 g5 short_space short_sequence t past = absurd past

durable_commit : (branch : Bytes) (info : Info) (reply : Reply) → IsCommitted reply → IsDurable reply (Command.Commit branch info)
durable_commit branch info (Reply.Committed name) is = is
durable_commit branch info _ is = absurd is

committed_only : (branch : Bytes) (info : Info) (reply : Reply) → IsDurable reply (Command.Commit branch info) → IsCommitted reply
committed_only branch info (Reply.Committed name) is = is
committed_only branch info _ is = absurd is

module _ (r : Repository) (phase : Phase) (w : MachineWork) (branch : Bytes) (info : Info) where
  abbrev s : State
  s = at r phase w

  abbrev command : Command
  command = Command.Commit branch info

  abbrev after : Repository
  after = (turned s command (conditions_of met_nothing)).1.repository

  abbrev named : Hash
  named = (new_commit r w.tree w.parents info).name

  abbrev done : Turned
  done = (Reply.Committed named, record { repository = with_commit r (new_commit r w.tree w.parents info) branch; phase = phase; work = record { tree = w.tree; parents = next r ∷ []; least = Some (next r) } })

  quiet_commit : (met : Met) → ¬ IsDurable (answer s command (conditions_of met)).0 command → (answer s command (conditions_of met)).1 ≡ s
  unfolding outcome
  quiet_commit met quiet = quiet_chain s (not_given_up s) (head_among_parents s branch) (not_leaving s w.least) (room_for_branch r branch) (not_existing r named) (is_short Limit.Space met.short) (is_short Limit.Sequence met.short) done tt
      (λ is. quiet (durable_commit branch info (answer s command (conditions_of met)).0 is))

  alike_commit : (met : Met) → IsDurable (answer s command (conditions_of met)).0 command → answer s command (conditions_of met_nothing) ≡ answer s command (conditions_of met)
  unfolding outcome
  alike_commit met is = alike_chain s (not_given_up s) (head_among_parents s branch) (not_leaving s w.least) (room_for_branch r branch) (not_existing r named) (is_short Limit.Space met.short) (is_short Limit.Sequence met.short) done
      (committed_only branch info (answer s command (conditions_of met)).0 is)

  after_is : (met : Met) → answer s command (conditions_of met_nothing) ≡ answer s command (conditions_of met) → (answer s command (conditions_of met)).1.repository ≡ after
  after_is met same = ap (λ (t : Turned). t.1.repository) (sym (turned_by r phase w command met_nothing false refl refl ∙ same))

  pub whole : IsWhole r phase w command after
  whole = record { quiet = quiet_commit; done = λ met is. after_is met (alike_commit met is); plain = λ met t e. e; refusable = commit_refused branch info; durable = refl }

  past_commit : (met : Met) → IsPast (answer s command (conditions_of met)).0 → below r.floor w.least ≡ None
  unfolding outcome
  past_commit met past = past_chain s (below r.floor w.least) (head_among_parents s branch) (not_leaving s w.least) (room_for_branch r branch) (not_existing r named) (is_short Limit.Space met.short) (is_short Limit.Sequence met.short) done past

  pub commit_there : (met : Met) (reply : Reply) (s' : State) → Turns s command met reply s' → IsPast reply → IsThere r w.least
  commit_there met reply s' turns past = there_none r w.least
      (unless_refused r phase w command after whole met (heard_none phase command tt met.child turns.0.child) reply s' turns.1 (λ x t. IsPast x → below r.floor w.least ≡ None) (λ no. absurd no) (past_commit met) past)

  -- the name that is told
  pub commit_name : (met : Met) (reply : Reply) (s' : State) → Turns s command met reply s' → Short reply
  commit_name met reply s' turns = unless_refused r phase w command after whole met (heard_none phase command tt met.child turns.0.child) reply s' turns.1 (λ x t. Short x) tt (commit_short s branch info (conditions_of met))

-- ---- the text of a commit's name

name_is_short : (name : Hash) → length name ≤ 32 → IsLong (Reply.Committed name) → ⊥
unfolding reply_text
name_is_short name long_name long =
    omega (arith, long, long_name, hex_long name, length-append (codes "committed" ++ space ∷ hex_text name) (10 ∷ []), length-append (codes "committed") (space ∷ hex_text name))

-- ---- the command

module _ (a b : Told) (s : Session) (store : Store) (work : Work) (met : Met) (r : Repository) (v : View) (here : IsWorking a s r v) (branch : Bytes) (info : Info) (made : Result Hash StoreFault) (phase_is : store.held.collection ≡ s.store.held.collection) (does : Changes r (repository_after r (phase_of s.store.held.collection) s.work v branch info) made store.held a b) (slots : NothingPending a → KeepsSlots a b) where
  abbrev committing : Command
  committing = Command.Commit branch info

  abbrev committed_to : Repository
  committed_to = repository_after r (phase_of s.store.held.collection) s.work v branch info

  abbrev Machine : Reply → Type 0
  Machine reply = Answers b (session r (phase_of s.store.held.collection) s.work v) v committing store.met reply store.held work

  turn_of : (reply : Reply) → Machine reply → IsTurn b s store work r v committing reply
  turn_of reply A = record { next = A.after; view = A.view; turns = subst (λ (o : Option Collection). Turns (session r (phase_of s.store.held.collection) s.work v) committing store.met reply (session A.after (phase_of o) work A.view)) (sym phase_is) A.turns; is_at = λ holds. A.is_at; seen = A.seen }

  -- the store answered the commit
  pub commit_goes : (reply : Reply) → met ≡ store.met → reply_to made ≡ Some reply → IfSome (reply_to made) Machine → GoesBy unasked a b s (record s { store = store; work = work; met = met }) r v committing reply
  commit_goes reply m e A = reply_so a b s store work r committed_to v here committing (whole r (phase_of s.store.held.collection) (work_at s.work v) branch info) met (reply_to made) reply m e (by made A does)
    where
      by : (made : Result Hash StoreFault) → IfSome (reply_to made) Machine → Changes r (repository_after r (phase_of s.store.held.collection) s.work v branch info) made store.held a b
          → IfSome (reply_to made) (Went a b s store work r committed_to v here committing (whole r (phase_of s.store.held.collection) (work_at s.work v) branch info))
      by (Ok name) A does = done_so a b s store work r committed_to v here committing (whole r (phase_of s.store.held.collection) (work_at s.work v) branch info) name (Reply.Committed name) tt
          (name_is_short name (commit_name r (phase_of s.store.held.collection) (work_at s.work v) branch info store.met (Reply.Committed name) _ A.turns)) (turn_of (Reply.Committed name) A) does slots
      by (Err fault) A does = fault_so a b s store work r committed_to v here committing (whole r (phase_of s.store.held.collection) (work_at s.work v) branch info) fault (IfSome_then (fault_reply fault) A (λ reply x has. turn_of reply x)) does

  pub commit_cut : met ≡ met_only false → CutBy unasked a b s (record s { store = store; work = work; met = met }) r v committing
  commit_cut e = cut_so a b s store work r committed_to v here committing (whole r (phase_of s.store.held.collection) (work_at s.work v) branch info) made met e refl (after_is r (phase_of s.store.held.collection) (work_at s.work v) branch info met_nothing refl) does slots

pub has_answer : (made : Result Hash StoreFault) (reply : Reply) → reply_to made ≡ Some reply → HasAnswer made
has_answer (Ok name) reply e = tt
has_answer (Err fault) reply e = answered Hash fault reply e

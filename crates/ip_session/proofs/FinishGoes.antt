-- What a session does that asked for a collection's child, by a look or by a finish.
--     Unheard phase child      the child was not heard to have ended
--     turn_is, step_heard, unheard_stays, floor_of      what the machine answers to them
--     each_reply, of_reply, replied, has_answer      of what the store said, by its reply
--     Says s store command looked      what the store says, whatever is told.      by_end      the child has ended, or it was not heard to have
--     finish_serves      the session goes on serving.      finish_goes      the store answered it.      finish_cuts      a fault of the ground cut it short.      finish_placed      where the records lie then
use Rattle.std.proofs.Common.{◌≡◌, ◌⊎◌, inl, inr, ℕ, ◌+◌, ◌<◌, Bool, true, false, refl, sym, ap, ◌∙◌, subst, arith, Option, Some, None, Ok, Err}
use Rattle.std.specs.Prelude.{Result, IfOk, OnErr, IsSomeAnd, All, option_map, if◌then◌else◌}
use Rattle.ip_ground.specs.declared.names.FileName.{FileName}
use Rattle.ip_ground.specs.declared.names.FileName.TheVariants.{Control, Chunk, Prefix, Mapping, Done}
use Rattle.ip_base.specs.declared.exit.Reaped.{Reaped}
use Rattle.ip_ground.specs.Told.{Told, NoFile}
use Rattle.ip_ground.proofs.Spans.{only_nowhere}
use Rattle.ip_spec.specs.declared.command.Command.{Command}
use Rattle.ip_spec.specs.declared.met.Child.{Child}
use Rattle.ip_spec.specs.declared.record.Record.{Record}
use Rattle.ip_spec.specs.declared.met.Met.{Met}
use Rattle.ip_spec.specs.declared.reply.Difference.{Difference}
use Rattle.ip_spec.specs.declared.reply.Reply.{Reply}
use Rattle.ip_spec.specs.Machine.{Phase, State, Conditions, Verdict, Limit, Work as MachineWork, verdict_on, empty_work}
use Rattle.ip_spec.specs.Repository.{Repository, next}
use Rattle.ip_spec.specs.Step.{Turned, ◌>>=◌, present, phase_at, or_refused, child_turn, check_turn, verdict_turn, is_short, collected_at, state_with_exit, MayHear, Step, outcome, answer, turned}
use Rattle.ip_spec.specs.Step as Machine
use Rattle.ip_spec.specs.TreeAt.{Records}
use Rattle.ip_spec.specs.View.{View}
use Rattle.ip_image.specs.declared.slot.Slot.{Slot}
use Rattle.ip_image.specs.Headline.{IsAtomic}
use Rattle.ip_image.proofs.OneRepository.{all_records}
use Rattle.ip_held.specs.declared.collection.Collection.{Collection}
use Rattle.ip_held.specs.declared.collection.Unswept.{Unswept}
use Rattle.ip_collects.specs.declared.finishing.FinishFault.{FinishFault}
use Rattle.ip_collects.specs.declared.finishing.Looked.{Looked}
use Rattle.ip_collects.specs.declared.finishing.Rejection.{Rejection}
use Rattle.ip_held.specs.declared.held.Held.{Held}
use Rattle.ip_held.specs.Collecting.{phase_of, carrying, IsPhaseOf}
use Rattle.ip_collects.specs.Ending.{Goes}
use Rattle.ip_collects.specs.Finishing.{LookReplies, met_by_finish, conditions_by, difference_in, repository_after, swapped_slot, Concludes, FinishesBy, HasAnswer, IsCollected, IsQuiet, IsUndamaged, Judges, MayTouch, SlotBy, TurnsBy, WorksStay}
use Rattle.ip_held.specs.Held.{IsOf, Holds, SameTables, image_records}
use Rattle.ip_held.specs.Sweeping.{IsSwept, EndsFor}
use Rattle.ip_held.specs.Views.{IsViewAfter}
use Rattle.ip_held.specs.Work.{AreParents, work_at, state_at}
use Rattle.ip_collects.proofs.Ended.{ends_more, ends_stays}
use Rattle.ip_collects.proofs.FinishTurns.{IsEnding}
use Rattle.ip_held.proofs.Stepping.{itself, same_holds, stays_still}
use Rattle.ip_held.proofs.Works.{works_stay}
use Rattle.ip_held.proofs.SlotLaws.{slots_none}
use Rattle.ip_session.specs.declared.session.Session.{Session}
use Rattle.ip_session.specs.declared.session.SessionEnd.{SessionEnd}
use Rattle.ip_session.specs.Asking.{MayReap, looks}
use Rattle.ip_session.specs.Placing.{PlacedBy, IsSwappedAt, HasCollected}
use Rattle.ip_session.specs.Session.{unasked, conditions_with, IsServing, IsWorking, IsJudgedIn, HasSettled, IsSettledIn, IsLong, is_durable, state_in, attempt_of, hears, ChangesBy, ChangedAtEnd, ChangedBy, TouchedBy, GoesBy, CutBy}
use Rattle.ip_session.specs.Starting.{look_answer}
use Rattle.ip_session.proofs.Changing.{keeps_nothing, none_durable, nothing_by, nothing_space, stays_of}
use Rattle.ip_session.proofs.StartGoes.{chosen}
use Rattle.ip_store.specs.declared.store.Store.{Store}

-- ---- the machine

-- its turn, whichever of the two it is
abbrev turn_by : State → Phase → Conditions → Bool → Child → Turned
turn_by s phase met refused child = if refused then (Reply.Memory, state_with_exit s phase child) else or_refused s (present (phase_at phase) Reply.Idle >>= (λ n. child_turn s n met child))

turn_is : (s : State) (command : Command) → IsEnding command → (met : Conditions) → turned s command met ≡ turn_by s s.phase met met.told.refused met.told.child
unfolding outcome turned
turn_is s Command.Look is met = refl
turn_is s Command.Finish is met = refl
turn_is s _ is met = absurd is

step_heard : (s : State) (command : Command) → IsEnding command → (met : Conditions) (reply : Reply) (next : State) → TurnsBy s command met reply next → Step unasked s command met reply next
unfolding turned
step_heard s Command.Look is met reply next turns = (turns.0, chosen met.told.refused (Reply.Memory, state_with_exit s s.phase met.told.child) (answer s Command.Look met) reply next turns.1)
step_heard s Command.Finish is met reply next turns = (turns.0, chosen met.told.refused (Reply.Memory, state_with_exit s s.phase met.told.child) (answer s Command.Finish met) reply next turns.1)
step_heard s _ is met reply next turns = absurd is

abbrev pub Unheard : Phase → Child → Type 0
Unheard Phase.Idle child = Unit {0}
Unheard (Phase.Collecting n exit) (Child.Ended reaped) = ⊥
Unheard (Phase.Collecting n exit) child = Unit {0}

-- then the machine stays
unheard_stays : (s : State) (phase : Phase) (met : Conditions) (refused : Bool) (child : Child) → Unheard phase child → (turn_by s phase met refused child).1 ≡ s
unheard_stays s Phase.Idle met true child un = refl
unheard_stays s Phase.Idle met false child un = refl
unheard_stays s (Phase.Collecting n exit) met true Child.NotAsked un = refl
unheard_stays s (Phase.Collecting n exit) met true Child.Running un = refl
unheard_stays s (Phase.Collecting n exit) met true Child.Fault un = refl
unheard_stays s (Phase.Collecting n exit) met false Child.NotAsked un = refl
unheard_stays s (Phase.Collecting n exit) met false Child.Running un = refl
unheard_stays s (Phase.Collecting n exit) met false Child.Fault un = refl
unheard_stays s (Phase.Collecting n exit) met refused (Child.Ended reaped) un = absurd un

-- an accepted pair is served, unless the sequence has come to its end
abbrev served : State → ℕ → ℕ → Bool → Turned
served s n left ends = if ends then (Reply.Limit Limit.Sequence, record s { phase = Phase.Idle }) else (Reply.Collected n left, record s { phase = Phase.Idle; repository = collected_at s.repository n })

-- what is accepted is accepted at the commit of the collection
floor_of : (s : State) (n : ℕ) (exit : Option Reaped) (met : Conditions) (refused : Bool) (child : Child) (floor left : ℕ) → (turn_by s (Phase.Collecting n exit) met refused child).0 ≡ Reply.Collected floor left → floor ≡ n
floor_of s n exit met true child floor left is = absurd (cc is)
floor_of s n exit met false Child.NotAsked floor left is = absurd (cc is)
floor_of s n exit met false Child.Running floor left is = absurd (cc is)
floor_of s n exit met false Child.Fault floor left is = absurd (cc is)
floor_of s n exit met false (Child.Ended reaped) floor left is = checked met.told.checking is
  where
    short : (b : Bool) → (served s n met.told.left b).0 ≡ Reply.Collected floor left → floor ≡ n
    short true is = absurd (cc is)
    short false is = (let same : n ≡ floor = cc is in sym same)

    judged : (v : Verdict) → (or_refused s (verdict_turn s n met v)).0 ≡ Reply.Collected floor left → floor ≡ n
    judged (Verdict.exited e) is = absurd (cc is)
    judged (Verdict.differs d) is = absurd (cc is)
    judged Verdict.accepted is = short (is_short Limit.Sequence met.told.short) is

    checked : (o : Option ℕ) → (or_refused s (check_turn s n met reaped o)).0 ≡ Reply.Collected floor left → floor ≡ n
    checked (Some k) is = absurd (cc is)
    checked None is = judged (verdict_on reaped.exit met.difference) is

-- the repository after it does not depend on the work
repository_alike : (r : Repository) (n : ℕ) (exit : Option Reaped) (w w' : MachineWork) (met : Conditions) (refused : Bool) (child : Child)
    → (turn_by (state_at r (Phase.Collecting n exit) w) (Phase.Collecting n exit) met refused child).1.repository ≡ (turn_by (state_at r (Phase.Collecting n exit) w') (Phase.Collecting n exit) met refused child).1.repository
repository_alike r n exit w w' met true Child.NotAsked = refl
repository_alike r n exit w w' met true Child.Running = refl
repository_alike r n exit w w' met true Child.Fault = refl
repository_alike r n exit w w' met true (Child.Ended reaped) = refl
repository_alike r n exit w w' met false Child.NotAsked = refl
repository_alike r n exit w w' met false Child.Running = refl
repository_alike r n exit w w' met false Child.Fault = refl
repository_alike r n exit w w' met false (Child.Ended reaped) = checked met.told.checking
  where
    one : MachineWork → State
    one work = state_at r (Phase.Collecting n exit) work

    short : (b : Bool) → (served (one w) n met.told.left b).1.repository ≡ (served (one w') n met.told.left b).1.repository
    short true = refl
    short false = refl

    judged : (v : Verdict) → (or_refused (one w) (verdict_turn (one w) n met v)).1.repository ≡ (or_refused (one w') (verdict_turn (one w') n met v)).1.repository
    judged (Verdict.exited e) = refl
    judged (Verdict.differs d) = refl
    judged Verdict.accepted = short (is_short Limit.Sequence met.told.short)

    checked : (o : Option ℕ) → (or_refused (one w) (check_turn (one w) n met reaped o)).1.repository ≡ (or_refused (one w') (check_turn (one w') n met reaped o)).1.repository
    checked (Some k) = refl
    checked None = judged (verdict_on reaped.exit met.difference)

-- ---- a fault of the ground cut it short

-- the exit that was kept before, or none
abbrev pub IsHeard : Option Reaped → Reaped → Type 0
IsHeard None reaped = Unit {0}
IsHeard (Some kept) reaped = reaped ≡ kept

may_hear : (n : ℕ) (exit : Option Reaped) (command : Command) (reaped : Reaped) → IsEnding command → IsHeard exit reaped → MayHear (Phase.Collecting n exit) command (Child.Ended reaped)
may_hear n None Command.Look reaped is heard = inl tt
may_hear n None Command.Finish reaped is heard = inl tt
may_hear n None _ reaped is heard = absurd is
may_hear n (Some kept) Command.Look reaped is heard = ap Child.Ended heard
may_hear n (Some kept) Command.Finish reaped is heard = ap Child.Ended heard
may_hear n (Some kept) _ reaped is heard = absurd is

module _ (r : Repository) (n : ℕ) (exit : Option Reaped) (reaped : Reaped) (heard : IsHeard exit reaped) (left : ℕ) (difference : Option Difference) where
  -- what is met then
  abbrev broken : Conditions
  broken = conditions_with (met_by_finish (Child.Ended reaped) (Err FinishFault.Ground) left) difference

  abbrev in_work : MachineWork → State
  in_work w = state_at r (Phase.Collecting n exit) w

  -- where none of its writes fails a sweep follows
  whole_swept : (s : State) → Machine.IsSwept (or_refused s (child_turn s n broken (Child.Ended reaped))).0
  whole_swept s = judged (verdict_on reaped.exit difference)
    where
      judged : (v : Verdict) → Machine.IsSwept (or_refused s (verdict_turn s n broken v)).0
      judged (Verdict.exited e) = tt
      judged (Verdict.differs d) = tt
      judged Verdict.accepted = tt

  cut_step : (w : MachineWork) (command : Command) → IsEnding command → Step unasked (in_work w) command broken (answer (in_work w) command broken).0 (answer (in_work w) command broken).1
  unfolding outcome
  cut_step w Command.Look is = (record { child = may_hear n exit Command.Look reaped is heard; checking = tt; start = λ t. absurd (cc t); kill = λ t. absurd (cc t); left = λ l. whole_swept (in_work w); short = tt; refused = λ t. absurd (cc t) }, refl)
  cut_step w Command.Finish is = (record { child = may_hear n exit Command.Finish reaped is heard; checking = tt; start = λ t. absurd (cc t); kill = λ t. absurd (cc t); left = λ l. whole_swept (in_work w); short = tt; refused = λ t. absurd (cc t) }, refl)
  cut_step w _ is = absurd is

  cut_after : (w w' : MachineWork) (command : Command) → IsEnding command → (answer (in_work w) command broken).1.repository ≡ (turned (in_work w') command broken).1.repository
  unfolding outcome turned
  cut_after w w' Command.Look is = repository_alike r n exit w w' broken false (Child.Ended reaped)
  cut_after w w' Command.Finish is = repository_alike r n exit w w' broken false (Child.Ended reaped)
  cut_after w w' _ is = absurd is

-- ---- replies

pub each_reply : (P : Reply → Type 0) (result : Result Reply SessionEnd) → ((reply : Reply) → result ≡ Ok reply → P reply) → IfOk result P
each_reply P (Ok reply) each = each reply refl
each_reply P (Err end) each = tt

pub of_reply : (P : Reply → Type 0) (result : Result Reply SessionEnd) (reply : Reply) → IfOk result P → result ≡ Ok reply → P reply
of_reply P result reply all is = subst (λ (x : Result Reply SessionEnd). IfOk x P) is all

pub replied : (P : Reply → Type 0) (looked : Result Looked FinishFault) → LookReplies looked P → IfOk (look_answer looked) P
replied P (Ok Looked.Running) says = says
replied P (Ok (Looked.Checking left)) says = says
replied P (Ok (Looked.Collected collected)) says = says
replied P (Err FinishFault.Idle) says = says
replied P (Err FinishFault.Wait) says = says
replied P (Err (FinishFault.Rejected (Rejection.Exit exit))) says = says
replied P (Err (FinishFault.Rejected (Rejection.Differs difference))) says = says
replied P (Err (FinishFault.Limit limit)) says = says
replied P (Err FinishFault.Memory) says = says
replied P (Err FinishFault.Ground) says = tt
replied P (Err (FinishFault.Damaged at)) says = tt

has_answer : (looked : Result Looked FinishFault) (reply : Reply) → look_answer looked ≡ Ok reply → HasAnswer looked
has_answer (Err FinishFault.Ground) reply is = absurd (cc is)
has_answer (Err (FinishFault.Damaged at)) reply is = absurd (cc is)
has_answer _ reply is = tt

-- ---- which files

seen_ending : (r : Repository) (v : View) (command : Command) (reply : Reply) → IsEnding command → IsViewAfter r v command reply v
seen_ending r v Command.Look reply is = refl
seen_ending r v Command.Finish reply is = refl
seen_ending r v _ reply is = absurd is

attempt_is : (store : Held) (command : Command) → IsEnding command → attempt_of store command ≡ option_map (λ c. c.job.attempt) store.collection
attempt_is store Command.Look is = refl
attempt_is store Command.Finish is = refl
attempt_is store _ is = absurd is

hears_is : (command : Command) → IsEnding command → hears command ≡ true
hears_is Command.Look is = refl
hears_is Command.Finish is = refl
hears_is _ is = absurd is

by_attempt : (a b : Told) (store : Held) (c : Collection) (command : Command) → IsEnding command → store.collection ≡ Some c → (these : FileName → Type 0) → EndsFor c.job.attempt these a b → ChangesBy (hears command) (attempt_of store command) these a b
by_attempt a b store c command is runs these changes = subst (λ (h : Bool). ChangesBy h (attempt_of store command) these a b) (sym (hears_is command is)) (subst (λ (n : Option ℕ). ChangesBy true n these a b) (sym (attempt_is store command is)) (subst (λ (o : Option Collection). ChangesBy true (option_map (λ x. x.job.attempt) o) these a b) (sym runs) changes))

changed_is : (store : Held) (a : Told) (command : Command) → IsEnding command → (reply : Reply) (file : FileName) → ChangedAtEnd store reply file → ChangedBy store a.held command reply file
changed_is store a Command.Look is reply file changed = changed
changed_is store a Command.Finish is reply file changed = changed
changed_is store a _ is reply file changed = absurd is

touched_is : (store : Held) (a : Told) (command : Command) → IsEnding command → (file : FileName) → file ≡ Control → TouchedBy store a.held command file
touched_is store a Command.Look is file control = control
touched_is store a Command.Finish is file control = control
touched_is store a _ is file control = absurd is

-- how long the pair is, and how many rows it has, is nothing to a sweep
swept_alike : (s : Slot) (u : Unswept) (c : Collection) (length rows : ℕ) (file : FileName) → IsSwept (swapped_slot s u c length rows) u file → IsSwept (swapped_slot s u c 0 0) u file
swept_alike s u c length rows Control swept = swept
swept_alike s u c length rows (Chunk n) swept = swept
swept_alike s u c length rows (Prefix n) swept = swept
swept_alike s u c length rows (Mapping n) swept = swept
swept_alike s u c length rows (Done n) swept = swept

module _ (before store : Held) (c : Collection) (runs : before.collection ≡ Some c) where
  abbrev Touches : Result Looked FinishFault → Reply → Type 0
  Touches looked reply = (file : FileName) → MayTouch looked store before.unswept file → ChangedAtEnd before reply file

  touched_at : (looked : Result Looked FinishFault) → SlotBy looked c before store.slot → IfOk (look_answer looked) (Touches looked)
  touched_at (Ok Looked.Running) slot = λ file may. absurd may
  touched_at (Ok (Looked.Checking left)) slot = λ file may. absurd may
  touched_at (Ok (Looked.Collected collected)) (length, rows, slot) = λ file may. subst (λ (o : Option Collection). IsSomeAnd o (λ x. (file ≡ Control) ⊎ IsSwept (swapped_slot before.slot before.unswept x 0 0) before.unswept file)) (sym runs) (elim may [
    | inl control ↦ inl control
    | inr swept ↦ inr (swept_alike before.slot before.unswept c length rows file (subst (λ (t : Slot). IsSwept t before.unswept file) slot swept))
  ])
  touched_at (Err FinishFault.Idle) slot = λ file may. absurd may
  touched_at (Err FinishFault.Wait) slot = λ file may. absurd may
  touched_at (Err (FinishFault.Rejected (Rejection.Exit exit))) slot = λ file may. subst (λ (t : Slot). IsSwept t before.unswept file) slot may
  touched_at (Err (FinishFault.Rejected (Rejection.Differs difference))) slot = λ file may. subst (λ (t : Slot). IsSwept t before.unswept file) slot may
  touched_at (Err (FinishFault.Limit limit)) slot = λ file may. absurd may
  touched_at (Err FinishFault.Memory) slot = λ file may. absurd may
  touched_at (Err FinishFault.Ground) slot = tt
  touched_at (Err (FinishFault.Damaged at)) slot = tt

-- ---- where the records lie

pub may_reap : (command : Command) → IsEnding command → MayReap command
may_reap Command.Look is = tt
may_reap Command.Finish is = tt
may_reap _ is = absurd is

slot_next : (before store : Held) (c : Collection) (looked : Result Looked FinishFault) → SlotBy looked c before store.slot → store.slot.next ≡ before.slot.next
slot_next before store c (Ok (Looked.Collected collected)) (length, rows, slot) = ap (λ (t : Slot). t.next) slot
slot_next before store c _ slot = ap (λ (t : Slot). t.next) slot

slot_stays : (before store : Held) (c : Collection) (command : Command) → IsEnding command → (looked : Result Looked FinishFault) → SlotBy looked c before store.slot → IfOk (look_answer looked) (λ reply. ¬ HasCollected reply command → store.slot ≡ before.slot)
slot_stays before store c command is (Ok Looked.Running) slot = λ not. slot
slot_stays before store c command is (Ok (Looked.Checking left)) slot = λ not. slot
slot_stays before store c command is (Ok (Looked.Collected collected)) slot = λ not. absurd (not (may_reap command is))
slot_stays before store c command is (Err FinishFault.Idle) slot = λ not. slot
slot_stays before store c command is (Err FinishFault.Wait) slot = λ not. slot
slot_stays before store c command is (Err (FinishFault.Rejected (Rejection.Exit exit))) slot = λ not. slot
slot_stays before store c command is (Err (FinishFault.Rejected (Rejection.Differs difference))) slot = λ not. slot
slot_stays before store c command is (Err (FinishFault.Limit limit)) slot = λ not. slot
slot_stays before store c command is (Err FinishFault.Memory) slot = λ not. slot
slot_stays before store c command is (Err FinishFault.Ground) slot = tt
slot_stays before store c command is (Err (FinishFault.Damaged at)) slot = tt

collected_of : (looked : Result Looked FinishFault) (floor left : ℕ) → look_answer looked ≡ Ok (Reply.Collected floor left) → IsCollected looked
collected_of (Ok Looked.Running) floor left is = absurd (cc is)
collected_of (Ok (Looked.Checking k)) floor left is = absurd (cc is)
collected_of (Ok (Looked.Collected collected)) floor left is = tt
collected_of (Err FinishFault.Idle) floor left is = absurd (cc is)
collected_of (Err FinishFault.Wait) floor left is = absurd (cc is)
collected_of (Err (FinishFault.Rejected (Rejection.Exit exit))) floor left is = absurd (cc is)
collected_of (Err (FinishFault.Rejected (Rejection.Differs difference))) floor left is = absurd (cc is)
collected_of (Err (FinishFault.Limit limit)) floor left is = absurd (cc is)
collected_of (Err FinishFault.Memory) floor left is = absurd (cc is)
collected_of (Err FinishFault.Ground) floor left is = absurd (cc is)
collected_of (Err (FinishFault.Damaged at)) floor left is = absurd (cc is)

limit_of : (looked : Result Looked FinishFault) (limit : Limit) → look_answer looked ≡ Ok (Reply.Limit limit) → looked ≡ Err (FinishFault.Limit limit)
limit_of (Ok Looked.Running) limit is = absurd (cc is)
limit_of (Ok (Looked.Checking k)) limit is = absurd (cc is)
limit_of (Ok (Looked.Collected collected)) limit is = absurd (cc is)
limit_of (Err FinishFault.Idle) limit is = absurd (cc is)
limit_of (Err FinishFault.Wait) limit is = absurd (cc is)
limit_of (Err (FinishFault.Rejected (Rejection.Exit exit))) limit is = absurd (cc is)
limit_of (Err (FinishFault.Rejected (Rejection.Differs difference))) limit is = absurd (cc is)
limit_of (Err (FinishFault.Limit own)) limit is = (let same : own ≡ limit = cc is in ap (λ (l : Limit). Err (FinishFault.Limit l)) same)
limit_of (Err FinishFault.Memory) limit is = absurd (cc is)
limit_of (Err FinishFault.Ground) limit is = absurd (cc is)
limit_of (Err (FinishFault.Damaged at)) limit is = absurd (cc is)

swap_of : (before store : Held) (c : Collection) (looked : Result Looked FinishFault) → IsCollected looked → SlotBy looked c before store.slot → (length : ℕ) × (rows : ℕ) × (store.slot ≡ swapped_slot before.slot before.unswept c length rows)
swap_of before store c (Ok (Looked.Collected collected)) is slot = slot
swap_of before store c _ is slot = absurd is

undurable : (command : Command) → IsEnding command → is_durable command ≡ false
undurable Command.Look is = refl
undurable Command.Finish is = refl
undurable _ is = absurd is

-- ---- what the store says

pub record Says (s : Session) (store : Store) (command : Command) (looked : Result Looked FinishFault) : Type 0 where
  pub most : ℕ
  pub goes : Goes store.met.child most looked store.met s.store.held store.held
  -- a child that was reaped before is not asked again
  pub kept : (c : Collection) (reaped : Reaped) → s.store.held.collection ≡ Some c → c.exit ≡ Some reaped → store.met.child ≡ Child.Ended reaped
  pub answered : (r : Repository) → IsOf s.store.held r → LookReplies looked (Concludes r s.store.held.collection command (conditions_by store.met looked) store.held)
  -- a look alone makes a part of the check
  pub slices : (left : ℕ) → looked ≡ Ok (Looked.Checking left) → most ≡ looks
  pub few : command ≡ Command.Look → most ≡ looks

module _ (s : Session) (store : Store) (met : Met) (command : Command) (ending : IsEnding command) (looked : Result Looked FinishFault) (is_met : met ≡ store.met) (says : Says s store command looked) where
  abbrev after_it : Session
  after_it = record s { store = store; met = met }

  quiet_idle : looked ≡ Err FinishFault.Idle → IsQuiet looked
  quiet_idle is = subst IsQuiet (sym is) tt

  -- the child has ended, or it was not heard to have
  pub by_end : (P : Type 0) → (IsQuiet looked → Unheard (phase_of s.store.held.collection) store.met.child → P) → ((c : Collection) (reaped : Reaped) → s.store.held.collection ≡ Some c → store.met.child ≡ Child.Ended reaped → P) → P
  by_end P quiet ended = by s.store.held.collection refl
    where
      unheard : (c : Collection) → s.store.held.collection ≡ Some c → (child : Child) → store.met.child ≡ child → Unheard (phase_of (Some c)) child → ((reaped : Reaped) → store.met.child ≡ Child.Ended reaped → ⊥) → P
      unheard c runs child is un not = quiet
          (elim says.goes.ended [ inl still ↦ still | inr other ↦ absurd (not other.0 other.1) ])
          (subst (λ (o : Option Collection). Unheard (phase_of o) store.met.child) (sym runs) (subst (Unheard (phase_of (Some c))) (sym is) un))

      heard : (c : Collection) → s.store.held.collection ≡ Some c → (child : Child) → store.met.child ≡ child → P
      heard c runs Child.NotAsked is = unheard c runs Child.NotAsked is tt (λ reaped e. absurd (cc (sym is ∙ e)))
      heard c runs Child.Running is = unheard c runs Child.Running is tt (λ reaped e. absurd (cc (sym is ∙ e)))
      heard c runs Child.Fault is = unheard c runs Child.Fault is tt (λ reaped e. absurd (cc (sym is ∙ e)))
      heard c runs (Child.Ended reaped) is = ended c reaped runs is

      by : (o : Option Collection) → s.store.held.collection ≡ o → P
      by None is = quiet (quiet_idle (says.goes.runs.0 is)) (subst (λ (o : Option Collection). Unheard (phase_of o) store.met.child) (sym is) tt)
      by (Some c) is = heard c is store.met.child refl

  -- one runs, or none does
  by_running : (P : Type 0) → (s.store.held.collection ≡ None → looked ≡ Err FinishFault.Idle → P) → ((c : Collection) → s.store.held.collection ≡ Some c → P) → P
  by_running P none some = by s.store.held.collection refl
    where
      by : (o : Option Collection) → s.store.held.collection ≡ o → P
      by None is = none is (says.goes.runs.0 is)
      by (Some c) is = some c is

  same_next : store.held.slot.next ≡ s.store.held.slot.next
  same_next = by_running (store.held.slot.next ≡ s.store.held.slot.next) (λ none idle. ap (λ (x : Held). x.slot.next) (says.goes.quiet (quiet_idle idle))) (λ c runs. slot_next s.store.held store.held c looked (says.goes.slot c runs))

  abbrev Concluded : Repository → Reply → Type 0
  Concluded r = Concludes r s.store.held.collection command (conditions_by store.met looked) store.held

  pub concluded : (r : Repository) → IsOf s.store.held r → (reply : Reply) → look_answer looked ≡ Ok reply → Concluded r reply
  concluded r tables reply is = of_reply (Concluded r) (look_answer looked) reply (replied (Concluded r) looked (says.answered r tables)) is

  -- no commit is lost that was made
  parents_on : (r q : Repository) → IsOf s.store.held r → IsOf store.held q → AreParents r s.work.least s.work.parents → AreParents q s.work.least s.work.parents
  parents_on r q tables now parents = record {
    made = subst (λ (k : ℕ). All (λ n. n < k) s.work.parents) (tables.next ∙ sym same_next ∙ sym now.next) parents.made;
    above = parents.above;
    distinct = parents.distinct;
    few = parents.few;
  }

  pub finish_serves : (r : Repository) → IsOf s.store.held r → AreParents r s.work.least s.work.parents → IfOk (look_answer looked) (λ reply. IsServing after_it)
  finish_serves r tables parents = each_reply (λ reply. IsServing after_it) (look_answer looked) (λ reply is. let C = concluded r tables reply is in (C.after, (C.tables, parents_on r C.after tables C.tables parents)))

  -- ---- where the records lie

  at_commit : (r : Repository) (c : Collection) → s.store.held.collection ≡ Some c → (floor left : ℕ) → Concluded r (Reply.Collected floor left) → floor ≡ c.commit
  at_commit r c runs floor left C =
      let start = state_at r (phase_of (Some c)) empty_work in
      let met = conditions_by store.met looked in
      let turns = subst (λ (o : Option Collection). TurnsBy (state_at r (phase_of o) empty_work) command met (Reply.Collected floor left) (state_at C.after (phase_of store.held.collection) empty_work)) runs (C.turns empty_work) in
      floor_of start c.commit c.exit met met.told.refused met.told.child floor left (ap (λ (t : Turned). t.0) (sym (turn_is start command ending met) ∙ turns.1))

  module _ (r : Repository) (tables : IsOf s.store.held r) (v : View) (records : ℕ → Option Record) where
    abbrev Swapped : ℕ → Type 0
    Swapped floor = IsSwappedAt s.store.held.slot s.store.held.unswept floor store.held.slot

    swapped : (floor left : ℕ) → look_answer looked ≡ Ok (Reply.Collected floor left) → Swapped floor
    swapped floor left is = by_running (Swapped floor) (λ none idle. absurd (subst IsCollected idle (collected_of looked floor left is))) (λ c runs.
        let (length, rows, slot) = swap_of s.store.held store.held c looked (collected_of looked floor left is) (says.goes.slot c runs) in
        let C = concluded r tables (Reply.Collected floor left) is in
        let floor_is : floor ≡ c.commit = at_commit r c runs floor left C in
        let live_is : store.held.slot.live ≡ c.job.attempt = ap (λ (t : Slot). t.live) slot in
        let drawn = (subst (IsPhaseOf s.store.held.slot r) runs tables.phase).told.attempt in
        record {
          horizon = c.job.horizon;
          length = length;
          rows = rows;
          is = slot ∙ (λ i. record (carrying s.store.held.slot s.store.held.unswept) { sequence = s.store.held.slot.sequence + 1; horizon = c.job.horizon; floor = (sym floor_is) i; live = (sym live_is) i; prefix_len = length; rows = rows });
          drawn = ap (λ (k : ℕ). k + 1) live_is ∙ drawn;
          sequence = says.goes.limits.enough (collected_of looked floor left is);
        })

    pub finish_placed : IfOk (look_answer looked) (PlacedBy unasked records s.store.held.slot s.store.held.unswept store.held.slot (state_in s r v) v command)
    finish_placed = each_reply (PlacedBy unasked records s.store.held.slot s.store.held.unswept store.held.slot (state_in s r v) v command) (look_answer looked) (λ reply is. record {
      done = λ done. absurd (none_durable reply command (undurable command ending) done);
      quiet = λ undone not. by_running (store.held.slot ≡ s.store.held.slot) (λ none idle. ap (λ (x : Held). x.slot) (says.goes.quiet (quiet_idle idle)))
          (λ c runs. of_reply (λ x. ¬ HasCollected x command → store.held.slot ≡ s.store.held.slot) (look_answer looked) reply (slot_stays s.store.held store.held c command ending looked (says.goes.slot c runs)) is not);
      collected = λ floor left may e. swapped floor left (is ∙ ap Ok e);
      ended = λ may e. (says.goes.limits.sequence Limit.Sequence (limit_of looked Limit.Sequence (is ∙ ap Ok e))).1;
      space = λ durable. absurd (cc (sym durable ∙ undurable command ending));
      sequence = λ durable. absurd (cc (sym durable ∙ undurable command ending));
      attempt = λ target e. absurd (subst IsEnding e ending);
    })

  -- ---- where the ground tells

  module _ (a b : Told) (r : Repository) (v : View) (here : IsWorking a s r v) where
    abbrev Went : Reply → Type 0
    Went = GoesBy unasked a b s after_it r v command

    abbrev records : Records
    records = here.holds.stands.standing.records

    -- it has ended
    module _ (c : Collection) (reaped : Reaped) (runs : s.store.held.collection ≡ Some c) (heard : store.met.child ≡ Child.Ended reaped) (F : FinishesBy records r c command looked s.store.held.unswept store.met store.held a b) where
      abbrev after : Repository
      after = repository_after r c command F.met

      met_is : conditions_with met F.met.difference ≡ F.met
      met_is = ap (λ (m : Met). conditions_with m F.met.difference) (is_met ∙ sym F.told)

      judged : IsJudgedIn a b s after_it r v F.met.difference
      judged other d again runs' heard' =
          let same : c ≡ d = cc (sym runs ∙ runs') in
          subst (λ (x : Collection). Judges other.holds.stands.standing.records x (conditions_with met F.met.difference) b) same
          (subst (λ (rs : Records). Judges rs c (conditions_with met F.met.difference) b) (all_records a.held here.holds.stands.standing other.holds.stands.standing)
          (subst (λ (m : Conditions). Judges records c m b) (sym met_is) F.judged))

      child_so : met.child ≡ Child.Ended reaped
      child_so = ap (λ (m : Met). m.child) is_met ∙ heard

      settled_in : (reply : Reply) → look_answer looked ≡ Ok reply → IsSettledIn b s after_it reply
      settled_in reply is d other runs' heard' =
          let same : c ≡ d = cc (sym runs ∙ runs') in
          subst (λ (x : Collection). HasSettled x reply store.held.slot b) same (record {
            settled = F.does.settled (has_answer looked reply is);
            serves = λ floor left e. F.does.serves (collected_of looked floor left (is ∙ ap Ok e));
            swapped = λ floor left e. (let (length, rows, slot) = swap_of s.store.held store.held c looked (collected_of looked floor left (is ∙ ap Ok e)) (says.goes.slot c runs) in
                (at_commit r c runs floor left (concluded r here.holds.tables (Reply.Collected floor left) (is ∙ ap Ok e)), ap (λ (t : Slot). t.live) slot, ap (λ (t : Slot). t.horizon) slot));
          })

      gives : (reply : Reply) → look_answer looked ≡ Ok reply → Step unasked (state_in s r v) command (conditions_with met F.met.difference) reply (state_in after_it after v)
      gives reply is =
          let w = work_at s.work v in
          let next = state_at after (phase_of store.held.collection) w in
          let turns = of_reply (λ x. (work : MachineWork) → TurnsBy (state_at r (phase_of (Some c)) work) command F.met x (state_at after (phase_of store.held.collection) work)) (look_answer looked) reply (replied _ looked F.turns) is in
          subst (λ (m : Conditions). Step unasked (state_in s r v) command m reply next) (sym met_is)
          (subst (λ (o : Option Collection). Step unasked (state_at r (phase_of o) w) command F.met reply next) (sym runs) (step_heard (state_at r (phase_of (Some c)) w) command ending F.met reply next (turns w)))

      ended_goes : (HasAnswer looked → (q : Repository) (now : Holds store.held b q) → WorksStay here.holds now) → (reply : Reply) → look_answer looked ≡ Ok reply → ¬ IsLong reply → Went reply
      ended_goes stay reply is short =
          let has = has_answer looked reply is in
          let holds = F.does.holds has in
          record {
            after = after;
            view = v;
            difference = F.met.difference;
            gives = gives reply is;
            judged = judged;
            settled = settled_in reply is;
            stays = stays_of s.store.held.collection c a b runs (ends_stays c.job.attempt (MayTouch looked store.held s.store.held.unswept) a b F.does.only);
            is_at = record { holds = holds; lawful = stay has after holds s.work v here.lawful };
            seen = seen_ending r v command reply ending;
            only = by_attempt a b s.store.held c command ending runs (ChangedBy s.store.held a.held command reply) (ends_more c.job.attempt (MayTouch looked store.held s.store.held.unswept) a b (ChangedBy s.store.held a.held command reply)
                (λ file may. changed_is s.store.held a command ending reply file (of_reply (Touches s.store.held store.held c runs looked) (look_answer looked) reply (touched_at s.store.held store.held c runs looked (says.goes.slot c runs)) is file may)) F.does.only);
            files = F.does.files;
            said = F.does.only.beside.said;
            space = λ order none slot live. absurd (none reaped (child_so));
            atomic = F.does.atomic;
            slots = F.does.slots;
            nothing_pending = λ order. F.does.nothing_pending order has;
            spared = λ long. absurd (short long);
            still = λ long. absurd (short long);
          }

      -- of a child whose exit was kept, that is heard
      heard_so : IsHeard c.exit reaped
      heard_so = by c.exit refl
        where
          by : (exit : Option Reaped) → c.exit ≡ exit → IsHeard exit reaped
          by None is = tt
          by (Some kept) is = (let e : Child.Ended reaped ≡ Child.Ended kept = sym heard ∙ says.kept c kept runs is in cc e)

      cut_so : looked ≡ Err FinishFault.Ground → CutBy unasked a b s after_it r v command
      cut_so ground =
          let left = says.goes.left in
          let met_so : met ≡ met_by_finish (Child.Ended reaped) (Err FinishFault.Ground) left = is_met ∙ says.goes.told ∙ (λ i. met_by_finish (heard i) (ground i) left) in
          let w = work_at s.work v in
          let conditions = broken r c.commit c.exit reaped heard_so left F.met.difference in
          let there : conditions ≡ F.met = ap (λ (m : Met). conditions_with m F.met.difference) (sym met_so) ∙ met_is in
          let t = answer (state_at r (phase_of (Some c)) w) command conditions in
          let after_is : t.1.repository ≡ after = cut_after r c.commit c.exit reaped heard_so left F.met.difference w empty_work command ending ∙ ap (λ (m : Conditions). (turned (state_at r (phase_of (Some c)) empty_work) command m).1.repository) there in
          record {
            reply = t.0;
            after = t.1;
            difference = F.met.difference;
            gives = subst (λ (m : Met). Step unasked (state_in s r v) command (conditions_with m F.met.difference) t.0 t.1) (sym met_so)
                (subst (λ (o : Option Collection). Step unasked (state_at r (phase_of o) w) command conditions t.0 t.1) (sym runs) (cut_step r c.commit c.exit reaped heard_so left F.met.difference w command ending));
            judged = judged;
            stays = stays_of s.store.held.collection c a b runs (ends_stays c.job.attempt (MayTouch looked store.held s.store.held.unswept) a b F.does.only);
            only = by_attempt a b s.store.held c command ending runs (TouchedBy s.store.held a.held command) (ends_more c.job.attempt (MayTouch looked store.held s.store.held.unswept) a b (TouchedBy s.store.held a.held command)
                (λ file may. touched_is s.store.held a command ending file (subst (λ (x : Result Looked FinishFault). MayTouch x store.held s.store.held.unswept file) ground may)) F.does.only);
            files = F.does.files;
            said = F.does.only.beside.said;
            space = λ order none slot live. absurd (none reaped (child_so));
            atomic = λ order. subst (λ (q : Repository). IsAtomic a b r q) (sym after_is) (F.does.atomic order);
            slots = F.does.slots;
          }

    -- it was not heard to have ended
    module _ (quiet : IsQuiet looked) (un : Unheard (phase_of s.store.held.collection) store.met.child) (same : b ≡ a) where
      tables_same : SameTables s.store.held store.held
      tables_same = subst (SameTables s.store.held) (sym (says.goes.quiet quiet)) (itself s.store.held)

      quiet_goes : (reply : Reply) → look_answer looked ≡ Ok reply → ¬ IsLong reply → Went reply
      quiet_goes reply is short =
          let C = concluded r here.holds.tables reply is in
          let w = work_at s.work v in
          let start = state_in s r v in
          let conditions = conditions_by store.met looked in
          let turns = C.turns w in
          let after_is : C.after ≡ r = ap (λ (t : Turned). t.1.repository) (sym turns.1 ∙ turn_is start command ending conditions) ∙ ap (λ (t : State). t.repository) (unheard_stays start start.phase conditions conditions.told.refused conditions.told.child un) in
          let step = step_heard start command ending conditions reply (state_at C.after (phase_of store.held.collection) w) turns in
          let holds = same_holds s.store.held store.held tables_same (ap (λ (x : Held). x.space) (says.goes.quiet quiet)) r a here.holds in
          subst (λ (t : Told). GoesBy unasked a t s after_it r v command reply) (sym same) (record {
            after = r;
            view = v;
            difference = difference_in looked;
            gives = subst (λ (m : Met). Step unasked start command (conditions_with m (difference_in looked)) reply (state_in after_it r v)) (sym is_met) (subst (λ (q : Repository). Step unasked start command conditions reply (state_at q (phase_of store.held.collection) w)) after_is step);
            judged = λ other c reaped runs heard. absurd (subst (Unheard (phase_of (Some c))) (ap (λ (m : Met). m.child) (sym is_met) ∙ heard) (subst (λ (o : Option Collection). Unheard (phase_of o) store.met.child) runs un));
            settled = λ c reaped runs heard. absurd (subst (Unheard (phase_of (Some c))) (ap (λ (m : Met). m.child) (sym is_met) ∙ heard) (subst (λ (o : Option Collection). Unheard (phase_of o) store.met.child) runs un));
            stays = λ c runs pair was. was;
            is_at = record { holds = holds; lawful = works_stay (image_records here.holds) (image_records holds) r r s.work v here.lawful (λ there. stays_still s.store.held store.held tables_same r r a here.holds holds) (omega arith) here.lawful.parents };
            seen = seen_ending r v command reply ending;
            only = nothing_by (hears command) (attempt_of s.store.held command) (ChangedBy s.store.held a.held command reply) a a (only_nowhere a NoFile);
            files = keeps_nothing a a (only_nowhere a NoFile);
            said = (only_nowhere a NoFile).said;
            space = λ order none slot live. nothing_space a a (only_nowhere a NoFile) order slot live;
            atomic = λ order t late le. absurd (omega (arith, late, le));
            slots = λ order. slots_none a;
            nothing_pending = λ order. order;
            spared = λ long. absurd (short long);
            still = λ long. absurd (short long);
          })

    abbrev Ends : Type 0
    Ends = (c : Collection) (reaped : Reaped) → s.store.held.collection ≡ Some c → store.met.child ≡ Child.Ended reaped → FinishesBy records r c command looked s.store.held.unswept store.met store.held a b

    pub finish_goes : Ends → (HasAnswer looked → (q : Repository) (now : Holds store.held b q) → WorksStay here.holds now) → (IsQuiet looked → b ≡ a) → IfOk (look_answer looked) (λ reply. ¬ IsLong reply) → IfOk (look_answer looked) Went
    finish_goes ends stay still short = each_reply Went (look_answer looked) (λ reply is.
        let brief = of_reply (λ x. ¬ IsLong x) (look_answer looked) reply short is in
        by_end (Went reply) (λ quiet un. quiet_goes quiet un (still quiet) reply is brief) (λ c reaped runs heard. ended_goes c reaped runs heard (ends c reaped runs heard) stay reply is brief))

    pub finish_cuts : Ends → IsUndamaged looked → OnErr (look_answer looked) (CutBy unasked a b s after_it r v command)
    finish_cuts ends undamaged = by looked refl undamaged
      where
        by : (x : Result Looked FinishFault) → looked ≡ x → IsUndamaged x → OnErr (look_answer x) (CutBy unasked a b s after_it r v command)
        by (Ok Looked.Running) is un = tt
        by (Ok (Looked.Checking left)) is un = tt
        by (Ok (Looked.Collected collected)) is un = tt
        by (Err FinishFault.Idle) is un = tt
        by (Err FinishFault.Wait) is un = tt
        by (Err (FinishFault.Rejected (Rejection.Exit exit))) is un = tt
        by (Err (FinishFault.Rejected (Rejection.Differs difference))) is un = tt
        by (Err (FinishFault.Limit limit)) is un = tt
        by (Err FinishFault.Memory) is un = tt
        by (Err (FinishFault.Damaged at)) is un = absurd un
        by (Err FinishFault.Ground) is un = by_end (CutBy unasked a b s after_it r v command) (λ quiet heard. absurd (subst IsQuiet is quiet)) (λ c reaped runs heard. cut_so c reaped runs heard (ends c reaped runs heard) is)

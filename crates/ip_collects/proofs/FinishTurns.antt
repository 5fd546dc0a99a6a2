-- What the machine answers to a look and to a finish.
--     IsEnding command      it is one of the two.      turn_of      a command that asks for an answer is
--     turns_none, turns_wait, turns_runs      where nothing was heard of the child's end.      met_of      what is met
--     turns_end      where it has ended: the reply and the next state, by the answer.      repository_is      the repository then, also where there is no reply
--     told_difference      the difference that an answer tells
--     turned_heard, met_heard      whether the exit was kept before, or is heard now, it is the same turn
use Rattle.std.proofs.Common.{◌≡◌, inl, inr, ℕ, zero, suc, ◌<◌, pos, Option, Some, None, Result, Ok, Err, refl, sym, ◌∙◌, ap, subst, arith}
use Rattle.std.specs.Prelude.{true, false, Bool, negsuc, IfSome, if◌then◌else◌}
use Rattle.ip_base.specs.declared.limit.Limit.{Limit}
use Rattle.ip_base.specs.declared.exit.Exit.{Exit}
use Rattle.ip_base.specs.declared.exit.Reaped.{Reaped}
use Rattle.ip_spec.specs.declared.command.Command.{Command}
use Rattle.ip_spec.specs.declared.met.Child.{Child}
use Rattle.ip_spec.specs.declared.reply.Difference.{Difference}
use Rattle.ip_spec.specs.declared.reply.Reply.{Reply}
use Rattle.ip_spec.specs.Machine.{State, Phase, Conditions, Verdict, Work, empty_work, verdict_on}
use Rattle.ip_spec.specs.Repository.{Repository}
use Rattle.ip_spec.specs.Step.{IsMet, IsSwept, MayBeShort, MayHear, MayRefuse, Turned, outcome, turned, or_refused, state_with_exit, check_turn, child_turn, verdict_turn, collected_at}
use Rattle.ip_held.specs.declared.collection.Collection.{Collection}
use Rattle.ip_collects.specs.declared.finishing.Collected.{Collected}
use Rattle.ip_collects.specs.declared.finishing.FinishFault.{FinishFault}
use Rattle.ip_collects.specs.declared.finishing.Looked.{Looked}
use Rattle.ip_collects.specs.declared.finishing.Rejection.{Rejection}
use Rattle.ip_held.specs.Collecting.{phase_of}
use Rattle.ip_collects.specs.Ending.{FitsEnd, GoesOnAs, TellsDifference, after_by, after_with, after_cut}
use Rattle.ip_collects.specs.Finishing.{HasAnswer, IsAsked, IsSweptBehind, LookReplies, TurnsBy, checking_in, difference_in, met_by_finish, repository_after, short_in}
use Rattle.ip_collects.specs.Judging.{is_zero}
use Rattle.ip_held.specs.Work.{state_at}

abbrev pub IsEnding : Command → Type 0
IsEnding Command.Look = Unit {0}
IsEnding Command.Finish = Unit {0}
IsEnding command = ⊥

pub turn_of : (command : Command) (result : Result Looked FinishFault) → IsAsked command result → IsEnding command
turn_of Command.Look result asked = tt
turn_of Command.Finish result asked = tt
turn_of _ result asked = absurd asked

either : (P : Command → Type 0) (command : Command) → IsEnding command → P Command.Look → P Command.Finish → P command
either P Command.Look is look finish = look
either P Command.Finish is look finish = finish
either P _ is look finish = absurd is

-- a finish gets no answer of a check that is not through
looks : (bytes : ℕ) (command : Command) → IsAsked command (Ok (Looked.Checking bytes)) → command ≡ Command.Look
looks bytes Command.Look asked = refl
looks bytes Command.Finish asked = absurd (asked.1 tt)
looks bytes _ asked = absurd asked

looks_on : (command : Command) → IsAsked command (Ok Looked.Running) → command ≡ Command.Look
looks_on Command.Look asked = refl
looks_on Command.Finish asked = absurd (asked.0 refl)
looks_on _ asked = absurd asked

-- what was met
abbrev pub met_of : Child → Result Looked FinishFault → ℕ → Option Difference → Conditions
met_of child result left difference = record { told = met_by_finish child result left; difference = difference }

-- ---- nothing was heard of the child's end

none_left : (P : Type 0) → 0 < 0 → P
none_left P l = absurd (omega (arith, l))

module _ (r : Repository) (work : Work) (difference : Option Difference) where
  turns_idle : (command : Command) → IsEnding command → TurnsBy (state_at r Phase.Idle work) command (met_of Child.NotAsked (Err FinishFault.Idle) 0 difference) Reply.Idle (state_at r Phase.Idle work)
  unfolding outcome turned
  turns_idle command is = (
    record {
      child = refl;
      checking = tt;
      start = λ t. absurd (cc (t));
      kill = λ t. absurd (cc (t));
      left = λ l. none_left (IsSwept Reply.Idle) l;
      short = tt;
      refused = λ t. absurd (cc (t));
    },
    either (λ (k : Command). turned (state_at r Phase.Idle work) k (met_of Child.NotAsked (Err FinishFault.Idle) 0 difference) ≡ (Reply.Idle, state_at r Phase.Idle work)) command is refl refl,
  )

  turns_fault : (n : ℕ) (command : Command) → IsEnding command → TurnsBy (state_at r (Phase.Collecting n None) work) command (met_of Child.Fault (Err FinishFault.Wait) 0 difference) Reply.WaitFault (state_at r (Phase.Collecting n None) work)
  unfolding outcome turned
  turns_fault n command is = (
    record {
      child = either (λ (k : Command). MayHear (Phase.Collecting n None) k Child.Fault) command is (inr (inr refl)) (inr refl);
      checking = tt;
      start = λ t. absurd (cc (t));
      kill = λ t. absurd (cc (t));
      left = λ l. none_left (IsSwept Reply.WaitFault) l;
      short = tt;
      refused = λ t. absurd (cc (t));
    },
    either (λ (k : Command). turned (state_at r (Phase.Collecting n None) work) k (met_of Child.Fault (Err FinishFault.Wait) 0 difference) ≡ (Reply.WaitFault, state_at r (Phase.Collecting n None) work)) command is refl refl,
  )

  turns_running : (n : ℕ) → TurnsBy (state_at r (Phase.Collecting n None) work) Command.Look (met_of Child.Running (Ok Looked.Running) 0 difference) Reply.Running (state_at r (Phase.Collecting n None) work)
  unfolding outcome turned
  turns_running n = (
    record {
      child = inr (inl refl);
      checking = tt;
      start = λ t. absurd (cc (t));
      kill = λ t. absurd (cc (t));
      left = λ l. none_left (IsSwept Reply.Running) l;
      short = tt;
      refused = λ t. absurd (cc (t));
    },
    refl,
  )

pub turns_none : (r : Repository) (work : Work) (command : Command) → IsAsked command (Err FinishFault.Idle) → TurnsBy (state_at r Phase.Idle work) command (met_of Child.NotAsked (Err FinishFault.Idle) 0 None) Reply.Idle (state_at r Phase.Idle work)
turns_none r work command asked = turns_idle r work None command (turn_of command (Err FinishFault.Idle) asked)

pub turns_wait : (r : Repository) (work : Work) (n : ℕ) (command : Command) → IsAsked command (Err FinishFault.Wait)
    → TurnsBy (state_at r (Phase.Collecting n None) work) command (met_of Child.Fault (Err FinishFault.Wait) 0 None) Reply.WaitFault (state_at r (Phase.Collecting n None) work)
turns_wait r work n command asked = turns_fault r work None n command (turn_of command (Err FinishFault.Wait) asked)

pub turns_runs : (r : Repository) (work : Work) (n : ℕ) (command : Command) → IsAsked command (Ok Looked.Running)
    → TurnsBy (state_at r (Phase.Collecting n None) work) command (met_of Child.Running (Ok Looked.Running) 0 None) Reply.Running (state_at r (Phase.Collecting n None) work)
turns_runs r work n command asked =
    subst (λ (k : Command). TurnsBy (state_at r (Phase.Collecting n None) work) k (met_of Child.Running (Ok Looked.Running) 0 None) Reply.Running (state_at r (Phase.Collecting n None) work)) (sym (looks_on command asked)) (turns_running r work None n)

-- ---- the child has ended

pub told_difference : (result : Result Looked FinishFault) → TellsDifference result (difference_in result)
told_difference (Ok Looked.Running) = tt
told_difference (Ok (Looked.Checking left)) = tt
told_difference (Ok (Looked.Collected collected)) = refl
told_difference (Err FinishFault.Idle) = tt
told_difference (Err FinishFault.Wait) = tt
told_difference (Err (FinishFault.Rejected (Rejection.Exit exit))) = tt
told_difference (Err (FinishFault.Rejected (Rejection.Differs difference))) = refl
told_difference (Err (FinishFault.Limit limit)) = refl
told_difference (Err FinishFault.Ground) = tt
told_difference (Err (FinishFault.Damaged at)) = tt
told_difference (Err FinishFault.Memory) = tt

-- an exit other than 0 is rejected, whatever was found of the pair
exited : (exit : Exit) → ¬ is_zero exit → (difference : Option Difference) → verdict_on exit difference ≡ Verdict.exited exit
exited Exit.Signal not difference = refl
exited (Exit.Code (pos zero)) not difference = absurd (not refl)
exited (Exit.Code (pos (suc n))) not difference = refl
exited (Exit.Code (negsuc n)) not difference = refl

module _ (r : Repository) (n : ℕ) (reaped : Reaped) (work : Work) where
  -- its exit is kept
  abbrev before : State
  before = state_at r (Phase.Collecting n (Some reaped)) work

  abbrev over : Repository → State
  over q = state_at q Phase.Idle work

  abbrev Gives : Result Looked FinishFault → ℕ → Option Difference → Reply → State → Command → Type 0
  Gives result left difference reply after command = turned before command (met_of (Child.Ended reaped) result left difference) ≡ (reply, after)

  abbrev judged : Conditions → Exit → Turned
  judged met exit = or_refused before (verdict_turn before n met (verdict_on exit met.difference))

  gives_checking : (bytes left : ℕ) (difference : Option Difference) (command : Command) → IsEnding command → Gives (Ok (Looked.Checking bytes)) left difference (Reply.Checking bytes) before command
  unfolding outcome turned
  gives_checking bytes left difference command is = either (Gives (Ok (Looked.Checking bytes)) left difference (Reply.Checking bytes) before) command is refl refl

  gives_memory : (left : ℕ) (difference : Option Difference) (command : Command) → IsEnding command → Gives (Err FinishFault.Memory) left difference Reply.Memory before command
  unfolding outcome turned
  gives_memory left difference command is = either (Gives (Err FinishFault.Memory) left difference Reply.Memory before) command is refl refl

  gives_exit : (left : ℕ) (difference : Option Difference) → ¬ is_zero reaped.exit → (command : Command) → IsEnding command → Gives (Err (FinishFault.Rejected (Rejection.Exit reaped.exit))) left difference (Reply.RejectedExit reaped.exit) (over r) command
  unfolding outcome turned
  gives_exit left difference not command is =
      let m = met_of (Child.Ended reaped) (Err (FinishFault.Rejected (Rejection.Exit reaped.exit))) left difference in
      let same = ap (λ (v : Verdict). or_refused before (verdict_turn before n m v)) (exited reaped.exit not difference) in
      either (Gives (Err (FinishFault.Rejected (Rejection.Exit reaped.exit))) left difference (Reply.RejectedExit reaped.exit) (over r)) command is same same

  module _ (zero : is_zero reaped.exit) where
    gives_differs : (left : ℕ) (d : Difference) (command : Command) → IsEnding command → Gives (Err (FinishFault.Rejected (Rejection.Differs d))) left (Some d) (Reply.Rejected d) (over r) command
    unfolding outcome turned
    gives_differs left d command is =
        let same = ap (judged (met_of (Child.Ended reaped) (Err (FinishFault.Rejected (Rejection.Differs d))) left (Some d))) zero in
        either (Gives (Err (FinishFault.Rejected (Rejection.Differs d))) left (Some d) (Reply.Rejected d) (over r)) command is same same

    gives_short : (left : ℕ) (command : Command) → IsEnding command → Gives (Err (FinishFault.Limit Limit.Sequence)) left None (Reply.Limit Limit.Sequence) (over r) command
    unfolding outcome turned
    gives_short left command is =
        let same = ap (judged (met_of (Child.Ended reaped) (Err (FinishFault.Limit Limit.Sequence)) left None)) zero in
        either (Gives (Err (FinishFault.Limit Limit.Sequence)) left None (Reply.Limit Limit.Sequence) (over r)) command is same same

    gives_collected : (left : ℕ) (command : Command) → IsEnding command → Gives (Ok (Looked.Collected (record { floor = n; left = left }))) left None (Reply.Collected n left) (over (collected_at r n)) command
    unfolding outcome turned
    gives_collected left command is =
        let same = ap (judged (met_of (Child.Ended reaped) (Ok (Looked.Collected (record { floor = n; left = left }))) left None)) zero in
        either (Gives (Ok (Looked.Collected (record { floor = n; left = left }))) left None (Reply.Collected n left) (over (collected_at r n))) command is same same

    -- a fault of the ground, or of its files: no reply, but there is a repository
    abbrev Leaves : FinishFault → ℕ → Option Difference → Repository → Command → Type 0
    Leaves fault left difference after command = (turned before command (met_of (Child.Ended reaped) (Err fault) left difference)).1.repository ≡ after

    leaves_ground : (left : ℕ) (difference : Option Difference) (c : Collection) → c.commit ≡ n → (command : Command) → IsEnding command → Leaves FinishFault.Ground left difference (after_cut difference r c) command
    unfolding outcome turned
    leaves_ground left None c same command is =
        let e = ap (λ (x : Exit). (judged (met_of (Child.Ended reaped) (Err FinishFault.Ground) left None) x).1.repository) zero ∙ ap (collected_at r) (sym same) in
        either (Leaves FinishFault.Ground left None (collected_at r c.commit)) command is e e
    leaves_ground left (Some d) c same command is =
        let e = ap (λ (x : Exit). (judged (met_of (Child.Ended reaped) (Err FinishFault.Ground) left (Some d)) x).1.repository) zero in
        either (Leaves FinishFault.Ground left (Some d) r) command is e e

    leaves_damaged : (at left : ℕ) (difference : Option Difference) (c : Collection) → c.commit ≡ n → (command : Command) → IsEnding command → Leaves (FinishFault.Damaged at) left difference (after_cut difference r c) command
    unfolding outcome turned
    leaves_damaged at left None c same command is =
        let e = ap (λ (x : Exit). (judged (met_of (Child.Ended reaped) (Err (FinishFault.Damaged at)) left None) x).1.repository) zero ∙ ap (collected_at r) (sym same) in
        either (Leaves (FinishFault.Damaged at) left None (collected_at r c.commit)) command is e e
    leaves_damaged at left (Some d) c same command is =
        let e = ap (λ (x : Exit). (judged (met_of (Child.Ended reaped) (Err (FinishFault.Damaged at)) left (Some d)) x).1.repository) zero in
        either (Leaves (FinishFault.Damaged at) left (Some d) r) command is e e

  -- ---- what is met

  is_met : (result : Result Looked FinishFault) (left : ℕ) (difference : Option Difference) (reply : Reply) (command : Command) → IsEnding command → IfSome (checking_in result) (λ bytes. (command ≡ Command.Look) × is_zero reaped.exit)
      → (0 < left → IsSwept reply) → IfSome (short_in result) (λ limit. (reply ≡ Reply.Limit limit) × MayBeShort limit) → IsMet before command (met_of (Child.Ended reaped) result left difference) reply
  is_met result left difference reply command is checking swept short = record {
    child = either (λ (k : Command). MayHear (Phase.Collecting n (Some reaped)) k (Child.Ended reaped)) command is refl refl;
    checking = checking;
    start = λ t. absurd (cc (t));
    kill = λ t. absurd (cc (t));
    left = swept;
    short = short;
    refused = λ t. either (λ (k : Command). MayRefuse k (Child.Ended reaped)) command is tt tt;
  }

-- ---- by the answer

-- the phase behind it
abbrev phase_by : Result Looked FinishFault → ℕ → Reaped → Phase
phase_by (Ok (Looked.Collected collected)) n reaped = Phase.Idle
phase_by (Err (FinishFault.Rejected rejection)) n reaped = Phase.Idle
phase_by (Err (FinishFault.Limit limit)) n reaped = Phase.Idle
phase_by result n reaped = Phase.Collecting n (Some reaped)

none_swept : (P : Type 0) (left : ℕ) → left ≡ 0 → 0 < left → P
none_swept P left none l = absurd (omega (arith, none, l))

module _ (r : Repository) (c : Collection) (reaped : Reaped) where
  abbrev kept_state : Work → State
  kept_state work = state_at r (Phase.Collecting c.commit (Some reaped)) work

  abbrev TurnsSo : Result Looked FinishFault → ℕ → Option Difference → Command → Reply → Type 0
  TurnsSo result left difference command reply = (work : Work) → TurnsBy (kept_state work) command (met_of (Child.Ended reaped) result left difference) reply (state_at (after_by result r c) (phase_by result c.commit reaped) work)

  abbrev TurnsFor : Result Looked FinishFault → ℕ → Option Difference → Command → Type 0
  TurnsFor result left difference command = LookReplies result (TurnsSo result left difference command)

  collected_turns : (x : Collected) (left : ℕ) (difference : Option Difference) → FitsEnd reaped.exit c left (Ok (Looked.Collected x)) → difference ≡ None → (command : Command) → IsEnding command → TurnsSo (Ok (Looked.Collected x)) left difference command (Reply.Collected x.floor x.left)
  collected_turns x left difference fits tells command is work =
      let one : Collected = record { floor = c.commit; left = left } in
      subst (λ (d : Option Difference). TurnsBy (kept_state work) command (met_of (Child.Ended reaped) (Ok (Looked.Collected x)) left d) (Reply.Collected x.floor x.left) (state_at (collected_at r c.commit) Phase.Idle work)) (sym tells)
      (subst (λ (y : Collected). TurnsBy (kept_state work) command (met_of (Child.Ended reaped) (Ok (Looked.Collected y)) left None) (Reply.Collected y.floor y.left) (state_at (collected_at r c.commit) Phase.Idle work)) (sym fits.1) (
        is_met r c.commit reaped work (Ok (Looked.Collected one)) left None (Reply.Collected c.commit left) command is tt (λ l. tt) tt,
        gives_collected r c.commit reaped work fits.0 left command is,
      ))

  turns_by : (result : Result Looked FinishFault) (left : ℕ) (difference : Option Difference) → FitsEnd reaped.exit c left result → (¬ IsSweptBehind result → left ≡ 0) → TellsDifference result difference → (command : Command) → IsAsked command result → TurnsFor result left difference command
  turns_by (Ok Looked.Running) left difference fits none tells command asked = absurd fits
  turns_by (Ok (Looked.Checking bytes)) left difference fits none tells command asked = λ work.
      let is = turn_of command (Ok (Looked.Checking bytes)) asked in (
        is_met r c.commit reaped work (Ok (Looked.Checking bytes)) left difference (Reply.Checking bytes) command is (looks bytes command asked, fits) (none_swept ⊥ left (none (λ no. no))) tt,
        gives_checking r c.commit reaped work bytes left difference command is,
      )
  turns_by (Ok (Looked.Collected collected)) left difference fits none tells command asked = λ work. collected_turns collected left difference fits tells command (turn_of command (Ok (Looked.Collected collected)) asked) work
  turns_by (Err FinishFault.Idle) left difference fits none tells command asked = absurd fits
  turns_by (Err FinishFault.Wait) left difference fits none tells command asked = absurd fits
  turns_by (Err (FinishFault.Rejected (Rejection.Exit e))) left difference fits none tells command asked = λ work.
      let is = turn_of command (Err (FinishFault.Rejected (Rejection.Exit e))) asked in
      subst (λ (x : Exit). TurnsBy (kept_state work) command (met_of (Child.Ended reaped) (Err (FinishFault.Rejected (Rejection.Exit x))) left difference) (Reply.RejectedExit x) (state_at r Phase.Idle work)) (sym fits.0) (
        is_met r c.commit reaped work (Err (FinishFault.Rejected (Rejection.Exit reaped.exit))) left difference (Reply.RejectedExit reaped.exit) command is tt (λ l. tt) tt,
        gives_exit r c.commit reaped work left difference fits.1 command is,
      )
  turns_by (Err (FinishFault.Rejected (Rejection.Differs d))) left difference fits none tells command asked = λ work.
      let is = turn_of command (Err (FinishFault.Rejected (Rejection.Differs d))) asked in
      subst (λ (x : Option Difference). TurnsBy (kept_state work) command (met_of (Child.Ended reaped) (Err (FinishFault.Rejected (Rejection.Differs d))) left x) (Reply.Rejected d) (state_at r Phase.Idle work)) (sym tells) (
        is_met r c.commit reaped work (Err (FinishFault.Rejected (Rejection.Differs d))) left (Some d) (Reply.Rejected d) command is tt (λ l. tt) tt,
        gives_differs r c.commit reaped work fits left d command is,
      )
  turns_by (Err (FinishFault.Limit limit)) left difference fits none tells command asked = λ work.
      let is = turn_of command (Err (FinishFault.Limit limit)) asked in
      subst (λ (x : Option Difference). TurnsBy (kept_state work) command (met_of (Child.Ended reaped) (Err (FinishFault.Limit limit)) left x) (Reply.Limit limit) (state_at r Phase.Idle work)) (sym tells)
      (subst (λ (l : Limit). TurnsBy (kept_state work) command (met_of (Child.Ended reaped) (Err (FinishFault.Limit l)) left None) (Reply.Limit l) (state_at r Phase.Idle work)) (sym fits.1) (
        is_met r c.commit reaped work (Err (FinishFault.Limit Limit.Sequence)) left None (Reply.Limit Limit.Sequence) command is tt (none_swept ⊥ left (none (λ no. no))) (refl, tt),
        gives_short r c.commit reaped work fits.0 left command is,
      ))
  turns_by (Err FinishFault.Ground) left difference fits none tells command asked = tt
  turns_by (Err (FinishFault.Damaged at)) left difference fits none tells command asked = tt
  turns_by (Err FinishFault.Memory) left difference fits none tells command asked = λ work.
      let is = turn_of command (Err FinishFault.Memory) asked in (
        is_met r c.commit reaped work (Err FinishFault.Memory) left difference Reply.Memory command is tt (none_swept ⊥ left (none (λ no. no))) tt,
        gives_memory r c.commit reaped work left difference command is,
      )

  -- as the store says it
  phase_is : (most : ℕ) (result : Result Looked FinishFault) (left : ℕ) (now : Option Collection) → c.exit ≡ Some reaped → FitsEnd reaped.exit c left result → GoesOnAs most result c now → phase_of now ≡ phase_by result c.commit reaped
  phase_is most (Ok Looked.Running) left now kept fits goes = absurd fits
  phase_is most (Ok (Looked.Checking bytes)) left now kept fits goes = ap phase_of goes.1 ∙ ap (Phase.Collecting c.commit) kept
  phase_is most (Ok (Looked.Collected collected)) left now kept fits goes = ap phase_of goes
  phase_is most (Err FinishFault.Idle) left now kept fits goes = absurd fits
  phase_is most (Err FinishFault.Wait) left now kept fits goes = absurd fits
  phase_is most (Err (FinishFault.Rejected rejection)) left now kept fits goes = ap phase_of goes
  phase_is most (Err (FinishFault.Limit limit)) left now kept fits goes = ap phase_of goes
  phase_is most (Err FinishFault.Ground) left now kept fits goes = ap phase_of goes.1 ∙ ap (Phase.Collecting c.commit) kept
  phase_is most (Err (FinishFault.Damaged at)) left now kept fits goes = ap phase_of goes.1 ∙ ap (Phase.Collecting c.commit) kept
  phase_is most (Err FinishFault.Memory) left now kept fits goes = ap phase_of goes.1 ∙ ap (Phase.Collecting c.commit) kept

pub each_look : (P Q : Reply → Type 0) (result : Result Looked FinishFault) → (HasAnswer result → (reply : Reply) → P reply → Q reply) → LookReplies result P → LookReplies result Q
each_look P Q (Ok Looked.Running) each is = each tt Reply.Running is
each_look P Q (Ok (Looked.Checking left)) each is = each tt (Reply.Checking left) is
each_look P Q (Ok (Looked.Collected collected)) each is = each tt (Reply.Collected collected.floor collected.left) is
each_look P Q (Err FinishFault.Idle) each is = each tt Reply.Idle is
each_look P Q (Err FinishFault.Wait) each is = each tt Reply.WaitFault is
each_look P Q (Err (FinishFault.Rejected (Rejection.Exit exit))) each is = each tt (Reply.RejectedExit exit) is
each_look P Q (Err (FinishFault.Rejected (Rejection.Differs difference))) each is = each tt (Reply.Rejected difference) is
each_look P Q (Err (FinishFault.Limit limit)) each is = each tt (Reply.Limit limit) is
each_look P Q (Err FinishFault.Ground) each is = tt
each_look P Q (Err (FinishFault.Damaged at)) each is = tt
each_look P Q (Err FinishFault.Memory) each is = each tt Reply.Memory is

module _ (r : Repository) (c : Collection) (reaped : Reaped) where
  abbrev Lands : Result Looked FinishFault → ℕ → Option Difference → Command → Repository → Type 0
  Lands result left difference command q = (turned (kept_state r c reaped empty_work) command (met_of (Child.Ended reaped) result left difference)).1.repository ≡ q

  landed : (result : Result Looked FinishFault) (left : ℕ) (difference : Option Difference) (command : Command) (reply : Reply) → TurnsSo r c reaped result left difference command reply → Lands result left difference command (after_by result r c)
  landed result left difference command reply is = ap (λ (t : Turned). t.1.repository) (is empty_work).1

  lands : (result : Result Looked FinishFault) (left : ℕ) (difference : Option Difference) → FitsEnd reaped.exit c left result → (¬ IsSweptBehind result → left ≡ 0) → TellsDifference result difference → (command : Command) → IsAsked command result
      → Lands result left difference command (after_with result difference r c)
  lands (Ok Looked.Running) left difference fits none tells command asked = absurd fits
  lands (Ok (Looked.Checking bytes)) left difference fits none tells command asked = landed (Ok (Looked.Checking bytes)) left difference command (Reply.Checking bytes) (turns_by r c reaped (Ok (Looked.Checking bytes)) left difference fits none tells command asked)
  lands (Ok (Looked.Collected x)) left difference fits none tells command asked =
      landed (Ok (Looked.Collected x)) left difference command (Reply.Collected x.floor x.left) (turns_by r c reaped (Ok (Looked.Collected x)) left difference fits none tells command asked)
  lands (Err FinishFault.Idle) left difference fits none tells command asked = absurd fits
  lands (Err FinishFault.Wait) left difference fits none tells command asked = absurd fits
  lands (Err (FinishFault.Rejected (Rejection.Exit e))) left difference fits none tells command asked =
      landed (Err (FinishFault.Rejected (Rejection.Exit e))) left difference command (Reply.RejectedExit e) (turns_by r c reaped (Err (FinishFault.Rejected (Rejection.Exit e))) left difference fits none tells command asked)
  lands (Err (FinishFault.Rejected (Rejection.Differs d))) left difference fits none tells command asked =
      landed (Err (FinishFault.Rejected (Rejection.Differs d))) left difference command (Reply.Rejected d) (turns_by r c reaped (Err (FinishFault.Rejected (Rejection.Differs d))) left difference fits none tells command asked)
  lands (Err (FinishFault.Limit limit)) left difference fits none tells command asked =
      landed (Err (FinishFault.Limit limit)) left difference command (Reply.Limit limit) (turns_by r c reaped (Err (FinishFault.Limit limit)) left difference fits none tells command asked)
  lands (Err FinishFault.Ground) left difference fits none tells command asked = leaves_ground r c.commit reaped empty_work fits left difference c refl command (turn_of command (Err FinishFault.Ground) asked)
  lands (Err (FinishFault.Damaged at)) left difference fits none tells command asked = leaves_damaged r c.commit reaped empty_work fits at left difference c refl command (turn_of command (Err (FinishFault.Damaged at)) asked)
  lands (Err FinishFault.Memory) left difference fits none tells command asked = landed (Err FinishFault.Memory) left difference command Reply.Memory (turns_by r c reaped (Err FinishFault.Memory) left difference fits none tells command asked)

module _ (r : Repository) (c : Collection) (reaped : Reaped) (kept : c.exit ≡ Some reaped) (result : Result Looked FinishFault) (left : ℕ) (difference : Option Difference)
    (fits : FitsEnd reaped.exit c left result) (none : ¬ IsSweptBehind result → left ≡ 0) (tells : TellsDifference result difference) (command : Command) (asked : IsAsked command result) where
  abbrev met : Conditions
  met = met_of (Child.Ended reaped) result left difference

  pub turns_end : (most : ℕ) (now : Option Collection) → GoesOnAs most result c now → LookReplies result (λ reply. (work : Work) → TurnsBy (state_at r (phase_of (Some c)) work) command met reply (state_at (after_by result r c) (phase_of now) work))
  turns_end most now goes =
      let same = phase_is r c reaped most result left now kept fits goes in
      each_look (TurnsSo r c reaped result left difference command) (λ reply. (work : Work) → TurnsBy (state_at r (phase_of (Some c)) work) command met reply (state_at (after_by result r c) (phase_of now) work)) result
      (λ has reply is work. subst (λ (o : Option Reaped). TurnsBy (state_at r (Phase.Collecting c.commit o) work) command met reply (state_at (after_by result r c) (phase_of now) work)) (sym kept)
      (subst (λ (p : Phase). TurnsBy (kept_state r c reaped work) command met reply (state_at (after_by result r c) p work)) (sym same) (is work)))
      (turns_by r c reaped result left difference fits none tells command asked)

  pub repository_is : repository_after r c command met ≡ after_with result difference r c
  repository_is = subst (λ (o : Option Reaped). (turned (state_at r (Phase.Collecting c.commit o) empty_work) command met).1.repository ≡ after_with result difference r c) (sym kept)
      (lands r c reaped result left difference fits none tells command asked)

-- ---- whether it was kept before or is heard now

module _ (r : Repository) (n : ℕ) (reaped : Reaped) (work : Work) where
  abbrev unheard : State
  unheard = state_at r (Phase.Collecting n None) work

  abbrev known : State
  known = state_at r (Phase.Collecting n (Some reaped)) work

  same_verdict : (cs : Conditions) (v : Verdict) → or_refused unheard (verdict_turn unheard n cs v) ≡ or_refused known (verdict_turn known n cs v)
  same_verdict cs (Verdict.exited e) = refl
  same_verdict cs (Verdict.differs d) = refl
  same_verdict cs Verdict.accepted = refl

  same_check : (cs : Conditions) (o : Option ℕ) → or_refused unheard (check_turn unheard n cs reaped o) ≡ or_refused known (check_turn known n cs reaped o)
  same_check cs (Some bytes) = refl
  same_check cs None = same_verdict cs (verdict_on reaped.exit cs.difference)

  abbrev turned_from : State → Conditions → Child → Turned
  turned_from s cs child = if cs.told.refused then (Reply.Memory, state_with_exit s s.phase child) else or_refused s (child_turn s n cs child)

  same_turn : (cs : Conditions) (b : Bool) → (if b then (Reply.Memory, state_with_exit unheard unheard.phase (Child.Ended reaped)) else or_refused unheard (check_turn unheard n cs reaped cs.told.checking))
      ≡ (if b then (Reply.Memory, state_with_exit known known.phase (Child.Ended reaped)) else or_refused known (check_turn known n cs reaped cs.told.checking))
  same_turn cs true = refl
  same_turn cs false = same_check cs cs.told.checking

  pub turned_heard : (cs : Conditions) (command : Command) → IsEnding command → cs.told.child ≡ Child.Ended reaped → turned unheard command cs ≡ turned known command cs
  unfolding outcome turned
  turned_heard cs command is ended =
      let same : turned_from unheard cs cs.told.child ≡ turned_from known cs cs.told.child = subst (λ (k : Child). turned_from unheard cs k ≡ turned_from known cs k) (sym ended) (same_turn cs cs.told.refused) in
      either (λ (k : Command). turned unheard k cs ≡ turned known k cs) command is same same

  pub met_heard : (cs : Conditions) (command : Command) (reply : Reply) → IsEnding command → cs.told.child ≡ Child.Ended reaped → IsMet known command cs reply → IsMet unheard command cs reply
  met_heard cs command reply is ended meets = record {
    child = subst (λ (k : Child). MayHear (Phase.Collecting n None) command k) (sym ended) (either (λ (k : Command). MayHear (Phase.Collecting n None) k (Child.Ended reaped)) command is (inl tt) (inl tt));
    checking = meets.checking;
    start = meets.start;
    kill = λ t. ((meets.kill t).0, refl);
    left = meets.left;
    short = meets.short;
    refused = meets.refused;
  }

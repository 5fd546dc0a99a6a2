-- What the machine answers to a commit, by its refusals in their order.
--     asks_none, unkept      a command asks no child, so nothing is kept of one
--     by_given .. by_room, none_refuses      those that come before the name, in their order.      first_there, first_room      what holds where none of them refuses
--     chain      the refusals.      refused_first      the turn where one of those refuses that come before the name.      turn_is_done      the turn where none does
use Rattle.std.proofs.Common.{◌≡◌, ℕ, false, List, Option, Some, None, refl, sym, ◌∙◌, ap, subst, arith}
use Rattle.std.specs.Prelude.{Result, Ok, Err, if◌then◌else◌, IfSome, IsSomeAnd, IfErr}
use Rattle.ip_base.specs.declared.info.Info.{Info}
use Rattle.ip_base.specs.declared.limit.Limit.{Limit}
use Rattle.ip_spec.specs.declared.command.Command.{Command}
use Rattle.ip_spec.specs.declared.met.Met.{Met}
use Rattle.ip_spec.specs.declared.reply.Reply.{Reply}
use Rattle.ip_spec.specs.Path.{Bytes}
use Rattle.ip_spec.specs.Repository.{Repository, Commit, head, name_at}
use Rattle.ip_spec.specs.declared.met.Child.TheVariants as Child
use Rattle.ip_spec.specs.Machine.{Phase, State}
use Rattle.ip_spec.specs.View.{View}
use Rattle.ip_spec.specs.Step.{IsMet, Refused, Turned, outcome, turned, answer, or_refused, state_with_exit, MayBeShort, MayHear, MayRefuse, below, unless_some, moved_head, room_for_branch, not_existing, enough, new_commit, ◌>>◌}
use Rattle.ip_held.specs.declared.work.Work.{Work}
use Rattle.ip_image.specs.declared.slot.Slot.{Slot}
use Rattle.ip_held.specs.declared.fault.StoreFault.{StoreFault}
use Rattle.ip_held.specs.Changes.{IsNextSlot}
use Rattle.ip_held.specs.Answers.{met_nothing, met_of, short_of, conditions_of, fault_reply, RefusesBy, IsRefusal, first_refusal}
use Rattle.ip_held.specs.Answers.{committed}
use Rattle.ip_held.specs.Collecting.{not_leaving_in}
use Rattle.ip_held.specs.Work.{IsThere, session}
use Rattle.ip_held.proofs.Phases.{there_is}

-- what an answer is refused by
pub if_err_is : {T : Type 0} (result : Result T StoreFault) (fault : StoreFault) (P : StoreFault → Type 0) → result ≡ Err fault → P fault → IfErr result P
if_err_is result fault P is p = subst (λ x. IfErr x P) (sym is) p

-- a reply of which more is so than of the one
pub each_reply : (P Q : Reply → Type 0) (o : Option Reply) → ((reply : Reply) → P reply → Q reply) → IsSomeAnd o P → IsSomeAnd o Q
each_reply P Q None each p = p
each_reply P Q (Some reply) each p = each reply p

-- all commands but the two that ask the child
abbrev pub AsksNone : Command → Type 0
AsksNone Command.Look = ⊥
AsksNone Command.Finish = ⊥
AsksNone command = Unit {0}

pub asks_none : (phase : Phase) (command : Command) → AsksNone command → MayHear phase command Child.NotAsked
asks_none Phase.Idle command plain = refl
asks_none (Phase.Collecting c None) Command.Look plain = absurd plain
asks_none (Phase.Collecting c None) Command.Finish plain = absurd plain
asks_none (Phase.Collecting c None) _ plain = refl
asks_none (Phase.Collecting c (Some reaped)) Command.Look plain = absurd plain
asks_none (Phase.Collecting c (Some reaped)) Command.Finish plain = absurd plain
asks_none (Phase.Collecting c (Some reaped)) _ plain = refl

-- what may be refused memory though no child was asked
pub refusable : (command : Command) → MayRefuse command Child.NotAsked → AsksNone command
refusable Command.Look may = absurd may
refusable Command.Finish may = absurd may
refusable _ may = tt

pub unkept : (s : State) (phase : Phase) → state_with_exit s phase Child.NotAsked ≡ s
unkept s Phase.Idle = refl
unkept s (Phase.Collecting c exit) = refl

four : (a b c d : Refused (Unit {0})) (y : Refused Turned) → a >> (b >> (c >> (d >> y))) ≡ (a >> (b >> (c >> d))) >> y
four (Err e) b c d y = refl
four (Ok u) (Err e) c d y = refl
four (Ok u) (Ok t) (Err e) d y = refl
four (Ok u) (Ok t) (Ok z) d y = refl

first_of : (a b : Refused (Unit {0})) → a >> b ≡ Ok tt → a ≡ Ok tt
first_of (Ok tt) b is = refl
first_of (Err e) b is = absurd (cc (is))

behind_it : (a b : Refused (Unit {0})) → a >> b ≡ Ok tt → b ≡ Ok tt
behind_it (Ok tt) b is = is
behind_it (Err e) b is = absurd (cc (is))

-- those that refuse before the name, each where it is the first to do so
module _ (r : Repository) (phase : Phase) (least : Option ℕ) (parents : List ℕ) (branch : Bytes) where
  abbrev pub Given : Refused (Unit {0})
  Given = unless_some (below r.floor least) Reply.GivenUp

  abbrev pub Moved : Refused (Unit {0})
  Moved = unless_some (moved_head (head r branch) parents) (λ n. Reply.HeadMoved (name_at r n))

  abbrev pub Leaves : Refused (Unit {0})
  Leaves = not_leaving_in phase least

  abbrev pub Room : Refused (Unit {0})
  Room = room_for_branch r branch

  abbrev pub Refuses : StoreFault → Type 0
  Refuses fault = RefusesBy (Err fault) (first_refusal r phase least parents branch)

  by_reply : (one : Refused (Unit {0})) (fault : StoreFault) → ((reply : Reply) → one ≡ Err reply → first_refusal r phase least parents branch ≡ Err reply) → RefusesBy (Err fault) one → Refuses fault
  by_reply one fault each is = each_reply (λ (reply : Reply). one ≡ Err reply) (λ (reply : Reply). first_refusal r phase least parents branch ≡ Err reply) (fault_reply fault) each is

  pub by_given : (fault : StoreFault) → RefusesBy (Err fault) Given → Refuses fault
  by_given fault is = by_reply Given fault (λ reply e. ap (λ g. g >> (Moved >> (Leaves >> Room))) e) is

  pub by_moved : Given ≡ Ok tt → (fault : StoreFault) → RefusesBy (Err fault) Moved → Refuses fault
  by_moved given fault is = by_reply Moved fault (λ reply e i. given i >> (e i >> (Leaves >> Room))) is

  pub by_leaves : Given ≡ Ok tt → Moved ≡ Ok tt → (fault : StoreFault) → RefusesBy (Err fault) Leaves → Refuses fault
  by_leaves given moved fault is = by_reply Leaves fault (λ reply e i. given i >> (moved i >> (e i >> Room))) is

  pub by_room : Given ≡ Ok tt → Moved ≡ Ok tt → Leaves ≡ Ok tt → (fault : StoreFault) → RefusesBy (Err fault) Room → Refuses fault
  by_room given moved leaves fault is = by_reply Room fault (λ reply e i. given i >> (moved i >> (leaves i >> e i))) is

  pub none_refuses : Given ≡ Ok tt → Moved ≡ Ok tt → Leaves ≡ Ok tt → Room ≡ Ok tt → first_refusal r phase least parents branch ≡ Ok tt
  none_refuses given moved leaves room i = given i >> (moved i >> (leaves i >> room i))

-- where none of those refuses that come before the name, the work was not given up, and there is room for the branch
module _ (r : Repository) (phase : Phase) (least : Option ℕ) (parents : List ℕ) (branch : Bytes) (is : first_refusal r phase least parents branch ≡ Ok tt) where
  abbrev moved : Refused (Unit {0})
  moved = Moved r phase least parents branch

  abbrev given : Refused (Unit {0})
  given = Given r phase least parents branch

  pub first_there : IsThere r least
  first_there = there_is r least (first_of given (moved >> (not_leaving_in phase least >> room_for_branch r branch)) is)

  pub first_stays : not_leaving_in phase least ≡ Ok tt
  first_stays = first_of (not_leaving_in phase least) (room_for_branch r branch) (behind_it moved (not_leaving_in phase least >> room_for_branch r branch) (behind_it given (moved >> (not_leaving_in phase least >> room_for_branch r branch)) is))

  pub first_room : room_for_branch r branch ≡ Ok tt
  first_room = behind_it (not_leaving_in phase least) (room_for_branch r branch) (behind_it moved (not_leaving_in phase least >> room_for_branch r branch) (behind_it given (moved >> (not_leaving_in phase least >> room_for_branch r branch)) is))

module _ (r : Repository) (phase : Phase) (work : Work) (v : View) (branch : Bytes) (info : Info) where
  abbrev s : State
  s = session r phase work v

  abbrev commit : Commit
  commit = new_commit r v.map work.parents info

  abbrev done : Turned
  done = committed r phase work v branch info

  abbrev pub First : Refused (Unit {0})
  First = first_refusal r phase work.least work.parents branch

  abbrev rest : Met → Refused Turned
  rest met = not_existing r commit.name >> (enough (conditions_of met) Limit.Space >> (enough (conditions_of met) Limit.Sequence >> Ok done))

  abbrev chain : Met → Refused Turned
  chain met = First >> rest met

  pub outcome_is : (met : Met) → outcome s (Command.Commit branch info) (conditions_of met) ≡ chain met
  unfolding outcome
  outcome_is met = four (unless_some (below r.floor work.least) Reply.GivenUp) (unless_some (moved_head (head r branch) work.parents) (λ n. Reply.HeadMoved (name_at r n))) (not_leaving_in phase work.least) (room_for_branch r branch) (rest met)

  turn_refused : (met : Met) (reply : Reply) → met.refused ≡ false → chain met ≡ Err reply → turned s (Command.Commit branch info) (conditions_of met) ≡ (reply, s)
  unfolding turned
  turn_refused met reply unrefused is =
      ap (λ b. if b then (Reply.Memory, state_with_exit s s.phase met.child) else answer s (Command.Commit branch info) (conditions_of met)) unrefused
      ∙ ap (or_refused s) (outcome_is met ∙ is)

  turn_memory : turned s (Command.Commit branch info) (conditions_of (met_of StoreFault.Memory)) ≡ (Reply.Memory, s)
  unfolding turned
  turn_memory = ap (λ (t : State). (Reply.Memory, t)) (unkept s s.phase)

  turn_done : chain met_nothing ≡ Ok done → turned s (Command.Commit branch info) (conditions_of met_nothing) ≡ done
  unfolding turned
  turn_done is = ap (or_refused s) (outcome_is met_nothing ∙ is)

  -- what was met by an answer may be met
  met_with : (met : Met) (reply : Reply) → met ≡ met_nothing → IsMet s (Command.Commit branch info) (conditions_of met) reply
  met_with met reply is = subst (λ m. IsMet s (Command.Commit branch info) (conditions_of m) reply) (sym is) quiet_met
    where
      quiet_met : IsMet s (Command.Commit branch info) (conditions_of met_nothing) reply
      quiet_met = record {
        child = asks_none phase (Command.Commit branch info) tt;
        checking = tt;
        start = λ t. absurd (cc (t));
        kill = λ t. absurd (cc (t));
        left = λ l. absurd (omega (arith, l));
        short = tt;
        refused = λ t. absurd (cc (t));
      }

  met_short : (limit : Limit) → IfSome (short_of limit) (λ l. (Reply.Limit limit ≡ Reply.Limit l) × MayBeShort l) → IsMet s (Command.Commit branch info) (conditions_of (met_of (StoreFault.Limit limit))) (Reply.Limit limit)
  met_short limit so = record {
    child = asks_none phase (Command.Commit branch info) tt;
    checking = tt;
    start = λ t. absurd (cc (t));
    kill = λ t. absurd (cc (t));
    left = λ l. absurd (omega (arith, l));
    short = so;
    refused = λ t. absurd (cc (t));
  }

  short_so : (limit : Limit) → IfSome (short_of limit) (λ l. (Reply.Limit limit ≡ Reply.Limit l) × MayBeShort l)
  short_so Limit.Contents = tt
  short_so Limit.Depth = tt
  short_so Limit.Entries = tt
  short_so Limit.Parents = tt
  short_so Limit.Branches = tt
  short_so Limit.Space = (refl, tt)
  short_so Limit.Sequence = (refl, tt)
  short_so Limit.Attempt = tt

  met_memory : IsMet s (Command.Commit branch info) (conditions_of (met_of StoreFault.Memory)) Reply.Memory
  met_memory = record {
    child = asks_none phase (Command.Commit branch info) tt;
    checking = tt;
    start = λ t. absurd (cc (t));
    kill = λ t. absurd (cc (t));
    left = λ l. absurd (omega (arith, l));
    short = tt;
    refused = λ t. tt;
  }

  pub met_done : IsMet s (Command.Commit branch info) (conditions_of met_nothing) (Reply.Committed commit.name)
  met_done = met_with met_nothing (Reply.Committed commit.name) refl

  -- a fault that one of the refusals gives
  by_fault : (fault : StoreFault) → IsSomeAnd (fault_reply fault) (λ reply. (met : Met) → chain met ≡ Err reply) → IsRefusal r phase work v branch info fault
  by_fault (StoreFault.GivenUp number) is = (met_with met_nothing (Reply.GivenUp number) refl, turn_refused met_nothing (Reply.GivenUp number) refl (is met_nothing))
  by_fault (StoreFault.HeadMoved name) is = (met_with met_nothing (Reply.HeadMoved name) refl, turn_refused met_nothing (Reply.HeadMoved name) refl (is met_nothing))
  by_fault (StoreFault.Leaving number) is = (met_with met_nothing (Reply.Leaving number) refl, turn_refused met_nothing (Reply.Leaving number) refl (is met_nothing))
  by_fault (StoreFault.Existing name) is = (met_with met_nothing (Reply.Existing name) refl, turn_refused met_nothing (Reply.Existing name) refl (is met_nothing))
  by_fault (StoreFault.Limit limit) is = (met_short limit (short_so limit), turn_refused (met_of (StoreFault.Limit limit)) (Reply.Limit limit) refl (is (met_of (StoreFault.Limit limit))))
  by_fault StoreFault.Memory is = (met_memory, turn_memory)
  by_fault StoreFault.Ground is = absurd is
  by_fault (StoreFault.Damaged at names) is = absurd is

  pub refused_memory : IsRefusal r phase work v branch info StoreFault.Memory
  refused_memory = (met_memory, turn_memory)

  pub refused_first : (fault : StoreFault) → RefusesBy (Err fault) First → IsRefusal r phase work v branch info fault
  refused_first fault is = by_fault fault (each_reply (λ (reply : Reply). First ≡ Err reply) (λ (reply : Reply). (met : Met) → chain met ≡ Err reply) (fault_reply fault) (λ reply e met. ap (λ g. g >> rest met) e) is)

  module _ (first_is : First ≡ Ok tt) where
    pub behind_first : (met : Met) → chain met ≡ rest met
    behind_first met = ap (λ g. g >> rest met) first_is

    pub refused_name : (fault : StoreFault) → RefusesBy (Err fault) (not_existing r commit.name) → IsRefusal r phase work v branch info fault
    refused_name fault is = by_fault fault (each_reply (λ (reply : Reply). not_existing r commit.name ≡ Err reply) (λ (reply : Reply). (met : Met) → chain met ≡ Err reply) (fault_reply fault) (λ reply e met. behind_first met ∙ ap (λ g. g >> (enough (conditions_of met) Limit.Space >> (enough (conditions_of met) Limit.Sequence >> Ok done))) e) is)

    module _ (name_is : not_existing r commit.name ≡ Ok tt) where
      behind_name : (met : Met) → chain met ≡ (enough (conditions_of met) Limit.Space >> (enough (conditions_of met) Limit.Sequence >> Ok done))
      behind_name met = behind_first met ∙ ap (λ g. g >> (enough (conditions_of met) Limit.Space >> (enough (conditions_of met) Limit.Sequence >> Ok done))) name_is

      -- space or sequence is short, and the met says so
      pub refused_short : (slot : Slot) (length : ℕ) (fault : StoreFault) → IsNextSlot slot length 1 (Err fault) → IsRefusal r phase work v branch info fault
      refused_short slot length (StoreFault.Limit Limit.Space) is = (met_short Limit.Space (refl, tt), turn_refused (met_of (StoreFault.Limit Limit.Space)) (Reply.Limit Limit.Space) refl (behind_name (met_of (StoreFault.Limit Limit.Space))))
      refused_short slot length (StoreFault.Limit Limit.Sequence) is = (met_short Limit.Sequence (refl, tt), turn_refused (met_of (StoreFault.Limit Limit.Sequence)) (Reply.Limit Limit.Sequence) refl (behind_name (met_of (StoreFault.Limit Limit.Sequence))))
      refused_short slot length (StoreFault.Limit _) is = absurd is
      refused_short slot length _ is = absurd is

      pub turn_is_done : turned s (Command.Commit branch info) (conditions_of met_nothing) ≡ done
      turn_is_done = turn_done (behind_name met_nothing)

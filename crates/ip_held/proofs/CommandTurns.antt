-- What the machine answers to a command that speaks to no child.
--     plain, short, wanting      what may be met with its reply.      turn_is      what it gives, where nothing refuses memory
--     refused_turn, limit_turn, memory_turns, done_turn      a refusal, a limit, want of memory, and what is done
use Rattle.std.proofs.Common.{◌≡◌, false, refl, ◌∙◌, ap, arith}
use Rattle.std.specs.Prelude.{Ok, Err, if◌then◌else◌, IfSome}
use Rattle.ip_base.specs.declared.limit.Limit.{Limit}
use Rattle.ip_spec.specs.declared.command.Command.{Command}
use Rattle.ip_spec.specs.declared.met.Child.TheVariants as Child
use Rattle.ip_spec.specs.declared.met.Met.{Met}
use Rattle.ip_spec.specs.declared.reply.Reply.{Reply}
use Rattle.ip_spec.specs.Repository.{Repository}
use Rattle.ip_spec.specs.Machine.{Phase, State, Work}
use Rattle.ip_spec.specs.Step.{IsMet, MayRefuse, MayBeShort, Refused, Turned, outcome, turned, answer, or_refused, state_with_exit}
use Rattle.ip_held.specs.declared.fault.StoreFault.{StoreFault}
use Rattle.ip_held.specs.Answers.{Turns, conditions_of, met_nothing, met_of, short_of}
use Rattle.ip_held.specs.Work.{state_at}
use Rattle.ip_held.proofs.Machine.{asks_none, refusable, unkept}

module _ (r : Repository) (phase : Phase) (work : Work) (command : Command) (may : MayRefuse command Child.NotAsked) where
  abbrev s : State
  s = state_at r phase work

  pub plain : (reply : Reply) → IsMet s command (conditions_of met_nothing) reply
  plain reply = record {
    child = asks_none phase command (refusable command may);
    checking = tt;
    start = λ t. absurd (cc (t));
    kill = λ t. absurd (cc (t));
    left = λ l. absurd (omega (arith, l));
    short = tt;
    refused = λ t. absurd (cc (t));
  }

  pub short : (limit : Limit) → IfSome (short_of limit) (λ l. (Reply.Limit limit ≡ Reply.Limit l) × MayBeShort l) → IsMet s command (conditions_of (met_of (StoreFault.Limit limit))) (Reply.Limit limit)
  short limit so = record {
    child = asks_none phase command (refusable command may);
    checking = tt;
    start = λ t. absurd (cc (t));
    kill = λ t. absurd (cc (t));
    left = λ l. absurd (omega (arith, l));
    short = so;
    refused = λ t. absurd (cc (t));
  }

  pub short_so : (limit : Limit) → IfSome (short_of limit) (λ l. (Reply.Limit limit ≡ Reply.Limit l) × MayBeShort l)
  short_so Limit.Contents = tt
  short_so Limit.Depth = tt
  short_so Limit.Entries = tt
  short_so Limit.Parents = tt
  short_so Limit.Branches = tt
  short_so Limit.Space = (refl, tt)
  short_so Limit.Sequence = (refl, tt)
  short_so Limit.Attempt = tt

  pub wanting : IsMet s command (conditions_of (met_of StoreFault.Memory)) Reply.Memory
  wanting = record {
    child = asks_none phase command (refusable command may);
    checking = tt;
    start = λ t. absurd (cc (t));
    kill = λ t. absurd (cc (t));
    left = λ l. absurd (omega (arith, l));
    short = tt;
    refused = λ t. may;
  }

  pub turn_is : (met : Met) (out : Refused Turned) → met.refused ≡ false → outcome s command (conditions_of met) ≡ out → turned s command (conditions_of met) ≡ or_refused s out
  unfolding turned
  turn_is met out unrefused is =
      ap (λ b. if b then (Reply.Memory, state_with_exit s s.phase met.child) else answer s command (conditions_of met)) unrefused
      ∙ ap (or_refused s) is

  pub memory_turn : turned s command (conditions_of (met_of StoreFault.Memory)) ≡ (Reply.Memory, s)
  unfolding turned
  memory_turn = ap (λ (t : State). (Reply.Memory, t)) (unkept s s.phase)

  pub refused_turn : (reply : Reply) → outcome s command (conditions_of met_nothing) ≡ Err reply → Turns s command met_nothing reply s
  refused_turn reply is = (plain reply, turn_is met_nothing (Err reply) refl is)

  pub limit_turn : (limit : Limit) → outcome s command (conditions_of (met_of (StoreFault.Limit limit))) ≡ Err (Reply.Limit limit) → Turns s command (met_of (StoreFault.Limit limit)) (Reply.Limit limit) s
  limit_turn limit is = (short limit (short_so limit), turn_is (met_of (StoreFault.Limit limit)) (Err (Reply.Limit limit)) refl is)

  pub memory_turns : Turns s command (met_of StoreFault.Memory) Reply.Memory s
  memory_turns = (wanting, memory_turn)

  pub done_turn : (reply : Reply) (after : Repository) → outcome s command (conditions_of met_nothing) ≡ Ok (reply, state_at after phase work) → Turns s command met_nothing reply (state_at after phase work)
  done_turn reply after is = (plain reply, turn_is met_nothing (Ok (reply, state_at after phase work)) refl is)

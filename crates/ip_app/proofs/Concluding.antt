-- A child that was met as ended is refused only by what the machine names: its exit, a place of what it wrote, the end of the sequence, or want of memory.
--     IsOver phase      no child is held.      Ends reaped met turned      the reply is one of these, and no child is held
--     concluded_step      so of each step of the machine.      concluded_line      and of each line.      unheld      so no child is held behind it
use Rattle.std.proofs.Common.{◌≡◌, inl, inr, ℕ, Bool, true, false, refl, sym, ap, subst, Option, None, Some}
use Rattle.std.specs.Prelude.{MatchBool, if◌then◌else◌}
use Rattle.ip_base.specs.declared.exit.Reaped.{Reaped}
use Rattle.ip_spec.specs.declared.command.Command.{Command}
use Rattle.ip_spec.specs.declared.met.Child.{Child}
use Rattle.ip_spec.specs.declared.met.Met.{Met}
use Rattle.ip_spec.specs.declared.reply.Reply.{Reply}
use Rattle.ip_spec.specs.Line.{IsLineOf}
use Rattle.ip_spec.specs.Machine.{State, Phase, Conditions, Verdict, Limit, verdict_on}
use Rattle.ip_spec.specs.Merge.{Rule}
use Rattle.ip_spec.specs.Path.{Bytes}
use Rattle.ip_spec.specs.Script.{LineStep}
use Rattle.ip_spec.specs.Step.{Turned, ◌>>=◌, present, phase_at, or_refused, child_turn, check_turn, verdict_turn, is_short, state_with_exit, collected_at, MayHear, MayAnswer, Step, outcome}
use Rattle.ip_app.specs.Judged.{IsConcluded, IsHeldIn}

abbrev IsOver : Phase → Type 0
IsOver Phase.Idle = Unit {0}
IsOver (Phase.Collecting n None) = ⊥
IsOver (Phase.Collecting n (Some reaped)) = Unit {0}

abbrev pub Ends : Reaped → Conditions → Turned → Type 0
Ends reaped met turned = IsConcluded reaped met turned.0 × IsOver turned.1.phase

module _ (s : State) (n : ℕ) (met : Conditions) (reaped : Reaped) where
  short : (b : Bool) → verdict_on reaped.exit met.difference ≡ Verdict.accepted
      → Ends reaped met (if b then (Reply.Limit Limit.Sequence, record s { phase = Phase.Idle }) else (Reply.Collected n met.told.left, record s { phase = Phase.Idle; repository = collected_at s.repository n }))
  short true is = ((refl, is), tt)
  short false is = (is, tt)

  judged : (v : Verdict) → verdict_on reaped.exit met.difference ≡ v → Ends reaped met (or_refused s (verdict_turn s n met v))
  judged (Verdict.exited e) is = (is, tt)
  judged (Verdict.differs d) is = (is, tt)
  judged Verdict.accepted is = short (is_short Limit.Sequence met.told.short) is

  checked : (o : Option ℕ) → met.told.checking ≡ o → Ends reaped met (or_refused s (check_turn s n met reaped o))
  checked (Some k) is = (is, tt)
  checked None is = judged (verdict_on reaped.exit met.difference) refl

  -- while the collection runs
  asked : (phase : Phase) (exit : Option Reaped) → phase ≡ Phase.Collecting n exit → (child : Child) → child ≡ Child.Ended reaped → Ends reaped met (or_refused s (present (phase_at phase) Reply.Idle >>= (λ k. child_turn s k met child)))
  asked phase exit runs child ended =
      subst (λ (k : Child). Ends reaped met (or_refused s (present (phase_at phase) Reply.Idle >>= (λ c. child_turn s c met k)))) (sym ended)
      (subst (λ (p : Phase). Ends reaped met (or_refused s (present (phase_at p) Reply.Idle >>= (λ c. child_turn s c met (Child.Ended reaped))))) (sym runs) (checked met.told.checking refl))

  -- its exit is kept
  kept : (phase : Phase) (exit : Option Reaped) → phase ≡ Phase.Collecting n exit → (child : Child) → child ≡ Child.Ended reaped → IsOver (state_with_exit s phase child).phase
  kept phase exit runs child ended = subst (λ (k : Child). IsOver (state_with_exit s phase k).phase) (sym ended) (subst (λ (p : Phase). IsOver (state_with_exit s p (Child.Ended reaped)).phase) (sym runs) tt)

module _ (rule : Rule) (s : State) (met : Conditions) (reaped : Reaped) (ended : met.told.child ≡ Child.Ended reaped) (reply : Reply) (next : State) where
  -- its answer, where memory was not refused
  abbrev answered_by : Turned
  answered_by = or_refused s (present (phase_at s.phase) Reply.Idle >>= (λ n. child_turn s n met met.told.child))

  by_memory : (n : ℕ) (exit : Option Reaped) → s.phase ≡ Phase.Collecting n exit → (b : Bool) → met.told.refused ≡ b → MatchBool b ((reply ≡ Reply.Memory) × (next ≡ state_with_exit s s.phase met.told.child)) ((reply, next) ≡ answered_by) → Ends reaped met (reply, next)
  by_memory n exit runs true is refused = (subst (IsConcluded reaped met) (sym refused.0) is, subst (λ (t : State). IsOver t.phase) (sym refused.1) (kept s n met reaped s.phase exit runs met.told.child ended))
  by_memory n exit runs false is given = subst (Ends reaped met) (sym given) (asked s n met reaped s.phase exit runs met.told.child ended)

  -- the child is heard of by a look or a finish alone
  by_command : (phase : Phase) → s.phase ≡ phase → (command : Command) → MayHear phase command (Child.Ended reaped) → MayAnswer rule s command met (reply, next) → Ends reaped met (reply, next)
  unfolding outcome
  by_command (Phase.Collecting n None) runs Command.Look may is = by_memory n None runs met.told.refused refl is
  by_command (Phase.Collecting n None) runs Command.Finish may is = by_memory n None runs met.told.refused refl is
  by_command (Phase.Collecting n None) runs _ may is = absurd (cc may)
  by_command (Phase.Collecting n (Some kept)) runs Command.Look may is = by_memory n (Some kept) runs met.told.refused refl is
  by_command (Phase.Collecting n (Some kept)) runs Command.Finish may is = by_memory n (Some kept) runs met.told.refused refl is
  by_command (Phase.Collecting n (Some kept)) runs _ may is = absurd (cc may)
  by_command Phase.Idle runs command may is = absurd (cc may)

  pub concluded_step : (command : Command) → Step rule s command met reply next → Ends reaped met (reply, next)
  concluded_step command step = by_command s.phase refl command (subst (MayHear s.phase command) ended step.0.child) step.1

  pub concluded_line : (line : Bytes) → LineStep IsLineOf rule s line met reply next → Ends reaped met (reply, next)
  concluded_line line (inl step) = concluded_step step.0 step.2
  concluded_line line (inr bad) =
      let none : met.told.child ≡ Child.NotAsked = ap (λ (m : Met). m.child) bad.unasked in
      absurd (cc (ended, none))

  pub unheld : (line : Bytes) → LineStep IsLineOf rule s line met reply next → ¬ IsHeldIn next
  unheld line step held = subst IsOver held.1 (concluded_line line step).1

-- A script and its run.
--     whole_lines bytes      the lines of a source: what stands before each line feed.
--     LineStep IsLine rule s line met reply s'      the machine takes a line, which may be none of the grammar
--     Plays IsLine rule s turns steps      a run: of each line and what it met, the reply and the state after it
--     state_after, said_by      the state after the first k of them; the texts of the replies
use Rattle.std.specs.Prelude.{◌≡◌, ◌⊎◌, ℕ, zero, suc, ◌==◌, List, [], ◌∷◌, flat_map, IsTrue, if◌then◌else◌}
use Rattle.std.specs.List.{list_any}
use Rattle.ip_spec.specs.Path.{Bytes, line_feed, space}
use Rattle.ip_spec.specs.Merge.{Rule}
use Rattle.ip_spec.specs.Machine.{State, Command, Conditions, Reply}
use Rattle.ip_spec.specs.Step.{Step, quiet}
use Rattle.ip_spec.specs.Line.{Grammar, IsBadAt}
use Rattle.ip_spec.specs.Text.{reply_text}

-- a byte in front of the first line, where there is one: what stands behind the last line feed is no whole line
abbrev pub onto_first : ℕ → List Bytes → List Bytes
onto_first b [] = []
onto_first b (line ∷ lines) = (b ∷ line) ∷ lines

abbrev pub whole_lines : Bytes → List Bytes
whole_lines [] = []
whole_lines (b ∷ bytes) = if b == line_feed then [] ∷ whole_lines bytes else onto_first b (whole_lines bytes)

-- A line that is no command is answered with the place where it goes wrong. It meets nothing but want of memory, and that only if it has
-- more than one word.
pub record BadLine (IsLine : Grammar) (s : State) (line : Bytes) (met : Conditions) (reply : Reply) (s' : State) : Type 0 where
  pub at : ℕ
  pub bad : IsBadAt IsLine line at
  pub unasked : met.told ≡ record quiet.told { refused = met.told.refused }
  pub refused : IsTrue met.told.refused → IsTrue (list_any (λ b. b == space) line)
  pub reply_is : reply ≡ (if met.told.refused then Reply.Memory else Reply.Bad at)
  pub same : s' ≡ s

abbrev pub LineStep : Grammar → Rule → State → Bytes → Conditions → Reply → State → Type 0
LineStep IsLine rule s line met reply s' = ((command : Command) × IsLine command line × Step rule s command met reply s') ⊎ BadLine IsLine s line met reply s'

abbrev pub Turn : Type 0
Turn = Bytes × Conditions

abbrev pub Answered : Type 0
Answered = Reply × State

abbrev pub Plays : Grammar → Rule → State → List Turn → List Answered → Type 0
Plays IsLine rule s [] [] = Unit {0}
Plays IsLine rule s (turn ∷ turns) (step ∷ steps) = LineStep IsLine rule s turn.0 turn.1 step.0 step.1 × Plays IsLine rule step.1 turns steps
Plays IsLine rule s [] (step ∷ steps) = ⊥
Plays IsLine rule s (turn ∷ turns) [] = ⊥

-- after the first k
abbrev pub state_after : State → List Answered → ℕ → State
state_after s steps zero = s
state_after s [] (suc k) = s
state_after s (step ∷ steps) (suc k) = state_after step.1 steps k

abbrev pub said_by : List Answered → Bytes
said_by steps = flat_map (λ (step : Answered). reply_text step.0) steps

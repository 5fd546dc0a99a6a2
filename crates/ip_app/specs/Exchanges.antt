-- The exchanges of a run: of each line begun its turn, its reply and the state after it.
--     Run rule first exchanges      each is a step of the machine, from the state of the one before it
--     lines_in, turns_in, texts_in      their lines, their turns in the log, and the texts of their replies
use Rattle.std.specs.Prelude.{List, [], ◌∷◌, map, Option}
use Rattle.ip_base.specs.declared.exit.Reaped.{Reaped}
use Rattle.ip_spawn.specs.declared.job.Job.{Job}
use Rattle.ip_spec.specs.Path.{Bytes}
use Rattle.ip_spec.specs.Merge.{Rule}
use Rattle.ip_spec.specs.declared.reply.Difference.{Difference}
use Rattle.ip_spec.specs.declared.reply.Reply.{Reply}
use Rattle.ip_spec.specs.Machine.{State, Conditions}
use Rattle.ip_spec.specs.Script as Script
use Rattle.ip_spec.specs.Script.{Answered, Plays, said_by}
use Rattle.ip_spec.specs.Line.{IsLineOf}
use Rattle.ip_app.specs.declared.turn_log.Turn.{Turn}

pub record Exchange : Type 0 where
  pub line : Bytes
  pub turn : Turn
  -- how the two files of a child that has ended differ from the valid ones
  pub difference : Option Difference
  -- the children that were started in it, and how those ended that were reaped
  pub started : List Job
  pub reaped : List Reaped
  pub reply : Reply
  pub after : State

abbrev pub conditions : Exchange → Conditions
conditions x = record { told = x.turn.met; difference = x.difference }

abbrev pub turn_of : Exchange → Script.Turn
turn_of x = (x.line, conditions x)

abbrev pub answer_of : Exchange → Answered
answer_of x = (x.reply, x.after)

abbrev pub Run : Rule → State → List Exchange → Type 0
Run rule first exchanges = Plays IsLineOf rule first (map turn_of exchanges) (map answer_of exchanges)

abbrev pub lines_in : List Exchange → List Bytes
lines_in = map (λ x. x.line)

abbrev pub turns_in : List Exchange → List Turn
turns_in = map (λ x. x.turn)

abbrev pub texts_in : List Exchange → Bytes
texts_in exchanges = said_by (map answer_of exchanges)

-- the state after all of them
abbrev pub after_all : State → List Exchange → State
after_all first [] = first
after_all first (x ∷ exchanges) = after_all x.after exchanges

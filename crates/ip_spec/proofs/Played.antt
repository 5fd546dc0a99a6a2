-- Words for examples that play commands: the texts of their replies, one after another.
--     about date author message      what a commit says of itself.      rules      `count` to the counter, `lines` to sets of lines, and equal sides elsewhere
--     asked child, ended exit difference, short_of limit      what a command meets
--     texts_of s commands      the texts of the replies.      texts_over_bases s commands      the same where several least common ancestors are merged first
--     state_of s commands      the state after them.      texts_joined s commands      the same texts, with a rule at `joined` that puts the left bytes before the right ones
use Rattle.std.proofs.Common.{ℕ, List, [], ◌∷◌, ◌++◌, Option, Some, None}
use Rattle.std.specs.Prelude.{codes, if◌then◌else◌}
use Rattle.std.specs.List.{join_with_byte}
use Rattle.ip_spec.specs.Path.{Bytes, Path, space, is_prefix}
use Rattle.ip_spec.specs.Record.{Info}
use Rattle.ip_spec.specs.Machine.{State, Command, Conditions, Child, Exit, Limit, Difference}
use Rattle.ip_spec.specs.Step.{Turned, quiet}
use Rattle.ip_spec.specs.Merge.{Keep, Conflict, counter_merger, line_set_merger, same_merger}
use Rattle.ip_spec.specs.MergeModel.{Merger, machine, machine_over_bases, machine_runs}
use Rattle.ip_spec.specs.Text.{words_of, text_runs}

abbrev pub about : ℕ → Bytes → Bytes → Info
about date author message = record { date = date; author = author; message = message }

abbrev pub rules : Path → Merger
rules p = if is_prefix (codes "count" ∷ []) p then counter_merger else if is_prefix (codes "lines" ∷ []) p then line_set_merger else same_merger

abbrev pub joined_merger : Merger
joined_merger o (Some a) (Some b) = Keep (Some (a ++ b))
joined_merger o None b = Conflict
joined_merger o (Some a) None = Conflict

abbrev pub joined_rules : Path → Merger
joined_rules p = if is_prefix (codes "joined" ∷ []) p then joined_merger else same_merger

abbrev pub asked : Child → Conditions
asked child = record { told = record quiet.told { child = child }; difference = None }

abbrev pub ended : Exit → Option Difference → Conditions
ended exit difference = record { told = record quiet.told { child = Child.Ended (record { attempt = 1; exit = exit }) }; difference = difference }

abbrev pub short_of : Limit → Conditions
short_of limit = record { told = record quiet.told { short = Some limit }; difference = None }

abbrev texts_by : (State → Command → Conditions → Turned) → State → List (Command × Conditions) → List Bytes
texts_by step s [] = []
texts_by step s (c ∷ commands) = let t = step s c.0 c.1 in join_with_byte space (words_of t.0) ∷ texts_by step t.1 commands

abbrev pub texts_of : State → List (Command × Conditions) → List Bytes
texts_of s commands = texts_by (machine rules) s commands

abbrev pub texts_over_bases : State → List (Command × Conditions) → List Bytes
texts_over_bases s commands = texts_by (machine_over_bases rules) s commands

abbrev pub texts_joined : State → List (Command × Conditions) → List Bytes
texts_joined s commands = texts_by (machine joined_rules) s commands

abbrev pub state_of : State → List (Command × Conditions) → State
state_of s [] = s
state_of s (c ∷ commands) = state_of (machine rules s c.0 c.1).1 commands

unfoldable pub played_runs : Unit {0}
unfolding machine_runs text_runs
played_runs = tt

use Rattle.std.proofs.Common.{◌≡◌, List, None, cond, drop}
use Rattle.std.specs.Prelude.{◌||◌, option_map}
use Rattle.std.specs.FinMap.Entries.{find}
use Rattle.ip_shape.specs.Directory.{entries_in}
use Rattle.ip_shape.specs.Shape.{has}
use Rattle.ip_spec.specs.Path.{Step, bytes_cmp}
use Rattle.ip_differ.specs.Pieces.{read_entry}
use Rattle.ip_differ.specs.Sides.{Puts}
use Rattle.ip_differ.proofs.put.put_steps.Given as goal

abbrev pub invariant-loop-step : goal.invariant-loop-step
invariant-loop-step l =
    (front : List Step) × ((s : Step) → (has s front || has s (drop l.step-index l.fn.steps)) ≡ has s l.fn.steps)
    × Puts l.fn.side (λ s. cond (has s front) (option_map read_entry (find bytes_cmp s (entries_in l.fn.dir))) None) l.fn.found.entries l.found.entries

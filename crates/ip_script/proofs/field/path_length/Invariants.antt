use Rattle.std.proofs.Common.{◌≡◌, ◌+◌, drop}
use Rattle.ip_script.specs.Fields.{path_on, path_length}
use Rattle.ip_script.proofs.field.path_length.Given as goal

abbrev pub invariant-loop-at : goal.invariant-loop-at
invariant-loop-at l = path_length l.text ≡ l.at + path_on l.path (drop l.at l.text)

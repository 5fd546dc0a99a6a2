use Rattle.std.proofs.Common.{◌≡◌, ◌+◌, drop}
use Rattle.ip_script.specs.Dates.{digits_on, value_on}
use Rattle.ip_script.proofs.date.digits_at.Given as goal

abbrev pub invariant-loop-i : goal.invariant-loop-i
invariant-loop-i l = record {
  length : digits_on 0 l.text ≡ l.i + digits_on l.value (drop l.i l.text);
  value : value_on 0 l.text ≡ value_on l.value (drop l.i l.text);
}

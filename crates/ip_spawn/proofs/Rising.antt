-- A counter that took one more has risen.
use Rattle.std.proofs.Common.{ℕ, ◌+◌, ◌-◌, ◌^◌, ◌≤◌, inl, inr, arith}
use Rattle.std.specs.Prelude.{true, min}
use Rattle.std.proofs.lemmas.Bool.{cases_lt}
use Rattle.ip_ground.specs.Counts.{Rose}
use Rattle.ip_spawn.specs.Counts.{counted}

pub rose_counted : (count : ℕ) → Rose count (counted true count)
rose_counted count = elim (cases_lt count (2 ^ 64 - 1)) [
  | inl below ↦ inl (omega arith)
  | inr last ↦ inr (omega arith)
]

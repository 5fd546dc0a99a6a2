use Rattle.std.proofs.Common.{◌≤◌, length}
use Rattle.ip_host.proofs.files.read_from.Given as goal

abbrev pub invariant-loop : goal.invariant-loop
invariant-loop l = l.n ≤ length l.out

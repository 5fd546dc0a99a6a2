use Rattle.std.proofs.Common.{◌≡◌, ◌++◌, drop}
use Rattle.ip_save.specs.Earlier.{slices_of}
use Rattle.ip_save.specs.Laid.{contents_bytes}
use Rattle.ip_save.proofs.places.put_each.Given as goal

abbrev pub invariant-loop-bytes : goal.invariant-loop-bytes
invariant-loop-bytes l = l.out.items ++ contents_bytes (slices_of (drop l.bytes-index l.put)) ≡ l.fn.out.items ++ contents_bytes (slices_of l.put)

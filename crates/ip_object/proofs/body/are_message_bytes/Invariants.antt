use Rattle.std.proofs.Common.{◌≡◌, true, take}
use Rattle.ip_spec.specs.Reading.{is_message}
use Rattle.ip_object.proofs.body.are_message_bytes.Given as goal

abbrev pub invariant-loop-b : goal.invariant-loop-b
invariant-loop-b l = is_message (take l.b-index l.bytes) ≡ true

use Rattle.std.proofs.Common.{◌≡◌, true, take}
use Rattle.ip_spec.specs.Reading.{is_author}
use Rattle.ip_object.proofs.body.are_word_bytes.Given as goal

abbrev pub invariant-loop-b : goal.invariant-loop-b
invariant-loop-b l = is_author (take l.b-index l.bytes) ≡ true

use Rattle.std.specs.Prelude.{◌≢◌}
use Rattle.std.specs.List.{AllWithin}
use Rattle.ip_spec.specs.Path.{IsWordByte, slash}
use Rattle.ip_save.proofs.leaf.is_step.Given as goal

abbrev pub invariant-loop-byte : goal.invariant-loop-byte
invariant-loop-byte l = AllWithin (λ b. IsWordByte b × (b ≢ slash)) l.bytes 0 l.byte-index

-- What a closure's merger means.
--     closure_means answers      what the closure may answer where it is called with the three values
use Rattle.std.specs.Prelude.{◌≡◌}
use Rattle.std.specs.Borrow.{Bor}
use Rattle.ip_spec.specs.declared.merge.Merged.{Merged}
use Rattle.ip_spec.specs.Merge.{Meaning}
use Rattle.ip_merge.specs.declared.call.Three.{Three}

abbrev pub closure_means : (Bor Three → Merged → Type 0) → Meaning
closure_means answers o a b merged = (three : Bor Three) × (three.now ≡ record { base = o; left = a; right = b }) × answers three merged

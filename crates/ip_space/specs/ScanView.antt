-- What a walk over records shows.
use Rattle.std.specs.Prelude.{ℕ}
use Rattle.ip_spec.specs.Path.{Bytes}

-- where it is, how far it goes, and the bytes from there on that were read ahead
pub record ScanView : Type 0 where
  pub next : ℕ
  pub to : ℕ
  pub ahead : Bytes

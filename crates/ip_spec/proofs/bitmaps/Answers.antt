use Rattle.ip_spec.proofs.ReadingExact.{bits_are}
use Rattle.ip_spec.proofs.bitmaps.Goals as goal

pub returns : goal.returns
returns c = bits_are

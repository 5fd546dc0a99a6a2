use Rattle.std.proofs.Common.{arith}
use Rattle.ip_image.specs.Slot.{live_index}
use Rattle.ip_control.specs.Live.{live_of, sequence_of}
use Rattle.test_parts.proofs.slots.published_anew.Goals as goal

pub returns : goal.returns
unfolding live_of live_index sequence_of
returns c blank second = c.published.ensures blank (omega arith) (λ is. omega (arith, is)) (omega (arith, second))

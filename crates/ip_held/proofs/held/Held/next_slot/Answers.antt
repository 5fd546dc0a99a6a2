use Rattle.std.proofs.Common.{arith, refl}
use Rattle.ip_held.proofs.held.Held.next_slot.Goals as goal

pub overflow_sub-self : goal.overflow_sub-self
overflow_sub-self c = c.requires.slot.ends

pub returns-then-self-ge-OFFSET_MAX : goal.returns-then-self-ge-OFFSET_MAX
returns-then-self-ge-OFFSET_MAX c = let ends = c.requires.slot.ends in (omega (arith, c.if-length-self.false), omega (arith, c.if-self-ge-OFFSET_MAX.true))

pub overflow_add-result-3 : goal.overflow_add-result-3
overflow_add-result-3 c = let ends = c.requires.slot.ends in let next = c.requires.slot.next in let few = c.requires.few in omega arith

pub returns : goal.returns
returns c = let ends = c.requires.slot.ends in (refl, omega (arith, c.if-length-self.false), omega (arith, c.if-self-ge-OFFSET_MAX.false))

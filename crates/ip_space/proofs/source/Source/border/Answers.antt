use Rattle.std.proofs.Common.{arith}
use Rattle.ip_chunks.proofs.Borders.{some_size}
use Rattle.ip_space.proofs.Borders.{border_low, border_high}
use Rattle.ip_space.proofs.source.Source.border.Goals as goal

pub returns-then-at-horizon : goal.returns-then-at-horizon
returns-then-at-horizon c near = border_low c.args.self.now.layout c.args.at c.if-at-horizon.true

pub returns : goal.returns
returns c near =
    let some = some_size c.args.self.now.layout.chunk c.requires.layout.chunk in
    let high = c.if-at-horizon.false in
    let sum = c.saturating_add-above.ensures in
    border_high c.args.self.now.layout c.args.at c.saturating_add-above.result (omega (arith, high)) some (omega (arith, sum, near, some))

use Rattle.std.proofs.Common.{◌≡◌, ◌+◌, ◌-◌, ap, arith, length, length-drop}
use Rattle.ip_history.specs.History.{History}
use Rattle.ip_history.proofs.Parents.{first_drop}
use Rattle.ip_history.proofs.table.Table.raise.Goals as goal

pub invariant_of-self : goal.invariant_of-self
invariant_of-self c =
    let inside : History = record { floor = c.self.inside.floor; parents = c.self.inside.parents.items } in
    let count = c.floor.inside.0 - c.self.inside.floor in
    let old : c.self.inside.floor ≡ c.args.self.now.floor = ap (λ (g : History). g.floor) c.self.view_is in
    let lists : c.self.inside.parents.items ≡ c.args.self.now.parents = ap (λ (g : History). g.parents) c.self.view_is in
    let new : c.floor.inside.0 ≡ c.args.floor = c.floor.view_is in
    let low = c.requires.0 in
    let high = c.requires.1 in
    let raised : c.floor.inside.0 ≡ inside.floor + count = omega (arith, low, old, new) in
    let first = first_drop inside c.self.invariant.0 count c.floor.inside.0 raised in
    let many = length-drop count c.self.inside.parents.items in
    let room = c.self.invariant.1 in
    let same = ap length lists in
    rw c.drop_front.ensures (first, omega (arith, many, room, raised, low, high, old, new, same))

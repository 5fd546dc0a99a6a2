use Rattle.std.proofs.Common.{◌≡◌, ap, sym, subst, arith, length, length-append, ◌+◌, ◌<◌, ◌∷◌, []}
use Rattle.std.specs.Prelude.{All}
use Rattle.ip_history.specs.History.{History}
use Rattle.ip_history.proofs.Parents.{first_push}
use Rattle.ip_history.proofs.table.Table.push.Goals as goal

pub invariant_of-self : goal.invariant_of-self
invariant_of-self c = rw c.in_err-push.ensures.items c.self.invariant

pub invariant_of-self-2 : goal.invariant_of-self-2
invariant_of-self-2 c =
    let inside : History = record { floor = c.self.inside.floor; parents = c.self.inside.parents.items } in
    let floor : c.self.inside.floor ≡ c.args.self.now.floor = ap (λ (g : History). g.floor) c.self.view_is in
    let lists : c.self.inside.parents.items ≡ c.args.self.now.parents = ap (λ (g : History). g.parents) c.self.view_is in
    let below : All (λ p. p < inside.floor + length inside.parents) c.in_ok-parents.parents = subst (All (λ p. p < inside.floor + length inside.parents)) (sym c.in_ok-parents.ensures) (subst (λ (g : History). All (λ p. p < g.floor + length g.parents) c.args.parents.now) (sym c.self.view_is) c.requires.below) in
    let first = first_push inside c.self.invariant.0 c.in_ok-parents.parents below in
    let e = length-append c.self.inside.parents.items (c.in_ok-parents.parents ∷ []) in
    let room = c.requires.room in
    let count = ap length lists in
    rw c.in_ok-push.ensures.items (first, omega (arith, e, room, count, floor))

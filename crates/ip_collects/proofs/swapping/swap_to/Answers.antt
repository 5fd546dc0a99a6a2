use Rattle.std.proofs.Common.{◌∙◌, ◌-◌, None, refl, ap, drop}
use Rattle.ip_held.specs.declared.held.Held.{Held}
use Rattle.ip_collects.specs.Swapping.{SwapsTables}
use Rattle.ip_collects.proofs.Swapped.{raises, same_floor, swapped_again, ready_for, newer_swap, turns_err}
use Rattle.ip_collects.proofs.swapping.swap_to.Goals as goal

pub returns-in_err-turn_gate-clause-does : goal.returns-in_err-turn_gate-clause-does
returns-in_err-turn_gate-clause-does g c told r held =
    let t = c.requires.tables in
    let a = g.G.Ground.told c.args.outside.now in
    turns_err (1 - c.args.store.now.index) c.args.swap.slot _ _ a _ c.from_residual.ensures.0 (c.turn_gate.ensures.does told (ready_for c.args.store.now r a held) (newer_swap c.args.store.now r a held t.1 t.2 c.args.swap t.6))

pub raise-requires : goal.raise-requires
raise-requires g c = (let t = c.requires.tables in raises c.args.store.now t.0 t.1 t.2 c.args.swap t.3 t.4 t.5 t.6)

pub returns-clause-tables : goal.returns-clause-tables
returns-clause-tables g c r d of there =
    let t = c.requires.tables in
    let store = c.args.store.now in
    let now : Held = record { index = 1 - store.index; slot = c.args.swap.slot; names = c.args.swap.names; places = c.drop_front.new.self; branches = store.branches; history = c.raise.new.self; space = c.args.swap.space; collection = None; unswept = store.unswept } in
    let swaps : SwapsTables c.args.swap store now = record {
      index = refl;
      slot = refl;
      names = refl;
      places = c.drop_front.ensures;
      branches = refl;
      history = c.raise.ensures ∙ ap (λ n. record { floor = c.args.swap.slot.floor; parents = drop (c.args.swap.slot.floor - n) store.history.parents }) (same_floor store t.0 t.1 t.2 c.args.swap t.3 t.4 t.5 t.6);
      space = refl;
      collection = refl;
      unswept = refl;
    } in
    swapped_again store now r t.1 d t.2 c.args.swap of there t.4 t.5 t.6 swaps

pub returns-clause-does : goal.returns-clause-does
returns-clause-does g c told r held =
    let t = c.requires.tables in
    let a = g.G.Ground.told c.args.outside.now in
    c.in_ok-turn_gate.ensures.does told (ready_for c.args.store.now r a held) (newer_swap c.args.store.now r a held t.1 t.2 c.args.swap t.6)

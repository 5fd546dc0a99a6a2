use Rattle.std.proofs.Common.{sym, ap, subst}
use Rattle.std.specs.Prelude.{Err}
use Rattle.ip_collects.specs.Judging.{IsThrough}
use Rattle.ip_ground.specs.Told.{Told}
use Rattle.ip_collects.specs.Swapping.{Accepts, AcceptsAs}
use Rattle.ip_held.specs.declared.held.Held.{Held}
use Rattle.ip_collects.proofs.Accepting.{runs_through, check_through, refused_so, refused_tables, refused_counts, refused_room, refused_rootless, refused_sequence, turned_safe, accepts_tables, slot_of_swap, undamaged, accepts_none, pair_syncs, sync_cut, going_on, swap_cut, accepts}
use Rattle.ip_collects.proofs.swapping.accept.Goals as goal

pub returns-in-Err-clause-tables : goal.returns-in-Err-clause-tables
returns-in-Err-clause-tables g c r x of runs =
    subst (λ (now : Held). Accepts (Err c.in-Err.fault) r x c.args.store.now now) (sym c.turn_down.ensures) (refused_tables c.args.store.now r x c.in-Err.fault (c.in-Err.ensures.refused x runs))

pub returns-in-Err-clause-faults : goal.returns-in-Err-clause-faults
returns-in-Err-clause-faults g c = (let t = runs_through c.args.store.now.collection c.requires.through in refused_so c.args.store.now t.0 c.in-Err.fault (c.in-Err.ensures.refused t.0 t.1))

pub returns-in-Err-clause-does : goal.returns-in-Err-clause-does
returns-in-Err-clause-does g c told r held x runs verdict =
    let safe = undamaged c.args.store.now r _ held x runs c.in-Err.fault (c.in-Err.ensures.refused x runs) in
    subst (λ (b : Told). AcceptsAs held.stands.standing.records r x (Err c.in-Err.fault) c.turn_down.new.store (g.G.Ground.told c.args.outside.now) b) (sym (ap g.G.Ground.told (c.note_fault.ensures.undamaged safe)))
    (accepts_none c.args.store.now r _ held x runs c.in-Err.fault _)

pub returns-in-Err-clause-undamaged : goal.returns-in-Err-clause-undamaged
returns-in-Err-clause-undamaged g c told r held = (let t = runs_through c.args.store.now.collection c.requires.through in undamaged c.args.store.now r _ held t.0 t.1 c.in-Err.fault (c.in-Err.ensures.refused t.0 t.1))

pub returns-in-Err-clause-counts : goal.returns-in-Err-clause-counts
returns-in-Err-clause-counts g c =
    let t = runs_through c.args.store.now.collection c.requires.through in
    refused_counts c.args.store.now t.0 c.in-Err.fault _ _ (c.in-Err.ensures.refused t.0 t.1) (λ safe. ap g.G.Ground.counts_of (c.note_fault.ensures.undamaged safe)) c.note_fault.ensures.damaged

pub returns-in-Err-clause-unchanged : goal.returns-in-Err-clause-unchanged
returns-in-Err-clause-unchanged g c is = c.note_fault.ensures.undamaged (turned_safe c.in-Err.fault is)

pub returns-in-Err-clause-untouched : goal.returns-in-Err-clause-untouched
returns-in-Err-clause-untouched g c told not = c.note_fault.ensures.only told

pub returns-in-Err-clause-rootless : goal.returns-in-Err-clause-rootless
returns-in-Err-clause-rootless g c at is =
    let t = runs_through c.args.store.now.collection c.requires.through in
    refused_rootless c.args.store.now c.turn_down.new.store t.0 c.in-Err.fault t.1 c.requires.through c.turn_down.ensures (c.in-Err.ensures.refused t.0 t.1) at (cc (is))

pub returns-in-Err-clause-sequence : goal.returns-in-Err-clause-sequence
returns-in-Err-clause-sequence g c is = (let t = runs_through c.args.store.now.collection c.requires.through in refused_sequence c.args.store.now t.0 c.in-Err.fault (c.in-Err.ensures.refused t.0 t.1) is)

pub returns-in-Err-clause-room : goal.returns-in-Err-clause-room
returns-in-Err-clause-room g c is = (let t = runs_through c.args.store.now.collection c.requires.through in refused_room c.args.store.now t.0 c.in-Err.fault (c.in-Err.ensures.refused t.0 t.1) is)

pub returns-in_err-sync_pair-clause-room : goal.returns-in_err-sync_pair-clause-room
returns-in_err-sync_pair-clause-room g c is =
    let t = runs_through c.args.store.now.collection c.requires.through in
    let k = check_through t.0 (subst IsThrough t.1 c.requires.through) in
    (c.in-Ok.ensures.planned c.requires.tables.0 t.0 k.0 c.requires.tables.1 t.1 k.1).sequence

pub returns-in_err-swap_to-clause-room : goal.returns-in_err-swap_to-clause-room
returns-in_err-swap_to-clause-room g c is =
    let t = runs_through c.args.store.now.collection c.requires.through in
    let k = check_through t.0 (subst IsThrough t.1 c.requires.through) in
    (c.in-Ok.ensures.planned c.requires.tables.0 t.0 k.0 c.requires.tables.1 t.1 k.1).sequence

pub returns-in_err-sync_pair-clause-does : goal.returns-in_err-sync_pair-clause-does
returns-in_err-sync_pair-clause-does g c told r held x runs verdict =
    let t = check_through x (subst IsThrough runs c.requires.through) in
    let a = g.G.Ground.told c.args.outside.now in
    let b = g.G.Ground.told c.sync_pair.new.outside in
    let plan = c.in-Ok.ensures.planned r x t.0 held.tables runs t.1 in
    sync_cut c.args.store.now r a held x runs t.0 t.1 _ b (pair_syncs c.args.store.now r a held x runs t.0 t.1 c.in-Ok.swap plan _ b (c.sync_pair.ensures.does told)) _ _ _ c.from_residual.ensures.1

pub swap_to-requires : goal.swap_to-requires
swap_to-requires g c =
    let t = runs_through c.args.store.now.collection c.requires.through in
    let k = check_through t.0 (subst IsThrough t.1 c.requires.through) in
    record { tables = (c.requires.tables.0, t.0, k.0, c.requires.tables.1, t.1, k.1, c.in-Ok.ensures.planned c.requires.tables.0 t.0 k.0 c.requires.tables.1 t.1 k.1) }

pub returns-in_err-swap_to-clause-does : goal.returns-in_err-swap_to-clause-does
returns-in_err-swap_to-clause-does g c told r held x runs verdict =
    let t = check_through x (subst IsThrough runs c.requires.through) in
    let a = g.G.Ground.told c.args.outside.now in
    let b = g.G.Ground.told c.sync_pair.new.outside in
    let plan = c.in-Ok.ensures.planned r x t.0 held.tables runs t.1 in
    let sync = pair_syncs c.args.store.now r a held x runs t.0 t.1 c.in-Ok.swap plan _ b (c.in_ok-sync_pair.ensures.does told) in
    swap_cut c.args.store.now r a held x runs t.0 t.1 t.2 verdict c.in-Ok.swap plan (slot_of_swap c.args.store.now r x t.0 c.in-Ok.swap held.tables runs t.1 plan) b sync
    _ _ (c.in_err-swap_to.ensures.does told r (going_on c.args.store.now r a held x runs t.0 t.1 b sync)) _ _ _ c.from_residual-in_err-swap_to.ensures.1

pub returns-clause-tables : goal.returns-clause-tables
returns-clause-tables g c r x of runs =
    let t = check_through x (subst IsThrough runs c.requires.through) in
    accepts_tables c.args.store.now c.swap_to.new.store r x t.0 c.in-Ok.swap (c.in-Ok.ensures.planned r x t.0 of runs t.1) c.in_ok-swap_to.ensures.swaps (c.in_ok-swap_to.ensures.tables r x of runs)

pub returns-clause-does : goal.returns-clause-does
returns-clause-does g c told r held x runs verdict =
    let t = check_through x (subst IsThrough runs c.requires.through) in
    let a = g.G.Ground.told c.args.outside.now in
    let b = g.G.Ground.told c.sync_pair.new.outside in
    let plan = c.in-Ok.ensures.planned r x t.0 held.tables runs t.1 in
    let sync = pair_syncs c.args.store.now r a held x runs t.0 t.1 c.in-Ok.swap plan _ b (c.in_ok-sync_pair.ensures.does told) in
    accepts c.args.store.now r a held x runs t.0 t.1 t.2 verdict c.in-Ok.swap plan (slot_of_swap c.args.store.now r x t.0 c.in-Ok.swap held.tables runs t.1 plan) b sync
    _ (c.in_ok-swap_to.ensures.does told r (going_on c.args.store.now r a held x runs t.0 t.1 b sync)) (g.met.G.Ground.possible _ told) c.swap_to.new.store c.in_ok-swap_to.ensures.swaps (c.in_ok-swap_to.ensures.tables r x held.tables runs)

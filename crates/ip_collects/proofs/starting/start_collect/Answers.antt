use Rattle.std.proofs.Common.{◌≡◌, rules, true, Err, refl, sym, subst}
use Rattle.ip_collects.specs.Starting.{BeginsCollecting}
use Rattle.ip_collects.proofs.CollectStarts.{refused_begins, fault_begins, started_begins}
use Rattle.ip_collects.proofs.starting.start_collect.Goals as goal

pub returns-in_err-begun-clause-begins : goal.returns-in_err-begun-clause-begins
returns-in_err-begun-clause-begins g c =
    let e : c.from_residual.result ≡ Err c.in_err-begun.field-0.0 = search rules in
    subst (λ out. BeginsCollecting g.G.Ground.tells c.args.number out c.args.store.now c.args.store.now (g.G.Ground.told c.args.outside.now) (g.G.Ground.told c.args.outside.now)) (sym e)
    (refused_begins g.G.Ground.tells c.args.store.now c.args.number c.requires.tables.0 c.requires.tables.1 c.requires.tables.2 (g.G.Ground.told c.args.outside.now) c.in_err-begun.field-0.0 c.in_err-begun.ensures.refused)

pub begin-requires-clause-tables : goal.begin-requires-clause-tables
begin-requires-clause-tables g c = (c.requires.tables.0, c.args.number, c.requires.tables.1, c.in_ok-begun.ensures.planned c.requires.tables.0 c.requires.tables.1 c.requires.tables.2)

pub returns-in_err-begin-clause-begins : goal.returns-in_err-begin-clause-begins
returns-in_err-begin-clause-begins g c =
    let e : c.from_residual-in_err-begin.result ≡ Err c.in_err-begin.field-0.0 = search rules in
    subst (λ out. BeginsCollecting g.G.Ground.tells c.args.number out c.args.store.now c.begin.new.store (g.G.Ground.told c.args.outside.now) (g.G.Ground.told c.begin.new.outside)) (sym e)
    (fault_begins g.G.Ground.tells c.args.store.now c.args.number c.requires.tables.0 c.requires.tables.1 c.requires.tables.2 (g.G.Ground.told c.args.outside.now) c.in_ok-begun.begun c.in_ok-begun.ensures.planned (λ r of. c.in_ok-begun.ensures.free r of (refl {a = true}))
    (g.G.Ground.told c.begin.new.outside) c.begin.ensures.fronts c.begin.ensures.beside c.in_err-begin.field-0.0 c.begin.new.store c.begin.ensures.same_collection c.begin.ensures.unswept c.in_err-begin.ensures.behind c.in_err-begin.ensures.any_moment c.in_err-begin.ensures.list (c.in_err-begin.ensures.fault (refl {a = true})))

pub returns-clause-begins : goal.returns-clause-begins
returns-clause-begins g c =
    started_begins g.G.Ground.tells c.args.store.now c.args.number c.requires.tables.0 c.requires.tables.1 c.requires.tables.2 (g.G.Ground.told c.args.outside.now) c.in_ok-begun.begun c.in_ok-begun.ensures.planned (λ r of. c.in_ok-begun.ensures.free r of (refl {a = true}))
    (g.G.Ground.told c.begin.new.outside) c.begin.ensures.fronts c.begin.ensures.beside (λ told. c.in_ok-begin.ensures.list told tt) c.begin.new.store (c.in_ok-begin.ensures.behind tt) c.retained_name-name.result c.retained_name-name.ensures c.in_ok-begin.ensures.any_moment

use Rattle.std.proofs.Common.{ℕ, sym, subst, reverse}
use Rattle.std.specs.Prelude.{Err}
use Rattle.ip_spec.specs.declared.record.Record.{Record}
use Rattle.ip_keep.specs.Going.{Goes}
use Rattle.ip_keep.specs.KeepView.{KeepView}
use Rattle.ip_keep.specs.Keeping.{IsKeep}
use Rattle.ip_keep.proofs.Goings.{blames_as, blamed_as, breaks_as}
use Rattle.ip_keep.proofs.Looks.{down_read, down_waits, down_last, down_kept, down_blameless, down_blames, down_breaks}
use Rattle.ip_keep.proofs.keep.Keep.look_down.Goals as goal

pub record_below-requires : goal.record_below-requires
record_below-requires g c = (subst IsKeep (sym c.self.view_is) c.requires.keep).ends

pub returns-in-Err-clause-goes : goal.returns-in-Err-clause-goes
returns-in-Err-clause-goes g c =
    let r = c.requires in
    down_read g.G.Ground.tells _ c.greatest-at.result _ c.args.self.now c.self.view_is (record { keep = r.keep; up = r.up; there = c.greatest-at.ensures.waits; most = c.greatest-at.ensures.greatest }) _ c.record_below.ensures.same
    _ c.record_below.ensures.only

pub returns-in-Err-clause-undamaged : goal.returns-in-Err-clause-undamaged
returns-in-Err-clause-undamaged g c =
    let r = c.requires in
    blames_as {A = Record × ℕ} g.G.Ground.tells _ c.args.self.now c.in-Err.fault
    (down_blameless g.G.Ground.tells _ c.greatest-at.result _ c.args.self.now c.self.view_is (record { keep = r.keep; up = r.up; there = c.greatest-at.ensures.waits; most = c.greatest-at.ensures.greatest }) _ c.record_below.ensures.same
    {A = Record × ℕ} (Err c.in-Err.fault) c.lowest-below.result c.lowest-below.ensures c.in-Err.ensures.damaged)

pub returns-in_err-enter-clause-goes : goal.returns-in_err-enter-clause-goes
returns-in_err-enter-clause-goes g c =
    let r = c.requires in
    down_waits g.G.Ground.tells _ c.greatest-at.result _ c.args.self.now c.self.view_is (record { keep = r.keep; up = r.up; there = c.greatest-at.ensures.waits; most = c.greatest-at.ensures.greatest }) _ c.record_below.ensures.same
    _ c.record_below.ensures.only c.in-Ok.found.0 _ c.in-Ok.ensures.found c.enter.ensures.some

pub keep-requires : goal.keep-requires
keep-requires g c =
    down_last g.G.Ground.tells _ c.greatest-at.result _ c.args.self.now c.self.view_is (record { keep = c.requires.keep; up = c.requires.up; there = c.greatest-at.ensures.waits; most = c.greatest-at.ensures.greatest }) _ c.record_below.ensures.same
    _ c.record_below.ensures.only c.in-Ok.found.0 _ c.in-Ok.ensures.found c.enter.ensures.some

pub returns-in_err-keep-clause-goes : goal.returns-in_err-keep-clause-goes
returns-in_err-keep-clause-goes g c =
    subst (λ (n : KeepView). Goes g.G.Ground.tells (g.G.Ground.told c.args.outside.now) (g.G.Ground.told c.record_below.new.outside) c.args.self.now n) (sym c.in_err-keep.ensures.err)
    (down_waits g.G.Ground.tells _ c.greatest-at.result _ c.args.self.now c.self.view_is (record { keep = c.requires.keep; up = c.requires.up; there = c.greatest-at.ensures.waits; most = c.greatest-at.ensures.greatest }) _ c.record_below.ensures.same
    _ c.record_below.ensures.only c.in-Ok.found.0 _ c.in-Ok.ensures.found c.enter.ensures.some)

pub returns-clause-goes : goal.returns-clause-goes
returns-clause-goes g c =
    subst (λ (n : KeepView). Goes g.G.Ground.tells (g.G.Ground.told c.args.outside.now) (g.G.Ground.told c.record_below.new.outside) c.args.self.now n) (sym c.in_ok-keep.ensures.kept.1)
    (down_kept g.G.Ground.tells _ c.greatest-at.result _ c.args.self.now c.self.view_is (record { keep = c.requires.keep; up = c.requires.up; there = c.greatest-at.ensures.waits; most = c.greatest-at.ensures.greatest }) _ c.record_below.ensures.same
    _ c.record_below.ensures.only c.in-Ok.found.0 _ c.in-Ok.ensures.found c.keep.new.self.waiting c.in-Ok.found.1 c.lowest-below.result c.in_ok-enter.ensures.all c.in-Ok.ensures.below c.in_ok-keep.ensures.kept.0 c.in-Ok.ensures.length c.in-Ok.ensures.inside c.lowest-below.ensures c.in-Ok.ensures.stands)

pub returns-in-Err-clause-blames : goal.returns-in-Err-clause-blames
returns-in-Err-clause-blames g c =
    let r = c.requires in
    let k : KeepView = record { space = c.record_below.new.space; horizon = c.self.inside.horizon; next = c.self.inside.next; seen = c.self.inside.seen; waiting = c.self.inside.waiting.keys; kept = reverse c.self.inside.kept.items } in
    blamed_as {A = Record × ℕ} k c.in-Err.fault
    (down_blames g.G.Ground.tells (g.G.Ground.told c.args.outside.now) c.greatest-at.result _ c.args.self.now c.self.view_is (record { keep = r.keep; up = r.up; there = c.greatest-at.ensures.waits; most = c.greatest-at.ensures.greatest }) c.record_below.new.space
    c.record_below.ensures.same {A = Record × ℕ} (Err c.in-Err.fault) c.in-Err.ensures.blames)

pub returns-in-Err-clause-broken : goal.returns-in-Err-clause-broken
returns-in-Err-clause-broken g c =
    let r = c.requires in
    let k : KeepView = record { space = c.record_below.new.space; horizon = c.self.inside.horizon; next = c.self.inside.next; seen = c.self.inside.seen; waiting = c.self.inside.waiting.keys; kept = reverse c.self.inside.kept.items } in
    breaks_as {A = Record × ℕ} g.G.Ground.tells _ c.args.self.now k c.in-Err.fault
    (down_breaks g.G.Ground.tells _ c.greatest-at.result _ c.args.self.now c.self.view_is (record { keep = r.keep; up = r.up; there = c.greatest-at.ensures.waits; most = c.greatest-at.ensures.greatest }) c.record_below.new.space c.record_below.ensures.same
    {A = Record × ℕ} (Err c.in-Err.fault) c.in-Err.ensures.blames c.lowest-below.result c.lowest-below.ensures c.in-Err.ensures.damaged)

use Rattle.std.proofs.Common.{◌∙◌, refl}
use Rattle.std.specs.Prelude.{Err}
use Rattle.ip_spec.specs.declared.record.Record.{Record}
use Rattle.ip_keep.proofs.Goings.{goes_read, blames_as, blamed_as, breaks_as}
use Rattle.ip_keep.proofs.Looks.{up_waits, up_behind, up_blameless, up_blames, up_breaks}
use Rattle.ip_keep.proofs.keep.Keep.look_up.Goals as goal

pub returns-in-Err-clause-goes : goal.returns-in-Err-clause-goes
returns-in-Err-clause-goes g c = goes_read g.G.Ground.tells _ _ c.args.self.now c.requires.keep c.next_record.ensures.only

pub returns-in-Err-clause-undamaged : goal.returns-in-Err-clause-undamaged
returns-in-Err-clause-undamaged g c =
    let r = c.requires in
    blames_as {A = Record} g.G.Ground.tells _ c.args.self.now c.in-Err.fault
    (up_blameless g.G.Ground.tells _ c.args.scan.now _ c.args.self.now c.self.view_is (record { keep = r.keep; more = r.more; along = r.along; current = r.current }) {A = Record} (Err c.in-Err.fault) c.in-Err.ensures.damaged)

pub returns-in_err-enter-clause-goes : goal.returns-in_err-enter-clause-goes
returns-in_err-enter-clause-goes g c =
    let r = c.requires in
    up_waits g.G.Ground.tells _ c.args.scan.now _ c.args.self.now c.self.view_is (record { keep = r.keep; more = r.more; along = r.along; current = r.current })
    _ c.next_record.ensures.only c.in-Ok.rec _ c.in-Ok.ensures.found c.enter.ensures.some

pub returns-clause-goes : goal.returns-clause-goes
returns-clause-goes g c =
    let r = c.requires in
    up_behind g.G.Ground.tells _ c.args.scan.now _ c.args.self.now c.self.view_is (record { keep = r.keep; more = r.more; along = r.along; current = r.current })
    _ c.next_record.ensures.only c.in-Ok.rec _ c.in-Ok.ensures.found c.next-self-inside.result _ c.in_ok-enter.ensures.all c.in-Ok.ensures.below c.in-Ok.ensures.inside (c.next-self-inside.ensures ∙ c.in-Ok.ensures.moves.0) refl

pub returns-in-Err-clause-blames : goal.returns-in-Err-clause-blames
returns-in-Err-clause-blames g c =
    let r = c.requires in
    blamed_as {A = Record} c.args.self.now c.in-Err.fault
    (up_blames g.G.Ground.tells _ c.args.scan.now _ c.args.self.now c.self.view_is (record { keep = r.keep; more = r.more; along = r.along; current = r.current }) {A = Record} (Err c.in-Err.fault) c.in-Err.ensures.blames)

pub returns-in-Err-clause-broken : goal.returns-in-Err-clause-broken
returns-in-Err-clause-broken g c =
    let r = c.requires in
    breaks_as {A = Record} g.G.Ground.tells _ c.args.self.now c.args.self.now c.in-Err.fault
    (up_breaks g.G.Ground.tells _ c.args.scan.now _ c.args.self.now c.self.view_is (record { keep = r.keep; more = r.more; along = r.along; current = r.current }) {A = Record} (Err c.in-Err.fault) c.in-Err.ensures.blames c.args.self.now c.in-Err.ensures.damaged)

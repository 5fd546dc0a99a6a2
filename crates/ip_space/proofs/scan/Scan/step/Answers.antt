use Rattle.std.proofs.Common.{◌≡◌, ◌+◌, ◌≤◌, subst, arith, length}
use Rattle.std.specs.Prelude.{Some, Ok, Err}
use Rattle.ip_spec.specs.Record.{spelling}
use Rattle.ip_space.specs.SpaceView.{SpaceView, records_of, read_at, byte_at}
use Rattle.ip_space.specs.ScanView.{ScanView}
use Rattle.ip_space.specs.contracts.space.Space.{the_view}
use Rattle.ip_space.specs.Ahead.{held_in, Shows}
use Rattle.ip_space.specs.Scanning.{Finds, FindsWhole}
use Rattle.ip_space.proofs.Stayed.{only_looks}
use Rattle.ip_space.proofs.Answered.{record_there, whole_there, found_err, found_ok, some_bytes, passed_shows, shows_same, begun, readable_of}
use Rattle.ip_space.proofs.scan.Scan.step.Goals as goal

pub returns-in-Ok-clause-reads : goal.returns-in-Ok-clause-reads
returns-in-Ok-clause-reads g c told = only_looks _ _ (c.in-Ok.ensures.only told) c.args.space.now

pub returns-in-Err-clause-reads : goal.returns-in-Err-clause-reads
returns-in-Err-clause-reads g c told = only_looks _ _ (c.in-Err.ensures.only told) c.args.space.now

pub returns-in-Ok-clause-found : goal.returns-in-Ok-clause-found
returns-in-Ok-clause-found g c told readable current =
    let now = g.G.Ground.told c.args.outside.now in
    let space : SpaceView = the_view c.space.inside in
    let at = c.self.inside.next in
    let shows = begun now space c.args.space.now c.space.view_is c.self.inside.next c.self.inside.to (held_in c.self.inside.ahead) c.args.self.now c.self.view_is current
    (held_in c.keep_up_to.new.self) c.saturating_sub.result c.saturating_sub.ensures c.keep_up_to.ensures.held in
    subst (λ (v : ScanView). records_of now c.args.space.now v.next ≡ Some c.in-Ok.rec) c.self.view_is
    (subst (λ (s : SpaceView). records_of now s at ≡ Some c.in-Ok.rec) c.space.view_is
    (found_ok (records_of now space) at (read_at now space at) (record_there now space at) c.in-Ok.rec c.in-Ok.length (c.in-Ok.ensures.reads told (readable_of c.space.view_is readable) shows)))

pub returns-in-Err-clause-found : goal.returns-in-Err-clause-found
returns-in-Err-clause-found g c told readable current =
    let now = g.G.Ground.told c.args.outside.now in
    let space : SpaceView = the_view c.space.inside in
    let at = c.self.inside.next in
    let shows = begun now space c.args.space.now c.space.view_is c.self.inside.next c.self.inside.to (held_in c.self.inside.ahead) c.args.self.now c.self.view_is current
    (held_in c.keep_up_to.new.self) c.saturating_sub.result c.saturating_sub.ensures c.keep_up_to.ensures.held in
    subst (λ (v : ScanView). Finds (records_of now c.args.space.now) v.next (Err c.in-Err.fault)) c.self.view_is
    (subst (λ (s : SpaceView). Finds (records_of now s) at (Err c.in-Err.fault)) c.space.view_is
    (found_err (records_of now space) at (read_at now space at) (record_there now space at) c.in-Err.fault (c.in-Err.ensures.reads told (readable_of c.space.view_is readable) shows)))

pub returns-in-Ok-clause-current : goal.returns-in-Ok-clause-current
returns-in-Ok-clause-current g c told readable current =
    let now = g.G.Ground.told c.args.outside.now in
    let after = g.G.Ground.told c.read_one.new.outside in
    let space : SpaceView = the_view c.space.inside in
    let at = c.self.inside.next in
    let shows = begun now space c.args.space.now c.space.view_is c.self.inside.next c.self.inside.to (held_in c.self.inside.ahead) c.args.self.now c.self.view_is current
    (held_in c.keep_up_to.new.self) c.saturating_sub.result c.saturating_sub.ensures c.keep_up_to.ensures.held in
    subst (λ (s : SpaceView). Shows (byte_at after s) s.layout.end (at + c.in-Ok.length) (held_in c.pass.new.self)) c.space.view_is
    (shows_same (byte_at after space) space.layout.end (at + c.in-Ok.length) _ (held_in c.pass.new.self) c.pass.ensures.held
    (passed_shows (byte_at after space) space.layout.end at c.in-Ok.length (held_in c.read_one.new.self) (c.in-Ok.ensures.shows told (readable_of c.space.view_is readable) shows)))

pub returns-in-Ok-clause-whole : goal.returns-in-Ok-clause-whole
returns-in-Ok-clause-whole g c told readable current =
    let now = g.G.Ground.told c.args.outside.now in
    let after = g.G.Ground.told c.read_one.new.outside in
    let space : SpaceView = the_view c.space.inside in
    let at = c.self.inside.next in
    let shows = begun now space c.args.space.now c.space.view_is c.self.inside.next c.self.inside.to (held_in c.self.inside.ahead) c.args.self.now c.self.view_is current
    (held_in c.keep_up_to.new.self) c.saturating_sub.result c.saturating_sub.ensures c.keep_up_to.ensures.held in
    subst (λ (v : ScanView). FindsWhole (byte_at after c.args.space.now) c.args.space.now.layout.end v.next (Ok (Some (at, c.in-Ok.rec)))) c.self.view_is
    (subst (λ (s : SpaceView). FindsWhole (byte_at after s) s.layout.end at (Ok (Some (at, c.in-Ok.rec)))) c.space.view_is
    (whole_there (byte_at after space) space.layout.end at c.in-Ok.rec (held_in c.read_one.new.self) (c.in-Ok.ensures.shows told (readable_of c.space.view_is readable) shows) c.in-Ok.ensures.spelled))

pub returns-in-Ok-clause-inside : goal.returns-in-Ok-clause-inside
returns-in-Ok-clause-inside g c =
    let room = c.in-Ok.ensures.room in
    let spelled = c.in-Ok.ensures.found.1 in
    let most = c.in-Ok.ensures.found.2 in
    let some = some_bytes c.in-Ok.rec in
    subst (λ (s : SpaceView). c.self.inside.next + length (spelling c.in-Ok.rec) ≤ s.layout.end) c.space.view_is (omega (arith, room, spelled, most, some))

use Rattle.std.proofs.Common.{◌+◌, ◌≤◌, Ok, Err, subst, arith}
use Rattle.ip_space.specs.SpaceView.{SpaceView, records_of, read_at, byte_at}
use Rattle.ip_space.specs.Viewed.{view_of}
use Rattle.ip_space.specs.Ahead.{held_in}
use Rattle.ip_space.specs.Fetching.{FindsRecord}
use Rattle.ip_space.specs.Scanning.{IsWhole}
use Rattle.ip_space.proofs.Stayed.{only_reads}
use Rattle.ip_space.proofs.Answered.{record_there, record_err, found_ok, some_bytes, whole_there, shows_nothing, readable_of}
use Rattle.ip_space.proofs.space.Space.record_at.Goals as goal

pub returns-in-Err-clause-reads : goal.returns-in-Err-clause-reads
returns-in-Err-clause-reads g c told = only_reads _ _ (c.read_one.ensures.only told) c.args.self.now _ c.self.view_is

pub returns-clause-reads : goal.returns-clause-reads
returns-clause-reads g c told = only_reads _ _ (c.read_one.ensures.only told) c.args.self.now _ c.self.view_is

pub returns-in-Err-clause-found : goal.returns-in-Err-clause-found
returns-in-Err-clause-found g c told readable =
    let now = g.G.Ground.told c.args.outside.now in
    let space : SpaceView = view_of c.self.inside.source in
    let at = c.args.at in
    let shows = shows_nothing (byte_at now space) space.layout.end at (held_in c.clear.new.self) c.clear.ensures.held in
    subst (λ (s : SpaceView). FindsRecord (records_of now s) at (Err c.in-Err.fault)) c.self.view_is
    (record_err (records_of now space) at (read_at now space at) (record_there now space at) c.in-Err.fault (c.in-Err.ensures.reads told (readable_of c.self.view_is readable) shows))

pub returns-clause-found : goal.returns-clause-found
returns-clause-found g c told readable =
    let now = g.G.Ground.told c.args.outside.now in
    let space : SpaceView = view_of c.self.inside.source in
    let at = c.args.at in
    let shows = shows_nothing (byte_at now space) space.layout.end at (held_in c.clear.new.self) c.clear.ensures.held in
    subst (λ (s : SpaceView). FindsRecord (records_of now s) at (Ok c.in-Ok.found)) c.self.view_is
    (found_ok (records_of now space) at (read_at now space at) (record_there now space at) c.in-Ok.found.0 c.in-Ok.found.1 (c.in-Ok.ensures.reads told (readable_of c.self.view_is readable) shows))

pub returns-clause-whole : goal.returns-clause-whole
returns-clause-whole g c told readable =
    let now = g.G.Ground.told c.args.outside.now in
    let after = g.G.Ground.told c.read_one.new.outside in
    let space : SpaceView = view_of c.self.inside.source in
    let at = c.args.at in
    let shows = shows_nothing (byte_at now space) space.layout.end at (held_in c.clear.new.self) c.clear.ensures.held in
    subst (λ (s : SpaceView). IsWhole (byte_at after s) s.layout.end at c.in-Ok.found.0) c.self.view_is
    (whole_there (byte_at after space) space.layout.end at c.in-Ok.found.0 (held_in c.read_one.new.self) (c.in-Ok.ensures.shows told (readable_of c.self.view_is readable) shows) c.in-Ok.ensures.spelled)

pub returns-clause-inside : goal.returns-clause-inside
returns-clause-inside g c =
    let room = c.in-Ok.ensures.room in
    let spelled = c.in-Ok.ensures.found.1 in
    let most = c.in-Ok.ensures.found.2 in
    let some = some_bytes c.in-Ok.found.0 in
    subst (λ (s : SpaceView). c.args.at + c.in-Ok.found.1 ≤ s.layout.end) c.self.view_is (omega (arith, room, spelled, most, some))

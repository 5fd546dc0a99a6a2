use Rattle.ip_ground.specs.Told.{NoFile}
use Rattle.ip_ground.proofs.Spans.{only_on}
use Rattle.ip_space.specs.Viewed.{view_of}
use Rattle.ip_space.specs.Ahead.{held_in}
use Rattle.ip_space.proofs.Stayed.{readable_stays}
use Rattle.ip_space.proofs.Filled.{filled}
use Rattle.ip_space.proofs.ahead.Ahead.fill.Goals as goal

pub returns-clause-fills : goal.returns-clause-fills
returns-clause-fills g c told readable =
    let head = c.in_ok-fill_head.ensures.goes told readable in
    filled c.args.at (view_of c.args.source.now) (held_in c.args.self.now) (held_in c.fill_head.new.self) (held_in c.fill_body.new.self) _ _ _
    readable c.fill_body.result head (c.fill_body.ensures.goes told (readable_stays _ _ head.only (view_of c.args.source.now) readable))

pub returns-clause-only : goal.returns-clause-only
returns-clause-only g c told = only_on _ _ _ NoFile (c.in_ok-fill_head.ensures.only told) (c.fill_body.ensures.only told)

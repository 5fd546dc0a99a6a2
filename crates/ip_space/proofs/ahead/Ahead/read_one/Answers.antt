use Rattle.std.proofs.Common.{sym, ◌∙◌, ap, subst}
use Rattle.ip_spec.specs.Reading.{reading}
use Rattle.ip_image.specs.Slot.{newest_version}
use Rattle.ip_ground.proofs.Passing.{changes_nothing_on}
use Rattle.ip_space.specs.SpaceView.{byte_at}
use Rattle.ip_space.specs.Viewed.{view_of}
use Rattle.ip_space.specs.Ahead.{held_in}
use Rattle.ip_space.specs.Fetching.{ReadsOne}
use Rattle.ip_space.proofs.ReadFronts.{read_as}
use Rattle.ip_space.proofs.Filled.{shows_later}
use Rattle.ip_space.proofs.ahead.Ahead.read_one.Goals as goal

pub returns-in_err-fill-clause-shows : goal.returns-in_err-fill-clause-shows
returns-in_err-fill-clause-shows g c told readable shows =
    let fills = c.fill.ensures.fills told readable in
    shows_later _ _ (view_of c.args.source.now) c.args.at (held_in c.fill.new.self) readable fills.only (fills.shows shows)

pub returns-clause-shows : goal.returns-clause-shows
returns-clause-shows g c told readable shows =
    let fills = c.fill.ensures.fills told readable in
    shows_later _ _ (view_of c.args.source.now) c.args.at (held_in c.fill.new.self) readable (changes_nothing_on _ _ _ fills.only (c.noted_front.ensures.only told)) (fills.shows shows)

pub returns-clause-only : goal.returns-clause-only
returns-clause-only g c told = changes_nothing_on _ _ _ (c.in_ok-fill.ensures.only told) (c.noted_front.ensures.only told)

pub returns-clause-reads : goal.returns-clause-reads
returns-clause-reads g c told readable shows =
    let fills = c.in_ok-fill.ensures.fills told readable in
    subst (λ r. ReadsOne r c.noted_front.result)
    (ap (reading newest_version) c.held.ensures
    ∙ sym (read_as (byte_at (g.G.Ground.told c.args.outside.now) (view_of c.args.source.now)) c.args.source.now.layout.end c.args.at (held_in c.fill.new.self) (fills.shows shows) (fills.enough shows)))
    c.noted_front.ensures.reads

use Rattle.std.proofs.Common.{◌+◌, sym, ap, ◌∙◌}
use Rattle.ip_space.specs.SpaceView.{records_of}
use Rattle.std.specs.Prelude.{Err}
use Rattle.ip_ground.specs.Told.{NoFile}
use Rattle.ip_ground.proofs.Spans.{only_on}
use Rattle.ip_space.proofs.Stayed.{byte_stays, readable_stays}
use Rattle.ip_keep.proofs.Reading.{read_damaged, counted_as, unread_blames}
use Rattle.ip_keep.proofs.read.record_below.Goals as goal

pub returns-in-Err-clause-damaged : goal.returns-in-Err-clause-damaged
returns-in-Err-clause-damaged g c told readable place is rec there below =
    absurd (read_damaged (records_of (g.G.Ground.told c.args.outside.now) c.args.space.now) c.args.at c.args.at c.in-Err.fault (c.in-Err.ensures.found told readable) place (sym (ap Err c.unread.ensures) ∙ is) rec there)

pub returns-in-Err-clause-counts : goal.returns-in-Err-clause-counts
returns-in-Err-clause-counts g c = counted_as c.args.at c.in-Err.fault c.unread.result _ _ c.unread.ensures c.in-Err.ensures.counts

pub returns-in-Err-clause-blames : goal.returns-in-Err-clause-blames
returns-in-Err-clause-blames g c place is = unread_blames c.args.at c.in-Err.fault place (sym (ap Err c.unread.ensures) ∙ is)

pub returns-in-Ok-refuse_broken-clause-only : goal.returns-in-Ok-refuse_broken-clause-only
returns-in-Ok-refuse_broken-clause-only g c told = only_on _ _ _ NoFile (c.record_at.ensures.reads told).only (c.refuse_broken.ensures.only told)

pub returns-in-Err-refuse_broken-clause-only : goal.returns-in-Err-refuse_broken-clause-only
returns-in-Err-refuse_broken-clause-only g c told = only_on _ _ _ NoFile (c.record_at.ensures.reads told).only (c.refuse_broken.ensures.only told)

pub returns-in-Ok-refuse_broken-clause-stands : goal.returns-in-Ok-refuse_broken-clause-stands
returns-in-Ok-refuse_broken-clause-stands g c told readable =
    let only = (c.record_at.ensures.reads told).only in
    let whole = c.in-Ok.ensures.whole told readable in
    λ k below. byte_stays _ _ (c.refuse_broken.ensures.only told) c.args.space.now (readable_stays _ _ only c.args.space.now readable) (c.args.at + k) ∙ whole.0 k below

use Rattle.std.proofs.Common.{sym, ap, ◌∙◌}
use Rattle.ip_space.specs.SpaceView.{records_of}
use Rattle.std.specs.Prelude.{Err}
use Rattle.ip_ground.specs.Told.{NoFile}
use Rattle.ip_ground.proofs.Spans.{only_on}
use Rattle.ip_space.proofs.Stayed.{readable_stays}
use Rattle.ip_keep.proofs.Reading.{scan_damaged, counted_as, current_later, unread_blames}
use Rattle.ip_keep.proofs.read.next_record.Goals as goal

pub returns-in-Err-clause-damaged : goal.returns-in-Err-clause-damaged
returns-in-Err-clause-damaged g c told readable current place is rec there =
    absurd (scan_damaged (records_of (g.G.Ground.told c.args.outside.now) c.args.space.now) c.args.scan.now.next c.next-at.result c.in-Err.fault (c.in-Err.ensures.found told readable current) place (sym (ap Err c.unread.ensures) ∙ is) rec there)

pub returns-in-Err-clause-counts : goal.returns-in-Err-clause-counts
returns-in-Err-clause-counts g c = counted_as c.next-at.result c.in-Err.fault c.unread.result _ _ c.unread.ensures c.in-Err.ensures.counts

pub returns-in-Err-clause-blames : goal.returns-in-Err-clause-blames
returns-in-Err-clause-blames g c at is = unread_blames c.next-at.result c.in-Err.fault at (sym (ap Err c.unread.ensures) ∙ is) ∙ c.next-at.ensures

pub returns-in-Ok-clause-only : goal.returns-in-Ok-clause-only
returns-in-Ok-clause-only g c told = only_on _ _ _ NoFile (c.step.ensures.reads told).only (c.refuse_broken.ensures.only told)

pub returns-in-Err-refuse_broken-clause-only : goal.returns-in-Err-refuse_broken-clause-only
returns-in-Err-refuse_broken-clause-only g c told = only_on _ _ _ NoFile (c.step.ensures.reads told).only (c.refuse_broken.ensures.only told)

pub returns-in-Ok-clause-current : goal.returns-in-Ok-clause-current
returns-in-Ok-clause-current g c told readable current =
    let only = (c.step.ensures.reads told).only in
    current_later _ _ c.args.space.now c.step.new.self (c.refuse_broken.ensures.only told) (readable_stays _ _ only c.args.space.now readable) (c.step.ensures.current told readable current)

pub returns-in-Err-refuse_broken-clause-current : goal.returns-in-Err-refuse_broken-clause-current
returns-in-Err-refuse_broken-clause-current g c told readable current =
    let only = (c.step.ensures.reads told).only in
    current_later _ _ c.args.space.now c.step.new.self (c.refuse_broken.ensures.only told) (readable_stays _ _ only c.args.space.now readable) (c.step.ensures.current told readable current)

use Rattle.std.proofs.Common.{◌∙◌}
use Rattle.ip_session.specs.Session.{state_in}
use Rattle.ip_app.proofs.SummaryLemmas.{cut_along, replied_along, line_written}
use Rattle.ip_app.proofs.load.LoadRoom.turn.Goals as goal

pub returns-in-Err-clause-cut : goal.returns-in-Err-clause-cut
returns-in-Err-clause-cut g c source_tells left read_faults known r v works =
    cut_along _ c.in-Err.status known _ _ c.deref.result.now _ _ _ (state_in c.args.session.now r v) (c.in-Err.ensures.cut source_tells left read_faults known r v works)
    (line_written c.load_line.result c.unwrap.result _ _ _ _ c.unwrap.ensures c.load_line.ensures.line c.clear.ensures.items c.deref.ensures.value)

pub returns-clause-replied : goal.returns-clause-replied
returns-clause-replied g c source_tells left read_faults known r v works =
    replied_along _ known _ _ c.deref.result.now _ _ _ _ _ _ r v (c.in_default.ensures.replied source_tells left read_faults known r v works)
    (line_written c.load_line.result c.unwrap.result _ _ _ _ c.unwrap.ensures c.load_line.ensures.line c.clear.ensures.items c.deref.ensures.value)

pub returns-clause-tallies : goal.returns-clause-tallies
returns-clause-tallies g c replies reply is few tallies = c.note.ensures replies reply (c.deref-2.ensures.value ∙ is) few tallies

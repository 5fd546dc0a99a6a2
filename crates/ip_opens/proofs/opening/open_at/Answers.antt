use Rattle.std.proofs.Common.{◌∙◌, subst}
use Rattle.ip_ground.specs.Counts.{Counts}
use Rattle.ip_ground.specs.Told.{NoFile}
use Rattle.ip_ground.proofs.Spans.{only_on}
use Rattle.ip_opens.specs.OpenFaults.{counted_open}
use Rattle.ip_opens.proofs.Noting.{covers_later}
use Rattle.ip_opens.proofs.OpenedStores.{opens_none, opens_no_space, tables_at_end, opens_bad_as, opens_by}
use Rattle.ip_opens.proofs.ClearOpens.{opened_idle, opened_unswept}
use Rattle.ip_opens.proofs.opening.open_at.Goals as goal

pub returns-in_err-index-clause-does : goal.returns-in_err-index-clause-does
returns-in_err-index-clause-does g c told = opens_none _ _ _ _ c.from_residual.ensures (c.in_err-index.ensures.does told)

pub returns-in_err-space-clause-does : goal.returns-in_err-space-clause-does
returns-in_err-space-clause-does g c told =
    let order = c.in_ok-index.ensures.order in
    let found = c.in_err-space.ensures in
    opens_no_space c.in_ok-index.index c.in_ok-index.slot order.0 order.1 _ _ (c.in_ok-index.ensures.does told) _ (found.only told) _ _ c.from_residual-in_err-space.ensures found.there (found.finds told)

pub returns-in_err-found-clause-does : goal.returns-in_err-found-clause-does
returns-in_err-found-clause-does g c told =
    let order = c.in_ok-index.ensures.order in
    let found = c.in_ok-space.ensures in
    let read = c.in_err-found.ensures in
    opens_bad_as c.in_ok-index.index c.in_ok-index.slot order.0 order.1 _ _ (c.in_ok-index.ensures.does told) _ _ (found.only told) (read.only told) c.in_ok-space.space found.view (found.finds told) (found.readable told) _ _
    c.from_residual-in_err-found.ensures read.there (read.damaged told)

pub returns-clause-tables : goal.returns-clause-tables
returns-clause-tables g c =
    let order = c.in_ok-index.ensures.order in
    tables_at_end c.in_ok-index.index c.in_ok-index.slot order.1 order.0 _ _ c.in_ok-space.space c.in_ok-space.ensures.view c.in_ok-found.found c.finish.result c.in_ok-found.ensures.covers c.finish.ensures.finishes

-- also where slot and records don't go together, which is noted
pub returns-clause-does : goal.returns-clause-does
returns-clause-does g c told =
    let order = c.in_ok-index.ensures.order in
    let found = c.in_ok-space.ensures in
    let read = c.in_ok-found.ensures in
    opens_by c.in_ok-index.index c.in_ok-index.slot order.0 order.1 _ _ (c.in_ok-index.ensures.does told) _ _ (found.only told) (only_on _ _ _ NoFile (read.only told) (c.finish.ensures.only told)) c.in_ok-space.space found.view (found.finds told) (found.readable told) c.in_ok-found.found
    c.finish.result _ told (covers_later c.in_ok-index.slot c.in_ok-space.space _ _ g.G.Ground.tells c.in_ok-found.found c.finish.ensures.only read.covers) c.finish.ensures.finishes c.finish.ensures.space

pub returns-clause-idle : goal.returns-clause-idle
returns-clause-idle g c = opened_idle c.in_ok-index.index c.in_ok-index.slot c.in_ok-found.found c.finish.result c.finish.ensures.finishes

pub returns-clause-unswept : goal.returns-clause-unswept
returns-clause-unswept g c = opened_unswept c.in_ok-index.index c.in_ok-index.slot c.in_ok-found.found c.finish.result c.finish.ensures.finishes

pub returns-clause-counts : goal.returns-clause-counts
returns-clause-counts g c =
    subst (λ n. Counts counted_open c.finish.result n (g.G.Ground.counts_of c.finish.new.outside)) (c.in_ok-found.ensures.counts ∙ c.in_ok-space.ensures.counts ∙ c.in_ok-index.ensures.counts) c.finish.ensures.counts

use Rattle.std.proofs.Common.{ap, ◌∙◌, sym}
use Rattle.ip_shape.specs.Loaded.{way_to, unread_in}
use Rattle.ip_shape.proofs.Entering.{first_missing, none_missing}
use Rattle.ip_shape.proofs.reading.missing.Goals as goal

pub returns-in-None : goal.returns-in-None
returns-in-None g c s is = ap (unread_in (way_to s)) (sym c.root.ensures) ∙ none_missing s c.root.result.now (c.in-None.ensures.found s is)

pub returns-in_ok-indexes-in-Some : goal.returns-in_ok-indexes-in-Some
returns-in_ok-indexes-in-Some g c s is =
    let indexes = c.in_ok-indexes-in-Some.indexes.items in
    let first = first_missing s c.root.result.now indexes c.in-Some.depth c.in-Some.record.now (c.in-Some.ensures.found s is) (c.in_ok-indexes-in-Some.ensures s is) in
    (ap (unread_in indexes) (sym c.root.ensures) ∙ first.0, first.1)

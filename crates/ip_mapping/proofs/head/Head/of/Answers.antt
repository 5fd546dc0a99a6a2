use Rattle.ip_mapping.proofs.head.Head.of.Goals as goal

pub returns : goal.returns
returns c = (c.in_ok-head.field-0-1.now, c.in_ok-head.ensures)

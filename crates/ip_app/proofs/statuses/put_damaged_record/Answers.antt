use Rattle.ip_app.proofs.StatusLines.{three}
use Rattle.ip_app.proofs.statuses.put_damaged_record.Goals as goal

pub returns : goal.returns
returns c = three _ _ _ _ _ _ c.in_ok-extend_from_slice.ensures.items c.in_ok-put_number.ensures.ok c.in_ok-push.ensures.items

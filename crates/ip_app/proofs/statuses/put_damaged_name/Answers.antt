use Rattle.ip_app.proofs.StatusLines.{five}
use Rattle.ip_app.proofs.statuses.put_damaged_name.Goals as goal

pub returns : goal.returns
returns c = five _ _ _ _ _ _ _ _ _ c.in_ok-extend_from_slice.ensures.items c.in_ok-put_number.ensures.ok c.in_ok-push.ensures.items c.in_ok-put_names.ensures c.in_ok-push-2.ensures.items

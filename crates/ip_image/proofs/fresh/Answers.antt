use Rattle.ip_image.proofs.FreshLaws.{fresh_stands}
use Rattle.ip_image.proofs.fresh.Goals as goal

pub returns : goal.returns
returns c = fresh_stands

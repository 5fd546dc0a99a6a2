use Rattle.ip_keep.proofs.Standings.{standing_whole}
use Rattle.ip_keep.proofs.standing_images.Goals as goal

pub returns : goal.returns
returns c = standing_whole

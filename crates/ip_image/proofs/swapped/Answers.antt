use Rattle.ip_image.proofs.SwapLaws.{stands_collected}
use Rattle.ip_image.proofs.swapped.Goals as goal

pub returns : goal.returns
returns c = stands_collected

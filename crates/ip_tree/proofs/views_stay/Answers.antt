use Rattle.ip_tree.proofs.MoreRecords.{view_stays}
use Rattle.ip_tree.proofs.views_stay.Goals as goal

pub returns : goal.returns
returns c = view_stays

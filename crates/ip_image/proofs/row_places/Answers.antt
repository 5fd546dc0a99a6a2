use Rattle.ip_image.proofs.PairLaws.{rows_placed}
use Rattle.ip_image.proofs.row_places.Goals as goal

pub returns : goal.returns
returns c horizon rows fit = rows_placed horizon 0 0 rows fit

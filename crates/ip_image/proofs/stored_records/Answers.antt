use Rattle.ip_image.proofs.StoredLaws.{standing_stored}
use Rattle.ip_image.proofs.stored_records.Goals as goal

pub returns : goal.returns
returns c = standing_stored

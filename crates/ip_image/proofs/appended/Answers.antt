use Rattle.ip_image.proofs.AppendingLaws.{stands_still, stands_grown}
use Rattle.ip_image.proofs.RecordsOn.{records_go_on}
use Rattle.ip_image.proofs.Renaming.{stands_renamed}
use Rattle.ip_image.proofs.appended.Goals as goal

pub returns-clause-still : goal.returns-clause-still
returns-clause-still c = stands_still

pub returns-clause-grown : goal.returns-clause-grown
returns-clause-grown c = stands_grown

pub returns-clause-renamed : goal.returns-clause-renamed
returns-clause-renamed c = stands_renamed

pub returns-clause-records : goal.returns-clause-records
returns-clause-records c = records_go_on

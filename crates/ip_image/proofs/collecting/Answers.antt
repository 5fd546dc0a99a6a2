use Rattle.ip_image.proofs.CoreTies.{collection_starts, collection_goes_on, collection_ends}
use Rattle.ip_image.proofs.collecting.Goals as goal

pub returns-clause-starts : goal.returns-clause-starts
returns-clause-starts c = collection_starts

pub returns-clause-goes_on : goal.returns-clause-goes_on
returns-clause-goes_on c = collection_goes_on

pub returns-clause-ends : goal.returns-clause-ends
returns-clause-ends c = collection_ends

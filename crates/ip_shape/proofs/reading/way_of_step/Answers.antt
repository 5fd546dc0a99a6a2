use Rattle.ip_shape.proofs.LeafRead.{on_way}
use Rattle.ip_shape.proofs.Onward.{long_way_to, none_leads}
use Rattle.ip_shape.proofs.reading.way_of_step.Goals as goal

pub returns-clause-long : goal.returns-clause-long
returns-clause-long g c s = long_way_to s

pub returns-clause-leads : goal.returns-clause-leads
returns-clause-leads g c s indexes le = on_way indexes s le

pub returns-clause-read : goal.returns-clause-read
returns-clause-read g c s steps root indexes by stands none found = none_leads s steps indexes by root stands none found

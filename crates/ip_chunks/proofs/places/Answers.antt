use Rattle.ip_chunks.proofs.Bytes.{virtual_bytes, some_bytes, no_gap_from, one_bytes, same_places, places_same}
use Rattle.ip_chunks.proofs.places.Goals as goal

pub returns-clause-virtual_bytes : goal.returns-clause-virtual_bytes
returns-clause-virtual_bytes c = virtual_bytes

pub returns-clause-some : goal.returns-clause-some
returns-clause-some c = some_bytes

pub returns-clause-no_gap : goal.returns-clause-no_gap
returns-clause-no_gap c = no_gap_from

pub returns-clause-one : goal.returns-clause-one
returns-clause-one c = one_bytes

pub returns-clause-same : goal.returns-clause-same
returns-clause-same c size at n image other no_gap = (same_places size at n image other no_gap, places_same size at n image other no_gap)

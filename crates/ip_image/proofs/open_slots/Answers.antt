use Rattle.ip_image.proofs.FreshLaws.{first_slots, open_slot, open_slots}
use Rattle.ip_image.proofs.open_slots.Goals as goal

pub returns-clause-first : goal.returns-clause-first
returns-clause-first c = first_slots

pub returns-clause-whole : goal.returns-clause-whole
returns-clause-whole c = open_slot

pub returns-clause-live : goal.returns-clause-live
returns-clause-live c = open_slots

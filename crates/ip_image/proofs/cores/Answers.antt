use Rattle.ip_image.proofs.CoreTies.{image_ordered, image_rises, records_closed, offsets_reached, kept_rises, kept_among, accepted, collected_present, collected_tree}
use Rattle.ip_image.proofs.cores.Goals as goal

pub returns-clause-closed : goal.returns-clause-closed
returns-clause-closed c image A = records_closed A.slot A.records (image_rises image A) A.good A.slot.horizon A.slot.end (image_ordered image A)

pub returns-clause-reached : goal.returns-clause-reached
returns-clause-reached c image A = offsets_reached A.slot A.records (image_rises image A) A.good

pub returns-clause-left : goal.returns-clause-left
returns-clause-left c image A h e0 kept is_kept =
    accepted A.records (image_rises image A) h kept (kept_rises A.slot A.records (image_rises image A) A.good h e0 kept is_kept) (kept_among A.slot A.records (image_rises image A) A.good h e0 kept is_kept)

pub returns-clause-present : goal.returns-clause-present
returns-clause-present c = collected_present

pub returns-clause-trees : goal.returns-clause-trees
returns-clause-trees c = collected_tree

use Rattle.ip_image.specs.Slot.{newest_version}
use Rattle.ip_space.proofs.space.name_if_of_kind.Given as goal

abbrev pub ghost-name_of_record : goal.ghost-name_of_record
ghost-name_of_record a = newest_version

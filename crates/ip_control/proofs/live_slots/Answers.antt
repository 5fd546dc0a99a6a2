use Rattle.std.proofs.Common.{◌∙◌, ap}
use Rattle.ip_control.proofs.Parts.{index_of, live_index_is}
use Rattle.ip_control.proofs.LiveLaws.{is_live, live_from, none_from, spare_from, reaches_from, newer_from}
use Rattle.ip_control.proofs.Slots.{closed_not_open}
use Rattle.ip_control.proofs.live_slots.Goals as goal

pub returns-clause-live : goal.returns-clause-live
returns-clause-live c = is_live

pub returns-clause-back : goal.returns-clause-back
returns-clause-back c = live_from

pub returns-clause-none : goal.returns-clause-none
returns-clause-none c = λ content. (none_from content, λ is. live_index_is content ∙ ap index_of is)

pub returns-clause-spare : goal.returns-clause-spare
returns-clause-spare c = spare_from

pub returns-clause-reaches : goal.returns-clause-reaches
returns-clause-reaches c = reaches_from

pub returns-clause-newer : goal.returns-clause-newer
returns-clause-newer c = newer_from

pub returns-clause-closed : goal.returns-clause-closed
returns-clause-closed c = λ content slot closed. closed_not_open slot content closed

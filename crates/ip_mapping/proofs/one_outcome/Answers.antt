use Rattle.ip_mapping.proofs.Outcomes.{same_form, its_head, same_place, never_both}
use Rattle.ip_mapping.proofs.one_outcome.Goals as goal

pub returns-clause-form : goal.returns-clause-form
returns-clause-form c = same_form

pub returns-clause-head : goal.returns-clause-head
returns-clause-head c = its_head

pub returns-clause-place : goal.returns-clause-place
returns-clause-place c = same_place

pub returns-clause-apart : goal.returns-clause-apart
returns-clause-apart c = never_both

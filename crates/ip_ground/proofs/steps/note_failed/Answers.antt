use Rattle.ip_ground.proofs.Grown.{failed_either}
use Rattle.ip_ground.proofs.Tearing.{tears_noted}
use Rattle.ip_ground.proofs.steps.note_failed.Goals as goal

pub returns-clause-does : goal.returns-clause-does
returns-clause-does c fault = failed_either c.note.result _ _ c.args.file c.args.at c.args.bytes.now fault c.note.ensures.ok c.note.ensures.err

pub returns-clause-ok : goal.returns-clause-ok
returns-clause-ok c = tears_noted c.note.result _ _ c.args.file c.args.at _ c.note.ensures.ok

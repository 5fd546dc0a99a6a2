use Rattle.std.proofs.Common.{◌∙◌}
use Rattle.ip_shape.proofs.Entries.{put_is}
use Rattle.ip_shape.proofs.dir.put_entry.Goals as goal

pub returns-clause-entered : goal.returns-clause-entered
returns-clause-entered g c = c.in_ok-insert.ensures.entries ∙ put_is c.args.step c.args.child c.args.map.now.entries

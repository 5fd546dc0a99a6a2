use Rattle.ip_spec.specs.Shape.{deepest}
use Rattle.ip_shape.proofs.InodeRead.{nothing_read}
use Rattle.ip_shape.proofs.Shapes.{unread_made}
use Rattle.ip_shape.proofs.Ways.{known_unread, unread_unread}
use Rattle.ip_shape.proofs.reading.unread.Goals as goal

pub returns-clause-partly : goal.returns-clause-partly
returns-clause-partly g c steps ascend long = (c.new.ensures.empty, ascend, unread_made deepest 0 steps c.args.by c.args.count long, nothing_read steps c.args.by c.args.count)

pub returns-clause-known : goal.returns-clause-known
returns-clause-known g c is = (unread_unread c.args.by c.args.count is, known_unread c.args.by c.args.count is)

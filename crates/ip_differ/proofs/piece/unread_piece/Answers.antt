use Rattle.ip_differ.proofs.Parting.{other_kind, place_unread}
use Rattle.ip_differ.proofs.piece.unread_piece.Goals as goal

pub returns : goal.returns
returns c records w p is = place_unread records w p c.args.stored.now (other_kind c.args.stored.now.reference.kind c.if-stored-eq-CONTENTS.false) is

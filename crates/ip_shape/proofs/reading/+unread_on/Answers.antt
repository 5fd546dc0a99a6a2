use Rattle.std.proofs.Common.{◌<◌, ◌-◌, ap, ◌∙◌, sym, arith, length}
use Rattle.std.specs.Prelude.{Some}
use Rattle.std.proofs.lemmas.Option.{slice_get-get_or}
use Rattle.ip_spec.specs.Shape.{deepest}
use Rattle.ip_shape.specs.Loaded.{way}
use Rattle.ip_shape.proofs.Digests.{in_digest}
use Rattle.ip_shape.proofs.Entering.{at_unread, no_child, on_child}
use Rattle.ip_shape.proofs.reading.+unread_on.Goals as goal

pub returns-then-index-len-clause-found : goal.returns-then-index-len-clause-found
returns-then-index-len-clause-found g n c s digest =
    no_child c.args.depth s c.in-Inode.known c.in-Inode.count c.in-Inode.children c.args.part.now c.at-index.result c.if-depth-ge-DEEPEST.false c.in-Inode.is
    (in_digest c.at-index.result c.args.places.now s c.args.depth c.at-index.ensures digest) (omega (arith, c.if-index-len.true, c.len.ensures, c.in-Inode.children.ok.0))

pub returns-else-index-len-clause-found : goal.returns-else-index-len-clause-found
returns-else-index-len-clause-found g n c s digest =
    let within : c.at-index.result < length c.in-Inode.children.items = omega (arith, c.if-index-len.false, c.len.ensures, c.in-Inode.children.ok.0) in
    on_child c.args.depth s c.in-Inode.known c.in-Inode.count c.in-Inode.children c.args.part.now c.at-index.result c.if-depth-ge-DEEPEST.false c.in-Inode.is
    (in_digest c.at-index.result c.args.places.now s c.args.depth c.at-index.ensures digest) c.index.result.now _
    (slice_get-get_or c.in-Inode.children.items c.at-index.result c.index.result.now within ∙ ap Some (sym c.index.ensures)) (c.unread_on.ensures.found s digest)

pub returns-in-Unread-clause-found : goal.returns-in-Unread-clause-found
returns-in-Unread-clause-found g n c s digest = at_unread c.args.depth (way (deepest - c.args.depth) c.args.depth s) c.in-Unread.record c.in-Unread.count c.args.part.now c.in-Unread.is

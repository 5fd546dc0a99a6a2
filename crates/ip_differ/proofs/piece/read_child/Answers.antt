use Rattle.std.proofs.Common.{◌≡◌, ◌++◌, ◌∷◌, [], List, Some, arith, ap, sym, ◌∙◌}
use Rattle.std.specs.Prelude.{slice_get}
use Rattle.ip_shape.specs.declared.part.Part.{Part}
use Rattle.ip_tree.specs.declared.node.Stored.{Stored}
use Rattle.ip_tree.proofs.UnreadKinds.{sliced}
use Rattle.ip_differ.proofs.Indexed.{long_deeper}
use Rattle.ip_differ.proofs.Parting.{held_child}
use Rattle.ip_differ.proofs.piece.read_child.Goals as goal

pub returns-in-Some : goal.returns-in-Some
returns-in-Some c records a es is low inode read =
    let i = c.args.index in
    let at : slice_get c.in-Inode.children.items i ≡ Some c.in-Some.child.now =
    ap (λ (cs : List (Part Stored)). slice_get cs i) (sym c.deref.ensures.value) ∙ sliced c.deref.result.now i c.in-Some.child.now c.in-Some.ensures.lookup.3.0 c.in-Some.ensures.lookup.1 in
    let long = long_deeper is i in
    c.part_piece.ensures records a es (is ++ i ∷ []) (omega (arith, long, low))
    (held_child records a es is c.args.dir.now c.args.part.now read c.in-Inode.known c.in-Inode.count c.in-Inode.children c.in-Inode.is low i c.in-Some.child.now at)

use Rattle.std.proofs.Common.{[], subst, sym}
use Rattle.ip_spec.specs.Tree.{entries_of, subtree}
use Rattle.ip_shape.specs.declared.part.Part.{Part}
use Rattle.ip_tree.specs.declared.node.Stored.{Stored}
use Rattle.ip_differ.specs.Pieces.{IsHeld, in_directory}
use Rattle.ip_differ.proofs.Parting.{none_long, place_held}
use Rattle.ip_differ.proofs.piece.whole_piece.Goals as goal

pub returns : goal.returns
returns c records w p is =
    let d = c.args.dir.now in
    let es = (entries_of (subtree w.map p)).entries in
    let held = subst (λ (r : Part Stored). IsHeld records (in_directory records d) es [] d r) (sym c.root.ensures) (place_held records w p d is) in
    c.part_piece.ensures records (in_directory records d) es [] none_long held

use Rattle.std.proofs.Common.{[], Option, subst, sym}
use Rattle.std.specs.Prelude.{option_map}
use Rattle.ip_spec.specs.Tree.{entries_of, subtree}
use Rattle.ip_tree.specs.Finding.{as_node}
use Rattle.ip_tree.specs.declared.look.Place.{Place}
use Rattle.ip_differ.specs.Differing.{IsDirectoryAt}
use Rattle.ip_differ.specs.Pieces.{PieceIs, at_place}
use Rattle.ip_differ.proofs.piece.piece_of.Goals as goal

pub returns-in-Some : goal.returns-in-Some
returns-in-Some c records w p is =
    let es = (entries_of (subtree w.map p)).entries in
    subst (λ (o : Option Place). PieceIs records (at_place records o) es [] c.place_piece.result) (sym c.in-Some.is)
    (c.place_piece.ensures records w p (subst (λ (o : Option Place). IsDirectoryAt records w p (option_map as_node o)) c.in-Some.is is))

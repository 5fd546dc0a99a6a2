use Rattle.std.proofs.Common.{◌≡◌, None, true, subst}
use Rattle.ip_differ.specs.Pieces.{OpenedIs, has_children}
use Rattle.ip_differ.specs.declared.piece.Piece.{Piece}
use Rattle.ip_differ.proofs.piece.held_child.Goals as goal

pub returns-in-Read : goal.returns-in-Read
returns-in-Read c records a es is low inode opened =
    c.read_child.ensures records a es is low (subst (λ (q : Piece). has_children q None ≡ true) c.in-Read.is inode) (subst (λ (q : Piece). OpenedIs records a es is q None) c.in-Read.is opened)

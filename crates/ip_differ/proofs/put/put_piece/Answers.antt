use Rattle.std.proofs.Common.{◌≡◌, None, false, ap, subst}
use Rattle.std.specs.FinMap.Entries.{find}
use Rattle.ip_spec.specs.Path.{bytes_cmp}
use Rattle.ip_differ.specs.Pieces.{OpenedIs, has_children}
use Rattle.ip_differ.specs.Sides.{with_side}
use Rattle.ip_differ.specs.declared.piece.Piece.{Piece}
use Rattle.ip_differ.proofs.Leaves.{nothing_put}
use Rattle.ip_differ.proofs.put.put_piece.Goals as goal

pub returns-in-Nothing : goal.returns-in-Nothing
returns-in-Nothing c records a es is low leaf opened =
    let none = subst (λ (q : Piece). OpenedIs records a es is q None) c.in-Nothing.is opened in
    λ s. ap (λ o. with_side c.args.side o (find bytes_cmp s c.args.found.now.entries)) (nothing_put a is s (none s))

pub returns-in-Unread : goal.returns-in-Unread
returns-in-Unread c records a es is low leaf opened = absurd (subst (λ (q : Piece). OpenedIs records a es is q None) c.in-Unread.is opened)

pub returns-in-Read : goal.returns-in-Read
returns-in-Read c records a es is low leaf opened =
    c.put_part.ensures records a es is low (subst (λ (q : Piece). has_children q None ≡ false) c.in-Read.is leaf) (subst (λ (q : Piece). OpenedIs records a es is q None) c.in-Read.is opened)

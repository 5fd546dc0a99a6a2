use Rattle.std.proofs.Common.{◌≡◌, Option, false, subst}
use Rattle.ip_tree.specs.declared.fetch.Content.{Content}
use Rattle.ip_differ.specs.Pieces.{OpenedIs, has_children}
use Rattle.ip_differ.proofs.Parting.{opened_fetched}
use Rattle.ip_differ.proofs.put.put_leaf.Goals as goal

pub returns-in-Some : goal.returns-in-Some
returns-in-Some c records a es is low leaf opened =
    let at = opened_fetched records a es is c.args.piece.now c.in-Some.content (subst (λ (o : Option Content). OpenedIs records a es is c.args.piece.now o) c.in-Some.is opened) in
    c.put_record.ensures records a es is at.0 (subst (λ (o : Option Content). has_children c.args.piece.now o ≡ false) c.in-Some.is leaf) at.1 at.2

pub returns-in-None : goal.returns-in-None
returns-in-None c records a es is low leaf opened =
    c.put_piece.ensures records a es is low (subst (λ (o : Option Content). has_children c.args.piece.now o ≡ false) c.in-None.is leaf)
    (subst (λ (o : Option Content). OpenedIs records a es is c.args.piece.now o) c.in-None.is opened)

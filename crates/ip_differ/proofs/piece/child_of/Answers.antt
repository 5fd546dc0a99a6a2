use Rattle.std.proofs.Common.{◌≡◌, Option, true, subst}
use Rattle.ip_tree.specs.declared.fetch.Content.{Content}
use Rattle.ip_differ.specs.Pieces.{OpenedIs, has_children}
use Rattle.ip_differ.proofs.Parting.{opened_fetched}
use Rattle.ip_differ.proofs.piece.child_of.Goals as goal

pub returns-in-Some : goal.returns-in-Some
returns-in-Some c records a es is low inode opened =
    let has = subst (λ (o : Option Content). has_children c.args.piece.now o ≡ true) c.in-Some.is inode in
    let at = opened_fetched records a es is c.args.piece.now c.in-Some.content (subst (λ (o : Option Content). OpenedIs records a es is c.args.piece.now o) c.in-Some.is opened) in
    c.fetched_child.ensures records a es is at.0 has at.1 at.2

pub returns-in-None : goal.returns-in-None
returns-in-None c records a es is low inode opened =
    c.held_child.ensures records a es is low (subst (λ (o : Option Content). has_children c.args.piece.now o ≡ true) c.in-None.is inode)
    (subst (λ (o : Option Content). OpenedIs records a es is c.args.piece.now o) c.in-None.is opened)

-- An inode stands above the deepest leaves.
use Rattle.std.proofs.Common.{◌≡◌, ℕ, zero, suc, ◌-◌, ◌<◌, true, List, length, refl, Option, Some, None, arith}
use Rattle.std.proofs.lemmas.Bool.{false≢true}
use Rattle.ip_spec.specs.Path.{Step}
use Rattle.ip_spec.specs.Shape.{Entries, part}
use Rattle.ip_spec.specs.declared.record.Record.{Record}
use Rattle.ip_shape.specs.Directory.{steps_of}
use Rattle.ip_shape.specs.Shape.{IsLeafOf, IsPart}
use Rattle.ip_shape.specs.declared.part.Part.{Part, out-Part}
use Rattle.ip_shape.specs.declared.part.Part.TheOpen as layer
use Rattle.ip_shape.specs.declared.part.Part.TheOpen.{Part-F}
use Rattle.ip_tree.specs.declared.fetch.Content.{Content}
use Rattle.ip_tree.specs.declared.fetch.Content.TheVariants as content
use Rattle.ip_tree.specs.declared.node.Stored.{Stored}
use Rattle.ip_differ.specs.Pieces.{OpenedIs, has_children, is_inode_layer}
use Rattle.ip_differ.specs.declared.pairs.Entry.{Entry}
use Rattle.ip_differ.specs.declared.piece.Piece.{Piece}
use Rattle.ip_differ.specs.declared.piece.Piece.TheVariants as piece
use Rattle.ip_differ.proofs.Parting.{not_deep_unread}

no_leaf : {X : Type 0} (steps : List Step) (l : Part-F Stored (Part Stored)) → is_inode_layer l ≡ true → IsLeafOf steps l → X
no_leaf steps (layer.Leaf known held) has leaf = absurd (false≢true has)
no_leaf steps (layer.Inode known count children) has leaf = absurd leaf
no_leaf steps (layer.Unread x count) has leaf = absurd (false≢true has)

deep_part : (n depth : ℕ) (steps : List Step) (p : Part Stored) → 51 - depth ≡ n → is_inode_layer (out-Part Stored p) ≡ true → IsPart n depth steps p → depth < 51
deep_part zero depth steps p e has shape = no_leaf steps (out-Part Stored p) has shape
deep_part (suc n) depth steps p e has shape = omega (arith, e)

module _ (records : ℕ → Option Record) (a : Step → Option Entry) (es : Entries) (is : List ℕ) where
  pub not_deep : (q : Piece) (k : Option Content) → has_children q k ≡ true → OpenedIs records a es is q k → length is < 51
  not_deep piece.Nothing None has at = absurd (false≢true has)
  not_deep piece.Nothing (Some k) has at = absurd at
  not_deep (piece.Unread x) None has at = absurd at
  not_deep (piece.Unread x) (Some (content.Leaf fields)) has at = absurd (false≢true has)
  not_deep (piece.Unread x) (Some (content.Inode d cs)) has at = not_deep_unread records a es is x at.0 d cs at.1 0
  not_deep (piece.Read d p) None has at = deep_part (51 - length is) (length is) (steps_of (part es is)) p.now refl has at.held.shape
  not_deep (piece.Read d p) (Some k) has at = absurd at

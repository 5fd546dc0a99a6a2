-- A height is what a fold over the records' heights gives.
--     fold_leaf, fold_inode      from any height on.      leaf_fold, inode_fold      from none on
use Rattle.std.proofs.Common.{◌≡◌, ℕ, suc, ◌≤◌, max, List, [], ◌∷◌, ◌∙◌, arith}
use Rattle.std.specs.Prelude.{All, fold}
use Rattle.std.proofs.lemmas.List.Elements.{All-head, All-tail}
use Rattle.ip_spec.specs.Record.{IsLeafEntry}
use Rattle.ip_spec.specs.declared.record.InodeChild.{InodeChild}
use Rattle.ip_spec.specs.declared.record.LeafEntry.{LeafEntry}
use Rattle.ip_shape.specs.Heights.{inode_height, leaf_height, raised}

fold_leaf : (n : ℕ) (es : List LeafEntry) → All IsLeafEntry es → max n (leaf_height es) ≡ fold (λ k (e : LeafEntry). max k (suc e.height)) n es
fold_leaf n [] fit = omega arith
fold_leaf n (e ∷ es) fit =
    let low : e.height ≤ 63 = (All-head IsLeafEntry e es fit).height in
    let one : max n (max (raised e.height) (leaf_height es)) ≡ max (max n (suc e.height)) (leaf_height es) = omega (arith, low) in
    one ∙ fold_leaf (max n (suc e.height)) es (All-tail IsLeafEntry e es fit)

fold_inode : (n : ℕ) (cs : List InodeChild) → max n (inode_height cs) ≡ fold (λ k (c : InodeChild). max k c.height) n cs
fold_inode n [] = omega arith
fold_inode n (c ∷ cs) =
    let one : max n (max c.height (inode_height cs)) ≡ max (max n c.height) (inode_height cs) = omega arith in
    one ∙ fold_inode (max n c.height) cs

pub leaf_fold : (es : List LeafEntry) → All IsLeafEntry es → leaf_height es ≡ fold (λ n (e : LeafEntry). max n (suc e.height)) 0 es
leaf_fold es fit = let none : leaf_height es ≡ max 0 (leaf_height es) = omega arith in none ∙ fold_leaf 0 es fit

pub inode_fold : (cs : List InodeChild) → inode_height cs ≡ fold (λ n (c : InodeChild). max n c.height) 0 cs
inode_fold cs = let none : inode_height cs ≡ max 0 (inode_height cs) = omega arith in none ∙ fold_inode 0 cs

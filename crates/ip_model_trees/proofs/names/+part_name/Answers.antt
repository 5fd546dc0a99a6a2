use Rattle.std.proofs.Common.{◌≡◌, ◌-◌, ◌+◌, ◌∷◌, ◌++◌, ap, sym, subst, ◌∙◌, List, length, map, take, flat_map, arith}
use Rattle.std.specs.Prelude.{◌^◌, sum_by}
use Rattle.std.proofs.lemmas.List.{take_all, flat_map_more}
use Rattle.sha2.specs.Hashers.{Holds256}
use Rattle.sha2.specs.Sha256.{sha256}
use Rattle.ip_spec.specs.Record.{u32}
use Rattle.ip_spec.specs.Shape.{part_name}
use Rattle.ip_model_trees.specs.declared.places.Placed.{Placed}
use Rattle.ip_model_trees.specs.declared.places.Child.{Child}
use Rattle.ip_model_trees.specs.Places.{ArePlaced, child_parts, hashed_child, pair_of}
use Rattle.ip_model_trees.proofs.Named.{leaf_part, inode_part}
use Rattle.ip_model_trees.proofs.Parting.{small_bits, low_indexes, child_placed}
use Rattle.ip_model_trees.proofs.Placing.{taken_more}
use Rattle.ip_model_trees.proofs.names.+part_name.Goals as goal

pub returns-then-is_leaf : goal.returns-then-is_leaf
returns-then-is_leaf n c good = c.leaf_name.ensures good ∙ leaf_part c.args.entries.now c.args.depth (sym c.is_leaf.ensures.is ∙ c.if-is_leaf.true)

pub inode_head-hasher-requires-clause-each : goal.inode_head-hasher-requires-clause-each
inode_head-hasher-requires-clause-each n c = low_indexes c.args.depth c.args.entries.now c.as_slice-children.result.now (ap (map child_parts) c.as_slice-children.ensures.value ∙ c.in_ok-parts.ensures)

pub inode_head-hasher-requires-clause-small : goal.inode_head-hasher-requires-clause-small
inode_head-hasher-requires-clause-small n c = small_bits c.args.depth c.args.entries.now c.as_slice-children.result.now (ap (map child_parts) c.as_slice-children.ensures.value ∙ c.in_ok-parts.ensures)

pub loop-child-preserved : goal.loop-child-preserved
loop-child-preserved n c good =
    let depth = c.args.depth in
    let cs : List Child = c.as_slice-children.result.now in
    let are = ap (map child_parts) c.as_slice-children.ensures.value ∙ c.in_ok-parts.ensures in
    let i = c.loop-child.child-index in
    let item : Child = c.child-item.result in
    let there : List Placed = c.as_slice-there.result.now in
    let same : there ≡ item.entries.items = c.as_slice-there.ensures.value in
    let ready : ArePlaced there = subst ArePlaced (sym same) (child_placed depth c.args.entries.now cs i item are c.loop-child-test.true c.child-item.is good) in
    let low = c.is_leaf.ensures.above c.if-is_leaf.false in
    let levels : 51 - (depth + 1) ≡ 50 - depth = omega (arith, low) in
    let named = c.in_ok-name.ensures ready ∙ (ap (λ l. part_name l (map pair_of there)) levels ∙ ap (λ (ps : List Placed). part_name (50 - depth) (map pair_of ps)) same) in
    let head = 3 ∷ depth ∷ u32 (sum_by (λ (c : Child). 2 ^ c.index) cs) in
    let g = hashed_child (50 - depth) in
    let before = head ++ flat_map g (take i cs) in
    subst (Holds256 c.hash_child.new.hasher)
    ((λ j. before ++ (u32 (length (same j)) ++ named j)) ∙ (flat_map_more g head (take i cs) item ∙ ap (λ xs. head ++ flat_map g xs) (sym (taken_more cs i item c.loop-child-test.true c.child-item.is))))
    (c.hash_child.ensures before ready.count (c.loop-child.invariant good))

pub returns : goal.returns
returns n c good =
    let depth = c.args.depth in
    let cs : List Child = c.as_slice-children.result.now in
    let are = ap (map child_parts) c.as_slice-children.ensures.value ∙ c.in_ok-parts.ensures in
    let head = 3 ∷ depth ∷ u32 (sum_by (λ (c : Child). 2 ^ c.index) cs) in
    let g = hashed_child (50 - depth) in
    c.finalize.ensures (head ++ flat_map g (take c.loop-child.child-index cs)) (c.loop-child.invariant good)
    ∙ (ap (λ xs. sha256 (head ++ flat_map g xs)) (take_all c.loop-child.child-index cs c.loop-child-test.false)
    ∙ inode_part depth c.args.entries.now cs are good.digests (sym c.is_leaf.ensures.is ∙ c.if-is_leaf.false) (c.is_leaf.ensures.above c.if-is_leaf.false))

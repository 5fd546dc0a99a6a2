-- The names of the parts of a directory, by their entries.
use Rattle.std.proofs.Common.{◌≡◌, ◌⊎◌, inl, inr, ℕ, zero, suc, ◌-◌, ◌<◌, List, [], ◌∷◌, ◌++◌, refl, sym, ap, ◌∙◌, Bool, true, false, length, map, flat_map, arith}
use Rattle.std.specs.Prelude.{◌+◌, ◌^◌, ◌||◌, nat_le, sum_by, All}
use Rattle.std.proofs.lemmas.Bool.Decides.{nat_tests}
use Rattle.std.proofs.lemmas.List.{length-map}
use Rattle.std.proofs.lemmas.List.Folds.{fold-map, flat_map-map}
use Rattle.sha2.specs.Sha256.{sha256}
use Rattle.ip_spec.specs.Path.{Step}
use Rattle.ip_spec.specs.Record.{Hash, Child as Named, hashed_leaf, hashed_inode, short_text, u8, u32}
use Rattle.ip_spec.specs.Shape.{part_name, children_of}
use Rattle.ip_model_trees.specs.declared.places.Placed.{Placed}
use Rattle.ip_model_trees.specs.declared.places.Child.{Child}
use Rattle.ip_model_trees.specs.Names.{hashed_entry}
use Rattle.ip_model_trees.specs.Places.{IsPlaced, pair_of, child_parts, children_in, hashed_child}
use Rattle.ip_model_trees.proofs.Parting.{pairs_in, children_pairs}

-- ---- leaves

spelled_same : (ps : List Placed) → flat_map (λ (p : Placed). hashed_entry p.entry.now) ps ≡ flat_map (λ (e : Step × Named). short_text e.0 ++ u8 e.1.0 ++ e.1.1) (map pair_of ps)
spelled_same [] = refl
spelled_same (p ∷ ps) = ap (λ t. hashed_entry p.entry.now ++ t) (spelled_same ps)

hashed_same : (ps : List Placed) → 2 ∷ u32 (length ps) ++ flat_map (λ (p : Placed). hashed_entry p.entry.now) ps ≡ hashed_leaf (map pair_of ps)
hashed_same ps i = 2 ∷ (u32 (sym (length-map ps pair_of) i) ++ spelled_same ps i)

leaf_test : (n d : ℕ) → (nat_le n 32 || nat_le 51 d) ≡ true → (51 - d ≡ 0) ⊎ (nat_le n 32 ≡ true)
leaf_test n d t = by (nat_le n 32) refl t
  where
    by : (b : Bool) → nat_le n 32 ≡ b → (b || nat_le 51 d) ≡ true → (51 - d ≡ 0) ⊎ (nat_le n 32 ≡ true)
    by true is t = inr is
    by false is t = let deep : nat_le 51 d ≡ true = t in let none : 51 - d ≡ 0 = grind (arith, nat_tests) in inl none

leaf_named : (levels : ℕ) (es : List (Step × Named)) → (levels ≡ 0) ⊎ (nat_le (length es) 32 ≡ true) → sha256 (hashed_leaf es) ≡ part_name levels es
unfolding part_name
leaf_named zero es t = refl
leaf_named (suc l) es (inl none) = absurd (omega (arith, none))
leaf_named (suc l) es (inr few) = sym (ap (λ (b : Bool). elim b [ true ↦ sha256 (hashed_leaf es) | false ↦ sha256 (hashed_inode (50 - l) (map (λ c. (c.0, length c.1, part_name l c.1)) (children_of (50 - l) es))) ]) few)

pub leaf_part : (ps : List Placed) (depth : ℕ) → (nat_le (length ps) 32 || nat_le 51 depth) ≡ true → sha256 (2 ∷ u32 (length ps) ++ flat_map (λ (p : Placed). hashed_entry p.entry.now) ps) ≡ part_name (51 - depth) (map pair_of ps)
leaf_part ps depth t =
    let test : (nat_le (length (map pair_of ps)) 32 || nat_le 51 depth) ≡ true = ap (λ n. nat_le n 32 || nat_le 51 depth) (length-map ps pair_of) ∙ t in
    ap sha256 (hashed_same ps) ∙ leaf_named (51 - depth) (map pair_of ps) (leaf_test (length (map pair_of ps)) depth test)

-- ---- inodes

abbrev named_part : ℕ → ℕ × List (Step × Named) → ℕ × ℕ × Hash
named_part levels c = (c.0, length c.1, part_name levels c.1)

inode_test : (n d : ℕ) → (nat_le n 32 || nat_le 51 d) ≡ false → nat_le n 32 ≡ false
inode_test n d t = by (nat_le n 32) t
  where
    by : (b : Bool) → (b || nat_le 51 d) ≡ false → b ≡ false
    by true t = t
    by false t = refl

inode_named : (levels : ℕ) (es : List (Step × Named)) → nat_le (length es) 32 ≡ false → part_name (suc levels) es ≡ sha256 (hashed_inode (50 - levels) (map (named_part levels) (children_of (50 - levels) es)))
unfolding part_name
inode_named l es many = ap (λ (b : Bool). elim b [ true ↦ sha256 (hashed_leaf es) | false ↦ sha256 (hashed_inode (50 - l) (map (λ c. (c.0, length c.1, part_name l c.1)) (children_of (50 - l) es))) ]) many

inode_at : (depth : ℕ) (es : List (Step × Named)) → nat_le (length es) 32 ≡ false → depth < 51 → sha256 (hashed_inode depth (map (named_part (50 - depth)) (children_of depth es))) ≡ part_name (51 - depth) es
inode_at depth es many low =
    let up : 51 - depth ≡ suc (50 - depth) = omega (arith, low) in
    let back : 50 - (50 - depth) ≡ depth = omega (arith, low) in
    sym (ap (λ n. part_name n es) up ∙ (inode_named (50 - depth) es many ∙ ap (λ d. sha256 (hashed_inode d (map (named_part (50 - depth)) (children_of d es)))) back))

abbrev child_named : ℕ → Child → ℕ × ℕ × Hash
child_named levels c = (c.index, length c.entries.items, part_name levels (map pair_of c.entries.items))

children_named : (levels : ℕ) (cs : List Child) → map (named_part levels) (map pairs_in (map child_parts cs)) ≡ map (child_named levels) cs
children_named levels [] = refl
children_named levels (c ∷ cs) = λ j. (c.index, length-map c.entries.items pair_of j, part_name levels (map pair_of c.entries.items)) ∷ children_named levels cs j

inode_bytes : (levels depth : ℕ) (cs : List Child) → (3 ∷ depth ∷ u32 (sum_by (λ (c : Child). 2 ^ c.index) cs)) ++ flat_map (hashed_child levels) cs ≡ hashed_inode depth (map (child_named levels) cs)
inode_bytes levels depth cs =
    let bits = sym (fold-map (λ (n : ℕ) (c : ℕ × ℕ × Hash). n + 2 ^ c.0) (child_named levels) 0 cs) in
    let children = sym (flat_map-map (λ (c : ℕ × ℕ × Hash). u32 c.1 ++ c.2) (child_named levels) cs) in
    λ j. 3 ∷ depth ∷ (u32 (bits j) ++ children j)

pub inode_part : (depth : ℕ) (ps : List Placed) (cs : List Child) → map child_parts cs ≡ children_in depth ps → All IsPlaced ps → (nat_le (length ps) 32 || nat_le 51 depth) ≡ false → depth < 51
    → sha256 ((3 ∷ depth ∷ u32 (sum_by (λ (c : Child). 2 ^ c.index) cs)) ++ flat_map (hashed_child (50 - depth)) cs) ≡ part_name (51 - depth) (map pair_of ps)
inode_part depth ps cs are placed test low =
    let levels = 50 - depth in
    let es = map pair_of ps in
    let many : nat_le (length es) 32 ≡ false = ap (λ n. nat_le n 32) (length-map ps pair_of) ∙ inode_test (length ps) depth test in
    let children : map (child_named levels) cs ≡ map (named_part levels) (children_of depth es) =
    sym (children_named levels cs) ∙ ap (λ xs. map (named_part levels) xs) (ap (map pairs_in) are ∙ sym (children_pairs depth ps placed)) in
    ap sha256 (inode_bytes levels depth cs ∙ ap (hashed_inode depth) children) ∙ inode_at depth es many low

-- The test of an inode: it passes exactly where the inode is a part of some directory. Here that what fits passes.
use Rattle.std.proofs.Common.{◌≡◌, inr, ℕ, suc, ◌<◌, ◌≤◌, List, [], ◌∷◌, ◌++◌, refl, sym, ap, subst, ◌∙◌, Option, Some, None, Bool, true, false, length, arith, take}
use Rattle.std.specs.Prelude.{nat_le, map, ◌||◌}
use Rattle.std.specs.List.{AllByRecursion}
use Rattle.std.proofs.lemmas.List.{length-take-le, take-take}
use Rattle.ip_spec.specs.Path.{Step}
use Rattle.ip_spec.specs.declared.record.Record.{Record}
use Rattle.ip_spec.specs.declared.record.InodeChild.{InodeChild}
use Rattle.ip_spec.specs.Tree.{Tree}
use Rattle.ip_spec.specs.Shape.{Entries, place, at_place, children_of, leaf_limit, deepest}
use Rattle.ip_spec.specs.TreeAt.{ChildrenAt, PartAt, no_children, child_first, leaf_at, inode_at}
use Rattle.ip_spec.specs.Step.{entries_limit}
use Rattle.ip_image.specs.Standing.{AreTogether}
use Rattle.ip_audit.proofs.Basics.{no_true, same_inode, leaf_or_inode}
use Rattle.ip_audit.specs.Memory.{Part, kept_part, Look, leaf_part, inode_part, kept_by, ChildIs, ChildPasses, InodePasses, ways, common_at, common_of, places}
use Rattle.ip_audit.proofs.Trees.{In, first_in}
use Rattle.ip_audit.proofs.Children.{in_map, map_of_in, child_is, entry_child, in_place, some_length}
use Rattle.ip_audit.proofs.Parts.{RemembersBelow, kept_same, part_true, inode_true, shallow, entries_steps}
use Rattle.ip_audit.proofs.Common.{together, are_together, common_begins, next_place, length_places}

-- the children of a part with these entries: each at its place, and some
abbrev pub AreChildrenOf : ℕ → Entries → List (ℕ × Entries) → Type 0
AreChildrenOf depth es xs = (c : ℕ × Entries) → In c xs → (c.1 ≡ at_place depth c.0 es) × (0 < length c.1)

pub child_together : (depth i : ℕ) (es : Entries) → depth ≤ 50 → AreTogether depth es → AreTogether (suc depth) (at_place depth i es)
child_together depth i es low t = are_together (suc depth) (at_place depth i es) (omega (arith, low)) (λ x y a b.
    let p = in_place depth i es x a in
    let q = in_place depth i es y b in
    next_place depth x.0 (omega (arith, low))
    ∙ ap (λ v. v ++ place x.0 depth ∷ []) (together depth es (omega (arith, low)) t x y p.0 q.0)
    ∙ ap (λ k. take depth (places y.0) ++ k ∷ []) (p.1 ∙ sym q.1)
    ∙ sym (next_place depth y.0 (omega (arith, low))))

some_in : {A : Type 0} (xs : List A) → 0 < length xs → (x : A) × In x xs
some_in [] l = absurd (omega (arith, l))
some_in (x ∷ xs) l = (x, first_in x xs)

rest_children : (depth : ℕ) (es : Entries) (x : ℕ × Entries) (xs : List (ℕ × Entries)) → AreChildrenOf depth es (x ∷ xs) → AreChildrenOf depth es xs
unfolding In
rest_children depth es x xs h c i = h c (inr i)

pub take_places : (d : ℕ) (s : Step) → d ≤ 51 → length (take d (places s)) ≡ d
take_places d s l = length-take-le d (places s) (let k = length_places s in omega (arith, k, l))

depth_of : Option Record → ℕ
depth_of None = 0
depth_of (Some (Record.Inode depth cs)) = depth
depth_of (Some r) = 0

same_depth : (o : Option Record) (d e : ℕ) (cs ds : List InodeChild) → o ≡ Some (Record.Inode d cs) → o ≡ Some (Record.Inode e ds) → e ≡ d
unfolding depth_of
same_depth o d e cs ds f g = ap depth_of (sym g ∙ f)

module _ (look : Look) (records : ℕ → Option Record) (bound : ℕ) (rem : RemembersBelow look records bound) where
  mutual
    -- the common places that are remembered of a part are those of its steps
    pub part_common : {depth at : ℕ} {es : Entries} → at < bound → PartAt records depth at es → AreTogether depth es → depth ≤ 51 → (p : Part) → look at ≡ Some (kept_part p) → (x : Step × Tree) → In x es
        → take depth p.common ≡ take depth (places x.0)
    part_common l (leaf_at {depth = depth} {at = at} {es = es} fields is leaf each) t low p e x i =
        let same : p ≡ leaf_part fields = kept_same p (leaf_part fields) (sym e ∙ rem at l ∙ ap (kept_by look) is) in
        let steps = entries_steps records each in
        ap (λ q. take depth q.common) same ∙ ap (λ ss. take depth (common_of ss)) steps
        ∙ common_begins depth (take depth (places x.0)) (map (λ (y : Step × Tree). y.0) es) x.0 (map_of_in (λ (y : Step × Tree). y.0) x es i) (take_places depth x.0 low)
        (λ r j. let m = in_map (λ (y : Step × Tree). y.0) r es j in ap (λ s. take depth (places s)) m.2 ∙ together depth es low t m.0 x m.1 i)
    part_common l (inode_at {depth = depth} {at = at} {es = es} children is inode each) t low p e x i =
        let same : p ≡ inode_part look depth children = kept_same p (inode_part look depth children) (sym e ∙ rem at l ∙ ap (kept_by look) is) in
        let n = some_length (place x.0 depth, at_place depth (place x.0 depth) es) (children_of depth es) (entry_child depth es x i) in
        ap (λ q. take depth q.common) same
        ∙ ap (take depth) (ways_common (omega (arith, l)) each es t (shallow records depth es inode) (child_is depth es) x i n)
        ∙ take-take depth depth (places x.0) (omega arith)

    pub ways_common : {depth at : ℕ} {cs : List InodeChild} {xs : List (ℕ × Entries)} → at ≤ bound → ChildrenAt records depth at cs xs → (es : Entries) → AreTogether depth es → depth ≤ 50 → AreChildrenOf depth es xs
        → (x : Step × Tree) → In x es → 0 < length xs → ways look depth cs ≡ take depth (places x.0)
    ways_common l no_children es t low h x i n = absurd (omega (arith, n))
    ways_common l (child_first {depth = depth} {at = at} {c = c} {es = ds} {xs = xs} below part count height name rest) es t low h x i n =
        let p = part_true records look bound rem (omega (arith, below, l)) part in
        let at_its = h (c.index, ds) (first_in (c.index, ds) xs) in
        let y = some_in ds at_its.1 in
        let child_t : AreTogether (suc depth) ds = subst (AreTogether (suc depth)) (sym at_its.0) (child_together depth c.index es low t) in
        let ih = part_common (omega (arith, below, l)) part child_t (omega (arith, low)) p.0 p.1 y.0 y.1 in
        let y_in : In y.0 es = (in_place depth c.index es y.0 (subst (In y.0) at_its.0 y.1)).0 in
        ap (λ o. take depth (common_at o)) p.1
        ∙ sym (take-take depth (suc depth) p.0.common (omega arith))
        ∙ ap (take depth) ih
        ∙ take-take depth (suc depth) (places y.0.0) (omega arith)
        ∙ together depth es (omega (arith, low)) t y.0 x y_in i

  each_passes : {depth at : ℕ} {cs : List InodeChild} {xs : List (ℕ × Entries)} → at ≡ bound → ChildrenAt records depth at cs xs → (es : Entries) → AreTogether depth es → depth ≤ 50 → AreChildrenOf depth es xs
      → (above : List ℕ) → ((x : Step × Tree) → In x es → above ≡ take depth (places x.0)) → AllByRecursion (ChildPasses look bound depth above) cs
  each_passes here no_children es t low h above a = tt
  each_passes here (child_first {depth = depth} {at = at} {c = c} {es = ds} {xs = xs} below part count height name rest) es t low h above a =
      let l : c.at < bound = omega (arith, below, here) in
      let p = part_true records look bound rem l part in
      let at_its = h (c.index, ds) (first_in (c.index, ds) xs) in
      let y = some_in ds at_its.1 in
      let child_t : AreTogether (suc depth) ds = subst (AreTogether (suc depth)) (sym at_its.0) (child_together depth c.index es low t) in
      let common = part_common l part child_t (omega (arith, low)) p.0 p.1 y.0 y.1 in
      let y_in = in_place depth c.index es y.0 (subst (In y.0) at_its.0 y.1) in
      let begins : take (suc depth) p.0.common ≡ above ++ c.index ∷ [] =
      common ∙ next_place depth y.0.0 (omega (arith, low)) ∙ ap (λ v. v ++ place y.0.0 depth ∷ []) (sym (a y.0 y_in.0)) ∙ ap (λ k. above ++ k ∷ []) y_in.1 in (
        (l, subst (λ o. ChildIs o depth above c) (sym p.1) (p.2.depths, count ∙ sym p.2.count, height ∙ sym p.2.height, name ∙ sym p.2.name, begins)),
        each_passes here rest es t low (rest_children depth es (c.index, ds) xs h) above a,
      )

  pub inode_passes : (depth : ℕ) (es : Entries) (d : ℕ) (children : List InodeChild) → PartAt records depth bound es → AreTogether depth es → length es ≤ entries_limit → records bound ≡ Some (Record.Inode d children) → (d ≡ depth) × InodePasses look bound depth children
  inode_passes depth es d children (leaf_at fields is leaf each) t small here = leaf_or_inode (records bound) fields d children is here
  inode_passes depth es d children (inode_at cs is inode each) t small here =
      let same : cs ≡ children = same_inode (records bound) depth d cs children is here in
      let low = shallow records depth es inode in
      let count = (inode_true records look depth cs es inode each).count in
      let many : 32 < length es = long (nat_le (length es) leaf_limit) refl inode in
      let x = some_in es (omega (arith, many)) in
      let above = λ (y : Step × Tree) (i : In y es). ways_common (omega arith) each es t low (child_is depth es) y i (some_length (place y.0 depth, at_place depth (place y.0 depth) es) (children_of depth es) (entry_child depth es y i)) in (
        same_depth (records bound) depth d cs children is here,
        subst (λ ds. InodePasses look bound depth ds) same record {
          each = each_passes refl each es t low (child_is depth es) (ways look depth cs) above;
          many = omega (arith, count, many);
          bounded = omega (arith, count, small);
        },
      )
    where
      more : (n : ℕ) → nat_le n 32 ≡ false → 32 < n
      more n h = grind arith

      long : (b : Bool) → nat_le (length es) leaf_limit ≡ b → (nat_le (length es) leaf_limit || nat_le deepest depth) ≡ false → 32 < length es
      long true e h = absurd (no_true (nat_le (length es) leaf_limit || nat_le deepest depth) h (ap (λ c. c || nat_le deepest depth) e))
      long false e h = more (length es) e

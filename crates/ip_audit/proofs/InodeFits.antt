-- The test of an inode: what passes fits.
use Rattle.std.proofs.Common.{◌≡◌, inl, inr, ℕ, suc, ◌<◌, ◌≤◌, ◌+◌, List, [], ◌∷◌, ◌++◌, refl, sym, ap, subst, ◌∙◌, Option, Some, None, false, length, arith, take, length-take, length-append}
use Rattle.std.specs.Prelude.{nat_le, map, ◌||◌, sum_by, slice_index}
use Rattle.std.specs.List.{AllByRecursion}
use Rattle.std.specs.List.Sorted.{IsStrictlyIncreasing}
use Rattle.ip_spec.specs.Map.{Map}
use Rattle.ip_spec.specs.Path.{Step, bytes_cmp}
use Rattle.ip_spec.specs.declared.record.Record.{Record}
use Rattle.ip_spec.specs.declared.record.InodeChild.{InodeChild}
use Rattle.ip_spec.specs.Tree.{Tree}
use Rattle.ip_spec.specs.Shape.{Entries, place, at_place, children_of, leaf_limit, deepest}
use Rattle.ip_spec.specs.TreeAt.{ChildrenAt, PartAt, no_children, child_first, leaf_at, inode_at}
use Rattle.ip_image.specs.Standing.{AreTogether, IsSomePart}
use Rattle.ip_audit.specs.Memory.{Part, Kept, kept_contents, kept_part, Look, leaf_part, inode_part, kept_by, AtDepth, ChildIs, ChildPasses, InodePasses, ways, common_at, common_of, places}
use Rattle.ip_audit.proofs.Trees.{In}
use Rattle.ip_audit.proofs.Children.{in_map, map_of_in, entry_child, place_in, total, size_of, sum_total, counts}
use Rattle.ip_audit.proofs.Parts.{RemembersBelow, IsTrueOf, kept_same, part_true, at_depth, entries_steps, children_count}
use Rattle.ip_audit.proofs.Common.{are_together, common_each, next_place, first_is, rest_is}
use Rattle.ip_audit.proofs.Leaves.{Good}
use Rattle.ip_audit.proofs.Inodes.{part_common, take_places}
use Rattle.ip_audit.proofs.Merging.{Parts, plain, Ascend, none_more, one_more, merged, children_merged}

-- ---- lists that end in one more

pub last_same : (xs ys : List ℕ) (a b : ℕ) → length xs ≡ length ys → xs ++ a ∷ [] ≡ ys ++ b ∷ [] → (xs ≡ ys) × (a ≡ b)
last_same [] [] a b l e = (refl, first_is a b [] [] e)
last_same [] (y ∷ ys) a b l e = absurd (omega (arith, l))
last_same (x ∷ xs) [] a b l e = absurd (omega (arith, l))
last_same (x ∷ xs) (y ∷ ys) a b l e =
    let ih = last_same xs ys a b (omega (arith, l)) (rest_is x y (xs ++ a ∷ []) (ys ++ b ∷ []) e) in
    let f = first_is x y (xs ++ a ∷ []) (ys ++ b ∷ []) e in
    ((λ i. f i ∷ ih.0 i), ih.1)

-- ---- indexes

abbrev Rising : ℕ → List InodeChild → Type 0
Rising a [] = Unit {0}
Rising a (c ∷ cs) = (a ≤ c.index) × Rising (suc c.index) cs

tail_increasing : (x : ℕ) (xs : List ℕ) → IsStrictlyIncreasing (x ∷ xs) → IsStrictlyIncreasing xs
tail_increasing x xs h = λ k l. let e : suc k + 1 ≡ suc (k + 1) = omega arith in subst (λ m. slice_index xs k < slice_index (x ∷ xs) m) e (h (suc k) (omega (arith, l)))

rising : (a : ℕ) (cs : List InodeChild) → ((c : InodeChild) (ds : List InodeChild) → cs ≡ c ∷ ds → a ≤ c.index) → IsStrictlyIncreasing (map (λ c. c.index) cs) → Rising a cs
rising a [] low h = tt
rising a (c ∷ cs) low h = (low c cs refl, rising (suc c.index) cs (next cs h) (tail_increasing c.index (map (λ c. c.index) cs) h))
  where
    next : (cs : List InodeChild) → IsStrictlyIncreasing (c.index ∷ map (λ c. c.index) cs) → (d : InodeChild) (ds : List InodeChild) → cs ≡ d ∷ ds → suc c.index ≤ d.index
    next cs h d ds e = let g : IsStrictlyIncreasing (c.index ∷ d.index ∷ map (λ c. c.index) ds) = subst (λ bs. IsStrictlyIncreasing (c.index ∷ map (λ c. c.index) bs)) e h in let l = g 0 (omega arith) in omega (arith, l)

module _ (look : Look) (records : ℕ → Option Record) (at : ℕ) (rem : RemembersBelow look records at) (good : Good look records at) where
  child_places : (d a : ℕ) (v : List ℕ) (p : Part) → d ≤ 50 → length v ≡ suc d → a < at → look a ≡ Some (kept_part p) → AtDepth (suc d) p → take (suc d) p.common ≡ v
      → {depth : ℕ} {es : Entries} → PartAt records depth a es → AreTogether depth es → (x : Step × Tree) → In x es → take (suc d) (places x.0) ≡ v
  child_places d a v p low n l is deep begins (leaf_at {depth = depth} {es = es} fields here leaf each) t x i =
      let same : p ≡ leaf_part fields = kept_same p (leaf_part fields) (sym is ∙ rem a l ∙ ap (kept_by look) here) in
      let steps = entries_steps records each in
      let common : take (suc d) (common_of (map (λ (y : Step × Tree). y.0) es)) ≡ v = ap (λ ss. take (suc d) (common_of ss)) (sym steps) ∙ ap (λ q. take (suc d) q.common) (sym same) ∙ begins in
      let k = length-take (suc d) (common_of (map (λ (y : Step × Tree). y.0) es)) in
      let m = ap length common in
      sym (common_each (suc d) (map (λ (y : Step × Tree). y.0) es) (omega (arith, k, m, n)) x.0 (map_of_in (λ (y : Step × Tree). y.0) x es i)) ∙ common
  child_places d a v p low n l is deep begins (inode_at {depth = depth} {es = es} children here inode each) t x i =
      let same : p ≡ inode_part look depth children = kept_same p (inode_part look depth children) (sym is ∙ rem a l ∙ ap (kept_by look) here) in
      let depth_is : depth ≡ suc d = subst (AtDepth (suc d)) same deep in
      let common = part_common look records at rem l (inode_at children here inode each) t (omega (arith, depth_is, low)) p is x i in
      sym (subst (λ k. take k p.common ≡ take k (places x.0)) depth_is common) ∙ begins

  -- the parts that the children are
  children_fit : (depth a : ℕ) (above : List ℕ) → depth ≤ 50 → length above ≡ depth → a ≤ 32 → (cs : List InodeChild) → AllByRecursion (ChildPasses look at depth above) cs → AllByRecursion (λ c. (c.index < 32) × (0 < c.count)) cs → Rising a cs
      → (xs : Parts) × ChildrenAt records depth at cs (map plain xs) × Ascend depth a xs × ((c : ℕ × Map bytes_cmp Tree) → In c xs → (x : Step × Tree) → In x c.1.entries → take depth (places x.0) ≡ above)
  unfolding In
  children_fit depth a above low n small [] h bounds r = ([], no_children, none_more small, λ c i. absurd (nothing c i))
    where
      nothing : (c : ℕ × Map bytes_cmp Tree) → In c [] → ⊥
      nothing c i = i
  children_fit depth a above low n small (c ∷ cs) h bounds r =
      one (look c.at) refl h.0.1 (children_fit depth (suc c.index) above low n (let b = bounds.0.0 in omega (arith, b)) cs h.1 bounds.1 r.1)
    where
      one : (o : Option Kept) → look c.at ≡ o → ChildIs o depth above c
          → (xs : Parts) × ChildrenAt records depth at cs (map plain xs) × Ascend depth (suc c.index) xs × ((c : ℕ × Map bytes_cmp Tree) → In c xs → (x : Step × Tree) → In x c.1.entries → take depth (places x.0) ≡ above)
          → (xs : Parts) × ChildrenAt records depth at (c ∷ cs) (map plain xs) × Ascend depth a xs × ((c : ℕ × Map bytes_cmp Tree) → In c xs → (x : Step × Tree) → In x c.1.entries → take depth (places x.0) ≡ above)
      one None is h ih = absurd h
      one (Some (kept_contents name)) is h ih = absurd h
      one (Some (kept_part p)) is passes ih =
          let l = h.0.0 in
          let g = good c.at p l is in
          let part = at_depth records look at rem l g.2 p is (suc depth) passes.0 in
          let t = part_true records look at rem l part in
          let same : t.0 ≡ p = kept_same t.0 p (sym t.1 ∙ is) in
          let true_p = subst (λ q. IsTrueOf (suc depth) g.1.entries q) same t.2 in
          let m : length (above ++ c.index ∷ []) ≡ suc depth = length-append above (c.index ∷ []) ∙ omega (arith, n) in
          let each = λ (x : Step × Tree) (i : In x g.1.entries).
          last_same (take depth (places x.0)) above (place x.0 depth) c.index (take_places depth x.0 (omega (arith, low)) ∙ sym n)
          (sym (next_place depth x.0 (omega (arith, low))) ∙ child_places depth c.at (above ++ c.index ∷ []) p low m l is passes.0 passes.4 g.2 g.3 x i) in
          let k = true_p.count in let j = passes.1 in let s = bounds.0.1 in (
            (c.index, g.1) ∷ ih.0,
            child_first l part (passes.1 ∙ true_p.count) (passes.2 ∙ true_p.height) (passes.3 ∙ true_p.name) ih.1,
            one_more r.0 bounds.0.0 (omega (arith, k, j, s)) (λ x i. (each x i).1) ih.2,
            all (c.index, g.1) ih.0 (λ x i. (each x i).0) ih.3,
          )
        where
          all : (b : ℕ × Map bytes_cmp Tree) (xs : Parts) → ((x : Step × Tree) → In x b.1.entries → take depth (places x.0) ≡ above) → ((c : ℕ × Map bytes_cmp Tree) → In c xs → (x : Step × Tree) → In x c.1.entries → take depth (places x.0) ≡ above)
              → (c : ℕ × Map bytes_cmp Tree) → In c (b ∷ xs) → (x : Step × Tree) → In x c.1.entries → take depth (places x.0) ≡ above
          all b xs f g c (inl e) x i = f x (subst (λ d. In x d.1.entries) e i)
          all b xs f g c (inr j) x i = g c j x i

  above_long : (depth : ℕ) (above : List ℕ) (c : InodeChild) (cs : List InodeChild) → above ≡ ways look depth (c ∷ cs) → ChildPasses look at depth above c → length above ≡ depth
  above_long depth above c cs is (below, passes) = by (look c.at) refl passes
    where
      by : (o : Option Kept) → look c.at ≡ o → ChildIs o depth above c → length above ≡ depth
      by None e h = absurd h
      by (Some (kept_contents name)) e h = absurd h
      by (Some (kept_part p)) e h =
          let w : above ≡ take depth p.common = is ∙ ap (λ o. take depth (common_at o)) e in
          let a : length above ≡ length (take depth p.common) = ap length w in
          let b = length-take depth p.common in
          let g : length (take (suc depth) p.common) ≡ length (above ++ c.index ∷ []) = ap length h.4 in
          let d = length-take (suc depth) p.common in
          let f = length-append above (c.index ∷ []) in
          omega (arith, a, b, g, d, f)

  pub inode_fits : (depth : ℕ) (children : List InodeChild) → depth ≤ 50 → AllByRecursion (λ c. (c.index < 32) × (0 < c.count)) children → IsStrictlyIncreasing (map (λ c. c.index) children)
      → records at ≡ Some (Record.Inode depth children) → InodePasses look at depth children → IsSomePart records at
  inode_fits depth [] low bounds increasing here passes = let m = passes.many in absurd (omega (arith, m))
  inode_fits depth (c ∷ cs) low bounds increasing here passes =
      let above = ways look depth (c ∷ cs) in
      let n = above_long depth above c cs refl passes.each.0 in
      let g = children_fit depth 0 above low n (omega arith) (c ∷ cs) passes.each bounds (rising 0 (c ∷ cs) (λ d ds e. omega arith) increasing) in
      let same : children_of depth (merged g.0).entries ≡ map plain g.0 = children_merged depth g.0 g.2 in
      let size : length (merged g.0).entries ≡ sum_by (λ d. d.count) (c ∷ cs) = sym (counts depth (merged g.0).entries) ∙ ap (total size_of) same ∙ sym (children_count records g.1) ∙ sym (sum_total (λ (d : InodeChild). d.count) (c ∷ cs)) in
      let many = passes.many in
      let bounded = passes.bounded in (
        depth,
        merged g.0,
        inode_at (c ∷ cs) here (tests (length (merged g.0).entries) (omega (arith, size, many))) (subst (λ xs. ChildrenAt records depth at (c ∷ cs) xs) (sym same) g.1),
        are_together depth (merged g.0).entries (omega (arith, low)) (λ x y i j. each g.0 same g.3 x i ∙ sym (each g.0 same g.3 y j)),
        omega (arith, size, bounded),
      )
    where
      long_test : (k : ℕ) → 32 < k → nat_le k 32 ≡ false
      long_test k l = grind arith

      deep_test : (d : ℕ) → d ≤ 50 → nat_le 51 d ≡ false
      deep_test d l = grind arith

      tests : (k : ℕ) → 32 < k → (nat_le k leaf_limit || nat_le deepest depth) ≡ false
      tests k l = ap (λ b. b || nat_le deepest depth) (long_test k l) ∙ deep_test depth low

      each : (xs : Parts) → children_of depth (merged xs).entries ≡ map plain xs → ((d : ℕ × Map bytes_cmp Tree) → In d xs → (x : Step × Tree) → In x d.1.entries → take depth (places x.0) ≡ ways look depth (c ∷ cs))
          → (x : Step × Tree) → In x (merged xs).entries → take depth (places x.0) ≡ ways look depth (c ∷ cs)
      each xs same all x i =
          let k = subst (In (place x.0 depth, at_place depth (place x.0 depth) (merged xs).entries)) same (entry_child depth (merged xs).entries x i) in
          let m = in_map plain (place x.0 depth, at_place depth (place x.0 depth) (merged xs).entries) xs k in
          all m.0 m.1 x (subst (In x) (ap (λ d. d.1) m.2) (place_in depth (merged xs).entries x i))

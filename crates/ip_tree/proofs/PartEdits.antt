-- Which indexes are those of parts after an edit of the entries.
--     put_at, without_at      the entries at an index
--     put_is_part      a step more takes no part away
--     without_is_part      a step fewer takes those away beside its own way that stand below the part that becomes a leaf
use Rattle.std.proofs.Common.{◌≡◌, inl, inr, ℕ, zero, suc, ◌+◌, ◌<◌, ◌≤◌, Bool, true, false, not, List, [], ◌∷◌, length, refl, sym, ap, ◌∙◌, Option, Some, None, cond, arith}
use Rattle.std.specs.Prelude.{◌==◌, ◌&&◌, ◌||◌, is_some, nat_le, nat_lt, option_map}
use Rattle.std.proofs.lemmas.Bool.Decides.{nat_tests}
use Rattle.std.proofs.lemmas.Bool.{false≢true, eq-eqb, ne_eqb}
use Rattle.std.proofs.lemmas.Cmp.{nat_list_cmp_total}
use Rattle.std.specs.FinMap.Entries.{find, put, find-put, is_sorted-put, length-put, length_without, same_entries}
use Rattle.ip_spec.specs.Path.{Step, bytes_cmp, same_bytes}
use Rattle.ip_spec.specs.Tree.{Tree}
use Rattle.ip_spec.specs.Shape.{Entries, place, at_place, is_leaf, leaf_limit, deepest}
use Rattle.ip_spec.specs.View.{is_part_from, leads}
use Rattle.ip_shape.specs.Shape.{has, steps_at}
use Rattle.ip_shape.specs.Loaded.{behind, is_under, join_of}
use Rattle.ip_shape.specs.Directory.{steps_of, without}
use Rattle.ip_shape.proofs.ByEntries.{as_long, steps_at_place}
use Rattle.ip_shape.proofs.Entries.{has_of}
use Rattle.ip_shape.proofs.Steps.{equal, same_step}
use Rattle.ip_shape.proofs.Ways.{same_or_not}
use Rattle.ip_tree.proofs.PartEntries.{IsOrdered, found_at, found_without, place_ordered, without_ordered}
use Rattle.ip_tree.proofs.PartWays.{IsBelow, inode_by, inode_test, is_part_below, part_below}

module _ (s : Step) where
  tied : (q : Step) (b : Bool) → same_bytes q s ≡ b → b ≡ true → q ≡ s
  tied q b e f = same_step q s (equal _ (e ∙ f))

  tied_too : (q : Step) (b : Bool) → same_bytes s q ≡ b → b ≡ true → s ≡ q
  tied_too q b e f = same_step s q (equal _ (e ∙ f))

  -- at its own place
  pub put_at : (x : Tree) (depth : ℕ) (es : Entries) → IsOrdered es → at_place depth (place s depth) (put bytes_cmp s x es) ≡ put bytes_cmp s x (at_place depth (place s depth) es)
  put_at x depth es o =
      same_entries bytes_cmp nat_list_cmp_total same_step _ _ (place_ordered depth (place s depth) (put bytes_cmp s x es) (is_sorted-put bytes_cmp nat_list_cmp_total s x es o))
      (is_sorted-put bytes_cmp nat_list_cmp_total s x (at_place depth (place s depth) es) (place_ordered depth (place s depth) es o))
      (λ q. found_at depth (place s depth) (put bytes_cmp s x es) q ∙ ap (λ f. cond (place q depth == place s depth) f None) (find-put bytes_cmp nat_list_cmp_total q s x es)
      ∙ by q (same_bytes q s) refl
      ∙ ap (cond (same_bytes q s) (Some x)) (sym (found_at depth (place s depth) es q)) ∙ sym (find-put bytes_cmp nat_list_cmp_total q s x (at_place depth (place s depth) es)))
    where
      by : (q : Step) (b : Bool) → same_bytes q s ≡ b → cond (place q depth == place s depth) (cond b (Some x) (find bytes_cmp q es)) None ≡ cond b (Some x) (cond (place q depth == place s depth) (find bytes_cmp q es) None)
      by q true e = ap (λ c. cond c (Some x) None) (eq-eqb (place q depth) (place s depth) (ap (λ t. place t depth) (tied q true e refl)))
      by q false e = refl

  -- and at each other
  pub put_beside : (x : Tree) (depth i : ℕ) (es : Entries) → IsOrdered es → (place s depth == i) ≡ false → at_place depth i (put bytes_cmp s x es) ≡ at_place depth i es
  put_beside x depth i es o away =
      same_entries bytes_cmp nat_list_cmp_total same_step _ _ (place_ordered depth i (put bytes_cmp s x es) (is_sorted-put bytes_cmp nat_list_cmp_total s x es o)) (place_ordered depth i es o)
      (λ q. found_at depth i (put bytes_cmp s x es) q ∙ ap (λ f. cond (place q depth == i) f None) (find-put bytes_cmp nat_list_cmp_total q s x es) ∙ by q (same_bytes q s) refl ∙ sym (found_at depth i es q))
    where
      by : (q : Step) (b : Bool) → same_bytes q s ≡ b → cond (place q depth == i) (cond b (Some x) (find bytes_cmp q es)) None ≡ cond (place q depth == i) (find bytes_cmp q es) None
      by q true e =
          let none : (place q depth == i) ≡ false = ap (λ t. place t depth == i) (tied q true e refl) ∙ away in
          ap (λ c. cond c (Some x) None) none ∙ sym (ap (λ c. cond c (find bytes_cmp q es) None) none)
      by q false e = refl

  pub without_at : (depth : ℕ) (es : Entries) → IsOrdered es → at_place depth (place s depth) (without s es) ≡ without s (at_place depth (place s depth) es)
  without_at depth es o =
      same_entries bytes_cmp nat_list_cmp_total same_step _ _ (place_ordered depth (place s depth) (without s es) (without_ordered s es o)) (without_ordered s (at_place depth (place s depth) es) (place_ordered depth (place s depth) es o))
      (λ q. found_at depth (place s depth) (without s es) q ∙ ap (λ f. cond (place q depth == place s depth) f None) (found_without s es q) ∙ by (place q depth == place s depth) (not (same_bytes s q)) (find bytes_cmp q es)
      ∙ ap (λ f. cond (not (same_bytes s q)) f None) (sym (found_at depth (place s depth) es q)) ∙ sym (found_without s (at_place depth (place s depth) es) q))
    where
      by : (a b : Bool) (f : Option Tree) → cond a (cond b f None) None ≡ cond b (cond a f None) None
      by true true f = refl
      by true false f = refl
      by false true f = refl
      by false false f = refl

  pub without_beside : (depth i : ℕ) (es : Entries) → IsOrdered es → (place s depth == i) ≡ false → at_place depth i (without s es) ≡ at_place depth i es
  without_beside depth i es o away =
      same_entries bytes_cmp nat_list_cmp_total same_step _ _ (place_ordered depth i (without s es) (without_ordered s es o)) (place_ordered depth i es o)
      (λ q. found_at depth i (without s es) q ∙ ap (λ f. cond (place q depth == i) f None) (found_without s es q) ∙ by q (same_bytes s q) refl ∙ sym (found_at depth i es q))
    where
      by : (q : Step) (b : Bool) → same_bytes s q ≡ b → cond (place q depth == i) (cond (not b) (find bytes_cmp q es) None) None ≡ cond (place q depth == i) (find bytes_cmp q es) None
      by q true e =
          let none : (place q depth == i) ≡ false = ap (λ t. place t depth == i) (sym (tied_too q true e refl)) ∙ away in
          ap (λ c. cond c None None) none ∙ sym (ap (λ c. cond c (find bytes_cmp q es) None) none)
      by q false e = refl

  longer : (x : Tree) (es : Entries) → IsOrdered es → length es ≤ length (put bytes_cmp s x es)
  longer x es o = by (is_some (find bytes_cmp s es)) (length-put bytes_cmp nat_list_cmp_total s x es o)
    where
      by : (b : Bool) → length (put bytes_cmp s x es) ≡ cond b (length es) (length es + 1) → length es ≤ length (put bytes_cmp s x es)
      by true e = omega (arith, e)
      by false e = omega (arith, e)

  pub put_is_part : (x : Tree) (depth : ℕ) (is : List ℕ) (es : Entries) → IsOrdered es → is_part_from depth es is ≡ true → is_part_from depth (put bytes_cmp s x es) is ≡ true
  put_is_part x depth [] es o e = refl
  put_is_part x depth (i ∷ is) es o e =
      let b = part_below depth i is es e in
      let h = inode_by depth es b.0.inode in
      let inode : is_leaf depth (put bytes_cmp s x es) ≡ false = inode_test depth (put bytes_cmp s x es) (omega (arith, h.0, longer x es o)) h.1 in
      elim (same_or_not (place s depth) i) [
        | inl same ↦
            let at = ap (λ k. at_place depth k (put bytes_cmp s x es)) (sym same) ∙ put_at x depth es o ∙ ap (λ k. put bytes_cmp s x (at_place depth k es)) same in
            is_part_below depth i is (put bytes_cmp s x es) record { inode = inode; small = b.0.small; some = omega (arith, b.0.some, longer x (at_place depth i es) (place_ordered depth i es o), ap (λ (l : Entries). length l) at) }
            ∙ ap (λ l. is_part_from (suc depth) l is) at ∙ put_is_part x (suc depth) is (at_place depth i es) (place_ordered depth i es o) b.1
        | inr other ↦
            let at = put_beside x depth i es o (ne_eqb (place s depth) i other) in
            is_part_below depth i is (put bytes_cmp s x es) record { inode = inode; small = b.0.small; some = omega (arith, b.0.some, ap (λ (l : Entries). length l) at) }
            ∙ ap (λ l. is_part_from (suc depth) l is) at ∙ b.1
      ]

  fewer : (es : Entries) → IsOrdered es → length es ≤ suc (length (without s es))
  fewer es o = by (is_some (find bytes_cmp s es)) (length_without bytes_cmp nat_list_cmp_total s es o)
    where
      by : (b : Bool) → cond b 1 0 + length (without s es) ≡ length es → length es ≤ suc (length (without s es))
      by true e = omega (arith, e)
      by false e = omega (arith, e)

  pub one_fewer : (es : Entries) → IsOrdered es → has s (steps_of es) ≡ true → suc (length (without s es)) ≡ length es
  one_fewer es o is_in =
      let e : cond true 1 0 + length (without s es) ≡ length es = ap (λ b. cond b 1 0 + length (without s es)) (sym (sym (has_of s es) ∙ is_in)) ∙ length_without bytes_cmp nat_list_cmp_total s es o in
      omega (arith, e)

  still_in : (depth i : ℕ) (es : Entries) → place s depth ≡ i → has s (steps_of es) ≡ true → has s (steps_of (at_place depth i es)) ≡ true
  still_in depth i es same is_in =
      has_of s (at_place depth i es) ∙ ap is_some (found_at depth i es s) ∙ ap (λ b. is_some (cond b (find bytes_cmp s es) None)) (eq-eqb (place s depth) i same) ∙ sym (has_of s es) ∙ is_in

  many_below : (depth : ℕ) (is : List ℕ) (es : Entries) → leads depth is s ≡ false → is_part_from depth es is ≡ true → 32 < length es
  many_below depth [] es away e = absurd (false≢true (sym away))
  many_below depth (i ∷ is) es away e = (inode_by depth es (part_below depth i is es e).0.inode).0

  becomes_leaf : (depth i : ℕ) (is : List ℕ) (es : Entries) → length es ≤ 32 → is_part_from depth es (i ∷ is) ≡ false
  becomes_leaf depth i is es few =
      ap (λ (b : Bool). not (b || nat_le deepest depth) && nat_lt i 32 && nat_lt 0 (length (at_place depth i es)) && is_part_from (suc depth) (at_place depth i es) is) (at_most (length es) few)
    where
      at_most : (n : ℕ) → n ≤ 32 → nat_le n leaf_limit ≡ true
      at_most n l = grind (arith, nat_tests)

  under_next : (i : ℕ) (is : List ℕ) (depth : ℕ) (join : Option (List ℕ)) → place s depth ≡ i → is_under (option_map (λ (l : List ℕ). place s depth ∷ l) join) (i ∷ is) ≡ is_under join is
  under_next i is depth None same = refl
  under_next i is depth (Some front) same = ap (λ b. is_some (cond b (behind front is) None)) (eq-eqb (place s depth) i same)

  under_other : (i : ℕ) (is : List ℕ) (depth : ℕ) (join : Option (List ℕ)) → (place s depth == i) ≡ false → is_under (option_map (λ (l : List ℕ). place s depth ∷ l) join) (i ∷ is) ≡ false
  under_other i is depth None other = refl
  under_other i is depth (Some front) other = ap (λ b. is_some (cond b (behind front is) None)) other

  -- one level, by what the next one has
  module _ (levels depth i : ℕ) (is : List ℕ) (es : Entries) (sum : suc levels + depth ≡ 51) (o : IsOrdered es) (is_in : has s (steps_of es) ≡ true) (away : leads depth (i ∷ is) s ≡ false) (e : is_part_from depth es (i ∷ is) ≡ true)
      (deeper : (xs : Entries) → IsOrdered xs → has s (steps_of xs) ≡ true → leads (suc depth) is s ≡ false → is_part_from (suc depth) xs is ≡ true → is_part_from (suc depth) (without s xs) is ≡ not (is_under (join_of levels (suc depth) s (steps_of xs)) is)) where
    b : IsBelow depth i es × (is_part_from (suc depth) (at_place depth i es) is ≡ true)
    b = part_below depth i is es e

    joined : Option (List ℕ)
    joined = join_of levels (suc depth) s (steps_at depth (place s depth) (steps_of es))

    stays : (length (steps_of es) == 33) ≡ false → is_leaf depth (without s es) ≡ false → is_part_from depth (without s es) (i ∷ is) ≡ not (is_under (join_of (suc levels) depth s (steps_of es)) (i ∷ is))
    unfolding joined
    stays more inode = elim (same_or_not (place s depth) i) [
      | inl same ↦
          let at = ap (λ k. at_place depth k (without s es)) (sym same) ∙ without_at depth es o ∙ ap (λ k. without s (at_place depth k es)) same in
          let away_below : leads (suc depth) is s ≡ false = ap (λ c. c && leads (suc depth) is s) (sym (eq-eqb (place s depth) i same)) ∙ away in
          let many = many_below (suc depth) is (at_place depth i es) away_below b.1 in
          is_part_below depth i is (without s es) record { inode = inode; small = b.0.small; some = omega (arith, many, fewer (at_place depth i es) (place_ordered depth i es o), ap (λ (l : Entries). length l) at) }
          ∙ ap (λ l. is_part_from (suc depth) l is) at
          ∙ deeper (at_place depth i es) (place_ordered depth i es o) (still_in depth i es same is_in) away_below b.1
          ∙ ap (λ ss. not (is_under (join_of levels (suc depth) s ss) is)) (steps_at_place depth i es ∙ ap (λ k. steps_at depth k (steps_of es)) (sym same))
          ∙ ap not (sym (under_next i is depth joined same))
          ∙ sym (ap (λ c. not (is_under (cond c (Some []) (option_map (λ (l : List ℕ). place s depth ∷ l) joined)) (i ∷ is))) more)
      | inr other ↦
          let at = without_beside depth i es o (ne_eqb (place s depth) i other) in
          is_part_below depth i is (without s es) record { inode = inode; small = b.0.small; some = omega (arith, b.0.some, ap (λ (l : Entries). length l) at) }
          ∙ ap (λ l. is_part_from (suc depth) l is) at ∙ b.1
          ∙ ap not (sym (under_other i is depth joined (ne_eqb (place s depth) i other)))
          ∙ sym (ap (λ c. not (is_under (cond c (Some []) (option_map (λ (l : List ℕ). place s depth ∷ l) joined)) (i ∷ is))) more)
    ]

    level : is_part_from depth (without s es) (i ∷ is) ≡ not (is_under (join_of (suc levels) depth s (steps_of es)) (i ∷ is))
    unfolding joined
    level = elim (same_or_not (length (steps_of es)) 33) [
      | inl full ↦
          becomes_leaf depth i is (without s es) (omega (arith, full, as_long es, one_fewer es o is_in))
          ∙ sym (ap (λ c. not (is_under (cond c (Some []) (option_map (λ (l : List ℕ). place s depth ∷ l) joined)) (i ∷ is))) (eq-eqb (length (steps_of es)) 33 full))
      | inr more ↦
          let h = inode_by depth es b.0.inode in
          stays (ne_eqb (length (steps_of es)) 33 more) (inode_test depth (without s es) (omega (arith, more, as_long es, one_fewer es o is_in, h.0)) h.1)
    ]

  pub without_is_part : (levels depth : ℕ) (is : List ℕ) (es : Entries) → levels + depth ≡ 51 → IsOrdered es → has s (steps_of es) ≡ true → leads depth is s ≡ false → is_part_from depth es is ≡ true
      → is_part_from depth (without s es) is ≡ not (is_under (join_of levels depth s (steps_of es)) is)
  without_is_part levels depth [] es sum o is_in away e = absurd (false≢true (sym away))
  without_is_part zero depth (i ∷ is) es sum o is_in away e = absurd (omega (arith, sum, (inode_by depth es (part_below depth i is es e).0.inode).1))
  without_is_part (suc levels) depth (i ∷ is) es sum o is_in away e =
      level levels depth i is es sum o is_in away e (λ xs p q a f. without_is_part levels (suc depth) is xs (omega (arith, sum)) p q a f)

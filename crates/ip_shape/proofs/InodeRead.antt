-- The children of an inode that was read.
use Rattle.std.proofs.Common.{◌≡◌, ◌≢◌, ◌<◌, ◌≤◌, ◌-◌, ◌+◌, ℕ, zero, suc, Bool, true, false, List, [], ◌∷◌, ◌++◌, length, filter, subst, sym, ap, ◌∙◌, refl, arith, Option, Some, None, inl, inr, length-set}
use Rattle.std.proofs.Math.ListN.{set}
use Rattle.std.specs.Prelude.{cond, ◌==◌, ◌&&◌, is_some, is_none, option_and_then, option_map, slice_get, unwrap_or, Vec}
use Rattle.std.specs.Global.{Global}
use Rattle.std.proofs.lemmas.Bool.{false≢true, eq-eqb, ne_eqb}
use Rattle.ip_spec.specs.Path.{Step, same_bytes}
use Rattle.ip_spec.specs.Shape.{place, deepest}
use Rattle.ip_spec.specs.View.{leads}
use Rattle.ip_shape.specs.Shape.{IsPart, IsLeafOf, has, steps_at}
use Rattle.ip_shape.specs.Loaded.{IsFresh, behind, known_in, unread_in, way, way_to}
use Rattle.ip_shape.specs.Reading.{AreChildren, IsEntered, IsInodeRead, child_in, child_unread, count_by, in_place, leaf_known, placed_from, steps_under}
use Rattle.ip_shape.specs.declared.part.Part.{Part, out-Part}
use Rattle.ip_shape.specs.declared.part.Part.TheVariants as variant
use Rattle.ip_shape.specs.declared.part.Part.TheViews as view
use Rattle.ip_shape.specs.declared.reading.Child.{Child}
use Rattle.ip_shape.proofs.Entering.{next_way}
use Rattle.ip_shape.proofs.Entries.{nil_of}
use Rattle.ip_shape.proofs.Members.{at_head, or_more, has-filter}
use Rattle.ip_shape.proofs.LeafRead.{cut_off, has_under, on_way}
use Rattle.ip_shape.proofs.Partly.{Stands, reaches}
use Rattle.ip_shape.proofs.Shapes.{inode_from, unread_made}
use Rattle.ip_shape.proofs.Ways.{found_below, known_child, known_inode, known_unread, same_or_not, unread_child, unread_inode, unread_unread}

pub set_past : {A : Type 0} (xs : List A) (i : ℕ) (b : A) → length xs ≤ i → set xs i b ≡ xs
set_past [] i b le = refl
set_past (x ∷ xs) zero b le = absurd (omega (arith, le))
set_past (x ∷ xs) (suc i) b le = ap (λ l. x ∷ l) (set_past xs i b (omega (arith, le)))

set_one : {A : Type 0} (xs : List A) (i : ℕ) (b : A) → i < length xs → slice_get (set xs i b) i ≡ Some b
set_one [] i b lt = absurd (omega (arith, lt))
set_one (x ∷ xs) zero b lt = refl
set_one (x ∷ xs) (suc i) b lt = set_one xs i b (omega (arith, lt))

set_else : {A : Type 0} (xs : List A) (i j : ℕ) (b : A) → j ≢ i → slice_get (set xs i b) j ≡ slice_get xs j
set_else [] i j b ne = refl
set_else (x ∷ xs) zero zero b ne = absurd (ne refl)
set_else (x ∷ xs) zero (suc j) b ne = refl
set_else (x ∷ xs) (suc i) zero b ne = refl
set_else (x ∷ xs) (suc i) (suc j) b ne = set_else xs i j b (λ e. ne (ap suc e))

module _ {R : Type 0} where
  pub placed_last : (init : List (Child R)) (c : Child R) (parts : List (Part R)) → placed_from (init ++ c ∷ []) parts ≡ placed_from init (set parts c.index (variant.Unread c.record c.count))
  placed_last [] c parts = refl
  placed_last (d ∷ init) c parts = ap (λ ps. set ps d.index (variant.Unread d.record d.count)) (placed_last init c parts)

  pub placed_long : (given : List (Child R)) (parts : List (Part R)) → length (placed_from given parts) ≡ length parts
  placed_long [] parts = refl
  placed_long (c ∷ cs) parts = length-set _ c.index _ ∙ placed_long cs parts

  abbrev IsPlaced : Option (R × ℕ) → Option (Part R) → Part R → Type 0
  IsPlaced None before part = before ≡ Some part
  IsPlaced (Some c) before part = part ≡ variant.Unread c.0 c.1

  placed_at : (given : List (Child R)) (parts : List (Part R)) (i : ℕ) (part : Part R) → slice_get (placed_from given parts) i ≡ Some part → IsPlaced (child_in i given) (slice_get parts i) part
  placed_at [] parts i part e = e
  placed_at (c ∷ cs) parts i part e = elim (same_or_not i c.index) [
    | inl same ↦
        let new = variant.Unread c.record c.count in
        let within : c.index < length (placed_from cs parts) = omega (arith, found_below _ i part e, length-set (placed_from cs parts) c.index new, same) in
        subst (λ o. IsPlaced o (slice_get parts i) part) (sym (ap (λ b. cond b (Some (c.record, c.count)) (child_in i cs)) (eq-eqb c.index i (sym same))))
        (ap (λ o. unwrap_or o new) (sym e ∙ ap (slice_get (set (placed_from cs parts) c.index new)) same ∙ set_one (placed_from cs parts) c.index new within))
    | inr apart ↦
        let new = variant.Unread c.record c.count in
        subst (λ o. IsPlaced o (slice_get parts i) part) (sym (ap (λ b. cond b (Some (c.record, c.count)) (child_in i cs)) (ne_eqb c.index i (λ q. apart (sym q)))))
        (placed_at cs parts i part (sym (set_else (placed_from cs parts) c.index i new apart) ∙ e))
  ]

  none_made : (levels depth : ℕ) (part : Part R) → IsLeafOf [] (out-Part R part) → IsPart levels depth [] part
  none_made zero depth part is = is
  none_made (suc levels) depth part is = is

  abbrev pub AreEmpty : List (Part R) → Type 0
  AreEmpty parts = (i : ℕ) (part : Part R) → slice_get parts i ≡ Some part → IsLeafOf [] (out-Part R part) × IsFresh part

  module _ (depth : ℕ) (steps : List Step) (given : List (Child R)) (base : List (Part R)) (are : AreChildren depth steps given) (long : length base ≡ 32) (empty : AreEmpty base) (parts : Vec (Part R) Global) (items : parts.items ≡ placed_from given base) where
    child_stands : (i : ℕ) (part : Part R) (o : Option (R × ℕ)) → count_by o ≡ length (steps_at depth i steps) → IsPlaced o (slice_get base i) part → IsPart (deepest - (depth + 1)) (depth + 1) (steps_at depth i steps) part
    child_stands i part None none placed =
        subst (λ (ss : List Step). IsPart (deepest - (depth + 1)) (depth + 1) ss part) (sym (nil_of (steps_at depth i steps) (sym none))) (none_made (deepest - (depth + 1)) (depth + 1) part (empty i part placed).0)
    child_stands i part (Some c) long placed =
        subst (λ (p : Part R). IsPart (deepest - (depth + 1)) (depth + 1) (steps_at depth i steps) p) (sym placed) (unread_made (deepest - (depth + 1)) (depth + 1) (steps_at depth i steps) c.0 c.1 long)

    pub inode_shape : (known : Option R) → IsPart (deepest - depth) depth steps (view.Inode known (length steps) parts)
    inode_shape known =
        inode_from depth steps known (length steps) parts are.0 are.1 refl (ap length items ∙ placed_long given base ∙ long)
        (λ i child e. child_stands i child (child_in i given) (are.2 i) (placed_at given base i child (ap (λ ps. slice_get ps i) (sym items) ∙ e)))

    child_read : (rest : List ℕ) (i : ℕ) (part : Part R) (o : Option (R × ℕ)) → IsPlaced o (slice_get base i) part → (unread_in rest part ≡ option_map (λ c. (c.0, rest)) o) × (known_in rest part ≡ None)
    child_read rest i part None placed = (empty i part placed).1 rest
    child_read rest i part (Some c) placed = (ap (unread_in rest) placed ∙ unread_unread c.0 c.1 rest, ap (known_in rest) placed ∙ known_unread c.0 c.1 rest)

    pub inode_reads : (r : R) (n : ℕ) (rest : List ℕ) → (unread_in rest (view.Inode (Some r) n parts) ≡ child_unread given rest) × (known_in rest (view.Inode (Some r) n parts) ≡ leaf_known r rest)
    inode_reads r n [] = (unread_inode (Some r) n parts, known_inode (Some r) n parts)
    inode_reads r n (i ∷ rest) = at (slice_get parts.items i) refl
      where
        at : (o : Option (Part R)) → slice_get parts.items i ≡ o → (unread_in (i ∷ rest) (view.Inode (Some r) n parts) ≡ child_unread given (i ∷ rest)) × (known_in (i ∷ rest) (view.Inode (Some r) n parts) ≡ None)
        at None e =
            (unread_child (Some r) n parts i rest ∙ ap (option_and_then (unread_in rest)) e ∙ sym (ap (option_map (λ c. (c.0, rest))) (none_there e)), known_child (Some r) n parts i rest ∙ ap (option_and_then (known_in rest)) e)
          where
            none_there : slice_get parts.items i ≡ None → child_in i given ≡ None
            none_there f = are.3 i (outside parts.items i f (ap length items ∙ placed_long given base ∙ long))
              where
                outside : (xs : List (Part R)) (k : ℕ) → slice_get xs k ≡ None → length xs ≡ 32 → 32 ≤ k
                outside xs k g l = omega (arith, l, past xs k g)
                  where
                    past : (ys : List (Part R)) (j : ℕ) → slice_get ys j ≡ None → length ys ≤ j
                    past [] j h = omega arith
                    past (y ∷ ys) zero h = absurd (false≢true (sym (ap is_some h)))
                    past (y ∷ ys) (suc j) h = omega (arith, past ys j h)
        at (Some part) e =
            let both = child_read rest i part (child_in i given) (placed_at given base i part (ap (λ ps. slice_get ps i) (sym items) ∙ e)) in
            (unread_child (Some r) n parts i rest ∙ ap (option_and_then (unread_in rest)) e ∙ both.0, known_child (Some r) n parts i rest ∙ ap (option_and_then (known_in rest)) e ∙ both.1)

    pub inode_is_read : (is : List ℕ) (r : R) (n : ℕ) (old new : Part R) → IsEntered is (view.Inode (Some r) n parts) old new → IsInodeRead is r given old new
    inode_is_read is r n old new put q = by (behind is q) (put q)
      where
        by : (o : Option (List ℕ)) → (unread_in q new ≡ in_place (λ rest. unread_in rest (view.Inode (Some r) n parts)) (unread_in q old) o) × (known_in q new ≡ in_place (λ rest. known_in rest (view.Inode (Some r) n parts)) (known_in q old) o)
            → (unread_in q new ≡ in_place (child_unread given) (unread_in q old) o) × (known_in q new ≡ in_place (leaf_known r) (known_in q old) o)
        by None e = e
        by (Some rest) e = (e.0 ∙ (inode_reads r n rest).0, e.1 ∙ (inode_reads r n rest).1)

  pub nothing_read : (steps : List Step) (r : R) (n : ℕ) → [] ≡ filter (reaches (variant.Unread r n)) steps
  nothing_read [] r n = refl
  nothing_read (s ∷ steps) r n = nothing_read steps r n ∙ ap (λ o. cond (is_none o) (s ∷ filter (reaches (variant.Unread r n)) steps) (filter (reaches (variant.Unread r n)) steps)) (sym (unread_unread r n (way_to s)))

filter_members : (p q : Step → Bool) (ss : List Step) → ((s : Step) → has s ss ≡ true → p s ≡ q s) → filter p ss ≡ filter q ss
filter_members p q [] same = refl
filter_members p q (s ∷ ss) same =
    ap (λ b. cond b (s ∷ filter p ss) (filter p ss)) (same s (at_head s ss))
    ∙ ap (λ (l : List Step). cond (q s) (s ∷ l) l) (filter_members p q ss (λ t is_in. same t (or_more (same_bytes t s) (has t ss) is_in)))

some_steps : (q : Step) (ss : List Step) → has q ss ≡ true → 0 < length ss
some_steps q [] e = absurd (false≢true e)
some_steps q (s ∷ ss) e = omega arith

-- what is left of a way behind the indexes in front
behind_rest : (levels depth : ℕ) (is : List ℕ) (q : Step) (rest : List ℕ) → length is ≤ levels → behind is (way levels depth q) ≡ Some rest → rest ≡ way (levels - length is) (depth + length is) q
behind_rest levels depth [] q rest le e =
    let all : levels - 0 ≡ levels = omega arith in
    let here : depth + 0 ≡ depth = omega arith in
    sym (ap (λ o. unwrap_or o rest) e) ∙ ap (λ l. way l depth q) (sym all) ∙ ap (λ d. way (levels - 0) d q) (sym here)
behind_rest zero depth (i ∷ is) q rest le e = absurd (omega (arith, le))
behind_rest (suc levels) depth (i ∷ is) q rest le e = elim (same_or_not i (place q depth)) [
  | inl same ↦
      let next : levels - length is ≡ suc levels - suc (length is) = omega arith in
      let deeper : suc depth + length is ≡ depth + suc (length is) = omega arith in
      behind_rest levels (suc depth) is q rest (omega (arith, le)) (sym (ap (λ b. cond b (behind is (way levels (suc depth) q)) None) (eq-eqb i (place q depth) same)) ∙ e)
      ∙ ap (λ l. way l (suc depth + length is) q) next ∙ ap (λ d. way (suc levels - suc (length is)) d q) deeper
  | inr apart ↦ absurd (false≢true (ap is_some (sym (ap (λ b. cond b (behind is (way levels (suc depth) q)) None) (ne_eqb i (place q depth) apart)) ∙ e)))
]

rest_of_way : (is : List ℕ) (q : Step) (rest : List ℕ) → length is < 51 → behind is (way_to q) ≡ Some rest → rest ≡ place q (length is) ∷ way (deepest - (length is + 1)) (length is + 1) q
unfolding way_to
rest_of_way is q rest lt e =
    let none : 0 + length is ≡ length is = omega arith in
    behind_rest deepest 0 is q rest (omega (arith, lt)) e ∙ ap (λ d. way (deepest - length is) d q) none ∙ next_way (length is) q lt

module _ {C R : Type 0} where
  module _ (is : List ℕ) (r : R) (root new : Part R) (steps : List Step) (es : List (Step × C)) (given : List (Child R)) (stands : Stands root steps es) (found : unread_in is root ≡ Some (r, []))
      (are : AreChildren (length is) (steps_under 0 is steps) given) (read : IsInodeRead is r given root new) where
    told : (q : Step) → has q (steps_at (length is) (place q (length is)) (steps_under 0 is steps)) ≡ true → (rest : List ℕ) → is_none (child_unread given (place q (length is) ∷ rest)) ≡ false
    told q is_in rest = by (child_in (place q (length is)) given) (are.2 (place q (length is)))
      where
        by : (o : Option (R × ℕ)) → count_by o ≡ length (steps_at (length is) (place q (length is)) (steps_under 0 is steps)) → is_none {T = R × List ℕ} (option_map (λ (c : R × ℕ). (c.0, rest)) o) ≡ false
        by None e = absurd (omega (arith, e, some_steps q (steps_at (length is) (place q (length is)) (steps_under 0 is steps)) is_in))
        by (Some c) e = refl

    behind_it : (q : Step) → has q steps ≡ true → (o : Option (List ℕ)) → behind is (way_to q) ≡ o → (unread_in (way_to q) new ≡ in_place (child_unread given) (unread_in (way_to q) root) o) → reaches root q ≡ reaches new q
    behind_it q is_in None e there = ap is_none (sym there)
    behind_it q is_in (Some rest) e there =
        let leads_there : leads 0 is q ≡ true = sym (on_way is q (omega (arith, are.0))) ∙ ap is_some e in
        let under = has_under q 0 is steps ∙ ap (λ b. b && has q steps) leads_there ∙ is_in in
        let at_child = has-filter (λ t. place t (length is) == place q (length is)) q (steps_under 0 is steps) ∙ ap (λ b. b && has q (steps_under 0 is steps)) (eq-eqb (place q (length is)) (place q (length is)) refl) ∙ under in
        cut_off is (way_to q) r root found (ap is_some e)
        ∙ sym (ap is_none there ∙ ap (λ l. is_none (child_unread given l)) (rest_of_way is q rest are.0 e) ∙ told q at_child (way (deepest - (length is + 1)) (length is + 1) q))

    pub stands_read : IsPart deepest 0 steps new → Stands new steps es
    stands_read shape = (stands.0, shape, stands.2 ∙ filter_members (reaches root) (reaches new) steps (λ q is_in. behind_it q is_in (behind is (way_to q)) refl (read (way_to q)).0))

-- What makes a part the one shape of its steps.
use Rattle.std.proofs.Common.{◌≡◌, map, ◌-◌, ◌≤◌, ◌<◌, ℕ, zero, suc, Bool, true, false, List, [], ◌∷◌, length, ◌+◌, ◌++◌, subst, sym, ap, ◌∙◌, refl, arith, rules, true≢false, take, get_or, filter}
use Rattle.std.specs.Prelude.{slice_get, Option, Some, nat_le, Vec, cond, not, ◌==◌}
use Rattle.std.specs.Global.{Global}
use Rattle.std.proofs.lemmas.List.Elements.{filter-append}
use Rattle.std.proofs.lemmas.List.Filters.{length-filter_both}
use Rattle.std.proofs.Math.Seq.{take-suc}
use Rattle.std.proofs.lemmas.List.{get_or-map, append-nil}
use Rattle.std.proofs.lemmas.Bool.{eq-eqb, ne_eqb}
use Rattle.sha2.specs.Sha256.{sha256}
use Rattle.ip_spec.specs.Path.{Step}
use Rattle.ip_spec.specs.Shape.{place, leaf_limit, deepest}
use Rattle.ip_shape.specs.Place.{place_in}
use Rattle.ip_shape.specs.Shape.{IsPart, ByTest, IsLeafOf, IsInodeOf, steps_at}
use Rattle.ip_shape.specs.declared.part.Part.{Part, out-Part}
use Rattle.ip_shape.specs.declared.part.Part.TheVariants as variant
use Rattle.ip_shape.specs.declared.part.Part.TheViews as view
use Rattle.ip_shape.specs.declared.part.Part.TheOpen as open_part
use Rattle.ip_shape.proofs.Digests.{in_digest}

pub filter_more : {X : Type 0} (p : X → Bool) (xs : List X) (i : ℕ) (d : X) → i < length xs
    → filter p (take (i + 1) xs) ≡ filter p (take i xs) ++ cond (p (get_or xs i d)) (get_or xs i d ∷ []) []
filter_more p xs i d lt =
    let next : i + 1 ≡ suc i = omega arith in
    ap (λ n. filter p (take n xs)) next ∙ ap (filter p) (take-suc xs i d lt) ∙ filter-append p (take i xs) (get_or xs i d ∷ [])

more_than : (n : ℕ) → 32 < n → nat_le n 32 ≡ false
more_than n lt = search rules

by_many : (b : Bool) → b ≡ false → (A B : Type 0) → B → ByTest b A B
by_many true e A B x = absurd (true≢false e)
by_many false e A B x = x

module _ {R : Type 0} where
  -- an inode of more than 32 steps whose parts are those of its children
  pub is_inode : (levels depth : ℕ) (steps : List Step) (part : Part R) → 32 < length steps
      → IsInodeOf (length steps) (λ i child. IsPart levels (suc depth) (steps_at depth i steps) child) (out-Part R part)
      → IsPart (suc levels) depth steps part
  is_inode levels depth steps part lt all =
      by_many (nat_le (length steps) leaf_limit) (more_than (length steps) lt) _ _ all

  pub out_inode : (known : Option R) (n : ℕ) (parts : Vec (Part R) Global) → out-Part R (view.Inode known n parts) ≡ open_part.Inode known n parts
  unfolding out-Part denote.Hole.Carrier.out
  out_inode known n parts = search (rules, view.the_lemmas)

  pub inode_made : (depth : ℕ) (steps : List Step) (known : Option R) (n : ℕ) (parts : Vec (Part R) Global) → depth < 51 → 32 < length steps → n ≡ length steps → length parts.items ≡ 32
      → ((i : ℕ) (child : Part R) → slice_get parts.items i ≡ Some child → IsPart (50 - depth) (depth + 1) (steps_at depth i steps) child)
      → IsPart (deepest - depth) depth steps (view.Inode known n parts)
  inode_made depth steps known n parts lt many total long all =
      let levels : suc (50 - depth) ≡ 51 - depth = omega arith in
      let next : depth + 1 ≡ suc depth = omega arith in
      subst (λ e. IsPart e depth steps (view.Inode known n parts)) levels
      (is_inode (50 - depth) depth steps (view.Inode known n parts) many
      (subst (λ e. IsInodeOf (length steps) (λ i child. IsPart (50 - depth) e (steps_at depth i steps) child) (out-Part R (view.Inode known n parts))) next (subst (IsInodeOf (length steps) (λ i child. IsPart (50 - depth) (depth + 1) (steps_at depth i steps) child)) (sym (out_inode known n parts)) (total, long, all))))

-- one step more, whose digest stands in a list of digests
module _ (depth index : ℕ) (steps : List Step) (digests : List (List ℕ)) (is : digests ≡ map sha256 steps) (i : ℕ) (lt : i < length steps) where
  here : Step → Bool
  here s = place s depth == index

  module _ (s : Step) (digest : List ℕ) (found : s ≡ get_or steps i s) (read : digest ≡ get_or digests i digest) where
    pub digest_of : digest ≡ sha256 s
    digest_of = read ∙ ap (λ (l : List (List ℕ)). get_or l i digest) is ∙ get_or-map sha256 steps i s digest lt ∙ ap sha256 (sym found)

    module _ (k : ℕ) (at : k ≡ place_in digest depth) where
      place_of : place s depth ≡ k
      place_of = sym (in_digest k digest s depth at digest_of)

      pub at_more : k ≡ index → steps_at depth index (take i steps) ++ s ∷ [] ≡ steps_at depth index (take (i + 1) steps)
      unfolding here
      at_more e =
          let yes : here s ≡ true = eq-eqb (place s depth) index (place_of ∙ e) in
          ap (λ b. steps_at depth index (take i steps) ++ cond b (s ∷ []) []) (sym yes)
          ∙ ap (λ t. steps_at depth index (take i steps) ++ cond (place t depth == index) (t ∷ []) []) found
          ∙ sym (filter_more (λ t. place t depth == index) steps i s lt)

      pub not_at_more : (k ≡ index → ⊥) → steps_at depth index (take i steps) ≡ steps_at depth index (take (i + 1) steps)
      unfolding here
      not_at_more e =
          let no : here s ≡ false = ne_eqb (place s depth) index (λ q. e (sym place_of ∙ q)) in
          sym (append-nil (steps_at depth index (take i steps)))
          ∙ ap (λ b. steps_at depth index (take i steps) ++ cond b (s ∷ []) []) (sym no)
          ∙ ap (λ t. steps_at depth index (take i steps) ++ cond (place t depth == index) (t ∷ []) []) found
          ∙ sym (filter_more (λ t. place t depth == index) steps i s lt)

module _ {R : Type 0} where
  pub out_leaf : (known : Option R) (held : Vec Step Global) → out-Part R (variant.Leaf known held) ≡ open_part.Leaf known held
  out_leaf known held = search (rules, view.the_lemmas)

by_few : (b : Bool) → b ≡ true → (A B : Type 0) → A → ByTest b A B
by_few true e A B x = x
by_few false e A B x = absurd (true≢false (sym e))

few_of : (b : Bool) (A B : Type 0) → ¬ B → ByTest b A B → A
few_of true A B never x = x
few_of false A B never x = absurd (never x)

many_of : (b : Bool) (A B : Type 0) → ¬ A → ByTest b A B → (b ≡ false) × B
many_of true A B never x = absurd (never x)
many_of false A B never x = (refl, x)

at_most : (n : ℕ) → n ≤ 32 → nat_le n 32 ≡ true
at_most n le = search rules

pub above : (n : ℕ) → nat_le n 32 ≡ false → 32 < n
above n e = search rules

module _ {R : Type 0} where
  pub out_unread : (r : R) (n : ℕ) → out-Part R (variant.Unread r n) ≡ open_part.Unread r n
  out_unread r n = search (rules, view.the_lemmas)

  pub leaf_holds : (levels depth : ℕ) (steps : List Step) (known : Option R) (held : Vec Step Global) → IsPart levels depth steps (variant.Leaf known held) → held.items ≡ steps
  leaf_holds zero depth steps known held is = subst (IsLeafOf steps) (out_leaf known held) is
  leaf_holds (suc levels) depth steps known held is =
      subst (IsLeafOf steps) (out_leaf known held)
      (few_of (nat_le (length steps) leaf_limit) _ _ (λ x. subst (IsInodeOf (length steps) (λ i child. IsPart levels (suc depth) (steps_at depth i steps) child)) (out_leaf known held) x) is)

  pub leaf_made : (levels depth : ℕ) (steps : List Step) (known : Option R) (held : Vec Step Global) → length steps ≤ 32 → held.items ≡ steps → IsPart levels depth steps (variant.Leaf known held)
  leaf_made zero depth steps known held few is = subst (IsLeafOf steps) (sym (out_leaf known held)) is
  leaf_made (suc levels) depth steps known held few is = by_few (nat_le (length steps) leaf_limit) (at_most (length steps) few) _ _ (subst (IsLeafOf steps) (sym (out_leaf known held)) is)

  pub deepest_made : (levels depth : ℕ) (steps : List Step) (known : Option R) (held : Vec Step Global) → levels ≡ 0 → held.items ≡ steps → IsPart levels depth steps (variant.Leaf known held)
  deepest_made zero depth steps known held none is = subst (IsLeafOf steps) (sym (out_leaf known held)) is
  deepest_made (suc levels) depth steps known held none is = absurd (omega (arith, none))

pub by_either : (b : Bool) (A B C : Type 0) → (A → C) → (B → C) → ByTest b A B → C
by_either true A B C at_true at_false x = at_true x
by_either false A B C at_true at_false x = at_false x

to_either : (b : Bool) (A B : Type 0) → A → B → ByTest b A B
to_either true A B x y = x
to_either false A B x y = y

few_is : (b : Bool) (A B : Type 0) → ¬ B → ByTest b A B → b ≡ true
few_is true A B never x = refl
few_is false A B never x = absurd (never x)

within : (n : ℕ) → nat_le n 32 ≡ true → n ≤ 32
within n e = search rules

module _ {R : Type 0} where
  leaf_few : (levels depth : ℕ) (steps : List Step) (known : Option R) (held : Vec Step Global) → IsPart (suc levels) depth steps (variant.Leaf known held) → length steps ≤ 32
  leaf_few levels depth steps known held is =
      within (length steps)
      (few_is (nat_le (length steps) leaf_limit) _ _ (λ x. subst (IsInodeOf (length steps) (λ i child. IsPart levels (suc depth) (steps_at depth i steps) child)) (out_leaf known held) x) is)

by_false : (b : Bool) → b ≡ false → (A B : Type 0) → ByTest b A B → B
by_false true e A B x = absurd (true≢false e)
by_false false e A B x = x

module _ {R : Type 0} where
  -- a part of more than 32 steps above depth 51
  pub many_part : (levels depth : ℕ) (steps : List Step) (part : Part R) → 32 < length steps → IsPart (suc levels) depth steps part
      → IsInodeOf (length steps) (λ i child. IsPart levels (suc depth) (steps_at depth i steps) child) (out-Part R part)
  many_part levels depth steps part many is = by_false (nat_le (length steps) leaf_limit) (more_than (length steps) many) _ _ is

by_true : (b : Bool) → b ≡ true → (A B : Type 0) → ByTest b A B → A
by_true true e A B x = x
by_true false e A B x = absurd (true≢false (sym e))

module _ {R : Type 0} where
  -- and one of at most 32
  pub few_part : (levels depth : ℕ) (steps : List Step) (part : Part R) → nat_le (length steps) leaf_limit ≡ true → IsPart (suc levels) depth steps part → IsLeafOf steps (out-Part R part)
  few_part levels depth steps part few is = by_true (nat_le (length steps) leaf_limit) few _ _ is

  -- a leaf of some of the steps of a leaf
  pub leaf_less : (levels depth : ℕ) (p : Step → Bool) (steps : List Step) (known own : Option R) (held left : Vec Step Global) → IsPart levels depth steps (variant.Leaf known held) → left.items ≡ filter p held.items
      → IsPart levels depth (filter p steps) (variant.Leaf own left)
  leaf_less zero depth p steps known own held left is e = deepest_made zero depth (filter p steps) own left refl (e ∙ ap (filter p) (leaf_holds zero depth steps known held is))
  leaf_less (suc levels) depth p steps known own held left is e =
      leaf_made (suc levels) depth (filter p steps) own left (omega (arith, leaf_few levels depth steps known held is, length-filter_both p (λ x. not (p x)) (λ _. refl) steps)) (e ∙ ap (filter p) (leaf_holds (suc levels) depth steps known held is))
  -- a leaf that is known elsewhere

module _ {R : Type 0} where
  pub leaf_again : (levels depth : ℕ) (steps : List Step) (known own : Option R) (held other : Vec Step Global) → other.items ≡ held.items → IsPart levels depth steps (variant.Leaf known held)
      → IsPart levels depth steps (variant.Leaf own other)
  leaf_again zero depth steps known own held other same is = deepest_made zero depth steps own other refl (same ∙ leaf_holds zero depth steps known held is)
  leaf_again (suc levels) depth steps known own held other same is =
      leaf_made (suc levels) depth steps own other (leaf_few levels depth steps known held is) (same ∙ leaf_holds (suc levels) depth steps known held is)

  -- the part at each index
  abbrev pub Children : ℕ → List Step → List (Part R) → Type 0
  Children depth steps parts = (i : ℕ) (child : Part R) → slice_get parts i ≡ Some child → IsPart (deepest - (depth + 1)) (depth + 1) (steps_at depth i steps) child

  pub inode_from : (depth : ℕ) (steps : List Step) (known : Option R) (n : ℕ) (parts : Vec (Part R) Global) → depth < 51 → 32 < length steps → n ≡ length steps → length parts.items ≡ 32 → Children depth steps parts.items
      → IsPart (deepest - depth) depth steps (view.Inode known n parts)
  inode_from depth steps known n parts lt many total long all =
      let levels : deepest - (depth + 1) ≡ 50 - depth = omega arith in
      inode_made depth steps known n parts lt many total long (λ i child is_at. subst (λ e. IsPart e (depth + 1) (steps_at depth i steps) child) levels (all i child is_at))

  inode_by : (levels depth : ℕ) (steps : List Step) (known : Option R) (n : ℕ) (parts : Vec (Part R) Global) → IsPart (suc levels) depth steps (view.Inode known n parts)
      → (32 < length steps) × IsInodeOf (length steps) (λ i child. IsPart levels (suc depth) (steps_at depth i steps) child) (open_part.Inode known n parts)
  inode_by levels depth steps known n parts is =
      let found = many_of (nat_le (length steps) leaf_limit) _ _ (λ x. subst (IsLeafOf steps) (out_inode known n parts) x) is in
      (above (length steps) found.0, subst (IsInodeOf (length steps) (λ i child. IsPart levels (suc depth) (steps_at depth i steps) child)) (out_inode known n parts) found.1)

  pub inode_holds : (depth : ℕ) (steps : List Step) (known : Option R) (n : ℕ) (parts : Vec (Part R) Global) → depth < 51 → IsPart (deepest - depth) depth steps (view.Inode known n parts)
      → (32 < length steps) × (n ≡ length steps) × (length parts.items ≡ 32) × Children depth steps parts.items
  inode_holds depth steps known n parts lt is =
      let levels : deepest - depth ≡ suc (deepest - (depth + 1)) = omega arith in
      let next : suc depth ≡ depth + 1 = omega arith in
      let found = inode_by (deepest - (depth + 1)) depth steps known n parts (subst (λ e. IsPart e depth steps (view.Inode known n parts)) levels is) in
      (found.0, found.1.0, found.1.1, λ i child is_at. subst (λ e. IsPart (deepest - (depth + 1)) e (steps_at depth i steps) child) next (found.1.2 i child is_at))

  -- at depth 51 no part is an inode
  pub no_inode : (levels depth : ℕ) (steps : List Step) (known : Option R) (n : ℕ) (parts : Vec (Part R) Global) → levels ≡ 0 → IsPart levels depth steps (view.Inode known n parts) → ⊥
  no_inode zero depth steps known n parts none is = subst (IsLeafOf steps) (out_inode known n parts) is
  no_inode (suc levels) depth steps known n parts none is = absurd (omega (arith, none))

  -- an unread part tells how many steps it has
  pub unread_counts : (levels depth : ℕ) (steps : List Step) (r : R) (n : ℕ) → IsPart levels depth steps (variant.Unread r n) → n ≡ length steps
  unread_counts zero depth steps r n is = subst (IsLeafOf steps) (out_unread r n) is
  unread_counts (suc levels) depth steps r n is =
      by_either (nat_le (length steps) leaf_limit) _ _ (n ≡ length steps) (λ x. subst (IsLeafOf steps) (out_unread r n) x)
      (λ x. subst (IsInodeOf (length steps) (λ i child. IsPart levels (suc depth) (steps_at depth i steps) child)) (out_unread r n) x) is

  -- and only that
  pub unread_made : (levels depth : ℕ) (steps : List Step) (r : R) (n : ℕ) → n ≡ length steps → IsPart levels depth steps (variant.Unread r n)
  unread_made zero depth steps r n e = subst (IsLeafOf steps) (sym (out_unread r n)) e
  unread_made (suc levels) depth steps r n e =
      to_either (nat_le (length steps) leaf_limit) _ _ (subst (IsLeafOf steps) (sym (out_unread r n)) e)
      (subst (IsInodeOf (length steps) (λ i child. IsPart levels (suc depth) (steps_at depth i steps) child)) (sym (out_unread r n)) e)

  pub is_above : (depth : ℕ) (steps : List Step) (known : Option R) (n : ℕ) (parts : Vec (Part R) Global) → IsPart (deepest - depth) depth steps (view.Inode known n parts) → depth < 51
  is_above depth steps known n parts is = by (deepest - depth) refl is
    where
      by : (levels : ℕ) → levels ≡ deepest - depth → IsPart levels depth steps (view.Inode known n parts) → depth < 51
      by zero e x = absurd (no_inode zero depth steps known n parts refl x)
      by (suc levels) e x = omega (arith, e)

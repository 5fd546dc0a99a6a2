-- What an edit leaves of what is unread and of what is known.
use Rattle.std.proofs.Common.{◌≡◌, ◌≢◌, ◌<◌, ℕ, zero, suc, ◌+◌, ◌-◌, Bool, true, false, List, [], ◌∷◌, ◌++◌, length, ◌⊎◌, inl, inr, get_or, subst, sym, ap, ◌∙◌, refl, arith}
use Rattle.std.proofs.Math.ListN.{set}
use Rattle.std.specs.Prelude.{slice_get, Option, Some, None, Result, Ok, Err, IfOk, IfErr, OnOk, OnErr, Vec, cond, ◌==◌, ◌&&◌, ◌||◌, is_some, is_err, option_and_then, option_map, unwrap_or}
use Rattle.std.proofs.lemmas.List.{length-append}
use Rattle.std.specs.Global.{Global}
use Rattle.std.specs.Vec.{with_item}
use Rattle.std.proofs.lemmas.Option.{slice_get-get_or}
use Rattle.std.proofs.lemmas.Bool.{eq-eqb, ne_eqb, eqb-true, eqb-false, false≢true}
use Rattle.ip_spec.specs.Path.{Step}
use Rattle.ip_spec.specs.Shape.{place, deepest}
use Rattle.ip_spec.specs.View.{leads}
use Rattle.ip_shape.specs.Shape.{steps_at}
use Rattle.ip_shape.specs.Loaded.{unread_in, unread_here, unread_below, known_in, known_here, known_below, behind, is_under, join_of, IsRead, IsFresh, IsUnchanged, IsEdited, IsLessened}
use Rattle.ip_shape.specs.declared.part.Part.{Part}
use Rattle.ip_shape.specs.declared.part.Part.TheVariants as variant
use Rattle.ip_shape.specs.declared.part.Part.TheViews as view
use Rattle.ip_shape.proofs.Shapes.{out_leaf, out_inode, out_unread}

pub whenever_ok : {A B : Type 0} (r : Result A B) (X : Type 0) → X → OnOk r X
whenever_ok (Ok a) X x = x
whenever_ok (Err b) X x = tt

pub whenever_err : {A B : Type 0} (r : Result A B) (X : Type 0) → X → OnErr r X
whenever_err (Ok a) X x = tt
whenever_err (Err b) X x = x

pub taken_ok : {A B : Type 0} (r : Result A B) (X : Type 0) → is_err r ≡ false → OnOk r X → X
taken_ok (Ok a) X e x = x
taken_ok (Err b) X e x = absurd (false≢true (sym e))

pub taken_err : {A B : Type 0} (r : Result A B) (X : Type 0) → is_err r ≡ true → OnErr r X → X
taken_err (Ok a) X e x = absurd (false≢true e)
taken_err (Err b) X e x = x

pub on_ok : {A B : Type 0} (r : Result A B) (X Y : Type 0) → (X → Y) → OnOk r X → OnOk r Y
on_ok (Ok a) X Y to x = to x
on_ok (Err b) X Y to x = tt

cond_same : {X : Type 0} (b : Bool) (x : X) → cond b x x ≡ x
cond_same true x = refl
cond_same false x = refl

pub same_or_not : (j i : ℕ) → (j ≡ i) ⊎ (j ≢ i)
same_or_not j i = by (j == i) refl
  where
    by : (b : Bool) → (j == i) ≡ b → (j ≡ i) ⊎ (j ≢ i)
    by true e = inl (eqb-true j i e)
    by false e = inr (eqb-false j i e)

pub set_here : {A : Type 0} (xs : List A) (i : ℕ) (a b : A) → i < length xs → slice_get (set (set xs i a) i b) i ≡ Some b
set_here [] i a b lt = absurd (omega (arith, lt))
set_here (x ∷ xs) zero a b lt = refl
set_here (x ∷ xs) (suc i) a b lt = set_here xs i a b (omega (arith, lt))

pub set_other : {A : Type 0} (xs : List A) (i j : ℕ) (a b : A) → j ≢ i → slice_get (set (set xs i a) i b) j ≡ slice_get xs j
set_other [] i j a b ne = refl
set_other (x ∷ xs) zero zero a b ne = absurd (ne refl)
set_other (x ∷ xs) zero (suc j) a b ne = refl
set_other (x ∷ xs) (suc i) zero a b ne = refl
set_other (x ∷ xs) (suc i) (suc j) a b ne = set_other xs i j a b (λ e. ne (ap suc e))

pub found_below : {A : Type 0} (xs : List A) (i : ℕ) (x : A) → slice_get xs i ≡ Some x → i < length xs
found_below [] i x e = absurd (false≢true (ap is_some e))
found_below (y ∷ ys) zero x e = omega arith
found_below (y ∷ ys) (suc i) x e = omega (arith, found_below ys i x e)

found_in : {A : Type 0} (xs : List A) (i : ℕ) → i < length xs → (x : A) × (slice_get xs i ≡ Some x)
found_in [] i lt = absurd (omega (arith, lt))
found_in (y ∷ ys) zero lt = (y, refl)
found_in (y ∷ ys) (suc i) lt = found_in ys i (omega (arith, lt))

-- one more at the end
pub grown_by : {A : Type 0} (P : ℕ → A → Type 0) (xs : List A) (x : A) → ((i : ℕ) (y : A) → slice_get xs i ≡ Some y → P i y) → P (length xs) x
    → (i : ℕ) (y : A) → slice_get (xs ++ x ∷ []) i ≡ Some y → P i y
grown_by P [] x all last zero y e = subst (P 0) (ap (λ o. unwrap_or o x) e) last
grown_by P [] x all last (suc i) y e = absurd (false≢true (ap is_some e))
grown_by P (z ∷ zs) x all last zero y e = all 0 y e
grown_by P (z ∷ zs) x all last (suc i) y e = grown_by (λ j. P (suc j)) zs x (λ j. all (suc j)) last i y e

pub longer : {A : Type 0} (xs new : List A) (x : A) (n : ℕ) → new ≡ xs ++ x ∷ [] → length xs ≡ n → length new ≡ n + 1
longer xs new x n is long = ap length is ∙ length-append xs (x ∷ []) ∙ ap (λ k. k + 1) long

by_found : {A B : Type 0} (f : A → Option B) (o : Option A) → ((x : A) → o ≡ Some x → f x ≡ None) → option_and_then f o ≡ None
by_found f None none = refl
by_found f (Some x) none = none x refl

module _ {R : Type 0} where
  pub unread_leaf : (known : Option R) (held : Vec Step Global) (is : List ℕ) → unread_in is (variant.Leaf known held) ≡ None
  unread_leaf known held [] = ap unread_here (out_leaf known held)
  unread_leaf known held (i ∷ is) = ap (unread_below (unread_in is) i is) (out_leaf known held)

  pub known_leaf : (known : Option R) (held : Vec Step Global) → known_in [] (variant.Leaf known held) ≡ known
  known_leaf known held = ap known_here (out_leaf known held)

  pub past_leaf : (known : Option R) (held : Vec Step Global) (i : ℕ) (is : List ℕ) → known_in (i ∷ is) (variant.Leaf known held) ≡ None
  past_leaf known held i is = ap (known_below (known_in is) i) (out_leaf known held)

  pub unread_inode : (known : Option R) (n : ℕ) (parts : Vec (Part R) Global) → unread_in [] (view.Inode known n parts) ≡ None
  unread_inode known n parts = ap unread_here (out_inode known n parts)

  pub known_inode : (known : Option R) (n : ℕ) (parts : Vec (Part R) Global) → known_in [] (view.Inode known n parts) ≡ known
  known_inode known n parts = ap known_here (out_inode known n parts)

  pub unread_child : (known : Option R) (n : ℕ) (parts : Vec (Part R) Global) (i : ℕ) (is : List ℕ) → unread_in (i ∷ is) (view.Inode known n parts) ≡ option_and_then (unread_in is) (slice_get parts.items i)
  unread_child known n parts i is = ap (unread_below (unread_in is) i is) (out_inode known n parts)

  pub known_child : (known : Option R) (n : ℕ) (parts : Vec (Part R) Global) (i : ℕ) (is : List ℕ) → known_in (i ∷ is) (view.Inode known n parts) ≡ option_and_then (known_in is) (slice_get parts.items i)
  known_child known n parts i is = ap (known_below (known_in is) i) (out_inode known n parts)

  pub known_unread : (r : R) (n : ℕ) (is : List ℕ) → known_in is (variant.Unread r n) ≡ None
  known_unread r n [] = ap known_here (out_unread r n)
  known_unread r n (i ∷ is) = ap (known_below (known_in is) i) (out_unread r n)

  pub unread_unread : (r : R) (n : ℕ) (is : List ℕ) → unread_in is (variant.Unread r n) ≡ Some (r, is)
  unread_unread r n [] = ap unread_here (out_unread r n)
  unread_unread r n (i ∷ is) = ap (unread_below (unread_in is) i is) (out_unread r n)

  pub unread_edited : (depth : ℕ) (s : Step) (r : R) (n : ℕ) → IsEdited depth s (variant.Unread r n) (variant.Unread r n)
  unread_edited depth s r n is = (refl, known_unread r n is ∙ sym (ap (cond (leads depth is s) None) (known_unread r n is) ∙ cond_same (leads depth is s) None))

  -- nothing is unread, and nothing known
  pub fresh_leaf : (own : Option R) (held : Vec Step Global) → own ≡ None → IsFresh (variant.Leaf own held)
  fresh_leaf own held e [] = (unread_leaf own held [], known_leaf own held ∙ e)
  fresh_leaf own held e (i ∷ is) = (unread_leaf own held (i ∷ is), past_leaf own held i is)

  pub fresh_inode : (own : Option R) (n : ℕ) (parts : Vec (Part R) Global) → own ≡ None → ((i : ℕ) (child : Part R) → slice_get parts.items i ≡ Some child → IsFresh child) → IsFresh (view.Inode own n parts)
  fresh_inode own n parts e all [] = (unread_inode own n parts, known_inode own n parts ∙ e)
  fresh_inode own n parts e all (i ∷ is) = (
    unread_child own n parts i is ∙ by_found (unread_in is) (slice_get parts.items i) (λ child found. (all i child found is).0),
    known_child own n parts i is ∙ by_found (known_in is) (slice_get parts.items i) (λ child found. (all i child found is).1),
  )

  pub read_inode : (known : Option R) (n : ℕ) (parts : Vec (Part R) Global) → ((i : ℕ) (child : Part R) → slice_get parts.items i ≡ Some child → IsRead child) → IsRead (view.Inode known n parts)
  read_inode known n parts all [] = unread_inode known n parts
  read_inode known n parts all (i ∷ is) = unread_child known n parts i is ∙ by_found (unread_in is) (slice_get parts.items i) (λ child found. all i child found is)

  -- an inode once more
  module _ (known : Option R) (n : ℕ) (parts copies : Vec (Part R) Global) (long : length copies.items ≡ length parts.items)
      (all : (i : ℕ) (copy : Part R) → slice_get copies.items i ≡ Some copy → (child : Part R) → slice_get parts.items i ≡ Some child → IsUnchanged child copy) where
    both_there : {U : Type 0} (f : Part R → Option U) (i : ℕ) → ((child copy : Part R) → IsUnchanged child copy → f copy ≡ f child)
        → option_and_then f (slice_get copies.items i) ≡ option_and_then f (slice_get parts.items i)
    both_there f i same = at (slice_get parts.items i) (slice_get copies.items i) refl refl
      where
        at : (o p : Option (Part R)) → slice_get parts.items i ≡ o → slice_get copies.items i ≡ p → option_and_then f p ≡ option_and_then f o
        at None None d e = refl
        at None (Some copy) d e = absurd (false≢true (ap is_some (sym d ∙ (found_in parts.items i (omega (arith, long, found_below copies.items i copy e))).1)))
        at (Some child) None d e = absurd (false≢true (ap is_some (sym e ∙ (found_in copies.items i (omega (arith, long, found_below parts.items i child d))).1)))
        at (Some child) (Some copy) d e = same child copy (all i copy e child d)

    pub inode_copied : IsUnchanged (view.Inode known n parts) (view.Inode known n copies)
    inode_copied [] = (unread_inode known n copies ∙ sym (unread_inode known n parts), known_inode known n copies ∙ sym (known_inode known n parts))
    inode_copied (i ∷ is) = (
      unread_child known n copies i is ∙ both_there (unread_in is) i (λ child copy same. (same is).0) ∙ sym (unread_child known n parts i is),
      known_child known n copies i is ∙ both_there (known_in is) i (λ child copy same. (same is).1) ∙ sym (known_child known n parts i is),
    )

  pub found_is : (parts : List (Part R)) (i j : ℕ) (x child : Part R) → i ≡ j → j < length parts → x ≡ get_or parts j x → slice_get parts i ≡ Some child → x ≡ child
  found_is parts i j x child same within at e = ap (λ o. unwrap_or o x) (ap Some at ∙ sym (slice_get-get_or parts j x within) ∙ ap (slice_get parts) (sym same) ∙ e)

  pub one_more_read : (parts : List (Part R)) (i : ℕ) (x : Part R) → i < length parts → x ≡ get_or parts i x → ((k : ℕ) (child : Part R) → k < i → slice_get parts k ≡ Some child → IsRead child) → IsRead x
      → (k : ℕ) (child : Part R) → k < i + 1 → slice_get parts k ≡ Some child → IsRead child
  one_more_read parts i x within at before read k child lt e = elim (same_or_not k i) [
    | inl same ↦ subst (λ (p : Part R). IsRead p) (ap (λ o. unwrap_or o x) (ap Some at ∙ sym (slice_get-get_or parts i x within) ∙ ap (slice_get parts) (sym same) ∙ e)) read
    | inr ne ↦ before k child (omega (arith, lt, ne)) e
  ]

  -- an edit makes nothing known
  pub still_fresh : (depth : ℕ) (s : Step) (old new : Part R) → IsFresh old → IsEdited depth s old new → IsFresh new
  still_fresh depth s old new fresh edited is = (
    (edited is).0 ∙ (fresh is).0,
    (edited is).1 ∙ ap (cond (leads depth is s) None) (fresh is).1 ∙ cond_same (leads depth is s) None,
  )

  -- the same parts are unread, and those are known that were, but where a test says
  abbrev pub IsBy : (List ℕ → Bool) → Part R → Part R → Type 0
  IsBy forgets old new = (is : List ℕ) → (unread_in is new ≡ unread_in is old) × (known_in is new ≡ cond (forgets is) None (known_in is old))

  -- a leaf becomes a part of which nothing is known
  pub leaf_by : (forgets : List ℕ → Bool) (known : Option R) (held : Vec Step Global) (new : Part R) → forgets [] ≡ true → IsFresh new → IsBy forgets (variant.Leaf known held) new
  leaf_by forgets known held new top fresh [] = ((fresh []).0 ∙ sym (unread_leaf known held []), (fresh []).1 ∙ ap (λ b. cond b None (known_in [] (variant.Leaf known held))) (sym top))
  leaf_by forgets known held new top fresh (i ∷ is) = (
    (fresh (i ∷ is)).0 ∙ sym (unread_leaf known held (i ∷ is)),
    (fresh (i ∷ is)).1 ∙ sym (ap (cond (forgets (i ∷ is)) None) (past_leaf known held i is) ∙ cond_same (forgets (i ∷ is)) None),
  )

  pub leaf_edited : (depth : ℕ) (s : Step) (known : Option R) (held : Vec Step Global) (new : Part R) → IsFresh new → IsEdited depth s (variant.Leaf known held) new
  leaf_edited depth s known held new fresh = leaf_by (λ is. leads depth is s) known held new refl fresh

  pub leaf_result : (depth : ℕ) (s : Step) (known : Option R) (held : Vec Step Global) (old : Part R) (r : Result (Part R) (Part R)) → old ≡ variant.Leaf known held → IfOk r IsFresh → IfOk r (IsEdited depth s old)
  leaf_result depth s known held old (Ok new) e fresh = subst (λ (p : Part R). IsEdited depth s p new) (sym e) (leaf_edited depth s known held new fresh)
  leaf_result depth s known held old (Err same) e fresh = tt

  pub leaf_lessened : (levels depth : ℕ) (s : Step) (steps : List Step) (known : Option R) (held : Vec Step Global) (new : Part R) → IsFresh new → IsLessened levels depth s steps (variant.Leaf known held) new
  leaf_lessened levels depth s steps known held new fresh = leaf_by (λ is. leads depth is s || is_under (join_of levels depth s steps) is) known held new refl fresh

  pub leaf_unchanged : (known : Option R) (held other : Vec Step Global) → IsUnchanged (variant.Leaf known held) (variant.Leaf known other)
  leaf_unchanged known held other [] = (unread_leaf known other [] ∙ sym (unread_leaf known held []), known_leaf known other ∙ sym (known_leaf known held))
  leaf_unchanged known held other (i ∷ is) = (unread_leaf known other (i ∷ is) ∙ sym (unread_leaf known held (i ∷ is)), past_leaf known other i is ∙ sym (past_leaf known held i is))

  -- a part that was read whole becomes a leaf
  pub joined_by : (levels depth : ℕ) (s : Step) (steps : List Step) (old new : Part R) → length steps ≡ 33 → IsRead old → IsFresh new → IsLessened (suc levels) depth s steps old new
  joined_by levels depth s steps old new long read fresh = all
    where
      here : join_of (suc levels) depth s steps ≡ Some []
      here = ap (λ b. cond b (Some []) (option_map (λ is. place s depth ∷ is) (join_of levels (suc depth) s (steps_at depth (place s depth) steps)))) (eq-eqb (length steps) 33 long)

      all : IsLessened (suc levels) depth s steps old new
      all [] = ((fresh []).0 ∙ sym (read []), (fresh []).1)
      all (i ∷ is) = (
        (fresh (i ∷ is)).0 ∙ sym (read (i ∷ is)),
        (fresh (i ∷ is)).1 ∙ sym (ap (λ o. cond (leads depth (i ∷ is) s || is_under o (i ∷ is)) None (known_in (i ∷ is) old)) here ∙ or_true (leads depth (i ∷ is) s) (known_in (i ∷ is) old)),
      )
        where
          or_true : (b : Bool) (o : Option R) → cond (b || true) None o ≡ None
          or_true true o = refl
          or_true false o = refl

  pub join_result : (depth : ℕ) (s : Step) (steps : List Step) (part : Part R) (r : Result (Part R) (Part R)) → depth < 51 → length steps ≡ 33 → OnOk r (IsRead part) → IfOk r IsFresh
      → IfOk r (IsLessened (deepest - depth) depth s steps part)
  join_result depth s steps part (Ok new) lt long read fresh =
      let levels : suc (deepest - (depth + 1)) ≡ deepest - depth = omega arith in
      subst (λ l. IsLessened l depth s steps part new) levels (joined_by (deepest - (depth + 1)) depth s steps part new long read fresh)
  join_result depth s steps part (Err same) lt long read fresh = tt

  pub same_result : (P : Part R → Type 0) (part : Part R) (r : Result (Part R) (Part R)) → P part → IfErr r (λ same. same ≡ part) → IfErr r P
  same_result P part (Ok new) holds same = tt
  same_result P part (Err p) holds same = subst P (sym same) holds

  module _ (known own : Option R) (n m : ℕ) (parts : Vec (Part R) Global) (i : ℕ) (a old b : Part R) (lt : i < length parts.items) (read : slice_get parts.items i ≡ Some old) where
    new : Part R
    new = view.Inode own m (with_item (with_item parts i a) i b)

    module _ (forgets below : List ℕ → Bool) (here : (is : List ℕ) → forgets (i ∷ is) ≡ below is) (other : (j : ℕ) (is : List ℕ) → j ≢ i → forgets (j ∷ is) ≡ false) (child : IsBy below old b) where
      at_child : (is : List ℕ) → (unread_in (i ∷ is) new ≡ unread_in (i ∷ is) (view.Inode known n parts)) × (known_in (i ∷ is) new ≡ cond (forgets (i ∷ is)) None (known_in (i ∷ is) (view.Inode known n parts)))
      unfolding new
      at_child is = (
        unread_child own m _ i is ∙ ap (option_and_then (unread_in is)) (set_here parts.items i a b lt) ∙ (child is).0 ∙ sym (unread_child known n parts i is ∙ ap (option_and_then (unread_in is)) read),
        known_child own m _ i is ∙ ap (option_and_then (known_in is)) (set_here parts.items i a b lt) ∙ (child is).1 ∙ ap (λ c. cond c None (known_in is old)) (sym (here is))
            ∙ ap (cond (forgets (i ∷ is)) None) (sym (known_child known n parts i is ∙ ap (option_and_then (known_in is)) read)),
      )

      at_others : (j : ℕ) (is : List ℕ) → j ≢ i → (unread_in (j ∷ is) new ≡ unread_in (j ∷ is) (view.Inode known n parts)) × (known_in (j ∷ is) new ≡ cond (forgets (j ∷ is)) None (known_in (j ∷ is) (view.Inode known n parts)))
      unfolding new
      at_others j is ne = (
        unread_child own m _ j is ∙ ap (option_and_then (unread_in is)) (set_other parts.items i j a b ne) ∙ sym (unread_child known n parts j is),
        known_child own m _ j is ∙ ap (option_and_then (known_in is)) (set_other parts.items i j a b ne) ∙ sym (known_child known n parts j is) ∙ ap (λ c. cond c None (known_in (j ∷ is) (view.Inode known n parts))) (sym (other j is ne)),
      )

      pub inode_by : own ≡ cond (forgets []) None known → IsBy forgets (view.Inode known n parts) (view.Inode own m (with_item (with_item parts i a) i b))
      unfolding new
      inode_by top [] = (unread_inode own m _ ∙ sym (unread_inode known n parts), known_inode own m _ ∙ top ∙ ap (cond (forgets []) None) (sym (known_inode known n parts)))
      inode_by top (j ∷ is) = elim (same_or_not j i) [
        | inl e ↦ subst (λ k. (unread_in (k ∷ is) new ≡ unread_in (k ∷ is) (view.Inode known n parts)) × (known_in (k ∷ is) new ≡ cond (forgets (k ∷ is)) None (known_in (k ∷ is) (view.Inode known n parts)))) (sym e) (at_child is)
        | inr ne ↦ at_others j is ne
      ]

    pub inode_unchanged : own ≡ known → IsUnchanged old b → IsUnchanged (view.Inode known n parts) (view.Inode own m (with_item (with_item parts i a) i b))
    inode_unchanged same child is = inode_by (λ _. false) (λ _. false) (λ _. refl) (λ _ _ _. refl) child same is

    pub inode_edited : (depth : ℕ) (s : Step) → i ≡ place s depth → own ≡ None → IsEdited (depth + 1) s old b → IsEdited depth s (view.Inode known n parts) (view.Inode own m (with_item (with_item parts i a) i b))
    inode_edited depth s at none child =
        let next : suc depth ≡ depth + 1 = omega arith in
        inode_by (λ is. leads depth is s) (λ is. leads (depth + 1) is s)
        (λ is. ap (λ c. c && leads (suc depth) is s) (eq-eqb (place s depth) i (sym at)) ∙ ap (λ d. leads d is s) next)
        (λ j is ne. ap (λ c. c && leads (suc depth) is s) (ne_eqb (place s depth) j (λ e. ne (sym e ∙ sym at)))) child none

    under_map : (k j : ℕ) (o : Option (List ℕ)) (is : List ℕ) → is_under (option_map (λ front. k ∷ front) o) (j ∷ is) ≡ ((k == j) && is_under o is)
    under_map k j None is = elim (k == j) as (λ c. false ≡ (c && false)) [ true ↦ refl | false ↦ refl ]
    under_map k j (Some front) is = elim (k == j) as (λ c. is_some (cond c (behind front is) None) ≡ (c && is_some (behind front is))) [ true ↦ refl | false ↦ refl ]

    pub inode_lessened : (levels depth : ℕ) (s : Step) (steps : List Step) → i ≡ place s depth → own ≡ None → length steps ≢ 33 → IsLessened levels (depth + 1) s (steps_at depth i steps) old b
        → IsLessened (suc levels) depth s steps (view.Inode known n parts) (view.Inode own m (with_item (with_item parts i a) i b))
    inode_lessened levels depth s steps at none long child =
        let next : suc depth ≡ depth + 1 = omega arith in
        let deeper = join_of levels (suc depth) s (steps_at depth (place s depth) steps) in
        let there : join_of (suc levels) depth s steps ≡ option_map (λ front. place s depth ∷ front) deeper = ap (λ c. cond c (Some []) (option_map (λ front. place s depth ∷ front) deeper)) (ne_eqb (length steps) 33 long) in
        let at_one : (j : ℕ) (is : List ℕ) → (leads depth (j ∷ is) s || is_under (join_of (suc levels) depth s steps) (j ∷ is)) ≡ (((place s depth == j) && leads (suc depth) is s) || ((place s depth == j) && is_under deeper is)) =
        λ j is. ap (λ o. leads depth (j ∷ is) s || is_under o (j ∷ is)) there ∙ ap (λ c. leads depth (j ∷ is) s || c) (under_map (place s depth) j deeper is) in
        inode_by (λ is. leads depth is s || is_under (join_of (suc levels) depth s steps) is) (λ is. leads (depth + 1) is s || is_under (join_of levels (depth + 1) s (steps_at depth i steps)) is)
        (λ is. at_one i is ∙ ap (λ c. (c && leads (suc depth) is s) || (c && is_under deeper is)) (eq-eqb (place s depth) i (sym at))
        ∙ ap (λ k. leads (suc depth) is s || is_under (join_of levels (suc depth) s (steps_at depth k steps)) is) (sym at)
        ∙ ap (λ d. leads d is s || is_under (join_of levels d s (steps_at depth i steps)) is) next)
        (λ j is ne. at_one j is ∙ ap (λ c. (c && leads (suc depth) is s) || (c && is_under deeper is)) (ne_eqb (place s depth) j (λ e. ne (sym e ∙ sym at)))) child none

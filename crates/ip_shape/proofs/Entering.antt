-- Ways to what is not read, and what stands there once it is.
use Rattle.std.proofs.Common.{◌≡◌, ◌≢◌, ◌<◌, ◌≤◌, ◌-◌, ℕ, zero, suc, ◌+◌, true, List, [], ◌∷◌, ◌++◌, length, take, drop, subst, sym, ap, ◌∙◌, refl, arith, get_or, inl, inr}
use Rattle.std.specs.Prelude.{slice_get, Option, Some, None, Vec, cond, ◌==◌, is_some, option_and_then, unwrap_or}
use Rattle.std.specs.Global.{Global}
use Rattle.std.specs.Vec.{with_item}
use Rattle.std.proofs.lemmas.Bool.{eq-eqb, ne_eqb, false≢true}
use Rattle.std.proofs.Math.Seq.{take-suc}
use Rattle.ip_spec.specs.Path.{Step}
use Rattle.ip_spec.specs.Shape.{place, deepest}
use Rattle.ip_shape.specs.Loaded.{unread_in, known_in, way, way_to, behind}
use Rattle.ip_shape.specs.Reading.{IsUnreadOn, IsEntered, Steps, in_place, spelled_by, steps_under}
use Rattle.ip_shape.specs.Shape.{IsPart, steps_at}
use Rattle.ip_shape.specs.declared.reading.Content.{Content}
use Rattle.ip_shape.specs.declared.part.Part.{Part}
use Rattle.ip_shape.specs.declared.part.Part.TheVariants as variant
use Rattle.ip_shape.specs.declared.part.Part.TheViews as view
use Rattle.ip_shape.proofs.Ways.{same_or_not, set_here, set_other, known_inode, known_child, unread_leaf, unread_inode, unread_child, unread_unread}

index_at : (levels depth i : ℕ) (s : Step) → i < levels → get_or (way levels depth s) i 0 ≡ place s (depth + i)
index_at zero depth i s lt = absurd (omega (arith, lt))
index_at (suc levels) depth zero s lt = ap (place s) (omega arith)
index_at (suc levels) depth (suc i) s lt = index_at levels (suc depth) i s (omega (arith, lt)) ∙ ap (place s) (omega arith)

pub long_way : (levels depth : ℕ) (s : Step) → length (way levels depth s) ≡ levels
long_way zero depth s = refl
long_way (suc levels) depth s = ap suc (long_way levels (suc depth) s)

-- one index more on the way to a step
pub one_index : (i k : ℕ) (s : Step) (indexes new : List ℕ) → i < 51 → k ≡ place s i → indexes ≡ take i (way_to s) → new ≡ indexes ++ k ∷ [] → new ≡ take (i + 1) (way_to s)
unfolding way_to
one_index i k s indexes new lt at is pushed = by deepest refl
  where
    by : (levels : ℕ) → levels ≡ deepest → new ≡ take (i + 1) (way deepest 0 s)
    by levels e =
        let next : suc i ≡ i + 1 = omega arith in
        subst (λ l. new ≡ take (i + 1) (way l 0 s)) e
        (pushed ∙ ap (λ l. l ++ k ∷ []) (is ∙ ap (λ l. take i (way l 0 s)) (sym e)) ∙ ap (λ j. take i (way levels 0 s) ++ j ∷ []) (at ∙ ap (place s) (omega arith) ∙ sym (index_at levels 0 i s (omega (arith, lt, e))))
        ∙ sym (take-suc (way levels 0 s) i 0 (omega (arith, lt, e, long_way levels 0 s))) ∙ ap (λ j. take j (way levels 0 s)) next)

behind_take : (n : ℕ) (is : List ℕ) → is_some (behind (take n is) is) ≡ true
behind_take zero is = refl
behind_take (suc n) [] = refl
behind_take (suc n) (i ∷ is) = ap (λ b. is_some (cond b (behind (take n is) is) None)) (eq-eqb i i refl) ∙ behind_take n is

pub none_past : {A : Type 0} (xs : List A) (i : ℕ) → length xs ≤ i → slice_get xs i ≡ None
none_past [] i le = refl
none_past (x ∷ xs) zero le = absurd (omega (arith, le))
none_past (x ∷ xs) (suc i) le = none_past xs i (omega (arith, le))

pub next_way : (depth : ℕ) (s : Step) → depth < 51 → way (deepest - depth) depth s ≡ place s depth ∷ way (deepest - (depth + 1)) (depth + 1) s
next_way depth s lt =
    let levels : deepest - depth ≡ suc (deepest - (depth + 1)) = omega arith in
    let next : suc depth ≡ depth + 1 = omega arith in
    ap (λ l. way l depth s) levels ∙ ap (λ d. place s depth ∷ way (deepest - (depth + 1)) d s) next

module _ {R : Type 0} where
  -- on the way through an inode
  module _ (depth : ℕ) (s : Step) (known : Option R) (n : ℕ) (parts : Vec (Part R) Global) (part : Part R) (i : ℕ) (lt : depth < 51) (is : part ≡ view.Inode known n parts) (at : i ≡ place s depth) where
    through : (q : List ℕ) → unread_in (place s depth ∷ q) part ≡ option_and_then (unread_in q) (slice_get parts.items i)
    through q = ap (unread_in (place s depth ∷ q)) is ∙ unread_child known n parts (place s depth) q ∙ ap (λ k. option_and_then (unread_in q) (slice_get parts.items k)) (sym at)

    pub into_way : (child : Part R) → slice_get parts.items i ≡ Some child → unread_in (way (deepest - depth) depth s) part ≡ unread_in (way (deepest - (depth + 1)) (depth + 1) s) child
    into_way child read = ap (λ w. unread_in w part) (next_way depth s lt) ∙ through (way (deepest - (depth + 1)) (depth + 1) s) ∙ ap (option_and_then (unread_in (way (deepest - (depth + 1)) (depth + 1) s))) read

    pub no_child : length parts.items ≤ i → unread_in (way (deepest - depth) depth s) part ≡ None
    no_child le = ap (λ w. unread_in w part) (next_way depth s lt) ∙ through (way (deepest - (depth + 1)) (depth + 1) s) ∙ ap (option_and_then (unread_in (way (deepest - (depth + 1)) (depth + 1) s))) (none_past parts.items i le)

    pub on_child : (child : Part R) (found : Option (ℕ × R)) → slice_get parts.items i ≡ Some child → IsUnreadOn (depth + 1) (way (deepest - (depth + 1)) (depth + 1) s) child found
        → IsUnreadOn depth (way (deepest - depth) depth s) part found
    on_child child None read none =
        ap (λ w. unread_in w part) (next_way depth s lt) ∙ through (way (deepest - (depth + 1)) (depth + 1) s) ∙ ap (option_and_then (unread_in (way (deepest - (depth + 1)) (depth + 1) s))) read ∙ none
    on_child child (Some f) read some =
        let first : f.0 - depth ≡ suc (f.0 - (depth + 1)) = omega (arith, some.0) in
        let rest = take (f.0 - (depth + 1)) (way (deepest - (depth + 1)) (depth + 1) s) in (
          omega (arith, some.0),
          ap (λ w. unread_in (take (f.0 - depth) w) part) (next_way depth s lt) ∙ ap (λ k. unread_in (take k (place s depth ∷ way (deepest - (depth + 1)) (depth + 1) s)) part) first ∙ through rest
              ∙ ap (option_and_then (unread_in rest)) read ∙ some.1,
        )

  pub at_unread : (depth : ℕ) (is : List ℕ) (r : R) (n : ℕ) (part : Part R) → part ≡ variant.Unread r n → IsUnreadOn depth is part (Some (depth, r))
  at_unread depth is r n part e =
      let none : depth - depth ≡ 0 = omega arith in
      (omega arith, ap (λ k. unread_in (take k is) part) none ∙ ap (unread_in []) e ∙ unread_unread r n [])

  -- what is told of it as a whole
  whole_way : (s : Step) (root : Part R) (found : Option (ℕ × R)) → IsUnreadOn 0 (way (deepest - 0) 0 s) root found → IsUnreadOn 0 (way_to s) root found
  unfolding way_to
  whole_way s root found is = is

  pub none_missing : (s : Step) (root : Part R) → IsUnreadOn 0 (way (deepest - 0) 0 s) root None → unread_in (way_to s) root ≡ None
  none_missing s root is = whole_way s root None is

  pub way_is : (s : Step) (root : Part R) → unread_in (way_to s) root ≡ None → unread_in (way (deepest - 0) 0 s) root ≡ None
  unfolding way_to
  way_is s root e = e

  pub first_missing : (s : Step) (root : Part R) (indexes : List ℕ) (depth : ℕ) (r : R) → IsUnreadOn 0 (way (deepest - 0) 0 s) root (Some (depth, r)) → indexes ≡ take depth (way_to s)
      → (unread_in indexes root ≡ Some (r, [])) × (is_some (behind indexes (way_to s)) ≡ true)
  first_missing s root indexes depth r found is =
      let whole = whole_way s root (Some (depth, r)) found in
      let all : depth - 0 ≡ depth = omega arith in
      (ap (λ q. unread_in q root) (is ∙ ap (λ k. take k (way_to s)) (sym all)) ∙ whole.1, ap (λ q. is_some (behind q (way_to s))) is ∙ behind_take depth (way_to s))

drop_suc : {A : Type 0} (xs : List A) (i : ℕ) (d : A) → i < length xs → drop i xs ≡ get_or xs i d ∷ drop (suc i) xs
drop_suc [] i d lt = absurd (omega (arith, lt))
drop_suc (x ∷ xs) zero d lt = refl
drop_suc (x ∷ xs) (suc i) d lt = drop_suc xs i d (omega (arith, lt))

pub drop_next : {A : Type 0} (xs : List A) (i : ℕ) (d : A) → i < length xs → drop i xs ≡ get_or xs i d ∷ drop (i + 1) xs
drop_next xs i d lt =
    let next : suc i ≡ i + 1 = omega arith in
    drop_suc xs i d lt ∙ ap (λ j. get_or xs i d ∷ drop j xs) next

pub drop_end : {A : Type 0} (xs : List A) (i : ℕ) → length xs ≤ i → drop i xs ≡ []
drop_end [] zero le = refl
drop_end [] (suc i) le = refl
drop_end (x ∷ xs) zero le = absurd (omega (arith, le))
drop_end (x ∷ xs) (suc i) le = drop_end xs i (omega (arith, le))

no_some : {A : Type 0} (x : A) → None ≡ Some x → ⊥
no_some x e = false≢true (ap is_some e)

module _ {R : Type 0} where
  pub under_leaf : (known : Option R) (held : Vec Step Global) (is : List ℕ) (r : R) (part : Part R) → part ≡ variant.Leaf known held → unread_in is part ≡ Some (r, []) → ⊥
  under_leaf known held is r part e found = no_some (r, []) (sym (ap (unread_in is) e ∙ unread_leaf known held is) ∙ found)

  pub at_inode : (known : Option R) (n : ℕ) (parts : Vec (Part R) Global) (r : R) (part : Part R) → part ≡ view.Inode known n parts → unread_in [] part ≡ Some (r, []) → ⊥
  at_inode known n parts r part e found = no_some (r, []) (sym (ap (unread_in []) e ∙ unread_inode known n parts) ∙ found)

  pub past_child : (known : Option R) (n : ℕ) (parts : Vec (Part R) Global) (i : ℕ) (is : List ℕ) (r : R) (part : Part R) → part ≡ view.Inode known n parts → length parts.items ≤ i → unread_in (i ∷ is) part ≡ Some (r, []) → ⊥
  past_child known n parts i is r part e le found = no_some (r, []) (sym (ap (unread_in (i ∷ is)) e ∙ unread_child known n parts i is ∙ ap (option_and_then (unread_in is)) (none_past parts.items i le)) ∙ found)

  pub into_child : (known : Option R) (n : ℕ) (parts : Vec (Part R) Global) (i : ℕ) (is : List ℕ) (r : R) (part child : Part R) → part ≡ view.Inode known n parts → slice_get parts.items i ≡ Some child → unread_in (i ∷ is) part ≡ Some (r, []) → unread_in is child ≡ Some (r, [])
  into_child known n parts i is r part child e read found = sym (ap (unread_in (i ∷ is)) e ∙ unread_child known n parts i is ∙ ap (option_and_then (unread_in is)) read) ∙ found

  rest_of : R × List ℕ → List ℕ
  rest_of p = p.1

  pub past_unread : (q : R) (n i : ℕ) (is : List ℕ) (r : R) (part : Part R) → part ≡ variant.Unread q n → unread_in (i ∷ is) part ≡ Some (r, []) → ⊥
  unfolding rest_of
  past_unread q n i is r part e found =
      let same : Some (q, i ∷ is) ≡ Some (r, []) = sym (ap (unread_in (i ∷ is)) e ∙ unread_unread q n (i ∷ is)) ∙ found in
      let lists : i ∷ is ≡ [] = ap (λ o. rest_of (unwrap_or o (q, i ∷ is))) same in
      absurd (omega (arith, ap length lists))

  pub same_record : (q : R) (n : ℕ) (r : R) (part : Part R) → part ≡ variant.Unread q n → unread_in [] part ≡ Some (r, []) → q ≡ r
  same_record q n r part e found = ap (λ (o : Option (R × List ℕ)). (unwrap_or o (q, [])).0) (sym (ap (unread_in []) e ∙ unread_unread q n []) ∙ found)

  -- a child of an inode, in which a part was entered
  module _ (known : Option R) (n : ℕ) (parts : Vec (Part R) Global) (i : ℕ) (a old b : Part R) (lt : i < length parts.items) (read : slice_get parts.items i ≡ Some old) (is : List ℕ) (put : Part R) (child : IsEntered is put old b) where
    after : Part R
    after = view.Inode known n (with_item (with_item parts i a) i b)

    before : Part R
    before = view.Inode known n parts

    At : ℕ → List ℕ → Type 0
    At j q =
        (unread_in (j ∷ q) after ≡ in_place (λ rest. unread_in rest put) (unread_in (j ∷ q) before) (cond (i == j) (behind is q) None))
        × (known_in (j ∷ q) after ≡ in_place (λ rest. known_in rest put) (known_in (j ∷ q) before) (cond (i == j) (behind is q) None))

    at_here : (q : List ℕ) → At i q
    unfolding after before At
    at_here q =
        let is_there : cond (i == i) (behind is q) None ≡ behind is q = ap (λ c. cond c (behind is q) None) (eq-eqb i i refl) in (
          unread_child known n _ i q ∙ ap (option_and_then (unread_in q)) (set_here parts.items i a b lt) ∙ (child q).0
              ∙ ap (λ o. in_place (λ rest. unread_in rest put) o (behind is q)) (sym (unread_child known n parts i q ∙ ap (option_and_then (unread_in q)) read))
              ∙ ap (in_place (λ rest. unread_in rest put) (unread_in (i ∷ q) before)) (sym is_there),
          known_child known n _ i q ∙ ap (option_and_then (known_in q)) (set_here parts.items i a b lt) ∙ (child q).1
              ∙ ap (λ o. in_place (λ rest. known_in rest put) o (behind is q)) (sym (known_child known n parts i q ∙ ap (option_and_then (known_in q)) read))
              ∙ ap (in_place (λ rest. known_in rest put) (known_in (i ∷ q) before)) (sym is_there),
        )

    at_else : (j : ℕ) (q : List ℕ) → j ≢ i → At j q
    unfolding after before At
    at_else j q ne =
        let not_there : cond (i == j) (behind is q) None ≡ None = ap (λ c. cond c (behind is q) None) (ne_eqb i j (λ e. ne (sym e))) in (
          unread_child known n _ j q ∙ ap (option_and_then (unread_in q)) (set_other parts.items i j a b ne) ∙ sym (unread_child known n parts j q)
              ∙ ap (in_place (λ rest. unread_in rest put) (unread_in (j ∷ q) before)) (sym not_there),
          known_child known n _ j q ∙ ap (option_and_then (known_in q)) (set_other parts.items i j a b ne) ∙ sym (known_child known n parts j q)
              ∙ ap (in_place (λ rest. known_in rest put) (known_in (j ∷ q) before)) (sym not_there),
        )

    pub inode_entered : IsEntered (i ∷ is) put (view.Inode known n parts) (view.Inode known n (with_item (with_item parts i a) i b))
    unfolding after before At
    inode_entered [] = (unread_inode known n _ ∙ sym (unread_inode known n parts), known_inode known n _ ∙ sym (known_inode known n parts))
    inode_entered (j ∷ q) = elim (same_or_not j i) [
      | inl e ↦ subst (λ k. At k q) (sym e) (at_here q)
      | inr ne ↦ at_else j q ne
    ]

-- the steps at indexes, one depth down
under_next : (depth : ℕ) (i : ℕ) (is : List ℕ) (steps : List Step) → steps_under depth (i ∷ is) steps ≡ steps_under (depth + 1) is (steps_at depth i steps)
under_next depth i is steps =
    let next : suc depth ≡ depth + 1 = omega arith in
    ap (λ d. steps_under d is (steps_at depth i steps)) next

module _ {R : Type 0} where
  pub steps_next : (depth i : ℕ) (is : List ℕ) (steps : List Step) (r : R) (content : Content R) → Steps depth (i ∷ is) steps (spelled_by r (length (steps_under depth (i ∷ is) steps)) content)
      → Steps (depth + 1) is (steps_at depth i steps) (spelled_by r (length (steps_under (depth + 1) is (steps_at depth i steps))) content)
  steps_next depth i is steps r content stands =
      let deeper : depth + suc (length is) ≡ depth + 1 + length is = omega arith in
      subst (λ d. IsPart (deepest - d) d (steps_under (depth + 1) is (steps_at depth i steps)) (spelled_by r (length (steps_under (depth + 1) is (steps_at depth i steps))) content)) deeper
      (subst (λ (ss : List Step). IsPart (deepest - (depth + suc (length is))) (depth + suc (length is)) ss (spelled_by r (length ss) content)) (under_next depth i is steps) stands)

  pub entered_next : (depth i : ℕ) (is : List ℕ) (steps : List Step) (r : R) (content : Content R) (old new : Part R) → IsEntered is (spelled_by r (length (steps_under (depth + 1) is (steps_at depth i steps))) content) old new
      → IsEntered is (spelled_by r (length (steps_under depth (i ∷ is) steps)) content) old new
  entered_next depth i is steps r content old new put = subst (λ (ss : List Step). IsEntered is (spelled_by r (length ss) content) old new) (sym (under_next depth i is steps)) put

  pub shape_here : (depth n : ℕ) (steps : List Step) (q r : R) (content : Content R) (new : Part R) → n ≡ length steps → q ≡ r → new ≡ spelled_by q n content
      → Steps depth [] steps (spelled_by r (length steps) content) → IsPart (deepest - depth) depth steps new
  shape_here depth n steps q r content new long same is stands =
      let none : depth + 0 ≡ depth = omega arith in
      subst (λ (p : Part R). IsPart (deepest - depth) depth steps p) (sym (is ∙ ap (λ k. spelled_by q k content) long ∙ ap (λ x. spelled_by x (length steps) content) same))
      (subst (λ d. IsPart (deepest - d) d steps (spelled_by r (length steps) content)) none stands)

  pub entered_here : (n : ℕ) (steps : List Step) (q r : R) (content : Content R) (old new : Part R) → n ≡ length steps → q ≡ r → new ≡ spelled_by q n content → IsEntered [] (spelled_by r (length steps) content) old new
  entered_here n steps q r content old new long same is w =
      let e = is ∙ ap (λ k. spelled_by q k content) long ∙ ap (λ x. spelled_by x (length steps) content) same in
      (ap (unread_in w) e, ap (known_in w) e)

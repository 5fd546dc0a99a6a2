-- What has to be read before a step is taken out.
use Rattle.std.proofs.Common.{◌≡◌, ◌≢◌, ◌<◌, ◌-◌, ◌+◌, ℕ, suc, Bool, true, false, List, [], ◌∷◌, ◌++◌, length, sym, ap, ◌∙◌, refl, arith, Option, Some, None, inl, inr, ◌⊎◌, reverse}
use Rattle.std.specs.Prelude.{cond, ◌==◌, ◌&&◌, ◌||◌, is_some, is_none, option_and_then, option_map, slice_get, Vec}
use Rattle.std.specs.Global.{Global}
use Rattle.std.proofs.lemmas.Bool.{false≢true, eq-eqb, ne_eqb, eqb-true, and_parts}
use Rattle.std.proofs.lemmas.List.{reverse-append}
use Rattle.ip_spec.specs.Path.{Step}
use Rattle.ip_spec.specs.Shape.{place, deepest}
use Rattle.ip_shape.specs.Shape.{has, steps_at}
use Rattle.ip_shape.specs.Loaded.{IsRead, behind, is_under, join_of, unread_in, way_to}
use Rattle.ip_shape.specs.Reading.{IsFirstBelow, IsNeeded, IsToJoin, is_needed}
use Rattle.ip_shape.specs.declared.part.Part.{Part}
use Rattle.ip_shape.specs.declared.part.Part.TheViews as view
use Rattle.ip_shape.proofs.Entering.{into_child}
use Rattle.ip_shape.proofs.LeafRead.{cut_off}
use Rattle.ip_shape.proofs.Ways.{unread_child}

under_map : (k j : ℕ) (o : Option (List ℕ)) (is : List ℕ) → is_under (option_map (λ front. k ∷ front) o) (j ∷ is) ≡ ((k == j) && is_under o is)
under_map k j None is = elim (k == j) as (λ c. false ≡ (c && false)) [ true ↦ refl | false ↦ refl ]
under_map k j (Some front) is = elim (k == j) as (λ c. is_some (cond c (behind front is) None) ≡ (c && is_some (behind front is))) [ true ↦ refl | false ↦ refl ]

not_here : (k : ℕ) (o : Option (List ℕ)) → is_under (option_map (λ front. k ∷ front) o) [] ≡ false
not_here k None = refl
not_here k (Some front) = refl

pub turned : (xs new : List ℕ) (i : ℕ) → new ≡ xs ++ i ∷ [] → reverse new ≡ i ∷ reverse xs
turned xs new i e = ap reverse e ∙ reverse-append xs (i ∷ [])

pub join_here : (depth : ℕ) (s : Step) (steps : List Step) → depth < 51 → length steps ≡ 33 → join_of (deepest - depth) depth s steps ≡ Some []
join_here depth s steps lt long =
    let levels : deepest - depth ≡ suc (deepest - (depth + 1)) = omega arith in
    ap (λ l. join_of l depth s steps) levels
    ∙ ap (λ c. cond c (Some []) (option_map (λ front. place s depth ∷ front) (join_of (deepest - (depth + 1)) (suc depth) s (steps_at depth (place s depth) steps)))) (eq-eqb (length steps) 33 long)

pub join_below : (depth i : ℕ) (s : Step) (steps : List Step) → depth < 51 → length steps ≢ 33 → i ≡ place s depth
    → join_of (deepest - depth) depth s steps ≡ option_map (λ front. i ∷ front) (join_of (deepest - (depth + 1)) (depth + 1) s (steps_at depth i steps))
join_below depth i s steps lt long at =
    let levels : deepest - depth ≡ suc (deepest - (depth + 1)) = omega arith in
    let next : suc depth ≡ depth + 1 = omega arith in
    ap (λ l. join_of l depth s steps) levels
    ∙ ap (λ c. cond c (Some []) (option_map (λ front. place s depth ∷ front) (join_of (deepest - (depth + 1)) (suc depth) s (steps_at depth (place s depth) steps)))) (ne_eqb (length steps) 33 long)
    ∙ ap (λ d. option_map (λ front. place s depth ∷ front) (join_of (deepest - (depth + 1)) d s (steps_at depth (place s depth) steps))) next
    ∙ ap (λ k. option_map (λ front. k ∷ front) (join_of (deepest - (depth + 1)) (depth + 1) s (steps_at depth k steps))) (sym at)

or_either : (a b : Bool) → (a || b) ≡ true → (a ≡ true) ⊎ (b ≡ true)
or_either true b e = inl refl
or_either false b e = inr e

module _ {R : Type 0} where
  -- nothing has to be read below a part that was read
  pub read_join : (join : Option (List ℕ)) (part : Part R) → IsRead part → IsToJoin join part None
  read_join join part read = λ is r under e. false≢true (ap is_some (sym (read is) ∙ e))

  pub whole_join : (part : Part R) (found : Option (List ℕ × R)) → IsFirstBelow part found → IsToJoin (Some []) part found
  whole_join part None read = λ is r under e. false≢true (ap is_some (sym (read is) ∙ e))
  whole_join part (Some f) first = (refl, first)

  module _ (known : Option R) (n : ℕ) (parts : Vec (Part R) Global) (part child : Part R) (i : ℕ) (is : part ≡ view.Inode known n parts) (read : slice_get parts.items i ≡ Some child) (join : Option (List ℕ)) where
    pub none_to_join : IsToJoin join child None → IsToJoin (option_map (λ front. i ∷ front) join) part None
    none_to_join none [] r under e = false≢true (sym (not_here i join) ∙ under)
    none_to_join none (j ∷ w) r under e =
        let two = and_parts (i == j) (is_under join w) (sym (under_map i j join w) ∙ under) in
        none w r two.1 (into_child known n parts i w r part child is read (ap (λ k. unread_in (k ∷ w) part) (eqb-true i j two.0) ∙ e))

    at_child : (w : List ℕ) → unread_in (i ∷ w) part ≡ unread_in w child
    at_child w = ap (unread_in (i ∷ w)) is ∙ unread_child known n parts i w ∙ ap (option_and_then (unread_in w)) read

    pub first_to_join : (w new : List ℕ) (r : R) → new ≡ w ++ i ∷ [] → IsToJoin join child (Some (w, r)) → IsToJoin (option_map (λ front. i ∷ front) join) part (Some (new, r))
    first_to_join w new r e some =
        let over = turned w new i e in (
          ap (is_under (option_map (λ front. i ∷ front) join)) over ∙ under_map i i join (reverse w) ∙ ap (λ c. c && is_under join (reverse w)) (eq-eqb i i refl) ∙ some.0,
          ap (λ q. unread_in q part) over ∙ at_child (reverse w) ∙ some.1,
        )

    pub first_below : (w new : List ℕ) (r : R) → new ≡ w ++ i ∷ [] → IsFirstBelow child (Some (w, r)) → IsFirstBelow part (Some (new, r))
    first_below w new r e some = ap (λ q. unread_in q part) (turned w new i e) ∙ at_child (reverse w) ∙ some

  pub nothing_needed : (s : Step) (steps : List Step) (root : Part R) → unread_in (way_to s) root ≡ None → (has s steps ≡ true → IsToJoin (join_of deepest 0 s steps) root None)
      → IsNeeded s steps root None
  nothing_needed s steps root none join = (
    none,
    λ is r needed e. elim (or_either (is_under (Some is) (way_to s)) (has s steps && is_under (join_of deepest 0 s steps) is) needed) [
      | inl on ↦ false≢true (sym (cut_off is (way_to s) r root e on) ∙ ap is_none none)
      | inr below ↦
          let two = and_parts (has s steps) (is_under (join_of deepest 0 s steps) is) below in
          join two.0 is r two.1 e
    ],
  )

  pub needed_to_join : (s : Step) (steps : List Step) (root : Part R) (w new : List ℕ) (r : R) → has s steps ≡ true → new ≡ reverse w → IsToJoin (join_of deepest 0 s steps) root (Some (w, r)) → IsNeeded s steps root (Some (new, r))
  needed_to_join s steps root w new r is_in turned_over some = (
    ap (λ q. unread_in q root) turned_over ∙ some.1,
    ap (is_needed s steps) turned_over ∙ or_second (is_under (Some (reverse w)) (way_to s)) (has s steps && is_under (join_of deepest 0 s steps) (reverse w))
        (ap (λ b. b && is_under (join_of deepest 0 s steps) (reverse w)) is_in ∙ some.0),
  )
    where
      or_second : (a b : Bool) → b ≡ true → (a || b) ≡ true
      or_second true b e = refl
      or_second false b e = e

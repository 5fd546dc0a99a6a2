-- An inode whose child was replaced.
use Rattle.std.proofs.Common.{◌≡◌, ◌≢◌, ◌-◌, ◌<◌, ℕ, zero, suc, List, [], ◌∷◌, length, ◌+◌, ◌⊎◌, inl, inr, subst, sym, ap, ◌∙◌, refl, arith, get_or, length-set, true≢false, true, false}
use Rattle.std.proofs.Math.ListN.{set}
use Rattle.std.specs.Prelude.{slice_get, Option, Some, None, Result, Ok, Err, IfOk, IfErr, Vec, cond, ◌==◌, ◌&&◌, unwrap_or, is_some}
use Rattle.std.specs.Global.{Global}
use Rattle.std.specs.Vec.{with_item}
use Rattle.std.proofs.lemmas.Bool.{eq-eqb, ne_eqb}
use Rattle.std.proofs.lemmas.Option.{slice_get-get_or}
use Rattle.ip_spec.specs.Path.{Step}
use Rattle.ip_spec.specs.Shape.{place, deepest}
use Rattle.ip_shape.specs.Shape.{IsPart, AreSteps, add, has, take_out, steps_at}
use Rattle.ip_shape.specs.declared.part.Part.{Part}
use Rattle.ip_shape.specs.declared.part.Part.TheViews as view
use Rattle.ip_shape.proofs.Shapes.{Children, inode_holds, inode_from}
use Rattle.ip_shape.proofs.Steps.{filter-add}
use Rattle.ip_shape.proofs.Members.{length_added, length_taken, has-filter, out_swaps, out_none}

later : {A B : Type 0} (i j : ℕ) → ((j ≡ i) × A) ⊎ ((j ≢ i) × B) → ((suc j ≡ suc i) × A) ⊎ ((suc j ≢ suc i) × B)
later i j (inl p) = inl (ap suc p.0, p.1)
later i j (inr p) = inr (λ e. p.0 (omega (arith, e)), p.1)

module _ {R : Type 0} where
  changed : (xs : List (Part R)) (i j : ℕ) (a b child : Part R) → slice_get (set (set xs i a) i b) j ≡ Some child → ((j ≡ i) × (child ≡ b)) ⊎ ((j ≢ i) × (slice_get xs j ≡ Some child))
  changed [] i j a b child e = absurd (true≢false (sym (ap is_some e)))
  changed (x ∷ xs) zero zero a b child e = inl (refl, sym (ap (λ o. unwrap_or o b) e))
  changed (x ∷ xs) zero (suc j) a b child e = inr (λ q. absurd (omega (arith, q)), e)
  changed (x ∷ xs) (suc i) zero a b child e = inr (λ q. absurd (omega (arith, q)), e)
  changed (x ∷ xs) (suc i) (suc j) a b child e = later i j (changed xs i j a b child e)

  -- the child that was taken out
  pub child_read : (parts : List (Part R)) (i : ℕ) (below taken : Part R) → i < length parts → below ≡ get_or parts i below → taken ≡ below → slice_get parts i ≡ Some taken
  child_read parts i below taken within read is = slice_get-get_or parts i below within ∙ ap Some (sym read ∙ sym is)

  -- what holds of the inode with its child put back, where that was edited, and where it was not
  pub put_edited : (edited result : Result (Part R) (Part R)) (new old : Part R → Part R) (P Q : Part R → Type 0)
      → IfOk edited (λ child. result ≡ Ok (new child)) → IfErr edited (λ child. result ≡ Err (old child)) → ((child : Part R) → P child → Q (new child)) → IfOk edited P → IfOk result Q
  put_edited (Ok child) result new old P Q done same on holds = subst (λ r. IfOk r Q) (sym done) (on child holds)
  put_edited (Err child) result new old P Q done same on holds = subst (λ r. IfOk r Q) (sym same) tt

  pub put_same : (edited result : Result (Part R) (Part R)) (new old : Part R → Part R) (P Q : Part R → Type 0)
      → IfOk edited (λ child. result ≡ Ok (new child)) → IfErr edited (λ child. result ≡ Err (old child)) → ((child : Part R) → P child → Q (old child)) → IfErr edited P → IfErr result Q
  put_same (Ok child) result new old P Q done same on holds = subst (λ r. IfErr r Q) (sym done) tt
  put_same (Err child) result new old P Q done same on holds = subst (λ r. IfErr r Q) (sym same) (on child holds)

  module _ (depth : ℕ) (steps : List Step) (known : Option R) (n : ℕ) (parts : Vec (Part R) Global) (lt : depth < 51) (is : IsPart (deepest - depth) depth steps (view.Inode known n parts)) where
    pub counted : n ≡ length steps
    counted = (inode_holds depth steps known n parts lt is).1

    pub children_of : Children depth steps parts.items
    children_of = (inode_holds depth steps known n parts lt is).3

    pub child_at : (i : ℕ) (below : Part R) → i < length parts.items → below ≡ get_or parts.items i below → IsPart (deepest - (depth + 1)) (depth + 1) (steps_at depth i steps) below
    child_at i below within read = children_of i below (slice_get-get_or parts.items i below within ∙ ap Some (sym read))

    replaced : (own : Option R) (other : List Step) (m i : ℕ) (a b : Part R) → 32 < length other → m ≡ length other → IsPart (deepest - (depth + 1)) (depth + 1) (steps_at depth i other) b
        → ((j : ℕ) → (j ≢ i) → steps_at depth j other ≡ steps_at depth j steps)
        → IsPart (deepest - depth) depth other (view.Inode own m (with_item (with_item parts i a) i b))
    replaced own other m i a b many total at_i others =
        inode_from depth other own m (with_item (with_item parts i a) i b) lt many total (length-set _ i b ∙ length-set _ i a ∙ (inode_holds depth steps known n parts lt is).2) (λ j child e.
        elim (changed parts.items i j a b child e) [
          | inl p ↦ subst (λ (c : Part R). IsPart (deepest - (depth + 1)) (depth + 1) (steps_at depth j other) c) (sym p.1) (subst (λ k. IsPart (deepest - (depth + 1)) (depth + 1) (steps_at depth k other) b) (sym p.0) at_i)
          | inr p ↦ subst (λ (ss : List Step). IsPart (deepest - (depth + 1)) (depth + 1) ss child) (sym (others j p.0)) (children_of j child p.1)
        ])

    many_of : 32 < length steps
    many_of = (inode_holds depth steps known n parts lt is).0

    pub inode_with : (s : Step) (m i : ℕ) (a b : Part R) → m ≡ n + 1 → AreSteps steps → has s steps ≡ false → i ≡ place s depth → IsPart (deepest - (depth + 1)) (depth + 1) (add s (steps_at depth i steps)) b
        → IsPart (deepest - depth) depth (add s steps) (view.Inode None m (with_item (with_item parts i a) i b))
    inode_with s m i a b more ascend absent at_i below =
        let long = length_added s steps ascend absent in
        replaced None (add s steps) m i a b (omega (arith, long, many_of)) (omega (arith, more, long, counted))
        (subst (λ (ss : List Step). IsPart (deepest - (depth + 1)) (depth + 1) ss b)
        (sym (filter-add (λ t. place t depth == i) s steps ascend ∙ ap (λ c. cond c (add s (steps_at depth i steps)) (steps_at depth i steps)) (eq-eqb (place s depth) i (sym at_i)))) below)
        (λ j other. filter-add (λ t. place t depth == j) s steps ascend ∙ ap (λ c. cond c (add s (steps_at depth j steps)) (steps_at depth j steps)) (ne_eqb (place s depth) j (λ q. other (sym q ∙ sym at_i))))

    pub inode_without : (s : Step) (m i : ℕ) (a b : Part R) → m + 1 ≡ n → AreSteps steps → has s steps ≡ true → 33 < n → i ≡ place s depth → IsPart (deepest - (depth + 1)) (depth + 1) (take_out s (steps_at depth i steps)) b
        → IsPart (deepest - depth) depth (take_out s steps) (view.Inode None m (with_item (with_item parts i a) i b))
    inode_without s m i a b fewer ascend here many at_i below =
        let long = length_taken s steps ascend here in
        replaced None (take_out s steps) m i a b (omega (arith, long, counted, many)) (omega (arith, fewer, long, counted))
        (subst (λ (ss : List Step). IsPart (deepest - (depth + 1)) (depth + 1) ss b) (out_swaps (λ t. place t depth == i) s steps) below)
        (λ j other. sym (out_swaps (λ t. place t depth == j) s steps) ∙ out_none s (steps_at depth j steps) (has-filter (λ t. place t depth == j) s steps ∙ ap (λ b. b && has s steps) (ne_eqb (place s depth) j (λ q. other (sym q ∙ sym at_i)))))

    pub inode_same : (own : Option R) (i : ℕ) (a b : Part R) → IsPart (deepest - (depth + 1)) (depth + 1) (steps_at depth i steps) b
        → IsPart (deepest - depth) depth steps (view.Inode own n (with_item (with_item parts i a) i b))
    inode_same own i a b below = replaced own steps n i a b many_of counted below (λ j other. refl)

-- The nodes of a directory, step by step.
--     each_node, from_each      what the nodes mean, by what is found at each step
--     nodes_put, nodes_without, nodes_from      after an edit of them
--     known_found      what is known below a step, by what is found there
use Rattle.std.proofs.Common.{◌≡◌, ℕ, Bool, true, false, not, List, [], ◌∷◌, refl, sym, ap, subst, ◌∙◌, Option, Some, None, cond, T}
use Rattle.std.specs.Option.{option_map_or, option_or}
use Rattle.std.specs.Prelude.{IsSomeAnd, is_some}
use Rattle.std.specs.Cmp.{tied_itself}
use Rattle.std.specs.Ordering.{is_eq}
use Rattle.std.proofs.lemmas.Bool.{false≢true}
use Rattle.std.proofs.lemmas.Cmp.{nat_list_cmp_total}
use Rattle.std.specs.FinMap.Entries.{find, put, find-put}
use Rattle.ip_spec.specs.Path.{Step, Path, bytes_cmp, same_bytes}
use Rattle.ip_spec.specs.declared.record.Record.{Record}
use Rattle.ip_spec.specs.Shape.{Entries}
use Rattle.ip_shape.specs.Directory.{entries_from, steps_of, without}
use Rattle.ip_shape.specs.Shape.{AreSteps, ascend, is_below_all}
use Rattle.ip_shape.proofs.Entries.{AreSteps-add, below_absent, has_of, steps_put, steps_without}
use Rattle.ip_shape.proofs.Steps.{AreSteps-filter, equal, first, same_step, second}
use Rattle.ip_tree.specs.Node.{Entry, Node, nodes_of}
use Rattle.ip_tree.specs.Meaning.{NodeIs, NodesAre}
use Rattle.ip_tree.specs.Known.{known_among, known_at}
use Rattle.ip_tree.proofs.Indexes.{no_some, some_same}
use Rattle.ip_tree.proofs.PartEntries.{found_without}

same_itself : (s : Step) → same_bytes s s ≡ true
same_itself s = ap is_eq (tied_itself nat_list_cmp_total s)

pub found_from : {C : Type 0} (given es : List (Step × C)) (q : Step) → find bytes_cmp q (entries_from given es) ≡ option_or (find bytes_cmp q given) (find bytes_cmp q es)
found_from [] es q = refl
found_from {C = C} (e ∷ given) es q = find-put bytes_cmp nat_list_cmp_total q e.0 e.1 (entries_from given es) ∙ ap (cond (same_bytes q e.0) (Some e.1)) (found_from given es q) ∙ by e.1 (same_bytes q e.0) (find bytes_cmp q given) (find bytes_cmp q es)
  where
    by : (x : C) (b : Bool) (o p : Option C) → cond b (Some x) (option_or o p) ≡ option_or (cond b (Some x) o) p
    by x true o p = refl
    by x false o p = refl

pub ascend_from : {C : Type 0} (given es : List (Step × C)) → AreSteps (steps_of es) → AreSteps (steps_of (entries_from given es))
ascend_from [] es a = a
ascend_from (e ∷ given) es a = subst AreSteps (sym (steps_put e.0 e.1 (entries_from given es))) (AreSteps-add e.0 (steps_of (entries_from given es)) (ascend_from given es a))

module _ (records : ℕ → Option Record) where
  -- what stands at a step is what the node means
  abbrev pub Means : Entries → Step → Node → Type 0
  Means es s n = IsSomeAnd (find bytes_cmp s es) (λ sub. NodeIs records n sub)

  first_or : (y : Entry) (ys : List Entry) (es : Entries) (s : Step) (n : Node) (b : Bool) → same_bytes s y.0 ≡ b → Means es y.0 y.1 → (find bytes_cmp s ys ≡ Some n → Means es s n) → cond b (Some y.1) (find bytes_cmp s ys) ≡ Some n → Means es s n
  first_or y ys es s n true f here later e = subst (Means es s) (some_same y.1 n e) (subst (λ k. Means es k y.1) (sym (same_step s y.0 (equal _ f))) here)
  first_or y ys es s n false f here later e = later e

  pub each_node : (ys : List Entry) (es : Entries) → NodesAre records (nodes_of ys) es → (s : Step) (n : Node) → find bytes_cmp s ys ≡ Some n → Means es s n
  each_node [] es are s n e = no_some n e
  each_node (y ∷ ys) es are s n e = first_or y ys es s n (same_bytes s y.0) refl are.0 (λ f. each_node ys es are.1 s n f) e

  not_first : (y : Entry) (ys : List Entry) (s : Step) (n : Node) → T (is_below_all y.0 (steps_of ys)) → find bytes_cmp s ys ≡ Some n → find bytes_cmp s (y ∷ ys) ≡ Some n
  not_first y ys s n below e = by (same_bytes s y.0) refl
    where
      by : (b : Bool) → same_bytes s y.0 ≡ b → cond b (Some y.1) (find bytes_cmp s ys) ≡ Some n
      by true f =
          absurd (false≢true (sym (below_absent y.0 (steps_of ys) below) ∙ has_of y.0 ys ∙ ap (λ k. is_some (find bytes_cmp k ys)) (sym (same_step s y.0 (equal _ f))) ∙ ap is_some e))
      by false f = e

  pub from_each : (ys : List Entry) (es : Entries) → AreSteps (steps_of ys) → ((s : Step) (n : Node) → find bytes_cmp s ys ≡ Some n → Means es s n) → NodesAre records (nodes_of ys) es
  from_each [] es a each = tt
  from_each (y ∷ ys) es a each = (
    each y.0 y.1 (ap (λ b. cond b (Some y.1) (find bytes_cmp y.0 ys)) (same_itself y.0)),
    from_each ys es (second (is_below_all y.0 (steps_of ys)) (ascend (steps_of ys)) a) (λ s n e. each s n (not_first y ys s n (first (is_below_all y.0 (steps_of ys)) (ascend (steps_of ys)) a) e)),
  )

  pub nodes_put : (ys : List Entry) (es fs : Entries) (s : Step) (n : Node) → AreSteps (steps_of ys) → NodesAre records (nodes_of ys) es → Means fs s n → ((q : Step) → same_bytes q s ≡ false → find bytes_cmp q fs ≡ find bytes_cmp q es)
      → NodesAre records (nodes_of (put bytes_cmp s n ys)) fs
  nodes_put ys es fs s n a are here beside =
      from_each (put bytes_cmp s n ys) fs (subst AreSteps (sym (steps_put s n ys)) (AreSteps-add s (steps_of ys) a)) (λ q m e. by q m (same_bytes q s) refl (sym (find-put bytes_cmp nat_list_cmp_total q s n ys) ∙ e))
    where
      by : (q : Step) (m : Node) (b : Bool) → same_bytes q s ≡ b → cond b (Some n) (find bytes_cmp q ys) ≡ Some m → Means fs q m
      by q m true f e = subst (Means fs q) (some_same n m e) (subst (λ k. Means fs k n) (sym (same_step q s (equal _ f))) here)
      by q m false f e = subst (λ o. IsSomeAnd o (λ sub. NodeIs records m sub)) (sym (beside q f)) (each_node ys es are q m e)

  pub nodes_without : (ys : List Entry) (es fs : Entries) (s : Step) → AreSteps (steps_of ys) → NodesAre records (nodes_of ys) es → ((q : Step) → same_bytes s q ≡ false → find bytes_cmp q fs ≡ find bytes_cmp q es)
      → NodesAre records (nodes_of (without s ys)) fs
  nodes_without ys es fs s a are beside =
      from_each (without s ys) fs (subst AreSteps (sym (steps_without s ys)) (AreSteps-filter (λ t. not (same_bytes s t)) (steps_of ys) a)) (λ q m e. by q m (same_bytes s q) refl (sym (found_without s ys q) ∙ e))
    where
      by : (q : Step) (m : Node) (b : Bool) → same_bytes s q ≡ b → cond (not b) (find bytes_cmp q ys) None ≡ Some m → Means fs q m
      by q m true f e = no_some m e
      by q m false f e = subst (λ o. IsSomeAnd o (λ sub. NodeIs records m sub)) (sym (beside q f)) (each_node ys es are q m e)

  pub nodes_from : (given ys : List Entry) (es : Entries) → AreSteps (steps_of ys) → NodesAre records (nodes_of given) es → NodesAre records (nodes_of ys) es → NodesAre records (nodes_of (entries_from given ys)) es
  nodes_from [] ys es a more are = are
  nodes_from (e ∷ given) ys es a more are = nodes_put (entries_from given ys) es es e.0 e.1 (ascend_from given ys a) (nodes_from given ys es a more.1 are) more.0 (λ q f. refl)

  pub known_found : (ys : List Entry) (s : Step) (path : Path) (indexes : List ℕ) (other : Option ℕ)
      → known_among records (nodes_of ys) s path indexes other ≡ option_map_or (λ n. known_at records n path indexes) (find bytes_cmp s ys) other
  known_found [] s path indexes other = refl
  known_found (y ∷ ys) s path indexes other =
      elim (same_bytes s y.0) as (λ b. cond b (known_at records y.1 path indexes) (known_among records (nodes_of ys) s path indexes other) ≡ option_map_or (λ n. known_at records n path indexes) (cond b (Some y.1) (find bytes_cmp s ys)) other) [
        | true ↦ refl
        | false ↦ known_found ys s path indexes other
      ]

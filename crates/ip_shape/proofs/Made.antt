-- A map that was made of entries in the order of their steps.
use Rattle.std.proofs.Common.{◌≡◌, List, [], ◌∷◌, sym, ◌∙◌, refl}
use Rattle.std.specs.Prelude.{T}
use Rattle.std.specs.Ordering.{is_lt, eq_by_cmp}
use Rattle.std.specs.Cmp.{eq_by_cmp_equiv}
use Rattle.std.specs.declared.cmp.Ordering.TheVariants.{Less}
use Rattle.std.specs.List.{AllByRecursion}
use Rattle.std.specs.List.Sorted.{IsStrictlySortedBy}
use Rattle.std.specs.BTreeMap.{BTreeMap, IsFromIterResult}
use Rattle.std.specs.FinMap.Entries.{below_all, is_sorted, same_entries}
use Rattle.std.proofs.lemmas.Cmp.{nat_list_cmp_total}
use Rattle.std.proofs.lemmas.Map.Keys.{IsDistinct-from_sorted}
use Rattle.std.proofs.lemmas.Map.Made.{update_all_none}
use Rattle.ip_spec.specs.Path.{Step, bytes_cmp}
use Rattle.ip_shape.specs.Shape.{AreSteps, ascend, is_below_all}
use Rattle.ip_shape.specs.Directory.{steps_of}
use Rattle.ip_shape.proofs.Entries.{find_is}
use Rattle.ip_shape.proofs.Steps.{both, first, second, less, lt_of, same_step}

below_each : (s : Step) (ts : List Step) → T (is_below_all s ts) → AllByRecursion (λ t. bytes_cmp s t ≡ Less) ts
below_each s [] h = tt
below_each s (t ∷ ts) h = (less (bytes_cmp s t) (first (is_lt (bytes_cmp s t)) (is_below_all s ts) h), below_each s ts (second (is_lt (bytes_cmp s t)) (is_below_all s ts) h))

below_them : (s : Step) (ts : List Step) → AllByRecursion (λ t. bytes_cmp s t ≡ Less) ts → T (is_below_all s ts)
below_them s [] h = tt
below_them s (t ∷ ts) h = both (is_lt (bytes_cmp s t)) (is_below_all s ts) (lt_of (bytes_cmp s t) h.0) (below_them s ts h.1)

sorted_by : (ss : List Step) → AreSteps ss → IsStrictlySortedBy bytes_cmp ss
unfolding IsStrictlySortedBy
sorted_by [] a = tt
sorted_by (s ∷ ss) a = (below_each s ss (first (is_below_all s ss) (ascend ss) a), sorted_by ss (second (is_below_all s ss) (ascend ss) a))

are_steps : (ss : List Step) → IsStrictlySortedBy bytes_cmp ss → AreSteps ss
unfolding IsStrictlySortedBy
are_steps [] h = tt
are_steps (s ∷ ss) h = both (is_below_all s ss) (ascend ss) (below_them s ss h.0) (are_steps ss h.1)

module _ {C : Type 0} where
  below_entries : (s : Step) (es : List (Step × C)) → T (is_below_all s (steps_of es)) → T (below_all bytes_cmp s es)
  below_entries s [] h = tt
  below_entries s (e ∷ es) h =
      both (is_lt (bytes_cmp s e.0)) (below_all bytes_cmp s es) (first (is_lt (bytes_cmp s e.0)) (is_below_all s (steps_of es)) h) (below_entries s es (second (is_lt (bytes_cmp s e.0)) (is_below_all s (steps_of es)) h))

  in_order : (es : List (Step × C)) → AreSteps (steps_of es) → T (is_sorted bytes_cmp es)
  in_order [] a = tt
  in_order (e ∷ es) a =
      both (below_all bytes_cmp e.0 es) (is_sorted bytes_cmp es) (below_entries e.0 es (first (is_below_all e.0 (steps_of es)) (ascend (steps_of es)) a))
      (in_order es (second (is_below_all e.0 (steps_of es)) (ascend (steps_of es)) a))

  pub made_in_order : (es : List (Step × C)) (m : BTreeMap Step C) → AreSteps (steps_of es) → IsFromIterResult bytes_cmp es m → m.entries ≡ es
  made_in_order es m a is =
      same_entries bytes_cmp nat_list_cmp_total same_step m.entries es (in_order m.entries (are_steps (steps_of m.entries) is.1)) (in_order es a)
      (λ q. sym (find_is q m.entries) ∙ is.0 q
      ∙ update_all_none (eq_by_cmp_equiv nat_list_cmp_total) (eq_by_cmp bytes_cmp) (λ x y. refl) es q (IsDistinct-from_sorted bytes_cmp (steps_of es) (sorted_by (steps_of es) a)) ∙ find_is q es)

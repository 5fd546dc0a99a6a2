-- The entries of a leaf that was read, put among those of its directory.
use Rattle.std.proofs.Common.{◌≡◌, ◌≤◌, ◌-◌, ◌+◌, ℕ, zero, suc, Bool, true, false, List, [], ◌∷◌, drop, length, filter, subst, sym, ap, ◌∙◌, refl, arith, Option, Some, None, inl, inr, ◌⊎◌}
use Rattle.std.specs.Prelude.{cond, ◌==◌, ◌&&◌, ◌||◌, is_some, is_none, option_and_then, slice_get, nat_le, Vec}
use Rattle.std.specs.Global.{Global}
use Rattle.std.specs.FinMap.Entries.{find}
use Rattle.std.proofs.lemmas.Bool.{false≢true, eq-eqb, ne_eqb}
use Rattle.std.proofs.lemmas.Bool.Decides.{nat_tests}
use Rattle.ip_spec.specs.Path.{Step, bytes_cmp, same_bytes}
use Rattle.ip_spec.specs.Shape.{place, deepest, is_leaf, leaf_limit}
use Rattle.ip_spec.specs.View.{leads}
use Rattle.ip_shape.specs.Shape.{AreSteps, IsPart, IsLeafOf, IsInodeOf, ascend, is_below_all, has, steps_at}
use Rattle.ip_shape.specs.Loaded.{behind, known_in, unread_in, unread_here, unread_below, way, way_to}
use Rattle.ip_shape.specs.Reading.{IsEntered, IsLeafRead, Steps, in_place, leaf_known, steps_under}
use Rattle.ip_shape.specs.Directory.{AreNew, entries_from, entries_off, steps_of}
use Rattle.ip_shape.specs.declared.part.Part.{Part, out-Part}
use Rattle.ip_shape.specs.declared.part.Part.TheVariants as variant
use Rattle.ip_shape.specs.declared.part.Part.TheOpen as layer
use Rattle.ip_shape.specs.declared.part.Part.TheOpen.{Part-F}
use Rattle.ip_shape.proofs.Steps.{AreSteps-filter, first, second}
use Rattle.ip_shape.proofs.Members.{at_head, has-add, has-filter, or_more, same_steps}
use Rattle.ip_shape.proofs.Entries.{AreSteps-add, below_absent, has_of, none_of, steps_put, taken_back}
use Rattle.ip_shape.proofs.Partly.{Stands, reaches, stands_in}
use Rattle.ip_shape.proofs.ByEntries.{as_long}
use Rattle.ip_shape.proofs.Shapes.{by_either, deepest_made, leaf_made}
use Rattle.ip_shape.proofs.Ways.{known_leaf, past_leaf, same_or_not, unread_leaf}

or_later : (a b c : Bool) → (a || (b || c)) ≡ ((a || b) || c)
or_later true b c = refl
or_later false b c = refl

pub or_first : (a b : Bool) → a ≡ true → (a || b) ≡ true
or_first true b e = refl
or_first false b e = absurd (false≢true e)

module _ {C : Type 0} where
  has_from : (q : Step) (given es : List (Step × C)) → has q (steps_of (entries_from given es)) ≡ (has q (steps_of given) || has q (steps_of es))
  has_from q [] es = refl
  has_from q (e ∷ given) es =
      ap (has q) (steps_put e.0 e.1 (entries_from given es)) ∙ has-add q e.0 (steps_of (entries_from given es)) ∙ ap (λ b. same_bytes q e.0 || b) (has_from q given es)
      ∙ or_later (same_bytes q e.0) (has q (steps_of given)) (has q (steps_of es))

  ascend_from : (given es : List (Step × C)) → AreSteps (steps_of es) → AreSteps (steps_of (entries_from given es))
  ascend_from [] es a = a
  ascend_from (e ∷ given) es a = subst AreSteps (sym (steps_put e.0 e.1 (entries_from given es))) (AreSteps-add e.0 (steps_of (entries_from given es)) (ascend_from given es a))

module _ {C : Type 0} where
  pub new_behind : (k : ℕ) (given es : List (Step × C)) → AreNew given es → AreNew (drop k given) es
  new_behind zero given es new = new
  new_behind (suc k) [] es new = new
  new_behind (suc k) (e ∷ given) es new =
      new_behind k given es
      (second (is_below_all e.0 (steps_of given)) (ascend (steps_of given)) new.0, λ q is_in. new.1 q (or_more (same_bytes q e.0) (has q (steps_of given)) is_in))

  pub drop_steps : (k : ℕ) (given : List (Step × C)) → drop k (steps_of given) ≡ steps_of (drop k given)
  drop_steps zero given = refl
  drop_steps (suc k) [] = refl
  drop_steps (suc k) (e ∷ given) = drop_steps k given

  none_there : (e : Step × C) (given es : List (Step × C)) → AreNew (e ∷ given) es → find bytes_cmp e.0 (entries_from given es) ≡ None
  none_there e given es new =
      none_of (find bytes_cmp e.0 (entries_from given es))
      (sym (has_of e.0 (entries_from given es)) ∙ has_from e.0 given es
      ∙ ap (λ b. b || has e.0 (steps_of es)) (below_absent e.0 (steps_of given) (first (is_below_all e.0 (steps_of given)) (ascend (steps_of given)) new.0))
      ∙ has_of e.0 es ∙ ap is_some (new.1 e.0 (at_head e.0 (steps_of given))))

  -- what was put into a map that had none of it is taken out again
  pub all_off : (given es : List (Step × C)) → AreNew given es → entries_off (steps_of given) (entries_from given es) ≡ es
  all_off [] es new = refl
  all_off (e ∷ given) es new =
      ap (entries_off (steps_of given)) (taken_back e.0 e.1 (entries_from given es) (none_there e given es new)) ∙ all_off given es (new_behind 1 (e ∷ given) es new)

and_swap : (l a h : Bool) → (l && (a && h)) ≡ ((a && l) && h)
and_swap true true h = refl
and_swap true false h = refl
and_swap false true h = refl
and_swap false false h = refl

-- which steps stand at indexes
pub has_under : (q : Step) (depth : ℕ) (is : List ℕ) (steps : List Step) → has q (steps_under depth is steps) ≡ (leads depth is q && has q steps)
has_under q depth [] steps = refl
has_under q depth (i ∷ is) steps =
    has_under q (suc depth) is (steps_at depth i steps) ∙ ap (λ b. leads (suc depth) is q && b) (has-filter (λ t. place t depth == i) q steps)
    ∙ and_swap (leads (suc depth) is q) (place q depth == i) (has q steps)

behind_leads : (levels depth : ℕ) (is : List ℕ) (q : Step) → length is ≤ levels → is_some (behind is (way levels depth q)) ≡ leads depth is q
behind_leads levels depth [] q le = refl
behind_leads zero depth (i ∷ is) q le = absurd (omega (arith, le))
behind_leads (suc levels) depth (i ∷ is) q le = elim (same_or_not i (place q depth)) [
  | inl e ↦ ap (λ b. is_some (cond b (behind is (way levels (suc depth) q)) None)) (eq-eqb i (place q depth) e) ∙ behind_leads levels (suc depth) is q (omega (arith, le))
      ∙ ap (λ b. b && leads (suc depth) is q) (sym (eq-eqb (place q depth) i (sym e)))
  | inr ne ↦ ap (λ b. is_some (cond b (behind is (way levels (suc depth) q)) None)) (ne_eqb i (place q depth) ne) ∙ ap (λ b. b && leads (suc depth) is q) (sym (ne_eqb (place q depth) i (λ e. ne (sym e))))
]

pub on_way : (is : List ℕ) (q : Step) → length is ≤ 51 → is_some (behind is (way_to q)) ≡ leads 0 is q
unfolding way_to
on_way is q le = behind_leads deepest 0 is q le

no_some : {A : Type 0} (x : A) → None ≡ Some x → ⊥
no_some x e = false≢true (ap is_some e)

module _ {R : Type 0} where
  list_in : Option (R × List ℕ) → List ℕ
  list_in None = []
  list_in (Some p) = p.1

  unread_apart : (q r : R) (i : ℕ) (is : List ℕ) → ◌≡◌ {A = Option (R × List ℕ)} (Some (q, i ∷ is)) (Some (r, [])) → ⊥
  unfolding list_in
  unread_apart q r i is e =
      let lists : i ∷ is ≡ [] = ap list_in e in
      absurd (omega (arith, ap length lists))

  short_by : (is : List ℕ) (i levels : ℕ) (r : R) (steps : List Step) (l : Part-F R (Part R)) → IsLeafOf steps l → unread_below (unread_in is) i is l ≡ Some (r, []) → length (i ∷ is) ≤ levels
  short_by is i levels r steps (layer.Leaf known held) x e = absurd (no_some (r, []) e)
  short_by is i levels r steps (layer.Inode known n children) x e = absurd x
  short_by is i levels r steps (layer.Unread q n) x e = absurd (unread_apart q r i is e)

  inode_short : (is : List ℕ) (i levels : ℕ) (r : R) (total : ℕ) (G : ℕ → Part R → Type 0) (l : Part-F R (Part R)) → ((child : Part R) → G i child → unread_in is child ≡ Some (r, []) → length is ≤ levels)
      → IsInodeOf total G l → unread_below (unread_in is) i is l ≡ Some (r, []) → length (i ∷ is) ≤ suc levels
  inode_short is i levels r total G (layer.Leaf known held) below x e = absurd x
  inode_short is i levels r total G (layer.Inode known n children) below x e = at (slice_get children.items i) refl e
    where
      at : (o : Option (Part R)) → slice_get children.items i ≡ o → option_and_then (unread_in is) o ≡ Some (r, []) → length (i ∷ is) ≤ suc levels
      at None found found_in = absurd (no_some (r, []) found_in)
      at (Some child) found found_in = omega (arith, below child (x.2 i child found) found_in)
  inode_short is i levels r total G (layer.Unread q n) below x e = absurd (unread_apart q r i is e)

  -- no more indexes lead to a part than there are depths
  pub short : (is : List ℕ) (levels depth : ℕ) (r : R) (steps : List Step) (part : Part R) → IsPart levels depth steps part → unread_in is part ≡ Some (r, []) → length is ≤ levels
  short [] levels depth r steps part x e = omega arith
  short (i ∷ is) zero depth r steps part x e = short_by is i zero r steps (out-Part R part) x e
  short (i ∷ is) (suc levels) depth r steps part x e =
      by_either (nat_le (length steps) leaf_limit) _ _ (length (i ∷ is) ≤ suc levels) (λ y. short_by is i (suc levels) r steps (out-Part R part) y e)
      (λ y. inode_short is i levels r (length steps) (λ k child. IsPart levels (suc depth) (steps_at depth k steps) child) (out-Part R part)
      (λ child g f. short is levels (suc depth) r (steps_at depth i steps) child g f) y e)
      x

  here_cut : (j : ℕ) (w : List ℕ) (r : R) (l : Part-F R (Part R)) → unread_here l ≡ Some (r, []) → is_none (unread_below (unread_in w) j w l) ≡ false
  here_cut j w r (layer.Leaf known held) e = absurd (no_some (r, []) e)
  here_cut j w r (layer.Inode known n children) e = absurd (no_some (r, []) e)
  here_cut j w r (layer.Unread q n) e = refl

  child_cut : (i : ℕ) (is w : List ℕ) (r : R) (l : Part-F R (Part R)) → ((child : Part R) → unread_in is child ≡ Some (r, []) → is_none (unread_in w child) ≡ false)
      → unread_below (unread_in is) i is l ≡ Some (r, []) → is_none (unread_below (unread_in w) i w l) ≡ false
  child_cut i is w r (layer.Leaf known held) below e = absurd (no_some (r, []) e)
  child_cut i is w r (layer.Inode known n children) below e = at (slice_get children.items i) e
    where
      at : (o : Option (Part R)) → option_and_then (unread_in is) o ≡ Some (r, []) → is_none (option_and_then (unread_in w) o) ≡ false
      at None found = absurd (no_some (r, []) found)
      at (Some child) found = below child found
  child_cut i is w r (layer.Unread q n) below e = refl

  -- what lies behind an unread part is not read
  pub cut_off : (is w : List ℕ) (r : R) (part : Part R) → unread_in is part ≡ Some (r, []) → is_some (behind is w) ≡ true → is_none (unread_in w part) ≡ false
  cut_off [] [] r part e b = ap is_none e
  cut_off [] (j ∷ w) r part e b = here_cut j w r (out-Part R part) e
  cut_off (i ∷ is) [] r part e b = absurd (false≢true b)
  cut_off (i ∷ is) (j ∷ w) r part e b = elim (same_or_not i j) [
    | inl same ↦
        let leads_on = ap (λ c. is_some (cond c (behind is w) None)) (sym (eq-eqb i j same)) ∙ b in
        subst (λ k. is_none (unread_below (unread_in w) k w (out-Part R part)) ≡ false) same (child_cut i is w r (out-Part R part) (λ child f. cut_off is w r child f leads_on) e)
    | inr apart ↦ absurd (false≢true (ap (λ c. is_some (cond c (behind is w) None)) (sym (ne_eqb i j apart)) ∙ b))
  ]

module _ {R : Type 0} where
  module _ (is : List ℕ) (r : R) (held : Vec Step Global) (old new : Part R) (put : IsEntered is (variant.Leaf (Some r) held) old new) where
    pub leaf_is_read : IsLeafRead is r old new
    leaf_is_read q = by q (behind is q) (put q)
      where
        known_there : (rest : List ℕ) → known_in rest (variant.Leaf (Some r) held) ≡ leaf_known r rest
        known_there [] = known_leaf (Some r) held
        known_there (i ∷ rest) = past_leaf (Some r) held i rest

        by : (q : List ℕ) (o : Option (List ℕ)) → (unread_in q new ≡ in_place (λ rest. unread_in rest (variant.Leaf (Some r) held)) (unread_in q old) o) × (known_in q new ≡ in_place (λ rest. known_in rest (variant.Leaf (Some r) held)) (known_in q old) o)
            → (unread_in q new ≡ in_place (λ rest. None) (unread_in q old) o) × (known_in q new ≡ in_place (leaf_known r) (known_in q old) o)
        by q None e = e
        by q (Some rest) e = (e.0 ∙ unread_leaf (Some r) held rest, e.1 ∙ known_there rest)

  pub leaf_reaches : (is : List ℕ) (r : R) (old new : Part R) → length is ≤ 51 → IsLeafRead is r old new → (q : Step) → reaches new q ≡ (leads 0 is q || reaches old q)
  leaf_reaches is r old new le read q = ap is_none (read (way_to q)).0 ∙ by (behind is (way_to q)) ∙ ap (λ b. b || reaches old q) (on_way is q le)
    where
      by : (o : Option (List ℕ)) → is_none (in_place (λ rest. None) (unread_in (way_to q) old) o) ≡ (is_some o || reaches old q)
      by None = refl
      by (Some rest) = refl

in_both : (l ro h : Bool) → ((l && h) || (ro && h)) ≡ ((l || ro) && h)
in_both true ro true = refl
in_both true true false = refl
in_both true false false = refl
in_both false ro h = refl

is_leaf_or : (n depth : ℕ) → (nat_le n leaf_limit || nat_le deepest depth) ≡ true → depth ≤ 51 → (n ≤ 32) ⊎ (depth ≡ 51)
is_leaf_or n depth e le = grind (arith, nat_tests)

module _ {C R : Type 0} where
  module _ (is : List ℕ) (r : R) (root : Part R) (steps : List Step) (given es : List (Step × C)) (stands : Stands root steps es) (found : unread_in is root ≡ Some (r, [])) (are : steps_of given ≡ steps_under 0 is steps) where
    pub few_indexes : length is ≤ 51
    few_indexes = short is deepest 0 r steps root stands.1 found

    pub has_given : (q : Step) → has q (steps_of given) ≡ (leads 0 is q && has q steps)
    has_given q = ap (has q) are ∙ has_under q 0 is steps

    away : (q : Step) → leads 0 is q ≡ true → reaches root q ≡ false
    away q leads_there = cut_off is (way_to q) r root found (on_way is q few_indexes ∙ leads_there)

    and_left : (a b : Bool) → (a && b) ≡ true → a ≡ true
    and_left true b e = refl
    and_left false b e = e

    under_ascends : AreSteps (steps_of given)
    under_ascends = subst AreSteps (sym are) (all 0 is steps stands.0)
      where
        all : (depth : ℕ) (w : List ℕ) (ss : List Step) → AreSteps ss → AreSteps (steps_under depth w ss)
        all depth [] ss a = a
        all depth (i ∷ w) ss a = all (suc depth) w (steps_at depth i ss) (AreSteps-filter (λ t. place t depth == i) ss a)

    pub are_new : AreNew given es
    are_new = (
      under_ascends,
      λ q is_in.
          none_of (find bytes_cmp q es) (stands_in root steps es q stands.2 ∙ ap (λ b. b && has q steps) (away q (and_left (leads 0 is q) (has q steps) (sym (has_given q) ∙ is_in)))),
    )

    -- once the leaf stands there
    pub stands_entered : (new : Part R) → IsPart deepest 0 steps new → ((q : Step) → reaches new q ≡ (leads 0 is q || reaches root q)) → Stands new steps (entries_from given es)
    stands_entered new shape read = (
      stands.0,
      shape,
      same_steps (steps_of (entries_from given es)) (filter (reaches new) steps) (ascend_from given es (subst AreSteps (sym stands.2) (AreSteps-filter (reaches root) steps stands.0))) (AreSteps-filter (reaches new) steps stands.0) (λ q.
          has_from q given es ∙ ap (λ b. b || has q (steps_of es)) (has_given q) ∙ ap (λ ss. (leads 0 is q && has q steps) || has q ss) stands.2
          ∙ ap (λ b. (leads 0 is q && has q steps) || b) (has-filter (reaches root) q steps) ∙ in_both (leads 0 is q) (reaches root q) (has q steps)
          ∙ ap (λ b. b && has q steps) (sym (read q)) ∙ sym (has-filter (reaches new) q steps)),
    )

  pub leaf_shape : (is : List ℕ) (r : R) (steps : List Step) (held : Vec Step Global) (given : List (Step × C)) → held.items ≡ steps_of given → steps_of given ≡ steps_under 0 is steps → length is ≤ 51 → is_leaf (length is) given ≡ true
      → Steps 0 is steps (variant.Leaf (Some r) held)
  leaf_shape is r steps held given items are le leaf = elim (is_leaf_or (length given) (length is) leaf le) [
    | inl few ↦ leaf_made (deepest - (0 + length is)) (0 + length is) (steps_under 0 is steps) (Some r) held (omega (arith, few, as_long given, ap (λ (ss : List Step). length ss) are)) (items ∙ are)
    | inr last ↦ deepest_made (deepest - (0 + length is)) (0 + length is) (steps_under 0 is steps) (Some r) held (omega (arith, last)) (items ∙ are)
  ]

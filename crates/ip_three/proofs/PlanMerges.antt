-- Where a merge has no conflict: there is one, and the plan's edits make it of the left tree.
--     some_merge      there is one
--     are_edits      what goes and what comes is what the merge asks for
--     is_edited      all that follows for it
use Rattle.std.proofs.Common.{◌≡◌, ◌≢◌, ℕ, ◌<◌, ◌≤◌, [], ◌∷◌, ◌++◌, length, refl, sym, ap, subst, ◌∙◌, Option, Some, None, Bool, true, false, inl, inr, arith}
use Rattle.std.proofs.lemmas.Bool.{and_from, and_parts, false≢true, not-true, or_cases, or_left, or_right}
use Rattle.std.proofs.lemmas.Option.{none-some}
use Rattle.std.specs.Prelude.{◌⊎◌, Contains, IsSome, IsFalse, IsTrue, not, ◌&&◌, ◌||◌, is_none, is_some, if◌then◌else◌}
use Rattle.ip_spec.specs.Map.{get}
use Rattle.ip_spec.specs.Merge.{Conflicts, Merges, Outcome, Results, Rule, conflict_at, means, merged}
use Rattle.ip_spec.specs.declared.merge.Merged.{Merged}
use Rattle.ip_spec.specs.declared.merge.Merged.TheVariants.{Keep, Conflict}
use Rattle.ip_spec.specs.MergeModel.{Merger, is_conflict, merge_of}
use Rattle.ip_spec.specs.Path.{Bytes, IsPath, Path}
use Rattle.ip_spec.specs.Step.{contents_limit}
use Rattle.ip_spec.specs.Tree.{Tree}
use Rattle.ip_spec.specs.View.{View}
use Rattle.ip_spec.proofs.MergeLaws.{merges}
use Rattle.ip_three.specs.Clashes.{clash_of, lesser}
use Rattle.ip_three.specs.Merging.{AreEdits, Coming, Follows, Side, of_left, of_right, coming, coming_by, contents_side, directory_side, goes, has_directory, is_merged, is_rights, less, map_of, put, taken}
use Rattle.ip_three.specs.Planning.{Asked, HasNone, IsComing, IsGoing, IsPlan, Noted, Plan, Visits}
use Rattle.ip_three.specs.Outcomes.{AreMerging, AreShort, IsEdited}
use Rattle.ip_three.proofs.Planned.{SideAt, by_contents, by_directory, by_rule, directory_value, lefts_root, rights_below, side_at, some_left}
use Rattle.ip_three.proofs.Refusing.{none_conflicts}
use Rattle.ip_three.proofs.Sides.{alike_side, asked_result, contents_result, decided_result, map_tree, one_result, rule_result, side_result}
use Rattle.ip_three.proofs.Standing.{no_both}
use Rattle.ip_three.proofs.Values.{kept_value, none_is, none_of, not_lefts, right_is, some_is}

less_or : (n m : ℕ) → (m < n → ⊥) → n ≤ m
less_or n m apart = omega arith

module _ (rule : Rule) (b l r : View) (are : AreMerging rule b l r) (plan : Plan) (is_plan : IsPlan rule b l r plan) (visits : Visits rule b l r (λ p. p ≢ []) plan) (root : directory_side b l r [] ≡ None) where
  ruled : (p : Path) → contents_side b l r p ≡ None → p ≢ []
  ruled p none e = false≢true (ap is_some (sym none ∙ lefts_root rule b l r are plan is_plan visits root p e))

  rights : (p : Path) → contents_side b l r p ≡ Some of_right → p ≢ []
  rights p contents e = not_lefts _ (lefts_root rule b l r are plan is_plan visits root p e) contents

  -- ---- there is a merge

  answer_at : (p : Path) → SideAt b l r p → Merged
  answer_at p (by_directory side is) = Conflict
  answer_at p (by_contents side is contents) = Conflict
  answer_at p (by_rule is none) = (visits.asked p (ruled p none) is none).0

  answer : Path → Merged
  answer p = answer_at p (side_at b l r p)

  abbrev merger : Path → Merger
  merger p o x y = answer p

  abbrev computed : Rule
  computed p = means (merger p)

  are_computed : AreMerging computed b l r
  are_computed = record { one = λ p o x y m n e f. e ∙ sym f; base = are.base; left = are.left; right = are.right; sides = are.sides; left_base = are.left_base; right_base = are.right_base }

  -- what the computed rule gives, the rule gives
  same_results : (p : Path) (m : Merged) → Results computed b.map l.map r.map p m → Results rule b.map l.map r.map p m
  unfolding answer answer_at
  same_results p m is = by (side_at b l r p) refl
    where
      at_side : (v : Option Bytes) → Results computed b.map l.map r.map p (Keep v) → Results rule b.map l.map r.map p (Keep v) → Results rule b.map l.map r.map p m
      at_side v one other = subst (Results rule b.map l.map r.map p) (one_result computed b l r are_computed p _ _ one is) other

      by : (s : SideAt b l r p) → side_at b l r p ≡ s → Results rule b.map l.map r.map p m
      by (by_directory side d) e = at_side _ (decided_result computed b l r are_computed p side d) (decided_result rule b l r are p side d)
      by (by_contents side is_m c) e = at_side _ (contents_result computed b l r p side c) (contents_result rule b l r p side c)
      by (by_rule is_m none) e =
          let a = visits.asked p (ruled p none) is_m none in
          let same : m ≡ a.0 = rule_result computed b l r p m none is ∙ ap (answer_at p) e in
          subst (Results rule b.map l.map r.map p) (sym same) (asked_result rule b l r p a.0 a.1)

  pub some_merge : lesser plan.conflict (clash_of (less l plan.gone).map r plan.come) ≡ None → (t : Tree) × Merges rule b.map l.map r.map (merged t)
  some_merge none = by (merge_of merger b.map l.map r.map) (merges merger b.map l.map r.map)
    where
      same_conflicts : (c : Path) → Conflicts computed b.map l.map r.map c → Conflicts rule b.map l.map r.map c
      same_conflicts c (inl is) = inl (same_results c Conflict is)
      same_conflicts c (inr (v, w, q, prefix, apart, one, other)) = inr (v, w, q, prefix, apart, same_results c (Keep (Some v)) one, same_results q (Keep (Some w)) other)

      by : (x : Outcome) → Merges computed b.map l.map r.map x → (t : Tree) × Merges rule b.map l.map r.map (merged t)
      by (merged t) is = (t, (λ p. same_results p (Keep (get t p)) (is.0 p), is.1))
      by (conflict_at c) is = absurd (none_conflicts rule b l r are plan is_plan visits root none c (same_conflicts c is.0))

  -- ---- its edits

  module _ (t : Tree) (is_merge : Merges rule b.map l.map r.map (merged t)) where
    -- what it has there
    value_is : (p : Path) (v : Option Bytes) → Results rule b.map l.map r.map p (Keep v) → get t p ≡ v
    value_is p v is = kept_value _ _ (one_result rule b l r are p _ _ (is_merge.0 p) is)

    no_conflict : (p : Path) → Results rule b.map l.map r.map p Conflict → ⊥
    no_conflict p is = false≢true (ap is_conflict (one_result rule b l r are p _ _ (is_merge.0 p) is))

    by_side : (p : Path) (side : Side) → contents_side b l r p ≡ Some side → get t p ≡ get (map_of l r side) p
    by_side p side is = value_is p _ (contents_result rule b l r p side is)

    -- the rule's answer is what stands there
    asked_is : (p : Path) → is_merged b l r p ≡ true → contents_side b l r p ≡ None → Asked rule b l r p (Keep (get t p)) × Noted rule b l r plan p (Keep (get t p))
    asked_is p is_m none =
        let a = visits.asked p (ruled p none) is_m none in
        let same : a.0 ≡ Keep (get t p) = one_result rule b l r are p _ _ (asked_result rule b l r p a.0 a.1) (is_merge.0 p) in
        (subst (Asked rule b l r p) same a.1, subst (Noted rule b l r plan p) same a.2)

    -- what goes
    none_there : (p : Path) → HasNone rule b l r p → get t p ≡ None
    none_there p (inl contents) = by_side p of_right contents.0 ∙ contents.1
    none_there p (inr (inl asked)) = value_is p None (asked_result rule b l r p (Keep None) asked)
    none_there p (inr (inr asked)) = absurd (no_conflict p (asked_result rule b l r p Conflict asked))

    goes_so : (p : Path) → IsGoing rule b l r p → goes b l r t p ≡ true
    goes_so p is = and_from _ _ is.0 (by is.1)
      where
        by : (IsSome (get l.map p) × HasNone rule b l r p) ⊎ ((has_directory l.map p ≡ true) × (is_rights b l r p ≡ true) × (has_directory r.map p ≡ false))
            → ((is_some (get l.map p) && is_none (get t p)) || (has_directory l.map p && is_rights b l r p && not (has_directory r.map p))) ≡ true
        by (inl contents) = or_left _ _ (and_from _ _ contents.0 (ap is_none (none_there p contents.1)))
        by (inr directory) = or_right (is_some (get l.map p) && is_none (get t p)) _ (and_from _ _ (and_from _ _ directory.0 directory.1) (ap not directory.2))

    so_goes : (p : Path) → goes b l r t p ≡ true → Contains plan.gone p
    so_goes p is = by (or_cases _ _ (and_parts (is_merged b l r p) _ is).1)
      where
        merged_here : is_merged b l r p ≡ true
        merged_here = (and_parts _ _ is).0

        has_none : get t p ≡ None → (x : Bytes) → get l.map p ≡ Some x → (o : Option Side) → contents_side b l r p ≡ o → HasNone rule b l r p
        has_none none x some (Some of_left) e = none_is (get l.map p) x (sym (by_side p of_left e) ∙ none) some
        has_none none x some (Some of_right) e = inl (e, sym (by_side p of_right e) ∙ none)
        has_none none x some None e = inr (inl (subst (λ v. Asked rule b l r p (Keep v)) none (asked_is p merged_here e).0))

        contents : is_some (get l.map p) ≡ true → get t p ≡ None → Contains plan.gone p
        contents some none =
            let x = some_is _ some in
            visits.gone p (some_left rule b l r are plan is_plan visits root p x.0 x.1) (merged_here, inl (some, has_none none x.0 x.1 (contents_side b l r p) refl))

        by : ((is_some (get l.map p) && is_none (get t p)) ≡ true) ⊎ ((has_directory l.map p && is_rights b l r p && not (has_directory r.map p)) ≡ true) → Contains plan.gone p
        by (inl e) = let both = and_parts (is_some (get l.map p)) _ e in contents both.0 (none_of _ both.1)
        by (inr e) =
            let sides = and_parts (has_directory l.map p && is_rights b l r p) _ e in
            let left = and_parts (has_directory l.map p) _ sides.0 in
            visits.gone p (rights_below rule b l r are plan is_plan visits root p (right_is _ left.1)) (merged_here, inr (left.0, left.1, not-true _ sides.1))

    -- what comes
    coming_is : (p : Path) (m : Bool) (o : Option Bytes) (side : Option Side) (d : Bool) → is_merged b l r p ≡ m → get t p ≡ o → contents_side b l r p ≡ side → (is_rights b l r p && has_directory r.map p) ≡ d
        → coming b l r t p ≡ (if m then coming_by o side d else None)
    coming_is p m o side d is_m is_o is_side is_d = λ i. if is_m i then coming_by (is_o i) (is_side i) (is_d i) else None

    comes_so : (p : Path) (c : Coming) → IsComing rule b l r p c → coming b l r t p ≡ Some c
    comes_so p (put bytes) is = coming_is p true (Some bytes) None _ is.0 (value_is p (Some bytes) (asked_result rule b l r p (Keep (Some bytes)) is)) is.1 refl
    comes_so p taken (is, why) = by why
      where
        contents : (x : Bytes) → get r.map p ≡ Some x → contents_side b l r p ≡ Some of_right → coming b l r t p ≡ Some taken
        contents x some side = coming_is p true (Some x) (Some of_right) _ is (by_side p of_right side ∙ some) side refl

        bare : (o : Option Bytes) → get t p ≡ o → is_rights b l r p ≡ true → has_directory r.map p ≡ true → get t p ≡ None
        bare None e right directory = e
        bare (Some x) e right directory =
            let v = directory_value rule b l r are plan is_plan visits root p (is, right_is _ right, directory) in
            absurd (no_both t is_merge.1 p v.0 v.1 x v.2.0 e (value_is (p ++ v.0 ∷ v.1) (Some v.2.0) v.2.1))

        by : ((contents_side b l r p ≡ Some of_right) × IsSome (get r.map p)) ⊎ ((is_rights b l r p ≡ true) × (has_directory r.map p ≡ true)) → coming b l r t p ≡ Some taken
        by (inl c) = let x = some_is _ c.1 in contents x.0 x.1 c.0
        by (inr d) = coming_is p true None _ true is (bare (get t p) refl d.0 d.1) refl (and_from _ _ d.0 d.1)

    so_comes : (p : Path) (c : Coming) → coming b l r t p ≡ Some c → Contains plan.come (p, c)
    so_comes p c is = by (is_merged b l r p) (get t p) (contents_side b l r p) (is_rights b l r p && has_directory r.map p) refl refl refl refl is
      where
        there : (x : Coming) → Some x ≡ Some c → Contains plan.come (p, x) → Contains plan.come (p, c)
        there x e is = let same : x ≡ c = cc in subst (λ y. Contains plan.come (p, y)) same is

        by : (m : Bool) (o : Option Bytes) (side : Option Side) (d : Bool) → is_merged b l r p ≡ m → get t p ≡ o → contents_side b l r p ≡ side → (is_rights b l r p && has_directory r.map p) ≡ d
            → (if m then coming_by o side d else None) ≡ Some c → Contains plan.come (p, c)
        by false o side d is_m is_o is_side is_d e = absurd (none-some c e)
        by true (Some x) (Some of_left) d is_m is_o is_side is_d e = absurd (none-some c e)
        by true (Some x) (Some of_right) d is_m is_o is_side is_d e =
            there taken e (visits.come p taken (rights p is_side) (is_m, inl (is_side, ap is_some (sym (by_side p of_right is_side) ∙ is_o))))
        by true (Some x) None d is_m is_o is_side is_d e =
            there (put x) e (visits.come p (put x) (ruled p is_side) (subst (λ v. Asked rule b l r p (Keep v)) is_o (asked_is p is_m is_side).0))
        by true None side false is_m is_o is_side is_d e = absurd (none-some c e)
        by true None side true is_m is_o is_side is_d e =
            let both = and_parts (is_rights b l r p) _ is_d in
            there taken e (visits.come p taken (rights_below rule b l r are plan is_plan visits root p (right_is _ both.0)) (is_m, inr both))

    pub are_edits : AreEdits b l r t plan.gone plan.come
    are_edits = record {
      only_gone = λ k d within. goes_so _ (is_plan.gone k d within);
      each_gone = so_goes;
      only_come = λ k d within. comes_so _ _ (is_plan.come k d within);
      each_come = so_comes;
    }

    pub follows : Follows b l r t
    follows p side is = value_is p _ (side_result rule b l r are p side is)

    -- ---- and the rest

    some_path : (p : Path) → IsSome (get t p) → IsPath p
    some_path p some = by (side_at b l r p)
      where
        at_side : (side : Side) → get t p ≡ get (map_of l r side) p → IsPath p
        at_side side e = (map_tree rule b l r are side).paths p (ap is_some (sym e) ∙ some)

        asked : contents_side b l r p ≡ None → (x y : Option Bytes) → get l.map p ≡ x → get r.map p ≡ y → IsPath p
        asked none (Some x) y e f = are.left.paths p (ap is_some e)
        asked none None (Some y) e f = are.right.paths p (ap is_some f)
        asked none None None e f = absurd (false≢true (ap is_some (sym none ∙ alike_side rule b l r p (e ∙ sym f))))

        by : SideAt b l r p → IsPath p
        by (by_directory side is) = at_side side (value_is p _ (decided_result rule b l r are p side is))
        by (by_contents side is_m is) = at_side side (by_side p side is)
        by (by_rule is_m none) = asked none (get l.map p) (get r.map p) refl refl

    are_short : IsFalse plan.long → AreShort l.map → AreShort r.map → AreShort t
    are_short short left right p bytes some = by (side_at b l r p)
      where
        at_side : (side : Side) → get t p ≡ get (map_of l r side) p → length bytes ≤ contents_limit
        at_side of_left e = left p bytes (sym e ∙ some)
        at_side of_right e = right p bytes (sym e ∙ some)

        by : SideAt b l r p → length bytes ≤ contents_limit
        by (by_directory side is) = at_side side (value_is p _ (decided_result rule b l r are p side is))
        by (by_contents side is_m is) = at_side side (by_side p side is)
        by (by_rule is_m none) =
            let noted : Noted rule b l r plan p (Keep (Some bytes)) = subst (λ v. Noted rule b l r plan p (Keep v)) some (asked_is p is_m none).1 in
            less_or _ _ (λ beyond. false≢true (sym short ∙ noted beyond))

    some_long : IsTrue plan.long → (p : Path) × (bytes : Bytes) × (get t p ≡ Some bytes) × (contents_limit < length bytes)
    some_long long = let a = is_plan.long long in (a.0, a.1, value_is a.0 (Some a.1) (asked_result rule b l r a.0 (Keep (Some a.1)) a.2), a.3)

    pub is_edited : IsEdited rule b l r plan t
    is_edited = record {
      merges = is_merge;
      edits = are_edits;
      follows = follows;
      tree = record { prefix_free = is_merge.1; paths = some_path };
      short = are_short;
      long = some_long;
    }

  -- where neither a rule nor what comes has a conflict
  pub some_edited : lesser plan.conflict (clash_of (less l plan.gone).map r plan.come) ≡ None → (t : Tree) × IsEdited rule b l r plan t
  some_edited none = let m = some_merge none in (m.0, is_edited m.0 m.1)

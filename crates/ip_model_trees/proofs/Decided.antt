-- The merge of three maps, by what becomes of each path by itself.
use Rattle.std.proofs.Common.{◌≡◌, inl, inr, get_or, Bool, true, false, cond, List, [], ◌∷◌, map, refl, sym, ap, subst, ◌∙◌}
use Rattle.std.specs.Prelude.{◌&&◌, ◌||◌, All, Option, Some, None, is_some, option_map, filter_map, Result, Ok, Err, IfOk}
use Rattle.std.specs.Bool.{MatchBool}
use Rattle.std.specs.List.{list_any, find as first, cons_option}
use Rattle.std.specs.FinMap.Entries.{find, is_some-find}
use Rattle.std.proofs.lemmas.List.Elements.{All-head, All-tail}
use Rattle.ip_base.specs.declared.memory.Memory.{Memory}
use Rattle.ip_spec.specs.Map.{get, keys, empty, insert, insert_all, entries-insert, get-insert}
use Rattle.ip_spec.specs.Path.{Bytes, Path, path_cmp, same_path}
use Rattle.ip_spec.specs.Tree.{Tree}
use Rattle.ip_spec.specs.declared.merge.Merged.{Merged}
use Rattle.ip_spec.specs.declared.merge.Merged.TheVariants.{Keep, Conflict}
use Rattle.ip_spec.specs.Merge.{Meaning, Rule, IsOneAnswer, Outcome, merged, conflict_at, same_value, Decides, Results, Conflicts, Merges, means}
use Rattle.ip_spec.specs.MergeModel.{Merger, decision, value_of, is_conflict, answer_at, all_paths, conflicts_at, with_value, results_from, merge_of, outcome_by}
use Rattle.ip_spec.proofs.TreeLaws.{path_total}
use Rattle.ip_spec.proofs.MergeLaws.{merges}
use Rattle.ip_spec.proofs.Subtrees.{same_as}
use Rattle.ip_model_trees.specs.Parts.{put_all}
use Rattle.ip_model_trees.specs.declared.merging.Joined.{Joined}
use Rattle.ip_model_trees.specs.Merging.{Answer, IsDecided, AreAnswers, is_over, conflicts_in, kept, Tells, MergesTo}
use Rattle.ip_model_trees.proofs.PartLaws.{entries-insert_all}

-- ---- what a rule decides

one_decision : (f : Meaning) → IsOneAnswer f → (o a b : Option Bytes) (r s : Merged) → Decides f o a b r → Decides f o a b s → r ≡ s
one_decision f one o a b r s x y = by (same_value a b) (same_value a o) (same_value b o) x y
  where
    by : (equal left right : Bool) → MatchBool equal (r ≡ Keep a) (MatchBool left (r ≡ Keep b) (MatchBool right (r ≡ Keep a) (f o a b r)))
        → MatchBool equal (s ≡ Keep a) (MatchBool left (s ≡ Keep b) (MatchBool right (s ≡ Keep a) (f o a b s))) → r ≡ s
    by true left right x y = x ∙ sym y
    by false true right x y = x ∙ sym y
    by false false true x y = x ∙ sym y
    by false false false x y = one o a b r s x y

-- a merger that answers what becomes of the values lets that become of them
module _ (o a b : Option Bytes) (r : Merged) where
  abbrev constant : Merger
  constant x y z = r

  given : (f : Meaning) → Decides f o a b r → decision constant o a b ≡ r
  given f h = by (same_value a b) (same_value a o) (same_value b o) h
    where
      by : (s t u : Bool) → MatchBool s (r ≡ Keep a) (MatchBool t (r ≡ Keep b) (MatchBool u (r ≡ Keep a) (f o a b r))) → cond s (Keep a) (cond t (Keep b) (cond u (Keep a) r)) ≡ r
      by true t u h = sym h
      by false true u h = sym h
      by false false true h = sym h
      by false false false h = refl

  constantly : (f : Meaning) → Decides f o a b r → Decides (means constant) o a b r
  constantly f h = by (same_value a b) (same_value a o) (same_value b o) h
    where
      by : (s t u : Bool) → MatchBool s (r ≡ Keep a) (MatchBool t (r ≡ Keep b) (MatchBool u (r ≡ Keep a) (f o a b r))) → MatchBool s (r ≡ Keep a) (MatchBool t (r ≡ Keep b) (MatchBool u (r ≡ Keep a) (r ≡ r)))
      by true t u h = h
      by false true u h = h
      by false false true h = h
      by false false false h = refl

-- ---- two rules by which the same becomes of each path

module _ (o a b : Tree) where
  abbrev Gives : Rule → Rule → Type 0
  Gives g h = (p : Path) (r : Merged) → Results g o a b p r → Results h o a b p r

  conflicts_too : (g h : Rule) → Gives g h → (p : Path) → Conflicts g o a b p → Conflicts h o a b p
  conflicts_too g h to p (inl c) = inl (to p Conflict c)
  conflicts_too g h to p (inr (v, w, q, under, apart, here, there)) = inr (v, w, q, under, apart, to p (Keep (Some v)) here, to q (Keep (Some w)) there)

  merges_too : (g h : Rule) → Gives g h → Gives h g → (m : Outcome) → Merges g o a b m → Merges h o a b m
  merges_too g h to from (merged t) x = ((λ p. to p (Keep (get t p)) (x.0 p)), x.1)
  merges_too g h to from (conflict_at p) x = (conflicts_too g h to p x.0, λ q lt c. x.1 q lt (conflicts_too h g from q c))

-- ---- lists of paths with what becomes of them

module _ (A : Path → Merged) where
  abbrev beside : Path → Answer
  beside p = (p, A p)

  beside_paths : (es : List Answer) → All (λ (e : Answer). e.1 ≡ A e.0) es → es ≡ map beside (map (λ (e : Answer). e.0) es)
  beside_paths [] all = refl
  beside_paths (e ∷ es) all =
      let here : e.1 ≡ A e.0 = All-head (λ (e : Answer). e.1 ≡ A e.0) e es all in
      let rest = beside_paths es (All-tail (λ (e : Answer). e.1 ≡ A e.0) e es all) in
      λ i. (e.0, here i) ∷ rest i

  first_beside : (t : Answer → Bool) (ps : List Path) → option_map (λ (e : Answer). e.0) (first t (map beside ps)) ≡ first (λ p. t (beside p)) ps
  first_beside t [] = refl
  first_beside t (p ∷ ps) = by (t (beside p)) (first_beside t ps)
    where
      by : (c : Bool) → option_map (λ (e : Answer). e.0) (first t (map beside ps)) ≡ first (λ p. t (beside p)) ps → option_map (λ (e : Answer). e.0) (cond c (Some (beside p)) (first t (map beside ps))) ≡ cond c (Some p) (first (λ p. t (beside p)) ps)
      by true ih = refl
      by false ih = ih

  any_beside : (t : Answer → Bool) (ps : List Path) → list_any t (map beside ps) ≡ list_any (λ p. t (beside p)) ps
  any_beside t [] = refl
  any_beside t (p ∷ ps) = ap (λ c. t (beside p) || c) (any_beside t ps)

  kept_beside : (ps : List Path) → filter_map kept (map beside ps) ≡ filter_map (λ p. kept (beside p)) ps
  kept_beside [] = refl
  kept_beside (p ∷ ps) = ap (cons_option (kept (beside p))) (kept_beside ps)

  -- a path with a value, above another or by itself
  abbrev conflicts_by : List Path → Path → Bool
  conflicts_by ps p = is_conflict (A p) || (is_some (value_of (A p)) && list_any (λ q. is_over (beside p) (beside q)) ps)

  first_conflict : (ps : List Path) → option_map (λ (e : Answer). e.0) (first (conflicts_in (map beside ps)) (map beside ps)) ≡ first (conflicts_by ps) ps
  first_conflict ps =
      first_beside (conflicts_in (map beside ps)) ps
      ∙ λ i. first (λ p. is_conflict (A p) || (is_some (value_of (A p)) && any_beside (is_over (beside p)) ps i)) ps

-- ---- the merge function, where each path's answer is what becomes of it

module _ (o a b : Tree) (A : Path → Merged) where
  abbrev giving : Path → Merger
  giving p = constant None None None (A p)

  abbrev paths : List Path
  paths = keys (all_paths giving o a b)

  abbrev result : Tree
  result = results_from giving o a b paths empty

  module _ (is : (p : Path) → answer_at giving o a b p ≡ A p) where
    conflict_found : option_map (λ (e : Answer). e.0) (first (conflicts_in (map (beside A) paths)) (map (beside A) paths)) ≡ first (conflicts_at giving o a b) paths
    conflict_found = first_conflict A paths ∙ λ i. first (conflicts_by (λ p. sym (is p) i) paths) paths

    results_parts : (ps : List Path) (m : Tree) → (results_from giving o a b ps m).entries ≡ put_all path_cmp m.entries (filter_map (λ p. kept (beside A p)) ps)
    results_parts [] m = refl
    results_parts (p ∷ ps) m =
        results_parts ps (with_value giving o a b m p (value_of (answer_at giving o a b p)))
        ∙ (ap (λ r. put_all path_cmp (with_value giving o a b m p (value_of r)).entries (filter_map (λ p. kept (beside A p)) ps)) (is p) ∙ by (value_of (A p)))
      where
        by : (v : Option Bytes) → put_all path_cmp (with_value giving o a b m p v).entries (filter_map (λ p. kept (beside A p)) ps) ≡ put_all path_cmp m.entries (cons_option (option_map (λ w. (p, w)) v) (filter_map (λ p. kept (beside A p)) ps))
        by None = refl
        by (Some w) = ap (λ es. put_all path_cmp es (filter_map (λ p. kept (beside A p)) ps)) (entries-insert path_total m p w)

    values_are : put_all path_cmp [] (filter_map kept (map (beside A) paths)) ≡ result.entries
    unfolding empty
    values_are = ap (put_all path_cmp []) (kept_beside A paths) ∙ sym (results_parts paths empty)

  outcome_so : (x : Option Path) → first (conflicts_at giving o a b) paths ≡ x → merge_of giving o a b ≡ outcome_by giving o a b x
  unfolding merge_of
  outcome_so x e = ap (outcome_by giving o a b) e

-- ---- what was answered

found_holds : (P : Path → Merged → Type 0) (p : Path) (r : Merged) (es : List Answer) → All (λ (e : Answer). P e.0 e.1) es → find path_cmp p es ≡ Some r → P p r
found_holds P p r [] all h = absurd (cc (h))
found_holds P p r (e ∷ es) all h = by (same_path p e.0) refl h (found_holds P p r es (All-tail (λ (e : Answer). P e.0 e.1) e es all))
  where
    by : (c : Bool) → same_path p e.0 ≡ c → cond c (Some e.1) (find path_cmp p es) ≡ Some r → (find path_cmp p es ≡ Some r → P p r) → P p r
    by true same h ih =
        let is : e.1 ≡ r = cc in
        subst (λ q. P q r) (sym (same_as p e.0 same)) (subst (P e.0) is (All-head (λ (e : Answer). P e.0 e.1) e es all))
    by false same h ih = ih h

-- what stands nowhere after insertions stood nowhere before
absent_before : (es : List (Path × Bytes)) (m : Tree) (p : Path) → get (insert_all m es) p ≡ None → (get m p ≡ None) × (find path_cmp p es ≡ None)
absent_before [] m p h = (h, refl)
absent_before (e ∷ es) m p h =
    let before = absent_before es (insert m e.0 e.1) p h in
    by (same_path p e.0) (get m p) (find path_cmp p es) (sym (get-insert path_total m e.0 e.1 p) ∙ before.0) before.1
  where
    by : (c : Bool) (x y : Option Bytes) → cond c (Some e.1) x ≡ None → y ≡ None → (x ≡ None) × (cond c (Some e.1) y ≡ None)
    by true x y h g = absurd (cc (h))
    by false x y h g = (h, g)

none_by : {X Y : Type 0} (x : Option X) (y : Option Y) → is_some x ≡ is_some y → x ≡ None → y ≡ None
none_by x None e h = refl
none_by x (Some w) e h = absurd (cc (e, h))

abbrev or_absent : Option Merged → Merged
or_absent None = Keep None
or_absent (Some r) = r

module _ (rule : Rule) (one : (p : Path) → IsOneAnswer (rule p)) (o a b : Tree) (es : List Answer) where
  abbrev answered : Path → Merged
  answered p = or_absent (find path_cmp p es)

  abbrev united : Tree
  united = insert_all (insert_all o a.entries) b.entries

  module _ (are : AreAnswers rule o.entries a.entries b.entries united.entries es) where
    result_by : (p : Path) (x : Option Merged) → find path_cmp p es ≡ x → Results rule o a b p (or_absent x)
    result_by p (Some r) h = found_holds (IsDecided rule o.entries a.entries b.entries) p r es are.decided h
    result_by p None h =
        let listed : is_some (find path_cmp p es) ≡ is_some (get united p) = is_some-find path_cmp p es ∙ (ap (list_any (same_path p)) are.paths ∙ sym (is_some-find path_cmp p united.entries)) in
        let second = absent_before b.entries (insert_all o a.entries) p (none_by (find path_cmp p es) (get united p) listed h) in
        let first = absent_before a.entries o p second.0 in
        subst (λ x. Decides (rule p) x (get a p) (get b p) (Keep None)) (sym first.0) (subst (λ x. Decides (rule p) None x (get b p) (Keep None)) (sym first.1) (subst (λ x. Decides (rule p) None None x (Keep None)) (sym second.1) refl))

    results : (p : Path) → Results rule o a b p (answered p)
    results p = result_by p (find path_cmp p es) refl

    one_result : (p : Path) (r : Merged) → Results rule o a b p r → r ≡ answered p
    one_result p r h = one_decision (rule p) (one p) (get o p) (get a p) (get b p) r (answered p) h (results p)

    all_beside : es ≡ map (beside answered) (keys united)
    all_beside =
        beside_paths answered es (λ k d low. one_result (get_or es k d).0 (get_or es k d).1 (are.decided k d low))
        ∙ ap (map (beside answered)) are.paths

    giving_so : (p : Path) → answer_at (giving o a b answered) o a b p ≡ answered p
    giving_so p = given (get o p) (get a p) (get b p) (answered p) (rule p) (results p)

    abbrev computed : Rule
    computed p = means (giving o a b answered p)

    to_rule : Gives o a b computed rule
    to_rule p r h =
        let is : r ≡ answered p = one_decision (computed p) (λ x y z s t e g. e ∙ sym g) (get o p) (get a p) (get b p) r (answered p) h (constantly (get o p) (get a p) (get b p) (answered p) (rule p) (results p)) in
        subst (Results rule o a b p) (sym is) (results p)

    from_rule : Gives o a b rule computed
    from_rule p r h = subst (Results computed o a b p) (sym (one_result p r h)) (constantly (get o p) (get a p) (get b p) (answered p) (rule p) (results p))

    all_merges : Merges rule o a b (merge_of (giving o a b answered) o a b)
    all_merges = merges_too o a b computed rule to_rule from_rule (merge_of (giving o a b answered) o a b) (merges (giving o a b answered) o a b)

    found : option_map (λ (e : Answer). e.0) (first (conflicts_in es) es) ≡ first (conflicts_at (giving o a b answered) o a b) (keys united)
    found = ap (λ xs. option_map (λ (e : Answer). e.0) (first (conflicts_in xs) xs)) all_beside ∙ conflict_found o a b answered giving_so

    told : (joined : Joined) → Tells es joined → MergesTo rule o a b joined
    told (Joined.Merged t) tells = (
      result o a b answered,
      tells.1 ∙ (ap (λ xs. put_all path_cmp [] (filter_map kept xs)) all_beside ∙ values_are o a b answered giving_so),
      subst (Merges rule o a b) (outcome_so o a b answered None (sym found ∙ ap (option_map (λ (e : Answer). e.0)) tells.0)) all_merges,
    )
    told (Joined.Conflict p) tells = subst (Merges rule o a b) (outcome_so o a b answered (Some p) (sym found ∙ tells)) all_merges

-- ---- the trees as lists

merges_to : (rule : Rule) → ((p : Path) → IsOneAnswer (rule p)) → (o a b : Tree) (list : List (Path × Bytes)) (es : List Answer) (joined : Joined) → list ≡ put_all path_cmp (put_all path_cmp o.entries a.entries) b.entries
    → AreAnswers rule o.entries a.entries b.entries list es → Tells es joined → MergesTo rule o a b joined
merges_to rule one o a b list es joined all are tells =
    let same : list ≡ (insert_all (insert_all o a.entries) b.entries).entries = all ∙ (ap (λ xs. put_all path_cmp xs b.entries) (sym (entries-insert_all path_total o a.entries)) ∙ sym (entries-insert_all path_total (insert_all o a.entries) b.entries)) in
    told rule one o a b es (subst (λ xs. AreAnswers rule o.entries a.entries b.entries xs es) same are) joined tells

-- what the code made of them, where memory sufficed
pub merged_so : (rule : Rule) → ((p : Path) → IsOneAnswer (rule p)) → (o a b : Tree) (base left right copied both all : List (Path × Bytes)) (es lent : List Answer) (r : Result Joined Memory) → base ≡ o.entries → left ≡ a.entries → right ≡ b.entries
    → copied ≡ base → both ≡ put_all path_cmp copied left → all ≡ put_all path_cmp both right → AreAnswers rule base left right all es → lent ≡ es → IfOk r (λ joined. Tells lent joined) → IfOk r (λ joined. MergesTo rule o a b joined)
merged_so rule one o a b base left right copied both all es lent (Err e) is_o is_a is_b is_copy is_both is_paths are is_lent tells = tt
merged_so rule one o a b base left right copied both all es lent (Ok joined) is_o is_a is_b is_copy is_both is_paths are is_lent tells =
    let with_base = subst (λ (x : List (Path × Bytes)). AreAnswers rule x left right all es) is_o are in
    let with_left = subst (λ (x : List (Path × Bytes)). AreAnswers rule o.entries x right all es) is_a with_base in
    let with_right = subst (λ (x : List (Path × Bytes)). AreAnswers rule o.entries a.entries x all es) is_b with_left in
    let sides : both ≡ put_all path_cmp o.entries a.entries = is_both ∙ (ap (λ x. put_all path_cmp x left) (is_copy ∙ is_o) ∙ ap (put_all path_cmp o.entries) is_a) in
    let united : all ≡ put_all path_cmp (put_all path_cmp o.entries a.entries) b.entries = is_paths ∙ (ap (λ x. put_all path_cmp x right) sides ∙ ap (put_all path_cmp (put_all path_cmp o.entries a.entries)) is_b) in
    merges_to rule one o a b all es joined united with_right (subst (λ (l : List Answer). Tells l joined) is_lent tells)

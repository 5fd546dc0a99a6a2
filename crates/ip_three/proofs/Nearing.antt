-- With each edit the map comes nearer to the merge.
--     Nears m come      but for what is still to come, the map is the merge
--     nears_on, nears_end      with one edit, and with all
--     Holds m come      under the paths to which something is still to come, no directory has too many entries
--     holds_on      with one edit
--     near_narrow      then none has, where none of the merge has
--     begins      the map behind all that goes
--     edits_done, edits_narrow      the map behind all edits, and behind each front of them
use Rattle.std.proofs.Common.{◌≡◌, ℕ, zero, suc, ◌≤◌, List, [], ◌∷◌, ◌++◌, take, refl, sym, ap, subst, ◌∙◌, Some, None, Bool, true, false, arith, append_assoc}
use Rattle.std.proofs.lemmas.Bool.{false≢true}
use Rattle.std.proofs.lemmas.List.{append-nil}
use Rattle.std.proofs.lemmas.List.Elements.{All-cons, All-contains, All-from_recursion, All-head, All-nil, All-tail}
use Rattle.std.specs.List.{AllByRecursion}
use Rattle.std.specs.Prelude.{All, Contains, ◌||◌, ◌&&◌, is_some}
use Rattle.ip_spec.specs.Map.{get, len}
use Rattle.ip_spec.specs.Path.{Step, Path, same_bytes, is_prefix, is_related}
use Rattle.ip_spec.specs.Step.{entries_limit}
use Rattle.ip_spec.specs.Tree.{Tree, IsTree, entries_of, graft, is_empty, place, put as put_at, subtree, widest}
use Rattle.ip_spec.specs.View.{View, graft_view, put_view}
use Rattle.ip_spec.proofs.Subtrees.{empty_gets, get-subtree, prefix_of_append, same_bytes_turned, same_tree}
use Rattle.ip_spec.proofs.Widths.{none_wider, widest_low}
use Rattle.ip_three.specs.Merging.{AreEdits, Coming, Follows, coming, directory_side, goes, less, more, more_at, of_right, put, taken}
use Rattle.ip_three.proofs.Edited.{coming_tree, gone_too, kept, not_nested, some_there, there}
use Rattle.ip_three.proofs.Elements.{contains_first, contains_rest}
use Rattle.ip_three.proofs.Fewer.{fewer_entries}
use Rattle.ip_three.proofs.Gone.{LessAt, gone_at, stays_at, less_at_path}
use Rattle.ip_three.proofs.Lying.{Lies, under, above, beside, between, lies, no_front, no_prefix, placed_above, placed_beside, placed_under}
use Rattle.ip_three.proofs.Standing.{none_above, stands_at}

abbrev Edit : Type 0
Edit = Path × Coming

pub more_map : (r v : View) (p : Path) (c : Coming) → (more_at r v p c).map ≡ place v.map p (coming_tree r.map p c)
unfolding put_view put_at graft_view graft
more_map r v p (put bytes) = refl
more_map r v p taken = refl

abbrev width : Tree → Path → ℕ
width t p = len (entries_of (subtree t p))

-- all under what lies beside a path does
beside_under : (p d y : Path) → is_related p d ≡ false → is_related p (d ++ y) ≡ false
beside_under [] d y e = absurd (false≢true (sym e))
beside_under (s ∷ p) [] y e = absurd (false≢true (sym e))
beside_under (s ∷ p) (k ∷ d) y e = by (same_bytes s k) refl (λ inner. beside_under p d y inner)
  where
    at : (b : Bool) → same_bytes s k ≡ b → (q : Path) → is_related (s ∷ p) (k ∷ q) ≡ (b && is_prefix p q || b && is_prefix q p)
    at b same q = ap (λ x. x && is_prefix p q || same_bytes k s && is_prefix q p) same ∙ ap (λ x. b && is_prefix p q || x && is_prefix q p) (same_bytes_turned k s ∙ same)

    by : (b : Bool) → same_bytes s k ≡ b → (is_related p d ≡ false → is_related p (d ++ y) ≡ false) → is_related (s ∷ p) (k ∷ d ++ y) ≡ false
    by true same deeper = at true same (d ++ y) ∙ deeper (sym (at true same d) ∙ e)
    by false same deeper = at false same (d ++ y)

module _ (t : Tree) (p : Path) (sub : Tree) (d : Path) where
  subtree_under : (x : Path) → d ≡ p ++ x → subtree (place t p sub) d ≡ subtree sub x
  subtree_under x is = same_tree _ _ (λ y.
      get-subtree (place t p sub) d y ∙ placed_under t p sub (d ++ y) (x ++ y) (ap (λ (q : Path). q ++ y) is ∙ append_assoc p x y) ∙ sym (get-subtree sub x y))

  subtree_beside : is_related p d ≡ false → subtree (place t p sub) d ≡ subtree t d
  subtree_beside apart = same_tree _ _ (λ y. get-subtree (place t p sub) d y ∙ placed_beside t p sub (d ++ y) (beside_under p d y apart) ∙ sym (get-subtree t d y))

module _ (b l r : View) (t : Tree) (l_is : IsTree l.map) (r_is : IsTree r.map) (t_is : IsTree t) (follows : Follows b l r t) (root : directory_side b l r [] ≡ Some of_right → ⊥) where
  abbrev Comes : Edit → Type 0
  Comes e = coming b l r t e.0 ≡ Some e.1

  abbrev pub Nears : Tree → List Edit → Type 0
  Nears m come = (q : Path) → All (λ e. is_related e.0 q ≡ false) come → get m q ≡ get t q

  -- the merge has what comes, and nothing above it
  module _ (p : Path) (c : Coming) (comes : coming b l r t p ≡ Some c) where
    has_under : (q rest : Path) → q ≡ p ++ rest → get (coming_tree r.map p c) rest ≡ get t q
    has_under q rest is = ap (λ (u : Tree). get u rest) (sym (there b l r t l_is r_is t_is follows root p c comes)) ∙ get-subtree t p rest ∙ ap (get t) (sym is)

    has_none_above : (q : Path) (s : Step) (rest : Path) → p ≡ q ++ s ∷ rest → get t q ≡ None
    has_none_above q s rest is =
        let x = stands_at t p (some_there b l r t l_is r_is t_is follows root p c comes) in
        none_above t t_is.prefix_free q s (rest ++ x.rest) x.bytes (ap (get t) (sym (ap (λ (y : Path). y ++ x.rest) is ∙ append_assoc q (s ∷ rest) x.rest)) ∙ x.here)

    pub nears_on : (m : Tree) (es : List Edit) → Nears m ((p, c) ∷ es) → Nears (place m p (coming_tree r.map p c)) es
    nears_on m es near q others = by (lies p q)
      where
        by : Lies p q → get (place m p (coming_tree r.map p c)) q ≡ get t q
        by (under rest is) = placed_under m p (coming_tree r.map p c) q rest is ∙ has_under q rest is
        by (above s rest is) = placed_above m p (coming_tree r.map p c) q s rest is ∙ sym (has_none_above q s rest is)
        by (beside apart) = placed_beside m p (coming_tree r.map p c) q apart ∙ near q (All-cons (λ (e : Edit). is_related e.0 q ≡ false) (p, c) es apart others)

  nears_end : (m : Tree) → Nears m [] → m ≡ t
  nears_end m near = same_tree m t (λ q. near q (All-nil (λ (e : Edit). is_related e.0 q ≡ false)))

  -- ---- widths

  abbrev pub Holds : Tree → List Edit → Type 0
  Holds m come = All (λ e. (rest : Path) → width m (e.0 ++ rest) ≤ entries_limit) come

  module _ (narrow : widest t ≤ entries_limit) where
    width_there : (d : Path) → width t d ≤ entries_limit
    width_there d = let h = none_wider t d in omega arith

    -- a path that comes lies under no other
    not_above : (p : Path) (c : Coming) (e : Edit) (rest : Path) (s : Step) (x : Path) → coming b l r t p ≡ Some c → Comes e → p ≡ (e.0 ++ rest) ++ s ∷ x → ⊥
    not_above p c e [] s x here there is =
        not_nested b l r t l_is r_is t_is follows root e.0 s x c e.1 (ap (coming b l r t) (sym (is ∙ ap (λ (y : Path). y ++ s ∷ x) (append-nil e.0))) ∙ here) there
    not_above p c e (k ∷ rest) s x here there is =
        not_nested b l r t l_is r_is t_is follows root e.0 k (rest ++ s ∷ x) c e.1 (ap (coming b l r t) (sym (is ∙ append_assoc e.0 (k ∷ rest) (s ∷ x))) ∙ here) there

    module _ (p : Path) (c : Coming) (comes : coming b l r t p ≡ Some c) (m : Tree) where
      holds_at : (e : Edit) → Comes e → ((rest : Path) → width m (e.0 ++ rest) ≤ entries_limit) → (rest : Path) → width (place m p (coming_tree r.map p c)) (e.0 ++ rest) ≤ entries_limit
      holds_at e there_too low rest = by (lies p (e.0 ++ rest))
        where
          by : Lies p (e.0 ++ rest) → width (place m p (coming_tree r.map p c)) (e.0 ++ rest) ≤ entries_limit
          by (under x is) =
              let same : subtree (place m p (coming_tree r.map p c)) (e.0 ++ rest) ≡ subtree t (e.0 ++ rest) =
              subtree_under m p (coming_tree r.map p c) (e.0 ++ rest) x is
              ∙ same_tree _ _ (λ y. get-subtree (coming_tree r.map p c) x y
              ∙ has_under p c comes (e.0 ++ rest ++ y) (x ++ y) (ap (λ (q : Path). q ++ y) is ∙ append_assoc p x y) ∙ sym (get-subtree t (e.0 ++ rest) y)) in
              subst (λ (u : Tree). len (entries_of u) ≤ entries_limit) (sym same) (width_there (e.0 ++ rest))
          by (above s x is) = absurd (not_above p c e rest s x comes there_too is)
          by (beside apart) = subst (λ (u : Tree). len (entries_of u) ≤ entries_limit) (sym (subtree_beside m p (coming_tree r.map p c) (e.0 ++ rest) apart)) (low rest)

      holds_each : (es : List Edit) → All Comes es → Holds m es → Holds (place m p (coming_tree r.map p c)) es
      holds_each [] all low = All-nil (λ (e : Edit). (rest : Path) → width (place m p (coming_tree r.map p c)) (e.0 ++ rest) ≤ entries_limit)
      holds_each (e ∷ es) all low =
          All-cons (λ (e : Edit). (rest : Path) → width (place m p (coming_tree r.map p c)) (e.0 ++ rest) ≤ entries_limit) e es
          (holds_at e (All-head Comes e es all) (All-head (λ (e : Edit). (rest : Path) → width m (e.0 ++ rest) ≤ entries_limit) e es low))
          (holds_each es (All-tail Comes e es all) (All-tail (λ (e : Edit). (rest : Path) → width m (e.0 ++ rest) ≤ entries_limit) e es low))

    -- ---- no directory has too many entries

    -- whether a directory lies under a path to which something is to come
    data Under (d : Path) (es : List Edit) : Type 0 where
      under_one : (e : Edit) (rest : Path) → Contains es e → d ≡ e.0 ++ rest → Under d es
      under_none : All (λ e. is_prefix e.0 d ≡ false) es → Under d es

    under_which : (d : Path) (es : List Edit) → Under d es
    under_which d [] = under_none (All-nil (λ (e : Edit). is_prefix e.0 d ≡ false))
    under_which d (e ∷ es) = by (lies e.0 d) (under_which d es)
      where
        later : is_prefix e.0 d ≡ false → Under d es → Under d (e ∷ es)
        later apart (under_one x rest there is) = under_one x rest (contains_rest e es x there) is
        later apart (under_none all) = under_none (All-cons (λ (e : Edit). is_prefix e.0 d ≡ false) e es apart all)

        by : Lies e.0 d → Under d es → Under d (e ∷ es)
        by (under rest is) deeper = under_one e rest (contains_first e es) is
        by (above s rest is) deeper = later (ap (λ (x : Path). is_prefix x d) is ∙ no_front d s rest) deeper
        by (beside apart) deeper = later (no_prefix e.0 d apart) deeper

    module _ (m : Tree) (d : Path) (s : Step) (nothing : is_empty (subtree (subtree t d) (s ∷ [])) ≡ true) where
      nothing_at : (x : Path) → get t (d ++ s ∷ x) ≡ None
      nothing_at x = sym (get-subtree t d (s ∷ x)) ∙ sym (get-subtree (subtree t d) (s ∷ []) x) ∙ empty_gets (subtree (subtree t d) (s ∷ [])) x nothing

      -- nothing comes there
      none_comes : (e : Edit) (x y : Path) → Comes e → e.0 ≡ d ++ s ∷ y → ⊥
      none_comes e x y comes is =
          let z = stands_at t e.0 (some_there b l r t l_is r_is t_is follows root e.0 e.1 comes) in
          false≢true (ap is_some (sym (nothing_at (y ++ z.rest)) ∙ ap (get t) (sym (ap (λ (q : Path). q ++ z.rest) is ∙ append_assoc d (s ∷ y) z.rest)) ∙ z.here))

      beside_each : (x : Path) (es : List Edit) → All Comes es → All (λ e. is_prefix e.0 d ≡ false) es → All (λ e. is_related e.0 (d ++ s ∷ x) ≡ false) es
      beside_each x [] comes apart = All-nil (λ (e : Edit). is_related e.0 (d ++ s ∷ x) ≡ false)
      beside_each x (e ∷ es) comes apart =
          All-cons (λ (e : Edit). is_related e.0 (d ++ s ∷ x) ≡ false) e es
          (by (lies e.0 (d ++ s ∷ x)) (All-head Comes e es comes) (All-head (λ (e : Edit). is_prefix e.0 d ≡ false) e es apart))
          (beside_each x es (All-tail Comes e es comes) (All-tail (λ (e : Edit). is_prefix e.0 d ≡ false) e es apart))
        where
          by : Lies e.0 (d ++ s ∷ x) → Comes e → is_prefix e.0 d ≡ false → is_related e.0 (d ++ s ∷ x) ≡ false
          by (under rest is) here not_above = let y = between e.0 d x rest s (sym is) not_above in absurd (none_comes e x y.0 here y.1)
          by (above k rest is) here not_above = absurd (none_comes e x (x ++ k ∷ rest) here (is ∙ append_assoc d (s ∷ x) (k ∷ rest)))
          by (beside apart) here not_above = apart

      pub nothing_near : (es : List Edit) → All Comes es → All (λ e. is_prefix e.0 d ≡ false) es → Nears m es → is_empty (subtree (subtree m d) (s ∷ [])) ≡ true
      nothing_near es comes apart near = by (is_empty (subtree (subtree m d) (s ∷ []))) refl
        where
          by : (x : Bool) → is_empty (subtree (subtree m d) (s ∷ [])) ≡ x → is_empty (subtree (subtree m d) (s ∷ [])) ≡ true
          by true e = e
          by false e =
              let z = stands_at (subtree m d) (s ∷ []) e in
              absurd (false≢true (ap is_some (sym (nothing_at z.rest) ∙ sym (near (d ++ s ∷ z.rest) (beside_each z.rest es comes apart)) ∙ sym (get-subtree m d (s ∷ z.rest)) ∙ z.here)))

    near_narrow : (m : Tree) (es : List Edit) → All Comes es → Nears m es → Holds m es → widest m ≤ entries_limit
    near_narrow m es comes near low = widest_low entries_limit m (λ d. by d (under_which d es))
      where
        by : (d : Path) → Under d es → width m d ≤ entries_limit
        by d (under_one e rest there is) = subst (λ (q : Path). width m q ≤ entries_limit) (sym is) (All-contains (λ (e : Edit). (rest : Path) → width m (e.0 ++ rest) ≤ entries_limit) es e low there rest)
        by d (under_none apart) =
            let most = width_there d in let less = fewer_entries (subtree m d) (subtree t d) (λ s nothing. nothing_near m d s nothing es comes apart near) in omega arith

    -- ---- all fronts

    fronts : (n : ℕ) (v : View) (es : List Edit) → All Comes es → Nears v.map es → Holds v.map es → widest (more r v (take n es)).map ≤ entries_limit
    fronts zero v es comes near low = near_narrow v.map es comes near low
    fronts (suc n) v [] comes near low = near_narrow v.map [] comes near low
    fronts (suc n) v (e ∷ es) comes near low =
        let here = All-head Comes e es comes in
        let others = All-tail Comes e es comes in
        fronts n (more_at r v e.0 e.1) es others
        (subst (λ (m : Tree). Nears m es) (sym (more_map r v e.0 e.1)) (nears_on e.0 e.1 here v.map es near))
        (subst (λ (m : Tree). Holds m es) (sym (more_map r v e.0 e.1)) (holds_each e.0 e.1 here v.map es others (All-tail (λ (e : Edit). (rest : Path) → width v.map (e.0 ++ rest) ≤ entries_limit) e es low)))

  all_done : (v : View) (es : List Edit) → All Comes es → Nears v.map es → (more r v es).map ≡ t
  all_done v [] comes near = nears_end v.map near
  all_done v (e ∷ es) comes near =
      all_done (more_at r v e.0 e.1) es (All-tail Comes e es comes)
      (subst (λ (m : Tree). Nears m es) (sym (more_map r v e.0 e.1)) (nears_on e.0 e.1 (All-head Comes e es comes) v.map es near))

  -- ---- behind all that goes

  module _ (gone : List Path) (come : List Edit) (are : AreEdits b l r t gone come) where
    begins : Nears (less l gone).map come
    begins q others = by (less_at_path l gone q)
      where
        quiet : (p rest : Path) (c : Coming) → q ≡ p ++ rest → coming b l r t p ≡ Some c → ⊥
        quiet p rest c is comes =
            let apart = All-contains (λ (e : Edit). is_related e.0 q ≡ false) come (p, c) others (are.each_come p c comes) in
            false≢true (sym (no_prefix p q apart) ∙ ap (is_prefix p) is ∙ prefix_of_append p rest)

        by : LessAt l gone q → get (less l gone).map q ≡ get t q
        by (gone_at p rest is there none) = none ∙ sym (gone_too b l r t l_is r_is t_is follows root q quiet p rest is (All-contains (λ p. goes b l r t p ≡ true) gone p are.only_gone there))
        by (stays_at same stays) = same ∙ sym (kept b l r t l_is r_is t_is follows root q quiet (λ p rest is going. stays p rest is (are.each_gone p going)))

    pub edits_done : (more r (less l gone) come).map ≡ t
    edits_done = all_done (less l gone) come are.only_come begins

    pub edits_narrow : widest (less l gone).map ≤ entries_limit → widest t ≤ entries_limit → (n : ℕ) → widest (more r (less l gone) (take n come)).map ≤ entries_limit
    edits_narrow old narrow n = fronts narrow n (less l gone) come are.only_come begins (All-from_recursion (λ (e : Edit). (rest : Path) → width (less l gone).map (e.0 ++ rest) ≤ entries_limit) come (each come))
      where
        each : (es : List Edit) → AllByRecursion (λ (e : Edit). (rest : Path) → width (less l gone).map (e.0 ++ rest) ≤ entries_limit) es
        each [] = tt
        each (e ∷ es) = (λ rest. let h = none_wider (less l gone).map (e.0 ++ rest) in omega arith, each es)

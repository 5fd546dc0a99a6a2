-- The first clash of what comes, by what each of it is.
--     Ahead, Ascends      the order of what comes
--     Fits      where it gives values.      Nested      a path with a value above one with a value
--     sound      the clash is such a path
--     Detects      what shows such a path.      complete      then a clash is found that is not behind it
use Rattle.std.proofs.Common.{◌≡◌, List, [], ◌∷◌, ◌++◌, refl, sym, ap, subst, ◌∙◌, Option, Some, None, Bool, true, false, inl, inr, append_assoc}
use Rattle.std.proofs.lemmas.Bool.{false≢true, or_cases, or_left, or_right}
use Rattle.std.proofs.lemmas.List.{append-nil}
use Rattle.std.proofs.lemmas.Option.{none-some}
use Rattle.std.proofs.lemmas.List.Elements.{All-contains, All-head, All-tail}
use Rattle.std.specs.Prelude.{◌⊎◌, ◌||◌, All, Contains, is_some, if◌then◌else◌}
use Rattle.std.specs.Ordering.{is_lt}
use Rattle.ip_spec.specs.Map.{get}
use Rattle.ip_spec.specs.Path.{Step, Path, path_cmp}
use Rattle.ip_spec.specs.Tree.{Tree}
use Rattle.ip_spec.specs.View.{View}
use Rattle.ip_spec.proofs.Subtrees.{same_as, same_itself}
use Rattle.ip_three.specs.Clashes.{clash_above, clash_at, clash_from, first_path, gives_value, is_at, is_clash_here, last_value}
use Rattle.ip_three.specs.Merging.{Coming, has_directory}
use Rattle.ip_three.proofs.Elements.{contains_cases, contains_none}
use Rattle.ip_three.proofs.FirstWays.{FirstWay, first_passes, is_first}
use Rattle.ip_three.proofs.Orders.{between_fronts, front_not_behind, not_behind_front, not_itself, not_turned}

abbrev Edit : Type 0
Edit = Path × Coming

nil_append : (p y : Path) → p ≡ p ++ y → y ≡ []
nil_append [] y e = sym e
nil_append (s ∷ p) y e = let inner : p ≡ p ++ y = cc in nil_append p y inner

at_is : (last : Option Path) (p : Path) → is_at last p ≡ true → last ≡ Some p
at_is None p e = absurd (false≢true e)
at_is (Some a) p e = ap Some (same_as a p e)

is_at_it : (last : Option Path) (p : Path) → last ≡ Some p → is_at last p ≡ true
is_at_it last p e = ap (λ o. is_at o p) e ∙ same_itself p

module _ (m : Tree) (r : View) where
  -- the one before the other, or of one path contents before a directory
  abbrev pub Ahead : Edit → Edit → Type 0
  Ahead d e = (is_lt (path_cmp d.0 e.0) ≡ true) ⊎ ((d.0 ≡ e.0) × (gives_value r e.0 e.1 ≡ false))

  abbrev pub Ascends : List Edit → Type 0
  Ascends [] = Unit {0}
  Ascends (e ∷ es) = All (Ahead e) es × Ascends es

  ahead_not_less : (d e : Edit) → Ahead d e → is_lt (path_cmp e.0 d.0) ≡ false
  ahead_not_less d e (inl less) = not_turned d.0 e.0 less
  ahead_not_less d e (inr same) = ap (λ (x : Path). is_lt (path_cmp e.0 x)) same.0 ∙ not_itself e.0

  -- ---- a clash is a path with a value above one with a value

  module _ (Has : Path → Type 0) where
    abbrev pub Nested : Path → Type 0
    Nested p = (s : Step) × (rest : Path) × Has p × Has (p ++ s ∷ rest)

    pub record Fits (e : Edit) : Type 0 where
      pub value : gives_value r e.0 e.1 ≡ true → Has e.0
      pub directory : gives_value r e.0 e.1 ≡ false → (s : Step) × (rest : Path) × Has (e.0 ++ s ∷ rest)
      pub above : (p rest : Path) → e.0 ≡ p ++ rest → is_some (get m p) ≡ true → Has p
      pub below : has_directory m e.0 ≡ true → (s : Step) × (rest : Path) × Has (e.0 ++ s ∷ rest)

    -- the last path with a value: what comes gives none there once more
    abbrev LastIs : Option Path → List Edit → Type 0
    LastIs last es = (a : Path) → last ≡ Some a → Has a × All (λ e. a ≡ e.0 → gives_value r e.0 e.1 ≡ false) es

    module _ (last : Option Path) (e : Edit) (es : List Edit) (fits : Fits e) (is_last : LastIs last (e ∷ es)) where
      some_there : (b : Bool) → gives_value r e.0 e.1 ≡ b → (y : Path) × Has (e.0 ++ y)
      some_there true is = ([], subst Has (sym (append-nil e.0)) (fits.value is))
      some_there false is = let d = fits.directory is in (d.0 ∷ d.1, d.2)

      above_nested : (d : Path) (s : Step) (rest : Path) → e.0 ≡ d ++ s ∷ rest → Has d → Nested d
      above_nested d s rest is has =
          let u = some_there (gives_value r e.0 e.1) refl in
          (s, rest ++ u.0, has, subst Has (ap (λ (x : Path). x ++ u.0) is ∙ append_assoc d (s ∷ rest) u.0) u.1)

      way_sound : (d : Path) → FirstWay (λ way. is_some (get m way) || is_at last way) e.0 d → Nested d
      way_sound d w = above_nested d w.step w.rest w.is (by (or_cases (is_some (get m d)) (is_at last d) w.passes))
        where
          by : (is_some (get m d) ≡ true) ⊎ (is_at last d ≡ true) → Has d
          by (inl some) = fits.above d (w.step ∷ w.rest) w.is some
          by (inr at) = (is_last d (at_is last d at)).0

      here_sound : is_clash_here m r last e.0 e.1 ≡ true → Nested e.0
      here_sound is = by (or_cases (is_at last e.0) _ is)
        where
          last_here : last ≡ Some e.0 → Nested e.0
          last_here at =
              let l = is_last e.0 at in
              let d = fits.directory (All-head (λ x. e.0 ≡ x.0 → gives_value r x.0 x.1 ≡ false) e es l.1 refl) in
              (d.0, d.1, l.0, d.2)

          by_value : (b : Bool) → gives_value r e.0 e.1 ≡ b → (if b then has_directory m e.0 else is_some (get m e.0)) ≡ true → Nested e.0
          by_value true gives x = let d = fits.below x in (d.0, d.1, fits.value gives, d.2)
          by_value false gives x = let d = fits.directory gives in (d.0, d.1, fits.above e.0 [] (sym (append-nil e.0)) x, d.2)

          by : (is_at last e.0 ≡ true) ⊎ ((if gives_value r e.0 e.1 then has_directory m e.0 else is_some (get m e.0)) ≡ true) → Nested e.0
          by (inl at) = last_here (at_is last e.0 at)
          by (inr x) = by_value (gives_value r e.0 e.1) refl x

      at_sound : (d : Path) → clash_at m r last e.0 e.1 ≡ Some d → Nested d
      at_sound d is = by (clash_above m last e.0) refl is
        where
          by_here : (b : Bool) → is_clash_here m r last e.0 e.1 ≡ b → (if b then Some e.0 else None) ≡ Some d → Nested d
          by_here true here f = let same : e.0 ≡ d = cc in subst Nested same (here_sound here)
          by_here false here f = absurd (none-some d f)

          by : (o : Option Path) → clash_above m last e.0 ≡ o → first_path o (if is_clash_here m r last e.0 e.1 then Some e.0 else None) ≡ Some d → Nested d
          by (Some x) way f = let same : x ≡ d = cc in subst Nested same (way_sound x (first_passes _ e.0 x way))
          by None way f = by_here (is_clash_here m r last e.0 e.1) refl f

      next_last : All (Ahead e) es → LastIs (last_value r last e.0 e.1) es
      next_last ahead a is = by (gives_value r e.0 e.1) refl is
        where
          apart : (x : Edit) → a ≡ e.0 → Ahead e x → a ≡ x.0 → gives_value r x.0 x.1 ≡ false
          apart x at (inl less) same = absurd (false≢true (sym (not_itself e.0) ∙ ap (λ (y : Path). is_lt (path_cmp e.0 y)) (sym at ∙ same) ∙ less))
          apart x at (inr h) same = h.1

          by : (b : Bool) → gives_value r e.0 e.1 ≡ b → (if b then Some e.0 else last) ≡ Some a → Has a × All (λ x. a ≡ x.0 → gives_value r x.0 x.1 ≡ false) es
          by true gives f = let at : a ≡ e.0 = cc in (subst Has (sym at) (fits.value gives), λ k d within. apart _ at (ahead k d within))
          by false gives f = let l = is_last a f in (l.0, All-tail (λ x. a ≡ x.0 → gives_value r x.0 x.1 ≡ false) e es l.1)

    pub sound : (last : Option Path) (es : List Edit) → All Fits es → Ascends es → LastIs last es → (d : Path) → clash_from m r last es ≡ Some d → Nested d
    sound last [] fits ascends is_last d is = absurd (none-some d is)
    sound last (e ∷ es) fits ascends is_last d is =
        let head = All-head Fits e es fits in
        by head (clash_at m r last e.0 e.1) refl is (λ f. sound (last_value r last e.0 e.1) es (All-tail Fits e es fits) ascends.1 (next_last last e es head is_last ascends.0) d f)
      where
        by : Fits e → (o : Option Path) → clash_at m r last e.0 e.1 ≡ o → first_path o (clash_from m r (last_value r last e.0 e.1) es) ≡ Some d → (clash_from m r (last_value r last e.0 e.1) es ≡ Some d → Nested d) → Nested d
        by head (Some x) at f later = let same : x ≡ d = cc in subst Nested same (at_sound last e es head is_last x at)
        by head None at f later = later f

  -- ---- such a path is found

  pub data Detects (p : Path) (last : Option Path) (es : List Edit) : Type 0 where
    met_above : (s : Step) (rest : Path) (c : Coming) → Contains es (p ++ s ∷ rest, c) → is_some (get m p) ≡ true → Detects p last es
    met_here : (c : Coming) → Contains es (p, c) → gives_value r p c ≡ false → is_some (get m p) ≡ true → Detects p last es
    met_under : (c : Coming) → Contains es (p, c) → gives_value r p c ≡ true → has_directory m p ≡ true → Detects p last es
    met_both : (c d : Coming) (rest : Path) → Contains es (p, c) → gives_value r p c ≡ true → Contains es (p ++ rest, d) → (rest ≡ [] → gives_value r (p ++ rest) d ≡ false) → Detects p last es
    met_last : (rest : Path) (d : Coming) → Contains es (p ++ rest, d) → last ≡ Some p → All (λ e. is_lt (path_cmp e.0 p) ≡ false) es → Detects p last es

  abbrev Direct : Path → Option Path → Edit → Type 0
  Direct p last e = (d : Path) × (clash_at m r last e.0 e.1 ≡ Some d) × (is_lt (path_cmp p d) ≡ false)

  above_direct : (p : Path) (last : Option Path) (e : Edit) (s : Step) (rest : Path) → e.0 ≡ p ++ s ∷ rest → (is_some (get m p) || is_at last p) ≡ true → Direct p last e
  above_direct p last e s rest is passes =
      let f = is_first (λ way. is_some (get m way) || is_at last way) p s rest passes in (
        f.0,
        ap (λ o. first_path o (if is_clash_here m r last e.0 e.1 then Some e.0 else None)) (ap (clash_above m last) is ∙ f.2),
        ap (λ (x : Path). is_lt (path_cmp x f.0)) f.3 ∙ front_not_behind f.0 f.1,
      )

  here_direct : (p : Path) (last : Option Path) (e : Edit) → e.0 ≡ p → is_clash_here m r last e.0 e.1 ≡ true → Direct p last e
  here_direct p last e is here = by (clash_above m last e.0) refl
    where
      by : (o : Option Path) → clash_above m last e.0 ≡ o → Direct p last e
      by (Some x) way =
          let w = first_passes _ e.0 x way in (
            x,
            ap (λ o. first_path o (if is_clash_here m r last e.0 e.1 then Some e.0 else None)) way,
            ap (λ (y : Path). is_lt (path_cmp y x)) (sym is ∙ w.is) ∙ front_not_behind x (w.step ∷ w.rest),
          )
      by None way = (
        e.0,
        ap (λ o. first_path o (if is_clash_here m r last e.0 e.1 then Some e.0 else None)) way ∙ ap (λ b. if b then Some e.0 else None) here,
        ap (λ (y : Path). is_lt (path_cmp p y)) is ∙ not_itself p,
      )

  bounded : (p : Path) (last : Option Path) (e : Edit) (x : Path) → clash_at m r last e.0 e.1 ≡ Some x → is_lt (path_cmp p e.0) ≡ false → is_lt (path_cmp p x) ≡ false
  bounded p last e x is low = by (clash_above m last e.0) refl is
    where
      by_here : (b : Bool) → (if b then Some e.0 else None) ≡ Some x → is_lt (path_cmp p x) ≡ false
      by_here true f = let same : e.0 ≡ x = cc in ap (λ (y : Path). is_lt (path_cmp p y)) (sym same) ∙ low
      by_here false f = absurd (none-some x f)

      by : (o : Option Path) → clash_above m last e.0 ≡ o → first_path o (if is_clash_here m r last e.0 e.1 then Some e.0 else None) ≡ Some x → is_lt (path_cmp p x) ≡ false
      by (Some y) way f =
          let same : y ≡ x = cc in
          let w = first_passes _ e.0 y way in
          ap (λ (z : Path). is_lt (path_cmp p z)) (sym same) ∙ not_behind_front p y (w.step ∷ w.rest) (ap (λ (z : Path). is_lt (path_cmp p z)) (sym w.is) ∙ low)
      by None way f = by_here (is_clash_here m r last e.0 e.1) f

  abbrev Later : Path → Option Path → Edit → List Edit → Type 0
  Later p last e es = (is_lt (path_cmp p e.0) ≡ false) × Detects p (last_value r last e.0 e.1) es

  module _ (p : Path) (last : Option Path) (e : Edit) (es : List Edit) (ascends : Ascends (e ∷ es)) where
    ahead : (x : Edit) → Contains es x → Ahead e x
    ahead x there = All-contains (Ahead e) es x ascends.0 there

    behind : (x : Edit) → Contains es x → is_lt (path_cmp x.0 e.0) ≡ false
    behind x there = ahead_not_less e x (ahead x there)

    first_is : (q : Path) (c : Coming) → e ≡ (q, c) → e.0 ≡ q
    first_is q c is = ap (λ (x : Edit). x.0) is

    not_less_at : (x : Edit) → e.0 ≡ p → Ahead e x → is_lt (path_cmp x.0 p) ≡ false
    not_less_at x is h = ap (λ (y : Path). is_lt (path_cmp x.0 y)) (sym is) ∙ ahead_not_less e x h

    -- what lies at it or under it, where it was met before
    front_direct : (y : Path) → e.0 ≡ p ++ y → last ≡ Some p → Direct p last e
    front_direct [] is at =
        let here : e.0 ≡ p = is ∙ append-nil p in
        here_direct p last e here (or_left _ _ (ap (is_at last) here ∙ is_at_it last p at))
    front_direct (s ∷ y) is at = above_direct p last e s y is (or_right (is_some (get m p)) _ (is_at_it last p at))

    above_step : (s : Step) (rest : Path) (c : Coming) → (e ≡ (p ++ s ∷ rest, c)) ⊎ Contains es (p ++ s ∷ rest, c) → is_some (get m p) ≡ true → Direct p last e ⊎ Later p last e es
    above_step s rest c (inl is) some = inl (above_direct p last e s rest (first_is _ c is) (or_left _ _ some))
    above_step s rest c (inr there) some = by (is_lt (path_cmp p e.0)) refl
      where
        under : (y : Path) → e.0 ≡ p ++ y → is_lt (path_cmp p e.0) ≡ true → Direct p last e
        under [] is less = absurd (false≢true (sym (not_itself p) ∙ ap (λ (x : Path). is_lt (path_cmp p x)) (sym (is ∙ append-nil p)) ∙ less))
        under (k ∷ y) is less = above_direct p last e k y is (or_left _ _ some)

        by : (b : Bool) → is_lt (path_cmp p e.0) ≡ b → Direct p last e ⊎ Later p last e es
        by false low = inr (low, met_above s rest c there some)
        by true less = let f = between_fronts p e.0 (s ∷ rest) (not_turned p e.0 less) (behind (p ++ s ∷ rest, c) there) in inl (under f.0 f.1 less)

    here_step : (c : Coming) → (e ≡ (p, c)) ⊎ Contains es (p, c) → gives_value r p c ≡ false → is_some (get m p) ≡ true → Direct p last e ⊎ Later p last e es
    here_step c (inl is) gives some = inl (here_direct p last e (first_is p c is) (or_right (is_at last e.0) _ (
        ap (λ (x : Edit). if gives_value r x.0 x.1 then has_directory m x.0 else is_some (get m x.0)) is
        ∙ ap (λ b. if b then has_directory m p else is_some (get m p)) gives ∙ some)))
    here_step c (inr there) gives some = inr (behind (p, c) there, met_here c there gives some)

    under_step : (c : Coming) → (e ≡ (p, c)) ⊎ Contains es (p, c) → gives_value r p c ≡ true → has_directory m p ≡ true → Direct p last e ⊎ Later p last e es
    under_step c (inl is) gives directory = inl (here_direct p last e (first_is p c is) (or_right (is_at last e.0) _ (
        ap (λ (x : Edit). if gives_value r x.0 x.1 then has_directory m x.0 else is_some (get m x.0)) is
        ∙ ap (λ b. if b then has_directory m p else is_some (get m p)) gives ∙ directory)))
    under_step c (inr there) gives directory = inr (behind (p, c) there, met_under c there gives directory)

    both_step : (c d : Coming) (rest : Path) → (e ≡ (p, c)) ⊎ Contains es (p, c) → gives_value r p c ≡ true → (e ≡ (p ++ rest, d)) ⊎ Contains es (p ++ rest, d) → (rest ≡ [] → gives_value r (p ++ rest) d ≡ false)
        → Direct p last e ⊎ Later p last e es
    both_step c d rest (inl is) gives (inl other) apart =
        let none = apart (nil_append p rest (sym (first_is p c is) ∙ first_is _ d other)) in
        absurd (false≢true (sym none ∙ ap (λ (x : Edit). gives_value r x.0 x.1) (sym other ∙ is) ∙ gives))
    both_step c d rest (inl is) gives (inr there) apart = inr (
      ap (λ (x : Path). is_lt (path_cmp p x)) (first_is p c is) ∙ not_itself p,
      met_last rest d there
          (ap (λ b. if b then Some e.0 else last) (ap (λ (x : Edit). gives_value r x.0 x.1) is ∙ gives) ∙ ap Some (first_is p c is))
          (λ k x within. not_less_at _ (first_is p c is) (ascends.0 k x within)),
    )
    both_step c d rest (inr there) gives (inl other) apart = absurd (by (ahead (p, c) there))
      where
        by : Ahead e (p, c) → ⊥
        by (inl less) = false≢true (sym (front_not_behind p rest) ∙ ap (λ (x : Path). is_lt (path_cmp x p)) (sym (first_is _ d other)) ∙ less)
        by (inr h) = false≢true (sym h.1 ∙ gives)
    both_step c d rest (inr there) gives (inr other) apart = inr (behind (p, c) there, met_both c d rest there gives other apart)

    last_step : (rest : Path) (d : Coming) → (e ≡ (p ++ rest, d)) ⊎ Contains es (p ++ rest, d) → last ≡ Some p → All (λ x. is_lt (path_cmp x.0 p) ≡ false) (e ∷ es) → Direct p last e ⊎ Later p last e es
    last_step rest d (inl is) at low = inl (front_direct rest (first_is _ d is) at)
    last_step rest d (inr there) at low =
        let f = between_fronts p e.0 rest (All-head (λ x. is_lt (path_cmp x.0 p) ≡ false) e es low) (behind (p ++ rest, d) there) in
        inl (front_direct f.0 f.1 at)

    one_step : Detects p last (e ∷ es) → Direct p last e ⊎ Later p last e es
    one_step (met_above s rest c there some) = above_step s rest c (contains_cases e es _ there) some
    one_step (met_here c there gives some) = here_step c (contains_cases e es _ there) gives some
    one_step (met_under c there gives directory) = under_step c (contains_cases e es _ there) gives directory
    one_step (met_both c d rest there gives other apart) = both_step c d rest (contains_cases e es _ there) gives (contains_cases e es _ other) apart
    one_step (met_last rest d there at low) = last_step rest d (contains_cases e es _ there) at low

  none_detected : (p : Path) (last : Option Path) → Detects p last [] → ⊥
  none_detected p last (met_above s rest c there some) = contains_none _ there
  none_detected p last (met_here c there gives some) = contains_none _ there
  none_detected p last (met_under c there gives directory) = contains_none _ there
  none_detected p last (met_both c d rest there gives other apart) = contains_none _ there
  none_detected p last (met_last rest d there at low) = contains_none _ there

  abbrev pub Found : Path → Option Path → Type 0
  Found p o = (d : Path) × (o ≡ Some d) × (is_lt (path_cmp p d) ≡ false)

  pub complete : (p : Path) (last : Option Path) (es : List Edit) → Ascends es → Detects p last es → Found p (clash_from m r last es)
  complete p last [] ascends detects = absurd (none_detected p last detects)
  complete p last (e ∷ es) ascends detects = by (one_step p last e es ascends detects) (λ d. complete p (last_value r last e.0 e.1) es ascends.1 d)
    where
      by_clash : (o : Option Path) → clash_at m r last e.0 e.1 ≡ o → is_lt (path_cmp p e.0) ≡ false → Found p (clash_from m r (last_value r last e.0 e.1) es) → Found p (first_path o (clash_from m r (last_value r last e.0 e.1) es))
      by_clash (Some x) at low found = (x, refl, bounded p last e x at low)
      by_clash None at low found = found

      by : Direct p last e ⊎ Later p last e es → (Detects p (last_value r last e.0 e.1) es → Found p (clash_from m r (last_value r last e.0 e.1) es))
          → Found p (first_path (clash_at m r last e.0 e.1) (clash_from m r (last_value r last e.0 e.1) es))
      by (inl direct) later = (direct.0, ap (λ o. first_path o (clash_from m r (last_value r last e.0 e.1) es)) direct.1, direct.2)
      by (inr l) later = by_clash (clash_at m r last e.0 e.1) refl l.0 (later l.1)

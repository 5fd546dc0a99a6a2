-- What a plan says of the tree behind all that goes, and of what comes.
--     HasValue p      the merge has a value there
--     fits      where what comes gives values.      ascends      in which order
--     detects      a path with a value above one with a value shows in what comes
use Rattle.std.proofs.Common.{◌≡◌, ◌≢◌, suc, List, [], ◌∷◌, ◌++◌, refl, sym, ap, subst, ◌∙◌, Option, Some, None, Bool, true, false, inl, inr, arith, append_assoc}
use Rattle.std.proofs.lemmas.Bool.{false≢true}
use Rattle.std.proofs.lemmas.List.{append-nil}
use Rattle.std.proofs.lemmas.List.Elements.{All-contains, All-head, All-tail}
use Rattle.std.specs.Prelude.{◌⊎◌, All, AllPairs, Contains, IsSome, is_none, is_some}
use Rattle.ip_spec.specs.Map.{get}
use Rattle.ip_spec.specs.Merge.{Results, Rule}
use Rattle.ip_spec.specs.declared.merge.Merged.{Merged}
use Rattle.ip_spec.specs.declared.merge.Merged.TheVariants.{Keep, Conflict}
use Rattle.ip_spec.specs.Path.{Bytes, Path, Step}
use Rattle.ip_spec.specs.Tree.{IsPrefixFree, Tree, ways}
use Rattle.ip_spec.specs.View.{View, is_nil}
use Rattle.ip_three.specs.Clashes.{gives_value}
use Rattle.ip_three.specs.Merging.{Side, of_left, of_right, Coming, put, taken, contents_side, decided, directory_side, first_side, has_directory, is_merged, is_right, is_rights, less, map_of, path_side}
use Rattle.ip_three.specs.Planning.{Asked, ComesBefore, HasNone, IsComing, IsGoing, IsPlan, Plan, Visits, is_put}
use Rattle.ip_three.specs.Outcomes.{AreMerging}
use Rattle.ip_three.proofs.Clashing.{Ahead, Ascends, Detects, met_above, met_here, met_under, met_both, Fits}
use Rattle.ip_three.proofs.Gone.{LessAt, gone_at, stays_at, less_at_path}
use Rattle.ip_three.proofs.Orders.{two_fronts}
use Rattle.ip_three.proofs.Sides.{asked_result, contents_result, decided_result, left_root, one_result, root_side, under_result}
use Rattle.ip_three.proofs.Standing.{directory_bare, directory_below, directory_there, no_both, none_above}
use Rattle.ip_three.proofs.Values.{kept_value, none_is, not_lefts, right_is, some_is}
use Rattle.ip_three.proofs.Ways.{above_is, above_merged, below_decided, front_merged, undecided}

module _ (b l r : View) where
  -- which side a path comes from
  pub data SideAt (p : Path) : Type 0 where
    by_directory : (side : Side) → decided b l r (ways p) ≡ Some side → SideAt p
    by_contents : (side : Side) → is_merged b l r p ≡ true → contents_side b l r p ≡ Some side → SideAt p
    by_rule : is_merged b l r p ≡ true → contents_side b l r p ≡ None → SideAt p

  pub side_at : (p : Path) → SideAt p
  side_at p = by (decided b l r (ways p)) (contents_side b l r p) refl refl
    where
      by : (o u : Option Side) → decided b l r (ways p) ≡ o → contents_side b l r p ≡ u → SideAt p
      by (Some side) u is contents = by_directory side is
      by None (Some side) is contents = by_contents side (ap is_none is) contents
      by None None is contents = by_rule (ap is_none is) contents

module _ (rule : Rule) (b l r : View) (are : AreMerging rule b l r) (plan : Plan) (is_plan : IsPlan rule b l r plan) (visits : Visits rule b l r (λ p. p ≢ []) plan) (root : directory_side b l r [] ≡ None) where
  abbrev pub HasValue : Path → Type 0
  HasValue p = (v : Bytes) × Results rule b.map l.map r.map p (Keep (Some v))

  abbrev pub behind : Tree
  behind = (less l plan.gone).map

  -- ---- the root

  pub lefts_root : (p : Path) → p ≡ [] → contents_side b l r p ≡ Some of_left
  lefts_root p e = ap (contents_side b l r) e ∙ root_side rule b l r are

  pub some_left : (p : Path) (w : Bytes) → get l.map p ≡ Some w → p ≢ []
  some_left p w some e = none_is (get l.map p) w (ap (get l.map) e ∙ left_root rule b l r are) some

  pub rights_below : (f : Path) → directory_side b l r f ≡ Some of_right → f ≢ []
  rights_below f side e = absurd (false≢true (ap is_some (sym root ∙ ap (directory_side b l r) (sym e) ∙ side)))

  not_nil : (f : Path) → f ≢ [] → is_nil f ≡ false
  not_nil [] e = absurd (e refl)
  not_nil (s ∷ p) e = refl

  -- ---- what goes and what comes

  pub gone_why : (p : Path) → Contains plan.gone p → IsGoing rule b l r p
  gone_why p there = All-contains (IsGoing rule b l r) plan.gone p is_plan.gone there

  pub come_why : (p : Path) (c : Coming) → Contains plan.come (p, c) → IsComing rule b l r p c
  come_why p c there = All-contains (λ e. IsComing rule b l r e.0 e.1) plan.come (p, c) is_plan.come there

  pub merged_coming : (p : Path) (c : Coming) → IsComing rule b l r p c → is_merged b l r p ≡ true
  merged_coming p (put bytes) is = is.0
  merged_coming p taken is = is.0

  abbrev NoneGone : Path → Type 0
  NoneGone q = (p rest : Path) → q ≡ p ++ rest → Contains plan.gone p → ⊥

  -- what stands behind all that goes stood in the left tree
  left_behind : (q : Path) (w : Bytes) → get behind q ≡ Some w → (get l.map q ≡ Some w) × NoneGone q
  left_behind q w some = by (less_at_path l plan.gone q)
    where
      by : LessAt l plan.gone q → (get l.map q ≡ Some w) × NoneGone q
      by (gone_at p rest is there none) = none_is (get behind q) w none some
      by (stays_at same others) = (sym same ∙ some, others)

  stays_behind : (q : Path) → NoneGone q → get behind q ≡ get l.map q
  stays_behind q stays = by (less_at_path l plan.gone q)
    where
      by : LessAt l plan.gone q → get behind q ≡ get l.map q
      by (gone_at p rest is there none) = absurd (stays p rest is there)
      by (stays_at same others) = same

  behind_free : IsPrefixFree behind
  behind_free p q at_p at_q prefix =
      let x = some_is _ at_p in
      let y = some_is _ at_q in
      are.left.prefix_free p q (ap is_some (left_behind p x.0 x.1).0) (ap is_some (left_behind q y.0 y.1).0) prefix

  -- a directory that the right tree decides
  rights_come : (f : Path) → is_merged b l r f ≡ true → directory_side b l r f ≡ Some of_right → has_directory r.map f ≡ true → Contains plan.come (f, taken)
  rights_come f merged side directory = visits.come f taken (rights_below f side) (merged, inr (ap is_right side, directory))

  rights_go : (f : Path) → is_merged b l r f ≡ true → directory_side b l r f ≡ Some of_right → has_directory r.map f ≡ false → has_directory l.map f ≡ true → Contains plan.gone f
  rights_go f merged side none directory = visits.gone f (rights_below f side) (merged, inr (directory, ap is_right side, none))

  -- ---- values

  side_value : (p : Path) (side : Side) (w : Bytes) → Results rule b.map l.map r.map p (Keep (get (map_of l r side) p)) → get (map_of l r side) p ≡ Some w → HasValue p
  side_value p side w is some = (w, subst (λ v. Results rule b.map l.map r.map p (Keep v)) some is)

  -- what a side has where it decides
  pub value_side : (p : Path) (side : Side) (w : Bytes) → Results rule b.map l.map r.map p (Keep (get (map_of l r side) p)) → Results rule b.map l.map r.map p (Keep (Some w)) → get (map_of l r side) p ≡ Some w
  value_side p side w is has = kept_value _ _ (one_result rule b l r are p _ _ is has)

  -- a value of the left tree stays where it is merged
  merged_value : (p : Path) (w : Bytes) → is_merged b l r p ≡ true → get l.map p ≡ Some w → (Contains plan.gone p → ⊥) → HasValue p
  merged_value p w merged some stays = by (contents_side b l r p) refl
    where
      go : HasNone rule b l r p → HasValue p
      go none = absurd (stays (visits.gone p (some_left p w some) (merged, inl (ap is_some some, none))))

      rights : (o : Option Bytes) → get r.map p ≡ o → contents_side b l r p ≡ Some of_right → HasValue p
      rights None is side = go (inl (side, is))
      rights (Some x) is side = side_value p of_right x (contents_result rule b l r p of_right side) is

      asked : (m : Merged) → Asked rule b l r p m → HasValue p
      asked Conflict is = go (inr (inr is))
      asked (Keep None) is = go (inr (inl is))
      asked (Keep (Some x)) is = (x, asked_result rule b l r p (Keep (Some x)) is)

      by : (o : Option Side) → contents_side b l r p ≡ o → HasValue p
      by (Some of_left) side = side_value p of_left w (contents_result rule b l r p of_left side) some
      by (Some of_right) side = rights (get r.map p) refl side
      by None side = let a = visits.asked p (some_left p w some) merged side in asked a.0 a.1

  -- ---- what comes gives values

  value_comes : (p : Path) (c : Coming) → IsComing rule b l r p c → gives_value r p c ≡ true → HasValue p
  value_comes p (put bytes) is gives = (bytes, asked_result rule b l r p (Keep (Some bytes)) is)
  value_comes p taken is gives = let x = some_is _ gives in by x.0 x.1 is.1
    where
      by : (x : Bytes) → get r.map p ≡ Some x → ((contents_side b l r p ≡ Some of_right) × IsSome (get r.map p)) ⊎ ((is_rights b l r p ≡ true) × (has_directory r.map p ≡ true)) → HasValue p
      by x some (inl contents) = side_value p of_right x (contents_result rule b l r p of_right contents.0) some
      by x some (inr directory) = none_is (get r.map p) x (directory_bare r.map p directory.1) some

  abbrev IsTakenDirectory : Path → Type 0
  IsTakenDirectory f = (is_merged b l r f ≡ true) × (directory_side b l r f ≡ Some of_right) × (has_directory r.map f ≡ true)

  directory_coming : (p : Path) (c : Coming) → IsComing rule b l r p c → gives_value r p c ≡ false → IsTakenDirectory p
  directory_coming p (put bytes) is none = absurd (false≢true (sym none))
  directory_coming p taken is none = by is.1
    where
      by : ((contents_side b l r p ≡ Some of_right) × IsSome (get r.map p)) ⊎ ((is_rights b l r p ≡ true) × (has_directory r.map p ≡ true)) → IsTakenDirectory p
      by (inl contents) = absurd (false≢true (sym none ∙ contents.1))
      by (inr directory) = (is.0, right_is _ directory.0, directory.1)

  pub directory_value : (f : Path) → IsTakenDirectory f → (s : Step) × (rest : Path) × HasValue (f ++ s ∷ rest)
  directory_value f is =
      let d = directory_below r.map f (not_nil f (rights_below f is.1)) is.2 in
      (d.step, d.rest, side_value (f ++ d.step ∷ d.rest) of_right d.bytes (under_result rule b l r are f d.step d.rest of_right is.1) d.here)

  pub not_root : (p : Path) (c : Coming) → IsComing rule b l r p c → p ≢ []
  not_root p (put bytes) is e = absurd (false≢true (ap is_some (sym is.1 ∙ lefts_root p e)))
  not_root p taken is e = by is.1
    where
      by : ((contents_side b l r p ≡ Some of_right) × IsSome (get r.map p)) ⊎ ((is_rights b l r p ≡ true) × (has_directory r.map p ≡ true)) → ⊥
      by (inl contents) = not_lefts _ (lefts_root p e) contents.0
      by (inr directory) = rights_below p (right_is _ directory.0) e

  above_value : (q : Path) (c : Coming) → IsComing rule b l r q c → (p rest : Path) → q ≡ p ++ rest → is_some (get behind p) ≡ true → HasValue p
  above_value q c is p rest at some =
      let x = some_is _ some in
      let left = left_behind p x.0 x.1 in
      merged_value p x.0 (front_merged b l r p rest (subst (λ (y : Path). is_merged b l r y ≡ true) at (merged_coming q c is))) left.0 (left.1 p [] (sym (append-nil p)))

  -- what is decided under a path lies under what is not
  not_under : (q f : Path) (s : Step) (rest : Path) → is_merged b l r q ≡ true → directory_side b l r f ≡ Some of_right → q ≡ f ++ s ∷ rest → ⊥
  not_under q f s rest merged side at =
      false≢true (ap is_some (sym (above_merged b l r f s rest (subst (λ (x : Path). is_merged b l r x ≡ true) at merged)) ∙ side))

  below_value : (q : Path) (c : Coming) → IsComing rule b l r q c → has_directory behind q ≡ true → (s : Step) × (rest : Path) × HasValue (q ++ s ∷ rest)
  below_value q c is directory =
      let d = directory_below behind q (not_nil q (not_root q c is)) directory in
      by_left d.step d.rest d.bytes (left_behind (q ++ d.step ∷ d.rest) d.bytes d.here)
    where
      -- the right tree's values under a directory of which the left tree's stood here
      at_right : (s : Step) (rest f : Path) (k : Step) (x : Path) (w : Bytes) → q ++ s ∷ rest ≡ f ++ k ∷ x → is_merged b l r f ≡ true → directory_side b l r f ≡ Some of_right → get l.map (q ++ s ∷ rest) ≡ Some w → NoneGone (q ++ s ∷ rest)
          → (t : Step) × (y : Path) × HasValue (q ++ t ∷ y)
      at_right s rest f k x w at merged side some stays = by (has_directory r.map f) refl
        where
          placed : (t : Step) (y : Path) → HasValue (f ++ t ∷ y) → ((z : Path) × (f ≡ q ++ z)) ⊎ ((j : Step) × (z : Path) × (q ≡ f ++ j ∷ z)) → (t : Step) × (y : Path) × HasValue (q ++ t ∷ y)
          placed t y has (inr u) = absurd (not_under q f u.0 u.1 (merged_coming q c is) side u.2)
          placed t y has (inl u) = at_front u.0 u.1
            where
              at_front : (z : Path) → f ≡ q ++ z → (t : Step) × (y : Path) × HasValue (q ++ t ∷ y)
              at_front [] e = (t, y, subst HasValue (ap (λ (a : Path). a ++ t ∷ y) (e ∙ append-nil q)) has)
              at_front (j ∷ z) e = (j, z ++ t ∷ y, subst HasValue (ap (λ (a : Path). a ++ t ∷ y) e ∙ append_assoc q (j ∷ z) (t ∷ y)) has)

          by : (d : Bool) → has_directory r.map f ≡ d → (t : Step) × (y : Path) × HasValue (q ++ t ∷ y)
          by true e = let v = directory_value f (merged, side, e) in placed v.0 v.1 v.2 (two_fronts q f (s ∷ rest) (k ∷ x) at)
          by false e = absurd (stays f (k ∷ x) at (rights_go f merged side e (directory_there l.map are.left.prefix_free f k x w (ap (get l.map) (sym at) ∙ some))))

      by_left : (s : Step) (rest : Path) (w : Bytes) → (get l.map (q ++ s ∷ rest) ≡ Some w) × NoneGone (q ++ s ∷ rest) → (t : Step) × (y : Path) × HasValue (q ++ t ∷ y)
      by_left s rest w left = by (side_at b l r (q ++ s ∷ rest))
        where
          merged_here : is_merged b l r (q ++ s ∷ rest) ≡ true → (t : Step) × (y : Path) × HasValue (q ++ t ∷ y)
          merged_here merged = (s, rest, merged_value (q ++ s ∷ rest) w merged left.0 (left.1 (q ++ s ∷ rest) [] (sym (append-nil (q ++ s ∷ rest)))))

          by : SideAt b l r (q ++ s ∷ rest) → (t : Step) × (y : Path) × HasValue (q ++ t ∷ y)
          by (by_directory of_left is_side) = (s, rest, side_value (q ++ s ∷ rest) of_left w (decided_result rule b l r are _ of_left is_side) left.0)
          by (by_directory of_right is_side) = let a = above_is b l r (q ++ s ∷ rest) of_right is_side in at_right s rest a.front a.step a.rest w a.is a.merged a.here left.0 left.1
          by (by_contents side merged contents) = merged_here merged
          by (by_rule merged none) = merged_here merged

  pub fits : All (Fits behind r HasValue) plan.come
  fits k d within = one (is_plan.come k d within)
    where
      one : {e : Path × Coming} → IsComing rule b l r e.0 e.1 → Fits behind r HasValue e
      one {e} is = record {
        value = λ gives. value_comes e.0 e.1 is gives;
        directory = λ none. directory_value e.0 (directory_coming e.0 e.1 is none);
        above = λ p rest at some. above_value e.0 e.1 is p rest at some;
        below = λ directory. below_value e.0 e.1 is directory;
      }

  -- ---- the order of what comes

  ahead_by : (d e : Path × Coming) → IsComing rule b l r d.0 d.1 → IsComing rule b l r e.0 e.1 → ComesBefore d e → Ahead behind r d e
  ahead_by d e is_d is_e (inl less) = inl less
  ahead_by d e is_d is_e (inr same) = inr (same.0, by d.1 e.1 is_d is_e same.1 same.2)
    where
      bare : (o : Option Bytes) → o ≡ None → is_some o ≡ false
      bare o none = ap is_some none

      by : (c f : Coming) → IsComing rule b l r d.0 c → IsComing rule b l r e.0 f → is_put c ≡ true → is_put f ≡ false → gives_value r e.0 f ≡ false
      by taken f is_c is_f one other = absurd (false≢true one)
      by (put x) (put y) is_c is_f one other = absurd (false≢true (sym other))
      by (put x) taken is_c is_f one other = at is_f.1
        where
          at : ((contents_side b l r e.0 ≡ Some of_right) × IsSome (get r.map e.0)) ⊎ ((is_rights b l r e.0 ≡ true) × (has_directory r.map e.0 ≡ true)) → is_some (get r.map e.0) ≡ false
          at (inl contents) = absurd (false≢true (ap is_some (sym is_c.1 ∙ ap (contents_side b l r) same.0 ∙ contents.0)))
          at (inr directory) = bare _ (directory_bare r.map e.0 directory.1)

  ascends_by : (es : List (Path × Coming)) → AllPairs ComesBefore es → All (λ e. IsComing rule b l r e.0 e.1) es → Ascends behind r es
  ascends_by [] pairs all = tt
  ascends_by (e ∷ es) pairs all = (
    λ k d within. ahead_by e _ (All-head (λ x. IsComing rule b l r x.0 x.1) e es all) (All-tail (λ x. IsComing rule b l r x.0 x.1) e es all k d within) (pairs 0 (suc k) d (omega arith) (omega arith)),
    ascends_by es (λ i j d lt within. pairs (suc i) (suc j) d (omega arith) (omega arith)) (All-tail (λ x. IsComing rule b l r x.0 x.1) e es all),
  )

  pub ascends : Ascends behind r plan.come
  ascends = ascends_by plan.come is_plan.come_ascend is_plan.come

  -- ---- where a value comes from

  record Under (f : Path) : Type 0 where
    there : Contains plan.come (f, taken)
    merged : is_merged b l r f ≡ true
    side : directory_side b l r f ≡ Some of_right
    none : get r.map f ≡ None

  data Source (q : Path) (w : Bytes) : Type 0 where
    from_left : get behind q ≡ Some w → Source q w
    comes : (c : Coming) → Contains plan.come (q, c) → gives_value r q c ≡ true → Source q w
    under : (f : Path) (s : Step) (rest : Path) → q ≡ f ++ s ∷ rest → Under f → Source q w

  -- nothing goes at what the left tree decides, or above it
  lefts_stay : (q : Path) (w : Bytes) → get l.map q ≡ Some w → path_side b l r q ≡ Some of_left → NoneGone q
  lefts_stay q w some side p rest at there = by_rest rest at (gone_why p there)
    where
      at_side : (s : Step) (y : Path) → q ≡ p ++ s ∷ y → is_merged b l r p ≡ true → directory_side b l r p ≡ Some of_right → ⊥
      at_side s y at merged rights =
          not_lefts _ side (ap (path_side b l r) at ∙ ap (λ o. first_side o (contents_side b l r (p ++ s ∷ y))) (below_decided b l r p s y of_right merged rights))

      contents_left : p ≡ q → is_merged b l r p ≡ true → contents_side b l r p ≡ Some of_left
      contents_left same merged = ap (λ o. first_side o (contents_side b l r p)) (sym (undecided b l r p merged)) ∙ ap (path_side b l r) same ∙ side

      none_left : contents_side b l r p ≡ Some of_left → HasNone rule b l r p → ⊥
      none_left left (inl rights) = not_lefts _ left rights.0
      none_left left (inr (inl asked)) = false≢true (ap is_some (sym asked.1 ∙ left))
      none_left left (inr (inr asked)) = false≢true (ap is_some (sym asked.1 ∙ left))

      by_rest : (y : Path) → q ≡ p ++ y → IsGoing rule b l r p → ⊥
      by_rest y at (merged, why) = by y at why
        where
          by : (y : Path) → q ≡ p ++ y → (IsSome (get l.map p) × HasNone rule b l r p) ⊎ ((has_directory l.map p ≡ true) × (is_rights b l r p ≡ true) × (has_directory r.map p ≡ false)) → ⊥
          by [] at (inl contents) = let same : p ≡ q = sym (append-nil p) ∙ sym at in none_left (contents_left same merged) contents.1
          by [] at (inr directory) = none_is (get l.map q) w (ap (get l.map) (at ∙ append-nil p) ∙ directory_bare l.map p directory.0) some
          by (s ∷ y) at (inl contents) = let x = some_is _ contents.0 in no_both l.map are.left.prefix_free p s y x.0 w x.1 (ap (get l.map) (sym at) ∙ some)
          by (s ∷ y) at (inr directory) = at_side s y at merged (right_is _ directory.1)

  source : (q : Path) (w : Bytes) → Results rule b.map l.map r.map q (Keep (Some w)) → Source q w
  source q w is = by (side_at b l r q)
    where
      left : path_side b l r q ≡ Some of_left → get l.map q ≡ Some w → Source q w
      left side some = from_left (stays_behind q (lefts_stay q w some side) ∙ some)

      apart : contents_side b l r q ≡ Some of_right → q ≢ []
      apart contents e = not_lefts _ (lefts_root q e) contents

      apart_rule : contents_side b l r q ≡ None → q ≢ []
      apart_rule none e = false≢true (ap is_some (sym none ∙ lefts_root q e))

      below : (f : Path) (s : Step) (rest : Path) → q ≡ f ++ s ∷ rest → is_merged b l r f ≡ true → directory_side b l r f ≡ Some of_right → get r.map q ≡ Some w → Source q w
      below f s rest at merged side some =
          let here : get r.map (f ++ s ∷ rest) ≡ Some w = ap (get r.map) (sym at) ∙ some in
          under f s rest at (record { there = rights_come f merged side (directory_there r.map are.right.prefix_free f s rest w here); merged = merged; side = side; none = none_above r.map are.right.prefix_free f s rest w here })

      rights : is_merged b l r q ≡ true → contents_side b l r q ≡ Some of_right → get r.map q ≡ Some w → Source q w
      rights merged contents some = comes taken (visits.come q taken (apart contents) (merged, inl (contents, ap is_some some))) (ap is_some some)

      asked : (m : Merged) → Asked rule b l r q m → m ≡ Keep (Some w) → Source q w
      asked m a e = let k : Asked rule b l r q (Keep (Some w)) = subst (Asked rule b l r q) e a in comes (put w) (visits.come q (put w) (apart_rule k.1) k) refl

      by : SideAt b l r q → Source q w
      by (by_directory of_left side) = left (ap (λ o. first_side o (contents_side b l r q)) side) (value_side q of_left w (decided_result rule b l r are q of_left side) is)
      by (by_directory of_right side) = let a = above_is b l r q of_right side in below a.front a.step a.rest a.is a.merged a.here (value_side q of_right w (decided_result rule b l r are q of_right side) is)
      by (by_contents of_left merged contents) =
          left (ap (λ o. first_side o (contents_side b l r q)) (undecided b l r q merged) ∙ contents) (value_side q of_left w (contents_result rule b l r q of_left contents) is)
      by (by_contents of_right merged contents) = rights merged contents (value_side q of_right w (contents_result rule b l r q of_right contents) is)
      by (by_rule merged none) = let a = visits.asked q (apart_rule none) merged none in asked a.0 a.1 (one_result rule b l r are q _ _ (asked_result rule b l r q a.0 a.1) is)

  -- ---- a path with a value above one with a value

  -- the right tree has none such under a directory that it decides
  none_under : (p f : Path) (k : Step) (z : Path) (s : Step) (rest : Path) → p ≡ f ++ k ∷ z → directory_side b l r f ≡ Some of_right → HasValue p → HasValue (p ++ s ∷ rest) → ⊥
  none_under p f k z s rest at side one other =
      let deep : p ++ s ∷ rest ≡ f ++ k ∷ (z ++ s ∷ rest) = ap (λ (x : Path). x ++ s ∷ rest) at ∙ append_assoc f (k ∷ z) (s ∷ rest) in
      no_both r.map are.right.prefix_free p s rest one.0 other.0 (rights_value p z at one) (rights_value (p ++ s ∷ rest) (z ++ s ∷ rest) deep other)
    where
      rights_value : (q y : Path) → q ≡ f ++ k ∷ y → (v : HasValue q) → get r.map q ≡ Some v.0
      rights_value q y e v = value_side q of_right v.0 (subst (λ (x : Path). Results rule b.map l.map r.map x (Keep (get r.map x))) (sym e) (under_result rule b l r are f k y of_right side)) v.1

  taken_none : (f : Path) → Under f → gives_value r f taken ≡ false
  taken_none f u = ap is_some u.none

  module _ (p : Path) (s : Step) (rest : Path) (one : HasValue p) (other : HasValue (p ++ s ∷ rest)) where
    Shows : Type 0
    Shows = Detects behind r p None plan.come

    -- contents of the left tree, above or at a directory that comes
    left_under : (w : Bytes) (f : Path) → get behind p ≡ Some w → Under f → (z : Path) → f ≡ p ++ z → Shows
    unfolding Shows
    left_under w f some u [] e =
        let same : f ≡ p = e ∙ append-nil p in
        met_here taken (subst (λ (x : Path). Contains plan.come (x, taken)) same u.there) (ap (λ (x : Path). gives_value r x taken) (sym same) ∙ taken_none f u) (ap is_some some)
    left_under w f some u (k ∷ z) e = met_above k z taken (subst (λ (x : Path). Contains plan.come (x, taken)) e u.there) (ap is_some some)

    come_under : (c : Coming) (f : Path) → Contains plan.come (p, c) → gives_value r p c ≡ true → Under f → (z : Path) → f ≡ p ++ z → Shows
    unfolding Shows
    come_under c f there gives u z e =
        met_both c taken z there gives (subst (λ (x : Path). Contains plan.come (x, taken)) e u.there) (λ none. ap (λ (x : Path). gives_value r x taken) (sym e) ∙ taken_none f u)

    left_shows : (v w : Bytes) → get behind p ≡ Some v → Source (p ++ s ∷ rest) w → Shows
    unfolding Shows
    left_shows v w some (from_left x) = absurd (no_both behind behind_free p s rest v w some x)
    left_shows v w some (comes c there gives) = met_above s rest c there (ap is_some some)
    left_shows v w some (under f k z at u) = by (two_fronts p f (s ∷ rest) (k ∷ z) at)
      where
        by : ((y : Path) × (f ≡ p ++ y)) ⊎ ((j : Step) × (y : Path) × (p ≡ f ++ j ∷ y)) → Detects behind r p None plan.come
        by (inl front) = left_under v f some u front.0 front.1
        by (inr back) = absurd (none_under p f back.0 back.1 s rest back.2 u.side one other)

    come_shows : (c : Coming) (w : Bytes) → Contains plan.come (p, c) → gives_value r p c ≡ true → Source (p ++ s ∷ rest) w → Shows
    unfolding Shows
    come_shows c w there gives (from_left x) = met_under c there gives (directory_there behind behind_free p s rest w x)
    come_shows c w there gives (comes d also deep) = met_both c d (s ∷ rest) there gives also (λ e. absurd (false≢true (ap is_nil e)))
    come_shows c w there gives (under f k z at u) = by (two_fronts p f (s ∷ rest) (k ∷ z) at)
      where
        by : ((y : Path) × (f ≡ p ++ y)) ⊎ ((j : Step) × (y : Path) × (p ≡ f ++ j ∷ y)) → Detects behind r p None plan.come
        by (inl front) = come_under c f there gives u front.0 front.1
        by (inr back) = absurd (none_under p f back.0 back.1 s rest back.2 u.side one other)

    pub detects : Detects behind r p None plan.come
    unfolding Shows
    detects = by (source p one.0 one.1) (source (p ++ s ∷ rest) other.0 other.1)
      where
        by : Source p one.0 → Source (p ++ s ∷ rest) other.0 → Detects behind r p None plan.come
        by (from_left x) deep = left_shows one.0 other.0 x deep
        by (comes c there gives) deep = come_shows c other.0 there gives deep
        by (under f k z at u) deep = absurd (none_under p f k z s rest at u.side one other)

-- The first directory above a path that comes from a side.
--     undecided      none of those above a path that is merged does
--     Above, above_is      else it is a directory above which none does
--     below_decided      what it decides.      below_merged      where it decides nothing
use Rattle.std.proofs.Common.{◌≡◌, List, [], ◌∷◌, ◌++◌, map, refl, sym, ap, ◌∙◌, Option, Some, None, true}
use Rattle.std.proofs.lemmas.Bool.{false≢true}
use Rattle.std.specs.Prelude.{is_some, is_none}
use Rattle.ip_spec.specs.Path.{Step, Path}
use Rattle.ip_spec.specs.Tree.{ways}
use Rattle.ip_spec.specs.View.{View}
use Rattle.ip_three.specs.Merging.{Side, decided, directory_side, first_side, is_merged}
use Rattle.ip_three.proofs.Values.{none_of}

-- the first side along a path, by any function of directories
abbrev along : (Path → Option Side) → Path → Option Side
along f [] = None
along f (s ∷ p) = first_side (f []) (along (λ q. f (s ∷ q)) p)

abbrev first_of : (Path → Option Side) → List Path → Option Side
first_of f [] = None
first_of f (p ∷ ps) = first_side (f p) (first_of f ps)

first_map : (f : Path → Option Side) (s : Step) (ps : List Path) → first_of f (map (λ q. s ∷ q) ps) ≡ first_of (λ q. f (s ∷ q)) ps
first_map f s [] = refl
first_map f s (p ∷ ps) = ap (first_side (f (s ∷ p))) (first_map f s ps)

first_along : (f : Path → Option Side) (p : Path) → first_of f (ways p) ≡ along f p
first_along f [] = refl
first_along f (s ∷ p) = ap (first_side (f [])) (first_map f s (ways p) ∙ first_along (λ q. f (s ∷ q)) p)

-- ---- by any function

second_none : (a b : Option Side) → first_side a b ≡ None → b ≡ None
second_none None b e = e
second_none (Some x) b e = absurd (false≢true (ap is_none e))

first_none : (a b : Option Side) → first_side a b ≡ None → a ≡ None
first_none None b e = refl
first_none (Some x) b e = absurd (false≢true (ap is_none e))

none_along : (f : Path → Option Side) (p : Path) (s : Step) (rest : Path) → along f (p ++ s ∷ rest) ≡ None → f p ≡ None
none_along f [] s rest e = first_none (f []) _ e
none_along f (x ∷ p) s rest e = none_along (λ q. f (x ∷ q)) p s rest (second_none (f []) _ e)

front_along : (f : Path → Option Side) (p rest : Path) → along f (p ++ rest) ≡ None → along f p ≡ None
front_along f [] rest e = refl
front_along f (x ∷ p) rest e = ap (λ o. first_side o (along (λ q. f (x ∷ q)) p)) (first_none (f []) _ e) ∙ front_along (λ q. f (x ∷ q)) p rest (second_none (f []) _ e)

some_along : (f : Path → Option Side) (p : Path) (s : Step) (rest : Path) (side : Side) → along f p ≡ None → f p ≡ Some side → along f (p ++ s ∷ rest) ≡ Some side
some_along f [] s rest side none here = ap (λ o. first_side o (along (λ q. f (s ∷ q)) rest)) here
some_along f (x ∷ p) s rest side none here =
    ap (λ o. first_side o (along (λ q. f (x ∷ q)) (p ++ s ∷ rest))) (first_none (f []) _ none) ∙ some_along (λ q. f (x ∷ q)) p s rest side (second_none (f []) _ none) here

next_along : (f : Path → Option Side) (p : Path) (s : Step) → along f p ≡ None → f p ≡ None → along f (p ++ s ∷ []) ≡ None
next_along f [] s none here = ap (λ o. first_side o None) here
next_along f (x ∷ p) s none here =
    ap (λ o. first_side o (along (λ q. f (x ∷ q)) (p ++ s ∷ []))) (first_none (f []) _ none) ∙ next_along (λ q. f (x ∷ q)) p s (second_none (f []) _ none) here

record Along (f : Path → Option Side) (p : Path) (side : Side) : Type 0 where
  front : Path
  step : Step
  rest : Path
  is : p ≡ front ++ step ∷ rest
  here : f front ≡ Some side
  none : along f front ≡ None

along_is : (f : Path → Option Side) (p : Path) (side : Side) → along f p ≡ Some side → Along f p side
along_is f [] side e = absurd (false≢true (ap is_some e))
along_is f (s ∷ p) side e = by (f []) refl e (λ d. along_is (λ q. f (s ∷ q)) p side d)
  where
    deeper : f [] ≡ None → Along (λ q. f (s ∷ q)) p side → Along f (s ∷ p) side
    deeper none a = record {
      front = s ∷ a.front;
      step = a.step;
      rest = a.rest;
      is = ap (λ (x : Path). s ∷ x) a.is;
      here = a.here;
      none = ap (λ o. first_side o (along (λ q. f (s ∷ q)) a.front)) none ∙ a.none;
    }

    by : (o : Option Side) → f [] ≡ o → first_side o (along (λ q. f (s ∷ q)) p) ≡ Some side → (along (λ q. f (s ∷ q)) p ≡ Some side → Along (λ q. f (s ∷ q)) p side) → Along f (s ∷ p) side
    by (Some x) is e below = record { front = []; step = s; rest = p; is = refl; here = is ∙ e; none = refl }
    by None is e below = deeper is (below e)

-- ---- by the sides of directories

module _ (b l r : View) where
  decided_first : (ps : List Path) → decided b l r ps ≡ first_of (directory_side b l r) ps
  decided_first [] = refl
  decided_first (p ∷ ps) = ap (first_side (directory_side b l r p)) (decided_first ps)

  decided_along : (p : Path) → decided b l r (ways p) ≡ along (directory_side b l r) p
  decided_along p = decided_first (ways p) ∙ first_along (directory_side b l r) p

  pub undecided : (p : Path) → is_merged b l r p ≡ true → decided b l r (ways p) ≡ None
  undecided p e = none_of _ e

  merged_along : (p : Path) → is_merged b l r p ≡ true → along (directory_side b l r) p ≡ None
  merged_along p e = sym (decided_along p) ∙ undecided p e

  along_merged : (p : Path) → along (directory_side b l r) p ≡ None → is_merged b l r p ≡ true
  along_merged p e = ap is_none (decided_along p ∙ e)

  pub above_merged : (p : Path) (s : Step) (rest : Path) → is_merged b l r (p ++ s ∷ rest) ≡ true → directory_side b l r p ≡ None
  above_merged p s rest e = none_along (directory_side b l r) p s rest (merged_along _ e)

  pub front_merged : (p rest : Path) → is_merged b l r (p ++ rest) ≡ true → is_merged b l r p ≡ true
  front_merged p rest e = along_merged p (front_along (directory_side b l r) p rest (merged_along _ e))

  pub below_decided : (p : Path) (s : Step) (rest : Path) (side : Side) → is_merged b l r p ≡ true → directory_side b l r p ≡ Some side → decided b l r (ways (p ++ s ∷ rest)) ≡ Some side
  below_decided p s rest side merged here = decided_along (p ++ s ∷ rest) ∙ some_along (directory_side b l r) p s rest side (merged_along p merged) here

  pub below_merged : (p : Path) (s : Step) → is_merged b l r p ≡ true → directory_side b l r p ≡ None → is_merged b l r (p ++ s ∷ []) ≡ true
  below_merged p s merged here = along_merged (p ++ s ∷ []) (next_along (directory_side b l r) p s (merged_along p merged) here)

  pub record Above (p : Path) (side : Side) : Type 0 where
    pub front : Path
    pub step : Step
    pub rest : Path
    pub is : p ≡ front ++ step ∷ rest
    pub here : directory_side b l r front ≡ Some side
    pub merged : is_merged b l r front ≡ true

  pub above_is : (p : Path) (side : Side) → decided b l r (ways p) ≡ Some side → Above p side
  above_is p side e =
      let a = along_is (directory_side b l r) p side (sym (decided_along p) ∙ e) in
      record { front = a.front; step = a.step; rest = a.rest; is = a.is; here = a.here; merged = along_merged a.front a.none }

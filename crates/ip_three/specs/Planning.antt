-- What a walk through base, left and right finds: how the left tree is to be edited, as far as the rules have answered.
--     Asked rule b l r p m      no side decides the path, and its rule answers so
--     IsGoing, IsComing rule b l r p      what goes there, and what comes there
--     Plan      what goes, what comes, the first path whose rule conflicts, and whether what a rule gave is too long
--     IsPlan rule b l r plan      all of it is so.      Visits rule b l r covers plan      of the paths that are covered nothing is left out
--     AreAscending paths      each before those behind it.      ComesBefore d e      one of two that come is before the other
use Rattle.std.specs.Prelude.{◌≡◌, ◌⊎◌, ◌<◌, Bool, true, false, List, All, AllPairs, Contains, length, Option, Some, None, IsSome, IsTrue, IsFalse}
use Rattle.std.specs.Ordering.{is_lt}
use Rattle.ip_spec.specs.Map.{get}
use Rattle.ip_spec.specs.Merge.{Rule}
use Rattle.ip_spec.specs.declared.merge.Merged.{Merged}
use Rattle.ip_spec.specs.declared.merge.Merged.TheVariants.{Keep, Conflict}
use Rattle.ip_spec.specs.Path.{Bytes, Path, path_cmp}
use Rattle.ip_spec.specs.Step.{contents_limit}
use Rattle.ip_spec.specs.View.{View}
use Rattle.ip_three.specs.Merging.{Coming, put, taken, of_right, contents_side, has_directory, is_merged, is_rights}

pub record Plan : Type 0 where
  pub gone : List Path
  pub come : List (Path × Coming)
  pub conflict : Option Path
  pub long : Bool

abbrev pub AreAscending : List Path → Type 0
AreAscending paths = AllPairs (λ p q. IsTrue (is_lt (path_cmp p q))) paths

abbrev pub is_put : Coming → Bool
is_put (put bytes) = true
is_put taken = false

-- A rule may give contents for a path at which the right tree has a directory that it decides: the contents come first.
abbrev pub ComesBefore : Path × Coming → Path × Coming → Type 0
ComesBefore d e = IsTrue (is_lt (path_cmp d.0 e.0)) ⊎ ((d.0 ≡ e.0) × IsTrue (is_put d.1) × IsFalse (is_put e.1))

module _ (rule : Rule) (b l r : View) where
  abbrev pub Asked : Path → Merged → Type 0
  Asked p m = IsTrue (is_merged b l r p) × (contents_side b l r p ≡ None) × rule p (get b.map p) (get l.map p) (get r.map p) m

  -- the merge has no contents there
  abbrev pub HasNone : Path → Type 0
  HasNone p = ((contents_side b l r p ≡ Some of_right) × (get r.map p ≡ None)) ⊎ (Asked p (Keep None) ⊎ Asked p Conflict)

  abbrev pub IsGoing : Path → Type 0
  IsGoing p = IsTrue (is_merged b l r p) × ((IsSome (get l.map p) × HasNone p) ⊎ (IsTrue (has_directory l.map p) × IsTrue (is_rights b l r p) × IsFalse (has_directory r.map p)))

  abbrev pub IsComing : Path → Coming → Type 0
  IsComing p (put bytes) = Asked p (Keep (Some bytes))
  IsComing p taken = IsTrue (is_merged b l r p) × (((contents_side b l r p ≡ Some of_right) × IsSome (get r.map p)) ⊎ (IsTrue (is_rights b l r p) × IsTrue (has_directory r.map p)))

  pub record IsPlan (plan : Plan) : Type 0 where
    pub gone : All IsGoing plan.gone
    pub come : All (λ e. IsComing e.0 e.1) plan.come
    pub gone_ascend : AreAscending plan.gone
    pub come_ascend : AllPairs ComesBefore plan.come
    pub conflict : (c : Path) → plan.conflict ≡ Some c → Asked c Conflict
    pub long : IsTrue plan.long → (p : Path) × (bytes : Bytes) × Asked p (Keep (Some bytes)) × (contents_limit < length bytes)

  -- an answer is in the plan, but for a path that conflicts behind another
  abbrev pub Noted : Plan → Path → Merged → Type 0
  Noted plan p Conflict = (c : Path) × (plan.conflict ≡ Some c) × IsFalse (is_lt (path_cmp p c))
  Noted plan p (Keep None) = Unit {0}
  Noted plan p (Keep (Some bytes)) = contents_limit < length bytes → IsTrue plan.long

  pub record Visits (covers : Path → Type 0) (plan : Plan) : Type 0 where
    pub asked : (p : Path) → covers p → IsTrue (is_merged b l r p) → contents_side b l r p ≡ None → (m : Merged) × Asked p m × Noted plan p m
    pub gone : (p : Path) → covers p → IsGoing p → Contains plan.gone p
    pub come : (p : Path) (c : Coming) → covers p → IsComing p c → Contains plan.come (p, c)

-- How a walk through base, left and right goes on with a plan.
--     Goes rule b l r contents directories plan      nothing is left out of contents at these paths, nor of directories at those
--     GoesOn gones comes conflicts old new      what a plan has stays, and what is new is one of these
--     Plans rule b l r contents directories gones comes conflicts old new      both, and it is a plan still
--     IsLess path plan      all of it comes before the path.      IsReady l r path plan      but for what is of the contents at the path
--     IsBehind path plan      all of it comes before what lies under the path
--     IsAt, IsFrom, IsUnder path p      p is the path; lies at it or under it; lies under it
--     PlansContents, PlansDirectory, PlansAt, PlansUnder rule b l r path old new      of the contents at a path; of the directory there and all under it; of both; of what lies under it
use Rattle.std.specs.Prelude.{◌≡◌, ◌⊎◌, ◌||◌, cond, nat_lt, length, [], ◌∷◌, ◌++◌, List, Contains, Option, Some, None, IsSome, IsTrue, IsFalse, is_some}
use Rattle.std.specs.Ordering.{is_lt}
use Rattle.ip_spec.specs.Map.{get}
use Rattle.ip_spec.specs.Merge.{Rule}
use Rattle.ip_spec.specs.declared.merge.Merged.{Merged}
use Rattle.ip_spec.specs.declared.merge.Merged.TheVariants.{Keep}
use Rattle.ip_spec.specs.Path.{Bytes, Step, Path, path_cmp}
use Rattle.ip_spec.specs.Step.{contents_limit}
use Rattle.ip_spec.specs.View.{View}
use Rattle.ip_three.specs.Merging.{Coming, of_right, put, taken, contents_side, has_directory, is_merged, is_rights}
use Rattle.ip_three.specs.Planning.{Plan, Asked, HasNone, IsPlan, Noted, is_put}

pub record Goes (rule : Rule) (b l r : View) (contents directories : Path → Type 0) (plan : Plan) : Type 0 where
  pub asked : (p : Path) → contents p → IsTrue (is_merged b l r p) → contents_side b l r p ≡ None → (m : Merged) × Asked rule b l r p m × Noted rule b l r plan p m
  pub gone : (p : Path) → contents p → IsTrue (is_merged b l r p) → IsSome (get l.map p) → HasNone rule b l r p → Contains plan.gone p
  pub removed : (p : Path) → directories p → IsTrue (is_merged b l r p) → IsTrue (has_directory l.map p) → IsTrue (is_rights b l r p) → IsFalse (has_directory r.map p) → Contains plan.gone p
  pub put_there : (p : Path) (bytes : Bytes) → contents p → Asked rule b l r p (Keep (Some bytes)) → Contains plan.come (p, put bytes)
  pub come : (p : Path) → contents p → IsTrue (is_merged b l r p) → contents_side b l r p ≡ Some of_right → IsSome (get r.map p) → Contains plan.come (p, taken)
  pub grafted : (p : Path) → directories p → IsTrue (is_merged b l r p) → IsTrue (is_rights b l r p) → IsTrue (has_directory r.map p) → Contains plan.come (p, taken)

pub record GoesOn (gones : Path → Type 0) (comes : Path × Coming → Type 0) (conflicts : Path → Type 0) (old new : Plan) : Type 0 where
  pub gone : (p : Path) → Contains old.gone p → Contains new.gone p
  pub come : (e : Path × Coming) → Contains old.come e → Contains new.come e
  pub conflict : (c : Path) → old.conflict ≡ Some c → new.conflict ≡ Some c
  pub long : IsTrue old.long → IsTrue new.long
  pub new_gone : (p : Path) → Contains new.gone p → Contains old.gone p ⊎ gones p
  pub new_come : (e : Path × Coming) → Contains new.come e → Contains old.come e ⊎ comes e
  pub new_conflict : (c : Path) → new.conflict ≡ Some c → (old.conflict ≡ Some c) ⊎ conflicts c

pub record Plans (rule : Rule) (b l r : View) (contents directories gones : Path → Type 0) (comes : Path × Coming → Type 0) (conflicts : Path → Type 0) (old new : Plan) : Type 0 where
  pub plan : IsPlan rule b l r new
  pub goes : Goes rule b l r contents directories new
  pub goes_on : GoesOn gones comes conflicts old new

-- ---- in which order

pub record IsLess (path : Path) (plan : Plan) : Type 0 where
  pub gone : (p : Path) → Contains plan.gone p → IsTrue (is_lt (path_cmp p path))
  pub come : (e : Path × Coming) → Contains plan.come e → IsTrue (is_lt (path_cmp e.0 path))
  pub conflict : (c : Path) → plan.conflict ≡ Some c → IsTrue (is_lt (path_cmp c path))

-- what becomes of contents at a path
abbrev pub GoneAt : View → Path → Path → Type 0
GoneAt l path p = (p ≡ path) × IsSome (get l.map path)

abbrev pub ComesAt : View → Path → Path × Coming → Type 0
ComesAt r path e = (e.0 ≡ path) × (IsTrue (is_put e.1) ⊎ IsSome (get r.map path))

pub record IsReady (l r : View) (path : Path) (plan : Plan) : Type 0 where
  pub gone : (p : Path) → Contains plan.gone p → IsTrue (is_lt (path_cmp p path)) ⊎ GoneAt l path p
  pub come : (e : Path × Coming) → Contains plan.come e → IsTrue (is_lt (path_cmp e.0 path)) ⊎ ComesAt r path e
  pub conflict : (c : Path) → plan.conflict ≡ Some c → IsTrue (is_lt (path_cmp c path)) ⊎ (c ≡ path)

pub record IsBehind (path : Path) (plan : Plan) : Type 0 where
  pub gone : (p : Path) → Contains plan.gone p → (s : Step) (rest : Path) → IsTrue (is_lt (path_cmp p (path ++ s ∷ rest)))
  pub come : (e : Path × Coming) → Contains plan.come e → (s : Step) (rest : Path) → IsTrue (is_lt (path_cmp e.0 (path ++ s ∷ rest)))
  pub conflict : (c : Path) → plan.conflict ≡ Some c → (s : Step) (rest : Path) → IsTrue (is_lt (path_cmp c (path ++ s ∷ rest)))

-- ---- where

abbrev pub IsAt : Path → Path → Type 0
IsAt path p = p ≡ path

abbrev pub IsFrom : Path → Path → Type 0
IsFrom path p = (rest : Path) × (p ≡ path ++ rest)

abbrev pub IsUnder : Path → Path → Type 0
IsUnder path p = (s : Step) × (rest : Path) × (p ≡ path ++ s ∷ rest)

abbrev pub IsNowhere : Path → Type 0
IsNowhere p = ⊥

module _ (rule : Rule) (b l r : View) (path : Path) (old new : Plan) where
  abbrev pub PlansContents : Type 0
  PlansContents = Plans rule b l r (IsAt path) IsNowhere (GoneAt l path) (ComesAt r path) (IsAt path) old new

  abbrev pub PlansDirectory : Type 0
  PlansDirectory = Plans rule b l r (IsUnder path) (IsFrom path) (IsFrom path) (λ e. IsFrom path e.0) (IsFrom path) old new

  abbrev pub PlansAt : Type 0
  PlansAt = Plans rule b l r (IsFrom path) (IsFrom path) (IsFrom path) (λ e. IsFrom path e.0) (IsFrom path) old new

  abbrev pub PlansUnder : Type 0
  PlansUnder = Plans rule b l r (IsUnder path) (IsUnder path) (IsUnder path) (λ e. IsUnder path e.0) (IsUnder path) old new

-- ---- what becomes of a plan

abbrev pub without : View → Path → List Path → List Path
without l path paths = cond (is_some (get l.map path)) (paths ++ path ∷ []) paths

abbrev pub or_path : Option Path → Path → Option Path
or_path None path = Some path
or_path (Some c) path = Some c

abbrev pub with_coming : Path → Coming → Plan → Plan
with_coming path c plan = record plan { come = plan.come ++ (path, c) ∷ [] }

abbrev pub with_bytes : Path → Bytes → Plan → Plan
with_bytes path bytes plan = record plan { come = plan.come ++ (path, put bytes) ∷ []; long = plan.long || nat_lt contents_limit (length bytes) }

abbrev pub with_gone : Path → Plan → Plan
with_gone path plan = record plan { gone = plan.gone ++ path ∷ [] }

-- where contents stand in the left tree
abbrev pub with_none : View → Path → Plan → Plan
with_none l path plan = record plan { gone = without l path plan.gone }

abbrev pub with_conflict : View → Path → Plan → Plan
with_conflict l path plan = record plan { gone = without l path plan.gone; conflict = or_path plan.conflict path }

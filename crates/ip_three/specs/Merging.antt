-- Merging three trees of which parts are known: how the left one is edited so that it becomes the merge.
--     Side      the side that a part of the merge comes from.      side_by      by the three tests, in this order
--     has_directory t p      a directory stands there, perhaps the empty root
--     same_directory v w p      two trees have the directory in one record, or neither has one.      same_contents v w p      they have the same contents, or none
--     directory_side, contents_side      the side from which the directory at a path comes, and from which its contents do
--     decided b l r ways      the first side that one of these directories comes from.      is_merged b l r p      no directory above the path comes from a side
--     goes b l r t p      where t is the merge: what stands in the left tree at the path goes
--     coming b l r t p      what comes there: contents, or what stands in the right tree
--     less v gone      a view without what goes.      more r v come      a view with what comes, of the least number that it had
--     edited_view l r t gone come      the left view behind all edits.      merged_view l r t gone come      the same, with the least number of both sides
--     path_side b l r p      the side that decides a path.      Follows b l r t      the merge has there what that side has
--     AreEdits b l r t gone come      these are all paths that go, and all that comes
use Rattle.std.specs.Prelude.{◌≡◌, ℕ, Bool, true, false, not, ◌&&◌, ◌||◌, ◌==◌, List, [], ◌∷◌, All, Contains, Option, Some, None, is_some, is_none, IsTrue, if◌then◌else◌}
use Rattle.ip_spec.specs.Map.{get}
use Rattle.ip_spec.specs.Path.{Bytes, Path, same_bytes}
use Rattle.ip_spec.specs.Tree.{Tree, subtree, is_empty, is_contents, ways}
use Rattle.ip_spec.specs.View.{View, is_nil, least, put_view, remove_view, graft_view}

pub data Side : Type 0 where
  of_left : Side
  of_right : Side

-- what comes to a path
pub data Coming : Type 0 where
  -- contents
  put : Bytes → Coming
  -- what stands there in the right tree
  taken : Coming

-- ---- sides

abbrev pub has_directory : Tree → Path → Bool
has_directory tree path = let sub = subtree tree path in not (is_contents sub) && (is_nil path || not (is_empty sub))

abbrev pub same_number : Option ℕ → Option ℕ → Bool
same_number (Some m) (Some n) = m == n
same_number m n = false

-- the offset of a directory's record, where it is known
abbrev pub record_at : View → Path → Option ℕ
record_at v path = v.known (record { path = path; indexes = [] })

-- two trees have the directory in one record, or neither has one
abbrev pub same_directory : View → View → Path → Bool
same_directory v w path = if has_directory v.map path then has_directory w.map path && same_number (record_at v path) (record_at w path) else not (has_directory w.map path)

abbrev pub same_contents : View → View → Path → Bool
same_contents v w path = by_contents (get v.map path) (get w.map path)
  where
    by_contents : Option Bytes → Option Bytes → Bool
    by_contents (Some a) (Some b) = same_bytes a b
    by_contents None None = true
    by_contents a b = false

-- whether left and right, left and base, right and base are the same
abbrev pub side_by : Bool → Bool → Bool → Option Side
side_by true b c = Some of_left
side_by false true c = Some of_right
side_by false false true = Some of_left
side_by false false false = None

abbrev pub directory_side : View → View → View → Path → Option Side
directory_side b l r path = side_by (same_directory l r path) (same_directory l b path) (same_directory r b path)

abbrev pub contents_side : View → View → View → Path → Option Side
contents_side b l r path = side_by (same_contents l r path) (same_contents l b path) (same_contents r b path)

-- the first of two, where there is one
abbrev pub first_side : Option Side → Option Side → Option Side
first_side (Some side) other = Some side
first_side None other = other

abbrev pub decided : View → View → View → List Path → Option Side
decided b l r [] = None
decided b l r (p ∷ ps) = first_side (directory_side b l r p) (decided b l r ps)

abbrev pub is_merged : View → View → View → Path → Bool
is_merged b l r path = is_none (decided b l r (ways path))

-- ---- edits

abbrev pub is_right : Option Side → Bool
is_right (Some of_right) = true
is_right (Some of_left) = false
is_right None = false

-- the right tree decides the directory at a path
abbrev pub is_rights : View → View → View → Path → Bool
is_rights b l r path = is_right (directory_side b l r path)

abbrev pub goes : View → View → View → Tree → Path → Bool
goes b l r t path =
    is_merged b l r path && ((is_some (get l.map path) && is_none (get t path)) || (has_directory l.map path && is_rights b l r path && not (has_directory r.map path)))

-- where the merge has contents, by their side
abbrev pub coming_contents : Option Side → Bytes → Option Coming
coming_contents (Some of_left) bytes = None
coming_contents (Some of_right) bytes = Some taken
coming_contents None bytes = Some (put bytes)

abbrev pub coming_by : Option Bytes → Option Side → Bool → Option Coming
coming_by (Some bytes) side directory = coming_contents side bytes
coming_by None side directory = if directory then Some taken else None

abbrev pub coming : View → View → View → Tree → Path → Option Coming
coming b l r t path =
    if is_merged b l r path then coming_by (get t path) (contents_side b l r path) (is_rights b l r path && has_directory r.map path) else None

-- ---- the view behind them

-- where nothing stands, nothing changes
abbrev pub less_at : View → Path → View
less_at v path = if not (is_empty (subtree v.map path)) then remove_view v path else v

abbrev pub less : View → List Path → View
less v [] = v
less v (path ∷ paths) = less (less_at v path) paths

abbrev pub more_at : View → View → Path → Coming → View
more_at r v path (put bytes) = put_view v path bytes
more_at r v path taken = record (graft_view v r path path) { oldest = v.oldest }

abbrev pub more : View → View → List (Path × Coming) → View
more r v [] = v
more r v (e ∷ es) = more r (more_at r v e.0 e.1) es

abbrev pub edited_view : View → View → Tree → List Path → List (Path × Coming) → View
edited_view l r t gone come = record { map = t; oldest = l.oldest; known = (more r (less l gone) come).known }

-- No part of the base stands in it, so its least number is that of the two sides.
abbrev pub merged_view : View → View → Tree → List Path → List (Path × Coming) → View
merged_view l r t gone come = record (edited_view l r t gone come) { oldest = least l.oldest r.oldest }

-- ---- the merge

-- that of a directory above, or else that of the contents
abbrev pub path_side : View → View → View → Path → Option Side
path_side b l r path = first_side (decided b l r (ways path)) (contents_side b l r path)

abbrev pub map_of : View → View → Side → Tree
map_of l r of_left = l.map
map_of l r of_right = r.map

abbrev pub Follows : View → View → View → Tree → Type 0
Follows b l r t = (path : Path) (side : Side) → path_side b l r path ≡ Some side → get t path ≡ get (map_of l r side) path

pub record AreEdits (b l r : View) (t : Tree) (gone : List Path) (come : List (Path × Coming)) : Type 0 where
  pub only_gone : All (λ path. IsTrue (goes b l r t path)) gone
  pub each_gone : (path : Path) → IsTrue (goes b l r t path) → Contains gone path
  pub only_come : All (λ e. coming b l r t e.0 ≡ Some e.1) come
  pub each_come : (path : Path) (c : Coming) → coming b l r t path ≡ Some c → Contains come (path, c)

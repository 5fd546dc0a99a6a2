-- Where what comes does not fit to what stands in the tree, or to what came before it.
--     clash_of m r come      the least path that has a value and, with this coming to the map, something with a value under it
--     gives_value r p c      contents come to the path, not a directory.      clash_at m r last p c      what is wrong with one of them
--     lesser p q      the least of two paths, where there are any
--     front_of path count      so many first steps of a path.      last_path come last      the path of one of the code's edits
use Rattle.std.specs.Prelude.{ℕ, Bool, true, false, ◌||◌, List, [], ◌∷◌, take, Option, Some, None, option_and_then, option_map, is_some, slice_get, if◌then◌else◌}
use Rattle.std.specs.List.{find}
use Rattle.std.specs.Ordering.{is_lt}
use Rattle.ip_spec.specs.Map.{get}
use Rattle.ip_spec.specs.Path.{Path, path_cmp, same_path}
use Rattle.ip_spec.specs.Tree.{Tree, ways}
use Rattle.ip_spec.specs.View.{View}
use Rattle.ip_three.specs.Merging.{Coming, put, taken, has_directory}
use Rattle.ip_three.specs.declared.apply.Edit.{Edit}

abbrev pub gives_value : View → Path → Coming → Bool
gives_value r path (put bytes) = true
gives_value r path taken = is_some (get r.map path)

abbrev pub is_at : Option Path → Path → Bool
is_at None path = false
is_at (Some last) path = same_path last path

-- contents stand there, or came last
abbrev pub is_met : Tree → Option Path → Path → Bool
is_met m last way = is_some (get m way) || is_at last way

-- the first directory on the way that has contents, of the map or of what came before
abbrev pub clash_above : Tree → Option Path → Path → Option Path
clash_above m last path = find (is_met m last) (ways path)

-- contents come to a directory, or a directory to contents
abbrev pub is_clash_here : Tree → View → Option Path → Path → Coming → Bool
is_clash_here m r last path c = is_at last path || (if gives_value r path c then has_directory m path else is_some (get m path))

abbrev pub first_path : Option Path → Option Path → Option Path
first_path (Some p) other = Some p
first_path None other = other

abbrev pub clash_at : Tree → View → Option Path → Path → Coming → Option Path
clash_at m r last path c = first_path (clash_above m last path) (if is_clash_here m r last path c then Some path else None)

-- Between a path and what lies under it nothing comes but what lies under it, so the last path with a value serves for all before it.
abbrev pub last_value : View → Option Path → Path → Coming → Option Path
last_value r last path c = if gives_value r path c then Some path else last

abbrev pub clash_from : Tree → View → Option Path → List (Path × Coming) → Option Path
clash_from m r last [] = None
clash_from m r last (e ∷ es) = first_path (clash_at m r last e.0 e.1) (clash_from m r (last_value r last e.0 e.1) es)

abbrev pub clash_of : Tree → View → List (Path × Coming) → Option Path
clash_of m r come = clash_from m r None come

abbrev pub lesser : Option Path → Option Path → Option Path
lesser None q = q
lesser (Some p) None = Some p
lesser (Some p) (Some q) = if is_lt (path_cmp q p) then Some q else Some p

-- ---- of the code

abbrev pub front_of : Path → Option ℕ → Option Path
front_of path count = option_map (λ n. take n path) count

abbrev pub last_path : List Edit → Option ℕ → Option Path
last_path come last = option_map (λ e. e.path) (option_and_then (slice_get come) last)

-- The merge of three maps as a function, where each rule computes its answer: slow, for tests and worked examples.
--     merge_of f o a b      the outcome that `Merges` allows
--     merge_turn, machine      the step of `merge`, and of all commands, by it
--     base_by, machine_over_bases      the same where several least common ancestors are merged first
use Rattle.std.specs.Prelude.{reverse, ℕ, zero, suc, Bool, true, false, not, ◌&&◌, ◌||◌, List, [], ◌∷◌, length, Option, Some, None, is_some, Ok, if◌then◌else◌, nat_lt}
use Rattle.std.specs.List.{list_any, find}
use Rattle.ip_spec.specs.Map.{get, insert, insert_all, keys, empty}
use Rattle.ip_spec.specs.Path.{Bytes, Path, same_path, is_prefix}
use Rattle.ip_spec.specs.Record.{Info}
use Rattle.ip_spec.specs.Tree.{Tree, no_tree}
use Rattle.ip_spec.specs.Merge.{Merged, Keep, Conflict, Outcome, merged, conflict_at, same_value}
use Rattle.ip_spec.specs.Repository.{Repository, next, head, name_at, tree_at}
use Rattle.ip_spec.specs.History.{is_ancestor, is_proper_ancestor, common, lcas}
use Rattle.ip_spec.specs.Machine.{State, Command, Conditions, Reply, Target}
use Rattle.ip_spec.specs.Step.{Refused, ◌>>=◌, ◌>>◌, Turned, or_refused, resolve, present, refuse_if, not_leaving, tree_of_outcome, with_merge, forward_turn, answer, turned, state_with_exit, step_runs}

abbrev pub Merger : Type 0
Merger = Option Bytes → Option Bytes → Option Bytes → Merged

abbrev pub decision : Merger → Merger
decision f o a b =
    if same_value a b then Keep a else
    if same_value a o then Keep b else
    if same_value b o then Keep a else
    f o a b

abbrev pub value_of : Merged → Option Bytes
value_of (Keep v) = v
value_of Conflict = None

abbrev pub is_conflict : Merged → Bool
is_conflict (Keep v) = false
is_conflict Conflict = true

module _ (f : Path → Merger) (o a b : Tree) where
  abbrev pub answer_at : Path → Merged
  answer_at p = decision (f p) (get o p) (get a p) (get b p)

  abbrev pub has_value : Path → Bool
  has_value p = is_some (value_of (answer_at p))

  abbrev pub all_paths : Tree
  all_paths = insert_all (insert_all o a.entries) b.entries

  abbrev pub is_under : Path → Path → Bool
  is_under p q = is_prefix p q && (not (same_path p q) && has_value q)

  abbrev pub conflicts_at : Path → Bool
  conflicts_at p = is_conflict (answer_at p) || (has_value p && list_any (is_under p) (keys all_paths))

  abbrev pub with_value : Tree → Path → Option Bytes → Tree
  with_value m p None = m
  with_value m p (Some v) = insert m p v

  abbrev pub results_from : List Path → Tree → Tree
  results_from [] m = m
  results_from (p ∷ ps) m = results_from ps (with_value m p (value_of (answer_at p)))

  abbrev pub outcome_by : Option Path → Outcome
  outcome_by (Some p) = conflict_at p
  outcome_by None = merged (results_from (keys all_paths) empty)

  unfoldable pub merge_of : Outcome
  merge_of = outcome_by (find conflicts_at (keys all_paths))

-- over at most one least common ancestor
abbrev pub base_of : Repository → List ℕ → Tree
base_of r [] = no_tree
base_of r (c ∷ cs) = tree_at r c

abbrev pub join_turn : (Path → Merger) → State → Conditions → ℕ → Bytes → ℕ → Info → Refused Turned
join_turn f s met number branch head info =
    let r = s.repository in
    let cs = lcas r head number in
    do
      not_leaving s (Some number)
      refuse_if (nat_lt 1 (length cs)) (Reply.Bases (length cs))
      tree ← tree_of_outcome (merge_of f (base_of r cs) (tree_at r head) (tree_at r number))
      with_merge s met number branch head info tree

abbrev pub merge_turn : (Path → Merger) → State → Target → Bytes → Info → Conditions → Refused Turned
merge_turn f s target branch info met = do
  number ← resolve s.repository target
  head ← present (head s.repository branch) (Reply.NoBranch branch)
  if is_ancestor s.repository number head then Ok (Reply.Current (name_at s.repository head), s) else
      if is_proper_ancestor s.repository head number then forward_turn s met number branch else
      join_turn f s met number branch head info

abbrev pub answer_by : (Path → Merger) → State → Command → Conditions → Turned
answer_by f s (Command.Merge target branch info) met = or_refused s (merge_turn f s target branch info met)
answer_by f s command met = answer s command met

unfoldable pub machine : (Path → Merger) → State → Command → Conditions → Turned
machine f s command met = if met.told.refused then (Reply.Memory, state_with_exit s s.phase met.told.child) else answer_by f s command met

-- ---- several bases

-- the ancestor's map for these commits, the greatest first, by at most this many merges one above another
unfoldable pub base_by : ℕ → (Path → Merger) → Repository → List ℕ → Refused Tree
base_by zero f r cs = Ok no_tree
base_by (suc n) f r [] = Ok no_tree
base_by (suc n) f r (c ∷ []) = Ok (tree_at r c)
base_by (suc n) f r (c ∷ d ∷ cs) = do
  left ← base_by n f r (d ∷ cs)
  ancestor ← base_by n f r (reverse (common r (d ∷ cs) c))
  tree_of_outcome (merge_of f ancestor left (tree_at r c))

abbrev pub join_turn_over_bases : (Path → Merger) → State → Conditions → ℕ → Bytes → ℕ → Info → Refused Turned
join_turn_over_bases f s met number branch head info =
    let r = s.repository in
    do
      not_leaving s (Some number)
      base ← base_by (next r) f r (reverse (lcas r head number))
      tree ← tree_of_outcome (merge_of f base (tree_at r head) (tree_at r number))
      with_merge s met number branch head info tree

abbrev pub merge_over_bases : (Path → Merger) → State → Target → Bytes → Info → Conditions → Refused Turned
merge_over_bases f s target branch info met = do
  number ← resolve s.repository target
  head ← present (head s.repository branch) (Reply.NoBranch branch)
  if is_ancestor s.repository number head then Ok (Reply.Current (name_at s.repository head), s) else
      if is_proper_ancestor s.repository head number then forward_turn s met number branch else
      join_turn_over_bases f s met number branch head info

-- the machine where several bases are merged, the bound on their merges aside
unfoldable pub machine_over_bases : (Path → Merger) → State → Command → Conditions → Turned
machine_over_bases f s (Command.Merge target branch info) met = or_refused s (merge_over_bases f s target branch info met)
machine_over_bases f s command met = turned s command met

unfoldable pub machine_runs : Unit {0}
unfolding step_runs merge_of machine base_by machine_over_bases
machine_runs = tt

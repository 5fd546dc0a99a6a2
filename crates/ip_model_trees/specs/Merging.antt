-- The merge of three trees as lists.
--     Answer      a path, and what becomes of it by itself.      IsDecided rule o a b p r      this becomes of it
--     AreAnswers rule o a b all answers      what becomes of each of these paths, in their order
--     is_over e f      the path of f lies under that of e, and has a value.      conflicts_in answers e      the path of e conflicts
--     kept e      the path with its value, if it has one
--     Tells answers joined      the tree of all values, or the least path that conflicts
--     MergesTo rule o a b joined      the merge of three maps
use Rattle.std.specs.Prelude.{◌≡◌, ◌&&◌, ◌||◌, not, Bool, List, [], map, All, Option, Some, None, is_some, option_map, filter_map}
use Rattle.std.specs.List.{list_any, find as first}
use Rattle.std.specs.FinMap.Entries.{find}
use Rattle.ip_spec.specs.Path.{Bytes, Path, path_cmp, same_path, is_prefix}
use Rattle.ip_spec.specs.Tree.{Tree}
use Rattle.ip_spec.specs.declared.merge.Merged.{Merged}
use Rattle.ip_spec.specs.Merge.{Meaning, Rule, Decides, Merges, merged, conflict_at}
use Rattle.ip_spec.specs.MergeModel.{value_of, is_conflict}
use Rattle.ip_model_trees.specs.Parts.{put_all}
use Rattle.ip_model_trees.specs.declared.merging.Joined.{Joined}

abbrev pub Answer : Type 0
Answer = Path × Merged

-- the definition of merges, by another name than the trait of code that decides
abbrev pub DecidesOn : Meaning → Option Bytes → Option Bytes → Option Bytes → Merged → Type 0
DecidesOn means o a b r = Decides means o a b r

abbrev pub IsDecided : Rule → List (Path × Bytes) → List (Path × Bytes) → List (Path × Bytes) → Path → Merged → Type 0
IsDecided rule o a b p r = Decides (rule p) (find path_cmp p o) (find path_cmp p a) (find path_cmp p b) r

pub record AreAnswers (rule : Rule) (o a b all : List (Path × Bytes)) (answers : List Answer) : Type 0 where
  pub paths : map (λ (e : Answer). e.0) answers ≡ map (λ (e : Path × Bytes). e.0) all
  pub decided : All (λ (e : Answer). IsDecided rule o a b e.0 e.1) answers

abbrev pub is_over : Answer → Answer → Bool
is_over e f = is_prefix e.0 f.0 && (not (same_path e.0 f.0) && is_some (value_of f.1))

abbrev pub conflicts_in : List Answer → Answer → Bool
conflicts_in answers e = is_conflict e.1 || (is_some (value_of e.1) && list_any (is_over e) answers)

abbrev pub kept : Answer → Option (Path × Bytes)
kept e = option_map (λ v. (e.0, v)) (value_of e.1)

abbrev pub Tells : List Answer → Joined → Type 0
Tells answers (Joined.Merged t) = (first (conflicts_in answers) answers ≡ None) × (t ≡ put_all path_cmp [] (filter_map kept answers))
Tells answers (Joined.Conflict p) = option_map (λ (e : Answer). e.0) (first (conflicts_in answers) answers) ≡ Some p

abbrev pub MergesTo : Rule → Tree → Tree → Tree → Joined → Type 0
MergesTo rule o a b (Joined.Merged t) = (u : Tree) × (t ≡ u.entries) × Merges rule o a b (merged u)
MergesTo rule o a b (Joined.Conflict p) = Merges rule o a b (conflict_at p)

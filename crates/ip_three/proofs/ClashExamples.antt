-- Clashes by their cases, and why contents may come before a directory of one path.
use Rattle.std.proofs.Common.{◌≡◌, [], ◌∷◌, refl, Some, None, inr}
use Rattle.std.specs.Prelude.{codes}
use Rattle.ip_spec.specs.Merge.{Rule, means}
use Rattle.ip_spec.specs.declared.merge.Merged.TheVariants.{Keep}
use Rattle.ip_spec.specs.Path.{Path}
use Rattle.ip_spec.specs.Tree.{Tree, no_tree, tree_runs}
use Rattle.ip_spec.specs.Tree as Tree
use Rattle.ip_spec.specs.View.{View}
use Rattle.ip_three.specs.Clashes.{clash_of}
use Rattle.ip_three.specs.Merging.{put, taken}
use Rattle.ip_three.specs.Planning.{IsComing}

abbrev a : Path
a = codes "a" ∷ []

abbrev ab : Path
ab = codes "a" ∷ codes "b" ∷ []

abbrev abc : Path
abc = codes "a" ∷ codes "b" ∷ codes "c" ∷ []

abbrev b : Path
b = codes "b" ∷ []

abbrev no_records : Tree → View
no_records m = record { map = m; oldest = None; known = λ part. None }

abbrev with_ab : Tree
with_ab = Tree.put no_tree ab (1 ∷ [])

abbrev with_a : Tree
with_a = Tree.put no_tree a (1 ∷ [])

abbrev nothing : View
nothing = no_records no_tree

contents_on_the_way : clash_of with_a nothing ((abc, put (2 ∷ [])) ∷ []) ≡ Some a
unfolding tree_runs
contents_on_the_way = refl

contents_come_to_a_directory : clash_of with_ab nothing ((a, put (2 ∷ [])) ∷ []) ≡ Some a
unfolding tree_runs
contents_come_to_a_directory = refl

contents_come_under_contents_that_came : clash_of no_tree nothing ((a, put (2 ∷ [])) ∷ (abc, put (2 ∷ [])) ∷ (b, put (2 ∷ [])) ∷ []) ≡ Some a
unfolding tree_runs
contents_come_under_contents_that_came = refl

a_directory_comes_to_contents : clash_of with_a (no_records with_ab) ((a, taken) ∷ []) ≡ Some a
unfolding tree_runs
a_directory_comes_to_contents = refl

a_directory_comes_to_contents_that_came : clash_of no_tree (no_records with_ab) ((a, put (2 ∷ [])) ∷ (a, taken) ∷ []) ≡ Some a
unfolding tree_runs
a_directory_comes_to_contents_that_came = refl

contents_that_are_taken_come_to_a_directory : clash_of with_ab (no_records with_a) ((a, taken) ∷ []) ≡ Some a
unfolding tree_runs
contents_that_are_taken_come_to_a_directory = refl

no_clash_beside_or_in_place : clash_of with_ab (no_records with_ab) ((ab, put (2 ∷ [])) ∷ (b, put (2 ∷ [])) ∷ []) ≡ None
unfolding tree_runs
no_clash_beside_or_in_place = refl

no_clash_of_one_directory_for_another : clash_of with_ab (no_records with_ab) ((a, taken) ∷ []) ≡ None
unfolding tree_runs
no_clash_of_one_directory_for_another = refl

-- ---- of one path both may come: the left side changes the contents, and the right side has a directory in their place

abbrev always : Rule
always p = means (λ o x y. Keep (Some (9 ∷ [])))

abbrev base : View
base = no_records (Tree.put no_tree a (2 ∷ []))

contents_and_a_directory_come : IsComing always base (no_records with_a) (no_records with_ab) a (put (9 ∷ [])) × IsComing always base (no_records with_a) (no_records with_ab) a taken
unfolding tree_runs
contents_and_a_directory_come = ((refl, refl, refl), (refl, inr (refl, refl)))

-- Where the records of commits lie: new contents first, then directories, then the commit and its branch.
use Rattle.std.proofs.Common.{◌≡◌, [], ◌∷◌, refl, map}
use Rattle.std.specs.Prelude.{codes}
use Rattle.sha2.specs.Sha256.{sha256}
use Rattle.ip_spec.specs.Record.{Info, Ref, references}
use Rattle.ip_spec.specs.View.{View, no_view, put_view}
use Rattle.std.specs.Prelude.{Some, None}
use Rattle.ip_spec.specs.Batch.{CommitFields, sources, reusing_sources, batch, batch_end, batch_runs, after_batch, tree_batch}

abbrev info : Info
info = record { date = 0; author = codes "a"; message = codes "m" }

abbrev later_info : Info
later_info = record { date = 1; author = codes "a"; message = codes "m" }

abbrev first : View
first = put_view no_view (codes "a" ∷ codes "b" ∷ []) (2 ∷ [])

abbrev fields : CommitFields
fields = record { number = 0; parents = []; info = info; branch = codes "main" }

abbrev one : View
one = put_view no_view (codes "a" ∷ []) (1 ∷ [])

abbrev two : View
two = put_view one (codes "b" ∷ []) (1 ∷ [])

abbrev two_after : View
two_after = after_batch (λ at. None) two (reusing_sources two None) 0 0

-- the contents at 0, the inner leaf at 6, the root at 59, the commit at 112, and the end at 197
a_directory_in_a_directory : map (λ x. x.0) (batch first (sources first) fields 0) ≡ 0 ∷ 6 ∷ 59 ∷ 112 ∷ 179 ∷ []
unfolding batch_runs
a_directory_in_a_directory = refl

where_the_first_batch_ends : batch_end first (sources first) fields 0 ≡ 197
unfolding batch_runs
where_the_first_batch_ends = refl

abbrev second : View
second = put_view (after_batch (λ at. None) first (sources first) 0 0) (codes "c" ∷ []) (1 ∷ [])

abbrev second_fields : CommitFields
second_fields = record { number = 1; parents = record { number = 0; name = sha256 [] } ∷ []; info = later_info; branch = codes "main" }

-- the new contents at 197, and the root at 203
the_second_batch_has_the_root_alone : map (λ x. x.0) (batch second (sources second) second_fields 197) ≡ 197 ∷ 203 ∷ 300 ∷ 407 ∷ []
unfolding batch_runs
the_second_batch_has_the_root_alone = refl

where_the_second_batch_ends : batch_end second (sources second) second_fields 197 ≡ 425
unfolding batch_runs
where_the_second_batch_ends = refl

-- the root refers to the old inner leaf and the new contents
the_new_root_refers_to_the_old_directory : map (λ x. map (λ (r : Ref). r.at) (references x.1)) (tree_batch second (sources second) 197) ≡ [] ∷ (6 ∷ 197 ∷ []) ∷ []
unfolding batch_runs
the_new_root_refers_to_the_old_directory = refl

-- the same tree again: the commit and the branch alone
the_same_tree_again : batch_end (after_batch (λ at. None) one (sources one) 0 0) (sources (after_batch (λ at. None) one (sources one) 0 0)) second_fields 144 ≡ 269
unfolding batch_runs
the_same_tree_again = refl

the_first_commit_of_one_entry : batch_end one (sources one) fields 0 ≡ 144
unfolding batch_runs
the_first_commit_of_one_entry = refl

-- the empty tree: its leaf alone
the_commit_of_the_empty_tree : map (λ x. x.0) (batch no_view (sources no_view) fields 0) ≡ 0 ∷ 9 ∷ 76 ∷ []
unfolding batch_runs
the_commit_of_the_empty_tree = refl

-- with reuse: equal bytes at two paths are one record, and a set of the same bytes adds the root alone
equal_contents_at_two_paths : batch_end two (reusing_sources two None) fields 0 ≡ 188
unfolding batch_runs
equal_contents_at_two_paths = refl

the_same_bytes_set_again : batch_end (put_view two_after (codes "a" ∷ []) (1 ∷ [])) (reusing_sources (put_view two_after (codes "a" ∷ []) (1 ∷ [])) (Some two_after)) second_fields 188 ≡ 410
unfolding batch_runs
the_same_bytes_set_again = refl

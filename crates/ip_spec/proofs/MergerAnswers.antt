-- What the mergers answer, case by case.
use Rattle.std.proofs.Common.{◌≡◌, [], ◌∷◌, refl, Some, None, inr}
use Rattle.std.specs.Prelude.{codes}
use Rattle.ip_spec.specs.Merge.{Keep, Conflict, counter_merger, line_set_merger, merge_runs, seq_means, counter_means, line_set_means}

lines_that_one_side_took_away : line_set_merger (Some (97 ∷ 10 ∷ [])) (Some (97 ∷ 10 ∷ 98 ∷ 10 ∷ [])) (Some []) ≡ Keep (Some (98 ∷ 10 ∷ []))
unfolding merge_runs
lines_that_one_side_took_away = refl

an_absent_ancestor_counts_nought : counter_merger None (Some (codes "2")) (Some (codes "-5")) ≡ Keep (Some (codes "-3"))
unfolding merge_runs
an_absent_ancestor_counts_nought = refl

a_leading_zero_is_no_number : counter_merger None (Some (codes "07")) (Some (codes "-5")) ≡ Conflict
unfolding merge_runs
a_leading_zero_is_no_number = refl

a_sum_beyond_64_bits : counter_merger (Some (codes "0")) (Some (codes "9223372036854775807")) (Some (codes "1")) ≡ Conflict
unfolding merge_runs
a_sum_beyond_64_bits = refl

the_second_merger_where_the_first_conflicts : seq_means counter_means line_set_means None (Some (codes "x")) (Some (codes "y")) (Keep (Some (120 ∷ 10 ∷ 121 ∷ 10 ∷ [])))
unfolding merge_runs
the_second_merger_where_the_first_conflicts = inr (refl, refl)

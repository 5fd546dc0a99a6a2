-- The first lines of generated loads, and a summary.
use Rattle.std.proofs.Common.{◌≡◌, [], ◌∷◌, ◌++◌, ◌/◌, ◌^◌, refl}
use Rattle.std.specs.Prelude.{codes}
use Rattle.ip_spec.specs.Load.{drawn, load_line, summary, load_runs}
use Rattle.ip_spec.specs.Machine.{Reply}

the_first_word_drawn_from_seed_0 : drawn 0 / 2 ^ 32 ≡ 335903614
the_first_word_drawn_from_seed_0 = refl

the_first_line_from_seed_0 : (load_line 0 1).0 ≡ codes "branch side main"
unfolding load_runs
the_first_line_from_seed_0 = refl

the_first_line_from_seed_1 : (load_line 1 1).0 ≡ codes "commit side 1 load line"
unfolding load_runs
the_first_line_from_seed_1 = refl

the_summary_of_one_refusal : summary 1 (Reply.NoBranch (codes "main") ∷ []) ≡ codes "load 1 no-branch 1" ++ 10 ∷ []
unfolding load_runs
the_summary_of_one_refusal = refl

-- The program's rules by the two paths that have one.
--     under_first      whether a path is at the path of a step or under it, by its first step
--     decides      each path's rule answers in one way alone
use Rattle.std.proofs.Common.{◌≡◌, Bool, true, false, [], ◌∷◌, length, Some, refl, sym, ◌∙◌, ap}
use Rattle.std.specs.Prelude.{◌&&◌, nat_le, codes, slice_get}
use Rattle.ip_merge.proofs.RuleLaws.{computes}
use Rattle.ip_merge.specs.Rules.{HasOneAnswer, IsDecisive}
use Rattle.ip_spec.specs.Merge.{Meaning, better, same_means, same_merger, counter_means, counter_merger, line_set_means, line_set_merger}
use Rattle.ip_spec.specs.Path.{Path, Step, is_prefix, same_bytes}
use Rattle.ip_app.specs.Rules.{program_rule, one_step}

abbrev at_count : Path → Bool
at_count p = is_prefix (one_step (codes "count")) p

abbrev at_lines : Path → Bool
at_lines p = is_prefix (one_step (codes "lines")) p

-- what is chosen by whether each of them is a prefix of the path
abbrev best : Bool → Path × Meaning
best count = better (count && nat_le 0 1) (one_step (codes "count"), counter_means) ([], same_means)

abbrev meaning : Bool → Bool → Meaning
meaning count lines = (better (lines && nat_le (length (best count).0) 1) (one_step (codes "lines"), line_set_means) (best count)).1

pub decides : IsDecisive program_rule
decides p = by (at_count p) (at_lines p)
  where
    by : (count lines : Bool) → HasOneAnswer (meaning count lines)
    by true true = computes line_set_merger
    by false true = computes line_set_merger
    by true false = computes counter_merger
    by false false = computes same_merger

-- of a path that begins with this step
pub under_first : (step first : Step) (p : Path) → slice_get p 0 ≡ Some first → same_bytes step first ≡ is_prefix (one_step step) p
under_first step first [] is = absurd (cc (is))
under_first step first (s ∷ p) is = ap (same_bytes step) (let same : s ≡ first = cc (is) in sym same) ∙ whole (same_bytes step s)
  where
    whole : (b : Bool) → b ≡ (b && true)
    whole true = refl
    whole false = refl

-- What a map has at a step is no larger than the largest of its values.
use Rattle.std.proofs.Common.{◌≡◌, ℕ, ◌≤◌, max, List, [], ◌∷◌, map, ap, arith, Some, Bool, true, false, cond}
use Rattle.std.specs.FinMap.Entries.{find}
use Rattle.ip_spec.specs.Path.{Step, bytes_cmp, same_bytes}
use denote.Param.Weighed.{most}

pub found_most : {A : Type 0} (μ : A → ℕ) (es : List (Step × A)) (s : Step) (x : A) → find bytes_cmp s es ≡ Some x → μ x ≤ most μ (map (λ e. e.1) es)
found_most μ [] s x found = absurd (cc found)
found_most {A = A} μ (e ∷ es) s x found = by (same_bytes s e.0) found (found_most μ es s x)
  where
    by : (b : Bool) → cond b (Some e.1) (find bytes_cmp s es) ≡ Some x → (find bytes_cmp s es ≡ Some x → μ x ≤ most μ (map (λ (f : Step × A). f.1) es)) → μ x ≤ max (μ e.1) (most μ (map (λ (f : Step × A). f.1) es))
    by true is later = let same : e.1 ≡ x = cc is in let m = ap μ same in omega (arith, m)
    by false is later = let low = later is in omega (arith, low)

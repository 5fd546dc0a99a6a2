-- What stands at a step of a directory.
--     found_laid      what is laid for it
--     found_enough, found_broad, found_has      there are references enough for it, and it is no broader, and one of its steps
use Rattle.std.proofs.Common.{◌≡◌, ℕ, ◌+◌, ◌-◌, ◌≤◌, List, [], ◌∷◌, length, refl, ap, arith, Some, None, Bool, true, false, cond}
use Rattle.std.specs.Prelude.{is_some, unwrap_or, ◌||◌}
use Rattle.std.specs.FinMap.Entries.{find}
use Rattle.std.proofs.lemmas.Bool.{false≢true}
use Rattle.std.proofs.lemmas.List.{length-append, length-drop}
use Rattle.ip_spec.specs.Path.{Step, bytes_cmp, same_bytes}
use Rattle.ip_shape.specs.Shape.{has}
use Rattle.ip_tree.specs.Node.{steps_in}
use Rattle.ip_tree.specs.Shown.{shown}
use Rattle.ip_tree.specs.declared.node.Node as declared
use Rattle.ip_tree.specs.declared.node.Stored.{Stored}
use Rattle.ip_save.specs.Laid.{behind_refs, breadth, breadth_among, fresh, fresh_among, lay, lay_at, start_in}
use Rattle.ip_save.proofs.Rests.{rest_of}

lost : {X : Type 0} (n : declared.Node) → None ≡ Some n → X
lost n e = absurd (false≢true (ap is_some e))

same : (m n : declared.Node) → Some m ≡ Some n → m ≡ n
same m n e = ap (λ o. unwrap_or o m) e

pub found_laid : (es : List (Step × declared.Node)) (s : Step) (n : declared.Node) (refs : List Stored) (at : ℕ) → find bytes_cmp s es ≡ Some n → lay_at (rest_of es) refs s at ≡ lay (shown n) (start_in (rest_of es) refs s) at
found_laid [] s n refs at found = lost n found
found_laid (e ∷ es) s n refs at found = by (same_bytes s e.0) found (λ f. found_laid es s n (behind_refs (shown e.1) refs) at f)
  where
    by : (b : Bool) → cond b (Some e.1) (find bytes_cmp s es) ≡ Some n
        → (find bytes_cmp s es ≡ Some n → lay_at (rest_of es) (behind_refs (shown e.1) refs) s at ≡ lay (shown n) (start_in (rest_of es) (behind_refs (shown e.1) refs) s) at)
        → cond b (lay (shown e.1) refs at) (lay_at (rest_of es) (behind_refs (shown e.1) refs) s at) ≡ lay (shown n) (cond b refs (start_in (rest_of es) (behind_refs (shown e.1) refs) s)) at
    by true is later = ap (λ (m : declared.Node). lay (shown m) refs at) (same e.1 n is)
    by false is later = later is

pub found_enough : (es : List (Step × declared.Node)) (s : Step) (n : declared.Node) (refs : List Stored) → find bytes_cmp s es ≡ Some n → length (fresh_among (rest_of es)) ≤ length refs → length (fresh (shown n)) ≤ length (start_in (rest_of es) refs s)
found_enough [] s n refs found enough = lost n found
found_enough (e ∷ es) s n refs found enough = by (same_bytes s e.0) found (λ f. found_enough es s n (behind_refs (shown e.1) refs) f (omega (arith, all, left, enough)))
  where
    all : length (fresh_among (rest_of (e ∷ es))) ≡ length (fresh (shown e.1)) + length (fresh_among (rest_of es))
    all = length-append (fresh (shown e.1)) (fresh_among (rest_of es))

    left : length (behind_refs (shown e.1) refs) ≡ length refs - length (fresh (shown e.1))
    left = length-drop (length (fresh (shown e.1))) refs

    by : (b : Bool) → cond b (Some e.1) (find bytes_cmp s es) ≡ Some n → (find bytes_cmp s es ≡ Some n → length (fresh (shown n)) ≤ length (start_in (rest_of es) (behind_refs (shown e.1) refs) s))
        → length (fresh (shown n)) ≤ length (cond b refs (start_in (rest_of es) (behind_refs (shown e.1) refs) s))
    by true is later = let one = ap (λ (m : declared.Node). length (fresh (shown m))) (same e.1 n is) in omega (arith, one, all, enough)
    by false is later = later is

pub found_broad : (es : List (Step × declared.Node)) (s : Step) (n : declared.Node) → find bytes_cmp s es ≡ Some n → breadth (shown n) ≤ breadth_among (rest_of es)
found_broad [] s n found = lost n found
found_broad (e ∷ es) s n found = by (same_bytes s e.0) found (λ f. found_broad es s n f)
  where
    by : (b : Bool) → cond b (Some e.1) (find bytes_cmp s es) ≡ Some n → (find bytes_cmp s es ≡ Some n → breadth (shown n) ≤ breadth_among (rest_of es)) → breadth (shown n) ≤ breadth_among (rest_of (e ∷ es))
    by true is later = let one = ap (λ (m : declared.Node). breadth (shown m)) (same e.1 n is) in omega (arith, one)
    by false is later = let low = later is in omega (arith, low)

pub found_has : (es : List (Step × declared.Node)) (s : Step) (n : declared.Node) → find bytes_cmp s es ≡ Some n → has s (steps_in (rest_of es)) ≡ true
found_has [] s n found = lost n found
found_has (e ∷ es) s n found = by (same_bytes s e.0) found (λ f. found_has es s n f)
  where
    by : (b : Bool) → cond b (Some e.1) (find bytes_cmp s es) ≡ Some n → (find bytes_cmp s es ≡ Some n → has s (steps_in (rest_of es)) ≡ true) → (b || has s (steps_in (rest_of es))) ≡ true
    by true is later = refl
    by false is later = later is

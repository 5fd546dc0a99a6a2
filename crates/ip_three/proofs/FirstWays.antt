-- The first directory on the way to a path that passes a test.
--     first_passes      it passes, and lies above the path
--     is_first      one that passes lies at it or under it
--     first_take, no_take      the same by how many steps it has
use Rattle.std.proofs.Common.{◌≡◌, ℕ, zero, suc, ◌<◌, List, [], ◌∷◌, ◌++◌, length, map, take, refl, sym, ap, ◌∙◌, Option, Some, None, Bool, true, false, cond, arith}
use Rattle.std.proofs.lemmas.Bool.{false≢true}
use Rattle.std.specs.Prelude.{is_some, option_map}
use Rattle.std.specs.List.{find}
use Rattle.ip_spec.specs.Path.{Step, Path}
use Rattle.ip_spec.specs.Tree.{ways}

pub find_map : (test : Path → Bool) (s : Step) (ps : List Path) → find test (map (λ q. s ∷ q) ps) ≡ option_map (λ q. s ∷ q) (find (λ q. test (s ∷ q)) ps)
find_map test s [] = refl
find_map test s (p ∷ ps) = by (test (s ∷ p)) (find_map test s ps)
  where
    by : (b : Bool) → find test (map (λ q. s ∷ q) ps) ≡ option_map (λ q. s ∷ q) (find (λ q. test (s ∷ q)) ps)
        → cond b (Some (s ∷ p)) (find test (map (λ q. s ∷ q) ps)) ≡ option_map (λ q. s ∷ q) (cond b (Some p) (find (λ q. test (s ∷ q)) ps))
    by true e = refl
    by false e = e

pub record FirstWay (test : Path → Bool) (p d : Path) : Type 0 where
  pub passes : test d ≡ true
  pub step : Step
  pub rest : Path
  pub is : p ≡ d ++ step ∷ rest

pub first_passes : (test : Path → Bool) (p d : Path) → find test (ways p) ≡ Some d → FirstWay test p d
first_passes test [] d e = absurd (false≢true (ap is_some e))
first_passes test (s ∷ p) d e = by (test []) refl e (λ x is. first_passes (λ q. test (s ∷ q)) p x is)
  where
    deeper : (o : Option Path) → find (λ q. test (s ∷ q)) (ways p) ≡ o → option_map (λ q. s ∷ q) o ≡ Some d → ((x : Path) → find (λ q. test (s ∷ q)) (ways p) ≡ Some x → FirstWay (λ q. test (s ∷ q)) p x) → FirstWay test (s ∷ p) d
    deeper None is f below = absurd (false≢true (ap is_some f))
    deeper (Some x) is f below =
        let w = below x is in
        let same : s ∷ x ≡ d = cc in
        record { passes = ap test (sym same) ∙ w.passes; step = w.step; rest = w.rest; is = ap (λ (q : Path). s ∷ q) w.is ∙ ap (λ (q : Path). q ++ w.step ∷ w.rest) same }

    by : (b : Bool) → test [] ≡ b → cond b (Some []) (find test (map (λ q. s ∷ q) (ways p))) ≡ Some d → ((x : Path) → find (λ q. test (s ∷ q)) (ways p) ≡ Some x → FirstWay (λ q. test (s ∷ q)) p x) → FirstWay test (s ∷ p) d
    by true is f below = let same : [] ≡ d = cc in record { passes = ap test (sym same) ∙ is; step = s; rest = p; is = ap (λ (q : Path). q ++ s ∷ p) same }
    by false is f below = deeper _ refl (sym (find_map test s (ways p)) ∙ f) below

pub is_first : (test : Path → Bool) (p : Path) (s : Step) (rest : Path) → test p ≡ true → (d : Path) × (y : Path) × (find test (ways (p ++ s ∷ rest)) ≡ Some d) × (p ≡ d ++ y)
is_first test [] s rest passes = ([], [], ap (λ b. cond b (Some []) (find test (map (λ q. s ∷ q) (ways rest)))) passes, refl)
is_first test (k ∷ p) s rest passes = by (test []) refl (is_first (λ q. test (k ∷ q)) p s rest passes)
  where
    by : (b : Bool) → test [] ≡ b → (d : Path) × (y : Path) × (find (λ q. test (k ∷ q)) (ways (p ++ s ∷ rest)) ≡ Some d) × (p ≡ d ++ y)
        → (d : Path) × (y : Path) × (find test (ways (k ∷ p ++ s ∷ rest)) ≡ Some d) × (k ∷ p ≡ d ++ y)
    by true is inner = ([], k ∷ p, ap (λ b. cond b (Some []) (find test (map (λ q. k ∷ q) (ways (p ++ s ∷ rest))))) is, refl)
    by false is inner = (
      k ∷ inner.0,
      inner.1,
      ap (λ b. cond b (Some []) (find test (map (λ q. k ∷ q) (ways (p ++ s ∷ rest))))) is ∙ find_map test k (ways (p ++ s ∷ rest)) ∙ ap (option_map (λ q. k ∷ q)) inner.2,
      ap (λ (q : Path). k ∷ q) inner.3,
    )

-- ---- by how many steps it has

abbrev ShorterFail : (Path → Bool) → Path → ℕ → Type 0
ShorterFail test p n = (i : ℕ) → i < n → test (take i p) ≡ false

-- where none of fewer steps passes it is the front that does
pub first_take : (test : Path → Bool) (p : Path) (n : ℕ) → n < length p → ShorterFail test p n → test (take n p) ≡ true → find test (ways p) ≡ Some (take n p)
first_take test [] n within fail passes = absurd (omega arith)
first_take test (s ∷ p) zero within fail passes = ap (λ b. cond b (Some []) (find test (map (λ q. s ∷ q) (ways p)))) passes
first_take test (s ∷ p) (suc n) within fail passes =
    ap (λ b. cond b (Some []) (find test (map (λ q. s ∷ q) (ways p)))) (fail 0 (omega arith))
    ∙ find_map test s (ways p) ∙ ap (option_map (λ q. s ∷ q)) (first_take (λ q. test (s ∷ q)) p n (omega arith) (λ i less. fail (suc i) (omega arith)) passes)

-- where none of all passes there is none
pub no_take : (test : Path → Bool) (p : Path) → ShorterFail test p (length p) → find test (ways p) ≡ None
no_take test [] fail = refl
no_take test (s ∷ p) fail =
    ap (λ b. cond b (Some []) (find test (map (λ q. s ∷ q) (ways p)))) (fail 0 (omega arith))
    ∙ find_map test s (ways p) ∙ ap (option_map (λ q. s ∷ q)) (no_take (λ q. test (s ∷ q)) p (λ i less. fail (suc i) (omega arith)))

-- Where the record of a retained commit stands.
--     within, there_is, commit_is, name_is      a commit that is retained.      commit_here      its record stands at its place
use Rattle.std.proofs.Common.{◌≡◌, ℕ, zero, suc, ◌+◌, ◌-◌, ◌<◌, ◌≤◌, true, List, [], ◌∷◌, length, refl, ◌∙◌, ap, subst, arith}
use Rattle.std.specs.Prelude.{Option, Some, None, IsTrue, ◌&&◌, nat_le, nat_lt, if◌then◌else◌, slice_get, option_map, unwrap_or}
use Rattle.std.proofs.lemmas.Bool.Decides.{nat_tests}
use Rattle.ip_ground.specs.Told.{Told}
use Rattle.ip_spec.specs.Repository.{Repository, Commit, next, is_retained, commit_at, name_at}
use Rattle.ip_held.specs.declared.held.Held.{Held}
use Rattle.ip_held.specs.Placed.{IsCommitAt}
use Rattle.ip_held.specs.Held.{Holds, image_records, place_of_commit}
use Rattle.ip_held.proofs.Listed.{nth_commit, commits_there}

inside : (low n high : ℕ) → (nat_le low n && nat_lt n high) ≡ true → (low ≤ n) × (n < high)
inside low n high e = (first low n high e, second low n high e)
  where
    first : (low n high : ℕ) → (nat_le low n && nat_lt n high) ≡ true → low ≤ n
    first low n high e = grind (arith, nat_tests)

    second : (low n high : ℕ) → (nat_le low n && nat_lt n high) ≡ true → n < high
    second low n high e = grind (arith, nat_tests)

pub some_there : {A : Type 0} (xs : List A) (k : ℕ) → k < length xs → (x : A) × (slice_get xs k ≡ Some x)
some_there [] k below = absurd (omega (arith, below))
some_there (x ∷ xs) zero below = (x, refl)
some_there (x ∷ xs) (suc k) below = some_there xs k (omega (arith, below))

above : (low n : ℕ) → low ≤ n → nat_le low n ≡ true
above low n l = grind (arith, nat_tests)

module _ (r : Repository) (number : ℕ) (retained : IsTrue (is_retained r number)) where
  pub within : (r.floor ≤ number) × (number < next r)
  within = inside r.floor number (next r) retained

  pub there_is : (m : Commit) × (slice_get r.commits (number - r.floor) ≡ Some m)
  there_is = some_there r.commits (number - r.floor) (let (low, high) = within in omega (arith, low, high))

  pub commit_is : commit_at r number ≡ Some there_is.0
  commit_is = ap (λ b. if b then slice_get r.commits (number - r.floor) else None) (above r.floor number within.0) ∙ there_is.1

  pub name_is : name_at r number ≡ there_is.0.name
  name_is = ap (λ (o : Option Commit). unwrap_or (option_map (λ (c : Commit). c.name) o) []) commit_is

  module _ (store : Held) (told : Told) (holds : Holds store told r) where
    pub commit_here : (place : ℕ) → place_of_commit store number ≡ Some place → IsCommitAt (image_records holds) number place there_is.0
    commit_here place is =
        let low = within.0 in
        let back : r.floor + (number - r.floor) ≡ number = omega (arith, low) in
        subst (λ (n : ℕ). IsCommitAt (image_records holds) n place there_is.0) back
        (nth_commit (image_records holds) r.floor store.places r.commits (commits_there store told r holds) (number - r.floor) place there_is.0
        (ap (λ (f : ℕ). slice_get store.places (number - f)) holds.tables.floor ∙ is) there_is.1)

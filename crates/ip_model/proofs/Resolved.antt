-- A number that a name was resolved to is the number of a commit.
use Rattle.std.proofs.Common.{◌≡◌, ℕ, Bool, List, [], ◌∷◌, ◌+◌, ◌<◌, ◌≤◌, subst, refl, length, arith}
use Rattle.std.specs.Prelude.{Option, Some, None, Ok, IfSome, option_map, position}
use Rattle.std.proofs.lemmas.List.Quantifiers.{position-Some}
use Rattle.ip_spec.specs.declared.reply.Reply.{Reply}
use Rattle.ip_spec.specs.declared.command.Target.{Target}
use Rattle.ip_spec.specs.Path.{same_bytes}
use Rattle.ip_spec.specs.Record.{IsBranchName}
use Rattle.ip_spec.specs.Repository.{Repository, Commit, IsRepository, next, head}
use Rattle.ip_spec.specs.Step.{resolve, present}

place_low : {A : Type 0} (p : A → Bool) (xs : List A) (k : ℕ) → position p xs ≡ Some k → k < length xs
place_low p [] k at = absurd (cc at)
place_low p (x ∷ xs) k at = (position-Some p (x ∷ xs) k x at).0

module _ (r : Repository) (is : IsRepository r) where
  pub resolved_low : (t : Target) (n : ℕ) → resolve r t ≡ Ok n → n < next r
  resolved_low (Target.Branch name) n found = by (head r name) (is.branches.each name) found
    where
      by : (o : Option ℕ) → IfSome o (λ m. (IsBranchName name) × (r.floor ≤ m) × (m < next r)) → present o (Reply.NoBranch name) ≡ Ok n → n < next r
      by None low e = absurd (cc e)
      by (Some m) low e = let same : m ≡ n = cc e in subst (λ k. k < next r) same low.2
  resolved_low (Target.Commit hash) n found = by (position (λ (c : Commit). same_bytes c.name hash) r.commits) (place_low (λ (c : Commit). same_bytes c.name hash) r.commits) found
    where
      by : (o : Option ℕ) → ((k : ℕ) → o ≡ Some k → k < length r.commits) → present (option_map (λ k. r.floor + k) o) (Reply.NoCommit hash) ≡ Ok n → n < next r
      by None low e = absurd (cc e)
      by (Some k) low e =
          let same : r.floor + k ≡ n = cc e in
          let less = low k refl in
          omega (arith, same, less)

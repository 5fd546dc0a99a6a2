-- A loop that lists branches, by what it has still to list.
--     Listing r rest heads      the branches so far, and those to come, are all of the repository
use Rattle.std.proofs.Common.{◌≡◌, ℕ, ◌<◌, ◌≤◌, List, [], ◌∷◌, ◌++◌, map, Option, Some, sym, ◌∙◌, ap, subst, arith, IsTrue}
use Rattle.std.specs.Prelude.{◌&&◌, All, IfSome, nat_le, nat_lt}
use Rattle.std.specs.List.{AllByRecursion}
use Rattle.std.proofs.lemmas.Bool.Decides.{nat_tests}
use Rattle.std.proofs.lemmas.List.Elements.{recursion_from_All}
use Rattle.ip_spec.specs.declared.reply.Head.{Head}
use Rattle.ip_spec.specs.Map.{get}
use Rattle.ip_spec.specs.Repository.{Repository, next, is_retained}
use Rattle.ip_spec.specs.Step.{head_of}
use Rattle.ip_held.specs.declared.held.Held.{Held}
use Rattle.ip_held.specs.Held.{IsOf}
use Rattle.ip_tables.proofs.Keyed.{Pairs, told}

pub record Listing (r : Repository) (rest : Pairs ℕ) (heads : List Head) : Type 0 where
  pub whole : heads ++ map (head_of r) (told rest) ≡ map (head_of r) r.branches.entries
  pub each : AllByRecursion (λ e. IsTrue (is_retained r e.1)) rest

within : (low high n : ℕ) → low ≤ n → n < high → IsTrue (nat_le low n && nat_lt n high)
within low high n a b = grind (arith, nat_tests)

module _ (r : Repository) (store : Held) (of : IsOf store r) where
  -- a branch is at a retained commit
  retained : (o : Option ℕ) (n : ℕ) → o ≡ Some n → IfSome o (λ m. (store.slot.floor ≤ m) × (m < store.slot.next)) → IsTrue (is_retained r n)
  retained o n is all =
      let low = of.floor in
      let high = of.next in
      let b : (store.slot.floor ≤ n) × (n < store.slot.next) = subst (λ (p : Option ℕ). IfSome p (λ m. (store.slot.floor ≤ m) × (m < store.slot.next))) is all in
      within r.floor (next r) n (omega (arith, low, b.0)) (omega (arith, high, b.1))

  all_retained : (es : Pairs ℕ) → AllByRecursion (λ e. get store.branches e.0.items ≡ Some e.1) es → AllByRecursion (λ e. IsTrue (is_retained r e.1)) es
  all_retained [] found = tt
  all_retained (e ∷ es) (f, fs) = (retained (get r.branches e.0.items) e.1 (ap (λ m. get m e.0.items) of.branches ∙ f) (of.retained.each e.0.items), all_retained es fs)

  pub listing_first : (rest : Pairs ℕ) (heads : List Head) → told rest ≡ store.branches.entries → All (λ e. get store.branches e.0.items ≡ Some e.1) rest → heads ≡ [] → Listing r rest heads
  listing_first rest heads is found none = record {
    whole = ap (λ (hs : List Head). hs ++ map (head_of r) (told rest)) none ∙ ap (map (head_of r)) (is ∙ sym (ap (λ m. m.entries) of.branches));
    each = all_retained rest (recursion_from_All (λ e. get store.branches e.0.items ≡ Some e.1) rest found);
  }

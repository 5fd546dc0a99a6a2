-- That there is room for a branch.
use Rattle.std.proofs.Common.{◌≡◌, ℕ, ◌+◌, ◌≤◌, Bool, true, false, length, Option, Some, None, refl, sym, ◌∙◌, ap, subst, arith}
use Rattle.std.specs.Prelude.{Ok, Err, IsErrOf, is_some, not, ◌&&◌, nat_le, if◌then◌else◌}
use Rattle.std.proofs.lemmas.Bool.Decides.{nat_tests}
use Rattle.std.specs.Cmp.Lexicographic.{nat_list_cmp_total}
use Rattle.std.specs.FinMap.Entries as E
use Rattle.ip_base.specs.declared.limit.Limit.TheVariants as Limit
use Rattle.ip_spec.specs.declared.reply.Reply.{Reply}
use Rattle.ip_spec.specs.Map.{insert, len, entries-insert}
use Rattle.ip_spec.specs.Path.{Bytes, bytes_cmp}
use Rattle.ip_spec.specs.Repository.{Repository, head}
use Rattle.ip_spec.specs.Step.{room_for_branch, refuse_if}
use Rattle.ip_held.specs.declared.fault.StoreFault.{StoreFault}

module _ (r : Repository) (branch : Bytes) where
  roomy : (o : Option ℕ) (n : ℕ) → refuse_if (not (is_some o) && nat_le 4096 n) (Reply.Limit Limit.Branches) ≡ Ok tt → n ≤ 4096 → (if is_some o then n else n + 1) ≤ 4096
  roomy (Some x) n is few = few
  roomy None n is few = below n is
    where
      below : (n : ℕ) → refuse_if (nat_le 4096 n) (Reply.Limit Limit.Branches) ≡ Ok tt → n + 1 ≤ 4096
      below n is = by_test (nat_le 4096 n) refl is
        where
          by_test : (b : Bool) → nat_le 4096 n ≡ b → refuse_if b (Reply.Limit Limit.Branches) ≡ Ok tt → n + 1 ≤ 4096
          by_test true e is = absurd (cc (is))
          by_test false e is = grind (arith, nat_tests)

  pub room_after : (number : ℕ) → room_for_branch r branch ≡ Ok tt → len r.branches ≤ 4096 → len (insert r.branches branch number) ≤ 4096
  room_after number is few = subst (λ (n : ℕ). n ≤ 4096) (sym (ap length (entries-insert nat_list_cmp_total r.branches branch number) ∙ E.length-put bytes_cmp nat_list_cmp_total branch number r.branches.entries r.branches.sorted)) (roomy (head r branch) (len r.branches) is few)

-- the fault of a plan is that of the commit
pub err_of : {A B : Type 0} (fault other : StoreFault) → IsErrOf {T = A} (Err fault) other → IsErrOf {T = B} (Err fault) other
err_of fault other e = let same : fault ≡ other = cc (e) in ap Err same

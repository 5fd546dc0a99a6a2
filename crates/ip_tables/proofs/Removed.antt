-- Branches that are taken away again.
--     removed_again      a new one is put and taken away
use Rattle.std.proofs.Common.{◌≡◌, ℕ, false, cond, Option, Some, None, refl, sym, ◌∙◌, ap}
use Rattle.std.specs.Prelude.{is_some, not}
use Rattle.std.specs.Ordering.{is_eq, eq_by_cmp, ordering_reverse}
use Rattle.std.specs.Cmp.Lexicographic.{nat_list_cmp_total}
use Rattle.std.specs.declared.cmp.Ordering.{Ordering}
use Rattle.std.specs.declared.cmp.Ordering.TheVariants.{Less, Equal, Greater}
use Rattle.ip_spec.specs.Map.{Map, get, insert, remove, get-insert, same_map}
use Rattle.ip_spec.specs.Path.{Bytes, bytes_cmp}
use Rattle.ip_spec.proofs.Subtrees.{step_antisymmetric}
use Rattle.ip_image.proofs.Renaming.{get_without}

pub removed_again : (m : Map bytes_cmp ℕ) (k : Bytes) (v : ℕ) → is_some (get m k) ≡ false → remove (insert m k v) k ≡ m
removed_again m k v absent = same_map nat_list_cmp_total step_antisymmetric (remove (insert m k v) k) m at
  where
    none_of : (o : Option ℕ) → is_some o ≡ false → o ≡ None
    none_of None e = refl
    none_of (Some x) e = absurd (cc (e))

    at : (q : Bytes) → get (remove (insert m k v) k) q ≡ get m q
    at q =
        get_without (insert m k v) k q
        ∙ ap (λ o. cond (not (eq_by_cmp bytes_cmp k q)) o None) (get-insert nat_list_cmp_total m k v q) ∙ by (bytes_cmp k q) refl
      where
        turned : bytes_cmp q k ≡ ordering_reverse (bytes_cmp k q)
        turned = nat_list_cmp_total.antisymm q k

        by : (o : Ordering) → bytes_cmp k q ≡ o → cond (not (is_eq o)) (cond (eq_by_cmp bytes_cmp q k) (Some v) (get m q)) None ≡ get m q
        by Less is = ap (λ p. cond (is_eq p) (Some v) (get m q)) (turned ∙ ap ordering_reverse is)
        by Equal is = sym (ap (get m) (sym (step_antisymmetric k q is)) ∙ none_of (get m k) absent)
        by Greater is = ap (λ p. cond (is_eq p) (Some v) (get m q)) (turned ∙ ap ordering_reverse is)

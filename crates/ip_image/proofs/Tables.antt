-- A table of names says what a map has.
--     made_again      a map is made of its entries
use Rattle.std.proofs.Common.{◌≡◌, ℕ, List, [], ◌∷◌, refl, sym, ap, subst, ◌∙◌, Option, Some, None, Bool, true, false, cond, T}
use Rattle.std.specs.Prelude.{◌&&◌}
use Rattle.std.specs.Cmp.Lexicographic.{nat_list_cmp_total}
use Rattle.std.specs.FinMap.Entries.{find, is_sorted, below_all}
use Rattle.std.specs.Ordering.{eq_by_cmp, is_eq, is_lt}
use Rattle.std.specs.declared.cmp.Ordering.{Ordering}
use Rattle.std.specs.declared.cmp.Ordering.TheVariants.{Less, Equal, Greater}
use Rattle.ip_spec.specs.Map.{Map, empty, from_entries, same_map}
use Rattle.ip_spec.specs.Path.{Bytes, bytes_cmp}
use Rattle.ip_spec.proofs.Subtrees.{step_antisymmetric, last_at, get-insert_all}
use Rattle.ip_image.proofs.InChunk.{eq_of}

abbrev Entries : Type 0
Entries = List (Bytes × ℕ)

both_first : (a b : Bool) → T (a && b) → T a
both_first true b p = tt
both_first false b p = p

both_second : (a b : Bool) → T (a && b) → T b
both_second true b p = p
both_second false b p = absurd p

less_of : (o : Ordering) → T (is_lt o) → o ≡ Less
less_of Less p = refl
less_of Equal p = absurd p
less_of Greater p = absurd p

missing : (es : Entries) (q : Bytes) (d : Option ℕ) → find bytes_cmp q es ≡ None → last_at (eq_by_cmp bytes_cmp) q es d ≡ d
missing [] q d none = refl
missing (e ∷ es) q d none = by (eq_by_cmp bytes_cmp q e.0) none (missing es q d)
  where
    by : (b : Bool) → cond b (Some e.1) (find bytes_cmp q es) ≡ None → (find bytes_cmp q es ≡ None → last_at (eq_by_cmp bytes_cmp) q es d ≡ d) → last_at (eq_by_cmp bytes_cmp) q es (cond b (Some e.1) d) ≡ d
    by true none later = absurd cc
    by false none later = later none

none_below : (q : Bytes) (es : Entries) → T (below_all bytes_cmp q es) → find bytes_cmp q es ≡ None
none_below q [] below = refl
none_below q (e ∷ es) below = ap (λ o. cond (is_eq o) (Some e.1) (find bytes_cmp q es)) (less_of _ (both_first _ _ below)) ∙ none_below q es (both_second _ _ below)

-- the keys ascend, so none stands twice
last_found : (es : Entries) (q : Bytes) → T (is_sorted bytes_cmp es) → last_at (eq_by_cmp bytes_cmp) q es None ≡ find bytes_cmp q es
last_found [] q sorted = refl
last_found (e ∷ es) q sorted = by (eq_by_cmp bytes_cmp q e.0) refl (last_found es q (both_second _ _ sorted))
  where
    by : (b : Bool) → eq_by_cmp bytes_cmp q e.0 ≡ b → last_at (eq_by_cmp bytes_cmp) q es None ≡ find bytes_cmp q es → last_at (eq_by_cmp bytes_cmp) q es (cond b (Some e.1) None) ≡ cond b (Some e.1) (find bytes_cmp q es)
    by true b later = missing es q (Some e.1) (none_below q es (subst (λ (k : Bytes). T (below_all bytes_cmp k es)) (sym (step_antisymmetric q e.0 (eq_of _ b))) (both_first _ _ sorted)))
    by false b later = later

pub made_again : (m : Map bytes_cmp ℕ) → from_entries m.entries ≡ m
unfolding empty
made_again m = same_map nat_list_cmp_total step_antisymmetric (from_entries m.entries) m (λ q. get-insert_all nat_list_cmp_total empty m.entries q ∙ last_found m.entries q m.sorted)

-- Directories that have no more entries than others.
--     fewer_entries      where nothing stands at a step in the one at which nothing stands in the other
use Rattle.std.proofs.Common.{◌≡◌, ℕ, ◌+◌, ◌≤◌, [], ◌∷◌, refl, sym, ap, ◌∙◌, length, arith, Option, Some, None, Bool, true, false, cond, T}
use Rattle.std.proofs.lemmas.Bool.{false≢true}
use Rattle.std.specs.Prelude.{not, ◌&&◌, is_some}
use Rattle.std.specs.Ordering.{is_eq, is_lt}
use Rattle.std.specs.Cmp.Lexicographic.{nat_list_cmp_total}
use Rattle.std.specs.declared.cmp.Ordering.{Ordering}
use Rattle.std.specs.declared.cmp.Ordering.TheVariants.{Less, Equal, Greater}
use Rattle.std.specs.FinMap.Entries.{find, is_sorted, below_all, where_key, is_sorted-where_key, find-where_key, length_without}
use Rattle.ip_spec.specs.Map.{len, get}
use Rattle.ip_spec.specs.Path.{Step, bytes_cmp, same_bytes}
use Rattle.ip_spec.specs.Shape.{Entries}
use Rattle.ip_spec.specs.Tree.{Tree, subtree, entries_of, is_empty}
use Rattle.ip_spec.proofs.Subtrees.{get-entries_of, same_bytes_turned, same_step, step_antisymmetric, step_itself}

abbrev without : Step → Entries → Entries
without s es = where_key bytes_cmp (λ x. not (same_bytes s x)) es

find_without : (s q : Step) (es : Entries) → find bytes_cmp q (without s es) ≡ cond (not (same_bytes s q)) (find bytes_cmp q es) None
find_without s q es = find-where_key bytes_cmp (λ x. not (same_bytes s x)) q (λ x e. ap (λ k. not (same_bytes s k)) (sym (step_antisymmetric q x e))) es

both_first : (a b : Bool) → T (a && b) → T a
both_first true b p = tt
both_first false b p = p

both_second : (a b : Bool) → T (a && b) → T b
both_second true b p = p
both_second false b p = absurd p

less_of : (o : Ordering) → T (is_lt o) → o ≡ Less
less_of Less p = refl
less_of Equal p = absurd p
less_of Greater p = absurd p

none_below : (q : Step) (es : Entries) → T (below_all bytes_cmp q es) → find bytes_cmp q es ≡ None
none_below q [] below = refl
none_below q (e ∷ es) below = ap (λ o. cond (is_eq o) (Some e.1) (find bytes_cmp q es)) (less_of _ (both_first _ _ below)) ∙ none_below q es (both_second _ _ below)

some_count : (n m : ℕ) (b : Bool) → b ≡ true → cond b 1 0 + n ≡ m → n + 1 ≡ m
some_count n m true is e = omega arith
some_count n m false is e = absurd (false≢true is)

fewer : (es fs : Entries) → T (is_sorted bytes_cmp es) → T (is_sorted bytes_cmp fs) → ((s : Step) → find bytes_cmp s fs ≡ None → find bytes_cmp s es ≡ None) → length es ≤ length fs
fewer [] fs sorted others none = omega arith
fewer (e ∷ es) fs sorted others none =
    let inner = fewer es (without e.0 fs) (both_second _ _ sorted) (is_sorted-where_key bytes_cmp (λ x. not (same_bytes e.0 x)) fs others) (λ s lost. rest s (same_bytes e.0 s) refl lost) in
    let count = some_count _ _ _ there (length_without bytes_cmp nat_list_cmp_total e.0 fs others) in
    omega arith
  where
    there : is_some (find bytes_cmp e.0 fs) ≡ true
    there = by (find bytes_cmp e.0 fs) refl
      where
        by : (o : Option Tree) → find bytes_cmp e.0 fs ≡ o → is_some o ≡ true
        by (Some x) is = refl
        by None is = absurd (false≢true (ap is_some (sym (none e.0 is) ∙ ap (λ o. cond (is_eq o) (Some e.1) (find bytes_cmp e.0 es)) (step_itself e.0))))

    rest : (s : Step) (b : Bool) → same_bytes e.0 s ≡ b → find bytes_cmp s (without e.0 fs) ≡ None → find bytes_cmp s es ≡ None
    rest s true same lost = ap (λ (k : Step). find bytes_cmp k es) (sym (same_step e.0 s same)) ∙ none_below e.0 es (both_first _ _ sorted)
    rest s false apart lost =
        let gone : find bytes_cmp s fs ≡ None = sym (find_without e.0 s fs ∙ ap (λ b. cond (not b) (find bytes_cmp s fs) None) apart) ∙ lost in
        sym (ap (λ b. cond b (Some e.1) (find bytes_cmp s es)) (same_bytes_turned s e.0 ∙ apart)) ∙ none s gone

pub fewer_entries : (t u : Tree) → ((s : Step) → is_empty (subtree u (s ∷ [])) ≡ true → is_empty (subtree t (s ∷ [])) ≡ true) → len (entries_of t) ≤ len (entries_of u)
fewer_entries t u none = fewer (entries_of t).entries (entries_of u).entries (entries_of t).sorted (entries_of u).sorted (λ s lost. by s (is_empty (subtree u (s ∷ []))) refl (sym (get-entries_of u s) ∙ lost))
  where
    by : (s : Step) (b : Bool) → is_empty (subtree u (s ∷ [])) ≡ b → cond (is_empty (subtree u (s ∷ []))) None (Some (subtree u (s ∷ []))) ≡ None → get (entries_of t) s ≡ None
    by s true e lost = get-entries_of t s ∙ ap (λ b. cond b None (Some (subtree t (s ∷ [])))) (none s e)
    by s false e lost = absurd (false≢true (ap is_some (sym (sym (ap (λ b. cond b None (Some (subtree u (s ∷ [])))) e) ∙ lost))))

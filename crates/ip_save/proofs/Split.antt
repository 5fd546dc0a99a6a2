-- The contents of a directory are those of its entries, one entry after the other.
--     below_entries xs      what the entries have, each path behind its step.      split      a directory has just these
use Rattle.std.proofs.Common.{◌≡◌, List, [], ◌∷◌, ◌++◌, refl, sym, ap, subst, ◌∙◌, Option, Some, None, Bool, true, false, cond, map, T}
use Rattle.std.specs.Prelude.{◌&&◌, is_some, IsFalse}
use Rattle.std.specs.Option.{option_and_then}
use Rattle.std.specs.Ordering.{is_eq, is_lt, ordering_then}
use Rattle.std.specs.declared.cmp.Ordering.{Ordering}
use Rattle.std.specs.declared.cmp.Ordering.TheVariants.{Less, Equal, Greater}
use Rattle.std.specs.FinMap.Entries.{find, is_sorted, below_all}
use Rattle.std.proofs.lemmas.Bool.{false≢true}
use Rattle.ip_spec.specs.Map.{get}
use Rattle.ip_spec.specs.Path.{Bytes, Step, Path, bytes_cmp, path_cmp, same_bytes, same_path}
use Rattle.ip_spec.specs.Tree.{Tree, entries_of, is_contents}
use Rattle.ip_spec.specs.Shape.{Entries}
use Rattle.ip_spec.proofs.Subtrees.{same_tree, same_step, step_itself, same_cons, same_apart}
use Rattle.ip_spec.proofs.SameDirectory.{get-below}

-- with a step in front
abbrev pub under : Step → Path × Bytes → Path × Bytes
under s e = (s ∷ e.0, e.1)

abbrev pub below_entries : Entries → List (Path × Bytes)
below_entries [] = []
below_entries (x ∷ xs) = map (under x.0) x.1.entries ++ below_entries xs

pub both_first : (a b : Bool) → T (a && b) → T a
both_first true b p = tt
both_first false b p = p

pub both_second : (a b : Bool) → T (a && b) → T b
both_second true b p = p
both_second false b p = absurd p

both : (a b : Bool) → T a → T b → T (a && b)
both true b p q = q
both false b p q = absurd p

pub less_of : (o : Ordering) → T (is_lt o) → o ≡ Less
less_of Less p = refl
less_of Equal p = absurd p
less_of Greater p = absurd p

-- ---- order

below_append : (k : Path) (xs ys : List (Path × Bytes)) → T (below_all path_cmp k xs) → T (below_all path_cmp k ys) → T (below_all path_cmp k (xs ++ ys))
below_append k [] ys p q = q
below_append k (x ∷ xs) ys p q = both (is_lt (path_cmp k x.0)) (below_all path_cmp k (xs ++ ys)) (both_first _ _ p) (below_append k xs ys (both_second _ _ p) q)

-- each of the first list comes before all of the second
abbrev AllBelow : List (Path × Bytes) → List (Path × Bytes) → Type 0
AllBelow [] ys = Unit {0}
AllBelow (x ∷ xs) ys = T (below_all path_cmp x.0 ys) × AllBelow xs ys

sorted_append : (xs ys : List (Path × Bytes)) → T (is_sorted path_cmp xs) → T (is_sorted path_cmp ys) → AllBelow xs ys → T (is_sorted path_cmp (xs ++ ys))
sorted_append [] ys p q each = q
sorted_append (x ∷ xs) ys p q each =
    both (below_all path_cmp x.0 (xs ++ ys)) (is_sorted path_cmp (xs ++ ys)) (below_append x.0 xs ys (both_first _ _ p) each.0) (sorted_append xs ys (both_second _ _ p) q each.1)

under_cmp : (s : Step) (p q : Path) → path_cmp (s ∷ p) (s ∷ q) ≡ path_cmp p q
under_cmp s p q = ap (λ o. ordering_then o (path_cmp p q)) (step_itself s)

below_under : (s : Step) (k : Path) (xs : List (Path × Bytes)) → below_all path_cmp (s ∷ k) (map (under s) xs) ≡ below_all path_cmp k xs
below_under s k [] = refl
below_under s k (x ∷ xs) = ap (λ o. is_lt o && below_all path_cmp (s ∷ k) (map (under s) xs)) (under_cmp s k x.0) ∙ ap (λ b. is_lt (path_cmp k x.0) && b) (below_under s k xs)

sorted_under : (s : Step) (xs : List (Path × Bytes)) → is_sorted path_cmp (map (under s) xs) ≡ is_sorted path_cmp xs
sorted_under s [] = refl
sorted_under s (x ∷ xs) = ap (λ b. b && is_sorted path_cmp (map (under s) xs)) (below_under s x.0 xs) ∙ ap (λ b. below_all path_cmp x.0 xs && b) (sorted_under s xs)

-- a path whose step comes before all of these
below_one : (s r : Step) (p : Path) → bytes_cmp s r ≡ Less → (xs : List (Path × Bytes)) → T (below_all path_cmp (s ∷ p) (map (under r) xs))
below_one s r p less [] = tt
below_one s r p less (x ∷ xs) =
    both (is_lt (path_cmp (s ∷ p) (r ∷ x.0))) (below_all path_cmp (s ∷ p) (map (under r) xs)) (subst (λ o. T (is_lt (ordering_then o (path_cmp p x.0)))) (sym less) tt) (below_one s r p less xs)

below_later : (s : Step) (p : Path) (xs : Entries) → T (below_all bytes_cmp s xs) → T (below_all path_cmp (s ∷ p) (below_entries xs))
below_later s p [] below = tt
below_later s p (x ∷ xs) below =
    below_append (s ∷ p) (map (under x.0) x.1.entries) (below_entries xs) (below_one s x.0 p (less_of _ (both_first _ _ below)) x.1.entries) (below_later s p xs (both_second _ _ below))

all_below : (s : Step) (es : List (Path × Bytes)) (xs : Entries) → T (below_all bytes_cmp s xs) → AllBelow (map (under s) es) (below_entries xs)
all_below s [] xs below = tt
all_below s (e ∷ es) xs below = (below_later s e.0 xs below, all_below s es xs below)

sorted_entries : (xs : Entries) → T (is_sorted bytes_cmp xs) → T (is_sorted path_cmp (below_entries xs))
sorted_entries [] sorted = tt
sorted_entries (x ∷ xs) sorted =
    sorted_append (map (under x.0) x.1.entries) (below_entries xs) (subst T (sym (sorted_under x.0 x.1.entries)) x.1.sorted) (sorted_entries xs (both_second _ _ sorted)) (all_below x.0 x.1.entries xs (both_first _ _ sorted))

-- ---- what is found

or_else : Option Bytes → Option Bytes → Option Bytes
or_else (Some b) o = Some b
or_else None o = o

find_append : (q : Path) (xs ys : List (Path × Bytes)) → find path_cmp q (xs ++ ys) ≡ or_else (find path_cmp q xs) (find path_cmp q ys)
unfolding or_else
find_append q [] ys = refl
find_append q (x ∷ xs) ys = by (same_path q x.0) (find_append q xs ys)
  where
    by : (b : Bool) → find path_cmp q (xs ++ ys) ≡ or_else (find path_cmp q xs) (find path_cmp q ys)
        → cond b (Some x.1) (find path_cmp q (xs ++ ys)) ≡ or_else (cond b (Some x.1) (find path_cmp q xs)) (find path_cmp q ys)
    by true e = refl
    by false e = e

find_under : (s : Step) (p : Path) (xs : List (Path × Bytes)) → find path_cmp (s ∷ p) (map (under s) xs) ≡ find path_cmp p xs
find_under s p [] = refl
find_under s p (x ∷ xs) = ap (λ b. cond b (Some x.1) (find path_cmp (s ∷ p) (map (under s) xs))) (same_cons s p x.0) ∙ ap (cond (same_path p x.0) (Some x.1)) (find_under s p xs)

find_apart : (s r : Step) (p : Path) (xs : List (Path × Bytes)) → same_bytes s r ≡ false → find path_cmp (s ∷ p) (map (under r) xs) ≡ None
find_apart s r p [] apart = refl
find_apart s r p (x ∷ xs) apart = ap (λ b. cond b (Some x.1) (find path_cmp (s ∷ p) (map (under r) xs))) (same_apart s r p x.0 apart) ∙ find_apart s r p xs apart

find_root : (r : Step) (xs : List (Path × Bytes)) → find path_cmp [] (map (under r) xs) ≡ None
find_root r [] = refl
find_root r (x ∷ xs) = find_root r xs

root_lost : (xs : Entries) → find path_cmp [] (below_entries xs) ≡ None
unfolding or_else
root_lost [] = refl
root_lost (x ∷ xs) = find_append [] (map (under x.0) x.1.entries) (below_entries xs) ∙ ap (λ o. or_else o (find path_cmp [] (below_entries xs))) (find_root x.0 x.1.entries) ∙ root_lost xs

below_apart : (s r : Step) → bytes_cmp s r ≡ Less → same_bytes s r ≡ false
below_apart s r less = ap is_eq less

step_lost : (s : Step) (p : Path) (xs : Entries) → T (below_all bytes_cmp s xs) → find path_cmp (s ∷ p) (below_entries xs) ≡ None
unfolding or_else
step_lost s p [] below = refl
step_lost s p (x ∷ xs) below =
    find_append (s ∷ p) (map (under x.0) x.1.entries) (below_entries xs)
    ∙ ap (λ o. or_else o (find path_cmp (s ∷ p) (below_entries xs))) (find_apart s x.0 p x.1.entries (below_apart s x.0 (less_of _ (both_first _ _ below))))
    ∙ step_lost s p xs (both_second _ _ below)

or_none : (o : Option Bytes) → or_else o None ≡ o
unfolding or_else
or_none None = refl
or_none (Some b) = refl

step_found : (s : Step) (p : Path) (xs : Entries) → T (is_sorted bytes_cmp xs) → find path_cmp (s ∷ p) (below_entries xs) ≡ option_and_then (λ sub. get sub p) (find bytes_cmp s xs)
unfolding or_else
step_found s p [] sorted = refl
step_found s p (x ∷ xs) sorted = find_append (s ∷ p) (map (under x.0) x.1.entries) (below_entries xs) ∙ by (same_bytes s x.0) refl (step_found s p xs (both_second _ _ sorted))
  where
    by : (b : Bool) → same_bytes s x.0 ≡ b → find path_cmp (s ∷ p) (below_entries xs) ≡ option_and_then (λ (sub : Tree). get sub p) (find bytes_cmp s xs)
        → or_else (find path_cmp (s ∷ p) (map (under x.0) x.1.entries)) (find path_cmp (s ∷ p) (below_entries xs)) ≡ option_and_then (λ (sub : Tree). get sub p) (cond b (Some x.1) (find bytes_cmp s xs))
    by true same rest =
        let is : s ≡ x.0 = same_step s x.0 same in
        ap (λ o. or_else (find path_cmp (s ∷ p) (map (under x.0) x.1.entries)) o) (step_lost s p xs (subst (λ (k : Step). T (below_all bytes_cmp k xs)) (sym is) (both_first _ _ sorted)))
        ∙ or_none _ ∙ ap (λ (k : Step). find path_cmp (k ∷ p) (map (under x.0) x.1.entries)) is ∙ find_under x.0 p x.1.entries
    by false apart rest = ap (λ o. or_else o (find path_cmp (s ∷ p) (below_entries xs))) (find_apart s x.0 p x.1.entries apart) ∙ rest

none_of : (o : Option Bytes) → is_some o ≡ false → o ≡ None
none_of None h = refl
none_of (Some x) h = absurd (false≢true (sym h))

module _ (t : Tree) (no_bytes : IsFalse (is_contents t)) where
  joined : Tree
  joined = record { entries = below_entries (entries_of t).entries; sorted = sorted_entries (entries_of t).entries (entries_of t).sorted }

  alike : (q : Path) → get t q ≡ get joined q
  unfolding joined
  alike [] = none_of (get t []) no_bytes ∙ sym (root_lost (entries_of t).entries)
  alike (s ∷ p) = get-below t s p ∙ sym (step_found s p (entries_of t).entries (entries_of t).sorted)

  pub split : t.entries ≡ below_entries (entries_of t).entries
  unfolding joined
  split = ap (λ (x : Tree). x.entries) (same_tree t joined alike)

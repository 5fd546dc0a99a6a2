-- References that are entered one by one.
--     gains_none, gains_one      none, and one that lies below the bound
--     gains_more, some_more, some_front      one more of a list, and the front of one
use Rattle.std.proofs.Common.{◌≡◌, ◌⊎◌, inl, inr, ℕ, zero, suc, ◌+◌, ◌<◌, List, [], ◌∷◌, ◌++◌, refl, sym, ap, subst, ◌∙◌, Bool, true, false, cond, arith, length, get_or, take, map}
use Rattle.std.specs.Prelude.{◌↔◌, Contains}
use Rattle.std.specs.Ordering.{nat_cmp}
use Rattle.std.specs.BTreeMap.{is_at}
use Rattle.std.specs.BTreeSet.{BTreeSet, UpdatesBy, IsOrdered, contains}
use Rattle.std.proofs.lemmas.Bool.Decides.{nat_tests}
use Rattle.std.proofs.lemmas.Cmp.{nat_cmp_total}
use Rattle.std.proofs.lemmas.Map.Keys.{IsStrictlyIncreasing-from_sorted}
use Rattle.std.proofs.lemmas.Map.Lookups.{exact_unsigned}
use Rattle.std.proofs.lemmas.Map.Views.{btree_set_contains_iff}
use Rattle.std.proofs.lemmas.List.{take_more, map-append}
use Rattle.std.proofs.lemmas.List.Elements.{Contains-append_left, Contains-push, Contains-push_cases}
use Rattle.ip_image.proofs.StayingRecords.{In, in_from, in_contains}
use Rattle.ip_spec.specs.declared.record.Record.TheVariants as Record
use Rattle.ip_spec.specs.declared.record.LeafEntry.{LeafEntry}
use Rattle.ip_spec.specs.declared.record.InodeChild.{InodeChild}
use Rattle.ip_keep.specs.Entering.{refs_of, Gains, GainsSome}

is_at_itself : (x : ℕ) → is_at (nat_cmp x) x ≡ true
is_at_itself x = grind (arith, nat_tests)

-- what a set has after an insertion
inserted : (s t : BTreeSet ℕ) (x at : ℕ) → UpdatesBy nat_cmp (nat_cmp x) s t true → Contains t.keys at ↔ (Contains s.keys at ⊎ (x ≡ at))
inserted s t x at u = (there, back)
  where
    of_s : (contains nat_cmp s at ≡ true) ↔ Contains s.keys at
    of_s = btree_set_contains_iff nat_cmp_total exact_unsigned s at

    of_t : (contains nat_cmp t at ≡ true) ↔ Contains t.keys at
    of_t = btree_set_contains_iff nat_cmp_total exact_unsigned t at

    equal : (b : Bool) → is_at (nat_cmp x) at ≡ b → b ≡ true → x ≡ at
    equal b e f = at_equal (e ∙ f)
      where
        at_equal : is_at (nat_cmp x) at ≡ true → x ≡ at
        at_equal h = grind (arith, nat_tests)

    there : Contains t.keys at → Contains s.keys at ⊎ (x ≡ at)
    there c = by (is_at (nat_cmp x) at) refl (sym (u.0 at) ∙ of_t.1 c)
      where
        by : (b : Bool) → is_at (nat_cmp x) at ≡ b → cond b true (contains nat_cmp s at) ≡ true → Contains s.keys at ⊎ (x ≡ at)
        by true e h = inr (equal true e refl)
        by false e h = inl (of_s.0 h)

    back : Contains s.keys at ⊎ (x ≡ at) → Contains t.keys at
    back (inl c) = of_t.0 (u.0 at ∙ by (is_at (nat_cmp x) at) (of_s.1 c))
      where
        by : (b : Bool) → contains nat_cmp s at ≡ true → cond b true (contains nat_cmp s at) ≡ true
        by true h = refl
        by false h = h
    back (inr e) = of_t.0 (u.0 at ∙ ap (λ b. cond b true (contains nat_cmp s at)) (subst (λ n. is_at (nat_cmp x) n ≡ true) e (is_at_itself x)))

one_of : (x at : ℕ) → Contains (x ∷ []) at → x ≡ at
one_of x at c = by (in_from (x ∷ []) at c)
  where
    by : (x ≡ at) ⊎ ⊥ → x ≡ at
    by (inl e) = e
    by (inr none) = absurd none

pub some_none : (old refs : List ℕ) (below : ℕ) → GainsSome old old refs below
some_none old refs below = record { kept = λ at c. c; only = λ at c. inl c; rises = λ up. up }

pub gains_none : (old : List ℕ) (below : ℕ) → Gains old old [] below
gains_none old below = record { some = some_none old [] below; all = λ at c less. absurd (in_from [] at c) }

pub gains_one : (s t : BTreeSet ℕ) (x below : ℕ) → x < below → UpdatesBy nat_cmp (nat_cmp x) s t true → IsOrdered nat_cmp t → Gains s.keys t.keys (x ∷ []) below
gains_one s t x below less u ordered = record {
  some = record {
    kept = λ at c. (inserted s t x at u).1 (inl c);
    only = λ at c. by at ((inserted s t x at u).0 c);
    rises = λ up. IsStrictlyIncreasing-from_sorted t.keys ordered;
  };
  all = λ at c l. (inserted s t x at u).1 (inr (one_of x at c));
}
  where
    by : (at : ℕ) → Contains s.keys at ⊎ (x ≡ at) → Contains s.keys at ⊎ (Contains (x ∷ []) at × (at < below))
    by at (inl c) = inl c
    by at (inr e) = inr (in_contains (x ∷ []) at (inl e), subst (λ (n : ℕ). n < below) e less)

pub some_more : (old mid new refs : List ℕ) (x below : ℕ) → GainsSome old mid refs below → GainsSome mid new (x ∷ []) below → GainsSome old new (refs ++ x ∷ []) below
some_more old mid new refs x below one two = record {
  kept = λ at c. two.kept at (one.kept at c);
  only = λ at c. by at (two.only at c);
  rises = λ up. two.rises (one.rises up);
}
  where
    pick : (at : ℕ) → Contains old at ⊎ (Contains refs at × (at < below)) → Contains old at ⊎ (Contains (refs ++ x ∷ []) at × (at < below))
    pick at (inl c) = inl c
    pick at (inr (c, l)) = inr (Contains-append_left refs (x ∷ []) at c, l)

    by : (at : ℕ) → Contains mid at ⊎ (Contains (x ∷ []) at × (at < below)) → Contains old at ⊎ (Contains (refs ++ x ∷ []) at × (at < below))
    by at (inl c) = pick at (one.only at c)
    by at (inr (c, l)) = inr (subst (Contains (refs ++ x ∷ [])) (one_of x at c) (Contains-push refs x), l)

pub gains_more : (old mid new refs : List ℕ) (x below : ℕ) → Gains old mid refs below → Gains mid new (x ∷ []) below → Gains old new (refs ++ x ∷ []) below
gains_more old mid new refs x below one two = record { some = some_more old mid new refs x below one.some two.some; all = λ at c l. by at l (Contains-push_cases refs x at c) }
  where
    by : (at : ℕ) → at < below → Contains refs at ⊎ (x ≡ at) → Contains new at
    by at l (inl c) = two.some.kept at (one.all at c l)
    by at l (inr e) = two.all at (in_contains (x ∷ []) at (inl e)) l

in_taken : {A : Type 0} (f : A → ℕ) (xs : List A) (i at : ℕ) → In (map f (take i xs)) at → In (map f xs) at
in_taken f xs zero at c = absurd c
in_taken f [] (suc i) at c = c
in_taken f (x ∷ xs) (suc i) at (inl e) = inl e
in_taken f (x ∷ xs) (suc i) at (inr c) = inr (in_taken f xs i at c)

pub some_front : {A : Type 0} (f : A → ℕ) (xs : List A) (i : ℕ) (old new : List ℕ) (below : ℕ) → GainsSome old new (map f (take i xs)) below → GainsSome old new (map f xs) below
some_front f xs i old new below some = record { kept = some.kept; only = λ at c. by at (some.only at c); rises = some.rises }
  where
    by : (at : ℕ) → Contains old at ⊎ (Contains (map f (take i xs)) at × (at < below)) → Contains old at ⊎ (Contains (map f xs) at × (at < below))
    by at (inl c) = inl c
    by at (inr (c, l)) = inr (in_contains (map f xs) at (in_taken f xs i at (in_from (map f (take i xs)) at c)), l)

pub taken_more : {A : Type 0} (f : A → ℕ) (xs : List A) (i : ℕ) (x : A) → i < length xs → x ≡ get_or xs i x → map f (take i xs) ++ f x ∷ [] ≡ map f (take (i + 1) xs)
taken_more f xs i x less is =
    ap (λ y. map f (take i xs) ++ f y ∷ []) is ∙ sym (map-append f (take i xs) (get_or xs i x ∷ [])) ∙ sym (ap (map f) (take_more xs i x less))

pub all_front : {A : Type 0} (f : A → ℕ) (xs : List A) (i : ℕ) (x : A) (old mid new : List ℕ) (below : ℕ) → i < length xs → x ≡ get_or xs i x → Gains old mid (map f (take i xs)) below → Gains mid new (f x ∷ []) below
    → Gains old new (map f (take (i + 1) xs)) below
all_front f xs i x old mid new below less is one two = subst (λ (refs : List ℕ). Gains old new refs below) (taken_more f xs i x less is) (gains_more old mid new (map f (take i xs)) (f x) below one two)

pub cut_front : {A : Type 0} (f : A → ℕ) (xs : List A) (i : ℕ) (x : A) (old mid new : List ℕ) (below : ℕ) → i < length xs → x ≡ get_or xs i x → Gains old mid (map f (take i xs)) below → GainsSome mid new (f x ∷ []) below
    → GainsSome old new (map f xs) below
cut_front f xs i x old mid new below less is one two =
    some_front f xs (i + 1) old new below (subst (λ (refs : List ℕ). GainsSome old new refs below) (taken_more f xs i x less is) (some_more old mid new (map f (take i xs)) (f x) below one.some two))

-- ---- those of a leaf, and of an inode

pub leaf_refs : (entries : List LeafEntry) → map (λ (e : LeafEntry). e.at) entries ≡ refs_of (Record.Leaf entries)
leaf_refs [] = refl
leaf_refs (e ∷ entries) = ap (λ (l : List ℕ). e.at ∷ l) (leaf_refs entries)

pub inode_refs : (depth : ℕ) (children : List InodeChild) → map (λ (c : InodeChild). c.at) children ≡ refs_of (Record.Inode depth children)
inode_refs depth [] = refl
inode_refs depth (c ∷ children) = ap (λ (l : List ℕ). c.at ∷ l) (inode_refs depth children)

-- Lists taken from the front: what is added to a set, and which records follow; and the tests of a set.
use Rattle.std.proofs.Common.{◌≡◌, ◌⊎◌, inl, inr, ℕ, suc, ◌+◌, ◌^◌, ◌<◌, ◌≤◌, List, [], ◌∷◌, ◌++◌, refl, sym, ap, subst, ◌∙◌, Bool, true, false, cond, arith, length, get_or, take, drop, append_assoc}
use Rattle.std.specs.Prelude.{◌↔◌, Contains, fold}
use Rattle.std.specs.Ordering.{nat_cmp}
use Rattle.std.specs.BTreeMap.{is_at}
use Rattle.std.specs.BTreeSet.{BTreeSet, UpdatesBy, contains}
use Rattle.std.proofs.lemmas.Bool.Decides.{nat_tests}
use Rattle.std.proofs.lemmas.Cmp.{nat_cmp_total}
use Rattle.std.proofs.lemmas.Map.Lookups.{exact_unsigned}
use Rattle.std.proofs.lemmas.Map.Views.{btree_set_contains_iff}
use Rattle.std.proofs.lemmas.List.Elements.{Contains-append_left, Contains-push, Contains-push_cases}
use Rattle.std.proofs.Math.Seq.{take-suc, drop-cons}
use Rattle.ip_spec.specs.declared.event.CoreRecord.{CoreRecord}
use Rattle.ip_spec.specs.Core.{AreInOrder, CorePhase, Follows, FollowOn, end_of}
use Rattle.ip_gen.proofs.Order.{end_push}

-- ---- references into a set

-- a set has got those of a list that lie below h
abbrev pub Added : List ℕ → List ℕ → List ℕ → ℕ → Type 0
Added old new refs h = (at : ℕ) → Contains new at ↔ (Contains old at ⊎ (Contains refs at × (at < h)))

-- one more of the list, which lies at h or above
pub added_skip : (old new refs : List ℕ) (h x : ℕ) → h ≤ x → Added old new refs h → Added old new (refs ++ x ∷ []) h
added_skip old new refs h x high a at = (λ c. there ((a at).0 c), λ p. (a at).1 (back p))
  where
    there : Contains old at ⊎ (Contains refs at × (at < h)) → Contains old at ⊎ (Contains (refs ++ x ∷ []) at × (at < h))
    there (inl c) = inl c
    there (inr p) = inr (Contains-append_left refs (x ∷ []) at p.0, p.1)

    back : Contains old at ⊎ (Contains (refs ++ x ∷ []) at × (at < h)) → Contains old at ⊎ (Contains refs at × (at < h))
    back (inl c) = inl c
    back (inr p) = by (Contains-push_cases refs x at p.0)
      where
        by : Contains refs at ⊎ (x ≡ at) → Contains old at ⊎ (Contains refs at × (at < h))
        by (inl c) = inr (c, p.1)
        by (inr e) = let l = p.1 in absurd (omega (arith, e, l, high))

is_at_itself : (x : ℕ) → is_at (nat_cmp x) x ≡ true
is_at_itself x = grind (arith, nat_tests)

-- what a set has after an insertion
inserted : (s t : BTreeSet ℕ) (x at : ℕ) → UpdatesBy nat_cmp (nat_cmp x) s t true → Contains t.keys at ↔ (Contains s.keys at ⊎ (x ≡ at))
inserted s t x at u = (there, back)
  where
    of_s : (contains nat_cmp s at ≡ true) ↔ Contains s.keys at
    of_s = btree_set_contains_iff nat_cmp_total exact_unsigned s at

    of_t : (contains nat_cmp t at ≡ true) ↔ Contains t.keys at
    of_t = btree_set_contains_iff nat_cmp_total exact_unsigned t at

    equal : (b : Bool) → is_at (nat_cmp x) at ≡ b → b ≡ true → x ≡ at
    equal b e f = at_equal (e ∙ f)
      where
        at_equal : is_at (nat_cmp x) at ≡ true → x ≡ at
        at_equal h = grind (arith, nat_tests)

    there : Contains t.keys at → Contains s.keys at ⊎ (x ≡ at)
    there c = by (is_at (nat_cmp x) at) refl (sym (u.0 at) ∙ of_t.1 c)
      where
        by : (b : Bool) → is_at (nat_cmp x) at ≡ b → cond b true (contains nat_cmp s at) ≡ true → Contains s.keys at ⊎ (x ≡ at)
        by true e h = inr (equal true e refl)
        by false e h = inl (of_s.0 h)

    back : Contains s.keys at ⊎ (x ≡ at) → Contains t.keys at
    back (inl c) = of_t.0 (u.0 at ∙ by (is_at (nat_cmp x) at) (of_s.1 c))
      where
        by : (b : Bool) → contains nat_cmp s at ≡ true → cond b true (contains nat_cmp s at) ≡ true
        by true h = refl
        by false h = h
    back (inr e) = of_t.0 (u.0 at ∙ ap (λ b. cond b true (contains nat_cmp s at)) (subst (λ n. is_at (nat_cmp x) n ≡ true) e (is_at_itself x)))

-- one more of the list, which lies below h and is inserted
pub added_one : (old refs : List ℕ) (s t : BTreeSet ℕ) (h x : ℕ) → x < h → UpdatesBy nat_cmp (nat_cmp x) s t true → Added old s.keys refs h → Added old t.keys (refs ++ x ∷ []) h
added_one old refs s t h x low u a at = (λ c. there ((inserted s t x at u).0 c), λ p. (inserted s t x at u).1 (back p))
  where
    there : Contains s.keys at ⊎ (x ≡ at) → Contains old at ⊎ (Contains (refs ++ x ∷ []) at × (at < h))
    there (inl c) = by ((a at).0 c)
      where
        by : Contains old at ⊎ (Contains refs at × (at < h)) → Contains old at ⊎ (Contains (refs ++ x ∷ []) at × (at < h))
        by (inl o) = inl o
        by (inr p) = inr (Contains-append_left refs (x ∷ []) at p.0, p.1)
    there (inr e) = inr (subst (λ n. Contains (refs ++ x ∷ []) n × (n < h)) e (Contains-push refs x, low))

    back : Contains old at ⊎ (Contains (refs ++ x ∷ []) at × (at < h)) → Contains s.keys at ⊎ (x ≡ at)
    back (inl o) = inl ((a at).1 (inl o))
    back (inr p) = by (Contains-push_cases refs x at p.0)
      where
        by : Contains refs at ⊎ (x ≡ at) → Contains s.keys at ⊎ (x ≡ at)
        by (inl c) = inl ((a at).1 (inr (c, p.1)))
        by (inr e) = inr e

-- ---- records that follow

one_more : (n from : ℕ) (rs : List CoreRecord) (r : CoreRecord) → AreInOrder from rs → n ≤ from → from ≤ r.at → fold (λ n (r : CoreRecord). r.at + r.length) n rs ≤ r.at → 0 < r.length → AreInOrder from (rs ++ r ∷ [])
one_more n from [] r o l a e some = (a, some, tt)
one_more n from (q ∷ rs) r o l a e some = (o.0, o.1, one_more (q.at + q.length) (q.at + q.length) rs r o.2 (omega arith) (ends_low (q.at + q.length) rs r o.2 e) e some)
  where
    ends_low : (n : ℕ) (rs : List CoreRecord) (r : CoreRecord) → AreInOrder n rs → fold (λ n (r : CoreRecord). r.at + r.length) n rs ≤ r.at → n ≤ r.at
    ends_low n [] r o e = e
    ends_low n (q ∷ rs) r o e = let m = ends_low (q.at + q.length) rs r o.2 e in omega (arith, m, o.0)

-- what stands when the first i records of a list were appended
pub record Appends (old records more : List CoreRecord) (phase : CorePhase) (i : ℕ) : Type 0 where
  pub is : records ≡ old ++ take i more
  pub order : AreInOrder 0 records
  pub room : end_of records ≤ 2 ^ 62
  pub on : FollowOn old phase more → FollowOn records phase (drop i more)
  pub back : FollowOn records phase (drop i more) → FollowOn old phase more

-- one more of them
pub appends_more : (old records more : List CoreRecord) (phase : CorePhase) (i : ℕ) (r copy : CoreRecord) → i < length more → r ≡ get_or more i r → copy ≡ r → Follows records phase r
    → Appends old records more phase i → Appends old (records ++ copy ∷ []) more phase (suc i)
appends_more old records more phase i r copy l is same f a = subst (λ (x : CoreRecord). Appends old (records ++ x ∷ []) more phase (suc i)) (sym same) (record {
  is = taken;
  order = one_more 0 0 records r a.order (omega arith) (omega arith) (let e = f.at in omega (arith, e)) f.some;
  room = let e = end_push records r in let m = f.room in omega (arith, e, m);
  on = λ g. (subst (FollowOn records phase) dropped (a.on g)).1;
  back = λ g. a.back (subst (FollowOn records phase) (sym dropped) (f, g));
})
  where
    dropped : drop i more ≡ r ∷ drop (suc i) more
    dropped = drop-cons more i r l ∙ ap (λ (x : CoreRecord). x ∷ drop (suc i) more) (sym is)

    taken : records ++ r ∷ [] ≡ old ++ take (suc i) more
    taken = ap (λ rs. rs ++ r ∷ []) a.is ∙ (append_assoc old (take i more) (r ∷ []) ∙ ap (λ rs. old ++ rs) (ap (λ (x : CoreRecord). take i more ++ x ∷ []) is ∙ sym (take-suc more i r l)))

-- ---- what a phase keeps

-- the test of a collection that goes on
pub keeps_is : (commit at : ℕ) (kept : BTreeSet ℕ) (b : Bool) → at < commit → b ≡ contains nat_cmp kept at → (b ≡ true) ↔ ((commit ≤ at) ⊎ Contains kept.keys at)
keeps_is commit at kept b low is = (λ e. inr (of_kept.0 (sym is ∙ e)), back)
  where
    of_kept : (contains nat_cmp kept at ≡ true) ↔ Contains kept.keys at
    of_kept = btree_set_contains_iff nat_cmp_total exact_unsigned kept at

    back : (commit ≤ at) ⊎ Contains kept.keys at → b ≡ true
    back (inl high) = absurd (omega (arith, high, low))
    back (inr c) = is ∙ of_kept.1 c

-- the test of a set, both ways
pub has_is : (kept : BTreeSet ℕ) (at : ℕ) (b : Bool) → b ≡ contains nat_cmp kept at → b ≡ true → Contains kept.keys at
has_is kept at b is e = (btree_set_contains_iff nat_cmp_total exact_unsigned kept at).0 (sym is ∙ e)

pub lacks_is : (kept : BTreeSet ℕ) (at : ℕ) (b : Bool) → b ≡ contains nat_cmp kept at → b ≡ false → ¬ (Contains kept.keys at)
lacks_is kept at b is e c = let t = (btree_set_contains_iff nat_cmp_total exact_unsigned kept at).1 c in let f : false ≡ true = sym e ∙ (is ∙ t) in cc

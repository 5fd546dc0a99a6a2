-- There is one valid pair at most, what was found differs nowhere exactly where it is the pair, and a mapping's places follow from its runs.
use Rattle.std.proofs.Common.{◌≡◌, ◌⊎◌, inl, inr, ℕ, zero, suc, ◌+◌, ◌<◌, List, [], ◌∷◌, refl, sym, ap, ◌∙◌, subst, Option, Some, None, Bool, true, false, cond, length, arith}
use Rattle.std.specs.Prelude.{map, Contains, slice_index_or}
use Rattle.std.specs.List.{AllPairs}
use Rattle.std.proofs.lemmas.List.Kept.{AllPairs-from_increasing}
use Rattle.ip_spec.specs.declared.record.Record.{Record}
use Rattle.std.specs.Ordering.{is_eq}
use Rattle.ip_spec.specs.TreeAt.{Records}
use Rattle.ip_spec.specs.Path.{Bytes, same_bytes}
use Rattle.ip_spec.specs.declared.reply.Produced.{Produced}
use Rattle.ip_spec.specs.declared.reply.Difference.{Difference}
use Rattle.ip_spec.proofs.Subtrees.{same_step, step_itself}
use Rattle.ip_image.specs.Virtual.{Row, run_of, placed, RowsFitFrom}
use Rattle.ip_image.specs.Collection.{IsKept, Pair, Found, IsValid, runs_of, kept_bytes, seen_at, common_length, difference, first_of, first_difference}
use Rattle.ip_image.specs.Virtual.{mapping_bytes}

abbrev pub Stored : Type 0
Stored = ℕ × Record

abbrev pub Has : Records → Stored → Type 0
Has [] x = ⊥
Has (y ∷ ys) x = (y ≡ x) ⊎ Has ys x

pub has_from : (xs : Records) (x : Stored) (k : ℕ) → k < length xs → slice_index_or xs k x ≡ x → Has xs x
has_from [] x k l e = absurd (omega (arith, l))
has_from (y ∷ ys) x zero l e = inl e
has_from (y ∷ ys) x (suc k) l e = inr (has_from ys x k (omega (arith, l)) e)

pub contains_from : (xs : Records) (x : Stored) → Has xs x → Contains xs x
contains_from [] x h = absurd h
contains_from (y ∷ ys) x (inl e) = (0, omega arith, e)
contains_from (y ∷ ys) x (inr h) = let (k, l, e) = contains_from ys x h in (suc k, omega (arith, l), e)

abbrev pub offsets : Records → List ℕ
offsets xs = map (λ x. x.0) xs

offset_at : (xs : Records) (k : ℕ) (x : Stored) → slice_index_or (offsets xs) k x.0 ≡ (slice_index_or xs k x).0
offset_at [] k x = refl
offset_at (y ∷ ys) zero x = refl
offset_at (y ∷ ys) (suc k) x = offset_at ys k x

offsets_length : (xs : Records) → length (offsets xs) ≡ length xs
offsets_length [] = refl
offsets_length (x ∷ xs) = ap suc (offsets_length xs)

-- each is below all later ones
abbrev pub Rises : Records → Type 0
Rises [] = Unit {0}
Rises (x ∷ xs) = ((y : Stored) → Has xs y → x.0 < y.0) × Rises xs

pub rises : (xs : Records) → AllPairs (λ m n. m < n) (offsets xs) → Rises xs
rises [] h = tt
rises (x ∷ xs) h = (above, rises xs (λ i j d l m. h (suc i) (suc j) d (omega (arith, l)) (omega (arith, m))))
  where
    above : (y : Stored) → Has xs y → x.0 < y.0
    above y has =
        let (k, l, e) = contains_from xs y has in
        let same = offsets_length xs in
        let less : x.0 < slice_index_or (offsets xs) k y.0 = h 0 (suc k) y.0 (omega arith) (omega (arith, l, same)) in
        subst (λ n. x.0 < n) (offset_at xs k y ∙ ap (λ z. z.0) e) less

pub same_records : (xs ys : Records) → Rises xs → Rises ys → ((z : Stored) → Has xs z → Has ys z) → ((z : Stored) → Has ys z → Has xs z) → xs ≡ ys
same_records [] [] a b to from = refl
same_records [] (y ∷ ys) a b to from = absurd (from y (inl refl))
same_records (x ∷ xs) [] a b to from = absurd (to x (inl refl))
same_records (x ∷ xs) (y ∷ ys) a b to from =
    let rest = same_records xs ys a.1 b.1 (λ z h. rest_to z h (to z (inr h))) (λ z h. rest_from z h (from z (inr h))) in
    λ i. first i ∷ rest i
  where
    heads : (y ≡ x) ⊎ Has ys x → (x ≡ y) ⊎ Has xs y → x ≡ y
    heads (inl e) other = sym e
    heads (inr h) (inl e) = e
    heads (inr h) (inr g) = let l = b.0 x h in let m = a.0 y g in absurd (omega (arith, l, m))

    first : x ≡ y
    first = heads (to x (inl refl)) (from y (inl refl))

    not_above : (p q : Stored) → p ≡ q → p.0 < q.0 → ⊥
    not_above p q e l = let f = ap (λ z. z.0) e in omega (arith, f, l)

    rest_to : (z : Stored) → Has xs z → (y ≡ z) ⊎ Has ys z → Has ys z
    rest_to z h (inl e) = absurd (not_above x z (first ∙ e) (a.0 z h))
    rest_to z h (inr g) = g

    rest_from : (z : Stored) → Has ys z → (x ≡ z) ⊎ Has xs z → Has xs z
    rest_from z h (inl e) = absurd (not_above y z (sym first ∙ e) (b.0 z h))
    rest_from z h (inr g) = g

members : (records : Records) (h e0 : ℕ) (xs ys : Records) → IsKept records h e0 xs → IsKept records h e0 ys → (z : Stored) → Has xs z → Has ys z
members records h e0 xs ys a b z has = let (k, l, e) = (b.each z).1 ((a.each z).0 (contains_from xs z has)) in has_from ys z k l e

pub same_kept : (records : Records) (h e0 : ℕ) (xs ys : Records) → IsKept records h e0 xs → IsKept records h e0 ys → xs ≡ ys
same_kept records h e0 xs ys a b = same_records xs ys (rises xs (AllPairs-from_increasing (offsets xs) a.ascending)) (rises ys (AllPairs-from_increasing (offsets ys) b.ascending))
    (members records h e0 xs ys a b) (members records h e0 ys xs b a)

pub one_valid : (records : Records) (h e0 : ℕ) (p q : Pair) → IsValid records h e0 p → IsValid records h e0 q → p ≡ q
one_valid records h e0 p q v w = λ i. record { mapping = mappings i; prefix = prefixes i }
  where
    kept : v.kept ≡ w.kept
    kept = same_kept records h e0 v.kept w.kept v.each w.each

    mappings : p.mapping ≡ q.mapping
    mappings = v.mapping ∙ ap (λ xs. mapping_bytes h e0 (runs_of xs)) kept ∙ sym w.mapping

    prefixes : p.prefix ≡ q.prefix
    prefixes = v.prefix ∙ ap kept_bytes kept ∙ sym w.prefix

pub rows_placed : (horizon from place : ℕ) (rows : List Row) → RowsFitFrom horizon from place rows → rows ≡ placed place (map run_of rows)
rows_placed horizon from place [] fit = refl
rows_placed horizon from place (row ∷ rows) fit =
    let rest = rows_placed horizon (row.at + row.length + 1) (place + row.length) rows fit.1 in
    λ i. record { at = row.at; length = row.length; place = fit.0.placed i } ∷ rest i

-- ---- a difference of a pair

some_bytes : (x y : Bytes) → x ≡ y → ◌≡◌ {A = Option Bytes} (Some x) (Some y)
some_bytes x y e = ap Some e

no_difference : (file : Produced) (want : Bytes) (got : Option Bytes) → difference file want got ≡ None → got ≡ Some want
no_difference file want None e = absurd cc
no_difference file want (Some got) e = by (same_bytes want got) refl e
  where
    by : (b : Bool) → same_bytes want got ≡ b → cond {A = Option Difference} b None (Some (record { file = file; at = common_length want got; want = seen_at want (common_length want got); got = seen_at got (common_length want got) })) ≡ None → Some got ≡ Some want
    by true same e = some_bytes got want (sym (same_step want got same))
    by false same e = absurd cc

same_difference : (file : Produced) (want : Bytes) → difference file want (Some want) ≡ None
same_difference file want = ap (λ (b : Bool). cond {A = Option Difference} b None (Some (record { file = file; at = common_length want want; want = seen_at want (common_length want want); got = seen_at want (common_length want want) }))) (ap is_eq (step_itself want))

first_none : (d e : Option Difference) → first_of d e ≡ None → (d ≡ None) × (e ≡ None)
first_none None e is = (refl, is)
first_none (Some d) e is = absurd cc

pub found_valid : (pair : Pair) (found : Found) → first_difference pair found ≡ None → (found.mapping ≡ Some pair.mapping) × (found.prefix ≡ Some pair.prefix)
found_valid pair found e =
    let both = first_none (difference Produced.Mapping pair.mapping found.mapping) (difference Produced.Prefix pair.prefix found.prefix) e in
    (no_difference Produced.Mapping pair.mapping found.mapping both.0, no_difference Produced.Prefix pair.prefix found.prefix both.1)

pub valid_found : (pair : Pair) (found : Found) → found.mapping ≡ Some pair.mapping → found.prefix ≡ Some pair.prefix → first_difference pair found ≡ None
valid_found pair found m p =
    ap (λ (o : Option Difference). first_of o (difference Produced.Prefix pair.prefix found.prefix)) (ap (difference Produced.Mapping pair.mapping) m ∙ same_difference Produced.Mapping pair.mapping)
    ∙ ap (difference Produced.Prefix pair.prefix) p ∙ same_difference Produced.Prefix pair.prefix

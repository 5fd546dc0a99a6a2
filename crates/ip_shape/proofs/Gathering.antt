-- The steps of the children of an inode, taken together.
use Rattle.std.proofs.Common.{◌≡◌, ◌<◌, ◌≤◌, ℕ, ◌+◌, Bool, true, false, List, length, take, get_or, sym, ap, ◌∙◌, refl, arith}
use Rattle.std.specs.Prelude.{◌==◌, ◌&&◌, ◌||◌, nat_lt}
use Rattle.std.proofs.lemmas.Bool.Decides.{nat_tests}
use Rattle.std.proofs.lemmas.List.Folds.{list_any_more}
use Rattle.ip_spec.specs.Path.{Step, same_bytes}
use Rattle.ip_spec.specs.Shape.{place}
use Rattle.ip_shape.specs.Shape.{AreUnited, add, has, steps_at}
use Rattle.ip_shape.proofs.Digests.{place_small}
use Rattle.ip_shape.proofs.Members.{has-add, has-filter}

first_last : (a b c : Bool) → (a || (b || c)) ≡ (b || (c || a))
first_last true true c = refl
first_last true false true = refl
first_last true false false = refl
first_last false true c = refl
first_last false false true = refl
first_last false false false = refl

pub one_more : (old steps all : List Step) (i : ℕ) (s : Step) → i < length steps → s ≡ get_or steps i s → AreUnited old (take i steps) all → AreUnited old (take (i + 1) steps) (add s all)
one_more old steps all i s lt read united q =
    has-add q s all ∙ ap (λ b. same_bytes q s || b) (united q) ∙ first_last (same_bytes q s) (has q old) (has q (take i steps))
    ∙ ap (λ t. has q old || (has q (take i steps) || same_bytes q t)) read ∙ ap (λ b. has q old || b) (sym (list_any_more (same_bytes q) steps i s lt))

-- the steps of the children below an index
abbrev pub AreBelow : ℕ → ℕ → List Step → List Step → List Step → Type 0
AreBelow depth i steps old all = (q : Step) → has q all ≡ (has q old || (has q steps && nat_lt (place q depth) i))

next_place : (p i : ℕ) → nat_lt p (i + 1) ≡ (nat_lt p i || (p == i))
next_place p i = grind (arith, nat_tests)

with_next : (a h l e n : Bool) → n ≡ (l || e) → ((a || (h && l)) || (e && h)) ≡ (a || (h && n))
with_next true h l e n is = refl
with_next false true true e n is = sym is
with_next false true false true n is = sym is
with_next false true false false n is = sym is
with_next false false l true n is = refl
with_next false false l false n is = refl

pub next_below : (depth i : ℕ) (steps old all more : List Step) → AreBelow depth i steps old all → AreUnited all (steps_at depth i steps) more → AreBelow depth (i + 1) steps old more
next_below depth i steps old all more below united q =
    united q ∙ ap (λ b. b || has q (steps_at depth i steps)) (below q)
    ∙ ap (λ b. (has q old || (has q steps && nat_lt (place q depth) i)) || b) (has-filter (λ t. place t depth == i) q steps)
    ∙ with_next (has q old) (has q steps) (nat_lt (place q depth) i) (place q depth == i) (nat_lt (place q depth) (i + 1)) (next_place (place q depth) i)

lt_all : (p i : ℕ) → p < 32 → 32 ≤ i → nat_lt p i ≡ true
lt_all p i lt le = grind (arith, nat_tests)

with_true : (a h n : Bool) → n ≡ true → (a || (h && n)) ≡ (a || h)
with_true true h n is = refl
with_true false true n is = is
with_true false false n is = refl

pub all_below : (depth i : ℕ) (steps old all : List Step) → 32 ≤ i → AreBelow depth i steps old all → AreUnited old steps all
all_below depth i steps old all le below q =
    below q ∙ with_true (has q old) (has q steps) (nat_lt (place q depth) i) (lt_all (place q depth) i (place_small q depth) le)

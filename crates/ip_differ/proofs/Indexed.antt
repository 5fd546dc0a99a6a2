-- Indexes that lead to a step, one more at a time.
--     leads_deeper      one more leads to the steps with that place
--     long_deeper      and how many they are
--     way_behind      the way to a step begins with them, and what is left of it
--     behind_append      where they stand in front of others
use Rattle.std.proofs.Common.{◌≡◌, ℕ, suc, ◌+◌, ◌-◌, ◌≤◌, Bool, true, false, List, [], ◌∷◌, ◌++◌, length, refl, sym, ap, ◌∙◌, Option, Some, None, arith}
use Rattle.std.proofs.lemmas.Bool.{false≢true}
use Rattle.std.specs.Prelude.{◌==◌, ◌&&◌, is_some}
use Rattle.ip_spec.specs.Path.{Step}
use Rattle.ip_spec.specs.Shape.{deepest, place}
use Rattle.ip_spec.specs.View.{leads}
use Rattle.ip_shape.specs.Loaded.{behind, way_to}
use Rattle.ip_shape.proofs.LeafRead.{on_way}
use Rattle.ip_tree.proofs.Indexes.{behind_is}
use Rattle.ip_tree.proofs.KnownStands.{long_way}

three : (a b c : Bool) → (a && (b && c)) ≡ ((a && b) && c)
three true b c = refl
three false b c = refl

leads_from : (is : List ℕ) (i depth : ℕ) (s : Step) → leads depth (is ++ i ∷ []) s ≡ (leads depth is s && (place s (depth + length is) == i))
leads_from [] i depth s = let none : depth ≡ depth + 0 = omega arith in true_and (place s depth == i) ∙ ap (λ d. place s d == i) none
  where
    true_and : (b : Bool) → (b && true) ≡ b
    true_and true = refl
    true_and false = refl
leads_from (j ∷ is) i depth s =
    let next : suc depth + length is ≡ depth + suc (length is) = omega arith in
    ap (λ b. (place s depth == j) && b) (leads_from is i (suc depth) s ∙ ap (λ d. leads (suc depth) is s && (place s d == i)) next)
    ∙ three (place s depth == j) (leads (suc depth) is s) (place s (depth + suc (length is)) == i)

pub leads_deeper : (is : List ℕ) (i : ℕ) (s : Step) → leads 0 (is ++ i ∷ []) s ≡ (leads 0 is s && (place s (length is) == i))
leads_deeper is i s = let none : 0 + length is ≡ length is = omega arith in leads_from is i 0 s ∙ ap (λ d. leads 0 is s && (place s d == i)) none

pub long_deeper : (is : List ℕ) (i : ℕ) → length (is ++ i ∷ []) ≡ length is + 1
long_deeper [] i = refl
long_deeper (j ∷ is) i = let more = long_deeper is i in omega (arith, more)

pub long_behind : (is rest : List ℕ) → length (is ++ rest) ≡ length is + length rest
long_behind [] rest = omega arith
long_behind (i ∷ is) rest = let more = long_behind is rest in omega (arith, more)

-- what is left of the way to a step
pub record WayBehind (is : List ℕ) (s : Step) : Type 0 where
  pub rest : List ℕ
  pub whole : way_to s ≡ is ++ rest
  pub long : length rest ≡ deepest - length is

pub way_behind : (is : List ℕ) (s : Step) → length is ≤ deepest → leads 0 is s ≡ true → WayBehind is s
way_behind is s low there = by (behind is (way_to s)) refl (on_way is s low ∙ there)
  where
    by : (o : Option (List ℕ)) → behind is (way_to s) ≡ o → is_some o ≡ true → WayBehind is s
    by None e f = absurd (false≢true f)
    by (Some rest) e f =
        let whole = behind_is is (way_to s) rest e in
        let long : length is + length rest ≡ deepest = sym (long_behind is rest) ∙ ap (λ (l : List ℕ). length l) (sym whole) ∙ long_way s in
        record { rest = rest; whole = whole; long = omega (arith, long) }

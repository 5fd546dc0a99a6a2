-- Laws of lines, whatever the grammar.
use Rattle.std.proofs.Common.{◌≡◌, ◌⊎◌, inl, inr, ℕ, ◌<◌, refl, subst, sym, T, Bool, true, false, leb→le, arith}
use Rattle.std.specs.Prelude.{nat_le}
use Rattle.ip_spec.specs.Path.{Bytes}
use Rattle.ip_spec.specs.Line.{Grammar, IsBadAt}

order_of : (m n : ℕ) → (m < n) ⊎ (n < m) ⊎ (m ≡ n)
order_of m n = by (nat_le m n) (nat_le n m) refl refl
  where
    by : (b c : Bool) → nat_le m n ≡ b → nat_le n m ≡ c → (m < n) ⊎ (n < m) ⊎ (m ≡ n)
    by true true e f = let l = leb→le m n (subst T (sym e) tt) in let k = leb→le n m (subst T (sym f) tt) in inr (inr (omega (arith, l, k)))
    by true false e f = inl (grind arith)
    by false c e f = inr (inl (grind arith))

-- a line that is none goes wrong at one place
pub one_place : (IsLine : Grammar) (line : Bytes) (a b : ℕ) → IsBadAt IsLine line a → IsBadAt IsLine line b → a ≡ b
one_place IsLine line a b x y = by (order_of a b)
  where
    by : (a < b) ⊎ (b < a) ⊎ (a ≡ b) → a ≡ b
    by (inl l) = absurd (x.longest b l y.in_line y.begins)
    by (inr (inl l)) = absurd (y.longest a l x.in_line x.begins)
    by (inr (inr e)) = e

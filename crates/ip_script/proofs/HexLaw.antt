-- Hex texts: what decodes is spelled, and one text has one value.
use Rattle.std.proofs.Common.{◌≡◌, ◌⊎◌, inl, inr, ℕ, ◌+◌, ◌*◌, ◌/◌, ◌%◌, ◌<◌, ◌≤◌, true, List, [], ◌∷◌, length, refl, sym, ap, ◌∙◌, subst, arith, IsTrue, Option, Some, None, Result, Ok, Err, codes}
use Rattle.std.specs.List.{list_all}
use Rattle.std.specs.Result.{result_unwrap_or}
use Rattle.std.proofs.lemmas.List.Sums.{AllPass-from_list_all}
use Rattle.std.proofs.lemmas.Bool.{and_from}
use Rattle.hex.specs.Hex.{hex_digit_value, is_hex_digit, digit_or_error, value_at, ◌>>=◌, pair_value, decode_pairs, decode_of}
use Rattle.hex.specs.declared.error.FromHexError.{FromHexError}
use Rattle.hex.proofs.HexLemmas.{decode_of-even, decode_of-digits, decode_of-ok}
use Rattle.ip_spec.specs.Path.{Bytes}
use Rattle.ip_spec.specs.Line.{IsHexDigit, IsHexPairs, IsHexText}
use Rattle.ip_script.specs.Words.{contents_of}
use Rattle.ip_script.proofs.Prefix.{lt_or_ge}

-- one or more pairs of digits
pub record ArePairs (text : Bytes) : Type 0 where
  pub some : 0 < length text
  pub even : length text % 2 ≡ 0
  pub each : IsTrue (list_all is_hex_digit text)

-- ---- digits

digit_of_value : (c v : ℕ) → hex_digit_value c ≡ Some v → IsHexDigit v c
digit_of_value c v h =
    elim (lt_or_ge v 10) [
      | inl low ↦ inl (low, decimal_digit c v low h)
      | inr high ↦ elim (lt_or_ge c 97) [
        | inl upper ↦ inr (high, small c v h, inr (upper_digit c v high upper h))
        | inr lower ↦ inr (high, small c v h, inl (lower_digit c v high lower h))
      ]
    ]
  where
    small : (c v : ℕ) → hex_digit_value c ≡ Some v → v < 16
    small c v h = grind (arith)

    decimal_digit : (c v : ℕ) → v < 10 → hex_digit_value c ≡ Some v → c ≡ 48 + v
    decimal_digit c v l h = grind (arith)

    upper_digit : (c v : ℕ) → 10 ≤ v → c < 97 → hex_digit_value c ≡ Some v → c ≡ 55 + v
    upper_digit c v m l h = grind (arith)

    lower_digit : (c v : ℕ) → 10 ≤ v → 97 ≤ c → hex_digit_value c ≡ Some v → c ≡ 87 + v
    lower_digit c v m l h = grind (arith)

is_digit : (n c : ℕ) → IsHexDigit n c → is_hex_digit c ≡ true
is_digit n c (inl (l, e)) = grind (arith)
is_digit n c (inr (m, l, inl e)) = grind (arith)
is_digit n c (inr (m, l, inr e)) = grind (arith)

one_digit : (m n c : ℕ) → IsHexDigit m c → IsHexDigit n c → m ≡ n
one_digit m n c (inl (l, e)) (inl (k, f)) = omega (arith, e, f)
one_digit m n c (inl (l, e)) (inr (a, b, inl f)) = absurd (omega (arith, l, e, a, b, f))
one_digit m n c (inl (l, e)) (inr (a, b, inr f)) = absurd (omega (arith, l, e, a, b, f))
one_digit m n c (inr (a, b, inl f)) (inl (l, e)) = absurd (omega (arith, l, e, a, b, f))
one_digit m n c (inr (a, b, inr f)) (inl (l, e)) = absurd (omega (arith, l, e, a, b, f))
one_digit m n c (inr (a, b, inl f)) (inr (k, l, inl g)) = omega (arith, f, g)
one_digit m n c (inr (a, b, inl f)) (inr (k, l, inr g)) = absurd (omega (arith, a, b, f, k, l, g))
one_digit m n c (inr (a, b, inr f)) (inr (k, l, inl g)) = absurd (omega (arith, a, b, f, k, l, g))
one_digit m n c (inr (a, b, inr f)) (inr (k, l, inr g)) = omega (arith, f, g)

-- ---- what decodes

bind_ok : {A B : Type 0} (r : Result A FromHexError) (f : A → Result B FromHexError) (y : B) → (r >>= f) ≡ Ok y → (x : A) × (r ≡ Ok x) × (f x ≡ Ok y)
bind_ok (Ok x) f y h = (x, refl, h)
bind_ok (Err e) f y h = cc h

digit_read : (c i : ℕ) (o : Option ℕ) (v : ℕ) → digit_or_error c i o ≡ Ok v → o ≡ Some v
digit_read c i (Some w) v h = ap Some (ap (λ (r : Result ℕ FromHexError). result_unwrap_or r 0) h)
digit_read c i None v h = cc h

small_value : (c v : ℕ) → hex_digit_value c ≡ Some v → v < 16
small_value c v h = grind (arith)

halves : (h l n : ℕ) → l < 16 → h * 16 + l ≡ n → (h ≡ n / 16) × (l ≡ n % 16)
halves h l n s e = (omega (arith, s, e), omega (arith, s, e))

pairs_decoded : (i : ℕ) (text bytes : Bytes) → decode_pairs i text ≡ Ok bytes → IsHexPairs bytes text
unfolding decode_pairs
pairs_decoded i [] bytes h =
    let e : [] ≡ bytes = ap (λ (r : Result (List ℕ) FromHexError). result_unwrap_or r []) h in
    subst (λ (b : Bytes). IsHexPairs b []) e tt
pairs_decoded i (c ∷ []) bytes h = cc h
pairs_decoded i (c ∷ d ∷ text) bytes h =
    let p0 = bind_ok (pair_value c d i) _ bytes h in
    let p1 = bind_ok (value_at c i) _ p0.0 p0.1 in
    let p2 = bind_ok (value_at d (i + 1)) _ p0.0 p1.2 in
    let p3 = bind_ok (decode_pairs (i + 2) text) _ bytes p0.2 in
    let e : p0.0 ∷ p3.0 ≡ bytes = ap (λ (r : Result (List ℕ) FromHexError). result_unwrap_or r []) p3.2 in
    let high = digit_read c i (hex_digit_value c) p1.0 p1.1 in
    let low = digit_read d (i + 1) (hex_digit_value d) p2.0 p2.1 in
    let byte : p1.0 * 16 + p2.0 ≡ p0.0 = ap (λ (r : Result ℕ FromHexError). result_unwrap_or r 0) p2.2 in
    let parts = halves p1.0 p2.0 p0.0 (small_value d p2.0 low) byte in
    subst (λ (b : Bytes). IsHexPairs b (c ∷ d ∷ text)) e (
      subst (λ n. IsHexDigit n c) parts.0 (digit_of_value c p1.0 high),
      subst (λ n. IsHexDigit n d) parts.1 (digit_of_value d p2.0 low),
      pairs_decoded (i + 2) text p3.0 p3.1,
    )

spelled : (bytes text : Bytes) → 0 < length text → IsHexPairs bytes text → IsHexText bytes text
spelled [] [] some p = absurd (omega (arith, some))
spelled [] (c ∷ text) some p = absurd p
spelled (b ∷ bytes) text some p = p

pub decoded : (text bytes : Bytes) → 0 < length text → decode_of text ≡ Ok bytes → IsHexText bytes text
decoded text bytes some h = spelled bytes text some (pairs_decoded 0 text bytes (sym (decode_of-even text (decode_of-ok text bytes h).0) ∙ h))

pub hex_of : (text : Bytes) → (text ≡ codes "-") ⊎ ArePairs text → (bytes : Bytes) × IsHexText bytes text
hex_of text (inl e) = ([], e)
hex_of text (inr p) = let d = decode_of-digits text p.even (AllPass-from_list_all is_hex_digit text p.each) in (d.0, decoded text d.0 p.some d.1)

-- ---- what is spelled

pub pairs_of : (bytes text : Bytes) → IsHexPairs bytes text → (length text % 2 ≡ 0) × IsTrue (list_all is_hex_digit text)
pairs_of [] [] p = (refl, refl)
pairs_of [] (c ∷ text) p = absurd p
pairs_of (b ∷ bytes) [] p = absurd p
pairs_of (b ∷ bytes) (c ∷ []) p = absurd p
pairs_of (b ∷ bytes) (c ∷ d ∷ text) (high, low, p) =
    let rest = pairs_of bytes text p in
    (omega (arith, rest.0), and_from (is_hex_digit c) _ (is_digit (b / 16) c high) (and_from (is_hex_digit d) _ (is_digit (b % 16) d low) rest.1))

pub field_of_hex : (bytes text : Bytes) → IsHexText bytes text → (text ≡ codes "-") ⊎ ArePairs text
field_of_hex [] text e = inl e
field_of_hex (b ∷ bytes) [] p = absurd p
field_of_hex (b ∷ bytes) (c ∷ text) p = let parts = pairs_of (b ∷ bytes) (c ∷ text) p in inr (record { some = omega arith; even = parts.0; each = parts.1 })

one_pairs : (a b text : Bytes) → IsHexPairs a text → IsHexPairs b text → a ≡ b
one_pairs [] [] text p q = refl
one_pairs [] (y ∷ b) [] p q = absurd q
one_pairs [] (y ∷ b) (c ∷ text) p q = absurd p
one_pairs (x ∷ a) [] [] p q = absurd p
one_pairs (x ∷ a) [] (c ∷ text) p q = absurd q
one_pairs (x ∷ a) (y ∷ b) [] p q = absurd p
one_pairs (x ∷ a) (y ∷ b) (c ∷ []) p q = absurd p
one_pairs (x ∷ a) (y ∷ b) (c ∷ d ∷ text) (h, l, p) (k, m, q) =
    let high = one_digit (x / 16) (y / 16) c h k in
    let low = one_digit (x % 16) (y % 16) d l m in
    let same : x ≡ y = omega (arith, high, low) in
    ap (λ z. z ∷ a) same ∙ ap (λ (zs : Bytes). y ∷ zs) (one_pairs a b text p q)

-- one text has one value
pub one_value : (a b text : Bytes) → IsHexText a text → IsHexText b text → a ≡ b
one_value [] [] text p q = refl
one_value [] (y ∷ b) text p q = absurd (subst (λ (t : Bytes). IsHexPairs (y ∷ b) t) p q)
one_value (x ∷ a) [] text p q = absurd (subst (λ (t : Bytes). IsHexPairs (x ∷ a) t) q p)
one_value (x ∷ a) (y ∷ b) text p q = one_pairs (x ∷ a) (y ∷ b) text p q

-- a text says what decodes of it
pub contents_read : (bytes text : Bytes) → IsHexText bytes text → bytes ≡ contents_of text
contents_read bytes text h =
    elim (field_of_hex bytes text h) [
      | inl dash ↦ one_value bytes [] text h dash ∙ sym (ap contents_of dash)
      | inr pairs ↦
          let d = decode_of-digits text pairs.even (AllPass-from_list_all is_hex_digit text pairs.each) in
          one_value bytes d.0 text h (decoded text d.0 pairs.some d.1) ∙ sym (ap (λ (r : Result Bytes FromHexError). result_unwrap_or r []) d.1)
    ]

-- Numbers and rows in bytes.
--     HasBytes bytes      each is below 256
--     number_front      a number that was read spells the bytes that it was read from
--     rows_of      bytes of this length spell that many rows
use Rattle.std.proofs.Common.{◌≡◌, ℕ, zero, suc, ◌+◌, ◌*◌, ◌<◌, ◌≤◌, List, [], ◌∷◌, ◌++◌, length, get_or, take, drop, refl, sym, ap, ◌∙◌, subst, arith}
use Rattle.std.specs.Prelude.{flat_map}
use Rattle.std.specs.Int.{w64, from_le_bytes}
use Rattle.std.proofs.lemmas.Nat.{le_bytes_8}
use Rattle.std.proofs.lemmas.List.{take-append-drop, length-take-le, length-drop}
use Rattle.ip_spec.specs.Path.{Bytes}
use Rattle.ip_spec.specs.Record.{u64, IsU64}
use Rattle.ip_image.specs.declared.run.Row.{Row}
use Rattle.ip_image.specs.Virtual.{row_bytes}
use Rattle.ip_mapping.specs.Parsing.{AreNumbers}

-- each place has a byte, or nothing, which reads as 0
abbrev pub HasBytes : Bytes → Type 0
HasBytes bytes = (i : ℕ) → get_or bytes i 0 < 256

bytes_take : (k : ℕ) (bytes : Bytes) → HasBytes bytes → HasBytes (take k bytes)
bytes_take zero bytes h i = omega arith
bytes_take (suc k) [] h i = omega arith
bytes_take (suc k) (b ∷ bytes) h zero = h zero
bytes_take (suc k) (b ∷ bytes) h (suc i) = bytes_take k bytes (λ j. h (suc j)) i

bytes_drop : (k : ℕ) (bytes : Bytes) → HasBytes bytes → HasBytes (drop k bytes)
bytes_drop zero bytes h = h
bytes_drop (suc k) [] h = h
bytes_drop (suc k) (b ∷ bytes) h = bytes_drop k bytes (λ j. h (suc j))

pub bytes_behind : (front back : Bytes) → HasBytes (front ++ back) → HasBytes back
bytes_behind [] back h = h
bytes_behind (b ∷ front) back h = bytes_behind front back (λ j. h (suc j))

pub number_front : (bytes front rest : Bytes) (n : ℕ) → front ≡ take 8 bytes → rest ≡ drop 8 bytes → length rest + 8 ≡ length bytes → HasBytes bytes → n ≡ from_le_bytes w64 front → bytes ≡ u64 n ++ rest
number_front bytes front rest n f r long each e =
    let eight : length front ≡ 8 = ap length f ∙ length-take-le 8 bytes (omega (arith, long)) in
    let spelled : u64 n ≡ front = le_bytes_8 front n eight (subst HasBytes (sym f) (bytes_take 8 bytes each)) e in
    sym (take-append-drop 8 bytes) ∙ (λ i. (sym f ∙ sym spelled) i ++ sym r i)

-- ---- rows

number_small : (bytes : Bytes) → HasBytes bytes → IsU64 (from_le_bytes w64 bytes)
number_small bytes h = omega (arith, h 0, h 1, h 2, h 3, h 4, h 5, h 6, h 7)

pub record NumberIn (bytes : Bytes) : Type 0 where
  pub number : ℕ
  pub small : IsU64 number
  pub is : bytes ≡ u64 number ++ drop 8 bytes

number_in : (bytes : Bytes) → HasBytes bytes → 8 ≤ length bytes → NumberIn bytes
number_in bytes h l =
    let long : length (drop 8 bytes) + 8 ≡ length bytes = omega (arith, length-drop 8 bytes, l) in
    record {
      number = from_le_bytes w64 (take 8 bytes);
      small = number_small (take 8 bytes) (bytes_take 8 bytes h);
      is = number_front bytes (take 8 bytes) (drop 8 bytes) (from_le_bytes w64 (take 8 bytes)) refl refl long h refl;
    }

pub record RowIn (bytes : Bytes) : Type 0 where
  pub row : Row
  pub rest : Bytes
  pub numbers : IsU64 row.at × IsU64 row.length × IsU64 row.place
  pub is : bytes ≡ row_bytes row ++ rest
  pub each : HasBytes rest
  pub long : length rest + 24 ≡ length bytes

row_in : (bytes : Bytes) → HasBytes bytes → 24 ≤ length bytes → RowIn bytes
row_in bytes h l =
    let behind : Bytes = drop 8 bytes in
    let last : Bytes = drop 8 (drop 8 bytes) in
    let m = length-drop 8 bytes in
    let n = length-drop 8 (drop 8 bytes) in
    let o = length-drop 8 (drop 8 (drop 8 bytes)) in
    let a = number_in bytes h (omega (arith, l)) in
    let b = number_in (drop 8 bytes) (bytes_drop 8 bytes h) (omega (arith, m, l)) in
    let c = number_in (drop 8 (drop 8 bytes)) (bytes_drop 8 (drop 8 bytes) (bytes_drop 8 bytes h)) (omega (arith, m, n, l)) in
    record {
      row = record { at = a.number; length = b.number; place = c.number };
      rest = drop 8 (drop 8 (drop 8 bytes));
      numbers = (a.small, b.small, c.small);
      is = a.is ∙ ap (λ bs. u64 a.number ++ bs) (b.is ∙ ap (λ bs. u64 b.number ++ bs) c.is);
      each = bytes_drop 8 (drop 8 (drop 8 bytes)) (bytes_drop 8 (drop 8 bytes) (bytes_drop 8 bytes h));
      long = omega (arith, m, n, o, l);
    }

pub record RowsIn (n : ℕ) (bytes : Bytes) : Type 0 where
  pub rows : List Row
  pub is : bytes ≡ flat_map row_bytes rows
  pub count : length rows ≡ n
  pub numbers : AreNumbers rows

none_left : (bytes : Bytes) → length bytes ≡ 0 → bytes ≡ []
none_left [] e = refl
none_left (b ∷ bytes) e = absurd (omega (arith, e))

pub rows_of : (n : ℕ) (bytes : Bytes) → HasBytes bytes → length bytes ≡ 24 * n → RowsIn n bytes
rows_of zero bytes h l = record { rows = []; is = none_left bytes (omega (arith, l)); count = refl; numbers = tt }
rows_of (suc n) bytes h l =
    let first = row_in bytes h (omega (arith, l)) in
    let later = rows_of n first.rest first.each (let m = first.long in omega (arith, l, m)) in
    record {
      rows = first.row ∷ later.rows;
      is = first.is ∙ ap (λ bs. row_bytes first.row ++ bs) later.is;
      count = ap suc later.count;
      numbers = (first.numbers, later.numbers);
    }

pub length_rows : (rows : List Row) → length (flat_map row_bytes rows) ≡ 24 * length rows
length_rows [] = refl
length_rows (row ∷ rows) = let e = length_rows rows in omega (arith, e)

-- What bytes are read as.
use Rattle.std.proofs.Common.{◌≡◌, ◌⊎◌, inl, inr, ℕ, zero, suc, ◌+◌, ◌-◌, ◌*◌, ◌^◌, ◌<◌, List, [], ◌∷◌, ◌++◌, length, take, drop, refl, sym, ap, ◌∙◌, subst, arith, append_assoc, append-nil}
use Rattle.std.specs.Prelude.{flat_map, map}
use Rattle.std.specs.Int.{w64, from_le_bytes}
use Rattle.std.proofs.lemmas.Nat.{from_le_bytes-to_le_bytes_8}
use Rattle.std.proofs.lemmas.List.{length-append, take-append-le}
use Rattle.std.proofs.lemmas.Grind.{flat_map-append}
use Rattle.ip_spec.specs.Path.{Bytes}
use Rattle.ip_spec.specs.Record.{u64, IsU64}
use Rattle.ip_image.specs.declared.run.Row.{Row}
use Rattle.ip_image.specs.declared.run.Run.{Run}
use Rattle.ip_image.specs.Virtual.{row_bytes, run_of, placed, mapping_file, mapping_bytes, RowFits, RowsFit}
use Rattle.ip_image.proofs.OneRepository.{same_files}
use Rattle.ip_mapping.specs.declared.head.Head.{Head}
use Rattle.ip_mapping.specs.Parsing.{Fields, AreNumbers, IsForm, IsMapping, IsBadAt, no_form, no_row, head_bytes, head_of, Begins}
use Rattle.ip_mapping.proofs.Numbers.{HasBytes, bytes_behind, rows_of, length_rows}
use Rattle.ip_mapping.proofs.Order.{SoFar, no_more, fits_take, numbers_both, numbers_fit, count_fits}

-- ---- the numbers in front

u64_at : ℕ → Bytes → ℕ
u64_at k bytes = from_le_bytes w64 (take 8 (drop k bytes))

pub file_begins : (m : Fields) → mapping_file m.horizon m.end m.rows ≡ head_bytes (head_of m) ++ flat_map row_bytes m.rows
unfolding mapping_file
file_begins m = refl

pub form_begins : (bytes : Bytes) (m : Fields) → IsForm bytes m → Begins bytes (head_of m)
form_begins bytes m f = (flat_map row_bytes m.rows, f.file ∙ file_begins m)

same_number : (k m n : ℕ) (p q : Bytes) → IsU64 m → IsU64 n → u64_at k p ≡ from_le_bytes w64 (u64 m) → u64_at k q ≡ from_le_bytes w64 (u64 n) → p ≡ q → m ≡ n
same_number k m n p q l h a b e = sym (from_le_bytes-to_le_bytes_8 m l) ∙ sym a ∙ ap (u64_at k) e ∙ b ∙ from_le_bytes-to_le_bytes_8 n h

pub record SameHead (g h : Head) (p q : Bytes) : Type 0 where
  pub horizon : g.horizon ≡ h.horizon
  pub end : g.end ≡ h.end
  pub rows : g.rows ≡ h.rows
  pub rest : p ≡ q

abbrev pub IsSmall : Head → Type 0
IsSmall head = IsU64 head.horizon × IsU64 head.end × IsU64 head.rows

pub same_head : (g h : Head) (p q : Bytes) → IsSmall g → IsSmall h → head_bytes g ++ p ≡ head_bytes h ++ q → SameHead g h p q
unfolding u64_at
same_head g h p q a b e = record {
  horizon = same_number 8 g.horizon h.horizon (head_bytes g ++ p) (head_bytes h ++ q) a.0 b.0 refl refl e;
  end = same_number 16 g.end h.end (head_bytes g ++ p) (head_bytes h ++ q) a.1 b.1 refl refl e;
  rows = same_number 24 g.rows h.rows (head_bytes g ++ p) (head_bytes h ++ q) a.2 b.2 refl refl e;
  rest = ap (drop 32) e;
}

small_form : (bytes : Bytes) (m : Fields) → IsForm bytes m → IsSmall (head_of m)
small_form bytes m f = (f.horizon, f.end, f.count)

-- ---- one mapping

pub same_form : (bytes : Bytes) (m n : Fields) → IsForm bytes m → IsForm bytes n → m ≡ n
same_form bytes m n f g =
    let heads = same_head (head_of m) (head_of n) (flat_map row_bytes m.rows) (flat_map row_bytes n.rows) (small_form bytes m f) (small_form bytes n g) (sym (f.file ∙ file_begins m) ∙ g.file ∙ file_begins n) in
    let files : mapping_file m.horizon m.end m.rows ≡ mapping_file m.horizon n.end n.rows = sym f.file ∙ g.file ∙ ap (λ h. mapping_file h n.end n.rows) (sym heads.horizon) in
    let rows = same_files m.horizon m.end n.end m.rows n.rows f.numbers g.numbers heads.rows files in
    λ i. record { horizon = heads.horizon i; end = heads.end i; rows = rows i }

pub its_head : (bytes : Bytes) (head : Head) (m : Fields) → IsU64 head.horizon → IsU64 head.end → IsU64 head.rows → Begins bytes head → IsForm bytes m → head ≡ head_of m
its_head bytes head m h e r begins f =
    let heads = same_head head (head_of m) begins.0 (flat_map row_bytes m.rows) (h, e, r) (small_form bytes m f) (sym begins.1 ∙ f.file ∙ file_begins m) in
    λ i. record { horizon = heads.horizon i; end = heads.end i; rows = heads.rows i }

-- ---- one bad place

front_taken : (before after : List Row) (row : Row) → take (suc (length before)) (before ++ row ∷ after) ≡ before ++ row ∷ []
front_taken [] after row = refl
front_taken (x ∷ before) after row = ap (λ rows. x ∷ rows) (front_taken before after row)

-- a list that begins in two ways begins with the longer one's front
shorter : (before after before' after' : List Row) (row row' : Row) → before ++ row ∷ after ≡ before' ++ row' ∷ after' → length before < length before' → before ++ row ∷ [] ≡ take (suc (length before)) before'
shorter before after before' after' row row' e l =
    sym (front_taken before after row) ∙ ap (λ rows. take (suc (length before)) rows) e ∙ take-append-le (suc (length before)) before' (row' ∷ after') (omega (arith, l))

compared : (m n : ℕ) → (m ≡ n) ⊎ ((m < n) ⊎ (n < m))
compared zero zero = inl refl
compared zero (suc n) = inr (inl (omega arith))
compared (suc m) zero = inr (inr (omega arith))
compared (suc m) (suc n) = by (compared m n)
  where
    by : (m ≡ n) ⊎ ((m < n) ⊎ (n < m)) → (suc m ≡ suc n) ⊎ ((suc m < suc n) ⊎ (suc n < suc m))
    by (inl e) = inl (ap suc e)
    by (inr (inl l)) = inr (inl (omega (arith, l)))
    by (inr (inr l)) = inr (inr (omega (arith, l)))

not_before : (h : ℕ) (before after before' after' : List Row) (row row' : Row) → before ++ row ∷ after ≡ before' ++ row' ∷ after' → ¬ (RowsFit h (before ++ row ∷ [])) → RowsFit h before' → ¬ (length before < length before')
not_before h before after before' after' row row' e bad fits l =
    bad (subst (λ rows. RowsFit h rows) (sym (shorter before after before' after' row row' e l)) (fits_take h 0 0 (suc (length before)) before' fits))

pub same_place : (bytes : Bytes) (a b : ℕ) → IsBadAt bytes a → IsBadAt bytes b → a ≡ b
same_place bytes a b (no_form x) (no_form y) = refl
same_place bytes a b (no_form x) (no_row m before after row form is fits bad) = absurd (x m form)
same_place bytes a b (no_row m before after row form is fits bad) (no_form x) = absurd (x m form)
same_place bytes a b (no_row m before after row form is fits bad) (no_row n before' after' row' form' is' fits' bad') = by (compared (length before) (length before'))
  where
    same : m ≡ n
    same = same_form bytes m n form form'

    rows : before ++ row ∷ after ≡ before' ++ row' ∷ after'
    rows = sym is ∙ ap (λ (x : Fields). x.rows) same ∙ is'

    one : m.horizon ≡ n.horizon
    one = ap (λ (x : Fields). x.horizon) same

    by : (length before ≡ length before') ⊎ ((length before < length before') ⊎ (length before' < length before)) → 32 + 24 * length before ≡ 32 + 24 * length before'
    by (inl e) = ap (λ k. 32 + 24 * k) e
    by (inr (inl l)) = absurd (not_before m.horizon before after before' after' row row' rows bad (subst (λ h. RowsFit h before') (sym one) fits') l)
    by (inr (inr l)) = absurd (not_before n.horizon before' after' before after row' row (sym rows) bad' (subst (λ h. RowsFit h before) one fits) l)

pub never_both : (bytes : Bytes) (m : Fields) (a : ℕ) → IsMapping bytes m → IsBadAt bytes a → ⊥
never_both bytes m a good (no_form x) = x m good.form
never_both bytes m a good (no_row n before after row form is fits bad) =
    let same : m ≡ n = same_form bytes m n good.form form in
    let all : RowsFit n.horizon (before ++ row ∷ after) = subst (λ rows. RowsFit n.horizon rows) is (subst (λ (x : Fields). RowsFit x.horizon x.rows) same good.fits) in
    bad (subst (λ rows. RowsFit n.horizon rows) (front_taken before after row) (fits_take n.horizon 0 0 (suc (length before)) (before ++ row ∷ after) all))

-- ---- what is built

pub built : (horizon end : ℕ) (runs : List Run) → IsU64 horizon → IsU64 end → RowsFit horizon (placed 0 runs) → IsMapping (mapping_bytes horizon end runs) (record { horizon = horizon; end = end; rows = placed 0 runs })
built horizon end runs h e f = record {
  form = record {
    file = refl;
    horizon = h;
    end = e;
    count = count_fits horizon (placed 0 runs) (omega (arith, h)) f;
    numbers = numbers_fit horizon 0 0 (placed 0 runs) (omega (arith, h)) (omega arith) f;
  };
  fits = f;
}

pub runs_placed : (place : ℕ) (runs : List Run) → map run_of (placed place runs) ≡ runs
runs_placed place [] = refl
runs_placed place (run ∷ runs) = ap (λ rs. run ∷ rs) (runs_placed (place + run.length) runs)

-- ---- what is read

module _ (head : Head) (bytes : Bytes) (small : IsSmall head) where
  pub rows_form : (rows : List Row) → bytes ≡ flat_map row_bytes rows → length rows ≡ head.rows → AreNumbers rows → IsForm (head_bytes head ++ bytes) (record { horizon = head.horizon; end = head.end; rows = rows })
  rows_form rows is count numbers =
      let m : Fields = record { horizon = head.horizon; end = head.end; rows = rows } in
      record {
        file = (λ i. head_bytes (record { horizon = head.horizon; end = head.end; rows = sym count i }) ++ is i) ∙ sym (file_begins m);
        horizon = small.0;
        end = small.1;
        count = subst IsU64 (sym count) small.2;
        numbers = numbers;
      }

  -- bytes of the right length are some rows
  pub some_form : HasBytes bytes → length bytes ≡ 24 * head.rows → (m : Fields) × IsForm (head_bytes head ++ bytes) m
  some_form each long =
      let all = rows_of head.rows bytes each long in
      (record { horizon = head.horizon; end = head.end; rows = all.rows }, rows_form all.rows all.is all.count all.numbers)

  module _ (from place : ℕ) (rows : List Row) (left : Bytes) (read : bytes ≡ flat_map row_bytes rows ++ left) (numbers : AreNumbers rows) (known : SoFar head.horizon from place rows) (long : length bytes ≡ 24 * head.rows) where
    pub lengths : length bytes ≡ 24 * length rows + length left
    lengths = ap length read ∙ length-append (flat_map row_bytes rows) left ∙ ap (λ n. n + length left) (length_rows rows)

    none_left : length left < 24 → left ≡ []
    none_left few = by left few lengths
      where
        by : (xs : Bytes) → length xs < 24 → length bytes ≡ 24 * length rows + length xs → xs ≡ []
        by [] l e = refl
        by (x ∷ xs) l e = absurd (omega (arith, l, e, long))

    pub all_read : length left < 24 → IsMapping (head_bytes head ++ bytes) (record { horizon = head.horizon; end = head.end; rows = rows })
    all_read few =
        let end = none_left few in
        let e = lengths in
        record {
          form = rows_form rows (read ∙ ap (λ bs. flat_map row_bytes rows ++ bs) end ∙ append-nil (flat_map row_bytes rows)) (omega (arith, e, few, long)) numbers;
          fits = known.fits;
        }

    pub place_fits : (row : Row) (rest : Bytes) → left ≡ row_bytes row ++ rest → IsU64 (length bytes) → (n : ℕ) → length rows ≡ n → 32 + 24 * n < 2 ^ 64
    place_fits row rest is l n e =
        let a = lengths in
        let b : length left ≡ 24 + length rest = ap length is ∙ length-append (row_bytes row) rest in
        omega (arith, a, b, l, e, long)

    pub bad_row : (row : Row) (rest : Bytes) → left ≡ row_bytes row ++ rest → IsU64 row.at × IsU64 row.length × IsU64 row.place → HasBytes bytes → ¬ (RowFits head.horizon from place row) → IsBadAt (head_bytes head ++ bytes) (32 + 24 * length rows)
    bad_row row rest is bound each bad =
        let each_left : HasBytes left = bytes_behind (flat_map row_bytes rows) left (subst HasBytes read each) in
        let each_rest : HasBytes rest = bytes_behind (row_bytes row) rest (subst HasBytes is each_left) in
        let l = lengths in
        let n : length left ≡ 24 + length rest = ap length is ∙ length-append (row_bytes row) rest in
        let later = rows_of (head.rows - length rows - 1) rest each_rest (omega (arith, l, n, long)) in
        let all : List Row = rows ++ row ∷ later.rows in
        let spelled : bytes ≡ flat_map row_bytes (rows ++ row ∷ later.rows) = read ∙ ap (λ bs. flat_map row_bytes rows ++ bs) (is ∙ ap (λ bs. row_bytes row ++ bs) later.is) ∙ sym (flat_map-append row_bytes rows (row ∷ later.rows)) in
        let count : length (rows ++ row ∷ later.rows) ≡ head.rows = (let a = length-append rows (row ∷ later.rows) in let k = later.count in omega (arith, a, k, l, n, long)) in
        let form = rows_form (rows ++ row ∷ later.rows) spelled count (numbers_both rows (row ∷ later.rows) numbers (bound, later.numbers)) in
        no_row (record { horizon = head.horizon; end = head.end; rows = rows ++ row ∷ later.rows }) rows later.rows row form refl known.fits
        (no_more head.horizon from place rows row (omega (arith, small.0)) known bad)

pub read_more : (bytes left rest : Bytes) (rows more : List Row) (row : Row) → bytes ≡ flat_map row_bytes rows ++ left → left ≡ row_bytes row ++ rest → more ≡ rows ++ row ∷ [] → bytes ≡ flat_map row_bytes more ++ rest
read_more bytes left rest rows more row read is pushed =
    let all : flat_map row_bytes (rows ++ row ∷ []) ≡ flat_map row_bytes rows ++ row_bytes row = flat_map-append row_bytes rows (row ∷ []) ∙ ap (λ bs. flat_map row_bytes rows ++ bs) (append-nil (row_bytes row)) in
    read ∙ ap (λ bs. flat_map row_bytes rows ++ bs) is ∙ sym (append_assoc (flat_map row_bytes rows) (row_bytes row) rest) ∙ ap (λ bs. bs ++ rest) (sym all ∙ ap (λ rs. flat_map row_bytes rs) (sym pushed))

-- ---- what has no form

pub no_head : (bytes : Bytes) → ((head : Head) → ¬ (Begins bytes head)) → IsBadAt bytes 0
no_head bytes none = no_form (λ m f. none (head_of m) (form_begins bytes m f))

pub bad_length : (bytes rest : Bytes) (head : Head) → IsSmall head → bytes ≡ head_bytes head ++ rest → ¬ (length rest ≡ 24 * head.rows) → IsBadAt bytes 0
bad_length bytes rest head small is bad = no_form refused
  where
    refused : (m : Fields) → ¬ (IsForm bytes m)
    refused m f =
        let heads = same_head head (head_of m) rest (flat_map row_bytes m.rows) small (small_form bytes m f) (sym is ∙ f.file ∙ file_begins m) in
        bad (ap length heads.rest ∙ length_rows m.rows ∙ ap (λ n. 24 * n) (sym heads.rows))

-- The field of a reference: a branch, or `@` and the digits of a commit's name.
use Rattle.std.proofs.Common.{◌≡◌, ◌⊎◌, inl, inr, ℕ, suc, zero, ◌+◌, ◌-◌, ◌*◌, ◌/◌, ◌%◌, ◌<◌, ◌≤◌, Bool, true, false, cond, ◌&&◌, ◌==◌, [], ◌∷◌, ◌++◌, length, take, min, refl, sym, ap, ◌∙◌, subst, arith, nat_lt, length-append, IsTrue, Some, Result, Ok, Err}
use Rattle.std.specs.Prelude.{replicate, if◌then◌else◌}
use Rattle.std.specs.Result.{result_unwrap_or}
use Rattle.std.specs.List.{list_all, prefix_len}
use Rattle.std.proofs.lemmas.List.{length-replicate}
use Rattle.std.proofs.lemmas.List.Elements.{All-cons, All-nil, All-replicate}
use Rattle.std.proofs.lemmas.List.Sums.{AllPass-from_list_all, list_all-from_AllPass}
use Rattle.std.proofs.lemmas.List.Folds.{list_all-append}
use Rattle.std.proofs.lemmas.Bool.{cases_Bool}
use Rattle.hex.specs.Hex.{is_hex_digit, decode_of, decode_sized, decode_pairs}
use Rattle.hex.specs.declared.error.FromHexError.{FromHexError}
use Rattle.hex.specs.declared.error.FromHexError.TheVariants.{OddLength, InvalidStringLength}
use Rattle.hex.proofs.HexLemmas.{decode_of-digits}
use Rattle.ip_spec.specs.declared.command.Target.{Target}
use Rattle.ip_spec.specs.Path.{Bytes, AreBytes}
use Rattle.ip_spec.specs.Record.{IsHash, IsBranchName}
use Rattle.ip_spec.specs.Line.{IsHexDigit, IsHexPairs, IsHexText, IsTargetText}
use Rattle.ip_script.specs.declared.field.Field.TheVariants.{Name, Reference}
use Rattle.ip_script.specs.Fields.{is_word_byte, field_length, is_whole_field}
use Rattle.ip_script.specs.Words.{hash_of, target_of}
use Rattle.ip_script.proofs.Prefix.{prefix_within, prefix_stops, prefix_decided, all_in_prefix, equal_by, length_taken}
use Rattle.ip_script.proofs.Values.{IsField}
use Rattle.ip_script.proofs.FieldLaw.{FieldLaw, EndsWord}
use Rattle.ip_script.proofs.RunLaw.{name_law, name_length}
use Rattle.ip_script.proofs.HexLaw.{hex_of, pairs_of, contents_read}
use Rattle.ip_script.proofs.HexField.{stops}

-- the digits of a commit's name
record AreDigits (digits : Bytes) : Type 0 where
  long : length digits ≡ 64
  each : IsTrue (list_all is_hex_digit digits)

-- ---- what digits say

pairs_long : (bytes digits : Bytes) → IsHexPairs bytes digits → length digits ≡ 2 * length bytes
pairs_long [] [] p = refl
pairs_long [] (c ∷ digits) p = absurd p
pairs_long (b ∷ bytes) [] p = absurd p
pairs_long (b ∷ bytes) (c ∷ []) p = absurd p
pairs_long (b ∷ bytes) (c ∷ d ∷ digits) (high, low, p) = omega (arith, pairs_long bytes digits p)

small_digit : (n c : ℕ) → IsHexDigit n c → n < 16
small_digit n c (inl (l, e)) = omega (arith, l)
small_digit n c (inr (m, l, e)) = l

pairs_bytes : (bytes digits : Bytes) → IsHexPairs bytes digits → AreBytes bytes
pairs_bytes [] digits p = All-nil (λ b. b < 256)
pairs_bytes (b ∷ bytes) [] p = absurd p
pairs_bytes (b ∷ bytes) (c ∷ []) p = absurd p
pairs_bytes (b ∷ bytes) (c ∷ d ∷ digits) (high, low, p) = let n = small_digit (b / 16) c high in All-cons (λ b. b < 256) b bytes (omega (arith, n)) (pairs_bytes bytes digits p)

-- digits are a commit's name
hash_text : (digits bytes : Bytes) → AreDigits digits → IsHexText bytes digits → IsField Reference (64 ∷ digits)
hash_text digits [] are e = absurd (omega (arith, are.long, ap length e))
hash_text digits (b ∷ bytes) are p =
    let long = pairs_long (b ∷ bytes) digits p in
    (Target.Commit (b ∷ bytes), ((omega (arith, long, are.long), pairs_bytes (b ∷ bytes) digits p), digits, p, refl))

digits_field : (digits : Bytes) → AreDigits digits → IsField Reference (64 ∷ digits)
digits_field digits are =
    let h = hex_of digits (inr (record { some = omega (arith, are.long); even = ap (λ n. n % 2) are.long; each = are.each })) in
    hash_text digits h.0 are h.1

sized : (digits : Bytes) (bytes : Bytes) → length digits ≡ 64 → decode_of digits ≡ Ok bytes → hash_of digits ≡ bytes
sized digits bytes long is =
    let room : decode_sized digits 32 ≡ decode_pairs 0 digits = ap (λ (n : ℕ). if n % 2 == 1 then Err OddLength else if n / 2 == 32 then decode_pairs 0 digits else Err InvalidStringLength) long in
    let any : decode_of digits ≡ decode_pairs 0 digits = ap (λ (n : ℕ). if n % 2 == 1 then Err OddLength else decode_pairs 0 digits) long in
    ap (λ (r : Result Bytes FromHexError). result_unwrap_or r (replicate 32 0)) (room ∙ (sym any ∙ is))

digits_say : (digits hash : Bytes) → IsHash hash → IsHexPairs hash digits → hash ≡ hash_of digits
digits_say digits [] is p = absurd (omega (arith, is.0))
digits_say digits (b ∷ hash) is p =
    let pairs = pairs_of (b ∷ hash) digits p in
    let many = pairs_long (b ∷ hash) digits p in
    let d = decode_of-digits digits pairs.0 (AllPass-from_list_all is_hex_digit digits pairs.1) in
    contents_read (b ∷ hash) digits p ∙ (ap (λ (r : Result Bytes FromHexError). result_unwrap_or r []) d.1 ∙ sym (sized digits d.0 (omega (arith, many, is.0)) d.1))

-- ---- what a reference is

-- a name, or the digits of one behind `@`
kinds : (text : Bytes) → IsField Reference text → IsField Name text ⊎ ((digits : Bytes) × AreDigits digits × (text ≡ 64 ∷ digits))
kinds text (Target.Branch name, is) = inl (name, is)
kinds text (Target.Commit hash, (is, digits, p, e)) =
    let many = pairs_long hash digits p in
    inr (digits, record { long = omega (arith, many, is.0); each = (pairs_of hash digits p).1 }, e)

name_field : (text : Bytes) → IsField Name text → IsField Reference text
name_field text (name, is) = (Target.Branch name, is)

-- what a name says
name_says : (name : Bytes) → IsBranchName name → target_of name ≡ Target.Branch name
name_says [] is = refl
name_says (b ∷ name) is =
    elim (cases_Bool (b == 64)) [
      | inl h ↦ absurd (is.no_reference (ap Some (equal_by b 64 h)))
      | inr h ↦ ap (λ (d : Bool). if d then Target.Commit (hash_of name) else Target.Branch (b ∷ name)) h
    ]

one : (value : Target) (text : Bytes) → IsTargetText value text → value ≡ target_of text
one (Target.Branch name) text (is, e) = sym (name_says name is) ∙ ap target_of (sym e)
one (Target.Commit hash) text (is, digits, p, e) = ap Target.Commit (digits_say digits hash is p) ∙ ap target_of (sym e)

-- ---- how far it goes

length_by : (b : ℕ) (text : Bytes) (d : Bool) → (b == 64) ≡ d → field_length Reference (b ∷ text) ≡ cond d (1 + min 64 (prefix_len is_hex_digit text)) (min 255 (prefix_len is_word_byte (b ∷ text)))
length_by b text d h = ap (λ (e : Bool). cond e (1 + min 64 (prefix_len is_hex_digit text)) (min 255 (prefix_len is_word_byte (b ∷ text)))) h

whole_by : (b : ℕ) (text : Bytes) (n : ℕ) (d : Bool) → (b == 64) ≡ d → is_whole_field Reference (b ∷ text) n ≡ cond d (n == 65) (nat_lt 0 n)
whole_by b text n d h = ap (λ (e : Bool). cond e (n == 65) (nat_lt 0 n)) h

-- as far as a name
as_name : (b : ℕ) (text : Bytes) → (b == 64) ≡ false → field_length Reference (b ∷ text) ≡ field_length Name (b ∷ text)
as_name b text h = length_by b text false h ∙ sym (name_length b text false h)

within : (text : Bytes) → field_length Reference text ≤ length text
within [] = omega arith
within (b ∷ text) =
    elim (cases_Bool (b == 64)) [
      | inl h ↦ omega (arith, length_by b text true h, prefix_within is_hex_digit text)
      | inr h ↦ omega (arith, as_name b text h, name_law.within (b ∷ text))
    ]

at_sign : (b : ℕ) (text : Bytes) → (b == 64) ≡ true → b ∷ text ≡ 64 ∷ text
at_sign b text h = ap (λ (x : ℕ). x ∷ text) (equal_by b 64 h)

whole : (text : Bytes) → is_whole_field Reference text (field_length Reference text) ≡ true → IsField Reference (take (field_length Reference text) text)
whole [] w = absurd (cc)
whole (b ∷ text) w =
    let n = field_length Reference (b ∷ text) in
    elim (cases_Bool (b == 64)) [
      | inl h ↦
          let all : n ≡ 65 = equal_by n 65 (sym (whole_by b text n true h) ∙ w) in
          let long : 64 ≤ prefix_len is_hex_digit text = omega (arith, all, length_by b text true h) in
          let fits = prefix_within is_hex_digit text in
          subst (λ (k : ℕ). IsField Reference (take k (b ∷ text))) (sym all)
          (subst (IsField Reference) (sym (at_sign b (take 64 text) h)) (digits_field (take 64 text) (record { long = length_taken 64 text (omega (arith, long, fits)); each = all_in_prefix is_hex_digit text 64 long })))
      | inr h ↦
          let same = as_name b text h in
          subst (λ (k : ℕ). IsField Reference (take k (b ∷ text))) (sym same)
          (name_field (take (field_length Name (b ∷ text)) (b ∷ text)) (name_law.whole (b ∷ text) (ap (λ (k : ℕ). nat_lt 0 k) (sym same) ∙ (sym (whole_by b text n false h) ∙ w))))
    ]

-- a name does not begin as a commit's name does
not_at : (b : ℕ) (word : Bytes) → IsField Name (b ∷ word) → (b == 64) ≡ false
not_at b word (name, (is, e)) =
    elim (cases_Bool (b == 64)) [
      | inl h ↦ absurd ((subst IsBranchName (sym e) is).no_reference (ap Some (equal_by b 64 h)))
      | inr h ↦ h
    ]

IsTaken : Bytes → Bytes → Type 0
IsTaken word rest = (field_length Reference (word ++ rest) ≡ length word) × (is_whole_field Reference (word ++ rest) (field_length Reference (word ++ rest)) ≡ true)

name_taken : (word rest : Bytes) → IsField Name word → EndsWord rest → IsTaken word rest
unfolding IsTaken
name_taken [] rest (name, (is, e)) ends = absurd (omega (arith, is.some, ap length e))
name_taken (b ∷ word) rest is ends =
    let h = not_at b word is in
    let t = name_law.taken (b ∷ word) rest is ends in
    let same = as_name b (word ++ rest) h in
    (same ∙ t.0, whole_by b (word ++ rest) _ false h ∙ (ap (λ (k : ℕ). nat_lt 0 k) same ∙ t.1))

digits_taken : (digits rest : Bytes) → AreDigits digits → EndsWord rest → IsTaken (64 ∷ digits) rest
unfolding IsTaken
digits_taken digits rest are ends =
    let n = prefix_stops is_hex_digit digits rest are.each (stops rest ends) in
    let k : field_length Reference (64 ∷ (digits ++ rest)) ≡ 65 = omega (arith, n, are.long) in
    (omega (arith, k, are.long), ap (λ (j : ℕ). j == 65) k)

taken : (word rest : Bytes) → IsField Reference word → EndsWord rest → (field_length Reference (word ++ rest) ≡ length word) × (is_whole_field Reference (word ++ rest) (field_length Reference (word ++ rest)) ≡ true)
unfolding IsTaken
taken word rest is ends = elim (kinds word is) [
  | inl name ↦ name_taken word rest name ends
  | inr (digits, are, e) ↦ subst (λ (u : Bytes). IsTaken u rest) (sym e) (digits_taken digits rest are ends)
]

decided : (text : Bytes) (m : ℕ) (more : Bytes) → field_length Reference text < m → m ≤ length text → (field_length Reference (take m text ++ more) ≡ field_length Reference text) × (is_whole_field Reference (take m text ++ more) (field_length Reference text) ≡ is_whole_field Reference text (field_length Reference text))
decided [] m more h l = absurd (omega arith)
decided (b ∷ text) zero more h l = absurd (omega arith)
decided (b ∷ text) (suc m) more h l =
    elim (cases_Bool (b == 64)) [
      | inl e ↦
          let same = prefix_decided is_hex_digit text 64 m more (omega (arith, length_by b text true e, h)) (omega (arith, l)) in
          (length_by b (take m text ++ more) true e ∙ (ap (λ (k : ℕ). 1 + k) same ∙ sym (length_by b text true e)), refl)
      | inr e ↦
          let same = (name_law.decided (b ∷ text) (suc m) more (omega (arith, as_name b text e, h)) l).0 in
          (as_name b (take m text ++ more) e ∙ (same ∙ sym (as_name b text e)), refl)
    ]

zeros_are : (n : ℕ) → IsTrue (list_all is_hex_digit (replicate n 48))
zeros_are n = list_all-from_AllPass is_hex_digit (replicate n 48) (All-replicate (λ b. IsTrue (is_hex_digit b)) n 48 refl)

-- some digits of 64 go on
filled : (digits : Bytes) (n : ℕ) → n ≡ 64 - length digits → length digits ≤ 64 → IsTrue (list_all is_hex_digit digits) → AreDigits (digits ++ replicate n 48)
filled digits n left few each = record {
  long = (let all = length-append digits (replicate n 48) in let zeros = length-replicate {A = ℕ} n 48 in omega (arith, all, zeros, few, left));
  each = list_all-append is_hex_digit digits (replicate n 48) ∙ (ap (λ (x : Bool). x && list_all is_hex_digit (replicate n 48)) each ∙ zeros_are n);
}

begins : (text : Bytes) → (more : Bytes) × IsField Reference (take (field_length Reference text) text ++ more)
begins [] = let name = name_law.begins [] in (name.0, name_field name.0 name.1)
begins (b ∷ text) =
    elim (cases_Bool (b == 64)) [
      | inl h ↦
          let k = min 64 (prefix_len is_hex_digit text) in
          let fits = prefix_within is_hex_digit text in
          let few : length (take k text) ≤ 64 = (let long = length_taken k text (omega (arith, fits)) in omega (arith, long)) in
          let left : ℕ = 64 - length (take k text) in
          let zeros : Bytes = replicate left 48 in
          let reached : suc k ≡ field_length Reference (b ∷ text) = omega (arith, length_by b text true h) in (
            zeros,
            subst (λ (j : ℕ). IsField Reference (take j (b ∷ text) ++ zeros)) reached
                (subst (IsField Reference) (sym (at_sign b (take k text ++ zeros) h)) (digits_field (take k text ++ zeros) (filled (take k text) left refl few (all_in_prefix is_hex_digit text k (omega arith))))),
          )
      | inr h ↦
          let name = name_law.begins (b ∷ text) in
          (name.0, subst (λ (j : ℕ). IsField Reference (take j (b ∷ text) ++ name.0)) (sym (as_name b text h)) (name_field (take (field_length Name (b ∷ text)) (b ∷ text) ++ name.0) name.1))
    ]

pub reference_law : FieldLaw Reference
reference_law = record {
  one = one;
  within = within;
  whole = whole;
  taken = taken;
  decided = decided;
  begins = begins;
}

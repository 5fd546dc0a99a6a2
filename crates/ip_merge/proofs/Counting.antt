-- A text is a number's exactly where it is the one that the number is written as.
use Rattle.std.proofs.Common.{◌≡◌, ℕ, suc, ◌+◌, ◌-◌, ◌*◌, ◌^◌, ◌<◌, true, false, ◌&&◌, ◌==◌, List, [], ◌∷◌, length, Option, Some, None, IfSome, ℤ, pos, negsuc, neg_ℤ, refl, sym, ap, subst, ◌∙◌, arith, w64, to_z, of_z, ◌+ℤ◌, ◌-ℤ◌, rules, fold, if◌then◌else◌, le-leb}
use Rattle.std.specs.Str.{all_ascii_digits, IsUtf8}
use Rattle.std.specs.Int.{w128}
use Rattle.std.specs.Int.Signed.{mag}
use Rattle.std.specs.Int.RustNames.{FitsSigned}
use Rattle.std.specs.Fmt.{signed_decimal, decimal}
use Rattle.std.specs.Option.{option_and_then}
use Rattle.std.proofs.lemmas.Int.{to_z-of_z}
use Rattle.std.proofs.lemmas.Bool.Decides.{nat_tests}
use Rattle.std.proofs.lemmas.Str.{IsUtf8-from_ascii}
use Rattle.std.proofs.lemmas.Str.Parse.{IsNumeralModel, numerals_by_fold}
use Rattle.std.proofs.lemmas.Fmt.{digits_decimal, digits_value-decimal, decimal_nonempty, IsAscii-signed}
use Rattle.ip_merge.proofs.SameText.{same_bytes_itself, same_text}
use Rattle.ip_spec.specs.Path.{same_bytes}
use Rattle.ip_spec.specs.Merge.{digits_value, candidate, is_i64, counter_value, ancestor_value}

own : IsNumeralModel (λ ds. all_ascii_digits ds ≡ true) digits_value
own = numerals_by_fold (λ ds. all_ascii_digits ds ≡ true) (search rules) (λ n bytes. fold (λ n b. n * 10 + (b - 48)) n bytes) (search rules)

pub is_i64_where_fits : (z : ℤ) → FitsSigned w64 z → is_i64 z ≡ true
is_i64_where_fits (pos n) h = le-leb n 9223372036854775807 (omega (arith, h.sfits))
is_i64_where_fits (negsuc n) h = ap (λ b. b && true) (le-leb n 9223372036854775807 (omega (arith, h.sfits)))

pub fits_where_is_i64 : (z : ℤ) → is_i64 z ≡ true → FitsSigned w64 z
fits_where_is_i64 (pos n) h = record { sfits = grind (arith, nat_tests) }
fits_where_is_i64 (negsuc n) h = record { sfits = grind (arith, nat_tests) }

candidate_of_digits : (n : ℕ) (ds : List ℕ) → all_ascii_digits ds ≡ true → 0 < length ds → digits_value ds ≡ n → candidate ds ≡ pos n
candidate_of_digits n [] h some e = absurd (omega arith)
candidate_of_digits n (d ∷ ds) h some e =
    let other : (d == 45) ≡ false = grind (arith, nat_tests) in
    ap (λ t. if t then neg_ℤ (pos (digits_value ds)) else pos (digits_value (d ∷ ds))) other ∙ ap pos e

candidate_of_text : (z : ℤ) → FitsSigned w64 z → candidate (signed_decimal z) ≡ z
candidate_of_text (pos n) h =
    let small : n < 2 ^ 64 = omega (arith, h.sfits) in
    candidate_of_digits n (decimal n) (digits_decimal own n small) (decimal_nonempty n small) (digits_value-decimal own n small)
candidate_of_text (negsuc n) h = ap (λ m. neg_ℤ (pos m)) (digits_value-decimal own (suc n) (omega (arith, h.sfits)))

-- what the text stands for, by the candidate and its two tests
value_by : List ℕ → ℤ → Option ℤ
value_by bytes z = if same_bytes (signed_decimal z) bytes && is_i64 z then Some z else None

pub value_of_text : (z : ℤ) (bytes : List ℕ) → FitsSigned w64 z → bytes ≡ signed_decimal z → counter_value bytes ≡ Some z
unfolding value_by
value_of_text z bytes h e =
    ap counter_value e ∙ ap (value_by (signed_decimal z)) (candidate_of_text z h)
    ∙ ap (λ b. if b && is_i64 z then Some z else None) (same_bytes_itself (signed_decimal z))
    ∙ ap (λ b. if b then Some z else None) (is_i64_where_fits z h)

none_by : (bytes : List ℕ) (z : ℤ) → (is_i64 z ≡ true → bytes ≡ signed_decimal z → ⊥) → value_by bytes z ≡ None
unfolding value_by
none_by bytes z never =
    elim (same_bytes (signed_decimal z) bytes) as (λ s. same_bytes (signed_decimal z) bytes ≡ s → (if s && is_i64 z then Some z else None) ≡ None) [
      | false ↦ λ _. refl
      | true ↦ λ s. elim (is_i64 z) as (λ i. is_i64 z ≡ i → (if i then Some z else None) ≡ None) [
        | false ↦ λ _. refl
        | true ↦ λ i. absurd (never i (sym (same_text (signed_decimal z) bytes s)))
      ] refl
    ] refl

pub none_of_text : (bytes : List ℕ) → ((z : ℤ) → is_i64 z ≡ true → bytes ≡ signed_decimal z → ⊥) → None ≡ counter_value bytes
unfolding value_by
none_of_text bytes never = sym (none_by bytes (candidate bytes) (never (candidate bytes)))

pub text_is_utf8 : (z : ℤ) (bytes : List ℕ) → is_i64 z ≡ true → bytes ≡ signed_decimal z → IsUtf8 bytes
text_is_utf8 z bytes h e = subst IsUtf8 (sym e) (IsUtf8-from_ascii (signed_decimal z) (IsAscii-signed z (fits_where_is_i64 z h).sfits))

-- no sum of three numbers of 64 bits leaves 128
plain : ℤ → ℤ
plain z = to_z w128 (of_z w128 z)

plain_is : (z : ℤ) → FitsSigned w128 z → plain z ≡ z
unfolding plain
plain_is z h = to_z-of_z w128 z h

fits_more : (z y : ℤ) → FitsSigned w64 y → z ≡ y → FitsSigned w128 z
fits_more z y h e = subst (λ x. FitsSigned w128 x) (sym e) (record { sfits = omega (arith, h.sfits) })

sum_fits : (y z : ℤ) → FitsSigned w64 y → FitsSigned w64 z → FitsSigned w128 (y +ℤ z)
sum_fits y z f g = search rules

difference_fits : (x y z : ℤ) → FitsSigned w64 x → FitsSigned w64 y → FitsSigned w64 z → FitsSigned w128 (y +ℤ z -ℤ x)
difference_fits x y z e f g = search rules

pub wide_sum : (base left right x y z : ℤ) → FitsSigned w64 base → FitsSigned w64 left → FitsSigned w64 right → x ≡ to_z w64 (of_z w64 base) → y ≡ to_z w64 (of_z w64 left) → z ≡ to_z w64 (of_z w64 right)
    → to_z w128 (of_z w128 (to_z w128 (of_z w128 (to_z w128 (of_z w128 y) +ℤ to_z w128 (of_z w128 z))) -ℤ to_z w128 (of_z w128 x))) ≡ left +ℤ right -ℤ base
unfolding plain
wide_sum base left right x y z fb fl fr ex ey ez =
    let ix : x ≡ base = ex ∙ to_z-of_z w64 base fb in
    let iy : y ≡ left = ey ∙ to_z-of_z w64 left fl in
    let iz : z ≡ right = ez ∙ to_z-of_z w64 right fr in
    let px : plain x ≡ base = plain_is x (fits_more x base fb ix) ∙ ix in
    let py : plain y ≡ left = plain_is y (fits_more y left fl iy) ∙ iy in
    let pz : plain z ≡ right = plain_is z (fits_more z right fr iz) ∙ iz in
    let two : plain (plain y +ℤ plain z) ≡ left +ℤ right = (λ i. plain (py i +ℤ pz i)) ∙ plain_is (left +ℤ right) (sum_fits left right fl fr) in
    (λ i. plain (two i -ℤ px i)) ∙ plain_is (left +ℤ right -ℤ base) (difference_fits base left right fb fl fr)

-- the number of a text is one of 64 bits, and stands as it is
range_by : (bytes : List ℕ) (z : ℤ) → IfSome (value_by bytes z) (λ n. is_i64 n ≡ true)
unfolding value_by
range_by bytes z =
    elim (same_bytes (signed_decimal z) bytes) as (λ s. IfSome (if s && is_i64 z then Some z else None) (λ n. is_i64 n ≡ true)) [
      | false ↦ tt
      | true ↦ elim (is_i64 z) as (λ i. is_i64 z ≡ i → IfSome (if i then Some z else None) (λ n. is_i64 n ≡ true)) [ false ↦ λ _. tt | true ↦ λ e. e ] refl
    ]

pub side_range : (side : Option (List ℕ)) → IfSome (option_and_then counter_value side) (λ n. is_i64 n ≡ true)
unfolding value_by
side_range None = tt
side_range (Some bytes) = range_by bytes (candidate bytes)

pub ancestor_range : (base : Option (List ℕ)) → IfSome (ancestor_value base) (λ n. is_i64 n ≡ true)
unfolding value_by
ancestor_range None = refl
ancestor_range (Some bytes) = range_by bytes (candidate bytes)

pub number_is : (z : ℤ) → is_i64 z ≡ true → to_z w64 (of_z w64 z) ≡ z
number_is z h = to_z-of_z w64 z (fits_where_is_i64 z h)

pub sum_is : (z : ℤ) → mag z < 2 ^ 127 → to_z w128 (of_z w128 z) ≡ z
sum_is z h = to_z-of_z w128 z (record { sfits = h })

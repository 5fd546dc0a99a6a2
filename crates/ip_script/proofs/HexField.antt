-- The field of hex digits.
use Rattle.std.proofs.Common.{◌≡◌, ◌⊎◌, inl, inr, ℕ, suc, zero, ◌%◌, ◌<◌, ◌≤◌, Bool, true, false, cond, ◌&&◌, ◌||◌, ◌==◌, [], ◌∷◌, ◌++◌, length, take, refl, sym, ap, ◌∙◌, subst, arith, nat_lt, length-append, IsTrue}
use Rattle.std.specs.List.{list_all, prefix_len}
use Rattle.std.proofs.lemmas.List.Folds.{list_all-append}
use Rattle.std.proofs.lemmas.Bool.Decides.{nat_tests}
use Rattle.std.proofs.lemmas.Bool.{cases_Bool, and_from}
use Rattle.hex.specs.Hex.{is_hex_digit}
use Rattle.ip_spec.specs.Path.{Bytes}
use Rattle.ip_script.specs.declared.field.Field.TheVariants.{Hex}
use Rattle.ip_script.specs.Fields.{field_length, is_whole_field}
use Rattle.ip_script.proofs.Prefix.{prefix_within, prefix_stops, prefix_decided, all_in_prefix, Stops, and_parts, positive, positive_test, equal_by, length_taken, no_more, none_or_some}
use Rattle.ip_script.proofs.Values.{IsField}
use Rattle.ip_script.proofs.FieldLaw.{FieldLaw, EndsWord}
use Rattle.ip_script.proofs.HexLaw.{ArePairs, hex_of, field_of_hex, contents_read}

hex_step : (b : ℕ) (text : Bytes) (d : Bool) → (b == 45) ≡ d → field_length Hex (b ∷ text) ≡ cond d 1 (prefix_len is_hex_digit (b ∷ text))
hex_step b text d h = ap (λ e. cond e 1 (prefix_len is_hex_digit (b ∷ text))) h

hex_whole : (b : ℕ) (text : Bytes) (n : ℕ) (d : Bool) → (b == 45) ≡ d → is_whole_field Hex (b ∷ text) n ≡ (d || (nat_lt 0 n && n % 2 == 0))
hex_whole b text n d h = ap (λ e. e || (nat_lt 0 n && n % 2 == 0)) h

within : (text : Bytes) → field_length Hex text ≤ length text
within [] = omega arith
within (b ∷ text) =
    elim (cases_Bool (b == 45)) [
      | inl h ↦ omega (arith, hex_step b text true h)
      | inr h ↦ omega (arith, hex_step b text false h, prefix_within is_hex_digit (b ∷ text))
    ]

whole : (text : Bytes) → is_whole_field Hex text (field_length Hex text) ≡ true → IsField Hex (take (field_length Hex text) text)
whole [] w = absurd (cc)
whole (b ∷ text) w =
    elim (cases_Bool (b == 45)) [
      | inl h ↦ hex_of _ (inl (ap (λ n. take n (b ∷ text)) (hex_step b text true h) ∙ ap (λ (x : ℕ). x ∷ []) (equal_by b 45 h)))
      | inr h ↦
          let n = field_length Hex (b ∷ text) in
          let long : length (take n (b ∷ text)) ≡ n = length_taken n (b ∷ text) (within (b ∷ text)) in
          let parts = and_parts (nat_lt 0 n) (n % 2 == 0) (sym (hex_whole b text n false h) ∙ w) in
          let even : length (take n (b ∷ text)) % 2 ≡ 0 = ap (λ k. k % 2) long ∙ equal_by (n % 2) 0 parts.1 in
          hex_of _ (inr (record { some = omega (arith, long, positive n parts.0); even = even; each = all_in_prefix is_hex_digit (b ∷ text) n (omega (arith, hex_step b text false h)) }))
    ]

pub stops : (rest : Bytes) → EndsWord rest → Stops is_hex_digit rest
stops [] h = tt
stops (x ∷ rest) h = ap is_hex_digit h

no_dash : (b : ℕ) → is_hex_digit b ≡ true → (b == 45) ≡ false
no_dash b h =
    elim (cases_Bool (b == 45)) [
      | inl e ↦ absurd (dash_no_digit (sym (ap is_hex_digit (equal_by b 45 e)) ∙ h))
      | inr e ↦ e
    ]
  where
    dash_no_digit : false ≡ true → ⊥
    dash_no_digit h = cc

zero_test : (n : ℕ) → n ≡ 0 → (n == 0) ≡ true
zero_test n h = grind (arith, nat_tests)

taken : (value rest : Bytes) → (value ≡ 45 ∷ []) ⊎ ArePairs value → EndsWord rest → (field_length Hex (value ++ rest) ≡ length value) × (is_whole_field Hex (value ++ rest) (field_length Hex (value ++ rest)) ≡ true)
taken value rest (inl dash) e = subst (λ (u : Bytes). (field_length Hex (u ++ rest) ≡ length u) × (is_whole_field Hex (u ++ rest) (field_length Hex (u ++ rest)) ≡ true)) (sym dash) (refl, refl)
taken [] rest (inr pairs) e = absurd (omega (arith, pairs.some))
taken (b ∷ value) rest (inr pairs) e =
    let other : (b == 45) ≡ false = no_dash b (and_parts (is_hex_digit b) (list_all is_hex_digit value) pairs.each).0 in
    let n : field_length Hex (b ∷ (value ++ rest)) ≡ length (b ∷ value) = hex_step b (value ++ rest) false other ∙ prefix_stops is_hex_digit (b ∷ value) rest pairs.each (stops rest e) in
    let k = field_length Hex (b ∷ (value ++ rest)) in
    (n, hex_whole b (value ++ rest) k false other ∙ and_from _ _ (positive_test k (omega (arith, n))) (zero_test (k % 2) (ap (λ j. j % 2) n ∙ pairs.even)))

decided : (text : Bytes) (m : ℕ) (more : Bytes) → field_length Hex text < m → m ≤ length text → (field_length Hex (take m text ++ more) ≡ field_length Hex text) × (is_whole_field Hex (take m text ++ more) (field_length Hex text) ≡ is_whole_field Hex text (field_length Hex text))
decided [] m more h l = absurd (omega arith)
decided (b ∷ text) zero more h l = absurd (omega arith)
decided (b ∷ text) (suc m) more h l =
    elim (cases_Bool (b == 45)) [
      | inl e ↦ (hex_step b (take m text ++ more) true e ∙ sym (hex_step b text true e), refl)
      | inr e ↦
          let same = prefix_decided is_hex_digit (b ∷ text) (suc m) (suc m) more (omega (arith, hex_step b text false e, h)) l in
          (hex_step b (take m text ++ more) false e ∙ (omega (arith, same, h, hex_step b text false e) ∙ sym (hex_step b text false e)), refl)
    ]

even_or_odd : (n : ℕ) → (n % 2 ≡ 0) ⊎ (n % 2 ≡ 1)
even_or_odd n = elim (none_or_some (n % 2)) [ inl h ↦ inl h | inr h ↦ inr (omega arith) ]

-- one digit more makes an odd number of digits even
begins : (text : Bytes) → (more : Bytes) × IsField Hex (take (field_length Hex text) text ++ more)
begins [] = (45 ∷ [], hex_of _ (inl refl))
begins (b ∷ text) =
    let n = field_length Hex (b ∷ text) in
    let long : length (take n (b ∷ text)) ≡ n = length_taken n (b ∷ text) (within (b ∷ text)) in
    elim (cases_Bool (b == 45)) [
      | inl dash ↦ ([], hex_of _ (inl (no_more (take n (b ∷ text)) ∙ (ap (λ k. take k (b ∷ text)) (hex_step b text true dash) ∙ ap (λ (x : ℕ). x ∷ []) (equal_by b 45 dash)))))
      | inr other ↦
          let digits : IsTrue (list_all is_hex_digit (take n (b ∷ text))) = all_in_prefix is_hex_digit (b ∷ text) n (omega (arith, hex_step b text false other)) in
          elim (none_or_some n) [
            | inl none ↦ (45 ∷ [], subst (λ (k : ℕ). IsField Hex (take k (b ∷ text) ++ 45 ∷ [])) (sym none) (hex_of _ (inl refl)))
            | inr some ↦ elim (even_or_odd n) [
              | inl even ↦ ([], subst (IsField Hex) (sym (no_more (take n (b ∷ text)))) (hex_of _ (inr (record { some = omega (arith, long); even = ap (λ k. k % 2) long ∙ even; each = digits }))))
              | inr odd ↦ (
                48 ∷ [],
                hex_of _ (inr (record {
                  some = omega (arith, length-append (take n (b ∷ text)) (48 ∷ []));
                  even = omega (arith, length-append (take n (b ∷ text)) (48 ∷ []), long, odd);
                  each = list_all-append is_hex_digit (take n (b ∷ text)) (48 ∷ []) ∙ ap (λ x. x && true) digits;
                })),
              )
            ]
          ]
    ]

pub hex_law : FieldLaw Hex
hex_law = record {
  one = contents_read;
  within = within;
  whole = whole;
  taken = λ word rest is ends. taken word rest (field_of_hex is.0 word is.1) ends;
  decided = decided;
  begins = begins;
}

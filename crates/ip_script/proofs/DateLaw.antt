-- The field of a date.
use Rattle.std.proofs.Common.{◌≡◌, ◌≢◌, ◌⊎◌, inl, inr, ℕ, suc, zero, ◌+◌, ◌-◌, ◌*◌, ◌/◌, ◌%◌, ◌^◌, ◌<◌, ◌≤◌, Bool, true, false, cond, ◌==◌, [], ◌∷◌, ◌++◌, length, take, get_or, refl, sym, ap, ◌∙◌, subst, arith, nat_lt, Option, Some, None, length-append, append_assoc}
use Rattle.std.specs.Fmt.{decimal}
use Rattle.std.proofs.lemmas.Bool.Decides.{nat_tests}
use Rattle.std.proofs.lemmas.Fmt.{decimal_digit, decimal_step, decimal_by_steps, decimal_nonempty, first_decimal}
use Rattle.std.proofs.lemmas.Bool.{cases_Bool}
use Rattle.ip_spec.specs.Path.{Bytes}
use Rattle.ip_script.specs.declared.field.Field.TheVariants.{Date}
use Rattle.ip_script.specs.Dates.{next_value, digits_on, value_on, date_length, date_value}
use Rattle.ip_script.specs.Fields.{field_length}
use Rattle.ip_script.proofs.Prefix.{positive, positive_test, equal_by, no_more}
use Rattle.ip_script.proofs.Values.{IsField}
use Rattle.ip_script.proofs.FieldLaw.{FieldLaw, EndsWord}
use Rattle.ip_script.proofs.RunLaw.{whole_begins}

-- ---- one digit more

none_or_next : (o : Option ℕ) → (o ≡ None) ⊎ ((next : ℕ) × (o ≡ Some next))
none_or_next None = inl refl
none_or_next (Some next) = inr (next, refl)

-- what a next digit is
next_is : (value b next : ℕ) → next_value value b ≡ Some next → (48 ≤ b) × (b ≤ 57) × (next ≡ value * 10 + (b - 48)) × (next < 2 ^ 64)
next_is value b next h = (grind (arith, nat_tests), grind (arith, nat_tests), grind (arith, nat_tests), grind (arith, nat_tests))

-- a digit that fits goes on
goes_on : (value d : ℕ) → d < 10 → value * 10 + d < 2 ^ 64 → next_value value (48 + d) ≡ Some (value * 10 + d)
goes_on value d small fits = grind (arith, nat_tests)

no_digit : (value : ℕ) → next_value value 32 ≡ None
no_digit value = refl

counts : (value b : ℕ) (text : Bytes) (o : Option ℕ) → next_value value b ≡ o → digits_on value (b ∷ text) ≡ elim o [ None ↦ 0 | Some next ↦ 1 + digits_on next text ]
counts value b text o h = ap (λ (o : Option ℕ). elim o as (λ _. ℕ) [ None ↦ 0 | Some next ↦ 1 + digits_on next text ]) h

comes_to : (value b : ℕ) (text : Bytes) (o : Option ℕ) → next_value value b ≡ o → value_on value (b ∷ text) ≡ elim o [ None ↦ value | Some next ↦ value_on next text ]
comes_to value b text o h = ap (λ (o : Option ℕ). elim o as (λ _. ℕ) [ None ↦ value | Some next ↦ value_on next text ]) h

digits_within : (value : ℕ) (text : Bytes) → digits_on value text ≤ length text
digits_within value [] = omega arith
digits_within value (b ∷ text) =
    elim (none_or_next (next_value value b)) [
      | inl h ↦ omega (arith, counts value b text None h)
      | inr (next, h) ↦ omega (arith, counts value b text (Some next) h, digits_within next text)
    ]

-- the byte behind decides how many digits go on
digits_decided : (value : ℕ) (text : Bytes) (m : ℕ) (more : Bytes) → digits_on value text < m → m ≤ length text → digits_on value (take m text ++ more) ≡ digits_on value text
digits_decided value text zero more h l = absurd (omega arith)
digits_decided value [] (suc m) more h l = absurd (omega arith)
digits_decided value (b ∷ text) (suc m) more h l =
    elim (none_or_next (next_value value b)) [
      | inl e ↦ counts value b (take m text ++ more) None e ∙ sym (counts value b text None e)
      | inr (next, e) ↦ omega (arith, counts value b text (Some next) e, counts value b (take m text ++ more) (Some next) e, digits_decided next text m more (omega (arith, counts value b text (Some next) e)) (omega arith))
    ]

-- ---- a number, and the digits behind it

-- what digits that go on come to is written so
grown : (value : ℕ) (text : Bytes) → 0 < value → value < 2 ^ 64 → (value_on value text < 2 ^ 64) × (decimal (value_on value text) ≡ decimal value ++ take (digits_on value text) text)
grown value [] some small = (small, sym (no_more (decimal value)))
grown value (b ∷ text) some small =
    elim (none_or_next (next_value value b)) [
      | inl h ↦
          let count : digits_on value (b ∷ text) ≡ 0 = counts value b text None h in
          let same : value_on value (b ∷ text) ≡ value = comes_to value b text None h in
          (omega (arith, same, small), ap decimal same ∙ (sym (no_more (decimal value)) ∙ ap (λ k. decimal value ++ take k (b ∷ text)) (sym count)))
      | inr (next, h) ↦
          let is = next_is value b next h in
          let more = grown next text (omega (arith, some, is.2)) is.3 in
          let count : digits_on value (b ∷ text) ≡ suc (digits_on next text) = omega (arith, counts value b text (Some next) h) in
          let same : value_on value (b ∷ text) ≡ value_on next text = comes_to value b text (Some next) h in
          let front : next / 10 ≡ value = omega (arith, is.0, is.1, is.2) in
          let last : 48 + next % 10 ≡ b = omega (arith, is.0, is.1, is.2) in
          let written : decimal next ≡ decimal value ++ b ∷ [] = decimal_step next (omega (arith, some, is.2)) is.3 ∙ (ap (λ k. decimal k ++ (48 + next % 10) ∷ []) front ∙ ap (λ x. decimal value ++ x ∷ []) last) in (
            omega (arith, same, more.0),
            ap decimal same ∙ (more.1 ∙ (ap (λ (ds : Bytes). ds ++ take (digits_on next text) text) written
                ∙ (append_assoc (decimal value) (b ∷ []) (take (digits_on next text) text) ∙ ap (λ k. decimal value ++ take k (b ∷ text)) (sym count)))),
          )
    ]

-- a number's digits go on as the number does
Goes : ℕ → Bytes → Type 0
Goes n ds = 0 < n → n < 2 ^ 64 → (rest : Bytes) → (digits_on 0 (ds ++ rest) ≡ length ds + digits_on n rest) × (value_on 0 (ds ++ rest) ≡ value_on n rest)

goes_one : (n : ℕ) → n < 10 → Goes n ((48 + n) ∷ [])
unfolding Goes
goes_one n low some small rest =
    let is : next_value 0 (48 + n) ≡ Some n = goes_on 0 n low (omega (arith, low)) ∙ ap Some (omega arith) in
    (counts 0 (48 + n) rest (Some n) is, comes_to 0 (48 + n) rest (Some n) is)

goes_more : (n : ℕ) (ds : Bytes) → 10 ≤ n → Goes (n / 10) ds → Goes n (ds ++ (48 + n % 10) ∷ [])
unfolding Goes
goes_more n ds high front some small rest =
    let d = 48 + n % 10 in
    let so_far = front (omega (arith, high)) (omega (arith, small)) (d ∷ rest) in
    let is : next_value (n / 10) d ≡ Some n = goes_on (n / 10) (n % 10) (omega arith) (omega (arith, small)) ∙ ap Some (omega arith) in
    let whole = append_assoc ds (d ∷ []) rest in (
      omega (arith, ap (digits_on 0) whole, so_far.0, counts (n / 10) d rest (Some n) is, length-append ds (d ∷ [])),
      ap (value_on 0) whole ∙ (so_far.1 ∙ comes_to (n / 10) d rest (Some n) is),
    )

goes : (n : ℕ) → 0 < n → n < 2 ^ 64 → (rest : Bytes) → (digits_on 0 (decimal n ++ rest) ≡ length (decimal n) + digits_on n rest) × (value_on 0 (decimal n ++ rest) ≡ value_on n rest)
unfolding Goes
goes n some small rest = decimal_by_steps Goes goes_one goes_more n small some small rest

ends : (n : ℕ) (rest : Bytes) → EndsWord rest → (digits_on n rest ≡ 0) × (value_on n rest ≡ n)
ends n [] e = (refl, refl)
ends n (b ∷ rest) e = let none : next_value n b ≡ None = ap (next_value n) e ∙ no_digit n in (counts n b rest None none, comes_to n b rest None none)

-- ---- dates

length_by : (b : ℕ) (text : Bytes) (d : Bool) → (b == 48) ≡ d → date_length (b ∷ text) ≡ cond d 1 (digits_on 0 (b ∷ text))
length_by b text d h = ap (λ e. cond e 1 (digits_on 0 (b ∷ text))) h

value_by : (b : ℕ) (text : Bytes) (d : Bool) → (b == 48) ≡ d → date_value (b ∷ text) ≡ cond d 0 (value_on 0 (b ∷ text))
value_by b text d h = ap (λ e. cond e 0 (value_on 0 (b ∷ text))) h

zero_written : decimal 0 ≡ 48 ∷ []
zero_written = decimal_digit 0 (omega arith)

other_start : (ds rest : Bytes) → 48 < get_or ds 0 0 → (date_length (ds ++ rest) ≡ digits_on 0 (ds ++ rest)) × (date_value (ds ++ rest) ≡ value_on 0 (ds ++ rest))
other_start [] rest h = absurd (omega (arith, h))
other_start (b ∷ ds) rest h = let other = apart b h in (length_by b (ds ++ rest) false other, value_by b (ds ++ rest) false other)
  where
    apart : (b : ℕ) → 48 < b → (b == 48) ≡ false
    apart b h = grind (arith, nat_tests)

-- a number in front is taken whole
number_read : (n : ℕ) (rest : Bytes) → n < 2 ^ 64 → EndsWord rest → (date_length (decimal n ++ rest) ≡ length (decimal n)) × (date_value (decimal n ++ rest) ≡ n)
number_read zero rest small e = subst (λ (ds : Bytes). (date_length (ds ++ rest) ≡ length ds) × (date_value (ds ++ rest) ≡ 0)) (sym zero_written) (refl, refl)
number_read (suc n) rest small e =
    let start = other_start (decimal (suc n)) rest (first_decimal (suc n) (omega arith) small) in
    let on = goes (suc n) (omega arith) small rest in
    let end = ends (suc n) rest e in
    (omega (arith, start.0, on.0, end.0), start.1 ∙ (on.1 ∙ end.1))

date_within : (text : Bytes) → date_length text ≤ length text
date_within [] = omega arith
date_within (b ∷ text) =
    elim (cases_Bool (b == 48)) [
      | inl h ↦ omega (arith, length_by b text true h)
      | inr h ↦ omega (arith, length_by b text false h, digits_within 0 (b ∷ text))
    ]

date_decided : (text : Bytes) (m : ℕ) (more : Bytes) → date_length text < m → m ≤ length text → date_length (take m text ++ more) ≡ date_length text
date_decided [] m more h l = absurd (omega arith)
date_decided (b ∷ text) zero more h l = absurd (omega arith)
date_decided (b ∷ text) (suc m) more h l =
    elim (cases_Bool (b == 48)) [
      | inl e ↦ length_by b (take m text ++ more) true e ∙ sym (length_by b text true e)
      | inr e ↦
          let same = digits_decided 0 (b ∷ text) (suc m) more (omega (arith, length_by b text false e, h)) l in
          length_by b (take m text ++ more) false e ∙ (same ∙ sym (length_by b text false e))
    ]

-- digits of which the first is no zero
spelled : (b next : ℕ) (text : Bytes) → (b == 48) ≡ false → next_value 0 b ≡ Some next → IsField Date (take (digits_on 0 (b ∷ text)) (b ∷ text))
spelled b next text other h =
    let is = next_is 0 b next h in
    let some : 0 < next = omega (arith, is.0, is.2, apart b other) in
    let more = grown next text some is.3 in
    let count : digits_on 0 (b ∷ text) ≡ suc (digits_on next text) = omega (arith, counts 0 b text (Some next) h) in
    let first : decimal next ≡ b ∷ [] = decimal_digit next (omega (arith, is.1, is.2)) ∙ ap (λ (x : ℕ). x ∷ []) (omega (arith, is.0, is.2)) in (
      value_on next text,
      (
        more.0,
        ap (λ k. take k (b ∷ text)) count ∙ sym (more.1 ∙ ap (λ (ds : Bytes). ds ++ take (digits_on next text) text) first),
      ),
    )
  where
    apart : (b : ℕ) → (b == 48) ≡ false → b ≢ 48
    apart b h = grind (arith, nat_tests)

date_whole : (text : Bytes) → nat_lt 0 (date_length text) ≡ true → IsField Date (take (date_length text) text)
date_whole [] w = absurd (cc)
date_whole (b ∷ text) w =
    elim (cases_Bool (b == 48)) [
      | inl h ↦ (0, (omega arith, ap (λ k. take k (b ∷ text)) (length_by b text true h) ∙ (ap (λ (x : ℕ). x ∷ []) (equal_by b 48 h) ∙ sym zero_written)))
      | inr h ↦ elim (none_or_next (next_value 0 b)) [
        | inl none ↦ absurd (omega (arith, positive _ w, length_by b text false h, counts 0 b text None none))
        | inr (next, is) ↦ subst (λ k. IsField Date (take k (b ∷ text))) (sym (length_by b text false h)) (spelled b next text h is)
      ]
    ]

pub date_law : FieldLaw Date
date_law = record {
  one = λ value text is. sym (ap date_value (is.1 ∙ sym (no_more (decimal value))) ∙ (number_read value [] is.0 tt).1);
  within = date_within;
  whole = date_whole;
  taken = taken;
  decided = λ text m more h l. (date_decided text m more h l, refl);
  begins = whole_begins Date (48 ∷ []) (0, (omega arith, sym zero_written)) date_whole;
}
  where
    taken : (word rest : Bytes) → IsField Date word → EndsWord rest → (field_length Date (word ++ rest) ≡ length word) × (nat_lt 0 (field_length Date (word ++ rest)) ≡ true)
    taken word rest (n, (small, e)) end =
        let long : date_length (word ++ rest) ≡ length word = subst (λ (u : Bytes). date_length (u ++ rest) ≡ length u) (sym e) (number_read n rest small end).0 in
        (long, positive_test _ (omega (arith, long, ap length e, decimal_nonempty n small)))

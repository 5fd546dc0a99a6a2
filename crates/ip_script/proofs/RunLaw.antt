-- Fields that are bytes of one kind, so many at most.
use Rattle.std.proofs.Common.{◌≡◌, ◌≢◌, inl, inr, ℕ, suc, zero, ◌<◌, ◌≤◌, Bool, true, false, cond, ◌==◌, [], ◌∷◌, ◌++◌, length, take, min, refl, sym, ap, ◌∙◌, subst, arith, nat_lt, IsTrue, Some}
use Rattle.std.specs.Prelude.{All, slice_get}
use Rattle.std.specs.List.{list_all, prefix_len}
use Rattle.std.proofs.lemmas.Bool.Decides.{nat_tests}
use Rattle.std.proofs.lemmas.List.Sums.{AllPass-from_list_all, list_all-from_AllPass}
use Rattle.std.proofs.lemmas.Bool.{cases_Bool}
use Rattle.ip_base.specs.PathText.{IsWordByte}
use Rattle.ip_spec.specs.Path.{Bytes}
use Rattle.ip_spec.specs.Record.{IsBranchName}
use Rattle.ip_script.specs.declared.field.Field.{Field}
use Rattle.ip_script.specs.declared.field.Field.TheVariants.{Name, Author, Message}
use Rattle.ip_script.specs.Fields.{is_message_byte, is_word_byte, field_length}
use Rattle.ip_script.proofs.Values.{IsField}
use Rattle.ip_script.proofs.Prefix.{prefix_within, prefix_stops, prefix_decided, all_in_prefix, Stops, positive, positive_test, equal_by, length_taken, no_more, none_or_some}
use Rattle.ip_script.proofs.FieldLaw.{FieldLaw, EndsWord}

-- one or more bytes that pass the test
pub record IsRun (p : ℕ → Bool) (most : ℕ) (text : Bytes) : Type 0 where
  pub some : 0 < length text
  pub short : length text ≤ most
  pub each : IsTrue (list_all p text)

module _ (p : ℕ → Bool) (most : ℕ) where
  run_within : (text : Bytes) → min most (prefix_len p text) ≤ length text
  run_within text = omega (arith, prefix_within p text)

  run_whole : (text : Bytes) → nat_lt 0 (min most (prefix_len p text)) ≡ true → IsRun p most (take (min most (prefix_len p text)) text)
  run_whole text w =
      let n = min most (prefix_len p text) in
      let long : length (take n text) ≡ n = length_taken n text (run_within text) in
      record { some = omega (arith, long, positive n w); short = omega (arith, long); each = all_in_prefix p text n (omega arith) }

  run_taken : (word rest : Bytes) → IsRun p most word → Stops p rest → (min most (prefix_len p (word ++ rest)) ≡ length word) × (nat_lt 0 (min most (prefix_len p (word ++ rest))) ≡ true)
  run_taken word rest is stops =
      let n : prefix_len p (word ++ rest) ≡ length word = prefix_stops p word rest is.each stops in
      (omega (arith, n, is.short), positive_test _ (omega (arith, n, is.some, is.short)))

-- a field of which any part is a field goes on from what was taken of it
pub whole_begins : (f : Field) (sample : Bytes) → IsField f sample → ((text : Bytes) → nat_lt 0 (field_length f text) ≡ true → IsField f (take (field_length f text) text)) → (text : Bytes) → (more : Bytes) × IsField f (take (field_length f text) text ++ more)
whole_begins f sample is whole text =
    let n = field_length f text in
    elim (none_or_some n) [
      | inl none ↦ (sample, subst (λ (k : ℕ). IsField f (take k text ++ sample)) (sym none) is)
      | inr some ↦ ([], subst (IsField f) (sym (no_more (take n text))) (whole text (positive_test n some)))
    ]

-- a byte that does not pass is a space
word_stops : (p : ℕ → Bool) → p 32 ≡ false → (rest : Bytes) → EndsWord rest → Stops p rest
word_stops p no_space [] e = tt
word_stops p no_space (b ∷ rest) e = ap p e ∙ no_space

-- ---- authors

word_passes : (b : ℕ) → IsWordByte b → is_word_byte b ≡ true
word_passes b h = grind (arith, nat_tests, h)

word_passed : (b : ℕ) → is_word_byte b ≡ true → IsWordByte b
word_passed b h = (grind (arith, nat_tests), grind (arith, nat_tests), grind (arith, nat_tests), grind (arith, nat_tests))

words_pass : (text : Bytes) → All IsWordByte text → IsTrue (list_all is_word_byte text)
words_pass text each = list_all-from_AllPass is_word_byte text (λ i d l. word_passes _ (each i d l))

words_passed : (text : Bytes) → IsTrue (list_all is_word_byte text) → All IsWordByte text
words_passed text each = let all = AllPass-from_list_all is_word_byte text each in λ i d l. word_passed _ (all i d l)

author_field : (text : Bytes) → IsRun is_word_byte 255 text → IsField Author text
author_field text r = (text, (record { some = r.some; short = r.short; each = words_passed text r.each }, refl))

field_author : (text : Bytes) → IsField Author text → IsRun is_word_byte 255 text
field_author text (author, (is, e)) = subst (IsRun is_word_byte 255) (sym e) (record { some = is.some; short = is.short; each = words_pass author is.each })

pub author_law : FieldLaw Author
author_law = record {
  one = λ value text is. sym is.1;
  within = run_within is_word_byte 255;
  whole = whole;
  taken = λ word rest is ends. run_taken is_word_byte 255 word rest (field_author word is) (word_stops is_word_byte refl rest ends);
  decided = λ text m more h l. (prefix_decided is_word_byte text 255 m more h l, refl);
  begins = whole_begins Author (97 ∷ []) (author_field (97 ∷ []) (record { some = omega arith; short = omega arith; each = refl })) whole;
}
  where
    whole : (text : Bytes) → nat_lt 0 (field_length Author text) ≡ true → IsField Author (take (field_length Author text) text)
    whole text w = author_field _ (run_whole is_word_byte 255 text w)

-- ---- messages

message_passes : (b : ℕ) → (b < 256) × (b ≢ 10) × (b ≢ 0) → is_message_byte b ≡ true
message_passes b h = grind (arith, nat_tests, h)

message_passed : (b : ℕ) → is_message_byte b ≡ true → (b < 256) × (b ≢ 10) × (b ≢ 0)
message_passed b h = (grind (arith, nat_tests), grind (arith, nat_tests), grind (arith, nat_tests))

message_field : (text : Bytes) → IsRun is_message_byte 4096 text → IsField Message text
message_field text r =
    let all = AllPass-from_list_all is_message_byte text r.each in
    (text, (record { some = r.some; short = r.short; each = λ i d l. message_passed _ (all i d l) }, refl))

field_message : (text : Bytes) → IsField Message text → IsRun is_message_byte 4096 text
field_message text (message, (is, e)) =
    subst (IsRun is_message_byte 4096) (sym e) (record { some = is.some; short = is.short; each = list_all-from_AllPass is_message_byte message (λ i d l. message_passes _ (is.each i d l)) })

-- nothing stands behind a message
pub message_law : FieldLaw Message
message_law = record {
  one = λ value text is. sym is.1;
  within = run_within is_message_byte 4096;
  whole = whole;
  taken = λ word rest is ends. run_taken is_message_byte 4096 word rest (field_message word is) (subst (Stops is_message_byte) (sym ends) tt);
  decided = λ text m more h l. (prefix_decided is_message_byte text 4096 m more h l, refl);
  begins = whole_begins Message (97 ∷ []) (message_field (97 ∷ []) (record { some = omega arith; short = omega arith; each = refl })) whole;
}
  where
    whole : (text : Bytes) → nat_lt 0 (field_length Message text) ≡ true → IsField Message (take (field_length Message text) text)
    whole text w = message_field _ (run_whole is_message_byte 4096 text w)

-- ---- names

pub name_length : (b : ℕ) (text : Bytes) (d : Bool) → (b == 64) ≡ d → field_length Name (b ∷ text) ≡ cond d 0 (min 255 (prefix_len is_word_byte (b ∷ text)))
name_length b text d h = ap (λ e. cond e 0 (min 255 (prefix_len is_word_byte (b ∷ text)))) h

differs : (b : ℕ) → (b == 64) ≡ false → b ≡ 64 → ⊥
differs b h e = absurd (same_is (sym (ap (λ x. x == 64) e) ∙ h))
  where
    same_is : true ≡ false → ⊥
    same_is h = cc

no_reference : (b : ℕ) (text : Bytes) → (b == 64) ≡ false → slice_get (b ∷ text) 0 ≢ Some 64
no_reference b text h e = differs b h (cc e)

is_name : (b : ℕ) (text : Bytes) → (b == 64) ≡ false → IsRun is_word_byte 255 (b ∷ text) → IsField Name (b ∷ text)
is_name b text h r = (b ∷ text, (record { some = r.some; short = r.short; each = words_passed (b ∷ text) r.each; no_reference = no_reference b text h }, refl))

name_part : (n b : ℕ) (text : Bytes) → 0 < n → (b == 64) ≡ false → IsRun is_word_byte 255 (take n (b ∷ text)) → IsField Name (take n (b ∷ text))
name_part zero b text some h r = absurd (omega (arith, some))
name_part (suc n) b text some h r = is_name b (take n text) h r

name_whole : (text : Bytes) → nat_lt 0 (field_length Name text) ≡ true → IsField Name (take (field_length Name text) text)
name_whole [] w = absurd (cc)
name_whole (b ∷ text) w =
    let some = positive (field_length Name (b ∷ text)) w in
    elim (cases_Bool (b == 64)) [
      | inl h ↦ absurd (omega (arith, some, name_length b text true h))
      | inr h ↦
          let n = min 255 (prefix_len is_word_byte (b ∷ text)) in
          let long : field_length Name (b ∷ text) ≡ n = name_length b text false h in
          let room : 0 < n = omega (arith, some, long) in
          subst (λ k. IsField Name (take k (b ∷ text))) (sym long) (name_part n b text room h (run_whole is_word_byte 255 (b ∷ text) (positive_test n room)))
    ]

name_within : (text : Bytes) → field_length Name text ≤ length text
name_within [] = omega arith
name_within (b ∷ text) =
    elim (cases_Bool (b == 64)) [
      | inl h ↦ omega (arith, name_length b text true h)
      | inr h ↦ omega (arith, name_length b text false h, run_within is_word_byte 255 (b ∷ text))
    ]

field_name : (text : Bytes) → IsField Name text → IsBranchName text
field_name text (name, (is, e)) = subst IsBranchName (sym e) is

name_taken : (word rest : Bytes) → IsBranchName word → EndsWord rest → (field_length Name (word ++ rest) ≡ length word) × (nat_lt 0 (field_length Name (word ++ rest)) ≡ true)
name_taken [] rest is ends = absurd (omega (arith, is.some))
name_taken (b ∷ word) rest is ends =
    elim (cases_Bool (b == 64)) [
      | inl h ↦ absurd (is.no_reference (ap Some (equal_by b 64 h)))
      | inr h ↦
          let run = run_taken is_word_byte 255 (b ∷ word) rest (record { some = is.some; short = is.short; each = words_pass (b ∷ word) is.each }) (word_stops is_word_byte refl rest ends) in
          let long : field_length Name (b ∷ (word ++ rest)) ≡ length (b ∷ word) = name_length b (word ++ rest) false h ∙ run.0 in
          (long, positive_test _ (omega (arith, long)))
    ]

name_decided : (text : Bytes) (m : ℕ) (more : Bytes) → field_length Name text < m → m ≤ length text → field_length Name (take m text ++ more) ≡ field_length Name text
name_decided [] m more h l = absurd (omega arith)
name_decided (b ∷ text) zero more h l = absurd (omega arith)
name_decided (b ∷ text) (suc m) more h l =
    elim (cases_Bool (b == 64)) [
      | inl e ↦ name_length b (take m text ++ more) true e ∙ sym (name_length b text true e)
      | inr e ↦
          let same = prefix_decided is_word_byte (b ∷ text) 255 (suc m) more (omega (arith, name_length b text false e, h)) l in
          name_length b (take m text ++ more) false e ∙ (same ∙ sym (name_length b text false e))
    ]

pub name_law : FieldLaw Name
name_law = record {
  one = λ value text is. sym is.1;
  within = name_within;
  whole = name_whole;
  taken = λ word rest is ends. name_taken word rest (field_name word is) ends;
  decided = λ text m more h l. (name_decided text m more h l, refl);
  begins = whole_begins Name (97 ∷ []) (is_name 97 [] refl (record { some = omega arith; short = omega arith; each = refl })) name_whole;
}

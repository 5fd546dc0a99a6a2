-- A text of a path, read byte by byte.
use Rattle.std.proofs.Common.{◌≡◌, ◌≢◌, ℕ, suc, ◌+◌, ◌-◌, ◌<◌, ◌≤◌, ◌==◌, Bool, true, false, not, List, [], ◌∷◌, ◌++◌, length, take, drop, get_or, Option, refl, sym, ◌∙◌, ap, subst, arith, length-append}
use Rattle.std.specs.Prelude.{All, slice_range, if◌then◌else◌}
use Rattle.std.proofs.lemmas.List.{take_more, take_all, append-nil}
use Rattle.std.proofs.lemmas.List.Edits.{length-between, between_more, between_none}
use Rattle.std.proofs.lemmas.List.Elements.{All-append, All-cons, All-nil}
use Rattle.std.proofs.lemmas.Bool.Decides.{nat_tests}
use Rattle.std.proofs.Math.Seq.{drop-cons}
use Rattle.ip_base.specs.declared.path.PathFault.{PathFault}
use Rattle.ip_base.specs.PathText.{slash, IsWordByte, is_word_byte, IsStep, IsPath, path_text, path_fault_from, path_fault}

-- the steps with a slash behind each
abbrev pub ended : List (List ℕ) → List ℕ
ended [] = []
ended (s ∷ p) = s ++ slash ∷ ended p

append_assoc : {A : Type 0} (xs ys zs : List A) → (xs ++ ys) ++ zs ≡ xs ++ (ys ++ zs)
append_assoc [] ys zs = refl
append_assoc (x ∷ xs) ys zs = ap (λ l. x ∷ l) (append_assoc xs ys zs)

ended_push : (p : List (List ℕ)) (s : List ℕ) → ended (p ++ s ∷ []) ≡ (ended p ++ s) ++ slash ∷ []
ended_push [] s = refl
ended_push (r ∷ p) s = ap (λ l. r ++ slash ∷ l) (ended_push p s) ∙ ap (λ l. r ++ slash ∷ l) (append_assoc (ended p) s (slash ∷ [])) ∙ sym (append_assoc r (slash ∷ ended p) (s ++ slash ∷ [])) ∙ sym (append_assoc (r ++ slash ∷ ended p) s (slash ∷ []))

text_push : (p : List (List ℕ)) (s : List ℕ) → path_text (p ++ s ∷ []) ≡ ended p ++ s
text_push [] s = refl
text_push (r ∷ []) s = sym (append_assoc r (slash ∷ []) s)
text_push (r ∷ q ∷ p) s = ap (λ l. r ++ slash ∷ l) (text_push (q ∷ p) s) ∙ sym (append_assoc r (slash ∷ ended (q ∷ p)) s)

-- a byte of a step
abbrev pub IsOfStep : ℕ → Type 0
IsOfStep b = IsWordByte b × (b ≢ slash)

-- Before a place of the text: these steps are whole, and one stands open from a place on.
pub record Reading (text : List ℕ) (at from : ℕ) (steps : List (List ℕ)) : Type 0 where
  pub begins : from ≤ at
  pub short : at - from ≤ 255
  pub few : length steps ≤ 63
  pub each : All IsStep steps
  pub bytes : All IsOfStep (slice_range text from at)
  pub said : take at text ≡ ended steps ++ slice_range text from at
  pub fault : path_fault text ≡ path_fault_from at (length steps) (at - from) (drop at text)

pub reading_none : (text : List ℕ) → Reading text 0 0 []
unfolding path_fault
reading_none text = record { begins = omega arith; short = omega arith; few = omega arith; each = All-nil IsStep; bytes = All-nil IsOfStep; said = refl; fault = refl }

pub pick_true : (t : Bool) (x y : Option PathFault) → t ≡ true → (if t then x else y) ≡ x
pick_true t x y is = ap (λ (t : Bool). if t then x else y) is

pub pick_false : (t : Bool) (x y : Option PathFault) → t ≡ false → (if t then x else y) ≡ y
pick_false t x y is = ap (λ (t : Bool). if t then x else y) is

pub same_test : (m n : ℕ) → m ≡ n → (m == n) ≡ true
same_test m n is = grind (arith, nat_tests)

pub other_test : (m n : ℕ) → m ≢ n → (m == n) ≡ false
other_test m n is = grind (arith, nat_tests)

pub below_number : (m n : ℕ) → m < n → (m == n) ≡ false
below_number m n is = grind (arith, nat_tests)

pub above_number : (m n : ℕ) → n < m → (m == n) ≡ false
above_number m n is = grind (arith, nat_tests)

is_of_step : (b : ℕ) → b < 256 → is_word_byte b ≡ true → b ≢ slash → IsOfStep b
is_of_step b byte good is = (is_word b byte good, is)
  where
    is_word : (b : ℕ) → b < 256 → is_word_byte b ≡ true → IsWordByte b
    is_word b byte good = grind (arith, nat_tests)

module _ (text : List ℕ) (at from : ℕ) (steps : List (List ℕ)) (inside : at < length text) (now : Reading text at from steps) where
  abbrev b : ℕ
  b = get_or text at 0

  rest : drop at text ≡ b ∷ drop (at + 1) text
  rest = let same : suc at ≡ at + 1 = omega arith in drop-cons text at 0 inside ∙ ap (λ (k : ℕ). b ∷ drop k text) same

  pub fault_now : path_fault text ≡ path_fault_from at (length steps) (at - from) (b ∷ drop (at + 1) text)
  fault_now = now.fault ∙ ap (path_fault_from at (length steps) (at - from)) rest

  pub word_size : length (slice_range text from at) ≡ at - from
  word_size = length-between text from at (omega (arith, inside))

  pub slash_right : (more : List (List ℕ)) → b ≡ slash → 0 < length (slice_range text from at) → length steps < 63 → more ≡ steps ++ slice_range text from at ∷ [] → Reading text (at + 1) (at + 1) more
  slash_right more is some few grown = subst (λ l. Reading text (at + 1) (at + 1) l) (sym grown) (record {
    begins = omega arith;
    short = omega arith;
    few = omega (arith, length-append steps (slice_range text from at ∷ []), few);
    each = All-append IsStep steps (slice_range text from at ∷ []) now.each (All-cons IsStep (slice_range text from at) [] (record { some = some; short = omega (arith, word_size, now.short); each = now.bytes }) (All-nil IsStep));
    bytes = subst (All IsOfStep) (sym (between_none text (at + 1))) (All-nil IsOfStep);
    said = take_more text at 0 inside ∙ ap (λ l. l ++ b ∷ []) now.said ∙ ap (λ x. (ended steps ++ slice_range text from at) ++ x ∷ []) is ∙ sym (ended_push steps (slice_range text from at)) ∙ sym (append-nil (ended (steps ++ slice_range text from at ∷ []))) ∙ ap (λ l. ended (steps ++ slice_range text from at ∷ []) ++ l) (sym (between_none text (at + 1)));
    fault = fault_now ∙ pick_true (b == slash) _ _ (same_test b slash is) ∙ pick_false (at - from == 0) _ _ (above_number (at - from) 0 (omega (arith, word_size, some))) ∙ pick_false (length steps == 63) _ _ (below_number (length steps) 63 few)
        ∙ ap (λ (k : ℕ). path_fault_from (at + 1) k 0 (drop (at + 1) text)) (omega (arith, length-append steps (slice_range text from at ∷ []))) ∙ ap (λ (k : ℕ). path_fault_from (at + 1) (length (steps ++ slice_range text from at ∷ [])) k (drop (at + 1) text)) (omega arith);
  })

  pub byte_right : b ≢ slash → at - from < 255 → is_word_byte b ≡ true → b < 256 → Reading text (at + 1) from steps
  byte_right is short good byte = record {
    begins = omega (arith, now.begins);
    short = omega (arith, short);
    few = now.few;
    each = now.each;
    bytes = subst (All IsOfStep) (sym more) (All-append IsOfStep (slice_range text from at) (b ∷ []) now.bytes (All-cons IsOfStep b [] (is_of_step b byte good is) (All-nil IsOfStep)));
    said = take_more text at 0 inside ∙ ap (λ l. l ++ b ∷ []) now.said ∙ append_assoc (ended steps) (slice_range text from at) (b ∷ []) ∙ ap (λ l. ended steps ++ l) (sym more);
    fault = fault_now ∙ pick_false (b == slash) _ _ (other_test b slash is) ∙ pick_false (at - from == 255) _ _ (below_number (at - from) 255 short) ∙ pick_false (not (is_word_byte b)) _ _ (ap not good)
        ∙ ap (λ (k : ℕ). path_fault_from (at + 1) (length steps) k (drop (at + 1) text)) (omega (arith, now.begins));
  }
    where
      more : slice_range text from (at + 1) ≡ slice_range text from at ++ b ∷ []
      more = between_more text from at 0 now.begins inside

-- The whole text read, with a byte in the last step.
module _ (text : List ℕ) (from : ℕ) (steps : List (List ℕ)) (now : Reading text (length text) from steps) where
  abbrev last : List ℕ
  last = slice_range text from (length text)

  last_size : length last ≡ length text - from
  last_size = length-between text from (length text) (omega arith)

  pub end_path : 0 < length last → IsPath (steps ++ last ∷ [])
  end_path some = record {
    some = omega (arith, length-append steps (last ∷ []));
    short = omega (arith, length-append steps (last ∷ []), now.few);
    each = All-append IsStep steps (last ∷ []) now.each (All-cons IsStep last [] (record { some = some; short = omega (arith, last_size, now.short); each = now.bytes }) (All-nil IsStep));
  }

  pub end_text : text ≡ path_text (steps ++ last ∷ [])
  end_text = sym (take_all (length text) text (omega arith)) ∙ now.said ∙ sym (text_push steps last)

  pub end_both : (whole : List (List ℕ)) → (0 < length last) × (whole ≡ steps ++ last ∷ []) → IsPath whole × (text ≡ path_text whole)
  end_both whole is = subst (λ l. IsPath l × (text ≡ path_text l)) (sym is.1) (end_path is.0, end_text)

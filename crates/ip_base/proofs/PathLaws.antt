-- Which texts are those of paths.
use Rattle.std.proofs.Common.{◌≡◌, inl, inr, ℕ, zero, suc, ◌+◌, ◌-◌, ◌<◌, ◌≤◌, ◌==◌, Bool, true, false, not, List, [], ◌∷◌, ◌++◌, length, drop, get_or, Option, None, Some, refl, sym, ◌∙◌, ap, subst, arith}
use Rattle.std.specs.Prelude.{All, slice_range, if◌then◌else◌}
use Rattle.std.proofs.lemmas.List.Elements.{All-head, All-tail, All-get_or}
use Rattle.std.proofs.lemmas.Bool.Decides.{nat_tests}
use Rattle.std.proofs.lemmas.Bool.{cases_eq}
use Rattle.std.proofs.lemmas.List.{drop_all, append-nil}
use Rattle.std.proofs.lemmas.List.Edits.{length-between}
use Rattle.ip_base.specs.PathText.{slash, IsWordByte, is_word_byte, IsStep, IsPath, path_text, path_fault_from, path_fault}
use Rattle.ip_base.proofs.PathReading.{IsOfStep, Reading, reading_none, slash_right, byte_right, end_both, fault_now, word_size, pick_true, pick_false, same_test, other_test, below_number, above_number}

abbrev Path : Type 0
Path = List (List ℕ)

-- what no fault says of the tests before
both_false : {A : Type 0} (a b : Bool) (x y : A) (rest : Option A) → (if a then Some x else if b then Some y else rest) ≡ None → (a ≡ false) × (b ≡ false)
both_false true b x y rest is = absurd (cc (is))
both_false false true x y rest is = absurd (cc (is))
both_false false false x y rest is = (refl, refl)

one_false : {A : Type 0} (a : Bool) (x : A) → (if a then Some x else None) ≡ None → a ≡ false
one_false true x is = absurd (cc (is))
one_false false x is = refl

some_number : (n : ℕ) → (n == 0) ≡ false → 0 < n
some_number n is = grind (arith, nat_tests)

below_from : (m n : ℕ) → m ≤ n → (m == n) ≡ false → m < n
below_from m n le is = grind (arith, nat_tests)

not_false : (b : Bool) → not b ≡ false → b ≡ true
not_false true is = refl
not_false false is = sym is

zero_more : (n : ℕ) → n ≡ n + 0
zero_more n = omega arith

one_more : (n m : ℕ) → n + 1 + m ≡ n + suc m
one_more n m = omega arith

is_word : (b : ℕ) → IsWordByte b → is_word_byte b ≡ true
is_word b word = grind (arith, nat_tests)

abbrev HasPath : List ℕ → Type 0
HasPath text = (path : Path) × IsPath path × (text ≡ path_text path)

module _ (text : List ℕ) (small : All (λ b. b < 256) text) (none : path_fault text ≡ None) where
  small_at : (at : ℕ) → at < length text → get_or text at 0 < 256
  small_at at inside = All-get_or (λ b. b < 256) text at 0 inside small

  read_end : (from : ℕ) (steps : Path) → Reading text (length text) from steps → HasPath text
  read_end from steps now =
      let last : List ℕ = slice_range text from (length text) in
      let right : path_fault_from (length text) (length steps) (length text - from) [] ≡ None = ap (path_fault_from (length text) (length steps) (length text - from)) (sym (drop_all (length text) text (omega arith))) ∙ sym now.fault ∙ none in
      let size : length last ≡ length text - from = length-between text from (length text) (omega arith) in
      let path : Path = steps ++ last ∷ [] in
      let both = end_both text from steps now path (omega (arith, size, some_number (length text - from) (one_false (length text - from == 0) _ right)), refl) in
      (path, both.0, both.1)

  read_on : (n at from : ℕ) (steps : Path) → at + n ≡ length text → Reading text at from steps → HasPath text
  read_on zero at from steps is now = read_end from steps (subst (λ m. Reading text m from steps) (omega (arith, is)) now)
  read_on (suc n) at from steps is now = elim (cases_eq (get_or text at 0) slash) [
    | inl same ↦
        let right : path_fault_from at (length steps) (at - from) (get_or text at 0 ∷ drop (at + 1) text) ≡ None = sym (fault_now text at from steps inside now) ∙ none in
        let tests = both_false (at - from == 0) (length steps == 63) _ _ _ (sym (pick_true (get_or text at 0 == slash) _ _ (same_test (get_or text at 0) slash same)) ∙ right) in
        read_on n (at + 1) (at + 1) _ (omega (arith, is)) (slash_right text at from steps inside now _ same (omega (arith, word_size text at from steps inside now, some_number (at - from) tests.0)) (below_from (length steps) 63 now.few tests.1) refl)
    | inr other ↦
        let right : path_fault_from at (length steps) (at - from) (get_or text at 0 ∷ drop (at + 1) text) ≡ None = sym (fault_now text at from steps inside now) ∙ none in
        let tests = both_false (at - from == 255) (not (is_word_byte (get_or text at 0))) _ _ _ (sym (pick_false (get_or text at 0 == slash) _ _ (other_test (get_or text at 0) slash other)) ∙ right) in
        read_on n (at + 1) from steps (omega (arith, is)) (byte_right text at from steps inside now other (below_from (at - from) 255 now.short tests.0) (not_false (is_word_byte (get_or text at 0)) tests.1) (small_at at inside))
  ]
    where
      inside : at < length text
      inside = omega (arith, is)

  pub has_path : HasPath text
  has_path = read_on (length text) 0 0 [] (omega arith) (reading_none text)

-- a word that fits
fits_word : (w : List ℕ) (at k n : ℕ) (rest : List ℕ) → n + length w ≤ 255 → All IsOfStep w → path_fault_from at k n (w ++ rest) ≡ path_fault_from (at + length w) k (n + length w) rest
fits_word [] at k n rest le each = ap (λ (m : ℕ). path_fault_from m k n rest) (zero_more at) ∙ ap (λ (m : ℕ). path_fault_from (at + 0) k m rest) (zero_more n)
fits_word (b ∷ w) at k n rest le each =
    let good = All-head IsOfStep b w each in
    pick_false (b == slash) _ _ (other_test b slash good.1) ∙ pick_false (n == 255) _ _ (below_number n 255 (omega (arith, le))) ∙ pick_false (not (is_word_byte b)) _ _ (ap not (is_word b good.0))
    ∙ fits_word w (at + 1) k (n + 1) rest (omega (arith, le)) (All-tail IsOfStep b w each)
    ∙ ap (λ (m : ℕ). path_fault_from m k (n + 1 + length w) rest) (one_more at (length w)) ∙ ap (λ (m : ℕ). path_fault_from (at + suc (length w)) k m rest) (one_more n (length w))

fits_path : (p : Path) (at k : ℕ) → 0 < length p → k + length p ≤ 64 → All IsStep p → path_fault_from at k 0 (path_text p) ≡ None
fits_path [] at k some le each = absurd (omega (arith, some))
fits_path (s ∷ []) at k some le each =
    let step = All-head IsStep s [] each in
    ap (path_fault_from at k 0) (sym (append-nil s)) ∙ fits_word s at k 0 [] (omega (arith, step.short)) step.each ∙ pick_false (0 + length s == 0) _ _ (above_number (0 + length s) 0 (omega (arith, step.some)))
fits_path (s ∷ r ∷ p) at k some le each =
    let step = All-head IsStep s (r ∷ p) each in
    fits_word s at k 0 (slash ∷ path_text (r ∷ p)) (omega (arith, step.short)) step.each
    ∙ pick_false (0 + length s == 0) _ _ (above_number (0 + length s) 0 (omega (arith, step.some))) ∙ pick_false (k == 63) _ _ (below_number k 63 (omega (arith, le)))
    ∙ fits_path (r ∷ p) (at + length s + 1) (k + 1) (omega arith) (omega (arith, le)) (All-tail IsStep s (r ∷ p) each)

pub fits : (p : Path) → IsPath p → path_fault (path_text p) ≡ None
unfolding path_fault
fits p is = fits_path p 0 0 is.some (omega (arith, is.short)) is.each

-- two words before slashes
first_word : (s r x y : List ℕ) → All IsOfStep s → All IsOfStep r → s ++ slash ∷ x ≡ r ++ slash ∷ y → (s ≡ r) × (x ≡ y)
first_word [] [] x y one other is = (refl, cc (is))
first_word [] (b ∷ r) x y one other is = absurd ((All-head IsOfStep b r other).1 (sym (cc (is))))
first_word (a ∷ s) [] x y one other is = absurd ((All-head IsOfStep a s one).1 (cc (is)))
first_word (a ∷ s) (b ∷ r) x y one other is =
    let heads : a ≡ b = cc (is) in
    let rest = first_word s r x y (All-tail IsOfStep a s one) (All-tail IsOfStep b r other) (cc (is)) in
    (ap (λ z. z ∷ s) heads ∙ ap (λ z. b ∷ z) rest.0, rest.1)

no_slash_in : (s r x : List ℕ) → All IsOfStep s → s ≡ r ++ slash ∷ x → ⊥
no_slash_in [] [] x one is = absurd (cc (is))
no_slash_in [] (b ∷ r) x one is = absurd (cc (is))
no_slash_in (a ∷ s) [] x one is = (All-head IsOfStep a s one).1 (cc (is))
no_slash_in (a ∷ s) (b ∷ r) x one is = no_slash_in s r x (All-tail IsOfStep a s one) (cc (is))

pub same_path : (p q : Path) → All IsStep p → All IsStep q → 0 < length p → 0 < length q → path_text p ≡ path_text q → p ≡ q
same_path [] q one other some more is = absurd (omega (arith, some))
same_path (s ∷ p) [] one other some more is = absurd (omega (arith, more))
same_path (s ∷ []) (r ∷ []) one other some more is = ap (λ w. w ∷ []) is
same_path (s ∷ []) (r ∷ v ∷ q) one other some more is = absurd (no_slash_in s r (path_text (v ∷ q)) (All-head IsStep s [] one).each is)
same_path (s ∷ u ∷ p) (r ∷ []) one other some more is = absurd (no_slash_in r s (path_text (u ∷ p)) (All-head IsStep r [] other).each (sym is))
same_path (s ∷ u ∷ p) (r ∷ v ∷ q) one other some more is =
    let both = first_word s r (path_text (u ∷ p)) (path_text (v ∷ q)) (All-head IsStep s (u ∷ p) one).each (All-head IsStep r (v ∷ q) other).each is in
    let rest = same_path (u ∷ p) (v ∷ q) (All-tail IsStep s (u ∷ p) one) (All-tail IsStep r (v ∷ q) other) (omega arith) (omega arith) both.1 in
    ap (λ w. w ∷ u ∷ p) both.0 ∙ ap (λ l. r ∷ l) rest

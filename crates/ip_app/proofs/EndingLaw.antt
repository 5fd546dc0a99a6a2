-- The status with which reading ends is a function of the source's bytes, in whatever pieces they came.
use Rattle.std.proofs.Common.{◌≡◌, inl, inr, ℕ, ◌+◌, ◌^◌, ◌<◌, ◌≤◌, Bool, true, false, cond, List, [], ◌∷◌, ◌++◌, length, refl, sym, ap, ◌∙◌, subst, arith, ◌==◌, nat_lt, nat_le, All, IsTrue, ◌||◌}
use Rattle.std.specs.List.{list_any, AllByRecursion}
use Rattle.std.proofs.lemmas.List.Elements.{recursion_from_All}
use Rattle.std.proofs.lemmas.Bool.{cond-true, cond-false, cases_Bool}
use Rattle.std.proofs.lemmas.Bool.Decides.{nat_tests}
use Rattle.ip_app.specs.declared.statuses.Status.{Status}
use Rattle.ip_app.specs.declared.statuses.Status.TheVariants as status
use Rattle.ip_app.specs.declared.statuses.Bound.TheVariants as bound
use Rattle.ip_spec.specs.Path.{line_feed}
use Rattle.ip_spec.specs.Script.{whole_lines, onto_first}
use Rattle.ip_app.specs.Lines.{is_line_feed, last_piece}
use Rattle.ip_app.specs.Reading.{EndsReading}
use Rattle.ip_app.specs.Exchanges.{lines_in}
use Rattle.ip_app.specs.Outside.{Outside}
use Rattle.ip_spec.specs.Merge.{Rule}
use Rattle.ip_app.specs.Run.{Row, Serves, is_cut_off, EndsAsBytes}
use Rattle.ip_app.specs.Ending.{ending_from, ending_of, IsOfBytes}
use Rattle.ip_app.proofs.RunLemmas.{ends_along}

-- ---- the state of reading after some bytes

abbrev after_byte : ℕ → ℕ → ℕ
after_byte n byte = cond (byte == line_feed) 0 (n + 1)

-- how long the last piece is in the end
rest_from : ℕ → List ℕ → ℕ
rest_from n [] = n
rest_from n (byte ∷ bytes) = rest_from (after_byte n byte) bytes

-- no whole line is too long
AreShort : ℕ → List ℕ → Type 0
AreShort n [] = Unit {0}
AreShort n (byte ∷ bytes) = (byte == line_feed ≡ true → n ≤ 4194304) × AreShort (after_byte n byte) bytes

-- the first of these lines goes on from n bytes
FirstShort : ℕ → List (List ℕ) → Type 0
FirstShort n [] = Unit {0}
FirstShort n (line ∷ lines) = (n + length line ≤ 4194304) × FirstShort 0 lines

first_onto : (n byte : ℕ) (lines : List (List ℕ)) → FirstShort n (onto_first byte lines) → FirstShort (n + 1) lines
unfolding FirstShort
first_onto n byte [] h = tt
first_onto n byte (line ∷ lines) h = (omega (arith, h.0), h.1)

are_short : (n : ℕ) (bytes : List ℕ) → FirstShort n (whole_lines bytes) → AreShort n bytes
unfolding FirstShort AreShort
are_short n [] h = tt
are_short n (byte ∷ bytes) h =
    elim (cases_Bool (byte == line_feed)) [
      | inl lf ↦
          let s : FirstShort n ([] ∷ whole_lines bytes) = subst (FirstShort n) (cond-true (byte == line_feed) _ _ lf) h in
          (λ e. omega (arith, s.0), subst (λ k. AreShort k bytes) (sym (cond-true (byte == line_feed) 0 (n + 1) lf)) (are_short 0 bytes s.1))
      | inr other ↦
          let s : FirstShort n (onto_first byte (whole_lines bytes)) = subst (FirstShort n) (cond-false (byte == line_feed) _ _ other) h in
          (λ e. absurd (cc (e, other)), subst (λ k. AreShort k bytes) (sym (cond-false (byte == line_feed) 0 (n + 1) other)) (are_short (n + 1) bytes (first_onto n byte (whole_lines bytes) s)))
    ]

all_short : (lines : List (List ℕ)) → AllByRecursion (λ line. length line ≤ 4194304) lines → FirstShort 0 lines
unfolding FirstShort
all_short [] h = tt
all_short (line ∷ lines) h = (omega (arith, h.0), all_short lines h.1)

or_left : (a b : Bool) → (a || b) ≡ false → a ≡ false
or_left true b h = absurd (cc)
or_left false b h = refl

or_none : (a b : Bool) → (a || b) ≡ false → b ≡ false
or_none true b h = absurd (cc)
or_none false b h = h

or_right : (a b : Bool) → a ≡ false → (a || b) ≡ true → b ≡ true
or_right true b e h = absurd (cc)
or_right false b e h = h

no_line_feed_rest : (bytes : List ℕ) → list_any is_line_feed bytes ≡ false → last_piece bytes ≡ bytes
no_line_feed_rest [] h = refl
no_line_feed_rest (byte ∷ bytes) h = cond-false (list_any is_line_feed (byte ∷ bytes)) _ _ h

-- the last piece, by the definition of the lines
from_zero : (n : ℕ) (bytes : List ℕ) → (list_any is_line_feed bytes ≡ true → n ≡ length (last_piece bytes)) × (list_any is_line_feed bytes ≡ false → n ≡ 0 + length bytes) → n ≡ length (last_piece bytes)
from_zero n bytes i = elim (cases_Bool (list_any is_line_feed bytes)) [ inl h ↦ i.0 h | inr h ↦ i.1 h ∙ (omega arith ∙ ap length (sym (no_line_feed_rest bytes h))) ]

rest_is : (n : ℕ) (bytes : List ℕ) → (list_any is_line_feed bytes ≡ true → rest_from n bytes ≡ length (last_piece bytes)) × (list_any is_line_feed bytes ≡ false → rest_from n bytes ≡ n + length bytes)
unfolding rest_from
rest_is n [] = (λ h. absurd (cc), λ h. omega arith)
rest_is n (byte ∷ bytes) =
    elim (cases_Bool (byte == line_feed)) [
      | inl lf ↦
          let next : after_byte n byte ≡ 0 = cond-true (byte == line_feed) 0 (n + 1) lf in (
            λ h. ap (λ k. rest_from k bytes) next ∙ (from_zero (rest_from 0 bytes) bytes (rest_is 0 bytes) ∙ ap length (sym (cond-true (list_any is_line_feed (byte ∷ bytes)) _ _ h))),
            λ h. absurd (cc (lf, or_left (byte == line_feed) (list_any is_line_feed bytes) h)),
          )
      | inr other ↦
          let next : after_byte n byte ≡ n + 1 = cond-false (byte == line_feed) 0 (n + 1) other in
          let i = rest_is (n + 1) bytes in (
            λ h. ap (λ k. rest_from k bytes) next ∙ (i.0 (or_right (byte == line_feed) (list_any is_line_feed bytes) other h) ∙ ap length (sym (cond-true (list_any is_line_feed (byte ∷ bytes)) _ _ h))),
            λ h. ap (λ k. rest_from k bytes) next ∙ (i.1 (or_none (byte == line_feed) (list_any is_line_feed bytes) h) ∙ omega arith),
          )
    ]

-- ---- the status

line_test : (n : ℕ) → 4194304 < n → nat_lt 4194304 n ≡ true
line_test n h = grind (arith, nat_tests)

no_line_test : (n : ℕ) → n ≤ 4194304 → nat_lt 4194304 n ≡ false
no_line_test n h = grind (arith, nat_tests)

input_test : (t : ℕ) → 2 ^ 62 ≤ t → nat_le (2 ^ 62) t ≡ true
input_test t h = grind (arith, nat_tests)

no_input_test : (t : ℕ) → t < 2 ^ 62 → nat_le (2 ^ 62) t ≡ false
no_input_test t h = grind (arith, nat_tests)

line_over : (n taken : ℕ) (bytes : List ℕ) → 4194304 < n → ending_from n taken bytes ≡ status.Limit bound.Line
line_over n taken [] h = cond-true _ _ _ (line_test n h)
line_over n taken (byte ∷ bytes) h = cond-true _ _ _ (line_test n h)

input_over : (n taken : ℕ) (bytes : List ℕ) → n ≤ 4194304 → 2 ^ 62 ≤ taken → ending_from n taken bytes ≡ status.Limit bound.Input
input_over n taken [] h t = cond-false _ _ _ (no_line_test n h) ∙ cond-true _ _ _ (input_test taken t)
input_over n taken (byte ∷ bytes) h t = cond-false _ _ _ (no_line_test n h) ∙ cond-true _ _ _ (input_test taken t)

goes_further : (n taken byte : ℕ) (bytes : List ℕ) → n ≤ 4194304 → taken < 2 ^ 62 → ending_from n taken (byte ∷ bytes) ≡ ending_from (after_byte n byte) (taken + 1) bytes
goes_further n taken byte bytes h t = cond-false _ _ _ (no_line_test n h) ∙ cond-false _ _ _ (no_input_test taken t)

at_end_done : (n taken : ℕ) → n ≡ 0 → taken < 2 ^ 62 → ending_from n taken [] ≡ status.Done
at_end_done n taken h t =
    let z : n == 0 ≡ true = grind (arith, nat_tests) in
    cond-false _ _ _ (no_line_test n (omega arith)) ∙ (cond-false _ _ _ (no_input_test taken t) ∙ cond-true _ _ _ z)

at_end_unfinished : (n taken : ℕ) → 0 < n → n ≤ 4194304 → taken < 2 ^ 62 → ending_from n taken [] ≡ status.Unfinished
at_end_unfinished n taken p h t =
    let z : n == 0 ≡ false = grind (arith, nat_tests) in
    cond-false _ _ _ (no_line_test n h) ∙ (cond-false _ _ _ (no_input_test taken t) ∙ cond-false _ _ _ z)

-- a piece that is too long stays so
stays_long : (n : ℕ) (bytes : List ℕ) → 4194304 < n → AreShort n bytes → 4194304 < rest_from n bytes
unfolding AreShort rest_from
stays_long n [] h s = h
stays_long n (byte ∷ bytes) h s =
    elim (cases_Bool (byte == line_feed)) [
      | inl lf ↦ absurd (omega (arith, s.0 lf))
      | inr other ↦
          let next : after_byte n byte ≡ n + 1 = cond-false (byte == line_feed) 0 (n + 1) other in
          subst (λ k. 4194304 < rest_from k bytes) (sym next) (stays_long (n + 1) bytes (omega arith) (subst (λ k. AreShort k bytes) next s.1))
    ]

too_long_is : (s : Status) (r t : ℕ) (E : Type 0) → IsOfBytes s → EndsReading s r t E → 4194304 < r → status.Limit bound.Line ≡ s
too_long_is status.Done r t E o h l = absurd (omega (arith, h.1))
too_long_is status.Unfinished r t E o h l = absurd (omega (arith, h.2))
too_long_is (status.Limit bound.Line) r t E o h l = refl
too_long_is (status.Limit bound.Input) r t E o h l = absurd (omega (arith, h.0))
too_long_is status.ReadFault r t E o h l = absurd o
too_long_is status.Usage r t E o h l = absurd o
too_long_is status.NoStore r t E o h l = absurd o
too_long_is (status.Damaged f a) r t E o h l = absurd o
too_long_is (status.DamagedRecord a) r t E o h l = absurd o
too_long_is (status.DamagedName a want got) r t E o h l = absurd o
too_long_is status.SayFault r t E o h l = absurd o
too_long_is status.GroundFault r t E o h l = absurd o
too_long_is status.DamagedJob r t E o h l = absurd o
too_long_is status.Memory r t E o h l = absurd o
too_long_is status.Exists r t E o h l = absurd o

at_most : (s : Status) (r t : ℕ) (E : Type 0) → IsOfBytes s → EndsReading s r t E → t ≤ 2 ^ 62
at_most status.Done r t E o h = omega (arith, h.2)
at_most status.Unfinished r t E o h = omega (arith, h.3)
at_most (status.Limit bound.Line) r t E o h = h.1
at_most (status.Limit bound.Input) r t E o h = omega (arith, h.1)
at_most status.ReadFault r t E o h = absurd o
at_most status.Usage r t E o h = absurd o
at_most status.NoStore r t E o h = absurd o
at_most (status.Damaged f a) r t E o h = absurd o
at_most (status.DamagedRecord a) r t E o h = absurd o
at_most (status.DamagedName a want got) r t E o h = absurd o
at_most status.SayFault r t E o h = absurd o
at_most status.GroundFault r t E o h = absurd o
at_most status.DamagedJob r t E o h = absurd o
at_most status.Memory r t E o h = absurd o
at_most status.Exists r t E o h = absurd o

-- no byte is left of those that were taken
ends_here : (s : Status) (left : List ℕ) (n taken : ℕ) → IsOfBytes s → EndsReading s n taken (left ≡ []) → ending_from n taken left ≡ s
ends_here status.Done left n taken o h = ap (ending_from n taken) h.0 ∙ at_end_done n taken h.1 h.2
ends_here status.Unfinished left n taken o h = ap (ending_from n taken) h.0 ∙ at_end_unfinished n taken h.1 h.2 h.3
ends_here (status.Limit bound.Line) left n taken o h = line_over n taken left (omega (arith, h.0))
ends_here (status.Limit bound.Input) left n taken o h = input_over n taken left h.0 (omega (arith, h.1))
ends_here status.ReadFault left n taken o h = absurd o
ends_here status.Usage left n taken o h = absurd o
ends_here status.NoStore left n taken o h = absurd o
ends_here (status.Damaged f a) left n taken o h = absurd o
ends_here (status.DamagedRecord a) left n taken o h = absurd o
ends_here (status.DamagedName a want got) left n taken o h = absurd o
ends_here status.SayFault left n taken o h = absurd o
ends_here status.GroundFault left n taken o h = absurd o
ends_here status.DamagedJob left n taken o h = absurd o
ends_here status.Memory left n taken o h = absurd o
ends_here status.Exists left n taken o h = absurd o

ends_as : (s : Status) (bytes left : List ℕ) (n taken : ℕ) → IsOfBytes s → AreShort n bytes → EndsReading s (rest_from n bytes) (taken + length bytes) (left ≡ []) → ending_from n taken (bytes ++ left) ≡ s
unfolding AreShort rest_from
ends_as s [] left n taken o short h = ends_here s left n taken o (ends_along s n n (taken + 0) taken _ _ h refl (omega arith) (λ e. e))
ends_as s (byte ∷ bytes) left n taken o short h =
    elim (cases_Bool (nat_lt 4194304 n)) [
      | inl over ↦
          let long : 4194304 < n = is_over n over in
          line_over n taken (byte ∷ (bytes ++ left)) long ∙ too_long_is s _ _ _ o h (stays_long n (byte ∷ bytes) long short)
      | inr under ↦
          let small : n ≤ 4194304 = is_under n under in
          goes_further n taken byte (bytes ++ left) small (omega (arith, at_most s _ _ _ o h))
          ∙ ends_as s bytes left (after_byte n byte) (taken + 1) o short.1 (ends_along s _ _ _ _ _ _ h refl (omega arith) (λ e. e))
    ]
  where
    is_over : (n : ℕ) → nat_lt 4194304 n ≡ true → 4194304 < n
    is_over n h = grind (arith, nat_tests)

    is_under : (n : ℕ) → nat_lt 4194304 n ≡ false → n ≤ 4194304
    is_under n h = grind (arith, nat_tests)

-- the status is that of all the bytes
pub ending_is : (s : Status) (bytes taken left : List ℕ) → IsOfBytes s → bytes ≡ taken ++ left → All (λ line. length line ≤ 4194304) (whole_lines taken) → EndsReading s (length (last_piece taken)) (length taken) (left ≡ []) → s ≡ ending_of bytes
ending_is s bytes taken left o split short h =
    sym (ap ending_of split ∙ ends_as s taken left 0 0 o (are_short 0 taken (all_short (whole_lines taken) (recursion_from_All _ (whole_lines taken) short)))
    (ends_along s _ _ _ _ _ _ h (sym (from_zero (rest_from 0 taken) taken (rest_is 0 taken))) (omega arith) (λ e. e)))

row_reading : (decisive : Bool) (s : Status) (old new : Outside) (taken : List ℕ) → IsOfBytes s → Row decisive s old new taken → EndsReading s (length (last_piece taken)) (length taken) (IsTrue old.source_tells → new.left ≡ []) × (is_cut_off s ≡ false)
row_reading decisive status.Done old new taken o r = (r, refl)
row_reading decisive status.Unfinished old new taken o r = (r, refl)
row_reading decisive (status.Limit b) old new taken o r = (r, refl)
row_reading decisive status.ReadFault old new taken o r = absurd o
row_reading decisive status.Usage old new taken o r = absurd o
row_reading decisive status.NoStore old new taken o r = absurd o
row_reading decisive (status.Damaged f a) old new taken o r = absurd o
row_reading decisive (status.DamagedRecord a) old new taken o r = absurd o
row_reading decisive (status.DamagedName a want got) old new taken o r = absurd o
row_reading decisive status.SayFault old new taken o r = absurd o
row_reading decisive status.GroundFault old new taken o r = absurd o
row_reading decisive status.DamagedJob old new taken o r = absurd o
row_reading decisive status.Memory old new taken o r = absurd o
row_reading decisive status.Exists old new taken o r = absurd o

no_others : (xs : List (List ℕ)) → xs ++ [] ≡ xs
no_others [] = refl
no_others (x ∷ xs) = ap (λ (u : List (List ℕ)). x ∷ u) (no_others xs)

-- a serving call ends as its source's bytes say
pub ends_as_bytes : (rule : Rule) (decisive : Bool) (old new : Outside) (s : Status) → Serves rule decisive old new s → EndsAsBytes old s
ends_as_bytes rule decisive old new s v told o =
    let r = row_reading decisive s old new v.taken o v.row in
    let lines : whole_lines v.taken ≡ lines_in v.exchanges = v.replies.begun.1 ∙ (ap (λ (u : List (List ℕ)). lines_in v.exchanges ++ u) (v.replies.begun.2 r.1) ∙ no_others (lines_in v.exchanges)) in
    ending_is s old.left v.taken new.left o (v.replies.bytes told) (subst (All (λ line. length line ≤ 4194304)) (sym lines) v.replies.short)
    (ends_along s _ _ _ _ _ _ r.0 refl refl (λ e. e told))

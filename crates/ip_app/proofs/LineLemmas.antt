-- What pieces of a chunk are, and the lines of bytes that go on.
use Rattle.std.proofs.Common.{◌≡◌, ℕ, suc, zero, ◌+◌, ◌-◌, ◌<◌, ◌≤◌, Bool, true, false, ◌||◌, ◌==◌, List, [], ◌∷◌, ◌++◌, length, get_or, take, drop, refl, sym, ap, ◌∙◌, subst, arith, slice_range, drop-cons}
use Rattle.std.specs.List.{list_any}
use Rattle.std.proofs.lemmas.List.{take-append-drop, drop-take, length-take}
use Rattle.std.proofs.Math.Seq.{drop-nil}
use Rattle.std.proofs.lemmas.Grind.{common_steps}
use Rattle.std.proofs.lemmas.Bool.{cond-true, cond-false, or_from, or_parts}
use Rattle.std.proofs.lemmas.Bool.Decides.{nat_tests}
use Rattle.memchr.specs.Find.{NoneBefore, Nowhere, Passes, is_byte}
use Rattle.ip_spec.specs.Script.{whole_lines, onto_first}
use Rattle.ip_app.specs.Lines.{is_line_feed, HasNoLineFeed, last_piece}

drop_add : (a b : ℕ) (xs : List ℕ) → drop (a + b) xs ≡ drop b (drop a xs)
drop_add zero b xs = let e : 0 + b ≡ b = omega arith in ap (λ k. drop k xs) e
drop_add (suc a) b [] = drop-nil (suc a + b) ∙ sym (drop-nil b)
drop_add (suc a) b (x ∷ xs) = let e : suc a + b ≡ suc (a + b) = omega arith in ap (λ k. drop k (x ∷ xs)) e ∙ drop_add a b xs

unequal : (x : ℕ) → ((x == 10) ≡ true → ⊥) → is_line_feed x ≡ false
unequal x h = grind (arith, nat_tests)

no_line_feed_before : (xs : List ℕ) (n : ℕ) → ((k : ℕ) → k < n → (get_or xs k 0 == 10) ≡ true → ⊥) → list_any is_line_feed (take n xs) ≡ false
no_line_feed_before [] zero h = refl
no_line_feed_before [] (suc n) h = refl
no_line_feed_before (x ∷ xs) zero h = refl
no_line_feed_before (x ∷ xs) (suc n) h = or_from _ _ (unequal x (h 0 (omega arith))) (no_line_feed_before xs n (λ k l. h (suc k) (omega arith)))

is_ten : (x : ℕ) → (x == 10) ≡ true → x ≡ 10
is_ten x h = grind (arith, nat_tests)

-- behind the LF stands what is pending then
pub behind : (chunk : List ℕ) (at end n : ℕ) → end ≤ length chunk → n < length (slice_range chunk at end) → drop (suc n) (slice_range chunk at end) ≡ slice_range chunk (at + (n + 1)) end
behind chunk at end n l h =
    let inside : n < end - at = omega (arith, length-take (end - at) (drop at chunk)) in
    let e : end - at ≡ suc n + (end - (at + (n + 1))) = omega arith in
    let f : at + (n + 1) ≡ at + suc n = omega arith in
    ap (λ k. drop (suc n) (take k (drop at chunk))) e ∙ (drop-take (suc n) (end - (at + (n + 1))) (drop at chunk)
    ∙ ap (take (end - (at + (n + 1)))) (sym (drop_add at (suc n) chunk) ∙ ap (λ k. drop k chunk) (sym f)))

pub finds_line_feed : (chunk : List ℕ) (at end n : ℕ) → end ≤ length chunk → NoneBefore (Passes (is_byte 10) (slice_range chunk at end)) 0 (length (slice_range chunk at end)) n → Passes (is_byte 10) (slice_range chunk at end) n → slice_range chunk at end ≡ take n (slice_range chunk at end) ++ 10 ∷ slice_range chunk (at + (n + 1)) end
finds_line_feed chunk at end n l none here =
    let p = slice_range chunk at end in
    sym (take-append-drop n p) ∙ ap (λ (t : List ℕ). take n p ++ t) (drop-cons p n 0 none.high ∙ (ap (λ (b : ℕ). b ∷ drop (suc n) p) (is_ten _ here) ∙ ap (λ (t : List ℕ). 10 ∷ t) (behind chunk at end n l none.high)))

pub no_line_feed_in_piece : (pending : List ℕ) (n : ℕ) → NoneBefore (Passes (is_byte 10) pending) 0 (length pending) n → HasNoLineFeed (take n pending)
no_line_feed_in_piece pending n none = no_line_feed_before pending n (λ k l. none.before k (omega arith) l)

take_all : (xs : List ℕ) → take (length xs) xs ≡ xs
take_all xs = grind (arith, common_steps)

pub no_line_feed_at_all : (pending : List ℕ) → Nowhere (Passes (is_byte 10) pending) 0 (length pending) → HasNoLineFeed pending
no_line_feed_at_all pending none = subst HasNoLineFeed (take_all pending) (no_line_feed_before pending (length pending) (λ k l. none k (omega arith) l))

pub none_between : (chunk : List ℕ) (end : ℕ) → slice_range chunk end end ≡ []
none_between chunk end = let e : end - end ≡ 0 = omega arith in ap (λ k. take k (drop end chunk)) e

-- ---- lines of bytes that go on

-- a line, its LF, and what comes then
pub whole_lines-line : (line tail : List ℕ) → HasNoLineFeed line → whole_lines (line ++ 10 ∷ tail) ≡ line ∷ whole_lines tail
whole_lines-line [] tail h = refl
whole_lines-line (b ∷ line) tail h =
    let parts = or_parts (is_line_feed b) (list_any is_line_feed line) h in
    cond-false (is_line_feed b) _ _ parts.0 ∙ ap (onto_first b) (whole_lines-line line tail parts.1)

pub whole_lines-rest : (rest : List ℕ) → HasNoLineFeed rest → whole_lines rest ≡ []
whole_lines-rest [] h = refl
whole_lines-rest (b ∷ rest) h =
    let parts = or_parts (is_line_feed b) (list_any is_line_feed rest) h in
    cond-false (is_line_feed b) _ _ parts.0 ∙ ap (onto_first b) (whole_lines-rest rest parts.1)

pub last_piece-rest : (rest : List ℕ) → HasNoLineFeed rest → last_piece rest ≡ rest
last_piece-rest [] h = refl
last_piece-rest (b ∷ rest) h = cond-false (list_any is_line_feed (b ∷ rest)) _ _ h

has_lf : (line tail : List ℕ) → list_any is_line_feed (line ++ 10 ∷ tail) ≡ true
has_lf [] tail = refl
has_lf (b ∷ line) tail = ap (λ x. is_line_feed b || x) (has_lf line tail) ∙ or_true (is_line_feed b)
  where
    or_true : (b : Bool) → (b || true) ≡ true
    or_true true = refl
    or_true false = refl

pub last_piece-line : (line tail : List ℕ) → HasNoLineFeed line → last_piece (line ++ 10 ∷ tail) ≡ last_piece tail
last_piece-line [] tail h = refl
last_piece-line (b ∷ line) tail h =
    let parts = or_parts (is_line_feed b) (list_any is_line_feed line) h in
    cond-true (list_any is_line_feed (b ∷ (line ++ 10 ∷ tail))) _ _ (has_lf (b ∷ line) tail) ∙ last_piece-line line tail parts.1

-- A line of the load is that of the words that are drawn, and short.
use Rattle.std.proofs.Common.{◌≡◌, ℕ, ◌+◌, ◌%◌, ◌<◌, ◌≤◌, ◌^◌, Bool, true, false, if◌then◌else◌, ◌==◌, List, [], ◌∷◌, ◌++◌, codes, nat_le, length, length-append, refl, ap, ◌∙◌, arith, lit≤, lit<, Result, Ok, Err, IsOk, OnErr}
use Rattle.std.specs.Fmt.{decimal}
use Rattle.std.specs.Int.{w32, to_be_bytes}
use Rattle.std.proofs.lemmas.Fmt.{length-decimal-le}
use Rattle.ip_spec.specs.Path.{Bytes}
use Rattle.ip_spec.specs.Text.{hex_text}
use Rattle.ip_spec.specs.Load.{drawn, word, line_of, load_line}
use Rattle.ip_script.specs.Loads.{place_of}

record IsShort (line : Bytes) : Type 0 where
  within : length line ≤ 46

either_short : (b : Bool) (one other : Bytes) → IsShort one → IsShort other → IsShort (if b then one else other)
either_short true one other l m = l
either_short false one other l m = m

short : (line : Bytes) → length line ≤ 46 → IsShort line
short line l = record { within = l }

both_short : (one other : Bytes) (n m k : ℕ) → length one ≤ n → length other ≤ m → n + m ≤ k → length (one ++ other) ≤ k
both_short one other n m k l h s = omega (arith, l, h, s, length-append one other)

digits_short : (k n : ℕ) → 0 < k → n < 10 ^ k → n < 2 ^ 64 → length (decimal n) ≤ k
digits_short k n some l m = length-decimal-le k n some l m

place_short : (folder file : ℕ) → length (place_of folder file) ≤ 6
place_short folder file =
    both_short (100 ∷ decimal (folder % 8) ++ codes "/k") (decimal (file % 64)) 4 2 6
    (both_short (100 ∷ decimal (folder % 8)) (codes "/k") 2 2 4 one (lit≤ tt) (lit≤ tt))
    (digits_short 2 (file % 64) (lit< tt) (omega arith) (omega arith)) (lit≤ tt)
  where
    one : length (100 ∷ decimal (folder % 8)) ≤ 2
    one = let d = digits_short 1 (folder % 8) (lit< tt) (omega arith) (omega arith) in omega (arith, d)

set_short : (folder file value : ℕ) → length (codes "set " ++ place_of folder file ++ 32 ∷ hex_text (to_be_bytes w32 value)) ≤ 46
set_short folder file value =
    both_short (codes "set " ++ place_of folder file) (32 ∷ hex_text (to_be_bytes w32 value)) 10 9 46
    (both_short (codes "set ") (place_of folder file) 4 6 10 (lit≤ tt) (place_short folder file) (lit≤ tt)) (lit≤ tt) (lit≤ tt)

made_short : (words : Bytes) (number : ℕ) → length words ≤ 16 → number < 2 ^ 64 → length (words ++ decimal number ++ codes " load line") ≤ 46
made_short words number l small =
    both_short (words ++ decimal number) (codes " load line") 36 10 46
    (both_short words (decimal number) 16 20 36 l (digits_short 20 number (lit< tt) (omega (arith, small)) small) (lit≤ tt)) (lit≤ tt) (lit≤ tt)

line_short : (kind folder file value number : ℕ) → number < 2 ^ 64 → IsShort (line_of kind folder (place_of folder file) (hex_text (to_be_bytes w32 value)) number)
line_short kind folder file value number small =
    either_short (nat_le kind 8) _ _ (short _ (set_short folder file value))
    (either_short (kind == 9) _ _ (short _ (both_short (codes "rm ") (place_of folder file) 3 6 46 (lit≤ tt) (place_short folder file) (lit≤ tt)))
    (either_short (kind == 10) _ _ (short _ (both_short (codes "get ") (place_of folder file) 4 6 46 (lit≤ tt) (place_short folder file) (lit≤ tt)))
    (either_short (kind == 11) _ _ (short _ (made_short (codes "commit main ") number (lit≤ tt) small))
    (either_short (kind == 12) _ _ (short _ (made_short (codes "commit side ") number (lit≤ tt) small))
    (either_short (kind == 13) _ _ (either_short (folder % 2 == 0) _ _ (short (codes "checkout main") (lit≤ tt)) (short (codes "checkout side") (lit≤ tt)))
    (either_short (kind == 14) _ _ (short (codes "branch side main") (lit≤ tt))
    (short _ (made_short (codes "merge side main ") number (lit≤ tt) small))))))))

-- a line that has no room would have more bytes than there are
pub is_roomy : {A E : Type 0} (r : Result A E) (kind folder file value number long spare : ℕ) → number < 2 ^ 64 → long + 46 ≤ spare
    → OnErr r (spare < long + length (line_of kind folder (place_of folder file) (hex_text (to_be_bytes w32 value)) number)) → IsOk r
is_roomy (Ok x) kind folder file value number long spare small room h = refl
is_roomy (Err e) kind folder file value number long spare small room h = absurd (omega (arith, (line_short kind folder file value number small).within, room, h))

-- ---- the words of a line

drawn_by : (x i k f g v : ℕ) → k ≡ word (drawn x) → f ≡ word (drawn (drawn x)) → g ≡ word (drawn (drawn (drawn x))) → v ≡ word (drawn (drawn (drawn (drawn x))))
    → line_of (k % 16) f (place_of f g) (hex_text (to_be_bytes w32 v)) i ≡ (load_line x i).0
unfolding load_line
drawn_by x i k f g v kind folder file value =
    ap (λ n. line_of (n % 16) f (place_of f g) (hex_text (to_be_bytes w32 v)) i) kind
    ∙ (ap (λ n. line_of (word (drawn x) % 16) n (place_of n g) (hex_text (to_be_bytes w32 v)) i) folder
    ∙ (ap (λ n. line_of (word (drawn x) % 16) (word (drawn (drawn x))) (place_of (word (drawn (drawn x))) n) (hex_text (to_be_bytes w32 v)) i) file
    ∙ ap (λ n. line_of (word (drawn x) % 16) (word (drawn (drawn x))) (place_of (word (drawn (drawn x))) (word (drawn (drawn (drawn x))))) (hex_text (to_be_bytes w32 n)) i) value))

pub is_drawn : (x x1 x2 x3 i k f g v : ℕ) → x1 ≡ drawn x → x2 ≡ drawn x1 → x3 ≡ drawn x2 → k ≡ word (drawn x) → f ≡ word (drawn x1) → g ≡ word (drawn x2) → v ≡ word (drawn x3)
    → line_of (k % 16) f (place_of f g) (hex_text (to_be_bytes w32 v)) i ≡ (load_line x i).0
is_drawn x x1 x2 x3 i k f g v e1 e2 e3 kind folder file value =
    let second = e2 ∙ ap drawn e1 in
    let third = e3 ∙ ap drawn second in
    drawn_by x i k f g v kind (folder ∙ ap (λ y. word (drawn y)) e1) (file ∙ ap (λ y. word (drawn y)) second) (value ∙ ap (λ y. word (drawn y)) third)

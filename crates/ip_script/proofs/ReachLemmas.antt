-- How far a line goes along with a form.
use Rattle.std.proofs.Common.{◌≡◌, ◌≢◌, ℕ, suc, ◌+◌, ◌<◌, ◌≤◌, Bool, true, false, cond, List, [], ◌∷◌, length, get_or, drop, sym, ap, ◌∙◌, arith, nat_eq, drop-cons, length-drop}
use Rattle.std.proofs.Math.ListN.{drop_of_length-le}
use Rattle.std.proofs.lemmas.Bool.Decides.{nat_tests}
use Rattle.ip_script.specs.declared.field.Field.{Field}
use Rattle.ip_script.specs.Fields.{reach_from, reach_fields}

if_true : {A : Type 0} (b : Bool) (x y : A) → b ≡ true → cond b x y ≡ x
if_true b x y h = ap (λ b. cond b x y) h

if_false : {A : Type 0} (b : Bool) (x y : A) → b ≡ false → cond b x y ≡ y
if_false b x y h = ap (λ b. cond b x y) h

equal_test : (x y : ℕ) → x ≡ y → nat_eq x y ≡ true
equal_test x y h = grind (arith, nat_tests)

unequal_test : (x y : ℕ) → x ≢ y → nat_eq x y ≡ false
unequal_test x y h = grind (arith, nat_tests)

-- the line ends before the word does
pub word_ends : (at : ℕ) (word line : List ℕ) (fields : List Field) → at < length word → length line ≤ at → reach_from at (drop at word) fields (drop at line) ≡ record { at = at; whole = false }
word_ends at word line fields h l =
    ap (λ (w : List ℕ). reach_from at w fields (drop at line)) (drop-cons word at 0 h) ∙ ap (λ (t : List ℕ). reach_from at (get_or word at 0 ∷ drop (suc at) word) fields t) (drop_of_length-le line l)

pub word_step : (at : ℕ) (word line : List ℕ) (fields : List Field) → at < length word → at < length line → reach_from at (drop at word) fields (drop at line) ≡ cond (nat_eq (get_or word at 0) (get_or line at 0)) (reach_from (at + 1) (drop (suc at) word) fields (drop (suc at) line)) (record { at = at; whole = false })
word_step at word line fields h l =
    ap (λ (w : List ℕ). reach_from at w fields (drop at line)) (drop-cons word at 0 h) ∙ ap (λ (t : List ℕ). reach_from at (get_or word at 0 ∷ drop (suc at) word) fields t) (drop-cons line at 0 l)

pub word_differs : (at : ℕ) (word line : List ℕ) (fields : List Field) → at < length word → at < length line → get_or line at 0 ≢ get_or word at 0 → reach_from at (drop at word) fields (drop at line) ≡ record { at = at; whole = false }
word_differs at word line fields h l d = word_step at word line fields h l ∙ if_false _ _ _ (unequal_test _ _ (λ e. d (sym e)))

-- ---- fields

-- the line ends before a field does
pub field_missing : (at n : ℕ) (fields : List Field) (line : List ℕ) (d : Field) → n < length fields → length line ≤ at → reach_fields (drop n fields) at (drop at line) ≡ record { at = at; whole = false }
field_missing at n fields line d h l =
    ap (λ (fs : List Field). reach_fields fs at (drop at line)) (drop-cons fields n d h) ∙ ap (λ (t : List ℕ). reach_fields (get_or fields n d ∷ drop (suc n) fields) at t) (drop_of_length-le line l)

pub no_space : (at n : ℕ) (fields : List Field) (line : List ℕ) (d : Field) → n < length fields → at < length line → get_or line at 0 ≢ 32 → reach_fields (drop n fields) at (drop at line) ≡ record { at = at; whole = false }
no_space at n fields line d h l other =
    ap (λ (fs : List Field). reach_fields fs at (drop at line)) (drop-cons fields n d h) ∙ (ap (λ (t : List ℕ). reach_fields (get_or fields n d ∷ drop (suc n) fields) at t) (drop-cons line at 0 l)
    ∙ if_false _ _ _ (unequal_test (get_or line at 0) 32 other))

whole_at_end : (at n : ℕ) (rest : List ℕ) → length rest + at ≡ n → reach_fields [] at rest ≡ record { at = at; whole = nat_eq at n }
whole_at_end at n [] h = let e : nat_eq at n ≡ true = equal_test at n (omega arith) in ap (λ (w : Bool). record { at = at; whole = w }) (sym e)
whole_at_end at n (b ∷ rest) h = let e : nat_eq at n ≡ false = unequal_test at n (λ e. absurd (omega arith)) in ap (λ (w : Bool). record { at = at; whole = w }) (sym e)

pub fields_done : (at n : ℕ) (fields : List Field) (line : List ℕ) → length fields ≤ n → at ≤ length line → reach_fields (drop n fields) at (drop at line) ≡ record { at = at; whole = nat_eq at (length line) }
fields_done at n fields line h l =
    ap (λ (fs : List Field). reach_fields fs at (drop at line)) (drop_of_length-le fields h) ∙ whole_at_end at (length line) (drop at line) (omega (arith, length-drop at line))

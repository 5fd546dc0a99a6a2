-- The numbers that were found, each one at most, and the words that spell them.
use Rattle.std.proofs.Common.{refl, ◌≡◌, sym, ap, ap₂, ◌∙◌, ℕ, zero, suc, ◌<◌, ◌^◌, ◌==◌, false, List, [], ◌∷◌, Option, Some, None, IfNone, length, slice_index, codes, arith, inl, inr}
use Rattle.std.specs.Fmt.{decimal}
use Rattle.std.specs.Str.Parse.{digits_value}
use Rattle.std.proofs.lemmas.Bool.{cases_eq}
use Rattle.std.proofs.lemmas.Bool.Decides.{nat_tests}
use Rattle.std.proofs.lemmas.Fmt.{decimal_digit, decimal_is_IsNumeral, first_decimal}
use Rattle.std.proofs.lemmas.Str.Parse.{digit_at}
use Rattle.clap.specs.Words.{Row}
use Rattle.ip_spec.specs.Path.{Bytes}
use Rattle.ip_spawn.specs.Jobs.{IsValid, numbers_of}
use Rattle.ip_spawn.specs.Spelling.{Spells}
use Rattle.ip_spawn.specs.declared.job.Job.{Job}
use Rattle.ip_words.specs.declared.Call.{Call}
use Rattle.ip_words.specs.Words.{IsReadBy, Asked, making, serving, working, loading, AsksBy, IsNumber, AreNumbers, job_words}

pub some_injective : {A : Type 0} {a b : A} → Some a ≡ Some b → a ≡ b
some_injective e = cc e

pub one_number : (rows : List Row) (name : Bytes) (n m : ℕ) → IsNumber rows name n → IsNumber rows name m → n ≡ m
one_number rows name n m (word, is, spells) (other, at, spelled) = sym spells.value ∙ (ap (digits_value 10) (some_injective (sym is ∙ at)) ∙ spelled.value)

pub one_list : (rows : List Row) (names : List Bytes) (ns ms : List ℕ) → AreNumbers rows names ns → AreNumbers rows names ms → ns ≡ ms
one_list rows [] [] [] h k = refl
one_list rows [] [] (m ∷ ms) h k = absurd k
one_list rows [] (n ∷ ns) ms h k = absurd h
one_list rows (name ∷ names) [] ms h k = absurd h
one_list rows (name ∷ names) (n ∷ ns) [] h k = absurd k
one_list rows (name ∷ names) (n ∷ ns) (m ∷ ms) h k = ap₂ (λ (x : ℕ) (xs : List ℕ). x ∷ xs) (one_number rows name n m h.0 k.0) (one_list rows names ns ms h.1 k.1)

abbrev job_of : Job → List ℕ → Job
job_of other (attempt ∷ horizon ∷ end ∷ chunk ∷ live ∷ old_horizon ∷ prefix_len ∷ rows ∷ []) =
    record { attempt = attempt; horizon = horizon; end = end; chunk = chunk; live = live; old_horizon = old_horizon; prefix_len = prefix_len; rows = rows }
job_of other numbers = other

pub same_job : (a b : Job) → numbers_of a ≡ numbers_of b → a ≡ b
same_job a b e = ap (job_of a) e

pub one_job : (rows : List Row) (a b : Job) → AreNumbers rows job_words (numbers_of a) → AreNumbers rows job_words (numbers_of b) → a ≡ b
one_job rows a b h k = same_job a b (one_list rows job_words (numbers_of a) (numbers_of b) h k)

-- ---- what is not asked for

pub no_job : (rows : List Row) (found : Option Job) → ((job : Job) → AreNumbers rows job_words (numbers_of job) → ⊥) → IfNone found ((job : Job) → AreNumbers rows job_words (numbers_of job) → ¬ IsValid job)
no_job rows None none = λ job are valid. none job are
no_job rows (Some job) none = tt

-- the words of two subcommands differ in their first letters
pub letter : (one other : Bytes) → one ≡ other → slice_index one 0 ≡ slice_index other 0
letter one other e = ap (λ (word : Bytes). slice_index word 0) e

pub read_none : (found : Option (Bytes × List Row)) (call : Option Call) → call ≡ None → ((asked : Asked) → ¬ AsksBy found asked) → IsReadBy found call
read_none found None e none = none
read_none found (Some call) e none = absurd (cc e)

pub no_making : (rows : List Row) → ((f : Bytes) (n : ℕ) → AsksBy (Some (codes "init", rows)) (making f n) → ⊥) → (asked : Asked) → ¬ AsksBy (Some (codes "init", rows)) asked
no_making rows none (making f n) h = none f n h
no_making rows none (serving f) h = let bad : ◌≡◌ {A = ℕ} 105 115 = letter (codes "init") (codes "serve") h.0 in absurd (omega arith)
no_making rows none (working f job) h = let bad : ◌≡◌ {A = ℕ} 105 119 = letter (codes "init") (codes "worker") h.0 in absurd (omega arith)
no_making rows none (loading f seed count) h = let bad : ◌≡◌ {A = ℕ} 105 108 = letter (codes "init") (codes "load") h.0 in absurd (omega arith)

pub no_working : (rows : List Row) → ((f : Bytes) (job : Job) → AsksBy (Some (codes "worker", rows)) (working f job) → ⊥) → (asked : Asked) → ¬ AsksBy (Some (codes "worker", rows)) asked
no_working rows none (making f n) h = let bad : ◌≡◌ {A = ℕ} 119 105 = letter (codes "worker") (codes "init") h.0 in absurd (omega arith)
no_working rows none (serving f) h = let bad : ◌≡◌ {A = ℕ} 119 115 = letter (codes "worker") (codes "serve") h.0 in absurd (omega arith)
no_working rows none (working f job) h = none f job h
no_working rows none (loading f seed count) h = let bad : ◌≡◌ {A = ℕ} 119 108 = letter (codes "worker") (codes "load") h.0 in absurd (omega arith)

pub no_loading : (rows : List Row) → ((f : Bytes) (seed count : ℕ) → AsksBy (Some (codes "load", rows)) (loading f seed count) → ⊥) → (asked : Asked) → ¬ AsksBy (Some (codes "load", rows)) asked
no_loading rows none (making f n) h = let bad : ◌≡◌ {A = ℕ} 108 105 = letter (codes "load") (codes "init") h.0 in absurd (omega arith)
no_loading rows none (serving f) h = let bad : ◌≡◌ {A = ℕ} 108 115 = letter (codes "load") (codes "serve") h.0 in absurd (omega arith)
no_loading rows none (working f job) h = let bad : ◌≡◌ {A = ℕ} 108 119 = letter (codes "load") (codes "worker") h.0 in absurd (omega arith)
no_loading rows none (loading f seed count) h = none f seed count h

-- ---- the words of numbers

pub no_dash : (c : ℕ) → ¬ (c ≡ 45) → (c == 45) ≡ false
no_dash c h = elim (cases_eq c 45) [
  | inl is ↦ absurd (h is)
  | inr not ↦ grind (arith, nat_tests)
]

-- a word that spells a number begins with a digit, which is no dash
abbrev pub IsDashless : Bytes → Type 0
IsDashless [] = ⊥
IsDashless (c ∷ rest) = (c == 45) ≡ false

pub dashless : (word : Bytes) (n : ℕ) → Spells word n → IsDashless word
dashless [] n spells = absurd (omega (arith, spells.digits.0))
dashless (d ∷ more) n spells =
    let digit = digit_at (d ∷ more) 0 spells.digits.1 spells.digits.0 in
    no_dash d (λ e. omega (arith, e, digit.0))

-- a number is spelled by its decimal text
pub spelled : (n : ℕ) → n < 2 ^ 64 → Spells (decimal n) n
spelled n small =
    let numeral = decimal_is_IsNumeral n small in
    record { digits = numeral.0; value = numeral.1; fits = small; short = short n small }
  where
    short : (n : ℕ) → n < 2 ^ 64 → slice_index (decimal n) 0 ≡ 48 → length (decimal n) ≡ 1
    short zero small h = ap length (decimal_digit 0 (omega arith))
    short (suc n) small h = absurd (omega (arith, h, first_decimal (suc n) (omega arith) small))

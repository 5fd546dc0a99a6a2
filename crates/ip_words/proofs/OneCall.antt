-- Words ask for one call, and for what is allowed.
use Rattle.std.proofs.Common.{◌≡◌, sym, ap, ap₂, ◌∙◌, ℕ, ◌≤◌, List, Option, Some, None, codes, slice_index, arith}
use Rattle.clap.specs.Words.{Row, subcommand_of}
use Rattle.ip_spec.specs.Path.{Bytes}
use Rattle.ip_spawn.specs.Jobs.{IsValid}
use Rattle.ip_spawn.specs.Sizes.{IsChunkSize}
use Rattle.ip_spawn.specs.declared.job.Job.{Job}
use Rattle.ip_words.specs.declared.TheConstants.{LOAD_MAX}
use Rattle.ip_words.specs.Words.{command_line, Asked, making, serving, working, loading, AsksBy, Asks}
use Rattle.ip_words.proofs.Numbers.{some_injective, letter, one_number, one_job}

-- the first letter of a call's subcommand
abbrev letter_of : Asked → ℕ
letter_of (making f n) = 105
letter_of (serving f) = 115
letter_of (working f job) = 119
letter_of (loading f seed count) = 108

asked_letter : (word : Bytes) (rows : List Row) (a : Asked) → AsksBy (Some (word, rows)) a → slice_index word 0 ≡ letter_of a
asked_letter word rows (making f n) h = letter word (codes "init") h.0
asked_letter word rows (serving f) h = letter word (codes "serve") h.0
asked_letter word rows (working f job) h = letter word (codes "worker") h.0
asked_letter word rows (loading f seed count) h = letter word (codes "load") h.0

same_letter : (word : Bytes) (rows : List Row) (a b : Asked) → AsksBy (Some (word, rows)) a → AsksBy (Some (word, rows)) b → letter_of a ≡ letter_of b
same_letter word rows a b h k = sym (asked_letter word rows a h) ∙ asked_letter word rows b k

one_by : (found : Option (Bytes × List Row)) (a b : Asked) → AsksBy found a → AsksBy found b → a ≡ b
one_by None a b h k = absurd h
one_by (Some (word, rows)) (making f n) (making g m) h k = ap₂ making (some_injective (sym h.1 ∙ k.1)) (one_number rows _ n m h.2 k.2)
one_by (Some (word, rows)) (serving f) (serving g) h k = ap serving (some_injective (sym h.1 ∙ k.1))
one_by (Some (word, rows)) (working f job) (working g other) h k = ap₂ working (some_injective (sym h.1 ∙ k.1)) (one_job rows job other h.2 k.2)
one_by (Some (word, rows)) (loading f s n) (loading g t m) h k =
    ap₂ (λ (x : Bytes) (y : ℕ). loading x y n) (some_injective (sym h.1 ∙ k.1)) (one_number rows _ s t h.2 k.2) ∙ ap (λ (z : ℕ). loading g t z) (one_number rows _ n m h.3 k.3)
one_by (Some (word, rows)) (making f n) (serving g) h k = (let bad : ◌≡◌ {A = ℕ} 105 115 = same_letter word rows (making f n) (serving g) h k in absurd (omega arith))
one_by (Some (word, rows)) (making f n) (working g job) h k = (let bad : ◌≡◌ {A = ℕ} 105 119 = same_letter word rows (making f n) (working g job) h k in absurd (omega arith))
one_by (Some (word, rows)) (making f n) (loading g s m) h k = (let bad : ◌≡◌ {A = ℕ} 105 108 = same_letter word rows (making f n) (loading g s m) h k in absurd (omega arith))
one_by (Some (word, rows)) (serving f) (making g m) h k = (let bad : ◌≡◌ {A = ℕ} 115 105 = same_letter word rows (serving f) (making g m) h k in absurd (omega arith))
one_by (Some (word, rows)) (serving f) (working g job) h k = (let bad : ◌≡◌ {A = ℕ} 115 119 = same_letter word rows (serving f) (working g job) h k in absurd (omega arith))
one_by (Some (word, rows)) (serving f) (loading g s m) h k = (let bad : ◌≡◌ {A = ℕ} 115 108 = same_letter word rows (serving f) (loading g s m) h k in absurd (omega arith))
one_by (Some (word, rows)) (working f job) (making g m) h k = (let bad : ◌≡◌ {A = ℕ} 119 105 = same_letter word rows (working f job) (making g m) h k in absurd (omega arith))
one_by (Some (word, rows)) (working f job) (serving g) h k = (let bad : ◌≡◌ {A = ℕ} 119 115 = same_letter word rows (working f job) (serving g) h k in absurd (omega arith))
one_by (Some (word, rows)) (working f job) (loading g s m) h k = (let bad : ◌≡◌ {A = ℕ} 119 108 = same_letter word rows (working f job) (loading g s m) h k in absurd (omega arith))
one_by (Some (word, rows)) (loading f s n) (making g m) h k = (let bad : ◌≡◌ {A = ℕ} 108 105 = same_letter word rows (loading f s n) (making g m) h k in absurd (omega arith))
one_by (Some (word, rows)) (loading f s n) (serving g) h k = (let bad : ◌≡◌ {A = ℕ} 108 115 = same_letter word rows (loading f s n) (serving g) h k in absurd (omega arith))
one_by (Some (word, rows)) (loading f s n) (working g job) h k = (let bad : ◌≡◌ {A = ℕ} 108 119 = same_letter word rows (loading f s n) (working g job) h k in absurd (omega arith))

pub one_asked : (words : List Bytes) (a b : Asked) → Asks words a → Asks words b → a ≡ b
one_asked words a b h k = one_by (subcommand_of command_line words) a b h.asks k.asks

-- ---- what is allowed

allowed_by : (found : Option (Bytes × List Row)) (folder : Bytes) (chunk : ℕ) → AsksBy found (making folder chunk) → IsChunkSize chunk
allowed_by None folder chunk h = absurd h
allowed_by (Some (word, rows)) folder chunk h = h.3

pub allowed : (words : List Bytes) (folder : Bytes) (chunk : ℕ) → Asks words (making folder chunk) → IsChunkSize chunk
allowed words folder chunk h = allowed_by (subcommand_of command_line words) folder chunk h.asks

valid_by : (found : Option (Bytes × List Row)) (folder : Bytes) (job : Job) → AsksBy found (working folder job) → IsValid job
valid_by None folder job h = absurd h
valid_by (Some (word, rows)) folder job h = h.3

pub valid_job : (words : List Bytes) (folder : Bytes) (job : Job) → Asks words (working folder job) → IsValid job
valid_job words folder job h = valid_by (subcommand_of command_line words) folder job h.asks

counted_by : (found : Option (Bytes × List Row)) (folder : Bytes) (seed count : ℕ) → AsksBy found (loading folder seed count) → (1 ≤ count) × (count ≤ LOAD_MAX)
counted_by None folder seed count h = absurd h
counted_by (Some (word, rows)) folder seed count h = (h.4, h.5)

pub counted : (words : List Bytes) (folder : Bytes) (seed count : ℕ) → Asks words (loading folder seed count) → (1 ≤ count) × (count ≤ LOAD_MAX)
counted words folder seed count h = counted_by (subcommand_of command_line words) folder seed count h.asks

-- ---- what one call says of another

-- the size is told by the call that is asked for
pub same_size : (words : List Bytes) (f g : Bytes) (n m : ℕ) → Asks words (making f n) → Asks words (making g m) → n ≡ m
same_size words f g n m h k = size_by (one_asked words _ _ h k)
  where
    size_of : Asked → ℕ
    size_of (making folder chunk) = chunk
    size_of asked = 0

    size_by : making f n ≡ making g m → n ≡ m
    size_by e = ap size_of e

pub not_both : (words : List Bytes) (f g : Bytes) (n : ℕ) → Asks words (making f n) → Asks words (serving g) → ⊥
not_both words f g n h k = cc (one_asked words _ _ h k)

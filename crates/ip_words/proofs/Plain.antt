-- The plain forms of the calls.
--     Takes given word names texts      clap takes what is given for the subcommand of this name, with these texts of these arguments
use Rattle.std.proofs.Common.{refl, ap, ap₂, ◌∙◌, subst, ◌≡◌, ℕ, ◌+◌, ◌/◌, ◌%◌, ◌<◌, ◌≤◌, ◌^◌, ◌==◌, false, List, [], ◌∷◌, ◌++◌, map, Option, Some, None, codes, rules, arith}
use Rattle.std.specs.Prelude.{⊤, option_map}
use Rattle.std.specs.Fmt.{decimal}
use Rattle.std.proofs.lemmas.Fmt.{decimal_step, decimal_digit}
use Rattle.clap.specs.Words.{Row, fault_of, subcommand_of, first_of}
use Rattle.clap.proofs.OnLiterals.{clap_on_literals}
use Rattle.ip_spec.specs.Path.{Bytes}
use Rattle.ip_spawn.specs.Jobs.{IsValid, numbers_of}
use Rattle.ip_spawn.specs.Sizes.{IsChunkSize}
use Rattle.ip_spawn.specs.Spelling.{Spells}
use Rattle.ip_spawn.specs.declared.job.Job.{Job}
use Rattle.ip_words.specs.declared.TheConstants.{LOAD_MAX}
use Rattle.ip_words.specs.Words.{command_line, job_words, Asks, AsksBy, AsksNothing, AreNumbers, AreSpelled, making, serving, working, loading}
use Rattle.ip_words.proofs.Numbers.{some_injective, no_dash, IsDashless, dashless, spelled}
use Rattle.ip_words.proofs.Positionals.{all_taken, all_read}
use Rattle.ip_words.proofs.Taking.{small_size}

-- ---- what is found of some arguments

abbrev read_of : List Bytes → Option (Bytes × List Row) → Option (Bytes × List (Option Bytes))
read_of names found = option_map (λ (r : Bytes × List Row). (r.0, map (λ name. first_of name r.1) names)) found

record Takes (given : List Bytes) (word : Bytes) (names texts : List Bytes) : Type 0 where
  taken : fault_of command_line given ≡ []
  read : read_of names (subcommand_of command_line given) ≡ Some (word, map Some texts)

abbrev AreFound : List Row → List Bytes → List Bytes → Type 0
AreFound rows [] [] = ⊤
AreFound rows (name ∷ names) (text ∷ texts) = (first_of name rows ≡ Some text) × AreFound rows names texts
AreFound rows names texts = ⊥

are_found : (rows : List Row) (names texts : List Bytes) → map (λ name. first_of name rows) names ≡ map Some texts → AreFound rows names texts
are_found rows [] [] e = tt
are_found rows [] (text ∷ texts) e = absurd (cc e)
are_found rows (name ∷ names) [] e = absurd (cc e)
are_found rows (name ∷ names) (text ∷ texts) e = (cc e, are_found rows names texts (cc e))

numbers_found : (rows : List Row) (names texts : List Bytes) (numbers : List ℕ) → AreFound rows names texts → AreSpelled texts numbers → AreNumbers rows names numbers
numbers_found rows [] [] [] h k = tt
numbers_found rows [] [] (n ∷ numbers) h k = absurd k
numbers_found rows [] (text ∷ texts) numbers h k = absurd h
numbers_found rows (name ∷ names) [] numbers h k = absurd h
numbers_found rows (name ∷ names) (text ∷ texts) [] h k = absurd k
numbers_found rows (name ∷ names) (text ∷ texts) (n ∷ numbers) h k = ((text, h.0, k.0), numbers_found rows names texts numbers h.1 k.1)

abbrev Reads : Option (Bytes × List Row) → Bytes → List Bytes → List Bytes → Type 0
Reads None word names texts = ⊥
Reads (Some (said, rows)) word names texts = (said ≡ word) × AreFound rows names texts

reads : (found : Option (Bytes × List Row)) (word : Bytes) (names texts : List Bytes) → read_of names found ≡ Some (word, map Some texts) → Reads found word names texts
reads None word names texts e = absurd (cc e)
reads (Some (said, rows)) word names texts e =
    let both = some_injective e in
    (ap (λ (r : Bytes × List (Option Bytes)). r.0) both, are_found rows names texts (ap (λ (r : Bytes × List (Option Bytes)). r.1) both))

making_by : (found : Option (Bytes × List Row)) (f text : Bytes) (n : ℕ) → Reads found (codes "init") (codes "DIR" ∷ codes "chunk" ∷ []) (f ∷ text ∷ []) → Spells text n → IsChunkSize n → AsksBy found (making f n)
making_by None f text n h spells size = absurd h
making_by (Some (said, rows)) f text n h spells size = (h.0, h.1.0, (text, h.1.1.0, spells), size)

serving_by : (found : Option (Bytes × List Row)) (f : Bytes) → Reads found (codes "serve") (codes "DIR" ∷ []) (f ∷ []) → AsksBy found (serving f)
serving_by None f h = absurd h
serving_by (Some (said, rows)) f h = (h.0, h.1.0)

working_by : (found : Option (Bytes × List Row)) (f : Bytes) (texts : List Bytes) (job : Job) → Reads found (codes "worker") (codes "DIR" ∷ job_words) (f ∷ texts) → AreSpelled texts (numbers_of job) → IsValid job → AsksBy found (working f job)
working_by None f texts job h spells valid = absurd h
working_by (Some (said, rows)) f texts job h spells valid = (h.0, h.1.0, numbers_found rows job_words texts (numbers_of job) h.1.1 spells, valid)

loading_by : (found : Option (Bytes × List Row)) (f first second : Bytes) (seed count : ℕ) → Reads found (codes "load") (codes "DIR" ∷ codes "SEED" ∷ codes "COUNT" ∷ []) (f ∷ first ∷ second ∷ [])
    → Spells first seed → Spells second count → 1 ≤ count → count ≤ LOAD_MAX → AsksBy found (loading f seed count)
loading_by None f first second seed count h s k l m = absurd h
loading_by (Some (said, rows)) f first second seed count h s k l m = (h.0, h.1.0, (first, h.1.1.0, s), (second, h.1.1.1.0, k), l, m)

found_in : (given : List Bytes) (word : Bytes) (names texts : List Bytes) → Takes given word names texts → Reads (subcommand_of command_line given) word names texts
found_in given word names texts h = reads (subcommand_of command_line given) word names texts h.read

-- ---- what clap takes

serve_takes : (program : Bytes) (c : ℕ) (rest : Bytes) → (c == 45) ≡ false
    → Takes (program ∷ codes "serve" ∷ (c ∷ rest) ∷ []) (codes "serve") (codes "DIR" ∷ []) ((c ∷ rest) ∷ [])
unfolding clap_on_literals
serve_takes program c rest e = record { taken = search (rules, e); read = search (rules, e) }

init_takes : (program : Bytes) (c : ℕ) (rest : Bytes) → (c == 45) ≡ false
    → Takes (program ∷ codes "init" ∷ (c ∷ rest) ∷ []) (codes "init") (codes "DIR" ∷ codes "chunk" ∷ []) ((c ∷ rest) ∷ codes "1048576" ∷ [])
unfolding clap_on_literals
init_takes program c rest e = record { taken = search (rules, e); read = search (rules, e) }

behind_takes : (program : Bytes) (c : ℕ) (rest size : Bytes) → (c == 45) ≡ false → IsDashless size
    → Takes (program ∷ codes "init" ∷ (c ∷ rest) ∷ codes "--chunk" ∷ size ∷ []) (codes "init") (codes "DIR" ∷ codes "chunk" ∷ []) ((c ∷ rest) ∷ size ∷ [])
unfolding clap_on_literals
behind_takes program c rest [] e h = absurd h
behind_takes program c rest (d ∷ size) e h = record { taken = search (rules, e, h); read = search (rules, e, h) }

before_takes : (program : Bytes) (c : ℕ) (rest size : Bytes) → (c == 45) ≡ false → IsDashless size
    → Takes (program ∷ codes "init" ∷ codes "--chunk" ∷ size ∷ (c ∷ rest) ∷ []) (codes "init") (codes "DIR" ∷ codes "chunk" ∷ []) ((c ∷ rest) ∷ size ∷ [])
unfolding clap_on_literals
before_takes program c rest [] e h = absurd h
before_takes program c rest (d ∷ size) e h = record { taken = search (rules, e, h); read = search (rules, e, h) }

load_begun : (program : Bytes) (c : ℕ) (rest : Bytes) (a : ℕ) (first : Bytes) (b : ℕ) (second : Bytes) → (c == 45) ≡ false → (a == 45) ≡ false → (b == 45) ≡ false
    → Takes (program ∷ codes "load" ∷ (c ∷ rest) ∷ (a ∷ first) ∷ (b ∷ second) ∷ []) (codes "load") (codes "DIR" ∷ codes "SEED" ∷ codes "COUNT" ∷ []) ((c ∷ rest) ∷ (a ∷ first) ∷ (b ∷ second) ∷ [])
unfolding clap_on_literals
load_begun program c rest a first b second e h k = record { taken = search (rules, e, h, k); read = search (rules, e, h, k) }

load_takes : (program : Bytes) (c : ℕ) (rest first second : Bytes) → (c == 45) ≡ false → IsDashless first → IsDashless second
    → Takes (program ∷ codes "load" ∷ (c ∷ rest) ∷ first ∷ second ∷ []) (codes "load") (codes "DIR" ∷ codes "SEED" ∷ codes "COUNT" ∷ []) ((c ∷ rest) ∷ first ∷ second ∷ [])
load_takes program c rest [] second e h k = absurd h
load_takes program c rest (a ∷ first) [] e h k = absurd k
load_takes program c rest (a ∷ first) (b ∷ second) e h k = load_begun program c rest a first b second e h k

worker_takes : (program w0 w1 w2 w3 w4 w5 w6 w7 w8 : Bytes)
    → IsDashless w0 → IsDashless w1 → IsDashless w2 → IsDashless w3 → IsDashless w4 → IsDashless w5 → IsDashless w6 → IsDashless w7 → IsDashless w8
    → Takes (program ∷ codes "worker" ∷ w0 ∷ w1 ∷ w2 ∷ w3 ∷ w4 ∷ w5 ∷ w6 ∷ w7 ∷ w8 ∷ []) (codes "worker") (codes "DIR" ∷ job_words) (w0 ∷ w1 ∷ w2 ∷ w3 ∷ w4 ∷ w5 ∷ w6 ∷ w7 ∷ w8 ∷ [])
worker_takes program w0 w1 w2 w3 w4 w5 w6 w7 w8 d0 d1 d2 d3 d4 d5 d6 d7 d8 = record {
  taken = all_taken program w0 w1 w2 w3 w4 w5 w6 w7 w8 d0 d1 d2 d3 d4 d5 d6 d7 d8;
  read = ap (read_of (codes "DIR" ∷ job_words)) (all_read program w0 w1 w2 w3 w4 w5 w6 w7 w8 d0 d1 d2 d3 d4 d5 d6 d7 d8);
}

-- ---- serve

pub serve_plain : (program : Bytes) (c : ℕ) (rest : Bytes) → ¬ (c ≡ 45) → Asks (program ∷ codes "serve" ∷ (c ∷ rest) ∷ []) (serving (c ∷ rest))
serve_plain program c rest h =
    let takes = serve_takes program c rest (no_dash c h) in
    record { taken = takes.taken; asks = serving_by _ (c ∷ rest) (found_in _ _ (codes "DIR" ∷ []) ((c ∷ rest) ∷ []) takes) }

-- ---- init

default_size : IsChunkSize 1048576
default_size = (20, omega arith, omega arith, refl)

one_more : (n m d : ℕ) (text : Bytes) → 10 ≤ n → n < 2 ^ 64 → n / 10 ≡ m → 48 + n % 10 ≡ d → decimal m ≡ text → decimal n ≡ text ++ (d ∷ [])
one_more n m d text large small e h is = decimal_step n large small ∙ ap₂ (λ (t : Bytes) (b : ℕ). t ++ (b ∷ [])) (ap decimal e ∙ is) h

default_text : decimal 1048576 ≡ codes "1048576"
default_text =
    one_more 1048576 104857 54 _ (omega arith) (omega arith) refl refl (one_more 104857 10485 55 _ (omega arith) (omega arith) refl refl
    (one_more 10485 1048 53 _ (omega arith) (omega arith) refl refl (one_more 1048 104 56 _ (omega arith) (omega arith) refl refl
    (one_more 104 10 52 _ (omega arith) (omega arith) refl refl (one_more 10 1 48 _ (omega arith) (omega arith) refl refl (decimal_digit 1 (omega arith)))))))

pub init_plain : (program : Bytes) (c : ℕ) (rest : Bytes) → ¬ (c ≡ 45) → Asks (program ∷ codes "init" ∷ (c ∷ rest) ∷ []) (making (c ∷ rest) 1048576)
init_plain program c rest h =
    let takes = init_takes program c rest (no_dash c h) in
    record {
      taken = takes.taken;
      asks = making_by _ (c ∷ rest) (codes "1048576") 1048576 (found_in _ _ (codes "DIR" ∷ codes "chunk" ∷ []) ((c ∷ rest) ∷ codes "1048576" ∷ []) takes) (subst (λ (text : Bytes). Spells text 1048576) default_text (spelled 1048576 (omega arith))) default_size;
    }

of_size : (given : List Bytes) (f : Bytes) (chunk : ℕ) → IsChunkSize chunk → Takes given (codes "init") (codes "DIR" ∷ codes "chunk" ∷ []) (f ∷ decimal chunk ∷ []) → Asks given (making f chunk)
of_size given f chunk allowed takes = record {
  taken = takes.taken;
  asks = making_by _ f (decimal chunk) chunk (found_in _ _ (codes "DIR" ∷ codes "chunk" ∷ []) (f ∷ decimal chunk ∷ []) takes) (spelled chunk (small_size chunk allowed)) allowed;
}

size_dashless : (chunk : ℕ) → IsChunkSize chunk → IsDashless (decimal chunk)
size_dashless chunk allowed = dashless (decimal chunk) chunk (spelled chunk (small_size chunk allowed))

pub behind_plain : (program : Bytes) (c : ℕ) (rest : Bytes) (chunk : ℕ) → ¬ (c ≡ 45) → IsChunkSize chunk → Asks (program ∷ codes "init" ∷ (c ∷ rest) ∷ codes "--chunk" ∷ decimal chunk ∷ []) (making (c ∷ rest) chunk)
behind_plain program c rest chunk h allowed = of_size _ (c ∷ rest) chunk allowed (behind_takes program c rest (decimal chunk) (no_dash c h) (size_dashless chunk allowed))

pub before_plain : (program : Bytes) (c : ℕ) (rest : Bytes) (chunk : ℕ) → ¬ (c ≡ 45) → IsChunkSize chunk → Asks (program ∷ codes "init" ∷ codes "--chunk" ∷ decimal chunk ∷ (c ∷ rest) ∷ []) (making (c ∷ rest) chunk)
before_plain program c rest chunk h allowed = of_size _ (c ∷ rest) chunk allowed (before_takes program c rest (decimal chunk) (no_dash c h) (size_dashless chunk allowed))

-- ---- load

pub load_plain : (program : Bytes) (c : ℕ) (rest : Bytes) (first second : Bytes) (seed count : ℕ) → ¬ (c ≡ 45) → Spells first seed → Spells second count → 1 ≤ count → count ≤ LOAD_MAX
    → Asks (program ∷ codes "load" ∷ (c ∷ rest) ∷ first ∷ second ∷ []) (loading (c ∷ rest) seed count)
load_plain program c rest first second seed count h s k l m =
    let takes = load_takes program c rest first second (no_dash c h) (dashless first seed s) (dashless second count k) in
    record {
      taken = takes.taken;
      asks = loading_by _ (c ∷ rest) first second seed count (found_in _ _ (codes "DIR" ∷ codes "SEED" ∷ codes "COUNT" ∷ []) ((c ∷ rest) ∷ first ∷ second ∷ []) takes) s k l m;
    }

-- ---- worker

pub worker_plain : (program : Bytes) (c : ℕ) (rest : Bytes) (words : List Bytes) (job : Job) → ¬ (c ≡ 45) → AreSpelled words (numbers_of job) → IsValid job
    → Asks (program ∷ codes "worker" ∷ (c ∷ rest) ∷ words) (working (c ∷ rest) job)
worker_plain program c rest [] job h s valid = absurd s
worker_plain program c rest (w1 ∷ []) job h s valid = absurd s.1
worker_plain program c rest (w1 ∷ w2 ∷ []) job h s valid = absurd s.1.1
worker_plain program c rest (w1 ∷ w2 ∷ w3 ∷ []) job h s valid = absurd s.1.1.1
worker_plain program c rest (w1 ∷ w2 ∷ w3 ∷ w4 ∷ []) job h s valid = absurd s.1.1.1.1
worker_plain program c rest (w1 ∷ w2 ∷ w3 ∷ w4 ∷ w5 ∷ []) job h s valid = absurd s.1.1.1.1.1
worker_plain program c rest (w1 ∷ w2 ∷ w3 ∷ w4 ∷ w5 ∷ w6 ∷ []) job h s valid = absurd s.1.1.1.1.1.1
worker_plain program c rest (w1 ∷ w2 ∷ w3 ∷ w4 ∷ w5 ∷ w6 ∷ w7 ∷ []) job h s valid = absurd s.1.1.1.1.1.1.1
worker_plain program c rest (w1 ∷ w2 ∷ w3 ∷ w4 ∷ w5 ∷ w6 ∷ w7 ∷ w8 ∷ w9 ∷ more) job h s valid = absurd s.1.1.1.1.1.1.1.1
worker_plain program c rest (w1 ∷ w2 ∷ w3 ∷ w4 ∷ w5 ∷ w6 ∷ w7 ∷ w8 ∷ []) job h s valid =
    let takes = worker_takes program (c ∷ rest) w1 w2 w3 w4 w5 w6 w7 w8 (no_dash c h)
    (dashless w1 _ s.0) (dashless w2 _ s.1.0) (dashless w3 _ s.1.1.0) (dashless w4 _ s.1.1.1.0)
    (dashless w5 _ s.1.1.1.1.0) (dashless w6 _ s.1.1.1.1.1.0) (dashless w7 _ s.1.1.1.1.1.1.0) (dashless w8 _ s.1.1.1.1.1.1.1.0) in
    let words = w1 ∷ w2 ∷ w3 ∷ w4 ∷ w5 ∷ w6 ∷ w7 ∷ w8 ∷ [] in
    record {
      taken = takes.taken;
      asks = working_by _ (c ∷ rest) words job (found_in _ _ (codes "DIR" ∷ job_words) ((c ∷ rest) ∷ words) takes) s valid;
    }

-- ---- no call

pub no_words : AsksNothing []
unfolding clap_on_literals
no_words asked h = absurd h.asks

pub program_alone : (program : Bytes) → AsksNothing (program ∷ [])
unfolding clap_on_literals
program_alone program asked h = absurd h.asks

pub helped : (program : Bytes) → AsksNothing (program ∷ codes "--help" ∷ [])
unfolding clap_on_literals
helped program asked h = absurd h.asks

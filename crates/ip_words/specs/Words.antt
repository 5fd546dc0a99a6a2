-- Which words ask for which call, by what clap states of this command line: `init DIR [--chunk N]`, `serve DIR`,
-- `worker DIR J1 J2 J3 J4 J5 J6 J7 J8` and `load DIR SEED COUNT`.
--     command_line      the subcommands with their arguments
--     Asks words asked      the words, the program's name first, ask for this.      AsksNothing words      for nothing that the program does
--     IsRead words call      of what was read of the words: it is asked for, or nothing is
--     AsksBy found asked      of the subcommand that clap reads, with what it found of the arguments
use Rattle.std.specs.Prelude.{◌≡◌, ⊤, ℕ, ◌≤◌, true, false, List, [], ◌∷◌, map, Option, Some, None, codes, String, string_bytes}
use Rattle.std.specs.declared.alloc.Global.{Global}
use Rattle.clap.specs.Words.{App, Row, Rule, app_of, fault_of, first_of, new_app, new_rule, subcommand_of, with_rule, with_subcommand}
use Rattle.clap.specs.declared.builder.command.Command.{Command}
use Rattle.clap.specs.declared.builder.command.Command.TheViews.{out-Command as fields_of}
use Rattle.ip_spec.specs.Path.{Bytes}
use Rattle.ip_spawn.specs.Jobs.{IsValid, numbers_of}
use Rattle.ip_spawn.specs.Sizes.{IsChunkSize}
use Rattle.ip_spawn.specs.Spelling.{Spells}
use Rattle.ip_spawn.specs.declared.job.Job.{Job}
use Rattle.ip_words.specs.declared.Call.{Call}
use Rattle.ip_words.specs.declared.TheConstants.{LOAD_MAX}

-- ---- the command line

-- a word that has to be there, as DIR
abbrev pub needed_rule : Bytes → Rule
needed_rule name = record (new_rule name) { required = true }

-- --chunk N
abbrev pub chunk_rule : Rule
chunk_rule = record (new_rule (codes "chunk")) { long = Some (codes "chunk"); defaults = codes "1048576" ∷ [] }

-- a subcommand of this name, of words that have to be there
abbrev pub line_of : Bytes → List Bytes → App
line_of name words = with_needed (new_app name) words
  where
    with_needed : App → List Bytes → App
    with_needed line [] = line
    with_needed line (word ∷ words) = with_needed (with_rule line (needed_rule word)) words

-- the words of a job
abbrev pub job_words : List Bytes
job_words = codes "J1" ∷ codes "J2" ∷ codes "J3" ∷ codes "J4" ∷ codes "J5" ∷ codes "J6" ∷ codes "J7" ∷ codes "J8" ∷ []

abbrev pub init_line : App
init_line = with_rule (line_of (codes "init") (codes "DIR" ∷ [])) chunk_rule

abbrev pub serve_line : App
serve_line = line_of (codes "serve") (codes "DIR" ∷ [])

abbrev pub worker_line : App
worker_line = line_of (codes "worker") (codes "DIR" ∷ job_words)

abbrev pub load_line : App
load_line = line_of (codes "load") (codes "DIR" ∷ codes "SEED" ∷ codes "COUNT" ∷ [])

abbrev pub command_line : App
command_line = with_subcommand (with_subcommand (with_subcommand (with_subcommand (new_app (codes "ipstore")) init_line.top) serve_line.top) worker_line.top) load_line.top

-- a command that is built like this, and has no argument for all subcommands
pub record IsLine (line : App) (command : Command) : Type 0 where
  pub is_line : app_of command ≡ line
  pub local : (fields_of command).has_globals ≡ false

-- ---- what is asked for

pub data Asked : Type 0 where
  -- a store is made in the folder, with chunks of so many bytes
  making : (folder : Bytes) (chunk : ℕ) → Asked
  -- the store in the folder is served
  serving : (folder : Bytes) → Asked
  -- the pair of the job is written in the folder
  working : (folder : Bytes) (job : Job) → Asked
  -- so many lines of the load from this seed on are run over the store in the folder
  loading : (folder : Bytes) (seed count : ℕ) → Asked

-- the argument of this name was found, and spells the number
abbrev pub IsNumber : List Row → Bytes → ℕ → Type 0
IsNumber rows name n = (word : Bytes) × (first_of name rows ≡ Some word) × Spells word n

-- the arguments of these names spell these numbers, one by one
abbrev pub AreNumbers : List Row → List Bytes → List ℕ → Type 0
AreNumbers rows [] [] = ⊤
AreNumbers rows (name ∷ names) (n ∷ numbers) = IsNumber rows name n × AreNumbers rows names numbers
AreNumbers rows names numbers = ⊥

-- A size is one that chunks may have, the eight numbers are a job that a collector may be given, and a load has at least one line and at most so many.
abbrev pub AsksBy : Option (Bytes × List Row) → Asked → Type 0
AsksBy (Some (word, rows)) (making folder chunk) =
    (word ≡ codes "init") × (first_of (codes "DIR") rows ≡ Some folder) × IsNumber rows (codes "chunk") chunk × IsChunkSize chunk
AsksBy (Some (word, rows)) (serving folder) = (word ≡ codes "serve") × (first_of (codes "DIR") rows ≡ Some folder)
AsksBy (Some (word, rows)) (working folder job) =
    (word ≡ codes "worker") × (first_of (codes "DIR") rows ≡ Some folder) × AreNumbers rows job_words (numbers_of job) × IsValid job
AsksBy (Some (word, rows)) (loading folder seed count) =
    (word ≡ codes "load") × (first_of (codes "DIR") rows ≡ Some folder) × IsNumber rows (codes "SEED") seed × IsNumber rows (codes "COUNT") count × (1 ≤ count) × (count ≤ LOAD_MAX)
AsksBy None asked = ⊥

pub record Asks (words : List Bytes) (asked : Asked) : Type 0 where
  -- clap reads them, and answers none of them by its own help
  pub taken : fault_of command_line words ≡ []
  pub asks : AsksBy (subcommand_of command_line words) asked

abbrev pub AsksNothing : List Bytes → Type 0
AsksNothing words = (asked : Asked) → ¬ Asks words asked

-- these words spell these numbers, one by one
abbrev pub AreSpelled : List Bytes → List ℕ → Type 0
AreSpelled [] [] = ⊤
AreSpelled (word ∷ words) (n ∷ numbers) = Spells word n × AreSpelled words numbers
AreSpelled words numbers = ⊥

-- ---- what was read

abbrev pub shown : Call → Asked
shown (Call.Init folder chunk) = making folder.now chunk
shown (Call.Serve folder) = serving folder.now
shown (Call.Worker folder job) = working folder.now job
shown (Call.Load folder seed count) = loading folder.now seed count

abbrev pub IsReadBy : Option (Bytes × List Row) → Option Call → Type 0
IsReadBy found None = (asked : Asked) → ¬ AsksBy found asked
IsReadBy found (Some call) = AsksBy found (shown call)

abbrev pub IsRead : List Bytes → Option Call → Type 0
IsRead words None = AsksNothing words
IsRead words (Some call) = Asks words (shown call)

-- the texts of words
abbrev pub texts_of : List (String Global) → List Bytes
texts_of = map string_bytes

-- The texts of paths.
--     IsStep, IsPath      what a script may name: 1 to 64 steps of 1 to 255 bytes
--     path_text path      its text: the steps, with a slash between each two
--     path_fault text      the first byte of a text that cannot stand in a path, and why
use Rattle.std.specs.Prelude.{◌≢◌, ℕ, ◌+◌, ◌-◌, ◌<◌, ◌≤◌, Bool, not, ◌&&◌, ◌||◌, ◌==◌, List, [], ◌∷◌, ◌++◌, length, All, Option, Some, None, if◌then◌else◌}
use Rattle.ip_base.specs.declared.limit.TheConstants.{STEPS_MAX, STEP_BYTES_MAX}
use Rattle.ip_base.specs.declared.path.PathFault.{PathFault}

abbrev pub slash : ℕ
slash = 47

abbrev pub space : ℕ
space = 32

abbrev pub line_feed : ℕ
line_feed = 10

-- a byte of a word: no space, LF or NUL
abbrev pub IsWordByte : ℕ → Type 0
IsWordByte b = (b < 256) × (b ≢ space) × (b ≢ line_feed) × (b ≢ 0)

abbrev pub is_word_byte : ℕ → Bool
is_word_byte b = not (b == space || b == line_feed || b == 0)

-- a byte of a step: of a word, and no slash
abbrev pub is_step_byte : ℕ → Bool
is_step_byte b = is_word_byte b && not (b == slash)

pub record IsStep (step : List ℕ) : Type 0 where
  pub some : 0 < length step
  pub short : length step ≤ STEP_BYTES_MAX
  pub each : All (λ b. IsWordByte b × (b ≢ slash)) step

pub record IsPath (path : List (List ℕ)) : Type 0 where
  pub some : 0 < length path
  pub short : length path ≤ STEPS_MAX
  pub each : All IsStep path

-- the steps with a slash between each two
abbrev pub path_text : List (List ℕ) → List ℕ
path_text [] = []
path_text (s ∷ []) = s
path_text (s ∷ r ∷ p) = s ++ slash ∷ path_text (r ∷ p)

-- what is wrong with a slash behind n bytes of an open step, before which so many are whole
abbrev pub slash_fault : ℕ → ℕ → ℕ → Option PathFault
slash_fault at steps n = if n == 0 then Some (PathFault.EmptyStep at) else if steps == STEPS_MAX - 1 then Some (PathFault.Depth at) else None

-- what is wrong with another byte behind n bytes of an open step
abbrev pub byte_fault : ℕ → ℕ → ℕ → Option PathFault
byte_fault at n b = if n == STEP_BYTES_MAX then Some (PathFault.LongStep at) else if not (is_word_byte b) then Some (PathFault.BadByte at) else None

-- at: the place; steps: how many are whole; n: the length of the one that stands open. A byte that would be the 256th of a step makes
-- it too long, whatever else is wrong with it, and a slash behind the 64th step makes the path too deep.
abbrev pub path_fault_from : ℕ → ℕ → ℕ → List ℕ → Option PathFault
path_fault_from at steps n [] = if n == 0 then Some (PathFault.EmptyStep at) else None
path_fault_from at steps n (b ∷ text) =
    if b == slash
    then (if n == 0 then Some (PathFault.EmptyStep at) else if steps == STEPS_MAX - 1 then Some (PathFault.Depth at) else path_fault_from (at + 1) (steps + 1) 0 text)
    else (if n == STEP_BYTES_MAX then Some (PathFault.LongStep at) else if not (is_word_byte b) then Some (PathFault.BadByte at) else path_fault_from (at + 1) steps (n + 1) text)

unfoldable pub path_fault : List ℕ → Option PathFault
path_fault text = path_fault_from 0 0 0 text

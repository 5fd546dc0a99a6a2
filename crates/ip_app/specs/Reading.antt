-- What the calls that cut a source into lines do.
use Rattle.std.specs.Prelude.{ℕ, ◌+◌, ◌<◌, ◌≤◌, ◌≡◌, Bool, IsTrue, [], ◌∷◌, ◌++◌, length}
use Rattle.ip_ground.specs.Counts.{Rose}
use Rattle.ip_spec.specs.Path.{Bytes, line_feed}
use Rattle.ip_app.specs.declared.statuses.Status.{Status}
use Rattle.ip_app.specs.declared.statuses.Bound.TheVariants as Bound
use Rattle.ip_app.specs.Lines.{longest_line, most_taken, HasNoLineFeed}

-- what stood before the first line feed of the pending bytes is at the line's end now
pub record FindsLineFeed (pending pending' line line' : Bytes) : Type 0 where
  pub piece : Bytes
  pub no_line_feed : HasNoLineFeed piece
  pub bytes : pending ≡ piece ++ line_feed ∷ pending'
  pub grown : line' ≡ line ++ piece

-- there is no line feed, and all is at the line's end now
pub record FindsNone (pending pending' line line' : Bytes) : Type 0 where
  pub no_line_feed : HasNoLineFeed pending
  pub none_left : pending' ≡ []
  pub grown : line' ≡ line ++ pending

-- some more bytes were taken, behind `before` ones of a line
pub record Refills (before : ℕ) (tells : Bool) (left left' : Bytes) (taken taken' : ℕ) (pending' : Bytes) : Type 0 where
  pub bytes : IsTrue tells → left ≡ pending' ++ left'
  pub some : 0 < length pending'
  pub room : before + length pending' ≤ longest_line + 1
  pub count : taken' ≡ taken + length pending'

-- why a source is read no further: `rest` bytes stand behind the last line feed of the `taken` ones
abbrev pub EndsReading : Status → (rest taken : ℕ) → (at_end : Type 0) → Type 0
EndsReading Status.Done rest taken at_end = at_end × (rest ≡ 0) × (taken < most_taken)
EndsReading Status.Unfinished rest taken at_end = at_end × (0 < rest) × (rest ≤ longest_line) × (taken < most_taken)
EndsReading (Status.Limit Bound.Line) rest taken at_end = (rest ≡ longest_line + 1) × (taken ≤ most_taken)
EndsReading (Status.Limit Bound.Input) rest taken at_end = (rest ≤ longest_line) × (taken ≡ most_taken)
EndsReading Status.ReadFault rest taken at_end = (rest ≤ longest_line) × (taken < most_taken)
EndsReading _ rest taken at_end = ⊥

-- the source has counted a fault exactly where one is told
abbrev pub IsCaused : Status → (faults faults' : ℕ) → Type 0
IsCaused Status.ReadFault faults faults' = Rose faults faults'
IsCaused _ faults faults' = faults' ≡ faults

-- no more bytes are taken
pub record EndsAt (status : Status) (rest : ℕ) (tells : Bool) (left left' : Bytes) (faults faults' taken taken' : ℕ) (pending' : Bytes) : Type 0 where
  pub ends : EndsReading status rest taken' (IsTrue tells → left' ≡ [])
  pub cause : IsCaused status faults faults'
  pub same : IsTrue tells → left' ≡ left
  pub count : taken' ≡ taken
  pub none_pending : pending' ≡ []

-- the bytes are a line, its line feed, and what comes then
pub record GetsLine (line : Bytes) (tells : Bool) (bytes bytes' : Bytes) : Type 0 where
  pub no_line_feed : HasNoLineFeed line
  pub short : length line ≤ longest_line
  pub front : IsTrue tells → bytes ≡ line ++ line_feed ∷ bytes'

-- The lines of a script: which bytes are which command, and where a line that is none goes wrong.
--     IsPathText, IsHexText ..      of each word its texts.      LineOf head words line      a first word, and words of these forms behind a space each
--     first_word, forms_of, IsLineOf command line      the lines of a command
--     Begins IsLine text      some line of the grammar begins with the text.      IsBadAt IsLine line at      the line is of no command, and at is the length of its longest prefix that some line begins with
--     Reads IsLine line result      what reading a line may answer
use Rattle.std.specs.Prelude.{◌≡◌, ◌⊎◌, ℕ, ◌+◌, ◌/◌, ◌%◌, ◌<◌, ◌≤◌, List, [], ◌∷◌, ◌++◌, length, take, codes, Result, Ok, Err}
use Rattle.std.specs.Fmt.{decimal}
use Rattle.ip_spec.specs.Path.{Bytes, Path, path_text, IsPath, space}
use Rattle.ip_spec.specs.Record.{Info, IsInfo, IsBranchName, IsHash}
use Rattle.ip_spec.specs.Machine.{Command, Target}
pub use Rattle.ip_spec.specs.declared.command.LineFault.{LineFault}
pub use Rattle.ip_spec.specs.declared.command.LineFault.TheVariants as LineFault

-- a hex digit of either case
abbrev pub IsHexDigit : ℕ → ℕ → Type 0
IsHexDigit n c = ((n < 10) × (c ≡ 48 + n)) ⊎ ((10 ≤ n) × (n < 16) × ((c ≡ 87 + n) ⊎ (c ≡ 55 + n)))

-- a pair of digits for each byte
abbrev pub IsHexPairs : Bytes → Bytes → Type 0
IsHexPairs [] [] = Unit {0}
IsHexPairs (b ∷ bytes) (c ∷ d ∷ text) = IsHexDigit (b / 16) c × IsHexDigit (b % 16) d × IsHexPairs bytes text
IsHexPairs [] (c ∷ text) = ⊥
IsHexPairs (b ∷ bytes) [] = ⊥
IsHexPairs (b ∷ bytes) (c ∷ []) = ⊥

-- `-` for no bytes
abbrev pub IsHexText : Bytes → Bytes → Type 0
IsHexText [] text = text ≡ codes "-"
IsHexText (b ∷ bytes) text = IsHexPairs (b ∷ bytes) text

abbrev pub IsPathText : Path → Bytes → Type 0
IsPathText path text = IsPath path × (text ≡ path_text path)

-- `/` is the root
abbrev pub IsPlaceText : Path → Bytes → Type 0
IsPlaceText [] text = text ≡ codes "/"
IsPlaceText (step ∷ path) text = IsPathText (step ∷ path) text

abbrev pub IsNameText : Bytes → Bytes → Type 0
IsNameText name text = IsBranchName name × (text ≡ name)

-- a branch, or `@` and a hash
abbrev pub IsTargetText : Target → Bytes → Type 0
IsTargetText (Target.Branch name) text = IsNameText name text
IsTargetText (Target.Commit hash) text = IsHash hash × (digits : Bytes) × IsHexPairs hash digits × (text ≡ 64 ∷ digits)

-- date, author and message
abbrev pub IsInfoText : Info → Bytes → Type 0
IsInfoText info text = IsInfo info × (text ≡ decimal info.date ++ space ∷ info.author ++ space ∷ info.message)

abbrev pub LineOf : Bytes → List (Bytes → Type 0) → Bytes → Type 0
LineOf head [] line = line ≡ head
LineOf head (Form ∷ forms) line = (word : Bytes) × Form word × LineOf (head ++ space ∷ word) forms line

-- the first word of a command
abbrev pub first_word : Command → Bytes
first_word Command.Empty = codes "empty"
first_word (Command.Checkout target) = codes "checkout"
first_word (Command.Set path bytes) = codes "set"
first_word (Command.Rm path) = codes "rm"
first_word (Command.Graft target from to) = codes "graft"
first_word (Command.Parent target) = codes "parent"
first_word (Command.Get path) = codes "get"
first_word (Command.List path) = codes "list"
first_word (Command.Cat target path) = codes "cat"
first_word (Command.Commit branch info) = codes "commit"
first_word (Command.Merge target branch info) = codes "merge"
first_word (Command.Branch name target) = codes "branch"
first_word (Command.BranchRm name) = codes "branch-rm"
first_word Command.Branches = codes "branches"
first_word (Command.Show target) = codes "show"
first_word (Command.Log target) = codes "log"
first_word (Command.Lcas one other) = codes "lcas"
first_word (Command.Hash bytes) = codes "hash"
first_word (Command.Collect target) = codes "collect"
first_word Command.Look = codes "look"
first_word Command.Finish = codes "finish"
first_word Command.Cancel = codes "cancel"
first_word Command.Stat = codes "stat"

-- the forms of the words behind it
abbrev pub forms_of : Command → List (Bytes → Type 0)
forms_of Command.Empty = []
forms_of (Command.Checkout target) = IsTargetText target ∷ []
forms_of (Command.Set path bytes) = IsPathText path ∷ IsHexText bytes ∷ []
forms_of (Command.Rm path) = IsPathText path ∷ []
forms_of (Command.Graft target from to) = IsTargetText target ∷ IsPlaceText from ∷ IsPathText to ∷ []
forms_of (Command.Parent target) = IsTargetText target ∷ []
forms_of (Command.Get path) = IsPathText path ∷ []
forms_of (Command.List path) = IsPlaceText path ∷ []
forms_of (Command.Cat target path) = IsTargetText target ∷ IsPathText path ∷ []
forms_of (Command.Commit branch info) = IsNameText branch ∷ IsInfoText info ∷ []
forms_of (Command.Merge target branch info) = IsTargetText target ∷ IsNameText branch ∷ IsInfoText info ∷ []
forms_of (Command.Branch name target) = IsNameText name ∷ IsTargetText target ∷ []
forms_of (Command.BranchRm name) = IsNameText name ∷ []
forms_of Command.Branches = []
forms_of (Command.Show target) = IsTargetText target ∷ []
forms_of (Command.Log target) = IsTargetText target ∷ []
forms_of (Command.Lcas one other) = IsTargetText one ∷ IsTargetText other ∷ []
forms_of (Command.Hash bytes) = IsHexText bytes ∷ []
forms_of (Command.Collect target) = IsTargetText target ∷ []
forms_of Command.Look = []
forms_of Command.Finish = []
forms_of Command.Cancel = []
forms_of Command.Stat = []

abbrev pub IsLineOf : Command → Bytes → Type 0
IsLineOf command line = LineOf (first_word command) (forms_of command) line

-- which lines each command has
abbrev pub Grammar : Type 1
Grammar = Command → Bytes → Type 0

-- some line begins with the text
abbrev pub Begins : Grammar → Bytes → Type 0
Begins IsLine text = (command : Command) × (rest : Bytes) × IsLine command (text ++ rest)

pub record IsBadAt (IsLine : Grammar) (line : Bytes) (at : ℕ) : Type 0 where
  pub no_command : (command : Command) → ¬ (IsLine command line)
  pub in_line : at ≤ length line
  pub begins : Begins IsLine (take at line)
  pub longest : (n : ℕ) → at < n → n ≤ length line → ¬ (Begins IsLine (take n line))

-- what reading a line may answer: a command, where it is bad, or want of memory
abbrev pub Reads : Grammar → Bytes → Result Command LineFault → Type 0
Reads IsLine line (Ok command) = IsLine command line
Reads IsLine line (Err (LineFault.Bad at)) = IsBadAt IsLine line at
Reads IsLine line (Err LineFault.Memory) = Unit {0}

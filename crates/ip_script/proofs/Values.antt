-- Values, and the texts that say them.
--     Of field      the values of a field.      IsValue field value text      the texts of a value.      IsField field text      the texts of a field
--     AreValues fields values text      fields with these values, each behind one space.      AreFields fields text      with any
--     value_at field text, values_at fields text      what a text says
--     IsOf form line      the lines of a form.      command_with form values      the command of a form
use Rattle.std.proofs.Common.{◌≡◌, ◌≢◌, ℕ, ◌<◌, ◌≤◌, ◌^◌, List, [], ◌∷◌, ◌++◌, length}
use Rattle.std.specs.Prelude.{All}
use Rattle.std.specs.Fmt.{decimal}
use Rattle.ip_base.specs.PathText.{IsWordByte}
use Rattle.ip_spec.specs.Path.{Bytes}
use Rattle.ip_spec.specs.Line.{IsHexText, IsPathText, IsPlaceText, IsNameText, IsTargetText}
use Rattle.ip_spec.specs.declared.command.Command.{Command}
use Rattle.ip_spec.specs.declared.command.Target.{Target}
use Rattle.ip_script.specs.declared.field.Field.{Field}
use Rattle.ip_script.specs.declared.field.Field.TheVariants.{Path, Place, Hex, Name, Reference, Date, Author, Message}
use Rattle.ip_script.specs.declared.line.Form.{Form}
use Rattle.ip_script.specs.Dates.{date_value}
use Rattle.ip_script.specs.Forms.{word_of, fields_of}
use Rattle.ip_script.specs.Words.{word_at, left_at, path_at, place_at, contents_of, target_of}

abbrev pub Of : Field → Type 0
Of Path = List Bytes
Of Place = List Bytes
Of Date = ℕ
Of Reference = Target
Of _ = Bytes

-- one or more such bytes
pub record IsText (Is : ℕ → Type 0) (most : ℕ) (text : Bytes) : Type 0 where
  pub some : 0 < length text
  pub short : length text ≤ most
  pub each : All Is text

abbrev pub IsValue : (field : Field) → Of field → Bytes → Type 0
IsValue Path path text = IsPathText path text
IsValue Place path text = IsPlaceText path text
IsValue Hex bytes text = IsHexText bytes text
IsValue Name name text = IsNameText name text
IsValue Reference target text = IsTargetText target text
IsValue Date date text = (date < 2 ^ 64) × (text ≡ decimal date)
IsValue Author author text = IsText IsWordByte 255 author × (text ≡ author)
IsValue Message message text = IsText (λ b. (b < 256) × (b ≢ 10) × (b ≢ 0)) 4096 message × (text ≡ message)

abbrev pub IsField : Field → Bytes → Type 0
IsField field text = (value : Of field) × IsValue field value text

abbrev pub Values : List Field → Type 0
Values [] = Unit {0}
Values (field ∷ fields) = Of field × Values fields

abbrev pub AreValues : (fields : List Field) → Values fields → Bytes → Type 0
AreValues [] values text = text ≡ []
AreValues (field ∷ fields) values text = (word : Bytes) × (rest : Bytes) × IsValue field values.0 word × AreValues fields values.1 rest × (text ≡ 32 ∷ (word ++ rest))

abbrev pub AreFields : List Field → Bytes → Type 0
AreFields [] text = text ≡ []
AreFields (field ∷ fields) text = (word : Bytes) × (rest : Bytes) × IsField field word × AreFields fields rest × (text ≡ 32 ∷ (word ++ rest))

-- ---- what a text says

abbrev pub value_at : (field : Field) → Bytes → Of field
value_at Path text = path_at text
value_at Place text = place_at text
value_at Hex text = contents_of text
value_at Date text = date_value text
value_at Reference text = target_of text
value_at _ text = text

abbrev pub values_at : (fields : List Field) → Bytes → Values fields
values_at [] text = tt
values_at (field ∷ fields) text = (value_at field (word_at field text), values_at fields (left_at field text))

-- ---- lines

abbrev pub IsForm : Bytes → List Field → Bytes → Type 0
IsForm word fields line = (rest : Bytes) × AreFields fields rest × (line ≡ word ++ rest)

abbrev pub IsOf : Form → Bytes → Type 0
IsOf form line = IsForm (word_of form) (fields_of form) line

abbrev pub command_with : (form : Form) → Values (fields_of form) → Command
command_with Form.Empty values = Command.Empty
command_with Form.Checkout (target, none) = Command.Checkout target
command_with Form.Set (path, (bytes, none)) = Command.Set path bytes
command_with Form.Rm (path, none) = Command.Rm path
command_with Form.Graft (target, (from, (to, none))) = Command.Graft target from to
command_with Form.Parent (target, none) = Command.Parent target
command_with Form.Get (path, none) = Command.Get path
command_with Form.List (path, none) = Command.List path
command_with Form.Cat (target, (path, none)) = Command.Cat target path
command_with Form.Commit (branch, (date, (author, (message, none)))) = Command.Commit branch (record { date = date; author = author; message = message })
command_with Form.Merge (target, (branch, (date, (author, (message, none))))) = Command.Merge target branch (record { date = date; author = author; message = message })
command_with Form.Branch (name, (target, none)) = Command.Branch name target
command_with Form.BranchRm (name, none) = Command.BranchRm name
command_with Form.Branches values = Command.Branches
command_with Form.Show (target, none) = Command.Show target
command_with Form.Log (target, none) = Command.Log target
command_with Form.Lcas (one, (other, none)) = Command.Lcas one other
command_with Form.Hash (bytes, none) = Command.Hash bytes
command_with Form.Collect (target, none) = Command.Collect target
command_with Form.Look values = Command.Look
command_with Form.Finish values = Command.Finish
command_with Form.Cancel values = Command.Cancel
command_with Form.Stat values = Command.Stat

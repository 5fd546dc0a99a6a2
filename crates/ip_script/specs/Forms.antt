-- The forms of lines: a first word, and fields behind it.
--     word_of form, fields_of form      its first word, and the fields behind it
--     command_at form text      the command of a form whose words these are
use Rattle.std.specs.Prelude.{List, [], ◌∷◌, codes}
use Rattle.ip_spec.specs.Path.{Bytes}
use Rattle.ip_spec.specs.declared.command.Command.{Command}
use Rattle.ip_script.specs.declared.field.Field.{Field}
use Rattle.ip_script.specs.declared.field.Field.TheVariants.{Path, Place, Hex, Name, Reference, Date, Author, Message}
use Rattle.ip_script.specs.declared.line.Form.{Form}
use Rattle.ip_script.specs.Words.{word_at, left_at, path_at, place_at, contents_of, target_of, info_at}

abbrev pub word_of : Form → Bytes
word_of Form.Empty = codes "empty"
word_of Form.Checkout = codes "checkout"
word_of Form.Set = codes "set"
word_of Form.Rm = codes "rm"
word_of Form.Graft = codes "graft"
word_of Form.Parent = codes "parent"
word_of Form.Get = codes "get"
word_of Form.List = codes "list"
word_of Form.Cat = codes "cat"
word_of Form.Commit = codes "commit"
word_of Form.Merge = codes "merge"
word_of Form.Branch = codes "branch"
word_of Form.BranchRm = codes "branch-rm"
word_of Form.Branches = codes "branches"
word_of Form.Show = codes "show"
word_of Form.Log = codes "log"
word_of Form.Lcas = codes "lcas"
word_of Form.Hash = codes "hash"
word_of Form.Collect = codes "collect"
word_of Form.Look = codes "look"
word_of Form.Finish = codes "finish"
word_of Form.Cancel = codes "cancel"
word_of Form.Stat = codes "stat"

abbrev pub fields_of : Form → List Field
fields_of Form.Empty = []
fields_of Form.Checkout = Reference ∷ []
fields_of Form.Set = Path ∷ Hex ∷ []
fields_of Form.Rm = Path ∷ []
fields_of Form.Graft = Reference ∷ Place ∷ Path ∷ []
fields_of Form.Parent = Reference ∷ []
fields_of Form.Get = Path ∷ []
fields_of Form.List = Place ∷ []
fields_of Form.Cat = Reference ∷ Path ∷ []
fields_of Form.Commit = Name ∷ Date ∷ Author ∷ Message ∷ []
fields_of Form.Merge = Reference ∷ Name ∷ Date ∷ Author ∷ Message ∷ []
fields_of Form.Branch = Name ∷ Reference ∷ []
fields_of Form.BranchRm = Name ∷ []
fields_of Form.Branches = []
fields_of Form.Show = Reference ∷ []
fields_of Form.Log = Reference ∷ []
fields_of Form.Lcas = Reference ∷ Reference ∷ []
fields_of Form.Hash = Hex ∷ []
fields_of Form.Collect = Reference ∷ []
fields_of Form.Look = []
fields_of Form.Finish = []
fields_of Form.Cancel = []
fields_of Form.Stat = []

abbrev pub command_at : Form → Bytes → Command
command_at Form.Empty text = Command.Empty
command_at Form.Checkout text = Command.Checkout (target_of (word_at Reference text))
command_at Form.Set text = Command.Set (path_at (word_at Path text)) (contents_of (word_at Hex (left_at Path text)))
command_at Form.Rm text = Command.Rm (path_at (word_at Path text))
command_at Form.Graft text = Command.Graft (target_of (word_at Reference text)) (place_at (word_at Place (left_at Reference text))) (path_at (word_at Path (left_at Place (left_at Reference text))))
command_at Form.Parent text = Command.Parent (target_of (word_at Reference text))
command_at Form.Get text = Command.Get (path_at (word_at Path text))
command_at Form.List text = Command.List (place_at (word_at Place text))
command_at Form.Cat text = Command.Cat (target_of (word_at Reference text)) (path_at (word_at Path (left_at Reference text)))
command_at Form.Commit text = Command.Commit (word_at Name text) (info_at (left_at Name text))
command_at Form.Merge text = Command.Merge (target_of (word_at Reference text)) (word_at Name (left_at Reference text)) (info_at (left_at Name (left_at Reference text)))
command_at Form.Branch text = Command.Branch (word_at Name text) (target_of (word_at Reference (left_at Name text)))
command_at Form.BranchRm text = Command.BranchRm (word_at Name text)
command_at Form.Branches text = Command.Branches
command_at Form.Show text = Command.Show (target_of (word_at Reference text))
command_at Form.Log text = Command.Log (target_of (word_at Reference text))
command_at Form.Lcas text = Command.Lcas (target_of (word_at Reference text)) (target_of (word_at Reference (left_at Reference text)))
command_at Form.Hash text = Command.Hash (contents_of (word_at Hex text))
command_at Form.Collect text = Command.Collect (target_of (word_at Reference text))
command_at Form.Look text = Command.Look
command_at Form.Finish text = Command.Finish
command_at Form.Cancel text = Command.Cancel
command_at Form.Stat text = Command.Stat

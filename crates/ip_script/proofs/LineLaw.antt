-- Which line is which command: the first word tells the form, and the words behind it the rest.
use Rattle.std.proofs.Common.{◌≡◌, inl, inr, ℕ, Bool, ◌==◌, if◌then◌else◌, not, List, [], ◌∷◌, ◌++◌, length, take, drop, refl, sym, ap, ◌∙◌, subst, arith, IsTrue, append_assoc, decimal}
use Rattle.std.specs.List.{list_all, prefix_len}
use Rattle.std.proofs.lemmas.List.{take_at, drop_at}
use Rattle.ip_spec.specs.Path.{Bytes, same_bytes}
use Rattle.ip_spec.specs.Record.{Info}
use Rattle.ip_spec.specs.declared.command.Command.{Command}
use Rattle.ip_spec.specs.Line.{LineOf, first_word, forms_of, IsLineOf, IsInfoText, IsBadAt}
use Rattle.ip_script.specs.declared.field.Field.{Field}
use Rattle.ip_script.specs.declared.field.Field.TheVariants.{Date, Author, Message}
use Rattle.ip_script.specs.declared.line.Form.{Form}
use Rattle.ip_script.specs.declared.line.TheConstants.{FORMS}
use Rattle.ip_script.specs.Fields.{field_length}
use Rattle.ip_script.specs.Words.{word_at, left_at}
use Rattle.ip_script.specs.Forms.{word_of, fields_of, command_at}
use Rattle.ip_script.proofs.Prefix.{lt_or_ge, no_more, prefix_stops, Stops}
use Rattle.ip_script.proofs.Values.{Of, IsValue, Values, AreValues, AreFields, value_at, values_at, IsOf, command_with}
use Rattle.ip_script.proofs.FormLaw.{law, Ordered, ordered_rest, fields_end}

-- ---- a first word, and words of forms behind it

abbrev pub Spells : List (Bytes → Type 0) → Bytes → Type 0
Spells [] text = text ≡ []
Spells (Is ∷ forms) text = (word : Bytes) × (rest : Bytes) × Is word × Spells forms rest × (text ≡ 32 ∷ (word ++ rest))

line_spells : (forms : List (Bytes → Type 0)) (head line : Bytes) → LineOf head forms line → (rest : Bytes) × Spells forms rest × (line ≡ head ++ rest)
line_spells [] head line e = ([], refl, e ∙ sym (no_more head))
line_spells (Is ∷ forms) head line (word, is, l) =
    let s = line_spells forms (head ++ 32 ∷ word) line l in
    (32 ∷ (word ++ s.0), (word, s.0, is, s.1, refl), s.2 ∙ append_assoc head (32 ∷ word) s.0)

spells_line : (forms : List (Bytes → Type 0)) (head rest : Bytes) → Spells forms rest → LineOf head forms (head ++ rest)
spells_line [] head rest e = ap (λ (u : Bytes). head ++ u) e ∙ no_more head
spells_line (Is ∷ forms) head rest (word, more, is, s, e) =
    (word, is, subst (LineOf (head ++ 32 ∷ word) forms) (append_assoc head (32 ∷ word) more ∙ ap (λ (u : Bytes). head ++ u) (sym e)) (spells_line forms (head ++ 32 ∷ word) more s))

parts : (c : Command) (line : Bytes) → IsLineOf c line → (rest : Bytes) × Spells (forms_of c) rest × (line ≡ first_word c ++ rest)
parts c line l = line_spells (forms_of c) (first_word c) line l

joined : (c : Command) (line rest : Bytes) → Spells (forms_of c) rest → line ≡ first_word c ++ rest → IsLineOf c line
joined c line rest s e = subst (IsLineOf c) (sym e) (spells_line (forms_of c) (first_word c) rest s)

-- ---- values read back

are_fields : (fields : List Field) (values : Values fields) (text : Bytes) → AreValues fields values text → AreFields fields text
are_fields [] values text e = e
are_fields (f ∷ fields) values text (word, rest, is, more, e) = (word, rest, (values.0, is), are_fields fields values.1 rest more, e)

-- the first of some fields is taken whole
first_read : (f : Field) (fields : List Field) (text word rest : Bytes) → Ordered (f ∷ fields) → (v : Of f) → IsValue f v word → AreFields fields rest → text ≡ 32 ∷ (word ++ rest) → (word_at f text ≡ word) × (left_at f text ≡ rest)
first_read f fields text word rest o v is more e =
    let t : drop 1 text ≡ word ++ rest = ap (drop 1) e in
    let n : field_length f (word ++ rest) ≡ length word = ((law f).taken word rest (v, is) (fields_end f fields rest o more)).0 in (
      ap (λ (u : Bytes). take (field_length f u) u) t ∙ take_at word rest (field_length f (word ++ rest)) (sym n),
      ap (λ (u : Bytes). drop (field_length f u) u) t ∙ drop_at word rest (field_length f (word ++ rest)) (sym n),
    )

pair : {A B : Type 0} → A → B → A × B
pair a b = (a, b)

-- words say the values that they were written of
read_back : (fields : List Field) (values : Values fields) (text : Bytes) → Ordered fields → AreValues fields values text → values ≡ values_at fields text
unfolding pair
read_back [] values text o s = refl
read_back (f ∷ fields) values text o (word, rest, is, more, e) =
    let first = first_read f fields text word rest o values.0 is (are_fields fields values.1 rest more) e in
    let value : values.0 ≡ value_at f (word_at f text) = (law f).one values.0 word is ∙ ap (value_at f) (sym first.0) in
    let others : values.1 ≡ values_at fields (left_at f text) = read_back fields values.1 rest (ordered_rest f fields o) more ∙ ap (values_at fields) (sym first.1) in
    ap (λ (v : Of f). pair v values.1) value ∙ ap (λ (vs : Values fields). pair (value_at f (word_at f text)) vs) others

-- fields have the values that are read of them
are_read : (fields : List Field) (text : Bytes) → Ordered fields → AreFields fields text → AreValues fields (values_at fields text) text
are_read [] text o e = e
are_read (f ∷ fields) text o (word, rest, (v, is), more, e) =
    let first = first_read f fields text word rest o v is more e in (
      word,
      rest,
      subst (λ (x : Of f). IsValue f x word) ((law f).one v word is ∙ ap (value_at f) (sym first.0)) is,
      subst (λ (u : Bytes). AreValues fields (values_at fields u) rest) (sym first.1) (are_read fields rest (ordered_rest f fields o) more),
      e,
    )

-- ---- info is three fields

info_text : ℕ → Bytes → Bytes → Bytes
info_text date author message = (decimal date ++ 32 ∷ author) ++ 32 ∷ message

info_joined : (values : Values (Date ∷ Author ∷ Message ∷ [])) (text : Bytes) → AreValues (Date ∷ Author ∷ Message ∷ []) values text → Spells (IsInfoText (record { date = values.0; author = values.1.0; message = values.1.1.0 }) ∷ []) text
unfolding info_text
info_joined (date, (author, (message, u))) text (d, rest, (small, d_is), (a, rest', (author_is, a_is), (m, none, (message_is, m_is), n, e''), e'), e) =
    let whole = info_text date author message in
    let last : rest' ≡ 32 ∷ message = e'' ∙ (ap (λ (w : Bytes). 32 ∷ (w ++ none)) m_is ∙ (ap (λ (w : Bytes). 32 ∷ (message ++ w)) n ∙ ap (λ (w : Bytes). 32 ∷ w) (no_more message))) in
    let tail : rest ≡ (32 ∷ author) ++ 32 ∷ message = e' ∙ (ap (λ (w : Bytes). 32 ∷ (w ++ rest')) a_is ∙ ap (λ (w : Bytes). 32 ∷ (author ++ w)) last) in (
      whole,
      [],
      (record { date = small; author_some = author_is.some; author_short = author_is.short; author = author_is.each; message_some = message_is.some; message_short = message_is.short; message = message_is.each }, refl),
      refl,
      e ∙ (ap (λ (w : Bytes). 32 ∷ (w ++ rest)) d_is ∙ (ap (λ (w : Bytes). 32 ∷ (decimal date ++ w)) tail
          ∙ ap (λ (w : Bytes). 32 ∷ w) (sym (no_more whole ∙ append_assoc (decimal date) (32 ∷ author) (32 ∷ message))))),
    )

info_split : (info : Info) (text : Bytes) → Spells (IsInfoText info ∷ []) text → AreValues (Date ∷ Author ∷ Message ∷ []) (info.date, (info.author, (info.message, tt))) text
unfolding info_text
info_split info text (word, none, (is, w), n, e) =
    let whole = info_text info.date info.author info.message in (
      decimal info.date,
      (32 ∷ info.author) ++ 32 ∷ info.message,
      (is.date, refl),
      (
        info.author,
        32 ∷ info.message,
        (record { some = is.author_some; short = is.author_short; each = is.author }, refl),
        (info.message, [], (record { some = is.message_some; short = is.message_short; each = is.message }, refl), refl, ap (λ (m : Bytes). 32 ∷ m) (sym (no_more info.message))),
        refl,
      ),
      e ∙ (ap (λ (u : Bytes). 32 ∷ (word ++ u)) n ∙ (ap (λ (u : Bytes). 32 ∷ u) (no_more word ∙ (w ∙ append_assoc (decimal info.date) (32 ∷ info.author) (32 ∷ info.message))))),
    )

-- ---- commands of forms

-- the command of a line of this form
abbrev pub said_by : Form → Bytes → Command
said_by form line = command_at form (drop (length (word_of form)) line)

command_is : (form : Form) (text : Bytes) → command_at form text ≡ command_with form (values_at (fields_of form) text)
command_is Form.Empty text = refl
command_is _ text = refl

pub ordered : (form : Form) → Ordered (fields_of form)
ordered Form.Empty = tt
ordered _ = tt

line_with : (form : Form) (values : Values (fields_of form)) (rest line : Bytes) → AreValues (fields_of form) values rest → line ≡ word_of form ++ rest → IsLineOf (command_with form values) line
line_with Form.Empty values rest line s e = joined (command_with Form.Empty values) line rest s e
line_with Form.Checkout values rest line s e = joined (command_with Form.Checkout values) line rest s e
line_with Form.Set values rest line s e = joined (command_with Form.Set values) line rest s e
line_with Form.Rm values rest line s e = joined (command_with Form.Rm values) line rest s e
line_with Form.Graft values rest line s e = joined (command_with Form.Graft values) line rest s e
line_with Form.Parent values rest line s e = joined (command_with Form.Parent values) line rest s e
line_with Form.Get values rest line s e = joined (command_with Form.Get values) line rest s e
line_with Form.List values rest line s e = joined (command_with Form.List values) line rest s e
line_with Form.Cat values rest line s e = joined (command_with Form.Cat values) line rest s e
line_with Form.Commit values rest line (name, more, is, s, f) e = joined (command_with Form.Commit values) line rest (name, more, is, info_joined values.1 more s, f) e
line_with Form.Merge values rest line (ref, most, is, (name, more, named, s, f), g) e = joined (command_with Form.Merge values) line rest (ref, most, is, (name, more, named, info_joined values.1.1 more s, f), g) e
line_with Form.Branch values rest line s e = joined (command_with Form.Branch values) line rest s e
line_with Form.BranchRm values rest line s e = joined (command_with Form.BranchRm values) line rest s e
line_with Form.Branches values rest line s e = joined (command_with Form.Branches values) line rest s e
line_with Form.Show values rest line s e = joined (command_with Form.Show values) line rest s e
line_with Form.Log values rest line s e = joined (command_with Form.Log values) line rest s e
line_with Form.Lcas values rest line s e = joined (command_with Form.Lcas values) line rest s e
line_with Form.Hash values rest line s e = joined (command_with Form.Hash values) line rest s e
line_with Form.Collect values rest line s e = joined (command_with Form.Collect values) line rest s e
line_with Form.Look values rest line s e = joined (command_with Form.Look values) line rest s e
line_with Form.Finish values rest line s e = joined (command_with Form.Finish values) line rest s e
line_with Form.Cancel values rest line s e = joined (command_with Form.Cancel values) line rest s e
line_with Form.Stat values rest line s e = joined (command_with Form.Stat values) line rest s e

rest_is : (form : Form) (line rest : Bytes) → line ≡ word_of form ++ rest → drop (length (word_of form)) line ≡ rest
rest_is form line rest e = ap (drop (length (word_of form))) e ∙ drop_at (word_of form) rest (length (word_of form)) refl

-- a line of a form is of a command
pub command_in : (form : Form) (line : Bytes) → IsOf form line → IsLineOf (said_by form line) line
command_in form line (rest, fields, e) =
    subst (λ (c : Command). IsLineOf c line) (sym (ap (command_at form) (rest_is form line rest e) ∙ command_is form rest))
    (line_with form (values_at (fields_of form) rest) rest line (are_read (fields_of form) rest (ordered form) fields) e)

-- the form of a command's line, and its values there
record Formed (c : Command) (line : Bytes) : Type 0 where
  form : Form
  values : Values (fields_of form)
  rest : Bytes
  words : AreValues (fields_of form) values rest
  line_is : line ≡ word_of form ++ rest
  command : c ≡ command_with form values

formed : (c : Command) (line : Bytes) → IsLineOf c line → Formed c line
formed Command.Empty line l = let p = parts Command.Empty line l in record { form = Form.Empty; values = tt; rest = p.0; words = p.1; line_is = p.2; command = refl }
formed (Command.Checkout target) line l = let p = parts (Command.Checkout target) line l in record { form = Form.Checkout; values = (target, tt); rest = p.0; words = p.1; line_is = p.2; command = refl }
formed (Command.Set path bytes) line l = let p = parts (Command.Set path bytes) line l in record { form = Form.Set; values = (path, (bytes, tt)); rest = p.0; words = p.1; line_is = p.2; command = refl }
formed (Command.Rm path) line l = let p = parts (Command.Rm path) line l in record { form = Form.Rm; values = (path, tt); rest = p.0; words = p.1; line_is = p.2; command = refl }
formed (Command.Graft target from to) line l = let p = parts (Command.Graft target from to) line l in record { form = Form.Graft; values = (target, (from, (to, tt))); rest = p.0; words = p.1; line_is = p.2; command = refl }
formed (Command.Parent target) line l = let p = parts (Command.Parent target) line l in record { form = Form.Parent; values = (target, tt); rest = p.0; words = p.1; line_is = p.2; command = refl }
formed (Command.Get path) line l = let p = parts (Command.Get path) line l in record { form = Form.Get; values = (path, tt); rest = p.0; words = p.1; line_is = p.2; command = refl }
formed (Command.List path) line l = let p = parts (Command.List path) line l in record { form = Form.List; values = (path, tt); rest = p.0; words = p.1; line_is = p.2; command = refl }
formed (Command.Cat target path) line l = let p = parts (Command.Cat target path) line l in record { form = Form.Cat; values = (target, (path, tt)); rest = p.0; words = p.1; line_is = p.2; command = refl }
formed (Command.Commit branch info) line l =
    let p = parts (Command.Commit branch info) line l in
    let s = p.1 in
    record { form = Form.Commit; values = (branch, (info.date, (info.author, (info.message, tt)))); rest = p.0; words = (s.0, s.1, s.2, info_split info s.1 s.3, s.4); line_is = p.2; command = refl }
formed (Command.Merge target branch info) line l =
    let p = parts (Command.Merge target branch info) line l in
    let s = p.1 in
    let t = s.3 in
    record { form = Form.Merge; values = (target, (branch, (info.date, (info.author, (info.message, tt))))); rest = p.0; words = (s.0, s.1, s.2, (t.0, t.1, t.2, info_split info t.1 t.3, t.4), s.4); line_is = p.2; command = refl }
formed (Command.Branch name target) line l = let p = parts (Command.Branch name target) line l in record { form = Form.Branch; values = (name, (target, tt)); rest = p.0; words = p.1; line_is = p.2; command = refl }
formed (Command.BranchRm name) line l = let p = parts (Command.BranchRm name) line l in record { form = Form.BranchRm; values = (name, tt); rest = p.0; words = p.1; line_is = p.2; command = refl }
formed Command.Branches line l = let p = parts Command.Branches line l in record { form = Form.Branches; values = tt; rest = p.0; words = p.1; line_is = p.2; command = refl }
formed (Command.Show target) line l = let p = parts (Command.Show target) line l in record { form = Form.Show; values = (target, tt); rest = p.0; words = p.1; line_is = p.2; command = refl }
formed (Command.Log target) line l = let p = parts (Command.Log target) line l in record { form = Form.Log; values = (target, tt); rest = p.0; words = p.1; line_is = p.2; command = refl }
formed (Command.Lcas one other) line l = let p = parts (Command.Lcas one other) line l in record { form = Form.Lcas; values = (one, (other, tt)); rest = p.0; words = p.1; line_is = p.2; command = refl }
formed (Command.Hash bytes) line l = let p = parts (Command.Hash bytes) line l in record { form = Form.Hash; values = (bytes, tt); rest = p.0; words = p.1; line_is = p.2; command = refl }
formed (Command.Collect target) line l = let p = parts (Command.Collect target) line l in record { form = Form.Collect; values = (target, tt); rest = p.0; words = p.1; line_is = p.2; command = refl }
formed Command.Look line l = let p = parts Command.Look line l in record { form = Form.Look; values = tt; rest = p.0; words = p.1; line_is = p.2; command = refl }
formed Command.Finish line l = let p = parts Command.Finish line l in record { form = Form.Finish; values = tt; rest = p.0; words = p.1; line_is = p.2; command = refl }
formed Command.Cancel line l = let p = parts Command.Cancel line l in record { form = Form.Cancel; values = tt; rest = p.0; words = p.1; line_is = p.2; command = refl }
formed Command.Stat line l = let p = parts Command.Stat line l in record { form = Form.Stat; values = tt; rest = p.0; words = p.1; line_is = p.2; command = refl }

-- a command's line is of a form, whose reading gives the command
pub form_in : (c : Command) (line : Bytes) → IsLineOf c line → (form : Form) × IsOf form line × (c ≡ said_by form line)
form_in c line h =
    let f = formed c line h in (
      f.form,
      (f.rest, are_fields (fields_of f.form) f.values f.rest f.words, f.line_is),
      f.command ∙ (ap (command_with f.form) (read_back (fields_of f.form) f.values f.rest (ordered f.form) f.words)
          ∙ sym (ap (command_at f.form) (rest_is f.form line f.rest f.line_is) ∙ command_is f.form f.rest)),
    )

-- ---- the first word tells the form

abbrev in_word : ℕ → Bool
in_word b = not (b == 32)

begin_word : (fields : List Field) (rest : Bytes) → AreFields fields rest → Stops in_word rest
begin_word [] rest e = subst (Stops in_word) (sym e) tt
begin_word (f ∷ fields) rest s = subst (Stops in_word) (sym s.4) refl

no_space : (form : Form) → IsTrue (list_all in_word (word_of form))
no_space Form.Empty = refl
no_space _ = refl

first : Bytes → Bytes
first line = take (prefix_len in_word line) line

first_is : (form : Form) (line : Bytes) → IsOf form line → first line ≡ word_of form
unfolding first
first_is form line (rest, fields, e) =
    let word = word_of form in
    let n : prefix_len in_word (word ++ rest) ≡ length word = prefix_stops in_word word rest (no_space form) (begin_word (fields_of form) rest fields) in
    ap first e ∙ take_at word rest (prefix_len in_word (word ++ rest)) (sym n)

form_named : List Form → Bytes → Form
form_named [] word = Form.Empty
form_named (form ∷ forms) word = if same_bytes (word_of form) word then form else form_named forms word

named : (form : Form) → form_named FORMS (word_of form) ≡ form
unfolding form_named
named Form.Empty = refl
named _ = refl

pub one_form : (f g : Form) (line : Bytes) → IsOf f line → IsOf g line → f ≡ g
one_form f g line s t = sym (named f) ∙ (ap (form_named FORMS) (sym (first_is f line s) ∙ first_is g line t) ∙ named g)

-- ---- a line is of one command, and goes wrong at one place

pub one_command : (line : Bytes) (c d : Command) → IsLineOf c line → IsLineOf d line → c ≡ d
one_command line c d h g =
    let f = form_in c line h in
    let k = form_in d line g in
    f.2 ∙ (ap (λ (form : Form). said_by form line) (one_form f.0 k.0 line f.1 k.1) ∙ sym k.2)

pub one_place : (line : Bytes) (a b : ℕ) → IsBadAt IsLineOf line a → IsBadAt IsLineOf line b → a ≡ b
one_place line a b h g = elim (lt_or_ge a b) [
  | inl less ↦ absurd (h.longest b less g.in_line g.begins)
  | inr more ↦ elim (lt_or_ge b a) [ inl less ↦ absurd (g.longest a less h.in_line h.begins) | inr less ↦ omega (arith, more, less) ]
]

-- What is left of a record's body, as reading its fields sees it.
use Rattle.std.specs.Prelude.{◌≡◌, ◌⊎◌, ℕ, ◌-◌, ◌≤◌, Bool, length, Result, Ok, Err}
use Rattle.ip_base.specs.Fields.{left_of}
use Rattle.ip_spec.specs.Path.{Bytes}
use Rattle.ip_spec.specs.Reading.{Left, is_step, is_name, is_author, is_message}
use Rattle.ip_spec.specs.declared.record.Record.{Record}
use Rattle.ip_spec.specs.declared.record.RecordFault.{RecordFault}
use Rattle.ip_object.specs.declared.body.Body.{Body}
use Rattle.ip_object.specs.declared.body.Text.{Text}

-- the place of the next field in the record, and the bytes from there on
abbrev pub left_in : Body → Left
left_in body = (body.end - length (left_of body.left), left_of body.left)

abbrev pub IsInside : Body → Type 0
IsInside body = length (left_of body.left) ≤ body.end

-- the fault that reading has come to, or want of memory
abbrev pub IsFault : {A : Type 0} → RecordFault → Result A ℕ → Type 0
IsFault (RecordFault.Form at) read = read ≡ Err at
IsFault RecordFault.Memory read = Unit {0}
IsFault RecordFault.Short read = ⊥
IsFault (RecordFault.Kind kind) read = ⊥
IsFault RecordFault.Length read = ⊥

-- what reading fields gives: the value and what is left then, or the fault
abbrev pub Takes : {A : Type 0} → Result (A × Left) ℕ → Result A RecordFault → Left → Type 0
Takes read (Ok x) left = read ≡ Ok (x, left)
Takes read (Err fault) left = IsFault fault read

-- whether bytes may be a text of a kind
abbrev pub is_text : Text → Bytes → Bool
is_text Text.Step bytes = is_step bytes
is_text Text.Name bytes = is_name bytes
is_text Text.Author bytes = is_author bytes
is_text Text.Message bytes = is_message bytes

-- what reading gives, want of memory aside
abbrev pub IsRead : {A : Type 0} → Result A RecordFault → Result A RecordFault → Type 0
IsRead result read = (result ≡ Err RecordFault.Memory) ⊎ (result ≡ read)

-- reading has come behind the head: the kind is known, the length is allowed, and all of the body is there
abbrev pub IsBehindHead : Result (Record × ℕ) RecordFault → Type 0
IsBehindHead (Ok read) = Unit {0}
IsBehindHead (Err (RecordFault.Form at)) = Unit {0}
IsBehindHead (Err RecordFault.Memory) = Unit {0}
IsBehindHead (Err RecordFault.Short) = ⊥
IsBehindHead (Err (RecordFault.Kind kind)) = ⊥
IsBehindHead (Err RecordFault.Length) = ⊥

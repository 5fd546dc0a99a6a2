-- What is to be shown of a field, so that how far a line goes along with fields is what the grammar says.
use Rattle.std.proofs.Common.{◌≡◌, ℕ, ◌<◌, ◌≤◌, true, [], ◌∷◌, ◌++◌, length, take}
use Rattle.ip_spec.specs.Path.{Bytes}
use Rattle.ip_script.specs.declared.field.Field.{Field}
use Rattle.ip_script.specs.declared.field.Field.TheVariants.{Message}
use Rattle.ip_script.specs.Fields.{field_length, is_whole_field}
use Rattle.ip_script.proofs.Values.{Of, IsValue, IsField, value_at}

-- nothing, or a space
abbrev pub EndsWord : Bytes → Type 0
EndsWord [] = Unit {0}
EndsWord (b ∷ text) = b ≡ 32

-- what may come behind a field
abbrev pub Ends : Field → Bytes → Type 0
Ends Message rest = rest ≡ []
Ends _ rest = EndsWord rest

-- within, whole, taken, decided: how far the field goes is within the text; a whole field is one; a field is taken whole; and the byte
-- behind decides how far a field goes.  one: a text says one value.  begins: a field goes on from what was taken of it
pub record FieldLaw (f : Field) : Type 0 where
  pub one : (value : Of f) (text : Bytes) → IsValue f value text → value ≡ value_at f text
  pub within : (text : Bytes) → field_length f text ≤ length text
  pub whole : (text : Bytes) → is_whole_field f text (field_length f text) ≡ true → IsField f (take (field_length f text) text)
  pub taken : (word rest : Bytes) → IsField f word → Ends f rest → (field_length f (word ++ rest) ≡ length word) × (is_whole_field f (word ++ rest) (field_length f (word ++ rest)) ≡ true)
  pub decided : (text : Bytes) (m : ℕ) (more : Bytes) → field_length f text < m → m ≤ length text →
      (field_length f (take m text ++ more) ≡ field_length f text) × (is_whole_field f (take m text ++ more) (field_length f text) ≡ is_whole_field f text (field_length f text))
  pub begins : (text : Bytes) → (more : Bytes) × IsField f (take (field_length f text) text ++ more)

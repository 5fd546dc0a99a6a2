-- References that are still to come.
use Rattle.std.specs.Prelude.{◌≡◌, List, [], ◌∷◌, map, Option, Some, None}
use Rattle.ip_spec.specs.declared.kind.TheConstants as kinds
use Rattle.ip_spec.specs.declared.record.Ref.{Ref}
use Rattle.ip_object.specs.declared.referring.RecordReferences.{RecordReferences}

abbrev pub left_in : RecordReferences → List Ref
left_in (RecordReferences.Entries entries) = map (λ e. record { at = e.at; name = e.name; kind = e.kind }) entries.now
left_in (RecordReferences.Children children) = map (λ c. record { at = c.at; name = c.name; kind = kinds.DIRECTORY }) children.now
left_in (RecordReferences.Root root) = root ∷ []
left_in RecordReferences.None = []

-- the first of them is given, or none is left now or later
abbrev pub GivesReference : RecordReferences → Option Ref → RecordReferences → Type 0
GivesReference old None new = (left_in old ≡ []) × (left_in new ≡ [])
GivesReference old (Some reference) new = left_in old ≡ reference ∷ left_in new

-- What a directory is: a finite map from steps to children, kept in the one shape of its steps, of which some parts may not be read so far.
--     steps_of entries      the steps of entries
--     root_of dir      the part that is the whole directory
--     entries_in dir      its entries at the parts that were read, whatever the directory is
--     entries_from given entries      these entries and those given, each in its place, the first of two at one step
--     entries_off steps entries      what is left when the entries at steps were taken out, one after the other
--     without step entries      the entries at all other steps
--     is_read_to dir s      each part on the way to a step was read
--     IsPartly dir steps entries      the directory has these steps and is in their one shape, and these are its entries at those whose parts were read, in the order of their steps
--     IsTaken removed s steps old new      what an attempt to take out a step leaves of what is known: all of it where nothing was there
--     IsDir dir entries      all of the directory was read, and it has these entries
use Rattle.std.specs.Prelude.{◌≡◌, Bool, true, List, [], ◌∷◌, Option, Some, None, map, filter, not, is_none}
use Rattle.std.specs.FinMap.Entries.{find, put}
use Rattle.std.specs.Map.{remove_entry}
use Rattle.std.specs.Ordering.{is_eq}
use Rattle.ip_spec.specs.Path.{Step, bytes_cmp, same_bytes}
use Rattle.ip_spec.specs.Shape.{deepest}
use Rattle.ip_shape.specs.Shape.{AreSteps, IsPart, has}
use Rattle.ip_shape.specs.Loaded.{IsLessened, IsRead, IsUnchanged, unread_in, way_to}
use Rattle.ip_shape.specs.declared.dir.Dir.{Dir}
use Rattle.ip_shape.specs.declared.part.Part.{Part}

abbrev pub steps_of : {C : Type 0} → List (Step × C) → List Step
steps_of entries = map (λ e. e.0) entries

abbrev pub entries_from : {C : Type 0} → List (Step × C) → List (Step × C) → List (Step × C)
entries_from [] entries = entries
entries_from (e ∷ es) entries = put bytes_cmp e.0 e.1 (entries_from es entries)

abbrev pub entries_off : {C : Type 0} → List Step → List (Step × C) → List (Step × C)
entries_off [] entries = entries
entries_off (s ∷ ss) entries = entries_off ss (remove_entry (λ t. is_eq (bytes_cmp s t)) entries)

abbrev pub without : {C : Type 0} → Step → List (Step × C) → List (Step × C)
without step entries = filter (λ e. not (same_bytes step e.0)) entries

-- entries at steps that ascend, none of which has an entry already
abbrev pub AreNew : {C : Type 0} → List (Step × C) → List (Step × C) → Type 0
AreNew given entries = AreSteps (steps_of given) × ((s : Step) → has s (steps_of given) ≡ true → find bytes_cmp s entries ≡ None)

module _ {C R : Type 0} where
  abbrev pub root_of : Dir C R → Part R
  root_of dir = dir.root

  abbrev pub entries_in : Dir C R → List (Step × C)
  entries_in dir = dir.entries.entries

  abbrev pub is_read_to : Dir C R → Step → Bool
  is_read_to dir s = is_none (unread_in (way_to s) (root_of dir))

  abbrev pub IsPartly : Dir C R → List Step → List (Step × C) → Type 0
  IsPartly dir steps entries =
      (entries_in dir ≡ entries) × AreSteps steps × IsPart deepest 0 steps (root_of dir) × (steps_of entries ≡ filter (is_read_to dir) steps)

  abbrev pub IsDir : Dir C R → List (Step × C) → Type 0
  IsDir dir entries = IsPartly dir (steps_of entries) entries × IsRead (root_of dir)

  abbrev pub IsTaken : Option C → Step → List Step → Part R → Part R → Type 0
  IsTaken None s steps old new = IsUnchanged old new
  IsTaken (Some child) s steps old new = IsLessened deepest 0 s steps old new

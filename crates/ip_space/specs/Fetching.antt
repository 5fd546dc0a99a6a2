-- What fetching a reference answers.
--     Meets r found      a record has the kind and the name of a reference
--     Fetches records r result      the record at the reference, or what is wrong there
--     IsFetched found result      it is the record, or no fault of the files
--     IsBecause read result      the fault of the form says why.      Blames r result      what a fault says of the reference, whatever is told
--     Refers rec r result      what comes of a record that was read there.      IsFoundOf rec r result      so, or memory was refused for a copy of it
--     ReadsOne read result      what reading the record at a place answers.      BlamesPlace at result      what a fault says of the place
--     FindsRecord records at result      the record at a place, with its length, or that there is none
--     IsReadFault result      of the bytes nothing is said
--     TellsDamage result      the fault is of the files
use Rattle.std.specs.Prelude.{◌≡◌, ◌≢◌, ◌⊎◌, ℕ, Option, Some, None, Result, Ok, Err}
use Rattle.ip_base.specs.declared.hash.Hash.{Hash}
use Rattle.ip_spec.specs.declared.record.Record.{Record}
use Rattle.ip_spec.specs.declared.record.Ref.{Ref}
use Rattle.ip_spec.specs.declared.record.RecordFault.{RecordFault}
use Rattle.ip_spec.specs.Record.{kind_of, name_of, reference_kind}
use Rattle.ip_space.specs.declared.fault.FetchFault.{FetchFault}
use Rattle.ip_space.specs.declared.fault.FetchFault.TheVariants.{Ground, Form, Name, Memory}

pub record Meets (r : Ref) (found : Record) : Type 0 where
  pub kind : reference_kind found ≡ r.kind
  pub name : name_of found ≡ Some r.name

-- the record at the reference has its kind and its name
pub record IsThere (records : ℕ → Option Record) (r : Ref) (found : Record) : Type 0 where
  pub here : records r.at ≡ Some found
  pub meets : Meets r found

-- no record of its kind stands there; one without a name is of no reference's kind
pub record IsMisplaced (records : ℕ → Option Record) (r : Ref) (at : ℕ) : Type 0 where
  pub place : at ≡ r.at
  pub none : (found : Record) → records r.at ≡ Some found → reference_kind found ≡ r.kind → name_of found ≡ None

-- the record there has its kind and another name
pub record IsMisnamed (records : ℕ → Option Record) (r : Ref) (at : ℕ) (want got : Hash) : Type 0 where
  pub place : at ≡ r.at
  pub wanted : want ≡ r.name
  pub other : got ≢ want
  pub found : Record
  pub here : records r.at ≡ Some found
  pub kind : reference_kind found ≡ r.kind
  pub name : name_of found ≡ Some got

abbrev pub Fetches : (ℕ → Option Record) → Ref → Result Record FetchFault → Type 0
Fetches records r (Ok found) = IsThere records r found
Fetches records r (Err Ground) = Unit {0}
Fetches records r (Err (Form at fault)) = IsMisplaced records r at
Fetches records r (Err (Name at want got)) = IsMisnamed records r at want got
Fetches records r (Err Memory) = Unit {0}

-- the record, or a fault that says nothing of it
abbrev pub IsFetched : Record → Result Record FetchFault → Type 0
IsFetched found (Ok rec) = rec ≡ found
IsFetched found (Err Ground) = Unit {0}
IsFetched found (Err (Form at fault)) = ⊥
IsFetched found (Err (Name at want got)) = ⊥
IsFetched found (Err Memory) = Unit {0}

-- of bytes that are read as a record, its kind is at fault
abbrev pub form_fault : Result (Record × ℕ) RecordFault → RecordFault
form_fault (Ok found) = RecordFault.Kind (kind_of found.0)
form_fault (Err fault) = fault

abbrev pub IsBecause : Result (Record × ℕ) RecordFault → Result Record FetchFault → Type 0
IsBecause read (Err (Form at fault)) = fault ≡ form_fault read
IsBecause read result = Unit {0}

abbrev pub Blames : Ref → Result Record FetchFault → Type 0
Blames r (Ok found) = Unit {0}
Blames r (Err Ground) = Unit {0}
Blames r (Err (Form at fault)) = (at ≡ r.at) × (fault ≢ RecordFault.Memory)
Blames r (Err (Name at want got)) = (at ≡ r.at) × (want ≡ r.name) × (got ≢ r.name)
Blames r (Err Memory) = Unit {0}

-- what comes of a record that was read at a reference
abbrev pub Refers : Record → Ref → Result Record FetchFault → Type 0
Refers rec r (Ok found) = (found ≡ rec) × Meets r rec
Refers rec r (Err Ground) = ⊥
Refers rec r (Err (Form at fault)) = (at ≡ r.at) × (fault ≡ RecordFault.Kind (kind_of rec)) × (reference_kind rec ≡ r.kind → name_of rec ≡ None)
Refers rec r (Err (Name at want got)) = (at ≡ r.at) × (want ≡ r.name) × (got ≢ want) × (reference_kind rec ≡ r.kind) × (name_of rec ≡ Some got)
Refers rec r (Err Memory) = ⊥

-- a copy of it may want memory
abbrev pub IsFoundOf : Record → Ref → Result Record FetchFault → Type 0
IsFoundOf rec r result = Refers rec r result ⊎ ((result ≡ Err Memory) × Meets r rec)

-- ---- without a reference

abbrev pub ReadsOne : Result (Record × ℕ) RecordFault → Result (Record × ℕ) FetchFault → Type 0
ReadsOne read (Ok found) = read ≡ Ok found
ReadsOne read (Err Ground) = Unit {0}
ReadsOne read (Err (Form at fault)) = read ≡ Err fault
ReadsOne read (Err (Name at want got)) = ⊥
ReadsOne read (Err Memory) = Unit {0}

abbrev pub FindsRecord : (ℕ → Option Record) → ℕ → Result (Record × ℕ) FetchFault → Type 0
FindsRecord records place (Ok found) = records place ≡ Some found.0
FindsRecord records place (Err Ground) = Unit {0}
FindsRecord records place (Err (Form at fault)) = records place ≡ None
FindsRecord records place (Err (Name at want got)) = ⊥
FindsRecord records place (Err Memory) = Unit {0}

abbrev pub BlamesPlace : {A : Type 0} → ℕ → Result A FetchFault → Type 0
BlamesPlace place (Ok found) = Unit {0}
BlamesPlace place (Err Ground) = Unit {0}
BlamesPlace place (Err (Form at fault)) = (at ≡ place) × (fault ≢ RecordFault.Memory)
BlamesPlace place (Err (Name at want got)) = ⊥
BlamesPlace place (Err Memory) = Unit {0}

abbrev pub IsReadFault : {A : Type 0} → Result A FetchFault → Type 0
IsReadFault (Ok x) = Unit {0}
IsReadFault (Err Ground) = Unit {0}
IsReadFault (Err (Form at fault)) = ⊥
IsReadFault (Err (Name at want got)) = ⊥
IsReadFault (Err Memory) = Unit {0}

abbrev pub TellsDamage : {A : Type 0} → Result A FetchFault → Type 0
TellsDamage (Ok x) = ⊥
TellsDamage (Err Ground) = ⊥
TellsDamage (Err (Form at fault)) = Unit {0}
TellsDamage (Err (Name at want got)) = Unit {0}
TellsDamage (Err Memory) = ⊥

-- Records that were fetched and kept, with their names.
--     kept_in c      the records and their offsets.      AreNamed c      each within the bounds of the format, beside its name, and as many as are kept
--     IsBounded kept      how many records are kept, and how many bytes each has
--     GainsAtMost at rec old new      one record more, at most
--     IsKnown kept r answer      whether the record that is kept for a reference is its own, if there is one
--     brought kept result      what bringing a record comes to: it is kept, or handed out
use Rattle.std.specs.Prelude.{◌≡◌, ◌≤◌, ◌⊎◌, ℕ, List, [], map, length, Contains, Option, Some, None, Result, Ok, Err}
use Rattle.ip_spec.specs.declared.record.Record.{Record}
use Rattle.ip_spec.specs.declared.record.Ref.{Ref}
use Rattle.ip_spec.specs.Record.{Fits, name_of, spelling}
use Rattle.ip_image.specs.Slot.{newest_version}
use Rattle.ip_space.specs.declared.fault.FetchFault.{FetchFault}
use Rattle.ip_space.specs.declared.fault.FetchFault.TheVariants.{Memory}
use Rattle.ip_space.specs.Fetching.{Refers}
use Rattle.ip_space.specs.declared.cache.Kept.{Kept}
use Rattle.ip_space.specs.declared.cache.TheConstants.{RECORDS_MAX, RECORD_BYTES_MAX}
use Rattle.lru.specs.LruCache.{LruCache}

abbrev pub shown : ℕ × Kept → ℕ × Record
shown e = (e.0, e.1.rec)

abbrev pub kept_in : Option (LruCache ℕ Kept) → List (ℕ × Record)
kept_in None = []
kept_in (Some c) = map shown c.entries

pub record IsNamed (k : Kept) : Type 0 where
  pub fits : Fits newest_version k.rec
  pub name : name_of k.rec ≡ Some k.name
  pub short : length (spelling k.rec) ≤ RECORD_BYTES_MAX

pub record AreNamed (c : LruCache ℕ Kept) : Type 0 where
  pub each : (at : ℕ) (k : Kept) → Contains c.entries (at, k) → IsNamed k
  pub cap : c.cap ≡ RECORDS_MAX
  pub few : length c.entries ≤ RECORDS_MAX

pub record IsBounded (kept : List (ℕ × Record)) : Type 0 where
  pub few : length kept ≤ 256
  pub short : (at : ℕ) (r : Record) → Contains kept (at, r) → length (spelling r) ≤ 65541

abbrev pub GainsNone : List (ℕ × Record) → List (ℕ × Record) → Type 0
GainsNone old new = (e : ℕ × Record) → Contains new e → Contains old e

abbrev pub GainsAtMost : ℕ → Record → List (ℕ × Record) → List (ℕ × Record) → Type 0
GainsAtMost at rec old new = (e : ℕ × Record) → Contains new e → Contains old e ⊎ (e ≡ (at, rec))

abbrev pub PutsAtMost : ℕ → Kept → List (ℕ × Kept) → List (ℕ × Kept) → Type 0
PutsAtMost at kept old new = (e : ℕ × Kept) → Contains new e → Contains old e ⊎ (e ≡ (at, kept))

abbrev pub brought : Option Record → Result (Option Record) FetchFault → Result Record FetchFault
brought kept (Ok (Some rec)) = Ok rec
brought (Some rec) (Ok None) = Ok rec
brought None (Ok None) = Err Memory
brought kept (Err fault) = Err fault

-- the record, or the fault
abbrev pub answer_of : Record → Result (Unit {0}) FetchFault → Result Record FetchFault
answer_of rec (Ok u) = Ok rec
answer_of rec (Err fault) = Err fault

-- whether the record that is kept for a reference is its own
abbrev pub IsKnown : Option Record → Ref → Option (Result (Unit {0}) FetchFault) → Type 0
IsKnown kept r None = kept ≡ None
IsKnown None r (Some answer) = ⊥
IsKnown (Some rec) r (Some answer) = Fits newest_version rec × Refers rec r (answer_of rec answer)

abbrev pub found_again : Result (Unit {0}) FetchFault → Result (Option Record) FetchFault
found_again (Ok u) = Ok None
found_again (Err fault) = Err fault

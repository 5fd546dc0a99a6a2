-- What is read is what the bytes begin with.
use Rattle.std.proofs.Common.{◌≡◌, ℕ, ◌++◌, inl, inr, sym, Result, Ok, Err, length}
use Rattle.std.specs.Prelude.{IfOk}
use Rattle.ip_spec.specs.Path.{Bytes, AreBytes}
use Rattle.ip_spec.specs.Record.{Fits, spelling}
use Rattle.ip_spec.specs.declared.record.Record.{Record}
use Rattle.ip_spec.specs.declared.record.RecordFault.{RecordFault}
use Rattle.ip_spec.specs.Reading.{reading}
use Rattle.ip_spec.proofs.RecordsRead.{reading_spelled}
use Rattle.ip_object.specs.Body.{IsRead}

abbrev Found : ℕ → Bytes → Record × ℕ → Type 0
Found v bytes read = Fits v read.0 × ((rest : Bytes) × (bytes ≡ spelling read.0 ++ rest)) × (read.1 ≡ length (spelling read.0))

pub read_is : (v : ℕ) (bytes : Bytes) (result : Result (Record × ℕ) RecordFault) → AreBytes bytes → IsRead result (reading v bytes) → IfOk result (Found v bytes)
read_is v bytes (Ok read) are (inl memory) = absurd (cc (memory))
read_is v bytes (Ok read) are (inr same) = reading_spelled v bytes read.0 read.1 are (sym same)
read_is v bytes (Err fault) are is = tt

pub part : (result : Result (Record × ℕ) RecordFault) (P Q : Record × ℕ → Type 0) → ((read : Record × ℕ) → P read → Q read) → IfOk result P → IfOk result Q
part (Ok read) P Q f h = f read h
part (Err fault) P Q f h = h

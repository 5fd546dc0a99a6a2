-- The tie of the calls that append records to the core of collections: one event that appends them, or none.
--     IsAppended store records now records'      records stand behind those that there were, and the core can append them
--     IsTiedBy made ..      so it is where records were appended, and else no event
--     IsTiedAnswer made result store records now records'      what an answer did, where made says which values have appended records
use Rattle.std.specs.Prelude.{◌≡◌, Bool, true, false, [], ◌++◌, Result, Ok, Err}
use Rattle.ip_spec.specs.TreeAt.{Records}
use Rattle.ip_held.specs.declared.fault.StoreFault.{StoreFault}
use Rattle.ip_held.specs.declared.held.Held.{Held}
use Rattle.ip_held.specs.Tie.{IsTied, appending}

pub record IsAppended (store : Held) (records : Records) (now : Held) (records' : Records) : Type 0 where
  pub new : Records
  pub behind : records' ≡ records ++ new
  pub tied : IsTied store records now records' (appending new)

abbrev pub IsTiedBy : Bool → Held → Records → Held → Records → Type 0
IsTiedBy true store records now records' = IsAppended store records now records'
IsTiedBy false store records now records' = IsTied store records now records' []

-- Behind a fault of the ground or of its files the core is known again once the store is opened anew.
abbrev pub IsTiedFault : StoreFault → Held → Records → Held → Records → Type 0
IsTiedFault StoreFault.Ground store records now records' = Unit {0}
IsTiedFault (StoreFault.Damaged at names) store records now records' = Unit {0}
IsTiedFault fault store records now records' = IsTied store records now records' []

abbrev pub IsTiedAnswer : {A : Type 0} → (A → Bool) → Result A StoreFault → Held → Records → Held → Records → Type 0
IsTiedAnswer made (Ok value) store records now records' = IsTiedBy (made value) store records now records'
IsTiedAnswer made (Err fault) store records now records' = IsTiedFault fault store records now records'

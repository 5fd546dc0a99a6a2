-- What opening a store gives.
--     held_of result      what the store holds
use Rattle.std.specs.Prelude.{Result, Ok, Err}
use Rattle.ip_held.specs.declared.held.Held.{Held}
use Rattle.ip_opens.specs.declared.opening.OpenFault.{OpenFault}
use Rattle.ip_store.specs.declared.store.Store.{Store}

abbrev pub held_of : Result Store OpenFault → Result Held OpenFault
held_of (Ok store) = Ok store.held
held_of (Err fault) = Err fault

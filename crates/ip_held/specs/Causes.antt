-- Why a call that fetched records failed.
--     IsStoreCause tells told space fault      a fault of the files is one that fetching some reference may answer, whatever is told, and the records that the space reads have there what it says
--     IsFaultFrom saved fault      what a call answers where there is no batch: a fault of the files comes of a fetch alone
use Rattle.std.specs.Prelude.{◌≡◌, Bool, Err}
use Rattle.ip_ground.specs.Told.{Told}
use Rattle.ip_save.specs.declared.batch.SaveFault.{SaveFault}
use Rattle.ip_save.specs.declared.batch.SaveFault.TheVariants as saved
use Rattle.ip_space.specs.SpaceView.{SpaceView}
use Rattle.ip_space.specs.declared.fault.FetchFault.{FetchFault}
use Rattle.ip_tree.specs.Reads.{IsCause}
use Rattle.ip_tree.specs.declared.tree.TreeFault.TheVariants as tree
use Rattle.ip_held.specs.declared.fault.StoreFault.{StoreFault}
use Rattle.ip_held.specs.Changes.{IsUndamaged}
use Rattle.ip_held.specs.Showing.{fault_from}

abbrev pub IsStoreCause : Bool → Told → SpaceView → StoreFault → Type 0
IsStoreCause tells told space (StoreFault.Damaged at names) = (fetched : FetchFault) × (fault_from fetched ≡ StoreFault.Damaged at names) × IsCause tells told space (tree.Fetch fetched)
IsStoreCause tells told space fault = Unit {0}

abbrev pub IsFaultFrom : SaveFault → StoreFault → Type 0
IsFaultFrom (saved.Fetch fetched) fault = fault ≡ fault_from fetched
IsFaultFrom other fault = IsUndamaged {A = Unit {0}} (Err fault)

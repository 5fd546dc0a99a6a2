-- The two names that damage is told with differ.
--     TellsApart fault      so of a fault of the store
--     tree_apart      of a call on a tree.      cause_apart, causes_apart      of one that fetched.      sound_apart      of one that met no damage.      commit_apart      of one that fetched a commit's record
use Rattle.std.proofs.Common.{sym, ◌∙◌, subst, Option, Some, None, ℕ, Bool, Ok, Err}
use Rattle.std.specs.Prelude.{Result, IfErr}
use Rattle.ip_ground.specs.Told.{Told}
use Rattle.ip_spec.specs.declared.record.Ref.{Ref}
use Rattle.ip_spec.specs.Record.{Hash}
use Rattle.ip_space.specs.Fetching.{Blames}
use Rattle.ip_space.specs.SpaceView.{SpaceView}
use Rattle.ip_space.specs.declared.fault.FetchFault.{FetchFault}
use Rattle.ip_tree.specs.Reads.{IsBlamed}
use Rattle.ip_tree.specs.declared.tree.TreeFault.{TreeFault}
use Rattle.ip_held.specs.declared.fault.StoreFault.{StoreFault}
use Rattle.ip_held.specs.Causes.{IsStoreCause}
use Rattle.ip_held.specs.Changes.{IsUndamaged}
use Rattle.ip_held.specs.Showing.{fault_from, BlamesCommit}
use Rattle.ip_session.specs.Session.{tree_fault, AreApart}

abbrev pub TellsApart : StoreFault → Type 0
TellsApart (StoreFault.Damaged at names) = AreApart names
TellsApart fault = Unit {0}

fetch_apart : (fault : FetchFault) (r : Ref) → Blames r (Err fault) → TellsApart (fault_from fault)
fetch_apart FetchFault.Ground r blames = tt
fetch_apart (FetchFault.Form at fault) r blames = tt
fetch_apart (FetchFault.Name at want got) r blames = λ same. blames.2 (sym same ∙ blames.1)
fetch_apart FetchFault.Memory r blames = tt

pub tree_apart : (fault : TreeFault) → IsBlamed fault → TellsApart (tree_fault fault)
tree_apart (TreeFault.Limit limit) blamed = tt
tree_apart (TreeFault.Fetch fault) (r, blames) = fetch_apart fault r blames
tree_apart TreeFault.Memory blamed = tt

pub cause_apart : (tells : Bool) (told : Told) (space : SpaceView) (fault : StoreFault) → IsStoreCause tells told space fault → TellsApart fault
cause_apart tells told space (StoreFault.Damaged at names) (fetched, is, cause) = subst TellsApart is (fetch_apart fetched cause.blamed.0 cause.blamed.1)
cause_apart tells told space _ cause = tt

pub causes_apart : {A : Type 0} (tells : Bool) (told : Told) (space : SpaceView) (made : Result A StoreFault) → IfErr made (IsStoreCause tells told space) → IfErr made TellsApart
causes_apart tells told space (Ok x) cause = tt
causes_apart tells told space (Err fault) cause = cause_apart tells told space fault cause

-- where there is none
pub sound_apart : {A : Type 0} (made : Result A StoreFault) → IsUndamaged made → IfErr made TellsApart
sound_apart (Ok x) sound = tt
sound_apart (Err (StoreFault.Damaged at names)) sound = absurd sound
sound_apart (Err _) sound = tt

pub commit_apart : (A : Type 0) (place : Option ℕ) (name : Hash) (fault : StoreFault) → BlamesCommit {A = A} place name (Err fault) → TellsApart fault
commit_apart A place name (StoreFault.Damaged at None) blames = tt
commit_apart A place name (StoreFault.Damaged at (Some (want, got))) blames = λ same. blames.2 (sym same ∙ blames.1)
commit_apart A place name _ blames = tt

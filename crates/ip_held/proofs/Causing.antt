-- Why a call that fetched records failed.
--     fetched_cause      a fault of a fetch.      commit_cause      of that of a commit's record.      saved_cause      of a batch that was not made
--     undamaged_cause, undamaged_causes, cut_cause      a fault that is none of the files
--     cause_of      of a result that is a fault
--     store_looks      a call that looked, by what it did to the space.      store_cause_on, store_causes_on      what a fault says of the records behind it, it says of those before
use Rattle.std.proofs.Common.{◌≡◌, Bool, refl, sym, subst}
use Rattle.std.specs.Prelude.{Err, IfErr, IsTrue, Ok, Result}
use Rattle.ip_ground.specs.Told.{Told}
use Rattle.ip_save.specs.Reused.{IsSaveCause}
use Rattle.ip_save.specs.declared.batch.SaveFault.{SaveFault}
use Rattle.ip_save.specs.declared.batch.SaveFault.TheVariants as saved
use Rattle.ip_space.specs.Fetching.{Blames, Fetches}
use Rattle.ip_space.specs.SpaceView.{IsReadable, SpaceView, records_of}
use Rattle.ip_space.specs.declared.fault.FetchFault.{FetchFault}
use Rattle.ip_spec.specs.Record.{Hash}
use Rattle.ip_spec.specs.declared.record.CommitRecord.{CommitRecord}
use Rattle.ip_spec.specs.declared.record.Record.{Record}
use Rattle.ip_spec.specs.declared.record.Ref.{Ref}
use Rattle.ip_tree.specs.Reads.{IsCause, Looks}
use Rattle.ip_tree.specs.declared.tree.TreeFault.TheVariants as tree
use Rattle.ip_tree.proofs.Looking.{cause_on}
use Rattle.ip_held.specs.Causes.{IsFaultFrom, IsStoreCause}
use Rattle.ip_held.specs.Changes.{IsUndamaged}
use Rattle.ip_held.specs.Answers.{IsCut}
use Rattle.ip_held.specs.Showing.{IsCommitFrom, fault_from}
use Rattle.ip_held.specs.Held.{SameTables}
use Rattle.ip_held.specs.Trees.{OnlyLooks}
use Rattle.ip_held.specs.declared.fault.StoreFault.{StoreFault}
use Rattle.ip_held.specs.declared.held.Held.{Held}

module _ (tells : Bool) (told : Told) (space : SpaceView) where
  pub fetched_cause : (f : FetchFault) → IsCause tells told space (tree.Fetch f) → IsStoreCause tells told space (fault_from f)
  fetched_cause FetchFault.Ground is = tt
  fetched_cause (FetchFault.Form at f) is = (FetchFault.Form at f, refl, is)
  fetched_cause (FetchFault.Name at want got) is = (FetchFault.Name at want got, refl, is)
  fetched_cause FetchFault.Memory is = tt

  pub cause_of : {A : Type 0} (res : Result A StoreFault) (fault : StoreFault) → res ≡ Err fault → IsStoreCause tells told space fault → IfErr res (IsStoreCause tells told space)
  cause_of {A} res fault is cause = subst (λ (o : Result A StoreFault). IfErr o (IsStoreCause tells told space)) (sym is) cause

  pub undamaged_cause : (A : Type 0) (fault : StoreFault) → IsUndamaged {A = A} (Err fault) → IsStoreCause tells told space fault
  undamaged_cause A (StoreFault.Damaged at names) is = absurd is
  undamaged_cause A _ is = tt

  pub undamaged_causes : {A : Type 0} (res : Result A StoreFault) → IsUndamaged res → IfErr res (IsStoreCause tells told space)
  undamaged_causes (Ok x) is = tt
  undamaged_causes {A} (Err fault) is = undamaged_cause A fault is

  pub cut_cause : (res : Result Hash StoreFault) → IfErr res IsCut → IfErr res (IsStoreCause tells told space)
  cut_cause (Ok name) cut = tt
  cut_cause (Err StoreFault.Ground) cut = tt
  cut_cause (Err StoreFault.Memory) cut = tt
  cut_cause (Err _) cut = absurd cut

  pub commit_cause : (ref : Ref) (fetched : Result Record FetchFault) → Blames ref fetched → (IsTrue tells → IsReadable told space → Fetches (records_of told space) ref fetched)
      → (out : Result CommitRecord StoreFault) → IsCommitFrom fetched out → IfErr out (IsStoreCause tells told space)
  commit_cause ref (Ok (Record.Commit commit)) blames found out is = subst (λ (o : Result CommitRecord StoreFault). IfErr o (IsStoreCause tells told space)) (sym is) tt
  commit_cause ref (Ok _) blames found out is = absurd is
  commit_cause ref (Err f) blames found out is = cause_of out (fault_from f) is (fetched_cause f (record { blamed = (ref, blames); damage = λ t readable. (ref, blames, found t readable) }))

  pub saved_cause : (s : SaveFault) (fault : StoreFault) → IsFaultFrom s fault → IsSaveCause tells told space s → IsStoreCause tells told space fault
  saved_cause (saved.Limit l) fault is cause = undamaged_cause (Unit {0}) fault is
  saved_cause (saved.Space name) fault is cause = undamaged_cause (Unit {0}) fault is
  saved_cause (saved.Fetch f) fault is cause = subst (IsStoreCause tells told space) (sym is) (fetched_cause f cause)
  saved_cause saved.Memory fault is cause = undamaged_cause (Unit {0}) fault is

pub store_looks : (tells : Bool) (old new : Told) (store mid : Held) → SameTables store mid → (IsTrue tells → OnlyLooks old new store mid) → Looks tells old new store.space mid.space
store_looks tells old new store mid same looks = record { reads = λ t. (looks t).reads; layout = same.layout; runs = same.runs }

module _ (tells : Bool) (old new : Told) (space now : SpaceView) (looks : Looks tells old new space now) where
  pub store_cause_on : (fault : StoreFault) → IsStoreCause tells new now fault → IsStoreCause tells old space fault
  store_cause_on (StoreFault.Damaged at names) is = (is.0, is.1, cause_on tells old new space now looks (tree.Fetch is.0) is.2)
  store_cause_on _ is = tt

  pub store_causes_on : {A : Type 0} (res : Result A StoreFault) → IfErr res (IsStoreCause tells new now) → IfErr res (IsStoreCause tells old space)
  store_causes_on (Ok x) is = tt
  store_causes_on (Err fault) is = store_cause_on fault is

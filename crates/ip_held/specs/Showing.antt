-- What fetching the record of a commit answers.
--     fault_from fault      the fault of a call that fetched
--     IsRootOf records r number result      the reference to the root of the commit's tree, which stands there among these records
--     IsFetchedOr P result      it is Ok so, or a fault of the ground, or want of memory
--     IsReference store wanted number ref      the reference to the record of a commit.      IsRecordOf records r number c      the record of a commit
--     BlamesCommit place name result      what a fault says of the commit's place and name, whatever is told
--     Damages records result      what stands at the place that a fault blames
use Rattle.std.specs.Prelude.{◌≡◌, ◌≢◌, ℕ, Option, Some, None, Result, Ok, Err}
use Rattle.ip_spec.specs.declared.kind.TheConstants as kinds
use Rattle.ip_spec.specs.declared.record.Record.{Record}
use Rattle.ip_spec.specs.declared.record.CommitRecord.{CommitRecord}
use Rattle.ip_spec.specs.declared.record.Ref.{Ref}
use Rattle.ip_spec.specs.Record.{Hash, name_of}
use Rattle.ip_spec.specs.Shape.{root_name}
use Rattle.ip_spec.specs.TreeAt.{TreeAt}
use Rattle.ip_spec.specs.Repository.{Repository, Commit, commit_at, tree_at}
use Rattle.ip_space.specs.declared.fault.FetchFault.{FetchFault}
use Rattle.ip_held.specs.declared.fault.StoreFault.{StoreFault}
use Rattle.ip_held.specs.declared.held.Held.{Held}
use Rattle.ip_held.specs.Placed.{SpellsCommit}
use Rattle.ip_held.specs.Held.{place_of_commit}

abbrev pub fault_from : FetchFault → StoreFault
fault_from FetchFault.Ground = StoreFault.Ground
fault_from (FetchFault.Form at fault) = StoreFault.Damaged at None
fault_from (FetchFault.Name at want got) = StoreFault.Damaged at (Some (want, got))
fault_from FetchFault.Memory = StoreFault.Memory

abbrev pub IsFetchedOr : {A : Type 0} → (A → Type 0) → Result A StoreFault → Type 0
IsFetchedOr P (Ok x) = P x
IsFetchedOr P (Err StoreFault.Ground) = Unit {0}
IsFetchedOr P (Err StoreFault.Memory) = Unit {0}
IsFetchedOr P (Err fault) = ⊥

pub record IsRootOf (records : ℕ → Option Record) (r : Repository) (n : ℕ) (root : Ref) : Type 0 where
  pub kind : root.kind ≡ kinds.DIRECTORY
  pub name : root.name ≡ root_name (tree_at r n)
  pub tree : TreeAt records root.at (tree_at r n)
  -- the commit's record refers to it
  pub commit : CommitRecord
  pub place : ℕ
  pub here : records place ≡ Some (Record.Commit commit)
  pub number : commit.number ≡ n
  pub at : root.at ≡ commit.root_at

pub record IsReference (store : Held) (wanted : Hash) (number : ℕ) (ref : Ref) : Type 0 where
  pub at : place_of_commit store number ≡ Some ref.at
  pub name : ref.name ≡ wanted
  pub kind : ref.kind ≡ kinds.COMMIT

abbrev pub IsRecordOf : (ℕ → Option Record) → Repository → ℕ → CommitRecord → Type 0
IsRecordOf records r number c = (m : Commit) × (place : ℕ) × (commit_at r number ≡ Some m) × (records place ≡ Some (Record.Commit c)) × SpellsCommit records number c m

-- what comes of a record that was fetched by the reference to a commit
abbrev pub IsCommitFrom : Result Record FetchFault → Result CommitRecord StoreFault → Type 0
IsCommitFrom (Ok (Record.Commit c)) out = out ≡ Ok c
IsCommitFrom (Ok r) out = ⊥
IsCommitFrom (Err fault) out = out ≡ Err (fault_from fault)

abbrev pub BlamesCommit : {A : Type 0} → Option ℕ → Hash → Result A StoreFault → Type 0
BlamesCommit place name (Ok x) = Unit {0}
BlamesCommit place name (Err StoreFault.Ground) = Unit {0}
BlamesCommit place name (Err StoreFault.Memory) = Unit {0}
BlamesCommit place name (Err (StoreFault.Damaged at None)) = place ≡ Some at
BlamesCommit place name (Err (StoreFault.Damaged at (Some (want, got)))) = (place ≡ Some at) × (want ≡ name) × (got ≢ name)
BlamesCommit place name (Err fault) = ⊥

abbrev pub Damages : {A : Type 0} → (ℕ → Option Record) → Result A StoreFault → Type 0
Damages records (Err (StoreFault.Damaged at None)) = (c : CommitRecord) → records at ≢ Some (Record.Commit c)
Damages records (Err (StoreFault.Damaged at (Some (want, got)))) = (c : CommitRecord) × (records at ≡ Some (Record.Commit c)) × (name_of (Record.Commit c) ≡ Some got)
Damages records result = Unit {0}

-- What a commit appends, and why it may not.
--     fields_told fields      the fields of a commit, as the definition of a batch has them.      AreFields fields      they are within their bounds
--     HasShortContents t      no contents of the tree are too long
--     IsFirst records r first      the view of the tree whose root is at the reference, if there is one: each part of it is known
--     commit_place v first end      where the commit's record lies
--     commit_record f root      the record of a commit whose root is at the reference
--     IsBatch v first f end batch      the records of the commit at this offset, which take contents from the first parent's tree where it has the same
--     IsSaveFault v first f end fault      they pass the greatest end, or a read failed
use Rattle.std.specs.Prelude.{◌≡◌, ℕ, ◌+◌, ◌<◌, ◌≤◌, All, Option, Some, None, IsSomeAnd, length}
use Rattle.ip_base.specs.declared.limit.TheConstants.{OFFSET_MAX, PARENTS_MAX}
use Rattle.ip_spec.specs.Map.{get}
use Rattle.ip_spec.specs.Path.{Bytes, Path}
use Rattle.ip_spec.specs.Record.{IsHash, IsU64, IsInfo, IsBranchName, Fits}
use Rattle.ip_spec.specs.Step.{contents_limit}
use Rattle.ip_spec.specs.Tree.{Tree, IsTree}
use Rattle.ip_spec.specs.StoredParts.{stored_part}
use Rattle.ip_spec.specs.declared.record.Record.{Record}
use Rattle.ip_spec.specs.declared.record.Ref.{Ref}
use Rattle.ip_object.specs.Lists.{commit_of}
use Rattle.ip_save.specs.Laid.{bytes_of}
use Rattle.ip_spec.specs.View.{View, Part}
use Rattle.ip_spec.specs.Batch as Batches
use Rattle.ip_spec.specs.Batch.{reusing_sources, batch, batch_root, batch_end, batch_name, root_spelled}
use Rattle.ip_save.specs.declared.batch.Batch.{Batch}
use Rattle.ip_save.specs.declared.batch.CommitFields.{CommitFields}
use Rattle.ip_save.specs.declared.batch.SaveFault.{SaveFault}
use Rattle.ip_save.specs.declared.batch.SaveFault.TheVariants.{Limit, Space, Fetch, Memory}
use Rattle.ip_save.specs.Reused.{IsFreeSave}
use Rattle.ip_tree.specs.Meaning.{RootIs}
use Rattle.ip_tree.specs.Node.{unread}

abbrev pub fields_told : CommitFields → Batches.CommitFields
fields_told f = record { number = f.number; parents = f.parents; info = f.info; branch = f.branch }

pub record AreFields (f : Batches.CommitFields) : Type 0 where
  pub number : IsU64 f.number
  pub few : length f.parents ≤ PARENTS_MAX
  pub each : All (λ p. IsU64 p.number × IsHash p.name) f.parents
  pub is_info : IsInfo f.info
  pub is_branch : IsBranchName f.branch

abbrev pub HasShortContents : Tree → Type 0
HasShortContents t = (p : Path) (bytes : Bytes) → get t p ≡ Some bytes → length bytes ≤ contents_limit

abbrev pub greatest_end : ℕ
greatest_end = OFFSET_MAX

abbrev pub commit_record : Batches.CommitFields → Ref → Record
commit_record f root = Record.Commit (commit_of f.number root f.parents f.info)

-- a tree that is read from the store, by its root
pub record IsFirstTree (records : ℕ → Option Record) (r : Ref) (first : View) : Type 0 where
  pub root : RootIs records (unread r) first.map
  pub lawful : IsTree first.map
  pub known : (part : Part) → first.known part ≡ stored_part records r.at part.path part.indexes

abbrev pub IsFirst : (ℕ → Option Record) → Option Ref → Option View → Type 0
IsFirst records None first = first ≡ None
IsFirst records (Some r) first = IsSomeAnd first (IsFirstTree records r)

abbrev pub commit_place : View → Option View → ℕ → ℕ
commit_place v first end = (root_spelled v (reusing_sources v first) end).next

pub record IsBatch (v : View) (first : Option View) (f : Batches.CommitFields) (end : ℕ) (b : Batch) : Type 0 where
  pub bytes : b.bytes.items ≡ bytes_of (batch v (reusing_sources v first) f end)
  pub root : b.root ≡ batch_root v (reusing_sources v first) end
  pub name : b.name ≡ batch_name v f
  pub commit_at : b.commit_at ≡ commit_place v first end
  pub ends : b.end ≡ batch_end v (reusing_sources v first) f end
  pub room : b.end ≤ greatest_end
  pub long : b.end ≡ end + length b.bytes.items
  pub fits : All (λ x. Fits 1 x.1) (batch v (reusing_sources v first) f end)

-- The records would pass the greatest end, and the commit would have that name wherever they lay; else a call on the ground failed, or memory was refused. No limit comes.
abbrev pub IsSaveFault : View → Option View → Batches.CommitFields → ℕ → SaveFault → Type 0
IsSaveFault v first f end (Limit l) = ⊥
IsSaveFault v first f end (Space name) = (greatest_end < batch_end v (reusing_sources v first) f end) × (name ≡ batch_name v f)
IsSaveFault v first f end (Fetch fault) = IsFreeSave (Fetch fault)
IsSaveFault v first f end Memory = Unit {0}

-- What a tree rests on: the records that it knows are there as long as the commits are that it took from.
--     Leads records from at      one record reaches the other by references
--     IsHeld records least at      a commit not below the least number reaches it
--     IsRootedIn K v      of each part that the view knows this is so.      IsRooted records v      a commit not below the view's least number reaches it
use Rattle.std.specs.Prelude.{◌≡◌, ℕ, ◌≤◌, Option, Some, None, Contains}
use Rattle.ip_spec.specs.declared.record.CommitRecord.{CommitRecord}
use Rattle.ip_spec.specs.declared.record.Record.{Record}
use Rattle.ip_spec.specs.declared.record.Ref.{Ref}
use Rattle.ip_spec.specs.Record.{references}
use Rattle.ip_spec.specs.View.{View, Part}

-- It stays so where records are added.
pub data Leads (records : ℕ → Option Record) (from : ℕ) : ℕ → Type 0 where
  itself : Leads records from from
  by_ref : (mid : ℕ) (x : Record) (ref : Ref) → Leads records from mid → records mid ≡ Some x → Contains (references x) ref → Leads records from ref.at

-- The records of an image have those of the retained commits alone.
abbrev pub IsHeld : (ℕ → Option Record) → Option ℕ → ℕ → Type 0
IsHeld records None at = ⊥
IsHeld records (Some least) at = (from : ℕ) × (c : CommitRecord) × (records from ≡ Some (Record.Commit c)) × (least ≤ c.number) × Leads records from at

abbrev pub IsRootedIn : (ℕ → Type 0) → View → Type 0
IsRootedIn K v = (part : Part) (at : ℕ) → v.known part ≡ Some at → K at

abbrev pub IsRooted : (ℕ → Option Record) → View → Type 0
IsRooted records v = IsRootedIn (IsHeld records v.oldest) v

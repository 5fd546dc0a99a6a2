-- What one call changes of an audit's memory.
--     KeepsBesides, AddsName      one thing more is remembered.      RemembersSame      nothing more
--     CommitHolds audit at c name      the tests of a commit with this name
use Rattle.std.specs.Prelude.{◌≡◌, ◌≢◌, ◌⊎◌, ◌+◌, ◌-◌, ◌<◌, ◌≤◌, ◌++◌, ◌∷◌, [], ℕ, None, Some, All, AllPairs, IfSome, length, slice_get, position}
use Rattle.ip_spec.specs.Path.{same_bytes}
use Rattle.ip_spec.specs.Record.{Hash}
use Rattle.ip_spec.specs.declared.record.CommitRecord.{CommitRecord}
use Rattle.ip_image.specs.Standing.{IsEarlier, outside}
use Rattle.ip_audit.specs.Memory.{Kept, RootIs}
use Rattle.ip_audit.specs.View.{look_of}
use Rattle.ip_audit.specs.declared.audit.Audit.{Audit}

-- one audit remembers what another does, and this besides
pub record KeepsBesides (before after : Audit) (at : ℕ) (k : Kept) : Type 0 where
  pub this : look_of after.kept at ≡ Some k
  pub others : (b : ℕ) → b ≢ at → look_of after.kept b ≡ look_of before.kept b
  pub names : after.names ≡ before.names
  pub terms : after.terms ≡ before.terms

-- both remember the same
pub record RemembersSame (before after : Audit) : Type 0 where
  pub kept : (b : ℕ) → look_of after.kept b ≡ look_of before.kept b
  pub names : after.names ≡ before.names
  pub terms : after.terms ≡ before.terms

-- one audit remembers what another does, and the name of one commit more
pub record AddsName (before after : Audit) (name : Hash) : Type 0 where
  pub kept : (b : ℕ) → look_of after.kept b ≡ look_of before.kept b
  pub names : after.names ≡ before.names ++ name ∷ []
  pub terms : after.terms ≡ before.terms

-- all but that its name is new
pub record CommitHolds (audit : Audit) (at : ℕ) (c : CommitRecord) : Type 0 where
  pub number : c.number ≡ audit.terms.floor + length audit.names
  pub root_below : c.root_at < at
  pub root : RootIs (look_of audit.kept c.root_at) c.root_name
  pub earlier : All (IsEarlier audit.terms c.number) c.parents
  pub distinct : AllPairs (λ p q. (p.number ≢ q.number) ⊎ (p.number ≡ outside)) c.parents
  pub parents : All (λ p. audit.terms.floor ≤ p.number → p.number ≢ outside → IfSome (slice_get audit.names (p.number - audit.terms.floor)) (λ n. n ≡ p.name)) c.parents

-- no commit has the name
abbrev pub IsNew : Audit → Hash → Type 0
IsNew audit name = position (λ n. same_bytes n name) audit.names ≡ None

-- What an audit remembers of the records that were taken.
--     commit_name c      the name of a commit record
--     memory_of audit      all that it remembers
--     Audited audit taken      it is true of these records.      IsBeyond at taken      the offset is above theirs
use Rattle.ip_spec.specs.TreeAt.{Records}
pub use Rattle.ip_audit.specs.Memory.{commit_name, IsBeyond}
use Rattle.ip_audit.specs.Memory.{Memory, IsTrueMemory}
use Rattle.ip_audit.specs.View.{look_of}
use Rattle.ip_audit.specs.declared.audit.Audit.{Audit}

abbrev pub memory_of : Audit → Memory
memory_of audit = record { kept = look_of audit.kept; names = audit.names }

abbrev pub Audited : Audit → Records → Type 0
Audited audit taken = IsTrueMemory (memory_of audit) taken

-- What is shown of a commit.
--     IsShown r number result      the fields of the machine's reply, where the records are told: else a fault of the ground, or want of memory
use Rattle.std.specs.Prelude.{◌≡◌, ℕ, Result}
use Rattle.ip_spec.specs.declared.reply.Reply.TheVariants as Reply
use Rattle.ip_spec.specs.Repository.{Repository, Commit}
use Rattle.ip_spec.specs.Step.{commit_reply}
use Rattle.ip_held.specs.declared.fault.StoreFault.{StoreFault}
use Rattle.ip_reads.specs.declared.commit.Shown.{Shown}
use Rattle.ip_held.specs.Showing.{IsFetchedOr}

abbrev pub IsShown : Repository → ℕ → Result Shown StoreFault → Type 0
IsShown r number result = IsFetchedOr (λ shown. commit_reply r number ≡ Reply.Commit shown.name shown.number shown.root shown.parents shown.info) result

-- What a merger answers is what it means.
use Rattle.std.proofs.Common.{◌≡◌, IfOk, Result, Ok, Err}
use Rattle.ip_base.specs.declared.memory.Memory.{Memory}
use Rattle.ip_spec.specs.declared.merge.Merged.{Merged}
use Rattle.ip_merge.specs.Answering.{Answers}

pub answer_is : (merged : Merged) (result : Result Merged Memory) → Answers merged result → IfOk result (λ answer. answer ≡ merged)
answer_is merged (Ok answer) is = is
answer_is merged (Err memory) is = tt

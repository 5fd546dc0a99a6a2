-- What a merger that computes answers.
--     Answers merged result      this, or want of memory where this is no conflict, for which none is taken
use Rattle.std.specs.Prelude.{◌≡◌, ◌≢◌, Result, Ok, Err}
use Rattle.ip_base.specs.declared.memory.Memory.{Memory}
use Rattle.ip_spec.specs.declared.merge.Merged.{Merged}
use Rattle.ip_spec.specs.declared.merge.Merged.TheVariants.{Conflict}

abbrev pub Answers : Merged → Result Merged Memory → Type 0
Answers merged (Ok answer) = answer ≡ merged
Answers merged (Err memory) = merged ≢ Conflict

-- Which jobs a collector may be given.
use Rattle.std.specs.Prelude.{◌≡◌, ◌↔◌, ℕ, ◌<◌, ◌≤◌, List, [], ◌∷◌}
use Rattle.ip_base.specs.declared.limit.TheConstants.{OFFSET_MAX}
use Rattle.ip_spawn.specs.Sizes.{IsChunkSize}
use Rattle.ip_spawn.specs.declared.job.Job.{Job}

pub record IsValid (job : Job) : Type 0 where
  pub chunk : IsChunkSize job.chunk
  pub attempt : 1 ≤ job.attempt
  pub live : job.live < job.attempt
  pub horizon : job.old_horizon ≤ job.horizon
  pub some : job.horizon < job.end
  pub most : job.end ≤ OFFSET_MAX
  pub served : (job.live ≡ 0) ↔ (job.old_horizon ≡ 0)

abbrev pub numbers_of : Job → List ℕ
numbers_of job = job.attempt ∷ job.horizon ∷ job.end ∷ job.chunk ∷ job.live ∷ job.old_horizon ∷ job.prefix_len ∷ job.rows ∷ []

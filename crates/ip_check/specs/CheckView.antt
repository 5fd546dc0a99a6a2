-- What contracts see of a check.
use Rattle.std.specs.Prelude.{ℕ}
use Rattle.ip_spawn.specs.declared.job.Job.{Job}
use Rattle.ip_keep.specs.KeepView.{KeepView}
use Rattle.ip_check.specs.declared.check.Stage.{Stage}

pub record CheckView : Type 0 where
  pub job : Job
  pub keep : KeepView
  -- still finding what is kept; comparing the prefix, at a place; or through, with or without a difference
  pub stage : Stage
  -- how many of the kept records were compared with the prefix
  pub compared : ℕ

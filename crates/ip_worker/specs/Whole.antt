-- The files that a job reads.
--     layout_of_job job      where its records lie.      space_of_job job rows      their space, over these rows of the live mapping
--     AreWhole image job records      they are whole, and these are the records: a commit stands at the horizon
use Rattle.std.specs.Prelude.{◌≡◌, List, [], map, Some}
use Rattle.ip_ground.specs.Contents.{Image}
use Rattle.ip_spec.specs.declared.record.Record.TheVariants as Record
use Rattle.ip_spec.specs.declared.record.CommitRecord.{CommitRecord}
use Rattle.ip_spec.specs.TreeAt.{Records, present}
use Rattle.ip_spawn.specs.declared.job.Job.{Job}
use Rattle.ip_image.specs.declared.layout.Layout.{Layout}
use Rattle.ip_image.specs.declared.run.Row.{Row}
use Rattle.ip_image.specs.Virtual.{run_of}
use Rattle.ip_image.specs.Standing.{Generation}
use Rattle.ip_space.specs.SpaceView.{SpaceView}
use Rattle.ip_keep.specs.Whole.{AreRecords}

abbrev pub layout_of_job : Job → Layout
layout_of_job job = record { chunk = job.chunk; horizon = job.old_horizon; end = job.end; live = job.live; prefix_len = job.prefix_len; rows = job.rows }

abbrev pub space_of_job : Job → List Row → SpaceView
space_of_job job rows = record { layout = layout_of_job job; runs = map run_of rows; kept = [] }

pub record AreWhole (image : Image) (job : Job) (records : Records) : Type 0 where
  pub rows : List Row
  pub generation : Generation image (layout_of_job job) rows
  pub lie : AreRecords image (space_of_job job rows) job.horizon records
  pub commit : CommitRecord
  pub here : present records job.horizon ≡ Some (Record.Commit commit)

-- Why trees were not merged, as a cause of the call.
use Rattle.std.proofs.Common.{Bool}
use Rattle.std.specs.Prelude.{IfErr}
use Rattle.ip_ground.specs.Told.{Told}
use Rattle.ip_space.specs.SpaceView.{SpaceView}
use Rattle.ip_three.specs.Answered.{IsMergeCause}
use Rattle.ip_three.specs.declared.merge.ThreeFault.{ThreeFault}
use Rattle.ip_three.specs.declared.merge.ThreeFault.TheVariants as three
use Rattle.ip_held.specs.Causes.{IsStoreCause}
use Rattle.ip_appends.specs.Merging.{stopped_by}
use Rattle.ip_held.proofs.Causing.{fetched_cause}

module _ (tells : Bool) (told : Told) (space : SpaceView) where
  pub stopped_cause : (f : ThreeFault) → IsMergeCause tells told space f → IfErr (stopped_by f) (IsStoreCause tells told space)
  stopped_cause (three.Conflict path) cause = tt
  stopped_cause (three.Limit l) cause = tt
  stopped_cause (three.Fetch f) cause = fetched_cause tells told space f cause
  stopped_cause three.Memory cause = tt

-- A call behind one that only read records.
--     err_causes_on      what its fault says as a `?` passes it on, it says of what was before
--     err_is      a result that a `?` passes on
use Rattle.std.proofs.Common.{◌≡◌, sym, subst, Bool}
use Rattle.std.specs.Prelude.{Result, Ok, Err, IfErr, IsErrAnd}
use Rattle.ip_ground.specs.Told.{Told}
use Rattle.ip_space.specs.SpaceView.{SpaceView}
use Rattle.ip_tree.specs.Reads.{IsCause, Looks}
use Rattle.ip_tree.specs.declared.tree.TreeFault.{TreeFault}
use Rattle.ip_tree.proofs.Looking.{cause_on}

module _ (tells : Bool) (old new : Told) (space now : SpaceView) (looks : Looks tells old new space now) where
  pub err_causes_on : {A : Type 0} (result : Result A TreeFault) (fault : TreeFault) → IsErrAnd result (λ e. e ≡ fault) → IsCause tells new now fault → IfErr result (IsCause tells old space)
  err_causes_on (Ok x) fault same is = absurd same
  err_causes_on (Err e) fault same is = subst (IsCause tells old space) (sym same) (cause_on tells old new space now looks fault is)

pub err_is : {A : Type 0} (P : Result A TreeFault → Type 0) (result : Result A TreeFault) (fault : TreeFault) → IsErrAnd result (λ e. e ≡ fault) → P (Err fault) → P result
err_is P (Ok x) fault same is = absurd same
err_is P (Err e) fault same is = subst (λ f. P (Err f)) (sym same) is

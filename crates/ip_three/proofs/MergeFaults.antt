-- Faults of trees as faults of a merge.
--     free_fault      one that is free
--     fault_is      a result that a `?` passes on
--     err_cause, merge_causes_on      what a fault says of records, it says of those before
use Rattle.std.proofs.Common.{◌≡◌, Bool, sym, subst}
use Rattle.std.specs.Prelude.{Err, IfErr, IsErrAnd, Ok, Result}
use Rattle.ip_ground.specs.Told.{Told}
use Rattle.ip_space.specs.SpaceView.{SpaceView}
use Rattle.ip_spec.specs.Merge.{Rule}
use Rattle.ip_spec.specs.View.{View}
use Rattle.ip_tree.specs.Reads.{IsCause, IsFree, Looks}
use Rattle.ip_tree.specs.declared.tree.TreeFault.{TreeFault}
use Rattle.ip_tree.specs.declared.tree.TreeFault.TheVariants as fault
use Rattle.ip_tree.proofs.Looking.{cause_on}
use Rattle.ip_three.specs.Answered.{IsMergeCause, IsMergeFault, three_fault}
use Rattle.ip_three.specs.declared.merge.ThreeFault.{ThreeFault}
use Rattle.ip_three.specs.declared.merge.ThreeFault.TheVariants.{Conflict, Limit, Fetch, Memory}

pub free_fault : (rule : Rule) (b l r : View) (f : TreeFault) → IsFree f → IsMergeFault rule b l r (three_fault f)
free_fault rule b l r (fault.Limit l') free = absurd free
free_fault rule b l r (fault.Fetch f) free = free
free_fault rule b l r fault.Memory free = tt

pub fault_is : {A : Type 0} (result : Result A ThreeFault) (f : ThreeFault) → IsErrAnd result (λ e. e ≡ f) → (P : Result A ThreeFault → Type 0) → P (Err f) → P result
fault_is (Ok x) f is P here = absurd is
fault_is (Err e) f is P here = subst (λ x. P (Err x)) (sym is) here

module _ (tells : Bool) (old new : Told) (space now : SpaceView) (looks : Looks tells old new space now) where
  cause_is : (f : TreeFault) → IsCause tells old space f → IsMergeCause tells old space (three_fault f)
  cause_is (fault.Limit l) is = tt
  cause_is (fault.Fetch f) is = is
  cause_is fault.Memory is = tt

  pub err_cause : {A : Type 0} (result : Result A ThreeFault) (f : TreeFault) → IsErrAnd result (λ e. e ≡ three_fault f) → IsCause tells new now f → IfErr result (IsMergeCause tells old space)
  err_cause (Ok x) f is cause = absurd is
  err_cause (Err e) f is cause = subst (IsMergeCause tells old space) (sym is) (cause_is f (cause_on tells old new space now looks f cause))

  merge_cause_on : (f : ThreeFault) → IsMergeCause tells new now f → IsMergeCause tells old space f
  merge_cause_on (Conflict p) is = tt
  merge_cause_on (Limit l) is = tt
  merge_cause_on (Fetch f) is = cause_on tells old new space now looks (fault.Fetch f) is
  merge_cause_on Memory is = tt

  pub merge_causes_on : {A : Type 0} (result : Result A ThreeFault) → IfErr result (IsMergeCause tells new now) → IfErr result (IsMergeCause tells old space)
  merge_causes_on (Ok x) is = tt
  merge_causes_on (Err f) is = merge_cause_on f is

-- What is nothing where a record is known to spell a directory.
--     unless_map      a function of it.      unless_new      where no record is known
use Rattle.std.proofs.Common.{◌≡◌, refl, ap, Option, Some, None}
use Rattle.ip_tree.specs.declared.node.Stored.{Stored}
use Rattle.ip_save.specs.Laid.{unless_known}

pub unless_map : {A B : Type 0} (f : A → B) (o : Option Stored) (nothing all : A) → f (unless_known o nothing all) ≡ unless_known o (f nothing) (f all)
unless_map f (Some x) nothing all = refl
unless_map f None nothing all = refl

pub unless_new : {A : Type 0} (o : Option Stored) (nothing all : A) → o ≡ None → unless_known o nothing all ≡ all
unless_new o nothing all new = ap (λ k. unless_known k nothing all) new

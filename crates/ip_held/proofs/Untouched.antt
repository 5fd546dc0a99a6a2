-- Answers behind which no file has changed.
--     damage_refused      damage is an error, and no fault of the ground
--     taken_untouched      a step that was not taken, by no fault of the ground, has changed no file
use Rattle.std.proofs.Common.{◌≡◌, ◌≢◌, refl, sym, ap, subst}
use Rattle.std.specs.Prelude.{Result, Ok, Err, IfErr, IsErr, IsErrOf}
use Rattle.ip_ground.specs.Told.{Told, NoFile, ChangesOnly}
use Rattle.ip_ground.proofs.Passing.{changes_nothing}
use Rattle.ip_held.specs.declared.fault.StoreFault.{StoreFault}
use Rattle.ip_held.specs.Answers.{IsCut}
use Rattle.ip_held.specs.Changes.{IsUndamaged}

pub damage_refused : {A : Type 0} (result : Result A StoreFault) → ¬ IsUndamaged result → IsErr result × ¬ IsErrOf result StoreFault.Ground
damage_refused (Err (StoreFault.Damaged at names)) damaged = (refl, λ e. cc e)
damage_refused _ damaged = absurd (damaged tt)

module _ (a b : Told) where
  cut_untouched : (fault : StoreFault) → (fault ≡ StoreFault.Memory → b ≡ a) → IsCut fault → fault ≢ StoreFault.Ground → ChangesOnly NoFile a b
  cut_untouched StoreFault.Memory still cut other = subst (λ (t : Told). ChangesOnly NoFile a t) (sym (still refl)) (changes_nothing a)
  cut_untouched StoreFault.Ground still cut other = absurd (other refl)
  cut_untouched _ still cut other = absurd cut

  pub taken_untouched : {A : Type 0} (result : Result A StoreFault) → (result ≡ Err StoreFault.Memory → b ≡ a) → IfErr result IsCut → IsErr result → ¬ IsErrOf result StoreFault.Ground → ChangesOnly NoFile a b
  taken_untouched (Ok x) still cut is other = absurd (cc is)
  taken_untouched (Err fault) still cut is other = cut_untouched fault (λ e. still (ap Err e)) cut (λ e. other (ap Err e))

-- Options, sides and answers told apart.
--     none_is, some_is, no_value, no_some, none_of      of any option
--     right_is, not_lefts, no_side, not_both_sides      of sides
--     kept_value, keeps_none, keeps_conflict      of what a rule answers
use Rattle.std.proofs.Common.{◌≡◌, refl, sym, ap, ◌∙◌, Option, Some, None, true, false}
use Rattle.std.proofs.lemmas.Bool.{false≢true}
use Rattle.std.specs.Prelude.{is_none, is_some}
use Rattle.ip_spec.specs.MergeModel.{value_of}
use Rattle.ip_spec.specs.Path.{Bytes}
use Rattle.ip_spec.specs.declared.merge.Merged.TheVariants.{Keep, Conflict}
use Rattle.ip_three.specs.Merging.{Side, of_left, of_right, is_right}

module _ {A : Type 0} where
  pub none_is : {X : Type 0} (o : Option A) (x : A) → o ≡ None → o ≡ Some x → X
  none_is o x none some = absurd (false≢true (ap is_some (sym none ∙ some)))

  pub some_is : (o : Option A) → is_some o ≡ true → (x : A) × (o ≡ Some x)
  some_is None e = absurd (false≢true e)
  some_is (Some x) e = (x, refl)

  pub no_value : (o : Option A) → is_some o ≡ false → o ≡ None
  no_value None e = refl
  no_value (Some x) e = absurd (false≢true (sym e))

  pub no_some : (o : Option A) → ((x : A) → o ≡ Some x → ⊥) → o ≡ None
  no_some None none = refl
  no_some (Some x) none = absurd (none x refl)

  pub none_of : (o : Option A) → is_none o ≡ true → o ≡ None
  none_of None e = refl
  none_of (Some x) e = absurd (false≢true e)

pub right_is : (o : Option Side) → is_right o ≡ true → o ≡ Some of_right
right_is (Some of_right) e = refl
right_is (Some of_left) e = absurd (false≢true e)
right_is None e = absurd (false≢true e)

pub not_lefts : {X : Type 0} (o : Option Side) → o ≡ Some of_left → o ≡ Some of_right → X
not_lefts o e f = absurd (false≢true (ap is_right (sym e ∙ f)))

pub no_side : {X : Type 0} (side : Side) → Some side ≡ None → X
no_side side e = cc

pub not_both_sides : {X : Type 0} → Some of_left ≡ Some of_right → X
not_both_sides e = cc

pub kept_value : (x y : Option Bytes) → Keep x ≡ Keep y → x ≡ y
kept_value x y e = ap value_of e

pub keeps_none : {X : Type 0} (bytes : Bytes) → Keep None ≡ Keep (Some bytes) → X
keeps_none bytes e = cc

pub keeps_conflict : {X : Type 0} (v : Option Bytes) → Conflict ≡ Keep v → X
keeps_conflict v e = cc

-- Bytes that are there.
--     held_stood      those of a text that stands.      held_joined      of the joined runs, where those of each are.      held_later      while no file changes
use Rattle.std.proofs.Common.{◌≡◌, ◌≢◌, inl, inr, ℕ, zero, suc, ◌+◌, ◌-◌, ◌<◌, ◌≤◌, Bool, true, false, T, eqb→eq, List, [], ◌∷◌, length, refl, sym, ◌∙◌, ap, subst, arith}
use Rattle.std.proofs.lemmas.Bool.{cases_lt}
use Rattle.std.specs.Prelude.{Option, None, slice_get, if◌then◌else◌, ◌==◌}
use Rattle.ip_ground.specs.Told.{Told, NoFile, ChangesOnly}
use Rattle.ip_spec.specs.Path.{Bytes}
use Rattle.ip_image.specs.declared.run.Run.{Run}
use Rattle.ip_image.specs.Virtual.{Stands}
use Rattle.ip_image.specs.Collection.{in_front}
use Rattle.ip_space.specs.SpaceView.{SpaceView, IsReadable, byte_at}
use Rattle.ip_space.proofs.Stayed.{byte_stays}
use Rattle.ip_space.proofs.StoodBytes.{alike}
use Rattle.ip_keep.specs.Runs.{IsHeld, AreHeld, joined}

there : (bytes : Bytes) (k : ℕ) → k < length bytes → slice_get bytes k ≢ None
there [] k below none = absurd (omega (arith, below))
there (b ∷ bytes) zero below none = absurd (cc none)
there (b ∷ bytes) (suc k) below none = there bytes k (omega (arith, below)) none

module _ (f : ℕ → Option ℕ) where
  pub held_stood : (at n : ℕ) (bytes : Bytes) → Stands f at bytes → length bytes ≡ n → IsHeld f at n
  held_stood at n bytes stands size k below gap = there bytes k (omega (arith, size, below)) (sym (stands k (omega (arith, size, below))) ∙ gap)

  held_front : (at n : ℕ) (runs : List Run) → IsHeld f at n → AreHeld f runs → AreHeld f (in_front at n runs)
  held_front at n [] held later = (held, tt)
  held_front at n (run ∷ runs) held later = by (at + n == run.at) refl
    where
      both : at + n ≡ run.at → IsHeld f at (n + run.length)
      both same k below gap = elim (cases_lt k n) [
        | inl less ↦ held k less gap
        | inr more ↦
            let place : run.at + (k - n) ≡ at + k = omega (arith, same, more) in
            later.0 (k - n) (omega (arith, more, below)) (ap f place ∙ gap)
      ]

      by : (b : Bool) → (at + n == run.at) ≡ b → AreHeld f (if b then record { at = at; length = n + run.length } ∷ runs else record { at = at; length = n } ∷ run ∷ runs)
      by true e = (both (eqb→eq (at + n) run.at (subst T (sym e) tt)), later.1)
      by false e = (held, later)

  pub held_joined : (kept : List Run) → AreHeld f kept → AreHeld f (joined kept)
  held_joined [] held = tt
  held_joined (run ∷ kept) held = held_front run.at run.length (joined kept) held.0 (held_joined kept held.1)

pub held_later : (a b : Told) (space : SpaceView) → ChangesOnly NoFile a b → IsReadable a space → (runs : List Run) → AreHeld (byte_at a space) runs → AreHeld (byte_at b space) runs
held_later a b space only readable runs held = subst (λ (f : ℕ → Option ℕ). AreHeld f runs) (sym (alike (byte_at a space) (byte_at b space) (byte_stays a b only space readable))) held

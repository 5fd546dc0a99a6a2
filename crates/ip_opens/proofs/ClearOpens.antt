-- A store that is made has all cleared away, and one that is opened takes what is unswept from its slot, and collects nothing.
use Rattle.std.proofs.Common.{◌≡◌, ℕ, ◌<◌, ◌≤◌, None, sym, ◌∙◌, ap, subst, arith}
use Rattle.std.specs.Prelude.{Result, Ok, Err, IfOk, take}
use Rattle.ip_ground.specs.Contents.{bytes_of}
use Rattle.ip_ground.specs.Told.{Told}
use Rattle.ip_image.specs.declared.slot.Slot.{Slot}
use Rattle.ip_image.specs.Slot.{IsChunkSize, fresh, fresh_control}
use Rattle.ip_image.proofs.FreshLaws.{is_live}
use Rattle.ip_image.proofs.HeadlineLaws.{one_slot}
use Rattle.ip_opens.specs.declared.opening.OpenFault.{OpenFault}
use Rattle.ip_held.specs.declared.held.Held.{Held}
use Rattle.ip_opens.specs.declared.walk.Found.{Found}
use Rattle.ip_held.specs.Clear.{IsClearAt, unswept_in}
use Rattle.ip_held.specs.Control.{IsFresh}
use Rattle.ip_opens.specs.Found.{Finishes}

pub made_clear : (chunk : ℕ) → IsChunkSize chunk → (told : Told) → IsFresh chunk told.held → IsClearAt told
made_clear chunk size told is s has = record {
  chunk = omega arith;
  attempt = omega arith;
  chunks = λ number low. absurd (none_below number (subst (λ (t : Slot). number < t.first_chunk) (sym same) low));
  files = λ attempt file low below of own. absurd (none_before attempt low (subst (λ (t : Slot). attempt < t.first_attempt) (sym same) below));
}
  where
    none_below : (number : ℕ) → number < 0 → ⊥
    none_below number low = omega (arith, low)

    none_before : (attempt : ℕ) → 1 ≤ attempt → attempt < 1 → ⊥
    none_before attempt low below = omega (arith, low, below)

    same : fresh chunk ≡ s
    same =
        let begun : take 256 has.control ≡ fresh_control chunk = ap (λ c. take 256 (bytes_of c)) (sym has.held) ∙ is in
        one_slot (fresh chunk) s told.held (record { control = has.control; index = 0; held = has.held; live = is_live has.control chunk size begun }) has

pub opened_unswept : (index : ℕ) (s : Slot) (found : Found) (result : Result Held OpenFault) → Finishes index s found result → IfOk result (λ store. store.unswept ≡ unswept_in store.slot)
opened_unswept index s found (Ok store) finished = finished.unswept ∙ ap unswept_in (sym finished.slot)
opened_unswept index s found (Err fault) finished = tt

pub opened_idle : (index : ℕ) (s : Slot) (found : Found) (result : Result Held OpenFault) → Finishes index s found result → IfOk result (λ store. store.collection ≡ None)
opened_idle index s found (Ok store) finished = finished.idle
opened_idle index s found (Err fault) finished = tt

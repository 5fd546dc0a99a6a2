-- What a store keeps of a collection that goes on, as its tables go on.
--     rising_low, rising_push, rising_drop      places that ascend: from less on, with one more behind them, and without those in front
--     highs      each lies below an end
--     get_more      what stands at a place stands there with more behind
--     going_to, going_on      a collection that goes on: by equal tables, whatever is kept of the space, and with more places and a longer space
--     collects_to, collects_still      what the swap asks for: by an equal slot, and where neither a file of an attempt nor custody is changed.      child_on      its child
--     phase_here, going_here, collects_here      what a store says of the collection that runs
use Rattle.std.proofs.Common.{◌≡◌, ℕ, zero, suc, ◌+◌, ◌-◌, ◌<◌, ◌≤◌, List, [], ◌∷◌, ◌++◌, Option, Some, None, drop, refl, sym, ◌∙◌, subst, arith}
use Rattle.std.specs.Prelude.{All, IfSome, slice_get}
use Rattle.std.specs.List.{AllByRecursion}
use Rattle.std.proofs.lemmas.List.Elements.{recursion_from_All}
use Rattle.ip_ground.specs.declared.names.FileName.{FileName}
use Rattle.ip_ground.specs.declared.names.FileName.TheVariants.{Mapping, Prefix}
use Rattle.ip_base.specs.declared.exit.Reaped.{Reaped}
use Rattle.ip_ground.specs.Contents.{Image}
use Rattle.ip_ground.specs.Custody.{IsOfAttempt}
use Rattle.ip_ground.specs.Told.{Told, IsSettledAs, KeepsCustody, KeepsFile, KeepsPast, lending}
use Rattle.ip_ground.proofs.Lending.{own_settled}
use Rattle.ip_ground.proofs.Spans.{lending_now}
use Rattle.ip_spec.specs.Repository.{Repository}
use Rattle.ip_spec.specs.TreeAt.{Records}
use Rattle.ip_image.specs.declared.slot.Slot.{Slot}
use Rattle.ip_image.specs.Collection.{Found, found_in}
use Rattle.ip_check.specs.Checking.{IsChecking}
use Rattle.ip_space.specs.SpaceView.{SpaceView, bare, grown}
use Rattle.ip_held.specs.declared.collection.Collection.{Collection}
use Rattle.ip_held.specs.declared.collection.Unswept.{Unswept}
use Rattle.ip_held.specs.Collecting.{IsGoing, HasEnded, IsOfChild, Collects, until, IsPhase, IsPhaseOf}
use Rattle.ip_held.specs.Placed.{AreRising}
use Rattle.ip_held.specs.Held.{IsOf, Holds}
use Rattle.ip_held.specs.declared.held.Held.{Held}

pub rising_low : (low from : ℕ) (places : List ℕ) → low ≤ from → AreRising from places → AreRising low places
rising_low low from [] le is = tt
rising_low low from (at ∷ places) le is = ((let first = is.0 in omega (arith, le, first)), is.1)

pub rising_push : (from end at : ℕ) (places : List ℕ) → from ≤ at → end ≤ at → AllByRecursion (λ p. p < end) places → AreRising from places → AreRising from (places ++ at ∷ [])
rising_push from end at [] low high below is = (low, tt)
rising_push from end at (p ∷ places) low high below is = (is.0, rising_push (p + 1) end at places (let b = below.0 in omega (arith, b, high)) high below.1 is.1)

pub rising_drop : (from k h : ℕ) (places : List ℕ) → slice_get places k ≡ Some h → AreRising from places → AreRising h (drop k places)
rising_drop from k h [] e is = absurd (cc (e))
rising_drop from zero h (p ∷ places) e is = ((let same : p ≡ h = cc (e) in omega (arith, same)), is.1)
rising_drop from (suc k) h (p ∷ places) e is = rising_drop (p + 1) k h places e is.1

highs_by : (low end : ℕ) (places : List ℕ) → AllByRecursion (λ at. (low ≤ at) × (at < end)) places → AllByRecursion (λ p. p < end) places
highs_by low end [] all = tt
highs_by low end (p ∷ places) all = (all.0.1, highs_by low end places all.1)

pub highs : (low end : ℕ) (places : List ℕ) → All (λ at. (low ≤ at) × (at < end)) places → AllByRecursion (λ p. p < end) places
highs low end places all = highs_by low end places (recursion_from_All (λ at. (low ≤ at) × (at < end)) places all)

pub get_more : (xs ys : List ℕ) (k x : ℕ) → slice_get xs k ≡ Some x → slice_get (xs ++ ys) k ≡ Some x
get_more [] ys k x e = absurd (cc (e))
get_more (z ∷ xs) ys zero x e = e
get_more (z ∷ xs) ys (suc k) x e = get_more xs ys k x e

-- it says nothing of what is kept of the space
bared : (f : ℕ) (ps : List ℕ) (u : Unswept) (a : SpaceView) (c : Option Collection) → IfSome c (IsGoing f ps u a) → IfSome c (IsGoing f ps u (bare a))
bared f ps u a None is = tt
bared f ps u a (Some c) is = record { placed = is.placed; drawn = is.drawn; check = is.check }

unbared : (f : ℕ) (ps : List ℕ) (u : Unswept) (a : SpaceView) (c : Option Collection) → IfSome c (IsGoing f ps u (bare a)) → IfSome c (IsGoing f ps u a)
unbared f ps u a None is = tt
unbared f ps u a (Some c) is = record { placed = is.placed; drawn = is.drawn; check = is.check }

pub going_to : (f g : ℕ) (ps qs : List ℕ) (u v : Unswept) (a b : SpaceView) (c d : Option Collection) → g ≡ f → qs ≡ ps → v ≡ u → bare b ≡ bare a → d ≡ c → IfSome c (IsGoing f ps u a) → IfSome d (IsGoing g qs v b)
going_to f g ps qs u v a b c d floor places unswept space same is =
    subst (λ (o : Option Collection). IfSome o (IsGoing g qs v b)) (sym same)
    (unbared g qs v b c (subst (λ (s : SpaceView). IfSome c (IsGoing g qs v s)) (sym space)
    (bared g qs v a c (subst (λ (w : Unswept). IfSome c (IsGoing g qs w a)) (sym unswept)
    (subst (λ (xs : List ℕ). IfSome c (IsGoing g xs u a)) (sym places)
    (subst (λ (n : ℕ). IfSome c (IsGoing n ps u a)) (sym floor) is))))))

pub going_on : (f end : ℕ) (ps more : List ℕ) (u : Unswept) (a : SpaceView) (c : Option Collection) → IfSome c (IsGoing f ps u a) → IfSome c (IsGoing f (ps ++ more) u (grown a end))
going_on f end ps more u a None is = tt
going_on f end ps more u a (Some c) is = record { placed = get_more ps more (c.commit - f) c.job.horizon is.placed; drawn = is.drawn; check = is.check }

pub collects_to : (told : Told) (s t : Slot) (records : Records) (r : Repository) (c d : Option Collection) → t ≡ s → d ≡ c → IfSome c (Collects told s records r) → IfSome d (Collects told t records r)
collects_to told s t records r c d slot same is =
    subst (λ (o : Option Collection). IfSome o (Collects told t records r)) (sym same) (subst (λ (v : Slot). IfSome c (Collects told v records r)) (sym slot) is)

-- where no file of an attempt is changed, nor custody
module _ (a b : Told) (goes : KeepsPast a b) (keeps : (attempt : ℕ) → KeepsCustody a b attempt) (files : (file : FileName) (attempt : ℕ) → IsOfAttempt attempt file → KeepsFile a b file) (c : Collection) where
  abbrev n : ℕ
  n = c.job.attempt

  same_custody : lending b n ≡ lending a n
  same_custody = lending_now a b goes n (keeps n)

  held_on : (pair : Image) → IsSettledAs a n pair → (file : FileName) → IsOfAttempt n file → b.held file ≡ a.held file
  held_on pair settled file of = (files file n of).held (own_settled n a pair file settled of)

  ended_on : (records later : Records) → until c.job.end later ≡ until c.job.end records → HasEnded a records c → HasEnded b later c
  ended_on records later same is =
      let mapping = held_on is.pair is.settled (Mapping n) refl in
      let prefix = held_on is.pair is.settled (Prefix n) refl in
      record {
        pair = is.pair;
        settled = (is.settled.0, same_custody ∙ is.settled.1);
        mapping = mapping ∙ is.mapping;
        prefix = prefix ∙ is.prefix;
        checked = subst (λ (rs : Records). IfSome c.check (IsChecking rs (found_in b.held n))) (sym same)
            (subst (λ (f : Found). IfSome c.check (IsChecking (until c.job.end records) f)) (λ i. record { mapping = sym mapping i; prefix = sym prefix i }) is.checked);
      }

  pub child_on : (records later : Records) → until c.job.end later ≡ until c.job.end records → (exit : Option Reaped) → IsOfChild a records c exit → IsOfChild b later c exit
  child_on records later same None was = same_custody ∙ was
  child_on records later same (Some reaped) was = ended_on records later same was

pub collects_still : (a b : Told) (s : Slot) (records : Records) (r : Repository) (o : Option Collection) → KeepsPast a b → ((attempt : ℕ) → KeepsCustody a b attempt) → ((file : FileName) (attempt : ℕ) → IsOfAttempt attempt file → KeepsFile a b file)
    → IfSome o (Collects a s records r) → IfSome o (Collects b s records r)
collects_still a b s records r None goes keeps files is = tt
collects_still a b s records r (Some c) goes keeps files is = record { kept = is.kept; collectable = is.collectable; border = is.border; child = child_on a b goes keeps files c records records refl c.exit is.child }

-- of the collection that runs
module _ (store : Held) (r : Repository) (c : Collection) (runs : store.collection ≡ Some c) where
  pub phase_here : IsOf store r → IsPhase store.slot r c
  phase_here of = subst (IsPhaseOf store.slot r) runs of.phase

  pub going_here : IsOf store r → IsGoing store.slot.floor store.places store.unswept store.space c
  going_here of = subst (λ (o : Option Collection). IfSome o (IsGoing store.slot.floor store.places store.unswept store.space)) runs of.going

  pub collects_here : (told : Told) (held : Holds store told r) → Collects told store.slot held.stands.standing.records r c
  collects_here told held = subst (λ (o : Option Collection). IfSome o (Collects told store.slot held.stands.standing.records r)) runs held.collects

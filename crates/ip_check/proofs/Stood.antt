-- What was compared stood in the files.
--     held_none, held_both      of no record, and of more      held_stretch      of a stretch
--     blames_stretch, breaks_stretch      what is wrong where bytes of a stretch are missing.      blames_kept, breaks_kept      and where what is kept is still being found
--     breaks_on, stood_on, stood_behind, stood_later, stood_none      over calls that change no file.      breaks_as      of a fault, whatever an answer would have been
--     open_keeping, open_comparing      where there is no verdict
use Rattle.std.proofs.Common.{◌≡◌, ℕ, zero, suc, ◌+◌, ◌-◌, ◌<◌, ◌≤◌, List, [], ◌∷◌, refl, sym, ap, subst, ◌∙◌, take, drop, arith}
use Rattle.std.specs.Prelude.{Option, Some, None, Result, Err, slice_get}
use Rattle.std.proofs.lemmas.List.Sums.{sum_by-cons}
use Rattle.ip_ground.specs.Told.{Told, NoFile, ChangesOnly}
use Rattle.ip_spec.specs.declared.reply.Difference.{Difference}
use Rattle.ip_image.specs.declared.run.Run.{Run}
use Rattle.ip_image.specs.Virtual.{total}
use Rattle.ip_space.specs.SpaceView.{SpaceView, IsReadable, byte_at, records_of}
use Rattle.ip_space.proofs.Stayed.{byte_stays, only_looks, readable_stays}
use Rattle.ip_space.proofs.StoodBytes.{alike}
use Rattle.ip_keep.specs.Keeping.{IsBlamedKeep, IsBroken, offsets}
use Rattle.ip_keep.specs.KeepView.{KeepView}
use Rattle.ip_keep.specs.Runs.{IsHeld, AreHeld}
use Rattle.ip_check.specs.declared.check.Stage.{Stage}
use Rattle.ip_check.specs.declared.fault.CheckFault.{CheckFault}
use Rattle.ip_check.specs.declared.prefix.Stretch.{Stretch}
use Rattle.ip_check.specs.CheckView.{CheckView}
use Rattle.ip_check.specs.Checking.{IsBlamed, IsBlamedAt, IsBrokenAt, IsBrokenIn, SameCheck, compared_since}
use Rattle.ip_check.specs.Going.{Breaks, HasStood, IsOpen}
use Rattle.ip_check.specs.Stretching.{AreLinked, IsStretch}
use Rattle.ip_check.proofs.Stages.{blamed_as}

-- ---- over bytes

module _ (f : ℕ → Option ℕ) where
  pub held_none : (n : ℕ) (xs : List Run) → AreHeld f (drop n (take n xs))
  held_none zero xs = tt
  held_none (suc n) [] = tt
  held_none (suc n) (x ∷ xs) = held_none n xs

  held_front : (d e : ℕ) (xs : List Run) → d ≤ e → AreHeld f (take d xs) → AreHeld f (drop d (take e xs)) → AreHeld f (take e xs)
  held_front zero e xs fits one two = two
  held_front (suc d) zero xs fits one two = absurd (omega (arith, fits))
  held_front (suc d) (suc e) [] fits one two = tt
  held_front (suc d) (suc e) (x ∷ xs) fits one two = (one.0, held_front d e xs (omega (arith, fits)) one.1 two)

  pub held_both : (c d e : ℕ) (xs : List Run) → c ≤ d → d ≤ e → AreHeld f (drop c (take d xs)) → AreHeld f (drop d (take e xs)) → AreHeld f (drop c (take e xs))
  held_both zero d e xs low high one two = held_front d e xs high one two
  held_both (suc c) zero e xs low high one two = absurd (omega (arith, low))
  held_both (suc c) (suc d) zero xs low high one two = absurd (omega (arith, high))
  held_both (suc c) (suc d) (suc e) [] low high one two = tt
  held_both (suc c) (suc d) (suc e) (x ∷ xs) low high one two = held_both c d e xs (omega (arith, low)) (omega (arith, high)) one two

  held_linked : (at : ℕ) (runs : List Run) → AreLinked at runs → IsHeld f at (total runs) → AreHeld f runs
  held_linked at [] linked held = tt
  held_linked at (run ∷ runs) (here, linked) held =
      let sum = sum_by-cons (λ (r : Run). r.length) run runs in (
        (λ k below gap. held k (omega (arith, below, sum)) (ap (λ (n : ℕ). f (n + k)) (sym here) ∙ gap)),
        held_linked (at + run.length) runs linked (λ k below gap. held (run.length + k) (omega (arith, below, sum)) (let place : at + (run.length + k) ≡ at + run.length + k = omega arith in ap f place ∙ gap)),
      )

  dropped : (c r : ℕ) (xs : List Run) → drop c (take (c + r) xs) ≡ take r (drop c xs)
  dropped zero r xs = ap (λ (n : ℕ). take n xs) (let e : 0 + r ≡ r = omega arith in e)
  dropped (suc c) r [] = ap (drop (suc c)) (none (suc c + r)) ∙ sym (none r)
    where
      none : (n : ℕ) → ◌≡◌ {A = List Run} (take n []) []
      none zero = refl
      none (suc n) = refl
  dropped (suc c) r (x ∷ xs) = ap (λ (n : ℕ). drop (suc c) (take n (x ∷ xs))) (let e : suc c + r ≡ suc (c + r) = omega arith in e) ∙ dropped c r xs

  pub held_stretch : (kept : List Run) (c most : ℕ) (s : Stretch) → IsStretch (drop c kept) most s → IsHeld f s.at s.length → AreHeld f (drop c (take (c + s.records) kept))
  held_stretch kept c most s st held =
      subst (AreHeld f) (sym (dropped c s.records kept)) (held_linked s.at (take s.records (drop c kept)) st.linked (subst (IsHeld f s.at) st.length held))

-- ---- the first that was not compared

first_of : (xs : List Run) (c : ℕ) (y : Run) (ys : List Run) → drop c xs ≡ y ∷ ys → slice_get (offsets xs) c ≡ Some y.at
first_of [] zero y ys e = absurd (cc e)
first_of [] (suc c) y ys e = absurd (cc e)
first_of (x ∷ xs) zero y ys e = let same : x ≡ y = cc e in ap (λ (r : Run). Some r.at) same
first_of (x ∷ xs) (suc c) y ys e = first_of xs c y ys e

pub stretch_first : (kept : List Run) (c most : ℕ) (s : Stretch) → IsStretch (drop c kept) most s → slice_get (offsets kept) c ≡ Some s.at
stretch_first kept c most s st = by (drop c kept) refl st
  where
    first_linked : (at n : ℕ) (run : Run) (runs : List Run) → 1 ≤ n → AreLinked at (take n (run ∷ runs)) → run.at ≡ at
    first_linked at zero run runs some l = absurd (omega (arith, some))
    first_linked at (suc n) run runs some l = l.0

    by : (xs : List Run) → drop c kept ≡ xs → IsStretch xs most s → slice_get (offsets kept) c ≡ Some s.at
    by [] e st = let some = st.some in let within = st.within in absurd (omega (arith, some, within))
    by (run ∷ runs) e st = first_of kept c run runs e ∙ ap (λ (n : ℕ). Some n) (first_linked s.at s.records run runs st.some st.linked)

pub blames_stretch : (c : CheckView) (place most at : ℕ) (s : Stretch) → c.stage ≡ Stage.Comparing place → IsStretch (drop c.compared c.keep.kept) most s → at ≡ s.at → IsBlamed c at
blames_stretch c place most at s stage st here =
    subst (IsBlamedAt c at) (sym stage) (stretch_first c.keep.kept c.compared most s st ∙ ap (λ (n : ℕ). Some n) (sym here))

pub breaks_stretch : (told : Told) (c : CheckView) (place most at : ℕ) (s : Stretch) → c.stage ≡ Stage.Comparing place → IsStretch (drop c.compared c.keep.kept) most s → at ≡ s.at
    → (gap : ℕ) × (gap < s.length) × (byte_at told c.keep.space (s.at + gap) ≡ None) → IsBrokenIn told c at
breaks_stretch told c place most at s stage st here (gap, inside, missing) = subst (IsBrokenAt told c at) (sym stage) (record {
  records = s.records;
  linked = subst (λ (n : ℕ). AreLinked n (take s.records (drop c.compared c.keep.kept))) (sym here) st.linked;
  gap = gap;
  inside = let long = st.length in omega (arith, inside, long);
  missing = ap (λ (n : ℕ). byte_at told c.keep.space (n + gap)) here ∙ missing;
})

-- ---- over calls that change no file

bytes_back : (a b : Told) (space now : SpaceView) → ChangesOnly NoFile a b → IsReadable a space → now ≡ space → byte_at b now ≡ byte_at a now
bytes_back a b space now only readable same = alike (byte_at a now) (byte_at b now) (byte_stays a b only now (subst (IsReadable a) (sym same) readable))

records_back : (a b : Told) (space now : SpaceView) → ChangesOnly NoFile a b → IsReadable a space → now ≡ space → (at : ℕ) → records_of b now at ≡ records_of a now at
records_back a b space now only readable same at = (only_looks a b only now).records (subst (IsReadable a) (sym same) readable) at

pub breaks_on : {A : Type 0} (a b : Told) (c d e : CheckView) (r : Result A CheckFault) → ChangesOnly NoFile a b → SameCheck c d → SameCheck d e → Breaks b d e r → Breaks a c e r
breaks_on a b c d e r only one two breaks readable at is =
    turned e.stage (breaks (subst (IsReadable b) (sym one.space) (readable_stays a b only c.keep.space readable)) at is)
  where
    same : e.keep.space ≡ c.keep.space
    same = two.space ∙ one.space

    turned : (s : Stage) → IsBrokenAt b e at s → IsBrokenAt a e at s
    turned Stage.Keeping broken = λ rec there. broken rec (records_back a b c.keep.space e.keep.space only readable same at ∙ there)
    turned (Stage.Comparing place) broken = record {
      records = broken.records;
      linked = broken.linked;
      gap = broken.gap;
      inside = broken.inside;
      missing = ap (λ (f : ℕ → Option ℕ). f (at + broken.gap)) (sym (bytes_back a b c.keep.space e.keep.space only readable same)) ∙ broken.missing;
    }
    turned (Stage.Through told) broken = broken

-- bytes that stand later stood before
pub stood_later : (a b : Told) (c d : CheckView) (runs : List Run) → ChangesOnly NoFile a b → SameCheck c d → IsReadable a c.keep.space → (IsReadable b d.keep.space → AreHeld (byte_at b d.keep.space) runs) → AreHeld (byte_at a c.keep.space) runs
stood_later a b c d runs only same readable stood =
    subst (λ (f : ℕ → Option ℕ). AreHeld f runs) (bytes_back a b c.keep.space c.keep.space only readable refl)
    (subst (λ (s : SpaceView). AreHeld (byte_at b s) runs) same.space (stood (subst (IsReadable b) (sym same.space) (readable_stays a b only c.keep.space readable))))

-- two steps, of which the second one finds nothing more that is kept
pub stood_on : (a b : Told) (c d e : CheckView) → ChangesOnly NoFile a b → SameCheck c d → e.keep ≡ d.keep → c.compared ≤ d.compared → d.compared ≤ e.compared → HasStood a c d → HasStood b d e → HasStood a c e
stood_on a b c d e only same keep low high one two readable =
    let second = stood_later a b c d (compared_since d e) only same readable two in
    subst (λ (k : KeepView). AreHeld (byte_at a c.keep.space) (drop c.compared (take e.compared k.kept))) (sym keep)
    (held_both (byte_at a c.keep.space) c.compared d.compared e.compared d.keep.kept low high (one readable)
    (subst (λ (k : KeepView). AreHeld (byte_at a c.keep.space) (drop d.compared (take e.compared k.kept))) keep second))

-- the first one compared nothing
pub stood_behind : (a b : Told) (c d e : CheckView) → ChangesOnly NoFile a b → SameCheck c d → d.compared ≡ c.compared → HasStood b d e → HasStood a c e
stood_behind a b c d e only same none two readable =
    subst (λ (n : ℕ). AreHeld (byte_at a c.keep.space) (drop n (take e.compared e.keep.kept))) none (stood_later a b c d (compared_since d e) only same readable two)

pub stood_none : (told : Told) (c d : CheckView) → d.compared ≡ c.compared → HasStood told c d
stood_none told c d none readable =
    subst (λ (n : ℕ). AreHeld (byte_at told c.keep.space) (drop n (take d.compared d.keep.kept))) none (held_none (byte_at told c.keep.space) d.compared d.keep.kept)

-- ---- what is kept is still being found

pub blames_kept : (c : CheckView) (at : ℕ) → c.stage ≡ Stage.Keeping → IsBlamedKeep c.keep at → IsBlamed c at
blames_kept c at stage blamed = subst (IsBlamedAt c at) (sym stage) blamed

pub breaks_kept : (told : Told) (space : SpaceView) (c : CheckView) (at : ℕ) → c.stage ≡ Stage.Keeping → c.keep.space ≡ space → IsBroken (records_of told space) c.keep at → IsBrokenIn told c at
breaks_kept told space c at stage same broken = subst (IsBrokenAt told c at) (sym stage) (subst (λ (s : SpaceView). IsBroken (records_of told s) c.keep at) (sym same) broken)

-- damage is the same, whatever an answer would have been
pub breaks_as : {A B : Type 0} (told : Told) (c d : CheckView) (fault : CheckFault) → Breaks {A = B} told c d (Err fault) → Breaks {A = A} told c d (Err fault)
breaks_as {A} {B} told c d fault breaks readable at is = breaks readable at (blamed_as {A = A} {B = B} fault at is)

-- ---- no verdict is there

comparing_open : (place : ℕ) (told : Option Difference) → Stage.Comparing place ≡ Stage.Through told → ⊥
comparing_open place told is = absurd (cc is)

keeping_open : (told : Option Difference) → Stage.Keeping ≡ Stage.Through told → ⊥
keeping_open told is = absurd (cc is)

pub open_comparing : (stage : Stage) (place : ℕ) → stage ≡ Stage.Comparing place → IsOpen stage
open_comparing stage place here told is = comparing_open place told (sym here ∙ is)

pub open_keeping : (stage : Stage) → stage ≡ Stage.Keeping → IsOpen stage
open_keeping stage here told is = keeping_open told (sym here ∙ is)

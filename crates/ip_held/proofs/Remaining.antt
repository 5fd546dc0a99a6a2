-- What remains of the records when a collection is accepted.
--     none_until      none lies below an end
--     until_front      those below an end are in front of all others
--     rising_from      of places that ascend, those from one of them on
--     remaining_places      where the commits lie of what remains
use Rattle.std.proofs.Common.{◌≡◌, inl, inr, ℕ, zero, suc, ◌+◌, ◌<◌, ◌≤◌, List, [], ◌∷◌, ◌++◌, Bool, true, false, Option, Some, None, cond, drop, refl, sym, ◌∙◌, ap, subst, arith}
use Rattle.std.proofs.lemmas.Bool.Decides.{nat_tests}
use Rattle.std.proofs.lemmas.List.Elements.{filter_map-append}
use Rattle.std.specs.List.{cons_option}
use Rattle.std.specs.Prelude.{filter, nat_le, nat_lt, slice_get}
use Rattle.ip_spec.specs.declared.record.Record.{Record}
use Rattle.ip_spec.specs.Record.{kind_of}
use Rattle.ip_spec.specs.TreeAt.{Records}
use Rattle.ip_image.specs.declared.slot.Slot.{Slot}
use Rattle.ip_image.specs.Standing.{AreGood}
use Rattle.ip_image.specs.Collected.{from, remaining}
use Rattle.ip_image.proofs.PairLaws.{Has, Rises}
use Rattle.ip_image.proofs.StayingRecords.{good_both}
use Rattle.ip_held.specs.Collecting.{until}
use Rattle.ip_held.specs.Placed.{place_of, places_in, AreRising}

-- ---- below an end

pub none_until : (end : ℕ) (records : Records) → ((x : ℕ × Record) → Has records x → end ≤ x.0) → until end records ≡ []
none_until end [] high = refl
none_until end (x ∷ records) high = by (nat_lt x.0 end) refl (none_until end records (λ y has. high y (inr has)))
  where
    by : (b : Bool) → nat_lt x.0 end ≡ b → until end records ≡ [] → until end (x ∷ records) ≡ []
    by true is rest = let low = high x (inl refl) in absurd (grind (arith, nat_tests))
    by false is rest = (λ i. cond (is i) (x ∷ until end records) (until end records)) ∙ rest

pub until_front : (end : ℕ) (records : Records) → Rises records → (since : Records) × (records ≡ until end records ++ since) × ((x : ℕ × Record) → Has since x → end ≤ x.0)
until_front end [] rise = ([], refl, λ x has. absurd has)
until_front end (x ∷ records) rise = by (nat_lt x.0 end) refl (until_front end records rise.1)
  where
    Front : Records → Records → Type 0
    Front all front = (since : Records) × (all ≡ front ++ since) × ((y : ℕ × Record) → Has since y → end ≤ y.0)

    by : (b : Bool) → nat_lt x.0 end ≡ b → Front records (until end records) → Front (x ∷ records) (until end (x ∷ records))
    by true is rest = (rest.0, ap (λ (rs : Records). x ∷ rs) rest.1 ∙ (λ i. cond (sym is i) (x ∷ until end records) (until end records) ++ rest.0), rest.2)
    by false is rest =
        let low : end ≤ x.0 = grind (arith, nat_tests) in
        let high : (y : ℕ × Record) → Has (x ∷ records) y → end ≤ y.0 =
        (λ y has. elim has [ inl same ↦ subst (λ (z : ℕ × Record). end ≤ z.0) same low | inr there ↦ (let above = rise.0 y there in omega (arith, low, above)) ]) in
        (x ∷ records, sym (ap (λ (rs : Records). rs ++ x ∷ records) (none_until end (x ∷ records) high)), high)

-- ---- the places of commits

-- of the places from one on
from_places : (h : ℕ) (records : Records) → places_in (from h records) ≡ filter (nat_le h) (places_in records)
from_places h [] = refl
from_places h ((at, r) ∷ records) = by r (from_places h records)
  where
    Is : Record → Type 0
    Is r = places_in (from h ((at, r) ∷ records)) ≡ filter (nat_le h) (places_in ((at, r) ∷ records))

    -- of one that is no commit
    none : (r : Record) → place_of (at, r) ≡ None → places_in (from h records) ≡ filter (nat_le h) (places_in records) → Is r
    none r nowhere rest = test (nat_le h at) ∙ rest ∙ ap (λ (o : Option ℕ). filter (nat_le h) (cons_option o (places_in records))) (sym nowhere)
      where
        test : (b : Bool) → places_in (cond b ((at, r) ∷ from h records) (from h records)) ≡ places_in (from h records)
        test true = ap (λ (o : Option ℕ). cons_option o (places_in (from h records))) nowhere
        test false = refl

    by : (r : Record) → places_in (from h records) ≡ filter (nat_le h) (places_in records) → Is r
    by (Record.Commit c) rest = test (nat_le h at)
      where
        test : (b : Bool) → places_in (cond b ((at, Record.Commit c) ∷ from h records) (from h records)) ≡ cond b (at ∷ filter (nat_le h) (places_in records)) (filter (nat_le h) (places_in records))
        test true = ap (λ (ps : List ℕ). at ∷ ps) rest
        test false = rest
    by (Record.Contents bytes) rest = none (Record.Contents bytes) refl rest
    by (Record.Leaf es) rest = none (Record.Leaf es) refl rest
    by (Record.Inode depth cs) rest = none (Record.Inode depth cs) refl rest
    by (Record.BranchSet n name) rest = none (Record.BranchSet n name) refl rest
    by (Record.BranchRemove name) rest = none (Record.BranchRemove name) refl rest
    by (Record.BranchTable rows) rest = none (Record.BranchTable rows) refl rest
    by (Record.TagSet n name) rest = none (Record.TagSet n name) refl rest
    by (Record.TagRemove name) rest = none (Record.TagRemove name) refl rest
    by (Record.TagTable rows) rest = none (Record.TagTable rows) refl rest

rising_all : (h low : ℕ) (places : List ℕ) → h ≤ low → AreRising low places → filter (nat_le h) places ≡ places
rising_all h low [] le rising = refl
rising_all h low (at ∷ places) le rising = by (nat_le h at) refl (rising_all h (at + 1) places (let first = rising.0 in omega (arith, le, first)) rising.1)
  where
    by : (b : Bool) → nat_le h at ≡ b → filter (nat_le h) places ≡ places → filter (nat_le h) (at ∷ places) ≡ at ∷ places
    by true is rest = (λ i. cond (is i) (at ∷ filter (nat_le h) places) (filter (nat_le h) places)) ∙ ap (λ (ps : List ℕ). at ∷ ps) rest
    by false is rest = let first = rising.0 in absurd (grind (arith, nat_tests))

rising_high : (low : ℕ) (places : List ℕ) (k h : ℕ) → AreRising low places → slice_get places k ≡ Some h → low ≤ h
rising_high low [] k h rising e = absurd (cc (e))
rising_high low (at ∷ places) zero h rising e = let same : at ≡ h = cc (e) in let first = rising.0 in omega (arith, first, same)
rising_high low (at ∷ places) (suc k) h rising e = let later = rising_high (at + 1) places k h rising.1 e in let first = rising.0 in omega (arith, first, later)

pub rising_from : (low : ℕ) (places : List ℕ) (k h : ℕ) → AreRising low places → slice_get places k ≡ Some h → filter (nat_le h) places ≡ drop k places
rising_from low [] k h rising e = absurd (cc (e))
rising_from low (at ∷ places) zero h rising e = let same : at ≡ h = cc (e) in rising_all h h (at ∷ places) (omega arith) (omega (arith, same), rising.1)
rising_from low (at ∷ places) (suc k) h rising e = by (nat_le h at) refl (rising_from (at + 1) places k h rising.1 e)
  where
    by : (b : Bool) → nat_le h at ≡ b → filter (nat_le h) places ≡ drop k places → filter (nat_le h) (at ∷ places) ≡ drop (suc k) (at ∷ places)
    by true is rest = let later = rising_high (at + 1) places k h rising.1 e in absurd (grind (arith, nat_tests))
    by false is rest = (λ i. cond (is i) (at ∷ filter (nat_le h) places) (filter (nat_le h) places)) ∙ rest

-- below the horizon of a live generation there are none
none_below : (s : Slot) (before records : Records) → AreGood s before records → ((x : ℕ × Record) → Has records x → x.0 < s.horizon) → places_in records ≡ []
none_below s before [] good below = refl
none_below s before ((at, r) ∷ records) good below = (let low = good.0.kept_kind (below (at, r) (inl refl)) in by r low) ∙ none_below s (before ++ (at, r) ∷ []) records good.1 (λ y has. below y (inr has))
  where
    by : (r : Record) → kind_of r ≤ 3 → places_in ((at, r) ∷ records) ≡ places_in records
    by (Record.Contents bytes) low = refl
    by (Record.Leaf es) low = refl
    by (Record.Inode depth cs) low = refl
    by (Record.Commit c) low = absurd (omega (arith, low))
    by (Record.BranchSet n name) low = refl
    by (Record.BranchRemove name) low = refl
    by (Record.BranchTable rows) low = refl
    by (Record.TagSet n name) low = refl
    by (Record.TagRemove name) low = refl
    by (Record.TagTable rows) low = refl

pub remaining_places : (t : Slot) (h k low : ℕ) (kept records : Records) → t.horizon ≡ h → AreGood t [] (remaining h kept records) → ((x : ℕ × Record) → Has kept x → x.0 < h)
    → AreRising low (places_in records) → slice_get (places_in records) k ≡ Some h → drop k (places_in records) ≡ places_in (remaining h kept records)
remaining_places t h k low kept records horizon good below rising here =
    sym (filter_map-append place_of kept (from h records)
    ∙ ap (λ (ps : List ℕ). ps ++ places_in (from h records)) (none_below t [] kept (good_both t [] kept (from h records) good).0 (λ x has. (let under = below x has in omega (arith, under, horizon))))
    ∙ from_places h records ∙ rising_from low (places_in records) k h rising here)

-- The walk over records, step by step.
--     good_push, named_push      one good record behind those before it
--     takes_good      a record that the audit took.      beyond_push, beyond_up      offsets ascend
use Rattle.std.proofs.Common.{◌≡◌, ℕ, ◌<◌, ◌≤◌, inl, inr, List, [], ◌∷◌, ◌++◌, sym, ◌∙◌, ap, subst, arith, append_assoc, append-nil}
use Rattle.std.proofs.lemmas.List.Elements.{filter_map-append}
use Rattle.std.proofs.lemmas.List.Sums.{fold-append}
use Rattle.std.proofs.lemmas.Bool.{cases_lt}
use Rattle.std.specs.List.{AllByRecursion}
use Rattle.ip_spec.specs.declared.record.Record.{Record}
use Rattle.ip_spec.specs.declared.record.Record.TheVariants as Record
use Rattle.ip_spec.specs.Record.{Names, Fits, kind_of}
use Rattle.ip_spec.specs.TreeAt.{Records}
use Rattle.ip_image.specs.declared.slot.Slot.{Slot}
use Rattle.ip_image.specs.declared.terms.Terms.{Terms}
use Rattle.ip_image.specs.Standing.{terms_of, RecordFits, IsGood, AreGood, named, names_after}
use Rattle.ip_audit.specs.Audits.{Audited, IsBeyond}
use Rattle.ip_opens.specs.declared.walk.Found.{Found}
use Rattle.ip_history.specs.History.{History, HasParentsFirst}
use Rattle.ip_tables.specs.Histories.{history_after, RecordEnters}
use Rattle.ip_held.specs.Placed.{place_of, places_in, AreRising}
use Rattle.ip_opens.specs.Walk.{MayStand, Tells}
use Rattle.ip_held.proofs.BranchNames.{placed_within}
use Rattle.ip_held.proofs.Going.{rising_push, highs}
use Rattle.ip_held.proofs.Histories.{after_record, first_after}

-- ---- one record more

pub good_push : (s : Slot) (pre before : Records) (x : ℕ × Record) → AreGood s pre before → IsGood s (pre ++ before) x → AreGood s pre (before ++ x ∷ [])
good_push s pre [] x good one = (subst (λ (bs : Records). IsGood s bs x) (append-nil pre) one, tt)
good_push s pre (y ∷ before) x good one = (good.0, good_push s (pre ++ y ∷ []) before x good.1 (subst (λ (bs : Records). IsGood s bs x) (sym (append_assoc pre (y ∷ []) before)) one))

pub named_push : (names : Names) (before : Records) (x : ℕ × Record) → named names (before ++ x ∷ []) ≡ names_after names (named names before) x.1
named_push names before x = fold-append _ _ before (x ∷ [])

pub beyond_push : (at to : ℕ) (before : Records) (r : Record) → at < to → IsBeyond at before → IsBeyond to (before ++ (at, r) ∷ [])
beyond_push at to [] r later beyond = (later, tt)
beyond_push at to (x ∷ before) r later beyond = (let b = beyond.0 in omega (arith, b, later), beyond_push at to before r later beyond.1)

pub beyond_up : (at to : ℕ) (before : Records) → at ≤ to → IsBeyond at before → IsBeyond to before
beyond_up at to [] later beyond = tt
beyond_up at to (x ∷ before) later beyond = (let b = beyond.0 in omega (arith, b, later), beyond_up at to before later beyond.1)

pub is_good : (s : Slot) (before : Records) (at : ℕ) (r : Record) → Fits s.version r → MayStand s at r → RecordFits (terms_of s) before at r → IsGood s before (at, r)
is_good s before at r fits may good = record { bounds = fits; served = may.served; kept_kind = may.kept_kind; first = may.first; fits = good }

-- a commit's record lies from the horizon on
rising_record : (h at : ℕ) (r : Record) (places : List ℕ) → (at < h → kind_of r ≤ 3) → AllByRecursion (λ p. p < at) places → AreRising h places → AreRising h (places ++ places_in ((at, r) ∷ []))
rising_record h at (Record.Commit c) places kind below is = rising_push h at at places (elim (cases_lt at h) [ inl low ↦ (let few = kind low in absurd (omega (arith, few))) | inr from ↦ from ]) (omega arith) below is
rising_record h at (Record.Contents bytes) places kind below is = subst (AreRising h) (sym (append-nil places)) is
rising_record h at (Record.Leaf es) places kind below is = subst (AreRising h) (sym (append-nil places)) is
rising_record h at (Record.Inode depth cs) places kind below is = subst (AreRising h) (sym (append-nil places)) is
rising_record h at (Record.BranchSet n name) places kind below is = subst (AreRising h) (sym (append-nil places)) is
rising_record h at (Record.BranchRemove name) places kind below is = subst (AreRising h) (sym (append-nil places)) is
rising_record h at (Record.BranchTable rows) places kind below is = subst (AreRising h) (sym (append-nil places)) is
rising_record h at (Record.TagSet n name) places kind below is = subst (AreRising h) (sym (append-nil places)) is
rising_record h at (Record.TagRemove name) places kind below is = subst (AreRising h) (sym (append-nil places)) is
rising_record h at (Record.TagTable rows) places kind below is = subst (AreRising h) (sym (append-nil places)) is

module _ (s : Slot) (before : Records) (at : ℕ) (r : Record) (old new : Found) (fits : Fits s.version r) (may : MayStand s at r) (tells : Tells s old before) (beyond : IsBeyond at before) where
  pub takes_good : RecordFits old.audit.terms before at r → Audited new.audit (before ++ (at, r) ∷ []) → new.audit.terms ≡ old.audit.terms
      → new.places ≡ old.places ++ places_in ((at, r) ∷ []) → new.branches ≡ names_after Names.branches old.branches r → RecordEnters old.history r → new.history ≡ history_after old.history r → IsGood s before (at, r) × Tells s new (before ++ (at, r) ∷ [])
  takes_good good audited terms places branches enters history =
      let one : IsGood s before (at, r) = is_good s before at r fits may (subst (λ (t : Terms). RecordFits t before at r) tells.terms good) in (
        one,
        record {
          good = good_push s [] before (at, r) tells.good one;
          audited = audited;
          terms = terms ∙ tells.terms;
          places = places ∙ ap (λ (ps : List ℕ). ps ++ places_in ((at, r) ∷ [])) tells.places ∙ sym (filter_map-append place_of before ((at, r) ∷ []));
          branches = branches ∙ ap (λ m. names_after Names.branches m r) tells.branches ∙ sym (named_push Names.branches before (at, r));
          history = history ∙ ap (λ (h : History). history_after h r) tells.history ∙ after_record s.floor before at r;
          parents_first = subst HasParentsFirst (sym history) (first_after old.history r tells.parents_first enters);
          rising = subst (AreRising s.horizon) (sym places) (rising_record s.horizon at r old.places may.kept_kind
              (subst (AllByRecursion (λ p. p < at)) (sym tells.places) (highs s.horizon at (places_in before) (placed_within s at before tells.good beyond))) tells.rising);
        },
      )

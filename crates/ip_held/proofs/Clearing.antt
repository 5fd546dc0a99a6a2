-- What was cleared away stays so over calls, and behind a sweep that left nothing all is.
--     SparesBelow u these      none of these files lies below what is unswept.      spares_none, spares_swept, spares_both, spares_step      so it is of no file, of those that a sweep removes, with the control file too, and of those of a durable step
--     still_clear      what was cleared away is so still, where other files change, and the custody of one attempt that is not below what is unswept.      all_clear      and where all is gone that a sweep removes
--     clear_swept, clear_by      then the next slot may say that all is swept
--     IsCarrying u t      a slot says what was unswept.
--     looked_clear      of a store that only looked.      changed_clear      behind a durable step
use Rattle.std.proofs.Common.{◌≡◌, ◌≢◌, ◌⊎◌, inl, inr, ℕ, ◌/◌, ◌<◌, ◌≤◌, true, false, None, refl, sym, ◌∙◌, ap, subst, arith}
use Rattle.std.specs.Prelude.{Bool, ◌==◌, if◌then◌else◌, false, ◌/◌, ◌≤◌}
use Rattle.std.proofs.lemmas.Bool.{cases_lt}
use Rattle.std.proofs.lemmas.Bool.Decides.{nat_tests}
use Rattle.ip_ground.specs.declared.names.FileName.{FileName}
use Rattle.ip_ground.specs.declared.names.FileName.TheVariants.{Control, Chunk, Prefix, Mapping, Done}
use Rattle.ip_ground.specs.Contents.{Image}
use Rattle.ip_ground.specs.Custody as custody
use Rattle.ip_ground.specs.Custody.{Custody, IsOfAttempt}
use Rattle.ip_ground.specs.Told.{Told, lending, IsForeign, NoFile, ChangesOnly}
use Rattle.ip_ground.proofs.Lending.{of_attempt}
use Rattle.ip_ground.proofs.Spans.{lending_now}
use Rattle.ip_spec.specs.Repository.{Repository}
use Rattle.ip_image.specs.declared.slot.Slot.{Slot}
use Rattle.ip_image.specs.Slot.{IsSlot}
use Rattle.ip_image.proofs.HeadlineLaws.{one_slot}
use Rattle.ip_chunks.proofs.Borders.{some_size, chunk_up}
use Rattle.ip_held.specs.declared.collection.Unswept.{Unswept}
use Rattle.ip_held.specs.declared.held.Held.{Held}
use Rattle.ip_held.specs.Clear.{IsClear, IsClearTo, IsCleared, IsLiveFile, KeepsClear}
use Rattle.ip_publish.specs.Publishing.{MayChange}
use Rattle.ip_held.specs.Held.{Holds}
use Rattle.ip_held.specs.Sweeping.{ChangesBeside, IsSwept, swept_to}
use Rattle.ip_held.proofs.Apart.{beside_only}
use Rattle.ip_held.proofs.KeptFiles.{one_attempt, keeps_store, nothing_else}
use Rattle.ip_held.proofs.Recovering.{held_has}
use Rattle.ip_held.proofs.Stepping.{of_store}

-- ---- files

pub record SparesBelow (u : Unswept) (these : FileName → Type 0) : Type 0 where
  pub chunks : (number : ℕ) → number < u.chunk → ¬ these (Chunk number)
  pub files : (attempt : ℕ) (file : FileName) → attempt < u.attempt → IsOfAttempt attempt file → ¬ these file

pub spares_none : (u : Unswept) → SparesBelow u NoFile
spares_none u = record { chunks = λ number low none. none; files = λ attempt file low of none. none }

not_control : (attempt : ℕ) (file : FileName) → IsOfAttempt attempt file → ¬ (file ≡ Control)
not_control attempt file of is = subst (IsOfAttempt attempt) is of

not_swept : (s : Slot) (u : Unswept) (attempt : ℕ) (file : FileName) → attempt < u.attempt → IsOfAttempt attempt file → ¬ IsSwept s u file
not_swept s u attempt Control low of swept = swept
not_swept s u attempt (Chunk n) low of swept = of
not_swept s u attempt (Prefix n) low of swept = (let from = swept.0.0 in omega (arith, low, of, from))
not_swept s u attempt (Mapping n) low of swept = (let from = swept.0.0 in omega (arith, low, of, from))
not_swept s u attempt (Done n) low of swept = (let from = swept.0 in omega (arith, low, of, from))

pub spares_swept : (s : Slot) (u : Unswept) → SparesBelow u (IsSwept s u)
spares_swept s u = record { chunks = λ number low swept. (let from = swept.0 in omega (arith, low, from)); files = not_swept s u }

pub spares_both : (s : Slot) (u : Unswept) → SparesBelow u (λ file. (file ≡ Control) ⊎ IsSwept s u file)
spares_both s u = record {
  chunks = λ number low these. elim these [ inl is ↦ cc (is) | inr swept ↦ (let from = swept.0 in omega (arith, low, from)) ];
  files = λ attempt file low of these. elim these [ inl is ↦ not_control attempt file of is | inr swept ↦ not_swept s u attempt file low of swept ];
}

module _ (store : Held) (r : Repository) (a : Told) (held : Holds store a r) where
  below_end : (number at : ℕ) → number < store.unswept.chunk → store.slot.end ≤ at → Chunk number ≡ Chunk (at / store.slot.chunk) → ⊥
  below_end number at low from is =
      let same : number ≡ at / store.slot.chunk = cc (is) in
      let less = held.tables.unswept.chunk in
      let above = held.tables.slot.horizon in
      let up = chunk_up store.slot.chunk (some_size store.slot.chunk held.tables.slot.chunk) store.slot.horizon at (omega (arith, above, from)) in
      omega (arith, low, same, less, up)

  spares_step : SparesBelow store.unswept (MayChange a.held)
  spares_step = record {
    chunks = λ number low these. elim these [
      | inl is ↦ cc (is)
      | inr far ↦
          let (s, has, chunk) = far in
          let (at, from, is) = chunk in
          let same = one_slot s store.slot a.held has (held_has store r a held) in
          below_end number at low (subst (λ (v : Slot). v.end ≤ at) same from) (subst (λ (v : Slot). Chunk number ≡ Chunk (at / v.chunk)) same is)
    ];
    files = λ attempt file low of these. elim these [
      | inl is ↦ not_control attempt file of is
      | inr far ↦ subst (IsOfAttempt attempt) far.2.2 of
    ];
  }

-- ---- what is cleared

module _ (s t : Slot) (u : Unswept) (n : ℕ) (these : FileName → Type 0) (a b : Told) (clear : IsClearTo s u a.held (lending a)) (spares : SparesBelow u these) (drawn : u.attempt ≤ n) (changes : ChangesBeside n these a b)
    (chunk : t.first_chunk ≤ u.chunk) (attempt : t.first_attempt ≤ u.attempt) where
  files_still : (m : ℕ) (file : FileName) → 1 ≤ m → m < u.attempt → IsOfAttempt m file → ¬ custody.IsForeign (lending b m) → b.held file ≡ None
  files_still m file low below of own =
      let same : lending b m ≡ lending a m = lending_now a b changes.goes m (changes.lending m (λ is. omega (arith, is, below, drawn))) in
      let mine : ¬ custody.IsForeign (lending a m) = λ foreign. own (subst custody.IsForeign (sym same) foreign) in
      let stays = changes.others file (spares.files m file below of) (λ other. (let is = one_attempt m n file of other in omega (arith, is, below, drawn))) in
      stays.held (λ foreign. mine (subst custody.IsForeign (of_attempt (lending a) m file of) foreign)) ∙ clear.files m file low below of mine

  pub still_clear : IsClearTo t u b.held (lending b)
  still_clear = record {
    chunk = chunk;
    attempt = attempt;
    chunks = λ number low. (changes.others (Chunk number) (spares.chunks number low) (λ no. no)).held (λ no. no) ∙ clear.chunks number low;
    files = files_still;
  }

  -- whether one of the files is the live pair's or not, what is none of it is swept
  is_swept : (m : ℕ) (file : FileName) → 1 ≤ m → u.attempt ≤ m → m < t.next_attempt → IsOfAttempt m file → ¬ IsLiveFile t file → IsSwept t u file
  is_swept m Control low from high of not = absurd of
  is_swept m (Chunk k) low from high of not = absurd of
  is_swept m (Prefix k) low from high of not = ((omega (arith, from, of), omega (arith, high, of)), λ live. not (λ none. omega (arith, low, of, live, none), inl (ap Prefix live)))
  is_swept m (Mapping k) low from high of not = ((omega (arith, from, of), omega (arith, high, of)), λ live. not (λ none. omega (arith, low, of, live, none), inr (ap Mapping live)))
  is_swept m (Done k) low from high of not = (omega (arith, from, of), omega (arith, high, of))

  pub all_clear : ((file : FileName) → IsSwept t u file → ¬ IsForeign b file → b.held file ≡ None) → IsClear t b.held (lending b)
  all_clear gone = record {
    chunks = λ number below. elim (cases_lt number u.chunk) [ inl low ↦ still_clear.chunks number low | inr from ↦ gone (Chunk number) (from, below) (λ no. no) ];
    files = λ m file low high of own not. elim (cases_lt m u.attempt) [
      | inl below ↦ files_still m file low below of own
      | inr from ↦ gone file (is_swept m file low from high of not) (λ foreign. own (subst custody.IsForeign (of_attempt (lending b) m file of) foreign))
    ];
  }

pub zero_is : (n : ℕ) → (n == 0) ≡ true → n ≡ 0
zero_is n is = grind (arith, nat_tests)

-- ---- behind a sweep

live_is : (s : Slot) (m : ℕ) (file : FileName) → IsOfAttempt m file → IsLiveFile s file → m ≡ s.live
live_is s m file of (some, inl is) = sym (subst (IsOfAttempt m) is of)
live_is s m file of (some, inr is) = sym (subst (IsOfAttempt m) is of)

module _ (s : Slot) (of : IsSlot s) where
  first_below : (b : Bool) → (s.live == 0) ≡ b → s.first_attempt ≤ (if b then s.next_attempt else s.live)
  first_below true is = of.first_attempt_high
  first_below false is = of.first_attempt_live (λ (none : s.live ≡ 0). grind (arith, nat_tests))

  drawn_below : (m : ℕ) (b : Bool) → (s.live == 0) ≡ b → 1 ≤ m → m < (if b then s.next_attempt else s.live) → (m < s.next_attempt) × (m ≢ s.live)
  drawn_below m true is low below = (below, λ same. (let none = zero_is s.live is in omega (arith, low, same, none)))
  drawn_below m false is low below = (let less = of.live in omega (arith, below, less), λ same. omega (arith, below, same))

  pub clear_swept : (image : Image) (whose : ℕ → Custody) → IsClear s image whose → IsClearTo s (swept_to s) image whose
  clear_swept image whose clear = record {
    chunk = of.first_chunk;
    attempt = first_below (s.live == 0) refl;
    chunks = clear.chunks;
    files = λ m file low below is own. (let drawn = drawn_below m (s.live == 0) refl low below in clear.files m file low drawn.0 is own (λ live. drawn.1 (live_is s m file is live)));
  }

  clear_if : (u : Unswept) (image : Image) (whose : ℕ → Custody) (b : Bool) → IsClearTo s u image whose → (b ≡ true → IsClear s image whose) → IsClearTo s (if b then swept_to s else u) image whose
  clear_if u image whose true clear all = clear_swept image whose (all refl)
  clear_if u image whose false clear all = clear

  pub clear_by : (u : Unswept) (left : ℕ) (image : Image) (whose : ℕ → Custody) → IsClearTo s u image whose → (left ≡ 0 → IsClear s image whose) → IsClearTo s (if left == 0 then swept_to s else u) image whose
  clear_by u left image whose clear all = clear_if u image whose (left == 0) clear (λ is. all (zero_is left is))

-- ---- calls that sweep nothing

pub at_least : (m n : ℕ) → m ≡ n → m ≤ n
at_least m n is = omega (arith, is)

-- the slot says what was unswept
abbrev pub IsCarrying : Unswept → Slot → Type 0
IsCarrying u t = (t.first_chunk ≡ u.chunk) × (t.first_attempt ≡ u.attempt)

-- the slot and what is unswept stay, and the files and custodies that it speaks of
pub stays_clear : (store now : Held) (n : ℕ) (a b : Told) → now.slot ≡ store.slot → now.unswept ≡ store.unswept → store.unswept.attempt ≤ n → ChangesBeside n NoFile a b → KeepsClear store now a b
stays_clear store now n a b slot same drawn changes clear =
    subst (λ (t : Slot). IsClearTo t now.unswept b.held (lending b)) (sym slot) (subst (λ (v : Unswept). IsClearTo store.slot v b.held (lending b)) (sym same)
    (still_clear store.slot store.slot store.unswept n NoFile a b clear (spares_none store.unswept) drawn changes clear.chunk clear.attempt))

pub looked_clear : (store now : Held) (a b : Told) → now.slot ≡ store.slot → now.unswept ≡ store.unswept → ChangesOnly NoFile a b → KeepsClear store now a b
looked_clear store now a b slot same only = stays_clear store now store.unswept.attempt a b slot same (omega arith) (beside_only store.unswept.attempt NoFile a b only (nothing_else a b only))

module _ (store : Held) (r : Repository) (a b : Told) (held : Holds store a r) (t : Slot) (v : Unswept) (carries : IsCarrying store.unswept t) (same : v ≡ store.unswept) where
  pub carried_clear : (n : ℕ) → store.unswept.attempt ≤ n → ChangesBeside n (MayChange a.held) a b → IsCleared store a → IsClearTo t v b.held (lending b)
  carried_clear n drawn changes clear =
      subst (λ (w : Unswept). IsClearTo t w b.held (lending b)) (sym same)
      (still_clear store.slot t store.unswept n (MayChange a.held) a b clear (spares_step store r a held) drawn changes (at_least t.first_chunk store.unswept.chunk carries.0) (at_least t.first_attempt store.unswept.attempt carries.1))

  pub changed_clear : ChangesOnly (MayChange a.held) a b → IsCleared store a → IsClearTo t v b.held (lending b)
  changed_clear only = carried_clear store.unswept.attempt (omega arith) (beside_only store.unswept.attempt (MayChange a.held) a b only (keeps_store a b (MayChange a.held) (of_store a.held) only))

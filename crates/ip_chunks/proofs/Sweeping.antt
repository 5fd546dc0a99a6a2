-- Chunks are removed one after another, by their numbers.
use Rattle.std.proofs.Common.{◌≡◌, ◌⊎◌, ℕ, ◌+◌, ◌<◌, ◌≤◌, List, [], ◌∷◌, ◌++◌, length, None, true, false, inl, inr, refl, sym, ◌∙◌, subst, arith, length-append}
use Rattle.std.specs.Prelude.{Result, Ok, Err, OnErr, Contains, is_err}
use Rattle.std.proofs.lemmas.Bool.{true≢false, cases_lt, cases_eq}
use Rattle.std.proofs.lemmas.List.Elements.{Contains-append_left, Contains-push}
use Rattle.ip_ground.specs.declared.names.FileName.TheVariants.{Chunk}
use Rattle.ip_ground.specs.declared.names.GroundFault.{GroundFault}
use Rattle.ip_ground.specs.Contents.{Content}
use Rattle.ip_ground.specs.Counts.{Noted, Rose, RoseBy, RemoveFault, CountsAs, CountsLeft}
use Rattle.ip_ground.specs.Told.{Told, ChangesLeft, KeepsFile, Only, ChangesOnly}
use Rattle.ip_ground.specs.Calls.{Removes}
use Rattle.ip_ground.proofs.Spans.{only_more, only_on}
use Rattle.ip_chunks.specs.Places.{IsBetween, IsChunkNumbered}
use Rattle.ip_chunks.specs.Effects.{Sweeps}
use Rattle.ip_chunks.proofs.Pieces.{steps_on}

-- what a removal may leave of a content
abbrev Gone : Content → Content → Type 0
Gone before content = (content ≡ before) ⊎ (content ≡ None)

gone_twice : (x y z : Content) → Gone x y → Gone y z → Gone x z
gone_twice x y z first (inr gone) = inr gone
gone_twice x y z (inl same) (inl still) = inl (still ∙ same)
gone_twice x y z (inr gone) (inl still) = inr (still ∙ gone)

-- all of these are absent but so many
abbrev AllBut : ℕ → ℕ → ℕ → Told → Type 0
AllBut from to left told = (those : List ℕ) × (length those ≡ left) × ((number : ℕ) → IsBetween from to number → (told.held (Chunk number) ≡ None) ⊎ Contains those number)

none_but : (from to left : ℕ) (told : Told) → AllBut from to left told → left ≡ 0 → (number : ℕ) → IsBetween from to number → told.held (Chunk number) ≡ None
none_but from to left told all none number between = elim (all.2 number between) [
  | inl gone ↦ gone
  | inr one ↦ absurd (omega (arith, one.1, all.1, none))
]

module _ (from next left : ℕ) (within : from ≤ next) (a b c : Told) (before : Sweeps from next left a b) (r : Result (Unit {0}) GroundFault) (removes : Removes (Chunk next) r b c) where
  apart : (number : ℕ) → (number ≡ next → ⊥) → ¬ Only (Chunk next) (Chunk number)
  apart number differ is = differ (cc (is))

  not_before : ¬ IsChunkNumbered from next (Chunk next)
  not_before is = let same : is.0 ≡ next = cc (is.2) in absurd (omega (arith, same, is.1.1))

  earlier : (number : ℕ) → IsBetween from (next + 1) number → (number ≡ next → ⊥) → IsBetween from next number
  earlier number between differ = (between.0, omega (arith, between.1, differ))

  only : ChangesOnly (IsChunkNumbered from (next + 1)) a c
  only =
      only_on a b c (IsChunkNumbered from (next + 1)) (only_more a b (IsChunkNumbered from next) (IsChunkNumbered from (next + 1)) (λ file is. (is.0, (is.1.0, omega (arith, is.1.1)), is.2)) before.only)
      (only_more b c (Only (Chunk next)) (IsChunkNumbered from (next + 1)) (λ file is. (next, (within, omega arith), is)) removes.only)

  -- the others are as they were, and this one was as it was
  others_held : (number : ℕ) → (number ≡ next → ⊥) → c.held (Chunk number) ≡ b.held (Chunk number)
  others_held number differ = (removes.only.others (Chunk number) (apart number differ)).held (λ x. x)

  was_held : b.held (Chunk next) ≡ a.held (Chunk next)
  was_held = (before.only.others (Chunk next) not_before).held (λ x. x)

  held_so : (s : Result (Unit {0}) GroundFault) → Removes (Chunk next) s b c → Gone (b.held (Chunk next)) (c.held (Chunk next))
  held_so (Ok u) done = inr (done.ok (λ x. x))
  held_so (Err e) failed = failed.err (λ x. x)

  gone_so : (s : Result (Unit {0}) GroundFault) → is_err s ≡ false → Removes (Chunk next) s b c → c.held (Chunk next) ≡ None
  gone_so (Ok u) is done = done.ok (λ x. x)
  gone_so (Err e) is failed = absurd (true≢false is)

  same : (number : ℕ) → IsBetween from (next + 1) number → Gone (a.held (Chunk number)) (c.held (Chunk number))
  same number between = elim (cases_eq number next) [
    | inl it ↦
        subst (λ (n : ℕ). Gone (a.held (Chunk n)) (c.held (Chunk n))) (sym it) (gone_twice (a.held (Chunk next)) (b.held (Chunk next)) (c.held (Chunk next)) (inl was_held) (held_so r removes))
    | inr differ ↦ gone_twice (a.held (Chunk number)) (b.held (Chunk number)) (c.held (Chunk number)) (before.same number (earlier number between differ)) (inl (others_held number differ))
  ]

  stays_left : (x y : Told) → KeepsFile x y (Chunk next) → ChangesLeft Gone x y (Chunk next)
  stays_left x y stays moment content after le may = (content, stays.left (λ z. z) moment content after le may, inl refl)

  other_left : (number : ℕ) → (number ≡ next → ⊥) → ChangesLeft Gone b c (Chunk number)
  other_left number differ moment content after le may = (content, (removes.only.others (Chunk number) (apart number differ)).left (λ z. z) moment content after le may, inl refl)

  both_left : (number : ℕ) → ChangesLeft Gone a b (Chunk number) → ChangesLeft Gone b c (Chunk number) → ChangesLeft Gone a c (Chunk number)
  both_left number first then = steps_on a b c (Chunk number) Gone (λ x. inl refl) gone_twice before.only.goes removes.only.goes first then

  crash : (number : ℕ) → IsBetween from (next + 1) number → ChangesLeft Gone a c (Chunk number)
  crash number between = elim (cases_eq number next) [
    | inl it ↦ subst (λ (n : ℕ). ChangesLeft Gone a c (Chunk n)) (sym it) (both_left next (stays_left a b (before.only.others (Chunk next) not_before)) (removes.left (λ x. x)))
    | inr differ ↦ both_left number (before.crash number (earlier number between differ)) (other_left number differ)
  ]

  swept : (now : ℕ) → AllBut from (next + 1) now c → Sweeps from (next + 1) now a c
  swept now all = record { only = only; none_left = none_but from (next + 1) now c all; all_but = all; same = same; crash = crash }

  -- where it was removed
  pub sweeps_one : is_err r ≡ false → Sweeps from (next + 1) left a c
  sweeps_one removed = swept left (before.all_but.0, before.all_but.1, each)
    where
      each : (number : ℕ) → IsBetween from (next + 1) number → (c.held (Chunk number) ≡ None) ⊎ Contains before.all_but.0 number
      each number between = elim (cases_eq number next) [
        | inl it ↦ inl (subst (λ (n : ℕ). c.held (Chunk n) ≡ None) (sym it) (gone_so r removed removes))
        | inr differ ↦ elim (before.all_but.2 number (earlier number between differ)) [ inl gone ↦ inl (others_held number differ ∙ gone) | inr one ↦ inr one ]
      ]

  -- and where it may have been left
  pub sweeps_but_one : Sweeps from (next + 1) (left + 1) a c
  sweeps_but_one = swept (left + 1) (those, omega (arith, length-append before.all_but.0 (next ∷ []), before.all_but.1), each)
    where
      those : List ℕ
      those = before.all_but.0 ++ next ∷ []

      each : (number : ℕ) → IsBetween from (next + 1) number → (c.held (Chunk number) ≡ None) ⊎ Contains those number
      each number between = elim (cases_eq number next) [
        | inl it ↦ inr (subst (λ (n : ℕ). Contains those n) (sym it) (Contains-push before.all_but.0 next))
        | inr differ ↦ elim (before.all_but.2 number (earlier number between differ)) [
          | inl gone ↦ inl (others_held number differ ∙ gone)
          | inr one ↦ inr (Contains-append_left before.all_but.0 (next ∷ []) number one)
        ]
      ]

-- which of the two it was
abbrev pub Counted : Result (Unit {0}) GroundFault → ℕ → ℕ → Type 0
Counted r left now = ((is_err r ≡ false) × (now ≡ left)) ⊎ ((is_err r ≡ true) × (now ≡ left + 1))

pub sweeps_next : (from next left now : ℕ) → from ≤ next → (a b c : Told) → Sweeps from next left a b → (r : Result (Unit {0}) GroundFault) → Removes (Chunk next) r b c → Counted r left now → Sweeps from (next + 1) now a c
sweeps_next from next left now within a b c before r removes (inl gone) =
    subst (λ (n : ℕ). Sweeps from (next + 1) n a c) (sym gone.1) (sweeps_one from next left within a b c before r removes gone.0)
sweeps_next from next left now within a b c before r removes (inr lost) = subst (λ (n : ℕ). Sweeps from (next + 1) n a c) (sym lost.1) (sweeps_but_one from next left within a b c before r removes)

pub counted_few : (r : Result (Unit {0}) GroundFault) (left now : ℕ) → Counted r left now → now ≤ left + 1
counted_few r left now (inl gone) = omega (arith, gone.1)
counted_few r left now (inr lost) = omega (arith, lost.1)

-- up to where they go
pub sweeps_all : (from to next left : ℕ) (a b : Told) → to ≤ next → (from ≤ to → next ≤ to) → (to < from → next ≡ from) → Sweeps from next left a b → Sweeps from to left a b
sweeps_all from to next left a b past up none sweeps = elim (cases_lt to from) [
  | inl before ↦ record {
    only = only_more a b (IsChunkNumbered from next) (IsChunkNumbered from to) (λ file is. absurd (omega (arith, is.1.0, is.1.1, none before))) sweeps.only;
    none_left = λ zero number between. absurd (omega (arith, between.0, between.1, before));
    all_but = (sweeps.all_but.0, sweeps.all_but.1, λ number between. absurd (omega (arith, between.0, between.1, before)));
    same = λ number between. absurd (omega (arith, between.0, between.1, before));
    crash = λ number between. absurd (omega (arith, between.0, between.1, before));
  }
  | inr some ↦ let same : next ≡ to = omega (arith, past, up some) in subst (λ (n : ℕ). Sweeps from n left a b) same sweeps
]

-- the faults, counted
rose_one : (n old mid new : ℕ) → RoseBy n old mid → Rose mid new → RoseBy (n + 1) old new
rose_one n old mid new (inl by) (inl more) = inl (omega (arith, by, more))
rose_one n old mid new (inl by) (inr last) = inr last
rose_one n old mid new (inr last) (inl more) = inr (omega (arith, last, more))
rose_one n old mid new (inr last) (inr still) = inr still

pub counts_next : (r : Result (Unit {0}) GroundFault) (left now : ℕ) (old mid new : Noted) → CountsLeft left old mid → CountsAs RemoveFault r mid new → Counted r left now → CountsLeft now old new
counts_next (Ok u) left now old mid new by same (inl gone) = subst (λ (n : ℕ). CountsLeft n old new) (sym gone.1) (subst (CountsLeft left old) (sym same) by)
counts_next (Err e) left now old mid new by counted (inl gone) = absurd (true≢false gone.0)
counts_next (Ok u) left now old mid new by same (inr lost) = absurd (true≢false (sym lost.0))
counts_next (Err e) left now old mid new by counted (inr lost) = subst (λ (n : ℕ). CountsLeft n old new) (sym lost.1) (record {
  rose = rose_one left old.remove_faults mid.remove_faults new.remove_faults by.rose counted.rose;
  none = λ zero. absurd (omega (arith, zero));
  file_faults = counted.file_faults ∙ by.file_faults;
  say_faults = counted.say_faults ∙ by.say_faults;
  damages = counted.damages ∙ by.damages;
  bound = counted.bound ∙ by.bound;
})

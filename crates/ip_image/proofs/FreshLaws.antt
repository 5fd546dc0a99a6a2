-- The control file that making a store leaves, and which slots of a control file are open.
--     open_slot, open_slots      a slot is open where it is whole and its gate is open; some slot is live where one is open
--     first_slots      only the first 256 bytes count
--     is_live      slot 0 of the fresh control file is live
--     fresh_stands      the fresh control file stands for the repository without commits
use Rattle.std.proofs.Common.{◌≡◌, ℕ, ◌+◌, ◌-◌, ◌*◌, ◌<◌, ◌≤◌, min, Bool, true, false, [], length, take, drop, get_or, Option, Some, eqb, leb, refl, sym, ◌∙◌, ap, arith, length-drop}
use Rattle.std.specs.Int.{w64, from_le_bytes}
use Rattle.std.specs.Prelude.{◌&&◌, ◌||◌, ◌==◌, nat_le, is_some, slice_index, if◌then◌else◌}
use Rattle.std.proofs.lemmas.List.{length-take, get_or-take, get_or-drop, drop-take, take-take}
use Rattle.std.proofs.lemmas.Bool.Decides.{nat_tests}
use Rattle.std.proofs.lemmas.Bool.{leb-true}
use Rattle.ip_ground.specs.Contents.{Image}
use Rattle.ip_ground.specs.declared.names.FileName.TheVariants.{Control}
use Rattle.ip_spec.specs.Path.{Bytes}
use Rattle.ip_spec.specs.Map.{empty}
use Rattle.ip_spec.specs.Repository.{no_repository}
use Rattle.ip_image.specs.Slot.{slot_fields, slot_bytes, slot_at, is_open, sequence_at, live_by, live_index, IsChunkSize, IsSlot, IsLive, fresh, fresh_control, open_gate}
use Rattle.ip_image.specs.Standing.{Standing, StandsFor}

test_eq : (a b : ℕ) → a ≡ b → eqb a b ≡ true
test_eq a b l = grind (arith, nat_tests)

test_ne : (a b : ℕ) → (a ≡ b → ⊥) → eqb a b ≡ false
test_ne a b l = grind (arith, nat_tests)

above : (a b : ℕ) → leb a b ≡ false → b < a
above a b e = grind (arith, nat_tests)

pub open_slot : (control : Bytes) (i : ℕ) → is_open control i ≡ (nat_le (128 * i + 128) (length control) && (slice_index control (128 * i) == open_gate))
open_slot control i = by (nat_le (128 * i + 128) (length control)) refl
  where
    long : length (slot_at control i) ≡ min 128 (length control - 128 * i)
    long = length-take 128 (drop (128 * i) control) ∙ ap (min 128) (length-drop (128 * i) control)

    first : slice_index (slot_at control i) 0 ≡ slice_index control (128 * i)
    first = get_or-take 128 (drop (128 * i) control) 0 0 (omega arith) ∙ get_or-drop (128 * i) control 0 0 ∙ ap (λ (k : ℕ). get_or control k 0) (omega arith)

    by : (b : Bool) → nat_le (128 * i + 128) (length control) ≡ b → is_open control i ≡ (b && (slice_index control (128 * i) == open_gate))
    by true e =
        let l = leb-true _ _ e in
        ap (λ (b : Bool). b && (slice_index (slot_at control i) 0 == open_gate)) (test_eq _ _ (omega (arith, long, l))) ∙ ap (λ (n : ℕ). n == open_gate) first
    by false e =
        let l = above _ _ e in
        ap (λ (b : Bool). b && (slice_index (slot_at control i) 0 == open_gate)) (test_ne _ _ (λ (m : length (slot_at control i) ≡ 128). absurd (omega (arith, long, l, m))))

some_live : (a b : Bool) (s t : ℕ) → is_some (live_by a b s t) ≡ (a || b)
some_live false false s t = refl
some_live true false s t = refl
some_live false true s t = refl
some_live true true s t = by (nat_le s t)
  where
    by : (c : Bool) → is_some {T = ℕ} (if c then Some 1 else Some 0) ≡ true
    by true = refl
    by false = refl

pub open_slots : (control : Bytes) → is_some (live_index control) ≡ (is_open control 0 || is_open control 1)
unfolding live_index
open_slots control = some_live (is_open control 0) (is_open control 1) (sequence_at control 0) (sequence_at control 1)

module _ (control : Bytes) where
  first_slot : slot_at (take 256 control) 0 ≡ slot_at control 0
  first_slot = take-take 128 256 control (omega arith)

  second_slot : slot_at (take 256 control) 1 ≡ slot_at control 1
  second_slot = ap (λ l. take 128 l) (drop-take 128 128 control) ∙ take-take 128 128 (drop 128 control) (omega arith)

  abbrev live_of : Bytes → Bytes → Option ℕ
  live_of a b = live_by ((length a == 128) && (slice_index a 0 == open_gate)) ((length b == 128) && (slice_index b 0 == open_gate)) (from_le_bytes w64 (take 8 (drop 16 a))) (from_le_bytes w64 (take 8 (drop 16 b)))

  pub first_slots : live_index (take 256 control) ≡ live_index control
  unfolding live_index
  first_slots = ap (λ a. live_of a (slot_at (take 256 control) 1)) first_slot ∙ ap (λ b. live_of (slot_at control 0) b) second_slot

  module _ (chunk : ℕ) (size : IsChunkSize chunk) (is : take 256 control ≡ fresh_control chunk) where
    first_is : slot_at control 0 ≡ slot_bytes (fresh chunk)
    unfolding slot_fields
    first_is = sym first_slot ∙ ap (λ l. take 128 l) is

    fresh_index : live_index (fresh_control chunk) ≡ Some 0
    unfolding live_index slot_fields
    fresh_index = refl

    second_closed : is_open (fresh_control chunk) 1 ≡ false
    unfolding slot_fields
    second_closed = refl

    is_slot : IsSlot (fresh chunk)
    is_slot = record {
      version_low = omega arith;
      version_high = omega arith;
      chunk = size;
      sequence_low = omega arith;
      sequence_high = omega arith;
      horizon = omega arith;
      ends = omega arith;
      floor = omega arith;
      next = omega arith;
      live = omega arith;
      next_attempt = omega arith;
      prefix_len = omega arith;
      rows = omega arith;
      first_attempt_low = omega arith;
      first_attempt_high = omega arith;
      first_attempt_live = λ some. absurd (some refl);
      first_chunk = omega arith;
      none_live = (λ e. e, λ e. e);
      nothing_below = λ e. (refl, refl, refl);
    }

    pub is_live : IsLive control 0 (fresh chunk)
    is_live = record {
      index = sym first_slots ∙ ap live_index is ∙ fresh_index;
      one = one_open (is_open control 0) (is_open control 1) (sequence_at control 0 == sequence_at control 1) (ap (λ l. (length l == 128) && (slice_index l 0 == open_gate)) (sym second_slot) ∙ ap (λ l. is_open l 1) is ∙ second_closed);
      bytes = first_is;
      fields = is_slot;
    }
      where
        one_open : (a b c : Bool) → b ≡ false → (a && b && c) ≡ false
        one_open false b c e = refl
        one_open true b c e = ap (λ x. x && c) e

    module _ (image : Image) (held : image Control ≡ Some control) where
      standing : Standing image
      unfolding empty
      standing = record {
        control = control;
        index = 0;
        slot = fresh chunk;
        rows = [];
        records = [];
        held = held;
        live = is_live;
        generation = record { file = λ some. absurd (some refl); fits = tt; sum = refl; prefix = λ some. absurd (some refl); none = λ e. refl };
        whole = ([], [], refl, refl, refl);
        good = tt;
        fits = record { next = refl; branches = record { each = λ name. tt; few = omega arith }; tags = record { each = λ name. tt; few = omega arith } };
      }

pub fresh_stands : (image : Image) (control : Bytes) (chunk : ℕ) → IsChunkSize chunk → image Control ≡ Some control → take 256 control ≡ fresh_control chunk → StandsFor image no_repository
unfolding no_repository standing
fresh_stands image control chunk size held is = record {
  standing = standing control chunk size is image held;
  floor = refl;
  commits = tt;
  branches = refl;
  tags = refl;
}

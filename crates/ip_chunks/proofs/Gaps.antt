-- The byte at a place of one content, or a gap.
use Rattle.std.proofs.Common.{◌≡◌, ℕ, ◌+◌, ◌<◌, ◌≤◌, List, length, get_or, Option, Some, None, inl, inr, refl, sym, ◌∙◌, ap, arith}
use Rattle.std.proofs.lemmas.Bool.{false≢true, cases_lt}
use Rattle.std.proofs.lemmas.Option.{slice_get-get_or, slice_get_past}
use Rattle.std.specs.Prelude.{is_some, IsSome, slice_get}
use Rattle.ip_ground.specs.Contents.{Content, bytes_of, size_of, written, Torn}
use Rattle.ip_ground.specs.Writing.{size_of-written, written_inside}
use Rattle.ip_image.specs.Virtual.{byte_of}
use Rattle.ip_chunks.specs.Effects.{TornByte}

pub byte_is : (content : Content) (at : ℕ) → byte_of content at ≡ slice_get (bytes_of content) at
byte_is None at = refl
byte_is (Some bytes) at = refl

pub some_byte : (content : Content) (at : ℕ) → at < size_of content → byte_of content at ≡ Some (get_or (bytes_of content) at 0)
some_byte content at within = byte_is content at ∙ slice_get-get_or (bytes_of content) at 0 within

pub no_byte : (content : Content) (at : ℕ) → size_of content ≤ at → byte_of content at ≡ None
no_byte content at past = byte_is content at ∙ slice_get_past (bytes_of content) at past

pub byte_there : (content : Content) (at : ℕ) → at < size_of content → IsSome (byte_of content at)
byte_there content at within = ap is_some (some_byte content at within)

pub within_from : (content : Content) (at : ℕ) → IsSome (byte_of content at) → at < size_of content
within_from content at there = elim (cases_lt at (size_of content)) [
  | inl within ↦ within
  | inr past ↦ absurd (false≢true (sym (ap is_some (no_byte content at past)) ∙ there))
]

pub past_from : (content : Content) (at : ℕ) → byte_of content at ≡ None → size_of content ≤ at
past_from content at gap = elim (cases_lt at (size_of content)) [
  | inl within ↦ absurd (false≢true (sym (ap is_some gap) ∙ byte_there content at within))
  | inr past ↦ past
]

-- a file that reaches a place reaches each before it
pub reaches_back : (content : Content) (at last : ℕ) → at ≤ last → IsSome (byte_of content last) → IsSome (byte_of content at)
reaches_back content at last before there = byte_there content at (omega (arith, within_from content last there, before))

-- two contents with the same bytes at a place, as far as they reach it
pub same_byte : (old new : Content) (at : ℕ) → at < size_of old → at < size_of new → get_or (bytes_of new) at 0 ≡ get_or (bytes_of old) at 0 → byte_of new at ≡ byte_of old at
same_byte old new at in_old in_new same = some_byte new at in_new ∙ ap Some same ∙ sym (some_byte old at in_old)

pub torn_byte : (end n at : ℕ) (old new : Content) → Torn end n old new → TornByte end n at (byte_of old at) (byte_of new at)
torn_byte end n at old new torn = record {
  before = λ lt there. let here = within_from old at there in same_byte old new at here (omega (arith, here, torn.no_shorter)) (torn.before at here lt);
  within = λ there. byte_there new at (omega (arith, within_from old at there, torn.no_shorter));
  behind = λ ge. elim (cases_lt at (size_of old)) [
    | inl here ↦ same_byte old new at here (omega (arith, here, torn.no_shorter)) (torn.behind at here ge)
    | inr past ↦ no_byte new at (omega (arith, torn.no_longer, ge, past)) ∙ sym (no_byte old at past)
  ];
}

-- over ranges that hold it, and one torn write after another
pub torn_nothing : (end n at : ℕ) (byte : Option ℕ) → TornByte end n at byte byte
torn_nothing end n at byte = record { before = λ lt there i. byte; within = λ there. there; behind = λ ge i. byte }

pub torn_wider : (end n at from long : ℕ) (old new : Option ℕ) → from ≤ end → end + n ≤ from + long → TornByte end n at old new → TornByte from long at old new
torn_wider end n at from long old new low high torn = record {
  before = λ lt. torn.before (omega (arith, lt, low));
  within = torn.within;
  behind = λ ge. torn.behind (omega (arith, ge, high));
}

pub torn_twice : (end n at : ℕ) (old mid new : Option ℕ) → TornByte end n at old mid → TornByte end n at mid new → TornByte end n at old new
torn_twice end n at old mid new first next = record {
  before = λ lt there. next.before lt (first.within there) ∙ first.before lt there;
  within = λ there. next.within (first.within there);
  behind = λ ge. next.behind ge ∙ first.behind ge;
}

-- the same at another place with the same distance from the write
pub torn_at : (end n at from place : ℕ) (old new : Option ℕ) → at + from ≡ end + place → TornByte from n place old new → TornByte end n at old new
torn_at end n at from place old new far torn = record {
  before = λ lt. torn.before (omega (arith, lt, far));
  within = torn.within;
  behind = λ ge. torn.behind (omega (arith, ge, far));
}

-- the bytes that were written stand there
pub written_byte : (old : Content) (end : ℕ) (bytes : List ℕ) → end ≤ size_of old → (k : ℕ) → k < length bytes → byte_of (written old end bytes) (end + k) ≡ slice_get bytes k
written_byte old end bytes within k lt =
    some_byte (written old end bytes) (end + k) (omega (arith, size_of-written old end bytes within, lt))
    ∙ ap Some (written_inside old end bytes within (end + k) (omega arith) (omega (arith, lt)) ∙ ap (λ (j : ℕ). get_or bytes j 0) (omega arith))
    ∙ sym (slice_get-get_or bytes k 0 lt)

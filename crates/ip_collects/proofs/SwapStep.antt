-- The step in which the slot of a swap becomes the live one.
--     Swaps s next      both slots name the same chunks, the next one from a later horizon on
--     LeavesBoth crash i j s next image      a crash leaves one of the two as the live one, and the bytes that both name
--     either_left      each image has the one slot with its bytes, or the other with its
--     either_stands      so whatever it leaves stands for what the old slot names or for what the next one names, and nothing is pending
--     both_at      at each moment of such a step.      both_stand      so it is at each
use Rattle.std.proofs.Common.{◌≡◌, ◌≢◌, ◌⊎◌, inl, inr, ℕ, ◌<◌, ◌≤◌, refl, sym, ◌∙◌, subst, arith}
use Rattle.ip_ground.specs.declared.names.FileName.TheVariants.{Control, Chunk, Mapping, Prefix}
use Rattle.ip_ground.specs.Contents.{Content, Image, Possible}
use Rattle.ip_ground.specs.Custody.{own}
use Rattle.ip_ground.specs.Told.{Told, KeepsFile, EachSince, Only, ChangesOnly}
use Rattle.ip_ground.proofs.Spans.{at_most}
use Rattle.ip_spec.specs.Repository.{Repository}
use Rattle.ip_image.specs.declared.slot.Slot.{Slot}
use Rattle.ip_image.specs.Slot.{IsSlot, slot_bytes}
use Rattle.ip_image.specs.Virtual.{chunk_of, place_in_chunk, byte_of, chunk_byte}
use Rattle.ip_image.specs.Standing.{StandsFor}
use Rattle.ip_image.specs.Pending.{HasLive, Crash, crash_at, crash_now, SameSpace, LeavesChunks, LeavesPair, NothingPending, AllFlushed}
use Rattle.ip_image.specs.Headline.{RecoversToEither}
use Rattle.ip_image.proofs.AppendingLaws.{stands_still}
use Rattle.ip_image.proofs.HeadlineLaws.{same_generation_itself, flushed_image}
use Rattle.ip_control.specs.Live.{live_slot, live_of}
use Rattle.ip_control.specs.Changes.{control}
use Rattle.ip_held.proofs.Recovering.{in_image, pair_left}

pub record Swaps (s next : Slot) : Type 0 where
  pub chunk : next.chunk ≡ s.chunk
  pub end : next.end ≡ s.end
  pub above : s.horizon ≤ next.horizon
  pub attempts : next.next_attempt ≡ s.next_attempt

pub record LeavesBoth (crash : Crash) (i j : ℕ) (s next : Slot) (image : Image) : Type 0 where
  pub live : (content : Content) → crash.leave Control content → (live_of content ≡ live_slot i (slot_bytes s)) ⊎ (live_of content ≡ live_slot j (slot_bytes next))
  pub chunks : LeavesChunks crash.leave s image
  pub pair : s.live ≢ 0 → LeavesPair crash s.live image
  pub other : LeavesPair crash next.live image
  pub drawn : (attempt : ℕ) → crash.lending attempt ≢ own → attempt < s.next_attempt

module _ (crash : Crash) (i j : ℕ) (s next : Slot) (image : Image) (s_is : IsSlot s) (next_is : IsSlot next) (swaps : Swaps s next) (both : LeavesBoth crash i j s next image) where
  new_chunks : LeavesChunks crash.leave next image
  new_chunks = subst (λ (size : ℕ). (at : ℕ) → next.horizon ≤ at → at < next.end → (content : Content) → crash.leave (Chunk (chunk_of size at)) content → byte_of content (place_in_chunk size at) ≡ chunk_byte size image at) (sym swaps.chunk)
      (λ at low high content left. both.chunks at (let above = swaps.above in omega (arith, above, low)) (let end = swaps.end in omega (arith, end, high)) content left)

  -- each image has the bytes that the one slot names, and those that the other names
  old_space : (other : Image) → Possible crash.leave other → SameSpace s image other
  unfolding chunk_byte
  old_space other possible = record {
    chunks = λ at low high. both.chunks at low high (other (Chunk (chunk_of s.chunk at))) (possible (Chunk (chunk_of s.chunk at)));
    mapping = λ some. (both.pair some).mapping (other (Mapping s.live)) (possible (Mapping s.live));
    prefix = λ some. (both.pair some).prefix (other (Prefix s.live)) (possible (Prefix s.live));
  }

  new_space : (other : Image) → Possible crash.leave other → SameSpace next image other
  unfolding chunk_byte
  new_space other possible = record {
    chunks = λ at low high. new_chunks at low high (other (Chunk (chunk_of next.chunk at))) (possible (Chunk (chunk_of next.chunk at)));
    mapping = λ some. both.other.mapping (other (Mapping next.live)) (possible (Mapping next.live));
    prefix = λ some. both.other.prefix (other (Prefix next.live)) (possible (Prefix next.live));
  }

  either_flushed : AllFlushed crash
  either_flushed other possible = elim (both.live (other Control) (possible Control)) [
    | inl old ↦ flushed_image crash image other s (in_image i s other s_is old) (old_space other possible) both.chunks both.pair both.drawn
    | inr new ↦ flushed_image crash image other next (in_image j next other next_is new) (new_space other possible) new_chunks (λ some. both.other) (λ n some. (let was = both.drawn n some in let more = swaps.attempts in omega (arith, was, more)))
  ]

  -- it has the one slot and its bytes, or the other and its
  pub either_left : (other : Image) → Possible crash.leave other → (HasLive s other × SameSpace s image other) ⊎ (HasLive next other × SameSpace next image other)
  either_left other possible = elim (both.live (other Control) (possible Control)) [
    | inl old ↦ inl (in_image i s other s_is old, old_space other possible)
    | inr new ↦ inr (in_image j next other next_is new, new_space other possible)
  ]

  pub either_stands : (r after : Repository) → StandsFor image r → HasLive s image → ((other : Image) → HasLive next other → SameSpace next image other → StandsFor other after) → RecoversToEither crash r after
  either_stands r after stands has goes = record {
    stands = λ other possible. elim (both.live (other Control) (possible Control)) [
      | inl old ↦ inl (stands_still image other r s s stands has (in_image i s other s_is old) (same_generation_itself s) refl refl (old_space other possible))
      | inr new ↦ inr (goes other (in_image j next other next_is new) (new_space other possible))
    ];
    flushed = either_flushed;
  }

module _ (b d : Told) (i j : ℕ) (s next : Slot) (only : ChangesOnly (Only Control) b d) (has : HasLive s b.held) (old : live_of (control b) ≡ live_slot i (slot_bytes s))
    (turns : EachSince b d Control (λ content. (live_of content ≡ live_of (control b)) ⊎ (live_of content ≡ live_slot j (slot_bytes next)))) (firm : LeavesPair (crash_now b) next.live b.held) (pending : NothingPending b) where
  chunk : (n : ℕ) → KeepsFile b d (Chunk n)
  chunk n = only.others (Chunk n) (λ is. cc (is))

  mapping : (n : ℕ) → KeepsFile b d (Mapping n)
  mapping n = only.others (Mapping n) (λ is. cc (is))

  prefix : (n : ℕ) → KeepsFile b d (Prefix n)
  prefix n = only.others (Prefix n) (λ is. cc (is))

  left_at : (n : ℕ) → LeavesPair (crash_now b) n b.held → (t : ℕ) → b.moment < t → t ≤ d.moment → LeavesPair (crash_at d t) n b.held
  left_at n was t late le = pair_left b d n (at_most b d (Mapping n) (mapping n)) (at_most b d (Prefix n) (prefix n)) (only.lending n) was t late le

  pub both_at : (t : ℕ) → b.moment < t → t ≤ d.moment → LeavesBoth (crash_at d t) i j s next b.held
  both_at t late le = record {
    live = λ content left. elim (turns t content late le left) [ inl was ↦ inl (was ∙ old) | inr is ↦ inr is ];
    chunks = λ at low high content left. pending.chunks s has at low high content ((chunk (chunk_of s.chunk at)).left (λ x. x) t content late le left);
    pair = λ some. left_at s.live (pending.pair s has some) t late le;
    other = left_at next.live firm t late le;
    drawn = λ n some. pending.drawn s has n (λ none. some (only.lending n t late le ∙ none));
  }

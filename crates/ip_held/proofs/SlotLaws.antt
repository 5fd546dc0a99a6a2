-- Which slot is live in what a crash may leave.
--     still_there      a slot that is live is so while the control file stays
--     slots_none      no moment has passed.      slots_still      the control file stays.      slots_only, slots_beside, slots_for, slots_ends      a call that changes others than it
--     slots_then      what holds from a moment on holds from an earlier one, from which the control file stays.      slots_on, slots_behind      what holds up to a moment holds up to a later one, to which it stays
--     slots_stepped      each image has the slot that was live, or one next slot.      slots_turned      so it is where a gate is turned
--     writes_still, writes_none      no file was changed.      writes_then      nor before the call.      written_store, writes_store      what is written is of the store
use Rattle.std.proofs.Common.{◌≡◌, ◌⊎◌, inl, inr, ℕ, ◌<◌, ◌≤◌, refl, sym, ◌∙◌, ap, subst, arith}
use Rattle.std.specs.Prelude.{Result}
use Rattle.std.proofs.lemmas.Bool.{cases_lt}
use Rattle.ip_ground.specs.declared.names.FileName.{FileName}
use Rattle.ip_ground.specs.declared.names.FileName.TheVariants.{Control, Chunk, Prefix, Mapping, Done}
use Rattle.ip_ground.specs.declared.names.GroundFault.{GroundFault}
use Rattle.ip_ground.specs.Contents.{Content, Image, bytes_of}
use Rattle.ip_ground.specs.Told.{Told, IsSynced, IsPossible, IsPossibleNow, KeepsPast, KeepsFile, NoFile, ChangesOnly}
use Rattle.ip_ground.proofs.Spans.{only_more, only_nowhere, only_on}
use Rattle.ip_image.specs.declared.slot.Slot.{Slot}
use Rattle.ip_image.specs.Slot.{IsSlot, IsLive, slot_bytes}
use Rattle.ip_image.specs.Virtual.{byte_of, chunk_byte, chunk_of, place_in_chunk}
use Rattle.ip_image.specs.Pending.{HasLive}
use Rattle.ip_image.proofs.HeadlineLaws.{one_slot}
use Rattle.ip_control.specs.Changes.{control}
use Rattle.ip_control.specs.Live.{live_slot, live_of}
use Rattle.ip_control.proofs.LiveLaws.{live_from}
use Rattle.ip_publish.specs.Publishing.{IsOfStore, IsWritten, TurnsGate, WritesTo}
use Rattle.ip_held.specs.Slots.{IsNext, IsSlotFrom, KeepsSlots}
use Rattle.ip_held.specs.Sweeping.{ChangesBeside, ChangesFor, EndsFor}
use Rattle.ip_held.proofs.Recovering.{in_image}

-- ---- one image

has_by : (s : Slot) (image other : Image) → other Control ≡ image Control → HasLive s image → HasLive s other
has_by s image other same has = record { control = has.control; index = has.index; held = same ∙ has.held; live = has.live }

-- it speaks of the control file alone
from_by : (s : Slot) (image other : Image) → other Control ≡ image Control → IsSlotFrom s image → IsSlotFrom s other
from_by s image other same is = elim is [
  | inl old ↦ inl (has_by s image other same old)
  | inr new ↦ inr (new.0, has_by new.0 image other same new.1, new.2)
]

live_was : (s : Slot) (image : Image) (has : HasLive s image) → live_of (image Control) ≡ live_slot has.index (slot_bytes s)
live_was s image has = live_from (image Control) has.index s (subst (λ (x : Content). IsLive (bytes_of x) has.index s) (sym has.held) has.live)

-- ---- the control file stays

pub slots_none : (a : Told) → KeepsSlots a a
slots_none a s has t late le image possible = absurd (omega (arith, late, le))

module _ (a b : Told) where
  pub still_there : KeepsFile a b Control → (s : Slot) → HasLive s a.held → HasLive s b.held
  still_there stays s has = has_by s a.held b.held (stays.held (λ x. x)) has

  -- where nothing of it is pending
  module _ (kept : IsSynced a Control) where
    pub slots_still : KeepsFile a b Control → KeepsSlots a b
    slots_still stays s has t late le image possible = inl (has_by s a.held image (kept (image Control) (stays.left (λ x. x) t (image Control) late le (possible Control))) has)

    module _ (these : FileName → Type 0) (apart : ¬ these Control) where
      pub slots_only : ChangesOnly these a b → KeepsSlots a b
      slots_only only = slots_still (only.others Control apart)

      pub slots_beside : (n : ℕ) → ChangesBeside n these a b → KeepsSlots a b
      slots_beside n beside = slots_still (beside.others Control apart (λ of. of))

      pub slots_for : (n : ℕ) → ChangesFor n these a b → KeepsSlots a b
      slots_for n changes = slots_still (changes.others Control apart (λ of. of))

      pub slots_ends : (n : ℕ) → EndsFor n these a b → KeepsSlots a b
      slots_ends n ends = slots_beside n ends.beside

-- ---- one span behind another

abbrev mixed : Content → Image → Image
mixed x other Control = x
mixed x other (Chunk n) = other (Chunk n)
mixed x other (Prefix n) = other (Prefix n)
mixed x other (Mapping n) = other (Mapping n)
mixed x other (Done n) = other (Done n)

mixed_possible : (b : Told) (x : Content) → IsPossibleNow b → b.may_leave b.moment Control x → IsPossible b b.moment (mixed x b.held)
mixed_possible b x possible left Control = left
mixed_possible b x possible left (Chunk n) = possible (Chunk n)
mixed_possible b x possible left (Prefix n) = possible (Prefix n)
mixed_possible b x possible left (Mapping n) = possible (Mapping n)
mixed_possible b x possible left (Done n) = possible (Done n)

module _ (a b c : Told) where
  pub slots_then : IsSynced a Control → KeepsFile a b Control → KeepsPast b c → KeepsSlots b c → KeepsSlots a c
  slots_then kept stays next is s has t late le image possible = elim (cases_lt b.moment t) [
    | inl after ↦ is s (still_there a b stays s has) t after le image possible
    | inr before ↦ slots_still a b kept stays s has t late before image (λ file. next.left t file (image file) before (possible file))
  ]

  -- what a crash leaves then of the control file it may leave at the moment between
  slot_now : IsSynced a Control → IsPossibleNow b → KeepsPast a b → KeepsSlots a b → (s : Slot) → HasLive s a.held → (image : Image) → b.may_leave b.moment Control (image Control) → IsSlotFrom s image
  slot_now kept possible goes is s has image left = elim (cases_lt a.moment b.moment) [
    | inl later ↦ from_by s (mixed (image Control) b.held) image refl (is s has b.moment later (omega arith) (mixed (image Control) b.held) (mixed_possible b (image Control) possible left))
    | inr still ↦
        let same : b.moment ≡ a.moment = omega (arith, goes.later) in
        inl (has_by s a.held image (kept (image Control) (subst (λ (t : ℕ). a.may_leave t Control (image Control)) same (goes.left b.moment Control (image Control) still left))) has)
  ]

  pub slots_on : IsSynced a Control → IsPossibleNow b → KeepsPast a b → KeepsPast b c → KeepsFile b c Control → KeepsSlots a b → KeepsSlots a c
  slots_on kept possible goes next stays is s has t late le image left = elim (cases_lt b.moment t) [
    | inl after ↦ slot_now kept possible goes is s has image (stays.left (λ x. x) t (image Control) after le (left Control))
    | inr before ↦ is s has t late before image (λ file. next.left t file (image file) before (left file))
  ]

  -- where nothing of the control file is pending at the moment between, and it is known which slot is live then
  pub slots_behind : IsSynced b Control → ((s : Slot) → HasLive s a.held → IsSlotFrom s b.held) → KeepsPast b c → KeepsFile b c Control → KeepsSlots a b → KeepsSlots a c
  slots_behind kept now next stays is s has t late le image left = elim (cases_lt b.moment t) [
    | inl after ↦ from_by s b.held image (kept (image Control) (stays.left (λ x. x) t (image Control) after le (left Control))) (now s has)
    | inr before ↦ is s has t late before image (λ file. next.left t file (image file) before (left file))
  ]

-- ---- a step

module _ (a b : Told) (s next : Slot) (has : HasLive s a.held) (is : IsNext s next) where
  next_of : (u : Slot) → HasLive u a.held → IsNext u next
  next_of u live = subst (λ (v : Slot). IsNext v next) (one_slot s u a.held has live) is

  slot_of : (image : Image) → HasLive s image ⊎ HasLive next image → (u : Slot) → HasLive u a.held → IsSlotFrom u image
  slot_of image either u live = elim either [
    | inl old ↦ inl (subst (λ (v : Slot). HasLive v image) (one_slot s u a.held has live) old)
    | inr new ↦ inr (next, new, next_of u live)
  ]

  pub slots_stepped : ((t : ℕ) → a.moment < t → t ≤ b.moment → (image : Image) → IsPossible b t image → HasLive s image ⊎ HasLive next image) → KeepsSlots a b
  slots_stepped each u live t late le image possible = slot_of image (each t late le image possible) u live

  module _ (slot : ℕ) (there : IsSlot next) (result : Result (Unit {0}) GroundFault) (turns : TurnsGate slot next result a b) where
    turned : (image : Image) → (live_of (image Control) ≡ live_of (control a)) ⊎ (live_of (image Control) ≡ live_slot slot (slot_bytes next)) → HasLive s image ⊎ HasLive next image
    turned image either = elim either [
      | inl old ↦ inl (in_image has.index s image has.live.fields (old ∙ live_was s a.held has))
      | inr new ↦ inr (in_image slot next image there new)
    ]

    pub slots_turned : KeepsSlots a b
    slots_turned = slots_stepped (λ t late le image possible. turned image (turns.live t (image Control) late le (possible Control)))

-- ---- which bytes of the chunks a call writes

module _ (size from to : ℕ) where
  pub written_store : (file : FileName) → IsWritten size from to file → IsOfStore file
  written_store file written = elim written [ inl control ↦ inl control | inr chunk ↦ inr (size, chunk.0, chunk.2) ]

  pub writes_store : (a b : Told) → ChangesOnly (IsWritten size from to) a b → ChangesOnly IsOfStore a b
  writes_store a b only = only_more a b (IsWritten size from to) IsOfStore written_store only

  pub same_byte : (a b : Told) (at : ℕ) → b.held (Chunk (chunk_of size at)) ≡ a.held (Chunk (chunk_of size at)) → chunk_byte size b.held at ≡ chunk_byte size a.held at
  unfolding chunk_byte
  same_byte a b at same = ap (λ (x : Content). byte_of x (place_in_chunk size at)) same

  pub writes_still : (a b : Told) → ChangesOnly NoFile a b → WritesTo size from to a b
  writes_still a b only = record {
    only = only_more a b NoFile (IsWritten size from to) (λ file none. absurd none) only;
    behind = λ at high. same_byte a b at ((only.others (Chunk (chunk_of size at)) (λ none. none)).held (λ x. x));
  }

  pub writes_none : (a : Told) → WritesTo size from to a a
  writes_none a = writes_still a a (only_nowhere a NoFile)

  pub writes_then : (a b c : Told) → ChangesOnly NoFile a b → WritesTo size from to b c → WritesTo size from to a c
  writes_then a b c only writes = record {
    only = only_on a b c (IsWritten size from to) (only_more a b NoFile (IsWritten size from to) (λ file none. absurd none) only) writes.only;
    behind = λ at high. writes.behind at high ∙ (writes_still a b only).behind at high;
  }

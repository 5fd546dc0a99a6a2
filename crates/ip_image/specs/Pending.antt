-- What is pending of the files that a repository stands in, by what a crash may leave of them and whose they are.
--     HasLive s image      this slot is live, and has the right form
--     Crash, crash_at told moment      what a crash at a moment may leave, and whose the files of each attempt are then.      crash_now told      at the last one
--     SameChunks size from end image other      from one place up to another the chunks have the same bytes
--     SameSpace s image other      all bytes that a slot's records lie in are the same: in the chunks, and in the live pair
--     LeavesChunks, LeavesPair      a crash leaves them as the image has them
--     IsFlushed crash image      nothing is pending of what the image's live slot names, and each attempt that was ever lent lies before the next one
--     NothingPending told      so it is of what the files read as now.      AllFlushed crash      and of each image that a crash may leave
--     KeepsSpace s old new      at each moment since old, the bytes of a slot's records are what they were, whatever a crash leaves
use Rattle.std.specs.Prelude.{◌≡◌, ◌≢◌, ℕ, ◌<◌, ◌≤◌, Some}
use Rattle.ip_ground.specs.declared.names.FileName.TheVariants.{Control, Chunk, Prefix, Mapping}
use Rattle.ip_ground.specs.Contents.{Content, Image, Leave, Possible}
use Rattle.ip_ground.specs.Custody as custody
use Rattle.ip_ground.specs.Custody.{Custody, own}
use Rattle.ip_ground.specs.Told.{Told}
use Rattle.ip_spec.specs.Path.{Bytes}
use Rattle.ip_image.specs.Slot.{Slot, IsLive}
use Rattle.ip_image.specs.Virtual.{byte_of, chunk_of, place_in_chunk, chunk_byte}

pub record HasLive (s : Slot) (image : Image) : Type 0 where
  pub control : Bytes
  pub index : ℕ
  pub held : image Control ≡ Some control
  pub live : IsLive control index s

-- of one moment
pub record Crash : Type 1 where
  pub leave : Leave
  pub lending : ℕ → Custody

abbrev pub crash_at : Told → ℕ → Crash
crash_at told moment = record { leave = told.may_leave moment; lending = told.lending_at moment }

abbrev pub crash_now : Told → Crash
crash_now told = crash_at told told.moment

-- ---- the same bytes

abbrev pub SameChunks : ℕ → ℕ → ℕ → Image → Image → Type 0
SameChunks size from end image other = (at : ℕ) → from ≤ at → at < end → chunk_byte size other at ≡ chunk_byte size image at

pub record SameSpace (s : Slot) (image other : Image) : Type 0 where
  pub chunks : SameChunks s.chunk s.horizon s.end image other
  pub mapping : s.live ≢ 0 → other (Mapping s.live) ≡ image (Mapping s.live)
  pub prefix : s.live ≢ 0 → other (Prefix s.live) ≡ image (Prefix s.live)

-- ---- what is pending

-- each byte from the horizon to the end
abbrev pub LeavesChunks : Leave → Slot → Image → Type 0
LeavesChunks leave s image = (at : ℕ) → s.horizon ≤ at → at < s.end → (content : Content) → leave (Chunk (chunk_of s.chunk at)) content
    → byte_of content (place_in_chunk s.chunk at) ≡ chunk_byte s.chunk image at

-- both files of an attempt, none of them loose
pub record LeavesPair (crash : Crash) (attempt : ℕ) (image : Image) : Type 0 where
  pub mapping : (content : Content) → crash.leave (Mapping attempt) content → content ≡ image (Mapping attempt)
  pub prefix : (content : Content) → crash.leave (Prefix attempt) content → content ≡ image (Prefix attempt)
  pub firm_mapping : ¬ custody.IsLoose (crash.lending attempt) (Mapping attempt)
  pub firm_prefix : ¬ custody.IsLoose (crash.lending attempt) (Prefix attempt)

pub record IsFlushed (crash : Crash) (image : Image) : Type 0 where
  pub chunks : (s : Slot) → HasLive s image → LeavesChunks crash.leave s image
  pub pair : (s : Slot) → HasLive s image → s.live ≢ 0 → LeavesPair crash s.live image
  -- an attempt that was ever lent was drawn before
  pub drawn : (s : Slot) → HasLive s image → (attempt : ℕ) → crash.lending attempt ≢ own → attempt < s.next_attempt

abbrev pub NothingPending : Told → Type 0
NothingPending told = IsFlushed (crash_now told) told.held

-- whichever image it leaves
abbrev pub AllFlushed : Crash → Type 0
AllFlushed crash = (image : Image) → Possible crash.leave image → IsFlushed crash image

-- A child that was told of the slot reads no other bytes.
abbrev pub KeepsSpace : Slot → Told → Told → Type 0
KeepsSpace s old new = (moment : ℕ) → old.moment < moment → moment ≤ new.moment → (image : Image) → Possible (new.may_leave moment) image → SameSpace s old.held image

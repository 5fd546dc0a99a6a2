-- What a store has cleared away of what no collection needs.
--     unswept_in s      what is unswept by a live slot alone
--     IsClearTo s u image whose      nothing of what lies below what is unswept is held, but what a child may still write; the slot names no more of it as swept
--     IsCleared store told      so of an open store.      IsClearAt told      and of one that is to be opened
--     IsLiveFile s file      one of the live pair.      IsClear s image whose      all is gone that no collection needs
--     KeepsClear store now old new      what was cleared is so still.      ClearsAll swept left store now old new      and behind a sweep that left nothing all is gone
use Rattle.std.specs.Prelude.{◌≡◌, ◌≢◌, ◌⊎◌, ℕ, ◌/◌, ◌<◌, ◌≤◌, None}
use Rattle.ip_ground.specs.declared.names.FileName.{FileName}
use Rattle.ip_ground.specs.declared.names.FileName.TheVariants.{Chunk, Prefix, Mapping}
use Rattle.ip_ground.specs.Contents.{Image}
use Rattle.ip_ground.specs.Custody as custody
use Rattle.ip_ground.specs.Custody.{Custody, IsOfAttempt}
use Rattle.ip_ground.specs.Told.{Told, lending}
use Rattle.ip_image.specs.declared.slot.Slot.{Slot}
use Rattle.ip_image.specs.Pending.{HasLive}
use Rattle.ip_held.specs.declared.collection.Unswept.{Unswept}
use Rattle.ip_held.specs.declared.held.Held.{Held}

abbrev pub unswept_in : Slot → Unswept
unswept_in s = record { chunk = s.first_chunk; attempt = s.first_attempt }

-- Attempts are counted from 1.
pub record IsClearTo (s : Slot) (u : Unswept) (image : Image) (whose : ℕ → Custody) : Type 0 where
  pub chunk : s.first_chunk ≤ u.chunk
  pub attempt : s.first_attempt ≤ u.attempt
  pub chunks : (number : ℕ) → number < u.chunk → image (Chunk number) ≡ None
  pub files : (attempt : ℕ) (file : FileName) → 1 ≤ attempt → attempt < u.attempt → IsOfAttempt attempt file → ¬ custody.IsForeign (whose attempt) → image file ≡ None

abbrev pub IsCleared : Held → Told → Type 0
IsCleared store told = IsClearTo store.slot store.unswept told.held (lending told)

-- by whatever slot is live
abbrev pub IsClearAt : Told → Type 0
IsClearAt told = (s : Slot) → HasLive s told.held → IsClearTo s (unswept_in s) told.held (lending told)

abbrev pub IsLiveFile : Slot → FileName → Type 0
IsLiveFile s file = (s.live ≢ 0) × ((file ≡ Prefix s.live) ⊎ (file ≡ Mapping s.live))

-- The chunks held are numbered from the horizon's on, and of the attempts that were drawn the live pair alone is held, and what a child may still write.
pub record IsClear (s : Slot) (image : Image) (whose : ℕ → Custody) : Type 0 where
  pub chunks : (number : ℕ) → number < s.horizon / s.chunk → image (Chunk number) ≡ None
  pub files : (attempt : ℕ) (file : FileName) → 1 ≤ attempt → attempt < s.next_attempt → IsOfAttempt attempt file → ¬ custody.IsForeign (whose attempt) → ¬ IsLiveFile s file → image file ≡ None

abbrev pub KeepsClear : Held → Held → Told → Told → Type 0
KeepsClear store now old new = IsCleared store old → IsCleared now new

-- so many removals failed
abbrev pub ClearsAll : (swept : Type 0) → ℕ → Held → Held → Told → Told → Type 0
ClearsAll swept left store now old new = swept → left ≡ 0 → IsCleared store old → IsClear now.slot new.held (lending new)

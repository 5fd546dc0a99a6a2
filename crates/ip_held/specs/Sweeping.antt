-- What a sweep removes, and what stays beside it.
--     IsDrawn s u n      an attempt that a sweep looks at.      IsSwept s u file      a file that it removes.      swept_to s      what is unswept once all is gone
--     IsSweptOf attempt live file, IsSweptFrom from to live file      one of an attempt's files, and of several's
--     AllBut these left old new      at most so many of these files are still there
--     IsSameOrGone before content, StaysOrGoes old new file      it stays or is removed
--     SweepsFiles these left old new      what removals of these files do
--     NeverWritten old new file      none but its child wrote it.      KeepsSettled told      each file of a settled attempt is what it was then, or gone.      KeepsFiles old new      of all files of attempts
--     IsApart s file      no record of the slot lies in the file, nor the slot
--     ChangesBeside attempt these old new      no other file changes, and no custody but this attempt's.      ChangesFor attempt these old new      nor this one more than once
--     EndsTo before now      how custody goes on while a child ends and its files are synced.      EndsFor attempt these old new      so does this attempt's
use Rattle.std.specs.Prelude.{◌≡◌, ◌≢◌, ◌⊎◌, ◌==◌, ℕ, ◌-◌, ◌/◌, ◌^◌, ◌<◌, ◌≤◌, List, length, Contains, None, Bool, IsTrue, if◌then◌else◌}
use Rattle.ip_ground.specs.declared.names.FileName.{FileName}
use Rattle.ip_ground.specs.declared.names.FileName.TheVariants.{Control, Chunk, Prefix, Mapping, Done}
use Rattle.ip_ground.specs.Contents.{Content, Image}
use Rattle.ip_ground.specs.Custody as custody
use Rattle.ip_ground.specs.Custody.{Custody, own, lent, settled, custody_of, IsOfAttempt}
use Rattle.ip_ground.specs.Told.{Told, lending, ChangesLeft, KeepsPast, KeepsFile, KeepsSaid, KeepsCustody, TurnsCustody, ChangesOnly, IsForeign, IsLoose}
use Rattle.ip_image.specs.declared.slot.Slot.{Slot}
use Rattle.ip_held.specs.declared.collection.Unswept.{Unswept}
use Rattle.ip_publish.specs.Publishing.{IsOfStore}

abbrev pub IsDrawn : Slot → Unswept → ℕ → Type 0
IsDrawn s u n = (u.attempt ≤ n) × (n < s.next_attempt)

-- chunks below the horizon's, and the files of attempts that were drawn; of the live attempt its done file alone
abbrev pub IsSwept : Slot → Unswept → FileName → Type 0
IsSwept s u Control = ⊥
IsSwept s u (Chunk number) = (u.chunk ≤ number) × (number < s.horizon / s.chunk)
IsSwept s u (Prefix n) = IsDrawn s u n × (n ≢ s.live)
IsSwept s u (Mapping n) = IsDrawn s u n × (n ≢ s.live)
IsSwept s u (Done n) = IsDrawn s u n

-- of one attempt, where another is live; and of the attempts from one up to another
abbrev pub IsSweptOf : ℕ → ℕ → FileName → Type 0
IsSweptOf attempt live (Done n) = n ≡ attempt
IsSweptOf attempt live file = IsOfAttempt attempt file × (attempt ≢ live)

abbrev pub IsSweptFrom : ℕ → ℕ → ℕ → FileName → Type 0
IsSweptFrom from to live file = (attempt : ℕ) × (from ≤ attempt) × (attempt < to) × IsSweptOf attempt live file

abbrev pub swept_to : Slot → Unswept
swept_to s = record { chunk = s.horizon / s.chunk; attempt = if s.live == 0 then s.next_attempt else s.live }

-- As far as no child changes them. A count that stands at its last value says nothing.
abbrev pub AllBut : (FileName → Type 0) → ℕ → Told → Told → Type 0
AllBut these left old new = left < 2 ^ 64 - 1 → (those : List FileName) × (length those ≤ left) × ((file : FileName) → these file → ¬ IsForeign old file → (new.held file ≡ None) ⊎ Contains those file)

-- of a content, what stands in its place later
abbrev pub IsSameOrGone : Content → Content → Type 0
IsSameOrGone before content = (content ≡ before) ⊎ (content ≡ None)

-- By what a read gives and by what a crash may leave, as far as no child changes it. No write is asked for of a file that is not the store's.
pub record StaysOrGoes (old new : Told) (file : FileName) : Type 0 where
  pub unwritten : ¬ IsOfStore file → new.writes file ≡ old.writes file
  pub held : ¬ IsForeign old file → IsSameOrGone (old.held file) (new.held file)
  pub left : ¬ IsLoose old file → ChangesLeft IsSameOrGone old new file

-- Where none failed all are absent, as far as no child changes them. Whether one failed or not, each file stays or is removed.
pub record SweepsFiles (these : FileName → Type 0) (left : ℕ) (old new : Told) : Type 0 where
  pub only : ChangesOnly these old new
  pub gone : left ≡ 0 → (file : FileName) → these file → ¬ IsForeign old file → new.held file ≡ None
  pub all_but : AllBut these left old new
  pub each : (file : FileName) → StaysOrGoes old new file

abbrev pub IsApart : Slot → FileName → Type 0
IsApart s Control = ⊥
IsApart s (Chunk number) = number < s.horizon / s.chunk
IsApart s (Prefix n) = n ≢ s.live
IsApart s (Mapping n) = n ≢ s.live
IsApart s (Done n) = Unit {0}

-- Nothing is said. The attempt's files are whoever's they are, and no write of them is asked for.
pub record ChangesBeside (attempt : ℕ) (these : FileName → Type 0) (old new : Told) : Type 0 where
  pub goes : KeepsPast old new
  pub others : (file : FileName) → ¬ these file → ¬ IsOfAttempt attempt file → KeepsFile old new file
  pub unwritten : (file : FileName) → IsOfAttempt attempt file → new.writes file ≡ old.writes file
  pub lending : (other : ℕ) → other ≢ attempt → KeepsCustody old new other
  pub said : KeepsSaid old new

-- Besides, at each moment the attempt is as it was before or as it is now.
pub record ChangesFor (attempt : ℕ) (these : FileName → Type 0) (old new : Told) : Type 0 where
  pub goes : KeepsPast old new
  pub others : (file : FileName) → ¬ these file → ¬ IsOfAttempt attempt file → KeepsFile old new file
  pub unwritten : (file : FileName) → IsOfAttempt attempt file → new.writes file ≡ old.writes file
  pub turns : TurnsCustody old new attempt
  pub lending : (other : ℕ) → other ≢ attempt → KeepsCustody old new other
  pub said : KeepsSaid old new

-- It stays, or a lent attempt is settled; one that is settled holds what it held, and more of its files may be synced.
abbrev pub EndsTo : Custody → Custody → Type 0
EndsTo own own = Unit {0}
EndsTo lent lent = Unit {0}
EndsTo lent (settled pair synced) = Unit {0}
EndsTo (settled pair synced) (settled later more) = (later ≡ pair) × ((file : FileName) → IsTrue (synced file) → IsTrue (more file))
EndsTo before now = ⊥

-- At each moment since, the custody of the attempt lies between what it was before and what it is now.
abbrev pub EndsCustody : Told → Told → ℕ → Type 0
EndsCustody old new attempt = (moment : ℕ) → old.moment < moment → moment ≤ new.moment → EndsTo (lending old attempt) (new.lending_at moment attempt) × EndsTo (new.lending_at moment attempt) (lending new attempt)

-- Over several calls behind one another, in which the attempt is settled and then its files are synced.
pub record EndsFor (attempt : ℕ) (these : FileName → Type 0) (old new : Told) : Type 0 where
  pub beside : ChangesBeside attempt these old new
  pub ends : EndsCustody old new attempt

-- at no moment from old on was it the child's, or loose: an attempt that was lent and settled in between has files that its child wrote
abbrev pub NeverForeign : Told → Told → FileName → Type 0
NeverForeign old new file = (t : ℕ) → old.moment ≤ t → t ≤ new.moment → ¬ custody.IsForeign (custody_of (new.lending_at t) file)

abbrev pub NeverLoose : Told → Told → FileName → Type 0
NeverLoose old new file = (t : ℕ) → old.moment ≤ t → t ≤ new.moment → ¬ custody.IsLoose (custody_of (new.lending_at t) file) file

-- It stays or is removed, by what a read gives and by what a crash may leave. Of two such spans one after the other it holds of both together.
pub record NeverWritten (old new : Told) (file : FileName) : Type 0 where
  pub held : NeverForeign old new file → IsSameOrGone (old.held file) (new.held file)
  pub left : NeverLoose old new file → ChangesLeft IsSameOrGone old new file

abbrev pub KeepsSettled : Told → Type 0
KeepsSettled told = (attempt : ℕ) (pair : Image) (synced : FileName → Bool) → lending told attempt ≡ settled pair synced → (file : FileName) → IsOfAttempt attempt file → IsSameOrGone (pair file) (told.held file)

-- No file of an attempt is written by anyone but its child: no write of it is asked for, whoever it is lent to. Once that has ended it is what it was then, or gone.
pub record KeepsFiles (old new : Told) : Type 0 where
  pub goes : KeepsPast old new
  pub unwritten : (file : FileName) → ¬ IsOfStore file → new.writes file ≡ old.writes file
  pub written : (file : FileName) → ¬ IsOfStore file → NeverWritten old new file
  pub settled : KeepsSettled old → KeepsSettled new

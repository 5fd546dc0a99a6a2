-- A file beside the bytes that it is to have.
--     IsAlike want got n      both begin with the same n bytes.      IsSoFar want got n      so does what was found, of which nothing was compared yet where it is absent
--     IsPiece whole place bytes      these stand at a place of a whole file
--     SaysAlike file want got n result      they are alike up to n, or this is the first difference
--     IsFirstOther want got result      the first place at which they differ, or where these end before those.      ends got      what a file has at its front that has no byte
--     IsByteOf produced place n d      the difference is at one of so many bytes that the file is to have from there on.      IsEndOf produced d      it is behind all that it is to have
--     SaysEnd file want got result      the first difference, or that there is none
use Rattle.std.specs.Prelude.{◌≡◌, ℕ, ◌+◌, ◌<◌, ◌≤◌, length, take, drop, Option, Some, None, Result, Ok, Err}
use Rattle.ip_spec.specs.declared.reply.Produced.{Produced}
use Rattle.ip_spec.specs.declared.reply.Seen.{Seen}
use Rattle.ip_spec.specs.declared.reply.Difference.{Difference}
use Rattle.ip_spec.specs.Path.{Bytes}
use Rattle.ip_image.specs.Collection.{common_length, difference}

pub record IsAlike (want got : Bytes) (n : ℕ) : Type 0 where
  pub wanted : n ≤ length want
  pub found : n ≤ length got
  pub same : take n got ≡ take n want

abbrev pub IsSoFar : Bytes → Option Bytes → ℕ → Type 0
IsSoFar want None n = n ≡ 0
IsSoFar want (Some got) n = IsAlike want got n

pub record IsPiece (whole : Bytes) (place : ℕ) (bytes : Bytes) : Type 0 where
  pub inside : place + length bytes ≤ length whole
  pub here : take (length bytes) (drop place whole) ≡ bytes

abbrev pub SaysAlike : {E : Type 0} → Produced → Bytes → Option Bytes → ℕ → Result (Option Difference) E → Type 0
SaysAlike file want got n (Ok None) = IsSoFar want got n
SaysAlike file want got n (Ok (Some found)) = difference file want got ≡ Some found
SaysAlike file want got n (Err fault) = Unit {0}

abbrev pub SaysEnd : {E : Type 0} → Produced → Bytes → Option Bytes → Result (Option Difference) E → Type 0
SaysEnd file want got (Ok found) = found ≡ difference file want got
SaysEnd file want got (Err fault) = Unit {0}

pub record IsByteOf (produced : Produced) (place n : ℕ) (d : Difference) : Type 0 where
  pub file : d.file ≡ produced
  pub low : place ≤ d.at
  pub high : d.at < place + n
  pub want : (byte : ℕ) × (d.want ≡ Seen.Byte byte)

pub record IsEndOf (produced : Produced) (d : Difference) : Type 0 where
  pub file : d.file ≡ produced
  pub want : d.want ≡ Seen.End

-- none: what is wanted is in front of what is there
abbrev pub IsFirstOther : Bytes → Bytes → Option ℕ → Type 0
IsFirstOther want got None = common_length want got ≡ length want
IsFirstOther want got (Some index) = (index < length want) × (common_length want got ≡ index)

abbrev pub ends : Option Bytes → Seen
ends None = Seen.Absent
ends (Some bytes) = Seen.End

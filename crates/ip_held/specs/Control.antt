-- The control file of a store without commits.
--     control_in image      its bytes; an absent file has none
--     IsFresh chunk image      it begins with what `init` writes for this chunk size
use Rattle.std.specs.Prelude.{◌≡◌, ℕ, take}
use Rattle.ip_spec.specs.Path.{Bytes}
use Rattle.ip_ground.specs.Contents.{Image, bytes_of}
use Rattle.ip_ground.specs.declared.names.FileName.TheVariants.{Control}
use Rattle.ip_image.specs.Slot.{fresh_control}

abbrev pub control_in : Image → Bytes
control_in image = bytes_of (image Control)

abbrev pub IsFresh : ℕ → Image → Type 0
IsFresh chunk image = take 256 (control_in image) ≡ fresh_control chunk

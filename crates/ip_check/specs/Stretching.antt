-- Kept records that lie end to end.
--     AreLinked at runs      the first begins there, and each where the one before it ends
--     IsStretch kept most stretch      some of them from the front on, up to so many
--     IsCutShort bytes_at kept at      of some from the front on, which begin there, a byte is missing
use Rattle.std.specs.Prelude.{◌≡◌, ℕ, ◌+◌, ◌<◌, ◌≤◌, List, [], ◌∷◌, length, take, Option, None}
use Rattle.ip_image.specs.declared.run.Run.{Run}
use Rattle.ip_image.specs.Virtual.{total}
use Rattle.ip_check.specs.declared.prefix.Stretch.{Stretch}

abbrev pub AreLinked : ℕ → List Run → Type 0
AreLinked at [] = Unit {0}
AreLinked at (run ∷ runs) = (run.at ≡ at) × AreLinked (at + run.length) runs

pub record IsStretch (kept : List Run) (most : ℕ) (stretch : Stretch) : Type 0 where
  pub some : 1 ≤ stretch.records
  pub few : stretch.records ≤ most
  pub within : stretch.records ≤ length kept
  pub linked : AreLinked stretch.at (take stretch.records kept)
  pub length : stretch.length ≡ total (take stretch.records kept)

pub record IsCutShort (bytes_at : ℕ → Option ℕ) (kept : List Run) (at : ℕ) : Type 0 where
  pub records : ℕ
  pub linked : AreLinked at (take records kept)
  pub gap : ℕ
  pub inside : gap < total (take records kept)
  pub missing : bytes_at (at + gap) ≡ None

-- Whose the files of an attempt are.
use Rattle.std.specs.Prelude.{◌≡◌, ℕ, Bool, true, false, if◌then◌else◌, IsFalse, ◌==◌}
use Rattle.ip_ground.specs.declared.names.FileName.{FileName}
use Rattle.ip_ground.specs.declared.names.FileName.TheVariants.{Control, Chunk, Prefix, Mapping, Done}
use Rattle.ip_ground.specs.Contents.{Image}

-- An attempt was never lent; or it is lent; or it was lent and then settled, when its files held this, and these of
-- them were synced since.
pub data Custody : Type 0 where
  own : Custody
  lent : Custody
  settled : (held : Image) (synced : FileName → Bool) → Custody

-- the files that are no attempt's are never lent
abbrev pub custody_of : (ℕ → Custody) → FileName → Custody
custody_of lending Control = own
custody_of lending (Chunk number) = own
custody_of lending (Prefix attempt) = lending attempt
custody_of lending (Mapping attempt) = lending attempt
custody_of lending (Done attempt) = lending attempt

-- a file of this attempt
abbrev pub IsOfAttempt : ℕ → FileName → Type 0
IsOfAttempt n Control = ⊥
IsOfAttempt n (Chunk number) = ⊥
IsOfAttempt n (Prefix attempt) = attempt ≡ n
IsOfAttempt n (Mapping attempt) = attempt ≡ n
IsOfAttempt n (Done attempt) = attempt ≡ n

-- its child may change the files between any two calls
abbrev pub IsForeign : Custody → Type 0
IsForeign own = ⊥
IsForeign lent = Unit {0}
IsForeign (settled held synced) = ⊥

-- a crash may leave anything in this file
abbrev pub IsLoose : Custody → FileName → Type 0
IsLoose own file = ⊥
IsLoose lent file = Unit {0}
IsLoose (settled held synced) file = IsFalse (synced file)

abbrev pub is_same_file : FileName → FileName → Bool
is_same_file Control Control = true
is_same_file (Chunk m) (Chunk n) = m == n
is_same_file (Prefix m) (Prefix n) = m == n
is_same_file (Mapping m) (Mapping n) = m == n
is_same_file (Done m) (Done n) = m == n
is_same_file f g = false

-- settled files of which one more is synced
abbrev pub with_synced : FileName → Custody → Custody
with_synced file own = own
with_synced file lent = lent
with_synced file (settled held synced) = settled held (λ other. if is_same_file other file then true else synced other)

-- the custody of an attempt after a sync of a file
abbrev pub after_sync : FileName → ℕ → Custody → Custody
after_sync Control attempt custody = custody
after_sync (Chunk number) attempt custody = custody
after_sync (Prefix n) attempt custody = if n == attempt then with_synced (Prefix n) custody else custody
after_sync (Mapping n) attempt custody = if n == attempt then with_synced (Mapping n) custody else custody
after_sync (Done n) attempt custody = if n == attempt then with_synced (Done n) custody else custody

-- the custody of an attempt whose child has ended, where the files hold this
abbrev pub after_settle : Image → Custody → Custody
after_settle now own = own
after_settle now lent = settled now (λ _. false)
after_settle now (settled held synced) = settled held synced

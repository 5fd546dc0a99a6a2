-- Damage that is found is noted: what was told before is so still behind the note, and an answer is counted as what it is.
--     bad_later, covers_later      what was found of the records, over calls that change no file
--     counts_placed, counts_unread      an answer that shows a place, and why none was read.      none_ground, none_missing      what taking a record gave is no fault of the ground, nor that there is no store
use Rattle.std.proofs.Common.{◌≡◌, ◌≢◌, ℕ, Bool, sym, subst}
use Rattle.std.specs.Prelude.{Option, Err, IsTrue}
use Rattle.ip_ground.specs.declared.names.FileName.{FileName}
use Rattle.ip_ground.specs.Counts.{CountsIf, DamageFound, Noted}
use Rattle.ip_ground.specs.Told.{Told, NoFile, ChangesOnly}
use Rattle.ip_spec.specs.declared.record.Record.{Record}
use Rattle.ip_spec.specs.Record.{spelling}
use Rattle.ip_spec.specs.TreeAt.{Records}
use Rattle.ip_image.specs.declared.slot.Slot.{Slot}
use Rattle.ip_image.specs.Standing.{FillTo, RunByRun}
use Rattle.ip_image.specs.Virtual.{Stands}
use Rattle.ip_space.specs.Faults.{counted_fetch}
use Rattle.ip_space.specs.SpaceView.{SpaceView, IsReadable, byte_at, stretches_of}
use Rattle.ip_space.specs.declared.fault.FetchFault.{FetchFault}
use Rattle.ip_space.proofs.StoodBytes.{alike}
use Rattle.ip_space.proofs.Stayed.{byte_stays, readable_before}
use Rattle.ip_opens.specs.declared.opening.OpenFault.{OpenFault}
use Rattle.ip_opens.specs.declared.walk.Found.{Found}
use Rattle.ip_opens.specs.OpenFaults.{counted_open}
use Rattle.ip_opens.specs.Walk.{IsPlaced, IsUnread, TakesRead, Covers, BadRecord}

-- ---- what was told before

module _ (s : Slot) (space : SpaceView) (a b : Told) where
  module _ (only : ChangesOnly NoFile a b) (readable : IsReadable a space) where
    same_bytes : byte_at b space ≡ byte_at a space
    same_bytes = alike (byte_at a space) (byte_at b space) (byte_stays a b only space readable)

    pub bad_later : (file : FileName) (place : ℕ) → BadRecord s a space file place → BadRecord s b space file place
    bad_later file place bad = record {
      before = bad.before;
      good = bad.good;
      at = bad.at;
      to = bad.to;
      fill = subst (λ (f : ℕ → Option ℕ). FillTo f (stretches_of space) bad.before bad.at bad.to) (sym same_bytes) bad.fill;
      none = λ r inside stands. bad.none r inside (subst (λ (f : ℕ → Option ℕ). Stands f bad.at (spelling r)) same_bytes stands);
      here = bad.here;
    }

    runs_later : (records : Records) → RunByRun (byte_at a space) (stretches_of space) records → RunByRun (byte_at b space) (stretches_of space) records
    runs_later records fill = subst (λ (f : ℕ → Option ℕ). RunByRun f (stretches_of space) records) (sym same_bytes) fill

  pub covers_later : (tells : Bool) (found : Found) → (IsTrue tells → ChangesOnly NoFile a b) → Covers s tells a space found → Covers s tells b space found
  covers_later tells found only covers = record {
    records = covers.records;
    true_of = covers.true_of;
    within = covers.within;
    fill = λ t readable. let was = readable_before a b (only t) space readable in runs_later (only t) was covers.records (covers.fill t was);
  }

-- ---- what is counted

pub counts_placed : (space : SpaceView) (at : ℕ) (out : OpenFault) (old new : Noted) → IsPlaced space at out → DamageFound old new → CountsIf (counted_open out) old new
counts_placed space at (OpenFault.Damaged file place) old new is found = found
counts_placed space at OpenFault.NoStore old new is found = absurd is
counts_placed space at OpenFault.Ground old new is found = absurd is
counts_placed space at OpenFault.Memory old new is found = absurd is

pub counts_unread : (space : SpaceView) (fault : FetchFault) (out : OpenFault) (old new : Noted) → IsUnread space fault out → CountsIf (counted_fetch fault) old new → CountsIf (counted_open out) old new
counts_unread space FetchFault.Ground out old new is counts = subst (λ (f : OpenFault). CountsIf (counted_open f) old new) (sym is) counts
counts_unread space (FetchFault.Form at fault) out old new is counts = counts_placed space at out old new is counts
counts_unread space (FetchFault.Name at want got) out old new is counts = absurd is
counts_unread space FetchFault.Memory out old new is counts = subst (λ (f : OpenFault). CountsIf (counted_open f) old new) (sym is) counts

pub none_ground : (s : Slot) (space : SpaceView) (at : ℕ) (r : Record) (old new : Found) (fault : OpenFault) → TakesRead s space at r old new (Err fault) → fault ≢ OpenFault.Ground
none_ground s space at r old new OpenFault.Ground takes is = takes
none_ground s space at r old new OpenFault.NoStore takes is = takes
none_ground s space at r old new (OpenFault.Damaged file place) takes is = cc is
none_ground s space at r old new OpenFault.Memory takes is = cc is

pub none_missing : (s : Slot) (space : SpaceView) (at : ℕ) (r : Record) (old new : Found) (fault : OpenFault) → TakesRead s space at r old new (Err fault) → fault ≡ OpenFault.NoStore → ⊥
none_missing s space at r old new OpenFault.NoStore takes is = takes
none_missing s space at r old new OpenFault.Ground takes is = takes
none_missing s space at r old new (OpenFault.Damaged file place) takes is = cc is
none_missing s space at r old new OpenFault.Memory takes is = cc is

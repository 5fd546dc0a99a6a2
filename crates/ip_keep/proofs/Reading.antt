-- What a read tells of a record.
--     current_later      what was read ahead is so still where no file changed
use Rattle.std.proofs.Common.{◌≡◌, ℕ, refl, sym, ap, subst, ◌∙◌}
use Rattle.std.specs.Prelude.{Option, Some, Err, IsErrOf}
use Rattle.ip_ground.specs.Counts.{Counted, CountsIf, Noted}
use Rattle.ip_ground.specs.Told.{Told, NoFile, ChangesOnly}
use Rattle.ip_spec.specs.declared.record.Record.{Record}
use Rattle.ip_space.specs.Faults.{counted_fetch}
use Rattle.ip_space.specs.Fetching.{FindsRecord}
use Rattle.ip_space.specs.Ahead.{Shows}
use Rattle.ip_space.specs.ScanView.{ScanView}
use Rattle.ip_space.specs.Scanning.{Finds, IsCurrent}
use Rattle.ip_space.specs.SpaceView.{SpaceView, IsReadable, byte_at}
use Rattle.ip_space.proofs.Stayed.{byte_stays}
use Rattle.ip_space.proofs.StoodBytes.{alike}
use Rattle.ip_space.specs.declared.fault.FetchFault.{FetchFault}
use Rattle.ip_space.specs.declared.fault.FetchFault.TheVariants.{Ground, Form, Name, Memory}
use Rattle.ip_keep.specs.declared.fault.KeepFault.{KeepFault}
use Rattle.ip_keep.specs.Faults.{counted_keep, unread_as}

pub scan_damaged : {A : Type 0} (records : ℕ → Option Record) (next at : ℕ) (fault : FetchFault) → Finds records next (Err fault) → (place : ℕ) → IsErrOf {T = A} (Err (unread_as at fault)) (KeepFault.Damaged place)
    → (rec : Record) → records next ≡ Some rec → ⊥
scan_damaged records next at Ground finds place is rec there = absurd (cc (is))
scan_damaged records next at (Form p fault) finds place is rec there = absurd (cc (finds, there))
scan_damaged records next at (Name p want got) finds place is rec there = absurd finds
scan_damaged records next at Memory finds place is rec there = absurd (cc (is))

pub read_damaged : {A : Type 0} (records : ℕ → Option Record) (next at : ℕ) (fault : FetchFault) → FindsRecord records next (Err fault) → (place : ℕ) → IsErrOf {T = A} (Err (unread_as at fault)) (KeepFault.Damaged place)
    → (rec : Record) → records next ≡ Some rec → ⊥
read_damaged records next at Ground finds place is rec there = absurd (cc (is))
read_damaged records next at (Form p fault) finds place is rec there = absurd (cc (finds, there))
read_damaged records next at (Name p want got) finds place is rec there = absurd finds
read_damaged records next at Memory finds place is rec there = absurd (cc (is))

pub unread_blames : {A : Type 0} (at : ℕ) (fault : FetchFault) (place : ℕ) → IsErrOf {T = A} (Err (unread_as at fault)) (KeepFault.Damaged place) → place ≡ at
unread_blames at Ground place is = absurd (cc (is))
unread_blames at (Form p fault) place is = cc (is)
unread_blames at (Name p want got) place is = cc (is)
unread_blames at Memory place is = absurd (cc (is))

pub same_ground : (at : ℕ) (fault : FetchFault) → counted_keep (unread_as at fault) ≡ counted_fetch fault
same_ground at Ground = refl
same_ground at (Form p fault) = refl
same_ground at (Name p want got) = refl
same_ground at Memory = refl

pub counted_as : (at : ℕ) (fault : FetchFault) (result : KeepFault) (old new : Noted) → result ≡ unread_as at fault → CountsIf (counted_fetch fault) old new → CountsIf (counted_keep result) old new
counted_as at fault result old new is counts = subst (λ (b : Counted). CountsIf b old new) (sym (ap counted_keep is ∙ same_ground at fault)) counts

pub current_later : (a b : Told) (space : SpaceView) (scan : ScanView) → ChangesOnly NoFile a b → IsReadable a space → IsCurrent a space scan → IsCurrent b space scan
current_later a b space scan only readable =
    subst (λ (f : ℕ → Option ℕ). Shows f space.layout.end scan.next scan.ahead) (sym (alike (byte_at a space) (byte_at b space) (byte_stays a b only space readable)))

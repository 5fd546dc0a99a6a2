-- What is known of the files of an attempt that was settled.
use Rattle.std.proofs.Common.{◌≡◌, ℕ, Bool, true, false, refl, ◌∙◌, ap, subst}
use Rattle.std.specs.Prelude.{◌==◌, if◌then◌else◌, Result, Ok, Err}
use Rattle.ip_ground.specs.declared.names.FileName.{FileName}
use Rattle.ip_ground.specs.declared.names.FileName.TheVariants.{Control, Chunk, Prefix, Mapping, Done}
use Rattle.ip_ground.specs.declared.names.GroundFault.{GroundFault}
use Rattle.ip_ground.specs.Contents.{Image}
use Rattle.ip_ground.specs.Custody.{Custody, lent, settled, custody_of, IsOfAttempt, is_same_file, with_synced, after_sync, after_settle}
use Rattle.ip_ground.specs.Custody as custody
use Rattle.ip_ground.specs.Told.{Told, lending, IsForeign, IsSettledAs, ChangesOnly}
use Rattle.ip_ground.specs.Calls.{Syncs, Settles}
use Rattle.ip_ground.proofs.Spans.{lending_now}

-- the custody of a file is that of its attempt
pub of_attempt : (lending : ℕ → Custody) (n : ℕ) (file : FileName) → IsOfAttempt n file → custody_of lending file ≡ lending n
of_attempt lending n Control is = absurd is
of_attempt lending n (Chunk m) is = absurd is
of_attempt lending n (Prefix m) is = ap lending is
of_attempt lending n (Mapping m) is = ap lending is
of_attempt lending n (Done m) is = ap lending is

-- the pair of a lent attempt is settled
pub settled_at : (n : ℕ) (a b : Told) → lending a n ≡ lent → Settles n (Ok tt) a b → IsSettledAs b n b.held
settled_at n a b was settles = (λ file. false, settles.ok ∙ ap (after_settle b.held) was)

-- its files are no longer the child's
pub own_settled : (n : ℕ) (a : Told) (pair : Image) (file : FileName) → IsSettledAs a n pair → IsOfAttempt n file → ¬ IsForeign a file
own_settled n a pair file is of foreign = subst custody.IsForeign (of_attempt (lending a) n file of ∙ is.1) foreign

sync_if : (b : Bool) (file : FileName) (pair : Image) (synced : FileName → Bool) → (later : FileName → Bool) × ((if b then with_synced file (settled pair synced) else settled pair synced) ≡ settled pair later)
sync_if true file pair synced = (λ other. if is_same_file other file then true else synced other, refl)
sync_if false file pair synced = (synced, refl)

sync_settled : (file : FileName) (n : ℕ) (pair : Image) (synced : FileName → Bool) → (later : FileName → Bool) × (after_sync file n (settled pair synced) ≡ settled pair later)
sync_settled Control n pair synced = (synced, refl)
sync_settled (Chunk m) n pair synced = (synced, refl)
sync_settled (Prefix m) n pair synced = sync_if (m == n) (Prefix m) pair synced
sync_settled (Mapping m) n pair synced = sync_if (m == n) (Mapping m) pair synced
sync_settled (Done m) n pair synced = sync_if (m == n) (Done m) pair synced

-- the ground tells the settled pair from then on
pub settled_syncs : (n : ℕ) (a b : Told) (pair : Image) (file : FileName) (r : Result (Unit {0}) GroundFault) → IsSettledAs a n pair → Syncs file r a b → IsSettledAs b n pair
settled_syncs n a b pair file (Ok u) is syncs = let later = sync_settled file n pair is.0 in (later.0, syncs.lending n ∙ ap (after_sync file n) is.1 ∙ later.1)
settled_syncs n a b pair file (Err e) is syncs = (is.0, lending_now a b syncs.goes n (syncs.refused.lending n) ∙ is.1)

pub settled_stays : (n : ℕ) (a b : Told) (pair : Image) (these : FileName → Type 0) → IsSettledAs a n pair → ChangesOnly these a b → IsSettledAs b n pair
settled_stays n a b pair these is only = (is.0, lending_now a b only.goes n (only.lending n) ∙ is.1)

-- What a collection that is finished does to what is told, span by span.
--     listens_at      the end of a child is heard.      listens_none      it was known
--     Spared r records a b      a span over which the repository stays, and the control file.      spared_by      of a change of files apart from the store
--     either_less      what a crash may leave of an earlier moment.      atomic_front, atomic_behind      a span before and behind one that turns from one repository to the next
use Rattle.std.proofs.Common.{◌≡◌, ◌≢◌, inl, inr, ℕ, ◌<◌, ◌≤◌, None, subst}
use Rattle.std.specs.Prelude.{Result, Ok, Err}
use Rattle.std.proofs.lemmas.Bool.{cases_lt}
use Rattle.ip_ground.specs.declared.names.FileName.{FileName}
use Rattle.ip_ground.specs.declared.names.FileName.TheVariants.{Control}
use Rattle.ip_ground.specs.declared.names.GroundFault.{GroundFault}
use Rattle.ip_ground.specs.Calls.{Settles}
use Rattle.ip_ground.specs.Contents.{Content}
use Rattle.ip_ground.specs.Told.{Told, IsSynced, KeepsFile, KeepsPast, NoFile}
use Rattle.ip_ground.proofs.Spans.{only_nowhere}
use Rattle.ip_spec.specs.Repository.{Repository}
use Rattle.ip_spec.specs.TreeAt.{Records}
use Rattle.ip_image.specs.Headline.{RecoversTo, RecoversToEither, IsAtomic}
use Rattle.ip_image.specs.declared.slot.Slot.{Slot}
use Rattle.ip_image.specs.Pending.{Crash, HasLive, crash_at, crash_now, NothingPending, AllFlushed}
use Rattle.ip_image.specs.Standing.{Standing}
use Rattle.ip_image.proofs.HeadlineLaws.{flushed_less}
use Rattle.ip_collects.specs.Ending.{Listens}
use Rattle.ip_held.specs.StandsBy.{LeavesStill}
use Rattle.ip_held.specs.Held.{Holds}
use Rattle.ip_held.specs.declared.held.Held.{Held}
use Rattle.ip_held.specs.Sweeping.{IsApart, ChangesBeside}
use Rattle.ip_held.proofs.Apart.{list_apart, recovers_apart, pending_apart, flushed_apart, leaves_apart, live_apart}
use Rattle.ip_collects.proofs.Ended.{ends_only, ends_settled}
use Rattle.ip_held.proofs.KeptFiles.{keeps_itself, keeps_ended}
use Rattle.ip_held.proofs.LookedUp.{recovers_less}

-- ---- the attempt is settled

listens : (n : ℕ) (a b : Told) (res : Result (Unit {0}) GroundFault) → Settles n res a b → Listens n a b
listens n a b (Ok u) settles = record { only = ends_settled n NoFile a b u settles; files = keeps_ended a b n (Ok u) settles }
listens n a b (Err e) settles = record { only = ends_only n NoFile a b settles.refused (keeps_ended a b n (Err e) settles); files = keeps_ended a b n (Err e) settles }

pub listens_at : (m n : ℕ) (a b : Told) (res : Result (Unit {0}) GroundFault) → m ≡ n → Settles m res a b → Listens n a b
listens_at m n a b res same settles = subst (λ (k : ℕ). Listens k a b) same (listens m a b res settles)

pub listens_none : (n : ℕ) (a : Told) → Listens n a a
listens_none n a = record { only = ends_only n NoFile a a (only_nowhere a NoFile) (keeps_itself a); files = keeps_itself a }

-- ---- a span over which the repository stays

pub record Spared (r : Repository) (records : Records) (a b : Told) : Type 0 where
  pub goes : KeepsPast a b
  pub kept : IsSynced a Control
  pub control : KeepsFile a b Control
  pub recovers : NothingPending a → (t : ℕ) → a.moment < t → t ≤ b.moment → RecoversTo (crash_at b t) r
  pub pending : NothingPending a → NothingPending b
  pub flushed : NothingPending a → AllFlushed (crash_now b)
  pub same : (B : Standing b.held) → B.records ≡ records
  pub live : (s : Slot) → HasLive s a.held → HasLive s b.held
  pub leaves : NothingPending a → LeavesStill records a b

pub spared_by : (store : Held) (r : Repository) (a : Told) (holds : Holds store a r) → store.collection ≡ None → (n : ℕ) → n ≢ store.slot.live → n < store.slot.next_attempt
    → (these : FileName → Type 0) → ((file : FileName) → these file → IsApart store.slot file) → (b : Told) → ChangesBeside n these a b → Spared r holds.stands.standing.records a b
spared_by store r a holds none n other below these apart b changes = record {
  goes = changes.goes;
  kept = holds.kept;
  control = changes.others Control (apart Control) (λ of. of);
  recovers = recovers_apart store r a holds none n other below these apart b changes;
  pending = pending_apart store r a holds none n other below these apart b changes;
  flushed = flushed_apart store r a holds none n other below these apart b changes;
  same = list_apart store r a holds none n other below these apart b changes;
  live = live_apart store r a holds none n other below these apart b changes;
  leaves = leaves_apart store r a holds none n other below these apart b changes;
}

-- what a crash may leave of an earlier moment does not grow
either_less : (crash less : Crash) (r q : Repository) → ((file : FileName) (content : Content) → less.leave file content → crash.leave file content) → ((attempt : ℕ) → less.lending attempt ≡ crash.lending attempt) → RecoversToEither crash r q → RecoversToEither less r q
either_less crash less r q leaves same was = record {
  stands = λ image possible. was.stands image (λ file. leaves file (image file) (possible file));
  flushed = flushed_less crash less leaves same was.flushed;
}

module _ (r q : Repository) (a b c : Told) where
  -- one before it
  pub atomic_front : KeepsPast b c → ((t : ℕ) → a.moment < t → t ≤ b.moment → RecoversTo (crash_at b t) r) → IsAtomic b c r q → IsAtomic a c r q
  atomic_front goes stays is t after le = elim (cases_lt b.moment t) [
    | inl late ↦ is t late le
    | inr early ↦
        let there = recovers_less (crash_at b t) (crash_at c t) r (λ file content left. goes.left t file content early left) (λ attempt. goes.lending t attempt early) (stays t after early) in
        record { stands = λ image possible. inl (there.stands image possible); flushed = there.flushed }
  ]

  -- and one behind it
  pub atomic_behind : KeepsPast b c → IsAtomic a b r q → ((t : ℕ) → b.moment < t → t ≤ c.moment → RecoversTo (crash_at c t) q) → IsAtomic a c r q
  atomic_behind goes is stays t after le = elim (cases_lt b.moment t) [
    | inl late ↦ (let there = stays t late le in record { stands = λ image possible. inr (there.stands image possible); flushed = there.flushed })
    | inr early ↦ either_less (crash_at b t) (crash_at c t) r q (λ file content left. goes.left t file content early left) (λ attempt. goes.lending t attempt early) (is t after early)
  ]

-- over which nothing turned
pub atomic_still : (r q : Repository) (a b : Told) → ((t : ℕ) → a.moment < t → t ≤ b.moment → RecoversTo (crash_at b t) r) → IsAtomic a b r q
atomic_still r q a b stays t after le = (let there = stays t after le in record { stands = λ image possible. inl (there.stands image possible); flushed = there.flushed })

-- A collection that is cancelled.
--     turns_idle, turns_orphan, turns_done      what the machine answers
--     over store u      the store once no collection runs, with what is unswept.      unswept_now store left      that, where a sweep has left so many
--     over_tables, over_holds      what it holds then.      unswept_is      and what is unswept
--     idle_answers, orphan_answers, done_answers      the answers, with the tables.      none_runs      a collection of which a test says so
--     idle, held_idle      the store without it holds what it held.      phase, other, below      its attempt is not the live one, and was drawn
--     for_settle      an attempt is settled
--     orphan_left, cut_off, swept_away      what each way out does to what is told, and what the store holds then.      orphan_stays, swept_stays      each record stays, and there are no others: swept_list; nor does a crash leave others: cut_leaves, swept_leaves
use Rattle.std.proofs.Common.{◌≡◌, ◌≢◌, ℕ, ◌<◌, Option, Some, None, true, refl, sym, ◌∙◌, ap, subst, arith}
use Rattle.std.specs.Prelude.{Bool, false, ◌/◌, ◌≤◌, Result, Ok, Err, if◌then◌else◌, ◌==◌}
use Rattle.std.proofs.lemmas.Bool.Decides.{nat_tests}
use Rattle.ip_ground.specs.declared.names.FileName.{FileName}
use Rattle.ip_ground.specs.declared.names.FileName.TheVariants.{Control, Chunk, Prefix, Mapping, Done}
use Rattle.ip_ground.specs.declared.names.GroundFault.{GroundFault}
use Rattle.ip_ground.specs.Calls.{Settles}
use Rattle.ip_ground.specs.Custody.{after_settle, lent}
use Rattle.ip_ground.specs.Contents.{Image}
use Rattle.ip_ground.specs.Told.{Told, lending, IsForeign, IsSettledAs, NoFile}
use Rattle.ip_ground.proofs.Lending.{settled_at, settled_stays}
use Rattle.ip_ground.proofs.Spans.{only_more, only_nowhere}
use Rattle.ip_spec.specs.declared.command.Command.TheVariants as Command
use Rattle.ip_spec.specs.declared.reply.Reply.{Reply}
use Rattle.ip_spec.specs.Machine.{Phase, Work}
use Rattle.ip_spec.specs.Repository.{Repository}
use Rattle.ip_spec.specs.TreeAt.{Records, present}
use Rattle.ip_spec.specs.Step.{outcome, turned}
use Rattle.ip_image.specs.declared.slot.Slot.{Slot}
use Rattle.ip_image.specs.Pending.{NothingPending}
use Rattle.ip_image.specs.Slot.{IsSlot}
use Rattle.ip_collects.specs.declared.cancelling.CancelFault.{CancelFault}
use Rattle.ip_collects.specs.declared.cancelling.Cancelled.{Cancelled}
use Rattle.ip_held.specs.declared.collection.Collection.{Collection}
use Rattle.ip_held.specs.declared.collection.Unswept.{Unswept}
use Rattle.ip_held.specs.declared.held.Held.{Held}
use Rattle.ip_collects.specs.Cancelling.{Cancels}
use Rattle.ip_held.specs.Collecting.{phase_of, IsPhase, IsPhaseOf, IsUnswept}
use Rattle.ip_held.specs.Answers.{Turns, met_nothing}
use Rattle.ip_collects.specs.Starting.{AnswersCall}
use Rattle.ip_held.specs.StandsBy.{LeavesStill}
use Rattle.ip_held.specs.Held.{IsOf, Holds, image_records}
use Rattle.ip_held.specs.Sweeping.{AllBut, IsApart, IsSwept, SweepsFiles, ChangesFor, KeepsFiles, swept_to}
use Rattle.ip_held.specs.Trees.{RecordsStay}
use Rattle.ip_held.specs.Work.{state_at}
use Rattle.ip_held.proofs.Apart.{beside_for, for_only, for_before, holds_apart, list_apart, recovers_apart, pending_apart, flushed_apart, leaves_apart, space_apart}
use Rattle.ip_held.proofs.KeptFiles.{keeps_itself, keeps_on, keeps_ended, keeps_swept}
use Rattle.ip_held.proofs.Machine.{asks_none}
use Rattle.ip_held.proofs.SlotLaws.{slots_for}
use Rattle.ip_collects.proofs.Swept.{foreign_on}
use Rattle.ip_held.proofs.Clearing.{zero_is}

-- ---- the machine

turns_idle : (r : Repository) (o : Option Collection) (work : Work) → o ≡ None → Turns (state_at r (phase_of o) work) Command.Cancel met_nothing Reply.Idle (state_at r Phase.Idle work)
unfolding outcome turned
turns_idle r None work none = (
  record {
    child = refl;
    checking = tt;
    start = λ t. absurd (cc (t));
    kill = λ t. absurd (cc (t));
    left = λ l. absurd (omega (arith, l));
    short = tt;
    refused = λ t. absurd (cc (t));
  },
  refl,
)
turns_idle r (Some c) work none = absurd (cc (none))

module _ (r : Repository) (c : Collection) (work : Work) where
  turns_orphan : c.exit ≡ None → Turns (state_at r (phase_of (Some c)) work) Command.Cancel (record met_nothing { kill_failed = true }) Reply.CancelledOrphan (state_at r Phase.Idle work)
  unfolding outcome turned
  turns_orphan none = (
    record {
      child = asks_none (phase_of (Some c)) Command.Cancel tt;
      checking = tt;
      start = λ t. absurd (cc (t));
      kill = λ t. (refl, none);
      left = λ l. absurd (omega (arith, l));
      short = tt;
      refused = λ t. absurd (cc (t));
    },
    refl,
  )

  turns_done : (left : ℕ) → Turns (state_at r (phase_of (Some c)) work) Command.Cancel (record met_nothing { left = left }) Reply.Cancelled (state_at r Phase.Idle work)
  unfolding outcome turned
  turns_done left = (
    record {
      child = asks_none (phase_of (Some c)) Command.Cancel tt;
      checking = tt;
      start = λ t. absurd (cc (t));
      kill = λ t. absurd (cc (t));
      left = λ l. tt;
      short = tt;
      refused = λ t. absurd (cc (t));
    },
    refl,
  )

-- ---- what is unswept

positive : (n : ℕ) → (n == 0) ≡ false → 1 ≤ n
positive n is = grind (arith, nat_tests)

-- behind a sweep
abbrev pub unswept_now : Held → ℕ → Unswept
unswept_now store left = if left == 0 then swept_to store.slot else store.unswept

swept_by : (s : Slot) → IsSlot s → (b : Bool) → (s.live == 0) ≡ b → IsUnswept s (record { chunk = s.horizon / s.chunk; attempt = if b then s.next_attempt else s.live })
swept_by s of true is = record { chunk = omega arith; low = (let less = of.live in omega (arith, less)); high = omega arith; live = λ some. absurd (some (zero_is s.live is)) }
swept_by s of false is = record { chunk = omega arith; low = positive s.live is; high = (let less = of.live in omega (arith, less)); live = λ some. omega arith }

unswept_by : (s : Slot) (x y : Unswept) (b : Bool) → IsUnswept s x → IsUnswept s y → IsUnswept s (if b then x else y)
unswept_by s x y true one other = one
unswept_by s x y false one other = other

pub unswept_is : (store : Held) (r : Repository) (left : ℕ) → IsOf store r → IsUnswept store.slot (unswept_now store left)
unswept_is store r left of = unswept_by store.slot (swept_to store.slot) store.unswept (left == 0) (swept_by store.slot of.slot (store.slot.live == 0) refl) of.unswept

-- ---- the tables

-- no collection runs, and this is unswept
abbrev pub over : Held → Unswept → Held
over store u = record store { collection = None; unswept = u }

-- the same, whatever says that none runs
abbrev pub ending : Held → Option Collection → Unswept → Held
ending store o u = record store { collection = o; unswept = u }

pub over_tables : (store : Held) (r : Repository) (u : Unswept) → IsUnswept store.slot u → IsOf store r → IsOf (over store u) r
over_tables store r u unswept of = record {
  slot = of.slot;
  index = of.index;
  floor = of.floor;
  next = of.next;
  names = of.names;
  hashes = of.hashes;
  branches = of.branches;
  retained = of.retained;
  history = of.history;
  parents_first = of.parents_first;
  space = of.space;
  placed = of.placed;
  phase = tt;
  unswept = unswept;
  named = of.named;
  within = of.within;
  rising = of.rising;
  going = tt;
}

-- where it holds a repository so does the store once the collection is over
abbrev pub over_holds : (store : Held) (r : Repository) (u : Unswept) (told : Told) → IsUnswept store.slot u → Holds store told r → Holds (over store u) told r
over_holds store r u told unswept held = record {
  tables = over_tables store r u unswept held.tables;
  stands = held.stands;
  live = held.live;
  kept = held.kept;
  pair = held.pair;
  runs = held.runs;
  places = held.places;
  collects = tt;
  current = held.current;
}

pub none_runs : (o : Option Collection) → ((c : Collection) → o ≡ Some c → ⊥) → o ≡ None
none_runs None not = refl
none_runs (Some c) not = absurd (not c refl)

-- the answer, whatever says that none runs then
module _ (store : Held) (r : Repository) (of : IsOf store r) where
  pub idle_answers : store.collection ≡ None → AnswersCall r store.collection Command.Cancel met_nothing (over store store.unswept) Reply.Idle
  idle_answers none = record {
    turns = λ work. turns_idle r store.collection work none;
    tables = over_tables store r store.unswept of.unswept of;
  }

  module _ (c : Collection) (runs : store.collection ≡ Some c) where
    pub orphan_answers : c.exit ≡ None → AnswersCall r store.collection Command.Cancel (record met_nothing { kill_failed = true }) (over store store.unswept) Reply.CancelledOrphan
    orphan_answers none = record {
      turns = λ work. subst (λ (o : Option Collection). Turns (state_at r (phase_of o) work) Command.Cancel (record met_nothing { kill_failed = true }) Reply.CancelledOrphan (state_at r Phase.Idle work)) (sym runs) (turns_orphan r c work none);
      tables = over_tables store r store.unswept of.unswept of;
    }

    pub done_answers : (left : ℕ) → AnswersCall r store.collection Command.Cancel (record met_nothing { left = left }) (over store (unswept_now store left)) Reply.Cancelled
    done_answers left = record {
      turns = λ work. subst (λ (o : Option Collection). Turns (state_at r (phase_of o) work) Command.Cancel (record met_nothing { left = left }) Reply.Cancelled (state_at r Phase.Idle work)) (sym runs) (turns_done r c work left);
      tables = over_tables store r (unswept_now store left) (unswept_is store r left of) of;
    }

-- ---- what is told

pub for_settle : (n : ℕ) (these : FileName → Type 0) (u : Unit {0}) (a b : Told) → Settles n (Ok u) a b → ChangesFor n these a b
for_settle n these u a b settles = record {
  goes = settles.goes;
  others = λ file other not. settles.files file;
  unwritten = λ file of. (settles.files file).unwritten;
  turns = settles.turns;
  lending = settles.others;
  said = settles.said;
}

-- a sweep removes no file of the store
pub swept_apart : (s : Slot) (u : Unswept) (file : FileName) → IsSwept s u file → IsApart s file
swept_apart s u Control is = is
swept_apart s u (Chunk n) is = is.1
swept_apart s u (Prefix n) is = is.1
swept_apart s u (Mapping n) is = is.1
swept_apart s u (Done n) is = tt

module _ (store : Held) (r : Repository) (a : Told) (holds : Holds store a r) (c : Collection) (runs : store.collection ≡ Some c) where
  abbrev n : ℕ
  n = c.job.attempt

  -- the store as it is once the collection is over
  abbrev pub idle : Held
  idle = over store store.unswept

  abbrev pub held_idle : Holds idle a r
  held_idle = over_holds store r store.unswept a holds.tables.unswept holds

  abbrev these : FileName → Type 0
  these = IsSwept store.slot store.unswept

  pub phase : IsPhase store.slot r c
  phase = subst (IsPhaseOf store.slot r) runs holds.tables.phase

  -- its attempt is not the live one, and was drawn
  pub other : n ≢ store.slot.live
  other same = (let told = phase.told in absurd (omega (arith, same, told.live, told.valid.live)))

  pub below : n < store.slot.next_attempt
  below = (let told = phase.told in omega (arith, told.attempt))

  apart : (file : FileName) → these file → IsApart store.slot file
  apart file is = swept_apart store.slot store.unswept file is

  -- the records stay, whatever the store holds then
  list_after : (b : Told) → ChangesFor n these a b → (store' : Held) (q : Repository) (now : Holds store' b q) → now.stands.standing.records ≡ holds.stands.standing.records
  list_after b changes store' q now = list_apart idle r a held_idle refl n other below these apart b (beside_for n these a b changes) now.stands.standing

  stays_apart : (b : Told) → ChangesFor n these a b → (store' : Held) (q : Repository) (now : Holds store' b q) → RecordsStay (image_records holds) (image_records now)
  stays_apart b changes store' q now at x there = subst (λ (rs : Records). present rs at ≡ Some x) (sym (list_after b changes store' q now)) there

  -- as do those of each image that a crash leaves
  leaves_after : (b : Told) → ChangesFor n these a b → NothingPending a → LeavesStill holds.stands.standing.records a b
  leaves_after b changes = leaves_apart idle r a held_idle refl n other below these apart b (beside_for n these a b changes)

  module _ (result : Result Cancelled CancelFault) (b : Told) (changes : ChangesFor n these a b) (files : KeepsFiles a b) (u : Unswept) (left : ℕ) (unswept : IsUnswept store.slot u) where
    held_now : Holds (over store u) b r
    held_now = over_holds idle r u b unswept (holds_apart idle r a held_idle refl n other below these apart b (beside_for n these a b changes))

    cancels : (result ≡ Ok Cancelled.Done → lending a n ≡ lent → (pair : Image) × IsSettledAs b n pair) → ((pair : Image) → IsSettledAs a n pair → IsSettledAs b n pair) → (result ≡ Ok Cancelled.Done → left ≡ 0 → (file : FileName) → these file → ¬ IsForeign b file → b.held file ≡ None)
        → (result ≡ Ok Cancelled.Done → AllBut these left b b) → Cancels r c result store.unswept left (over store u) a b
    cancels settled stays gone all_but = record {
      only = changes;
      files = files;
      holds = λ ok. held_now;
      settled = settled;
      stays = stays;
      gone = gone;
      all_but = all_but;
      slots = λ pending. slots_for a b holds.kept these (λ no. no) n changes;
      recovers = λ pending. recovers_apart idle r a held_idle refl n other below these apart b (beside_for n these a b changes) pending;
      nothing_pending = λ pending. pending_apart idle r a held_idle refl n other below these apart b (beside_for n these a b changes) pending;
      flushed = λ pending. flushed_apart idle r a held_idle refl n other below these apart b (beside_for n these a b changes) pending;
      space = λ pending. space_apart idle r a held_idle refl n other below these apart b (beside_for n these a b changes) pending;
    }

    not_done : ¬ (result ≡ Ok Cancelled.Done) → ((pair : Image) → IsSettledAs a n pair → IsSettledAs b n pair) → Cancels r c result store.unswept left (over store u) a b
    not_done not stays = cancels (λ done. absurd (not done)) stays (λ done. absurd (not done)) (λ done. absurd (not done))

  nowhere : ChangesFor n these a a
  nowhere = for_only n these a a (only_nowhere a these) (keeps_itself a)

  -- the kill failed
  pub orphan_left : Cancels r c (Ok Cancelled.Orphan) store.unswept 0 (over store store.unswept) a a
  orphan_left = not_done (Ok Cancelled.Orphan) a nowhere (keeps_itself a) store.unswept 0 holds.tables.unswept (λ done. absurd (cc (done))) (λ pair is. is)

  pub orphan_stays : (store' : Held) (q : Repository) (now : Holds store' a q) → RecordsStay (image_records holds) (image_records now)
  orphan_stays = stays_apart a nowhere

  -- the attempt could not be settled
  module _ (e : GroundFault) (b : Told) (settles : Settles n (Err e) a b) where
    cut_changes : ChangesFor n these a b
    cut_changes = for_only n these a b (only_more a b NoFile these (λ file none. absurd none) settles.refused) (keeps_ended a b n (Err e) settles)

    pub cut_leaves : NothingPending a → LeavesStill holds.stands.standing.records a b
    cut_leaves = leaves_after b cut_changes

    pub cut_off : Cancels r c (Err CancelFault.Ground) store.unswept 0 (over store store.unswept) a b
    cut_off = not_done (Err CancelFault.Ground) b cut_changes (keeps_ended a b n (Err e) settles) store.unswept 0 holds.tables.unswept (λ done. absurd (cc (done)))
        (λ pair is. settled_stays n a b pair NoFile is settles.refused)

  -- or it was, and files were removed
  module _ (left : ℕ) (b d : Told) (settles : Settles n (Ok tt) a b) (sweeps : SweepsFiles these left b d) where
    theirs : (file : FileName) → ¬ IsForeign d file → ¬ IsForeign b file
    theirs file own foreign = own (foreign_on b d sweeps.only.goes sweeps.only.lending file foreign)

    changes : ChangesFor n these a d
    changes = for_before n these a b d (for_settle n these tt a b settles) sweeps.only (keeps_swept b d these left sweeps)

    pub swept_away : Cancels r c (Ok Cancelled.Done) store.unswept left (over store (unswept_now store left)) a d
    swept_away = cancels (Ok Cancelled.Done) d changes (keeps_on a b d (keeps_ended a b n (Ok tt) settles) (keeps_swept b d these left sweeps)) (unswept_now store left) left (unswept_is store r left holds.tables)
        (λ done was. (b.held, settled_stays n b d b.held these (settled_at n a b was settles) sweeps.only))
        (λ pair is. settled_stays n b d pair these (is.0, settles.ok ∙ ap (after_settle b.held) is.1) sweeps.only)
        (λ done zero file this own. sweeps.gone zero file this (theirs file own))
        (λ done few. (let those = sweeps.all_but few in (those.0, those.1, λ file this own. those.2 file this (theirs file own))))

    pub swept_leaves : NothingPending a → LeavesStill holds.stands.standing.records a d
    swept_leaves = leaves_after d changes

    pub swept_list : (store' : Held) (q : Repository) (now : Holds store' d q) → now.stands.standing.records ≡ holds.stands.standing.records
    swept_list = list_after d changes

    pub swept_stays : (store' : Held) (q : Repository) (now : Holds store' d q) → RecordsStay (image_records holds) (image_records now)
    swept_stays = stays_apart d changes

-- What a line, and a run of several, leaves of the files and of whose they are.
--     reads_none, reads_synced, reads_kept, reads_itself      where no file was changed, the control file was synced at most, or each file is kept.      reads_on      over two spans behind one another
--     none_read      then none was written
--     reads_line, reads_cut      by a line whose command only reads.      writes_line      by one that was not done.      lends_line, lends_cut      whose an attempt is that was drawn before
--     drawn_on      so it is along a run.      risen_line      the attempts that were drawn.      risen_first      none yet
--     slots_first, slots_next, slots_later      which slots were live
--     all_front, all_last      of each of several, and one more
use Rattle.std.proofs.Common.{◌≡◌, ◌≢◌, inl, inr, ℕ, ◌+◌, ◌<◌, ◌≤◌, Bool, true, false, List, [], ◌∷◌, ◌++◌, length, length-append, refl, sym, ap, ◌∙◌, subst, arith, Option, Some, None, All, Ok}
use Rattle.std.specs.Prelude.{◌⊎◌, IfSome, IsSomeAnd, option_map}
use Rattle.std.proofs.lemmas.Bool.{cases_lt}
use Rattle.std.proofs.lemmas.List.Elements.{All-nil, All-cons, All-head, All-tail}
use Rattle.ip_ground.specs.declared.names.FileName.{FileName}
use Rattle.ip_ground.specs.declared.names.FileName.TheVariants.{Control}
use Rattle.ip_ground.specs.Contents.{Content, Image}
use Rattle.ip_ground.specs.Told.{Told, KeepsPast, KeepsFile, KeepsCustody, ChangesOnly, SyncsOnly, NoFile, Only, IsPossible, IsPossibleNow}
use Rattle.ip_ground.proofs.Spans.{at_most, only_more, goes_on, synced_on, stays_on, custody_on}
use Rattle.ip_spawn.specs.declared.job.Job.{Job}
use Rattle.ip_spec.specs.declared.command.Command.{Command}
use Rattle.ip_spec.specs.declared.record.Record.{Record}
use Rattle.ip_spec.specs.declared.reply.Reply.{Reply}
use Rattle.ip_spec.specs.Line.{IsLineOf}
use Rattle.ip_spec.specs.Machine.{State, Phase, Conditions}
use Rattle.ip_spec.specs.Merge.{Rule}
use Rattle.ip_spec.specs.Path.{Bytes}
use Rattle.ip_spec.specs.Repository.{Repository}
use Rattle.ip_spec.specs.Script.{LineStep}
use Rattle.ip_spec.specs.Step as step
use Rattle.ip_spec.specs.TreeAt.{Records}
use Rattle.ip_spec.specs.View.{View}
use Rattle.ip_image.specs.declared.slot.Slot.{Slot}
use Rattle.ip_image.specs.Pending.{HasLive}
use Rattle.ip_image.proofs.HeadlineLaws.{one_slot}
use Rattle.ip_held.specs.declared.collection.Collection.{Collection}
use Rattle.ip_held.specs.declared.collection.Unswept.{Unswept}
use Rattle.ip_held.specs.declared.held.Held.{Held}
use Rattle.ip_held.specs.Collecting.{carrying, phase_of, IsPhaseOf}
use Rattle.ip_held.specs.Held.{IsOf}
use Rattle.ip_held.specs.Slots.{KeepsSlots, IsNext}
use Rattle.ip_held.proofs.KeptFiles.{keeps_itself}
use Rattle.ip_opens.specs.Opening.{RecoversOnceOpen}
use Rattle.ip_session.specs.Asking.{GoesOnBy, HasStarted, MayReap}
use Rattle.ip_session.specs.Clearing.{SweepsBehind}
use Rattle.ip_session.specs.Placing.{HasCollected, Placed, PlacedIn, slot_behind}
use Rattle.ip_session.specs.Session.{is_durable, IsDurable, attempt_of, hears, ChangesBy, ChangedAtEnd, ChangedBy, TouchedBy, OnlyBy, OnlyIn, TouchesBy, TouchesIn}
use Rattle.ip_session.proofs.Changing.{none_durable}
use Rattle.ip_app.specs.Exchanges.{Exchange}
use Rattle.ip_app.specs.Exchanging.{WritesNone}
use Rattle.ip_app.specs.Files.{OnlyReads, LeavesFiles, ReadsFiles, KeepsDrawn, HasRisen, IsWithin, SlotsSince}
use Rattle.ip_app.specs.Happening.{Happens}
use Rattle.ip_app.specs.Places.{StartsAt}
use Rattle.ip_app.proofs.Unwritten.{none_changed, not_foreign, not_loose}

-- ---- no file was changed

pub reads_synced : (a b : Told) → SyncsOnly (Only Control) a b → ReadsFiles a b
reads_synced a b only = record { goes = only.changes.goes; files = only.files; others = λ file other. only.changes.others file other; lending = only.changes.lending }

pub reads_kept : (a b : Told) → KeepsPast a b → ((file : FileName) → KeepsFile a b file) → ((attempt : ℕ) → KeepsCustody a b attempt) → ReadsFiles a b
reads_kept a b goes stays lends = record { goes = goes; files = λ file. at_most a b file (stays file); others = λ file other. stays file; lending = lends }

-- over no time
pub reads_itself : (a : Told) → ReadsFiles a a
reads_itself a = reads_kept a a (keeps_itself a).goes (λ file. record { unwritten = refl; held = λ _. refl; left = λ _ t x after le. absurd (omega (arith, after, le)); still_left = λ _ t x after le. absurd (omega (arith, after, le)); own = λ h. h; firm = λ h. h }) (λ n t after le. absurd (omega (arith, after, le)))

pub reads_none : (a b : Told) → ChangesOnly NoFile a b → ReadsFiles a b
reads_none a b only = reads_kept a b only.goes (λ file. only.others file (λ none. none)) only.lending

pub reads_on : (a b c : Told) → ReadsFiles a b → ReadsFiles b c → ReadsFiles a c
reads_on a b c first next = record {
  goes = goes_on a b c first.goes next.goes;
  files = λ file. synced_on a b c file first.goes next.goes (first.files file) (next.files file);
  others = λ file other. stays_on a b c file first.goes next.goes (first.others file other) (next.others file other);
  lending = λ n. custody_on a b c n first.goes next.goes (first.lending n) (next.lending n);
}

pub none_read : (a b : Told) → ReadsFiles a b → WritesNone a b
none_read a b reads = record {
  goes = reads.goes;
  unwritten = λ file. (reads.files file).unwritten;
  held = λ file is. (reads.files file).held (not_foreign a file is);
  left = λ file is. (reads.files file).left (not_loose a file is);
}

-- ---- a line

module _ (store : Held) (a b : Told) where
  -- it has no attempt to do with
  reads_by : (command : Command) (reply : Reply) → is_durable command ≡ false → ¬ MayReap command → OnlyBy store a b command reply → ReadsFiles a b
  reads_by Command.Look reply quiet none only = absurd (none tt)
  reads_by Command.Finish reply quiet none only = absurd (none tt)
  reads_by Command.Cancel reply quiet none only = absurd (none tt)
  reads_by (Command.Collect target) reply quiet none only = absurd (cc quiet)
  reads_by command reply quiet none only = reads_none a b (only_more a b (ChangedBy store a.held command reply) NoFile (λ file changed. none_durable reply command quiet changed.0) only)

  touches_by : (command : Command) → is_durable command ≡ false → ¬ MayReap command → TouchesBy store a b command → ReadsFiles a b
  touches_by Command.Look quiet none only = absurd (none tt)
  touches_by Command.Finish quiet none only = absurd (none tt)
  touches_by Command.Cancel quiet none only = absurd (none tt)
  touches_by (Command.Collect target) quiet none only = absurd (cc quiet)
  touches_by command quiet none only = reads_none a b (only_more a b (TouchedBy store a.held command) NoFile (λ file touched. cc (touched.0, quiet)) only)

  -- the file is none that a command with this reply may have changed
  ended : (reply : Reply) (file : FileName) → ¬ step.IsSwept reply → ¬ ChangedAtEnd store reply file
  ended (Reply.Collected floor left) file none changed = none tt
  ended (Reply.RejectedExit exit) file none changed = none tt
  ended (Reply.Rejected difference) file none changed = none tt
  ended reply file none changed = changed

  not_changed : (command : Command) (reply : Reply) → ¬ IsDurable reply command → ¬ SweepsBehind command reply → (file : FileName) → ¬ ChangedBy store a.held command reply file
  not_changed Command.Look reply quiet none file changed = ended reply file none changed
  not_changed Command.Finish reply quiet none file changed = ended reply file none changed
  not_changed Command.Cancel reply quiet none file changed = none (subst step.IsSwept (sym changed.0) tt)
  not_changed command reply quiet none file changed = quiet changed.0

  -- another one than this
  lends_by : (heard : Bool) (o : Option ℕ) (these : FileName → Type 0) → ChangesBy heard o these a b → (n : ℕ) → ((m : ℕ) → o ≡ Some m → n < m) → KeepsCustody a b n
  lends_by heard None these only n below = only.lending n
  lends_by false (Some m) these only n below = only.lending n (λ is. (let less = below m refl in absurd (omega (arith, is, less))))
  lends_by true (Some m) these only n below = only.beside.lending n (λ is. (let less = below m refl in absurd (omega (arith, is, less))))

  module _ (r : Repository) (tables : IsOf store r) (live : HasLive store.slot a.held) where
    of_running : (o : Option Collection) → IsPhaseOf store.slot r o → (n : ℕ) → (phase_of o ≢ Phase.Idle → n + 1 < store.slot.next_attempt) → (m : ℕ) → option_map (λ (c : Collection). c.job.attempt) o ≡ Some m → n < m
    of_running None phase n below m is = absurd (cc is)
    of_running (Some c) phase n below m is =
        let same : c.job.attempt ≡ m = cc is in
        let next : c.job.attempt + 1 ≡ store.slot.next_attempt = phase.told.attempt in
        let less = below (λ idle. absurd (cc idle)) in
        omega (arith, same, next, less)

    below_by : (command : Command) (n : ℕ) → n < store.slot.next_attempt → (phase_of store.collection ≢ Phase.Idle → n + 1 < store.slot.next_attempt) → (m : ℕ) → attempt_of store command ≡ Some m → n < m
    below_by (Command.Collect target) n less below m is = (let same : store.slot.next_attempt ≡ m = cc is in omega (arith, same, less))
    below_by Command.Look n less below m is = of_running store.collection tables.phase n below m is
    below_by Command.Finish n less below m is = of_running store.collection tables.phase n below m is
    below_by Command.Cancel n less below m is = of_running store.collection tables.phase n below m is
    below_by command n less below m is = absurd (cc is)

    -- of the slot that is live
    by_slot : ((n : ℕ) → n < store.slot.next_attempt → (phase_of store.collection ≢ Phase.Idle → n + 1 < store.slot.next_attempt) → KeepsCustody a b n) → KeepsDrawn (phase_of store.collection) a b
    by_slot each slot has n less below =
        let same : slot ≡ store.slot = one_slot slot store.slot a.held has live in
        let next : slot.next_attempt ≡ store.slot.next_attempt = ap (λ (s : Slot). s.next_attempt) same in
        each n (omega (arith, less, next)) (λ runs. let more = below runs in omega (arith, more, next))

    pub lends_line : (rule : Rule) (state after : State) (line : Bytes) (met : Conditions) (reply : Reply) → LineStep IsLineOf rule state line met reply after → OnlyIn store a b line reply → KeepsDrawn (phase_of store.collection) a b
    lends_line rule state after line met reply (inl it) only = by_slot (λ n less below. lends_by (hears it.0) (attempt_of store it.0) _ (only.command it.0 it.1) n (below_by it.0 n less below))
    lends_line rule state after line met reply (inr bad) only = by_slot (λ n less below. (only.none (λ command is. bad.bad.no_command command is)).lending n)

    pub lends_cut : (line : Bytes) → TouchesIn store a b line → KeepsDrawn (phase_of store.collection) a b
    lends_cut line only = by_slot (λ n less below. lends_by (hears only.0) (attempt_of store only.0) _ only.2 n (below_by only.0 n less below))

  pub reads_line : (rule : Rule) (state after : State) (met : Conditions) (x : Exchange) → LineStep IsLineOf rule state x.line met x.reply after → OnlyIn store a b x.line x.reply → OnlyReads x → ReadsFiles a b
  reads_line rule state after met x (inl it) only reads = (let quiet = reads it.0 it.1 in reads_by it.0 x.reply quiet.0 quiet.1 (only.command it.0 it.1))
  reads_line rule state after met x (inr bad) only reads = reads_none a b (only.none (λ command is. bad.bad.no_command command is))

  pub reads_cut : (x : Exchange) → TouchesIn store a b x.line → OnlyReads x → ReadsFiles a b
  reads_cut x only reads = (let quiet = reads only.0 only.1 in touches_by only.0 quiet.0 quiet.1 only.2)

  pub writes_line : (rule : Rule) (state after : State) (met : Conditions) (x : Exchange) → LineStep IsLineOf rule state x.line met x.reply after → OnlyIn store a b x.line x.reply → LeavesFiles x → WritesNone a b
  writes_line rule state after met x (inl it) only leaves = (let quiet = leaves it.0 it.1 in none_changed (hears it.0) (attempt_of store it.0) (ChangedBy store a.held it.0 x.reply) a b (not_changed it.0 x.reply quiet.0 quiet.1) (only.command it.0 it.1))
  writes_line rule state after met x (inr bad) only leaves = none_read a b (reads_none a b (only.none (λ command is. bad.bad.no_command command is)))

-- ---- the attempts that were drawn

-- along a run: what was drawn at first was drawn before each line
pub drawn_on : (a b c : Told) (slot now : Slot) (phase : Phase) → KeepsPast a b → KeepsPast b c → HasLive now b.held → HasRisen slot now phase → ((n : ℕ) → n < slot.next_attempt → KeepsCustody a b n) → KeepsDrawn phase b c → (n : ℕ) → n < slot.next_attempt → KeepsCustody a c n
drawn_on a b c slot now phase past goes live risen before lends n less = custody_on a b c n past goes (before n less)
    (lends now live n (let up = risen.0 in omega (arith, less, up)) (λ runs. let up = risen.1 runs in omega (arith, less, up)))

durable_or_not : (reply : Reply) (command : Command) → IsDurable reply command ⊎ (¬ IsDurable reply command)
durable_or_not (Reply.Committed hash) (Command.Commit branch info) = inl tt
durable_or_not (Reply.Forward hash) (Command.Merge target branch info) = inl tt
durable_or_not (Reply.Merged hash) (Command.Merge target branch info) = inl tt
durable_or_not Reply.Accepted (Command.Branch name target) = inl tt
durable_or_not Reply.Accepted (Command.BranchRm name) = inl tt
durable_or_not (Reply.Started hash) (Command.Collect target) = inl tt
durable_or_not Reply.StartFault (Command.Collect target) = inl tt
durable_or_not reply command = inr (λ done. done)

collected_or_not : (reply : Reply) (command : Command) → ((floor : ℕ) × (left : ℕ) × MayReap command × (reply ≡ Reply.Collected floor left)) ⊎ (¬ HasCollected reply command)
collected_or_not (Reply.Collected floor left) Command.Look = inl (floor, left, tt, refl)
collected_or_not (Reply.Collected floor left) Command.Finish = inl (floor, left, tt, refl)
collected_or_not (Reply.Collected floor left) Command.Cancel = inl (floor, left, tt, refl)
collected_or_not reply command = inr (λ done. done)

started_or_not : (reply : Reply) → HasStarted (Ok reply) ⊎ (¬ HasStarted (Ok reply))
started_or_not (Reply.Started name) = inl tt
started_or_not reply = inr (λ has. has)

behind_rises : (command : Command) (slot : Slot) (length commits : ℕ) → slot.next_attempt ≤ (slot_behind command slot length commits).next_attempt
behind_rises (Command.Collect target) slot length commits = omega arith
behind_rises command slot length commits = omega arith

module _ (slot : Slot) (u : Unswept) (slot' : Slot) where
  same_rises : slot' ≡ slot → slot.next_attempt ≤ slot'.next_attempt
  same_rises same = (let e = ap (λ (s : Slot). s.next_attempt) same in omega (arith, e))

  placed_rises : (Appended : Records → ℕ → Type 0) (command : Command) (reply : Reply) → Placed slot u slot' Appended command reply → slot.next_attempt ≤ slot'.next_attempt
  placed_rises Appended command reply placed = elim (durable_or_not reply command) [
    | inl done ↦
        let it = placed.done done in
        subst (λ (s : Slot). slot.next_attempt ≤ s.next_attempt) (sym it.so.0) (behind_rises command (carrying slot u) _ it.commits)
    | inr quiet ↦ elim (collected_or_not reply command) [
      | inl has ↦ (let swapped = placed.collected has.0 has.1 has.2 has.3 in let e = ap (λ (s : Slot). s.next_attempt) swapped.is in omega (arith, e))
      | inr none ↦ same_rises (placed.quiet quiet none)
    ]
  ]

  pub line_rises : (rule : Rule) (records : ℕ → Option Record) (state s after : State) (v : View) (line : Bytes) (met : Conditions) (reply : Reply) → LineStep IsLineOf rule state line met reply after → PlacedIn rule records slot u slot' s v line reply → slot.next_attempt ≤ slot'.next_attempt
  line_rises rule records state s after v line met reply (inl it) placed = placed_rises _ it.0 reply (placed.command it.0 it.1)
  line_rises rule records state s after v line met reply (inr bad) placed = same_rises (placed.none (λ command is. bad.bad.no_command command is))

pub none_started : (rule : Rule) (state after : State) (met : Conditions) (phase : Phase) (x : Exchange) → LineStep IsLineOf rule state x.line met x.reply after → Happens phase x → ¬ HasStarted (Ok x.reply) → x.started ≡ []
none_started rule state after met phase x (inl it) happens none = (happens.command it.0 it.1).none_started none
none_started rule state after met phase x (inr bad) happens none = (happens.none (λ command is. bad.bad.no_command command is)).0

-- The attempt of a collection is the one that was drawn last, and one that was started now came next before.
pub risen_line : (start slot slot' : Slot) (before now : Option Collection) (r' : Repository) (x : Exchange) → HasRisen start slot (phase_of before) → slot.next_attempt ≤ slot'.next_attempt → GoesOnBy x.turn.met.child x.started before now → IsPhaseOf slot' r' now → StartsAt slot slot' x → (¬ HasStarted (Ok x.reply) → x.started ≡ [])
    → HasRisen start slot' (phase_of now)
risen_line start slot slot' before now r' x risen up goes phase starts unstarted = (omega (arith, up, risen.0), by now goes phase)
  where
    kept : (c : Collection) → (o : Option Collection) → HasRisen start slot (phase_of o) → (P : Collection → Type 0) → IsSomeAnd o P → start.next_attempt < slot'.next_attempt
    kept c None was P is = absurd is
    kept c (Some d) was P is = (let less = was.1 (λ idle. absurd (cc idle)) in omega (arith, less, up))

    by : (o : Option Collection) → GoesOnBy x.turn.met.child x.started before o → IsPhaseOf slot' r' o → phase_of o ≢ Phase.Idle → start.next_attempt < slot'.next_attempt
    by None goes phase runs = absurd (runs refl)
    by (Some c) (inr (none, same)) phase runs = kept c before risen _ same
    by (Some c) (inl started) phase runs = elim (started_or_not x.reply) [
      | inl has ↦
          let it = starts has in
          let job : c.job ≡ it.0 = cc (started.0, it.1) in
          let attempt : c.job.attempt ≡ slot.next_attempt = ap (λ (j : Job). j.attempt) job ∙ it.3 in
          let next : c.job.attempt + 1 ≡ slot'.next_attempt = phase.told.attempt in
          let low = risen.0 in
          omega (arith, attempt, next, low)
      | inr none ↦ (let nothing = unstarted none in absurd (cc (started.0, nothing)))
    ]

pub risen_first : (slot : Slot) (collection : Option Collection) → collection ≡ None → HasRisen slot slot (phase_of collection)
risen_first slot collection idle = (omega arith, λ runs. absurd (runs (ap phase_of idle)))

-- ---- the slots that were live

within_more : (steps more : ℕ) (s u : Slot) → steps ≤ more → IsWithin steps s u → IsWithin more s u
within_more steps more s u le is = record {
  sequence = is.sequence;
  sequence_most = (let high = is.sequence_most in omega (arith, high, le));
  drawn = is.drawn;
  drawn_most = (let high = is.drawn_most in omega (arith, high, le));
}

within_next : (steps : ℕ) (s u next : Slot) → IsWithin steps s u → IsNext u next → IsWithin (steps + 1) s next
within_next steps s u next is one = record {
  sequence = (let low = is.sequence in let e = one.sequence in omega (arith, low, e));
  sequence_most = (let high = is.sequence_most in let e = one.sequence in omega (arith, high, e));
  drawn = (let low = is.drawn in let up = one.drawn in omega (arith, low, up));
  drawn_most = (let high = is.drawn_most in let up = one.one in omega (arith, high, up));
}

within_itself : (s u : Slot) → u ≡ s → IsWithin 0 s u
within_itself s u same = record {
  sequence = (let e = ap (λ (t : Slot). t.sequence) same in omega (arith, e));
  sequence_most = (let e = ap (λ (t : Slot). t.sequence) same in omega (arith, e));
  drawn = (let e = ap (λ (t : Slot). t.next_attempt) same in omega (arith, e));
  drawn_most = (let e = ap (λ (t : Slot). t.next_attempt) same in omega (arith, e));
}

-- from the sync of opening on a crash leaves the control file as it is
pub slots_first : (old now : Told) (opening : RecoversOnceOpen old now) (s : Slot) → HasLive s now.held → SlotsSince opening.since s 0 now
slots_first old now opening s has t late le image possible u live =
    let there : HasLive s image = record { control = has.control; index = has.index; held = opening.kept t late le (image Control) (possible Control) ∙ has.held; live = has.live } in
    within_itself s u (one_slot u s image live there)

-- one command more
slots_more : (since : ℕ) (s now : Slot) (steps : ℕ) (mid new : Told) → KeepsPast mid new → since ≤ mid.moment → IsPossibleNow mid → HasLive now mid.held → SlotsSince since s steps mid → KeepsSlots mid new → SlotsSince since s (steps + 1) new
slots_more since s now steps mid new goes over possible has was keeps t late le image left u live = elim (cases_lt mid.moment t) [
  | inl behind ↦ elim (keeps now has t behind le image left) [
    | inl same ↦ subst (IsWithin (steps + 1) s) (one_slot now u image same live) (within_more steps (steps + 1) s now (omega arith) here)
    | inr next ↦ subst (IsWithin (steps + 1) s) (one_slot next.0 u image next.1 live) (within_next steps s now next.0 here next.2)
  ]
  | inr before ↦ within_more steps (steps + 1) s u (omega arith) (was t late before image (λ file. goes.left t file (image file) before (left file)) u live)
]
  where
    here : IsWithin steps s now
    here = was mid.moment over (omega arith) mid.held (λ file. possible file) now has

-- of a run that is one longer
pub slots_next : (since : ℕ) (s now : Slot) (xs : List Exchange) (x : Exchange) (mid new : Told) → KeepsPast mid new → since ≤ mid.moment → IsPossibleNow mid → HasLive now mid.held → SlotsSince since s (length xs) mid → KeepsSlots mid new → SlotsSince since s (length (xs ++ x ∷ [])) new
slots_next since s now xs x mid new goes over possible has was keeps = subst (λ (steps : ℕ). SlotsSince since s steps new) (sym (length-append xs (x ∷ []))) (slots_more since s now (length xs) mid new goes over possible has was keeps)

-- while no file changes and no time passes
pub slots_later : (since : ℕ) (s : Slot) (steps : ℕ) (mid new : Told) → KeepsPast mid new → new.moment ≡ mid.moment → SlotsSince since s steps mid → SlotsSince since s steps new
slots_later since s steps mid new goes same was t late le image left =
    was t late (omega (arith, le, same)) image (λ file. goes.left t file (image file) (omega (arith, le, same)) (left file))

-- ---- lists

pub all_front : (P : Exchange → Type 0) (xs ys : List Exchange) → All P (xs ++ ys) → All P xs
all_front P [] ys all = All-nil P
all_front P (x ∷ xs) ys all = All-cons P x xs (All-head P x (xs ++ ys) all) (all_front P xs ys (All-tail P x (xs ++ ys) all))

pub all_last : (P : Exchange → Type 0) (xs : List Exchange) (x : Exchange) → All P (xs ++ x ∷ []) → P x
all_last P [] x all = All-head P x [] all
all_last P (y ∷ xs) x all = all_last P xs x (All-tail P y (xs ++ x ∷ []) all)

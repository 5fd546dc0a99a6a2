-- One line of a run: its command was run and noted, and its reply said; or it was the last.
--     begun_of      a line was run and noted.      begun_along, exchanged_along      and so behind the reading of it, and the saying of its reply
--     files_of, said_of, part_of      the files and what was said, once the reply was said, or not
--     settled      what is there in any case, and so where it is known.      went_to, cut_to      what a session did with a line, where it is known to work
--     stops_reading      why a source is read no further.      ended_short, cuts_short, short_of, stops_short      the session has ended
use Rattle.std.proofs.Common.{◌≡◌, ℕ, ◌++◌, arith, List, [], ◌∷◌, refl, sym, ◌∙◌, subst, Bool, true, false, Option, None, Some, OnOk, Result, IsTrue}
use Rattle.ip_ground.specs.Counts.{Noted}
use Rattle.ip_ground.specs.declared.names.GroundFault.{GroundFault}
use Rattle.ip_base.specs.declared.exit.Reaped.{Reaped}
use Rattle.ip_spawn.specs.declared.job.Job.{Job}
use Rattle.ip_ground.specs.Counts.{NoneFalls}
use Rattle.ip_ground.specs.declared.names.FileName.{FileName}
use Rattle.ip_ground.specs.declared.names.FileName.TheVariants.{Control}
use Rattle.ip_ground.specs.Told.{Told, said, KeepsPast, KeepsFile, KeepsCustody, KeepsSaid, IsPossibleNow, IsSynced}
use Rattle.ip_ground.specs.Calls.{Says}
use Rattle.ip_ground.proofs.Spans.{said_now, lending_now, custody_on}
use Rattle.ip_image.specs.declared.counts.TurnCounts.{TurnCounts}
use Rattle.ip_spec.specs.declared.met.Met.{Met}
use Rattle.ip_spec.specs.declared.reply.Difference.{Difference}
use Rattle.ip_spec.specs.declared.reply.Reply.{Reply}
use Rattle.ip_spec.specs.Merge.{Rule}
use Rattle.ip_spec.specs.Path.{Bytes}
use Rattle.ip_spec.specs.Machine.{State}
use Rattle.ip_spec.specs.Line.{IsLineOf}
use Rattle.ip_spec.specs.Script.{LineStep}
use Rattle.ip_held.specs.Slots.{KeepsSlots}
use Rattle.ip_held.specs.Sweeping.{KeepsFiles}
use Rattle.ip_held.proofs.KeptFiles.{keeps_on, keeps_itself}
use Rattle.ip_held.proofs.Recovering.{held_has}
use Rattle.ip_app.specs.declared.lines.Lines.{Lines}
use Rattle.ip_session.specs.declared.session.SessionEnd.{SessionEnd}
use Rattle.ip_app.specs.declared.statuses.Status.{Status}
use Rattle.ip_app.specs.declared.statuses.Status.TheVariants as status
use Rattle.ip_app.specs.Exchanges.{Exchange}
use Rattle.ip_merge.specs.Rules.{IsDecisive}
use Rattle.ip_app.specs.Outside.{Outside, GoesOn}
use Rattle.ip_session.specs.declared.session.Session.{Session}
use Rattle.ip_session.specs.Asking.{starts_in}
use Rattle.ip_session.specs.Session.{state_in, IsWorking, conditions_with, EndsBy, OnlyIn, TouchesIn, StaysSettled, IsViewIn, IsJudgedIn, IsSettledIn, KeepsSpaceIn, GoesIn, CutIn}
use Rattle.ip_image.specs.Pending.{NothingPending}
use Rattle.ip_image.specs.Headline.{IsAtomic}
use Rattle.ip_spec.specs.Repository.{Repository}
use Rattle.ip_spec.specs.View.{View}
use Rattle.ip_app.specs.Serving.{SaysPart, Took, Stopped, CutOff, Stops}
use Rattle.ip_app.specs.Exchanging.{is_cut_short, ended_status, Begun, Exchanged, CutShort, CutsShort}
use Rattle.ip_app.specs.Files.{OnlyReads, ReadsFiles, KeepsDrawn}
use Rattle.ip_app.specs.Turns.{turn_counts, IsLater}
use Rattle.ip_app.proofs.Cleared.{clear_along}
use Rattle.ip_app.proofs.Counting.{later_of, cut_counts}
use Rattle.ip_app.proofs.Happened.{exchange_of}
use Rattle.ip_app.proofs.Judging.{watches_along}
use Rattle.ip_app.proofs.LineFiles.{reads_itself, reads_kept, reads_on, none_read}
use Rattle.ip_app.proofs.Unwritten.{none_on}
use Rattle.ip_app.proofs.RanOn.{append_nil}
use Rattle.ip_app.proofs.RunLemmas.{keeps_said, says_part}
use Rattle.ip_image.proofs.HeadlineLaws.{turns_quietly}
use Rattle.ip_ground.proofs.Rising.{none_falls_on, falls_itself}

pub begun_of : (rule : Rule) (known : Bool) (old new : Outside) (counts counts' : TurnCounts) (state after : State) (line : Bytes) (met told_met : Met) (difference : Option Difference) (jobs : List Job) (ends : List Reaped) (reply : Reply) → GoesOn old new → (IsTrue known → KeepsFiles old.told new.told) → new.read_faults ≡ old.read_faults
    → (IsTrue known → LineStep IsLineOf rule state line (conditions_with met difference) reply after) → told_met ≡ met
    → (IsTrue new.log_tells → new.turns ≡ old.turns ++ record { met = told_met; before = counts; after = counts' } ∷ [])
    → counts' ≡ turn_counts new.counts new.spawns → counts ≡ turn_counts old.counts old.spawns
    → new.counts.bound ≡ old.counts.bound → (IsTrue old.spawner_tells → new.spawned ≡ record { started = old.spawned.started ++ starts_in old.dir jobs; reaped = old.spawned.reaped ++ ends }) → (IsTrue known → IsPossibleNow old.told)
    → (IsTrue known → OnlyReads (exchange_of line told_met counts counts' difference jobs ends reply after) → ReadsFiles old.told new.told) → (IsTrue known → KeepsDrawn state.phase old.told new.told)
    → Begun rule known old new counts counts' state (exchange_of line told_met counts counts' difference jobs ends reply after)
begun_of rule known old new counts counts' state after line met told_met difference jobs ends reply g files reads step same_met noted counted before bound spawned possible keeps lends = record {
  goes_on = g;
  files = files;
  step = λ is. subst (λ (m : Met). LineStep IsLineOf rule state line (conditions_with m difference) reply after) (sym same_met) (step is);
  noted = noted;
  begins_at = refl;
  ends_at = refl;
  rises = subst (λ (t : TurnCounts). IsLater counts t) (sym counted) (subst (λ (t : TurnCounts). IsLater t (turn_counts new.counts new.spawns)) (sym before) (later_of old.counts new.counts old.spawns new.spawns g.counts g.spawns));
  until = counted;
  reads = reads;
  bound = bound;
  spawned = spawned;
  possible = possible;
  keeps = keeps;
  lends = lends;
}

-- ---- behind the reading of its line, and the saying of its reply

abbrev pub told_as : Outside → Bytes → ℕ → Told → Noted → Outside
told_as mid left read_faults told counts = record mid { left = left; read_faults = read_faults; told = told; counts = counts }

module _ (rule : Rule) (known : Bool) (old mid : Outside) (c c' : TurnCounts) (left : Bytes) (read_faults : ℕ) (told : Told) (counts : Noted) (same_reads : read_faults ≡ mid.read_faults) (files : IsTrue known → KeepsFiles mid.told told) (falls : NoneFalls mid.counts counts)
    (still : turn_counts mid.counts mid.spawns ≡ turn_counts counts mid.spawns) (still_bound : counts.bound ≡ mid.counts.bound) where
  pub begun_along : (state : State) (x : Exchange) → (IsTrue known → ReadsFiles mid.told told) → Begun rule known old mid c c' state x → Begun rule known old (told_as mid left read_faults told counts) c c' state x
  begun_along state x unmoved h = record {
    goes_on = record {
      dir = h.goes_on.dir;
      source_tells = h.goes_on.source_tells;
      ground_tells = h.goes_on.ground_tells;
      spawner_tells = h.goes_on.spawner_tells;
      log_tells = h.goes_on.log_tells;
      read_faults = (let later = h.goes_on.read_faults in omega (arith, later, same_reads));
      counts = none_falls_on old.counts mid.counts counts h.goes_on.counts falls;
      spawns = h.goes_on.spawns;
    };
    files = λ is. keeps_on old.told mid.told told (h.files is) (files is);
    step = h.step;
    noted = h.noted;
    begins_at = h.begins_at;
    ends_at = h.ends_at;
    rises = h.rises;
    until = h.until ∙ still;
    reads = same_reads ∙ h.reads;
    bound = still_bound ∙ h.bound;
    spawned = h.spawned;
    possible = h.possible;
    keeps = λ is reads. reads_on old.told mid.told told (h.keeps is reads) (unmoved is);
    lends = λ is slot has n less below. custody_on old.told mid.told told n (h.files is).goes (files is).goes (h.lends is slot has n less below) ((unmoved is).lending n);
  }

  still_of : (IsTrue known → (file : FileName) → KeepsFile mid.told told file) → (IsTrue known → (attempt : ℕ) → KeepsCustody mid.told told attempt) → IsTrue known → ReadsFiles mid.told told
  still_of stays lends is = reads_kept mid.told told (files is).goes (stays is) (lends is)

  pub exchanged_along : (s s' : Session) (r : Repository) (v : View) (x : Exchange) (after : Repository) (view : View) → (IsTrue known → IsWorking mid.told s' after view → IsWorking told s' after view) → (IsTrue known → NothingPending mid.told → NothingPending told) → (IsTrue known → (file : FileName) → KeepsFile mid.told told file) → (IsTrue known → (attempt : ℕ) → KeepsCustody mid.told told attempt) → (IsTrue known → IsSynced old.told Control) → (IsTrue known → IsPossibleNow mid.told)
      → Exchanged rule known old mid c c' s s' r v x after view → Exchanged rule known old (told_as mid left read_faults told counts) c c' s s' r v x after view
  exchanged_along s s' r v x after view works order stays lends kept possible h = record {
    begun = begun_along (state_in s r v) x (still_of stays lends) h.begun;
    now_at = h.now_at;
    goes_on_by = h.goes_on_by;
    watches = λ is. watches_along rule old.told mid.told told (h.begun.files is).goes (files is).goes (lends is) (state_in s r v) v view s.store.held.collection s'.store.held.collection s.store.held.slot s'.store.held.slot s.store.held.unswept s'.store.held.unswept x (h.nothing_pending is) (stays is) (held_has s'.store.held after mid.told (h.working is).holds) (kept is) (h.working is).holds.kept (possible is) (h.watches is);
    clear = λ is cleared. clear_along mid.told told (λ file. (stays is file).held) (λ attempt. lending_now mid.told told (files is).goes attempt (lends is attempt)) s'.store.held.slot s'.store.held.unswept (h.clear is cleared);
    unwritten = λ is leaves. none_on old.told mid.told told (h.unwritten is leaves) (none_read mid.told told (still_of stays lends is));
    happens = h.happens;
    phase = h.phase;
    child = h.child;
    serving = h.serving;
    working = λ is. works is (h.working is);
    nothing_pending = λ is was. order is (h.nothing_pending is was);
  }

module _ (old mid new : Told) (files : KeepsFiles old mid) (still : KeepsSaid old mid) (text : Bytes) (r : Result (Unit {0}) GroundFault) (says : Says text r mid new) where
  quiet : said mid ≡ said old
  quiet = said_now old mid files.goes still

  pub files_of : KeepsFiles old new
  files_of = keeps_on old mid new files (keeps_said text r mid new says)

  pub said_of : (reply : Bytes) → text ≡ reply → OnOk r (said new ≡ said old ++ reply)
  said_of reply e = subst (λ (t : Bytes). OnOk r (said new ≡ said old ++ t)) e (subst (λ (s : Bytes). OnOk r (said new ≡ s ++ text)) quiet says.ok)

  pub part_of : (reply : Bytes) → text ≡ reply → SaysPart reply (said old) (said new)
  part_of reply e = subst (λ (t : Bytes). SaysPart t (said old) (said new)) e (subst (λ (s : Bytes). SaysPart text s (said new)) quiet (says_part text r mid new says))

pub stops_reading : (rule : Rule) (t : Status) (known : Bool) (old new : Outside) (lines lines' : Lines) (counts counts' : TurnCounts) (s s' : Session) (r : Repository) (v : View) → Stopped t known old new lines lines' counts counts' (state_in s r v) → Stops rule t known old new lines lines' counts counts' s s' r v
stops_reading rule status.SayFault known old new lines lines' counts counts' s s' r v h = absurd h.ends
stops_reading rule status.GroundFault known old new lines lines' counts counts' s s' r v h = absurd h.ends
stops_reading rule (status.DamagedRecord at) known old new lines lines' counts counts' s s' r v h = absurd h.ends
stops_reading rule (status.DamagedName at want got) known old new lines lines' counts counts' s s' r v h = absurd h.ends
stops_reading rule _ known old new lines lines' counts counts' s s' r v h = h

-- a session's end cut the command short
pub ended_short : (end : SessionEnd) → is_cut_short (ended_status end) ≡ true
ended_short SessionEnd.Ground = refl
ended_short (SessionEnd.Damaged at None) = refl
ended_short (SessionEnd.Damaged at (Some (want, got))) = refl

pub cuts_short : (rule : Rule) (end : SessionEnd) (s : Status) (known : Bool) (held : Type 0) (old new : Outside) (line : Bytes) (counts counts' : TurnCounts) (state : State) → s ≡ ended_status end → CutShort rule (ended_status end) known old new line counts counts' state
    → (IsTrue known → held) → (IsTrue known → IsDecisive rule) → (IsDecisive rule → EndsBy held end) → CutsShort rule s known old new line counts counts' state
cuts_short rule end s known held old new line counts counts' state e short holds decisive ends = subst (λ (t : Status). CutsShort rule t known old new line counts counts' state) (sym e) (by_end end short ends)
  where
    by_end : (end : SessionEnd) → CutShort rule (ended_status end) known old new line counts counts' state → (IsDecisive rule → EndsBy held end) → CutsShort rule (ended_status end) known old new line counts counts' state
    by_end SessionEnd.Ground u h = u
    by_end (SessionEnd.Damaged at None) u h = (u, λ is. (h (decisive is)).0 (holds is))
    by_end (SessionEnd.Damaged at (Some (want, got))) u h = (u, λ is. (h (decisive is)).0 (holds is), λ sure. (h sure).1)

-- a fault cut it short, and so is told
pub short_of : (rule : Rule) (s : Status) (known : Bool) (old new : Outside) (line : Bytes) (counts counts' : TurnCounts) (state : State) → CutsShort rule s known old new line counts counts' state → (is_cut_short s ≡ true) × CutShort rule s known old new line counts counts' state
short_of rule status.GroundFault known old new line counts counts' state h = (refl, h)
short_of rule (status.DamagedRecord at) known old new line counts counts' state h = (refl, h.0)
short_of rule (status.DamagedName at want got) known old new line counts counts' state h = (refl, h.0)
short_of rule status.Done known old new line counts counts' state h = absurd h
short_of rule status.Usage known old new line counts counts' state h = absurd h
short_of rule status.NoStore known old new line counts counts' state h = absurd h
short_of rule (status.Damaged file at) known old new line counts counts' state h = absurd h
short_of rule status.DamagedJob known old new line counts counts' state h = absurd h
short_of rule status.ReadFault known old new line counts counts' state h = absurd h
short_of rule status.SayFault known old new line counts counts' state h = absurd h
short_of rule status.Memory known old new line counts counts' state h = absurd h
short_of rule (status.Limit bound) known old new line counts counts' state h = absurd h
short_of rule status.Unfinished known old new line counts counts' state h = absurd h
short_of rule status.Exists known old new line counts counts' state h = absurd h

-- the line of a source
pub stops_short : (rule : Rule) (t : Status) (known : Bool) (old new : Outside) (line read : Bytes) (lines lines' : Lines) (counts counts' : TurnCounts) (s s' : Session) (r : Repository) (v : View) (left : Bytes) (read_faults : ℕ) → CutsShort rule t known old new read counts counts' (state_in s r v) → read ≡ line
    → Took old (told_as new left read_faults new.told new.counts) lines lines' line → read_faults ≡ new.read_faults → Stops rule t known old (told_as new left read_faults new.told new.counts) lines lines' counts counts' s s' r v
stops_short rule t known old new line read lines lines' counts counts' s s' r v left read_faults h read_is took same = by_status t h
  where
    whole : (t : Status) → is_cut_short t ≡ true → CutShort rule t known old new read counts counts' (state_in s r v) → CutOff rule t known old (told_as new left read_faults new.told new.counts) lines lines' counts counts' (state_in s r v)
    whole t is_short u = record {
      short = is_short;
      exchange = u.exchange;
      took = subst (λ (l : Bytes). Took old (told_as new left read_faults new.told new.counts) lines lines' l) (sym (u.line_is ∙ read_is)) took;
      begun = begun_along rule known old new counts counts' left read_faults new.told new.counts same (λ is. keeps_itself new.told) (falls_itself new.counts) refl refl (state_in s r v) u.exchange (λ is. reads_itself new.told) u.begun;
      counted = cut_counts t old.counts new.counts u.counted;
      unwritten = u.unwritten;
      happens = u.happens;
      quiet = u.quiet;
      atomic = u.atomic;
      slots = u.slots;
      again = u.again;
      settles = u.settles;
      space = u.space;
    }

    by_status : (t : Status) → CutsShort rule t known old new read counts counts' (state_in s r v) → Stops rule t known old (told_as new left read_faults new.told new.counts) lines lines' counts counts' s s' r v
    by_status status.GroundFault h = whole status.GroundFault refl h
    by_status (status.DamagedRecord at) h = (whole (status.DamagedRecord at) refl h.0, h.1)
    by_status (status.DamagedName at want got) h = (whole (status.DamagedName at want got) refl h.0, h.1, h.2)
    by_status status.Done h = absurd h
    by_status status.Usage h = absurd h
    by_status status.NoStore h = absurd h
    by_status (status.Damaged file at) h = absurd h
    by_status status.DamagedJob h = absurd h
    by_status status.ReadFault h = absurd h
    by_status status.SayFault h = absurd h
    by_status status.Memory h = absurd h
    by_status (status.Limit bound) h = absurd h
    by_status status.Unfinished h = absurd h
    by_status status.Exists h = absurd h

-- ---- what a session did is known only where it works

-- something is there in any case, and where it is known, it is so
pub settled : {A : Type 0} (P : A → Type 0) (known : Bool) → A → (IsTrue known → (x : A) × P x) → (x : A) × (IsTrue known → P x)
settled P true given found = let y = found refl in (y.0, λ is. y.1)
settled P false given found = (given, λ is. absurd (cc is))

-- a session ran a line and is in this repository then, its work's tree has this view, and this was the difference
pub record GoesTo (rule : Rule) (old new : Told) (s s' : Session) (r : Repository) (v : View) (line : Bytes) (reply : Reply) (x : Repository × View × Option Difference) : Type 0 where
  pub gives : LineStep IsLineOf rule (state_in s r v) line (conditions_with s'.met x.2) reply (state_in s' x.0 x.1)
  pub working : IsWorking new s' x.0 x.1
  pub seen : IsViewIn r v line reply x.1
  pub only : OnlyIn s.store.held old new line reply
  pub stays : StaysSettled s.store.held.collection old new
  pub judged : IsJudgedIn old new s s' r v x.2
  pub settled : IsSettledIn new s s' reply
  pub space : KeepsSpaceIn old new s'
  pub files : KeepsFiles old new
  pub said : KeepsSaid old new
  pub atomic : NothingPending old → IsAtomic old new r x.0
  pub slots : NothingPending old → KeepsSlots old new
  pub nothing_pending : NothingPending old → NothingPending new

pub went_to : (rule : Rule) (known : Bool) (old new : Told) (s s' : Session) (r : Repository) (v : View) (line : Bytes) (reply : Reply) → (IsTrue known → GoesIn rule old new s s' r v line reply)
    → (x : Repository × View × Option Difference) × (IsTrue known → GoesTo rule old new s s' r v line reply x)
went_to rule known old new s s' r v line reply goes = settled (GoesTo rule old new s s' r v line reply) known (r, v, None)
    (λ is. let h = goes is in ((h.after, h.view, h.difference), record { gives = h.gives; working = h.is_at; seen = h.seen; only = h.only; stays = h.stays; judged = h.judged; settled = h.settled; space = h.space; files = h.files; said = h.said; atomic = h.atomic; slots = h.slots; nothing_pending = h.nothing_pending }))

-- or it was cut short, with this reply, this state of the machine and this difference
pub record CutTo (rule : Rule) (old new : Told) (s s' : Session) (r : Repository) (v : View) (line : Bytes) (x : Reply × State × Option Difference) : Type 0 where
  pub gives : LineStep IsLineOf rule (state_in s r v) line (conditions_with s'.met x.2) x.0 x.1
  pub only : TouchesIn s.store.held old new line
  pub stays : StaysSettled s.store.held.collection old new
  pub space : KeepsSpaceIn old new s'
  pub files : KeepsFiles old new
  pub said : KeepsSaid old new
  pub atomic : NothingPending old → IsAtomic old new r x.1.repository
  pub slots : NothingPending old → KeepsSlots old new

pub cut_to : (rule : Rule) (known : Bool) (old new : Told) (s s' : Session) (r : Repository) (v : View) (line : Bytes) → (IsTrue known → CutIn rule old new s s' r v line)
    → (x : Reply × State × Option Difference) × (IsTrue known → CutTo rule old new s s' r v line x)
cut_to rule known old new s s' r v line cut = settled (CutTo rule old new s s' r v line) known (Reply.Accepted, state_in s r v, None)
    (λ is. let h = cut is in ((h.reply, h.after, h.difference), record { gives = h.gives; only = h.only; stays = h.stays; space = h.space; files = h.files; said = h.said; atomic = h.atomic; slots = h.slots }))

-- What a session does with one line: it is run and noted, and its reply's text stands there to be said or counted.
--     OnlyRemovals old new      nothing was counted but faults of removals.      CountsServing status old new      what is counted where a run ends so
--     CountsCut status old new      and where it was cut short.      IsDamage status      it ends by damage.      WritesNone old new      no file was written
--     ended_status end      the status of a session's end.      is_cut_short status      a fault of the ground or of its files cut the last command short
--     Works rule tells told s r v      the ground tells its content, the session works over it, and the rule of merges is decisive
--     Begun      a line was begun, and noted.      Exchanged      and the session goes on behind it
--     Replied      its reply's text is there.      CutShort, CutsShort      it was cut short, and why
--     Trace      so far: a run of the machine.      Ran      and the repository and the view that the session is in
-- Of what a session does most is said where it is known to work: where `known` is true. It is for a whole run, from what the ground told at first.
use Rattle.std.specs.Prelude.{ℕ, ◌+◌, ◌-◌, ◌^◌, ◌<◌, ◌≤◌, ◌≡◌, ◌≢◌, min, Bool, true, false, IsTrue, List, [], ◌∷◌, ◌++◌, Some, None, All}
use Rattle.ip_ground.specs.declared.names.FileName.{FileName}
use Rattle.ip_ground.specs.Contents.{Content}
use Rattle.ip_ground.specs.Counts.{Noted, Rose, FileFault, DamageFound, binds}
use Rattle.ip_base.specs.declared.exit.Reaped.{Reaped}
use Rattle.ip_ground.specs.Told.{Told, KeepsPast, KeepsSaid, KeepsCustody, IsPossibleNow}
use Rattle.ip_image.specs.declared.counts.TurnCounts.{TurnCounts}
use Rattle.ip_image.specs.declared.slot.Slot.{Slot}
use Rattle.ip_image.specs.Standing.{StandsFor}
use Rattle.ip_image.specs.Pending.{HasLive, NothingPending, KeepsSpace}
use Rattle.ip_image.specs.Headline.{MayServe, IsAtomic}
use Rattle.ip_spec.specs.declared.met.Child.TheVariants as Child
use Rattle.ip_spec.specs.Merge.{Rule}
use Rattle.ip_spec.specs.Path.{Bytes}
use Rattle.ip_spec.specs.Machine.{State, Phase, opened}
use Rattle.ip_spec.specs.Repository.{Repository}
use Rattle.ip_spec.specs.View.{View}
use Rattle.ip_merge.specs.Rules.{IsDecisive}
use Rattle.ip_spec.specs.Line.{IsLineOf}
use Rattle.ip_spec.specs.Script.{LineStep}
use Rattle.ip_spec.specs.Text.{reply_text}
use Rattle.ip_held.specs.Clear.{IsCleared, IsClearAt, KeepsClear}
use Rattle.ip_held.specs.Collecting.{phase_of, child_of}
use Rattle.ip_held.specs.Slots.{KeepsSlots}
use Rattle.ip_held.specs.Sweeping.{KeepsFiles}
use Rattle.ip_publish.specs.Publishing.{IsOfStore}
use Rattle.ip_session.specs.declared.session.Session.{Session}
use Rattle.ip_session.specs.declared.session.SessionEnd.{SessionEnd}
use Rattle.ip_session.specs.Asking.{GoesOnBy, starts_in}
use Rattle.ip_session.specs.Session.{IsServing, IsWorking, state_in}
use Rattle.ip_app.specs.declared.statuses.Status.{Status}
use Rattle.ip_app.specs.Exchanges.{Exchange, conditions, Run, turns_in, after_all}
use Rattle.ip_app.specs.Files.{OnlyReads, LeavesFiles, ReadsFiles, KeepsDrawn, HasRisen}
use Rattle.ip_app.specs.Happening.{Happens, HappensCut, AllHappen, started_in, ends_in}
use Rattle.ip_app.specs.Judged.{Watches, Settles}
use Rattle.ip_app.specs.Turns.{turn_counts, IsLater, Follow}
use Rattle.ip_app.specs.Outside.{Outside, Tells, Knows, GoesOn}

-- the ground tells its content, the session works over it in this repository, and a merge comes to one thing alone
abbrev pub Works : Rule → Bool → Told → Session → Repository → View → Type 0
Works rule tells told s r v = IsTrue tells × IsWorking told s r v × IsDecisive rule

-- ---- how a session ends

-- how a call ends whose session has ended
abbrev pub ended_status : SessionEnd → Status
ended_status SessionEnd.Ground = Status.GroundFault
ended_status (SessionEnd.Damaged at None) = Status.DamagedRecord at
ended_status (SessionEnd.Damaged at (Some (want, got))) = Status.DamagedName at want got

-- a fault of the ground or of its files cut the last command short
abbrev pub is_cut_short : Status → Bool
is_cut_short Status.GroundFault = true
is_cut_short (Status.DamagedRecord at) = true
is_cut_short (Status.DamagedName at want got) = true
is_cut_short _ = false

-- ---- what is counted

-- nothing but removals that failed, which a sweep passes over
pub record OnlyRemovals (old new : Noted) : Type 0 where
  pub file_faults : new.file_faults ≡ old.file_faults
  pub say_faults : new.say_faults ≡ old.say_faults
  pub damages : new.damages ≡ old.damages
  pub remove_faults : old.remove_faults ≤ new.remove_faults

-- besides those of removals, a fault of a file, or of output, or damage
pub record AFileFault (old new : Noted) : Type 0 where
  pub rose : Rose old.file_faults new.file_faults
  pub say_faults : new.say_faults ≡ old.say_faults
  pub damages : new.damages ≡ old.damages
  pub remove_faults : old.remove_faults ≤ new.remove_faults

pub record ASayFault (old new : Noted) : Type 0 where
  pub rose : Rose old.say_faults new.say_faults
  pub file_faults : new.file_faults ≡ old.file_faults
  pub damages : new.damages ≡ old.damages
  pub remove_faults : old.remove_faults ≤ new.remove_faults

-- once, whatever was found beside it
pub record ADamage (old new : Noted) : Type 0 where
  pub once : new.damages ≡ min (old.damages + 1) (2 ^ 64 - 1)
  pub file_faults : new.file_faults ≡ old.file_faults
  pub say_faults : new.say_faults ≡ old.say_faults
  pub remove_faults : old.remove_faults ≤ new.remove_faults

-- Damage that was found is told by the status, and by no other one.
abbrev pub CountsServing : Status → Noted → Noted → Type 0
CountsServing Status.GroundFault old new = AFileFault old new
CountsServing Status.SayFault old new = ASayFault old new
CountsServing (Status.Damaged file at) old new = ADamage old new
CountsServing (Status.DamagedRecord at) old new = ADamage old new
CountsServing (Status.DamagedName at want got) old new = ADamage old new
CountsServing _ old new = OnlyRemovals old new

-- Of the command that was cut short: that fault, or that damage once, and nothing else, removals among them.
abbrev pub CountsCut : Status → Noted → Noted → Type 0
CountsCut Status.GroundFault old new = FileFault old new
CountsCut (Status.DamagedRecord at) old new = DamageFound old new
CountsCut (Status.DamagedName at want got) old new = DamageFound old new
CountsCut _ old new = ⊥

-- ---- what is written behind damage

abbrev pub IsDamage : Status → Type 0
IsDamage (Status.DamagedRecord at) = Unit {0}
IsDamage (Status.DamagedName at want got) = Unit {0}
IsDamage _ = ⊥

-- No write of a file was asked for. Those of the store read as they did, and a crash leaves nothing more of them: at most they were synced.
pub record WritesNone (old new : Told) : Type 0 where
  pub goes : KeepsPast old new
  pub unwritten : (file : FileName) → new.writes file ≡ old.writes file
  pub held : (file : FileName) → IsOfStore file → new.held file ≡ old.held file
  pub left : (file : FileName) → IsOfStore file → (moment : ℕ) (content : Content) → old.moment < moment → moment ≤ new.moment → new.may_leave moment file content → old.may_leave old.moment file content

-- ---- one line

-- a line was run, or begun, and noted
pub record Begun (rule : Rule) (known : Bool) (old new : Outside) (counts counts' : TurnCounts) (state : State) (x : Exchange) : Type 0 where
  pub goes_on : GoesOn old new
  pub files : IsTrue known → KeepsFiles old.told new.told
  pub step : IsTrue known → LineStep IsLineOf rule state x.line (conditions x) x.reply x.after
  pub noted : IsTrue new.log_tells → new.turns ≡ old.turns ++ x.turn ∷ []
  pub begins_at : x.turn.before ≡ counts
  pub ends_at : x.turn.after ≡ counts'
  pub rises : IsLater x.turn.before x.turn.after
  pub until : counts' ≡ turn_counts new.counts new.spawns
  pub reads : new.read_faults ≡ old.read_faults
  pub bound : new.counts.bound ≡ old.counts.bound
  -- what was started in the folder, and reaped
  pub spawned : IsTrue old.spawner_tells → new.spawned ≡ record { started = old.spawned.started ++ starts_in old.dir x.started; reaped = old.spawned.reaped ++ x.reaped }
  -- what the files read as when it began is one of the things that a crash might have left
  pub possible : IsTrue known → IsPossibleNow old.told
  -- a command that only reads changes no file, also where it was cut short
  pub keeps : IsTrue known → OnlyReads x → ReadsFiles old.told new.told
  pub lends : IsTrue known → KeepsDrawn state.phase old.told new.told

-- by a session in a repository, which is in the one after it then
pub record Exchanged (rule : Rule) (known : Bool) (old new : Outside) (counts counts' : TurnCounts) (s s' : Session) (r : Repository) (v : View) (x : Exchange) (after : Repository) (view : View) : Type 0 where
  pub begun : Begun rule known old new counts counts' (state_in s r v) x
  pub now_at : IsTrue known → x.after ≡ state_in s' after view
  pub goes_on_by : GoesOnBy x.turn.met.child x.started s.store.held.collection s'.store.held.collection
  pub watches : IsTrue known → Watches rule old.told new.told (state_in s r v) v view s.store.held.collection s'.store.held.collection s.store.held.slot s'.store.held.slot s.store.held.unswept s'.store.held.unswept x
  -- what had been cleared away is so still
  pub clear : IsTrue known → KeepsClear s.store.held s'.store.held old.told new.told
  -- where it was not done, nor a sweep made behind it
  pub unwritten : IsTrue known → LeavesFiles x → WritesNone old.told new.told
  pub happens : Happens (phase_of s.store.held.collection) x
  pub phase : x.after.phase ≡ phase_of s'.store.held.collection
  pub child : new.held ≡ child_of s'.store.held.collection
  pub serving : IsServing s'
  pub working : IsTrue known → IsWorking new.told s' after view
  pub nothing_pending : IsTrue known → NothingPending old.told → NothingPending new.told

-- nothing was said yet
pub record Replied (rule : Rule) (known : Bool) (old new : Outside) (line text : Bytes) (counts counts' : TurnCounts) (s s' : Session) (r : Repository) (v : View) : Type 0 where
  pub exchange : Exchange
  pub after : Repository
  pub view : View
  pub line_is : exchange.line ≡ line
  pub text_is : text ≡ reply_text exchange.reply
  pub exchanged : Exchanged rule known old new counts counts' s s' r v exchange after view
  pub no_fault : OnlyRemovals old.counts new.counts
  pub quiet : IsTrue known → KeepsSaid old.told new.told
  pub atomic : IsTrue known → NothingPending old.told → IsAtomic old.told new.told r after

-- A command was cut short: the reply and the state are those that it has where none of its writes fails.
pub record CutShort (rule : Rule) (status : Status) (known : Bool) (old new : Outside) (line : Bytes) (counts counts' : TurnCounts) (state : State) : Type 0 where
  pub exchange : Exchange
  pub line_is : exchange.line ≡ line
  pub begun : Begun rule known old new counts counts' state exchange
  -- of the ground a fault was counted, or damage, where the status says so, and nothing of another kind
  pub counted : CountsCut status old.counts new.counts
  pub happens : HappensCut state.phase exchange
  -- behind damage no file is written
  pub unwritten : IsTrue old.ground_tells → IsDamage status → WritesNone old.told new.told
  pub quiet : IsTrue known → KeepsSaid old.told new.told
  pub atomic : IsTrue known → NothingPending old.told → IsAtomic old.told new.told state.repository exchange.after.repository
  pub slots : IsTrue known → NothingPending old.told → KeepsSlots old.told new.told
  pub again : IsTrue known → NothingPending old.told → MayServe new.told
  pub settles : IsTrue known → NothingPending old.told → Settles old.told new.told
  -- what a child may read stays, where it did not hear of its end
  pub space : IsTrue known → NothingPending old.told → ((reaped : Reaped) → exchange.turn.met.child ≢ Child.Ended reaped) → (slot : Slot) → HasLive slot old.told.held → KeepsSpace slot old.told new.told

-- files that others changed are met by none that is known to work
abbrev pub CutsShort : Rule → Status → (known : Bool) → Outside → Outside → Bytes → TurnCounts → TurnCounts → State → Type 0
CutsShort rule Status.GroundFault known old new line counts counts' state = CutShort rule Status.GroundFault known old new line counts counts' state
CutsShort rule (Status.DamagedRecord at) known old new line counts counts' state = CutShort rule (Status.DamagedRecord at) known old new line counts counts' state × (¬ IsTrue known)
CutsShort rule (Status.DamagedName at want got) known old new line counts counts' state = CutShort rule (Status.DamagedName at want got) known old new line counts counts' state × (¬ IsTrue known) × (IsDecisive rule → want ≢ got)
CutsShort rule status known old new line counts counts' state = ⊥

-- ---- line by line

-- a run of the machine, of which the last command may have been cut off
pub record Trace (rule : Rule) (decisive known : Bool) (exchanges : List Exchange) (first : Repository) (old now : Outside) (counts : TurnCounts) : Type 0 where
  pub known_so : Knows decisive old → IsTrue known
  pub tells : IsTrue known → Tells old
  pub is_decisive : IsTrue known → IsDecisive rule
  pub goes_on : GoesOn old now
  pub files : IsTrue known → KeepsFiles old.told now.told
  pub began : Tells old → StandsFor old.told.held first
  pub run : IsTrue known → Run rule (opened first) exchanges
  pub noted : IsTrue now.log_tells → now.turns ≡ old.turns ++ turns_in exchanges
  pub spawned : IsTrue old.spawner_tells → now.spawned ≡ record { started = old.spawned.started ++ started_in old.dir exchanges; reaped = old.spawned.reaped ++ ends_in exchanges }
  pub counts_now : counts ≡ turn_counts now.counts now.spawns
  pub follow : Follow (turn_counts old.counts old.spawns) (turns_in exchanges) counts
  pub reads : now.read_faults ≡ old.read_faults
  pub bound : now.counts.bound ≡ binds old.dir (Some old.dir) old.counts.bound
  pub keeps : IsTrue known → All OnlyReads exchanges → ReadsFiles old.told now.told

-- none was, and the session goes on
pub record Ran (rule : Rule) (decisive known : Bool) (exchanges : List Exchange) (first repository : Repository) (view : View) (slot : Slot) (old now : Outside) (counts : TurnCounts) (session : Session) : Type 0 where
  pub trace : Trace rule decisive known exchanges first old now counts
  pub now_at : IsTrue known → state_in session repository view ≡ after_all (opened first) exchanges
  pub live : IsTrue known → HasLive slot old.told.held
  pub serving : IsServing session
  pub working : IsTrue known → IsWorking now.told session repository view
  -- where nothing was left to be cleared when it began that its slot names as swept, nothing is that is not unswept
  pub clear : IsTrue known → IsClearAt old.told → IsCleared session.store.held now.told
  pub nothing_pending : IsTrue known → NothingPending old.told → NothingPending now.told
  pub phases : AllHappen Phase.Idle exchanges
  pub phase : phase_of session.store.held.collection ≡ (after_all (opened first) exchanges).phase
  pub child : now.held ≡ child_of session.store.held.collection
  -- before the first command nothing was written
  pub unwritten : IsTrue old.ground_tells → exchanges ≡ [] → WritesNone old.told now.told
  -- nor by commands that were not done, and made no sweep
  pub leaves : IsTrue known → All LeavesFiles exchanges → WritesNone old.told now.told
  -- an attempt that had been drawn when the run began is whose it was, and that of the collection was drawn since
  pub lends : IsTrue known → (n : ℕ) → n < slot.next_attempt → KeepsCustody old.told now.told n
  pub risen : IsTrue known → HasRisen slot session.store.held.slot (phase_of session.store.held.collection)

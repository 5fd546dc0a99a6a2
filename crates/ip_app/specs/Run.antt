-- What a call of the program does, from what is told when it begins to what is told when it returns.
--     Inits, Serves      one record for each call; its last field is the row of the status. Of replies and states it is said where the rules of merges are known to be
--         decisive, for what such a merge makes of the files is one thing alone: where `decisive` is true
--     Replies, Reopens, Notes, AsksChildren      of a serving call: its replies, what its files stand for, its log, its counts and its folder, and its children
--     EndsAsBytes, EndsWhereAllIsWell      of a serving call: the source's bytes give the status; and which statuses need a fault
--     LeavesAll      of a call that is refused: nothing changes
--     StandsAgain new said first steps      of a ground that is opened behind a stop
use Rattle.std.specs.Prelude.{ℕ, ◌<◌, ◌≤◌, ◌≡◌, ◌≢◌, ◌⊎◌, max, Bool, true, false, IsTrue, List, [], ◌++◌, length, slice_index, map, All, None, Some, IsSome, Result, Ok, Err}
use Rattle.ip_ground.specs.declared.names.FileName.TheVariants.{Control}
use Rattle.ip_base.specs.declared.exit.Reaped.{Reaped}
use Rattle.ip_ground.specs.Counts.{Rose, binds}
use Rattle.ip_ground.specs.Custody.{own}
use Rattle.ip_ground.specs.Told.{Told, said, lending, KeepsCustody, ChangesOnly, SyncsOnly, Only, NoFile, IsSynced, EachImageNow}
use Rattle.ip_image.specs.declared.slot.Slot.{Slot}
use Rattle.ip_image.specs.Slot.{live_index}
use Rattle.ip_image.specs.Standing.{StandsFor, NoStore, DamagedAt}
use Rattle.ip_image.specs.Pending.{HasLive, NothingPending}
use Rattle.ip_image.specs.Headline.{MayServe, Headline, Acknowledged}
use Rattle.ip_spec.specs.Merge.{Rule}
use Rattle.ip_spec.specs.Path.{Bytes}
use Rattle.ip_spec.specs.Repository.{Repository, no_repository}
use Rattle.ip_spec.specs.Machine.{State, opened}
use Rattle.ip_spec.specs.Script.{Answered, whole_lines, state_after}
use Rattle.ip_held.specs.Control.{control_in, IsFresh}
use Rattle.ip_opens.specs.declared.making.InitFault.{InitFault}
use Rattle.ip_opens.specs.declared.opening.OpenFault.{OpenFault}
use Rattle.ip_held.specs.declared.held.Held.{Held}
use Rattle.ip_opens.specs.Opening.{RecoversOnceOpen}
use Rattle.ip_held.specs.Held.{IsOf, OwnsLive, Holds}
use Rattle.ip_held.specs.Clear.{IsCleared, IsClearAt, unswept_in}
use Rattle.ip_held.specs.Sweeping.{KeepsFiles}
use Rattle.ip_spawn.specs.declared.spawner.SpawnCounts.{SpawnCounts}
use Rattle.ip_app.specs.declared.statuses.Status.{Status}
use Rattle.ip_app.specs.Lines.{longest_line, last_piece}
use Rattle.ip_app.specs.Reading.{EndsReading}
use Rattle.ip_app.specs.Ending.{ending_of, IsOfBytes}
use Rattle.ip_app.specs.Exchanges.{Exchange, answer_of, Run, lines_in, turns_in, texts_in, after_all}
use Rattle.ip_app.specs.Files.{OnlyReads, LeavesFiles, ReadsFiles, SlotsSince}
use Rattle.ip_app.specs.Happening.{HappenIn, started_in, ends_in}
use Rattle.ip_app.specs.Serving.{is_cut_short, CountsOf, CountsServing, IsDamage, WritesNone}
use Rattle.ip_app.specs.Judged.{WatchedIn}
use Rattle.ip_spec.specs.Text.{reply_text}
use Rattle.ip_session.specs.Asking.{LetsGo}
use Rattle.ip_app.specs.Turns.{turn_counts, Follow}
use Rattle.ip_app.specs.Outside.{Outside, Tells, Knows, GoesOn, IsBound, IsUnasked}

-- ---- opening

abbrev pub opening_status : OpenFault → Status
opening_status OpenFault.NoStore = Status.NoStore
opening_status (OpenFault.Damaged file at) = Status.Damaged file at
opening_status OpenFault.Ground = Status.GroundFault
opening_status OpenFault.Memory = Status.Memory

-- why the store could not be opened
abbrev pub CouldNotOpen : Status → (tells : Bool) → Told → Type 0
CouldNotOpen Status.NoStore tells old = IsTrue tells → NoStore old.held
CouldNotOpen (Status.Damaged file at) tells old = IsTrue tells → OwnsLive old → DamagedAt old.held file at
CouldNotOpen Status.GroundFault tells old = Unit {0}
CouldNotOpen Status.Memory tells old = Unit {0}
CouldNotOpen status tells old = ⊥

-- the store is open, and holds a repository for which the files stood when the call began
pub record OpensAs (tells : Bool) (old new : Told) (store : Held) : Type 0 where
  pub repository : Repository
  pub tables : IsOf store repository
  pub holds : IsTrue tells → OwnsLive old → Holds store new repository
  pub stands : IsTrue tells → OwnsLive old → StandsFor old.held repository
  -- what its slot names as swept was cleared away
  pub clear : IsTrue tells → OwnsLive old → IsClearAt old → IsCleared store new
  pub unswept : store.unswept ≡ unswept_in store.slot
  pub opening : IsTrue tells → RecoversOnceOpen old new
  pub over : (told : IsTrue tells) → OwnsLive old → (opening told).since ≤ new.moment

-- what the files read as when the call began stands for the repository with which the run begins
abbrev pub IsOpened : Outside → State → Type 0
IsOpened old first = Tells old → StandsFor old.told.held first.repository

-- the store was opened, or no command was begun
abbrev pub Begins : Status → Outside → State → List Exchange → Type 0
Begins Status.NoStore old first exchanges = exchanges ≡ []
Begins (Status.Damaged file at) old first exchanges = exchanges ≡ []
Begins Status.Memory old first exchanges = exchanges ≡ []
Begins Status.GroundFault old first exchanges = (exchanges ≡ []) ⊎ IsOpened old first
Begins status old first exchanges = IsOpened old first

-- ---- serving a script

-- the call ended in the middle of a command, or of saying its reply
abbrev pub is_cut_off : Status → Bool
is_cut_off Status.SayFault = true
is_cut_off Status.GroundFault = true
is_cut_off (Status.DamagedRecord at) = true
is_cut_off (Status.DamagedName at want got) = true
is_cut_off _ = false

-- in the middle of saying a reply
abbrev pub is_unsaid : Status → Bool
is_unsaid Status.SayFault = true
is_unsaid _ = false

-- what was said of the replies: all, or all but the last and a part of that; nothing of one whose command was cut short
pub record SaysUpTo (status : Status) (begun : Type 0) (exchanges : List Exchange) (old new : Bytes) : Type 0 where
  pub whole : List Exchange
  pub cut : List Exchange
  pub part : Bytes
  pub unsaid : Bytes
  pub all : whole ++ cut ≡ exchanges
  pub one : length cut ≤ 1
  -- the command in whose middle it ended is one of them
  pub some : is_cut_off status ≡ true → begun → cut ≢ []
  pub text : part ++ unsaid ≡ texts_in cut
  pub said_is : new ≡ old ++ texts_in whole ++ part
  pub silent : is_cut_short status ≡ true → part ≡ []

-- no byte was taken, no command begun, nothing said, no child asked for, and no file changed at any moment, nor any but the control file synced
pub record IsUntouched (old new : Outside) (taken : Bytes) : Type 0 where
  pub none_taken : taken ≡ []
  pub left : new.left ≡ old.left
  pub said_nothing : IsTrue old.ground_tells → said new.told ≡ said old.told
  pub only : IsTrue old.ground_tells → SyncsOnly (Only Control) old.told new.told
  pub turns : new.turns ≡ old.turns
  pub unasked : IsUnasked old new

abbrev pub ReadingEnds : Status → Outside → Outside → Bytes → Type 0
ReadingEnds status old new taken = EndsReading status (length (last_piece taken)) (length taken) (IsTrue old.source_tells → new.left ≡ [])

-- the row of each status: what it says of the bytes taken and the files
abbrev pub Row : (decisive : Bool) → Status → Outside → Outside → Bytes → Type 0
Row decisive Status.Done old new taken = ReadingEnds Status.Done old new taken
Row decisive Status.Unfinished old new taken = ReadingEnds Status.Unfinished old new taken
Row decisive (Status.Limit bound) old new taken = ReadingEnds (Status.Limit bound) old new taken
Row decisive Status.ReadFault old new taken = ReadingEnds Status.ReadFault old new taken × Rose old.read_faults new.read_faults
Row decisive Status.SayFault old new taken = Unit {0}
Row decisive Status.GroundFault old new taken = Unit {0}
Row decisive Status.NoStore old new taken = IsUntouched old new taken × (IsTrue old.ground_tells → NoStore old.told.held)
Row decisive (Status.Damaged file at) old new taken = IsUntouched old new taken × (Tells old → DamagedAt old.told.held file at)
-- of the files that a call reads: never where the ground tells its content, no child changes the live pair, and the rules are decisive
Row decisive (Status.DamagedRecord at) old new taken = ¬ Knows decisive old
Row decisive (Status.DamagedName at want got) old new taken = (¬ Knows decisive old) × (IsTrue decisive → want ≢ got)
Row decisive Status.Memory old new taken = IsUntouched old new taken
Row decisive Status.DamagedJob old new taken = ⊥
Row decisive Status.Usage old new taken = ⊥
Row decisive Status.Exists old new taken = ⊥

-- the store was opened
abbrev pub IsBehindOpening : Status → List Exchange → Type 0
IsBehindOpening Status.NoStore exchanges = ⊥
IsBehindOpening (Status.Damaged file at) exchanges = ⊥
IsBehindOpening Status.Memory exchanges = ⊥
IsBehindOpening Status.GroundFault exchanges = exchanges ≢ []
IsBehindOpening status exchanges = Unit {0}

-- What was read, and what was replied.
pub record Replies (rule : Rule) (decisive : Bool) (old new : Outside) (status : Status) (taken : Bytes) (exchanges : List Exchange) (first : State) : Type 0 where
  -- the bytes taken from the source, in whatever pieces
  pub bytes : IsTrue old.source_tells → old.left ≡ taken ++ new.left
  -- the commands begun are those of their lines, in order, and of all of them unless one cut the call short
  pub begun : (more : List Bytes) × (whole_lines taken ≡ lines_in exchanges ++ more) × (is_cut_off status ≡ false → more ≡ [])
  pub short : All (λ line. length line ≤ longest_line) (lines_in exchanges)
  -- where one met damage some were begun
  pub some : IsDamage status → exchanges ≢ []
  -- and are a run of the machine, each with what it met. What is read of records is known only where the ground tells its content
  pub run : Knows decisive old → Run rule first exchanges
  -- What each of them appends comes to lie behind what the live slot says, and what it met of a child that has ended is what that child left, which had been started in the run.
  pub watched : Knows decisive old → (slot : Slot) → HasLive slot old.told.held → WatchedIn rule reply_text (is_unsaid status) (is_cut_short status) old.told new.told slot first exchanges
  -- what was said grows by the replies' texts
  pub said_part : Knows decisive old → SaysUpTo status (taken ≢ []) exchanges (said old.told) (said new.told)
  pub said_all : Knows decisive old → is_cut_off status ≡ false → said new.told ≡ said old.told ++ texts_in exchanges

-- What the files stand for.
pub record Reopens (decisive : Bool) (old new : Outside) (status : Status) (exchanges : List Exchange) (first : State) : Type 0 where
  -- At every moment from the first sync of opening on, where the ground was in order: what had been said was a front of the replies' texts, and whatever a crash leaves
  -- stands for the repository after some first commands, all acknowledged ones among them.
  -- And the slot that is live in it lies so many durable steps at most behind the one that was live, as commands were begun.
  pub any_moment : IsTrue old.ground_tells → IsTrue decisive → (r : Repository) → StandsFor old.told.held r → NothingPending old.told → (since : ℕ) × (IsBehindOpening status exchanges → since ≤ new.told.moment) × Headline since old.told new.told (opened r) (map answer_of exchanges)
      × ((slot : Slot) → HasLive slot old.told.held → SlotsSince since slot (length exchanges) new.told)
  -- and the ground that is left may be served again, however this run ended
  pub again : IsTrue old.ground_tells → IsTrue decisive → MayServe old.told → MayServe new.told
  -- in the end the files stand for the repository after all of them, unless a fault of the ground or of its files cut the last one short
  pub stands : Knows decisive old → is_cut_short status ≡ false → StandsFor old.told.held first.repository → StandsFor new.told.held (after_all first exchanges).repository
  -- Nothing is held then of what the live slot names as swept, where nothing was when the call began. A crash may bring a removed file back, and so may a fault that cut the last command short.
  pub clear : Knows decisive old → is_cut_short status ≡ false → IsClearAt old.told → IsClearAt new.told
  -- of the files that are no chunk and not the control file none is written but by a child: it stays or is removed
  pub files : Knows decisive old → KeepsFiles old.told new.told
  -- commands that only read, and opening, change and remove no file and lend none to a child, however the run ends
  pub keeps : Knows decisive old → All OnlyReads exchanges → ReadsFiles old.told new.told
  -- nor is one written where no command was done and no sweep made
  pub leaves : Knows decisive old → is_cut_short status ≡ false → All LeavesFiles exchanges → WritesNone old.told new.told
  -- an attempt that had been drawn when the call began is whose it was, at every moment: it is neither lent nor settled
  pub lends : Knows decisive old → (slot : Slot) → HasLive slot old.told.held → (n : ℕ) → n < slot.next_attempt → KeepsCustody old.told new.told n

-- What was noted in the log, and what was counted.
pub record Notes (old new : Outside) (status : Status) (exchanges : List Exchange) : Type 0 where
  -- the log has their turns, each beginning with the counts that the one before it ended with, from those of the call's begin to those of its end
  pub noted : IsTrue new.log_tells → new.turns ≡ old.turns ++ turns_in exchanges
  -- Behind the last of them no child is looked at or waited for: at most one is let go.
  pub follow : IsBehindOpening status exchanges → (last : SpawnCounts) × LetsGo last new.spawns × Follow (turn_counts old.counts old.spawns) (turns_in exchanges) (turn_counts new.counts last)
  -- A fault of the ground or of output ends the call, and so does damage: it was counted, and no other was.
  pub counted : CountsServing status old.counts new.counts
  pub reads : status ≢ Status.ReadFault → new.read_faults ≡ old.read_faults
  -- the folder of the words is bound, and no other was asked for; where it could not be, no command was begun
  pub bound : IsBound old.dir status old.counts new.counts
  pub bound_first : exchanges ≢ [] → new.counts.bound ≡ binds old.dir (Some old.dir) old.counts.bound

-- What was asked of the spawner.
pub record AsksChildren (cut_short : Bool) (old new : Outside) (exchanges : List Exchange) : Type 0 where
  -- what each command met of it is what happened, of one that was cut short too
  pub happen : HappenIn cut_short exchanges
  -- it has started what the commands started, in the folder of the words, and reaped what they reaped, and at the end it was let go of one more at most
  pub spawned : IsTrue old.spawner_tells → (ends : List Reaped) × (length ends ≤ 1) × (new.spawned ≡ record { started = old.spawned.started ++ started_in old.dir exchanges; reaped = (old.spawned.reaped ++ ends_in exchanges) ++ ends })
  pub none_held : old.held ≡ None → new.held ≡ None

-- Of these bytes taken, and these exchanges from this state on.
pub record Serves (rule : Rule) (decisive : Bool) (old new : Outside) (status : Status) : Type 0 where
  pub taken : Bytes
  pub exchanges : List Exchange
  pub first : State
  pub goes_on : GoesOn old new
  -- they begin with the repository that was opened
  pub begins : Begins status old first exchanges
  pub first_is : first ≡ opened first.repository
  pub replies : Replies rule decisive old new status taken exchanges first
  pub reopens : Reopens decisive old new status exchanges first
  pub notes : Notes old new status exchanges
  pub children : AsksChildren (is_cut_short status) old new exchanges
  -- why it ends so
  pub row : Row decisive status old new taken
  -- where the store could not be opened nothing was changed
  pub unopened : status ≡ Status.GroundFault → exchanges ≡ [] → IsUntouched old new taken
  -- nor was anything where the first command met damage
  pub unwritten : IsTrue old.ground_tells → IsDamage status → length exchanges ≤ 1 → WritesNone old.told new.told

-- where the source tells its bytes, these alone give the status, in whatever pieces they came
abbrev pub EndsAsBytes : Outside → Status → Type 0
EndsAsBytes old status = IsTrue old.source_tells → IsOfBytes status → status ≡ ending_of old.left

-- no count of faults rose
pub record NoneRose (old new : Outside) : Type 0 where
  pub read : ¬ Rose old.read_faults new.read_faults
  pub file : ¬ Rose old.counts.file_faults new.counts.file_faults
  pub say : ¬ Rose old.counts.say_faults new.counts.say_faults

-- a status that the script gives, and the one that is free
abbrev pub EndsByScript : Status → Type 0
EndsByScript Status.Done = Unit {0}
EndsByScript Status.Unfinished = Unit {0}
EndsByScript (Status.Limit bound) = Unit {0}
EndsByScript Status.Memory = Unit {0}
EndsByScript _ = ⊥

-- where no fault was counted and the files stood for some repository, a serving call ends by its script
abbrev pub EndsWhereAllIsWell : Outside → Outside → Status → Type 0
EndsWhereAllIsWell old new status = Tells old → ((r : Repository) × StandsFor old.told.held r) → NoneRose old new → EndsByScript status

-- ---- making a store

abbrev pub init_status : Result (Unit {0}) InitFault → Status
init_status (Ok u) = Status.Done
init_status (Err InitFault.Existing) = Status.Exists
init_status (Err InitFault.Ground) = Status.GroundFault

-- no slot was open, and a store without commits and with chunks of so many bytes stands there, of which a crash leaves all
pub record IsMade (chunk : ℕ) (old new : Told) : Type 0 where
  pub closed : live_index (control_in old.held) ≡ None
  pub fresh : IsFresh chunk new.held
  pub kept : IsSynced new Control
  -- what stood behind the two slots stays, and the file grows up to their end at most
  pub behind : (place : ℕ) → 256 ≤ place → slice_index (control_in new.held) place ≡ slice_index (control_in old.held) place
  pub no_longer : length (control_in new.held) ≤ max (length (control_in old.held)) 256
  pub stands : EachImageNow new (λ image. StandsFor image no_repository)
  pub clear : IsClearAt new
  pub nothing_pending : ((attempt : ℕ) → lending old attempt ≡ own) → NothingPending new

-- a slot was open, and nothing was changed
pub record IsThere (old new : Told) : Type 0 where
  pub gate_open : IsSome (live_index (control_in old.held))
  pub only : ChangesOnly NoFile old new

abbrev pub InitRow : (chunk : ℕ) → Status → (tells : Bool) → Told → Told → Type 0
InitRow chunk Status.Done tells old new = IsTrue tells → IsMade chunk old new
InitRow chunk Status.Exists tells old new = IsTrue tells → IsThere old new
-- a store that is there stays, behind a fault too
InitRow chunk Status.GroundFault tells old new = IsTrue tells → IsSome (live_index (control_in old.held)) → ChangesOnly NoFile old new
-- before the files are touched
InitRow chunk Status.Memory tells old new = IsTrue tells → ChangesOnly NoFile old new
InitRow chunk _ tells old new = ⊥

pub record Inits (chunk : ℕ) (old new : Outside) (status : Status) : Type 0 where
  pub goes_on : GoesOn old new
  pub left : new.left ≡ old.left
  pub read_faults : new.read_faults ≡ old.read_faults
  pub turns : new.turns ≡ old.turns
  pub unasked : IsUnasked old new
  -- at no moment does another file change, and nothing is said
  pub only : IsTrue old.ground_tells → ChangesOnly (Only Control) old.told new.told
  -- a fault of the ground was counted, where the status says so, and of no other kind
  pub counted : CountsOf status old.counts new.counts
  pub bound : IsBound old.dir status old.counts new.counts
  pub row : InitRow chunk status old.ground_tells old.told new.told

-- ---- a call that is refused

pub record LeavesAll (old new : Outside) : Type 0 where
  pub goes_on : GoesOn old new
  pub left : new.left ≡ old.left
  pub read_faults : new.read_faults ≡ old.read_faults
  pub turns : new.turns ≡ old.turns
  pub only : ChangesOnly NoFile old.told new.told
  pub counts : new.counts ≡ old.counts
  pub unasked : IsUnasked old new

-- ---- behind a stop

-- it stands for the repository after some first commands, all acknowledged ones among them, and nothing of it is pending: so it may be served, with the same promise
abbrev pub StandsAgain : Told → Bytes → State → List Answered → Type 0
StandsAgain new said first steps = (k : ℕ) × (k ≤ length steps) × ((a : ℕ) → Acknowledged said steps a → a ≤ k) × StandsFor new.held (state_after first steps k).repository × NothingPending new

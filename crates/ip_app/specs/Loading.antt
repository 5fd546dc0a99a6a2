-- What a call does that runs a generated load, from what is told when it begins to what is told when it returns.
--     load_script seed count      the lines that it runs: those of the load, and `stat` at last, whose reply is said behind the summary of the others
--     replies_in exchanges      their replies.      load_text count exchanges      what is said of them once all are run
--     LoadSince, LoadHeadline      the moments of a run: nothing is said before all lines are run
--     SaysSummary      what was said in the end
--     LoadReplies, LoadReopens      its replies, and what its files stand for.      Loads      one record for the call
--     LoadsWhereAllIsWell      which statuses need a fault
use Rattle.std.specs.Prelude.{ℕ, ◌<◌, ◌≤◌, ◌≡◌, ◌≢◌, ◌⊎◌, Bool, false, IsTrue, List, [], ◌∷◌, ◌++◌, length, map, take, drop, codes, All}
use Rattle.ip_ground.specs.Contents.{Image, Possible}
use Rattle.ip_ground.specs.Told.{Told, said, KeepsCustody}
use Rattle.ip_image.specs.declared.slot.Slot.{Slot}
use Rattle.ip_image.specs.Standing.{StandsFor}
use Rattle.ip_image.specs.Pending.{HasLive, NothingPending, AllFlushed, crash_at}
use Rattle.ip_image.specs.Headline.{MayServe, IsAsBefore}
use Rattle.ip_spec.specs.Merge.{Rule}
use Rattle.ip_spec.specs.Path.{Bytes}
use Rattle.ip_spec.specs.Repository.{Repository}
use Rattle.ip_spec.specs.Load.{load_lines, summary}
use Rattle.ip_spec.specs.Machine.{State, opened}
use Rattle.ip_spec.specs.Script.{Answered, state_after}
use Rattle.ip_spec.specs.declared.reply.Reply.{Reply}
use Rattle.ip_held.specs.Clear.{IsClearAt}
use Rattle.ip_held.specs.Sweeping.{KeepsFiles}
use Rattle.ip_app.specs.declared.statuses.Status.{Status}
use Rattle.ip_app.specs.Exchanges.{Exchange, answer_of, Run, lines_in, texts_in, after_all}
use Rattle.ip_app.specs.Exchanging.{is_cut_short, IsDamage, WritesNone}
use Rattle.ip_app.specs.Files.{OnlyReads, LeavesFiles, ReadsFiles, SlotsSince}
use Rattle.ip_app.specs.Judged.{WatchedIn, says_nothing}
use Rattle.ip_app.specs.Outside.{Outside, Tells, Knows, GoesOn}
use Rattle.ip_app.specs.Run.{IsUntouched, Begins, IsBehindOpening, Row, Notes, AsksChildren, NoneRose}

abbrev pub load_script : ℕ → ℕ → List Bytes
load_script seed count = load_lines seed count ++ codes "stat" ∷ []

abbrev pub replies_in : List Exchange → List Reply
replies_in = map (λ x. x.reply)

abbrev pub load_text : ℕ → List Exchange → Bytes
load_text count exchanges = summary count (replies_in (take count exchanges)) ++ texts_in (drop count exchanges)

-- At a moment a front of the text had been said, and whatever a crash leaves stands for the repository after some first lines: after all of them, where anything was said.
pub record LoadSince (old new : Told) (first : State) (steps : List Answered) (text : Bytes) (t : ℕ) : Type 0 where
  pub part : Bytes
  pub rest : Bytes
  pub said_is : new.said_at t ≡ said old ++ part
  pub text_is : part ++ rest ≡ text
  pub stands : (image : Image) → Possible (crash_at new t).leave image → (k : ℕ) × (k ≤ length steps) × (part ≢ [] → k ≡ length steps) × StandsFor image (state_after first steps k).repository
  pub flushed : AllFlushed (crash_at new t)

-- until this moment of opening all is as before, and from then on this holds
pub record LoadHeadline (since : ℕ) (old new : Told) (first : State) (steps : List Answered) (text : Bytes) : Type 0 where
  pub begins : old.moment < since
  pub before : (t : ℕ) → old.moment < t → t < since → t ≤ new.moment → IsAsBefore old new t
  pub holds : (t : ℕ) → since ≤ t → t ≤ new.moment → LoadSince old new first steps text t

-- all of the text where the call is done, a part of it where that could not be said, and nothing else
pub record SaysSummary (status : Status) (text old new : Bytes) : Type 0 where
  pub part : Bytes
  pub rest : Bytes
  pub text_is : part ++ rest ≡ text
  pub said_is : new ≡ old ++ part
  pub whole : status ≡ Status.Done → rest ≡ []
  pub none : status ≢ Status.Done → status ≢ Status.SayFault → part ≡ []

-- What was run, and what was said of it.
pub record LoadReplies (rule : Rule) (decisive : Bool) (seed count : ℕ) (old new : Outside) (status : Status) (exchanges : List Exchange) (first : State) : Type 0 where
  -- the commands begun are those of the load's lines, in order, and of all of them unless a fault cut one short
  pub begun : (more : List Bytes) × (load_script seed count ≡ lines_in exchanges ++ more) × (IsBehindOpening status exchanges → is_cut_short status ≡ false → more ≡ [])
  -- one that met damage is one of them
  pub some : IsDamage status → exchanges ≢ []
  -- and are a run of the machine, each with what it met
  pub run : Knows decisive old → Run rule first exchanges
  -- What each of them appends comes to lie behind what the live slot says, and what it met of a child that has ended is what that child left, which had been started in the run.
  pub watched : Knows decisive old → (slot : Slot) → HasLive slot old.told.held → WatchedIn rule says_nothing false (is_cut_short status) old.told new.told slot first exchanges
  pub said : Knows decisive old → SaysSummary status (load_text count exchanges) (said old.told) (said new.told)

-- What the files stand for.
pub record LoadReopens (decisive : Bool) (count : ℕ) (old new : Outside) (status : Status) (exchanges : List Exchange) (first : State) : Type 0 where
  -- at every moment from the first sync of opening on, where the ground was in order
  pub any_moment : IsTrue old.ground_tells → IsTrue decisive → (r : Repository) → StandsFor old.told.held r → NothingPending old.told
      → (since : ℕ) × (IsBehindOpening status exchanges → since ≤ new.told.moment) × LoadHeadline since old.told new.told (opened r) (map answer_of exchanges) (load_text count exchanges)
      -- and of the slot that is live in whatever a crash leaves
      × ((slot : Slot) → HasLive slot old.told.held → SlotsSince since slot (length exchanges) new.told)
  -- and the ground that is left may be served, however this run ended
  pub again : IsTrue old.ground_tells → IsTrue decisive → MayServe old.told → MayServe new.told
  -- in the end the files stand for the repository after all of them, unless a fault of the ground or of its files cut the last one short
  pub stands : Knows decisive old → is_cut_short status ≡ false → StandsFor old.told.held first.repository → StandsFor new.told.held (after_all first exchanges).repository
  -- Nothing is held then of what the live slot names as swept, where nothing was when the call began. A crash may bring a removed file back, and so may a fault that cut the last command short.
  pub clear : Knows decisive old → is_cut_short status ≡ false → IsClearAt old.told → IsClearAt new.told
  -- of the files that are no chunk and not the control file none is written but by a child: it stays or is removed
  pub files : Knows decisive old → KeepsFiles old.told new.told
  -- commands that only read, and opening, change and remove no file and lend none to a child, however the run ends
  pub keeps : Knows decisive old → All OnlyReads exchanges → ReadsFiles old.told new.told
  -- nor is one written where no command was done and no sweep made
  pub leaves : Knows decisive old → is_cut_short status ≡ false → All LeavesFiles exchanges → WritesNone old.told new.told
  -- an attempt that had been drawn when the call began is whose it was, at every moment: it is neither lent nor settled
  pub lends : Knows decisive old → (slot : Slot) → HasLive slot old.told.held → (n : ℕ) → n < slot.next_attempt → KeepsCustody old.told new.told n

-- of the statuses that end the reading of a source none comes
abbrev pub LoadRow : (decisive : Bool) → Status → Outside → Outside → Type 0
LoadRow decisive Status.Done old new = Unit {0}
LoadRow decisive Status.Unfinished old new = ⊥
LoadRow decisive (Status.Limit bound) old new = ⊥
LoadRow decisive Status.ReadFault old new = ⊥
LoadRow decisive status old new = Row decisive status old new []

-- Of these exchanges from this state on.
pub record LoadRun (rule : Rule) (decisive : Bool) (seed count : ℕ) (old new : Outside) (status : Status) (exchanges : List Exchange) (first : State) : Type 0 where
  pub goes_on : GoesOn old new
  pub left : new.left ≡ old.left
  -- they begin with the repository that was opened
  pub begins : Begins status old first exchanges
  pub first_is : first ≡ opened first.repository
  pub replies : LoadReplies rule decisive seed count old new status exchanges first
  pub reopens : LoadReopens decisive count old new status exchanges first
  pub notes : Notes old new status exchanges
  -- why it ends so
  pub row : LoadRow decisive status old new
  -- where the store could not be opened nothing was changed; so where a fault cut the first line short that changed anything, that line is there
  pub unopened : status ≡ Status.GroundFault → exchanges ≡ [] → IsUntouched old new []
  -- nor was anything where the first line met damage
  pub unwritten : IsTrue old.ground_tells → IsDamage status → length exchanges ≤ 1 → WritesNone old.told new.told

pub record Loads (rule : Rule) (decisive : Bool) (seed count : ℕ) (old new : Outside) (status : Status) : Type 0 where
  pub exchanges : List Exchange
  pub first : State
  pub run : LoadRun rule decisive seed count old new status exchanges first
  pub children : AsksChildren (is_cut_short status) old new exchanges

-- where no fault was counted and the files stood for some repository, all lines are run and the summary is said, or memory was wanting before them
abbrev pub LoadsWhereAllIsWell : Outside → Outside → Status → Type 0
LoadsWhereAllIsWell old new status = Tells old → ((r : Repository) × StandsFor old.told.held r) → NoneRose old new → (status ≡ Status.Done) ⊎ (status ≡ Status.Memory)

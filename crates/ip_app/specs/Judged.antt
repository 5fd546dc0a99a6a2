-- What is found of the children of collections, by what a ground tells of the moments of a run.
--     Started      a child that was started.      last_started answered image jobs last      the one that was started last
--     IsSettledAt told t attempt pair      at this moment the attempt was settled, when its files held this
--     IsConcluded reaped met reply      why a child that has ended is answered so
--     IsServedAs told answered image job      where what it wrote was accepted, what the files read as then
--     IsJudgedAs told answered behind phase records job reaped x      what an exchange met of the child with this job is what it left, by these records
--     IsSameFor job image other      the bytes that a child may read are the same.      ReadsSame told child until      so they are up to this moment.      IsHeldIn s      a child is held
--     HasSweptIn x      a sweep was made behind it
--     Point      a point of a run between two commands.      begun_at slot first      where it begins.      behind_it p x answered behind view slot unswept looked      behind an exchange.      point_of s view slot unswept last collection answered      by a collection
--     AllLeft these left image lending      so many of these files are there at most.      FindsValid reply      a look has found the pair to be valid.      IsCheckedTo records job before after left      behind a look that is not through
--     IsAimed records phase job      where the horizon of a job lies.
--     StaysFrom told t from, Settles a b      what was settled is so still.      IsUnsweptBehind x slot before now      what is unswept behind an exchange
--     Watches rule a b s v view before now slot slot' unswept unswept' x      so of an exchange that began in this state, between what is told before it and behind its reply
--     Watched rule old told said since p q x began answered image behind      and so of one in a run, between these points, by the moments at which it began and was answered, and what the files read as then
--     AllWatched rule says old told said since p exchanges end      so of each of them, where this is said of a reply before the next command begins
--     texts_by says exchanges      all that is said so.      says_nothing      nothing is
--     HearsNone cut      the last command heard of no child's end
--     WatchedIn rule says is_unsaid is_cut_short old new slot first exchanges      of all exchanges of a run, or of all but one that was cut short
--     IsWatchedTo rule says old now slot first exchanges collection slot' unswept view      so far: a collection that goes on is that of the last child
use Rattle.std.specs.Prelude.{◌≡◌, ◌≢◌, ◌⊎◌, ℕ, ◌+◌, ◌*◌, ◌<◌, ◌≤◌, ◌-◌, ◌^◌, Bool, true, false, List, [], ◌∷◌, ◌++◌, length, count_by, Option, Some, None, Ok, IsTrue, IsSome, IfSome, IsSomeAnd, Contains}
use Rattle.ip_ground.specs.declared.names.FileName.{FileName}
use Rattle.ip_ground.specs.declared.names.FileName.TheVariants.{Mapping, Prefix}
use Rattle.ip_base.specs.declared.exit.Reaped.{Reaped}
use Rattle.ip_ground.specs.Contents.{Image}
use Rattle.ip_ground.specs.Custody as custody
use Rattle.ip_ground.specs.Custody.{Custody, custody_of, settled}
use Rattle.ip_ground.specs.Told.{Told, said, lending, IsPossible, IsSettledAs}
use Rattle.ip_spawn.specs.declared.job.Job.{Job}
use Rattle.ip_spec.specs.declared.command.Command.{Command}
use Rattle.ip_spec.specs.declared.met.Child.TheVariants as Child
use Rattle.ip_spec.specs.declared.record.CommitRecord.{CommitRecord}
use Rattle.ip_spec.specs.declared.record.Record.TheVariants as record_of
use Rattle.ip_spec.specs.declared.reply.Reply.{Reply}
use Rattle.ip_spec.specs.Line.{IsLineOf}
use Rattle.ip_spec.specs.Machine.{State, Phase, Conditions, Verdict, Limit, verdict_on}
use Rattle.ip_spec.specs.Merge.{Rule}
use Rattle.ip_spec.specs.Path.{Bytes}
use Rattle.ip_spec.specs.Step.{phase_at}
use Rattle.ip_spec.specs.TreeAt.{Records, present}
use Rattle.ip_spec.specs.View.{View, no_view}
use Rattle.ip_image.specs.Collection.{IsJudged, IsKept}
use Rattle.ip_image.specs.declared.run.Row.{Row}
use Rattle.ip_image.specs.declared.slot.Slot.{Slot}
use Rattle.ip_image.specs.Pending.{HasLive, SameChunks, SameSpace, NothingPending}
use Rattle.ip_image.specs.Slot.{layout_of}
use Rattle.ip_image.specs.Standing.{MappingIs, StandsFor}
use Rattle.ip_held.specs.declared.collection.Collection.{Collection}
use Rattle.ip_held.specs.declared.collection.Unswept.{Unswept}
use Rattle.ip_held.specs.Clear.{IsClear, IsClearAt, IsClearTo, unswept_in}
use Rattle.ip_held.specs.Collecting.{phase_of, until, IsJobOf}
use Rattle.ip_held.specs.Slots.{IsSlotFrom, KeepsSlots}
use Rattle.ip_held.specs.Sweeping as sweeping
use Rattle.ip_keep.specs.Keeping.{starts_between}
use Rattle.ip_check.specs.Checking.{LooksAtAll}
use Rattle.ip_session.specs.Asking.{HasStarted, IsBoundedIn, looked_in, looks}
use Rattle.ip_session.specs.Clearing.{SweepsBehind, unswept_behind}
use Rattle.ip_session.specs.Placing.{PlacedIn}
use Rattle.ip_session.specs.Session.{IsViewIn}
use Rattle.ip_app.specs.Exchanges.{Exchange, conditions, after_all}
use Rattle.ip_app.specs.Places.{StartsAt, HearsAt}

-- by a command that was answered at this moment, when the files read as this
pub record Started : Type 0 where
  pub job : Job
  pub from : ℕ
  pub image : Image

abbrev pub last_started : ℕ → Image → List Job → Option Started → Option Started
last_started answered image [] last = last
last_started answered image (job ∷ jobs) last = Some (record { job = job; from = answered; image = image })

abbrev pub IsSettledAt : Told → ℕ → ℕ → Image → Type 0
IsSettledAt told t attempt pair = (synced : FileName → Bool) × (told.lending_at t attempt ≡ settled pair synced)

-- Refused only by its exit, by a place that differs, by the end of the sequence or by want of memory; while its check is not through nothing is decided.
abbrev pub IsConcluded : Reaped → Conditions → Reply → Type 0
IsConcluded reaped met (Reply.Collected floor left) = verdict_on reaped.exit met.difference ≡ Verdict.accepted
IsConcluded reaped met (Reply.Checking left) = met.told.checking ≡ Some left
IsConcluded reaped met (Reply.RejectedExit exit) = verdict_on reaped.exit met.difference ≡ Verdict.exited exit
IsConcluded reaped met (Reply.Rejected difference) = verdict_on reaped.exit met.difference ≡ Verdict.differs difference
IsConcluded reaped met (Reply.Limit limit) = (limit ≡ Limit.Sequence) × (verdict_on reaped.exit met.difference ≡ Verdict.accepted)
IsConcluded reaped met Reply.Memory = IsTrue met.told.refused
IsConcluded reaped met reply = ⊥

-- Of a collection that was accepted: the live pair is what its child had left, and the slot behind the swap has its horizon and the pair's lengths.
pub record IsServedAs (told : Told) (answered : ℕ) (image : Image) (job : Job) : Type 0 where
  pub pair : Image
  pub settled : IsSettledAt told answered job.attempt pair
  pub mapping : image (Mapping job.attempt) ≡ pair (Mapping job.attempt)
  pub prefix : image (Prefix job.attempt) ≡ pair (Prefix job.attempt)
  pub slot : Slot
  pub has : HasLive slot image
  pub live : slot.live ≡ job.attempt
  pub horizon : slot.horizon ≡ job.horizon
  pub length : IsSomeAnd (pair (Prefix job.attempt)) (λ bytes. length bytes ≡ slot.prefix_len)
  pub rows : List Row
  pub mapping_is : MappingIs pair (layout_of slot) rows

-- At the horizon lies the commit of the collection. The difference that was met is that of the pair, as it was settled, from the one valid pair of the records.
pub record IsJudgedAs (told : Told) (answered : ℕ) (behind : Image) (phase : Phase) (records : Records) (job : Job) (reaped : Reaped) (x : Exchange) : Type 0 where
  pub attempt : reaped.attempt ≡ job.attempt
  pub concluded : IsConcluded reaped (conditions x) x.reply
  pub commit : CommitRecord
  pub here : present records job.horizon ≡ Some (record_of.Commit commit)
  pub number : phase_at phase ≡ Some commit.number
  -- whichever pair it was settled as when the command was answered; and it was
  pub judged : (pair : Image) → IsSettledAt told answered job.attempt pair → IsJudged records job.horizon job.end job.attempt pair (conditions x)
  pub settled : (pair : Image) × IsSettledAt told answered job.attempt pair
  pub served : (floor left : ℕ) → x.reply ≡ Reply.Collected floor left → IsServedAs told answered behind job

-- the bytes that the child with this job may read
pub record IsSameFor (job : Job) (image other : Image) : Type 0 where
  pub chunks : SameChunks job.chunk job.old_horizon job.end image other
  pub mapping : job.live ≢ 0 → other (Mapping job.live) ≡ image (Mapping job.live)
  pub prefix : job.live ≢ 0 → other (Prefix job.live) ≡ image (Prefix job.live)

-- from when it was started up to this moment they are in whatever a crash leaves what they were at the start
abbrev pub ReadsSame : Told → Started → ℕ → Type 0
ReadsSame told child until = (t : ℕ) → child.from < t → t ≤ until → (image : Image) → IsPossible told t image → IsSameFor child.job child.image image

-- a child is held: it was not heard to have ended
abbrev pub IsHeldIn : State → Type 0
IsHeldIn s = (commit : ℕ) × (s.phase ≡ Phase.Collecting commit None)

-- a sweep was made behind it
abbrev pub HasSweptIn : Exchange → Type 0
HasSweptIn x = (command : Command) × IsLineOf command x.line × SweepsBehind command x.reply

-- A point of a run between two commands: the machine's state, the view of the work's tree, the slot that is live, what is unswept, the child that was started last, how many records of its job were looked at, and when the last exchange was answered.
pub record Point : Type 0 where
  pub state : State
  pub view : View
  pub slot : Slot
  pub unswept : Unswept
  pub last : Option Started
  pub looked : ℕ
  pub answered : Option ℕ

-- where a run begins
abbrev pub begun_at : Slot → State → Point
begun_at slot first = record { state = first; view = no_view; slot = slot; unswept = unswept_in slot; last = None; looked = 0; answered = None }

-- and behind an exchange that was answered at this moment
abbrev pub behind_it : Point → Exchange → (answered : ℕ) → Image → View → Slot → Unswept → ℕ → Point
behind_it p x answered behind view slot unswept looked = record { state = x.after; view = view; slot = slot; unswept = unswept; last = last_started answered behind x.started p.last; looked = looked; answered = Some answered }

-- So many of these files are there at most, by whose they are, but for those that a child may write. A count that stands at its last value says nothing.
abbrev pub AllLeft : (FileName → Type 0) → ℕ → Image → (ℕ → Custody) → Type 0
AllLeft these left image lending = left < 2 ^ 64 - 1 → (those : List FileName) × (length those ≤ left) × ((file : FileName) → these file → ¬ custody.IsForeign (custody_of lending file) → (image file ≡ None) ⊎ Contains those file)

-- the pair was found to be valid
abbrev pub FindsValid : Reply → Type 0
FindsValid (Reply.Collected floor left) = Unit {0}
FindsValid (Reply.Limit limit) = Unit {0}
FindsValid reply = ⊥

-- A check that is not through has looked at that many records more; so it is answered so often at most.
-- Of the records below the job's end those from its horizon on are looked at first, ascending.
pub record IsCheckedTo (records : Records) (job : Job) (before after left : ℕ) : Type 0 where
  pub more : before + looks ≡ after
  pub few : (kept : Records) → IsKept records job.horizon job.end kept → after ≤ count_by (starts_between job.horizon job.end) records + 2 * length kept
  -- where the next of these begins, or the end; from there on so many bytes are left
  pub next : ℕ
  pub rest : left + next ≡ job.end
  pub first : next < job.end → (after ≡ count_by (starts_between job.horizon next) records) × IsSome (present records next)
  pub all : next ≡ job.end → count_by (starts_between job.horizon job.end) records ≤ after

-- The horizon of a child's job is where the record of its commit lies.
pub record IsAimed (records : Records) (phase : Phase) (job : Job) : Type 0 where
  pub commit : CommitRecord
  pub here : present records job.horizon ≡ Some (record_of.Commit commit)
  pub number : phase_at phase ≡ Some commit.number

-- what was settled at a moment is so from another one on, by what its files held
abbrev pub StaysFrom : Told → (t from : ℕ) → Type 0
StaysFrom told t from = (attempt : ℕ) (pair : Image) → IsSettledAt told t attempt pair → (u : ℕ) → from ≤ u → u ≤ told.moment → IsSettledAt told u attempt pair

-- What was settled before a command is so at each moment since, and what was settled at one of these is so in the end.
pub record Settles (a b : Told) : Type 0 where
  pub on : (attempt : ℕ) (pair : Image) → IsSettledAs a attempt pair → (u : ℕ) → a.moment < u → u ≤ b.moment → IsSettledAt b u attempt pair
  pub by : (t attempt : ℕ) (pair : Image) → a.moment < t → t ≤ b.moment → IsSettledAt b t attempt pair → IsSettledAs b attempt pair

-- what was unswept, but behind a sweep
abbrev pub IsUnsweptBehind : Exchange → Slot → (before now : Unswept) → Type 0
IsUnsweptBehind x slot before now = (¬ HasSweptIn x → now ≡ before) × (HasSweptIn x → now ≡ unswept_behind x.turn.met.left slot before)

pub record Watches (rule : Rule) (a b : Told) (s : State) (v view : View) (before now : Option Collection) (slot slot' : Slot) (unswept unswept' : Unswept) (x : Exchange) : Type 0 where
  pub phase : s.phase ≡ phase_of before
  pub phase_behind : x.after.phase ≡ phase_of now
  pub answered : ℕ
  pub later : a.moment ≤ answered
  pub by_now : answered ≤ b.moment
  pub unsaid : b.said_at answered ≡ said a
  pub possible : IsPossible b a.moment a.held
  pub stands : StandsFor a.held s.repository
  pub has : HasLive slot a.held
  pub behind : Image
  pub left : IsPossible b answered behind
  pub stands_behind : StandsFor behind x.after.repository
  pub has_behind : HasLive slot' behind
  -- where its records came to lie, and which parts of the work's tree are known then
  pub tree : x.after.work.tree ≡ view.map
  pub seen : IsViewIn s.repository v x.line x.reply view
  pub placed : PlacedIn rule (present stands.standing.records) slot unswept slot' s v x.line x.reply
  pub unswept_behind : IsUnsweptBehind x slot' unswept unswept'
  pub starts : StartsAt slot slot' x
  pub aims : HasStarted (Ok x.reply) → (job : Job) → x.started ≡ job ∷ [] → IsAimed stands_behind.standing.records x.after.phase job
  pub hears : HearsAt slot x
  pub judged : (reaped : Reaped) → x.turn.met.child ≡ Child.Ended reaped → IsSomeAnd before (λ c. IsJudgedAs b answered behind s.phase stands.standing.records c.job reaped x)
  pub checked : (left : ℕ) → x.reply ≡ Reply.Checking left → IsSomeAnd before (λ c. IsCheckedTo (until c.job.end stands_behind.standing.records) c.job (looked_in before) (looked_in now) left)
  pub looked : (commit : ℕ) (exit : Option Reaped) → x.after.phase ≡ Phase.Collecting commit exit → x.started ≡ [] → looked_in before ≤ looked_in now
  pub same : ((reaped : Reaped) → x.turn.met.child ≢ Child.Ended reaped) → (commit : ℕ) (exit : Option Reaped) → x.after.phase ≡ Phase.Collecting commit exit → x.started ≡ [] → looked_in now ≡ looked_in before
  pub begun : x.started ≢ [] → looked_in now ≡ 0
  pub few : IsLineOf Command.Look x.line → looked_in now ≤ looked_in before + looks
  -- whose the attempt of a child is
  pub lent : IsHeldIn s → IsSomeAnd before (λ c. lending a c.job.attempt ≡ custody.lent)
  pub lent_behind : IsHeldIn x.after → IsSomeAnd now (λ c. b.lending_at answered c.job.attempt ≡ custody.lent)
  pub swept : HasSweptIn x → IsSomeAnd before (λ c. (pair : Image) × IsSettledAt b answered c.job.attempt pair)
  -- of what the sweep was to remove all is gone but so many files
  pub all_but : HasSweptIn x → AllLeft (sweeping.IsSwept slot' unswept) x.turn.met.left behind (b.lending_at answered)
  -- a look that finds the pair valid looks at no more records than any
  pub bounded : IsLineOf Command.Look x.line → IsBoundedIn stands.standing.records before x.reply
  pub slots : NothingPending a → KeepsSlots a b
  pub settles : NothingPending a → Settles a b
  pub stays : NothingPending a → (t : ℕ) → (t ≤ a.moment → StaysFrom a t a.moment) → t ≤ answered → StaysFrom b t answered
  -- where nothing was left to be cleared that is not unswept: behind a sweep that left nothing all is gone that no collection needs
  pub clear : IsClearTo slot unswept a.held (lending a) → HasSweptIn x → x.turn.met.left ≡ 0 → IsClear slot' behind (b.lending_at answered)
  -- while its reply is said the slot behind it is live in whatever a crash leaves
  pub stays_live : (t : ℕ) → answered < t → t ≤ b.moment → (crashed : Image) → IsPossible b t crashed → HasLive slot' crashed
  -- what a child may read stays while the command runs, and while its reply is said
  pub job : IfSome before (λ c. IsJobOf slot c.job)
  pub job_behind : IfSome now (λ c. IsJobOf slot' c.job)
  pub space : NothingPending a → ((reaped : Reaped) → x.turn.met.child ≢ Child.Ended reaped) → (t : ℕ) → a.moment < t → t ≤ answered → (image : Image) → IsPossible b t image → SameSpace slot a.held image
  pub saying : NothingPending a → (t : ℕ) → answered < t → t ≤ b.moment → (image : Image) → IsPossible b t image → SameSpace slot' behind image
  pub held : NothingPending a → SameSpace slot' behind b.held
  pub unheard : IsHeldIn x.after → (reaped : Reaped) → x.turn.met.child ≢ Child.Ended reaped

-- When it began, and when it was answered, this had been said, and nothing of its own.
pub record Watched (rule : Rule) (old told : Told) (said_before : Bytes) (since : ℕ) (p q : Point) (x : Exchange) (began answered : ℕ) (image behind : Image) : Type 0 where
  pub over : since ≤ began
  pub later : began ≤ answered
  pub by_now : answered ≤ told.moment
  pub said_then : told.said_at began ≡ said_before
  pub unsaid : told.said_at answered ≡ said_before
  -- what the files read as when it began, and when it was answered, each of which is one of the things that a crash might have left
  pub possible : IsPossible told began image
  pub stands : StandsFor image p.state.repository
  pub has : HasLive p.slot image
  pub left : IsPossible told answered behind
  pub stands_behind : StandsFor behind x.after.repository
  pub has_behind : HasLive q.slot behind
  -- What it appended came to lie behind what the live slot said, by the records of these files, and a limit of space or of the sequence is met by that alone.
  pub placed : PlacedIn rule (present stands.standing.records) p.slot p.unswept q.slot p.state p.view x.line x.reply
  pub unswept : IsUnsweptBehind x q.slot p.unswept q.unswept
  pub tree : x.after.work.tree ≡ q.view.map
  pub seen : IsViewIn p.state.repository p.view x.line x.reply q.view
  -- the job of a child that it started, and which child it heard of
  pub starts : StartsAt p.slot q.slot x
  pub aims : HasStarted (Ok x.reply) → (job : Job) → x.started ≡ job ∷ [] → IsAimed stands_behind.standing.records x.after.phase job
  pub hears : HearsAt p.slot x
  -- a child that it met had been started in the run, and was the last
  pub judged : (reaped : Reaped) → x.turn.met.child ≡ Child.Ended reaped → IsSomeAnd p.last (λ child. IsJudgedAs told answered behind p.state.phase stands.standing.records child.job reaped x)
  -- what was looked at is not looked at again while the collection goes on
  pub checked : (left : ℕ) → x.reply ≡ Reply.Checking left → IsSomeAnd p.last (λ child. IsCheckedTo (until child.job.end stands_behind.standing.records) child.job p.looked q.looked left)
  pub looked : (commit : ℕ) (exit : Option Reaped) → x.after.phase ≡ Phase.Collecting commit exit → x.started ≡ [] → p.looked ≤ q.looked
  -- nor is anything before its child is heard to have ended, and nothing was of one that was started; a look looks at no more than so many
  pub same : ((reaped : Reaped) → x.turn.met.child ≢ Child.Ended reaped) → (commit : ℕ) (exit : Option Reaped) → x.after.phase ≡ Phase.Collecting commit exit → x.started ≡ [] → q.looked ≡ p.looked
  pub begun : x.started ≢ [] → q.looked ≡ 0
  pub few : IsLineOf Command.Look x.line → q.looked ≤ p.looked + looks
  -- A child that is held may still write its files. Behind a sweep that of the last one does not any more.
  pub lent : IsHeldIn p.state → IsSomeAnd p.last (λ child. told.lending_at began child.job.attempt ≡ custody.lent)
  pub lent_behind : IsHeldIn x.after → IsSomeAnd q.last (λ child. told.lending_at answered child.job.attempt ≡ custody.lent)
  pub swept : HasSweptIn x → IsSomeAnd p.last (λ child. (pair : Image) × IsSettledAt told answered child.job.attempt pair)
  -- of what the sweep was to remove all is gone but so many files
  pub all_but : HasSweptIn x → AllLeft (sweeping.IsSwept q.slot p.unswept) x.turn.met.left behind (told.lending_at answered)
  -- a look that finds the pair valid looks at no more records than any: each record from the horizon on once, and each that is kept twice, were no more to look at
  pub bounded : IsLineOf Command.Look x.line → FindsValid x.reply → IsSomeAnd p.last (λ child. LooksAtAll (until child.job.end stands.standing.records) child.job (p.looked + looks))
  -- where nothing was pending at first: the slot that was live is so in whatever a crash leaves, or the next
  pub slots : NothingPending old → (t : ℕ) → began < t → t ≤ answered → (crashed : Image) → IsPossible told t crashed → IsSlotFrom p.slot crashed
  -- and from when the command before it was answered until it began that slot alone is
  pub live_until : IfSome p.answered (λ at. (t : ℕ) → at < t → t ≤ began → (crashed : Image) → IsPossible told t crashed → HasLive p.slot crashed)
  -- what was settled by then stays so up to the end of the run
  pub stays : NothingPending old → (t : ℕ) → old.moment ≤ t → t ≤ answered → StaysFrom told t answered
  -- Where nothing was left to be cleared when the run began that its slot names as swept: behind a sweep that left nothing all is gone that no collection needs.
  pub clear : IsClearAt old → HasSweptIn x → x.turn.met.left ≡ 0 → (slot : Slot) → HasLive slot behind → IsClear slot behind (told.lending_at answered)
  -- where nothing was pending at first: a child that is held reads what there was at its start, until it is heard to have ended, or was killed
  pub reads : NothingPending old → IsHeldIn p.state → IsSomeAnd p.last (λ child. ReadsSame told child began × (((reaped : Reaped) → x.turn.met.child ≢ Child.Ended reaped) → ReadsSame told child answered))

-- what is said of these exchanges
abbrev pub texts_by : (Reply → Bytes) → List Exchange → Bytes
texts_by says [] = []
texts_by says (x ∷ exchanges) = says x.reply ++ texts_by says exchanges

-- where a run says nothing before its end
abbrev pub says_nothing : Reply → Bytes
says_nothing reply = []

-- from this point on, up to that in the end
abbrev pub AllWatched : Rule → (Reply → Bytes) → Told → Told → Bytes → ℕ → Point → List Exchange → Point → Type 0
AllWatched rule says old told said_before since p [] end = end ≡ p
AllWatched rule says old told said_before since p (x ∷ exchanges) end =
    (began : ℕ) × (answered : ℕ) × (image : Image) × (behind : Image) × (view : View) × (slot : Slot) × (unswept : Unswept) × (looked : ℕ)
    × Watched rule old told said_before since p (behind_it p x answered behind view slot unswept looked) x began answered image behind
    × AllWatched rule says old told (said_before ++ says x.reply) answered (behind_it p x answered behind view slot unswept looked) exchanges end

-- no command was cut short; or it heard of no child's end
abbrev pub HearsNone : List Exchange → Type 0
HearsNone cut = (x : Exchange) → cut ≡ x ∷ [] → (reaped : Reaped) → x.turn.met.child ≢ Child.Ended reaped

pub record WatchedIn (rule : Rule) (says : Reply → Bytes) (is_unsaid is_cut_short : Bool) (old new : Told) (slot : Slot) (first : State) (exchanges : List Exchange) : Type 0 where
  pub whole : List Exchange
  pub cut : List Exchange
  pub all : whole ++ cut ≡ exchanges
  pub one : length cut ≤ 1
  pub none : is_cut_short ≡ false → cut ≡ []
  pub some : is_cut_short ≡ true → exchanges ≢ [] → cut ≢ []
  pub end : Point
  pub watched : AllWatched rule says old new (said old) old.moment (begun_at slot first) whole end
  -- the slot in the end is that of the files
  pub live : cut ≡ [] → HasLive end.slot new.held
  -- when what a run says of each of these, before the next one begins, had been said; but of the last one, where that could not be
  pub ended : ℕ
  pub by_now : ended ≤ new.moment
  pub said_then : is_unsaid ≡ false → new.said_at ended ≡ said old ++ texts_by says whole
  -- A child that is held then may still write its files, and reads the same up to that moment; and up to the end of the run, unless the last command was cut short and heard that it has ended.
  pub lent : IsHeldIn (after_all first whole) → IsSomeAnd end.last (λ child. new.lending_at ended child.job.attempt ≡ custody.lent)
  pub reads : NothingPending old → IsHeldIn (after_all first whole) → IsSomeAnd end.last (λ child. ReadsSame new child ended × (HearsNone cut → ReadsSame new child new.moment))
  -- where nothing was pending at first: while the last command is cut short too the slot that was live is so in whatever a crash leaves, or the next
  pub slots : NothingPending old → cut ≢ [] → (t : ℕ) → ended < t → t ≤ new.moment → (crashed : Image) → IsPossible new t crashed → IsSlotFrom end.slot crashed
  -- and behind the last one of these that slot alone is, up to the end of the run, or to the begin of one that was cut short
  pub live_until : IfSome end.answered (λ at. (t : ℕ) → at < t → t ≤ new.moment → (cut ≢ [] → t ≤ ended) → (crashed : Image) → IsPossible new t crashed → HasLive end.slot crashed)

-- the last child, with the number of records of its job that were looked at
abbrev pub point_of : State → View → Slot → Unswept → Option Started → Option Collection → Option ℕ → Point
point_of s view slot unswept last collection answered = record { state = s; view = view; slot = slot; unswept = unswept; last = last; looked = looked_in collection; answered = answered }

-- A collection that goes on is that of the child that was started last, and while the child is held what it may read stays.
pub record IsWatchedTo (rule : Rule) (says : Reply → Bytes) (old now : Told) (slot : Slot) (first : State) (exchanges : List Exchange) (collection : Option Collection) (slot' : Slot) (unswept : Unswept) (view : View) : Type 0 where
  pub last : Option Started
  pub answered : Option ℕ
  pub watched : AllWatched rule says old now (said old) old.moment (begun_at slot first) exchanges (point_of (after_all first exchanges) view slot' unswept last collection answered)
  pub live_until : IfSome answered (λ at. (t : ℕ) → at < t → t ≤ now.moment → (crashed : Image) → IsPossible now t crashed → HasLive slot' crashed)
  pub going : IfSome collection (λ c. IsSomeAnd last (λ child. child.job ≡ c.job))
  pub stays : NothingPending old → (t : ℕ) → old.moment ≤ t → t ≤ now.moment → StaysFrom now t now.moment
  pub reads : NothingPending old → IsHeldIn (after_all first exchanges) → IsSomeAnd last (λ child. ReadsSame now child now.moment × IsSameFor child.job child.image now.held × (child.from ≤ now.moment))

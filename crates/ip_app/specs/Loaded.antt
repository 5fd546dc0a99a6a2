-- How a load goes on, line by line.
--     IsLoadRoom room      there is room for each line, and for the replies that take no memory
--     QuietRun      the moments so far: nothing was said.      Loaded      so far: the lines that were run, and what came of them
--     Summed      `stat` was run, and the summary said with its reply, or a part of the two.      FinishesLoad      so, or it was cut short
use Rattle.std.specs.Prelude.{ℕ, ◌+◌, ◌<◌, ◌≤◌, ◌≡◌, Bool, IsTrue, List, [], ◌++◌, length, map, codes}
use Rattle.std.specs.Vec.{vec_capacity}
use Rattle.ip_ground.specs.Contents.{Image, Possible}
use Rattle.ip_ground.specs.Told.{Told, said}
use Rattle.ip_image.specs.declared.counts.TurnCounts.{TurnCounts}
use Rattle.ip_image.specs.declared.slot.Slot.{Slot}
use Rattle.ip_image.specs.Standing.{StandsFor}
use Rattle.ip_image.specs.Pending.{NothingPending, AllFlushed, crash_at}
use Rattle.ip_image.specs.Headline.{IsAsBefore, Turning}
use Rattle.ip_spec.specs.Load.{lines_from}
use Rattle.ip_spec.specs.Merge.{Rule}
use Rattle.ip_spec.specs.Path.{Bytes}
use Rattle.ip_spec.specs.Machine.{State, opened}
use Rattle.ip_spec.specs.Repository.{Repository}
use Rattle.ip_spec.specs.Script.{Answered, state_after}
use Rattle.ip_spec.specs.Text.{reply_text}
use Rattle.ip_spec.specs.View.{View}
use Rattle.ip_script.specs.declared.load.TheConstants.{LOAD_LINE_MAX}
use Rattle.ip_session.specs.declared.session.Session.{Session}
use Rattle.ip_session.specs.declared.session.TheConstants.{REPLY_ROOM}
use Rattle.ip_session.specs.Session.{state_in}
use Rattle.ip_summary.specs.declared.summary.Summary.{Summary}
use Rattle.ip_summary.specs.Tally.{Tallies}
use Rattle.ip_app.specs.declared.load.LoadRoom.{LoadRoom}
use Rattle.ip_app.specs.declared.statuses.Status.{Status}
use Rattle.ip_app.specs.Exchanges.{Exchange, answer_of, lines_in}
use Rattle.ip_app.specs.Exchanging.{OnlyRemovals, CountsServing, Exchanged, CutsShort, Ran}
use Rattle.ip_app.specs.Files.{SlotsSince}
use Rattle.ip_app.specs.Judged.{IsWatchedTo, says_nothing}
use Rattle.ip_app.specs.Loading.{replies_in}
use Rattle.ip_app.specs.Outside.{Outside}
use Rattle.ip_app.specs.Serving.{SaysPart}

pub record IsLoadRoom (room : LoadRoom) : Type 0 where
  pub line : LOAD_LINE_MAX ≤ vec_capacity room.line
  pub text : REPLY_ROOM ≤ vec_capacity room.text

pub record QuietSince (old new : Told) (first : State) (steps : List Answered) (t : ℕ) : Type 0 where
  pub said : new.said_at t ≡ said old
  pub stands : (image : Image) → Possible (crash_at new t).leave image → (k : ℕ) × (k ≤ length steps) × StandsFor image (state_after first steps k).repository
  pub flushed : AllFlushed (crash_at new t)

pub record QuietRun (since : ℕ) (old new : Told) (first : State) (steps : List Answered) : Type 0 where
  pub begins : old.moment < since
  pub before : (t : ℕ) → old.moment < t → t < since → t ≤ new.moment → IsAsBefore old new t
  pub holds : (t : ℕ) → since ≤ t → t ≤ new.moment → QuietSince old new first steps t

-- `number` lines were run, and `state` is what the next one is drawn from
pub record Loaded (rule : Rule) (decisive : Bool) (seed state number : ℕ) (old now : Outside) (counts : TurnCounts) (session : Session) (summary : Summary) : Type 0 where
  pub known : Bool
  pub exchanges : List Exchange
  pub first : Repository
  pub repository : Repository
  pub view : View
  pub slot : Slot
  pub ran : Ran rule decisive known exchanges first repository view slot old now counts session
  pub watched : IsTrue known → IsWatchedTo rule says_nothing old.told now.told slot (opened first) exchanges session.store.held.collection session.store.held.slot session.store.held.unswept view
  pub no_fault : OnlyRemovals old.counts now.counts
  pub lines_then : (more : ℕ) → lines_from seed 1 (number + more) ≡ lines_in exchanges ++ lines_from state (number + 1) more
  pub count : length exchanges ≡ number
  pub tallies : Tallies summary (replies_in exchanges)
  pub left : now.left ≡ old.left
  pub said : IsTrue known → said now.told ≡ said old.told
  pub opened_at : IsTrue known → ℕ
  pub over : (is : IsTrue known) → opened_at is ≤ now.told.moment
  pub quiet : (is : IsTrue known) → NothingPending old.told → QuietRun (opened_at is) old.told now.told (opened first) (map answer_of exchanges)
  pub slots : (is : IsTrue known) → NothingPending old.told → SlotsSince (opened_at is) slot (length exchanges) now.told

-- this line was said, and the reply's text behind it
pub record Summed (rule : Rule) (status : Status) (known : Bool) (old new : Outside) (line : Bytes) (counts counts' : TurnCounts) (s s' : Session) (r : Repository) (v : View) : Type 0 where
  pub exchange : Exchange
  pub after : Repository
  pub view : View
  pub line_is : exchange.line ≡ codes "stat"
  pub exchanged : Exchanged rule known old new counts counts' s s' r v exchange after view
  pub counted : CountsServing status old.counts new.counts
  pub part : IsTrue known → SaysPart (line ++ reply_text exchange.reply) (said old.told) (said new.told)
  pub whole : (is : IsTrue known) → status ≡ Status.Done → (part is).1 ≡ []
  pub turning : IsTrue known → NothingPending old.told → Turning old.told new.told (line ++ reply_text exchange.reply) r after

abbrev pub FinishesLoad : Rule → Status → (known : Bool) → Outside → Outside → Bytes → TurnCounts → TurnCounts → Session → Session → Repository → View → Type 0
FinishesLoad rule Status.Done known old new line counts counts' s s' r v = Summed rule Status.Done known old new line counts counts' s s' r v
FinishesLoad rule Status.SayFault known old new line counts counts' s s' r v = Summed rule Status.SayFault known old new line counts counts' s s' r v
FinishesLoad rule status known old new line counts counts' s s' r v = CutsShort rule status known old new (codes "stat") counts counts' (state_in s r v)

-- How serving a script goes on, line by line.
--     Took      a line was taken.      TurnedIn      its command was run and noted, and its reply said
--     CountsOf      what is counted where a store is made or opened.      HalfSaid, CutOff, Stops      why there is no further line
--     Served      so far: the whole lines that were taken, and what came of them
-- Of what a session does most is said where it is known to work: where `known` is true. It is for a whole run, from what the ground told at first.
use Rattle.std.specs.Prelude.{ℕ, ◌+◌, ◌≤◌, ◌≡◌, ◌≢◌, Bool, true, false, IsTrue, List, [], ◌∷◌, ◌++◌, length, map, All}
use Rattle.ip_ground.specs.Counts.{Noted, FileFault, SayFault, DamageFound}
use Rattle.ip_base.specs.declared.exit.Reaped.{Reaped}
use Rattle.ip_ground.specs.Told.{said, lending, KeepsSaid}
use Rattle.ip_image.specs.declared.counts.TurnCounts.{TurnCounts}
use Rattle.ip_image.specs.Standing.{StandsFor}
use Rattle.ip_image.specs.declared.slot.Slot.{Slot}
use Rattle.ip_image.specs.Pending.{HasLive, NothingPending, KeepsSpace}
use Rattle.ip_image.specs.Headline.{MayServe, IsAtomic, Turning, Headline}
use Rattle.ip_spec.specs.declared.met.Child.TheVariants as Child
use Rattle.ip_spec.specs.Merge.{Rule}
use Rattle.ip_spec.specs.Path.{Bytes, line_feed}
use Rattle.ip_spec.specs.Machine.{State, opened}
use Rattle.ip_spec.specs.Repository.{Repository}
use Rattle.ip_spec.specs.View.{View}
use Rattle.ip_spec.specs.Script.{whole_lines}
use Rattle.ip_spec.specs.Text.{reply_text}
use Rattle.ip_held.specs.Slots.{KeepsSlots}
use Rattle.ip_held.specs.Sweeping.{KeepsFiles}
use Rattle.ip_merge.specs.Rules.{IsDecisive}
use Rattle.ip_session.specs.declared.session.Session.{Session}
use Rattle.ip_session.specs.Session.{state_in}
use Rattle.ip_app.specs.declared.statuses.Status.{Status}
use Rattle.ip_app.specs.declared.lines.Lines.{Lines}
use Rattle.ip_app.specs.Lines.{longest_line, HasNoLineFeed, last_piece}
use Rattle.ip_app.specs.Pending.{pending}
use Rattle.ip_app.specs.Reading.{EndsReading, IsCaused}
use Rattle.ip_app.specs.Exchanges.{Exchange, answer_of, lines_in, texts_in}
use Rattle.ip_app.specs.Files.{ReadsFiles, SlotsSince}
use Rattle.ip_app.specs.Happening.{HappensCut}
use Rattle.ip_app.specs.Judged.{IsWatchedTo, Settles}
use Rattle.ip_app.specs.Outside.{Outside, GoesOn, IsUnasked, but_bound}
pub use Rattle.ip_app.specs.Exchanging.{Works, OnlyRemovals, ended_status, is_cut_short, AFileFault, ASayFault, ADamage, CountsServing, IsDamage, WritesNone, Begun, Exchanged, Ran}

-- what was said grew by a part from the front of the bytes
abbrev pub SaysPart : Bytes → Bytes → Bytes → Type 0
SaysPart bytes old new = (part : Bytes) × (rest : Bytes) × (part ++ rest ≡ bytes) × (new ≡ old ++ part)

-- a whole line was taken
pub record Took (old new : Outside) (lines lines' : Lines) (line : Bytes) : Type 0 where
  pub front : IsTrue old.source_tells → pending lines ++ old.left ≡ line ++ line_feed ∷ (pending lines' ++ new.left)
  pub no_line_feed : HasNoLineFeed line
  pub short : length line ≤ longest_line
  pub count : lines'.taken + length (pending lines) ≡ lines.taken + (length line + 1) + length (pending lines')

pub record TurnedIn (rule : Rule) (known : Bool) (old new : Outside) (lines lines' : Lines) (counts counts' : TurnCounts) (s s' : Session) (r : Repository) (v : View) : Type 0 where
  pub exchange : Exchange
  pub after : Repository
  pub view : View
  pub took : Took old new lines lines' exchange.line
  pub exchanged : Exchanged rule known old new counts counts' s s' r v exchange after view
  pub no_fault : OnlyRemovals old.counts new.counts
  pub said : IsTrue known → said new.told ≡ said old.told ++ reply_text exchange.reply
  pub turning : IsTrue known → NothingPending old.told → Turning old.told new.told (reply_text exchange.reply) r after

-- `rest` is what stands behind the last line feed
pub record Stopped (status : Status) (known : Bool) (old new : Outside) (lines lines' : Lines) (counts counts' : TurnCounts) (state : State) : Type 0 where
  pub rest : Bytes
  pub goes_on : GoesOn old new
  pub files : KeepsFiles old.told new.told
  pub stands : IsTrue known → StandsFor new.told.held state.repository
  pub front : IsTrue old.source_tells → pending lines ++ old.left ≡ rest ++ new.left
  pub no_line_feed : HasNoLineFeed rest
  pub count : lines'.taken + length (pending lines) ≡ lines.taken + length rest
  pub ends : EndsReading status (length rest) lines'.taken (IsTrue old.source_tells → new.left ≡ [])
  pub cause : IsCaused status old.read_faults new.read_faults
  pub same_said : said new.told ≡ said old.told
  pub same_moment : new.told.moment ≡ old.told.moment
  pub same_held : new.told.held ≡ old.told.held
  pub keeps : ReadsFiles old.told new.told
  pub same_lending : lending new.told ≡ lending old.told
  pub nothing_pending : NothingPending old.told → NothingPending new.told
  pub same_turns : new.turns ≡ old.turns
  pub same_counts : counts' ≡ counts
  pub no_fault : new.counts ≡ old.counts
  pub unasked : IsUnasked old new

-- what a call that ends so has counted, where it makes or opens a store: which folder is bound is another thing
abbrev pub CountsOf : Status → Noted → Noted → Type 0
CountsOf Status.GroundFault old new = FileFault (but_bound old new) new
CountsOf Status.SayFault old new = SayFault (but_bound old new) new
CountsOf (Status.Damaged file at) old new = DamageFound (but_bound old new) new
CountsOf _ old new = new ≡ but_bound old new

-- The line was the last: its reply was not said, or only a part of it.
pub record HalfSaid (rule : Rule) (known : Bool) (old new : Outside) (lines lines' : Lines) (counts counts' : TurnCounts) (s s' : Session) (r : Repository) (v : View) : Type 0 where
  pub exchange : Exchange
  pub after : Repository
  pub view : View
  pub took : Took old new lines lines' exchange.line
  pub exchanged : Exchanged rule known old new counts counts' s s' r v exchange after view
  pub counted : CountsServing Status.SayFault old.counts new.counts
  pub part : IsTrue known → SaysPart (reply_text exchange.reply) (said old.told) (said new.told)
  pub turning : IsTrue known → NothingPending old.told → Turning old.told new.told (reply_text exchange.reply) r after

-- A fault of the ground or of its files cut the command of the last line short: the reply and the state are those that it has where none of its writes fails.
pub record CutOff (rule : Rule) (status : Status) (known : Bool) (old new : Outside) (lines lines' : Lines) (counts counts' : TurnCounts) (state : State) : Type 0 where
  pub short : is_cut_short status ≡ true
  pub exchange : Exchange
  pub took : Took old new lines lines' exchange.line
  pub begun : Begun rule known old new counts counts' state exchange
  -- of the ground a fault was counted, or damage, where the status says so, and nothing of another kind
  pub counted : CountsServing status old.counts new.counts
  -- behind damage no file is written
  pub unwritten : IsTrue old.ground_tells → IsDamage status → WritesNone old.told new.told
  pub happens : HappensCut state.phase exchange
  pub quiet : IsTrue known → KeepsSaid old.told new.told
  pub atomic : IsTrue known → NothingPending old.told → IsAtomic old.told new.told state.repository exchange.after.repository
  pub slots : IsTrue known → NothingPending old.told → KeepsSlots old.told new.told
  pub again : IsTrue known → NothingPending old.told → MayServe new.told
  pub settles : IsTrue known → NothingPending old.told → Settles old.told new.told
  -- what a child may read stays while a command is cut short that did not hear of its end
  pub space : IsTrue known → NothingPending old.told → ((reaped : Reaped) → exchange.turn.met.child ≢ Child.Ended reaped) → (slot : Slot) → HasLive slot old.told.held → KeepsSpace slot old.told new.told

abbrev pub Stops : Rule → Status → (known : Bool) → Outside → Outside → Lines → Lines → TurnCounts → TurnCounts → Session → Session → Repository → View → Type 0
Stops rule Status.SayFault known old new lines lines' counts counts' s s' r v = HalfSaid rule known old new lines lines' counts counts' s s' r v
Stops rule Status.GroundFault known old new lines lines' counts counts' s s' r v = CutOff rule Status.GroundFault known old new lines lines' counts counts' (state_in s r v)
Stops rule (Status.DamagedRecord at) known old new lines lines' counts counts' s s' r v = CutOff rule (Status.DamagedRecord at) known old new lines lines' counts counts' (state_in s r v) × (¬ IsTrue known)
Stops rule (Status.DamagedName at want got) known old new lines lines' counts counts' s s' r v = CutOff rule (Status.DamagedName at want got) known old new lines lines' counts counts' (state_in s r v) × (¬ IsTrue known) × (IsDecisive rule → want ≢ got)
Stops rule status known old new lines lines' counts counts' s s' r v = Stopped status known old new lines lines' counts counts' (state_in s r v)

pub record Served (rule : Rule) (decisive : Bool) (old now : Outside) (lines : Lines) (counts : TurnCounts) (session : Session) : Type 0 where
  pub known : Bool
  pub done : Bytes
  pub exchanges : List Exchange
  pub first : Repository
  pub repository : Repository
  pub view : View
  pub slot : Slot
  pub ran : Ran rule decisive known exchanges first repository view slot old now counts session
  pub watched : IsTrue known → IsWatchedTo rule reply_text old.told now.told slot (opened first) exchanges session.store.held.collection session.store.held.slot session.store.held.unswept view
  pub no_fault : OnlyRemovals old.counts now.counts
  pub bytes : IsTrue old.source_tells → old.left ≡ done ++ (pending lines ++ now.left)
  pub lines_then : (tail : Bytes) → whole_lines (done ++ tail) ≡ lines_in exchanges ++ whole_lines tail
  pub rest_then : (tail : Bytes) → last_piece (done ++ tail) ≡ last_piece tail
  pub short : All (λ line. length line ≤ longest_line) (lines_in exchanges)
  pub count : lines.taken ≡ length done + length (pending lines)
  pub said : IsTrue known → said now.told ≡ said old.told ++ texts_in exchanges
  pub opened_at : IsTrue known → ℕ
  pub over : (is : IsTrue known) → opened_at is ≤ now.told.moment
  pub headline : (is : IsTrue known) → NothingPending old.told → Headline (opened_at is) old.told now.told (opened first) (map answer_of exchanges)
  pub slots : (is : IsTrue known) → NothingPending old.told → SlotsSince (opened_at is) slot (length exchanges) now.told

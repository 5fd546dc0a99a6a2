-- A session: the repository that it is in, and what its commands meet.
--     IsIn session r      the store's tables are the repository's, and the work goes on from commits of it.      IsServing session      so it is in some repository
--     IsWorking told session r v      the store holds the repository, and the work's tree has this view.      state_in session r v      the machine's state then
--     unasked      a rule for commands that ask none
--     met_only refused      what a command meets that changes no file: nothing but want of memory, if that
--     is_durable command      it may change files.      IsDurable reply command      and with this reply it did
--     HasWords command      its words are those that its line may have
--     attempt_of store command      the attempt that it has to do with.      hears command      its child is heard of
--     ChangesBy heard attempt these old new      no file changes but these and that attempt's
--     ChangedAtEnd store reply file      a file that one changes which hears of a child.      ChangedBy store image command reply      the files that a command with this reply may have changed.      OnlyBy store old new command reply, OnlyIn store old new line reply      none but these, by a command or a line
--     TouchedBy store image command, TouchesBy store old new command, TouchesIn store old new line      and where it was cut short
--     MetDamage result      the session has ended by damage.      StillBy store old new command, StillIn store old new line      then no file has changed, by a command or a line
--     CountsBy result command met old new, CountsIn line result met old new      the faults that were counted, and the damage
--     IsAnswered records s s' r v command reply      a command was run that changes no file
--     HasRead tells old new s s' command result      and it may have read records
--     IsViewIn r v line reply view      the view of the work's tree after a line with this reply
--     conditions_with met difference      what was met.      IsJudgedIn old new s s' r v difference      the difference is the settled pair's
--     HasSettled c reply slot told      the attempt of a child that was heard of is settled.      IsSettledIn new s s' reply      so of one that was heard of now
--     StaysSettled running old new      the attempt of the collection that runs stays settled.      NoneEnded session      no child was met that has ended.      KeepsSpaceIn old new s'      then the bytes of the live slot's records stay
--     Goes old new s s' r v Only Gives Views reply      a command or a line was run, of which they say which files alone changed, what the machine gives, and the view after it
--     Cut old new s s' r v Touches Gives      a fault of the ground or of its files cut it short
--     GoesBy, CutBy rule .. command, GoesIn, CutIn rule .. line      so of a command, and of a line, by the rules of merges
--     IsHeld tells told session      the ground tells what the store holds, and the session works over it
--     AreApart names      the two names of damage differ, where they are told.      EndsBy held end      why a session has ended.      counted_end end      as what it is counted
--     fault_answer fault      what a call of the store is answered with that failed, or why the session ends.      Fails fault met met' result      and what is met by it
--     IsAnswer replied made result      the reply that a call has, or why the session ends by it.      tree_fault fault      a call on a tree fails as one of the store
--     IsLong reply      the text of such a reply may take memory.      Writes reply met met' text      it was written, or want of it
use Rattle.std.specs.Prelude.{◌≡◌, ◌≢◌, ◌⊎◌, ◌<◌, ℕ, Bool, true, false, length, Option, Some, None, option_map, IsTrue, IfOk, IfErr, IsErr, IsErrAnd, IsSomeAnd, Result, Ok, Err}
use Rattle.ip_ground.specs.declared.names.FileName.{FileName}
use Rattle.ip_ground.specs.declared.names.FileName.TheVariants.{Control}
use Rattle.ip_base.specs.declared.exit.Reaped.{Reaped}
use Rattle.ip_ground.specs.Contents.{Image}
use Rattle.ip_ground.specs.Counts.{Counted, Noted, as_damage, as_fault, CountsIf, CountsLeft}
use Rattle.ip_ground.specs.Told.{Told, NoFile, KeepsSaid, ChangesOnly, IsSettledAs}
use Rattle.ip_spec.specs.Repository.{Repository}
use Rattle.ip_spec.specs.View.{View}
use Rattle.ip_spec.specs.declared.record.Record.{Record}
use Rattle.ip_spec.specs.declared.command.Command.{Command}
use Rattle.ip_spec.specs.declared.met.Child.{Child}
use Rattle.ip_spec.specs.declared.met.Met.{Met}
use Rattle.ip_spec.specs.declared.reply.Difference.{Difference}
use Rattle.ip_spec.specs.declared.reply.Reply.{Reply}
use Rattle.ip_spec.specs.Path.{Bytes, IsPath}
use Rattle.ip_spec.specs.Machine.{State, Conditions}
use Rattle.ip_spec.specs.Merge.{Rule}
use Rattle.ip_spec.specs.Record.{Hash, IsBranchName, IsInfo}
use Rattle.ip_spec.specs.Script.{LineStep}
use Rattle.ip_spec.specs.Step.{Step}
use Rattle.ip_spec.specs.Text.{reply_text}
use Rattle.ip_spec.specs.Line.{IsLineOf}
use Rattle.ip_image.specs.declared.slot.Slot.{Slot}
use Rattle.ip_image.specs.Pending.{HasLive, NothingPending, KeepsSpace}
use Rattle.ip_image.specs.Headline.{IsAtomic}
use Rattle.ip_held.specs.declared.fault.StoreFault.{StoreFault}
use Rattle.ip_held.specs.declared.collection.Collection.{Collection}
use Rattle.ip_held.specs.declared.held.Held.{Held}
pub use Rattle.ip_held.specs.Answers.{conditions_of}
use Rattle.ip_held.specs.Collecting.{phase_of}
use Rattle.ip_held.specs.Answers.{met_nothing}
use Rattle.ip_collects.specs.Finishing.{swapped_slot, Judges, Serves}
use Rattle.ip_publish.specs.Publishing.{MayChange}
use Rattle.ip_held.specs.Showing.{fault_from}
use Rattle.ip_held.specs.Held.{IsOf, image_records}
use Rattle.ip_held.specs.Slots.{KeepsSlots}
use Rattle.ip_held.specs.Sweeping.{IsSwept, ChangesFor, EndsFor, KeepsFiles}
use Rattle.ip_held.specs.Trees.{OnlyLooks}
use Rattle.ip_held.specs.Views.{IsViewAfter}
use Rattle.ip_held.specs.Work.{AreParents, IsLawful, IsAt, session}
use Rattle.ip_tree.specs.declared.tree.TreeFault.{TreeFault}
use Rattle.ip_session.specs.declared.session.Session.{Session}
use Rattle.ip_session.specs.declared.session.SessionEnd.{SessionEnd}
use Rattle.ip_session.specs.declared.session.TheConstants.{REPLY_ROOM}

abbrev pub IsIn : Session → Repository → Type 0
IsIn s r = IsOf s.store.held r × AreParents r s.work.least s.work.parents

abbrev pub IsServing : Session → Type 0
IsServing s = (r : Repository) × IsIn s r

abbrev pub IsWorking : Told → Session → Repository → View → Type 0
IsWorking told s r v = IsAt told s.store.held r s.work v

abbrev pub state_in : Session → Repository → View → State
state_in s r v = session r (phase_of s.store.held.collection) s.work v

-- it has no answer: the steps of all commands but `merge` are the same by any rule
abbrev pub unasked : Rule
unasked path o a b merged = ⊥

abbrev pub met_only : Bool → Met
met_only refused = record met_nothing { refused = refused }

abbrev pub HasWords : Command → Type 0
HasWords (Command.Set path bytes) = IsPath path
HasWords (Command.Rm path) = IsPath path
HasWords (Command.Graft target from to) = IsPath to
HasWords (Command.Commit branch info) = IsBranchName branch × IsInfo info
HasWords (Command.Merge target branch info) = IsBranchName branch × IsInfo info
HasWords (Command.Branch name target) = IsBranchName name
HasWords (Command.BranchRm name) = IsBranchName name
HasWords command = Unit {0}

-- a text of up to this length takes no memory: there is room for it
abbrev pub IsLong : Reply → Type 0
IsLong reply = REPLY_ROOM < length (reply_text reply)

-- the text is the reply's, or it is long and memory was refused
abbrev pub Writes : Reply → Met → Met → Bytes → Type 0
Writes reply met met' text = ((met' ≡ met) × (text ≡ reply_text reply)) ⊎ (IsLong reply × (met' ≡ met_only true) × (text ≡ reply_text Reply.Memory))

abbrev pub is_durable : Command → Bool
is_durable (Command.Commit branch info) = true
is_durable (Command.Merge target branch info) = true
is_durable (Command.Branch name target) = true
is_durable (Command.BranchRm name) = true
is_durable (Command.Collect target) = true
is_durable command = false

abbrev pub IsDurable : Reply → Command → Type 0
IsDurable (Reply.Committed hash) (Command.Commit branch info) = Unit {0}
IsDurable (Reply.Forward hash) (Command.Merge target branch info) = Unit {0}
IsDurable (Reply.Merged hash) (Command.Merge target branch info) = Unit {0}
IsDurable Reply.Accepted (Command.Branch name target) = Unit {0}
IsDurable Reply.Accepted (Command.BranchRm name) = Unit {0}
IsDurable (Reply.Started hash) (Command.Collect target) = Unit {0}
IsDurable Reply.StartFault (Command.Collect target) = Unit {0}
IsDurable reply command = ⊥

-- the attempt that a command has to do with: it is drawn by it, or its child is heard of or killed
abbrev pub attempt_of : Held → Command → Option ℕ
attempt_of store (Command.Collect target) = Some store.slot.next_attempt
attempt_of store Command.Look = option_map (λ c. c.job.attempt) store.collection
attempt_of store Command.Finish = option_map (λ c. c.job.attempt) store.collection
attempt_of store Command.Cancel = option_map (λ c. c.job.attempt) store.collection
attempt_of store command = None

-- its child is heard of, so that the attempt may be settled and its pair synced
abbrev pub hears : Command → Bool
hears Command.Look = true
hears Command.Finish = true
hears command = false

-- No file changes but these, and where there is an attempt, its own; no custody changes but that attempt's.
abbrev pub ChangesBy : Bool → Option ℕ → (FileName → Type 0) → Told → Told → Type 0
ChangesBy heard None these old new = ChangesOnly these old new
ChangesBy false (Some attempt) these old new = ChangesFor attempt these old new
ChangesBy true (Some attempt) these old new = EndsFor attempt these old new

-- Of a collection that goes on, by what is answered of its child: where it was collected the control file, and what a sweep removes beside the pair; where it was rejected what a sweep removes.
abbrev pub ChangedAtEnd : Held → Reply → FileName → Type 0
ChangedAtEnd store (Reply.Collected floor left) file = IsSomeAnd store.collection (λ c. (file ≡ Control) ⊎ IsSwept (swapped_slot store.slot store.unswept c 0 0) store.unswept file)
ChangedAtEnd store (Reply.RejectedExit exit) file = IsSwept store.slot store.unswept file
ChangedAtEnd store (Reply.Rejected difference) file = IsSwept store.slot store.unswept file
ChangedAtEnd store reply file = ⊥

-- of the files before it, by those that the store may change, or that a sweep removes
abbrev pub ChangedBy : Held → Image → Command → Reply → FileName → Type 0
ChangedBy store image Command.Look reply file = ChangedAtEnd store reply file
ChangedBy store image Command.Finish reply file = ChangedAtEnd store reply file
ChangedBy store image Command.Cancel reply file = (reply ≡ Reply.Cancelled) × IsSwept store.slot store.unswept file
ChangedBy store image command reply file = IsDurable reply command × MayChange image file

-- where a fault cut it short, by its words alone
abbrev pub TouchedBy : Held → Image → Command → FileName → Type 0
TouchedBy store image Command.Look file = file ≡ Control
TouchedBy store image Command.Finish file = file ≡ Control
TouchedBy store image Command.Cancel file = IsSwept store.slot store.unswept file
TouchedBy store image command file = (is_durable command ≡ true) × MayChange image file

abbrev pub OnlyBy : Held → Told → Told → Command → Reply → Type 0
OnlyBy store old new command reply = ChangesBy (hears command) (attempt_of store command) (ChangedBy store old.held command reply) old new

-- of a line; one that is no command changes nothing
pub record OnlyIn (store : Held) (old new : Told) (line : Bytes) (reply : Reply) : Type 0 where
  pub command : (command : Command) → IsLineOf command line → OnlyBy store old new command reply
  pub none : ((command : Command) → ¬ IsLineOf command line) → ChangesOnly NoFile old new

abbrev pub TouchesBy : Held → Told → Told → Command → Type 0
TouchesBy store old new command = ChangesBy (hears command) (attempt_of store command) (TouchedBy store old.held command) old new

abbrev pub TouchesIn : Held → Told → Told → Bytes → Type 0
TouchesIn store old new line = (command : Command) × IsLineOf command line × TouchesBy store old new command

abbrev pub MetDamage : {A : Type 0} → Result A SessionEnd → Type 0
MetDamage (Err (SessionEnd.Damaged at names)) = Unit {0}
MetDamage result = ⊥

-- no file has changed at any moment, and no custody but that of a child that was heard of
abbrev pub StillBy : Held → Told → Told → Command → Type 0
StillBy store old new command = ChangesBy (hears command) (attempt_of store command) NoFile old new

abbrev pub StillIn : Held → Told → Told → Bytes → Type 0
StillIn store old new line = (command : Command) × IsLineOf command line × StillBy store old new command

-- nothing was changed, and memory may be refused instead
pub record IsSpared (s s' : State) (v view : View) (Gives : Conditions → Reply → State → Type 0) : Type 0 where
  pub same : s' ≡ s
  pub seen : view ≡ v
  pub refused : Gives (conditions_of (met_only true)) Reply.Memory s

-- over the records of the store, which stay
pub record IsAnswered (records : ℕ → Option Record) (s s' : Session) (r : Repository) (v : View) (command : Command) (reply : Reply) : Type 0 where
  pub view : View
  pub gives : Step unasked (state_in s r v) command (conditions_of s'.met) reply (state_in s' r view)
  pub lawful : IsLawful records r s'.work view
  pub seen : IsViewAfter r v command reply view
  pub spared : IsLong reply → IsSpared (state_in s r v) (state_in s' r view) v view (Step unasked (state_in s r v) command)

pub record HasRead (tells : Bool) (old new : Told) (s s' : Session) (command : Command) (result : Result Reply SessionEnd) : Type 0 where
  pub tables : (r : Repository) → IsIn s r → IsIn s' r
  pub answered : IsTrue tells → (r : Repository) (v : View) (here : IsWorking old s r v) → IfOk result (IsAnswered (image_records here.holds) s s' r v command)
  pub looks : IsTrue tells → OnlyLooks old new s.store.held s'.store.held
  -- what was unswept is so still
  pub unswept : s'.store.held.unswept ≡ s.store.held.unswept
  -- one that was cut short met nothing
  pub unmet : IsErr result → s'.met ≡ s.met

pub record IsViewIn (r : Repository) (v : View) (line : Bytes) (reply : Reply) (view : View) : Type 0 where
  pub command : (command : Command) → IsLineOf command line → IsViewAfter r v command reply view
  pub none : ((command : Command) → ¬ IsLineOf command line) → view ≡ v

abbrev pub conditions_with : Met → Option Difference → Conditions
conditions_with met difference = record { told = met; difference = difference }

-- The difference is that of the settled pair of the child that was heard of, over the records of the store: none where it is the valid one. Whatever it is where no child ended.
abbrev pub IsJudgedIn : Told → Told → Session → Session → Repository → View → Option Difference → Type 0
IsJudgedIn old new s s' r v difference = (here : IsWorking old s r v) (c : Collection) (reaped : Reaped) → s.store.held.collection ≡ Some c → s'.met.child ≡ Child.Ended reaped → Judges here.holds.stands.standing.records c (conditions_with s'.met difference) new

-- No child changes its files any more. Where what it wrote was accepted the live pair is what it had left then, and the slot says so.
pub record HasSettled (c : Collection) (reply : Reply) (slot : Slot) (told : Told) : Type 0 where
  pub settled : (pair : Image) × IsSettledAs told c.job.attempt pair
  pub serves : (floor left : ℕ) → reply ≡ Reply.Collected floor left → Serves told c.job.attempt
  pub swapped : (floor left : ℕ) → reply ≡ Reply.Collected floor left → (floor ≡ c.commit) × (slot.live ≡ c.job.attempt) × (slot.horizon ≡ c.job.horizon)

abbrev pub IsSettledIn : Told → Session → Session → Reply → Type 0
IsSettledIn new s s' reply = (c : Collection) (reaped : Reaped) → s.store.held.collection ≡ Some c → s'.met.child ≡ Child.Ended reaped → HasSettled c reply s'.store.held.slot new

abbrev pub NoneEnded : Session → Type 0
NoneEnded s = (reaped : Reaped) → s.met.child ≢ Child.Ended reaped

-- At every moment: a child that runs, or that is started now, reads what it was told of.
abbrev pub KeepsSpaceIn : Told → Told → Session → Type 0
KeepsSpaceIn old new s' = NothingPending old → NoneEnded s' → (slot : Slot) → HasLive slot old.held → KeepsSpace slot old new

-- an attempt that was settled is so still, by what its files held then
abbrev pub StaysSettled : Option Collection → Told → Told → Type 0
StaysSettled running old new = (c : Collection) → running ≡ Some c → (pair : Image) → IsSettledAs old c.job.attempt pair → IsSettledAs new c.job.attempt pair

pub record Goes (old new : Told) (s s' : Session) (r : Repository) (v : View) (Only : Reply → Type 0) (Gives : Conditions → Reply → State → Type 0) (Views : Reply → View → Type 0) (reply : Reply) : Type 0 where
  pub after : Repository
  pub view : View
  -- how the two files of a child that has ended differ from the valid ones
  pub difference : Option Difference
  pub gives : Gives (conditions_with s'.met difference) reply (state_in s' after view)
  pub judged : IsJudgedIn old new s s' r v difference
  pub settled : IsSettledIn new s s' reply
  pub stays : StaysSettled s.store.held.collection old new
  pub is_at : IsWorking new s' after view
  pub seen : Views reply view
  pub only : Only reply
  -- whichever files it changed: nothing was said, no child's file was written, and what a settled attempt held is there or gone
  pub files : KeepsFiles old new
  pub said : KeepsSaid old new
  pub space : KeepsSpaceIn old new s'
  -- at every moment whatever a crash leaves stands for the repository before or after it
  pub atomic : NothingPending old → IsAtomic old new r after
  pub slots : NothingPending old → KeepsSlots old new
  pub nothing_pending : NothingPending old → NothingPending new
  pub spared : IsLong reply → IsSpared (state_in s r v) (state_in s' after view) v view Gives
  pub still : IsLong reply → ChangesOnly NoFile old new

-- the reply and the next state are those that the machine gives where none of its writes fails
pub record Cut (old new : Told) (s s' : Session) (r : Repository) (v : View) (Touches : Type 0) (Gives : Conditions → Reply → State → Type 0) : Type 0 where
  pub reply : Reply
  pub after : State
  pub difference : Option Difference
  pub gives : Gives (conditions_with s'.met difference) reply after
  pub judged : IsJudgedIn old new s s' r v difference
  pub stays : StaysSettled s.store.held.collection old new
  pub only : Touches
  pub files : KeepsFiles old new
  pub said : KeepsSaid old new
  pub space : KeepsSpaceIn old new s'
  pub atomic : NothingPending old → IsAtomic old new r after.repository
  pub slots : NothingPending old → KeepsSlots old new

abbrev pub GoesBy : Rule → Told → Told → Session → Session → Repository → View → Command → Reply → Type 0
GoesBy rule old new s s' r v command = Goes old new s s' r v (OnlyBy s.store.held old new command) (Step rule (state_in s r v) command) (IsViewAfter r v command)

abbrev pub GoesIn : Rule → Told → Told → Session → Session → Repository → View → Bytes → Reply → Type 0
GoesIn rule old new s s' r v line = Goes old new s s' r v (OnlyIn s.store.held old new line) (LineStep IsLineOf rule (state_in s r v) line) (IsViewIn r v line)

abbrev pub CutBy : Rule → Told → Told → Session → Session → Repository → View → Command → Type 0
CutBy rule old new s s' r v command = Cut old new s s' r v (TouchesBy s.store.held old new command) (Step rule (state_in s r v) command)

abbrev pub CutIn : Rule → Told → Told → Session → Session → Repository → View → Bytes → Type 0
CutIn rule old new s s' r v line = Cut old new s s' r v (TouchesIn s.store.held old new line) (LineStep IsLineOf rule (state_in s r v) line)

abbrev pub IsHeld : Bool → Told → Session → Type 0
IsHeld tells told s = IsTrue tells × ((r : Repository) × (v : View) × IsWorking told s r v)

-- the wanted name is not the one that was found
abbrev pub AreApart : Option (Hash × Hash) → Type 0
AreApart None = Unit {0}
AreApart (Some names) = names.0 ≢ names.1

-- A fault of the ground; or files that others changed, which never comes where the ground tells what the store holds: where names are told, they differ.
abbrev pub EndsBy : (held : Type 0) → SessionEnd → Type 0
EndsBy held SessionEnd.Ground = Unit {0}
EndsBy held (SessionEnd.Damaged at names) = (¬ held) × AreApart names

-- by a fault of a file, or by damage: each is counted, and nothing else is
abbrev pub counted_end : SessionEnd → Counted
counted_end SessionEnd.Ground = as_fault
counted_end (SessionEnd.Damaged at names) = as_damage

-- Of a command: at each answer the counts are as they were, want of memory among them, but for the removals of a sweep that failed.
abbrev pub CountsBy : Result Reply SessionEnd → Command → Met → Noted → Noted → Type 0
CountsBy (Err end) command met old new = CountsIf (counted_end end) old new
CountsBy (Ok reply) Command.Look met old new = CountsLeft met.left old new
CountsBy (Ok reply) Command.Finish met old new = CountsLeft met.left old new
CountsBy (Ok reply) Command.Cancel met old new = CountsLeft met.left old new
CountsBy (Ok reply) command met old new = new ≡ old

abbrev pub CountsAny : Result Reply SessionEnd → Noted → Noted → Type 0
CountsAny (Err end) old new = CountsIf (counted_end end) old new
CountsAny (Ok reply) old new = (left : ℕ) × CountsLeft left old new

-- of a line, whichever it is
pub record CountsIn (line : Bytes) (result : Result Reply SessionEnd) (met : Met) (old new : Noted) : Type 0 where
  pub command : (command : Command) → IsLineOf command line → CountsBy result command met old new
  pub any : CountsAny result old new
  -- one that is no command counts nothing
  pub none : ((command : Command) → ¬ IsLineOf command line) → IfOk result (λ reply. new ≡ old)

-- refusals are answered, want of memory among them, and faults of the ground and of its files end the session
abbrev pub fault_answer : StoreFault → Result Reply SessionEnd
fault_answer (StoreFault.GivenUp number) = Ok (Reply.GivenUp number)
fault_answer (StoreFault.HeadMoved name) = Ok (Reply.HeadMoved name)
fault_answer (StoreFault.Leaving number) = Ok (Reply.Leaving number)
fault_answer (StoreFault.Existing name) = Ok (Reply.Existing name)
fault_answer (StoreFault.Limit limit) = Ok (Reply.Limit limit)
fault_answer StoreFault.Memory = Ok Reply.Memory
fault_answer StoreFault.Ground = Err SessionEnd.Ground
fault_answer (StoreFault.Damaged at names) = Err (SessionEnd.Damaged at names)

-- of all faults want of memory alone is met
abbrev pub met_failed : StoreFault → Met → Met
met_failed StoreFault.Memory met = met_only true
met_failed fault met = met

abbrev pub Fails : StoreFault → Met → Met → Result Reply SessionEnd → Type 0
Fails fault met met' result = (result ≡ fault_answer fault) × (met' ≡ met_failed fault met)

abbrev pub tree_fault : TreeFault → StoreFault
tree_fault (TreeFault.Limit limit) = StoreFault.Limit limit
tree_fault (TreeFault.Fetch fault) = fault_from fault
tree_fault TreeFault.Memory = StoreFault.Memory

-- a call of the store has this reply, or none where its fault ends the session
abbrev pub IsAnswer : {A : Type 0} → Option Reply → Result A StoreFault → Result Reply SessionEnd → Type 0
IsAnswer replied made result = IfOk result (λ reply. replied ≡ Some reply) × IfErr result (λ end. IsErrAnd made (λ fault. fault_answer fault ≡ Err end))

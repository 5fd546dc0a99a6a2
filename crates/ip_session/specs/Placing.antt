-- Where the records of a command come to lie, and which limit is met.
--     appended slot s command      the records that it appends where nothing refuses it, but for a commit's and a merge's.
--     IsFirst r parents first      the view of the tree of a work's first parent, if there is one
--     slot_behind command slot length commits      the slot behind them.      AttemptsLeft slot reply      there was an attempt left, or none
--     IsAppended rule records slot s v command more commits      these are its records, and so many commits among them, of a store with these records
--     OfRecords Appended Says      of some that it appends this is so, by how many bytes and how many commits they are
--     IsSwappedAt slot u commit slot'      the slot behind a swap to the pair of a collection at this commit.      HasCollected reply command      one was accepted
--     Placed slot u slot' Appended command reply      the slot before and after a command with this reply, by which records it appends, of a store in which this was unswept
--     PlacedBy rule records slot u slot' s v command reply, PlacedIn rule records slot u slot' s v line reply      so of a command, and of a line, of a store with these records
use Rattle.std.specs.Prelude.{◌≡◌, ℕ, List, Option, None, IsSomeAnd, ◌+◌, ◌<◌, ◌≤◌, true, length, [], ◌∷◌, Result, Ok, Err}
use Rattle.ip_base.specs.declared.limit.TheConstants.{OFFSET_MAX}
use Rattle.ip_base.specs.declared.limit.Limit.{Limit}
use Rattle.ip_spec.specs.Batch.{batch, reusing_sources}
use Rattle.ip_spec.specs.declared.command.Command.{Command}
use Rattle.ip_spec.specs.declared.command.Target.{Target}
use Rattle.ip_spec.specs.declared.record.Record.{Record}
use Rattle.ip_spec.specs.declared.record.Record.TheVariants as record_of
use Rattle.ip_spec.specs.declared.reply.Reply.{Reply}
use Rattle.ip_spec.specs.Machine.{State}
use Rattle.ip_spec.specs.Merge.{Rule}
use Rattle.ip_spec.specs.Path.{Bytes}
use Rattle.ip_spec.specs.Repository.{Repository, tree_at}
use Rattle.ip_spec.specs.Step.{resolve}
use Rattle.ip_spec.specs.TreeAt.{Records}
use Rattle.ip_spec.specs.View.{View}
use Rattle.ip_spec.specs.Line.{IsLineOf}
use Rattle.ip_image.specs.declared.slot.Slot.{Slot}
use Rattle.ip_image.specs.Appending.{fields_of, bytes_of_records}
use Rattle.ip_held.specs.declared.collection.Unswept.{Unswept}
use Rattle.ip_held.specs.Changes.{next_slot}
use Rattle.ip_held.specs.Collecting.{carrying}
use Rattle.ip_appends.specs.Merging.{MergeAppends}
use Rattle.ip_held.specs.TableRecord.{table_of}
use Rattle.ip_collects.specs.Starting.{begun_slot}
use Rattle.ip_held.specs.Views.{IsStored}
use Rattle.ip_session.specs.Asking.{MayReap}
use Rattle.ip_session.specs.Session.{is_durable, IsDurable}

abbrev pub named_record : ℕ → Bytes → Result ℕ Reply → Records
named_record end name (Ok number) = (end, record_of.BranchSet number name) ∷ []
named_record end name (Err reply) = []

abbrev pub appended : Slot → State → Command → Records
appended slot s (Command.Branch name target) = named_record slot.end name (resolve s.repository target)
appended slot s (Command.BranchRm name) = (slot.end, record_of.BranchRemove name) ∷ []
appended slot s (Command.Collect target) = (slot.end, table_of s.repository) ∷ []
appended slot s command = []

-- a collection draws an attempt besides
abbrev pub slot_behind : Command → Slot → (length commits : ℕ) → Slot
slot_behind (Command.Collect target) slot length commits = begun_slot slot length
slot_behind command slot length commits = next_slot slot length commits

-- the tree of a work's first parent, by whatever records spell it
abbrev pub IsFirst : Repository → List ℕ → Option View → Type 0
IsFirst r [] first = first ≡ None
IsFirst r (n ∷ parents) first = IsSomeAnd first (IsStored n (tree_at r n))

-- Those of a commit are those of its tree that no record is known of, but for contents that the first parent's tree or an earlier path has, its own and its branch's.
-- Those of a merge depend on which parts the trees have in one record of the store.
abbrev pub IsAppended : Rule → (ℕ → Option Record) → Slot → State → View → Command → Records → ℕ → Type 0
IsAppended rule records slot s v (Command.Merge target branch info) more commits = (number : ℕ) × (resolve s.repository target ≡ Ok number) × MergeAppends rule records s.repository number branch info slot.end more commits
IsAppended rule records slot s v (Command.Commit branch info) more commits =
    (first : Option View) × IsFirst s.repository s.work.parents first × (more ≡ batch v (reusing_sources v first) (fields_of s.repository s.work.parents info branch) slot.end) × (commits ≡ 1)
IsAppended rule records slot s v command more commits = (more ≡ appended slot s command) × (commits ≡ 0)

-- where that many are drawn there is none left
abbrev pub AttemptsLeft : Slot → Reply → Type 0
AttemptsLeft slot (Reply.Limit Limit.Attempt) = slot.next_attempt ≡ OFFSET_MAX
AttemptsLeft slot (Reply.Limit limit) = slot.next_attempt < OFFSET_MAX
AttemptsLeft slot (Reply.Started name) = slot.next_attempt < OFFSET_MAX
AttemptsLeft slot Reply.StartFault = slot.next_attempt < OFFSET_MAX
AttemptsLeft slot reply = Unit {0}

pub record OfRecords (Appended : Records → ℕ → Type 0) (Says : (length commits : ℕ) → Type 0) : Type 0 where
  pub more : Records
  pub commits : ℕ
  pub are : Appended more commits
  pub so : Says (length (bytes_of_records more)) commits

-- It names the pair of the attempt that was drawn last: where its records begin, how many bytes and how many rows it has is the pair's.
pub record IsSwappedAt (slot : Slot) (u : Unswept) (commit : ℕ) (slot' : Slot) : Type 0 where
  pub horizon : ℕ
  pub length : ℕ
  pub rows : ℕ
  pub is : slot' ≡ record (carrying slot u) { sequence = slot.sequence + 1; horizon = horizon; floor = commit; live = slot'.live; prefix_len = length; rows = rows }
  pub drawn : slot'.live + 1 ≡ slot.next_attempt
  pub sequence : slot.sequence < OFFSET_MAX

-- a collection was accepted by it
abbrev pub HasCollected : Reply → Command → Type 0
HasCollected (Reply.Collected floor left) command = MayReap command
HasCollected reply command = ⊥

-- A place is at most the greatest offset, and a sequence before a durable command is below it: no other reply of the two limits comes, and none where they are kept. The slot behind says what was unswept.
pub record Placed (slot : Slot) (u : Unswept) (slot' : Slot) (Appended : Records → ℕ → Type 0) (command : Command) (reply : Reply) : Type 0 where
  pub done : IsDurable reply command → OfRecords Appended (λ length commits. (slot' ≡ slot_behind command (carrying slot u) length commits) × (slot.end + length ≤ OFFSET_MAX) × (slot.sequence < OFFSET_MAX))
  pub quiet : ¬ IsDurable reply command → ¬ HasCollected reply command → slot' ≡ slot
  -- of a collection that was accepted, and of one whose slot would pass the greatest sequence
  pub collected : (floor left : ℕ) → MayReap command → reply ≡ Reply.Collected floor left → IsSwappedAt slot u floor slot'
  pub ended : MayReap command → reply ≡ Reply.Limit Limit.Sequence → slot.sequence ≡ OFFSET_MAX
  pub space : is_durable command ≡ true → reply ≡ Reply.Limit Limit.Space → OfRecords Appended (λ length commits. OFFSET_MAX < slot.end + length)
  pub sequence : is_durable command ≡ true → reply ≡ Reply.Limit Limit.Sequence → OfRecords Appended (λ length commits. (slot.end + length ≤ OFFSET_MAX) × (slot.sequence ≡ OFFSET_MAX))
  -- of a collection: it is begun, or one of the two limits is met, only where there is an attempt left, and else that limit is met
  pub attempt : (target : Target) → command ≡ Command.Collect target → AttemptsLeft slot reply

abbrev pub PlacedBy : Rule → (ℕ → Option Record) → Slot → Unswept → Slot → State → View → Command → Reply → Type 0
PlacedBy rule records slot u slot' s v command reply = Placed slot u slot' (IsAppended rule records slot s v command) command reply

pub record PlacedIn (rule : Rule) (records : ℕ → Option Record) (slot : Slot) (u : Unswept) (slot' : Slot) (s : State) (v : View) (line : Bytes) (reply : Reply) : Type 0 where
  pub command : (command : Command) → IsLineOf command line → PlacedBy rule records slot u slot' s v command reply
  pub none : ((command : Command) → ¬ IsLineOf command line) → slot' ≡ slot

-- What calls on branches answer, and do.
--     AnswersBranch r phase command met reply store      the reply and the next state are the machine's, for what was met, and the store's tables are the next repository's
--     branch_reply, removed_reply      the reply; a fault of the ground has none, nor has one of its files
--     HasRoomFor x store      a record meets no limit.      Renames r x result store      the tables after a record of a branch.      AppendsRecord tells x result store now old new      what appending it does
--     SetsBranch, RemovesBranch tells name .. result store now old new      all that is promised of the call, but for the ground's counts
use Rattle.std.specs.Prelude.{◌≡◌, ◌≢◌, ℕ, ◌+◌, ◌<◌, ◌≤◌, List, [], ◌∷◌, length, true, false, Bool, Option, Some, IsSome, IfSome, IsTrue, IsErr, IsErrOf, OnOk, Result, Ok, Err}
use Rattle.ip_ground.specs.Told.{Told, NoFile, ChangesOnly}
use Rattle.ip_base.specs.declared.limit.TheConstants.{OFFSET_MAX}
use Rattle.ip_base.specs.declared.limit.Limit.{Limit}
use Rattle.ip_spec.specs.declared.met.Met.{Met}
use Rattle.ip_spec.specs.declared.record.Record.{Record}
use Rattle.ip_spec.specs.declared.command.Command.{Command}
use Rattle.ip_spec.specs.declared.command.Target.{Target}
use Rattle.ip_spec.specs.declared.reply.Reply.{Reply}
use Rattle.ip_spec.specs.Path.{Bytes}
use Rattle.ip_spec.specs.Map.{remove}
use Rattle.ip_spec.specs.Record.{spelling}
use Rattle.ip_spec.specs.Repository.{Repository, head, is_retained}
use Rattle.ip_spec.specs.Step.{resolve, room_for_branch, with_branch}
use Rattle.ip_image.specs.Appending.{MayName, renamed}
use Rattle.ip_publish.specs.Publishing.{IsOfStore}
use Rattle.ip_held.specs.declared.fault.StoreFault.{StoreFault}
use Rattle.ip_held.specs.declared.held.Held.{Held}
use Rattle.ip_spec.specs.Machine.{Phase, Work}
use Rattle.ip_held.specs.Answers.{fault_reply, met_by, Turns}
use Rattle.ip_held.specs.Changes.{Appends, HasAnswer, IsUndamaged, LimitsSpace}
use Rattle.ip_held.specs.Clear.{KeepsClear}
use Rattle.ip_held.specs.Collecting.{not_leaving_in, phase_of}
use Rattle.ip_held.specs.Held.{IsOf, Holds}
use Rattle.ip_held.specs.Step.{Grew, Took}
use Rattle.ip_held.specs.Work.{AreParents, state_at}

abbrev pub branch_reply : Result (Unit {0}) StoreFault → Option Reply
branch_reply (Ok u) = Some Reply.Accepted
branch_reply (Err fault) = fault_reply fault

-- false where no branch has the name
abbrev pub removed_reply : Bytes → Result Bool StoreFault → Option Reply
removed_reply name (Ok true) = Some Reply.Accepted
removed_reply name (Ok false) = Some (Reply.NoBranch name)
removed_reply name (Err fault) = fault_reply fault

-- whatever the work is
pub record AnswersBranch (r : Repository) (phase : Phase) (command : Command) (met : Met) (reply : Reply) (store : Held) : Type 0 where
  pub after : Repository
  pub turns : (work : Work) → Turns (state_at r phase work) command met reply (state_at after phase work)
  pub tables : IsOf store after
  -- who goes on from commits of the repository goes on from them
  pub parents : (least : Option ℕ) (parents : List ℕ) → AreParents r least parents → AreParents after least parents

-- and whatever names the commit
abbrev pub AnswersSet : Repository → Phase → Bytes → ℕ → Met → Held → Reply → Type 0
AnswersSet r phase name number met store reply = (target : Target) → resolve r target ≡ Ok number → AnswersBranch r phase (Command.Branch name target) met reply store

abbrev pub AnswersRemove : Repository → Phase → Bytes → Met → Held → Reply → Type 0
AnswersRemove r phase name met store reply = AnswersBranch r phase (Command.BranchRm name) met reply store

abbrev pub without_branch : Repository → Bytes → Repository
without_branch r name = record r { branches = remove r.branches name }

-- neither limit is met by the record
abbrev pub HasRoomFor : Record → Held → Type 0
HasRoomFor x store = (store.slot.end + length (spelling x) ≤ OFFSET_MAX) × (store.slot.sequence < OFFSET_MAX)

-- the faults of a call that appends a record of a branch, and the tables after it
abbrev pub Renames : Repository → Record → Result (Unit {0}) StoreFault → Held → Type 0
Renames r x (Ok u) store = IsOf store (renamed r x)
Renames r x (Err (StoreFault.Limit Limit.Space)) store = IsOf store r
Renames r x (Err (StoreFault.Limit Limit.Sequence)) store = IsOf store r
Renames r x (Err StoreFault.Memory) store = IsOf store r
Renames r x (Err StoreFault.Ground) store = Unit {0}
Renames r x (Err fault) store = ⊥

-- a record of a branch, whichever it is, that may stand behind those of the repository
pub record AppendsRecord (tells : Bool) (x : Record) (result : Result (Unit {0}) StoreFault) (store now : Held) (old new : Told) : Type 0 where
  pub tables : (r : Repository) → IsOf store r → MayName r x → Renames r x result now
  pub same_collection : now.collection ≡ store.collection
  -- what is unswept is so still
  pub unswept : now.unswept ≡ store.unswept
  pub limits : LimitsSpace (store.slot.end + length (spelling x)) result store
  -- no fault of the ground stands in the place of a limit
  pub room : IsErrOf result StoreFault.Ground → HasRoomFor x store
  pub appends : IsTrue tells → OnOk result (Appends ((store.slot.end, x) ∷ []) 0 store now old new)
  pub grew : IsTrue tells → (r : Repository) (held : Holds store old r) → Grew (λ done. true) held result now new
  pub took : IsTrue tells → (r : Repository) (held : Holds store old r) → MayName r x → Took (λ done. true) held (renamed r x) ((store.slot.end, x) ∷ []) result now new
  -- no fault but one of the ground comes behind a write
  pub untouched : IsTrue tells → IsErr result → ¬ IsErrOf result StoreFault.Ground → ChangesOnly NoFile old new
  -- no file but the store's is touched, whatever the files are
  pub beside : IsTrue tells → ChangesOnly IsOfStore old new
  -- whatever the record does to the branches
  pub clear : IsTrue tells → HasAnswer result → (r : Repository) → Holds store old r → KeepsClear store now old new
  pub undamaged : IsUndamaged result

pub record SetsBranch (tells : Bool) (name : Bytes) (number : ℕ) (result : Result (Unit {0}) StoreFault) (store now : Held) (old new : Told) : Type 0 where
  pub answered : (r : Repository) → IsOf store r → IsTrue (is_retained r number) → IfSome (branch_reply result) (AnswersSet r (phase_of store.collection) name number (met_by result) now)
  pub same_collection : now.collection ≡ store.collection
  -- what is unswept is so still
  pub unswept : now.unswept ≡ store.unswept
  -- Files are only touched, and memory is only asked for, where no collection gives up the commit, and there is room for the branch.
  pub begun : (r : Repository) → IsOf store r → IsErrOf result StoreFault.Ground → (not_leaving_in (phase_of store.collection) (Some number) ≡ Ok tt) × (room_for_branch r name ≡ Ok tt)
  pub wanted : (r : Repository) → IsOf store r → IsErrOf result StoreFault.Memory → (not_leaving_in (phase_of store.collection) (Some number) ≡ Ok tt) × (room_for_branch r name ≡ Ok tt)
  pub limits : LimitsSpace (store.slot.end + length (spelling (Record.BranchSet number name))) result store
  -- no fault of the ground stands in the place of a limit
  pub room : IsErrOf result StoreFault.Ground → HasRoomFor (Record.BranchSet number name) store
  pub appends : IsTrue tells → OnOk result (Appends ((store.slot.end, Record.BranchSet number name) ∷ []) 0 store now old new)
  pub grew : IsTrue tells → (r : Repository) (held : Holds store old r) → Grew (λ done. true) held result now new
  pub took : IsTrue tells → (r : Repository) (held : Holds store old r) → IsTrue (is_retained r number) → Took (λ done. true) held (with_branch r name number) ((store.slot.end, Record.BranchSet number name) ∷ []) result now new
  -- no fault but one of the ground comes behind a write
  pub untouched : IsTrue tells → IsErr result → ¬ IsErrOf result StoreFault.Ground → ChangesOnly NoFile old new
  -- no file but the store's is touched, whatever the files are
  pub beside : IsTrue tells → ChangesOnly IsOfStore old new
  pub undamaged : IsUndamaged result

pub record RemovesBranch (tells : Bool) (name : Bytes) (result : Result Bool StoreFault) (store now : Held) (old new : Told) : Type 0 where
  pub answered : (r : Repository) → IsOf store r → IfSome (removed_reply name result) (AnswersRemove r (phase_of store.collection) name (met_by result) now)
  pub same_collection : now.collection ≡ store.collection
  -- what is unswept is so still
  pub unswept : now.unswept ≡ store.unswept
  -- Files are only touched, and memory is only asked for, where there is such a branch.
  pub begun : (r : Repository) → IsOf store r → IsErrOf result StoreFault.Ground → IsSome (head r name)
  pub wanted : (r : Repository) → IsOf store r → IsErrOf result StoreFault.Memory → IsSome (head r name)
  pub limits : result ≢ Ok false → LimitsSpace (store.slot.end + length (spelling (Record.BranchRemove name))) result store
  -- no fault of the ground stands in the place of a limit
  pub room : IsErrOf result StoreFault.Ground → HasRoomFor (Record.BranchRemove name) store
  pub appends : IsTrue tells → result ≡ Ok true → Appends ((store.slot.end, Record.BranchRemove name) ∷ []) 0 store now old new
  pub grew : IsTrue tells → (r : Repository) (held : Holds store old r) → Grew (λ removed. removed) held result now new
  pub took : IsTrue tells → (r : Repository) (held : Holds store old r) → Took (λ removed. removed) held (without_branch r name) ((store.slot.end, Record.BranchRemove name) ∷ []) result now new
  -- no fault but one of the ground comes behind a write
  pub untouched : IsTrue tells → IsErr result → ¬ IsErrOf result StoreFault.Ground → ChangesOnly NoFile old new
  -- no file but the store's is touched, whatever the files are
  pub beside : IsTrue tells → ChangesOnly IsOfStore old new
  pub undamaged : IsUndamaged result

-- What a commit does.
--     records_of r work v first branch info store, end_of      the records of a commit that takes contents from there, and where they end
--     IsNewBatch r v first fields end result, IsNotMade r fault out      the batch, or why there is none
--     IsNext r from branch store plan, IsPlan r work v first branch info store plan      what a commit will do, whatever is told, and where the tree's records are
--     repository_after r phase work v branch info      what the machine gives
--     CommitsWork tells branch info result store now work after old new      all that is promised of the call, but for the ground's counts
use Rattle.std.specs.Prelude.{◌≡◌, ℕ, ◌+◌, ◌<◌, ◌≤◌, Bool, true, List, [], ◌∷◌, length, Option, Result, Ok, Err, IsTrue, IfErr, IfSome, IsErr, IsErrOf, OnOk}
use Rattle.ip_base.specs.declared.limit.TheConstants.{OFFSET_MAX, BRANCHES_MAX}
use Rattle.ip_base.specs.declared.info.Info.{Info}
use Rattle.ip_ground.specs.Told.{Told, NoFile, ChangesOnly}
use Rattle.ip_spec.specs.Batch.{batch, batch_end, batch_root, reusing_sources}
use Rattle.ip_spec.specs.Batch as Batches
use Rattle.ip_spec.specs.Map.{insert, len}
use Rattle.ip_spec.specs.Path.{Bytes}
use Rattle.ip_spec.specs.Record.{Hash, IsHash, IsBranchName}
use Rattle.ip_spec.specs.Repository.{Repository, next}
use Rattle.ip_base.specs.declared.limit.Limit.{Limit}
use Rattle.ip_spec.specs.declared.command.Command.{Command}
use Rattle.ip_spec.specs.declared.reply.Reply.{Reply}
use Rattle.ip_spec.specs.Machine.{Phase}
use Rattle.ip_spec.specs.Step.{turned, new_commit, not_existing}
use Rattle.ip_spec.specs.TreeAt.{Records}
use Rattle.ip_spec.specs.View.{View}
use Rattle.ip_image.specs.Appending.{fields_of, bytes_of_records, AreWithin, MayGrow}
use Rattle.ip_save.specs.Batches.{IsBatch}
use Rattle.ip_save.specs.declared.batch.Batch.{Batch}
use Rattle.ip_save.specs.declared.batch.SaveFault.{SaveFault}
use Rattle.ip_save.specs.declared.batch.SaveFault.TheVariants as saved
use Rattle.ip_held.specs.Showing.{fault_from}
use Rattle.ip_held.specs.declared.held.Held.{Held}
use Rattle.ip_held.specs.declared.work.Work.{Work}
use Rattle.ip_appends.specs.declared.committing.Plan.{Plan}
use Rattle.ip_held.specs.declared.fault.StoreFault.{StoreFault}
use Rattle.ip_held.specs.declared.step.Entry.{Entry}
use Rattle.ip_publish.specs.Publishing.{IsOfStore}
use Rattle.ip_held.specs.Causes.{IsStoreCause}
use Rattle.ip_held.specs.Changes.{Appends, HasAnswer, IsUndamaged, KeepsNumbers, LimitsSpace, next_slot}
use Rattle.ip_held.specs.Clear.{KeepsClear}
use Rattle.ip_held.specs.Collecting.{carried, phase_of, not_leaving_in}
use Rattle.ip_held.specs.Placed.{places_in}
use Rattle.ip_held.specs.Work.{AreParents, IsAt, IsThere, session}
use Rattle.ip_held.specs.Answers.{met_nothing, met_by, conditions_of, committed, first_parent, first_refusal, reply_to, Answers, GoesOn, IsSaved}
use Rattle.ip_held.specs.Held.{IsOf, Holds, image_records}
use Rattle.ip_held.specs.Step.{Grew, Took}

-- The batch of a commit that no other has the name of; else the name comes before the space that it would take.
abbrev pub IsNewBatch : Repository → View → Option View → Batches.CommitFields → ℕ → Result Batch StoreFault → Type 0
IsNewBatch r v first f end (Ok b) = IsBatch v first f end b
IsNewBatch r v first f end (Err (StoreFault.Existing name)) = not_existing r (Batches.batch_name v f) ≡ Err (Reply.Existing name)
IsNewBatch r v first f end (Err (StoreFault.Limit Limit.Space)) = (not_existing r (Batches.batch_name v f) ≡ Ok tt) × (OFFSET_MAX < batch_end v (reusing_sources v first) f end)
IsNewBatch r v first f end (Err StoreFault.Ground) = Unit {0}
IsNewBatch r v first f end (Err StoreFault.Memory) = Unit {0}
IsNewBatch r v first f end (Err fault) = ⊥

-- what a commit answers where there is no batch: that another has its name comes before the space
abbrev pub IsNotMade : Repository → SaveFault → StoreFault → Type 0
IsNotMade r (saved.Space name) (StoreFault.Existing other) = (other ≡ name) × (not_existing r name ≡ Err (Reply.Existing name))
IsNotMade r (saved.Space name) fault = (fault ≡ StoreFault.Limit Limit.Space) × (not_existing r name ≡ Ok tt)
IsNotMade r (saved.Limit limit) fault = fault ≡ StoreFault.Limit limit
IsNotMade r (saved.Fetch fetched) fault = fault ≡ fault_from fetched
IsNotMade r saved.Memory fault = fault ≡ StoreFault.Memory

abbrev pub records_of : Repository → Work → View → Option View → Bytes → Info → Held → Records
records_of r work v first branch info store = batch v (reusing_sources v first) (fields_of r work.parents info branch) store.slot.end

abbrev pub end_of : Repository → Work → View → Option View → Bytes → Info → Held → ℕ
end_of r work v first branch info store = batch_end v (reusing_sources v first) (fields_of r work.parents info branch) store.slot.end

-- what a commit will do, once none of its refusals came
pub record IsNext (r : Repository) (from : List ℕ) (branch : Bytes) (store : Held) (plan : Plan) : Type 0 where
  pub number : plan.number ≡ next r
  pub is_name : IsHash plan.batch.name
  pub new_name : not_existing r plan.batch.name ≡ Ok tt
  pub is_branch : IsBranchName branch
  pub room : len (insert r.branches branch (next r)) ≤ BRANCHES_MAX
  pub parents : plan.parents ≡ next r ∷ []
  pub some : 0 < length plan.batch.bytes.items
  pub placed : (store.slot.end ≤ plan.batch.commit_at) × (plan.batch.commit_at < store.slot.end + length plan.batch.bytes.items)
  pub entry : plan.step.entry ≡ Entry.Commit plan.batch.name from branch plan.batch.commit_at
  pub slot : plan.step.slot ≡ next_slot (carried store) (length plan.batch.bytes.items) 1
  pub ends : store.slot.end + length plan.batch.bytes.items ≤ OFFSET_MAX
  pub sequence : store.slot.sequence < OFFSET_MAX

-- and where the tree has this view
pub record IsPlan (r : Repository) (work : Work) (v : View) (first : Option View) (branch : Bytes) (info : Info) (store : Held) (plan : Plan) : Type 0 where
  pub name : plan.batch.name ≡ (new_commit r v.map work.parents info).name
  pub bytes : plan.batch.bytes.items ≡ bytes_of_records (records_of r work v first branch info store)
  pub place : places_in (records_of r work v first branch info store) ≡ plan.batch.commit_at ∷ []
  pub root : plan.batch.root ≡ batch_root v (reusing_sources v first) store.slot.end
  pub behind : end_of r work v first branch info store ≡ store.slot.end + length plan.batch.bytes.items
  pub may : MayGrow r v.map work.parents info branch
  pub within : AreWithin store.slot.version (records_of r work v first branch info store)
  pub there : IsThere r work.least
  pub stays : not_leaving_in (phase_of store.collection) work.least ≡ Ok tt
  pub turn : turned (session r (phase_of store.collection) work v) (Command.Commit branch info) (conditions_of met_nothing) ≡ committed r (phase_of store.collection) work v branch info

-- the repository after the commit, where nothing is refused it and none of its writes fails
abbrev pub repository_after : Repository → Phase → Work → View → Bytes → Info → Repository
repository_after r phase work v branch info = (turned (session r phase work v) (Command.Commit branch info) (conditions_of met_nothing)).1.repository

pub record CommitsWork (tells : Bool) (branch : Bytes) (info : Info) (result : Result Hash StoreFault) (store now : Held) (work after : Work) (old new : Told) : Type 0 where
  pub numbers : KeepsNumbers store now
  pub tables : (r : Repository) → IsOf store r → AreParents r work.least work.parents → HasAnswer result → GoesOn now after
  pub same_collection : now.collection ≡ store.collection
  -- what is unswept is so still
  pub unswept : now.unswept ≡ store.unswept
  pub answered : IsTrue tells → (r : Repository) (v : View) → IsAt old store r work v →
      IfSome (reply_to result) (λ reply. Answers new (session r (phase_of store.collection) work v) v (Command.Commit branch info) (met_by result) reply now after)
  pub saved : IsTrue tells → (r q : Repository) (v : View) → IsAt old store r work v → (still : Holds now new q) → OnOk result (IsSaved (image_records still) after.tree (next r) v.map)
  pub limits : IsTrue tells → (r : Repository) (v : View) (here : IsAt old store r work v) → LimitsSpace (end_of r work v (first_parent here) branch info store) result store
  pub appends : IsTrue tells → (r : Repository) (v : View) (here : IsAt old store r work v) → OnOk result (Appends (records_of r work v (first_parent here) branch info store) 1 store now old new)
  pub grew : IsTrue tells → (r : Repository) (held : Holds store old r) → Grew (λ name. true) held result now new
  pub took : IsTrue tells → (r : Repository) (v : View) (here : IsAt old store r work v) →
      Took (λ name. true) here.holds (repository_after r (phase_of store.collection) work v branch info) (records_of r work v (first_parent here) branch info store) result now new
  pub causes : IfErr result (IsStoreCause tells old store.space)
  pub undamaged : IsTrue tells → (r : Repository) (v : View) → IsAt old store r work v → IsUndamaged result
  -- no answer but a commit and a fault of the ground comes behind a write
  pub untouched : IsTrue tells → IsErr result → ¬ IsErrOf result StoreFault.Ground → ChangesOnly NoFile old new
  -- no file but the store's is touched, whatever the files are
  pub beside : IsTrue tells → ChangesOnly IsOfStore old new
  -- Files are only touched, and memory is only asked for, where none of the refusals that come before the name is met.
  pub begun : (r : Repository) → IsOf store r → ¬ HasAnswer result → first_refusal r (phase_of store.collection) work.least work.parents branch ≡ Ok tt
  pub wanted : (r : Repository) → IsOf store r → IsErrOf result StoreFault.Memory → first_refusal r (phase_of store.collection) work.least work.parents branch ≡ Ok tt
  -- whatever the work's tree is
  pub clear : IsTrue tells → HasAnswer result → (r : Repository) → Holds store old r → KeepsClear store now old new
  -- a work without parents has no tree to look into, over any ground
  pub alone : work.parents ≡ [] → IsUndamaged result

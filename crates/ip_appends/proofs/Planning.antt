-- A plan is one of the machine's commit.
use Rattle.std.proofs.Common.{◌≡◌, ℕ, ◌+◌, ◌<◌, ◌≤◌, ◌^◌, List, [], ◌∷◌, map, length, Option, refl, sym, ◌∙◌, ap, subst, arith}
use Rattle.std.specs.Prelude.{Ok, Err, All, IsTrue}
use Rattle.sha2.specs.Sha256.{sha256}
use Rattle.ip_base.specs.declared.info.Info.{Info}
use Rattle.ip_base.specs.declared.limit.Limit.TheVariants as Limit
use Rattle.ip_spec.specs.declared.reply.Reply.{Reply}
use Rattle.ip_image.specs.declared.slot.Slot.{Slot}
use Rattle.ip_spec.specs.Path.{Bytes}
use Rattle.ip_spec.specs.declared.record.Record.{Record}
use Rattle.ip_spec.specs.Record.{Hash, hashed_commit, Fits, IsHash, IsInfo, IsBranchName}
use Rattle.ip_spec.specs.Batch.{batch, batch_end, reusing_sources}
use Rattle.ip_spec.specs.Shape.{root_name}
use Rattle.ip_spec.specs.Machine.{Phase}
use Rattle.ip_spec.specs.View.{View}
use Rattle.ip_spec.specs.Batch as Batches
use Rattle.ip_spec.specs.Repository.{Repository, head, is_retained, name_at, next}
use Rattle.ip_spec.specs.Step.{moved_head, unless_some, room_for_branch, not_existing, new_commit, as_parent}
use Rattle.ip_image.specs.Appending.{fields_of, bytes_of_records, AreWithin}
use Rattle.ip_save.specs.declared.batch.Batch.{Batch}
use Rattle.ip_save.specs.declared.batch.CommitFields.{CommitFields}
use Rattle.ip_save.specs.declared.batch.SaveFault.{SaveFault}
use Rattle.ip_save.specs.declared.batch.SaveFault.TheVariants as saved
use Rattle.ip_save.specs.Batches.{fields_told, IsBatch, IsSaveFault}
use Rattle.ip_space.specs.declared.fault.FetchFault.TheVariants as fetch
use Rattle.ip_held.specs.declared.held.Held.{Held}
use Rattle.ip_held.specs.declared.step.Entry.{Entry}
use Rattle.ip_held.specs.declared.step.Step.{Step}
use Rattle.ip_held.specs.declared.work.Work.{Work}
use Rattle.ip_appends.specs.declared.committing.Plan.{Plan}
use Rattle.ip_held.specs.declared.fault.StoreFault.{StoreFault}
use Rattle.ip_held.specs.Changes.{IsNextSlot, LimitsSpace}
use Rattle.ip_held.specs.Answers.{parent_named, IsRefusal, RefusesBy, first_refusal}
use Rattle.ip_appends.specs.Commits.{IsNewBatch, IsNext, IsNotMade, IsPlan, end_of}
use Rattle.ip_held.specs.Showing.{IsFetchedOr}
use Rattle.ip_held.specs.Held.{IsOf}
use Rattle.ip_held.specs.Collecting.{phase_of, carried}
use Rattle.ip_held.specs.Work.{IsLawful, IsThere}
use Rattle.ip_held.proofs.BatchKinds.{batch_served, batch_places}
use Rattle.ip_held.proofs.Machine.{First, Given, Leaves, none_refuses, first_there, first_stays, first_room, refused_name, refused_short, refused_memory, turn_is_done}
use Rattle.ip_held.proofs.Phases.{retained_parents}
use Rattle.ip_held.proofs.Tables.{none_named}
use Rattle.ip_held.proofs.Room.{room_after}

same_names : (r : Repository) (ns : List ℕ) → map (λ p. p.name) (map (parent_named r) ns) ≡ map (λ p. p.name) (map (as_parent r) ns)
same_names r [] = refl
same_names r (n ∷ ns) = ap (λ l. (parent_named r n).name ∷ l) (same_names r ns)

-- the batch's name is the commit's
pub batch_name_is : (r : Repository) (v : View) (parents : List ℕ) (info : Info) (branch : Bytes) → Batches.batch_name v (fields_of r parents info branch) ≡ (new_commit r v.map parents info).name
batch_name_is r v parents info branch = ap (λ names. sha256 (hashed_commit (root_name v.map) names info)) (same_names r parents)

pub told_from : (r : Repository) (fields : CommitFields) (info : Info) (branch : Bytes) (slice ns : List ℕ) → slice ≡ ns → (All (λ n. IsTrue (is_retained r n)) slice → fields_told fields ≡ fields_of r slice info branch)
    → All (λ n. IsTrue (is_retained r n)) ns → fields_told fields ≡ fields_of r ns info branch
told_from r fields info branch slice ns same = subst (λ l. (All (λ n. IsTrue (is_retained r n)) l → fields_told fields ≡ fields_of r l info branch) → All (λ n. IsTrue (is_retained r n)) ns → fields_told fields ≡ fields_of r ns info branch) (sym same) (λ so all. so all)

pub name_from : (r : Repository) (v : View) (parents : List ℕ) (info : Info) (branch : Bytes) (f : Batches.CommitFields) → f ≡ fields_of r parents info branch → Batches.batch_name v f ≡ (new_commit r v.map parents info).name
name_from r v parents info branch f told = ap (Batches.batch_name v) told ∙ batch_name_is r v parents info branch

-- no refusal came before the name, where the head was looked for among the same parents
pub passed : (r : Repository) (phase : Phase) (least : Option ℕ) (parents : List ℕ) (branch : Bytes) (slice : List ℕ) → slice ≡ parents → Given r phase least parents branch ≡ Ok tt → unless_some (moved_head (head r branch) slice) (λ n. Reply.HeadMoved (name_at r n)) ≡ Ok tt
    → Leaves r phase least parents branch ≡ Ok tt → room_for_branch r branch ≡ Ok tt → first_refusal r phase least parents branch ≡ Ok tt
passed r phase least parents branch slice same given moved leaves room =
    none_refuses r phase least parents branch given (subst (λ (ns : List ℕ). unless_some (moved_head (head r branch) ns) (λ n. Reply.HeadMoved (name_at r n)) ≡ Ok tt) same moved) leaves room

-- ---- the batch, or why there is none

module _ (r : Repository) (v : View) (first : Option View) (f : Batches.CommitFields) (end : ℕ) where
  -- another commit has the name
  pub existing_made : (name : Hash) → name ≡ Batches.batch_name v f → (fault : StoreFault) → fault ≡ StoreFault.Existing name → RefusesBy (Err fault) (not_existing r name) → IsNewBatch r v first f end (Err fault)
  existing_made name is fault same refuses =
      subst (λ (g : StoreFault). IsNewBatch r v first f end (Err g)) (sym same)
      (subst (λ (h : Hash). not_existing r h ≡ Err (Reply.Existing name)) is (subst (λ (g : StoreFault). RefusesBy (Err g) (not_existing r name)) same refuses))

  space_made : (name : Hash) → 2 ^ 62 < batch_end v (reusing_sources v first) f end → name ≡ Batches.batch_name v f → (out : StoreFault) → IsNotMade r (saved.Space name) out → IsNewBatch r v first f end (Err out)
  space_made name over is (StoreFault.Existing other) made =
      subst (λ (h : Hash). not_existing r h ≡ Err (Reply.Existing other)) is (subst (λ (n : Hash). not_existing r name ≡ Err (Reply.Existing n)) (sym made.0) made.1)
  space_made name over is (StoreFault.Limit Limit.Space) made = (subst (λ (h : Hash). not_existing r h ≡ Ok tt) is made.1, over)
  space_made name over is (StoreFault.Limit _) made = absurd (cc (made.0))
  space_made name over is _ made = absurd (cc (made.0))

  -- there is none
  pub none_made : (fault : SaveFault) (out : StoreFault) → IsSaveFault v first f end fault → IsNotMade r fault out → IsNewBatch r v first f end (Err out)
  none_made (saved.Limit limit) out is made = absurd is
  none_made (saved.Space name) out is made = space_made name is.0 is.1 out made
  none_made (saved.Fetch fetch.Ground) out is made = subst (λ (g : StoreFault). IsNewBatch r v first f end (Err g)) (sym made) tt
  none_made (saved.Fetch (fetch.Form at fault)) out is made = absurd is
  none_made (saved.Fetch (fetch.Name at want got)) out is made = absurd is
  none_made (saved.Fetch fetch.Memory) out is made = subst (λ (g : StoreFault). IsNewBatch r v first f end (Err g)) (sym made) tt
  none_made saved.Memory out is made = subst (λ (g : StoreFault). IsNewBatch r v first f end (Err g)) (sym made) tt

  -- the first parent's tree was not read
  pub unread_made : {A : Type 0} (P : A → Type 0) (fault : StoreFault) → IsFetchedOr P (Err fault) → IsNewBatch r v first f end (Err fault)
  unread_made P StoreFault.Ground is = tt
  unread_made P StoreFault.Memory is = tt
  unread_made P (StoreFault.Limit limit) is = absurd is
  unread_made P _ is = absurd is

-- why there is none, as the machine has it
module _ (r : Repository) (phase : Phase) (work : Work) (v : View) (first : Option View) (branch : Bytes) (info : Info) (first_is : First r phase work v branch info ≡ Ok tt)
    (f : Batches.CommitFields) (told : f ≡ fields_of r work.parents info branch) where
  pub refused_batch : (slot : Slot) (end : ℕ) (fault : StoreFault) → IsNewBatch r v first f end (Err fault) → IsRefusal r phase work v branch info fault
  refused_batch slot end (StoreFault.Existing name) is = refused_name r phase work v branch info first_is (StoreFault.Existing name) (subst (λ h. not_existing r h ≡ Err (Reply.Existing name)) (name_from r v work.parents info branch f told) is)
  refused_batch slot end (StoreFault.Limit Limit.Space) is = refused_short r phase work v branch info first_is (subst (λ h. not_existing r h ≡ Ok tt) (name_from r v work.parents info branch f told) is.0) slot (batch_end v (reusing_sources v first) f end)
      (StoreFault.Limit Limit.Space) (let over = is.1 in omega (arith, over))
  refused_batch slot end (StoreFault.Limit _) is = absurd is
  refused_batch slot end StoreFault.Ground is = tt
  refused_batch slot end StoreFault.Memory is = refused_memory r phase work v branch info
  refused_batch slot end _ is = absurd is

  -- and which limit is met: by the batch, and by the slot behind it
  pub batch_limits : (store : Held) (fault : StoreFault) → IsNewBatch r v first f store.slot.end (Err fault) → LimitsSpace {A = Plan} (end_of r work v first branch info store) (Err fault) store
  batch_limits store fault is = record {
    space = λ e. by fault is (cc (e));
    sequence = λ e. by_sequence fault is (cc (e));
    enough = tt;
  }
    where
      by : (fault : StoreFault) → IsNewBatch r v first f store.slot.end (Err fault) → fault ≡ StoreFault.Limit Limit.Space → 2 ^ 62 < end_of r work v first branch info store
      by (StoreFault.Limit Limit.Space) is e = subst (λ g. 2 ^ 62 < batch_end v (reusing_sources v first) g store.slot.end) told is.1
      by fault is e = absurd (cc (e))

      by_sequence : (fault : StoreFault) → IsNewBatch r v first f store.slot.end (Err fault) → fault ≡ StoreFault.Limit Limit.Sequence → (end_of r work v first branch info store ≤ 2 ^ 62) × (store.slot.sequence ≡ 2 ^ 62)
      by_sequence (StoreFault.Limit Limit.Sequence) is e = absurd is
      by_sequence fault is e = absurd (cc (e))

  pub slot_limits : (store : Held) (of : IsOf store r) (batch : Batch) → IsBatch v first f store.slot.end batch → (fault : StoreFault) → IsNextSlot (carried store) (length batch.bytes.items) 1 (Err fault) → LimitsSpace {A = Plan} (end_of r work v first branch info store) (Err fault) store
  slot_limits store of batch is_batch fault is = record {
    space = λ e. by fault is (cc (e));
    sequence = λ e. by_sequence fault is (cc (e));
    enough = tt;
  }
    where
      ends : end_of r work v first branch info store ≡ store.slot.end + length batch.bytes.items
      ends = ap (λ g. batch_end v (reusing_sources v first) g store.slot.end) (sym told) ∙ sym is_batch.ends ∙ is_batch.long

      by : (fault : StoreFault) → IsNextSlot (carried store) (length batch.bytes.items) 1 (Err fault) → fault ≡ StoreFault.Limit Limit.Space → 2 ^ 62 < end_of r work v first branch info store
      by (StoreFault.Limit Limit.Space) is e = subst (λ (n : ℕ). 2 ^ 62 < n) (sym ends) is
      by fault is e = absurd (cc (e))

      by_sequence : (fault : StoreFault) → IsNextSlot (carried store) (length batch.bytes.items) 1 (Err fault) → fault ≡ StoreFault.Limit Limit.Sequence → (end_of r work v first branch info store ≤ 2 ^ 62) × (store.slot.sequence ≡ 2 ^ 62)
      by_sequence (StoreFault.Limit Limit.Sequence) is e = (subst (λ (n : ℕ). n ≤ 2 ^ 62) (sym ends) is.0, (let low = is.1 in let high = of.slot.sequence_high in omega (arith, low, high)))
      by_sequence fault is e = absurd (cc (e))

-- what comes of any tree
pub coming : (r : Repository) (from : List ℕ) (branch : Bytes) (store : Held) (of : IsOf store r) (number : ℕ) (batch : Batch) (slot : Slot) (entry : Entry) (parents : List ℕ) → number ≡ next r → entry ≡ Entry.Commit batch.name from branch batch.commit_at → IsHash batch.name
    → 0 < length batch.bytes.items → IsBranchName branch → (store.slot.end ≤ batch.commit_at) × (batch.commit_at < store.slot.end + length batch.bytes.items) → room_for_branch r branch ≡ Ok tt → not_existing r batch.name ≡ Ok tt
    → IsNextSlot (carried store) (length batch.bytes.items) 1 (Ok slot) → parents ≡ number ∷ [] → IsNext r from branch store (record { number = number; batch = batch; step = record { slot = slot; entry = entry }; parents = parents })
coming r from branch store of number batch slot entry parents is enters is_name some is_branch placed room fresh behind only = record {
  number = is;
  is_name = is_name;
  new_name = fresh;
  is_branch = is_branch;
  room = room_after r branch (next r) room of.retained.few;
  parents = only ∙ ap (λ (n : ℕ). n ∷ []) is;
  some = some;
  placed = placed;
  entry = enters;
  slot = behind.0;
  ends = behind.1;
  sequence = behind.2;
}

-- and of one with this view
module _ (records : ℕ → Option Record) (r : Repository) (work : Work) (v : View) (first : Option View) (branch : Bytes) (info : Info) (store : Held) (of : IsOf store r) (lawful : IsLawful records r work v) (is_branch : IsBranchName branch) (is_info : IsInfo info) where
  version_is : store.slot.version ≡ 1
  version_is = let low = of.slot.version_low in let high = of.slot.version_high in omega arith

  pub planned : (number : ℕ) (fields : CommitFields) (batch : Batch) (step : Step) (parents : List ℕ)
      → fields_told fields ≡ fields_of r work.parents info branch
      → IsBatch v first (fields_told fields) store.slot.end batch
      → First r (phase_of store.collection) work v branch info ≡ Ok tt → not_existing r batch.name ≡ Ok tt
      → IsPlan r work v first branch info store (record { number = number; batch = batch; step = step; parents = parents })
  planned number fields batch step parents told is_batch first_is fresh =
      let there : IsThere r work.least = first_there r (phase_of store.collection) work.least work.parents branch first_is in
      let room_is : room_for_branch r branch ≡ Ok tt = first_room r (phase_of store.collection) work.least work.parents branch first_is in
      let name : batch.name ≡ (new_commit r v.map work.parents info).name = is_batch.name ∙ name_from r v work.parents info branch (fields_told fields) told in
      let new_is : not_existing r (new_commit r v.map work.parents info).name ≡ Ok tt = subst (λ h. not_existing r h ≡ Ok tt) name fresh in
      record {
        name = name;
        bytes = is_batch.bytes ∙ ap (λ f. bytes_of_records (Batches.batch v (reusing_sources v first) f store.slot.end)) told;
        place = batch_places v (reusing_sources v first) (fields_of r work.parents info branch) store.slot.end ∙ ap (λ (n : ℕ). n ∷ []) (sym is_batch.commit_at);
        root = is_batch.root;
        behind = ap (λ f. batch_end v (reusing_sources v first) f store.slot.end) (sym told) ∙ sym is_batch.ends ∙ is_batch.long;
        may = record {
          is_tree = (lawful.tree there).lawful;
          narrow = (lawful.tree there).narrow;
          retained = retained_parents r work.least work.parents lawful.parents there;
          distinct = lawful.parents.distinct;
          few = lawful.parents.few;
          is_info = is_info;
          is_branch = is_branch;
          new_name = none_named r (new_commit r v.map work.parents info).name new_is;
          room = room_after r branch (next r) room_is of.retained.few;
        };
        within = subst (λ (n : ℕ). AreWithin n (Batches.batch v (reusing_sources v first) (fields_of r work.parents info branch) store.slot.end)) (sym version_is)
            (batch_served v (reusing_sources v first) (fields_of r work.parents info branch) store.slot.end 1
            (subst (λ f. All (λ (x : ℕ × Record). Fits 1 x.1) (Batches.batch v (reusing_sources v first) f store.slot.end)) told is_batch.fits));
        there = there;
        stays = first_stays r (phase_of store.collection) work.least work.parents branch first_is;
        turn = turn_is_done r (phase_of store.collection) work v branch info first_is new_is;
      }

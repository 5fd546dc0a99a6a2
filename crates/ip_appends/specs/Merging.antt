-- What a merge into a branch does.
--     merge_reply branch result      the reply; a fault of the ground has none, nor has one of its files
--     moves merge      the branch is at another commit behind it
--     IsTurn rule r phase number branch info met reply after      whatever the work is and whatever names the commit, the machine may give this reply and go on to this repository
--     Moves reply      the branch is at another commit then
--     GoesOnFrom r store after      the store's tables are this repository's, and who goes on from commits of the one before goes on from them
--     AnswersMerge rule told r phase number branch info met reply store      the reply and the repository that the store holds are the machine's, for what was met
--     MergesAtMoments rule held phase number branch info result now new      what it does to what a ground tells
--     MergesBy rule held .. result now new      all that is promised where the ground tells what the store holds.      MergesInto tells rule number branch info result store now old new      and of the call, but for the ground's counts
--     MergesWhere Is tells rule .. result store now old new      so of a part of it, of each repository of which this is so.      Forwards tells number branch result store now old new      of a branch that moves on.      JoinsTrees tells rule sides result store now old new      of the trees.      StoreLooks tells store now old new      of a part that only looks
--     IsStoredAs records r n v      the view of a commit's tree, which these records spell from the root that the commit's record refers to.      IsBase records r cs v      of the ancestor's, where cs are the least common ancestors
--     IsMergeView rule records r head number v      the view of the merge of two commits' trees
--     MergeAppends rule records r number branch info end more commits      the records that a merge appends where nothing refuses it, and how many commits are among them
--     AppendsMerge .. result store now old new      where they lie.      LimitsMerge .. result store      which limit is met
--     IsCourse r phase head number course      how two commits stand to each other, by the tests of ancestors, and whether a collection gives the one up.      unless_leaving, course_in      the course where none does, or not.           IsCourseBy      by their least common ancestors
--     IsForward r branch number, IsJoin r phase branch sides      a branch moves on to a commit, or the trees of three commits are merged.      NeedsFiles r phase number branch      one of the two, by the tables alone
--     IsForwarded r number result, IsJoined rule records r sides result      what comes of that.      stopped_by fault      of trees that were not merged
use Rattle.std.specs.Prelude.{◌≡◌, ◌≢◌, ◌⊎◌, ℕ, ◌+◌, ◌<◌, ◌≤◌, true, false, List, [], ◌∷◌, length, Option, Some, None, Result, Ok, Err, OnOk, IfErr, IfSome, IsErr, IsErrOf, IsSome, IsSomeAnd, IsTrue, nat_lt, if◌then◌else◌, Bool}
use Rattle.ip_base.specs.declared.limit.TheConstants.{OFFSET_MAX}
use Rattle.ip_base.specs.declared.info.Info.{Info}
use Rattle.ip_base.specs.declared.limit.Limit.TheVariants as Limit
use Rattle.ip_ground.specs.Told.{Told, NoFile, ChangesOnly}
use Rattle.ip_spec.specs.declared.command.Command.TheVariants as Command
use Rattle.ip_spec.specs.declared.command.Target.{Target}
use Rattle.ip_spec.specs.declared.met.Met.{Met}
use Rattle.ip_spec.specs.declared.record.Record.{Record}
use Rattle.ip_spec.specs.declared.reply.Reply.{Reply}
use Rattle.ip_spec.specs.History.{is_ancestor, is_proper_ancestor, lcas}
use Rattle.ip_spec.specs.Machine as Machine
use Rattle.ip_merge.specs.Rules.{IsDecisive}
use Rattle.ip_spec.specs.Merge.{Rule, Merges, Outcome, merged, conflict_at}
use Rattle.ip_spec.specs.MergeModel.{base_of}
use Rattle.ip_spec.specs.Batch.{batch, reusing_sources}
use Rattle.ip_spec.specs.Path.{Bytes}
use Rattle.ip_spec.specs.Record.{spelling}
use Rattle.ip_spec.specs.Repository.{Repository, head, is_retained, name_at, tree_at}
use Rattle.ip_spec.specs.Step.{with_branch, Step, resolve, contents_limit, entries_limit, longest_value}
use Rattle.ip_spec.specs.Tree.{Tree, widest}
use Rattle.ip_spec.specs.TreeAt.{Records, TreeAt}
use Rattle.ip_spec.specs.View.{View, no_view}
use Rattle.ip_image.specs.Appending.{fields_of, bytes_of_records}
use Rattle.ip_save.specs.Batches.{HasShortContents}
use Rattle.ip_tree.specs.TreeView.{IsView, stored_view}
use Rattle.ip_tree.specs.declared.tree.Tree as lazy
use Rattle.ip_three.specs.Answered.{MergedView}
use Rattle.ip_three.specs.declared.merge.ThreeFault.{ThreeFault}
use Rattle.ip_three.specs.declared.merge.ThreeFault.TheVariants as three
use Rattle.ip_publish.specs.Publishing.{IsOfStore}
use Rattle.ip_held.specs.Causes.{IsStoreCause}
use Rattle.ip_held.specs.Changes.{Appends, HasAnswer, IsUndamaged, LimitsSpace}
use Rattle.ip_held.specs.Clear.{KeepsClear}
use Rattle.ip_held.specs.Collecting.{not_leaving_in, phase_of}
use Rattle.ip_held.specs.Answers.{conditions_of, fault_reply, met_by, met_nothing}
use Rattle.ip_held.specs.Showing.{fault_from}
use Rattle.ip_held.specs.Rooted.{IsRooted}
use Rattle.ip_held.specs.Held.{IsOf, Holds, SameTables, image_records}
use Rattle.ip_held.specs.Step.{Grew, Took}
use Rattle.ip_held.specs.Trees.{IsRootAt, IsTreeOf, OnlyLooks}
use Rattle.ip_held.specs.Work.{AreParents, state_at}
use Rattle.ip_held.specs.declared.fault.StoreFault.{StoreFault}
use Rattle.ip_appends.specs.Naming.{HasRoomFor}
use Rattle.ip_appends.specs.declared.merging.Course.{Course}
use Rattle.ip_appends.specs.declared.merging.Joined.{Joined}
use Rattle.ip_appends.specs.declared.merging.Merge.{Merge}
use Rattle.ip_appends.specs.declared.merging.Sides.{Sides}
use Rattle.ip_held.specs.declared.held.Held.{Held}

abbrev pub merge_reply : Bytes → Result Merge StoreFault → Option Reply
merge_reply branch (Ok (Merge.Current name)) = Some (Reply.Current name)
merge_reply branch (Ok (Merge.Forward name)) = Some (Reply.Forward name)
merge_reply branch (Ok (Merge.Merged name)) = Some (Reply.Merged name)
merge_reply branch (Ok Merge.NoBranch) = Some (Reply.NoBranch branch)
merge_reply branch (Ok (Merge.Bases count)) = Some (Reply.Bases count)
merge_reply branch (Ok (Merge.Conflict path)) = Some (Reply.Conflict path)
merge_reply branch (Err fault) = fault_reply fault

abbrev pub moves : Merge → Bool
moves (Merge.Merged name) = true
moves (Merge.Forward name) = true
moves merge = false

abbrev pub IsTurn : Rule → Repository → Machine.Phase → ℕ → Bytes → Info → Met → Reply → Repository → Type 0
IsTurn rule r phase number branch info met reply after =
    (work : Machine.Work) (target : Target) → resolve r target ≡ Ok number → Step rule (state_at r phase work) (Command.Merge target branch info) (conditions_of met) reply (state_at after phase work)

-- a reply behind which the branch is at another commit
abbrev pub Moves : Reply → Type 0
Moves (Reply.Merged name) = Unit {0}
Moves (Reply.Forward name) = Unit {0}
Moves reply = ⊥

pub record GoesOnFrom (r : Repository) (store : Held) (after : Repository) : Type 0 where
  pub tables : IsOf store after
  pub parents : (least : Option ℕ) (parents : List ℕ) → AreParents r least parents → AreParents after least parents

pub record AnswersMerge (rule : Rule) (told : Told) (r : Repository) (phase : Machine.Phase) (number : ℕ) (branch : Bytes) (info : Info) (met : Met) (reply : Reply) (store : Held) : Type 0 where
  pub after : Repository
  pub turns : IsTurn rule r phase number branch info met reply after
  pub floor : after.floor ≡ r.floor
  pub stays : ¬ Moves reply → after ≡ r
  pub holds : Holds store told after
  pub goes_on : GoesOnFrom r store after

-- an answer that leaves the repository as it is
abbrev pub IsUnmoved : Result Merge StoreFault → Type 0
IsUnmoved (Ok (Merge.Current name)) = Unit {0}
IsUnmoved (Ok Merge.NoBranch) = Unit {0}
IsUnmoved (Ok (Merge.Bases count)) = Unit {0}
IsUnmoved (Ok (Merge.Conflict path)) = Unit {0}
IsUnmoved result = ⊥

-- The repository after it is the one that the machine gives where nothing is met, also where a fault cut the call short.
pub record MergesAtMoments (rule : Rule) {store : Held} {old : Told} {r : Repository} (held : Holds store old r) (phase : Machine.Phase) (number : ℕ) (branch : Bytes) (info : Info) (result : Result Merge StoreFault) (now : Held) (new : Told) : Type 0 where
  pub after : Repository
  pub reply : Reply
  pub more : Records
  pub turns : IsTurn rule r phase number branch info met_nothing reply after
  pub replies : OnOk result (merge_reply branch result ≡ Some reply)
  pub floor : after.floor ≡ r.floor
  pub stays : ¬ Moves reply → after ≡ r
  pub took : Took moves held after more result now new
  pub unmoved : IsUnmoved result → ChangesOnly NoFile old new

-- ---- records

pub record IsStoredAs (records : ℕ → Option Record) (r : Repository) (n : ℕ) (v : View) : Type 0 where
  pub at : ℕ
  pub root : IsRootAt records n at
  pub spelled : TreeAt records at (tree_at r n)
  pub is : v ≡ stored_view records n at (tree_at r n)

-- of several none, since then nothing is merged
abbrev pub IsBase : (ℕ → Option Record) → Repository → List ℕ → View → Type 0
IsBase records r [] v = v ≡ no_view
IsBase records r (c ∷ []) v = IsStoredAs records r c v
IsBase records r (c ∷ d ∷ cs) v = ⊥

-- Which parts of it are known depends on which the three trees have in one record.
pub record IsMergeView (rule : Rule) (records : ℕ → Option Record) (r : Repository) (head number : ℕ) (v : View) : Type 0 where
  pub base : View
  pub left : View
  pub right : View
  pub base_is : IsBase records r (lcas r head number) base
  pub left_is : IsStoredAs records r head left
  pub right_is : IsStoredAs records r number right
  pub merges : Merges rule base.map left.map right.map (merged v.map)
  pub made : MergedView base left right v.map v

-- the branch moves on to the commit
pub record ForwardAppends (r : Repository) (number : ℕ) (branch : Bytes) (end : ℕ) (more : Records) (commits : ℕ) : Type 0 where
  pub at : ℕ
  pub is_head : head r branch ≡ Some at
  pub not_current : is_ancestor r number at ≡ false
  pub forward : is_proper_ancestor r at number ≡ true
  pub are_records : more ≡ (end, Record.BranchSet number branch) ∷ []
  pub count : commits ≡ 0

-- the commit of the merge's tree
pub record JoinAppends (rule : Rule) (records : ℕ → Option Record) (r : Repository) (number : ℕ) (branch : Bytes) (info : Info) (end : ℕ) (more : Records) (commits : ℕ) : Type 0 where
  pub at : ℕ
  pub view : View
  pub is_head : head r branch ≡ Some at
  pub not_current : is_ancestor r number at ≡ false
  pub not_forward : is_proper_ancestor r at number ≡ false
  pub merge : IsMergeView rule records r at number view
  -- contents are taken from the branch's commit
  pub are_records : more ≡ batch view (reusing_sources view (Some merge.left)) (fields_of r (at ∷ number ∷ []) info branch) end
  pub count : commits ≡ 1

abbrev pub MergeAppends : Rule → (ℕ → Option Record) → Repository → ℕ → Bytes → Info → ℕ → Records → ℕ → Type 0
MergeAppends rule records r number branch info end more commits =
    ForwardAppends r number branch end more commits ⊎ JoinAppends rule records r number branch info end more commits

pub record HasAppended (rule : Rule) (records : ℕ → Option Record) (r : Repository) (number : ℕ) (branch : Bytes) (info : Info) (store now : Held) (old new : Told) : Type 0 where
  pub more : Records
  pub commits : ℕ
  pub are : MergeAppends rule records r number branch info store.slot.end more commits
  pub appends : Appends more commits store now old new
  pub room : store.slot.end + length (bytes_of_records more) ≤ OFFSET_MAX
  pub sequence : store.slot.sequence < OFFSET_MAX

pub record IsShortOf (rule : Rule) (records : ℕ → Option Record) (r : Repository) (number : ℕ) (branch : Bytes) (info : Info) (store : Held) (Short : ℕ → Type 0) : Type 0 where
  pub more : Records
  pub commits : ℕ
  pub are : MergeAppends rule records r number branch info store.slot.end more commits
  pub short : Short (store.slot.end + length (bytes_of_records more))

-- the records of what was made
abbrev pub AppendsMerge : Rule → (ℕ → Option Record) → Repository → ℕ → Bytes → Info → Result Merge StoreFault → Held → Held → Told → Told → Type 0
AppendsMerge rule records r number branch info (Ok (Merge.Merged name)) store now old new = HasAppended rule records r number branch info store now old new
AppendsMerge rule records r number branch info (Ok (Merge.Forward name)) store now old new = HasAppended rule records r number branch info store now old new
AppendsMerge rule records r number branch info result store now old new = HasAnswer result → now.slot ≡ store.slot

-- the place after them would pass the greatest one, or the slot's sequence is the greatest
abbrev pub LimitsMerge : Rule → (ℕ → Option Record) → Repository → ℕ → Bytes → Info → Result Merge StoreFault → Held → Type 0
LimitsMerge rule records r number branch info (Err (StoreFault.Limit Limit.Space)) store = IsShortOf rule records r number branch info store (λ end. OFFSET_MAX < end)
LimitsMerge rule records r number branch info (Err (StoreFault.Limit Limit.Sequence)) store = IsShortOf rule records r number branch info store (λ end. (end ≤ OFFSET_MAX) × (store.slot.sequence ≡ OFFSET_MAX))
LimitsMerge rule records r number branch info result store = Unit {0}

-- the branch moves on to the commit
pub record IsForward (r : Repository) (branch : Bytes) (number : ℕ) : Type 0 where
  pub at : ℕ
  pub is_head : head r branch ≡ Some at
  pub retained : IsTrue (is_retained r number)
  pub not_current : is_ancestor r number at ≡ false
  pub forward : is_proper_ancestor r at number ≡ true

-- The branch is there and lacks the commit, and it moves on, or no collection gives the commit up and there are not several least common ancestors.
abbrev pub NeedsFiles : Repository → Machine.Phase → ℕ → Bytes → Type 0
NeedsFiles r phase number branch =
    IsSomeAnd (head r branch) (λ at. (is_ancestor r number at ≡ false) × ((is_proper_ancestor r at number ≡ true) ⊎ ((not_leaving_in phase (Some number) ≡ Ok tt) × (length (lcas r at number) ≤ 1))))

-- what comes of moving a branch on that is there
abbrev pub IsForwarded : Repository → ℕ → Result Merge StoreFault → Type 0
IsForwarded r number (Ok (Merge.Forward name)) = name ≡ name_at r number
IsForwarded r number (Err (StoreFault.Limit Limit.Space)) = Unit {0}
IsForwarded r number (Err (StoreFault.Limit Limit.Sequence)) = Unit {0}
IsForwarded r number (Err StoreFault.Memory) = Unit {0}
IsForwarded r number (Err StoreFault.Ground) = Unit {0}
IsForwarded r number result = ⊥

-- the branch moves on
pub record Forwards (tells : Bool) (number : ℕ) (branch : Bytes) (result : Result Merge StoreFault) (store now : Held) (old new : Told) : Type 0 where
  pub comes : (r : Repository) → IsOf store r → IsForward r branch number → IsForwarded r number result
  pub tables : (r : Repository) → IsOf store r → IsForward r branch number → HasAnswer result → (after : Repository) × GoesOnFrom r now after
  pub same_collection : now.collection ≡ store.collection
  -- what is unswept is so still
  pub unswept : now.unswept ≡ store.unswept
  pub limits : LimitsSpace (store.slot.end + length (spelling (Record.BranchSet number branch))) result store
  pub appends : IsTrue tells → OnOk result (Appends ((store.slot.end, Record.BranchSet number branch) ∷ []) 0 store now old new)
  pub grew : IsTrue tells → (r : Repository) (held : Holds store old r) → Grew moves held result now new
  pub took : IsTrue tells → (r : Repository) (held : Holds store old r) → IsForward r branch number → Took moves held (with_branch r branch number) ((store.slot.end, Record.BranchSet number branch) ∷ []) result now new
  pub untouched : IsTrue tells → IsErr result → ¬ IsErrOf result StoreFault.Ground → ChangesOnly NoFile old new
  -- no file but the store's is touched, whatever the files are
  pub beside : IsTrue tells → ChangesOnly IsOfStore old new
  pub clear : IsTrue tells → HasAnswer result → (r : Repository) → Holds store old r → KeepsClear store now old new
  pub undamaged : IsUndamaged result
  -- no fault of the ground stands in the place of a limit
  pub room : IsErrOf result StoreFault.Ground → HasRoomFor (Record.BranchSet number branch) store

-- of a repository that the store holds, by a rule that is decisive
pub record MergesBy (rule : Rule) {store : Held} {old : Told} {r : Repository} (held : Holds store old r) (phase : Machine.Phase) (number : ℕ) (branch : Bytes) (info : Info) (result : Result Merge StoreFault) (now : Held) (new : Told) : Type 0 where
  pub answered : IfSome (merge_reply branch result) (λ reply. AnswersMerge rule new r phase number branch info (met_by result) reply now)
  pub appends : AppendsMerge rule (image_records held) r number branch info result store now old new
  pub limits : LimitsMerge rule (image_records held) r number branch info result store
  pub any_moment : MergesAtMoments rule held phase number branch info result now new
  -- files that others changed are never met where the ground tells what the store holds
  pub undamaged : IsUndamaged result

-- a part that only looked, whatever it answers
pub record StoreLooks (tells : Bool) (store now : Held) (old new : Told) : Type 0 where
  pub same : SameTables store now
  pub looks : IsTrue tells → OnlyLooks old new store now

-- of each repository of which this is so
pub record MergesWhere (Is : Repository → Type 0) (tells : Bool) (rule : Rule) (number : ℕ) (branch : Bytes) (info : Info) (result : Result Merge StoreFault) (store now : Held) (old new : Told) : Type 0 where
  pub tables : (r : Repository) → IsOf store r → Is r → HasAnswer result → (after : Repository) × GoesOnFrom r now after
  pub same_collection : now.collection ≡ store.collection
  -- what is unswept is so still
  pub unswept : now.unswept ≡ store.unswept
  pub grew : IsTrue tells → (r : Repository) (held : Holds store old r) → Grew moves held result now new
  pub merges : IsTrue tells → IsDecisive rule → (r : Repository) (held : Holds store old r) → Is r → MergesBy rule held (phase_of store.collection) number branch info result now new
  pub causes : IfErr result (IsStoreCause tells old store.space)
  -- no fault but one of the ground comes behind a write
  pub untouched : IsTrue tells → IsErr result → ¬ IsErrOf result StoreFault.Ground → ChangesOnly NoFile old new
  -- no file but the store's is touched, whatever the files are
  pub beside : IsTrue tells → ChangesOnly IsOfStore old new
  -- whatever the rules are
  pub clear : IsTrue tells → HasAnswer result → (r : Repository) → Holds store old r → KeepsClear store now old new

pub record MergesInto (tells : Bool) (rule : Rule) (number : ℕ) (branch : Bytes) (info : Info) (result : Result Merge StoreFault) (store now : Held) (old new : Told) : Type 0 where
  pub tables : (r : Repository) → IsOf store r → IsTrue (is_retained r number) → HasAnswer result → (after : Repository) × GoesOnFrom r now after
  pub same_collection : now.collection ≡ store.collection
  -- what is unswept is so still
  pub unswept : now.unswept ≡ store.unswept
  pub grew : IsTrue tells → (r : Repository) (held : Holds store old r) → Grew moves held result now new
  pub merges : IsTrue tells → IsDecisive rule → (r : Repository) (held : Holds store old r) → IsTrue (is_retained r number) → MergesBy rule held (phase_of store.collection) number branch info result now new
  pub causes : IfErr result (IsStoreCause tells old store.space)
  -- no fault but one of the ground comes behind a write
  pub untouched : IsTrue tells → IsErr result → ¬ IsErrOf result StoreFault.Ground → ChangesOnly NoFile old new
  -- no file but the store's is touched, whatever the files are
  pub beside : IsTrue tells → ChangesOnly IsOfStore old new
  -- whatever the rules are
  pub clear : IsTrue tells → HasAnswer result → (r : Repository) → Holds store old r → KeepsClear store now old new
  -- Files are only touched where the tables tell of no other end, and memory is only asked for where there is such a branch.
  pub begun : (r : Repository) → IsOf store r → IsTrue (is_retained r number) → ¬ HasAnswer result → NeedsFiles r (phase_of store.collection) number branch
  pub wanted : (r : Repository) → IsOf store r → IsErrOf result StoreFault.Memory → IsSome (head r branch)
  -- Of a branch that moves on no fault of the ground stands in the place of a limit.
  pub room : (r : Repository) → IsOf store r → IsForward r branch number → IsErrOf result StoreFault.Ground → HasRoomFor (Record.BranchSet number branch) store

-- ---- how the commits stand to each other

abbrev pub IsCourseBy : List ℕ → ℕ → ℕ → Course → Type 0
IsCourseBy least head number Course.Current = least ≡ number ∷ []
IsCourseBy least head number Course.Forward = (least ≡ head ∷ []) × (head ≢ number)
IsCourseBy least head number Course.Leaving = ⊥
IsCourseBy least head number (Course.Bases count) = (1 < length least) × (count ≡ length least)
IsCourseBy least head number (Course.Join None) = least ≡ []
IsCourseBy least head number (Course.Join (Some base)) = (least ≡ base ∷ []) × (base ≢ number) × (base ≢ head)

abbrev pub IsApart : Repository → ℕ → ℕ → Type 0
IsApart r head number = (is_ancestor r number head ≡ false) × (is_proper_ancestor r head number ≡ false)

abbrev pub bases_of : Option ℕ → List ℕ
bases_of None = []
bases_of (Some base) = base ∷ []

-- while a collection runs that gives the commit up it is merged with none that is apart from it
abbrev pub unless_leaving : Machine.Phase → ℕ → Course → Course
unless_leaving phase number course = elim phase [ Machine.Phase.Idle ↦ course | Machine.Phase.Collecting c exit ↦ if nat_lt number c then Course.Leaving else course ]

abbrev pub course_in : Machine.Phase → ℕ → Course → Course
course_in phase number (Course.Bases count) = unless_leaving phase number (Course.Bases count)
course_in phase number (Course.Join base) = unless_leaving phase number (Course.Join base)
course_in phase number course = course

abbrev pub IsStaying : Machine.Phase → ℕ → Type 0
IsStaying phase number = not_leaving_in phase (Some number) ≡ Ok tt

abbrev pub IsCourse : Repository → Machine.Phase → ℕ → ℕ → Course → Type 0
IsCourse r phase head number Course.Current = is_ancestor r number head ≡ true
IsCourse r phase head number Course.Forward = (is_ancestor r number head ≡ false) × (is_proper_ancestor r head number ≡ true)
IsCourse r phase head number Course.Leaving = IsApart r head number × (not_leaving_in phase (Some number) ≡ Err (Reply.Leaving number))
IsCourse r phase head number (Course.Bases count) = IsApart r head number × (1 < length (lcas r head number)) × (count ≡ length (lcas r head number)) × IsStaying phase number
IsCourse r phase head number (Course.Join base) = IsApart r head number × (lcas r head number ≡ bases_of base) × IsStaying phase number

-- the trees of these commits are merged
pub record IsJoin (r : Repository) (phase : Machine.Phase) (branch : Bytes) (sides : Sides) : Type 0 where
  pub is_head : head r branch ≡ Some sides.head
  pub head_retained : IsTrue (is_retained r sides.head)
  pub number_retained : IsTrue (is_retained r sides.number)
  pub base_retained : IfSome sides.base (λ n. IsTrue (is_retained r n))
  pub apart : IsApart r sides.head sides.number
  pub least : lcas r sides.head sides.number ≡ bases_of sides.base
  pub staying : IsStaying phase sides.number

-- ---- the parts of a merge

abbrev pub IsBaseTree : (ℕ → Option Record) → Repository → Option ℕ → lazy.Tree → Type 0
IsBaseTree records r None tree = IsView records tree no_view
IsBaseTree records r (Some base) tree = IsTreeOf records r base tree

-- of trees that were not merged
abbrev pub stopped_by : ThreeFault → Result Joined StoreFault
stopped_by (three.Conflict path) = Ok (Joined.Conflict path)
stopped_by (three.Limit limit) = Err (StoreFault.Limit limit)
stopped_by (three.Fetch fault) = Err (fault_from fault)
stopped_by three.Memory = Err StoreFault.Memory

-- the outcome is one of the machine's
abbrev pub IsOutcome : Rule → Repository → Sides → Outcome → Type 0
IsOutcome rule r sides m = Merges rule (base_of r (bases_of sides.base)) (tree_at r sides.head) (tree_at r sides.number) m

pub record IsJoinedTree (rule : Rule) (records : ℕ → Option Record) (r : Repository) (sides : Sides) (tree : lazy.Tree) : Type 0 where
  pub base : View
  pub left : View
  pub right : View
  pub view : View
  pub base_is : IsBase records r (bases_of sides.base) base
  pub left_is : IsStoredAs records r sides.head left
  pub right_is : IsStoredAs records r sides.number right
  pub merges : Merges rule base.map left.map right.map (merged view.map)
  pub made : MergedView base left right view.map view
  pub is : IsView records tree view
  pub rooted : IsRooted records view
  pub short : HasShortContents view.map

abbrev pub IsJoined : Rule → (ℕ → Option Record) → Repository → Sides → Result Joined StoreFault → Type 0
IsJoined rule records r sides (Ok (Joined.Tree tree)) = IsJoinedTree rule records r sides tree
IsJoined rule records r sides (Ok (Joined.Conflict path)) = IsOutcome rule r sides (conflict_at path)
IsJoined rule records r sides (Err (StoreFault.Limit Limit.Contents)) = (t : Tree) × IsOutcome rule r sides (merged t) × (contents_limit < longest_value t)
IsJoined rule records r sides (Err (StoreFault.Limit Limit.Entries)) = (t : Tree) × IsOutcome rule r sides (merged t) × (longest_value t ≤ contents_limit) × (entries_limit < widest t)
IsJoined rule records r sides (Err StoreFault.Ground) = Unit {0}
IsJoined rule records r sides (Err StoreFault.Memory) = Unit {0}
IsJoined rule records r sides (Err fault) = ⊥

-- by a part that only looks
pub record JoinsTrees (tells : Bool) (rule : Rule) (sides : Sides) (result : Result Joined StoreFault) (store now : Held) (old new : Told) : Type 0 where
  pub joins : IsTrue tells → IsDecisive rule → (r : Repository) (branch : Bytes) (held : Holds store old r) → IsJoin r (phase_of store.collection) branch sides → IsJoined rule (image_records held) r sides result
  pub looked : StoreLooks tells store now old new
  pub causes : IfErr result (IsStoreCause tells old store.space)

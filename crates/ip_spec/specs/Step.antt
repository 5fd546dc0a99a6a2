-- One step of the machine. Of each command the refusals stand in their order, and after them what it does.
--     outcome s command met      the reply that refuses, or reply and next state, for all commands but `merge`.      answer s command met      reply and next state
--     Base rule r cs tree      the ancestor's map of a merge, where cs are the least common ancestors.      MergesOf r cs n      how many merges that takes
--     Merging rule s target branch info met turned      what `merge` may give
--     IsMet s command met reply      what a command may meet
--     Step rule s command met reply s'      the machine may give this reply to the command, for what it meets, and go on to s'
--     turned s command met      with want of memory, for all commands but `merge`.      quiet      nothing met
use Rattle.std.specs.Prelude.{◌≡◌, ◌⊎◌, ℕ, suc, ◌+◌, ◌-◌, ◌<◌, min, pos, Bool, true, false, not, ◌&&◌, ◌==◌, List, [], ◌∷◌, ◌++◌, length, map, drop, reverse, Option, Some, None, is_some, option_map as mapped, Result, Ok, Err, IfSome, IsTrue, nat_le, nat_lt, if◌then◌else◌, MatchResult, max, fold}
use Rattle.std.specs.List.{list_any, find}
use Rattle.std.specs.Bool.{MatchBool}
use Rattle.sha2.specs.Sha256.{sha256}
use Rattle.ip_base.specs.declared.limit.TheConstants.{CONTENTS_MAX, ENTRIES_MAX, STEPS_MAX, PARENTS_MAX, BRANCHES_MAX}
use Rattle.ip_spec.specs.Map.{insert, remove, len}
use Rattle.ip_spec.specs.Path.{Bytes, Path}
use Rattle.ip_spec.specs.Record.{Hash, Info}
use Rattle.ip_spec.specs.Tree as Tree
use Rattle.ip_spec.specs.Tree.{Tree, got_at, listed_at, height, widest, subtree, is_empty, Got, Listed}
use Rattle.ip_spec.specs.Shape.{root_name, shape_runs}
use Rattle.ip_spec.specs.Repository.{no_repository, CommitParent, Commit, Repository, next, commit_at, number_named, commit_name, head, name_at, tree_at}
use Rattle.ip_spec.specs.History.{reaches, is_ancestor, is_proper_ancestor, ancestors, common, lcas}
use Rattle.ip_spec.specs.Merge.{Rule, Merges, Outcome, merge_runs}
use Rattle.ip_spec.specs.Machine.{empty_work, Phase, exit_kept, State, Target, Command, Limit, Verdict, verdict_on, Child, Exit, Reaped, Conditions, Head, Reply}

-- a value, or the reply that refuses
abbrev pub Refused : Type 0 → Type 0
Refused X = Result X Reply

infixl 10 ◌>>=◌
abbrev pub ◌>>=◌ : {A B : Type 0} → Refused A → (A → Refused B) → Refused B
(Ok x) >>= f = f x
(Err reply) >>= f = Err reply

infixl 10 ◌>>◌
abbrev pub ◌>>◌ : {A B : Type 0} → Refused A → Refused B → Refused B
(Ok x) >> y = y
(Err reply) >> y = Err reply

abbrev pub refuse_if : Bool → Reply → Refused (Unit {0})
refuse_if true reply = Err reply
refuse_if false reply = Ok tt

-- what is there, or the reply that it isn't
abbrev pub present : {X : Type 0} → Option X → Reply → Refused X
present None reply = Err reply
present (Some x) reply = Ok x

-- refused where there is some value, which the reply tells
abbrev pub unless_some : {X : Type 0} → Option X → (X → Reply) → Refused (Unit {0})
unless_some None reply = Ok tt
unless_some (Some x) reply = Err (reply x)

abbrev pub Turned : Type 0
Turned = Reply × State

-- a refused command changes nothing
abbrev pub or_refused : State → Refused Turned → Turned
or_refused s (Ok turned) = turned
or_refused s (Err reply) = (reply, s)

-- ---- limits

abbrev pub contents_limit : ℕ
contents_limit = CONTENTS_MAX

-- of one directory
abbrev pub entries_limit : ℕ
entries_limit = ENTRIES_MAX

abbrev pub steps_limit : ℕ
steps_limit = STEPS_MAX

abbrev pub parents_limit : ℕ
parents_limit = PARENTS_MAX

abbrev pub branches_limit : ℕ
branches_limit = BRANCHES_MAX

-- ---- refusals

abbrev pub below : ℕ → Option ℕ → Option ℕ
below bound None = None
below bound (Some n) = if nat_lt n bound then Some n else None

-- the work took from a commit below the floor
abbrev pub not_given_up : State → Refused (Unit {0})
not_given_up s = unless_some (below s.repository.floor s.work.least) Reply.GivenUp

abbrev pub resolve : Repository → Target → Refused ℕ
resolve r (Target.Branch name) = present (head r name) (Reply.NoBranch name)
resolve r (Target.Commit hash) = present (number_named r hash) (Reply.NoCommit hash)

-- a collection at c runs, and the command would rest on a commit below c
abbrev pub not_leaving : State → Option ℕ → Refused (Unit {0})
not_leaving s n = elim s.phase [ Phase.Idle ↦ Ok tt | Phase.Collecting c exit ↦ unless_some (below c n) Reply.Leaving ]

abbrev pub same_limit : Limit → Limit → Bool
same_limit Limit.Space Limit.Space = true
same_limit Limit.Sequence Limit.Sequence = true
same_limit Limit.Attempt Limit.Attempt = true
same_limit k l = false

abbrev pub is_short : Limit → Option Limit → Bool
is_short l None = false
is_short l (Some k) = same_limit k l

-- space, sequence or attempt is not short
abbrev pub enough : Conditions → Limit → Refused (Unit {0})
enough met l = refuse_if (is_short l met.told.short) (Reply.Limit l)

abbrev pub room_for_branch : Repository → Bytes → Refused (Unit {0})
room_for_branch r name = refuse_if (not (is_some (head r name)) && nat_le branches_limit (len r.branches)) (Reply.Limit Limit.Branches)

abbrev pub not_existing : Repository → Hash → Refused (Unit {0})
not_existing r hash = refuse_if (is_some (number_named r hash)) (Reply.Existing hash)

abbrev pub not_too_wide : Tree → Refused (Unit {0})
not_too_wide tree = refuse_if (nat_lt entries_limit (widest tree)) (Reply.Limit Limit.Entries)

-- the branch's head, if it has one, is among the work's parents
abbrev pub moved_head : Option ℕ → List ℕ → Option ℕ
moved_head None parents = None
moved_head (Some n) parents = if list_any (λ p. p == n) parents then None else Some n

abbrev pub head_among_parents : State → Bytes → Refused (Unit {0})
head_among_parents s branch = unless_some (moved_head (head s.repository branch) s.work.parents) (λ n. Reply.HeadMoved (name_at s.repository n))

-- ---- what commands do

abbrev pub least_with : Option ℕ → ℕ → Option ℕ
least_with None n = Some n
least_with (Some m) n = Some (min m n)

abbrev pub with_tree : State → Tree → State
with_tree s tree = record s { work = record s.work { tree = tree } }

abbrev pub got_reply : Got → Reply
got_reply Got.Absent = Reply.Absent
got_reply (Got.Value bytes) = Reply.Value bytes
got_reply (Got.Dir n) = Reply.Dir n

abbrev pub listed_reply : Listed → Reply
listed_reply Listed.Absent = Reply.Absent
listed_reply Listed.Contents = Reply.Contents
listed_reply (Listed.Entries items) = Reply.List items

abbrev pub as_parent : Repository → ℕ → CommitParent
as_parent r n = record { number = Some n; name = name_at r n }

-- the commit of a tree with these parents
abbrev pub new_commit : Repository → Tree → List ℕ → Info → Commit
new_commit r tree parents info =
    let ps = map (as_parent r) parents in
    record { name = commit_name (root_name tree) ps info; parents = ps; info = info; tree = tree }

abbrev pub with_branch : Repository → Bytes → ℕ → Repository
with_branch r branch n = record r { branches = insert r.branches branch n }

-- the commit comes next, and the branch is at it
abbrev pub with_commit : Repository → Commit → Bytes → Repository
with_commit r c branch = with_branch (record r { commits = r.commits ++ c ∷ [] }) branch (next r)

-- the least branch below a number
abbrev pub held_branch : Repository → ℕ → Option Bytes
held_branch r c = mapped (λ e. e.0) (find (λ e. nat_lt e.1 c) r.branches.entries)

-- the commits below c are given up
abbrev pub collected_at : Repository → ℕ → Repository
collected_at r c = record r { floor = c; commits = drop (c - r.floor) r.commits }

abbrev pub phase_at : Phase → Option ℕ
phase_at Phase.Idle = None
phase_at (Phase.Collecting c exit) = Some c

-- the commit at which a collection runs
abbrev pub collected_commit : State → Refused ℕ
collected_commit s = present (phase_at s.phase) Reply.Idle

-- ---- the commands

-- a number that was resolved is retained, so there is a commit
abbrev pub commit_reply : Repository → ℕ → Reply
commit_reply r n = elim (commit_at r n) [
  | None ↦ Reply.Accepted
  | Some c ↦ Reply.Commit c.name n (root_name c.tree) (map (λ p. p.name) c.parents) c.info
]

-- an exit that was reaped is judged
abbrev pub verdict_turn : State → ℕ → Conditions → Verdict → Refused Turned
verdict_turn s c met (Verdict.exited e) = Ok (Reply.RejectedExit e, record s { phase = Phase.Idle })
verdict_turn s c met (Verdict.differs difference) = Ok (Reply.Rejected difference, record s { phase = Phase.Idle })
verdict_turn s c met Verdict.accepted = Ok (
    if is_short Limit.Sequence met.told.short
    then (Reply.Limit Limit.Sequence, record s { phase = Phase.Idle })
    else (Reply.Collected c met.told.left, record s { phase = Phase.Idle; repository = collected_at s.repository c }))

abbrev pub with_exit : State → ℕ → Reaped → State
with_exit s c reaped = record s { phase = Phase.Collecting c (Some reaped) }

-- where the check is not through the exit is kept, else it is judged
abbrev pub check_turn : State → ℕ → Conditions → Reaped → Option ℕ → Refused Turned
check_turn s c met reaped None = verdict_turn s c met (verdict_on reaped.exit met.difference)
check_turn s c met reaped (Some left) = Ok (Reply.Checking left, with_exit s c reaped)

-- While a collection runs the child was asked, or its exit was kept: that it was not asked is never met.
abbrev pub child_turn : State → ℕ → Conditions → Child → Refused Turned
child_turn s c met Child.NotAsked = Err Reply.Running
child_turn s c met Child.Running = Err Reply.Running
child_turn s c met Child.Fault = Err Reply.WaitFault
child_turn s c met (Child.Ended reaped) = check_turn s c met reaped met.told.checking

-- what stands somewhere in the tree of commit n, put at a path
abbrev pub graft_turn : State → ℕ → Tree → Path → Refused Turned
graft_turn s n sub to =
    let tree = Tree.place s.work.tree to sub in
    do
      refuse_if (is_empty sub) Reply.Absent
      refuse_if (nat_lt steps_limit (length to + height sub)) (Reply.Limit Limit.Depth)
      not_too_wide tree
      Ok (Reply.Accepted, record s { work = record s.work { tree = tree; least = least_with s.work.least n } })

-- whether it is a parent already
abbrev pub with_parent : State → ℕ → Bool → Refused Turned
with_parent s n true = Ok (Reply.Accepted, s)
with_parent s n false = do
  refuse_if (nat_le parents_limit (length s.work.parents)) (Reply.Limit Limit.Parents)
  Ok (Reply.Accepted, record s { work = record s.work { parents = s.work.parents ++ n ∷ []; least = least_with s.work.least n } })

abbrev pub head_of : Repository → Bytes × ℕ → Head
head_of r e = record { branch = e.0; name = name_at r e.1 }

-- All commands but `merge`: what is written for it here counts nowhere, since a relation gives it.
unfoldable pub outcome : State → Command → Conditions → Refused Turned
outcome s Command.Empty met = Ok (Reply.Accepted, record s { work = empty_work })
outcome s (Command.Checkout target) met = do
  n ← resolve s.repository target
  Ok (Reply.At (name_at s.repository n), record s { work = record { tree = tree_at s.repository n; parents = n ∷ []; least = Some n } })
outcome s (Command.Set path bytes) met =
    let tree = Tree.put s.work.tree path bytes in
    do
      not_given_up s
      refuse_if (nat_lt contents_limit (length bytes)) (Reply.Limit Limit.Contents)
      not_too_wide tree
      Ok (Reply.Accepted, with_tree s tree)
outcome s (Command.Rm path) met = do
  not_given_up s
  refuse_if (is_empty (subtree s.work.tree path)) Reply.Absent
  Ok (Reply.Accepted, with_tree s (Tree.remove s.work.tree path))
outcome s (Command.Graft target from to) met = do
  not_given_up s
  n ← resolve s.repository target
  graft_turn s n (subtree (tree_at s.repository n) from) to
outcome s (Command.Parent target) met = do
  not_given_up s
  n ← resolve s.repository target
  with_parent s n (list_any (λ p. p == n) s.work.parents)
outcome s (Command.Get path) met = do
  not_given_up s
  Ok (got_reply (got_at s.work.tree path), s)
outcome s (Command.List path) met = do
  not_given_up s
  Ok (listed_reply (listed_at s.work.tree path), s)
outcome s (Command.Cat target path) met = do
  n ← resolve s.repository target
  Ok (got_reply (got_at (tree_at s.repository n) path), s)
outcome s (Command.Commit branch info) met =
    let r = s.repository in
    let c = new_commit r s.work.tree s.work.parents info in
    do
      not_given_up s
      head_among_parents s branch
      not_leaving s s.work.least
      room_for_branch r branch
      not_existing r c.name
      enough met Limit.Space
      enough met Limit.Sequence
      Ok (Reply.Committed c.name, record s { repository = with_commit r c branch; work = record { tree = s.work.tree; parents = next r ∷ []; least = Some (next r) } })
outcome s (Command.Merge target branch info) met = Ok (Reply.Accepted, s)
outcome s (Command.Branch name target) met = do
  n ← resolve s.repository target
  not_leaving s (Some n)
  room_for_branch s.repository name
  enough met Limit.Space
  enough met Limit.Sequence
  Ok (Reply.Accepted, record s { repository = with_branch s.repository name n })
outcome s (Command.BranchRm name) met = do
  present (head s.repository name) (Reply.NoBranch name)
  enough met Limit.Space
  enough met Limit.Sequence
  Ok (Reply.Accepted, record s { repository = record s.repository { branches = remove s.repository.branches name } })
outcome s Command.Branches met = Ok (Reply.Branches (map (head_of s.repository) s.repository.branches.entries), s)
outcome s (Command.Show target) met = do
  n ← resolve s.repository target
  Ok (commit_reply s.repository n, s)
outcome s (Command.Log target) met = do
  n ← resolve s.repository target
  Ok (Reply.Log (map (name_at s.repository) (reverse (ancestors s.repository n))), s)
outcome s (Command.Lcas one other) met = do
  a ← resolve s.repository one
  b ← resolve s.repository other
  Ok (Reply.Lcas (map (name_at s.repository) (lcas s.repository a b)), s)
outcome s (Command.Hash bytes) met = Ok (Reply.Hash (sha256 bytes), s)
outcome s (Command.Collect target) met = do
  unless_some (phase_at s.phase) (λ c. Reply.Busy (name_at s.repository c))
  n ← resolve s.repository target
  unless_some (held_branch s.repository n) Reply.Held
  enough met Limit.Attempt
  enough met Limit.Space
  enough met Limit.Sequence
  refuse_if met.told.start_failed Reply.StartFault
  Ok (Reply.Started (name_at s.repository n), record s { phase = Phase.Collecting n None })
outcome s Command.Look met = do
  c ← collected_commit s
  child_turn s c met met.told.child
outcome s Command.Finish met = do
  c ← collected_commit s
  child_turn s c met met.told.child
outcome s Command.Cancel met = do
  collected_commit s
  Ok (if met.told.kill_failed then Reply.CancelledOrphan else Reply.Cancelled, record s { phase = Phase.Idle })
outcome s Command.Stat met = Ok (Reply.Stat s.repository.floor (next s.repository) (len s.repository.branches) (phase_at s.phase), s)

abbrev pub answer : State → Command → Conditions → Turned
answer s command met = or_refused s (outcome s command met)

-- ---- merges

abbrev pub longest_value : Tree → ℕ
longest_value tree = fold (λ n e. max n (length e.1)) 0 tree.entries

-- a merge's result within the limits
abbrev pub within_limits : Tree → Refused Tree
within_limits tree = do
  refuse_if (nat_lt contents_limit (longest_value tree)) (Reply.Limit Limit.Contents)
  not_too_wide tree
  Ok tree

abbrev pub tree_of_outcome : Outcome → Refused Tree
tree_of_outcome (Outcome.conflict_at path) = Err (Reply.Conflict path)
tree_of_outcome (Outcome.merged tree) = within_limits tree

-- The ancestor's map where the least common ancestors are these commits, the greatest first: of none the empty map, of one its map;
-- else the merge of the one of all but the greatest, as the left side, with the map of the greatest, over that of their own common ancestors.
pub data Base (rule : Rule) (r : Repository) : List ℕ → Refused Tree → Type 0 where
  of_none : Base rule r [] (Ok Tree.no_tree)
  of_one : (c : ℕ) → Base rule r (c ∷ []) (Ok (tree_at r c))
  left_refused : (c d : ℕ) (cs : List ℕ) (reply : Reply) → Base rule r (d ∷ cs) (Err reply) → Base rule r (c ∷ d ∷ cs) (Err reply)
  ancestor_refused : (c d : ℕ) (cs : List ℕ) (left : Tree) (reply : Reply) → Base rule r (d ∷ cs) (Ok left) → Base rule r (reverse (common r (d ∷ cs) c)) (Err reply) → Base rule r (c ∷ d ∷ cs) (Err reply)
  of_more : (c d : ℕ) (cs : List ℕ) (left ancestor : Tree) (m : Outcome) → Base rule r (d ∷ cs) (Ok left) → Base rule r (reverse (common r (d ∷ cs) c)) (Ok ancestor) → Merges rule ancestor left (tree_at r c) m → Base rule r (c ∷ d ∷ cs) (tree_of_outcome m)

-- how many merges that takes
pub data MergesOf (r : Repository) : List ℕ → ℕ → Type 0 where
  by_none : MergesOf r [] 0
  by_one : (c : ℕ) → MergesOf r (c ∷ []) 0
  by_more : (c d : ℕ) (cs : List ℕ) (m n : ℕ) → MergesOf r (d ∷ cs) m → MergesOf r (reverse (common r (d ∷ cs) c)) n → MergesOf r (c ∷ d ∷ cs) (suc (m + n))

-- the tree is the merge's result: head is the branch's, number the one merged with it
abbrev pub with_merge : State → Conditions → ℕ → Bytes → ℕ → Info → Tree → Refused Turned
with_merge s met number branch head info tree =
    let r = s.repository in
    let c = new_commit r tree (head ∷ number ∷ []) info in
    do
      not_existing r c.name
      enough met Limit.Space
      enough met Limit.Sequence
      Ok (Reply.Merged c.name, record s { repository = with_commit r c branch })

-- the branch moves on to the commit
abbrev pub forward_turn : State → Conditions → ℕ → Bytes → Refused Turned
forward_turn s met number branch = do
  enough met Limit.Space
  enough met Limit.Sequence
  Ok (Reply.Forward (name_at s.repository number), record s { repository = with_branch s.repository branch number })

-- neither is an ancestor of the other
abbrev pub Joins : Rule → State → Conditions → ℕ → Bytes → ℕ → Info → Refused Turned → Type 0
Joins rule s met number branch head info turned =
    let r = s.repository in
    let cs = lcas r head number in
    MatchResult (not_leaving s (Some number) >> refuse_if (nat_lt 1 (length cs)) (Reply.Bases (length cs)))
    (λ _. (base : Refused Tree) × Base rule r (reverse cs) base × MatchResult base
    (λ o. (m : Outcome) × Merges rule o (tree_at r head) (tree_at r number) m × (turned ≡ (tree_of_outcome m >>= with_merge s met number branch head info)))
    (λ reply. turned ≡ Err reply))
    (λ reply. turned ≡ Err reply)

abbrev pub MergesInto : Rule → State → Conditions → ℕ → Bytes → ℕ → Info → Refused Turned → Type 0
MergesInto rule s met number branch head info turned =
    MatchBool (is_ancestor s.repository number head) (turned ≡ Ok (Reply.Current (name_at s.repository head), s))
    (MatchBool (is_proper_ancestor s.repository head number) (turned ≡ forward_turn s met number branch)
    (Joins rule s met number branch head info turned))

abbrev pub both_named : State → Target → Bytes → Refused (ℕ × ℕ)
both_named s target branch = do
  number ← resolve s.repository target
  head ← present (head s.repository branch) (Reply.NoBranch branch)
  Ok (number, head)

-- `merge target branch info`
abbrev pub Merging : Rule → State → Target → Bytes → Info → Conditions → Turned → Type 0
Merging rule s target branch info met turned =
    (refused : Refused Turned) × (turned ≡ or_refused s refused)
    × MatchResult (both_named s target branch) (λ both. MergesInto rule s met both.0 branch both.1 info refused) (λ reply. refused ≡ Err reply)

-- ---- steps

abbrev pub IsReaped : Child → Type 0
IsReaped (Child.Ended reaped) = Unit {0}
IsReaped Child.NotAsked = ⊥
IsReaped Child.Running = ⊥
IsReaped Child.Fault = ⊥

-- with an exit other than code 0 there is nothing to check
abbrev pub HasSucceeded : Child → Type 0
HasSucceeded (Child.Ended reaped) = reaped.exit ≡ Exit.Code (pos 0)
HasSucceeded Child.NotAsked = ⊥
HasSucceeded Child.Running = ⊥
HasSucceeded Child.Fault = ⊥

-- The child is asked by `look` and `finish` alone, while a collection runs and no exit is kept, and `finish` waits. A kept exit is the one heard.
abbrev pub MayHear : Phase → Command → Child → Type 0
MayHear (Phase.Collecting c None) Command.Look child = IsReaped child ⊎ (child ≡ Child.Running) ⊎ (child ≡ Child.Fault)
MayHear (Phase.Collecting c None) Command.Finish child = IsReaped child ⊎ (child ≡ Child.Fault)
MayHear (Phase.Collecting c (Some reaped)) Command.Look child = child ≡ Child.Ended reaped
MayHear (Phase.Collecting c (Some reaped)) Command.Finish child = child ≡ Child.Ended reaped
MayHear phase command child = child ≡ Child.NotAsked

-- the three that depend on more than the machine's state
abbrev pub MayBeShort : Limit → Type 0
MayBeShort Limit.Space = Unit {0}
MayBeShort Limit.Sequence = Unit {0}
MayBeShort Limit.Attempt = Unit {0}
MayBeShort limit = ⊥

-- the replies that a sweep follows
abbrev pub IsSwept : Reply → Type 0
IsSwept (Reply.Collected floor left) = Unit {0}
IsSwept (Reply.RejectedExit exit) = Unit {0}
IsSwept (Reply.Rejected difference) = Unit {0}
IsSwept Reply.Cancelled = Unit {0}
IsSwept reply = ⊥

-- want of memory is free in all commands but these; of the two that ask the child it comes only once the child was reaped
abbrev pub MayRefuse : Command → Child → Type 0
MayRefuse Command.Empty child = ⊥
MayRefuse Command.Stat child = ⊥
MayRefuse Command.Cancel child = ⊥
MayRefuse Command.Look child = IsReaped child
MayRefuse Command.Finish child = IsReaped child
MayRefuse command child = Unit {0}

-- what a command may meet, and that it tells what it met
pub record IsMet (s : State) (command : Command) (met : Conditions) (reply : Reply) : Type 0 where
  pub child : MayHear s.phase command met.told.child
  pub checking : IfSome met.told.checking (λ left. (command ≡ Command.Look) × HasSucceeded met.told.child)
  pub start : IsTrue met.told.start_failed → reply ≡ Reply.StartFault
  -- a child whose exit is kept needs no kill
  pub kill : IsTrue met.told.kill_failed → (reply ≡ Reply.CancelledOrphan) × (exit_kept s.phase ≡ None)
  pub left : 0 < met.told.left → IsSwept reply
  pub short : IfSome met.told.short (λ limit. (reply ≡ Reply.Limit limit) × MayBeShort limit)
  pub refused : IsTrue met.told.refused → MayRefuse command met.told.child

-- an exit that was reaped is kept
abbrev pub state_with_exit : State → Phase → Child → State
state_with_exit s (Phase.Collecting c exit) (Child.Ended reaped) = with_exit s c reaped
state_with_exit s phase child = s

abbrev pub Turns : Rule → State → Command → Conditions → Turned → Type 0
Turns rule s (Command.Merge target branch info) met turned = Merging rule s target branch info met turned
Turns rule s command met turned = turned ≡ answer s command met

-- with memory refused nothing is changed, save that an exit that was reaped is kept
abbrev pub MayAnswer : Rule → State → Command → Conditions → Turned → Type 0
MayAnswer rule s command met turned =
    MatchBool met.told.refused ((turned.0 ≡ Reply.Memory) × (turned.1 ≡ state_with_exit s s.phase met.told.child)) (Turns rule s command met turned)

abbrev pub Step : Rule → State → Command → Conditions → Reply → State → Type 0
Step rule s command met reply s' = IsMet s command met reply × MayAnswer rule s command met (reply, s')

-- nothing met
abbrev pub quiet : Conditions
quiet = record { told = record { child = Child.NotAsked; checking = None; start_failed = false; kill_failed = false; left = 0; short = None; refused = false }; difference = None }

-- with want of memory: for all commands but `merge`, the one reply and next state
unfoldable pub turned : State → Command → Conditions → Turned
turned s command met = if met.told.refused then (Reply.Memory, state_with_exit s s.phase met.told.child) else answer s command met

unfoldable pub step_runs : Unit {0}
unfolding shape_runs merge_runs outcome turned empty_work no_repository reaches ancestors common
step_runs = tt

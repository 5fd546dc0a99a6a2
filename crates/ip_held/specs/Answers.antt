-- What a call that may change the repository answers.
--     met_nothing, met_by result      what was met.      reply_to result      the reply; a fault of the ground has none, nor has one of its files
--     RefusesBy result refused      what the machine's refusals give where a test gave this
--     Turns s command met reply s'      the reply and the next state are the machine's, for what was met.      IsCut fault      it is one of taking a step
--     Answers told s v command met reply store work      they are so, where the store holds the next repository, the work is that of the next state, and its tree has the view that comes of v
--     first_view records store r parents      the view of the tree of a work's first parent, as its commit's record refers to it: each part of it is known.      first_parent here      over the image that a store holds
--     GoesOn store work      the store's tables are some repository's, and the work goes on from commits of it
--     IsSaved records tree n map      a tree with this map, read from the records of commit n
use Rattle.std.specs.Prelude.{◌≡◌, ℕ, List, [], ◌∷◌, true, false, Option, Some, None, IfSome, IsSomeAnd, option_and_then, option_map, Result, Ok, Err}
use Rattle.ip_base.specs.declared.info.Info.{Info}
use Rattle.ip_ground.specs.Told.{Told}
use Rattle.ip_spec.specs.declared.met.Met.{Met}
use Rattle.ip_spec.specs.declared.met.Child.TheVariants as Child
use Rattle.ip_spec.specs.Path.{Bytes}
use Rattle.ip_spec.specs.Record.{Hash}
use Rattle.ip_spec.specs.declared.record.Parent.{Parent}
use Rattle.ip_spec.specs.declared.record.Record.{Record}
use Rattle.ip_spec.specs.Repository.{Repository, head, name_at, next, tree_at}
use Rattle.ip_base.specs.declared.limit.Limit.{Limit}
use Rattle.ip_spec.specs.declared.command.Command.{Command}
use Rattle.ip_spec.specs.declared.reply.Reply.{Reply}
use Rattle.ip_spec.specs.Machine.{State, Phase, Conditions}
use Rattle.ip_spec.specs.Step.{IsMet, turned, Refused, Turned, new_commit, with_commit, below, moved_head, unless_some, room_for_branch, ◌>>◌}
use Rattle.ip_spec.specs.Tree.{Tree}
use Rattle.ip_spec.specs.View.{View}
use Rattle.ip_tree.specs.TreeView.{IsView, stored_view}
use Rattle.ip_tree.specs.declared.tree.Tree as lazy
use Rattle.ip_held.specs.declared.held.Held.{Held}
use Rattle.ip_held.specs.declared.work.Work.{Work}
use Rattle.ip_held.specs.declared.fault.StoreFault.{StoreFault}
use Rattle.ip_held.specs.Collecting.{not_leaving_in}
use Rattle.ip_held.specs.Held.{IsOf, image_records, place_of_commit}
use Rattle.ip_held.specs.Views.{IsViewAfter}
use Rattle.ip_held.specs.Work.{AreParents, IsAt, session}

-- nothing met but a limit, or want of memory
abbrev pub met_nothing : Met
met_nothing = record { child = Child.NotAsked; checking = None; start_failed = false; kill_failed = false; left = 0; short = None; refused = false }

-- the limits that depend on more than the machine's state
abbrev pub short_of : Limit → Option Limit
short_of Limit.Space = Some Limit.Space
short_of Limit.Sequence = Some Limit.Sequence
short_of limit = None

-- what was met by a fault, and by an answer
abbrev pub met_of : StoreFault → Met
met_of (StoreFault.Limit limit) = record met_nothing { short = short_of limit }
met_of StoreFault.Memory = record met_nothing { refused = true }
met_of fault = met_nothing

abbrev pub met_by : {A : Type 0} → Result A StoreFault → Met
met_by (Ok x) = met_nothing
met_by (Err fault) = met_of fault

abbrev pub conditions_of : Met → Conditions
conditions_of met = record { told = met; difference = None }

abbrev pub fault_reply : StoreFault → Option Reply
fault_reply (StoreFault.GivenUp number) = Some (Reply.GivenUp number)
fault_reply (StoreFault.HeadMoved name) = Some (Reply.HeadMoved name)
fault_reply (StoreFault.Leaving number) = Some (Reply.Leaving number)
fault_reply (StoreFault.Existing name) = Some (Reply.Existing name)
fault_reply (StoreFault.Limit limit) = Some (Reply.Limit limit)
fault_reply StoreFault.Memory = Some Reply.Memory
fault_reply StoreFault.Ground = None
fault_reply (StoreFault.Damaged at names) = None

abbrev pub reply_to : Result Hash StoreFault → Option Reply
reply_to (Ok name) = Some (Reply.Committed name)
reply_to (Err fault) = fault_reply fault

-- what the machine's refusals give where a test of the store gave this: a fault that has no reply is none of them
abbrev pub RefusesBy : Result (Unit {0}) StoreFault → Refused (Unit {0}) → Type 0
RefusesBy (Ok u) refused = refused ≡ Ok tt
RefusesBy (Err fault) refused = IsSomeAnd (fault_reply fault) (λ reply. refused ≡ Err reply)

abbrev pub Turns : State → Command → Met → Reply → State → Type 0
Turns s command met reply s' = IsMet s command (conditions_of met) reply × (turned s command (conditions_of met) ≡ (reply, s'))

-- none but that a commit leaves
abbrev pub IsLeaving : {A : Type 0} → Result A StoreFault → Type 0
IsLeaving (Err (StoreFault.Leaving number)) = Unit {0}
IsLeaving result = ⊥

-- the faults of a step that is taken
abbrev pub IsCut : StoreFault → Type 0
IsCut StoreFault.Ground = Unit {0}
IsCut StoreFault.Memory = Unit {0}
IsCut fault = ⊥

-- what the machine refuses a commit by before its name, in this order
abbrev pub first_refusal : Repository → Phase → Option ℕ → List ℕ → Bytes → Refused (Unit {0})
first_refusal r phase least parents branch =
    unless_some (below r.floor least) Reply.GivenUp
    >> (unless_some (moved_head (head r branch) parents) (λ n. Reply.HeadMoved (name_at r n))
    >> (not_leaving_in phase least
    >> room_for_branch r branch))

-- the machine refuses the commit so, and stays as it is
abbrev pub IsRefusal : Repository → Phase → Work → View → Bytes → Info → StoreFault → Type 0
IsRefusal r phase work v branch info fault = IfSome (fault_reply fault) (λ reply. Turns (session r phase work v) (Command.Commit branch info) (met_of fault) reply (session r phase work v))

-- a parent as a commit record has it
abbrev pub parent_named : Repository → ℕ → Parent
parent_named r n = record { number = n; name = name_at r n }

-- the root that a commit's record refers to
abbrev pub root_in : Option Record → Option ℕ
root_in (Some (Record.Commit c)) = Some c.root_at
root_in other = None

abbrev pub viewed_at : (ℕ → Option Record) → Repository → ℕ → Option ℕ → Option View
viewed_at records r n at = option_map (λ at. stored_view records n at (tree_at r n)) at

abbrev pub first_view : (ℕ → Option Record) → Held → Repository → List ℕ → Option View
first_view records store r [] = None
first_view records store r (n ∷ parents) = viewed_at records r n (root_in (option_and_then records (place_of_commit store n)))

abbrev pub first_parent : {told : Told} {store : Held} {r : Repository} {work : Work} {v : View} → IsAt told store r work v → Option View
first_parent {store = store} {r = r} {work = work} here = first_view (image_records here.holds) store r work.parents

-- the turn of a commit that nothing refuses
abbrev pub committed : Repository → Phase → Work → View → Bytes → Info → Turned
committed r phase work v branch info =
    let c = new_commit r v.map work.parents info in
    (Reply.Committed c.name, record { repository = with_commit r c branch; phase = phase; work = record { tree = v.map; parents = next r ∷ []; least = Some (next r) } })

pub record GoesOn (store : Held) (work : Work) : Type 0 where
  pub repository : Repository
  pub tables : IsOf store repository
  pub parents : AreParents repository work.least work.parents

pub record Answers (told : Told) (s : State) (v : View) (command : Command) (met : Met) (reply : Reply) (store : Held) (work : Work) : Type 0 where
  pub after : Repository
  pub view : View
  pub turns : Turns s command met reply (session after s.phase work view)
  pub is_at : IsAt told store after work view
  pub seen : IsViewAfter s.repository v command reply view

abbrev pub IsSaved : (ℕ → Option Record) → lazy.Tree → ℕ → Tree → Type 0
IsSaved records tree n map = (at : ℕ) × IsView records tree (stored_view records n at map)

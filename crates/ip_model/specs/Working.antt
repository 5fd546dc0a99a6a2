-- The machine's state as the model holds it, and what the machine answers where nothing is met.
--     IsWork w v      the same tree, parents and least number
--     IsState m s      the same commits, trees, branches and work, and no collection runs
--     IsSound s      what holds of the states that the machine comes to
--     TurnsTo turned reply m, StepsTo s command reply m      a reply, and the state after it
--     WorksTo s turned reply w, Answers s command reply w      a reply, and that only the work changed, to this one
--     lcas_after, branch_after, parent_after, checkout_after, graft_after, commit_after      the answers to these commands, where the commits that they name were found or their first refusals are passed
--     HasInfo command      the info that it may bring is one.      Models s command found m      the model's answer to a command, if it has any
use Rattle.std.specs.Prelude.{◌≡◌, ◌==◌, ℕ, ◌≤◌, ◌<◌, [], ◌∷◌, length, map, All, Option, Ok, Some, None}
use Rattle.std.specs.List.{list_any}
use Rattle.ip_spec.specs.declared.reply.Reply.{Reply}
use Rattle.ip_spec.specs.declared.command.Command.{Command}
use Rattle.ip_spec.specs.Machine.{State}
use Rattle.ip_spec.specs.Machine as Machine
use Rattle.ip_spec.specs.declared.command.Target.{Target}
use Rattle.ip_spec.specs.Path.{Bytes, Path}
use Rattle.ip_spec.specs.Record.{Info, IsInfo}
use Rattle.ip_spec.specs.Tree.{Tree}
use Rattle.ip_spec.specs.Repository.{IsRepository, next, name_at, tree_at}
use Rattle.ip_spec.specs.Repository as Repository
use Rattle.ip_spec.specs.History.{lcas}
use Rattle.ip_spec.specs.Step.{Turned, answer, quiet, resolve, or_refused, not_leaving, not_existing, room_for_branch, with_branch, with_commit, with_parent, new_commit, graft_turn, parents_limit, ◌>>◌, ◌>>=◌}
use Rattle.ip_model_trees.specs.Small.{IsSmall}
use Rattle.ip_model.specs.Commits.{IsOf}
use Rattle.ip_model.specs.declared.work.Work.{Work}
use Rattle.ip_model.specs.declared.machine.Machine as Kept

pub record IsWork (w : Work) (v : Machine.Work) : Type 0 where
  pub tree : w.tree ≡ v.tree.entries
  pub parents : w.parents ≡ v.parents
  pub least : w.least ≡ v.least

abbrev pub WorksTo : State → Turned → Reply → Work → Type 0
WorksTo s turned reply w = (v : Machine.Work) × IsWork w v × (turned ≡ (reply, record s { work = v }))

abbrev pub Answers : State → Command → Reply → Work → Type 0
Answers s command reply w = WorksTo s (answer s command quiet) reply w

pub record IsState (m : Kept.Machine) (s : State) : Type 0 where
  pub phase : s.phase ≡ Machine.Phase.Idle
  pub commits : IsOf m.commits s.repository
  pub trees : m.trees.items ≡ map (λ (c : Repository.Commit). c.tree.entries) s.repository.commits
  pub branches : m.branches.items ≡ s.repository.branches.entries
  pub work : IsWork m.work s.work

pub record IsSound (s : State) : Type 0 where
  pub repository : IsRepository s.repository
  pub tree : IsSmall s.work.tree
  pub parents : All (λ n. n < next s.repository) s.work.parents
  pub few : length s.work.parents ≤ parents_limit

abbrev pub TurnsTo : Turned → Reply → Kept.Machine → Type 0
TurnsTo turned reply m = (s : State) × IsState m s × (turned ≡ (reply, s))

abbrev pub StepsTo : State → Command → Reply → Kept.Machine → Type 0
StepsTo s command reply m = TurnsTo (answer s command quiet) reply m

abbrev pub lcas_after : State → ℕ → Target → Turned
lcas_after s a other = or_refused s (resolve s.repository other >>= λ b. Ok (Reply.Lcas (map (name_at s.repository) (lcas s.repository a b)), s))

abbrev pub branch_after : State → Bytes → ℕ → Turned
branch_after s name n = or_refused s (not_leaving s (Some n) >> (room_for_branch s.repository name >> Ok (Reply.Accepted, record s { repository = with_branch s.repository name n })))

abbrev pub parent_after : State → ℕ → Turned
parent_after s n = or_refused s (with_parent s n (list_any (λ p. p == n) s.work.parents))

abbrev pub checkout_after : State → ℕ → Turned
checkout_after s n = (Reply.At (name_at s.repository n), record s { work = record { tree = tree_at s.repository n; parents = n ∷ []; least = Some n } })

abbrev pub graft_after : State → ℕ → Tree → Path → Turned
graft_after s n sub to = or_refused s (graft_turn s n sub to)

abbrev pub commit_after : State → Bytes → Info → Turned
commit_after s branch info =
    let r = s.repository in
    let c = new_commit r s.work.tree s.work.parents info in
    or_refused s (not_existing r c.name >> Ok (Reply.Committed c.name, record s { repository = with_commit r c branch; work = record { tree = s.work.tree; parents = next r ∷ []; least = Some (next r) } }))

abbrev pub HasInfo : Command → Type 0
HasInfo (Command.Commit branch info) = IsInfo info
HasInfo command = Unit {0}

-- `merge` is a call of its own, and collections are none of the model's
abbrev pub Models : State → Command → Option Reply → Kept.Machine → Type 0
Models s (Command.Merge target branch info) found m = (found ≡ None) × IsState m s
Models s (Command.Collect target) found m = (found ≡ None) × IsState m s
Models s command found m = (reply : Reply) × (found ≡ Some reply) × StepsTo s command reply m

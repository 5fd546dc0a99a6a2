-- A session's work, over the records of an image.
--     least_of v parents      the least number of those that a tree with this view took from, and of the parents
--     work_at work v      a work whose tree has this view, as the machine has it.      session r phase work v      the machine's state
--     IsThere r least      no commit was given up that a work took from whose least number this is
--     AreParents r least parents      distinct commits that were made, 16 at most, none below the least number
--     IsLawful records r work v      the work goes on from commits of the repository, and unless it was given up its tree has this view over the records, and knows none that a retained commit does not reach
--     IsAt told store r work v      the store holds the repository, and so it is over the records of its image
use Rattle.std.specs.Prelude.{◌≡◌, ◌≢◌, ℕ, ◌<◌, ◌≤◌, List, length, fold, All, AllPairs, Option, IfSome, IsSomeAnd}
use Rattle.ip_base.specs.declared.limit.TheConstants.{PARENTS_MAX}
use Rattle.ip_ground.specs.Told.{Told}
use Rattle.ip_spec.specs.declared.record.Record.{Record}
use Rattle.ip_spec.specs.Machine as Machine
use Rattle.ip_spec.specs.Machine.{State, Phase}
use Rattle.ip_spec.specs.Repository.{Repository, next}
use Rattle.ip_spec.specs.Step.{least_with}
use Rattle.ip_spec.specs.View.{View}
use Rattle.ip_save.specs.Batches.{HasShortContents}
use Rattle.ip_tree.specs.TreeView.{IsView}
use Rattle.ip_held.specs.Rooted.{IsRooted}
use Rattle.ip_held.specs.Held.{Holds, image_records}
use Rattle.ip_held.specs.declared.held.Held.{Held}
use Rattle.ip_held.specs.declared.work.Work.{Work}

abbrev pub least_of : View → List ℕ → Option ℕ
least_of v parents = fold least_with v.oldest parents

abbrev pub work_at : Work → View → Machine.Work
work_at work v = record { tree = v.map; parents = work.parents; least = work.least }

abbrev pub state_at : Repository → Phase → Machine.Work → State
state_at r phase work = record { repository = r; phase = phase; work = work }

abbrev pub session : Repository → Phase → Work → View → State
session r phase work v = state_at r phase (work_at work v)

abbrev pub IsThere : Repository → Option ℕ → Type 0
IsThere r least = IfSome least (λ n. r.floor ≤ n)

-- where the least of them was not given up they are all retained
pub record AreParents (r : Repository) (least : Option ℕ) (parents : List ℕ) : Type 0 where
  pub made : All (λ n. n < next r) parents
  pub above : All (λ n. IsSomeAnd least (λ m. m ≤ n)) parents
  pub distinct : AllPairs (λ m n. m ≢ n) parents
  pub few : length parents ≤ PARENTS_MAX

-- The view is what the machine has, whatever is left of its records.
pub record IsLawful (records : ℕ → Option Record) (r : Repository) (work : Work) (v : View) : Type 0 where
  pub tree : IsThere r work.least → IsView records work.tree v
  pub rooted : IsThere r work.least → IsRooted records v
  pub short : HasShortContents v.map
  pub parents : AreParents r work.least work.parents
  pub least : work.least ≡ least_of v work.parents

pub record IsAt (told : Told) (store : Held) (r : Repository) (work : Work) (v : View) : Type 0 where
  pub holds : Holds store told r
  pub lawful : IsLawful (image_records holds) r work v

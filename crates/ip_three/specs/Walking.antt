-- What the walk of a merge sees at a path, and how it goes on with a plan.
--     as_side side      the code's side
--     IsAt records w p found      as a look-up tells it: the root is a directory though it may be empty, and below it nothing is empty
--     SaysDirectory records w p found      whether a directory stands there, and which.      FoundDirectory      the same below the root, and of none that nothing stands below
--     is_directory_at found, holds_at found      what was found is a directory, or contents.      same_records      two have none, or both have it in one record
--     unread_record found      where a record lies that was not read.      IsOneStored v w p      two trees have there what one record spells
--     IsRecordOf records r bytes      the record at a reference is these contents.      HoldsContent records o content      of contents, or none
--     bytes_side o l r      the side from which contents come, by their bytes.      IsSettled      of what was decided by no rule
--     IsDecidedBy, IsDecided      what becomes of contents, by bytes, and of the trees
--     as_plan plan      the code's plan.      IsEditedBy      only what goes and what comes differs
--     IsTaken, TakesContents, TakesDirectory, BySide, Puts, Refuses, Answers      what becomes of a plan at a path
--     AreTaken records r edits      what is taken is there in the right tree
--     Begins, Walked      what a walk may begin with, and what it has done
use Rattle.std.specs.Prelude.{◌≡◌, ◌||◌, ◌==◌, ℕ, Bool, false, true, not, nat_lt, length, [], ◌∷◌, ◌++◌, List, All, Option, Some, None, IsSome, IsTrue, IsFalse}
use Rattle.ip_spec.specs.Map.{get}
use Rattle.ip_spec.specs.Merge.{Rule, IsOneAnswer, same_value}
use Rattle.ip_spec.specs.declared.merge.Merged.{Merged}
use Rattle.ip_spec.specs.declared.merge.Merged.TheVariants.{Keep, Conflict}
use Rattle.ip_spec.specs.Path.{Bytes, Step, Path}
use Rattle.ip_spec.specs.Step.{contents_limit}
use Rattle.ip_spec.specs.Tree.{IsTree, subtree, is_empty}
use Rattle.ip_spec.specs.View.{View, Part, is_nil}
use Rattle.ip_spec.specs.declared.kind.TheConstants as kinds
use Rattle.ip_spec.specs.declared.record.Record.{Record}
use Rattle.ip_spec.specs.declared.record.Ref.{Ref}
use Rattle.sha2.specs.Sha256.{sha256}
use Rattle.ip_tree.specs.Finding.{FindsIn, FindsPlace, IsPartOf, IsPlaceOf, under}
use Rattle.ip_tree.specs.Known.{known_at}
use Rattle.ip_tree.specs.Node.{Node, stored, contents, directory}
use Rattle.ip_tree.specs.Shown.{shown}
use Rattle.ip_tree.specs.declared.node.Node.{Node as Code}
use Rattle.ip_three.specs.Applying.{as_edits}
use Rattle.ip_three.specs.Merging.{Side, of_left, of_right, contents_side, has_directory, same_number, side_by}
use Rattle.ip_three.specs.Planning.{Plan, IsPlan}
use Rattle.ip_three.specs.Going.{or_path, without}
use Rattle.ip_three.specs.declared.side.Side as code
use Rattle.ip_three.specs.declared.side.Side.TheVariants.{Left, Right}
use Rattle.ip_three.specs.declared.contents.Content.{Content}
use Rattle.ip_three.specs.declared.contents.Content.TheVariants as content
use Rattle.ip_three.specs.declared.contents.Decided.{Decided}
use Rattle.ip_three.specs.declared.contents.Decided.TheVariants.{Stays, Taken, Answered}
use Rattle.ip_three.specs.declared.apply.Coming.{Coming as Comes}
use Rattle.ip_three.specs.declared.apply.Coming.TheVariants as coming
use Rattle.ip_three.specs.declared.apply.Edit.{Edit}
use Rattle.ip_three.specs.declared.plan.Plan as plan

abbrev pub as_side : code.Side → Side
as_side Left = of_left
as_side Right = of_right

-- ---- directories

pub record IsAt (records : ℕ → Option Record) (w : View) (p : Path) (found : Option Node) : Type 0 where
  pub place : FindsPlace records w p found
  pub part : IsFalse (is_nil p) → FindsIn records w p found

abbrev pub SaysDirectory : (ℕ → Option Record) → View → Path → Option Node → Type 0
SaysDirectory records w p None = IsFalse (has_directory w.map p)
SaysDirectory records w p (Some n) = IsTrue (has_directory w.map p) × IsPlaceOf records w p n

abbrev pub FoundDirectory : (ℕ → Option Record) → View → Path → Option Node → Type 0
FoundDirectory records w p None = (has_directory w.map p ≡ false) × ((s : Step) → IsTrue (is_empty (subtree w.map (p ++ s ∷ []))))
FoundDirectory records w p (Some n) = (has_directory w.map p ≡ true) × FindsIn records w p (Some n) × IsPlaceOf records w p n

abbrev pub is_directory_at : Option Node → Bool
is_directory_at None = false
is_directory_at (Some (stored x)) = not (x.reference.kind == kinds.CONTENTS)
is_directory_at (Some (contents bytes)) = false
is_directory_at (Some (directory root ns)) = true

abbrev pub holds_at : Option Node → Bool
holds_at None = false
holds_at (Some (stored x)) = x.reference.kind == kinds.CONTENTS
holds_at (Some (contents bytes)) = true
holds_at (Some (directory root ns)) = false

abbrev pub same_records : (ℕ → Option Record) → Option Node → Option Node → Bool
same_records records None None = true
same_records records (Some n) (Some m) = same_number (known_at records n [] []) (known_at records m [] [])
same_records records None (Some m) = false
same_records records (Some n) None = false

abbrev pub unread_record : Option Node → Option ℕ
unread_record None = None
unread_record (Some (stored x)) = Some x.reference.at
unread_record (Some (contents bytes)) = None
unread_record (Some (directory root ns)) = None

-- ---- what one record spells

pub record IsOneStored (v w : View) (p : Path) : Type 0 where
  pub same : subtree v.map p ≡ subtree w.map p
  pub known : (part : Part) → v.known (under p part) ≡ w.known (under p part)
  -- all that stands there or below is in records that are known
  pub stored : (q : Path) → IsFalse (is_empty (subtree w.map (p ++ q))) → IsSome (w.known (record { path = p ++ q; indexes = [] }))
  pub directories : (q : Path) → IsTrue (has_directory w.map (p ++ q)) → IsSome (w.known (record { path = p ++ q; indexes = [] }))

-- ---- contents

pub record IsRecordOf (records : ℕ → Option Record) (r : Ref) (bytes : Bytes) : Type 0 where
  pub there : records r.at ≡ Some (Record.Contents bytes)
  pub kind : r.kind ≡ kinds.CONTENTS
  pub name : r.name ≡ sha256 bytes

abbrev pub HoldsContent : (ℕ → Option Record) → Option Bytes → Content → Type 0
HoldsContent records o content.Absent = o ≡ None
HoldsContent records o (content.Stored r) = (bytes : Bytes) × (o ≡ Some bytes) × IsRecordOf records r bytes
HoldsContent records o (content.Fresh b) = o ≡ Some b.now

abbrev pub bytes_side : Option Bytes → Option Bytes → Option Bytes → Option Side
bytes_side o l r = side_by (same_value l r) (same_value l o) (same_value r o)

abbrev pub IsSettled : Option Bytes → Option Bytes → Option Bytes → Decided → Type 0
IsSettled o l r Stays = bytes_side o l r ≡ Some of_left
IsSettled o l r Taken = bytes_side o l r ≡ Some of_right
IsSettled o l r (Answered m) = ⊥

abbrev pub IsDecidedBy : Rule → Option Bytes → Option Bytes → Option Bytes → Path → Decided → Type 0
IsDecidedBy rule o l r p Stays = bytes_side o l r ≡ Some of_left
IsDecidedBy rule o l r p Taken = bytes_side o l r ≡ Some of_right
IsDecidedBy rule o l r p (Answered m) = (bytes_side o l r ≡ None) × rule p o l r m

abbrev pub IsDecided : Rule → View → View → View → Path → Decided → Type 0
IsDecided rule b l r p Stays = contents_side b l r p ≡ Some of_left
IsDecided rule b l r p Taken = contents_side b l r p ≡ Some of_right
IsDecided rule b l r p (Answered m) = (contents_side b l r p ≡ None) × rule p (get b.map p) (get l.map p) (get r.map p) m

-- ---- plans

abbrev pub as_plan : plan.Plan → Plan
as_plan p = record { gone = p.gone.items; come = as_edits p.come.items; conflict = p.conflict; long = p.is_long }

-- only what goes and what comes differs, by these functions
pub record IsEditedBy (gone : List Path → List Path) (come : List Edit → List Edit) (old new : plan.Plan) : Type 0 where
  pub gone_is : new.gone.items ≡ gone old.gone.items
  pub come_is : new.come.items ≡ come old.come.items
  pub conflict : new.conflict ≡ old.conflict
  pub long : new.is_long ≡ old.is_long

-- what stands there in the right tree comes
pub record IsTaken (records : ℕ → Option Record) (r : View) (path : Path) (old new : plan.Plan) : Type 0 where
  pub node : Code
  pub part : IsPartOf records r path (shown node)
  pub edited : IsEditedBy (λ p. p) (λ es. es ++ record { path = path; coming = coming.Taken node } ∷ []) old new

-- the right side's contents come, or where it has none, the left side's go
pub record TakesContents (records : ℕ → Option Record) (l r : View) (path : Path) (old new : plan.Plan) : Type 0 where
  pub some : IsSome (get r.map path) → IsTaken records r path old new
  pub none : get r.map path ≡ None → IsEditedBy (without l path) (λ es. es) old new

-- the right side's directory comes, or where it has none, what stands in the left tree goes
pub record TakesDirectory (records : ℕ → Option Record) (r : View) (path : Path) (old new : plan.Plan) : Type 0 where
  pub some : IsTrue (has_directory r.map path) → IsTaken records r path old new
  pub none : IsFalse (has_directory r.map path) → IsEditedBy (λ p. p ++ path ∷ []) (λ es. es) old new

-- of the side from which the directory comes
abbrev pub BySide : (ℕ → Option Record) → View → Path → code.Side → plan.Plan → plan.Plan → Type 0
BySide records r path Left old new = new ≡ old
BySide records r path Right old new = TakesDirectory records r path old new

-- what a plan becomes by a rule's answer for contents at a path
pub record Puts (path : Path) (bytes : Bytes) (old new : plan.Plan) : Type 0 where
  pub gone_is : new.gone.items ≡ old.gone.items
  pub come_is : new.come.items ≡ old.come.items ++ record { path = path; coming = coming.Put bytes } ∷ []
  pub conflict : new.conflict ≡ old.conflict
  pub long : new.is_long ≡ (old.is_long || nat_lt contents_limit (length bytes))

pub record Refuses (l : View) (path : Path) (old new : plan.Plan) : Type 0 where
  pub gone_is : new.gone.items ≡ without l path old.gone.items
  pub come_is : new.come.items ≡ old.come.items
  pub conflict : new.conflict ≡ or_path old.conflict path
  pub long : new.is_long ≡ old.is_long

abbrev pub Answers : View → Path → Merged → plan.Plan → plan.Plan → Type 0
Answers l path (Keep (Some bytes)) old new = Puts path bytes old new
Answers l path (Keep None) old new = IsEditedBy (without l path) (λ es. es) old new
Answers l path Conflict old new = Refuses l path old new

-- what is taken from the right tree is found there
abbrev pub IsTakenAt : (ℕ → Option Record) → View → Path → Comes → Type 0
IsTakenAt records r path (coming.Put bytes) = Unit {0}
IsTakenAt records r path (coming.Taken node) = IsPartOf records r path (shown node)

abbrev pub AreTaken : (ℕ → Option Record) → View → List Edit → Type 0
AreTaken records r edits = All (λ e. IsTakenAt records r e.path e.coming) edits

-- what a walk at a path may begin with
pub record Begins (rule : Rule) (records : ℕ → Option Record) (b l r : View) (old : plan.Plan) : Type 0 where
  pub only : (p : Path) → IsOneAnswer (rule p)
  pub base : IsTree b.map
  pub left : IsTree l.map
  pub right : IsTree r.map
  pub plan : IsPlan rule b l r (as_plan old)
  pub taken_there : AreTaken records r old.come.items

-- what a walk has done: the left tree is the same, the plan goes on, and what it takes is there
pub record Walked (Plans : Plan → Plan → Type 0) (records : ℕ → Option Record) (r : View) (old new : plan.Plan) : Type 0 where
  pub plans : Plans (as_plan old) (as_plan new)
  pub taken_there : AreTaken records r new.come.items

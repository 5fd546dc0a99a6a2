-- What the store's calls on trees do.
--     RecordsStay records more      each record of the one is one of the other, so that a tree keeps its view over the other
--     OnlyLooks old new store now      the call only read: no file changed, and the store holds the same repository by the same records
--     IsRootAt records number at      the root to which the record of this commit refers
--     IsTreeOf records r number tree      the tree of a retained commit, of which every part is known, as the commit's record reaches it
use Rattle.std.specs.Prelude.{◌≡◌, ℕ, Option, Some}
use Rattle.ip_ground.specs.Told.{Told}
use Rattle.ip_spec.specs.declared.record.CommitRecord.{CommitRecord}
use Rattle.ip_spec.specs.declared.record.Record.{Record}
use Rattle.ip_spec.specs.Repository.{Repository, tree_at}
use Rattle.ip_spec.specs.TreeAt.{TreeAt}
use Rattle.ip_save.specs.Batches.{HasShortContents}
use Rattle.ip_space.specs.SpaceView.{OnlyReads}
use Rattle.ip_tree.specs.TreeView.{IsView, stored_view}
use Rattle.ip_tree.specs.declared.tree.Tree.{Tree}
use Rattle.ip_held.specs.Rooted.{IsRooted}
use Rattle.ip_held.specs.Held.{Holds, image_records}
use Rattle.ip_held.specs.declared.held.Held.{Held}

abbrev pub RecordsStay : (ℕ → Option Record) → (ℕ → Option Record) → Type 0
RecordsStay records more = (at : ℕ) (x : Record) → records at ≡ Some x → more at ≡ Some x

pub record OnlyLooks (old new : Told) (store now : Held) : Type 0 where
  pub reads : OnlyReads old new store.space now.space
  pub holds : (r : Repository) → Holds store old r → Holds now new r
  pub records : (r : Repository) (held : Holds store old r) (still : Holds now new r) → image_records still ≡ image_records held

-- it is the root that the record of this commit refers to
pub record IsRootAt (records : ℕ → Option Record) (number : ℕ) (root : ℕ) : Type 0 where
  pub commit : CommitRecord
  pub place : ℕ
  pub here : records place ≡ Some (Record.Commit commit)
  pub numbered : commit.number ≡ number
  pub is : root ≡ commit.root_at

pub record IsTreeOf (records : ℕ → Option Record) (r : Repository) (number : ℕ) (tree : Tree) : Type 0 where
  pub at : ℕ
  pub root : IsRootAt records number at
  pub spelled : TreeAt records at (tree_at r number)
  pub view : IsView records tree (stored_view records number at (tree_at r number))
  pub rooted : IsRooted records (stored_view records number at (tree_at r number))
  pub short : HasShortContents (tree_at r number)

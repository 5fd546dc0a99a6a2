-- Which parts of a work's tree a record is known of, from one command to the next.
--     IsStored n map view      the view of a tree that records spell, those of commit n and before: one is known of each of its parts
--     IsNamed r target view      so of the tree of the commit that a reference names
--     IsViewAfter r v command reply view      the view of the work's tree after a command with this reply, which was v before it
use Rattle.std.specs.Prelude.{◌≡◌, ℕ, Option, Ok}
use Rattle.ip_spec.specs.declared.command.Command.{Command}
use Rattle.ip_spec.specs.declared.command.Target.{Target}
use Rattle.ip_spec.specs.declared.record.Record.{Record}
use Rattle.ip_spec.specs.declared.reply.Reply.{Reply}
use Rattle.ip_spec.specs.Repository.{Repository, next, tree_at}
use Rattle.ip_spec.specs.Step.{resolve}
use Rattle.ip_spec.specs.Tree.{Tree}
use Rattle.ip_spec.specs.TreeAt.{TreeAt}
use Rattle.ip_spec.specs.View.{View, no_view, put_view, remove_view, graft_view}
use Rattle.ip_tree.specs.TreeView.{stored_view}

pub record IsStored (n : ℕ) (map : Tree) (view : View) : Type 0 where
  pub records : ℕ → Option Record
  pub at : ℕ
  pub spelled : TreeAt records at map
  pub is : view ≡ stored_view records n at map

pub record IsNamed (r : Repository) (target : Target) (view : View) : Type 0 where
  pub number : ℕ
  pub named : resolve r target ≡ Ok number
  pub stored : IsStored number (tree_at r number) view

-- a command that reads, or that is refused, leaves all that is known, and comes to know no more
abbrev pub IsViewAfter : Repository → View → Command → Reply → View → Type 0
IsViewAfter r v Command.Empty Reply.Accepted view = view ≡ no_view
IsViewAfter r v (Command.Checkout target) (Reply.At name) view = IsNamed r target view
IsViewAfter r v (Command.Set path bytes) Reply.Accepted view = view ≡ put_view v path bytes
IsViewAfter r v (Command.Rm path) Reply.Accepted view = view ≡ remove_view v path
IsViewAfter r v (Command.Graft target from to) Reply.Accepted view = (source : View) × IsNamed r target source × (view ≡ graft_view v source from to)
IsViewAfter r v (Command.Commit branch info) (Reply.Committed name) view = IsStored (next r) v.map view
IsViewAfter r v command reply view = view ≡ v

-- The root of a tree by its view.
--     root_at, root_reaches, root_directory      what it means
--     view_by      the same map in another root that knows the same
--     loaded_view      its record was read.      same_view      what was loaded means and knows the same
--     view_knows      what a loaded root knows
use Rattle.std.proofs.Common.{◌≡◌, ℕ, sym, ap, subst, ◌∙◌, Option}
use Rattle.ip_shape.specs.declared.dir.Dir.{Dir}
use Rattle.ip_spec.specs.StoredParts.{stored_part}
use Rattle.ip_spec.specs.View.{Part, View}
use Rattle.ip_spec.specs.declared.record.Record.{Record}
use Rattle.ip_spec.specs.declared.record.Ref.{Ref}
use Rattle.ip_tree.specs.Edits.{IsDirectory, IsSame}
use Rattle.ip_tree.specs.Known.{known_of, knows}
use Rattle.ip_tree.specs.Meaning.{RootIs}
use Rattle.ip_tree.specs.Reads.{Reaches, directory_at}
use Rattle.ip_tree.specs.Shown.{shown_directory, shown_root}
use Rattle.ip_tree.specs.TreeView.{IsView}
use Rattle.ip_tree.specs.declared.node.Node.{Node}
use Rattle.ip_tree.specs.declared.node.Stored.{Stored as StoredAt}
use Rattle.ip_tree.specs.declared.tree.Root.{Root}
use Rattle.ip_tree.specs.declared.tree.Root.TheVariants.{Stored, Loaded}
use Rattle.ip_tree.specs.declared.tree.Tree as code

module _ (records : ℕ → Option Record) (tree : code.Tree) (v : View) (is : IsView records tree v) where
  pub root_at : (root : Root) → tree.root ≡ root → RootIs records (shown_root root) v.map
  root_at root same = subst (λ (x : Root). RootIs records (shown_root x) v.map) same is.root

  pub root_reaches : (r : Ref) → tree.root ≡ Stored r → Reaches records r v.map
  root_reaches r same = let root = root_at (Stored r) same in directory_at v.map root.1 root.0

  pub root_directory : (d : Dir Node StoredAt) → tree.root ≡ Loaded d → IsDirectory records (shown_directory d) v.map
  root_directory d same = root_at (Loaded d) same

  pub root_knows : (root : Root) → tree.root ≡ root → (p : Part) → v.known p ≡ known_of records (shown_root root) p
  root_knows root same p = is.known p ∙ ap (λ (x : Root). known_of records (shown_root x) p) same

  pub view_by : (root : Root) → RootIs records (shown_root root) v.map → ((p : Part) → v.known p ≡ known_of records (shown_root root) p) → IsView records (record { root = root; oldest = tree.oldest }) v
  view_by root means known = record { root = means; lawful = is.lawful; narrow = is.narrow; oldest = is.oldest; known = known; below = is.below }

  pub loaded_view : (r : Ref) (d : Dir Node StoredAt) → tree.root ≡ Stored r → IsDirectory records (shown_directory d) v.map → ((p : Part) → knows records (shown_directory d) p ≡ stored_part records r.at p.path p.indexes)
      → IsView records (record { root = Loaded d; oldest = tree.oldest }) v
  loaded_view r d same means known = view_by (Loaded d) means (λ p. root_knows (Stored r) same p ∙ sym (known p))

  pub view_knows : (d : Dir Node StoredAt) → tree.root ≡ Loaded d → (p : Part) → v.known p ≡ knows records (shown_directory d) p
  view_knows d same p = root_knows (Loaded d) same p

  pub same_view : (d new : Dir Node StoredAt) → tree.root ≡ Loaded d → IsSame (IsDirectory records) records (shown_directory d) (shown_directory new) v.map → IsView records (record { root = Loaded new; oldest = tree.oldest }) v
  same_view d new same kept = view_by (Loaded new) kept.means (λ p. view_knows d same p ∙ sym (kept.known p))

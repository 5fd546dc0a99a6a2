-- The tree with nothing in it.
use Rattle.std.proofs.Common.{◌≡◌, ℕ, List, [], ◌∷◌, refl, sym, ap, subst, ◌∙◌, Option, None, map, arith}
use Rattle.std.specs.Prelude.{Bool, false, true, ◌≤◌}
use Rattle.std.proofs.lemmas.Bool.{false≢true}
use Rattle.ip_spec.specs.Path.{Step, Path}
use Rattle.ip_spec.specs.Step.{entries_limit}
use Rattle.ip_spec.specs.Tree.{IsTree, entries_of, no_tree, widest, tree_runs}
use Rattle.ip_spec.specs.View.{no_view}
use Rattle.ip_spec.proofs.KnownBelow.{none_below}
use Rattle.ip_spec.specs.declared.record.Record.{Record}
use Rattle.ip_shape.specs.Directory.{IsDir, root_of}
use Rattle.ip_shape.specs.Loaded.{IsFresh, unread_in, way_to}
use Rattle.ip_shape.specs.declared.dir.Dir.{Dir}
use Rattle.ip_tree.specs.Known.{below_entry, known_at, known_by, unread_entry}
use Rattle.ip_tree.specs.Meaning.{DirectoryIs, NodesAre}
use Rattle.ip_tree.specs.Node.{directory, nodes_of, none}
use Rattle.ip_tree.specs.Shown.{entries_shown}
use Rattle.ip_tree.specs.TreeView.{IsView}
use Rattle.ip_tree.specs.declared.node.Node.{Node}
use Rattle.ip_tree.specs.declared.node.Stored.{Stored}
use Rattle.ip_tree.specs.declared.tree.Root.TheVariants.{Loaded}
use Rattle.ip_tree.proofs.Indexes.{no_some}
use Rattle.ip_tree.proofs.PartlyShown.{has_steps, show}
use Rattle.ip_tree.proofs.Trees.{entries_of_nothing, nothing_directory}

pub no_paths : IsTree no_tree
unfolding tree_runs
no_paths = record { prefix_free = λ p q a b c. absurd (none_there a); paths = λ p a. absurd (none_there a) }
  where
    none_there : ◌≡◌ {A = Bool} false true → ⊥
    none_there e = false≢true e

pub no_width : widest no_tree ≤ entries_limit
unfolding tree_runs
no_width = omega arith

module _ (records : ℕ → Option Record) (d : Dir Node Stored) (is : IsDir d []) (fresh : IsFresh (root_of d)) where
  pub empty_means : DirectoryIs records (root_of d) (nodes_of (entries_shown d)) no_tree
  empty_means = record {
    directory = nothing_directory;
    steps = has_steps d [] [] (entries_of no_tree).entries is.0 (ap (λ (l : List (Step × _)). map (λ e. e.0) l) (sym entries_of_nothing));
    parts = record { known = λ q x e. no_some x (sym (fresh q).1 ∙ e); unread = λ q x e. no_some _ (sym (fresh q).0 ∙ e) };
    nodes = subst (λ (l : List (Step × Node)). NodesAre records (nodes_of (map show l)) (entries_of no_tree).entries) (sym is.0.0) tt;
  }

  nothing_known : (path : Path) (indexes : List ℕ) → None ≡ known_at records (directory (root_of d) none) path indexes
  nothing_known [] indexes = sym (ap (λ k. known_by records k (unread_in indexes (root_of d))) (fresh indexes).1 ∙ ap (known_by records None) (fresh indexes).0)
  nothing_known (s ∷ path) indexes = sym (ap (λ u. below_entry records path indexes (unread_entry records s u)) (fresh (way_to s)).0)

  pub empty_view : IsView records (record { root = Loaded d; oldest = None }) no_view
  unfolding no_view
  empty_view = record {
    root = empty_means;
    lawful = no_paths;
    narrow = no_width;
    oldest = refl;
    known = λ part. nothing_known part.path part.indexes ∙ sym (ap (λ (l : List (Step × Node)). known_at records (directory (root_of d) (nodes_of (map show l))) part.path part.indexes) is.0.0);
    below = none_below;
  }

-- What stands at the root of a tree, as what is grafted.
--     no_height, no_count      it is empty where its record tells no height, or it has no entries
--     stored_source, loaded_source      else it is a directory, not read or read
use Rattle.std.proofs.Common.{◌≡◌, ℕ, List, [], ◌∷◌, length, refl, sym, ap, subst, ◌∙◌, arith, Option, Some, None, Bool, true, false}
use Rattle.std.specs.Prelude.{IsFalse, IsTrue, cond, is_some}
use Rattle.std.proofs.lemmas.Bool.{false≢true}
use Rattle.std.specs.FinMap.Entries.{find}
use Rattle.ip_spec.specs.Map.{get}
use Rattle.ip_spec.specs.Path.{Bytes, Step, Path, bytes_cmp}
use Rattle.ip_spec.specs.declared.record.Record.{Record}
use Rattle.ip_spec.specs.declared.record.Ref.{Ref}
use Rattle.ip_spec.specs.Tree.{Tree, subtree, entries_of, height, is_contents, is_empty, no_tree, tree_runs}
use Rattle.ip_spec.specs.View.{View}
use Rattle.ip_spec.proofs.Subtrees.{empty_is, get-subtree, get-entries_of, some_not_empty, subtree_root}
use Rattle.ip_spec.proofs.Naming.{root_name-entries}
use Rattle.ip_shape.specs.declared.dir.Dir.{Dir}
use Rattle.ip_shape.proofs.Entries.{nil_of}
use Rattle.ip_tree.specs.Finding.{IsPartOf}
use Rattle.ip_tree.specs.Known.{known_of}
use Rattle.ip_tree.specs.Meaning.{NodeIs, RootIs, StoredIs, directory_in}
use Rattle.ip_tree.specs.Node as told
use Rattle.ip_tree.specs.Shown.{shown_directory, shown_root}
use Rattle.ip_tree.specs.TreeView.{IsView}
use Rattle.ip_tree.specs.declared.node.Node.{Node}
use Rattle.ip_tree.specs.declared.node.Stored.{Stored}
use Rattle.ip_tree.specs.declared.tree.Root.{Root}
use Rattle.ip_tree.specs.declared.tree.Root.TheVariants as variant
use Rattle.ip_tree.specs.declared.tree.Tree as code
use Rattle.ip_tree.proofs.PlacedTrees.{something}
use Rattle.ip_tree.proofs.TreeHeights.{directory_height, path_height}
use Rattle.ip_tree.proofs.Trees.{entries_of_nothing}
use Rattle.ip_tree.proofs.Roots.{root_directory, view_knows}
use Rattle.ip_tree.proofs.Directories.{node_of}

nothing_high : height no_tree ≡ 0
unfolding tree_runs
nothing_high = refl

-- nothing stands in a directory below whose steps nothing does
empty_by : (t : Tree) → IsFalse (is_contents t) → ((s : Step) (p : Path) (b : Bytes) → get t (s ∷ p) ≡ Some b → ⊥) → is_empty t ≡ true
empty_by t directory none = by (is_empty t) refl
  where
    at : (p : Path) (b : Bytes) → get t p ≡ Some b → ⊥
    at [] b is = false≢true (sym directory ∙ ap is_some is)
    at (s ∷ p) b is = none s p b is

    by : (b : Bool) → is_empty t ≡ b → b ≡ true
    by true e = refl
    by false e = absurd (let x = something t e in at x.path x.bytes x.here)

no_high : (t : Tree) → IsFalse (is_contents t) → height t ≡ 0 → is_empty t ≡ true
no_high t directory low = empty_by t directory (λ s p b is. let l = path_height t (s ∷ p) b is in absurd (omega arith))

no_entries : (t : Tree) → IsFalse (is_contents t) → length (entries_of t).entries ≡ 0 → is_empty t ≡ true
no_entries t directory none = empty_by t directory (λ s p b is.
    let inner = get-subtree t (s ∷ []) p ∙ is in
    let found = get-entries_of t s ∙ ap (λ e. cond e None (Some (subtree t (s ∷ [])))) (some_not_empty (subtree t (s ∷ [])) p b inner) in
    false≢true (ap is_some (sym (ap (find bytes_cmp s) (nil_of (entries_of t).entries none)) ∙ found)))

module _ (records : ℕ → Option Record) (tree : code.Tree) (w : View) (w_is : IsView records tree w) where
  at_root : (b : Bool) → is_empty w.map ≡ b → is_empty (subtree w.map []) ≡ b
  at_root b e = ap is_empty (subtree_root w.map) ∙ e

  module _ (r : Ref) (same : tree.root ≡ variant.Stored r) where
    pub stored_root : RootIs records (shown_root (variant.Stored r)) w.map
    stored_root = subst (λ (x : Root). RootIs records (shown_root x) w.map) same w_is.root

    pub no_height : (n : ℕ) → n ≡ height w.map → n ≡ 0 → IsTrue (is_empty (subtree w.map []))
    no_height n high none = at_root true (no_high w.map stored_root.0 (sym high ∙ none))

    pub stored_source : (n : ℕ) → n ≡ height w.map → (n ≡ 0 → ⊥) → IsPartOf records w [] (told.stored (record { reference = r; height = n }))
    stored_source n high some = record {
      means = subst (λ (t : Tree). StoredIs records (record { reference = r; height = n }) t) (sym (subtree_root w.map))
          (directory_in w.map (record { directory = stored_root.0; some = some_there (is_empty w.map) refl })
          (record { part = stored_root.1.part; kind = stored_root.1.kind; name = stored_root.1.name ∙ root_name-entries w.map; height = high ∙ directory_height w.map stored_root.0 }));
      known = λ part. sym (w_is.known part ∙ ap (λ (x : Root). known_of records (shown_root x) part) same);
    }
      where
        some_there : (b : Bool) → is_empty w.map ≡ b → is_empty w.map ≡ false
        some_there true e = absurd (some (high ∙ ap height (empty_is w.map e) ∙ nothing_high))
        some_there false e = e

  module _ (d : Dir Node Stored) (same : tree.root ≡ variant.Loaded d) (count : ℕ) (count_is : count ≡ length (entries_of w.map).entries) where
    pub no_count : count ≡ 0 → IsTrue (is_empty (subtree w.map []))
    no_count none = at_root true (no_entries w.map (root_directory records tree w w_is d same).directory (sym count_is ∙ none))

    pub loaded_source : (count ≡ 0 → ⊥) → IsPartOf records w [] (shown_directory d)
    loaded_source some = record {
      means = subst (λ (t : Tree). NodeIs records (shown_directory d) t) (sym (subtree_root w.map)) (node_of records (shown_directory d) w.map (root_directory records tree w w_is d same) (some_there (is_empty w.map) refl));
      known = λ part. sym (view_knows records tree w w_is d same part);
    }
      where
        some_there : (b : Bool) → is_empty w.map ≡ b → is_empty w.map ≡ false
        some_there true e = absurd (some (count_is ∙ ap (λ (t : Tree). length (entries_of t).entries) (empty_is w.map e) ∙ ap (λ (l : List (Step × Tree)). length l) entries_of_nothing))
        some_there false e = e

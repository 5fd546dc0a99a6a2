-- All contents of a tree that records spell are known, so none are new below a part of it.
--     stored_whole      below what stands in a directory.      root_whole      in a whole tree
--     stored_view_below      so of its view
use Rattle.std.proofs.Common.{◌≡◌, ℕ, List, [], ◌∷◌, ◌++◌, refl, sym, ap, ◌∙◌, Option, Some, None, cond, true, false}
use Rattle.std.proofs.lemmas.Bool.{false≢true}
use Rattle.std.specs.Prelude.{Bool, IsSome, is_some, option_and_then, option_map}
use Rattle.std.specs.FinMap.Entries.{find}
use Rattle.ip_spec.specs.Map.{get}
use Rattle.ip_spec.specs.Path.{Bytes, Step, Path, bytes_cmp}
use Rattle.ip_spec.specs.Shape.{deepest}
use Rattle.ip_spec.specs.StoredParts.{entry_at, part_at, stored_at, stored_by, stored_part}
use Rattle.ip_spec.specs.Tree as Tree
use Rattle.ip_spec.specs.Tree.{Tree, entries_of, is_empty, subtree}
use Rattle.ip_spec.specs.TreeAt.{PartAt}
use Rattle.ip_spec.specs.View.{KnowsBelow}
use Rattle.ip_spec.specs.declared.record.LeafEntry.{LeafEntry}
use Rattle.ip_spec.specs.declared.record.Record.{Record}
use Rattle.ip_spec.proofs.Subtrees.{empty_gets, entry_found, get-contents, get-entries_of, get-subtree}
use Rattle.ip_tree.specs.Meaning.{StoredIs, contents_in, directory_in}
use Rattle.ip_tree.specs.Reads.{FindsEntry, stored_of_entry}
use Rattle.ip_tree.specs.TreeView.{stored_view}
use Rattle.ip_tree.specs.declared.node.Stored.{Stored}
use Rattle.ip_tree.proofs.PartLookups.{through}

nothing_found : (sub : Tree) (s : Step) (path : Path) → find bytes_cmp s (entries_of sub).entries ≡ None → IsSome (get sub (s ∷ path)) → ⊥
nothing_found sub s path none here = by (is_empty (subtree sub (s ∷ []))) refl (sym (get-entries_of sub s) ∙ none)
  where
    by : (b : Bool) → is_empty (subtree sub (s ∷ [])) ≡ b → cond b None (Some (subtree sub (s ∷ []))) ≡ None → ⊥
    by true e f = false≢true (ap is_some (sym (empty_gets (subtree sub (s ∷ [])) path e) ∙ get-subtree sub (s ∷ []) path) ∙ here)
    by false e f = false≢true (sym (ap is_some f))

no_below : (bytes : Bytes) (s : Step) (path : Path) → IsSome (get (Tree.contents bytes) (s ∷ path)) → ⊥
no_below bytes s path here = false≢true (sym (ap is_some (get-contents bytes (s ∷ path))) ∙ here)

module _ (records : ℕ → Option Record) where
  abbrev Whole : Path → ℕ → Tree → Type 0
  Whole path at sub = IsSome (get sub path) → IsSome (stored_part records at path [])

  step_entry : (s : Step) (at : ℕ) (sub : Tree) → PartAt records 0 at (entries_of sub).entries → FindsEntry records (entries_of sub).entries s (option_map stored_of_entry (entry_at records at s))
  unfolding entry_at
  step_entry s at sub part = through records deepest part refl s

  step_whole : (s : Step) (path : Path) (at : ℕ) (sub : Tree) → ((y : Stored) (w : Tree) → StoredIs records y w → Whole path y.reference.at w) → PartAt records 0 at (entries_of sub).entries → Whole (s ∷ path) at sub
  step_whole s path at sub deeper part here = by (entry_at records at s) (step_entry s at sub part)
    where
      by : (o : Option LeafEntry) → FindsEntry records (entries_of sub).entries s (option_map stored_of_entry o) → IsSome (option_and_then (part_at records []) (stored_by (stored_at records path) o))
      by None finds = absurd (nothing_found sub s path finds here)
      by (Some e) finds =
          let is = entry_found sub s finds.0 finds.1 in
          deeper (stored_of_entry e) finds.0 finds.2 (ap is_some (ap (λ (w : Tree). get w path) is.is ∙ get-subtree sub (s ∷ []) path) ∙ here)

  pub stored_whole : (path : Path) (sub : Tree) (x : Stored) → StoredIs records x sub → Whole path x.reference.at sub
  stored_whole [] sub x means here = refl
  stored_whole (s ∷ path) sub x (contents_in bytes is height child) here = absurd (no_below bytes s path here)
  stored_whole (s ∷ path) sub x (directory_in t some spells) here = step_whole s path x.reference.at t (λ y w means. stored_whole path w y means) spells.part here

  pub root_whole : (path : Path) (at : ℕ) (map : Tree) → PartAt records 0 at (entries_of map).entries → Whole path at map
  root_whole [] at map part here = refl
  root_whole (s ∷ path) at map part here = step_whole s path at map (λ y w means. stored_whole path w y means) part here

  pub stored_view_below : (n at : ℕ) (map : Tree) → PartAt records 0 at (entries_of map).entries → KnowsBelow (stored_view records n at map)
  stored_view_below n at map part above indexes s below leading known here = root_whole (above ++ s ∷ below) at map part here

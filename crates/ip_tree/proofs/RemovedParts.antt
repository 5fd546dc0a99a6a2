-- What a directory knows after a removal at a step, or below one, in the words of the view.
--     gone_known      of a directory without the entry
--     under_known      of one with what a removal below the step leaves of the node there
use Rattle.std.proofs.Common.{◌≡◌, ℕ, Bool, true, false, not, List, [], ◌∷◌, refl, sym, ap, ◌∙◌, Option, Some, None, cond}
use Rattle.std.specs.Option.{option_map_or}
use Rattle.std.specs.Prelude.{◌&&◌, IsFalse, if◌then◌else◌}
use Rattle.std.specs.FinMap.Entries.{find, put}
use Rattle.ip_spec.specs.Path.{Step, Path, bytes_cmp, same_bytes}
use Rattle.ip_spec.specs.Shape.{deepest}
use Rattle.ip_spec.specs.declared.record.Record.{Record}
use Rattle.ip_spec.specs.Tree.{Tree, entries_of, is_contents, is_empty, remove, subtree}
use Rattle.ip_spec.specs.View.{Part, is_part, touches}
use Rattle.ip_spec.proofs.Subtrees.{entry_found, same_bytes_turned, same_step}
use Rattle.ip_shape.specs.Directory.{steps_of, without}
use Rattle.ip_shape.specs.Loaded.{IsEdited, IsLessened, unread_in, way_to}
use Rattle.ip_shape.specs.Reading.{is_needed}
use Rattle.ip_shape.specs.Shape.{has}
use Rattle.ip_shape.specs.declared.part.Part as shape
use Rattle.ip_tree.specs.Edits.{known_after}
use Rattle.ip_tree.specs.Known.{below_entry, known_at, knows, unread_entry}
use Rattle.ip_tree.specs.Meaning.{DirectoryIs}
use Rattle.ip_tree.specs.Node.{Entry, Node, directory, nodes_of, steps_in}
use Rattle.ip_tree.specs.Removal.{IsTaken}
use Rattle.ip_tree.specs.declared.node.Stored.{Stored}
use Rattle.ip_tree.proofs.ChildNodes.{known_found}
use Rattle.ip_tree.proofs.KnownAfter.{beside_after, put_after, taken_after}
use Rattle.ip_tree.proofs.PartsPut.{put_below}
use Rattle.ip_tree.proofs.PartsTaken.{taken_below, taken_here}
use Rattle.ip_tree.proofs.RemovedTrees.{beside_remove, gone_entries, left_entries, no_tree_empty, remove_directory, remove_root, subtree_remove}
use Rattle.ip_tree.proofs.TouchedParts.{after_below, after_touched, at, same_itself, touches_below}

-- ---- the entry is taken out

module _ (records : ℕ → Option Record) (old new : shape.Part Stored) (ys : List Entry) (t : Tree) (s : Step) (means : DirectoryIs records old (nodes_of ys) t) (is_in : has s (steps_of (entries_of t).entries) ≡ true)
    (way : unread_in (way_to s) old ≡ None) (read : (is : List ℕ) (r : Stored) → is_needed s (steps_of (entries_of t).entries) is ≡ true → unread_in is old ≡ Some (r, []) → ⊥)
    (lessened : IsLessened deepest 0 s (steps_of (entries_of t).entries) old new) where
  pub gone_directory : IsFalse (is_contents (remove t (s ∷ [])))
  gone_directory = remove_directory t s [] ∙ means.directory

  pub gone_entries_now : (entries_of (remove t (s ∷ []))).entries ≡ without s (entries_of t).entries
  gone_entries_now = gone_entries t s [] (ap is_empty (remove_root (subtree t (s ∷ []))) ∙ no_tree_empty)

  gone_at : (p : Path) (is : List ℕ) → knows records (directory new (nodes_of (without s ys))) (at p is) ≡ known_after (knows records (directory old (nodes_of ys))) (s ∷ []) (remove t (s ∷ [])) (at p is)
  gone_at [] is = taken_after records old new (nodes_of ys) (nodes_of (without s ys)) t (remove t (s ∷ [])) s [] means gone_directory way is is_in gone_entries_now read lessened
  gone_at (q ∷ p) is = by (same_bytes q s) refl
    where
      by : (b : Bool) → same_bytes q s ≡ b → knows records (directory new (nodes_of (without s ys))) (at (q ∷ p) is) ≡ known_after (knows records (directory old (nodes_of ys))) (s ∷ []) (remove t (s ∷ [])) (at (q ∷ p) is)
      by true same =
          ap (λ (k : Step). knows records (directory new (nodes_of (without s ys))) (at (k ∷ p) is)) (same_step q s same)
          ∙ taken_here records (entries_of t).entries (entries_of t).sorted s old new (steps_in (nodes_of ys)) means.steps means.parts is_in way read lessened ys p is (same_itself s)
          ∙ sym (after_touched (knows records (directory old (nodes_of ys))) (s ∷ []) (remove t (s ∷ [])) (at (q ∷ p) is) (ap (λ (k : Step). touches (at (k ∷ p) is) (s ∷ [])) (same_step q s same) ∙ touches_below s [] p is))
      by false other =
          beside_after records old new (nodes_of ys) (nodes_of (without s ys)) t (remove t (s ∷ [])) s [] means gone_directory way q p is (same_bytes_turned s q ∙ other) other (beside_remove t s q [] p other)
          (taken_below records (entries_of t).entries (entries_of t).sorted s old new (steps_in (nodes_of ys)) means.steps means.parts is_in way read lessened ys q p is (same_bytes_turned s q ∙ other))

  pub gone_known : (part : Part) → knows records (directory new (nodes_of (without s ys))) part ≡ known_after (knows records (directory old (nodes_of ys))) (s ∷ []) (remove t (s ∷ [])) part
  gone_known part = gone_at part.path part.indexes

-- ---- something is left below the step

module _ (records : ℕ → Option Record) (old new : shape.Part Stored) (ys : List Entry) (t : Tree) (s : Step) (path : Path) (n m : Node) (sub : Tree) (means : DirectoryIs records old (nodes_of ys) t)
    (found : find bytes_cmp s ys ≡ Some n) (here : find bytes_cmp s (entries_of t).entries ≡ Some sub) (way : unread_in (way_to s) old ≡ None) (edited : IsEdited 0 s old new)
    (some : is_empty (remove sub path) ≡ false) (taken : IsTaken records path n m sub) where
  pub under_directory : IsFalse (is_contents (remove t (s ∷ path)))
  under_directory = remove_directory t s path ∙ means.directory

  at_step : remove (subtree t (s ∷ [])) path ≡ remove sub path
  at_step = ap (λ (x : Tree). remove x path) (sym (entry_found t s sub here).is)

  pub under_entries : (entries_of (remove t (s ∷ path))).entries ≡ put bytes_cmp s (remove sub path) (entries_of t).entries
  under_entries = left_entries t s path (ap is_empty at_step ∙ some) ∙ ap (λ (x : Tree). put bytes_cmp s x (entries_of t).entries) at_step

  -- what was known below the step the node knew
  known_there : (part : Part) → knows records n part ≡ knows records (directory old (nodes_of ys)) (at (s ∷ part.path) part.indexes)
  known_there part = sym (
      known_found records ys s part.path part.indexes (below_entry records part.path part.indexes (unread_entry records s (unread_in (way_to s) old)))
      ∙ ap (λ o. option_map_or (λ k. known_at records k part.path part.indexes) o (below_entry records part.path part.indexes (unread_entry records s (unread_in (way_to s) old)))) found)

  put_there : (q : Step) (p : Path) (is : List ℕ) → known_at records (directory new (nodes_of (put bytes_cmp s m ys))) (q ∷ p) is ≡ cond (same_bytes q s) (known_at records m p is) (known_at records (directory old (nodes_of ys)) (q ∷ p) is)
  put_there q p is = put_below records (entries_of t).entries (entries_of t).sorted s (remove sub path) old new (steps_in (nodes_of ys)) means.steps means.parts way edited ys m q p is

  under_at : (p : Path) (is : List ℕ) → knows records (directory new (nodes_of (put bytes_cmp s m ys))) (at p is) ≡ known_after (knows records (directory old (nodes_of ys))) (s ∷ path) (remove t (s ∷ path)) (at p is)
  under_at [] is = put_after records old new (nodes_of ys) (nodes_of (put bytes_cmp s m ys)) t (remove t (s ∷ path)) s path means under_directory way (remove sub path) is under_entries edited
  under_at (q ∷ p) is = by (same_bytes q s) refl
    where
      by : (b : Bool) → same_bytes q s ≡ b → knows records (directory new (nodes_of (put bytes_cmp s m ys))) (at (q ∷ p) is) ≡ known_after (knows records (directory old (nodes_of ys))) (s ∷ path) (remove t (s ∷ path)) (at (q ∷ p) is)
      by true same =
          put_there q p is ∙ ap (λ b. cond b (known_at records m p is) (known_at records (directory old (nodes_of ys)) (q ∷ p) is)) same
          ∙ taken.known (at p is)
          ∙ ap (λ k. if is_part (remove sub path) (at p is) && not (touches (at p is) path) then k else None) (known_there (at p is))
          ∙ sym (after_below (knows records (directory old (nodes_of ys))) (remove t (s ∷ path)) (remove sub path) s path p is (subtree_remove t s path ∙ at_step) some)
          ∙ ap (λ (k : Step). known_after (knows records (directory old (nodes_of ys))) (s ∷ path) (remove t (s ∷ path)) (at (k ∷ p) is)) (sym (same_step q s same))
      by false other =
          beside_after records old new (nodes_of ys) (nodes_of (put bytes_cmp s m ys)) t (remove t (s ∷ path)) s path means under_directory way q p is (same_bytes_turned s q ∙ other) other (beside_remove t s q path p other)
          (put_there q p is ∙ ap (λ b. cond b (known_at records m p is) (known_at records (directory old (nodes_of ys)) (q ∷ p) is)) other)

  pub under_known : (part : Part) → knows records (directory new (nodes_of (put bytes_cmp s m ys))) part ≡ known_after (knows records (directory old (nodes_of ys))) (s ∷ path) (remove t (s ∷ path)) part
  under_known part = under_at part.path part.indexes

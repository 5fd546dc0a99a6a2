-- What a directory knows after an edit at a step, in the words of the view.
--     put_after, taken_after      of its own parts
--     beside_after      below each other step, where all stays
use Rattle.std.proofs.Common.{◌≡◌, ℕ, Option, List, [], ◌∷◌, true, sym, ap, ◌∙◌, Some, None}
use Rattle.std.specs.Prelude.{◌&&◌, ◌||◌, cond, false, not, IsFalse, if◌then◌else◌}
use Rattle.std.specs.FinMap.Entries.{put}
use Rattle.ip_spec.specs.Path.{Step, Path, after_prefix, bytes_cmp, is_prefix, same_bytes}
use Rattle.ip_spec.specs.declared.record.Record.{Record}
use Rattle.ip_spec.specs.Tree.{Tree, entries_of, is_contents, subtree}
use Rattle.ip_spec.specs.View.{holds_behind, is_part, is_part_at, is_part_from, leads, touches}
use Rattle.ip_shape.specs.Directory.{steps_of, without}
use Rattle.ip_shape.specs.Loaded.{IsEdited, IsLessened, unread_in, way_to}
use Rattle.ip_shape.specs.Reading.{is_needed}
use Rattle.ip_shape.specs.Shape.{has}
use Rattle.ip_shape.specs.declared.part.Part.{Part}
use Rattle.ip_spec.specs.Shape.{deepest}
use Rattle.ip_tree.specs.Node.{Nodes, directory, steps_in}
use Rattle.ip_tree.specs.Meaning.{DirectoryIs}
use Rattle.ip_tree.specs.Known.{below_unread, known_part, knows}
use Rattle.ip_tree.specs.Edits.{known_after}
use Rattle.ip_tree.specs.declared.node.Stored.{Stored}
use Rattle.ip_tree.proofs.KnownStands.{among_stands, root_part, unread_stands}
use Rattle.ip_tree.proofs.PartsPut.{if_kept, put_known}
use Rattle.ip_tree.proofs.PartsTaken.{taken_known}

module _ (records : ℕ → Option Record) (old new : Part Stored) (ns ms : Nodes) (t u : Tree) (s : Step) (path : Path) (means : DirectoryIs records old ns t) (no_contents : IsFalse (is_contents u)) (way_read : unread_in (way_to s) old ≡ None) where
  pub put_after : (sub : Tree) (is : List ℕ) → (entries_of u).entries ≡ put bytes_cmp s sub (entries_of t).entries → IsEdited 0 s old new
      → knows records (directory new ms) (record { path = []; indexes = is }) ≡ known_after (knows records (directory old ns)) (s ∷ path) u (record { path = []; indexes = is })
  put_after sub is entries edited =
      put_known records (entries_of t).entries (entries_of t).sorted s sub old new (steps_in ns) means.steps means.parts way_read edited is
      ∙ ap (λ b. if b && not (leads 0 is s) then known_part records old is else None) (ap (λ l. is_part_from 0 l is) (sym entries) ∙ sym (root_part u is no_contents))

  pub taken_after : (is : List ℕ) → has s (steps_of (entries_of t).entries) ≡ true → (entries_of u).entries ≡ without s (entries_of t).entries
      → ((is : List ℕ) (r : Stored) → is_needed s (steps_of (entries_of t).entries) is ≡ true → unread_in is old ≡ Some (r, []) → ⊥) → IsLessened deepest 0 s (steps_of (entries_of t).entries) old new
      → knows records (directory new ms) (record { path = []; indexes = is }) ≡ known_after (knows records (directory old ns)) (s ∷ path) u (record { path = []; indexes = is })
  taken_after is is_in entries join_read lessened =
      taken_known records (entries_of t).entries (entries_of t).sorted s old new (steps_in ns) means.steps means.parts is_in way_read join_read lessened is
      ∙ ap (λ b. if b && not (leads 0 is s) then known_part records old is else None) (ap (λ l. is_part_from 0 l is) (sym entries) ∙ sym (root_part u is no_contents))

  pub beside_after : (q : Step) (p : Path) (is : List ℕ) → same_bytes s q ≡ false → same_bytes q s ≡ false → subtree u (q ∷ p) ≡ subtree t (q ∷ p)
      → knows records (directory new ms) (record { path = q ∷ p; indexes = is }) ≡ knows records (directory old ns) (record { path = q ∷ p; indexes = is })
      → knows records (directory new ms) (record { path = q ∷ p; indexes = is }) ≡ known_after (knows records (directory old ns)) (s ∷ path) u (record { path = q ∷ p; indexes = is })
  beside_after q p is one other same still =
      let before = knows records (directory old ns) (record { path = q ∷ p; indexes = is }) in
      still ∙ if_kept (is_part u (record { path = q ∷ p; indexes = is })) before (λ o e. ap (λ w. is_part_at (q ∷ p) w is) same ∙ (among_stands records ns t q p (q ∷ p) is o (below_unread records old q p is) means.nodes (λ f. unread_stands records old t q p (q ∷ p) is o means.parts f) e).is_part)
      ∙ ap (λ b. if is_part u (record { path = q ∷ p; indexes = is }) && not b then before else None) (sym untouched)
    where
      untouched : touches (record { path = q ∷ p; indexes = is }) (s ∷ path) ≡ false
      untouched = ap (λ b. (b && is_prefix path p) || holds_behind is (after_prefix (q ∷ p) (s ∷ path))) one ∙ ap (λ b. holds_behind is (cond b (after_prefix p path) None)) other

-- A directory with an entry put at a step to which each part was read.
--     put_knows      what is known then spells its part
--     put_known      the parts that the step touches are forgotten, and all others are known as they were
--     put_below      below the step that is known which the node knows, and below each other what was
--     put_directory      it means the tree with that entry
use Rattle.std.proofs.Common.{◌≡◌, ℕ, Bool, true, false, not, List, [], ◌∷◌, refl, sym, ap, subst, ◌∙◌, Option, Some, None, cond}
use Rattle.std.specs.Option.{option_map_or}
use Rattle.std.specs.Prelude.{◌&&◌, IsFalse, IsSomeAnd, if◌then◌else◌}
use Rattle.std.specs.Cmp.{tied_itself}
use Rattle.std.specs.Ordering.{is_eq}
use Rattle.std.proofs.lemmas.Bool.{false≢true}
use Rattle.std.proofs.lemmas.Cmp.{nat_list_cmp_total}
use Rattle.std.specs.FinMap.Entries.{find, put, find-put}
use Rattle.ip_spec.specs.Path.{Step, Path, bytes_cmp, same_bytes}
use Rattle.ip_spec.specs.declared.record.Record.{Record}
use Rattle.ip_spec.specs.Tree.{Tree, entries_of, is_contents}
use Rattle.ip_spec.specs.Shape.{Entries}
use Rattle.ip_spec.specs.View.{is_part_from, leads}
use Rattle.ip_shape.specs.Directory.{steps_of}
use Rattle.ip_shape.specs.Loaded.{IsEdited, known_in, unread_in, way_to}
use Rattle.ip_shape.specs.Shape.{AreSteps}
use Rattle.ip_shape.specs.declared.part.Part.{Part}
use Rattle.ip_shape.proofs.Steps.{AreSteps-filter}
use Rattle.ip_tree.specs.Node.{Entry, Node, directory, nodes_of, steps_in}
use Rattle.ip_tree.specs.Meaning.{DirectoryIs, HasSteps, KnowsParts, NodeIs, SpellsAt, is_read}
use Rattle.ip_tree.specs.Known.{below_entry, known_at, known_by, known_part, unread_entry}
use Rattle.ip_tree.specs.declared.node.Stored.{Stored}
use Rattle.ip_tree.proofs.Indexes.{no_some, read_above}
use Rattle.ip_tree.proofs.PartEntries.{IsOrdered, part_put}
use Rattle.ip_tree.proofs.PartEdits.{put_is_part}
use Rattle.ip_tree.proofs.KnownParts.{known_part_is, same_spells}
use Rattle.ip_tree.proofs.ChildNodes.{known_found, nodes_put}
use Rattle.ip_tree.proofs.PartlyShown.{steps_nodes}

pub if_kept : (p : Bool) (k : Option ℕ) → ((o : ℕ) → k ≡ Some o → p ≡ true) → k ≡ (if p && true then k else None)
if_kept true k is = refl
if_kept false None is = refl
if_kept false (Some o) is = absurd (false≢true (is o refl))

pub if_touched : (p : Bool) (k : Option ℕ) → None ≡ (if p && false then k else None)
if_touched true k = refl
if_touched false k = refl

-- the steps that were read ascend
pub read_ascends : (root : Part Stored) (read : List Step) (es : Entries) → HasSteps root read es → AreSteps read
read_ascends root read es h = subst AreSteps (sym h.held) (AreSteps-filter (is_read root) (steps_of es) h.ascend)

module _ (records : ℕ → Option Record) (es : Entries) (ordered : IsOrdered es) (s : Step) (sub : Tree) (old new : Part Stored) (read : List Step) (held : HasSteps old read es) (known : KnowsParts records old es)
    (way : unread_in (way_to s) old ≡ None) (edited : IsEdited 0 s old new) where
  pub put_knows : KnowsParts records new (put bytes_cmp s sub es)
  put_knows = record { known = λ is x e. known_new is x (leads 0 is s) refl (sym (edited is).1 ∙ e); unread = λ is x e. unread_new is x (leads 0 is s) refl (sym (edited is).0 ∙ e) }
    where
      known_new : (is : List ℕ) (x : Stored) (b : Bool) → leads 0 is s ≡ b → cond b None (known_in is old) ≡ Some x → SpellsAt records (put bytes_cmp s sub es) is x
      known_new is x true there e = no_some x e
      known_new is x false away e = same_spells records es (put bytes_cmp s sub es) is x (part_put is s sub es ordered away) (known.known is x e)

      unread_new : (is : List ℕ) (x : Stored) (b : Bool) → leads 0 is s ≡ b → unread_in is old ≡ Some (x, []) → SpellsAt records (put bytes_cmp s sub es) is x
      unread_new is x true there e = no_some (x, []) (sym (read_above is s (steps_of es) old held.shape there way) ∙ e)
      unread_new is x false away e = same_spells records es (put bytes_cmp s sub es) is x (part_put is s sub es ordered away) (known.unread is x e)

  pub put_known : (is : List ℕ) → known_part records new is ≡ (if is_part_from 0 (put bytes_cmp s sub es) is && not (leads 0 is s) then known_part records old is else None)
  put_known is = ap (λ k. known_by records k (unread_in is new)) (edited is).1 ∙ ap (known_by records (cond (leads 0 is s) None (known_in is old))) (edited is).0 ∙ by (leads 0 is s) refl
    where
      by : (b : Bool) → leads 0 is s ≡ b → known_by records (cond b None (known_in is old)) (unread_in is old) ≡ (if is_part_from 0 (put bytes_cmp s sub es) is && not b then known_part records old is else None)
      by true there = ap (known_by records None) (read_above is s (steps_of es) old held.shape there way) ∙ if_touched (is_part_from 0 (put bytes_cmp s sub es) is) (known_part records old is)
      by false away =
          if_kept (is_part_from 0 (put bytes_cmp s sub es) is) (known_part records old is)
          (λ o e. put_is_part s sub 0 is es ordered (known_part_is records old read es held known is o e).is_part)

  pub put_below : (ys : List Entry) (n : Node) (q : Step) (path : Path) (indexes : List ℕ) → known_at records (directory new (nodes_of (put bytes_cmp s n ys))) (q ∷ path) indexes
      ≡ cond (same_bytes q s) (known_at records n path indexes) (known_at records (directory old (nodes_of ys)) (q ∷ path) indexes)
  put_below ys n q path indexes =
      known_found records (put bytes_cmp s n ys) q path indexes (below_entry records path indexes (unread_entry records q (unread_in (way_to q) new)))
      ∙ ap (λ u. option_map_or (λ m. known_at records m path indexes) (find bytes_cmp q (put bytes_cmp s n ys)) (below_entry records path indexes (unread_entry records q u))) (edited (way_to q)).0
      ∙ ap (λ o. option_map_or (λ m. known_at records m path indexes) o (below_entry records path indexes (unread_entry records q (unread_in (way_to q) old)))) (find-put bytes_cmp nat_list_cmp_total q s n ys)
      ∙ by (same_bytes q s)
    where
      by : (b : Bool) → option_map_or (λ m. known_at records m path indexes) (cond b (Some n) (find bytes_cmp q ys)) (below_entry records path indexes (unread_entry records q (unread_in (way_to q) old)))
          ≡ cond b (known_at records n path indexes) (known_at records (directory old (nodes_of ys)) (q ∷ path) indexes)
      by true = refl
      by false = sym (known_found records ys q path indexes (below_entry records path indexes (unread_entry records q (unread_in (way_to q) old))))

pub put_directory : (records : ℕ → Option Record) (old new : Part Stored) (ys : List Entry) (t u : Tree) (s : Step) (n : Node) (sub : Tree) → DirectoryIs records old (nodes_of ys) t → NodeIs records n sub
    → IsFalse (is_contents u) → (entries_of u).entries ≡ put bytes_cmp s sub (entries_of t).entries → unread_in (way_to s) old ≡ None → IsEdited 0 s old new
    → HasSteps new (steps_in (nodes_of (put bytes_cmp s n ys))) (entries_of u).entries → DirectoryIs records new (nodes_of (put bytes_cmp s n ys)) u
put_directory records old new ys t u s n sub is means no_contents entries way edited steps = record {
  directory = no_contents;
  steps = steps;
  parts = subst (KnowsParts records new) (sym entries) (put_knows records (entries_of t).entries (entries_of t).sorted s sub old new (steps_in (nodes_of ys)) is.steps is.parts way edited);
  nodes = nodes_put records ys (entries_of t).entries (entries_of u).entries s n (subst AreSteps (steps_nodes ys) (read_ascends old (steps_in (nodes_of ys)) (entries_of t).entries is.steps)) is.nodes
      (subst (λ o. IsSomeAnd o (λ sub. NodeIs records n sub)) (sym (found s ∙ ap (λ b. cond b (Some sub) (find bytes_cmp s (entries_of t).entries)) (ap is_eq (tied_itself nat_list_cmp_total s)))) means)
      (λ q apart. found q ∙ ap (λ b. cond b (Some sub) (find bytes_cmp q (entries_of t).entries)) apart);
}
  where
    found : (q : Step) → find bytes_cmp q (entries_of u).entries ≡ cond (same_bytes q s) (Some sub) (find bytes_cmp q (entries_of t).entries)
    found q = ap (find bytes_cmp q) entries ∙ find-put bytes_cmp nat_list_cmp_total q s sub (entries_of t).entries

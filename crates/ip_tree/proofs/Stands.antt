-- The known parts of a tree are records that spell them.
--     root_known      what a root knows at a path and indexes is a part of what stands there, and its record spells it
--     known_stand      so they stand for a batch, where all records lie below an end
use Rattle.std.proofs.Common.{◌≡◌, ℕ, ◌+◌, ◌<◌, true, List, [], ◌∷◌, length, sym, ap, subst, ◌∙◌, Option, Some, arith}
use Rattle.std.proofs.lemmas.Bool.{false≢true}
use Rattle.std.proofs.lemmas.List.{append-nil}
use Rattle.std.specs.Prelude.{IsFalse, is_some}
use Rattle.ip_spec.specs.Batch.{KnownStand}
use Rattle.ip_spec.specs.Map.{get}
use Rattle.ip_spec.specs.Path.{Path}
use Rattle.ip_spec.specs.Shape.{part}
use Rattle.ip_spec.specs.Tree.{Tree, entries_of, is_contents, subtree}
use Rattle.ip_spec.specs.TreeAt.{PartAt}
use Rattle.ip_spec.specs.View.{View, is_part_from}
use Rattle.ip_spec.specs.declared.record.Record.{Record}
use Rattle.ip_spec.proofs.Subtrees.{get-subtree, subtree_root}
use Rattle.ip_tree.specs.Known.{below_unread, known_of}
use Rattle.ip_tree.specs.Meaning.{RootIs}
use Rattle.ip_tree.specs.Node.{Root, unread, loaded, steps_in}
use Rattle.ip_tree.specs.Shown.{shown_root}
use Rattle.ip_tree.specs.TreeView.{IsView}
use Rattle.ip_tree.specs.declared.tree.Tree as code
use Rattle.ip_tree.proofs.KnownParts.{known_part_is}
use Rattle.ip_tree.proofs.KnownStands.{among_stands, root_part, unread_stands}
use Rattle.ip_tree.proofs.PartLookups.{part_given}
use Rattle.ip_tree.proofs.StoredBelow.{IsStoredAt, step_below}

module _ (records : ℕ → Option Record) where
  -- the root itself, which may be empty
  here_known : (t : Tree) (is : List ℕ) (o : ℕ) → IsFalse (is_contents t) → is_part_from 0 (entries_of t).entries is ≡ true → PartAt records (length is) o (part (entries_of t).entries is) → IsStoredAt records [] (subtree t []) is o
  here_known t is o no_contents is_part spells = record {
    is_part = root_part t is no_contents ∙ is_part;
    spells = λ _. subst (λ (w : Tree). PartAt records (length is) o (part (entries_of w).entries is)) (sym (subtree_root t)) spells;
    bytes = λ b g. absurd (false≢true (sym no_contents ∙ ap is_some (sym (ap (λ (w : Tree). get w []) (subtree_root t)) ∙ g)));
  }

  pub root_known : (root : Root) (t : Tree) (path : Path) (is : List ℕ) (o : ℕ) → RootIs records root t → known_of records root (record { path = path; indexes = is }) ≡ Some o → IsStoredAt records path (subtree t path) is o
  root_known (unread r) t [] is o means e =
      let p = part_given records is o means.1.part e in
      let none : 0 + length is ≡ length is = omega arith in
      here_known t is o means.0 p.is_part (subst (λ n. PartAt records n o (part (entries_of t).entries is)) none p.spells)
  root_known (unread r) t (s ∷ path) is o means e = step_below records s path (s ∷ path) t is o r.at means.1.part e
  root_known (loaded root ns) t [] is o means e =
      let p = known_part_is records root (steps_in ns) (entries_of t).entries means.steps means.parts is o e in here_known t is o means.directory p.is_part p.spells
  root_known (loaded root ns) t (s ∷ path) is o means e =
      among_stands records ns t s path (s ∷ path) is o (below_unread records root s path is) means.nodes (λ f. unread_stands records root t s path (s ∷ path) is o means.parts f) e

  pub view_known : (tree : code.Tree) (v : View) (path : Path) (is : List ℕ) (o : ℕ) → IsView records tree v → v.known (record { path = path; indexes = is }) ≡ Some o → IsStoredAt records path (subtree v.map path) is o
  view_known tree v path is o view e = root_known (shown_root tree.root) v.map path is o view.root (sym (view.known (record { path = path; indexes = is })) ∙ e)

pub known_stand : (records : ℕ → Option Record) (tree : code.Tree) (v : View) (end : ℕ) → IsView records tree v → ((at : ℕ) (r : Record) → records at ≡ Some r → at < end) → KnownStand records v end
known_stand records tree v end is low = record {
  below = low;
  bytes = λ p o b known here. (view_known records tree v p [] o is known).bytes b (get-subtree v.map p [] ∙ ap (get v.map) (append-nil p) ∙ here);
  parts = λ p indexes o known no_bytes. (view_known records tree v p indexes o is known).spells no_bytes;
}

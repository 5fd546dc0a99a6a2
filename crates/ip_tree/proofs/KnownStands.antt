-- What is known below a node stands there.
--     known_stands      where an offset is known, the record there spells a part of what stands at the path
--     root_part      of a directory, the parts at its own path are those of its entries
use Rattle.std.proofs.Common.{◌≡◌, ℕ, zero, suc, ◌+◌, Bool, true, false, List, [], ◌∷◌, length, refl, sym, ap, subst, ◌∙◌, Option, Some, None, cond, arith}
use Rattle.std.proofs.lemmas.Bool.{false≢true}
use Rattle.std.specs.Prelude.{◌&&◌, IsFalse, IsSomeAnd, if◌then◌else◌, is_some, option_map}
use Rattle.std.specs.FinMap.Entries.{find}
use Rattle.ip_spec.specs.Path.{Step, Path, bytes_cmp, same_bytes}
use Rattle.ip_spec.specs.declared.record.Record.{Record}
use Rattle.ip_spec.specs.declared.record.LeafEntry.{LeafEntry}
use Rattle.ip_spec.specs.Tree.{Tree, entries_of, is_contents, is_empty, subtree}
use Rattle.ip_spec.specs.Shape.{deepest, part}
use Rattle.ip_spec.specs.StoredParts.{entry_through}
use Rattle.ip_spec.specs.View.{is_nil, is_part, is_part_at, is_part_from, leads}
use Rattle.ip_spec.proofs.Subtrees.{empty_is, entry_found, subtree_cons, subtree_root}
use Rattle.ip_shape.specs.Loaded.{unread_in, way, way_to}
use Rattle.ip_shape.specs.declared.part.Part.{Part}
use Rattle.ip_shape.proofs.Steps.{equal, same_step}
use Rattle.ip_tree.specs.Node.{Node, Nodes, stored, contents, directory, none, first, steps_in}
use Rattle.ip_tree.specs.Meaning.{HasSteps, IsSome, KnowsParts, NodeIs, NodesAre}
use Rattle.ip_tree.specs.Known.{below_entry, below_unread, known_among, known_at, known_part, unread_entry}
use Rattle.ip_tree.specs.Reads.{FindsEntry, stored_of_entry}
use Rattle.ip_tree.specs.declared.node.Stored.{Stored}
use Rattle.ip_tree.proofs.Indexes.{first_unread, no_some}
use Rattle.ip_tree.proofs.KnownParts.{known_part_is, long_append}
use Rattle.ip_tree.proofs.LeafEntered.{if_led}
use Rattle.ip_tree.proofs.PartEntries.{part_found}
use Rattle.ip_tree.proofs.PartLookups.{through}
use Rattle.ip_tree.proofs.StoredBelow.{IsStoredAt, stored_below}
use Rattle.ip_tree.proofs.Trees.{entries_of_nothing}

long_from : (levels depth : ℕ) (s : Step) → length (way levels depth s) ≡ levels
long_from zero depth s = refl
long_from (suc levels) depth s = ap suc (long_from levels (suc depth) s)

pub long_way : (s : Step) → length (way_to s) ≡ 51
unfolding way_to
long_way s = long_from deepest 0 s

module _ (records : ℕ → Option Record) where
  below_step : (sub w : Tree) (s : Step) (path whole : Path) (is : List ℕ) (o : ℕ) → find bytes_cmp s (entries_of sub).entries ≡ Some w → IsStoredAt records whole (subtree w path) is o → IsStoredAt records whole (subtree sub (s ∷ path)) is o
  below_step sub w s path whole is o found at = subst (λ t. IsStoredAt records whole t is o) (ap (λ w. subtree w path) (entry_found sub s w found).is ∙ sym (subtree_cons sub s path)) at

  root_stands : (root : Part Stored) (read : List Step) (sub : Tree) (whole : Path) (is : List ℕ) (o : ℕ) → IsSome sub → HasSteps root read (entries_of sub).entries → KnowsParts records root (entries_of sub).entries → known_part records root is ≡ Some o
      → IsStoredAt records whole sub is o
  root_stands root read sub whole is o some steps known e =
      let p = known_part_is records root read (entries_of sub).entries steps known is o e in
      record {
        is_part = ap (λ b. if b then is_nil is else if is_empty sub then is_nil whole && is_nil is else is_part_from 0 (entries_of sub).entries is) some.directory
            ∙ ap (λ b. if b then is_nil whole && is_nil is else is_part_from 0 (entries_of sub).entries is) some.some ∙ p.is_part;
        spells = λ _. p.spells;
        bytes = λ b g. absurd (false≢true (sym some.directory ∙ ap is_some g));
      }

  pub unread_stands : (root : Part Stored) (sub : Tree) (s : Step) (path whole : Path) (is : List ℕ) (o : ℕ) → KnowsParts records root (entries_of sub).entries → below_unread records root s path is ≡ Some o → IsStoredAt records whole (subtree sub (s ∷ path)) is o
  unread_stands root sub s path whole is o known e = by (unread_in (way_to s) root) refl e
    where
      at : (front : List ℕ) (f : Option LeafEntry) → FindsEntry records (part (entries_of sub).entries front) s (option_map stored_of_entry f) → below_entry records path is f ≡ Some o → IsStoredAt records whole (subtree sub (s ∷ path)) is o
      at front None finds g = no_some o g
      at front (Some x) finds g =
          below_step sub finds.0 s path whole is o (if_led (leads 0 front s) (find bytes_cmp s (entries_of sub).entries) finds.0 (sym (part_found 0 front (entries_of sub).entries s) ∙ finds.1))
          (stored_below records path whole finds.0 is o (stored_of_entry x) finds.2 g)

      by : (u : Option (Stored × List ℕ)) → unread_in (way_to s) root ≡ u → below_entry records path is (unread_entry records s u) ≡ Some o → IsStoredAt records whole (subtree sub (s ∷ path)) is o
      by None a g = no_some o g
      by (Some u) a g =
          let f = first_unread (way_to s) u.0 u.1 root a in
          let sum : length u.1 + length f.front ≡ 51 = omega (arith, long_append f.front u.1, ap (λ (l : List ℕ). length l) f.whole, long_way s) in
          at f.front (entry_through (length u.1) records s u.0.reference.at) (through records (length u.1) (known.unread f.front u.0 f.found).spells.part sum s) g

  first_stands : (n : Node) (sub : Tree) (s t : Step) (path whole : Path) (is : List ℕ) (o : ℕ) (other : Option ℕ) (b : Bool) → same_bytes s t ≡ b → IsSomeAnd (find bytes_cmp t (entries_of sub).entries) (λ w. NodeIs records n w)
      → ((w : Tree) → NodeIs records n w → known_at records n path is ≡ Some o → IsStoredAt records whole (subtree w path) is o) → (other ≡ Some o → IsStoredAt records whole (subtree sub (s ∷ path)) is o)
      → cond b (known_at records n path is) other ≡ Some o → IsStoredAt records whole (subtree sub (s ∷ path)) is o
  first_stands n sub s t path whole is o other true f here deeper later e =
      at (find bytes_cmp s (entries_of sub).entries) refl (subst (λ k. IsSomeAnd (find bytes_cmp k (entries_of sub).entries) (λ w. NodeIs records n w)) (sym (same_step s t (equal _ f))) here)
    where
      at : (x : Option Tree) → find bytes_cmp s (entries_of sub).entries ≡ x → IsSomeAnd x (λ w. NodeIs records n w) → IsStoredAt records whole (subtree sub (s ∷ path)) is o
      at None g m = absurd m
      at (Some w) g m = below_step sub w s path whole is o g (deeper w m e)
  first_stands n sub s t path whole is o other false f here deeper later e = later e

  mutual
    pub known_stands : (n : Node) (sub : Tree) (path whole : Path) (is : List ℕ) (o : ℕ) → NodeIs records n sub → known_at records n path is ≡ Some o → IsStoredAt records whole (subtree sub path) is o
    known_stands (stored x) sub path whole is o means e = stored_below records path whole sub is o x means e
    known_stands (contents bytes) sub path whole is o means e = no_some o e
    known_stands (directory root ns) sub [] whole is o means e = subst (λ t. IsStoredAt records whole t is o) (sym (subtree_root sub)) (root_stands root (steps_in ns) sub whole is o means.0 means.1 means.2 e)
    known_stands (directory root ns) sub (s ∷ path) whole is o means e =
        among_stands ns sub s path whole is o (below_unread records root s path is) means.3 (λ f. unread_stands root sub s path whole is o means.2 f) e

    pub among_stands : (ns : Nodes) (sub : Tree) (s : Step) (path whole : Path) (is : List ℕ) (o : ℕ) (other : Option ℕ) → NodesAre records ns (entries_of sub).entries
        → (other ≡ Some o → IsStoredAt records whole (subtree sub (s ∷ path)) is o) → known_among records ns s path is other ≡ Some o → IsStoredAt records whole (subtree sub (s ∷ path)) is o
    among_stands none sub s path whole is o other are rest e = rest e
    among_stands (first t n ns) sub s path whole is o other are rest e =
        first_stands n sub s t path whole is o (known_among records ns s path is other) (same_bytes s t) refl are.0 (λ w m f. known_stands n w path whole is o m f) (λ f. among_stands ns sub s path whole is o other are.1 rest f) e

pub root_part : (u : Tree) (is : List ℕ) → IsFalse (is_contents u) → is_part u (record { path = []; indexes = is }) ≡ is_part_from 0 (entries_of u).entries is
root_part u is no_contents =
    ap (λ t. is_part_at [] t is) (subtree_root u)
    ∙ ap (λ b. if b then is_nil is else if is_empty u then true && is_nil is else is_part_from 0 (entries_of u).entries is) no_contents ∙ by (is_empty u) refl
  where
    nothing : (w : List ℕ) → is_nil w ≡ is_part_from 0 [] w
    nothing [] = refl
    nothing (i ∷ w) = refl

    by : (b : Bool) → is_empty u ≡ b → (if b then true && is_nil is else is_part_from 0 (entries_of u).entries is) ≡ is_part_from 0 (entries_of u).entries is
    by true e = nothing is ∙ ap (λ l. is_part_from 0 l is) (sym entries_of_nothing ∙ ap (λ (t : Tree). (entries_of t).entries) (sym (empty_is u e)))
    by false e = refl

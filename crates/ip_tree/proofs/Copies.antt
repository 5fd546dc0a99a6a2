-- A directory once more, with copies of its nodes.
--     AreCopies old new      entries at the same steps, each of which means and knows what the other does
--     copies_push      one more
--     copied      a directory of such entries that knows the same parts
use Rattle.std.proofs.Common.{◌≡◌, ℕ, List, [], ◌∷◌, ◌++◌, map, refl, sym, ap, subst, ◌∙◌, Option, Some, None, cond}
use Rattle.std.specs.Prelude.{IfOk, IsSomeAnd, Result, Ok, Err}
use Rattle.std.specs.FinMap.Entries.{find}
use Rattle.ip_spec.specs.Path.{Step, Path, bytes_cmp, same_bytes}
use Rattle.ip_spec.specs.Shape.{Entries}
use Rattle.ip_spec.specs.Tree.{Tree, entries_of}
use Rattle.ip_spec.specs.declared.record.Record.{Record}
use Rattle.ip_shape.specs.Directory.{IsPartly, entries_in, root_of, steps_of}
use Rattle.ip_shape.specs.Loaded.{IsUnchanged, known_in, unread_in, way_to}
use Rattle.ip_shape.specs.declared.dir.Dir.{Dir}
use Rattle.ip_tree.specs.Edits.{IsDirectory, IsSame}
use Rattle.ip_tree.specs.Known.{below_entry, below_unread, known_among, known_at, known_by, unread_entry}
use Rattle.ip_tree.specs.Meaning.{NodeIs, NodesAre}
use Rattle.ip_tree.specs.Node.{nodes_of}
use Rattle.ip_tree.specs.Shown.{entries_shown, shown, shown_directory}
use Rattle.ip_tree.specs.declared.node.Node.{Node}
use Rattle.ip_tree.specs.declared.node.Stored.{Stored}
use Rattle.ip_tree.proofs.PartlyShown.{has_steps, partly, show}

abbrev pub IsCopy : Node → Node → Type 0
IsCopy n m = (records : ℕ → Option Record) (t : Tree) → NodeIs records (shown n) t → IsSame (NodeIs records) records (shown n) (shown m) t

abbrev pub AreCopies : List (Step × Node) → List (Step × Node) → Type 0
AreCopies [] [] = Unit {0}
AreCopies [] (y ∷ ys) = ⊥
AreCopies (x ∷ xs) [] = ⊥
AreCopies (x ∷ xs) (y ∷ ys) = (y.0 ≡ x.0) × IsCopy x.1 y.1 × AreCopies xs ys

pub copies_push : (xs ys : List (Step × Node)) (x y : Step × Node) → AreCopies xs ys → y.0 ≡ x.0 → IsCopy x.1 y.1 → AreCopies (xs ++ x ∷ []) (ys ++ y ∷ [])
copies_push [] [] x y are same copy = (same, copy, tt)
copies_push [] (z ∷ ys) x y are same copy = absurd are
copies_push (z ∷ xs) [] x y are same copy = absurd are
copies_push (w ∷ xs) (z ∷ ys) x y are same copy = (are.0, are.1, copies_push xs ys x y are.2 same copy)

copies_steps : (xs ys : List (Step × Node)) → AreCopies xs ys → steps_of ys ≡ steps_of xs
copies_steps [] [] are = refl
copies_steps [] (y ∷ ys) are = absurd are
copies_steps (x ∷ xs) [] are = absurd are
copies_steps (x ∷ xs) (y ∷ ys) are = ap (λ (s : Step). s ∷ steps_of ys) are.0 ∙ ap (λ (ss : List Step). x.0 ∷ ss) (copies_steps xs ys are.2)

module _ (records : ℕ → Option Record) where
  one_copy : (n m : Node) (o : Option Tree) → IsCopy n m → IsSomeAnd o (λ sub. NodeIs records (shown n) sub) → IsSomeAnd o (λ sub. NodeIs records (shown m) sub)
  one_copy n m None copy is = is
  one_copy n m (Some sub) copy is = (copy records sub is).means

  same_copy : (n m : Node) (o : Option Tree) (path : Path) (is : List ℕ) → IsCopy n m → IsSomeAnd o (λ sub. NodeIs records (shown n) sub) → known_at records (shown m) path is ≡ known_at records (shown n) path is
  same_copy n m None path is copy means = absurd means
  same_copy n m (Some sub) path is copy means = (copy records sub means).known (record { path = path; indexes = is })

  copied_nodes : (xs ys : List (Step × Node)) (es : Entries) → AreCopies xs ys → NodesAre records (nodes_of (map show xs)) es → NodesAre records (nodes_of (map show ys)) es
  copied_nodes [] [] es are means = means
  copied_nodes [] (y ∷ ys) es are means = absurd are
  copied_nodes (x ∷ xs) [] es are means = absurd are
  copied_nodes (x ∷ xs) (y ∷ ys) es are means =
      (subst (λ (s : Step). IsSomeAnd (find bytes_cmp s es) (λ sub. NodeIs records (shown y.1) sub)) (sym are.0) (one_copy x.1 y.1 (find bytes_cmp x.0 es) are.1 means.0), copied_nodes xs ys es are.2 means.1)

  copied_known : (xs ys : List (Step × Node)) (es : Entries) (s : Step) (path : Path) (is : List ℕ) (other : Option ℕ) → AreCopies xs ys → NodesAre records (nodes_of (map show xs)) es
      → known_among records (nodes_of (map show ys)) s path is other ≡ known_among records (nodes_of (map show xs)) s path is other
  copied_known [] [] es s path is other are means = refl
  copied_known [] (y ∷ ys) es s path is other are means = absurd are
  copied_known (x ∷ xs) [] es s path is other are means = absurd are
  copied_known (x ∷ xs) (y ∷ ys) es s path is other are means =
      ap (λ t. cond (same_bytes s t) (known_at records (shown y.1) path is) (known_among records (nodes_of (map show ys)) s path is other)) are.0
      ∙ ap (λ k. cond (same_bytes s x.0) k (known_among records (nodes_of (map show ys)) s path is other)) (same_copy x.1 y.1 (find bytes_cmp x.0 es) path is are.1 means.0)
      ∙ ap (cond (same_bytes s x.0) (known_at records (shown x.1) path is)) (copied_known xs ys es s path is other are.2 means.1)

  module _ (d e : Dir Node Stored) (t : Tree) (children : List (Step × Node)) (are : AreCopies (entries_in d) children) (means : IsDirectory records (shown_directory d) t) (made : IsPartly e (steps_of (entries_of t).entries) children)
      (same : IsUnchanged (root_of d) (root_of e)) where
    same_at : (path : Path) (is : List ℕ) → known_at records (shown_directory e) path is ≡ known_at records (shown_directory d) path is
    same_at [] is = ap (λ k. known_by records k (unread_in is (root_of e))) (same is).1 ∙ ap (known_by records (known_in is (root_of d))) (same is).0
    same_at (s ∷ path) is =
        ap (λ u. known_among records (nodes_of (entries_shown e)) s path is (below_entry records path is (unread_entry records s u))) (same (way_to s)).0
        ∙ ap (λ (l : List (Step × Node)). known_among records (nodes_of (map show l)) s path is (below_unread records (root_of d) s path is)) made.0
        ∙ copied_known (entries_in d) children (entries_of t).entries s path is (below_unread records (root_of d) s path is) are means.nodes

    copied_same : IsSame (IsDirectory records) records (shown_directory d) (shown_directory e) t
    copied_same = record {
      means = record {
        directory = means.directory;
        steps = has_steps e (steps_of (entries_of t).entries) children (entries_of t).entries made refl;
        parts = record { known = λ is x f. means.parts.known is x (sym (same is).1 ∙ f); unread = λ is x f. means.parts.unread is x (sym (same is).0 ∙ f) };
        nodes = subst (λ (l : List (Step × Node)). NodesAre records (nodes_of (map show l)) (entries_of t).entries) (sym made.0) (copied_nodes (entries_in d) children (entries_of t).entries are means.nodes);
      };
      known = λ p. same_at p.path p.indexes;
    }

pub copied : {E : Type 0} (d : Dir Node Stored) (children : List (Step × Node)) (result : Result (Dir Node Stored) E) → AreCopies (entries_in d) children
    → ((steps : List Step) (entries : List (Step × Node)) → IsPartly d steps entries → steps_of children ≡ steps_of entries → IfOk result (λ copy. IsPartly copy steps children)) → IfOk result (λ copy. IsUnchanged (root_of d) (root_of copy))
    → IfOk result (λ copy. (records : ℕ → Option Record) (t : Tree) → IsDirectory records (shown_directory d) t → IsSame (IsDirectory records) records (shown_directory d) (shown_directory copy) t)
copied d children (Ok e) are made same = λ records t means.
    copied_same records d e t children are means (made (steps_of (entries_of t).entries) (entries_in d) (partly records d t means) (copies_steps (entries_in d) children are)) same
copied d children (Err fault) are made same = tt

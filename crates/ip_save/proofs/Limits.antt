-- A tree that keeps the limits gives no cause to refuse it.
use Rattle.std.proofs.Common.{◌≡◌, ℕ, ◌≤◌, List, [], ◌∷◌, ◌++◌, refl, sym, subst, ◌∙◌, Option, Some, None, map, length, arith}
use Rattle.std.specs.Prelude.{IsSomeAnd}
use Rattle.std.specs.List.{AllByRecursion}
use Rattle.std.specs.FinMap.Entries.{find}
use Rattle.ip_base.specs.declared.limit.Limit.TheVariants as limit
use Rattle.ip_spec.specs.Map.{len}
use Rattle.ip_spec.specs.Path.{Bytes, Step, Path, bytes_cmp}
use Rattle.ip_spec.specs.declared.record.Record.{Record}
use Rattle.ip_spec.specs.Step.{contents_limit, entries_limit}
use Rattle.ip_spec.specs.Tree.{Tree, entries_of, subtree}
use Rattle.ip_spec.specs.Shape.{Entries, deepest}
use Rattle.ip_spec.specs.View.{View}
use Rattle.ip_spec.specs.Batch as Batches
use Rattle.ip_spec.proofs.Subtrees.{entry_found, narrow_under}
use Rattle.ip_spec.proofs.Widths.{NoneWider, none_wider, root_none_wider}
use Rattle.ip_shape.specs.declared.part.Part.{Part}
use Rattle.ip_shape.proofs.ByEntries.{as_long}
use Rattle.ip_tree.specs.Node.{Node, Nodes, Root, stored, contents as new_contents, directory, none, first, unread, loaded, steps_in}
use Rattle.ip_tree.specs.Meaning.{HasSteps, NodeIs, NodesAre, RootIs, steps_of}
use Rattle.ip_tree.specs.Shown.{shown_root}
use Rattle.ip_tree.specs.TreeView.{IsView}
use Rattle.ip_tree.specs.declared.node.Stored.{Stored}
use Rattle.ip_tree.specs.declared.tree.Tree as code
use Rattle.ip_save.specs.declared.batch.SaveFault.{SaveFault}
use Rattle.ip_save.specs.declared.batch.SaveFault.TheVariants.{Limit, Space, Fetch, Memory}
use Rattle.ip_save.specs.Batches.{HasShortContents, IsSaveFault}
use Rattle.ip_save.specs.Laid.{IsCause, IsRootFault, behind_bytes, breadth, breadth_among, breadth_root, count_of, fresh, fresh_among, fresh_root, lay_root, longest, longest_among, longest_root, record_of, unless_known}
use Rattle.ip_save.specs.Reused.{IsFreeSave, IsFreshFault}
use Rattle.ip_save.proofs.Agreeing.{shape_count}
use Rattle.ip_save.proofs.News.{fresh_values_root, news_root, value_of}
use Rattle.ip_save.proofs.Placed.{IsNew}

-- ---- contents

each_left : {A : Type 0} (P : A → Type 0) (xs ys : List A) → AllByRecursion P (xs ++ ys) → AllByRecursion P xs
each_left P [] ys each = tt
each_left P (x ∷ xs) ys each = (each.0, each_left P xs ys each.1)

each_right : {A : Type 0} (P : A → Type 0) (xs ys : List A) → AllByRecursion P (xs ++ ys) → AllByRecursion P ys
each_right P [] ys each = each
each_right P (x ∷ xs) ys each = each_right P xs ys each.1

abbrev IsWithin : ℕ → Bytes → Type 0
IsWithin m b = length b ≤ m

mutual
  longest_within : (n : Node) (m : ℕ) → AllByRecursion (IsWithin m) (fresh n) → longest n ≤ m
  longest_within (stored x) m each = omega arith
  longest_within (new_contents b) m each = each.0
  longest_within (directory root ns) m each = by (record_of root) each (λ below. among_within ns m below)
    where
      by : (o : Option Stored) → AllByRecursion (IsWithin m) (unless_known o [] (fresh_among ns)) → (AllByRecursion (IsWithin m) (fresh_among ns) → longest_among ns ≤ m) → unless_known o 0 (longest_among ns) ≤ m
      by (Some x) below low = omega arith
      by None below low = low below

  among_within : (ns : Nodes) (m : ℕ) → AllByRecursion (IsWithin m) (fresh_among ns) → longest_among ns ≤ m
  among_within none m each = omega arith
  among_within (first s n ns) m each =
      let one = longest_within n m (each_left (IsWithin m) (fresh n) (fresh_among ns) each) in
      let rest = among_within ns m (each_right (IsWithin m) (fresh n) (fresh_among ns) each) in
      omega arith

root_within : (root : Root) (m : ℕ) → AllByRecursion (IsWithin m) (fresh_root root) → longest_root root ≤ m
root_within (unread r) m each = omega arith
root_within (loaded root ns) m each = longest_within (directory root ns) m each

values_short : (v : View) → HasShortContents v.map → (xs : List (Path × Bytes)) → AllByRecursion (IsNew v) xs → AllByRecursion (IsWithin contents_limit) (map value_of xs)
values_short v short [] each = tt
values_short v short (x ∷ xs) each = (short x.0 x.1 each.0.here, values_short v short xs each.1)

-- ---- entries

child_narrow : (n : ℕ) (t sub : Tree) (s : Step) → sub ≡ subtree t (s ∷ []) → NoneWider n t → NoneWider n sub
child_narrow n t sub s is low = subst (NoneWider n) (sym is) (λ p. subst (λ (u : Tree). len (entries_of u) ≤ n) (sym (narrow_under t s p)) (low (s ∷ p)))

module _ (records : ℕ → Option Record) where
  count_is : (root : Part Stored) (read : List Step) (t : Tree) → HasSteps root read (entries_of t).entries → count_of root ≡ len (entries_of t)
  count_is root read t steps = shape_count deepest 0 (steps_of (entries_of t).entries) root steps.shape ∙ as_long (entries_of t).entries

  some_narrow : (s : Step) (o : Option Tree) (n : Node) (all : Entries) → find bytes_cmp s all ≡ o → IsSomeAnd o (λ sub. NodeIs records n sub) → ((s : Step) (sub : Tree) → find bytes_cmp s all ≡ Some sub → NoneWider entries_limit sub)
      → ((sub : Tree) → NodeIs records n sub → NoneWider entries_limit sub → breadth n ≤ entries_limit) → breadth n ≤ entries_limit
  some_narrow s None n all found is narrow one = absurd is
  some_narrow s (Some sub) n all found is narrow one = one sub is (narrow s sub found)

  mutual
    node_narrow : (n : Node) (t : Tree) → NodeIs records n t → NoneWider entries_limit t → breadth n ≤ entries_limit
    node_narrow (stored x) t is narrow = omega arith
    node_narrow (new_contents b) t is narrow = omega arith
    node_narrow (directory root ns) t is narrow =
        let own = root_none_wider entries_limit t narrow in
        let same = count_is root (steps_in ns) t is.1 in
        let below = nodes_narrow ns (entries_of t).entries is.3 (λ s sub found. child_narrow entries_limit t sub s (entry_found t s sub found).is narrow) in
        omega (arith, own, same, below)

    nodes_narrow : (ns : Nodes) (all : Entries) → NodesAre records ns all → ((s : Step) (sub : Tree) → find bytes_cmp s all ≡ Some sub → NoneWider entries_limit sub) → breadth_among ns ≤ entries_limit
    nodes_narrow none all are narrow = omega arith
    nodes_narrow (first s n ns) all are narrow =
        let one = some_narrow s (find bytes_cmp s all) n all refl are.0 narrow (λ sub is low. node_narrow n sub is low) in
        let rest = nodes_narrow ns all are.1 narrow in
        omega (arith, one, rest)

  root_narrow : (root : Root) (t : Tree) → RootIs records root t → NoneWider entries_limit t → breadth_root root ≤ entries_limit
  root_narrow (unread r) t is narrow = omega arith
  root_narrow (loaded root ns) t is narrow =
      let own = root_none_wider entries_limit t narrow in
      let same = count_is root (steps_in ns) t is.steps in
      let below = nodes_narrow ns (entries_of t).entries is.nodes (λ s sub found. child_narrow entries_limit t sub s (entry_found t s sub found).is narrow) in
      omega (arith, own, same, below)

-- ---- no cause

module _ (v : View) (other : Option View) (fields : Batches.CommitFields) (end : ℕ) where
  no_long : (l : ℕ) (f : SaveFault) → IsFreshFault l f → IsFreeSave f → l ≤ contents_limit → IsSaveFault v other fields end f
  no_long l (Limit limit.Contents) is free low = absurd (omega (arith, is, low))
  no_long l (Limit limit.Entries) is free low = is
  no_long l (Limit limit.Depth) is free low = is
  no_long l (Limit limit.Parents) is free low = is
  no_long l (Limit limit.Branches) is free low = is
  no_long l (Limit limit.Space) is free low = is
  no_long l (Limit limit.Sequence) is free low = is
  no_long l (Limit limit.Attempt) is free low = is
  no_long l (Space name) is free low = absurd is
  no_long l (Fetch fault) is free low = free
  no_long l Memory is free low = tt

  no_wide : (b h : ℕ) (f : SaveFault) → IsCause b h f → b ≤ entries_limit → h ≤ 64 → IsSaveFault v other fields end f
  no_wide b h (Limit limit.Contents) is narrow shallow = is
  no_wide b h (Limit limit.Entries) is narrow shallow = absurd (omega (arith, is, narrow))
  no_wide b h (Limit limit.Depth) is narrow shallow = absurd (omega (arith, is, shallow))
  no_wide b h (Limit limit.Parents) is narrow shallow = is
  no_wide b h (Limit limit.Branches) is narrow shallow = is
  no_wide b h (Limit limit.Space) is narrow shallow = is
  no_wide b h (Limit limit.Sequence) is narrow shallow = is
  no_wide b h (Limit limit.Attempt) is narrow shallow = is
  no_wide b h (Space name) is narrow shallow = absurd is
  no_wide b h (Fetch fault) is narrow shallow = absurd is
  no_wide b h Memory is narrow shallow = tt

module _ (records : ℕ → Option Record) (tree : code.Tree) (v : View) (is : IsView records tree v) (other : Option View) (fields : Batches.CommitFields) (end : ℕ) (f : SaveFault) where
  pub none_too_long : HasShortContents v.map → AllByRecursion (IsNew v) (news_root (shown_root tree.root)) → IsFreshFault (longest_root (shown_root tree.root)) f → IsFreeSave f → IsSaveFault v other fields end f
  none_too_long short new cause free =
      let root = shown_root tree.root in
      let each = subst (AllByRecursion (IsWithin contents_limit)) (fresh_values_root root) (values_short v short (news_root root) new) in
      no_long v other fields end (longest_root root) f cause free (root_within root contents_limit each)

  pub none_too_wide : (refs : List Stored) (before : Bytes) → (lay_root refs (shown_root tree.root) (behind_bytes end before)).stands.height ≤ 64 → IsRootFault end refs (shown_root tree.root) before f → IsSaveFault v other fields end f
  none_too_wide refs before low cause =
      let root = shown_root tree.root in
      let narrow : NoneWider entries_limit v.map = (λ p. let most = none_wider v.map p in let all = is.narrow in omega (arith, most, all)) in
      no_wide v other fields end (breadth_root root) (lay_root refs root (behind_bytes end before)).stands.height f cause (root_narrow records root v.map is.root narrow) low

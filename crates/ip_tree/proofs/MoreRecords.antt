-- A tree over some records is the same tree over more of them.
--     leaf_entry, last_entry, next_entry      the entry at a step, from a leaf, and from an inode
--     more_node, more_root      it means the same
--     same_entry      a walk to a step leads where it did
--     whole_same      and the same parts are known.      view_stays      so it has the same view
use Rattle.std.proofs.Common.{◌≡◌, ℕ, zero, suc, ◌+◌, List, [], ◌∷◌, length, refl, sym, ap, ◌∙◌, Option, Some, None, cond, arith}
use Rattle.std.specs.Prelude.{IsSomeAnd, option_and_then, option_map}
use Rattle.std.specs.FinMap.Entries.{find}
use Rattle.ip_spec.specs.Path.{Bytes, Step, Path, bytes_cmp, same_bytes}
use Rattle.ip_spec.specs.Shape.{Entries, at_place, deepest, part, place}
use Rattle.ip_spec.specs.StoredParts.{child_with, entry_at, entry_by, entry_named, entry_through, part_at, part_by, stored_at, stored_by, stored_part}
use Rattle.ip_spec.specs.Tree.{Tree, entries_of}
use Rattle.ip_spec.specs.TreeAt.{PartAt, leaf_at, inode_at}
use Rattle.ip_spec.specs.View.{View}
use Rattle.ip_spec.specs.declared.record.InodeChild.{InodeChild}
use Rattle.ip_spec.specs.declared.record.LeafEntry.{LeafEntry}
use Rattle.ip_spec.specs.declared.record.Record.{Record}
use Rattle.ip_spec.proofs.TreeAtLaws.{more_part}
use Rattle.ip_shape.specs.Loaded.{known_in, unread_in, way_to}
use Rattle.ip_shape.specs.Reading.{child_in}
use Rattle.ip_shape.specs.declared.part.Part as shape
use Rattle.ip_tree.specs.Known.{below_entry, below_unread, known_among, known_at, known_by, known_of, known_part, offset_of, unread_entry}
use Rattle.ip_tree.specs.Meaning.{KnowsParts, NodeIs, NodesAre, RootIs, SpellsAt, SpellsPart, StoredIs, contents_in, directory_in}
use Rattle.ip_tree.specs.Node.{Node, Nodes, Root, stored, contents, directory, none, first, unread, loaded}
use Rattle.ip_tree.specs.Reads.{FindsEntry, children_read, stored_of_entry}
use Rattle.ip_tree.specs.Shown.{shown_root}
use Rattle.ip_tree.specs.TreeView.{IsView}
use Rattle.ip_tree.specs.declared.node.Stored.{Stored}
use Rattle.ip_tree.specs.declared.tree.Tree as code
use Rattle.ip_tree.proofs.Indexes.{first_unread}
use Rattle.ip_tree.proofs.KnownParts.{long_append}
use Rattle.ip_tree.proofs.KnownStands.{long_way}
use Rattle.ip_tree.proofs.PartLookups.{through}
use Rattle.ip_tree.proofs.PartRecords.{IsInode, child_known, child_spelled}

-- ---- one record of a walk

module _ (all : ℕ → Option Record) where
  leaf_part : (at i : ℕ) (is : List ℕ) (fields : List LeafEntry) → all at ≡ Some (Record.Leaf fields) → part_at all (i ∷ is) at ≡ None
  leaf_part at i is fields here = ap (part_by (part_at all is) i) here

  bytes_part : (at i : ℕ) (is : List ℕ) (bytes : Bytes) → all at ≡ Some (Record.Contents bytes) → part_at all (i ∷ is) at ≡ None
  bytes_part at i is bytes here = ap (part_by (part_at all is) i) here

  inode_part : (at i : ℕ) (is : List ℕ) (depth : ℕ) (cs : List InodeChild) → all at ≡ Some (Record.Inode depth cs) → part_at all (i ∷ is) at ≡ option_and_then (part_at all is) (child_with i cs)
  inode_part at i is depth cs here = ap (part_by (part_at all is) i) here

  pub leaf_entry : (levels : ℕ) (s : Step) (at : ℕ) (fields : List LeafEntry) → all at ≡ Some (Record.Leaf fields) → entry_through levels all s at ≡ entry_named s fields
  leaf_entry zero s at fields here = ap (entry_by (λ at. None) s) here
  leaf_entry (suc levels) s at fields here = ap (entry_by (entry_through levels all s) s) here

  bytes_entry : (levels : ℕ) (s : Step) (at : ℕ) (bytes : Bytes) → all at ≡ Some (Record.Contents bytes) → entry_through levels all s at ≡ None
  bytes_entry zero s at bytes here = ap (entry_by (λ at. None) s) here
  bytes_entry (suc levels) s at bytes here = ap (entry_by (entry_through levels all s) s) here

  pub last_entry : (s : Step) (at depth : ℕ) (cs : List InodeChild) → all at ≡ Some (Record.Inode depth cs) → entry_through 0 all s at ≡ option_and_then (λ (at : ℕ). None) (child_with (place s depth) cs)
  last_entry s at depth cs here = ap (entry_by (λ at. None) s) here

  pub next_entry : (levels : ℕ) (s : Step) (at depth : ℕ) (cs : List InodeChild) → all at ≡ Some (Record.Inode depth cs) → entry_through (suc levels) all s at ≡ option_and_then (entry_through levels all s) (child_with (place s depth) cs)
  next_entry levels s at depth cs here = ap (entry_by (entry_through levels all s) s) here

module _ (records more : ℕ → Option Record) (keeps : (at : ℕ) (r : Record) → records at ≡ Some r → more at ≡ Some r) where
  -- ---- it means the same

  more_spelled : (depth : ℕ) (x : Stored) (es : Entries) → SpellsPart records depth x es → SpellsPart more depth x es
  more_spelled depth x es is = record { part = more_part records more keeps is.part; kind = is.kind; name = is.name; height = is.height }

  more_stored : (x : Stored) (t : Tree) → StoredIs records x t → StoredIs more x t
  more_stored x t (contents_in bytes is low child) = contents_in bytes (keeps x.reference.at (Record.Contents bytes) is) low child
  more_stored x t (directory_in sub some spells) = directory_in sub some (more_spelled 0 x (entries_of sub).entries spells)

  more_at : (es : Entries) (is : List ℕ) (x : Stored) → SpellsAt records es is x → SpellsAt more es is x
  more_at es is x at = record { spells = more_spelled (length is) x (part es is) at.spells; some = at.some }

  more_parts : (root : shape.Part Stored) (es : Entries) → KnowsParts records root es → KnowsParts more root es
  more_parts root es parts = record { known = λ is x e. more_at es is x (parts.known is x e); unread = λ is x e. more_at es is x (parts.unread is x e) }

  more_found : (n : Node) (o : Option Tree) → ((sub : Tree) → NodeIs records n sub → NodeIs more n sub) → IsSomeAnd o (λ sub. NodeIs records n sub) → IsSomeAnd o (λ sub. NodeIs more n sub)
  more_found n None deeper is = is
  more_found n (Some sub) deeper is = deeper sub is

  mutual
    pub more_node : (n : Node) (t : Tree) → NodeIs records n t → NodeIs more n t
    more_node (stored x) t is = more_stored x t is
    more_node (contents bytes) t is = is
    more_node (directory root ns) t is = (is.0, is.1, more_parts root (entries_of t).entries is.2, more_nodes ns (entries_of t).entries is.3)

    more_nodes : (ns : Nodes) (es : Entries) → NodesAre records ns es → NodesAre more ns es
    more_nodes none es are = are
    more_nodes (first s n ns) es are = (more_found n (find bytes_cmp s es) (λ sub is. more_node n sub is) are.0, more_nodes ns es are.1)

  pub more_root : (root : Root) (t : Tree) → RootIs records root t → RootIs more root t
  more_root (unread r) t is = (is.0, record { part = more_part records more keeps is.1.part; kind = is.1.kind; name = is.1.name })
  more_root (loaded root ns) t is = record { directory = is.directory; steps = is.steps; parts = more_parts root (entries_of t).entries is.parts; nodes = more_nodes ns (entries_of t).entries is.nodes }

  -- ---- a walk through records leads where it did

  -- one index down
  child_same : {A : Type 0} (f g : ℕ → Option A) (depth at : ℕ) (cs : List InodeChild) (es : Entries) (i : ℕ) → IsInode records depth at depth cs es
      → ((below : ℕ) → PartAt records (suc depth) below (at_place depth i es) → f below ≡ g below) → option_and_then f (child_with i cs) ≡ option_and_then g (child_with i cs)
  child_same f g depth at cs es i inode deeper = ap (option_and_then f) (child_known i cs) ∙ by (child_in i (children_read cs)) refl ∙ sym (ap (option_and_then g) (child_known i cs))
    where
      by : (c : Option (Stored × ℕ)) → child_in i (children_read cs) ≡ c → option_and_then f (option_map (λ (c : Stored × ℕ). offset_of c.0) c) ≡ option_and_then g (option_map (λ (c : Stored × ℕ). offset_of c.0) c)
      by None e = refl
      by (Some c) e = deeper (offset_of c.0) (child_spelled records depth at depth cs es inode i c e).0.part

  same_part : (is : List ℕ) {depth at : ℕ} {es : Entries} → PartAt records depth at es → part_at more is at ≡ part_at records is at
  same_part [] part = refl
  same_part (i ∷ is) (leaf_at {at = at} fields here leaf each) = leaf_part more at i is fields (keeps at (Record.Leaf fields) here) ∙ sym (leaf_part records at i is fields here)
  same_part (i ∷ is) (inode_at {depth = depth} {at = at} {es = es} cs here many each) =
      inode_part more at i is depth cs (keeps at (Record.Inode depth cs) here)
      ∙ child_same (part_at more is) (part_at records is) depth at cs es i record { depth_is = refl; many = many; children = each } (λ below part. same_part is part)
      ∙ sym (inode_part records at i is depth cs here)

  pub same_entry : (levels : ℕ) (s : Step) {depth at : ℕ} {es : Entries} → PartAt records depth at es → entry_through levels more s at ≡ entry_through levels records s at
  same_entry levels s (leaf_at {at = at} fields here leaf each) = leaf_entry more levels s at fields (keeps at (Record.Leaf fields) here) ∙ sym (leaf_entry records levels s at fields here)
  same_entry zero s (inode_at {depth = depth} {at = at} cs here many each) = last_entry more s at depth cs (keeps at (Record.Inode depth cs) here) ∙ sym (last_entry records s at depth cs here)
  same_entry (suc levels) s (inode_at {depth = depth} {at = at} {es = es} cs here many each) =
      next_entry more levels s at depth cs (keeps at (Record.Inode depth cs) here)
      ∙ child_same (entry_through levels more s) (entry_through levels records s) depth at cs es (place s depth) record { depth_is = refl; many = many; children = each } (λ below part. same_entry levels s part)
      ∙ sym (next_entry records levels s at depth cs here)

  -- ---- what is known below a record

  abbrev SameBelow : Path → List ℕ → ℕ → Type 0
  SameBelow path is at = stored_part more at path is ≡ stored_part records at path is

  bytes_same : (path : Path) (is : List ℕ) (at : ℕ) (bytes : Bytes) → records at ≡ Some (Record.Contents bytes) → SameBelow path is at
  unfolding entry_at
  bytes_same [] [] at bytes here = refl
  bytes_same [] (i ∷ is) at bytes here = bytes_part more at i is bytes (keeps at (Record.Contents bytes) here) ∙ sym (bytes_part records at i is bytes here)
  bytes_same (s ∷ path) is at bytes here =
      ap (λ e. option_and_then (part_at more is) (stored_by (stored_at more path) e)) (bytes_entry more deepest s at bytes (keeps at (Record.Contents bytes) here))
      ∙ sym (ap (λ e. option_and_then (part_at records is) (stored_by (stored_at records path) e)) (bytes_entry records deepest s at bytes here))

  -- behind an entry that was found
  found_same : (path : Path) (is : List ℕ) (es : Entries) (s : Step) (o : Option LeafEntry) → ((x : Stored) (sub : Tree) → StoredIs records x sub → SameBelow path is x.reference.at) → FindsEntry records es s (option_map stored_of_entry o)
      → option_and_then (part_at more is) (stored_by (stored_at more path) o) ≡ option_and_then (part_at records is) (stored_by (stored_at records path) o)
  found_same path is es s None deeper finds = refl
  found_same path is es s (Some e) deeper finds = deeper (stored_of_entry e) finds.0 finds.2

  step_same : (s : Step) (path : Path) (is : List ℕ) (at : ℕ) (es : Entries) → ((x : Stored) (sub : Tree) → StoredIs records x sub → SameBelow path is x.reference.at) → PartAt records 0 at es → SameBelow (s ∷ path) is at
  unfolding entry_at
  step_same s path is at es deeper part =
      ap (λ e. option_and_then (part_at more is) (stored_by (stored_at more path) e)) (same_entry deepest s part)
      ∙ found_same path is es s (entry_through deepest records s at) deeper (through records deepest part refl s)

  stored_same : (path : Path) (is : List ℕ) (x : Stored) (sub : Tree) → StoredIs records x sub → SameBelow path is x.reference.at
  stored_same [] is x sub (contents_in bytes here low child) = bytes_same [] is x.reference.at bytes here
  stored_same [] is x sub (directory_in t some spells) = same_part is spells.part
  stored_same (s ∷ path) is x sub (contents_in bytes here low child) = bytes_same (s ∷ path) is x.reference.at bytes here
  stored_same (s ∷ path) is x sub (directory_in t some spells) = step_same s path is x.reference.at (entries_of t).entries (λ y w means. stored_same path is y w means) spells.part

  directory_same : (path : Path) (is : List ℕ) (at : ℕ) (es : Entries) → PartAt records 0 at es → SameBelow path is at
  directory_same [] is at es part = same_part is part
  directory_same (s ∷ path) is at es part = step_same s path is at es (λ y w means. stored_same path is y w means) part

  -- ---- the same parts are known

  module _ (root : shape.Part Stored) (es : Entries) (parts : KnowsParts records root es) where
    root_same : (is : List ℕ) → known_part more root is ≡ known_part records root is
    root_same is = by (unread_in is root) refl
      where
        by : (u : Option (Stored × List ℕ)) → unread_in is root ≡ u → known_by more (known_in is root) u ≡ known_by records (known_in is root) u
        by None a = refl
        by (Some u) a = let f = first_unread is u.0 u.1 root a in same_part u.1 (parts.unread f.front u.0 f.found).spells.part

    entry_same : (s : Step) (path : Path) (is : List ℕ) (front : List ℕ) (o : Option LeafEntry) → FindsEntry records (part es front) s (option_map stored_of_entry o) → below_entry more path is o ≡ below_entry records path is o
    entry_same s path is front None finds = refl
    entry_same s path is front (Some e) finds = stored_same path is (stored_of_entry e) finds.0 finds.2

    unread_same : (s : Step) (path : Path) (is : List ℕ) → below_unread more root s path is ≡ below_unread records root s path is
    unread_same s path is = by (unread_in (way_to s) root) refl
      where
        by : (u : Option (Stored × List ℕ)) → unread_in (way_to s) root ≡ u → below_entry more path is (unread_entry more s u) ≡ below_entry records path is (unread_entry records s u)
        by None a = refl
        by (Some u) a =
            let f = first_unread (way_to s) u.0 u.1 root a in
            let at = (parts.unread f.front u.0 f.found).spells.part in
            let sum : length u.1 + length f.front ≡ 51 = omega (arith, long_append f.front u.1, ap (λ (l : List ℕ). length l) f.whole, long_way s) in
            ap (below_entry more path is) (same_entry (length u.1) s at) ∙ entry_same s path is f.front (entry_through (length u.1) records s u.0.reference.at) (through records (length u.1) at sum s)

  there_same : (n : Node) (path : Path) (is : List ℕ) (o : Option Tree) → ((sub : Tree) → NodeIs records n sub → known_at more n path is ≡ known_at records n path is) → IsSomeAnd o (λ sub. NodeIs records n sub) → known_at more n path is ≡ known_at records n path is
  there_same n path is None deeper here = absurd here
  there_same n path is (Some sub) deeper here = deeper sub here

  mutual
    node_same : (n : Node) (sub : Tree) (path : Path) (is : List ℕ) → NodeIs records n sub → known_at more n path is ≡ known_at records n path is
    node_same (stored x) sub path is means = stored_same path is x sub means
    node_same (contents bytes) sub path is means = refl
    node_same (directory root ns) sub [] is means = root_same root (entries_of sub).entries means.2 is
    node_same (directory root ns) sub (s ∷ path) is means =
        ap (known_among more ns s path is) (unread_same root (entries_of sub).entries means.2 s path is) ∙ among_same ns (entries_of sub).entries s path is (below_unread records root s path is) means.3

    among_same : (ns : Nodes) (es : Entries) (s : Step) (path : Path) (is : List ℕ) (other : Option ℕ) → NodesAre records ns es → known_among more ns s path is other ≡ known_among records ns s path is other
    among_same none es s path is other are = refl
    among_same (first t n ns) es s path is other are =
        ap (λ k. cond (same_bytes s t) k (known_among more ns s path is other)) (there_same n path is (find bytes_cmp t es) (λ sub means. node_same n sub path is means) are.0)
        ∙ ap (cond (same_bytes s t) (known_at records n path is)) (among_same ns es s path is other are.1)

  pub whole_same : (root : Root) (t : Tree) (path : Path) (is : List ℕ) → RootIs records root t → known_of more root (record { path = path; indexes = is }) ≡ known_of records root (record { path = path; indexes = is })
  whole_same (unread r) t path is means = directory_same path is r.at (entries_of t).entries means.1.part
  whole_same (loaded root ns) t [] is means = root_same root (entries_of t).entries means.parts is
  whole_same (loaded root ns) t (s ∷ path) is means =
      ap (known_among more ns s path is) (unread_same root (entries_of t).entries means.parts s path is) ∙ among_same ns (entries_of t).entries s path is (below_unread records root s path is) means.nodes

pub view_stays : (records more : ℕ → Option Record) (tree : code.Tree) (v : View) → IsView records tree v → ((at : ℕ) (r : Record) → records at ≡ Some r → more at ≡ Some r) → IsView more tree v
view_stays records more tree v is keeps = record {
  root = more_root records more keeps (shown_root tree.root) v.map is.root;
  lawful = is.lawful;
  narrow = is.narrow;
  oldest = is.oldest;
  known = λ p. is.known p ∙ sym (whole_same records more keeps (shown_root tree.root) v.map p.path p.indexes is.root);
  below = is.below;
}

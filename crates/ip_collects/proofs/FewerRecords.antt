-- A tree over some records is the same tree over fewer of them, where each part that it knows stays, and all that such a part refers to.
--     known_read      a part that is known was read
--     node_kept, root_kept      it means the same
--     view_kept      and the same parts are known
use Rattle.std.proofs.Common.{◌≡◌, ℕ, Bool, true, false, List, [], ◌∷◌, length, refl, sym, ap, ◌∙◌, Option, Some, None, cond, T}
use Rattle.std.proofs.lemmas.Cmp.{nat_list_cmp_total}
use Rattle.std.specs.Cmp.{tied_itself}
use Rattle.std.specs.FinMap.Entries.{find}
use Rattle.std.specs.Ordering.{is_eq}
use Rattle.std.specs.Prelude.{◌||◌, IsSomeAnd, option_and_then, slice_get}
use Rattle.ip_spec.specs.Path.{Step, Path, bytes_cmp, same_bytes}
use Rattle.ip_spec.specs.Shape.{Entries, part}
use Rattle.ip_spec.specs.Tree.{Tree, entries_of}
use Rattle.ip_spec.specs.View.{View, Part}
use Rattle.ip_spec.specs.declared.record.Record.{Record}
use Rattle.ip_shape.specs.Loaded.{known_in, unread_in, unread_here, unread_below, known_here, known_below}
use Rattle.ip_shape.specs.Shape.{AreSteps, ascend, has, is_below_all}
use Rattle.ip_shape.specs.declared.part.Part as shape
use Rattle.ip_shape.specs.declared.part.Part.{out-Part}
use Rattle.ip_shape.specs.declared.part.Part.TheOpen.{Part-F, Leaf, Inode, Unread}
use Rattle.ip_shape.proofs.Entries.{below_absent}
use Rattle.ip_shape.proofs.Steps.{equal, first, same_step, second}
use Rattle.ip_image.proofs.StayingRecords.{In, refs_of, staying_part}
use Rattle.ip_tree.specs.Known.{below_unread, known_among, known_at, known_by, known_of, known_part}
use Rattle.ip_tree.specs.Meaning.{KnowsParts, NodeIs, NodesAre, RootIs, SpellsPart, StoredIs, contents_in, directory_in}
use Rattle.ip_tree.specs.Node as node
use Rattle.ip_tree.specs.Node.{Node, Nodes, Root, steps_in}
use Rattle.ip_tree.specs.Shown.{shown_root}
use Rattle.ip_tree.specs.TreeView.{IsView}
use Rattle.ip_tree.specs.declared.node.Stored.{Stored}
use Rattle.ip_tree.specs.declared.tree.Tree as code
use Rattle.ip_tree.proofs.Indexes.{no_some}
use Rattle.ip_tree.proofs.MoreRecords.{whole_same}
use Rattle.ip_tree.proofs.PartsPut.{read_ascends}

-- ---- parts

module _ {R : Type 0} where
  read_here : (p : Part-F R (shape.Part R)) (x : R) → known_here p ≡ Some x → unread_here p ≡ None
  read_here (Leaf known steps) x e = refl
  read_here (Inode known count children) x e = refl
  read_here (Unread r count) x e = no_some x e

  read_in : (deeper : shape.Part R → Option R) (other : shape.Part R → Option (R × List ℕ)) (x : R) (o : Option (shape.Part R)) → ((p : shape.Part R) → deeper p ≡ Some x → other p ≡ None) → option_and_then deeper o ≡ Some x → option_and_then other o ≡ None
  read_in deeper other x None each e = refl
  read_in deeper other x (Some p) each e = each p e

  read_below : (i : ℕ) (is : List ℕ) (x : R) (p : Part-F R (shape.Part R)) → ((q : shape.Part R) → known_in is q ≡ Some x → unread_in is q ≡ None) → known_below (known_in is) i p ≡ Some x → unread_below (unread_in is) i is p ≡ None
  read_below i is x (Leaf known steps) each e = refl
  read_below i is x (Inode known count children) each e = read_in (known_in is) (unread_in is) x (slice_get children.items i) each e
  read_below i is x (Unread r count) each e = no_some x e

  pub known_read : (is : List ℕ) (x : R) (p : shape.Part R) → known_in is p ≡ Some x → unread_in is p ≡ None
  known_read [] x p e = read_here (out-Part R p) x e
  known_read (i ∷ is) x p e = read_below i is x (out-Part R p) (λ q f. known_read is x q f) e

not_first : {X : Type 0} (s t : Step) (x y other : X) (c b : Bool) → (b || c) ≡ false → (c ≡ false → y ≡ other) → cond b x y ≡ other
not_first s t x y other c true absent later = absurd (cc (absent))
not_first s t x y other c false absent later = later absent

same_itself : (s : Step) → same_bytes s s ≡ true
same_itself s = ap is_eq (tied_itself nat_list_cmp_total s)

module _ (J K : ℕ → Option Record) (S : ℕ → Type 0) (keeps : (at : ℕ) (r : Record) → S at → J at ≡ Some r → K at ≡ Some r) (closed : (at : ℕ) (r : Record) (b : ℕ) → S at → J at ≡ Some r → In (refs_of r) b → S b) where
  spelled_kept : (depth : ℕ) (x : Stored) (es : Entries) → S x.reference.at → SpellsPart J depth x es → SpellsPart K depth x es
  spelled_kept depth x es stays is = record { part = staying_part J K S keeps closed stays is.part; kind = is.kind; name = is.name; height = is.height }

  stored_kept : (x : Stored) (t : Tree) → S x.reference.at → StoredIs J x t → StoredIs K x t
  stored_kept x t stays (contents_in bytes is low child) = contents_in bytes (keeps x.reference.at (Record.Contents bytes) stays is) low child
  stored_kept x t stays (directory_in sub some spells) = directory_in sub some (spelled_kept 0 x (entries_of sub).entries stays spells)

  part_known : (root : shape.Part Stored) (is : List ℕ) (x : Stored) → known_in is root ≡ Some x → known_part J root is ≡ Some x.reference.at
  part_known root is x e = ap (λ (u : Option (Stored × List ℕ)). known_by J (known_in is root) u) (known_read is x root e) ∙ ap (λ (k : Option Stored). known_by J k None) e

  part_unread : (root : shape.Part Stored) (is : List ℕ) (x : Stored) → unread_in is root ≡ Some (x, []) → known_part J root is ≡ Some x.reference.at
  part_unread root is x e = ap (known_by J (known_in is root)) e

  parts_kept : (root : shape.Part Stored) (es : Entries) → ((is : List ℕ) (o : ℕ) → known_part J root is ≡ Some o → S o) → KnowsParts J root es → KnowsParts K root es
  parts_kept root es stays parts = record {
    known = λ is x e. (let at = parts.known is x e in record { spells = spelled_kept (length is) x (part es is) (stays is x.reference.at (part_known root is x e)) at.spells; some = at.some });
    unread = λ is x e. (let at = parts.unread is x e in record { spells = spelled_kept (length is) x (part es is) (stays is x.reference.at (part_unread root is x e)) at.spells; some = at.some });
  }

  -- ---- nodes

  -- what is known at a step, where a node stands there, whatever lies beside it
  abbrev Told : Nodes → Step → Path → List ℕ → ℕ → Type 0
  Told ns s path is o = (other : Option ℕ) → known_among J ns s path is other ≡ Some o

  abbrev Stay : Nodes → Type 0
  Stay ns = (s : Step) (path : Path) (is : List ℕ) (o : ℕ) → Told ns s path is o → S o

  not_among : (ns : Nodes) (s : Step) (path : Path) (is : List ℕ) (other : Option ℕ) → has s (steps_in ns) ≡ false → known_among J ns s path is other ≡ other
  not_among node.none s path is other absent = refl
  not_among (node.first t n ns) s path is other absent = not_first s t (known_at J n path is) (known_among J ns s path is other) other (has s (steps_in ns)) (same_bytes s t) absent (λ no. not_among ns s path is other no)

  told_first : (t : Step) (n : Node) (ns : Nodes) (path : Path) (is : List ℕ) (o : ℕ) → known_at J n path is ≡ Some o → Told (node.first t n ns) t path is o
  told_first t n ns path is o e other = ap (λ (b : Bool). cond b (known_at J n path is) (known_among J ns t path is other)) (same_itself t) ∙ e

  told_later : (t : Step) (n : Node) (ns : Nodes) (s : Step) (path : Path) (is : List ℕ) (o : ℕ) → T (is_below_all t (steps_in ns)) → Told ns s path is o → Told (node.first t n ns) s path is o
  told_later t n ns s path is o below told other = by (same_bytes s t) refl
    where
      absent : s ≡ t → None ≡ Some o
      absent same = sym (ap (λ (k : Step). known_among J ns k path is None) same ∙ not_among ns t path is None (below_absent t (steps_in ns) below)) ∙ told None

      by : (b : Bool) → same_bytes s t ≡ b → cond b (known_at J n path is) (known_among J ns s path is other) ≡ Some o
      by true e = no_some o (absent (same_step s t (equal (bytes_cmp s t) e)))
      by false e = told other

  some_kept : (n : Node) (o : Option Tree) → ((sub : Tree) → NodeIs J n sub → NodeIs K n sub) → IsSomeAnd o (λ sub. NodeIs J n sub) → IsSomeAnd o (λ sub. NodeIs K n sub)
  some_kept n None deeper is = is
  some_kept n (Some sub) deeper is = deeper sub is

  mutual
    pub node_kept : (n : Node) (t : Tree) → ((path : Path) (is : List ℕ) (o : ℕ) → known_at J n path is ≡ Some o → S o) → NodeIs J n t → NodeIs K n t
    node_kept (node.stored x) t stays is = stored_kept x t (stays [] [] x.reference.at refl) is
    node_kept (node.contents bytes) t stays is = is
    node_kept (node.directory root ns) t stays is = (
      is.0,
      is.1,
      parts_kept root (entries_of t).entries (λ at o e. stays [] at o e) is.2,
      nodes_kept ns (entries_of t).entries (read_ascends root (steps_in ns) (entries_of t).entries is.1) (λ s path at o told. stays (s ∷ path) at o (told (below_unread J root s path at))) is.3,
    )

    nodes_kept : (ns : Nodes) (es : Entries) → AreSteps (steps_in ns) → Stay ns → NodesAre J ns es → NodesAre K ns es
    nodes_kept node.none es steps stays are = are
    nodes_kept (node.first s n ns) es steps stays are = (
      some_kept n (find bytes_cmp s es) (λ sub is. node_kept n sub (λ path at o e. stays s path at o (told_first s n ns path at o e)) is) are.0,
      nodes_kept ns es (second (is_below_all s (steps_in ns)) (ascend (steps_in ns)) steps)
          (λ q path at o told. stays q path at o (told_later s n ns q path at o (first (is_below_all s (steps_in ns)) (ascend (steps_in ns)) steps) told)) are.1,
    )

  pub root_kept : (root : Root) (t : Tree) → ((p : Part) (o : ℕ) → known_of J root p ≡ Some o → S o) → RootIs J root t → RootIs K root t
  root_kept (node.unread r) t stays is = (is.0, record { part = staying_part J K S keeps closed (stays (record { path = []; indexes = [] }) r.at refl) is.1.part; kind = is.1.kind; name = is.1.name })
  root_kept (node.loaded root ns) t stays is = record {
    directory = is.directory;
    steps = is.steps;
    parts = parts_kept root (entries_of t).entries (λ at o e. stays (record { path = []; indexes = at }) o e) is.parts;
    nodes = nodes_kept ns (entries_of t).entries (read_ascends root (steps_in ns) (entries_of t).entries is.steps)
        (λ s path at o told. stays (record { path = s ∷ path; indexes = at }) o (told (below_unread J root s path at))) is.nodes;
  }

  -- the fewer records are among those that there were
  pub view_kept : ((at : ℕ) (r : Record) → K at ≡ Some r → J at ≡ Some r) → (tree : code.Tree) (v : View) → ((p : Part) (o : ℕ) → v.known p ≡ Some o → S o) → IsView J tree v → IsView K tree v
  view_kept among tree v stays is = record {
    root = root;
    lawful = is.lawful;
    narrow = is.narrow;
    oldest = is.oldest;
    known = λ p. is.known p ∙ whole_same K J among (shown_root tree.root) v.map p.path p.indexes root;
    below = is.below;
  }
    where
      root : RootIs K (shown_root tree.root) v.map
      root = root_kept (shown_root tree.root) v.map (λ p o e. stays p o (is.known p ∙ e)) is.root

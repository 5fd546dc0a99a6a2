-- The height of what nodes mean.
--     step_max      the greatest of some values, one more
--     unread_inode      of an inode the greatest of its children's
--     lawful_height      no path is so long that the count stops short
--     stored_steps, node_steps      a record's, and a node's
--     loaded_root      a directory's
use Rattle.std.proofs.Common.{◌≡◌, ℕ, zero, suc, ◌+◌, ◌<◌, ◌≤◌, max, Bool, true, false, List, [], ◌∷◌, ◌++◌, length, map, filter, drop, get_or, refl, sym, ap, subst, ◌∙◌, Option, Some, None, cond, T, arith, rules}
use Rattle.std.proofs.lemmas.Bool.{eq-eqb, false≢true}
use Rattle.std.proofs.lemmas.Cmp.{nat_list_cmp_total}
use Rattle.std.proofs.lemmas.List.{at_drop_more, get_or-map, length-map}
use Rattle.std.specs.Prelude.{IsSomeAnd, ◌==◌, ◌&&◌, ◌||◌, fold, is_none, is_some, nat_le, option_and_then, slice_get, Vec}
use Rattle.std.specs.Global.{Global}
use Rattle.std.specs.FinMap.Entries.{find, is_sorted}
use Rattle.ip_spec.specs.Path.{Step, bytes_cmp, same_bytes}
use Rattle.ip_spec.specs.Shape.{Entries, at_place, deepest, height_of_part, leaf_limit, part, part_from, place}
use Rattle.ip_spec.specs.Tree.{Tree, IsTree, entries_of, height}
use Rattle.ip_spec.specs.View.{leads}
use Rattle.ip_spec.specs.declared.record.Record.{Record}
use Rattle.ip_spec.proofs.Naming.{member_found}
use Rattle.ip_shape.specs.Directory.{root_of, steps_of}
use Rattle.ip_shape.specs.Heights.{raised}
use Rattle.ip_shape.specs.Loaded.{behind, unread_below, unread_here, unread_in, way_to}
use Rattle.ip_shape.specs.Shape.{ByTest, IsInodeOf, IsLeafOf, IsPart, has, steps_at}
use Rattle.ip_shape.specs.declared.dir.Dir.{Dir}
use Rattle.ip_shape.specs.declared.part.Part.{Part, out-Part}
use Rattle.ip_shape.specs.declared.part.Part.TheFolds.{fold-roll-Part}
use Rattle.ip_shape.specs.declared.part.Part.TheOpen as layer
use Rattle.ip_shape.specs.declared.part.Part.TheOpen.{Part-F}
use Rattle.ip_shape.specs.declared.part.Part.TheVariants as variant
use Rattle.ip_shape.specs.declared.part.Part.TheViews as whole
use Rattle.ip_shape.proofs.Entries.{has_of}
use Rattle.ip_shape.proofs.LeafRead.{on_way, short}
use Rattle.ip_shape.proofs.Members.{has-filter}
use Rattle.ip_shape.proofs.Steps.{equal, same_step}
use Rattle.ip_tree.specs.Edits.{IsDirectory}
use Rattle.ip_tree.specs.Heights.{highest, node_height, unread_height, unread_step}
use Rattle.ip_tree.specs.Meaning.{HasSteps, KnowsParts, NodeIs, NodesAre, StoredIs, contents_in, directory_in, is_read}
use Rattle.ip_tree.specs.Node.{Node, Nodes, contents, directory, first, none, nodes_of, steps_in, stored}
use Rattle.ip_tree.specs.Shown.{entries_shown, shown_directory}
use Rattle.ip_tree.specs.declared.node.Node.{Node as CodeNode}
use Rattle.ip_tree.specs.declared.node.Stored.{Stored}
use Rattle.ip_tree.proofs.ContentTold.{contents_height}
use Rattle.ip_tree.proofs.Indexes.{first_unread, no_list, no_some, same_left, same_record}
use Rattle.ip_tree.proofs.PartEntries.{part_found}
use Rattle.ip_tree.proofs.TreeHeights.{below_found, below_least, directory_height, height_most}

-- ---- the greatest of some values

pub step_max : {A : Type 0} (f : A → ℕ) (items : List A) (i most : ℕ) (x : A) → i < length items → x ≡ get_or items i x → fold max (max most (f x)) (drop (i + 1) (map f items)) ≡ fold max most (drop i (map f items))
step_max f items i most x low item =
    let within : i < length (map f items) = omega (arith, low, length-map items f) in
    sym (at_drop_more (λ (l : List ℕ). fold max most l) (map f items) i (f x) within ∙ ap (λ y. fold max (max most y) (drop (i + 1) (map f items))) (get_or-map f items i x (f x) low ∙ ap f (sym item)))

max_low : (m : ℕ) (xs : List ℕ) → m ≤ fold max m xs
max_low m [] = omega arith
max_low m (x ∷ xs) = let h = max_low (max m x) xs in omega (arith, h)

module _ {A : Type 0} (f : A → ℕ) where
  max_least : (items : List A) (i m : ℕ) (c : A) → slice_get items i ≡ Some c → f c ≤ fold max m (map f items)
  max_least [] i m c e = no_some c e
  max_least (y ∷ ys) zero m c e = let same : f y ≡ f c = ap f cc in let low = max_low (max m (f y)) (map f ys) in omega (arith, same, low)
  max_least (y ∷ ys) (suc i) m c e = max_least ys i (max m (f y)) c e

  max_most : (items : List A) (m n : ℕ) → m ≤ n → ((i : ℕ) (c : A) → slice_get items i ≡ Some c → f c ≤ n) → fold max m (map f items) ≤ n
  max_most [] m n low each = low
  max_most (y ∷ ys) m n low each = let one = each 0 y refl in max_most ys (max m (f y)) n (omega (arith, low, one)) (λ i c e. each (suc i) c e)

-- ---- the parts that were not read

unread_layer : Part-F Stored (Part Stored) → ℕ
unread_layer (layer.Leaf known steps) = 0
unread_layer (layer.Inode known count children) = fold max 0 (map unread_height children.items)
unread_layer (layer.Unread x count) = x.height

rolled : (l : Part-F Stored (Part Stored)) → unread_height (whole.roll-Part Stored l) ≡ unread_layer l
unfolding unread_layer
rolled (layer.Leaf known steps) = fold-roll-Part Stored ℕ unread_step (layer.Leaf known steps)
rolled (layer.Inode known count children) = fold-roll-Part Stored ℕ unread_step (layer.Inode known count children)
rolled (layer.Unread x count) = fold-roll-Part Stored ℕ unread_step (layer.Unread x count)

made_again : (p : Part Stored) → whole.roll-Part Stored (out-Part Stored p) ≡ p
made_again p = search (rules, whole.the_lemmas)

unread_out : (p : Part Stored) → unread_height p ≡ unread_layer (out-Part Stored p)
unread_out p = ap unread_height (sym (made_again p)) ∙ rolled (out-Part Stored p)

pub unread_inode : (known : Option Stored) (count : ℕ) (children : Vec (Part Stored) Global) → unread_height (variant.Inode known count children) ≡ fold max 0 (map unread_height children.items)
unread_inode known count children = ap unread_height (sym (variant.rolls-Inode known count children)) ∙ fold-roll-Part Stored ℕ unread_step (layer.Inode known count children)

unread_least : (is : List ℕ) (x : Stored) (p : Part Stored) → unread_in is p ≡ Some (x, []) → x.height ≤ unread_height p
unfolding unread_layer
unread_least [] x p e = by (out-Part Stored p) refl e
  where
    by : (l : Part-F Stored (Part Stored)) → out-Part Stored p ≡ l → unread_here l ≡ Some (x, []) → x.height ≤ unread_height p
    by (layer.Leaf known steps) out f = no_some (x, []) f
    by (layer.Inode known count children) out f = no_some (x, []) f
    by (layer.Unread y count) out f = let same : y.height ≡ x.height = ap (λ (z : Stored). z.height) (same_record y x [] [] f) in omega (arith, same, unread_out p, ap unread_layer out)
unread_least (i ∷ is) x p e = by (λ c f. unread_least is x c f) (out-Part Stored p) refl e
  where
    by : ((c : Part Stored) → unread_in is c ≡ Some (x, []) → x.height ≤ unread_height c) → (l : Part-F Stored (Part Stored)) → out-Part Stored p ≡ l → unread_below (unread_in is) i is l ≡ Some (x, []) → x.height ≤ unread_height p
    by deeper (layer.Leaf known steps) out f = no_some (x, []) f
    by deeper (layer.Inode known count children) out f = at (slice_get children.items i) refl f
      where
        at : (o : Option (Part Stored)) → slice_get children.items i ≡ o → option_and_then (unread_in is) o ≡ Some (x, []) → x.height ≤ unread_height p
        at None there g = no_some (x, []) g
        at (Some c) there g = let one = deeper c g in let top = max_least unread_height children.items i 0 c there in omega (arith, one, top, unread_out p, ap unread_layer out)
    by deeper (layer.Unread y count) out f = no_list i is (same_left y x (i ∷ is) [] f)

module _ (n : ℕ) where
  leaf_most : (steps : List Step) (p : Part Stored) → IsLeafOf steps (out-Part Stored p) → ((is : List ℕ) (x : Stored) → unread_in is p ≡ Some (x, []) → x.height ≤ n) → unread_height p ≤ n
  unfolding unread_layer
  leaf_most steps p leaf each = by (out-Part Stored p) refl leaf
    where
      by : (l : Part-F Stored (Part Stored)) → out-Part Stored p ≡ l → IsLeafOf steps l → unread_height p ≤ n
      by (layer.Leaf known held) out is = omega (arith, unread_out p, ap unread_layer out)
      by (layer.Inode known count children) out is = absurd is
      by (layer.Unread x count) out is = let one = each [] x (ap unread_here out) in omega (arith, one, unread_out p, ap unread_layer out)

  inode_most : (total : ℕ) (IsChild : ℕ → Part Stored → Type 0) (p : Part Stored) → IsInodeOf total IsChild (out-Part Stored p)
      → ((i : ℕ) (c : Part Stored) → IsChild i c → ((is : List ℕ) (x : Stored) → unread_in is c ≡ Some (x, []) → x.height ≤ n) → unread_height c ≤ n) → ((is : List ℕ) (x : Stored) → unread_in is p ≡ Some (x, []) → x.height ≤ n) → unread_height p ≤ n
  unfolding unread_layer
  inode_most total IsChild p inode deeper each = by (out-Part Stored p) refl inode
    where
      by : (l : Part-F Stored (Part Stored)) → out-Part Stored p ≡ l → IsInodeOf total IsChild l → unread_height p ≤ n
      by (layer.Leaf known held) out is = absurd is
      by (layer.Inode known count children) out is =
          let top = max_most unread_height children.items 0 n (omega arith)
          (λ i c there. deeper i c (is.2 i c there) (λ q x e. each (i ∷ q) x (ap (unread_below (unread_in q) i q) out ∙ ap (option_and_then (unread_in q)) there ∙ e))) in omega (arith, top, unread_out p, ap unread_layer out)
      by (layer.Unread x count) out is = let one = each [] x (ap unread_here out) in omega (arith, one, unread_out p, ap unread_layer out)

  unread_most : (levels depth : ℕ) (steps : List Step) (p : Part Stored) → IsPart levels depth steps p → ((is : List ℕ) (x : Stored) → unread_in is p ≡ Some (x, []) → x.height ≤ n) → unread_height p ≤ n
  unread_most zero depth steps p is each = leaf_most steps p is each
  unread_most (suc levels) depth steps p is each = by (nat_le (length steps) leaf_limit) (λ i c child below. unread_most levels (suc depth) (steps_at depth i steps) c child below) is
    where
      by : (b : Bool) → ((i : ℕ) (c : Part Stored) → IsPart levels (suc depth) (steps_at depth i steps) c → ((is : List ℕ) (x : Stored) → unread_in is c ≡ Some (x, []) → x.height ≤ n) → unread_height c ≤ n)
          → ByTest b (IsLeafOf steps (out-Part Stored p)) (IsInodeOf (length steps) (λ i child. IsPart levels (suc depth) (steps_at depth i steps) child) (out-Part Stored p)) → unread_height p ≤ n
      by true deeper is = leaf_most steps p is each
      by false deeper is = inode_most (length steps) (λ i child. IsPart levels (suc depth) (steps_at depth i steps) child) p is deeper each

-- ---- a part is no higher than the whole

filtered_low : (p : Step × Tree → Bool) (es : Entries) (a b : ℕ) → a ≤ b → fold (λ n (e : Step × Tree). max n (suc (height e.1))) a (filter p es) ≤ fold (λ n (e : Step × Tree). max n (suc (height e.1))) b es
filtered_low p [] a b le = le
filtered_low p (e ∷ es) a b le = by (p e) (λ c d m. filtered_low p es c d m)
  where
    by : (t : Bool) → ((c d : ℕ) → c ≤ d → fold (λ n (e : Step × Tree). max n (suc (height e.1))) c (filter p es) ≤ fold (λ n (e : Step × Tree). max n (suc (height e.1))) d es)
        → fold (λ n (e : Step × Tree). max n (suc (height e.1))) a (cond t (e ∷ filter p es) (filter p es)) ≤ fold (λ n (e : Step × Tree). max n (suc (height e.1))) (max b (suc (height e.1))) es
    by true deeper = deeper (max a (suc (height e.1))) (max b (suc (height e.1))) (omega (arith, le))
    by false deeper = deeper a (max b (suc (height e.1))) (omega (arith, le))

part_low : (depth : ℕ) (is : List ℕ) (es : Entries) → height_of_part (part_from depth es is) ≤ height_of_part es
unfolding at_place
part_low depth [] es = omega arith
part_low depth (i ∷ is) es = let a = part_low (suc depth) is (at_place depth i es) in let b = filtered_low (λ e. place e.0 depth == i) es 0 0 (omega arith) in omega (arith, a, b)

-- ---- of what nodes mean

pub lawful_height : (t : Tree) → IsTree t → height t ≤ 64
lawful_height t lawful = height_most t 64 (λ p v is. (lawful.paths p (ap is_some is)).short)

raised_low : (ns : Nodes) (most : ℕ) → most ≤ highest ns most
raised_low none most = omega arith
raised_low (first s n ns) most = let h = raised_low ns (max most (raised (node_height n))) in omega (arith, h)

behind_front : (front left : List ℕ) → behind front (front ++ left) ≡ Some left
behind_front [] left = refl
behind_front (i ∷ front) left = ap (λ b. cond b (behind front (front ++ left)) None) (eq-eqb i i refl) ∙ behind_front front left

module _ (records : ℕ → Option Record) where
  pub stored_steps : (x : Stored) (t : Tree) → StoredIs records x t → x.height ≡ height t
  stored_steps x t (contents_in bytes is low child) = low ∙ sym (contents_height bytes)
  stored_steps x t (directory_in sub some spells) = spells.height ∙ sym (directory_height sub some.directory)

  -- what was read is no higher than the entries, and what was not neither
  node_up : (n : Node) (es : Entries) (s : Step) (most h : ℕ) → ((sub : Tree) → NodeIs records n sub → height sub ≤ 254 → node_height n ≡ height sub) → most ≤ h → h ≤ 254
      → ((s : Step) (sub : Tree) → find bytes_cmp s es ≡ Some sub → suc (height sub) ≤ h) → IsSomeAnd (find bytes_cmp s es) (λ sub. NodeIs records n sub) → max most (raised (node_height n)) ≤ h
  node_up n es s most h same low top each is = by (find bytes_cmp s es) refl is
    where
      by : (o : Option Tree) → find bytes_cmp s es ≡ o → IsSomeAnd o (λ sub. NodeIs records n sub) → max most (raised (node_height n)) ≤ h
      by None e m = absurd m
      by (Some sub) e m = let one = each s sub e in let eq = same sub m (omega (arith, one, top)) in omega (arith, one, eq, low)

  node_down : (n : Node) (es : Entries) (s t : Step) (sub : Tree) (most : ℕ) → ((w : Tree) → NodeIs records n w → height w ≤ 254 → node_height n ≡ height w) → find bytes_cmp s es ≡ Some sub → height sub ≤ 253 → same_bytes s t ≡ true
      → IsSomeAnd (find bytes_cmp t es) (λ w. NodeIs records n w) → suc (height sub) ≤ max most (raised (node_height n))
  node_down n es s t sub most same found low equal_is is =
      let means : NodeIs records n sub = subst (λ o. IsSomeAnd o (λ w. NodeIs records n w)) (ap (λ k. find bytes_cmp k es) (sym (same_step s t (equal _ equal_is))) ∙ found) is in
      let eq = same sub means (omega (arith, low)) in omega (arith, eq, low)

  directory_up : (root : Part Stored) (read : List Step) (es : Entries) → HasSteps root read es → KnowsParts records root es → unread_height root ≤ height_of_part es
  directory_up root read es steps parts =
      unread_most (height_of_part es) deepest 0 (steps_of es) root steps.shape (λ is x e. let s = parts.unread is x e in let l = part_low 0 is es in let h = s.spells.height in omega (arith, h, l))

  directory_down : (root : Part Stored) (ns : Nodes) (es : Entries) → HasSteps root (steps_in ns) es → KnowsParts records root es
      → ((s : Step) (sub : Tree) → find bytes_cmp s es ≡ Some sub → has s (steps_in ns) ≡ true → suc (height sub) ≤ highest ns (unread_height root))
      → (s : Step) (sub : Tree) → find bytes_cmp s es ≡ Some sub → suc (height sub) ≤ highest ns (unread_height root)
  directory_down root ns es steps parts read s sub found = by (unread_in (way_to s) root) refl
    where
      by : (o : Option (Stored × List ℕ)) → unread_in (way_to s) root ≡ o → suc (height sub) ≤ highest ns (unread_height root)
      by None e = read s sub found (ap (has s) steps.held ∙ has-filter (is_read root) s (steps_of es) ∙ ap (λ b. b && has s (steps_of es)) (ap is_none e) ∙ has_of s es ∙ ap is_some found)
      by (Some u) e =
          let f = first_unread (way_to s) u.0 u.1 root e in
          let few = short f.front deepest 0 u.0 (steps_of es) root steps.shape f.found in
          let leads_there : leads 0 f.front s ≡ true = sym (on_way f.front s few) ∙ ap (λ w. is_some (behind f.front w)) f.whole ∙ ap is_some (behind_front f.front u.1) in
          let stands : find bytes_cmp s (part es f.front) ≡ Some sub = part_found 0 f.front es s ∙ ap (λ b. cond b (find bytes_cmp s es) None) leads_there ∙ found in
          let one = below_found (part es f.front) 0 s sub stands in
          let h = (parts.unread f.front u.0 f.found).spells.height in
          let l = unread_least f.front u.0 root f.found in
          let top = raised_low ns (unread_height root) in omega (arith, one, h, l, top)

  down_by : (n : Node) (ns : Nodes) (es : Entries) (most : ℕ) (t s : Step) (sub : Tree) (b : Bool) → same_bytes s t ≡ b → ((w : Tree) → NodeIs records n w → height w ≤ 254 → node_height n ≡ height w)
      → (has s (steps_in ns) ≡ true → suc (height sub) ≤ highest ns (max most (raised (node_height n)))) → find bytes_cmp s es ≡ Some sub → height sub ≤ 253 → IsSomeAnd (find bytes_cmp t es) (λ w. NodeIs records n w)
      → has s (t ∷ steps_in ns) ≡ true → suc (height sub) ≤ highest ns (max most (raised (node_height n)))
  down_by n ns es most t s sub true e same deeper found low is in_read =
      let one = node_down n es s t sub most same found low e is in let top = raised_low ns (max most (raised (node_height n))) in omega (arith, one, top)
  down_by n ns es most t s sub false e same deeper found low is in_read = deeper (sym (ap (λ b. b || has s (steps_in ns)) e) ∙ in_read)

  directory_by : (root : Part Stored) (ns : Nodes) (es : Entries) → T (is_sorted bytes_cmp es) → HasSteps root (steps_in ns) es → KnowsParts records root es → height_of_part es ≤ 254
      → (unread_height root ≤ height_of_part es → highest ns (unread_height root) ≤ height_of_part es)
      → ((s : Step) (sub : Tree) → find bytes_cmp s es ≡ Some sub → has s (steps_in ns) ≡ true → height sub ≤ 253 → suc (height sub) ≤ highest ns (unread_height root)) → highest ns (unread_height root) ≡ height_of_part es
  directory_by root ns es sorted steps parts low up read =
      let top = up (directory_up root (steps_in ns) es steps parts) in
      let each = directory_down root ns es steps parts (λ s sub e h. read s sub e h (let l = below_found es 0 s sub e in omega (arith, l, low))) in
      let down = below_least es 0 (highest ns (unread_height root)) (omega arith) (λ e m. each e.0 e.1 (member_found bytes_cmp nat_list_cmp_total es e sorted m)) in omega (arith, top, down)

  mutual
    -- no path is so long that the count stops short
    pub node_steps : (n : Node) (t : Tree) → NodeIs records n t → height t ≤ 254 → node_height n ≡ height t
    node_steps (stored x) t is low = stored_steps x t is
    node_steps (contents bytes) t is low = sym (ap height is ∙ contents_height bytes)
    node_steps (directory root ns) t is low =
        let whole_height = directory_height t is.0.directory in
        directory_by root ns (entries_of t).entries (entries_of t).sorted is.1 is.2 (omega (arith, low, whole_height))
        (λ l. nodes_up ns (entries_of t).entries (unread_height root) (height_of_part (entries_of t).entries) is.3 l (omega (arith, low, whole_height)) (λ s sub e. below_found (entries_of t).entries 0 s sub e))
        (λ s sub e h l. nodes_down ns (entries_of t).entries (unread_height root) is.3 s sub e h l) ∙ sym whole_height

    nodes_up : (ns : Nodes) (es : Entries) (most h : ℕ) → NodesAre records ns es → most ≤ h → h ≤ 254 → ((s : Step) (sub : Tree) → find bytes_cmp s es ≡ Some sub → suc (height sub) ≤ h) → highest ns most ≤ h
    nodes_up none es most h are low top each = low
    nodes_up (first s n ns) es most h are low top each =
        nodes_up ns es (max most (raised (node_height n))) h are.1 (node_up n es s most h (λ sub m l. node_steps n sub m l) low top each are.0) top each

    nodes_down : (ns : Nodes) (es : Entries) (most : ℕ) → NodesAre records ns es → (s : Step) (sub : Tree) → find bytes_cmp s es ≡ Some sub → has s (steps_in ns) ≡ true → height sub ≤ 253 → suc (height sub) ≤ highest ns most
    nodes_down none es most are s sub found in_read low = absurd (false≢true in_read)
    nodes_down (first t n ns) es most are s sub found in_read low =
        down_by n ns es most t s sub (same_bytes s t) refl (λ w m l. node_steps n w m l) (λ h. nodes_down ns es (max most (raised (node_height n))) are.1 s sub found h low) found low are.0 in_read

  -- the root that was loaded
  pub loaded_root : (d : Dir CodeNode Stored) (t : Tree) → IsDirectory records (shown_directory d) t → IsTree t → node_height (shown_directory d) ≡ height t
  loaded_root d t is lawful =
      let low = lawful_height t lawful in
      let whole_height = directory_height t is.directory in
      let ns = nodes_of (entries_shown d) in
      directory_by (root_of d) ns (entries_of t).entries (entries_of t).sorted is.steps is.parts (omega (arith, low, whole_height))
      (λ l. nodes_up ns (entries_of t).entries (unread_height (root_of d)) (height_of_part (entries_of t).entries) is.nodes l (omega (arith, low, whole_height)) (λ s sub e. below_found (entries_of t).entries 0 s sub e))
      (λ s sub e h l. nodes_down ns (entries_of t).entries (unread_height (root_of d)) is.nodes s sub e h l) ∙ sym whole_height

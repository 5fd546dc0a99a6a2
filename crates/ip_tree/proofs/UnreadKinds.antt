-- The kinds of the entries whose parts were not read.
--     found_where      an entry among those whose steps pass a test
--     part_kinds      of the children of a part, from one on.      kinds_next, kinds_end      one more, and none
--     inode_total      all of them
--     inode_child      what a child is
--     leaf_none, leaf_deep, unread_all      of other parts
--     all_listed      with those that were read, all of a directory
use Rattle.std.proofs.Common.{◌≡◌, ℕ, zero, suc, ◌+◌, ◌<◌, Bool, true, false, List, [], ◌∷◌, length, map, filter, get_or, refl, sym, ap, subst, ◌∙◌, Option, Some, None, cond, arith, rules}
use Rattle.std.proofs.lemmas.Bool.{eq-eqb, false≢true, ne_eqb}
use Rattle.std.specs.FinMap.Entries.{find, find-where_key}
use Rattle.std.specs.Global.{Global}
use Rattle.std.specs.Prelude.{◌==◌, ◌&&◌, IsSomeAnd, Vec, is_none, is_some, nat_le, option_and_then, option_map, slice_get}
use Rattle.ip_spec.specs.Path.{Step, bytes_cmp}
use Rattle.ip_spec.specs.Shape.{Entries, at_place, leaf_limit, part_from, place}
use Rattle.ip_spec.specs.Tree.{Tree, entries_of}
use Rattle.ip_spec.specs.declared.record.Record.{Record}
use Rattle.ip_shape.specs.Directory.{root_of, steps_of}
use Rattle.ip_shape.specs.Loaded.{unread_below, unread_here, unread_in, way, way_to}
use Rattle.ip_shape.specs.Shape.{ByTest, IsInodeOf, IsLeafOf, IsPart, has, steps_at}
use Rattle.ip_shape.specs.declared.dir.Dir.{Dir}
use Rattle.ip_shape.specs.declared.part.Part.{Part, out-Part}
use Rattle.ip_shape.specs.declared.part.Part.TheOpen as layer
use Rattle.ip_shape.specs.declared.part.Part.TheVariants as variant
use Rattle.ip_shape.specs.declared.part.Part.TheViews as whole
use Rattle.ip_shape.proofs.ByEntries.{steps_at_place}
use Rattle.ip_shape.proofs.Entries.{has_of}
use Rattle.ip_shape.proofs.Members.{has-filter}
use Rattle.ip_shape.proofs.Steps.{same_step}
use Rattle.ip_tree.specs.Edits.{IsDirectory}
use Rattle.ip_tree.specs.Listing.{is_directory, kind_at, kind_of, kind_or}
use Rattle.ip_tree.specs.Meaning.{NodeIs, SpellsPart, is_read}
use Rattle.ip_tree.specs.Node as view
use Rattle.ip_tree.specs.Node.{nodes_of, steps_in}
use Rattle.ip_tree.specs.Reads.{IsPartRef}
use Rattle.ip_tree.specs.Shown.{entries_shown, shown_directory}
use Rattle.ip_tree.specs.declared.node.Node.{Node}
use Rattle.ip_tree.specs.declared.node.Stored.{Stored}
use Rattle.ip_tree.proofs.ChildNodes.{each_node}
use Rattle.ip_tree.proofs.Indexes.{no_some}
use Rattle.ip_tree.proofs.KindsPut.{node_kind}
use Rattle.ip_tree.proofs.PartEntries.{found_at}
use Rattle.ip_tree.proofs.PartRecords.{place_small}
use Rattle.ip_tree.proofs.PartlyShown.{map_find, steps_nodes}

pub found_where : (t : Step → Bool) (es : Entries) (s : Step) → find bytes_cmp s (filter (λ (e : Step × Tree). t e.0) es) ≡ cond (t s) (find bytes_cmp s es) None
found_where t es s = find-where_key bytes_cmp t s (λ x e. ap t (sym (same_step s x e))) es

kind_where : (b : Bool) (o : Option Tree) → option_map kind_of (cond b o None) ≡ cond b (option_map kind_of o) None
kind_where true o = refl
kind_where false o = refl

-- the kind of an entry among those whose steps pass
pub kind_if : (t : Step → Bool) (es : Entries) (s : Step) → option_map kind_of (find bytes_cmp s (filter (λ (e : Step × Tree). t e.0) es)) ≡ cond (t s) (option_map kind_of (find bytes_cmp s es)) None
kind_if t es s = ap (option_map kind_of) (found_where t es s) ∙ kind_where (t s) (find bytes_cmp s es)

abbrev pub is_unread : ℕ → ℕ → Part Stored → Step → Bool
is_unread levels depth part s = is_some (unread_in (way levels depth s) part)

module _ (l depth : ℕ) (es : Entries) (s : Step) where
  abbrev head : ℕ → Part Stored → Option Bool
  head i c = option_map kind_of (find bytes_cmp s (filter (λ (e : Step × Tree). is_some (unread_in (way l (depth + 1) e.0) c)) (at_place depth i es)))

  pub part_kinds : ℕ → List (Part Stored) → Option Bool → Option Bool
  part_kinds i [] o = o
  part_kinds i (c ∷ cs) o = part_kinds (i + 1) cs (kind_or (option_map kind_of (find bytes_cmp s (filter (λ (e : Step × Tree). is_some (unread_in (way l (depth + 1) e.0) c)) (at_place depth i es)))) o)

  pub kinds_end : (i : ℕ) (o : Option Bool) → part_kinds i [] o ≡ o
  unfolding part_kinds
  kinds_end i o = refl

  pub kinds_next : (i : ℕ) (c : Part Stored) (cs : List (Part Stored)) (o : Option Bool) → part_kinds i (c ∷ cs) o ≡ part_kinds (i + 1) cs (kind_or (head i c) o)
  unfolding part_kinds
  kinds_next i c cs o = refl

  abbrev all : Option Bool
  all = option_map kind_of (find bytes_cmp s es)

  head_is : (i : ℕ) (c : Part Stored) → head i c ≡ cond (is_unread l (depth + 1) c s) (cond (place s depth == i) all None) None
  head_is i c =
      kind_if (is_unread l (depth + 1) c) (at_place depth i es) s
      ∙ ap (λ o. cond (is_unread l (depth + 1) c s) o None) (ap (option_map kind_of) (found_at depth i es s) ∙ kind_where (place s depth == i) (find bytes_cmp s es))

  away : (b : Bool) → cond {A = Option Bool} b None None ≡ None
  away true = refl
  away false = refl

  past : (i : ℕ) (cs : List (Part Stored)) (o : Option Bool) → place s depth < i → part_kinds i cs o ≡ o
  unfolding part_kinds
  past i [] o low = refl
  past i (c ∷ cs) o low =
      ap (λ k. part_kinds (i + 1) cs (kind_or k o)) (head_is i c ∙ ap (λ b. cond (is_unread l (depth + 1) c s) (cond b all None) None) (ne_eqb (place s depth) i (λ e. omega (arith, e, low))) ∙ away (is_unread l (depth + 1) c s))
      ∙ past (i + 1) cs o (omega (arith, low))

  pub within : (n i : ℕ) (cs : List (Part Stored)) (c : Part Stored) (o : Option Bool) → place s depth ≡ i + n → slice_get cs n ≡ Some c → part_kinds i cs o ≡ kind_or (cond (is_unread l (depth + 1) c s) all None) o
  unfolding part_kinds
  within n i [] c o at e = no_some c e
  within zero i (x ∷ cs) c o at e =
      let here : place s depth ≡ i = omega (arith, at) in
      let same : x ≡ c = cc in
      past (i + 1) cs (kind_or (head i x) o) (omega (arith, here))
      ∙ ap (λ k. kind_or k o) (head_is i x ∙ ap (λ b. cond (is_unread l (depth + 1) x s) (cond b all None) None) (eq-eqb (place s depth) i here) ∙ ap (λ (p : Part Stored). cond (is_unread l (depth + 1) p s) all None) same)
  within (suc n) i (x ∷ cs) c o at e =
      ap (λ k. part_kinds (i + 1) cs (kind_or k o)) (head_is i x ∙ ap (λ b. cond (is_unread l (depth + 1) x s) (cond b all None) None) (ne_eqb (place s depth) i (λ f. omega (arith, f, at))) ∙ away (is_unread l (depth + 1) x s))
      ∙ within n (i + 1) cs c o (omega (arith, at)) e

out_inode : (known : Option Stored) (n : ℕ) (parts : Vec (Part Stored) Global) → out-Part Stored (variant.Inode known n parts) ≡ layer.Inode known n parts
unfolding out-Part denote.Hole.Carrier.out
out_inode known n parts = search (rules, whole.the_lemmas)

out_leaf : (known : Option Stored) (steps : Vec Step Global) → out-Part Stored (variant.Leaf known steps) ≡ layer.Leaf known steps
unfolding out-Part denote.Hole.Carrier.out
out_leaf known steps = search (rules, whole.the_lemmas)

out_unread : (x : Stored) (n : ℕ) → out-Part Stored (variant.Unread x n) ≡ layer.Unread x n
unfolding out-Part denote.Hole.Carrier.out
out_unread x n = search (rules, whole.the_lemmas)

pub sliced : {A : Type 0} (xs : List A) (i : ℕ) (x : A) → i < length xs → x ≡ get_or xs i x → slice_get xs i ≡ Some x
sliced [] i x low is = absurd (omega (arith, low))
sliced (y ∷ xs) zero x low is = ap Some (sym is)
sliced (y ∷ xs) (suc i) x low is = sliced xs i x (omega (arith, low)) is

got : {A : Type 0} (xs : List A) (i : ℕ) → i < length xs → (x : A) × (slice_get xs i ≡ Some x)
got [] i low = absurd (omega (arith, low))
got (y ∷ xs) zero low = (y, refl)
got (y ∷ xs) (suc i) low = got xs i (omega (arith, low))

module _ (levels l depth : ℕ) (es : Entries) (part : Part Stored) (next : levels ≡ suc l) (shape : IsPart levels depth (steps_of es) part) where
  module _ (known : Option Stored) (count : ℕ) (children : Vec (Part Stored) Global) (is : part ≡ variant.Inode known count children) where
    out : out-Part Stored part ≡ layer.Inode known count children
    out = ap (out-Part Stored) is ∙ out_inode known count children

    inode : IsInodeOf (length (steps_of es)) (λ i child. IsPart l (suc depth) (steps_at depth i (steps_of es)) child) (layer.Inode known count children)
    inode = by (nat_le (length (steps_of es)) leaf_limit) (subst (λ n. IsPart n depth (steps_of es) part) next shape)
      where
        by : (b : Bool) → ByTest b (IsLeafOf (steps_of es) (out-Part Stored part)) (IsInodeOf (length (steps_of es)) (λ i child. IsPart l (suc depth) (steps_at depth i (steps_of es)) child) (out-Part Stored part))
            → IsInodeOf (length (steps_of es)) (λ i child. IsPart l (suc depth) (steps_at depth i (steps_of es)) child) (layer.Inode known count children)
        by true leaf = absurd (subst (IsLeafOf (steps_of es)) out leaf)
        by false inode_is = subst (IsInodeOf (length (steps_of es)) (λ i child. IsPart l (suc depth) (steps_at depth i (steps_of es)) child)) out inode_is

    pub child_shape : (i : ℕ) (c : Part Stored) → slice_get children.items i ≡ Some c → IsPart l (depth + 1) (steps_of (at_place depth i es)) c
    child_shape i c at =
        let one : suc depth ≡ depth + 1 = omega arith in
        subst (λ d. IsPart l d (steps_of (at_place depth i es)) c) one (subst (λ (ss : List Step). IsPart l (suc depth) ss c) (sym (steps_at_place depth i es)) (inode.2 i c at))

    pub child_unread : (i : ℕ) (c : Part Stored) (q : List ℕ) (x : Stored) → slice_get children.items i ≡ Some c → unread_in q c ≡ Some (x, []) → unread_in (i ∷ q) part ≡ Some (x, [])
    child_unread i c q x at e = ap (unread_below (unread_in q) i q) out ∙ ap (option_and_then (unread_in q)) at ∙ e

    pub child_spells : (records : ℕ → Option Record) → ((q : List ℕ) (x : Stored) → unread_in q part ≡ Some (x, []) → SpellsPart records (depth + length q) x (part_from depth es q))
        → (i : ℕ) (c : Part Stored) → slice_get children.items i ≡ Some c → (q : List ℕ) (x : Stored) → unread_in q c ≡ Some (x, []) → SpellsPart records ((depth + 1) + length q) x (part_from (depth + 1) (at_place depth i es) q)
    child_spells records spells i c at q x e =
        let long : depth + suc (length q) ≡ (depth + 1) + length q = omega arith in
        let one : suc depth ≡ depth + 1 = omega arith in
        subst (λ n. SpellsPart records n x (part_from (depth + 1) (at_place depth i es) q)) long
        (subst (λ d. SpellsPart records (depth + suc (length q)) x (part_from d (at_place depth i es) q)) one (spells (i ∷ q) x (child_unread i c q x at e)))

    pub inode_total : (s : Step) (o : Option Bool)
        → part_kinds l depth es s 0 children.items o ≡ kind_or (option_map kind_of (find bytes_cmp s (filter (λ (e : Step × Tree). is_some (unread_in (way levels depth e.0) part)) es))) o
    inode_total s o =
        let low : place s depth < length children.items = omega (arith, place_small s depth, inode.1) in
        let c = got children.items (place s depth) low in
        let at : place s depth ≡ 0 + place s depth = omega arith in
        let one : suc depth ≡ depth + 1 = omega arith in
        let same : is_unread levels depth part s ≡ is_unread l (depth + 1) c.0 s =
        ap (λ n. is_some (unread_in (way n depth s) part)) next ∙ ap (λ y. is_some (unread_below (unread_in (way l (suc depth) s)) (place s depth) (way l (suc depth) s) y)) out
        ∙ ap (λ y. is_some (option_and_then (unread_in (way l (suc depth) s)) y)) c.1 ∙ ap (λ d. is_unread l d c.0 s) one in
        within l depth es s (place s depth) 0 children.items c.0 o at c.1 ∙ ap (λ b. kind_or (cond b (option_map kind_of (find bytes_cmp s es)) None) o) (sym same) ∙ ap (λ k. kind_or k o) (sym (kind_if (is_unread levels depth part) es s))

-- ---- other parts

pub leaf_none : (levels depth : ℕ) (es : Entries) (part : Part Stored) (known : Option Stored) (steps : Vec Step Global) → part ≡ variant.Leaf known steps → (s : Step) (o : Option Bool)
    → o ≡ kind_or (option_map kind_of (find bytes_cmp s (filter (λ (e : Step × Tree). is_some (unread_in (way levels depth e.0) part)) es))) o
leaf_none levels depth es part known steps is s o = sym (ap (λ k. kind_or k o) (kind_if (is_unread levels depth part) es s ∙ ap (λ b. cond b (option_map kind_of (find bytes_cmp s es)) None) (none (way levels depth s))))
  where
    none : (w : List ℕ) → is_some (unread_in w part) ≡ false
    none [] = ap (λ y. is_some (unread_here y)) (ap (out-Part Stored) is ∙ out_leaf known steps)
    none (i ∷ w) = ap (λ y. is_some (unread_below (unread_in w) i w y)) (ap (out-Part Stored) is ∙ out_leaf known steps)

pub leaf_deep : (levels depth : ℕ) (steps : List Step) (part : Part Stored) (known : Option Stored) (count : ℕ) (children : Vec (Part Stored) Global) → levels ≡ 0 → part ≡ variant.Inode known count children → IsPart levels depth steps part → ⊥
leaf_deep levels depth steps part known count children none is shape =
    subst (IsLeafOf steps) (ap (out-Part Stored) is ∙ out_inode known count children) (subst (λ n. IsPart n depth steps part) none shape)

pub unread_at : (part : Part Stored) (x : Stored) (n : ℕ) → part ≡ variant.Unread x n → unread_in [] part ≡ Some (x, [])
unread_at part x n is = ap unread_here (ap (out-Part Stored) is ∙ out_unread x n)

pub unread_all : (levels depth : ℕ) (es : Entries) (part : Part Stored) (x : Stored) (n : ℕ) → part ≡ variant.Unread x n → (s : Step) (o : Option Bool)
    → kind_or (option_map kind_of (find bytes_cmp s es)) o ≡ kind_or (option_map kind_of (find bytes_cmp s (filter (λ (e : Step × Tree). is_some (unread_in (way levels depth e.0) part)) es))) o
unread_all levels depth es part x n is s o = sym (ap (λ k. kind_or k o) (kind_if (is_unread levels depth part) es s ∙ ap (λ b. cond b (option_map kind_of (find bytes_cmp s es)) None) (every (way levels depth s))))
  where
    every : (w : List ℕ) → is_some (unread_in w part) ≡ true
    every [] = ap (λ y. is_some (unread_here y)) (ap (out-Part Stored) is ∙ out_unread x n)
    every (i ∷ w) = ap (λ y. is_some (unread_below (unread_in w) i w y)) (ap (out-Part Stored) is ∙ out_unread x n)

-- ---- a directory

module _ (records : ℕ → Option Record) (d : Dir Node Stored) (t : Tree) (means : IsDirectory records (shown_directory d) t) (s : Step) where
  none_stands : find bytes_cmp s (entries_of t).entries ≡ None → find bytes_cmp s (entries_shown d) ≡ None
  none_stands e = by (find bytes_cmp s (entries_shown d)) refl
    where
      by : (o : Option view.Node) → find bytes_cmp s (entries_shown d) ≡ o → o ≡ None
      by None f = refl
      by (Some n) f = absurd (subst (λ o. IsSomeAnd o (λ sub. NodeIs records n sub)) e (each_node records (entries_shown d) (entries_of t).entries means.nodes s n f))

  read_kind : is_read (root_of d) s ≡ true → option_map is_directory (find bytes_cmp s (entries_shown d)) ≡ option_map kind_of (find bytes_cmp s (entries_of t).entries)
  read_kind read = by (find bytes_cmp s (entries_shown d)) refl
    where
      in_read : has s (steps_of (entries_shown d)) ≡ has s (steps_of (entries_of t).entries)
      in_read =
          ap (has s) (sym (steps_nodes (entries_shown d)) ∙ means.steps.held) ∙ has-filter (is_read (root_of d)) s (steps_of (entries_of t).entries) ∙ ap (λ b. b && has s (steps_of (entries_of t).entries)) read

      none_of : (o : Option Tree) → is_some o ≡ false → o ≡ None
      none_of None e = refl
      none_of (Some x) e = absurd (false≢true (sym e))

      stands : (n : view.Node) (o : Option Tree) → IsSomeAnd o (λ sub. NodeIs records n sub) → Some (is_directory n) ≡ option_map kind_of o
      stands n None is = absurd is
      stands n (Some sub) is = ap Some (node_kind records n sub is)

      by : (o : Option view.Node) → find bytes_cmp s (entries_shown d) ≡ o → option_map is_directory o ≡ option_map kind_of (find bytes_cmp s (entries_of t).entries)
      by None e = sym (ap (option_map kind_of) (none_of (find bytes_cmp s (entries_of t).entries) (sym (has_of s (entries_of t).entries) ∙ sym in_read ∙ has_of s (entries_shown d) ∙ ap is_some e)))
      by (Some n) e = stands n (find bytes_cmp s (entries_of t).entries) (each_node records (entries_shown d) (entries_of t).entries means.nodes s n e)

  pub all_listed : kind_or (option_map kind_of (find bytes_cmp s (filter (λ (e : Step × Tree). is_some (unread_in (way 51 0 e.0) (root_of d))) (entries_of t).entries))) (find bytes_cmp s (map kind_at (entries_shown d)))
      ≡ option_map kind_of (find bytes_cmp s (entries_of t).entries)
  unfolding way_to
  all_listed =
      ap (λ k. kind_or k (find bytes_cmp s (map kind_at (entries_shown d)))) (kind_if (is_unread 51 0 (root_of d)) (entries_of t).entries s)
      ∙ ap (kind_or (cond (is_unread 51 0 (root_of d) s) (option_map kind_of (find bytes_cmp s (entries_of t).entries)) None)) (map_find is_directory s (entries_shown d)) ∙ by (unread_in (way_to s) (root_of d)) refl
    where
      unread_kind : (o : Option Tree) → find bytes_cmp s (entries_of t).entries ≡ o → kind_or (option_map kind_of o) (option_map is_directory (find bytes_cmp s (entries_shown d))) ≡ option_map kind_of o
      unread_kind None e = ap (option_map is_directory) (none_stands e)
      unread_kind (Some sub) e = refl

      by : (o : Option (Stored × List ℕ)) → unread_in (way_to s) (root_of d) ≡ o
          → kind_or (cond (is_some (unread_in (way_to s) (root_of d))) (option_map kind_of (find bytes_cmp s (entries_of t).entries)) None) (option_map is_directory (find bytes_cmp s (entries_shown d)))
          ≡ option_map kind_of (find bytes_cmp s (entries_of t).entries)
      by None e =
          ap (λ b. kind_or (cond b (option_map kind_of (find bytes_cmp s (entries_of t).entries)) None) (option_map is_directory (find bytes_cmp s (entries_shown d)))) (ap is_some e) ∙ read_kind (ap is_none e)
      by (Some u) e =
          ap (λ b. kind_or (cond b (option_map kind_of (find bytes_cmp s (entries_of t).entries)) None) (option_map is_directory (find bytes_cmp s (entries_shown d)))) (ap is_some e)
          ∙ unread_kind (find bytes_cmp s (entries_of t).entries) refl

pub part_ref : (records : ℕ → Option Record) (depth : ℕ) (x : Stored) (es : Entries) → SpellsPart records (depth + 0) x es → IsPartRef records depth x.reference es
part_ref records depth x es spells =
    let none : depth + 0 ≡ depth = omega arith in
    subst (λ n. IsPartRef records n x.reference es) none (record { part = spells.part; kind = spells.kind; name = spells.name })

pub spelled_from : (records : ℕ → Option Record) (es : Entries) (q : List ℕ) (x : Stored) → SpellsPart records (length q) x (part_from 0 es q) → SpellsPart records (0 + length q) x (part_from 0 es q)
spelled_from records es q x spells = let none : length q ≡ 0 + length q = omega arith in subst (λ n. SpellsPart records n x (part_from 0 es q)) none spells

-- What is remembered of a part of a directory is true of it, whatever its entries are.
use Rattle.std.proofs.Common.{◌≡◌, inl, inr, ℕ, suc, ◌<◌, ◌≤◌, List, [], ◌∷◌, refl, sym, ap, subst, ◌∙◌, Option, Some, None, Bool, true, false, length, arith}
use Rattle.std.specs.Prelude.{IsTrue, IsFalse, nat_le, map, fold, ◌||◌, max}
use Rattle.sha2.specs.Sha256.{sha256}
use Rattle.ip_spec.specs.Map.{empty, insert, checked}
use Rattle.ip_spec.specs.Path.{Step, Bytes}
use Rattle.ip_spec.specs.declared.record.Record.{Record}
use Rattle.ip_spec.specs.declared.record.LeafEntry.{LeafEntry}
use Rattle.ip_spec.specs.declared.record.InodeChild.{InodeChild}
use Rattle.ip_spec.specs.Record.{Child, Hash, hashed_leaf, hashed_inode}
use Rattle.ip_spec.specs.Tree as Tree
use Rattle.ip_spec.specs.Tree.{Tree, entries_of, height, is_empty, is_contents}
use Rattle.ip_spec.specs.Shape.{Entries, place, at_place, is_leaf, children_of, child_of, name_of_part, height_of_part, leaf_limit, deepest}
use Rattle.ip_spec.specs.TreeAt.{EntryAt, EntriesAt, ChildrenAt, PartAt, contents_at, directory_at, no_entries, entry_first, no_children, child_first, leaf_at, inode_at}
use Rattle.ip_audit.proofs.Basics.{no_true}
use Rattle.ip_audit.specs.Memory.{Part, Kept, kept_contents, kept_part, Look, leaf_part, inode_part, kept_by, AtDepth}
use Rattle.ip_audit.proofs.Trees.{In, top_from, AllSome}
use Rattle.ip_shape.proofs.PartNames.{leaf_name, name_of_inode, true_name}
use Rattle.ip_audit.proofs.Children.{total, sum_total, size_of, counts, heights, entry_child, place_in}

-- what is remembered below an offset is that of the records there
abbrev pub RemembersBelow : Look → (ℕ → Option Record) → ℕ → Type 0
RemembersBelow look records top = (at : ℕ) → at < top → look at ≡ kept_by look (records at)

-- true of a part at this depth with these entries
pub record IsTrueOf (depth : ℕ) (es : Entries) (p : Part) : Type 0 where
  pub depths : AtDepth depth p
  pub count : p.count ≡ length es
  pub height : p.height ≡ height_of_part es
  pub name : p.name ≡ name_of_part depth es

contents_height : (bytes : Bytes) → height (Tree.contents bytes) ≡ 0
unfolding Tree.contents empty insert checked height
contents_height bytes = refl

contents_some : (bytes : Bytes) → IsFalse (is_empty (Tree.contents bytes))
unfolding Tree.contents empty insert checked
contents_some bytes = refl

part_in : Part → Option Kept → Part
part_in d None = d
part_in d (Some (kept_contents name)) = d
part_in d (Some (kept_part p)) = p

pub kept_same : (p q : Part) → ◌≡◌ {A = Option Kept} (Some (kept_part p)) (Some (kept_part q)) → p ≡ q
unfolding part_in
kept_same p q e = ap (part_in p) e

pub none_empty : AllSome []
unfolding AllSome In
none_empty = λ s sub i. absurd i

pub more_some : (x : Step × Tree) (xs : Entries) → IsFalse (is_empty x.1) → AllSome xs → AllSome (x ∷ xs)
unfolding AllSome In
more_some x xs h rest s sub (inl e) = ap (λ (y : Step × Tree). is_empty y.1) e ∙ h
more_some x xs h rest s sub (inr i) = rest s sub i

abbrev AllParts : List (ℕ × Entries) → Type 0
AllParts xs = (c : ℕ × Entries) → In c xs → AllSome c.1

no_parts : AllParts []
unfolding In
no_parts = λ c i. absurd i

more_parts : (x : ℕ × Entries) (xs : List (ℕ × Entries)) → AllSome x.1 → AllParts xs → AllParts (x ∷ xs)
unfolding In
more_parts x xs h rest c (inl e) = subst (λ y. AllSome y.1) (sym e) h
more_parts x xs h rest c (inr i) = rest c i

inode_some : (depth : ℕ) (es : Entries) → AllParts (children_of depth es) → AllSome es
unfolding AllSome
inode_some depth es h s sub i = h (place s depth, at_place depth (place s depth) es) (entry_child depth es (s, sub) i) s sub (place_in depth es (s, sub) i)

module _ (records : ℕ → Option Record) where
  -- ---- a leaf's entries

  pub entries_count : {at : ℕ} {fs : List LeafEntry} {xs : Entries} → EntriesAt records at fs xs → length fs ≡ length xs
  entries_count no_entries = refl
  entries_count (entry_first e es) = ap suc (entries_count es)

  entry_height : {at : ℕ} {e : LeafEntry} {x : Step × Tree} → EntryAt records at e x → e.height ≡ height x.1
  entry_height (contents_at bytes below is height child) = height ∙ sym (contents_height bytes)
  entry_height (directory_at sub below part directory some height child) = height

  entry_child_is : {at : ℕ} {e : LeafEntry} {x : Step × Tree} → EntryAt records at e x → ◌≡◌ {A = Step × Child} (e.step, (e.kind, e.name)) (x.0, child_of x.1)
  entry_child_is (contents_at {e = e} bytes below is height child) = λ i. (e.step, child i)
  entry_child_is (directory_at {e = e} sub below part directory some height child) = λ i. (e.step, child i)

  entries_height : (n : ℕ) {at : ℕ} {fs : List LeafEntry} {xs : Entries} → EntriesAt records at fs xs → fold (λ m (e : LeafEntry). max m (suc e.height)) n fs ≡ fold (λ m (x : Step × Tree). max m (suc (height x.1))) n xs
  entries_height n no_entries = refl
  entries_height n (entry_first {e = e} {x = x} {es = fs} {xs = xs} first rest) = ap (λ k. fold (λ m (f : LeafEntry). max m (suc f.height)) (max n (suc k)) fs) (entry_height first) ∙ entries_height (max n (suc (height x.1))) rest

  entries_children : {at : ℕ} {fs : List LeafEntry} {xs : Entries} → EntriesAt records at fs xs
      → ◌≡◌ {A = List (Step × Child)} (map (λ e. (e.step, (e.kind, e.name))) fs) (map (λ x. (x.0, child_of x.1)) xs)
  entries_children no_entries = refl
  entries_children (entry_first first rest) = let a = entry_child_is first in let b = entries_children rest in λ i. a i ∷ b i

  pub entries_steps : {at : ℕ} {fs : List LeafEntry} {xs : Entries} → EntriesAt records at fs xs → map (λ e. e.step) fs ≡ map (λ x. x.0) xs
  entries_steps no_entries = refl
  entries_steps (entry_first first rest) = let a = entry_child_is first in let b = entries_steps rest in λ i. (a i).0 ∷ b i

  pub leaf_true : {at : ℕ} (depth : ℕ) (fs : List LeafEntry) (es : Entries) → IsTrue (is_leaf depth es) → EntriesAt records at fs es → IsTrueOf depth es (leaf_part fs)
  leaf_true depth fs es leaf each = record {
    depths = subst (λ n. IsTrue (nat_le n leaf_limit || nat_le deepest depth)) (sym (entries_count each)) leaf;
    count = entries_count each;
    height = entries_height 0 each;
    name = ap (λ xs. sha256 (hashed_leaf xs)) (entries_children each) ∙ sym (leaf_name depth es leaf);
  }

  -- ---- an inode's children

  abbrev pub child_size : InodeChild → ℕ
  child_size c = c.count

  pub children_count : {depth at : ℕ} {cs : List InodeChild} {xs : List (ℕ × Entries)} → ChildrenAt records depth at cs xs → total child_size cs ≡ total size_of xs
  unfolding total
  children_count no_children = refl
  children_count (child_first below part count height name rest) = let ih = children_count rest in omega (arith, count, ih)

  children_height : (n : ℕ) {depth at : ℕ} {cs : List InodeChild} {xs : List (ℕ × Entries)} → ChildrenAt records depth at cs xs
      → fold (λ m (c : InodeChild). max m c.height) n cs ≡ top_from (λ (x : ℕ × Entries). height_of_part x.1) n xs
  children_height n no_children = refl
  children_height n (child_first {c = c} {es = es} {cs = cs} below part count height name rest) = ap (λ k. fold (λ m (d : InodeChild). max m d.height) (max n k) cs) height ∙ children_height (max n (height_of_part es)) rest

  children_names : {depth at : ℕ} {cs : List InodeChild} {xs : List (ℕ × Entries)} → ChildrenAt records depth at cs xs
      → ◌≡◌ {A = List (ℕ × ℕ × Hash)} (map (λ c. (c.index, c.count, c.name)) cs) (map (true_name depth) xs)
  children_names no_children = refl
  children_names (child_first {c = c} below part count height name rest) = let ih = children_names rest in λ i. (c.index, count i, name i) ∷ ih i

  pub shallow : (depth : ℕ) (es : Entries) → IsFalse (is_leaf depth es) → depth ≤ 50
  shallow depth es h = by (nat_le (length es) leaf_limit) (nat_le deepest depth) h (low depth)
    where
      low : (d : ℕ) → nat_le 51 d ≡ false → d ≤ 50
      low d h = grind arith

      by : (a b : Bool) → (a || b) ≡ false → (b ≡ false → depth ≤ 50) → depth ≤ 50
      by true b h k = absurd (no_true true h refl)
      by false b h k = k h

  pub inode_true : {at : ℕ} (look : Look) (depth : ℕ) (cs : List InodeChild) (es : Entries) → IsFalse (is_leaf depth es) → ChildrenAt records depth at cs (children_of depth es) → IsTrueOf depth es (inode_part look depth cs)
  inode_true look depth cs es inode each = record {
    depths = refl;
    count = sum_total child_size cs ∙ children_count each ∙ counts depth es;
    height = children_height 0 each ∙ heights depth es;
    name = ap (λ xs. sha256 (hashed_inode depth xs)) (children_names each) ∙ sym (name_of_inode depth es (shallow depth es inode) inode);
  }

  -- ---- parts

  -- what is remembered of a part is true of it
  pub part_true : (look : Look) (top : ℕ) → RemembersBelow look records top → {depth at : ℕ} {es : Entries} → at < top → PartAt records depth at es → (p : Part) × (look at ≡ Some (kept_part p)) × IsTrueOf depth es p
  part_true look top rem l (leaf_at {depth = depth} {at = at} {es = es} fields is leaf each) = (leaf_part fields, rem at l ∙ ap (kept_by look) is, leaf_true depth fields es leaf each)
  part_true look top rem l (inode_at {depth = depth} {at = at} {es = es} children is inode each) = (inode_part look depth children, rem at l ∙ ap (kept_by look) is, inode_true look depth children es inode each)

  -- a leaf of few entries is a part at each depth
  pub at_depth : (look : Look) (top : ℕ) → RemembersBelow look records top → {depth at : ℕ} {es : Entries} → at < top → PartAt records depth at es
      → (p : Part) → look at ≡ Some (kept_part p) → (d : ℕ) → AtDepth d p → PartAt records d at es
  at_depth look top rem l (leaf_at {depth = depth} {at = at} {es = es} fields is leaf each) p e d deep =
      let same : p ≡ leaf_part fields = kept_same p (leaf_part fields) (sym e ∙ rem at l ∙ ap (kept_by look) is) in
      leaf_at fields is (subst (λ n. IsTrue (nat_le n leaf_limit || nat_le deepest d)) (entries_count each) (subst (AtDepth d) same deep)) each
  at_depth look top rem l (inode_at {depth = depth} {at = at} {es = es} children is inode each) p e d deep =
      let same : p ≡ inode_part look depth children = kept_same p (inode_part look depth children) (sym e ∙ rem at l ∙ ap (kept_by look) is) in
      let is_depth : depth ≡ d = subst (AtDepth d) same deep in
      subst (λ k. PartAt records k at es) is_depth (inode_at children is inode each)

  -- no entry of a part is empty
  mutual
    pub part_some : {depth at : ℕ} {es : Entries} → PartAt records depth at es → AllSome es
    part_some (leaf_at fields is leaf each) = entries_some each
    part_some (inode_at {depth = depth} {es = es} children is inode each) = inode_some depth es (children_some each)

    entry_some : {at : ℕ} {e : LeafEntry} {x : Step × Tree} → EntryAt records at e x → IsFalse (is_empty x.1)
    entry_some (contents_at bytes below is height child) = contents_some bytes
    entry_some (directory_at sub below part directory some height child) = some

    entries_some : {at : ℕ} {fs : List LeafEntry} {xs : Entries} → EntriesAt records at fs xs → AllSome xs
    entries_some no_entries = none_empty
    entries_some (entry_first {x = x} {xs = xs} first rest) = more_some x xs (entry_some first) (entries_some rest)

    children_some : {depth at : ℕ} {cs : List InodeChild} {xs : List (ℕ × Entries)} → ChildrenAt records depth at cs xs → AllParts xs
    children_some no_children = no_parts
    children_some (child_first {c = c} {es = es} {xs = xs} below part count height name rest) = more_parts (c.index, es) xs (part_some part) (children_some rest)

-- The kinds of entries, as they are put into maps.
--     sorted_in      a map over steps is in order
--     put_end      an entry behind all others
--     kinds_put, leaf_kinds      of the entries of a leaf
--     all_kinds, children_kinds      of the children of an inode, one after the other
--     first_child, no_children_left      the first of them, and where none is left
--     kinds_sorted, listing_is      the kinds of a directory are its listing
use Rattle.std.proofs.Common.{◌≡◌, ◌≢◌, ◌⊎◌, inl, inr, ℕ, zero, suc, ◌+◌, ◌<◌, ◌≤◌, Bool, true, false, List, [], ◌∷◌, ◌++◌, T, length, map, filter, refl, sym, ap, subst, ◌∙◌, Option, Some, None, cond, arith}
use Rattle.std.proofs.lemmas.Bool.{eq-eqb, ne_eqb}
use Rattle.std.proofs.lemmas.Cmp.{nat_list_cmp_total}
use Rattle.std.specs.BTreeMap.{BTreeMap, IsOrdered}
use Rattle.std.specs.FinMap.Entries.{below_all, by_order, find, find-put, is_sorted, put, same_entries}
use Rattle.std.specs.List.{AllByRecursion, range_with_len}
use Rattle.std.specs.List.Sorted.{IsStrictlySortedBy}
use Rattle.std.specs.Map.{keys_of}
use Rattle.std.specs.Ordering.{is_lt, ordering_reverse}
use Rattle.std.proofs.lemmas.Bool.Decides.{nat_tests}
use Rattle.std.specs.declared.cmp.Ordering.TheVariants.{Less, Greater}
use Rattle.std.specs.Prelude.{◌==◌, is_some, nat_lt, not, option_map}
use Rattle.ip_spec.specs.Path.{Step, bytes_cmp, same_bytes}
use Rattle.ip_spec.specs.Record.{Child}
use Rattle.ip_spec.specs.Shape.{Entries, at_place, child_by, children_of, place}
use Rattle.ip_spec.specs.StoredParts.{entry_named}
use Rattle.ip_spec.specs.Map.{get}
use Rattle.ip_spec.specs.Tree.{Tree, contents, entries_of, is_contents, listed_at}
use Rattle.ip_spec.specs.TreeAt.{ChildrenAt, PartAt, child_first, no_children}
use Rattle.ip_spec.specs.declared.record.InodeChild.{InodeChild}
use Rattle.ip_spec.specs.declared.record.Ref.{Ref}
use Rattle.ip_spec.specs.declared.tree.Item.{Item}
use Rattle.ip_spec.specs.declared.tree.Listed.TheVariants as Listed
use Rattle.ip_spec.specs.declared.record.LeafEntry.{LeafEntry}
use Rattle.ip_spec.specs.declared.record.Record.{Record}
use Rattle.ip_spec.proofs.Subtrees.{get-contents, listed_contents, listed_directory}
use Rattle.ip_shape.specs.Directory.{steps_of}
use Rattle.ip_shape.specs.Shape.{ascend}
use Rattle.ip_shape.proofs.Steps.{both, first, second, less, lt_of, same_step}
use Rattle.ip_shape.proofs.Ways.{same_or_not}
use Rattle.ip_tree.specs.Listing.{entry_kind, is_directory, item_of, kind_at, kind_of, kind_or, kinds_of}
use Rattle.ip_tree.specs.Meaning.{NodeIs, StoredIs, contents_in, directory_in}
use Rattle.ip_tree.specs.Node as view
use Rattle.ip_tree.specs.Reads.{FindsEntry, IsPartRef, Reaches, contents_at, directory_at, ref_of_child, stored_of_entry}
use Rattle.ip_tree.specs.declared.node.Node.{Node}
use Rattle.ip_tree.specs.declared.node.Stored.{Stored}
use Rattle.ip_tree.proofs.EntryBelow.{leaf_finds}
use Rattle.ip_tree.proofs.PartEntries.{found_at, ordered_steps}
use Rattle.ip_tree.proofs.PartRecords.{place_small}
use Rattle.ip_tree.proofs.PartlyShown.{map_find, show}

module _ {X : Type 0} where
  below : (s : Step) (es : List (Step × X)) → AllByRecursion (λ t. bytes_cmp s t ≡ Less) (keys_of es) → T (below_all bytes_cmp s es)
  below s [] h = tt
  below s (e ∷ es) h = both (is_lt (bytes_cmp s e.0)) (below_all bytes_cmp s es) (lt_of (bytes_cmp s e.0) h.0) (below s es h.1)

  sorted_keys : (es : List (Step × X)) → IsStrictlySortedBy bytes_cmp (keys_of es) → T (is_sorted bytes_cmp es)
  unfolding IsStrictlySortedBy
  sorted_keys [] h = tt
  sorted_keys (e ∷ es) h = both (below_all bytes_cmp e.0 es) (is_sorted bytes_cmp es) (below e.0 es h.0) (sorted_keys es h.1)

  pub sorted_in : (m : BTreeMap Step X) → IsOrdered bytes_cmp m → T (is_sorted bytes_cmp m.entries)
  sorted_in m h = sorted_keys m.entries h

  last_above : (s k : Step) (v : X) (xs ys : List (Step × X)) → T (below_all bytes_cmp s (xs ++ (k, v) ∷ ys)) → bytes_cmp s k ≡ Less
  last_above s k v [] ys h = less (bytes_cmp s k) (first (is_lt (bytes_cmp s k)) (below_all bytes_cmp s ys) h)
  last_above s k v (x ∷ xs) ys h = last_above s k v xs ys (second (is_lt (bytes_cmp s x.0)) (below_all bytes_cmp s (xs ++ (k, v) ∷ ys)) h)

  pub put_end : (k : Step) (v : X) (xs ys : List (Step × X)) → T (is_sorted bytes_cmp (xs ++ (k, v) ∷ ys)) → put bytes_cmp k v xs ≡ xs ++ (k, v) ∷ []
  put_end k v [] ys h = refl
  put_end k v (x ∷ xs) ys h =
      let over : bytes_cmp k x.0 ≡ Greater =
      nat_list_cmp_total.antisymm k x.0 ∙ ap ordering_reverse (last_above x.0 k v xs ys (first (below_all bytes_cmp x.0 (xs ++ (k, v) ∷ ys)) (is_sorted bytes_cmp (xs ++ (k, v) ∷ ys)) h)) in
      ap (λ o. by_order o ((k, v) ∷ x ∷ xs) ((x.0, v) ∷ xs) (x ∷ put bytes_cmp k v xs)) over
      ∙ ap (λ (l : List (Step × X)). x ∷ l) (put_end k v xs ys (second (below_all bytes_cmp x.0 (xs ++ (k, v) ∷ ys)) (is_sorted bytes_cmp (xs ++ (k, v) ∷ ys)) h))

-- ---- of a leaf

pub kinds_put : (s : Step) (e : LeafEntry) (rest : List LeafEntry) (old found : List (Step × Bool)) → find bytes_cmp s found ≡ kind_or (entry_kind s rest) (find bytes_cmp s old)
    → find bytes_cmp s (put bytes_cmp e.step (e.kind == 2) found) ≡ kind_or (entry_kind s (e ∷ rest)) (find bytes_cmp s old)
kinds_put s e rest old found is = find-put bytes_cmp nat_list_cmp_total s e.step (e.kind == 2) found ∙ ap (cond (same_bytes s e.step) (Some (e.kind == 2))) is ∙ by (same_bytes s e.step)
  where
    by : (b : Bool) → cond b (Some (e.kind == 2)) (kind_or (entry_kind s rest) (find bytes_cmp s old)) ≡ kind_or (option_map (λ (f : LeafEntry). f.kind == 2) (cond b (Some e) (entry_named s rest))) (find bytes_cmp s old)
    by true = refl
    by false = refl

contents_are : (b : List ℕ) → is_contents (contents b) ≡ true
contents_are b = ap is_some (get-contents b [])

kind_by : (o : Option (List ℕ)) (sub : Tree) → ((child_by o sub).0 == 2) ≡ not (is_some o)
kind_by (Some b) sub = refl
kind_by None sub = refl

module _ (records : ℕ → Option Record) where
  stored_kind : (x : Stored) (t : Tree) → StoredIs records x t → (x.reference.kind == 2) ≡ kind_of t
  stored_kind x t (contents_in bytes is low child) = ap (λ (c : Child). c.0 == 2) child ∙ kind_by (get (contents bytes) []) (contents bytes)
  stored_kind x t (directory_in sub some spells) = ap (λ k. k == 2) spells.kind ∙ sym (ap not some.directory)

  pub node_kind : (n : view.Node) (t : Tree) → NodeIs records n t → is_directory n ≡ kind_of t
  node_kind (view.stored x) t is = stored_kind x t is
  node_kind (view.contents b) t is = sym (ap (λ (x : Tree). not (is_contents x)) is ∙ ap not (contents_are b))
  node_kind (view.directory root ns) t is = sym (ap not is.0.directory)

  entry_kinds : (es : Entries) (s : Step) (o : Option LeafEntry) → FindsEntry records es s (option_map stored_of_entry o) → option_map (λ (e : LeafEntry). e.kind == 2) o ≡ option_map kind_of (find bytes_cmp s es)
  entry_kinds es s None finds = ap (option_map kind_of) (sym finds)
  entry_kinds es s (Some e) finds = ap Some (stored_kind (stored_of_entry e) finds.0 finds.2) ∙ ap (option_map kind_of) (sym finds.1)

  pub leaf_kinds : (depth at : ℕ) (es : Entries) → PartAt records depth at es → (fields : List LeafEntry) → records at ≡ Some (Record.Leaf fields) → (s : Step) → entry_kind s fields ≡ option_map kind_of (find bytes_cmp s es)
  leaf_kinds depth at es part fields here s = entry_kinds es s (entry_named s fields) (leaf_finds records depth at es part fields s (option_map stored_of_entry (entry_named s fields)) here refl)

-- ---- of an inode

pub all_kinds : Step → List (ℕ × Entries) → Option Bool → Option Bool
all_kinds s [] o = o
all_kinds s (x ∷ xs) o = all_kinds s xs (kind_or (option_map kind_of (find bytes_cmp s x.1)) o)

pub all_kinds_none : (s : Step) (o : Option Bool) → all_kinds s [] o ≡ o
unfolding all_kinds
all_kinds_none s o = refl

pub all_kinds_more : (s : Step) (x : ℕ × Entries) (xs : List (ℕ × Entries)) (o : Option Bool) → all_kinds s (x ∷ xs) o ≡ all_kinds s xs (kind_or (option_map kind_of (find bytes_cmp s x.1)) o)
unfolding all_kinds
all_kinds_more s x xs o = refl

module _ (depth : ℕ) (es : Entries) (s : Step) where
  abbrev found : Option Bool
  found = option_map kind_of (find bytes_cmp s es)

  child_kind : (i : ℕ) → option_map kind_of (find bytes_cmp s (at_place depth i es)) ≡ cond (place s depth == i) found None
  child_kind i = ap (option_map kind_of) (found_at depth i es s) ∙ by (place s depth == i)
    where
      by : (b : Bool) → option_map kind_of (cond b (find bytes_cmp s es) None) ≡ cond b found None
      by true = refl
      by false = refl

  empty_kind : (i : ℕ) → nat_lt 0 (length (at_place depth i es)) ≡ false → cond (place s depth == i) found None ≡ None
  empty_kind i e = sym (child_kind i) ∙ by (at_place depth i es) e
    where
      by : (xs : Entries) → nat_lt 0 (length xs) ≡ false → option_map kind_of (find bytes_cmp s xs) ≡ None
      by [] f = refl
      by (x ∷ xs) f = absurd (grind (arith, nat_tests))

  -- over places: what is found at the step's
  over : Option Bool → ℕ → ℕ → Option Bool
  over o a zero = o
  over o a (suc n) = over (kind_or (cond (place s depth == a) found None) o) (a + 1) n

  abbrev rest : ℕ → ℕ → List (ℕ × Entries)
  rest a n = filter (λ (c : ℕ × Entries). nat_lt 0 (length c.1)) (map (λ i. (i, at_place depth i es)) (range_with_len a n))

  kept : (o : Option Bool) (a n : ℕ) → all_kinds s (rest a n) o ≡ over o a n
  unfolding over all_kinds
  kept o a zero = refl
  kept o a (suc n) = by (nat_lt 0 (length (at_place depth a es))) refl (λ p. kept p (a + 1) n)
    where
      by : (b : Bool) → nat_lt 0 (length (at_place depth a es)) ≡ b → ((p : Option Bool) → all_kinds s (rest (a + 1) n) p ≡ over p (a + 1) n)
          → all_kinds s (cond b ((a, at_place depth a es) ∷ rest (a + 1) n) (rest (a + 1) n)) o ≡ over (kind_or (cond (place s depth == a) found None) o) (a + 1) n
      by true e deeper = deeper (kind_or (option_map kind_of (find bytes_cmp s (at_place depth a es))) o) ∙ ap (λ k. over (kind_or k o) (a + 1) n) (child_kind a)
      by false e deeper = deeper o ∙ ap (λ k. over (kind_or k o) (a + 1) n) (sym (empty_kind a e))

  past : (o : Option Bool) (a n : ℕ) → place s depth < a → over o a n ≡ o
  unfolding over
  past o a zero low = refl
  past o a (suc n) low = ap (λ b. over (kind_or (cond b found None) o) (a + 1) n) (ne_eqb (place s depth) a (λ e. omega (arith, e, low))) ∙ past o (a + 1) n (omega (arith, low))

  within : (o : Option Bool) (a n : ℕ) → a ≤ place s depth → place s depth < a + n → over o a n ≡ kind_or found o
  unfolding over
  within o a zero low high = absurd (omega (arith, low, high))
  within o a (suc n) low high = by (same_or_not (place s depth) a) (within o (a + 1) n)
    where
      by : (place s depth ≡ a) ⊎ (place s depth ≢ a) → (a + 1 ≤ place s depth → place s depth < a + 1 + n → over o (a + 1) n ≡ kind_or found o) → over (kind_or (cond (place s depth == a) found None) o) (a + 1) n ≡ kind_or found o
      by (inl e) deeper = ap (λ b. over (kind_or (cond b found None) o) (a + 1) n) (eq-eqb (place s depth) a e) ∙ past (kind_or found o) (a + 1) n (omega (arith, e))
      by (inr e) deeper = ap (λ b. over (kind_or (cond b found None) o) (a + 1) n) (ne_eqb (place s depth) a e) ∙ deeper (omega (arith, low, e)) (omega (arith, high))

  pub children_kinds : (o : Option Bool) → all_kinds s (children_of depth es) o ≡ kind_or found o
  unfolding children_of
  children_kinds o = kept o 0 32 ∙ within o 0 32 (omega arith) (let p = place_small s depth in omega (arith, p))

-- ---- the children of an inode, from the first on

pub record FirstChild (records : ℕ → Option Record) (depth at : ℕ) (c : InodeChild) (cs : List InodeChild) (xs : List (ℕ × Entries)) : Type 0 where
  pub entries : Entries
  pub others : List (ℕ × Entries)
  pub whole : xs ≡ (c.index, entries) ∷ others
  pub asked : IsPartRef records (suc depth) (ref_of_child c) entries
  pub rest : ChildrenAt records depth at cs others

pub first_child : (records : ℕ → Option Record) {depth at : ℕ} {c : InodeChild} {cs : List InodeChild} {xs : List (ℕ × Entries)} → ChildrenAt records depth at (c ∷ cs) xs → FirstChild records depth at c cs xs
first_child records (child_first {es = es} {xs = xs} below part count height name rest) = record { entries = es; others = xs; whole = refl; asked = record { part = part; kind = refl; name = name }; rest = rest }

pub no_children_left : (records : ℕ → Option Record) {depth at : ℕ} {xs : List (ℕ × Entries)} → ChildrenAt records depth at [] xs → xs ≡ []
no_children_left records no_children = refl

-- ---- a listing

kinds_steps : (es : List (Step × Node)) → steps_of (map kind_at (map show es)) ≡ steps_of es
kinds_steps [] = refl
kinds_steps (e ∷ es) = ap (λ (ss : List Step). e.0 ∷ ss) (kinds_steps es)

pub kinds_sorted : (es : List (Step × Node)) → T (is_sorted bytes_cmp es) → T (is_sorted bytes_cmp (map kind_at (map show es)))
kinds_sorted es h = subst (λ b. T b) (sym (ordered_steps es) ∙ ap ascend (sym (kinds_steps es)) ∙ ordered_steps (map kind_at (map show es))) h

tree_steps : (es : Entries) → steps_of (kinds_of es) ≡ steps_of es
tree_steps [] = refl
tree_steps (e ∷ es) = ap (λ (ss : List Step). e.0 ∷ ss) (tree_steps es)

tree_items : (es : Entries) → map item_of (kinds_of es) ≡ map (λ e. record { step = e.0; dir = not (is_contents e.1) }) es
tree_items [] = refl
tree_items (e ∷ es) = ap (λ (l : List Item). item_of (e.0, kind_of e.1) ∷ l) (tree_items es)

pub listing_is : (t : Tree) (found : List (Step × Bool)) → is_contents t ≡ false → T (is_sorted bytes_cmp found) → ((s : Step) → find bytes_cmp s found ≡ option_map kind_of (find bytes_cmp s (entries_of t).entries)) → Listed.Entries (map item_of found) ≡ listed_at t []
listing_is t found no_contents sorted each =
    let es = (entries_of t).entries in
    let in_order : T (is_sorted bytes_cmp (kinds_of es)) = subst (λ b. T b) (sym (ordered_steps es) ∙ ap ascend (sym (tree_steps es)) ∙ ordered_steps (kinds_of es)) (entries_of t).sorted in
    let same : found ≡ kinds_of es = same_entries bytes_cmp nat_list_cmp_total same_step found (kinds_of es) sorted in_order (λ s. each s ∙ sym (map_find kind_of s es)) in
    ap (λ (l : List (Step × Bool)). Listed.Entries (map item_of l)) same ∙ ap (λ l. Listed.Entries l) (tree_items es) ∙ sym (listed_directory t no_contents)

pub or_none : (k : Option Bool) → kind_or k None ≡ k
or_none None = refl
or_none (Some b) = refl

pub bytes_listed : (records : ℕ → Option Record) (r : Ref) (t : Tree) → r.kind ≡ 1 → Reaches records r t → Listed.Contents ≡ listed_at t []
bytes_listed records r t kind (contents_at bytes is one name) = sym (listed_contents bytes)
bytes_listed records r t kind (directory_at sub spells no_contents) = absurd (let two = spells.kind in omega (arith, two, kind))

pub none_of : {A : Type 0} (xs : List A) → length xs ≡ 0 → xs ≡ []
none_of [] e = refl
none_of (x ∷ xs) e = absurd (omega (arith, e))

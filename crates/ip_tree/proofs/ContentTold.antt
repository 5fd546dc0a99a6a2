-- What the record of a part tells of it: how many entries it has, and the greatest number of steps.
--     children_fold      what is added up over the children of an inode is what is added up over its entries
--     told_count      the count that a record tells, which fits a word
--     told_height      and the height
use Rattle.std.proofs.Common.{◌≡◌, ◌≢◌, ◌⊎◌, inl, inr, ℕ, zero, suc, ◌+◌, ◌*◌, ◌-◌, ◌^◌, ◌<◌, ◌≤◌, max, Bool, true, false, List, [], ◌∷◌, length, map, filter, refl, sym, ap, ◌∙◌, Option, Some, cond, arith}
use Rattle.std.specs.Prelude.{◌==◌, nat_lt, fold, sum_by}
use Rattle.std.specs.List.{range_with_len}
use Rattle.std.proofs.lemmas.Bool.{eq-eqb, ne_eqb}
use Rattle.std.proofs.lemmas.Bool.Decides.{nat_tests}
use Rattle.std.proofs.lemmas.List.Sums.{sum_by-le}
use Rattle.ip_spec.specs.Path.{Step}
use Rattle.ip_spec.specs.declared.record.Record.{Record}
use Rattle.ip_spec.specs.declared.record.LeafEntry.{LeafEntry}
use Rattle.ip_spec.specs.declared.record.InodeChild.{InodeChild}
use Rattle.ip_spec.specs.Record.{Fits}
use Rattle.ip_spec.specs.Shape.{Entries, place, at_place, children_of, height_of_part}
use Rattle.ip_spec.specs.Tree as Tree
use Rattle.ip_spec.specs.Tree.{Tree, height, tree_runs}
use Rattle.ip_spec.specs.TreeAt.{ChildrenAt, EntriesAt, EntryAt, PartAt, no_children, child_first, contents_at, directory_at, no_entries, entry_first}
use Rattle.ip_shape.proofs.Heights.{inode_fold, leaf_fold}
use Rattle.ip_shape.proofs.Ways.{same_or_not}
use Rattle.ip_tree.specs.Heights.{content_height}
use Rattle.ip_tree.specs.Reads.{content_count, record_of}
use Rattle.ip_tree.specs.declared.fetch.Content.{Content}
use Rattle.ip_tree.specs.declared.fetch.Content.TheVariants as content
use Rattle.ip_tree.proofs.LeafEntered.{is_leaf_at}
use Rattle.ip_tree.proofs.PartRecords.{is_inode, place_small}

-- ---- something added up over entries, in any order

abbrev is_some_child : ℕ × Entries → Bool
is_some_child c = nat_lt 0 (length c.1)

nothing_there : (es : Entries) → nat_lt 0 (length es) ≡ false → es ≡ []
nothing_there [] e = refl
nothing_there (x ∷ es) e = absurd (grind (arith, nat_tests))

grows : (depth i : ℕ) (x : Step × Tree) (es : Entries) → place x.0 depth ≡ i → at_place depth i (x ∷ es) ≡ x ∷ at_place depth i es
unfolding at_place
grows depth i x es e = ap (λ b. cond b (x ∷ filter (λ (y : Step × Tree). place y.0 depth == i) es) (filter (λ (y : Step × Tree). place y.0 depth == i) es)) (eq-eqb (place x.0 depth) i e)

keeps : (depth i : ℕ) (x : Step × Tree) (es : Entries) → place x.0 depth ≢ i → at_place depth i (x ∷ es) ≡ at_place depth i es
unfolding at_place
keeps depth i x es e = ap (λ b. cond b (x ∷ filter (λ (y : Step × Tree). place y.0 depth == i) es) (filter (λ (y : Step × Tree). place y.0 depth == i) es)) (ne_eqb (place x.0 depth) i e)

nothing_at : (depth i : ℕ) → at_place {C = Tree} depth i [] ≡ []
unfolding at_place
nothing_at depth i = refl

module _ (op : ℕ → ℕ → ℕ) (grouped : (a b c : ℕ) → op a (op b c) ≡ op (op a b) c) (swapped : (a b c : ℕ) → op (op a b) c ≡ op (op a c) b) (idle : (a : ℕ) → op a 0 ≡ a)
    (of : Entries → ℕ) (one : Step × Tree → ℕ) (of_none : of [] ≡ 0) (of_more : (x : Step × Tree) (es : Entries) → of (x ∷ es) ≡ op (of es) (one x)) where
  -- from a place on, over as many
  over : (ℕ → Entries) → ℕ → ℕ → ℕ → ℕ
  over f m a zero = m
  over f m a (suc n) = over f (op m (of (f a))) (a + 1) n

  later : (f : ℕ → Entries) (m y a n : ℕ) → over f (op m y) a n ≡ op (over f m a n) y
  unfolding over
  later f m y a zero = refl
  later f m y a (suc n) = ap (λ k. over f k (a + 1) n) (swapped m y (of (f a))) ∙ later f (op m (of (f a))) y (a + 1) n

  abbrev rest : (ℕ → Entries) → ℕ → ℕ → List (ℕ × Entries)
  rest f a n = filter is_some_child (map (λ i. (i, f i)) (range_with_len (a + 1) n))

  kept : (f : ℕ → Entries) (m a n : ℕ) → fold (λ k (c : ℕ × Entries). op k (of c.1)) m (filter is_some_child (map (λ i. (i, f i)) (range_with_len a n))) ≡ over f m a n
  unfolding over
  kept f m a zero = refl
  kept f m a (suc n) = by (nat_lt 0 (length (f a))) refl (kept f (op m (of (f a))) (a + 1) n) (kept f m (a + 1) n)
    where
      by : (b : Bool) → nat_lt 0 (length (f a)) ≡ b → fold (λ k (c : ℕ × Entries). op k (of c.1)) (op m (of (f a))) (rest f a n) ≡ over f (op m (of (f a))) (a + 1) n → fold (λ k (c : ℕ × Entries). op k (of c.1)) m (rest f a n) ≡ over f m (a + 1) n
          → fold (λ k (c : ℕ × Entries). op k (of c.1)) m (cond b ((a, f a) ∷ (rest f a n)) (rest f a n)) ≡ over f (op m (of (f a))) (a + 1) n
      by true e with_it without_it = with_it
      by false e with_it without_it = without_it ∙ ap (λ k. over f k (a + 1) n) (sym (ap (op m) (ap of (nothing_there (f a) e) ∙ of_none) ∙ idle m))

  module _ (depth : ℕ) where
    abbrev places : Entries → ℕ → Entries
    places es i = at_place depth i es

    none_more : (m a n : ℕ) (x : Step × Tree) (es : Entries) → place x.0 depth < a → over (places (x ∷ es)) m a n ≡ over (places es) m a n
    unfolding over
    none_more m a zero x es low = refl
    none_more m a (suc n) x es low =
        ap (λ k. over (places (x ∷ es)) (op m k) (a + 1) n) (ap of (keeps depth a x es (λ e. omega (arith, e, low)))) ∙ none_more (op m (of (places es a))) (a + 1) n x es (omega (arith, low))

    one_more : (m a n : ℕ) (x : Step × Tree) (es : Entries) → a ≤ place x.0 depth → place x.0 depth < a + n → over (places (x ∷ es)) m a n ≡ op (over (places es) m a n) (one x)
    unfolding over
    one_more m a zero x es low high = absurd (omega (arith, low, high))
    one_more m a (suc n) x es low high = by (same_or_not (place x.0 depth) a) (one_more (op m (of (places es a))) (a + 1) n x es)
      where
        by : (place x.0 depth ≡ a) ⊎ (place x.0 depth ≢ a)
            → (a + 1 ≤ place x.0 depth → place x.0 depth < a + 1 + n → over (places (x ∷ es)) (op m (of (places es a))) (a + 1) n ≡ op (over (places es) (op m (of (places es a))) (a + 1) n) (one x))
            → over (places (x ∷ es)) (op m (of (places (x ∷ es) a))) (a + 1) n ≡ op (over (places es) (op m (of (places es a))) (a + 1) n) (one x)
        by (inl e) deeper =
            ap (λ k. over (places (x ∷ es)) (op m k) (a + 1) n) (ap of (grows depth a x es e) ∙ of_more x (places es a)) ∙ ap (λ k. over (places (x ∷ es)) k (a + 1) n) (grouped m (of (places es a)) (one x))
            ∙ none_more (op (op m (of (places es a))) (one x)) (a + 1) n x es (omega (arith, e)) ∙ later (places es) (op m (of (places es a))) (one x) (a + 1) n
        by (inr e) deeper = ap (λ k. over (places (x ∷ es)) (op m k) (a + 1) n) (ap of (keeps depth a x es e)) ∙ deeper (omega (arith, low, e)) (omega (arith, high))

    none_at_all : (m a n : ℕ) → over (places []) m a n ≡ m
    unfolding over
    none_at_all m a zero = refl
    none_at_all m a (suc n) = ap (λ k. over (places []) k (a + 1) n) (ap (op m) (ap of (nothing_at depth a) ∙ of_none) ∙ idle m) ∙ none_at_all m (a + 1) n

    over_all : (m : ℕ) (es : Entries) → over (places es) m 0 32 ≡ op m (of es)
    over_all m [] = none_at_all m 0 32 ∙ sym (idle m) ∙ ap (op m) (sym of_none)
    over_all m (x ∷ es) =
        one_more m 0 32 x es (omega arith) (let p = place_small x.0 depth in omega (arith, p)) ∙ ap (λ k. op k (one x)) (over_all m es) ∙ sym (grouped m (of es) (one x)) ∙ ap (op m) (sym (of_more x es))

    pub children_fold : (m : ℕ) (es : Entries) → fold (λ k (c : ℕ × Entries). op k (of c.1)) m (children_of depth es) ≡ op m (of es)
    unfolding children_of
    children_fold m es = kept (places es) m 0 32 ∙ over_all m es

-- ---- counts and heights

sum_children : (depth : ℕ) (es : Entries) → fold (λ k (c : ℕ × Entries). k + length c.1) 0 (children_of depth es) ≡ length es
sum_children depth es =
    let all = children_fold (λ a b. a + b) (λ a b c. omega arith) (λ a b c. omega arith) (λ a. omega arith) (λ (xs : Entries). length xs) (λ x. 1) refl (λ x xs. omega arith) depth 0 es in omega (arith, all)

top_from : (n m : ℕ) (es : Entries) → fold (λ k (e : Step × Tree). max k (suc (height e.1))) (max n m) es ≡ max (fold (λ k (e : Step × Tree). max k (suc (height e.1))) n es) m
top_from n m [] = refl
top_from n m (e ∷ es) =
    let turned : max (max n m) (suc (height e.1)) ≡ max (max n (suc (height e.1))) m = omega arith in
    ap (λ k. fold (λ k (e : Step × Tree). max k (suc (height e.1))) k es) turned ∙ top_from (max n (suc (height e.1))) m es

top_children : (depth : ℕ) (es : Entries) → fold (λ k (c : ℕ × Entries). max k (height_of_part c.1)) 0 (children_of depth es) ≡ height_of_part es
top_children depth es =
    let all = children_fold (λ a b. max a b) (λ a b c. omega arith) (λ a b c. omega arith) (λ a. omega arith) height_of_part (λ x. suc (height x.1)) refl (λ x xs. top_from 0 (suc (height x.1)) xs) depth 0 es in omega (arith, all)

few_kept : (f : ℕ → Entries) (a n : ℕ) → length (filter is_some_child (map (λ i. (i, f i)) (range_with_len a n))) ≤ n
few_kept f a zero = omega arith
few_kept f a (suc n) = by (nat_lt 0 (length (f a))) (few_kept f (a + 1) n)
  where
    by : (b : Bool) → length (filter is_some_child (map (λ i. (i, f i)) (range_with_len (a + 1) n))) ≤ n
        → length (cond b ((a, f a) ∷ filter is_some_child (map (λ i. (i, f i)) (range_with_len (a + 1) n))) (filter is_some_child (map (λ i. (i, f i)) (range_with_len (a + 1) n)))) ≤ suc n
    by true few = omega (arith, few)
    by false few = omega (arith, few)

few_children : (depth : ℕ) (es : Entries) → length (children_of depth es) ≤ 32
unfolding children_of
few_children depth es = few_kept (λ i. at_place depth i es) 0 32

pub contents_height : (b : List ℕ) → height (Tree.contents b) ≡ 0
unfolding tree_runs
contents_height b = refl

module _ (records : ℕ → Option Record) where
  counts : (n : ℕ) {depth at : ℕ} {cs : List InodeChild} {xs : List (ℕ × Entries)} → ChildrenAt records depth at cs xs → fold (λ k (c : InodeChild). k + c.count) n cs ≡ fold (λ k (x : ℕ × Entries). k + length x.1) n xs
  counts n no_children = refl
  counts n (child_first {es = es} {cs = cs} below part count height name rest) = ap (λ k. fold (λ k (c : InodeChild). k + c.count) (n + k) cs) count ∙ counts (n + length es) rest

  heights : (n : ℕ) {depth at : ℕ} {cs : List InodeChild} {xs : List (ℕ × Entries)} → ChildrenAt records depth at cs xs → fold (λ k (c : InodeChild). max k c.height) n cs ≡ fold (λ k (x : ℕ × Entries). max k (height_of_part x.1)) n xs
  heights n no_children = refl
  heights n (child_first {es = es} {cs = cs} below part count high name rest) = ap (λ k. fold (λ k (c : InodeChild). max k c.height) (max n k) cs) high ∙ heights (max n (height_of_part es)) rest

  long_children : {depth at : ℕ} {cs : List InodeChild} {xs : List (ℕ × Entries)} → ChildrenAt records depth at cs xs → length cs ≡ length xs
  long_children no_children = refl
  long_children (child_first below part count height name rest) = ap suc (long_children rest)

  long_leaf : {at : ℕ} {fields : List LeafEntry} {es : Entries} → EntriesAt records at fields es → length fields ≡ length es
  long_leaf no_entries = refl
  long_leaf (entry_first first rest) = ap suc (long_leaf rest)

  entry_steps : {at : ℕ} {e : LeafEntry} {x : Step × Tree} → EntryAt records at e x → e.height ≡ height x.1
  entry_steps (contents_at bytes below is low child) = low ∙ sym (contents_height bytes)
  entry_steps (directory_at sub below part no_bytes some is child) = is

  leaf_steps : (most : ℕ) {at : ℕ} {fields : List LeafEntry} {es : Entries} → EntriesAt records at fields es → fold (λ k (e : LeafEntry). max k (suc e.height)) most fields ≡ fold (λ k (e : Step × Tree). max k (suc (height e.1))) most es
  leaf_steps most no_entries = refl
  leaf_steps most (entry_first {e = e} {x = x} {es = fields} {xs = xs} first rest) =
      ap (λ k. fold (λ m (f : LeafEntry). max m (suc f.height)) (max most (suc k)) fields) (entry_steps first) ∙ leaf_steps (max most (suc (height x.1))) rest

  -- a count that fits a word
  pub record IsCount (n : ℕ) (es : Entries) : Type 0 where
    pub count : n ≡ length es
    pub fits : n ≤ 2 ^ 64 - 1

  module _ (version depth at : ℕ) (es : Entries) where
    pub told_count : (c : Content) → PartAt records depth at es → records at ≡ Some (record_of c) → Fits version (record_of c) → IsCount (content_count c) es
    told_count (content.Leaf fields) part here fits =
        let leaf = is_leaf_at records fields part here in
        let few : length fields < 2 ^ 32 = fits.fields.count in
        record { count = long_leaf leaf.entries; fits = omega (arith, few) }
    told_count (content.Inode d cs) part here fits =
        let inode = is_inode records d cs part here in
        let few : length cs ≤ 32 = omega (arith, long_children inode.children, few_children depth es) in
        let most : sum_by (λ (c : InodeChild). c.count) cs ≤ length cs * 2 ^ 32 = sum_by-le (λ (c : InodeChild). c.count) (2 ^ 32) cs (λ k x l. let one = (fits.fields.each k x l).count in omega (arith, one)) in
        record { count = counts 0 inode.children ∙ sum_children depth es; fits = omega (arith, few, most) }

    pub told_height : (c : Content) → PartAt records depth at es → records at ≡ Some (record_of c) → Fits version (record_of c) → content_height c ≡ height_of_part es
    told_height (content.Leaf fields) part here fits = leaf_fold fields fits.fields.each ∙ leaf_steps 0 (is_leaf_at records fields part here).entries
    told_height (content.Inode d cs) part here fits = inode_fold cs ∙ heights 0 (is_inode records d cs part here).children ∙ top_children depth es

-- The name of a part of a directory, as a leaf's or an inode's, and the name of a record that is one.
use Rattle.std.proofs.Common.{◌≡◌, ℕ, zero, suc, ◌-◌, ◌<◌, ◌≤◌, List, [], ◌∷◌, refl, sym, ap, subst, ◌∙◌, Bool, true, false, cond, length, arith}
use Rattle.std.proofs.lemmas.Bool.{false≢true}
use Rattle.std.specs.Prelude.{Option, Some, IsTrue, IsFalse, nat_le, nat_lt, map, filter, ◌||◌, ◌==◌}
use Rattle.std.specs.List.{range_with_len}
use Rattle.std.proofs.lemmas.List.{length-map}
use Rattle.sha2.specs.Sha256.{sha256}
use Rattle.ip_spec.specs.Path.{Step}
use Rattle.ip_spec.specs.declared.record.InodeChild.{InodeChild}
use Rattle.ip_spec.specs.declared.record.LeafEntry.{LeafEntry}
use Rattle.ip_spec.specs.declared.record.Record.{Record}
use Rattle.ip_spec.specs.Record.{Hash, Child, name_of, hashed_leaf, hashed_inode}
use Rattle.ip_spec.specs.Tree.{Tree}
use Rattle.ip_spec.specs.TreeAt.{EntryAt, EntriesAt, ChildrenAt, PartAt, contents_at, directory_at, no_entries, entry_first, no_children, child_first, leaf_at, inode_at}
use Rattle.ip_spec.specs.Shape.{Entries, place, at_place, is_leaf, children_of, part_name, child_of, name_of_part, leaf_limit, deepest}

-- ---- parts

abbrev inode_name : ℕ → ℕ → List (Step × Child) → Hash
inode_name levels depth xs = sha256 (hashed_inode depth (map (λ c. (c.0, length c.1, part_name levels c.1)) (children_of depth xs)))

abbrev either_name : ℕ → List (Step × Child) → Bool → Hash
either_name n xs b = elim b [ true ↦ sha256 (hashed_leaf xs) | false ↦ inode_name n (50 - n) xs ]

no_true : (b : Bool) → IsFalse b → IsTrue b → ⊥
no_true b f t = false≢true (sym f ∙ t)

pub not_both : (a b : Bool) → IsFalse (a || b) → IsFalse a
not_both true b h = absurd (no_true true h refl)
not_both false b h = refl

pub first_of_two : (a b : Bool) → IsTrue (a || b) → IsFalse b → IsTrue a
first_of_two true b h f = refl
first_of_two false b h f = absurd (no_true b f h)

deep_test : (depth : ℕ) → depth < 51 → nat_le 51 depth ≡ false
deep_test depth l = grind arith

pub part_leaf : (levels depth : ℕ) (xs : List (Step × Child)) → levels ≡ deepest - depth → IsTrue (is_leaf depth xs) → part_name levels xs ≡ sha256 (hashed_leaf xs)
unfolding part_name
part_leaf zero depth xs l h = refl
part_leaf (suc n) depth xs l h =
    let low : depth < 51 = omega (arith, l) in
    let few : nat_le (length xs) leaf_limit ≡ true = first_of_two (nat_le (length xs) leaf_limit) (nat_le deepest depth) h (deep_test depth low) in
    ap (either_name n xs) few

pub part_inode : (levels depth : ℕ) (xs : List (Step × Child)) → depth ≤ 50 → levels ≡ deepest - depth → IsFalse (is_leaf depth xs) → part_name levels xs ≡ inode_name (deepest - suc depth) depth xs
unfolding part_name
part_inode zero depth xs low l h = absurd (omega (arith, low, l))
part_inode (suc n) depth xs low l h =
    let many : nat_le (length xs) leaf_limit ≡ false = not_both (nat_le (length xs) leaf_limit) (nat_le deepest depth) h in
    let at : 50 - n ≡ depth = omega (arith, low, l) in
    let left : n ≡ deepest - suc depth = omega (arith, low, l) in
    ap (either_name n xs) many ∙ ap (λ d. inode_name n d xs) at ∙ ap (λ k. inode_name k depth xs) left

-- ---- the children of a part whose entries are told otherwise

abbrev told : {A B : Type 0} → (A → B) → Step × A → Step × B
told g e = (e.0, g e.1)

at_place_told : {A B : Type 0} (g : A → B) (depth i : ℕ) (es : List (Step × A)) → at_place depth i (map (told g) es) ≡ map (told g) (at_place depth i es)
unfolding at_place
at_place_told g depth i [] = refl
at_place_told g depth i (e ∷ es) = by (place e.0 depth == i) (at_place_told g depth i es)
  where
    by : (b : Bool) → filter (λ x. place x.0 depth == i) (map (told g) es) ≡ map (told g) (filter (λ x. place x.0 depth == i) es)
        → cond b (told g e ∷ filter (λ x. place x.0 depth == i) (map (told g) es)) (filter (λ x. place x.0 depth == i) (map (told g) es)) ≡ map (told g) (cond b (e ∷ filter (λ x. place x.0 depth == i) es) (filter (λ x. place x.0 depth == i) es))
    by true ih = ap (λ xs. told g e ∷ xs) ih
    by false ih = ih

abbrev is_some_part : {A : Type 0} → ℕ × List (Step × A) → Bool
is_some_part c = nat_lt 0 (length c.1)

abbrev told_child : {A B : Type 0} → (A → B) → ℕ × List (Step × A) → ℕ × List (Step × B)
told_child g c = (c.0, map (told g) c.1)

children_at_told : {A B : Type 0} (g : A → B) (depth : ℕ) (es : List (Step × A)) (is : List ℕ)
    → filter is_some_part (map (λ i. (i, at_place depth i (map (told g) es))) is) ≡ map (told_child g) (filter is_some_part (map (λ i. (i, at_place depth i es)) is))
children_at_told g depth es [] = refl
children_at_told g depth es (i ∷ is) = by (is_some_part (i, at_place depth i es)) refl (children_at_told g depth es is)
  where
    same : at_place depth i (map (told g) es) ≡ map (told g) (at_place depth i es)
    same = at_place_told g depth i es

    by : (b : Bool) → is_some_part (i, at_place depth i es) ≡ b
        → filter is_some_part (map (λ j. (j, at_place depth j (map (told g) es))) is) ≡ map (told_child g) (filter is_some_part (map (λ j. (j, at_place depth j es)) is))
        → cond (nat_lt 0 (length (at_place depth i (map (told g) es)))) ((i, at_place depth i (map (told g) es)) ∷ filter is_some_part (map (λ j. (j, at_place depth j (map (told g) es))) is)) (filter is_some_part (map (λ j. (j, at_place depth j (map (told g) es))) is))
        ≡ map (told_child g) (cond b ((i, at_place depth i es) ∷ filter is_some_part (map (λ j. (j, at_place depth j es)) is)) (filter is_some_part (map (λ j. (j, at_place depth j es)) is)))
    by b e ih =
        ap (λ xs. cond (nat_lt 0 (length xs)) ((i, xs) ∷ filter is_some_part (map (λ j. (j, at_place depth j (map (told g) es))) is)) (filter is_some_part (map (λ j. (j, at_place depth j (map (told g) es))) is))) same
        ∙ ap (λ n. cond (nat_lt 0 n) ((i, map (told g) (at_place depth i es)) ∷ filter is_some_part (map (λ j. (j, at_place depth j (map (told g) es))) is)) (filter is_some_part (map (λ j. (j, at_place depth j (map (told g) es))) is))) (length-map (at_place depth i es) (told g))
        ∙ ap (λ c. cond c ((i, map (told g) (at_place depth i es)) ∷ filter is_some_part (map (λ j. (j, at_place depth j (map (told g) es))) is)) (filter is_some_part (map (λ j. (j, at_place depth j (map (told g) es))) is))) e
        ∙ pick b ih
      where
        pick : (b : Bool) → filter is_some_part (map (λ j. (j, at_place depth j (map (told g) es))) is) ≡ map (told_child g) (filter is_some_part (map (λ j. (j, at_place depth j es)) is))
            → cond b ((i, map (told g) (at_place depth i es)) ∷ filter is_some_part (map (λ j. (j, at_place depth j (map (told g) es))) is)) (filter is_some_part (map (λ j. (j, at_place depth j (map (told g) es))) is))
            ≡ map (told_child g) (cond b ((i, at_place depth i es) ∷ filter is_some_part (map (λ j. (j, at_place depth j es)) is)) (filter is_some_part (map (λ j. (j, at_place depth j es)) is)))
        pick true ih = ap (λ xs. (i, map (told g) (at_place depth i es)) ∷ xs) ih
        pick false ih = ih

pub children_told : {A B : Type 0} (g : A → B) (depth : ℕ) (es : List (Step × A)) → children_of depth (map (told g) es) ≡ map (told_child g) (children_of depth es)
unfolding children_of
children_told g depth es = children_at_told g depth es (range_with_len 0 32)

-- ---- the names of a directory's parts

pub leaf_name : (depth : ℕ) (es : Entries) → IsTrue (is_leaf depth es) → name_of_part depth es ≡ sha256 (hashed_leaf (map (λ (e : Step × Tree). (e.0, child_of e.1)) es))
leaf_name depth es h = part_leaf (deepest - depth) depth (map (told child_of) es) refl (subst (λ n. IsTrue (nat_le n leaf_limit || nat_le deepest depth)) (sym (length-map es (told child_of))) h)

abbrev pub told_name : ℕ → ℕ × List (Step × Child) → ℕ × ℕ × Hash
told_name depth c = (c.0, length c.1, part_name (deepest - suc depth) c.1)

abbrev pub true_name : ℕ → ℕ × Entries → ℕ × ℕ × Hash
true_name depth c = (c.0, length c.1, name_of_part (suc depth) c.1)

each_child : (depth : ℕ) (cs : List (ℕ × Entries)) → map (told_name depth) (map (told_child child_of) cs) ≡ map (true_name depth) cs
each_child depth [] = refl
each_child depth (c ∷ cs) =
    let n : length (map (told child_of) c.1) ≡ length c.1 = length-map c.1 (told child_of) in
    let rest = each_child depth cs in
    λ i. (c.0, n i, name_of_part (suc depth) c.1) ∷ rest i

pub name_of_inode : (depth : ℕ) (es : Entries) → depth ≤ 50 → IsFalse (is_leaf depth es)
    → name_of_part depth es ≡ sha256 (hashed_inode depth (map (true_name depth) (children_of depth es)))
name_of_inode depth es low h =
    part_inode (deepest - depth) depth (map (told child_of) es) low refl (subst (λ n. IsFalse (nat_le n leaf_limit || nat_le deepest depth)) (sym (length-map es (told child_of))) h)
    ∙ ap (λ cs. sha256 (hashed_inode depth cs)) (ap (map (told_name depth)) (children_told child_of depth es) ∙ each_child depth (children_of depth es))

-- ---- the name of a record by the entries that it spells

abbrev field_pair : LeafEntry → Step × Child
field_pair e = (e.step, (e.kind, e.name))

abbrev tree_pair : Step × Tree → Step × Child
tree_pair e = (e.0, child_of e.1)

abbrev child_fields : InodeChild → ℕ × ℕ × Hash
child_fields c = (c.index, c.count, c.name)

entries_hashed : (records : ℕ → Option Record) {at : ℕ} {es : List LeafEntry} {xs : Entries} → EntriesAt records at es xs
    → map field_pair es ≡ map tree_pair xs
entries_hashed records no_entries = refl
entries_hashed records (entry_first {e = e} {x = x} {es = es} {xs = xs} first rest) =
    ap (λ (y : Step × Child). y ∷ map field_pair es) (one first) ∙ ap (λ (ys : List (Step × Child)). (x.0, child_of x.1) ∷ ys) (entries_hashed records rest)
  where
    one : {at : ℕ} {e : LeafEntry} {x : Step × Tree} → EntryAt records at e x → ◌≡◌ {A = Step × Child} (e.step, (e.kind, e.name)) (x.0, child_of x.1)
    one (contents_at {e = e} bytes below is height child) = ap (λ (c : Child). (e.step, c)) child
    one (directory_at {e = e} sub below part directory some height child) = ap (λ (c : Child). (e.step, c)) child

children_hashed : (records : ℕ → Option Record) {depth at : ℕ} {cs : List InodeChild} {xs : List (ℕ × Entries)} → ChildrenAt records depth at cs xs
    → map child_fields cs ≡ map (true_name depth) xs
children_hashed records no_children = refl
children_hashed records (child_first {depth = depth} {c = c} {es = es} {cs = cs} {xs = xs} below part count height name rest) =
    ap (λ (n : ℕ). (c.index, n, c.name) ∷ map child_fields cs) count
    ∙ ap (λ (h : Hash). (c.index, length es, h) ∷ map child_fields cs) name
    ∙ ap (λ l. (c.index, length es, name_of_part (suc depth) es) ∷ l) (children_hashed records rest)

same_some : (x y : Record) → Some x ≡ Some y → x ≡ y
same_some x y e = cc

shallow : (a : Bool) (depth : ℕ) → IsFalse (a || nat_le 51 depth) → depth ≤ 50
shallow true depth h = absurd (no_true true h refl)
shallow false depth h = grind arith

pub named_part : (records : ℕ → Option Record) {depth at : ℕ} {es : Entries} → PartAt records depth at es → (r : Record) → records at ≡ Some r → name_of r ≡ Some (name_of_part depth es)
named_part records {depth = depth} {es = es} (leaf_at fields is leaf each) r is_r =
    ap name_of (same_some _ _ (sym is_r ∙ is)) ∙ ap (λ l. Some (sha256 (hashed_leaf l))) (entries_hashed records each) ∙ ap Some (sym (leaf_name depth es leaf))
named_part records {es = es} (inode_at {depth = depth} children is inode each) r is_r =
    ap name_of (same_some _ _ (sym is_r ∙ is)) ∙ ap (λ l. Some (sha256 (hashed_inode depth l))) (children_hashed records each)
    ∙ ap Some (sym (name_of_inode depth es (shallow _ depth inode) inode))

-- What the record of an inode tells of the parts one index down.
--     is_inode      which record spells an inode
--     inode_children      it tells what is to be read of the children
--     child_spelled      each child that it tells is the part of the entries at its index, of which there are some
--     child_none, child_small      where it tells none there are none, and it tells indexes below 32 alone
--     child_known      where it lies
use Rattle.std.proofs.Common.{◌≡◌, ◌≢◌, ◌⊎◌, inl, inr, ℕ, zero, suc, ◌+◌, ◌<◌, ◌≤◌, Bool, true, false, List, [], ◌∷◌, length, map, filter, refl, sym, ap, subst, ◌∙◌, Option, Some, None, cond, arith}
use Rattle.std.specs.Prelude.{◌==◌, nat_lt, nat_le, IsFalse, option_map, is_some}
use Rattle.std.specs.List.{range_with_len}
use Rattle.std.proofs.lemmas.Bool.{false≢true, eq-eqb, ne_eqb}
use Rattle.std.proofs.lemmas.Bool.Decides.{nat_tests}
use Rattle.ip_spec.specs.Path.{Step}
use Rattle.ip_spec.specs.declared.record.Record.{Record}
use Rattle.ip_spec.specs.declared.record.LeafEntry.{LeafEntry}
use Rattle.ip_spec.specs.declared.record.InodeChild.{InodeChild}
use Rattle.ip_spec.specs.Record.{kind_of}
use Rattle.ip_spec.specs.Shape.{Entries, place, at_place, children_of, is_leaf, leaf_limit, deepest}
use Rattle.ip_spec.specs.StoredParts.{child_with}
use Rattle.ip_spec.specs.TreeAt.{ChildrenAt, PartAt, no_children, child_first, leaf_at, inode_at}
use Rattle.ip_shape.specs.Directory.{steps_of}
use Rattle.ip_shape.specs.Reading.{AreChildren, child_in, count_by}
use Rattle.ip_shape.proofs.ByEntries.{steps_at_place, as_long}
use Rattle.ip_shape.proofs.Members.{neither}
use Rattle.ip_shape.proofs.Ways.{same_or_not}
use Rattle.ip_tree.specs.Meaning.{SpellsPart}
use Rattle.ip_tree.specs.Known.{offset_of}
use Rattle.ip_tree.specs.Reads.{unread_child, children_read}
use Rattle.ip_tree.specs.declared.node.Stored.{Stored}

-- ---- the record of an inode

kind_at : Option Record → ℕ
kind_at None = 0
kind_at (Some r) = kind_of r

depth_of : Option Record → ℕ
depth_of None = 0
depth_of (Some (Record.Inode depth cs)) = depth
depth_of (Some r) = 0

inode_of : Option Record → List InodeChild
inode_of None = []
inode_of (Some (Record.Inode depth cs)) = cs
inode_of (Some r) = []

no_leaf : {X : Type 0} (o : Option Record) (fs : List LeafEntry) (d : ℕ) (cs : List InodeChild) → o ≡ Some (Record.Leaf fs) → o ≡ Some (Record.Inode d cs) → X
unfolding kind_at
no_leaf o fs d cs f g = let e : 2 ≡ 3 = ap kind_at (sym f ∙ g) in absurd (omega (arith, e))

same_depth : (o : Option Record) (d e : ℕ) (cs ds : List InodeChild) → o ≡ Some (Record.Inode d cs) → o ≡ Some (Record.Inode e ds) → e ≡ d
unfolding depth_of
same_depth o d e cs ds f g = ap depth_of (sym g ∙ f)

same_inode : (o : Option Record) (d e : ℕ) (cs ds : List InodeChild) → o ≡ Some (Record.Inode d cs) → o ≡ Some (Record.Inode e ds) → cs ≡ ds
unfolding inode_of
same_inode o d e cs ds f g = ap inode_of (sym f ∙ g)

pub record IsInode (records : ℕ → Option Record) (depth at : ℕ) (d : ℕ) (cs : List InodeChild) (es : Entries) : Type 0 where
  pub depth_is : d ≡ depth
  pub many : IsFalse (is_leaf depth es)
  pub children : ChildrenAt records depth at cs (children_of depth es)

pub is_inode : (records : ℕ → Option Record) {depth at : ℕ} {es : Entries} (d : ℕ) (cs : List InodeChild) → PartAt records depth at es → records at ≡ Some (Record.Inode d cs) → IsInode records depth at d cs es
is_inode records d cs (leaf_at {at = at} fields is leaf each) here = no_leaf (records at) fields d cs is here
is_inode records d cs (inode_at {depth = depth} {at = at} {es = es} ds is inode each) here = record {
  depth_is = same_depth (records at) depth d ds cs is here;
  many = inode;
  children = subst (λ xs. ChildrenAt records depth at xs (children_of depth es)) (same_inode (records at) depth d ds cs is here) each;
}

-- ---- the entries at an index, among the children

abbrev entries_in : ℕ → List (ℕ × Entries) → Option Entries
entries_in i [] = None
entries_in i (c ∷ cs) = cond (c.0 == i) (Some c.1) (entries_in i cs)

abbrev some_of : Entries → Option Entries
some_of [] = None
some_of (e ∷ es) = Some (e ∷ es)

abbrev is_some_child : ℕ × Entries → Bool
is_some_child c = nat_lt 0 (length c.1)

abbrev among : (ℕ → Entries) → ℕ → ℕ → List (ℕ × Entries)
among f a n = filter is_some_child (map (λ j. (j, f j)) (range_with_len a n))

outside : (f : ℕ → Entries) (i a n : ℕ) → ((j : ℕ) → a ≤ j → j < a + n → j ≢ i) → entries_in i (among f a n) ≡ None
outside f i a zero out = refl
outside f i a (suc n) out =
    by (is_some_child (a, f a)) (ne_eqb a i (out a (omega arith) (omega arith))) (outside f i (a + 1) n (λ j low high. out j (omega (arith, low)) (omega (arith, high))))
  where
    by : (b : Bool) → (a == i) ≡ false → entries_in i (among f (a + 1) n) ≡ None → entries_in i (cond b ((a, f a) ∷ among f (a + 1) n) (among f (a + 1) n)) ≡ None
    by true e rest = ap (λ c. cond c (Some (f a)) (entries_in i (among f (a + 1) n))) e ∙ rest
    by false e rest = rest

some_is : (es : Entries) → nat_lt 0 (length es) ≡ true → Some es ≡ some_of es
some_is [] e = absurd (false≢true e)
some_is (x ∷ es) e = refl

none_is : (es : Entries) → nat_lt 0 (length es) ≡ false → None ≡ some_of es
none_is [] e = refl
none_is (x ∷ es) e = absurd (grind (arith, nat_tests))

inside : (f : ℕ → Entries) (i a n : ℕ) → a ≤ i → i < a + n → entries_in i (among f a n) ≡ some_of (f i)
inside f i a zero low high = absurd (omega (arith, low, high))
inside f i a (suc n) low high = elim (same_or_not a i) [
  | inl same ↦ here (is_some_child (a, f a)) refl (eq-eqb a i same) (outside f i (a + 1) n (λ j above below e. omega (arith, same, above, e))) ∙ ap (λ j. some_of (f j)) same
  | inr other ↦ there (is_some_child (a, f a)) (ne_eqb a i other) (inside f i (a + 1) n (omega (arith, low, other)) (omega (arith, high)))
]
  where
    here : (b : Bool) → is_some_child (a, f a) ≡ b → (a == i) ≡ true → entries_in i (among f (a + 1) n) ≡ None → entries_in i (cond b ((a, f a) ∷ among f (a + 1) n) (among f (a + 1) n)) ≡ some_of (f a)
    here true some e rest = ap (λ c. cond c (Some (f a)) (entries_in i (among f (a + 1) n))) e ∙ some_is (f a) some
    here false none e rest = rest ∙ none_is (f a) none

    there : (b : Bool) → (a == i) ≡ false → entries_in i (among f (a + 1) n) ≡ some_of (f i) → entries_in i (cond b ((a, f a) ∷ among f (a + 1) n) (among f (a + 1) n)) ≡ some_of (f i)
    there true e rest = ap (λ c. cond c (Some (f a)) (entries_in i (among f (a + 1) n))) e ∙ rest
    there false e rest = rest

pub place_small : (s : Step) (depth : ℕ) → place s depth < 32
unfolding place
place_small s depth = omega arith

none_past : (depth i : ℕ) (es : Entries) → 32 ≤ i → at_place depth i es ≡ []
unfolding at_place
none_past depth i [] past = refl
none_past depth i (e ∷ es) past =
    ap (λ b. cond b (e ∷ filter (λ x. place x.0 depth == i) es) (filter (λ x. place x.0 depth == i) es)) (ne_eqb (place e.0 depth) i (λ same. omega (arith, same, past, place_small e.0 depth))) ∙ none_past depth i es past

below_or_past : (i : ℕ) → (i < 32) ⊎ (32 ≤ i)
below_or_past i = grind arith

entries_at : (depth i : ℕ) (es : Entries) → entries_in i (children_of depth es) ≡ some_of (at_place depth i es)
unfolding children_of
entries_at depth i es = elim (below_or_past i) [
  | inl below ↦ inside (λ j. at_place depth j es) i 0 32 (omega arith) (omega (arith, below))
  | inr past ↦ outside (λ j. at_place depth j es) i 0 32 (λ j low high e. omega (arith, e, past, high)) ∙ sym (ap some_of (none_past depth i es past))
]

-- ---- what is told of them

module _ (records : ℕ → Option Record) where
  -- of an index it is told that none has it, or what spells the entries there, and how many they are
  abbrev Tells : ℕ → Option (Stored × ℕ) → Option Entries → Type 0
  Tells depth None None = Unit {0}
  Tells depth (Some c) (Some es) = SpellsPart records depth c.0 es × (c.1 ≡ length es)
  Tells depth None (Some es) = ⊥
  Tells depth (Some c) None = ⊥

  told : {depth at : ℕ} {cs : List InodeChild} {xs : List (ℕ × Entries)} → ChildrenAt records depth at cs xs → (i : ℕ) → Tells (suc depth) (child_in i (children_read cs)) (entries_in i xs)
  told no_children i = tt
  told (child_first {depth = depth} {c = c} {es = es} {cs = cs} {xs = xs} below part count height name rest) i = by (c.index == i) (told rest i)
    where
      by : (b : Bool) → Tells (suc depth) (child_in i (children_read cs)) (entries_in i xs)
          → Tells (suc depth) (cond b (Some ((unread_child c).«record», c.count)) (child_in i (children_read cs))) (cond b (Some es) (entries_in i xs))
      by true later = (record { part = part; kind = refl; name = name; height = height }, count)
      by false later = later

  module _ (depth at d : ℕ) (cs : List InodeChild) (es : Entries) (is : IsInode records depth at d cs es) where
    told_at : (i : ℕ) → Tells (suc depth) (child_in i (children_read cs)) (some_of (at_place depth i es))
    told_at i = subst (Tells (suc depth) (child_in i (children_read cs))) (entries_at depth i es) (told is.children i)

    counted : (o : Option (Stored × ℕ)) (xs : Entries) → Tells (suc depth) o (some_of xs) → count_by o ≡ length xs
    counted None [] t = refl
    counted None (x ∷ xs) t = absurd t
    counted (Some c) [] t = absurd t
    counted (Some c) (x ∷ xs) t = t.1

    spelled : (o : Option (Stored × ℕ)) (xs : Entries) (c : Stored × ℕ) → Tells (suc depth) o (some_of xs) → o ≡ Some c → SpellsPart records (suc depth) c.0 xs × (0 < length xs)
    spelled None xs c t e = absurd (false≢true (ap is_some e))
    spelled (Some b) [] c t e = absurd t
    spelled (Some b) (x ∷ xs) c t e = (subst (λ o. Spelled o) e t.0, omega arith)
      where
        Spelled : Option (Stored × ℕ) → Type 0
        Spelled None = Unit {0}
        Spelled (Some b) = SpellsPart records (suc depth) b.0 (x ∷ xs)

    none_told : (o : Option (Stored × ℕ)) → Tells (suc depth) o None → o ≡ None
    none_told None t = refl
    none_told (Some c) t = absurd t

    pub above_deepest : depth < 51
    above_deepest = by (neither (nat_le (length es) leaf_limit) (nat_le deepest depth) is.many).1
      where
        by : nat_le deepest depth ≡ false → depth < 51
        by e = grind (arith, nat_tests)

    pub many_entries : 32 < length es
    many_entries = by (neither (nat_le (length es) leaf_limit) (nat_le deepest depth) is.many).0
      where
        by : nat_le (length es) leaf_limit ≡ false → 32 < length es
        by e = grind (arith, nat_tests)

    pub inode_children : AreChildren depth (steps_of es) (children_read cs)
    inode_children = (
      above_deepest,
      omega (arith, many_entries, as_long es),
      λ i. counted (child_in i (children_read cs)) (at_place depth i es) (told_at i) ∙ sym (as_long (at_place depth i es)) ∙ ap (λ (ss : List Step). length ss) (steps_at_place depth i es),
      λ i past. none_told (child_in i (children_read cs)) (subst (λ xs. Tells (suc depth) (child_in i (children_read cs)) (some_of xs)) (none_past depth i es past) (told_at i)),
    )

    pub child_spelled : (i : ℕ) (c : Stored × ℕ) → child_in i (children_read cs) ≡ Some c → SpellsPart records (suc depth) c.0 (at_place depth i es) × (0 < length (at_place depth i es))
    child_spelled i c e = spelled (child_in i (children_read cs)) (at_place depth i es) c (told_at i) e

    -- and where none is told there are none
    pub child_none : (i : ℕ) → child_in i (children_read cs) ≡ None → at_place depth i es ≡ []
    child_none i e = by (at_place depth i es) (subst (λ o. Tells (suc depth) o (some_of (at_place depth i es))) e (told_at i))
      where
        by : (xs : Entries) → Tells (suc depth) None (some_of xs) → xs ≡ []
        by [] t = refl
        by (x ∷ xs) t = absurd t

    pub child_small : (i : ℕ) (c : Stored × ℕ) → child_in i (children_read cs) ≡ Some c → i < 32
    child_small i c e = elim (below_or_past i) [
      | inl below ↦ below
      | inr past ↦ absurd (false≢true (ap is_some (sym (inode_children.3 i past) ∙ e)))
    ]

pub child_known : (i : ℕ) (cs : List InodeChild) → child_with i cs ≡ option_map (λ (c : Stored × ℕ). offset_of c.0) (child_in i (children_read cs))
child_known i [] = refl
child_known i (c ∷ cs) = by (c.index == i) (child_known i cs)
  where
    by : (b : Bool) → child_with i cs ≡ option_map (λ (x : Stored × ℕ). offset_of x.0) (child_in i (children_read cs)) → cond b (Some c.at) (child_with i cs) ≡ option_map (λ (x : Stored × ℕ). offset_of x.0) (cond b (Some ((unread_child c).«record», c.count)) (child_in i (children_read cs)))
    by true later = refl
    by false later = later

-- What is laid for a part of a directory is what the definition of a batch spells for it.
--     Names x t, NamesPart depth es x      what refers to a tree, and to a part, tells its kind, its name and its height
--     AgreesAt, AgreesLow      what is laid at a step is what is spelled there
--     shape_count      how many entries a part has.      each_entry      what holds of each entry that is found
--     part_known      what is laid for a part is what is spelled, where a record is known.      Stands, part_agrees      so it is if that holds of each entry that was read
use Rattle.std.proofs.Common.{◌≡◌, ℕ, zero, suc, ◌+◌, ◌-◌, ◌<◌, ◌≤◌, max, List, [], ◌∷◌, ◌++◌, refl, sym, ap, subst, ◌∙◌, Option, Some, None, Bool, true, false, cond, map, length, arith, append_assoc, T}
use Rattle.std.specs.Prelude.{◌==◌, ◌||◌, filter, nat_le, nat_lt, slice_get, option_and_then, if◌then◌else◌, Vec}
use Rattle.std.specs.Global.{Global}
use Rattle.std.specs.List.{AllByRecursion, range_with_len}
use Rattle.std.specs.Cmp.Lexicographic.{nat_list_cmp_total}
use Rattle.std.specs.FinMap.Entries.{find}
use Rattle.std.proofs.lemmas.Bool.{eq-eqb, ne_eqb, eqb-true}
use Rattle.std.proofs.lemmas.Bool.Decides.{nat_tests}
use Rattle.std.proofs.lemmas.List.{append-nil}
use Rattle.sha2.specs.Sha256.{sha256}
use Rattle.ip_spec.specs.Path.{Step, Path, bytes_cmp}
use Rattle.ip_spec.specs.declared.record.Record.{Record}
use Rattle.ip_spec.specs.declared.record.LeafEntry.{LeafEntry}
use Rattle.ip_spec.specs.declared.record.InodeChild.{InodeChild}
use Rattle.ip_spec.specs.Record.{Child, Hash, hashed_leaf, hashed_inode}
use Rattle.ip_spec.specs.Tree.{Tree, height}
use Rattle.ip_spec.specs.Shape.{Entries, at_place, child_of, children_of, deepest, height_of_part, is_leaf, leaf_limit, name_of_part, part_from, place}
use Rattle.ip_spec.specs.View.{View}
use Rattle.ip_spec.specs.Batch.{Spelled, Row, there_already, in_front as row_front, behind as row_behind, known_or as spelled_or, child_record, entry_record, spell_children, spell_entry, spell_entries, spell_part}
use Rattle.ip_spec.proofs.Naming.{Member, here, there, member_found}
use Rattle.ip_shape.specs.Shape.{AreSteps, ByTest, IsInodeOf, IsLeafOf, IsPart, count_in, steps_at}
use Rattle.ip_shape.specs.Loaded.{known_in, known_below, known_here, unread_in, unread_below, unread_here, way}
use Rattle.ip_shape.specs.declared.part.Part.{Part, out-Part}
use Rattle.ip_shape.specs.declared.part.Part.TheOpen.{Part-F, Leaf, Inode, Unread}
use Rattle.ip_shape.proofs.ByEntries.{as_long, steps_at_place}
use Rattle.ip_shape.proofs.Steps.{AreSteps-filter}
use Rattle.ip_tree.specs.Known.{known_by, known_part, offset_of}
use Rattle.ip_tree.specs.Meaning.{SpellsPart, steps_of}
use Rattle.ip_tree.specs.declared.node.Stored.{Stored}
use Rattle.ip_tree.proofs.Indexes.{no_some, some_same}
use Rattle.ip_tree.proofs.PartEntries.{found_at, ordered_steps}
use Rattle.ip_shape.proofs.PartNames.{leaf_name, name_of_inode, true_name}
use Rattle.ip_tree.proofs.PartWays.{inode_test}
use Rattle.ip_save.specs.Laid.{Laid, LaidRow, behind_inode, behind_leaf, child_for, count_of, field_for, in_front, lay_children, lay_new, lay_nothing, lay_part, lay_steps, record_in, record_of}
use Rattle.ip_shape.specs.Heights.{inode_height, leaf_height, raised}
use Rattle.ip_save.proofs.Laying.{known_laid, last_laid, new_laid}
use Rattle.ip_save.proofs.Tallest.{highest, height_is_highest, tallest, tallest_is_highest}

-- what refers to the tree tells its kind, its name and its height
pub record Names (x : Stored) (t : Tree) : Type 0 where
  pub child : (x.reference.kind, x.reference.name) ≡ child_of t
  pub high : x.height ≡ height t

-- the same of a part at a depth that has these entries
pub record NamesPart (depth : ℕ) (es : Entries) (x : Stored) : Type 0 where
  pub kind : x.reference.kind ≡ 2
  pub name : x.reference.name ≡ name_of_part depth es
  pub high : x.height ≡ height_of_part es

abbrev pub spelled_by : Laid → Spelled
spelled_by x = record { records = x.records; root = x.stands.reference.at; next = x.next }

abbrev pub row_by : {F : Type 0} → LaidRow F → Row F
row_by row = record { records = row.records; fields = row.fields; next = row.next }

abbrev tree_pair : Step × Tree → Step × Child
tree_pair e = (e.0, child_of e.1)

abbrev field_pair : LeafEntry → Step × Child
field_pair e = (e.step, (e.kind, e.name))

abbrev child_told : InodeChild → ℕ × ℕ × Hash
child_told c = (c.index, c.count, c.name)

-- ---- how many entries a part has

leaf_count : (steps : List Step) (l : Part-F Stored (Part Stored)) → IsLeafOf steps l → count_in l ≡ length steps
leaf_count steps (Leaf known held) is = ap length is
leaf_count steps (Inode known n children) is = absurd is
leaf_count steps (Unread x n) is = is

inode_count : (total : ℕ) (G : ℕ → Part Stored → Type 0) (l : Part-F Stored (Part Stored)) → IsInodeOf total G l → count_in l ≡ total
inode_count total G (Leaf known held) is = absurd is
inode_count total G (Inode known n children) is = is.0
inode_count total G (Unread x n) is = is

by_test : (b : Bool) (A B C : Type 0) → (A → C) → (B → C) → ByTest b A B → C
by_test true A B C f g x = f x
by_test false A B C f g x = g x

pub shape_count : (levels depth : ℕ) (steps : List Step) (part : Part Stored) → IsPart levels depth steps part → count_of part ≡ length steps
shape_count zero depth steps part is = leaf_count steps (out-Part Stored part) is
shape_count (suc levels) depth steps part is =
    by_test (nat_le (length steps) leaf_limit) (IsLeafOf steps (out-Part Stored part)) (IsInodeOf (length steps) (λ i child. IsPart levels (suc depth) (steps_at depth i steps) child) (out-Part Stored part)) (count_of part ≡ length steps)
    (leaf_count steps (out-Part Stored part)) (inode_count (length steps) (λ i child. IsPart levels (suc depth) (steps_at depth i steps) child) (out-Part Stored part)) is

few_by : (b : Bool) (A B : Type 0) → (B → ⊥) → ByTest b A B → (b ≡ true) × A
few_by true A B never x = (refl, x)
few_by false A B never x = absurd (never x)

many_by : (b : Bool) (A B : Type 0) → (A → ⊥) → ByTest b A B → (b ≡ false) × B
many_by true A B never x = absurd (never x)
many_by false A B never x = (refl, x)

-- ---- members

all_members : (P : Step × Tree → Type 0) (xs : Entries) → ((x : Step × Tree) → Member x xs → P x) → AllByRecursion P xs
all_members P [] each = tt
all_members P (x ∷ xs) each = (each x here, all_members P xs (λ y m. each y (there m)))

pub each_entry : (P : Step × Tree → Type 0) (es : Entries) → AreSteps (steps_of es) → ((s : Step) (sub : Tree) → find bytes_cmp s es ≡ Some sub → P (s, sub)) → AllByRecursion P es
each_entry P es up each = all_members P es (λ x m. each x.0 x.1 (member_found bytes_cmp nat_list_cmp_total es x (subst T (ordered_steps es) up) m))

-- ---- the children of an inode

abbrev is_some_child : ℕ × Entries → Bool
is_some_child c = nat_lt 0 (length c.1)

abbrev among : (ℕ → Entries) → ℕ → ℕ → List (ℕ × Entries)
among f i n = filter is_some_child (map (λ j. (j, f j)) (range_with_len i n))

children_are : (depth : ℕ) (es : Entries) (n : ℕ) → n ≡ 32 → children_of depth es ≡ among (λ i. at_place depth i es) 0 n
unfolding children_of
children_are depth es n all = ap (among (λ i. at_place depth i es) 0) (sym all)

next_index : (f : ℕ → Entries) (i n : ℕ) → among f (i + 1) n ≡ among f (suc i) n
next_index f i n = let e : i + 1 ≡ suc i = omega arith in ap (λ k. among f k n) e

none_empty : (m : ℕ) → nat_lt 0 m ≡ false → m ≡ 0
none_empty m e = grind (arith, nat_tests)

some_there : (m : ℕ) → nat_lt 0 m ≡ true → 0 < m
some_there m e = grind (arith, nat_tests)

empty_is : (es : Entries) → length es ≡ 0 → es ≡ []
empty_is [] e = refl
empty_is (x ∷ es) e = absurd (omega (arith, e))

pub if_true : {A : Type 0} (b : Bool) (x y : A) → b ≡ true → (if b then x else y) ≡ x
if_true b x y is = ap (λ c. if c then x else y) is

pub if_false : {A : Type 0} (b : Bool) (x y : A) → b ≡ false → (if b then x else y) ≡ y
if_false b x y is = ap (λ c. if c then x else y) is

module _ (child : Step → ℕ → Laid) (f : ℕ → Entries) (one : ℕ × Entries → ℕ → Spelled) (depth : ℕ) (deeper : Part Stored → ℕ → Laid) where
  -- a child with entries is laid as it is spelled
  abbrev ChildAgrees : ℕ → Part Stored → Type 0
  ChildAgrees i c = (count_of c ≡ length (f i)) × (0 < length (f i) → (at : ℕ) → (one (i, f i) at ≡ spelled_by (deeper c at)) × NamesPart (suc depth) (f i) (deeper c at).stands)

  abbrev AllAgree : ℕ → List (Part Stored) → Type 0
  AllAgree i [] = Unit {0}
  AllAgree i (c ∷ cs) = ChildAgrees i c × AllAgree (suc i) cs

  all_agree : (cs : List (Part Stored)) (i : ℕ) → ((k : ℕ) (c : Part Stored) → slice_get cs k ≡ Some c → ChildAgrees (i + k) c) → AllAgree i cs
  all_agree [] i each = tt
  all_agree (c ∷ cs) i each =
      let here : i + 0 ≡ i = omega arith in
      (subst (λ k. ChildAgrees k c) here (each 0 c refl), all_agree cs (suc i) (λ k d e. let next : i + suc k ≡ suc i + k = omega arith in subst (λ j. ChildAgrees j d) next (each (suc k) d e)))

  record RowAgrees (i : ℕ) (cs : List (Part Stored)) (at : ℕ) : Type 0 where
    row : spell_children one (suc depth) (among f i (length cs)) at ≡ row_by (lay_children child deeper i cs at)
    pairs : map child_told (lay_children child deeper i cs at).fields ≡ map (true_name depth) (among f i (length cs))
    high : inode_height (lay_children child deeper i cs at).fields ≡ tallest f i (length cs)

  -- one that is empty is absent
  empty_row : (i : ℕ) (c : Part Stored) (cs : List (Part Stored)) (at : ℕ) → nat_lt 0 (length (f i)) ≡ false → ChildAgrees i c → RowAgrees (suc i) cs at → RowAgrees i (c ∷ cs) at
  empty_row i c cs at none agrees rest =
      let count : count_of c ≡ 0 = agrees.0 ∙ none_empty (length (f i)) none in
      let laid : lay_children child deeper i (c ∷ cs) at ≡ lay_children child deeper (suc i) cs at =
      ap (λ (b : Bool). cond b (lay_children child deeper (suc i) cs at) (let x = deeper c at in in_front x (child_for i (count_of c) x.stands) (lay_children child deeper (suc i) cs x.next))) (eq-eqb (count_of c) 0 count) in
      let told : among f i (suc (length cs)) ≡ among f (suc i) (length cs) = ap (λ (b : Bool). cond b ((i, f i) ∷ among f (i + 1) (length cs)) (among f (i + 1) (length cs))) none ∙ next_index f i (length cs) in
      let low : highest (f i) ≡ 0 = ap highest (empty_is (f i) (none_empty (length (f i)) none)) in
      record {
        row = ap (λ (xs : List (ℕ × Entries)). spell_children one (suc depth) xs at) told ∙ rest.row ∙ ap row_by (sym laid);
        pairs = ap (λ (r : LaidRow InodeChild). map child_told r.fields) laid ∙ rest.pairs ∙ ap (map (true_name depth)) (sym told);
        high = ap (λ (r : LaidRow InodeChild). inode_height r.fields) laid ∙ rest.high ∙ (let all : tallest f (suc i) (length cs) ≡ max (highest (f i)) (tallest f (suc i) (length cs)) = omega (arith, low) in all);
      }

  some_row : (i : ℕ) (c : Part Stored) (cs : List (Part Stored)) (at : ℕ) → nat_lt 0 (length (f i)) ≡ true → ChildAgrees i c → RowAgrees (suc i) cs (deeper c at).next → RowAgrees i (c ∷ cs) at
  some_row i c cs at some agrees rest =
      let x = deeper c at in
      let here = agrees.1 (some_there (length (f i)) some) at in
      let names = here.1 in
      let none : (count_of c == 0) ≡ false = ne_eqb (count_of c) 0 (λ e. omega (arith, e, agrees.0, some_there (length (f i)) some)) in
      let laid : lay_children child deeper i (c ∷ cs) at ≡ in_front x (child_for i (count_of c) x.stands) (lay_children child deeper (suc i) cs x.next) =
      ap (λ (b : Bool). cond b (lay_children child deeper (suc i) cs at) (in_front x (child_for i (count_of c) x.stands) (lay_children child deeper (suc i) cs x.next))) none in
      let told : among f i (suc (length cs)) ≡ (i, f i) ∷ among f (suc i) (length cs) =
      ap (λ (b : Bool). cond b ((i, f i) ∷ among f (i + 1) (length cs)) (among f (i + 1) (length cs))) some ∙ ap (λ (l : List (ℕ × Entries)). (i, f i) ∷ l) (next_index f i (length cs)) in
      let field : child_record (suc depth) (i, f i) x.stands.reference.at ≡ child_for i (count_of c) x.stands =
      (λ j. record { index = i; count = sym agrees.0 j; height = sym names.high j; name = sym names.name j; at = x.stands.reference.at }) in
      let pair : child_told (child_for i (count_of c) x.stands) ≡ true_name depth (i, f i) = (λ j. (i, agrees.0 j, names.name j)) in
      let high : x.stands.height ≡ highest (f i) = names.high ∙ height_is_highest (f i) in
      record {
        row = ap (λ (xs : List (ℕ × Entries)). spell_children one (suc depth) xs at) told
            ∙ ap (λ (z : Spelled). row_front z (child_record (suc depth) (i, f i) z.root) (spell_children one (suc depth) (among f (suc i) (length cs)) z.next)) here.0
            ∙ ap (λ (g : InodeChild). row_front (spelled_by x) g (spell_children one (suc depth) (among f (suc i) (length cs)) x.next)) field
            ∙ ap (λ (r : Row InodeChild). row_front (spelled_by x) (child_for i (count_of c) x.stands) r) rest.row
            ∙ ap row_by (sym laid);
        pairs = ap (λ (r : LaidRow InodeChild). map child_told r.fields) laid
            ∙ ap (λ (y : ℕ × ℕ × Hash). y ∷ map child_told (lay_children child deeper (suc i) cs x.next).fields) pair
            ∙ ap (λ (l : List (ℕ × ℕ × Hash)). true_name depth (i, f i) ∷ l) rest.pairs
            ∙ ap (map (true_name depth)) (sym told);
        high = ap (λ (r : LaidRow InodeChild). inode_height r.fields) laid
            ∙ ap (λ (n : ℕ). max n (inode_height (lay_children child deeper (suc i) cs x.next).fields)) high
            ∙ ap (max (highest (f i))) rest.high;
      }

  children_agree : (cs : List (Part Stored)) (i at : ℕ) → AllAgree i cs → RowAgrees i cs at
  children_agree [] i at all = record { row = refl; pairs = refl; high = refl }
  children_agree (c ∷ cs) i at all = by (nat_lt 0 (length (f i))) refl (λ next. children_agree cs (suc i) next all.1)
    where
      by : (b : Bool) → nat_lt 0 (length (f i)) ≡ b → ((next : ℕ) → RowAgrees (suc i) cs next) → RowAgrees i (c ∷ cs) at
      by true e rest = some_row i c cs at e all.0 (rest (deeper c at).next)
      by false e rest = empty_row i c cs at e all.0 (rest at)

module _ (v : View) (offset : Path → ℕ) (deeper : Path → Tree → ℕ → Spelled) (p : Path) (child : Step → ℕ → Laid) where
  -- what is laid at a step is what is spelled there, wherever it is put
  abbrev pub AgreesAt : Step × Tree → Type 0
  AgreesAt e = (at : ℕ) → (spell_entry offset deeper p e at ≡ spelled_by (child e.0 at)) × Names (child e.0 at).stands e.1

  -- and it is not too high for a leaf
  abbrev pub AgreesLow : Step × Tree → Type 0
  AgreesLow e = AgreesAt e × (height e.1 < 64)

  steps_agree : (es : Entries) → AllByRecursion AgreesLow es → (at : ℕ) → spell_entries offset deeper p es at ≡ row_by (lay_steps child (steps_of es) at)
  steps_agree [] each at = refl
  steps_agree (e ∷ es) each at =
      let x = child e.0 at in
      let here = each.0.0 at in
      let names = here.1 in
      let field : entry_record e x.stands.reference.at ≡ field_for e.0 x.stands =
      (λ i. record { step = e.0; kind = (sym names.child i).0; height = sym names.high i; name = (sym names.child i).1; at = x.stands.reference.at }) in
      ap (λ (z : Spelled). row_front z (entry_record e z.root) (spell_entries offset deeper p es z.next)) here.0
      ∙ ap (λ (f : LeafEntry). row_front (spelled_by x) f (spell_entries offset deeper p es x.next)) field
      ∙ ap (λ (row : Row LeafEntry). row_front (spelled_by x) (field_for e.0 x.stands) row) (steps_agree es each.1 x.next)

  pairs_agree : (es : Entries) → AllByRecursion AgreesLow es → (at : ℕ) → map field_pair (lay_steps child (steps_of es) at).fields ≡ map tree_pair es
  pairs_agree [] each at = refl
  pairs_agree (e ∷ es) each at =
      let x = child e.0 at in
      let names = (each.0.0 at).1 in
      (λ i. (e.0, names.child i) ∷ map field_pair (lay_steps child (steps_of es) x.next).fields) ∙ ap (λ l. tree_pair e ∷ l) (pairs_agree es each.1 x.next)

  heights_agree : (es : Entries) → AllByRecursion AgreesLow es → (at : ℕ) → leaf_height (lay_steps child (steps_of es) at).fields ≡ highest es
  heights_agree [] each at = refl
  heights_agree (e ∷ es) each at =
      let x = child e.0 at in
      let same = (each.0.0 at).1.high in
      let low = each.0.1 in
      let one : raised x.stands.height ≡ suc (height e.1) = omega (arith, same, low) in
      ap (λ n. max n (leaf_height (lay_steps child (steps_of es) x.next).fields)) one ∙ ap (max (suc (height e.1))) (heights_agree es each.1 x.next)

  -- ---- one part

  pub record Agrees (levels depth : ℕ) (indexes : List ℕ) (es : Entries) (root : Part Stored) (at : ℕ) : Type 0 where
    pub spelled : spell_part v offset deeper levels p indexes es at ≡ spelled_by (lay_part child levels depth root at)
    pub names : NamesPart depth es (lay_part child levels depth root at).stands

  known_spelled : (levels : ℕ) (indexes : List ℕ) (es : Entries) (at o : ℕ) → v.known (record { path = p; indexes = indexes }) ≡ Some o → spell_part v offset deeper levels p indexes es at ≡ there_already o at
  known_spelled zero indexes es at o known = rw known refl
  known_spelled (suc levels) indexes es at o known = rw known refl

  -- a part that is one leaf
  leaf_agrees : (levels depth : ℕ) (indexes : List ℕ) (es : Entries) (root : Part Stored) (at : ℕ) → is_leaf depth es ≡ true → lay_part child levels depth root at ≡ behind_leaf (lay_steps child (steps_of es) at)
      → spell_part v offset deeper levels p indexes es at ≡ row_behind Record.Leaf (spell_entries offset deeper p es at) → AllByRecursion AgreesLow es → Agrees levels depth indexes es root at
  leaf_agrees levels depth indexes es root at leaf laid spelled each = record {
    spelled = spelled ∙ ap (row_behind Record.Leaf) (steps_agree es each at) ∙ ap spelled_by (sym laid);
    names = subst (λ (x : Laid). NamesPart depth es x.stands) (sym laid) record {
      kind = refl;
      name = ap (λ l. sha256 (hashed_leaf l)) (pairs_agree es each at) ∙ sym (leaf_name depth es leaf);
      high = heights_agree es each at ∙ sym (height_is_highest es);
    };
  }

  -- a part that is an inode
  module _ (levels depth : ℕ) (indexes : List ℕ) (es : Entries) where
    abbrev one_child : ℕ × Entries → ℕ → Spelled
    one_child c = spell_part v offset deeper levels p (indexes ++ c.0 ∷ []) c.1

    inode_agrees : (root : Part Stored) (at : ℕ) (cs : List (Part Stored)) → depth ≤ 50 → is_leaf depth es ≡ false → length cs ≡ 32 → lay_part child (suc levels) depth root at ≡ behind_inode depth (lay_children child (lay_part child levels (suc depth)) 0 cs at)
        → spell_part v offset deeper (suc levels) p indexes es at ≡ row_behind (Record.Inode depth) (spell_children one_child (suc depth) (children_of depth es) at)
        → AllAgree child (λ i. at_place depth i es) one_child depth (lay_part child levels (suc depth)) 0 cs → Agrees (suc levels) depth indexes es root at
    inode_agrees root at cs low inode long laid spelled each =
        let f = λ (i : ℕ). at_place depth i es in
        let row = children_agree child f one_child depth (lay_part child levels (suc depth)) cs 0 at each in
        let all : children_of depth es ≡ among f 0 (length cs) = children_are depth es (length cs) long in
        record {
          spelled = spelled ∙ ap (λ (xs : List (ℕ × Entries)). row_behind (Record.Inode depth) (spell_children one_child (suc depth) xs at)) all ∙ ap (row_behind (Record.Inode depth)) row.row ∙ ap spelled_by (sym laid);
          names = subst (λ (x : Laid). NamesPart depth es x.stands) (sym laid) record {
            kind = refl;
            name = ap (λ l. sha256 (hashed_inode depth l)) (row.pairs ∙ ap (map (true_name depth)) (sym all)) ∙ sym (name_of_inode depth es low inode);
            high = row.high ∙ tallest_is_highest depth es (length cs) long ∙ sym (height_is_highest es);
          };
        }

  -- ---- by the records that are known

  module _ (records : ℕ → Option Record) where
    -- what a part's records tell of it and of the parts below it is what the view knows there
    abbrev pub KnownPart : List ℕ → Part Stored → Type 0
    KnownPart indexes part = (is : List ℕ) → v.known (record { path = p; indexes = indexes ++ is }) ≡ known_part records part is

    -- each record that is known, or that is yet to be read, spells the part at its indexes
    pub record KnowsBelow (depth : ℕ) (root : Part Stored) (es : Entries) : Type 0 where
      pub known : (is : List ℕ) (x : Stored) → known_in is root ≡ Some x → SpellsPart records (depth + length is) x (part_from depth es is)
      pub unread : (is : List ℕ) (x : Stored) → unread_in is root ≡ Some (x, []) → SpellsPart records (depth + length is) x (part_from depth es is)

    -- each entry whose part was read
    abbrev pub AgreesWhereRead : ℕ → ℕ → Part Stored → Entries → Type 0
    AgreesWhereRead levels depth root es = (s : Step) (sub : Tree) → find bytes_cmp s es ≡ Some sub → unread_in (way levels depth s) root ≡ None → AgreesLow (s, sub)

    -- all that is asked of a part
    pub record Stands (levels depth : ℕ) (indexes : List ℕ) (es : Entries) (root : Part Stored) : Type 0 where
      pub sum : levels + depth ≡ deepest
      pub up : AreSteps (steps_of es)
      pub shape : IsPart levels depth (steps_of es) root
      pub known : KnownPart indexes root
      pub below : KnowsBelow depth root es
      pub read : AgreesWhereRead levels depth root es

    record Here (depth : ℕ) (indexes : List ℕ) (es : Entries) (x : Stored) : Type 0 where
      spells : SpellsPart records depth x es
      known : v.known (record { path = p; indexes = indexes }) ≡ Some (offset_of x)

    told_here : (indexes : List ℕ) (root : Part Stored) (l : Part-F Stored (Part Stored)) (o : Option ℕ) → KnownPart indexes root → out-Part Stored root ≡ l → known_by records (known_here l) (unread_here l) ≡ o
        → v.known (record { path = p; indexes = indexes }) ≡ o
    told_here indexes root l o known out is =
        ap (λ (i : List ℕ). v.known (record { path = p; indexes = i })) (sym (append-nil indexes)) ∙ known [] ∙ ap (λ (m : Part-F Stored (Part Stored)). known_by records (known_here m) (unread_here m)) out ∙ is

    at_depth : (depth : ℕ) (es : Entries) (x : Stored) → SpellsPart records (depth + 0) x es → SpellsPart records depth x es
    at_depth depth es x spells = let e : depth + 0 ≡ depth = omega arith in subst (λ d. SpellsPart records d x es) e spells

    stored_here : (depth : ℕ) (indexes : List ℕ) (es : Entries) (root : Part Stored) (x : Stored) → KnownPart indexes root → KnowsBelow depth root es → (l : Part-F Stored (Part Stored)) → out-Part Stored root ≡ l → record_in l ≡ Some x → Here depth indexes es x
    stored_here depth indexes es root x known below (Leaf k steps) out e = record {
      spells = at_depth depth es x (below.known [] x (ap known_here out ∙ e));
      known = told_here indexes root (Leaf k steps) (Some (offset_of x)) known out (ap (λ (o : Option Stored). known_by records o None) e);
    }
    stored_here depth indexes es root x known below (Inode k n cs) out e = record {
      spells = at_depth depth es x (below.known [] x (ap known_here out ∙ e));
      known = told_here indexes root (Inode k n cs) (Some (offset_of x)) known out (ap (λ (o : Option Stored). known_by records o None) e);
    }
    stored_here depth indexes es root x known below (Unread y n) out e = record {
      spells = at_depth depth es x (below.unread [] x (ap unread_here out ∙ ap (λ z. Some (z, [])) (some_same y x e)));
      known = told_here indexes root (Unread y n) (Some (offset_of x)) known out (ap (λ (z : Stored). Some (offset_of z)) (some_same y x e));
    }

    known_agrees : (levels depth : ℕ) (indexes : List ℕ) (es : Entries) (root : Part Stored) (at : ℕ) (x : Stored) → record_of root ≡ Some x → Here depth indexes es x → Agrees levels depth indexes es root at
    known_agrees levels depth indexes es root at x is it =
        let laid = known_laid child levels depth root at x is in
        record {
          spelled = known_spelled levels indexes es at (offset_of x) it.known ∙ ap spelled_by (sym laid);
          names = subst (λ (l : Laid). NamesPart depth es l.stands) (sym laid) record { kind = it.spells.kind; name = it.spells.name; high = it.spells.height };
        }

    pub part_known : (levels depth : ℕ) (indexes : List ℕ) (es : Entries) (root : Part Stored) (at : ℕ) (x : Stored) → record_of root ≡ Some x → KnownPart indexes root → KnowsBelow depth root es → Agrees levels depth indexes es root at
    part_known levels depth indexes es root at x is known below = known_agrees levels depth indexes es root at x is (stored_here depth indexes es root x known below (out-Part Stored root) refl is)

    -- ---- a part without a record

    leaf_read : (w : List ℕ) (root : Part Stored) (l : Part-F Stored (Part Stored)) → out-Part Stored root ≡ l → unread_here l ≡ None → ((i : ℕ) (is : List ℕ) → unread_below (unread_in is) i is l ≡ None) → unread_in w root ≡ None
    leaf_read [] root l out own below = ap unread_here out ∙ own
    leaf_read (i ∷ is) root l out own below = ap (unread_below (unread_in is) i is) out ∙ below i is

    or_true : (a b : Bool) → b ≡ true → (a || b) ≡ true
    or_true true b e = refl
    or_true false b e = e

    last_leaf : (depth : ℕ) (es : Entries) → depth ≡ 51 → is_leaf depth es ≡ true
    last_leaf depth es e = or_true (nat_le (length es) leaf_limit) (nat_le deepest depth) (ap (nat_le 51) e)

    last_agrees : (depth : ℕ) (indexes : List ℕ) (es : Entries) (root : Part Stored) (at : ℕ) → Stands zero depth indexes es root → (l : Part-F Stored (Part Stored)) → out-Part Stored root ≡ l → record_in l ≡ None → Agrees zero depth indexes es root at
    last_agrees depth indexes es root at it (Leaf k held) out e =
        let new : record_of root ≡ None = ap record_in out ∙ e in
        let is : held.items ≡ steps_of es = subst (IsLeafOf (steps_of es)) out it.shape in
        let none = told_here indexes root (Leaf k held) None it.known out (ap (λ (o : Option Stored). known_by records o None) e) in
        leaf_agrees zero depth indexes es root at (last_leaf depth es (let s = it.sum in omega (arith, s)))
        (last_laid child depth root at new ∙ ap (λ l. lay_new child (lay_nothing child) depth l at) out ∙ ap (λ (ss : List Step). behind_leaf (lay_steps child ss at)) is)
        (ap (λ o. spelled_or o at (row_behind Record.Leaf (spell_entries offset deeper p es at))) none)
        (each_entry AgreesLow es it.up (λ s sub f. it.read s sub f (leaf_read (way zero depth s) root (Leaf k held) out refl (λ i is. refl))))
    last_agrees depth indexes es root at it (Inode k n cs) out e = absurd (subst (IsLeafOf (steps_of es)) out it.shape)
    last_agrees depth indexes es root at it (Unread y n) out e = no_some y (sym e)

    many_steps : (n : ℕ) → nat_le n leaf_limit ≡ false → 32 < n
    many_steps n e = grind (arith, nat_tests)

    -- the child at an index of an inode
    module _ (levels depth : ℕ) (indexes : List ℕ) (es : Entries) (root : Part Stored) (it : Stands (suc levels) depth indexes es root) (k : Option Stored) (n : ℕ) (cs : Vec (Part Stored) Global) (out : out-Part Stored root ≡ Inode k n cs)
        (i : ℕ) (c : Part Stored) (e : slice_get cs.items i ≡ Some c) where
      known_down : (is : List ℕ) → known_in (i ∷ is) root ≡ known_in is c
      known_down is = ap (known_below (known_in is) i) out ∙ ap (option_and_then (known_in is)) e

      unread_down : (is : List ℕ) → unread_in (i ∷ is) root ≡ unread_in is c
      unread_down is = ap (unread_below (unread_in is) i is) out ∙ ap (option_and_then (unread_in is)) e

      one_deeper : (is : List ℕ) → depth + suc (length is) ≡ suc depth + length is
      one_deeper is = omega arith

      spells_down : (is : List ℕ) (x : Stored) → SpellsPart records (depth + suc (length is)) x (part_from (suc depth) (at_place depth i es) is) → SpellsPart records (suc depth + length is) x (part_from (suc depth) (at_place depth i es) is)
      spells_down is x spells = subst (λ d. SpellsPart records d x (part_from (suc depth) (at_place depth i es) is)) (one_deeper is) spells

      read_down : AgreesWhereRead levels (suc depth) c (at_place depth i es)
      read_down s sub found none = by (place s depth == i) refl (sym (found_at depth i es s) ∙ found)
        where
          by : (b : Bool) → (place s depth == i) ≡ b → cond b (find bytes_cmp s es) None ≡ Some sub → AgreesLow (s, sub)
          by true same f = it.read s sub f (ap (λ j. unread_in (j ∷ way levels (suc depth) s) root) (eqb-true (place s depth) i same) ∙ unread_down (way levels (suc depth) s) ∙ none)
          by false apart f = no_some sub f

      child_stands : IsPart levels (suc depth) (steps_at depth i (steps_of es)) c → Stands levels (suc depth) (indexes ++ i ∷ []) (at_place depth i es) c
      child_stands shape =
          let steps : steps_of (at_place depth i es) ≡ steps_at depth i (steps_of es) = steps_at_place depth i es in
          record {
            sum = let s = it.sum in omega (arith, s);
            up = subst AreSteps (sym steps) (AreSteps-filter (λ s. place s depth == i) (steps_of es) it.up);
            shape = subst (λ (ss : List Step). IsPart levels (suc depth) ss c) (sym steps) shape;
            known = λ is. ap (λ (w : List ℕ). v.known (record { path = p; indexes = w })) (append_assoc indexes (i ∷ []) is) ∙ it.known (i ∷ is) ∙ (λ j. known_by records (known_down is j) (unread_down is j));
            below = record { known = λ is x f. spells_down is x (it.below.known (i ∷ is) x (known_down is ∙ f)); unread = λ is x f. spells_down is x (it.below.unread (i ∷ is) x (unread_down is ∙ f)) };
            read = read_down;
          }

    deeper_agrees : (levels depth : ℕ) (indexes : List ℕ) (es : Entries) (root : Part Stored) (at : ℕ) → Stands (suc levels) depth indexes es root
        → ((ways : List ℕ) (below : Entries) (part : Part Stored) (next : ℕ) → Stands levels (suc depth) ways below part → Agrees levels (suc depth) ways below part next)
        → (l : Part-F Stored (Part Stored)) → out-Part Stored root ≡ l → record_in l ≡ None → Agrees (suc levels) depth indexes es root at
    deeper_agrees levels depth indexes es root at it each (Leaf k held) out e =
        let new : record_of root ≡ None = ap record_in out ∙ e in
        let few =
        few_by (nat_le (length (steps_of es)) leaf_limit) (IsLeafOf (steps_of es) (out-Part Stored root)) (IsInodeOf (length (steps_of es)) (λ i c. IsPart levels (suc depth) (steps_at depth i (steps_of es)) c) (out-Part Stored root))
        (λ x. subst (IsInodeOf (length (steps_of es)) (λ i c. IsPart levels (suc depth) (steps_at depth i (steps_of es)) c)) out x) it.shape in
        let is : held.items ≡ steps_of es = subst (IsLeafOf (steps_of es)) out few.1 in
        let none = told_here indexes root (Leaf k held) None it.known out (ap (λ (o : Option Stored). known_by records o None) e) in
        let leaf : is_leaf depth es ≡ true = ap (λ b. b || nat_le deepest depth) (ap (λ m. nat_le m leaf_limit) (sym (as_long es)) ∙ few.0) in
        let at_level : 50 - levels ≡ depth = (let s = it.sum in omega (arith, s)) in
        let own = row_behind Record.Leaf (spell_entries offset deeper p es at) in
        let inode = λ (d : ℕ). row_behind (Record.Inode d) (spell_children (one_child levels depth indexes es) (suc d) (children_of d es) at) in
        leaf_agrees (suc levels) depth indexes es root at leaf
        (new_laid child levels depth root at new ∙ ap (λ l. lay_new child (lay_part child levels (suc depth)) depth l at) out ∙ ap (λ (ss : List Step). behind_leaf (lay_steps child ss at)) is)
        (ap (λ o. spelled_or o at (if is_leaf (50 - levels) es then own else inode (50 - levels))) none ∙ ap (λ d. if is_leaf d es then own else inode d) at_level ∙ if_true (is_leaf depth es) own (inode depth) leaf)
        (each_entry AgreesLow es it.up (λ s sub f. it.read s sub f (leaf_read (way (suc levels) depth s) root (Leaf k held) out refl (λ i is. refl))))
    deeper_agrees levels depth indexes es root at it each (Inode k n cs) out e =
        let new : record_of root ≡ None = ap record_in out ∙ e in
        let many =
        many_by (nat_le (length (steps_of es)) leaf_limit) (IsLeafOf (steps_of es) (out-Part Stored root)) (IsInodeOf (length (steps_of es)) (λ i c. IsPart levels (suc depth) (steps_at depth i (steps_of es)) c) (out-Part Stored root))
        (λ x. subst (IsLeafOf (steps_of es)) out x) it.shape in
        let is = subst (IsInodeOf (length (steps_of es)) (λ i c. IsPart levels (suc depth) (steps_at depth i (steps_of es)) c)) out many.1 in
        let none = told_here indexes root (Inode k n cs) None it.known out (ap (λ (o : Option Stored). known_by records o None) e) in
        let low : depth < 51 = (let s = it.sum in omega (arith, s)) in
        let inode_test_is : is_leaf depth es ≡ false = inode_test depth es (omega (arith, many_steps (length (steps_of es)) many.0, as_long es)) low in
        let at_level : 50 - levels ≡ depth = (let s = it.sum in omega (arith, s)) in
        let own = row_behind Record.Leaf (spell_entries offset deeper p es at) in
        let inode = λ (d : ℕ). row_behind (Record.Inode d) (spell_children (one_child levels depth indexes es) (suc d) (children_of d es) at) in
        inode_agrees levels depth indexes es root at cs.items (omega (arith, low)) inode_test_is is.1
        (new_laid child levels depth root at new ∙ ap (λ l. lay_new child (lay_part child levels (suc depth)) depth l at) out)
        (ap (λ o. spelled_or o at (if is_leaf (50 - levels) es then own else inode (50 - levels))) none ∙ ap (λ d. if is_leaf d es then own else inode d) at_level ∙ if_false (is_leaf depth es) own (inode depth) inode_test_is)
        (all_agree child (λ i. at_place depth i es) (one_child levels depth indexes es) depth (lay_part child levels (suc depth)) cs.items 0
        (λ j c f.
        let here : j ≡ 0 + j = omega arith in
        let shape = is.2 j c f in
        let count = shape_count levels (suc depth) (steps_at depth j (steps_of es)) c shape ∙ ap (λ (ss : List Step). length ss) (sym (steps_at_place depth j es)) ∙ as_long (at_place depth j es) in
        subst (λ i. ChildAgrees child (λ i. at_place depth i es) (one_child levels depth indexes es) depth (lay_part child levels (suc depth)) i c) here
        (count, λ some next. let a = each (indexes ++ j ∷ []) (at_place depth j es) c next (child_stands levels depth indexes es root it k n cs out j c f shape) in (a.spelled, a.names))))
    deeper_agrees levels depth indexes es root at it each (Unread y n) out e = no_some y (sym e)

    -- what is spelled is what is laid, and what refers to it tells its name and its height
    pub part_agrees : (levels depth : ℕ) (indexes : List ℕ) (es : Entries) (root : Part Stored) (at : ℕ) → Stands levels depth indexes es root → Agrees levels depth indexes es root at
    part_agrees zero depth indexes es root at it = by (record_of root) refl
      where
        by : (o : Option Stored) → record_of root ≡ o → Agrees zero depth indexes es root at
        by (Some x) e = known_agrees zero depth indexes es root at x e (stored_here depth indexes es root x it.known it.below (out-Part Stored root) refl e)
        by None e = last_agrees depth indexes es root at it (out-Part Stored root) refl e
    part_agrees (suc levels) depth indexes es root at it = by (record_of root) refl (λ ways below part next inner. part_agrees levels (suc depth) ways below part next inner)
      where
        by : (o : Option Stored) → record_of root ≡ o → ((ways : List ℕ) (below : Entries) (part : Part Stored) (next : ℕ) → Stands levels (suc depth) ways below part → Agrees levels (suc depth) ways below part next) → Agrees (suc levels) depth indexes es root at
        by (Some x) e each = known_agrees (suc levels) depth indexes es root at x e (stored_here depth indexes es root x it.known it.below (out-Part Stored root) refl e)
        by None e each = deeper_agrees levels depth indexes es root at it each (out-Part Stored root) refl e

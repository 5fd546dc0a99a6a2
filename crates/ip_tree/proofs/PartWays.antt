-- Which indexes are those of parts.
--     known_is_part, unread_is_part      those at which a record is known or unread are
--     part_below, is_part_below      an index more, by its tests
--     inode_by, inode_test      which entries are those of an inode
use Rattle.std.proofs.Common.{◌≡◌, ℕ, zero, suc, ◌+◌, ◌<◌, Bool, true, false, not, List, [], ◌∷◌, length, refl, sym, ap, subst, ◌∙◌, Option, Some, None, arith}
use Rattle.std.specs.Prelude.{◌&&◌, ◌||◌, nat_le, nat_lt, option_and_then, slice_get}
use Rattle.std.proofs.lemmas.Bool.{false≢true}
use Rattle.std.proofs.lemmas.Bool.Decides.{nat_tests}
use Rattle.ip_spec.specs.Path.{Step}
use Rattle.ip_spec.specs.declared.record.Record.{Record}
use Rattle.ip_spec.specs.Shape.{Entries, at_place, is_leaf, leaf_limit, deepest, part, part_from}
use Rattle.ip_spec.specs.View.{is_part_from}
use Rattle.ip_shape.specs.Shape.{ByTest, IsInodeOf, IsLeafOf, IsPart, steps_at}
use Rattle.ip_shape.specs.Loaded.{known_in, known_below, unread_in, unread_below}
use Rattle.ip_shape.specs.Directory.{steps_of}
use Rattle.ip_shape.specs.declared.part.Part.{Part, out-Part}
use Rattle.ip_shape.specs.declared.part.Part.TheOpen as layer
use Rattle.ip_shape.specs.declared.part.Part.TheOpen.{Part-F}
use Rattle.ip_shape.proofs.ByEntries.{as_long, steps_at_place}
use Rattle.ip_shape.proofs.Members.{neither}
use Rattle.ip_shape.proofs.Ways.{found_below}
use Rattle.ip_tree.specs.Meaning.{HasSteps, KnowsParts, HasEntries}
use Rattle.ip_tree.specs.declared.node.Stored.{Stored}
use Rattle.ip_tree.proofs.Indexes.{no_list, no_some, same_left}
use Rattle.ip_tree.proofs.PartEntries.{some_above}

-- ---- the tests of a part, one by one

pub record IsBelow {C : Type 0} (depth i : ℕ) (es : List (Step × C)) : Type 0 where
  pub inode : is_leaf depth es ≡ false
  pub small : i < 32
  pub some : 0 < length (at_place depth i es)

in_all : (a b c d : Bool) → (a && b && c && d) ≡ true → (a ≡ true) × (b ≡ true) × (c ≡ true) × (d ≡ true)
in_all true true true d e = (refl, refl, refl, e)
in_all true true false d e = absurd (false≢true e)
in_all true false c d e = absurd (false≢true e)
in_all false b c d e = absurd (false≢true e)

not_true : (b : Bool) → not b ≡ true → b ≡ false
not_true true e = absurd (false≢true e)
not_true false e = refl

lt_of : (m n : ℕ) → nat_lt m n ≡ true → m < n
lt_of m n e = grind (arith, nat_tests)

lt_test : (m n : ℕ) → m < n → nat_lt m n ≡ true
lt_test m n l = grind (arith, nat_tests)

pub part_below : (depth i : ℕ) (is : List ℕ) (es : Entries) → is_part_from depth es (i ∷ is) ≡ true → IsBelow depth i es × (is_part_from (suc depth) (at_place depth i es) is ≡ true)
part_below depth i is es e =
    let all = in_all (not (is_leaf depth es)) (nat_lt i 32) (nat_lt 0 (length (at_place depth i es))) (is_part_from (suc depth) (at_place depth i es) is) e in
    (record { inode = not_true (is_leaf depth es) all.0; small = lt_of i 32 all.1; some = lt_of 0 (length (at_place depth i es)) all.2 }, all.3)

pub is_part_below : (depth i : ℕ) (is : List ℕ) (es : Entries) → IsBelow depth i es → is_part_from depth es (i ∷ is) ≡ is_part_from (suc depth) (at_place depth i es) is
is_part_below depth i is es b =
    ap (λ x. not x && nat_lt i 32 && nat_lt 0 (length (at_place depth i es)) && is_part_from (suc depth) (at_place depth i es) is) b.inode
    ∙ ap (λ x. x && nat_lt 0 (length (at_place depth i es)) && is_part_from (suc depth) (at_place depth i es) is) (lt_test i 32 b.small)
    ∙ ap (λ x. x && is_part_from (suc depth) (at_place depth i es) is) (lt_test 0 (length (at_place depth i es)) b.some)

module _ {C : Type 0} where
  pub inode_by : (depth : ℕ) (es : List (Step × C)) → is_leaf depth es ≡ false → (32 < length es) × (depth < 51)
  inode_by depth es e = let n = neither (nat_le (length es) leaf_limit) (nat_le deepest depth) e in (many (length es) n.0, shallow n.1)
    where
      many : (n : ℕ) → nat_le n leaf_limit ≡ false → 32 < n
      many n f = grind (arith, nat_tests)

      shallow : nat_le deepest depth ≡ false → depth < 51
      shallow f = grind (arith, nat_tests)

  pub inode_test : (depth : ℕ) (es : List (Step × C)) → 32 < length es → depth < 51 → is_leaf depth es ≡ false
  inode_test depth es many shallow = by (nat_le (length es) leaf_limit) (nat_le deepest depth) (few (length es) many) high
    where
      few : (n : ℕ) → 32 < n → nat_le n leaf_limit ≡ false
      few n l = grind (arith, nat_tests)

      high : nat_le deepest depth ≡ false
      high = grind (arith, nat_tests)

      by : (a b : Bool) → a ≡ false → b ≡ false → (a || b) ≡ false
      by true b e f = e
      by false b e f = f

-- ---- what stands in a structure is a part

many_by : (b : Bool) (A B : Type 0) → (A → ⊥) → ByTest b A B → (b ≡ false) × B
many_by true A B never x = absurd (never x)
many_by false A B never x = (refl, x)

above_limit : (n : ℕ) → nat_le n leaf_limit ≡ false → 32 < n
above_limit n e = grind (arith, nat_tests)

module _ {R : Type 0} where
  abbrev child_at : ℕ → Part-F R (Part R) → Option (Part R)
  child_at i (layer.Leaf known steps) = None
  child_at i (layer.Inode known count children) = slice_get children.items i
  child_at i (layer.Unread r n) = None

  leaf_childless : {X : Type 0} (i : ℕ) (steps : List Step) (l : Part-F R (Part R)) (child : Part R) → IsLeafOf steps l → child_at i l ≡ Some child → X
  leaf_childless i steps (layer.Leaf known held) child is e = no_some child e
  leaf_childless i steps (layer.Inode known n children) child is e = absurd is
  leaf_childless i steps (layer.Unread r n) child is e = no_some child e

  inode_child : (i total : ℕ) (G : ℕ → Part R → Type 0) (l : Part-F R (Part R)) (child : Part R) → IsInodeOf total G l → child_at i l ≡ Some child → (i < 32) × G i child
  inode_child i total G (layer.Leaf known held) child is e = absurd is
  inode_child i total G (layer.Inode known n children) child is e = (subst (λ n. i < n) is.1 (found_below children.items i child e), is.2 i child e)
  inode_child i total G (layer.Unread r n) child is e = no_some child e

  record IsChild (levels depth i : ℕ) (steps : List Step) (child : Part R) : Type 0 where
    below : ℕ
    next : levels ≡ suc below
    many : 32 < length steps
    small : i < 32
    shape : IsPart below (suc depth) (steps_at depth i steps) child

  child_shape : (levels depth i : ℕ) (steps : List Step) (part child : Part R) → IsPart levels depth steps part → child_at i (out-Part R part) ≡ Some child → IsChild levels depth i steps child
  child_shape zero depth i steps part child is e = leaf_childless i steps (out-Part R part) child is e
  child_shape (suc levels) depth i steps part child is e =
      let found = many_by (nat_le (length steps) leaf_limit) _ _ (λ x. leaf_childless i steps (out-Part R part) child x e) is in
      let inner = inode_child i (length steps) (λ k c. IsPart levels (suc depth) (steps_at depth k steps) c) (out-Part R part) child found.1 e in
      record { below = levels; next = refl; many = above_limit (length steps) found.0; small = inner.0; shape = inner.1 }

  -- the indexes lead from child to child
  data There : List ℕ → Part R → Type 0 where
    here : {part : Part R} → There [] part
    down : {i : ℕ} {is : List ℕ} {part : Part R} (child : Part R) → child_at i (out-Part R part) ≡ Some child → There is child → There (i ∷ is) part

  known_there : (is : List ℕ) (part : Part R) (x : R) → known_in is part ≡ Some x → There is part
  known_there [] part x e = here
  known_there (i ∷ is) part x e = by (λ child f. known_there is child x f) (out-Part R part) refl e
    where
      at : ((child : Part R) → known_in is child ≡ Some x → There is child) → (o : Option (Part R)) → child_at i (out-Part R part) ≡ o → option_and_then (known_in is) o ≡ Some x → There (i ∷ is) part
      at deeper None f g = no_some x g
      at deeper (Some child) f g = down child f (deeper child g)

      by : ((child : Part R) → known_in is child ≡ Some x → There is child) → (l : Part-F R (Part R)) → out-Part R part ≡ l → known_below (known_in is) i l ≡ Some x → There (i ∷ is) part
      by deeper (layer.Leaf known held) out f = no_some x f
      by deeper (layer.Inode known n children) out f = at deeper (slice_get children.items i) (ap (child_at i) out) f
      by deeper (layer.Unread r n) out f = no_some x f

  unread_there : (is : List ℕ) (part : Part R) (x : R) → unread_in is part ≡ Some (x, []) → There is part
  unread_there [] part x e = here
  unread_there (i ∷ is) part x e = by (λ child f. unread_there is child x f) (out-Part R part) refl e
    where
      at : ((child : Part R) → unread_in is child ≡ Some (x, []) → There is child) → (o : Option (Part R)) → child_at i (out-Part R part) ≡ o → option_and_then (unread_in is) o ≡ Some (x, []) → There (i ∷ is) part
      at deeper None f g = no_some (x, []) g
      at deeper (Some child) f g = down child f (deeper child g)

      by : ((child : Part R) → unread_in is child ≡ Some (x, []) → There is child) → (l : Part-F R (Part R)) → out-Part R part ≡ l → unread_below (unread_in is) i is l ≡ Some (x, []) → There (i ∷ is) part
      by deeper (layer.Leaf known held) out f = no_some (x, []) f
      by deeper (layer.Inode known n children) out f = at deeper (slice_get children.items i) (ap (child_at i) out) f
      by deeper (layer.Unread r n) out f = no_list i is (same_left r x (i ∷ is) [] f)

  there_part : (is : List ℕ) (levels depth : ℕ) (es : Entries) (part : Part R) → levels + depth ≡ 51 → IsPart levels depth (steps_of es) part → There is part → 0 < length (part_from depth es is) → is_part_from depth es is ≡ true
  there_part [] levels depth es part sum shape t some = refl
  there_part (i ∷ is) levels depth es part sum shape (down child at t) some =
      let c = child_shape levels depth i (steps_of es) part child shape at in
      let low : depth < 51 = omega (arith, sum, c.next) in
      let b : IsBelow depth i es = record { inode = inode_test depth es (omega (arith, c.many, as_long es)) low; small = c.small; some = some_above (suc depth) is (at_place depth i es) some } in
      is_part_below depth i is es b
      ∙ there_part is c.below (suc depth) (at_place depth i es) child (omega (arith, sum, c.next)) (subst (λ ss. IsPart c.below (suc depth) ss child) (sym (steps_at_place depth i es)) c.shape) t some

module _ (records : ℕ → Option Record) (root : Part Stored) (read : List Step) (es : Entries) (has_steps : HasSteps root read es) (knows : KnowsParts records root es) where
  spelled_part : (is : List ℕ) → There is root → HasEntries es is → is_part_from 0 es is ≡ true
  spelled_part [] t some = refl
  spelled_part (i ∷ is) t some = there_part (i ∷ is) deepest 0 es root refl has_steps.shape t some

  pub known_is_part : (is : List ℕ) (x : Stored) → known_in is root ≡ Some x → is_part_from 0 es is ≡ true
  known_is_part is x e = spelled_part is (known_there is root x e) (knows.known is x e).some

  pub unread_is_part : (is : List ℕ) (x : Stored) → unread_in is root ≡ Some (x, []) → is_part_from 0 es is ≡ true
  unread_is_part is x e = spelled_part is (unread_there is root x e) (knows.unread is x e).some

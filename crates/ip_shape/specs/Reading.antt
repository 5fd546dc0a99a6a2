-- What has to be read of a directory, and what it is after that.
--     IsMissing s root found      the part that has to be read first on the way to a step: its indexes and its record, or none where all on the way was read
--     is_needed s steps indexes      a part that is to be read before a step is taken out: one on the way to it, and where it is there and a part becomes a leaf, each below that part
--     IsNeeded s steps root found      one of those that is not read, or none where all of them are
--     steps_under depth indexes steps      the steps of the part at the indexes
--     spelled_by r n content      the part that a record spells, with what was read of it
--     IsLeafRead indexes r old new      a leaf that was read stands there
--     AreChildren depth steps given, IsInodeRead indexes r given old new      what is read of an inode; the same of an inode
--     IsEntered indexes read old new      that part stands at the indexes, and all else is as it was
use Rattle.std.specs.Prelude.{◌≡◌, ◌≤◌, ◌<◌, ◌==◌, cond, ◌-◌, ◌+◌, ℕ, suc, Bool, true, ◌&&◌, ◌||◌, List, [], ◌∷◌, length, Option, Some, None, option_map, take, reverse}
use Rattle.std.proofs.Math.ListN.{set}
use Rattle.ip_spec.specs.Path.{Step}
use Rattle.ip_spec.specs.Shape.{deepest}
use Rattle.ip_shape.specs.Shape.{IsPart, has, steps_at}
use Rattle.ip_shape.specs.Loaded.{IsRead, behind, is_under, join_of, known_in, unread_in, way_to}
use Rattle.ip_shape.specs.declared.part.Part.{Part}
use Rattle.ip_shape.specs.declared.part.Part.TheVariants as variant
use Rattle.ip_shape.specs.declared.reading.Child.{Child}
use Rattle.ip_shape.specs.declared.reading.Content.{Content}
use Rattle.ip_shape.specs.declared.reading.Content.TheVariants as content

abbrev pub is_needed : Step → List Step → List ℕ → Bool
is_needed s steps is = is_under (Some is) (way_to s) || (has s steps && is_under (join_of deepest 0 s steps) is)

abbrev pub steps_under : ℕ → List ℕ → List Step → List Step
steps_under depth [] steps = steps
steps_under depth (i ∷ is) steps = steps_under (suc depth) is (steps_at depth i steps)

abbrev pub in_place : {A : Type 0} → (List ℕ → A) → A → Option (List ℕ) → A
in_place read x None = x
in_place read x (Some rest) = read rest

module _ {R : Type 0} where
  abbrev pub IsMissing : Step → Part R → Option (List ℕ × R) → Type 0
  IsMissing s root None = unread_in (way_to s) root ≡ None
  IsMissing s root (Some m) = (unread_in m.0 root ≡ Some (m.1, [])) × (is_under (Some m.0) (way_to s) ≡ true)

  abbrev pub IsNeeded : Step → List Step → Part R → Option (List ℕ × R) → Type 0
  IsNeeded s steps root None = (unread_in (way_to s) root ≡ None) × ((is : List ℕ) (r : R) → is_needed s steps is ≡ true → unread_in is root ≡ Some (r, []) → ⊥)
  IsNeeded s steps root (Some m) = (unread_in m.0 root ≡ Some (m.1, [])) × (is_needed s steps m.0 ≡ true)

  -- what is found on the way that indexes lead from a depth on: at which depth, and which record
  abbrev pub IsUnreadOn : ℕ → List ℕ → Part R → Option (ℕ × R) → Type 0
  IsUnreadOn depth is part None = unread_in is part ≡ None
  IsUnreadOn depth is part (Some f) = (depth ≤ f.0) × (unread_in (take (f.0 - depth) is) part ≡ Some (f.1, []))

  -- what a walk through a part finds: the indexes, the last one first, and the record
  abbrev pub IsFirstBelow : Part R → Option (List ℕ × R) → Type 0
  IsFirstBelow part None = IsRead part
  IsFirstBelow part (Some f) = unread_in (reverse f.0) part ≡ Some (f.1, [])

  -- and one down to what becomes a leaf
  abbrev pub IsToJoin : Option (List ℕ) → Part R → Option (List ℕ × R) → Type 0
  IsToJoin join part None = (is : List ℕ) (r : R) → is_under join is ≡ true → unread_in is part ≡ Some (r, []) → ⊥
  IsToJoin join part (Some f) = (is_under join (reverse f.0) ≡ true) × (unread_in (reverse f.0) part ≡ Some (f.1, []))

  abbrev pub spelled_by : R → ℕ → Content R → Part R
  spelled_by r n (content.Leaf steps) = variant.Leaf (Some r) steps
  spelled_by r n (content.Inode children) = variant.Inode (Some r) n children

  -- it is the part of its steps at the depth to which the indexes lead
  abbrev pub Steps : ℕ → List ℕ → List Step → Part R → Type 0
  Steps depth is steps part = IsPart (deepest - (depth + length is)) (depth + length is) (steps_under depth is steps) part

  abbrev pub IsEntered : List ℕ → Part R → Part R → Part R → Type 0
  IsEntered is read old new =
      (q : List ℕ) → (unread_in q new ≡ in_place (λ rest. unread_in rest read) (unread_in q old) (behind is q)) × (known_in q new ≡ in_place (λ rest. known_in rest read) (known_in q old) (behind is q))

  -- a leaf that was read is known at its record, and nothing is unread there any more
  abbrev pub leaf_known : R → List ℕ → Option R
  leaf_known r [] = Some r
  leaf_known r (i ∷ is) = None

  abbrev pub IsLeafRead : List ℕ → R → Part R → Part R → Type 0
  IsLeafRead is r old new =
      (q : List ℕ) → (unread_in q new ≡ in_place (λ rest. None) (unread_in q old) (behind is q)) × (known_in q new ≡ in_place (leaf_known r) (known_in q old) (behind is q))

  -- a child of an inode that was read, the first of those with its index: its record, and how many steps it has
  abbrev pub child_in : ℕ → List (Child R) → Option (R × ℕ)
  child_in i [] = None
  child_in i (c ∷ cs) = cond (c.index == i) (Some (c.record, c.count)) (child_in i cs)

  abbrev pub count_by : Option (R × ℕ) → ℕ
  count_by None = 0
  count_by (Some c) = c.1

  -- what an inode of a depth, which has these steps, tells of its children
  abbrev pub AreChildren : ℕ → List Step → List (Child R) → Type 0
  AreChildren depth steps given = (depth < deepest) × (32 < length steps) × ((i : ℕ) → count_by (child_in i given) ≡ length (steps_at depth i steps)) × ((i : ℕ) → 32 ≤ i → child_in i given ≡ None)

  abbrev pub child_unread : List (Child R) → List ℕ → Option (R × List ℕ)
  child_unread given [] = None
  child_unread given (i ∷ is) = option_map (λ c. (c.0, is)) (child_in i given)

  -- an inode that was read is known at its record, and its children are unread
  abbrev pub IsInodeRead : List ℕ → R → List (Child R) → Part R → Part R → Type 0
  IsInodeRead is r given old new =
      (q : List ℕ) → (unread_in q new ≡ in_place (child_unread given) (unread_in q old) (behind is q)) × (known_in q new ≡ in_place (leaf_known r) (known_in q old) (behind is q))

  -- each child in its place
  abbrev pub placed_from : List (Child R) → List (Part R) → List (Part R)
  placed_from [] parts = parts
  placed_from (c ∷ cs) parts = set (placed_from cs parts) c.index (variant.Unread c.record c.count)

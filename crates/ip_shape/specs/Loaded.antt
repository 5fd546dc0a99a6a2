-- What is read of a directory, and which records spell its parts. Indexes lead from a part to a part below it, as `part` of the definition of shape has it.
--     way levels depth s      the indexes that lead to a step, from a depth down, through so many depths
--     way_to s      those of a whole directory
--     unread_in indexes part      the first part on the way of the indexes that was not read: its record, and the indexes that are left there
--     known_in indexes part      the record that spells the part at the indexes, where that part was read and is known
--     IsRead part      all of it was read.      IsFresh part      besides, nothing of it is known
--     leads depth indexes s      the indexes are the first of those that lead to the step
--     behind front indexes      what is left of the indexes behind those in front
--     join_of levels depth s steps      where one step fewer makes a leaf of an inode: the indexes of the uppermost part on the way that has 33 steps
--     IsUnchanged old new      the same parts are unread, and the same are known
--     IsEdited depth s old new      the same parts are unread, and a part is known where it was and neither is nor holds the place of the step
--     IsLessened levels depth s steps old new      besides, nothing is known below a part that became a leaf
use Rattle.std.specs.Prelude.{◌≡◌, ℕ, zero, suc, Bool, false, ◌==◌, ◌||◌, cond, List, [], ◌∷◌, length, Option, Some, None, is_some, option_and_then, option_map, slice_get}
use Rattle.ip_spec.specs.Path.{Step}
use Rattle.ip_spec.specs.Shape.{deepest, place}
use Rattle.ip_spec.specs.View.{leads}
use Rattle.ip_shape.specs.Shape.{steps_at}
use Rattle.ip_shape.specs.declared.part.Part.{Part, out-Part}
use Rattle.ip_shape.specs.declared.part.Part.TheOpen.{Part-F, Leaf, Inode, Unread}

abbrev pub way : ℕ → ℕ → Step → List ℕ
way zero depth s = []
way (suc levels) depth s = place s depth ∷ way levels (suc depth) s

-- through all depths
unfoldable pub way_to : Step → List ℕ
way_to s = way deepest 0 s

abbrev pub behind : List ℕ → List ℕ → Option (List ℕ)
behind [] is = Some is
behind (i ∷ front) [] = None
behind (i ∷ front) (j ∷ is) = cond (i == j) (behind front is) None

abbrev pub is_under : Option (List ℕ) → List ℕ → Bool
is_under None is = false
is_under (Some front) is = is_some (behind front is)

abbrev pub join_of : ℕ → ℕ → Step → List Step → Option (List ℕ)
join_of zero depth s steps = None
join_of (suc levels) depth s steps =
    cond (length steps == 33) (Some []) (option_map (λ is. place s depth ∷ is) (join_of levels (suc depth) s (steps_at depth (place s depth) steps)))

module _ {R : Type 0} where
  abbrev pub unread_here : Part-F R (Part R) → Option (R × List ℕ)
  unread_here (Leaf known steps) = None
  unread_here (Inode known count children) = None
  unread_here (Unread r count) = Some (r, [])

  abbrev pub unread_below : (Part R → Option (R × List ℕ)) → ℕ → List ℕ → Part-F R (Part R) → Option (R × List ℕ)
  unread_below deeper i is (Leaf known steps) = None
  unread_below deeper i is (Inode known count children) = option_and_then deeper (slice_get children.items i)
  unread_below deeper i is (Unread r count) = Some (r, i ∷ is)

  abbrev pub unread_in : List ℕ → Part R → Option (R × List ℕ)
  unread_in [] part = unread_here (out-Part R part)
  unread_in (i ∷ is) part = unread_below (unread_in is) i is (out-Part R part)

  abbrev pub known_here : Part-F R (Part R) → Option R
  known_here (Leaf known steps) = known
  known_here (Inode known count children) = known
  known_here (Unread r count) = None

  abbrev pub known_below : (Part R → Option R) → ℕ → Part-F R (Part R) → Option R
  known_below deeper i (Leaf known steps) = None
  known_below deeper i (Inode known count children) = option_and_then deeper (slice_get children.items i)
  known_below deeper i (Unread r count) = None

  abbrev pub known_in : List ℕ → Part R → Option R
  known_in [] part = known_here (out-Part R part)
  known_in (i ∷ is) part = known_below (known_in is) i (out-Part R part)

  abbrev pub IsRead : Part R → Type 0
  IsRead part = (is : List ℕ) → unread_in is part ≡ None

  abbrev pub IsFresh : Part R → Type 0
  IsFresh part = (is : List ℕ) → (unread_in is part ≡ None) × (known_in is part ≡ None)

  abbrev pub IsUnchanged : Part R → Part R → Type 0
  IsUnchanged old new = (is : List ℕ) → (unread_in is new ≡ unread_in is old) × (known_in is new ≡ known_in is old)

  abbrev pub IsEdited : ℕ → Step → Part R → Part R → Type 0
  IsEdited depth s old new = (is : List ℕ) → (unread_in is new ≡ unread_in is old) × (known_in is new ≡ cond (leads depth is s) None (known_in is old))

  abbrev pub IsLessened : ℕ → ℕ → Step → List Step → Part R → Part R → Type 0
  IsLessened levels depth s steps old new =
      (is : List ℕ) → (unread_in is new ≡ unread_in is old) × (known_in is new ≡ cond (leads depth is s || is_under (join_of levels depth s steps) is) None (known_in is old))

-- What a directory knows after a node was put at a path that begins with a step, by what stands at that step then.
--     IsBelow      what stands at the step knows what is to be known below it
--     placed_knows      then the directory knows what it is to know
--     below_child, below_chain      of what stood there and was changed, and of new directories
use Rattle.std.proofs.Common.{◌≡◌, ℕ, Bool, true, false, not, List, [], ◌∷◌, refl, sym, ap, ◌∙◌, Option, Some, None, cond}
use Rattle.std.specs.Option.{option_map_or}
use Rattle.std.specs.Prelude.{◌&&◌, ◌||◌, if◌then◌else◌}
use Rattle.std.specs.FinMap.Entries.{find, put}
use Rattle.ip_spec.specs.Path.{Step, Path, bytes_cmp, same_bytes, is_prefix, after_prefix}
use Rattle.ip_spec.specs.declared.record.Record.{Record}
use Rattle.ip_spec.specs.Tree.{Tree, entries_of, is_contents, is_empty, place, subtree}
use Rattle.ip_spec.specs.View as view
use Rattle.ip_spec.specs.View.{holds_behind, is_nil, is_part, is_part_at, is_part_from, touches}
use Rattle.ip_spec.proofs.Subtrees.{same_bytes_turned, same_step, subtree_root}
use Rattle.ip_shape.specs.Loaded.{IsEdited, unread_in, way_to}
use Rattle.ip_shape.specs.declared.part.Part.{Part}
use Rattle.ip_tree.specs.Node.{Entry, Node, directory, nodes_of, steps_in}
use Rattle.ip_tree.specs.Meaning.{DirectoryIs}
use Rattle.ip_tree.specs.Known.{below_entry, known_at, knows, unread_entry}
use Rattle.ip_tree.specs.Edits.{known_after}
use Rattle.ip_tree.specs.Placing.{behind_or}
use Rattle.ip_tree.specs.declared.node.Stored.{Stored}
use Rattle.ip_tree.proofs.ChildNodes.{known_found}
use Rattle.ip_tree.proofs.KnownAfter.{beside_after, put_after}
use Rattle.ip_tree.proofs.PartsPut.{put_below}
use Rattle.ip_tree.proofs.PlacedTrees.{after_apart, after_cons, entries_of-place, itself, place_directory, place_not_empty, subtree_place_apart, subtree_place_same}

-- what a part of the tree at a step is in the tree itself
abbrev pub at_step : Step → view.Part → view.Part
at_step s part = record { path = s ∷ part.path; indexes = part.indexes }

-- of a node, the parts behind a path
abbrev pub known_behind : (ℕ → Option Record) → Node → List ℕ → Path → Option ℕ
known_behind records n indexes rest = knows records n (record { path = rest; indexes = indexes })

abbrev pub after_placing : (ℕ → Option Record) → Node → Path → (view.Part → Option ℕ) → Tree → view.Part → Option ℕ
after_placing records n path known map part = behind_or (known_behind records n part.indexes) (after_prefix path part.path) (known_after known path map part)

if_none : (b : Bool) (k : Option ℕ) → k ≡ None → (if b then k else None) ≡ None
if_none true k e = e
if_none false k e = refl

-- where nothing was known, nothing but the node's parts is
pub after_nothing : (records : ℕ → Option Record) (n : Node) (path : Path) (known : view.Part → Option ℕ) (map : Tree) (part : view.Part) → known part ≡ None
    → after_placing records n path known map part ≡ behind_or (known_behind records n part.indexes) (after_prefix path part.path) None
after_nothing records n path known map part e = ap (behind_or (known_behind records n part.indexes) (after_prefix path part.path)) (if_none (is_part map part && not (touches part path)) (known part) e)

-- the same was known
pub after_same : (records : ℕ → Option Record) (n : Node) (path : Path) (known other : view.Part → Option ℕ) (map : Tree) (part : view.Part) → known part ≡ other part
    → after_placing records n path known map part ≡ after_placing records n path other map part
after_same records n path known other map part e =
    ap (λ k. behind_or (known_behind records n part.indexes) (after_prefix path part.path) (if is_part map part && not (touches part path) then k else None)) e

-- only the root may be empty and have a part
not_root : (s : Step) (r : Path) (x : Tree) (is : List ℕ) → (r ≡ [] → is_empty x ≡ false) → is_part_at r x is ≡ is_part_at (s ∷ r) x is
not_root s (q ∷ r) x is some = refl
not_root s [] x is some =
    ap (λ b. if is_contents x then is_nil is else if b then true && is_nil is else is_part_from 0 (entries_of x).entries is) (some refl)
    ∙ sym (ap (λ b. if is_contents x then is_nil is else if b then false && is_nil is else is_part_from 0 (entries_of x).entries is) (some refl))

touched_below : (s : Step) (p : Path) (part : view.Part) → touches part p ≡ touches (at_step s part) (s ∷ p)
touched_below s p part = ap (λ b. (b && is_prefix p part.path) || holds_behind part.indexes (cond b (after_prefix part.path p) None)) (sym (itself s))

module _ (records : ℕ → Option Record) (root : Part Stored) (ys : List Entry) (s : Step) (path : Path) (n : Node) where
  -- what was known below the step
  abbrev pub before : view.Part → Option ℕ
  before part = knows records (directory root (nodes_of ys)) (at_step s part)

  -- the node knows what is to be known below the step, where a tree stood
  abbrev pub IsBelow : Node → Tree → Type 0
  IsBelow child map = (part : view.Part) → knows records child part ≡ after_placing records n path before map part

  pub below_child : (old child : Node) (map : Tree) → find bytes_cmp s ys ≡ Some old → ((part : view.Part) → knows records child part ≡ after_placing records n path (knows records old) map part) → IsBelow child map
  below_child old child map found known part =
      known part
      ∙ after_same records n path (knows records old) before map part
      (sym (
      known_found records ys s part.path part.indexes (other part.path part.indexes)
      ∙ ap (λ o. option_map_or (λ m. known_at records m part.path part.indexes) o (other part.path part.indexes)) found
      ))
    where
      other : Path → List ℕ → Option ℕ
      other p is = below_entry records p is (unread_entry records s (unread_in (way_to s) root))

  pub below_chain : (child : Node) (map : Tree) → find bytes_cmp s ys ≡ None → unread_in (way_to s) root ≡ None
      → ((part : view.Part) → knows records child part ≡ behind_or (known_behind records n part.indexes) (after_prefix path part.path) None) → IsBelow child map
  below_chain child map lost way_read known part =
      known part
      ∙ sym (after_nothing records n path before map part (
      known_found records ys s part.path part.indexes (other part.path part.indexes (unread_in (way_to s) root))
      ∙ ap (λ o. option_map_or (λ m. known_at records m part.path part.indexes) o (other part.path part.indexes (unread_in (way_to s) root))) lost
      ∙ ap (other part.path part.indexes) way_read
      ))
    where
      other : Path → List ℕ → Option (Stored × List ℕ) → Option ℕ
      other p is u = below_entry records p is (unread_entry records s u)

module _ (records : ℕ → Option Record) (old new : Part Stored) (ys : List Entry) (t : Tree) (s : Step) (path : Path) (n : Node) (sub : Tree) (some : is_empty sub ≡ false) (means : DirectoryIs records old (nodes_of ys) t)
    (way_read : unread_in (way_to s) old ≡ None) (edited : IsEdited 0 s old new) (child : Node) (below : IsBelow records old ys s path n child (place (subtree t (s ∷ [])) path sub)) where
  part_below : (part : view.Part) → is_part (place (subtree t (s ∷ [])) path sub) part ≡ is_part (place t (s ∷ path) sub) (at_step s part)
  part_below part =
      not_root s part.path (subtree (place (subtree t (s ∷ [])) path sub) part.path) part.indexes
      (λ e. ap (λ (q : Path). is_empty (subtree (place (subtree t (s ∷ [])) path sub) q)) e ∙ ap is_empty (subtree_root (place (subtree t (s ∷ [])) path sub)) ∙ place_not_empty (subtree t (s ∷ [])) path sub some)
      ∙ ap (λ (x : Tree). is_part_at (s ∷ part.path) x part.indexes) (sym (subtree_place_same t s path part.path sub))

  after_below : (part : view.Part)
      → known_after (before records old ys s path n) path (place (subtree t (s ∷ [])) path sub) part ≡ known_after (knows records (directory old (nodes_of ys))) (s ∷ path) (place t (s ∷ path) sub) (at_step s part)
  after_below part =
      ap (λ b. if b && not (touches part path) then before records old ys s path n part else None) (part_below part)
      ∙ ap (λ b. if is_part (place t (s ∷ path) sub) (at_step s part) && not b then before records old ys s path n part else None) (touched_below s path part)

  below_put : (q : Step) (r : Path) (is : List ℕ) → known_at records (directory new (nodes_of (put bytes_cmp s child ys))) (q ∷ r) is ≡ cond (same_bytes q s) (known_at records child r is) (known_at records (directory old (nodes_of ys)) (q ∷ r) is)
  below_put q r is = put_below records (entries_of t).entries (entries_of t).sorted s sub old new (steps_in (nodes_of ys)) means.steps means.parts way_read edited ys child q r is

  pub placed_knows : (part : view.Part) → knows records (directory new (nodes_of (put bytes_cmp s child ys))) part
      ≡ after_placing records n (s ∷ path) (knows records (directory old (nodes_of ys))) (place t (s ∷ path) sub) part
  placed_knows part = by part.path part.indexes
    where
      at : (q : Step) (r : Path) (is : List ℕ) (b : Bool) → same_bytes q s ≡ b → known_at records (directory new (nodes_of (put bytes_cmp s child ys))) (q ∷ r) is
          ≡ after_placing records n (s ∷ path) (knows records (directory old (nodes_of ys))) (place t (s ∷ path) sub) (record { path = q ∷ r; indexes = is })
      at q r is true e =
          below_put q r is ∙ ap (λ b. cond b (known_at records child r is) (known_at records (directory old (nodes_of ys)) (q ∷ r) is)) e
          ∙ below (record { path = r; indexes = is })
          ∙ ap (behind_or (known_behind records n is) (after_prefix path r)) (after_below (record { path = r; indexes = is }))
          ∙ ap (λ o. behind_or (known_behind records n is) o (known_after (knows records (directory old (nodes_of ys))) (s ∷ path) (place t (s ∷ path) sub) (record { path = s ∷ r; indexes = is }))) (sym (after_cons s path r))
          ∙ ap (λ (k : Step). after_placing records n (s ∷ path) (knows records (directory old (nodes_of ys))) (place t (s ∷ path) sub) (record { path = k ∷ r; indexes = is })) (sym (same_step q s e))
      at q r is false e =
          beside_after records old new (nodes_of ys) (nodes_of (put bytes_cmp s child ys)) t (place t (s ∷ path) sub) s path means (place_directory t s path sub) way_read
          q r is (same_bytes_turned s q ∙ e) e (subtree_place_apart t s q path r sub e)
          (below_put q r is ∙ ap (λ b. cond b (known_at records child r is) (known_at records (directory old (nodes_of ys)) (q ∷ r) is)) e)
          ∙ ap (λ o. behind_or (known_behind records n is) o (known_after (knows records (directory old (nodes_of ys))) (s ∷ path) (place t (s ∷ path) sub) (record { path = q ∷ r; indexes = is }))) (sym (after_apart s q path r e))

      by : (q : Path) (is : List ℕ) → knows records (directory new (nodes_of (put bytes_cmp s child ys))) (record { path = q; indexes = is })
          ≡ after_placing records n (s ∷ path) (knows records (directory old (nodes_of ys))) (place t (s ∷ path) sub) (record { path = q; indexes = is })
      by [] is =
          put_after records old new (nodes_of ys) (nodes_of (put bytes_cmp s child ys)) t (place t (s ∷ path) sub) s path means (place_directory t s path sub) way_read
          (place (subtree t (s ∷ [])) path sub) is (entries_of-place t s path sub some) edited
      by (q ∷ r) is = at q r is (same_bytes q s) refl

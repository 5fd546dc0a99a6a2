-- Which parts an edit at a path touches, and which a tree has, one step down.
--     same_itself      a step is the same as itself
--     touches_below, touches_beside      of parts at the path's first step, and at another one
--     is_part_below, no_part      at a step the tree has the parts of what stands there, and none where nothing does
--     after_below      what is known at a step after an edit is what is known there after the rest of the edit
--     after_touched      nothing is known of what the edit touches
use Rattle.std.proofs.Common.{◌≡◌, ℕ, Bool, true, false, not, List, [], ◌∷◌, refl, sym, ap, ◌∙◌, Option, None, cond}
use Rattle.std.specs.Prelude.{◌&&◌, ◌||◌, if◌then◌else◌}
use Rattle.std.specs.Ordering.{is_eq}
use Rattle.ip_spec.specs.Path.{Step, Path, after_prefix, is_prefix, same_bytes}
use Rattle.ip_spec.specs.Tree.{Tree, entries_of, is_contents, is_empty, no_tree, subtree, tree_runs}
use Rattle.ip_spec.specs.View.{Part, holds_behind, is_nil, is_part, is_part_at, is_part_from, touches}
use Rattle.ip_spec.proofs.Subtrees.{empty_is, same_bytes_turned, step_itself, subtree_cons, subtree_root}
use Rattle.ip_tree.specs.Edits.{known_after}
use Rattle.ip_tree.proofs.Trees.{nothing_under}

pub same_itself : (s : Step) → same_bytes s s ≡ true
same_itself s = ap is_eq (step_itself s)

abbrev pub at : Path → List ℕ → Part
at p is = record { path = p; indexes = is }

pub touches_below : (s : Step) (path p : Path) (is : List ℕ) → touches (at (s ∷ p) is) (s ∷ path) ≡ touches (at p is) path
touches_below s path p is = ap (λ b. (b && is_prefix path p) || holds_behind is (cond b (after_prefix p path) None)) (same_itself s)

pub touches_beside : (s q : Step) (path p : Path) (is : List ℕ) → same_bytes q s ≡ false → touches (at (q ∷ p) is) (s ∷ path) ≡ false
touches_beside s q path p is other =
    ap (λ b. (b && is_prefix path p) || holds_behind is (after_prefix (q ∷ p) (s ∷ path))) (same_bytes_turned s q ∙ other) ∙ ap (λ b. holds_behind is (cond b (after_prefix p path) None)) other

pub is_part_below : (u w : Tree) (s : Step) (p : Path) (is : List ℕ) → subtree u (s ∷ []) ≡ w → is_empty w ≡ false → is_part u (at (s ∷ p) is) ≡ is_part w (at p is)
is_part_below u w s p is same some = ap (λ (t : Tree). is_part_at (s ∷ p) t is) (subtree_cons u s p ∙ ap (λ (t : Tree). subtree t p) same) ∙ by p
  where
    by : (p : Path) → is_part_at (s ∷ p) (subtree w p) is ≡ is_part_at p (subtree w p) is
    by [] =
        let left : is_empty (subtree w []) ≡ false = ap is_empty (subtree_root w) ∙ some in
        ap (λ b. if is_contents (subtree w []) then is_nil is else if b then is_nil (s ∷ []) && is_nil is else is_part_from 0 (entries_of (subtree w [])).entries is) left
        ∙ sym (ap (λ b. if is_contents (subtree w []) then is_nil is else if b then true && is_nil is else is_part_from 0 (entries_of (subtree w [])).entries is) left)
    by (r ∷ p) = refl

nothing_at : (s : Step) (p : Path) (is : List ℕ) → is_part_at (s ∷ p) no_tree is ≡ false
unfolding tree_runs
nothing_at s p is = refl

pub no_part : (u : Tree) (s : Step) (p : Path) (is : List ℕ) → is_empty (subtree u (s ∷ [])) ≡ true → is_part u (at (s ∷ p) is) ≡ false
no_part u s p is none =
    ap (λ (t : Tree). is_part_at (s ∷ p) t is) (subtree_cons u s p ∙ ap (λ (t : Tree). subtree t p) (empty_is (subtree u (s ∷ [])) none) ∙ nothing_under p) ∙ nothing_at s p is

module _ (known : Part → Option ℕ) where
  pub after_below : (u w : Tree) (s : Step) (path p : Path) (is : List ℕ) → subtree u (s ∷ []) ≡ w → is_empty w ≡ false
      → known_after known (s ∷ path) u (at (s ∷ p) is) ≡ known_after (λ part. known (at (s ∷ part.path) part.indexes)) path w (at p is)
  after_below u w s path p is same some =
      ap (λ b. if b && not (touches (at (s ∷ p) is) (s ∷ path)) then known (at (s ∷ p) is) else None) (is_part_below u w s p is same some)
      ∙ ap (λ b. if is_part w (at p is) && not b then known (at (s ∷ p) is) else None) (touches_below s path p is)

  pub after_touched : (path : Path) (u : Tree) (part : Part) → touches part path ≡ true → known_after known path u part ≡ None
  after_touched path u part there = ap (λ b. if is_part u part && not b then known part else None) there ∙ by (is_part u part)
    where
      by : (b : Bool) → (if b && false then known part else None) ≡ None
      by true = refl
      by false = refl

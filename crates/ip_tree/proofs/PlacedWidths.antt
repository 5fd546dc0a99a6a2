-- How many entries directories have after another tree was placed.
--     bytes_narrow      contents have none
--     placed_narrow, placed_wide      by whether there was room for a new entry
use Rattle.std.proofs.Common.{◌≡◌, ℕ, ◌+◌, ◌<◌, ◌≤◌, [], ◌∷◌, ◌++◌, sym, ap, subst, ◌∙◌, length, arith, Option, Some, None, refl, true, false, cond}
use Rattle.std.proofs.lemmas.Bool.{false≢true, leb-true, leb-false}
use Rattle.std.specs.Prelude.{is_some}
use Rattle.std.specs.Cmp.Lexicographic.{nat_list_cmp_total}
use Rattle.std.specs.FinMap.Entries as E
use Rattle.std.specs.FinMap.Entries.{find}
use Rattle.ip_spec.specs.Map.{len}
use Rattle.ip_spec.specs.Path.{Bytes, Step, Path, bytes_cmp, same_bytes}
use Rattle.ip_spec.specs.Step.{entries_limit}
use Rattle.ip_spec.specs.Tree.{Tree, no_tree, contents, subtree, entries_of, place, is_empty}
use Rattle.ip_spec.proofs.Subtrees.{get-subtree, get-contents, get-no_tree, same_tree, narrow_under, subtree_root, same_step, entry_found, entry_lost, empty_is}
use Rattle.ip_tree.specs.Edits.{is_full, full_by}
use Rattle.ip_tree.specs.Narrow.{IsNarrow, IsWide}
use Rattle.ip_spec.proofs.Widths.{root_none_wider}
use Rattle.ip_tree.proofs.PlacedTrees.{place_root, entries_of-place, subtree_place_same, subtree_place_apart}
use Rattle.ip_tree.proofs.Trees.{entries_of_contents, entries_of_nothing}

pub below_bytes : (b : Bytes) (s : Step) (q : Path) → subtree (contents b) (s ∷ q) ≡ no_tree
below_bytes b s q = same_tree _ _ (λ r. get-subtree (contents b) (s ∷ q) r ∙ get-contents b (s ∷ q ++ r) ∙ sym (get-no_tree r))

pub bytes_narrow : (b : Bytes) → IsNarrow (contents b)
bytes_narrow b [] = let none : len (entries_of (subtree (contents b) [])) ≡ 0 = ap (λ (x : Tree). len (entries_of x)) (subtree_root (contents b)) ∙ ap length (entries_of_contents b) in omega arith
bytes_narrow b (s ∷ q) = let none : len (entries_of (subtree (contents b) (s ∷ q))) ≡ 0 = ap (λ (x : Tree). len (entries_of x)) (below_bytes b s q) ∙ ap length entries_of_nothing in omega arith

under_narrow : (t : Tree) (s : Step) → IsNarrow t → IsNarrow (subtree t (s ∷ []))
under_narrow t s narrow q = subst (λ (x : Tree). len (entries_of x) ≤ entries_limit) (sym (narrow_under t s q)) (narrow (s ∷ q))

room_in_nothing : (p : Path) → is_full p no_tree ≡ false
room_in_nothing [] = refl
room_in_nothing (s ∷ p) = ap (λ es. full_by (is_full p) es (find bytes_cmp s es)) entries_of_nothing

-- whether the path goes on through an entry
room_below : (t : Tree) (s : Step) (p : Path) → is_full (s ∷ p) t ≡ false → is_full p (subtree t (s ∷ [])) ≡ false
room_below t s p room = by (find bytes_cmp s (entries_of t).entries) refl room
  where
    by : (o : Option Tree) → find bytes_cmp s (entries_of t).entries ≡ o → full_by (is_full p) (entries_of t).entries o ≡ false → is_full p (subtree t (s ∷ [])) ≡ false
    by (Some inner) found room = ap (is_full p) (sym (entry_found t s inner found).is) ∙ room
    by None lost room = ap (is_full p) (empty_is _ (entry_lost t s lost)) ∙ room_in_nothing p

module _ (sub : Tree) (some : is_empty sub ≡ false) where
  -- the entries of the directory that the path begins in
  new_width : (t : Tree) (s : Step) (p : Path)
      → len (entries_of (subtree (place t (s ∷ p) sub) [])) ≡ cond (is_some (find bytes_cmp s (entries_of t).entries)) (len (entries_of t)) (len (entries_of t) + 1)
  new_width t s p =
      ap (λ (x : Tree). len (entries_of x)) (subtree_root (place t (s ∷ p) sub)) ∙ ap length (entries_of-place t s p sub some)
      ∙ E.length-put bytes_cmp nat_list_cmp_total s (place (subtree t (s ∷ [])) p sub) (entries_of t).entries (entries_of t).sorted

  root_narrow : (t : Tree) (s : Step) (p : Path) → IsNarrow t → is_full (s ∷ p) t ≡ false → len (entries_of (subtree (place t (s ∷ p) sub) [])) ≤ entries_limit
  root_narrow t s p narrow room = subst (λ (n : ℕ). n ≤ entries_limit) (sym (new_width t s p)) (by (find bytes_cmp s (entries_of t).entries) room)
    where
      by : (o : Option Tree) → full_by (is_full p) (entries_of t).entries o ≡ false → cond (is_some o) (len (entries_of t)) (len (entries_of t) + 1) ≤ entries_limit
      by (Some inner) room = root_none_wider entries_limit t narrow
      by None room = let lt = leb-false _ _ room in omega arith

  pub placed_narrow : (t : Tree) (path : Path) → IsNarrow sub → IsNarrow t → is_full path t ≡ false → IsNarrow (place t path sub)
  placed_narrow t [] inner narrow room q = subst (λ (x : Tree). len (entries_of (subtree x q)) ≤ entries_limit) (sym (place_root t sub)) (inner q)
  placed_narrow t (s ∷ p) inner narrow room [] = root_narrow t s p narrow room
  placed_narrow t (s ∷ p) inner narrow room (r ∷ q) =
      elim (same_bytes r s) as (λ x. same_bytes r s ≡ x → len (entries_of (subtree (place t (s ∷ p) sub) (r ∷ q))) ≤ entries_limit) [
        | true ↦ λ x. subst (λ (k : Step). len (entries_of (subtree (place t (s ∷ p) sub) (k ∷ q))) ≤ entries_limit) (sym (same_step r s x))
            (subst (λ (y : Tree). len (entries_of y) ≤ entries_limit) (sym (subtree_place_same t s p q sub)) (placed_narrow (subtree t (s ∷ [])) p inner (under_narrow t s narrow) (room_below t s p room) q))
        | false ↦ λ x. subst (λ (y : Tree). len (entries_of y) ≤ entries_limit) (sym (subtree_place_apart t s r p q sub x)) (narrow (r ∷ q))
      ] refl

  pub placed_wide : (t : Tree) (path : Path) → is_full path t ≡ true → IsWide (place t path sub)
  placed_wide t [] full = absurd (false≢true full)
  placed_wide t (s ∷ p) full =
      elim (find bytes_cmp s (entries_of t).entries) as (λ o. find bytes_cmp s (entries_of t).entries ≡ o → full_by (is_full p) (entries_of t).entries o ≡ true → IsWide (place t (s ∷ p) sub)) [
        | Some inner ↦ λ found full.
            let deep = placed_wide (subtree t (s ∷ [])) p (ap (is_full p) (sym (entry_found t s inner found).is) ∙ full) in
            (s ∷ deep.0, subst (λ (y : Tree). entries_limit < len (entries_of y)) (sym (subtree_place_same t s p deep.0 sub)) deep.1)
        | None ↦ λ lost full.
            let le = leb-true _ _ full in
            let wider : len (entries_of (subtree (place t (s ∷ p) sub) [])) ≡ len (entries_of t) + 1 = new_width t s p ∙ ap (λ o. cond (is_some o) (len (entries_of t)) (len (entries_of t) + 1)) lost in
            ([], omega arith)
      ] refl full

-- The height of a directory by its entries (as in ip_tree's Heights).
--     directory_height      one more than the greatest of its entries, and 0 where there are none
use Rattle.std.proofs.Common.{◌≡◌, ℕ, suc, ◌≤◌, max, List, [], ◌∷◌, sym, ap, subst, ◌∙◌, Some, None, true, false, cond, length, arith}
use Rattle.std.proofs.lemmas.Bool.{false≢true}
use Rattle.std.specs.Prelude.{is_some, IsFalse, fold}
use Rattle.std.specs.Cmp.Lexicographic.{nat_list_cmp_total}
use Rattle.std.specs.FinMap.Entries.{find}
use Rattle.ip_spec.specs.Map.{get}
use Rattle.ip_spec.specs.Path.{Bytes, Step, Path, bytes_cmp, path_cmp, same_bytes}
use Rattle.ip_spec.specs.Tree as Tree
use Rattle.ip_spec.specs.Tree.{Tree, height, subtree, is_contents}
use Rattle.ip_spec.specs.Shape.{Entries, height_of_part}
use Rattle.ip_spec.proofs.TreeLaws.{path_total}
use Rattle.ip_spec.proofs.Subtrees.{get-subtree, get-entries_of, some_not_empty}
use Rattle.ip_spec.proofs.Naming.{Member, here, there, member_found, found_member, entry_height}

-- ---- the paths of a tree

longest : ℕ → List (Path × Bytes) → ℕ
longest a es = fold (λ n e. max n (length e.0)) a es

longest_le : (es : List (Path × Bytes)) (a n : ℕ) → a ≤ n → ((e : Path × Bytes) → Member e es → length e.0 ≤ n) → longest a es ≤ n
unfolding longest
longest_le [] a n le each = le
longest_le (e ∷ es) a n le each = let l = each e here in longest_le es (max a (length e.0)) n (omega arith) (λ x m. each x (there m))

longest_from : (es : List (Path × Bytes)) (a : ℕ) → a ≤ longest a es
unfolding longest
longest_from [] a = omega arith
longest_from (e ∷ es) a = let l = longest_from es (max a (length e.0)) in omega arith

longest_ge : (es : List (Path × Bytes)) (a : ℕ) (e : Path × Bytes) → Member e es → length e.0 ≤ longest a es
unfolding longest
longest_ge [] a x m = elim m [ ]
longest_ge (e ∷ es) a x here = let l = longest_from es (max a (length e.0)) in omega arith
longest_ge (f ∷ es) a e (there m) = longest_ge es (max a (length f.0)) e m

-- no path is longer than the height
pub path_height : (t : Tree) (p : Path) (v : Bytes) → get t p ≡ Some v → length p ≤ height t
unfolding height longest
path_height t p v is = let f = found_member t.entries p v is in subst (λ (q : Path). length q ≤ fold (λ n e. max n (length e.0)) 0 t.entries) (sym f.key) (longest_ge t.entries 0 f.entry f.member)

-- and none is less than the height
pub height_most : (t : Tree) (n : ℕ) → ((p : Path) (v : Bytes) → get t p ≡ Some v → length p ≤ n) → height t ≤ n
unfolding height longest
height_most t n each = longest_le t.entries 0 n (omega arith) (λ e m. each e.0 e.1 (member_found path_cmp path_total t.entries e t.sorted m))

-- ---- by the entries

abbrev pub steps_below : Entries → ℕ → ℕ
steps_below es most = fold (λ n (e : Step × Tree). max n (suc (height e.1))) most es

pub below_from : (es : Entries) (most : ℕ) → most ≤ steps_below es most
below_from [] most = omega arith
below_from (e ∷ es) most = let l = below_from es (max most (suc (height e.1))) in omega arith

pub below_least : (es : Entries) (most n : ℕ) → most ≤ n → ((e : Step × Tree) → Member e es → suc (height e.1) ≤ n) → steps_below es most ≤ n
below_least [] most n le each = le
below_least (e ∷ es) most n le each = let l = each e here in below_least es (max most (suc (height e.1))) n (omega arith) (λ x m. each x (there m))

pub below_found : (es : Entries) (most : ℕ) (s : Step) (sub : Tree) → find bytes_cmp s es ≡ Some sub → suc (height sub) ≤ steps_below es most
below_found [] most s sub found = absurd (false≢true (ap is_some found))
below_found (e ∷ es) most s sub found =
    elim (same_bytes s e.0) as (λ b. cond b (Some e.1) (find bytes_cmp s es) ≡ Some sub → suc (height sub) ≤ steps_below es (max most (suc (height e.1)))) [
      | true ↦ λ found. let same : e.1 ≡ sub = cc in subst (λ (x : Tree). suc (height x) ≤ steps_below es (max most (suc (height e.1)))) same (let l = below_from es (max most (suc (height e.1))) in omega arith)
      | false ↦ λ found. below_found es (max most (suc (height e.1))) s sub found
    ] found

-- the height of a directory is one more than the greatest of its entries, and 0 where there are none
pub directory_height : (t : Tree) → IsFalse (is_contents t) → height t ≡ height_of_part (Tree.entries_of t).entries
directory_height t no_bytes =
    let low : height_of_part (Tree.entries_of t).entries ≤ height t =
    below_least (Tree.entries_of t).entries 0 (height t) (omega arith) (λ e m. entry_height t e.0 e.1 (member_found bytes_cmp nat_list_cmp_total (Tree.entries_of t).entries e (Tree.entries_of t).sorted m)) in
    let high : height t ≤ height_of_part (Tree.entries_of t).entries = height_most t (height_of_part (Tree.entries_of t).entries) each in
    omega arith
  where
    each : (p : Path) (v : Bytes) → get t p ≡ Some v → length p ≤ height_of_part (Tree.entries_of t).entries
    each [] v is = absurd (false≢true (sym no_bytes ∙ ap is_some is))
    each (s ∷ p) v is =
        let inner : get (subtree t (s ∷ [])) p ≡ Some v = get-subtree t (s ∷ []) p ∙ is in
        let some = some_not_empty (subtree t (s ∷ [])) p v inner in
        let found : find bytes_cmp s (Tree.entries_of t).entries ≡ Some (subtree t (s ∷ [])) = get-entries_of t s ∙ ap (λ b. cond b None (Some (subtree t (s ∷ [])))) some in
        let l = path_height (subtree t (s ∷ [])) p v inner in
        let f = below_found (Tree.entries_of t).entries 0 s (subtree t (s ∷ [])) found in omega arith

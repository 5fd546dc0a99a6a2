-- How wide the directories of a tree are: none is wider than the widest.
--     NoneWider n t      no directory of the tree has more entries
--     none_wider, widest_low      the two ways to say it
--     entries_none_wider      nor has one of those under an entry
use Rattle.std.proofs.Common.{◌≡◌, ℕ, ◌≤◌, max, List, [], ◌∷◌, ◌++◌, refl, sym, ap, subst, ◌∙◌, map, length, arith, Some, Bool, true, false, cond}
use Rattle.std.specs.Prelude.{fold}
use Rattle.std.specs.List.{AllByRecursion}
use Rattle.std.specs.Cmp.Lexicographic.{nat_list_cmp_total}
use Rattle.std.specs.Ordering.{is_eq}
use Rattle.std.specs.FinMap.Entries.{find}
use Rattle.ip_spec.specs.Map.{len, get}
use Rattle.ip_spec.specs.Path.{Bytes, Step, Path, bytes_cmp, path_cmp, same_path}
use Rattle.ip_spec.specs.Shape.{Entries}
use Rattle.ip_spec.specs.Tree.{Tree, subtree, entries_of, is_empty, ways, widest}
use Rattle.ip_spec.proofs.Naming.{Member, here, there, member_found}
use Rattle.ip_spec.proofs.Subtrees.{entry_found, get-subtree, same_as, same_itself, step_itself, subtree_root, subtree_cons}

abbrev pub NoneWider : ℕ → Tree → Type 0
NoneWider n t = (p : Path) → len (entries_of (subtree t p)) ≤ n

-- ---- the greatest of some numbers

abbrev greatest : (Path → ℕ) → ℕ → List Path → ℕ
greatest W n ws = fold (λ m w. max m (W w)) n ws

greatest_low : (W : Path → ℕ) (n : ℕ) (ws : List Path) → n ≤ greatest W n ws
greatest_low W n [] = omega arith
greatest_low W n (w ∷ ws) = let h = greatest_low W (max n (W w)) ws in omega arith

greatest_high : (W : Path → ℕ) (k n : ℕ) (ws : List Path) → n ≤ k → ((p : Path) → W p ≤ k) → greatest W n ws ≤ k
greatest_high W k n [] le each = le
greatest_high W k n (w ∷ ws) le each = greatest_high W k (max n (W w)) ws (let h = each w in omega arith) each

greatest_map : (W : Path → ℕ) (s : Step) (n : ℕ) (ws : List Path) → greatest W n (map (λ q. s ∷ q) ws) ≡ greatest (λ q. W (s ∷ q)) n ws
greatest_map W s n [] = refl
greatest_map W s n (w ∷ ws) = greatest_map W s (max n (W (s ∷ w))) ws

-- a proper prefix is on the way
way_low : (W : Path → ℕ) (p : Path) (s : Step) (r : Path) (n : ℕ) → W p ≤ greatest W n (ways (p ++ s ∷ r))
way_low W [] s r n = let h = greatest_low W (max n (W [])) (map (λ q. s ∷ q) (ways r)) in omega arith
way_low W (x ∷ p) s r n =
    subst (λ (m : ℕ). W (x ∷ p) ≤ m) (sym (greatest_map W x (max n (W [])) (ways (p ++ s ∷ r)))) (way_low (λ q. W (x ∷ q)) p s r (max n (W [])))

abbrev over : (Path → ℕ) → ℕ → List (Path × Bytes) → ℕ
over W n es = fold (λ m e. fold (λ k way. max k (W way)) m (ways e.0)) n es

over_low : (W : Path → ℕ) (n : ℕ) (es : List (Path × Bytes)) → n ≤ over W n es
over_low W n [] = omega arith
over_low W n (e ∷ es) = let here = greatest_low W n (ways e.0) in let h = over_low W (greatest W n (ways e.0)) es in omega arith

over_high : (W : Path → ℕ) (k n : ℕ) (es : List (Path × Bytes)) → n ≤ k → ((p : Path) → W p ≤ k) → over W n es ≤ k
over_high W k n [] le each = le
over_high W k n (e ∷ es) le each = over_high W k (greatest W n (ways e.0)) es (greatest_high W k n (ways e.0) le each) each

found_low : (W : Path → ℕ) (p : Path) (s : Step) (r : Path) (b : Bytes) (n : ℕ) (es : List (Path × Bytes)) → find path_cmp (p ++ s ∷ r) es ≡ Some b → W p ≤ over W n es
found_low W p s r b n [] found = absurd cc
found_low W p s r b n (e ∷ es) found =
    elim (same_path (p ++ s ∷ r) e.0) as (λ x. same_path (p ++ s ∷ r) e.0 ≡ x → cond x (Some e.1) (find path_cmp (p ++ s ∷ r) es) ≡ Some b → W p ≤ over W (greatest W n (ways e.0)) es) [
      | true ↦ λ x found.
          let near : W p ≤ greatest W n (ways e.0) = subst (λ (q : Path). W p ≤ greatest W n (ways q)) (same_as _ e.0 x) (way_low W p s r n) in
          let h = over_low W (greatest W n (ways e.0)) es in omega arith
      | false ↦ λ x found. found_low W p s r b (greatest W n (ways e.0)) es found
    ] refl found

-- ---- directories

width : Tree → Path → ℕ
width t p = len (entries_of (subtree t p))

record Somewhere (t : Tree) : Type 0 where
  path : Path
  bytes : Bytes
  is : get t path ≡ Some bytes

somewhere : (t : Tree) → is_empty t ≡ false → Somewhere t
somewhere t some = elim t.entries as (λ es. t.entries ≡ es → ◌≡◌ {A = Bool} (elim es [ [] ↦ true | _ ∷ _ ↦ false ]) false → Somewhere t) [
  | [] ↦ λ is none. absurd cc
  | e ∷ es ↦ λ is none. record { path = e.0; bytes = e.1; is = ap (find path_cmp e.0) is ∙ ap (λ b. cond b (Some e.1) (find path_cmp e.0 es)) (same_itself e.0) }
] refl some

first_found : (e : Step × Tree) (es : Entries) → find bytes_cmp e.0 (e ∷ es) ≡ Some e.1
first_found e es = ap (λ o. cond (is_eq o) (Some e.1) (find bytes_cmp e.0 es)) (step_itself e.0)

width_low : (t : Tree) (p : Path) → width t p ≤ widest t
unfolding widest width
width_low t p = elim (entries_of (subtree t p)).entries as (λ es. (entries_of (subtree t p)).entries ≡ es → width t p ≤ widest t) [
  | [] ↦ λ is. let none : width t p ≡ 0 = ap length is in omega arith
  | e ∷ es ↦ λ is.
      let entry = entry_found (subtree t p) e.0 e.1 (ap (find bytes_cmp e.0) is ∙ first_found e es) in
      let deep = somewhere (subtree (subtree t p) (e.0 ∷ [])) entry.some in
      found_low (width t) p e.0 deep.path deep.bytes 0 t.entries
      (sym (get-subtree t p (e.0 ∷ deep.path)) ∙ sym (get-subtree (subtree t p) (e.0 ∷ []) deep.path) ∙ deep.is)
] refl

pub none_wider : (t : Tree) → NoneWider (widest t) t
unfolding width
none_wider t p = width_low t p

pub widest_low : (n : ℕ) (t : Tree) → NoneWider n t → widest t ≤ n
unfolding widest
widest_low n t low = over_high (λ p. len (entries_of (subtree t p))) n 0 t.entries (omega arith) low

pub root_none_wider : (n : ℕ) (t : Tree) → NoneWider n t → len (entries_of t) ≤ n
root_none_wider n t low = subst (λ (u : Tree). len (entries_of u) ≤ n) (subtree_root t) (low [])

-- ---- what stands at an entry

below_none_wider : (n : ℕ) (t sub : Tree) (s : Step) → sub ≡ subtree t (s ∷ []) → NoneWider n t → NoneWider n sub
below_none_wider n t sub s is low = subst (NoneWider n) (sym is) (λ p. subst (λ (u : Tree). len (entries_of u) ≤ n) (subtree_cons t s p) (low (s ∷ p)))

some_none_wider : (n : ℕ) (t : Tree) → NoneWider n t → (es : Entries) → ((e : Step × Tree) → Member e es → Member e (entries_of t).entries) → AllByRecursion (λ (e : Step × Tree). NoneWider n e.1) es
some_none_wider n t low [] among = tt
some_none_wider n t low (e ∷ es) among = (
  below_none_wider n t e.1 e.0 (entry_found t e.0 e.1 (member_found bytes_cmp nat_list_cmp_total (entries_of t).entries e (entries_of t).sorted (among e here))).is low,
  some_none_wider n t low es (λ x m. among x (there m)),
)

pub entries_none_wider : (n : ℕ) (t : Tree) → NoneWider n t → AllByRecursion (λ (e : Step × Tree). NoneWider n e.1) (entries_of t).entries
entries_none_wider n t low = some_none_wider n t low (entries_of t).entries (λ e m. m)

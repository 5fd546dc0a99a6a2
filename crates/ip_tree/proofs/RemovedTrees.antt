-- What stands where after a removal, path by path, and the entries that a directory has left.
--     remove_root, remove_nothing      at the root, and where nothing stands
--     remove_directory      it makes no contents of a directory
--     subtree_remove, beside_remove      at the path's first step, and at another one
--     same_removed      what is taken away below a step tells what is taken away
--     left_entries, gone_entries      the entries where something is left at the step, and where nothing is
--     lawful_remove, remove_narrow      a lawful tree stays lawful, and none of its directories gets wider
--     below_entry, below_nothing, below_contents      what stands below an entry, where there is none, and below contents
--     some_entry, empty_directory      a directory is empty exactly where it has no entries
--     front_stands      something stands at each front of a path at which something does
use Rattle.std.proofs.Common.{◌≡◌, ℕ, ◌≤◌, ◌+◌, List, [], ◌∷◌, ◌++◌, refl, sym, ap, subst, ◌∙◌, length, arith, Option, Some, None, Bool, true, false, cond, append_assoc}
use Rattle.std.proofs.lemmas.Bool.{false≢true, ne_eqb}
use Rattle.std.specs.Prelude.{not, ◌&&◌, ◌==◌, is_some, IsFalse, IsSome}
use Rattle.std.specs.Ordering.{is_eq}
use Rattle.std.specs.Cmp.Lexicographic.{nat_list_cmp_total}
use Rattle.std.specs.FinMap.Entries as E
use Rattle.std.specs.FinMap.Entries.{find, length-put, length_without}
use Rattle.ip_spec.specs.Map.{Map, len, get, insert, entries-insert, get-insert, get-retain_keys, retain_keys, same_map}
use Rattle.ip_spec.specs.Map as Map
use Rattle.ip_spec.specs.Path.{Bytes, Step, Path, bytes_cmp, same_bytes, is_prefix}
use Rattle.ip_spec.specs.Step.{entries_limit}
use Rattle.ip_spec.specs.Tree.{Tree, IsTree, contents, no_tree, subtree, is_empty, is_contents, entries_of, remove, tree_runs, widest}
use Rattle.ip_spec.proofs.TreeLaws.{get-remove}
use Rattle.ip_spec.proofs.Subtrees.{empty_gets, empty_is, entry_found, entry_lost, get-contents, get-entries_of, get-no_tree, get-subtree, narrow_under, same_bytes_turned, same_step, same_tree, step_antisymmetric, step_itself, subtree_cons, subtree_root}
use Rattle.ip_shape.specs.Directory.{without}
use Rattle.ip_tree.proofs.Trees.{entries_of_nothing, nothing_under}
use Rattle.ip_tree.proofs.Widest.{narrow_of, widest_of}

-- ---- prefixes

prefix_cons : (s : Step) (p q : Path) → is_prefix (s ∷ p) (s ∷ q) ≡ is_prefix p q
prefix_cons s p q = ap (λ b. b && is_prefix p q) (ap is_eq (step_itself s))

prefix_apart : (s r : Step) (p q : Path) → same_bytes r s ≡ false → is_prefix (s ∷ p) (r ∷ q) ≡ false
prefix_apart s r p q apart = ap (λ b. b && is_prefix p q) (same_bytes_turned s r ∙ apart)

-- a path under p is p and what is left behind it
rest_of : (p q : Path) → is_prefix p q ≡ true → (rest : Path) × (q ≡ p ++ rest)
rest_of [] q e = (q, refl)
rest_of (s ∷ p) [] e = absurd (false≢true e)
rest_of (s ∷ p) (r ∷ q) e =
    elim (same_bytes s r) as (λ b. same_bytes s r ≡ b → (b && is_prefix p q) ≡ true → (rest : Path) × (r ∷ q ≡ (s ∷ p) ++ rest)) [
      | true ↦ λ same e. let deep = rest_of p q e in (deep.0, ap (λ (k : Step). k ∷ q) (sym (same_step s r same)) ∙ ap (λ (x : Path). s ∷ x) deep.1)
      | false ↦ λ same e. absurd (false≢true e)
    ] refl e

-- ---- what is left

pub remove_nothing : (t : Tree) (p : Path) → is_empty (subtree t p) ≡ true → remove t p ≡ t
remove_nothing t p none = same_tree _ _ (λ q. get-remove t p q ∙ by q (is_prefix p q) refl)
  where
    by : (q : Path) (b : Bool) → is_prefix p q ≡ b → cond (not b) (get t q) None ≡ get t q
    by q true e = let r = rest_of p q e in sym (ap (get t) r.1 ∙ sym (get-subtree t p r.0) ∙ empty_gets (subtree t p) r.0 none)
    by q false e = refl

pub remove_root : (t : Tree) → remove t [] ≡ no_tree
remove_root t = same_tree _ _ (λ q. get-remove t [] q ∙ sym (get-no_tree q))

pub no_tree_empty : is_empty no_tree ≡ true
unfolding tree_runs
no_tree_empty = refl

pub remove_directory : (t : Tree) (s : Step) (p : Path) → is_contents (remove t (s ∷ p)) ≡ is_contents t
remove_directory t s p = ap is_some (get-remove t (s ∷ p) [])

remove_empty : (t : Tree) (p : Path) → is_empty t ≡ true → is_empty (remove t p) ≡ true
remove_empty t p none =
    ap is_empty (remove_nothing t p (ap (λ (x : Tree). is_empty (subtree x p)) (empty_is t none) ∙ ap is_empty (nothing_under p) ∙ no_tree_empty)) ∙ none

pub some_left : (t : Tree) (p : Path) → is_empty (remove t p) ≡ false → is_empty t ≡ false
some_left t p some = by (is_empty t) refl
  where
    by : (b : Bool) → is_empty t ≡ b → is_empty t ≡ false
    by true e = absurd (false≢true (sym some ∙ remove_empty t p e))
    by false e = e

-- ---- below a step

-- at the step of the path
pub subtree_remove : (t : Tree) (s : Step) (p : Path) → subtree (remove t (s ∷ p)) (s ∷ []) ≡ remove (subtree t (s ∷ [])) p
subtree_remove t s p = same_tree _ _ (λ q.
    get-subtree (remove t (s ∷ p)) (s ∷ []) q ∙ get-remove t (s ∷ p) (s ∷ q)
    ∙ ap (λ b. cond (not b) (get t (s ∷ q)) None) (prefix_cons s p q)
    ∙ ap (λ o. cond (not (is_prefix p q)) o None) (sym (get-subtree t (s ∷ []) q))
    ∙ sym (get-remove (subtree t (s ∷ [])) p q))

-- at another step
get_beside : (t : Tree) (s r : Step) (p q : Path) → same_bytes r s ≡ false → get (remove t (s ∷ p)) (r ∷ q) ≡ get t (r ∷ q)
get_beside t s r p q apart = get-remove t (s ∷ p) (r ∷ q) ∙ ap (λ b. cond (not b) (get t (r ∷ q)) None) (prefix_apart s r p q apart)

subtree_remove_apart : (t : Tree) (s r : Step) (p : Path) → same_bytes r s ≡ false → subtree (remove t (s ∷ p)) (r ∷ []) ≡ subtree t (r ∷ [])
subtree_remove_apart t s r p apart = same_tree _ _ (λ q. get-subtree (remove t (s ∷ p)) (r ∷ []) q ∙ get_beside t s r p q apart ∙ sym (get-subtree t (r ∷ []) q))

under_remove : (t : Tree) (s : Step) (p q : Path) → subtree (remove t (s ∷ p)) (s ∷ q) ≡ subtree (remove (subtree t (s ∷ [])) p) q
under_remove t s p q = subtree_cons (remove t (s ∷ p)) s q ∙ ap (λ (x : Tree). subtree x q) (subtree_remove t s p)

pub beside_remove : (t : Tree) (s r : Step) (p q : Path) → same_bytes r s ≡ false → subtree (remove t (s ∷ p)) (r ∷ q) ≡ subtree t (r ∷ q)
beside_remove t s r p q apart = subtree_cons (remove t (s ∷ p)) r q ∙ ap (λ (x : Tree). subtree x q) (subtree_remove_apart t s r p apart) ∙ narrow_under t r q

pub same_removed : (t : Tree) (s : Step) (p q : Path) → remove (subtree t (s ∷ [])) p ≡ remove (subtree t (s ∷ [])) q → remove t (s ∷ p) ≡ remove t (s ∷ q)
same_removed t s p q same = same_tree _ _ (λ r. by r)
  where
    below : (r : Step) (rest : Path) (b : Bool) → same_bytes r s ≡ b → get (remove t (s ∷ p)) (r ∷ rest) ≡ get (remove t (s ∷ q)) (r ∷ rest)
    below r rest true e = ap (λ (k : Step). get (remove t (s ∷ p)) (k ∷ rest)) (same_step r s e)
        ∙ sym (get-subtree (remove t (s ∷ p)) (s ∷ []) rest) ∙ ap (λ (x : Tree). get x rest) (subtree_remove t s p ∙ same ∙ sym (subtree_remove t s q)) ∙ get-subtree (remove t (s ∷ q)) (s ∷ []) rest
        ∙ sym (ap (λ (k : Step). get (remove t (s ∷ q)) (k ∷ rest)) (same_step r s e))
    below r rest false e = get_beside t s r p rest e ∙ sym (get_beside t s r q rest e)

    by : (r : Path) → get (remove t (s ∷ p)) r ≡ get (remove t (s ∷ q)) r
    by [] = get-remove t (s ∷ p) [] ∙ sym (get-remove t (s ∷ q) [])
    by (r ∷ rest) = below r rest (same_bytes r s) refl

-- ---- the entries after a removal

entries-without : (m : Map bytes_cmp Tree) (s : Step) → (Map.remove m s).entries ≡ without s m.entries
unfolding retain_keys
entries-without m s = refl

get-without : (m : Map bytes_cmp Tree) (s r : Step) → get (Map.remove m s) r ≡ cond (not (same_bytes s r)) (get m r) None
get-without m s r = get-retain_keys nat_list_cmp_total m (λ k. not (same_bytes s k)) r (λ x e. ap (λ k. not (same_bytes s k)) (sym (step_antisymmetric r x e)))

module _ (t : Tree) (s : Step) (p : Path) where
  abbrev stands_at : Tree → Step → Option Tree
  stands_at x r = cond (is_empty (subtree x (r ∷ []))) None (Some (subtree x (r ∷ [])))

  -- something is left at the step
  pub left_entries : is_empty (remove (subtree t (s ∷ [])) p) ≡ false → (entries_of (remove t (s ∷ p))).entries ≡ E.put bytes_cmp s (remove (subtree t (s ∷ [])) p) (entries_of t).entries
  left_entries some =
      ap (λ (m : Map bytes_cmp Tree). m.entries) (same_map nat_list_cmp_total step_antisymmetric (entries_of (remove t (s ∷ p))) (insert (entries_of t) s (remove (subtree t (s ∷ [])) p)) alike)
      ∙ entries-insert nat_list_cmp_total (entries_of t) s (remove (subtree t (s ∷ [])) p)
    where
      at : (r : Step) (x : Bool) → same_bytes r s ≡ x → stands_at (remove t (s ∷ p)) r ≡ cond x (Some (remove (subtree t (s ∷ [])) p)) (get (entries_of t) r)
      at r true e =
          ap (λ (k : Step). stands_at (remove t (s ∷ p)) k) (same_step r s e)
          ∙ ap (λ (x : Tree). cond (is_empty x) None (Some x)) (subtree_remove t s p)
          ∙ ap (λ y. cond y None (Some (remove (subtree t (s ∷ [])) p))) some
      at r false e = ap (λ (x : Tree). cond (is_empty x) None (Some x)) (subtree_remove_apart t s r p e) ∙ sym (get-entries_of t r)

      alike : (r : Step) → get (entries_of (remove t (s ∷ p))) r ≡ get (insert (entries_of t) s (remove (subtree t (s ∷ [])) p)) r
      alike r = get-entries_of (remove t (s ∷ p)) r ∙ at r (same_bytes r s) refl ∙ sym (get-insert nat_list_cmp_total (entries_of t) s (remove (subtree t (s ∷ [])) p) r)

  -- nothing is left there
  pub gone_entries : is_empty (remove (subtree t (s ∷ [])) p) ≡ true → (entries_of (remove t (s ∷ p))).entries ≡ without s (entries_of t).entries
  gone_entries none =
      ap (λ (m : Map bytes_cmp Tree). m.entries) (same_map nat_list_cmp_total step_antisymmetric (entries_of (remove t (s ∷ p))) (Map.remove (entries_of t) s) alike)
      ∙ entries-without (entries_of t) s
    where
      at : (r : Step) (x : Bool) → same_bytes r s ≡ x → stands_at (remove t (s ∷ p)) r ≡ cond (not x) (get (entries_of t) r) None
      at r true e =
          ap (λ (k : Step). stands_at (remove t (s ∷ p)) k) (same_step r s e)
          ∙ ap (λ (x : Tree). cond (is_empty x) None (Some x)) (subtree_remove t s p)
          ∙ ap (λ y. cond y None (Some (remove (subtree t (s ∷ [])) p))) none
      at r false e = ap (λ (x : Tree). cond (is_empty x) None (Some x)) (subtree_remove_apart t s r p e) ∙ sym (get-entries_of t r)

      alike : (r : Step) → get (entries_of (remove t (s ∷ p))) r ≡ get (Map.remove (entries_of t) s) r
      alike r = get-entries_of (remove t (s ∷ p)) r ∙ at r (same_bytes r s) refl ∙ sym (get-without (entries_of t) s r ∙ ap (λ b. cond (not b) (get (entries_of t) r) None) (same_bytes_turned s r))

-- ---- a lawful tree stays lawful

was_there : (t : Tree) (p q : Path) → IsSome (get (remove t p) q) → IsSome (get t q)
was_there t p q some = by (is_prefix p q) (sym (ap is_some (get-remove t p q)) ∙ some)
  where
    by : (b : Bool) → is_some (cond (not b) (get t q) None) ≡ true → IsSome (get t q)
    by true h = absurd (false≢true h)
    by false h = h

pub lawful_remove : (t : Tree) (path : Path) → IsTree t → IsTree (remove t path)
lawful_remove t path lawful = record {
  prefix_free = λ p q a b prefix. lawful.prefix_free p q (was_there t path p a) (was_there t path q b) prefix;
  paths = λ p a. lawful.paths p (was_there t path p a);
}

-- ---- no directory gets more entries

gone : (n m : ℕ) (b : Bool) → cond b 1 0 + n ≡ m → n ≤ m
gone n m true e = omega arith
gone n m false e = omega arith

fewer_here : (t : Tree) (s : Step) (p : Path) → len (entries_of (remove t (s ∷ p))) ≤ len (entries_of t)
fewer_here t s p = by (is_empty (remove (subtree t (s ∷ [])) p)) refl
  where
    by : (b : Bool) → is_empty (remove (subtree t (s ∷ [])) p) ≡ b → len (entries_of (remove t (s ∷ p))) ≤ len (entries_of t)
    by true e =
        let count = length_without bytes_cmp nat_list_cmp_total s (entries_of t).entries (entries_of t).sorted in
        subst (λ (es : List (Step × Tree)). length es ≤ len (entries_of t)) (sym (gone_entries t s p e)) (gone _ _ _ count)
    by false e =
        let here : get (entries_of t) s ≡ Some (subtree t (s ∷ [])) = get-entries_of t s ∙ ap (λ y. cond y None (Some (subtree t (s ∷ [])))) (some_left _ p e) in
        let count : length (E.put bytes_cmp s (remove (subtree t (s ∷ [])) p) (entries_of t).entries) ≡ len (entries_of t) =
        length-put bytes_cmp nat_list_cmp_total s (remove (subtree t (s ∷ [])) p) (entries_of t).entries (entries_of t).sorted ∙ ap (λ (o : Option Tree). cond (is_some o) (len (entries_of t)) (len (entries_of t) + 1)) here in
        subst (λ (es : List (Step × Tree)). length es ≤ len (entries_of t)) (sym (left_entries t s p e)) (subst (λ (n : ℕ). n ≤ len (entries_of t)) (sym count) (omega arith))

fewer : (t : Tree) (p q : Path) → len (entries_of (subtree (remove t p) q)) ≤ len (entries_of (subtree t q))
fewer t [] q =
    subst (λ (n : ℕ). n ≤ len (entries_of (subtree t q))) (sym (ap (λ (x : Tree). len (entries_of (subtree x q))) (remove_root t) ∙ ap (λ (x : Tree). len (entries_of x)) (nothing_under q) ∙ ap length entries_of_nothing)) (omega arith)
fewer t (s ∷ p) [] =
    subst (λ (n : ℕ). n ≤ len (entries_of (subtree t []))) (sym (ap (λ (x : Tree). len (entries_of x)) (subtree_root (remove t (s ∷ p)))))
    (subst (λ (x : Tree). len (entries_of (remove t (s ∷ p))) ≤ len (entries_of x)) (sym (subtree_root t)) (fewer_here t s p))
fewer t (s ∷ p) (r ∷ q) =
    elim (same_bytes r s) as (λ x. same_bytes r s ≡ x → len (entries_of (subtree (remove t (s ∷ p)) (r ∷ q))) ≤ len (entries_of (subtree t (r ∷ q)))) [
      | true ↦ λ x. subst (λ (k : Step). len (entries_of (subtree (remove t (s ∷ p)) (k ∷ q))) ≤ len (entries_of (subtree t (k ∷ q)))) (sym (same_step r s x))
          (subst (λ (y : Tree). len (entries_of y) ≤ len (entries_of (subtree t (s ∷ q)))) (sym (under_remove t s p q))
          (subst (λ (y : Tree). len (entries_of (subtree (remove (subtree t (s ∷ [])) p) q)) ≤ len (entries_of y)) (narrow_under t s q) (fewer (subtree t (s ∷ [])) p q)))
      | false ↦ λ x. subst (λ (y : Tree). len (entries_of y) ≤ len (entries_of (subtree t (r ∷ q)))) (sym (beside_remove t s r p q x)) (omega arith)
    ] refl

pub remove_narrow : (t : Tree) (path : Path) → widest t ≤ entries_limit → widest (remove t path) ≤ entries_limit
remove_narrow t path narrow = widest_of (remove t path) (λ q. let less = fewer t path q in let whole = narrow_of t narrow q in omega arith)

-- ---- trees with and without entries

pub below_entry : (t : Tree) (s : Step) (p : Path) (sub : Tree) → find bytes_cmp s (entries_of t).entries ≡ Some sub → is_empty (subtree t (s ∷ p)) ≡ is_empty (subtree sub p)
below_entry t s p sub found = ap is_empty (subtree_cons t s p ∙ ap (λ (x : Tree). subtree x p) (sym (entry_found t s sub found).is))

pub below_nothing : (t : Tree) (s : Step) (p : Path) → find bytes_cmp s (entries_of t).entries ≡ None → is_empty (subtree t (s ∷ p)) ≡ true
below_nothing t s p lost =
    ap is_empty (subtree_cons t s p) ∙ ap (λ (x : Tree). is_empty (subtree x p)) (empty_is (subtree t (s ∷ [])) (entry_lost t s lost)) ∙ ap is_empty (nothing_under p) ∙ no_tree_empty

pub below_contents : (b : Bytes) (s : Step) (p : Path) → is_empty (subtree (contents b) (s ∷ p)) ≡ true
below_contents b s p = ap is_empty (same_tree (subtree (contents b) (s ∷ p)) no_tree (λ r. get-subtree (contents b) (s ∷ p) r ∙ get-contents b (s ∷ p ++ r) ∙ sym (get-no_tree r))) ∙ no_tree_empty

no_entries_empty : (t : Tree) → IsFalse (is_contents t) → (entries_of t).entries ≡ [] → is_empty t ≡ true
no_entries_empty t no_bytes none = ap is_empty (same_tree t no_tree (λ q. by q ∙ sym (get-no_tree q))) ∙ no_tree_empty
  where
    no_value : (o : Option Bytes) → is_some o ≡ false → o ≡ None
    no_value None e = refl
    no_value (Some b) e = absurd (false≢true (sym e))

    by : (q : Path) → get t q ≡ None
    by [] = no_value (get t []) no_bytes
    by (s ∷ q) = sym (get-subtree t (s ∷ []) q) ∙ empty_gets (subtree t (s ∷ [])) q (entry_lost t s (ap (find bytes_cmp s) none))

pub some_entry : (t : Tree) (s : Step) (sub : Tree) → find bytes_cmp s (entries_of t).entries ≡ Some sub → is_empty t ≡ false
some_entry t s sub found = by (is_empty t) refl
  where
    by : (b : Bool) → is_empty t ≡ b → is_empty t ≡ false
    by true e = absurd (false≢true (sym (entry_found t s sub found).some ∙ ap (λ (x : Tree). is_empty (subtree x (s ∷ []))) (empty_is t e) ∙ ap is_empty (nothing_under (s ∷ [])) ∙ no_tree_empty))
    by false e = e

pub empty_directory : (t : Tree) → IsFalse (is_contents t) → is_empty t ≡ (length (entries_of t).entries == 0)
empty_directory t no_bytes = by (entries_of t).entries refl
  where
    by : (es : List (Step × Tree)) → (entries_of t).entries ≡ es → is_empty t ≡ (length es == 0)
    by [] is = no_entries_empty t no_bytes is
    by (e ∷ es) is =
        some_entry t e.0 e.1 (ap (find bytes_cmp e.0) is ∙ ap (λ o. cond (is_eq o) (Some e.1) (find bytes_cmp e.0 es)) (step_itself e.0))
        ∙ sym (ne_eqb (length (e ∷ es)) 0 (λ none. absurd (omega (arith, none))))

-- ---- what stands at a front of a path

subtree_append : (t : Tree) (p q : Path) → subtree t (p ++ q) ≡ subtree (subtree t p) q
subtree_append t p q = same_tree _ _ (λ r.
    get-subtree t (p ++ q) r ∙ ap (get t) (append_assoc p q r) ∙ sym (get-subtree t p (q ++ r)) ∙ sym (get-subtree (subtree t p) q r))

-- something does, where something stands at the path
pub front_stands : (t : Tree) (p q : Path) → is_empty (subtree t (p ++ q)) ≡ false → is_empty (subtree t p) ≡ false
front_stands t p q some = by (is_empty (subtree t p)) refl
  where
    by : (b : Bool) → is_empty (subtree t p) ≡ b → is_empty (subtree t p) ≡ false
    by true e = absurd (false≢true (sym some ∙ ap is_empty (subtree_append t p q ∙ ap (λ (x : Tree). subtree x q) (empty_is (subtree t p) e) ∙ nothing_under q) ∙ no_tree_empty))
    by false e = e

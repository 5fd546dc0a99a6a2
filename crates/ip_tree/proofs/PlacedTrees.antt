-- What placing a tree in another does to what stands at paths, and to the entries of a directory.
--     split      a path is another and what is left behind it, or does not begin with it
--     get-placed, subtree_place_same, subtree_place_apart      what stands where
--     entries_of-place      the entries of the directory that the path begins in
--     something      something stands in what is not empty
use Rattle.std.proofs.Common.{◌≡◌, List, [], ◌∷◌, ◌++◌, refl, sym, ap, ◌∙◌, Option, Some, None, Bool, true, false, cond}
use Rattle.std.proofs.lemmas.Bool.{false≢true}
use Rattle.std.specs.Prelude.{not, ◌||◌, ◌&&◌, is_some, IsFalse}
use Rattle.std.specs.Ordering.{is_eq}
use Rattle.std.specs.Cmp.Lexicographic.{nat_list_cmp_total}
use Rattle.std.specs.FinMap.Entries as E
use Rattle.std.specs.FinMap.Entries.{find}
use Rattle.ip_spec.specs.Map.{Map, get, insert, get-insert, entries-insert, same_map}
use Rattle.ip_spec.specs.Path.{Bytes, Step, Path, bytes_cmp, path_cmp, same_bytes, is_prefix, is_related, after_prefix}
use Rattle.ip_spec.specs.Tree.{Tree, no_tree, contents, subtree, place, entries_of, is_contents, is_empty}
use Rattle.ip_tree.specs.Placing.{behind_or}
use Rattle.ip_spec.proofs.GraftLaws.{get-place, get-beside}
use Rattle.ip_spec.proofs.Subtrees.{step_itself, path_itself, same_step, step_antisymmetric, same_bytes_turned, get-subtree, get-entries_of, get-contents, get-no_tree, same_tree, some_not_empty, subtree_cons}

-- ---- paths

-- a path is another and what is left behind it, or does not begin with it
abbrev pub IsSplit : Path → Path → Option Path → Type 0
IsSplit p q None = is_prefix p q ≡ false
IsSplit p q (Some rest) = q ≡ p ++ rest

pub split : (p q : Path) → IsSplit p q (after_prefix p q)
split [] q = refl
split (s ∷ p) [] = refl
split (s ∷ p) (r ∷ q) =
    elim (same_bytes s r) as (λ b. same_bytes s r ≡ b → IsSplit (s ∷ p) (r ∷ q) (cond b (after_prefix p q) None)) [
      | true ↦ λ e. deeper (after_prefix p q) e (split p q)
      | false ↦ λ e. ap (λ b. b && is_prefix p q) e
    ] refl
  where
    deeper : (o : Option Path) → same_bytes s r ≡ true → IsSplit p q o → IsSplit (s ∷ p) (r ∷ q) o
    deeper (Some rest) e h = ap (λ (x : Step). x ∷ q) (sym (same_step s r e)) ∙ ap (λ (x : Path). s ∷ x) h
    deeper None e h = ap (λ b. b && is_prefix p q) e ∙ h

pub itself : (s : Step) → same_bytes s s ≡ true
itself s = ap is_eq (step_itself s)

pub after_cons : (s : Step) (p q : Path) → after_prefix (s ∷ p) (s ∷ q) ≡ after_prefix p q
after_cons s p q = ap (λ b. cond b (after_prefix p q) None) (itself s)

pub related_cons : (s : Step) (p q : Path) → is_related (s ∷ p) (s ∷ q) ≡ is_related p q
related_cons s p q = ap (λ b. b && is_prefix p q || b && is_prefix q p) (itself s)

pub unrelated : (s r : Step) (p q : Path) → same_bytes r s ≡ false → is_related (s ∷ p) (r ∷ q) ≡ false
unrelated s r p q e = ap (λ b. b && is_prefix p q || same_bytes r s && is_prefix q p) (same_bytes_turned s r ∙ e) ∙ ap (λ b. b && is_prefix q p) e

pub after_apart : (s r : Step) (p q : Path) → same_bytes r s ≡ false → after_prefix (s ∷ p) (r ∷ q) ≡ None
after_apart s r p q e = ap (λ b. cond b (after_prefix p q) None) (same_bytes_turned s r ∙ e)

-- ---- what stands where

-- where it does not lie behind the path, what is related to the path goes
abbrev pub stays : Tree → Path → Path → Option Bytes
stays t path q = cond (is_related path q) None (get t q)

pub get-placed : (t : Tree) (path : Path) (sub : Tree) (q : Path) → get (place t path sub) q ≡ behind_or (get sub) (after_prefix path q) (stays t path q)
get-placed t path sub q = by (after_prefix path q) (split path q)
  where
    turned : (b : Bool) (o : Option Bytes) → cond (not b) o None ≡ cond b None o
    turned true o = refl
    turned false o = refl

    by : (o : Option Path) → IsSplit path q o → get (place t path sub) q ≡ behind_or (get sub) o (stays t path q)
    by (Some rest) is = ap (get (place t path sub)) is ∙ get-place t path sub rest
    by None apart = get-beside t path sub q apart ∙ turned (is_related path q) (get t q)

pub place_root : (t sub : Tree) → place t [] sub ≡ sub
place_root t sub = same_tree _ _ (λ q. get-place t [] sub q)

-- at the step of the path
pub subtree_place : (t : Tree) (s : Step) (p : Path) (sub : Tree) → subtree (place t (s ∷ p) sub) (s ∷ []) ≡ place (subtree t (s ∷ [])) p sub
subtree_place t s p sub = same_tree _ _ (λ q.
    get-subtree (place t (s ∷ p) sub) (s ∷ []) q ∙ get-placed t (s ∷ p) sub (s ∷ q)
    ∙ ap (λ o. behind_or (get sub) o (stays t (s ∷ p) (s ∷ q))) (after_cons s p q)
    ∙ ap (λ b. behind_or (get sub) (after_prefix p q) (cond b None (get t (s ∷ q)))) (related_cons s p q)
    ∙ ap (λ o. behind_or (get sub) (after_prefix p q) (cond (is_related p q) None o)) (sym (get-subtree t (s ∷ []) q))
    ∙ sym (get-placed (subtree t (s ∷ [])) p sub q))

-- at another step
subtree_apart : (t : Tree) (s r : Step) (p : Path) (sub : Tree) → same_bytes r s ≡ false → subtree (place t (s ∷ p) sub) (r ∷ []) ≡ subtree t (r ∷ [])
subtree_apart t s r p sub e = same_tree _ _ (λ q.
    get-subtree (place t (s ∷ p) sub) (r ∷ []) q ∙ get-placed t (s ∷ p) sub (r ∷ q)
    ∙ ap (λ o. behind_or (get sub) o (stays t (s ∷ p) (r ∷ q))) (after_apart s r p q e)
    ∙ ap (λ b. cond b None (get t (r ∷ q))) (unrelated s r p q e)
    ∙ sym (get-subtree t (r ∷ []) q))

-- ---- something stands there

pub record Something (t : Tree) : Type 0 where
  pub path : Path
  pub bytes : Bytes
  pub here : get t path ≡ Some bytes

pub something : (t : Tree) → is_empty t ≡ false → Something t
something t some = by t.entries refl some
  where
    by : (es : List (Path × Bytes)) → t.entries ≡ es → (elim es [ [] ↦ true | _ ∷ _ ↦ false ]) ≡ false → Something t
    by [] is h = absurd (false≢true (sym h))
    by (e ∷ es) is h = record { path = e.0; bytes = e.1; here = ap (find path_cmp e.0) is ∙ ap (λ r. cond (is_eq r) (Some e.1) (find path_cmp e.0 es)) (path_itself e.0) }

pub place_not_empty : (t : Tree) (p : Path) (sub : Tree) → is_empty sub ≡ false → IsFalse (is_empty (place t p sub))
place_not_empty t p sub some = let s = something sub some in some_not_empty (place t p sub) (p ++ s.path) s.bytes (get-place t p sub s.path ∙ s.here)

pub place_directory : (t : Tree) (s : Step) (p : Path) (sub : Tree) → IsFalse (is_contents (place t (s ∷ p) sub))
place_directory t s p sub = ap is_some (get-placed t (s ∷ p) sub [])

-- nothing of contents stays under a path
pub place_over_contents : (c : Bytes) (s : Step) (p : Path) (sub : Tree) → place (contents c) (s ∷ p) sub ≡ place no_tree (s ∷ p) sub
place_over_contents c s p sub = same_tree _ _ (λ q. get-placed (contents c) (s ∷ p) sub q ∙ same q ∙ sym (get-placed no_tree (s ∷ p) sub q))
  where
    same : (q : Path) → behind_or (get sub) (after_prefix (s ∷ p) q) (stays (contents c) (s ∷ p) q) ≡ behind_or (get sub) (after_prefix (s ∷ p) q) (stays no_tree (s ∷ p) q)
    same [] = refl
    same (r ∷ q) = ap (λ o. behind_or (get sub) (after_prefix (s ∷ p) (r ∷ q)) (cond (is_related (s ∷ p) (r ∷ q)) None o)) (get-contents c (r ∷ q) ∙ sym (get-no_tree (r ∷ q)))

-- ---- the entries

pub entries_of-place : (t : Tree) (s : Step) (p : Path) (sub : Tree) → is_empty sub ≡ false
    → (entries_of (place t (s ∷ p) sub)).entries ≡ E.put bytes_cmp s (place (subtree t (s ∷ [])) p sub) (entries_of t).entries
entries_of-place t s p sub some =
    ap (λ (m : Map bytes_cmp Tree). m.entries) (same_map nat_list_cmp_total step_antisymmetric (entries_of (place t (s ∷ p) sub)) (insert (entries_of t) s (place (subtree t (s ∷ [])) p sub)) alike)
    ∙ entries-insert nat_list_cmp_total (entries_of t) s (place (subtree t (s ∷ [])) p sub)
  where
    at : (r : Step) (x : Bool) → same_bytes r s ≡ x → cond (is_empty (subtree (place t (s ∷ p) sub) (r ∷ []))) None (Some (subtree (place t (s ∷ p) sub) (r ∷ []))) ≡ cond x (Some (place (subtree t (s ∷ [])) p sub)) (get (entries_of t) r)
    at r true e =
        ap (λ (k : Step). cond (is_empty (subtree (place t (s ∷ p) sub) (k ∷ []))) None (Some (subtree (place t (s ∷ p) sub) (k ∷ [])))) (same_step r s e)
        ∙ ap (λ (x : Tree). cond (is_empty x) None (Some x)) (subtree_place t s p sub)
        ∙ ap (λ y. cond y None (Some (place (subtree t (s ∷ [])) p sub))) (place_not_empty (subtree t (s ∷ [])) p sub some)
    at r false e = ap (λ (x : Tree). cond (is_empty x) None (Some x)) (subtree_apart t s r p sub e) ∙ sym (get-entries_of t r)

    alike : (r : Step) → get (entries_of (place t (s ∷ p) sub)) r ≡ get (insert (entries_of t) s (place (subtree t (s ∷ [])) p sub)) r
    alike r = get-entries_of (place t (s ∷ p) sub) r ∙ at r (same_bytes r s) refl ∙ sym (get-insert nat_list_cmp_total (entries_of t) s (place (subtree t (s ∷ [])) p sub) r)

-- ---- at all paths

pub subtree_place_same : (t : Tree) (s : Step) (p q : Path) (sub : Tree) → subtree (place t (s ∷ p) sub) (s ∷ q) ≡ subtree (place (subtree t (s ∷ [])) p sub) q
subtree_place_same t s p q sub = subtree_cons (place t (s ∷ p) sub) s q ∙ ap (λ (x : Tree). subtree x q) (subtree_place t s p sub)

pub subtree_place_apart : (t : Tree) (s r : Step) (p q : Path) (sub : Tree) → same_bytes r s ≡ false → subtree (place t (s ∷ p) sub) (r ∷ q) ≡ subtree t (r ∷ q)
subtree_place_apart t s r p q sub e = subtree_cons (place t (s ∷ p) sub) r q ∙ ap (λ (x : Tree). subtree x q) (subtree_apart t s r p sub e) ∙ sym (subtree_cons t r q)

-- what is placed, from any of its paths on
pub subtree_placed : (t : Tree) (path rest : Path) (sub : Tree) → subtree (place t path sub) (path ++ rest) ≡ subtree sub rest
subtree_placed t [] rest sub = ap (λ (x : Tree). subtree x rest) (place_root t sub)
subtree_placed t (s ∷ path) rest sub = subtree_place_same t s path (path ++ rest) sub ∙ subtree_placed (subtree t (s ∷ [])) path rest sub

-- A lawful tree in which another was placed is lawful.
--     lawful_place      where the other one is, and its paths behind the path are paths
--     lawful_graft      where the steps of both are few enough
use Rattle.std.proofs.Common.{◌≡◌, ◌+◌, ◌≤◌, [], ◌∷◌, ◌++◌, refl, sym, ap, subst, ◌∙◌, Option, Some, None, Bool, true, false, cond, length, arith}
use Rattle.std.proofs.lemmas.Bool.{false≢true}
use Rattle.std.proofs.lemmas.List.{length-append}
use Rattle.std.proofs.lemmas.List.Elements.{All-append, All-tail}
use Rattle.std.specs.Prelude.{◌||◌, ◌&&◌, is_some, IsSome, IsTrue, All}
use Rattle.ip_base.specs.PathText.{IsStep}
use Rattle.ip_spec.specs.Map.{get}
use Rattle.ip_spec.specs.Path.{Bytes, Step, Path, same_bytes, is_prefix, is_related, after_prefix, IsPath}
use Rattle.ip_spec.specs.Tree.{Tree, IsTree, IsPrefixFree, subtree, place, graft, height}
use Rattle.ip_spec.proofs.Subtrees.{get-subtree, same_step}
use Rattle.ip_tree.specs.Placing.{behind_or}
use Rattle.ip_tree.proofs.TreeHeights.{path_height}
use Rattle.ip_tree.proofs.PlacedTrees.{IsSplit, split, itself, related_cons, get-placed, stays}

-- ---- paths

prefix_behind : (path p q : Path) → is_prefix (path ++ p) (path ++ q) ≡ true → is_prefix p q ≡ true
prefix_behind [] p q e = e
prefix_behind (s ∷ path) p q e = prefix_behind path p q (both_second (same_bytes s s) (is_prefix (path ++ p) (path ++ q)) e)
  where
    both_second : (a b : Bool) → (a && b) ≡ true → b ≡ true
    both_second true b e = e
    both_second false b e = absurd (false≢true e)

-- a prefix of what lies behind a path is related to the path
prefix_related : (p path q : Path) → is_prefix p (path ++ q) ≡ true → is_related path p ≡ true
prefix_related [] path q e = either (is_prefix path [])
  where
    either : (b : Bool) → (b || true) ≡ true
    either true = refl
    either false = refl
prefix_related (s ∷ p) [] q e = refl
prefix_related (s ∷ p) (r ∷ path) q e =
    elim (same_bytes s r) as (λ b. same_bytes s r ≡ b → (b && is_prefix p (path ++ q)) ≡ true → is_related (r ∷ path) (s ∷ p) ≡ true) [
      | true ↦ λ same h. ap (λ (k : Step). is_related (r ∷ path) (k ∷ p)) (same_step s r same) ∙ related_cons r path p ∙ prefix_related p path q h
      | false ↦ λ same h. absurd (false≢true h)
    ] refl e

or_left : (a b : Bool) → a ≡ true → (a || b) ≡ true
or_left true b e = refl
or_left false b e = absurd (false≢true e)

-- ---- a lawful tree stays lawful

-- what stands at a path was placed there, or stood there before
data Stands (t : Tree) (path : Path) (sub : Tree) : Path → Type 0 where
  placed : (rest : Path) → IsSome (get sub rest) → Stands t path sub (path ++ rest)
  beside : (p : Path) → is_related path p ≡ false → IsSome (get t p) → Stands t path sub p

stands : (t : Tree) (path : Path) (sub : Tree) (p : Path) → IsSome (get (place t path sub) p) → Stands t path sub p
stands t path sub p some = by (after_prefix path p) (split path p) (sym (ap is_some (get-placed t path sub p)) ∙ some)
  where
    other : (b : Bool) → is_related path p ≡ b → is_some (cond b None (get t p)) ≡ true → Stands t path sub p
    other true e h = absurd (false≢true h)
    other false e h = beside p e h

    by : (o : Option Path) → IsSplit path p o → is_some (behind_or (get sub) o (stays t path p)) ≡ true → Stands t path sub p
    by (Some rest) is h = subst (Stands t path sub) (sym is) (placed rest h)
    by None apart h = other (is_related path p) refl h

module _ (t : Tree) (path : Path) (sub : Tree) (lawful : IsTree t) (free : IsPrefixFree sub) (paths : (p : Path) → IsSome (get sub p) → IsPath (path ++ p)) where
  free_by : (p q : Path) → Stands t path sub p → Stands t path sub q → IsTrue (is_prefix p q) → p ≡ q
  free_by x y (placed p a) (placed q b) prefix = ap (λ (r : Path). path ++ r) (free p q a b (prefix_behind path p q prefix))
  free_by x q (placed p a) (beside q' apart b) prefix = absurd (false≢true (sym apart ∙ or_left (is_prefix path q) (is_prefix q path) (prefix_before path p q prefix)))
    where
      prefix_before : (path p q : Path) → is_prefix (path ++ p) q ≡ true → is_prefix path q ≡ true
      prefix_before [] p q e = refl
      prefix_before (s ∷ path) p [] e = absurd (false≢true e)
      prefix_before (s ∷ path) p (r ∷ q) e = elim (same_bytes s r) as (λ b. (b && is_prefix (path ++ p) q) ≡ true → (b && is_prefix path q) ≡ true) [
        | true ↦ λ e. prefix_before path p q e
        | false ↦ λ e. e
      ] e
  free_by p y (beside p' apart a) (placed q b) prefix = absurd (false≢true (sym apart ∙ prefix_related p path q prefix))
  free_by p q (beside p' apart a) (beside q' apart' b) prefix = lawful.prefix_free p q a b prefix

  path_by : (p : Path) → Stands t path sub p → IsPath p
  path_by x (placed rest a) = paths rest a
  path_by p (beside p' apart a) = lawful.paths p a

  pub lawful_place : IsTree (place t path sub)
  lawful_place = record {
    prefix_free = λ p q a b prefix. free_by p q (stands t path sub p a) (stands t path sub q b) prefix;
    paths = λ p a. path_by p (stands t path sub p a);
  }

subtree_free : (t : Tree) (path : Path) → IsTree t → IsPrefixFree (subtree t path)
subtree_free t path lawful p q a b prefix =
    behind path p q (lawful.prefix_free (path ++ p) (path ++ q) (sym (ap is_some (get-subtree t path p)) ∙ a) (sym (ap is_some (get-subtree t path q)) ∙ b) (longer path p q prefix))
  where
    behind : (path p q : Path) → path ++ p ≡ path ++ q → p ≡ q
    behind [] p q e = e
    behind (s ∷ path) p q e = behind path p q cc

    longer : (path p q : Path) → is_prefix p q ≡ true → is_prefix (path ++ p) (path ++ q) ≡ true
    longer [] p q e = e
    longer (s ∷ path) p q e = ap (λ b. b && is_prefix (path ++ p) (path ++ q)) (itself s) ∙ longer path p q e

-- where the steps of both are few enough
pub lawful_graft : (t source : Tree) (from to : Path) → IsTree t → IsTree source → IsPath to → length to + height (subtree source from) ≤ 64 → IsTree (graft t source from to)
unfolding graft
lawful_graft t source from to lawful sources is low = lawful_place t to (subtree source from) lawful (subtree_free source from sources) paths
  where
    all_behind : (p q : Path) → All IsStep (p ++ q) → All IsStep q
    all_behind [] q each = each
    all_behind (s ∷ p) q each = all_behind p q (All-tail IsStep s (p ++ q) each)

    some_bytes : (o : Option Bytes) → IsSome o → (b : Bytes) × (o ≡ Some b)
    some_bytes None e = absurd (false≢true e)
    some_bytes (Some b) e = (b, refl)

    paths : (p : Path) → IsSome (get (subtree source from) p) → IsPath (to ++ p)
    paths p some =
        let whole = sources.paths (from ++ p) (sym (ap is_some (get-subtree source from p)) ∙ some) in
        let there_is = some_bytes (get (subtree source from) p) some in
        let short = path_height (subtree source from) p there_is.0 there_is.1 in
        let sum = length-append to p in
        let first = is.some in
        record { some = omega arith; short = omega arith; each = All-append IsStep to p is.each (all_behind from p whole.each) }

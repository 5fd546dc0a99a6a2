-- What stands at a path of a tree in which no path is a front of another.
--     no_both      nothing stands under a path at which contents stand
--     contents_there      seen from there, these are all that stands there
--     Below, directory_below      under a directory something stands, but for the root
--     directory_bare, directory_there      a directory has no contents, and where something stands under a path one is there
--     nothing_below      where none is, nothing does
use Rattle.std.proofs.Common.{◌≡◌, List, [], ◌∷◌, ◌++◌, length, refl, sym, ap, ◌∙◌, Option, Some, None, Bool, true, false, cond, arith}
use Rattle.std.proofs.lemmas.Bool.{and_parts, false≢true, not-true}
use Rattle.std.proofs.lemmas.List.{append-nil, length-append}
use Rattle.std.specs.Prelude.{not, ◌||◌, ◌&&◌, is_some}
use Rattle.std.specs.Ordering.{is_eq}
use Rattle.std.specs.FinMap.Entries.{find}
use Rattle.ip_spec.specs.Map.{get}
use Rattle.ip_spec.specs.Path.{Bytes, Step, Path, path_cmp}
use Rattle.ip_spec.specs.Tree.{Tree, IsPrefixFree, contents, subtree, is_contents, is_empty}
use Rattle.ip_spec.specs.View.{is_nil}
use Rattle.ip_spec.proofs.Subtrees.{get-contents, get-subtree, path_itself, prefix_of_append, same_tree, some_not_empty}
use Rattle.ip_three.specs.Merging.{has_directory}
use Rattle.ip_three.proofs.Values.{no_value, none_is}

pub longer : (p : Path) (s : Step) (rest : Path) → p ≡ p ++ s ∷ rest → ⊥
longer p s rest same = let e = ap length same in let l = length-append p (s ∷ rest) in absurd (omega arith)

-- at the path itself
pub get_here : (t : Tree) (p : Path) → get (subtree t p) [] ≡ get t p
get_here t p = get-subtree t p [] ∙ ap (get t) (append-nil p)

-- something stands in what is not empty
record Something (t : Tree) : Type 0 where
  path : Path
  bytes : Bytes
  here : get t path ≡ Some bytes

something : (t : Tree) → is_empty t ≡ false → Something t
something t some = by t.entries refl some
  where
    by : (es : List (Path × Bytes)) → t.entries ≡ es → ◌≡◌ {A = Bool} (elim es [ [] ↦ true | _ ∷ _ ↦ false ]) false → Something t
    by [] is h = absurd (false≢true (sym h))
    by (e ∷ es) is h = record { path = e.0; bytes = e.1; here = ap (find path_cmp e.0) is ∙ ap (λ r. cond (is_eq r) (Some e.1) (find path_cmp e.0 es)) (path_itself e.0) }

pub record At (t : Tree) (p : Path) : Type 0 where
  pub rest : Path
  pub bytes : Bytes
  pub here : get t (p ++ rest) ≡ Some bytes

-- at the path or under it
pub stands_at : (t : Tree) (p : Path) → is_empty (subtree t p) ≡ false → At t p
stands_at t p some = let x = something (subtree t p) some in record { rest = x.path; bytes = x.bytes; here = sym (get-subtree t p x.path) ∙ x.here }

-- ---- directories

pub record Below (t : Tree) (p : Path) : Type 0 where
  pub step : Step
  pub rest : Path
  pub bytes : Bytes
  pub here : get t (p ++ step ∷ rest) ≡ Some bytes

module _ (t : Tree) where
  bare : (p : Path) → is_contents (subtree t p) ≡ false → get t p ≡ None
  bare p e = sym (get_here t p) ∙ no_value _ e

  pub directory_bare : (p : Path) → has_directory t p ≡ true → get t p ≡ None
  directory_bare p e = bare p (not-true _ (and_parts _ _ e).0)

  pub directory_below : (p : Path) → is_nil p ≡ false → has_directory t p ≡ true → Below t p
  directory_below p some e = by (stands_at t p (not-true _ (second (is_nil p) (not (is_empty (subtree t p))) some (and_parts _ _ e).1))) (directory_bare p e)
    where
      second : (a b : Bool) → a ≡ false → (a || b) ≡ true → b ≡ true
      second true b no_a e = absurd (false≢true (sym no_a))
      second false b no_a e = e

      at : (rest : Path) (bytes : Bytes) → get t (p ++ rest) ≡ Some bytes → get t p ≡ None → Below t p
      at [] bytes here none = none_is _ bytes none (sym (ap (get t) (append-nil p)) ∙ here)
      at (s ∷ rest) bytes here none = record { step = s; rest = rest; bytes = bytes; here = here }

      by : At t p → get t p ≡ None → Below t p
      by a none = at a.rest a.bytes a.here none

  module _ (free : IsPrefixFree t) where
    pub no_both : (p : Path) (s : Step) (rest : Path) (a c : Bytes) → get t p ≡ Some a → get t (p ++ s ∷ rest) ≡ Some c → ⊥
    no_both p s rest a c one other = longer p s rest (free p (p ++ s ∷ rest) (ap is_some one) (ap is_some other) (prefix_of_append p (s ∷ rest)))

    pub none_under : (p : Path) (s : Step) (rest : Path) (a : Bytes) → get t p ≡ Some a → get t (p ++ s ∷ rest) ≡ None
    none_under p s rest a one = by (get t (p ++ s ∷ rest)) refl
      where
        by : (o : Option Bytes) → get t (p ++ s ∷ rest) ≡ o → get t (p ++ s ∷ rest) ≡ None
        by None e = e
        by (Some c) e = absurd (no_both p s rest a c one e)

    pub none_above : (p : Path) (s : Step) (rest : Path) (c : Bytes) → get t (p ++ s ∷ rest) ≡ Some c → get t p ≡ None
    none_above p s rest c other = by (get t p) refl
      where
        by : (o : Option Bytes) → get t p ≡ o → get t p ≡ None
        by None e = e
        by (Some a) e = absurd (no_both p s rest a c e other)

    pub contents_there : (p : Path) (a : Bytes) → get t p ≡ Some a → subtree t p ≡ contents a
    contents_there p a here = same_tree _ _ (λ q. by q)
      where
        by : (q : Path) → get (subtree t p) q ≡ get (contents a) q
        by [] = get_here t p ∙ here ∙ sym (get-contents a [])
        by (s ∷ rest) = get-subtree t p (s ∷ rest) ∙ none_under p s rest a here ∙ sym (get-contents a (s ∷ rest))

    pub directory_there : (p : Path) (s : Step) (rest : Path) (c : Bytes) → get t (p ++ s ∷ rest) ≡ Some c → has_directory t p ≡ true
    directory_there p s rest c here =
        ap (λ b. not b && (is_nil p || not (is_empty (subtree t p)))) (ap is_some (get_here t p ∙ none_above p s rest c here))
        ∙ ap (λ b. is_nil p || not b) (some_not_empty (subtree t p) (s ∷ rest) c (get-subtree t p (s ∷ rest) ∙ here)) ∙ always (is_nil p)
      where
        always : (b : Bool) → (b || true) ≡ true
        always true = refl
        always false = refl

    pub nothing_below : (p : Path) (s : Step) (rest : Path) → has_directory t p ≡ false → get t (p ++ s ∷ rest) ≡ None
    nothing_below p s rest none = by (get t (p ++ s ∷ rest)) refl
      where
        by : (o : Option Bytes) → get t (p ++ s ∷ rest) ≡ o → get t (p ++ s ∷ rest) ≡ None
        by None e = e
        by (Some c) e = absurd (false≢true (sym none ∙ directory_there p s rest c e))

pub contents_some : (a : Bytes) → is_empty (contents a) ≡ false
contents_some a = some_not_empty (contents a) [] a (get-contents a [])

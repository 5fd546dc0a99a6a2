-- Directories and contents by what was found at a path.
--     at_below, at_root      what was found below the root is so as a look-up tells it, and a root is
--     kind_there      a reference tells whether contents stand there
--     holds_placed, holds_is      whether contents stand at a path
--     directory_is      whether a directory does.      says_some, says_none, found_some, found_none
--     same_is, side_is      two trees have a directory in one record, and the side by these tests
use Rattle.std.proofs.Common.{◌≡◌, ℕ, Bool, true, false, [], ◌∷◌, refl, sym, ap, subst, ◌∙◌, Option, Some, None}
use Rattle.std.proofs.lemmas.Bool.{and_right, false≢true}
use Rattle.std.proofs.lemmas.List.{append-nil}
use Rattle.std.specs.Prelude.{◌==◌, ◌&&◌, ◌||◌, not, is_some, IsFalse, IsTrue, if◌then◌else◌}
use Rattle.ip_spec.specs.Map.{get}
use Rattle.ip_spec.specs.Path.{Bytes, Path, Step}
use Rattle.ip_spec.specs.Tree as Tree
use Rattle.ip_spec.specs.Tree.{Tree, is_contents, is_empty, subtree}
use Rattle.ip_spec.specs.View.{View, is_nil}
use Rattle.ip_spec.specs.declared.record.Record.{Record}
use Rattle.ip_spec.specs.declared.record.Ref.{Ref}
use Rattle.ip_spec.proofs.Subtrees.{empty_gets, get-contents}
use Rattle.ip_tree.specs.Finding.{FindsIn, FindsPlace}
use Rattle.ip_tree.specs.Known.{known_at}
use Rattle.ip_tree.specs.Node.{Node, stored, contents, directory}
use Rattle.ip_tree.specs.Reads.{Reaches, contents_at, directory_at}
use Rattle.ip_tree.specs.declared.node.Stored.{Stored}
use Rattle.ip_tree.specs.TreeView.{IsView}
use Rattle.ip_tree.specs.declared.tree.Tree as code
use Rattle.ip_tree.proofs.Found.{StandsAt, nothing_below, place_found, reaches, root_node, root_stands, subtree_on}
use Rattle.ip_tree.proofs.GotAt.{empty_on, some_here}
use Rattle.ip_three.specs.Merging.{directory_side, has_directory, record_at, same_directory, same_number, side_by}
use Rattle.ip_three.specs.Walking.{FoundDirectory, IsAt, SaysDirectory, holds_at, is_directory_at, same_records}
use Rattle.ip_three.proofs.Standing.{get_here}

pub bytes_there : (bytes : Bytes) → is_contents (Tree.contents bytes) ≡ true
bytes_there bytes = ap is_some (get-contents bytes [])

pub contents_here : (t : Tree) (p : Path) → is_contents (subtree t p) ≡ is_some (get t p)
contents_here t p = ap is_some (get_here t p)

-- ---- tests

no_directory : (t : Tree) (b : Bool) → is_contents t ≡ true → (not (is_contents t) && (b || not (is_empty t))) ≡ false
no_directory t b e = ap (λ c. not c && (b || not (is_empty t))) e

a_directory : (t : Tree) (b : Bool) → is_contents t ≡ false → (b ≡ false → is_empty t ≡ false) → (not (is_contents t) && (b || not (is_empty t))) ≡ true
a_directory t true e some = ap (λ c. not c && true) e
a_directory t false e some = ap (λ c. not c && not (is_empty t)) e ∙ ap not (some refl)

nothing_there : (t : Tree) (b : Bool) → is_empty t ≡ true → b ≡ false → (not (is_contents t) && (b || not (is_empty t))) ≡ false
nothing_there t b e f = and_right (not (is_contents t)) (b || not (is_empty t)) (ap (λ c. c || not (is_empty t)) f ∙ ap not e)

module _ (records : ℕ → Option Record) where
  pub kind_there : (r : Ref) (t : Tree) → Reaches records r t → (r.kind == 1) ≡ is_contents t
  kind_there r t (contents_at bytes here kind name) = ap (λ k. k == 1) kind ∙ sym (bytes_there bytes)
  kind_there r t (directory_at sub spells no_contents) = ap (λ k. k == 1) spells.kind ∙ sym no_contents

  module _ (w : View) (p : Path) where
    pub at_below : (found : Option Node) → IsFalse (is_nil p) → FindsIn records w p found → IsAt records w p found
    at_below None below is = record { place = (is, below); part = λ _. is }
    at_below (Some n) below is = record { place = place_found records w p n is; part = λ _. is }

    at_stands : (n : Node) → StandsAt records w p n → IsAt records w p (Some n)
    at_stands n is = record { place = is.place; part = is.part }

    -- ---- contents

    pub holds_placed : (found : Option Node) → FindsPlace records w p found → holds_at found ≡ is_some (get w.map p)
    holds_placed None is = ap is_some (sym (empty_gets (subtree w.map p) [] is.0)) ∙ contents_here w.map p
    holds_placed (Some (stored x)) is = kind_there x.reference (subtree w.map p) is.0 ∙ contents_here w.map p
    holds_placed (Some (contents bytes)) is = sym (ap is_contents is.means ∙ bytes_there bytes) ∙ contents_here w.map p
    holds_placed (Some (directory root ns)) is = sym is.0.directory ∙ contents_here w.map p

    pub holds_is : (found : Option Node) → FindsIn records w p found → holds_at found ≡ is_some (get w.map p)
    holds_is None is = ap is_some (sym (empty_gets (subtree w.map p) [] is)) ∙ contents_here w.map p
    holds_is (Some n) is = holds_placed (Some n) (place_found records w p n is)

    -- ---- directories

    -- below the root it is not empty
    some_part : (n : Node) → IsAt records w p (Some n) → is_nil p ≡ false → is_empty (subtree w.map p) ≡ false
    some_part n is below = some_here records n (subtree w.map p) (is.part below).means

    by_kind : (x : Stored) (b : Bool) → (x.reference.kind == 1) ≡ b → is_contents (subtree w.map p) ≡ b → IsAt records w p (Some (stored x)) → not b ≡ has_directory w.map p
    by_kind x true e there is = sym (no_directory (subtree w.map p) (is_nil p) there)
    by_kind x false e there is = sym (a_directory (subtree w.map p) (is_nil p) there (some_part (stored x) is))

    pub directory_is : (found : Option Node) → IsAt records w p found → is_directory_at found ≡ has_directory w.map p
    directory_is None is = sym (nothing_there (subtree w.map p) (is_nil p) is.place.0 is.place.1)
    directory_is (Some (stored x)) is = by_kind x (x.reference.kind == 1) refl (sym (kind_there x.reference (subtree w.map p) is.place.0)) is
    directory_is (Some (contents bytes)) is = sym (no_directory (subtree w.map p) (is_nil p) (ap is_contents is.place.means ∙ bytes_there bytes))
    directory_is (Some (directory root ns)) is = sym (a_directory (subtree w.map p) (is_nil p) is.place.0.directory (some_part (directory root ns) is))

    pub says_some : (found : Option Node) → IsAt records w p found → is_directory_at found ≡ true → SaysDirectory records w p found
    says_some None is e = absurd (false≢true e)
    says_some (Some n) is e = (sym (directory_is (Some n) is) ∙ e, is.place)

    pub says_none : (found : Option Node) → IsAt records w p found → is_directory_at found ≡ false → SaysDirectory records w p None
    says_none found is e = sym (directory_is found is) ∙ e

    pub found_some : (found : Option Node) → IsFalse (is_nil p) → FindsIn records w p found → is_directory_at found ≡ true → FoundDirectory records w p found
    found_some None below is e = absurd (false≢true e)
    found_some (Some n) below is e = let at = at_below (Some n) below is in (sym (directory_is (Some n) at) ∙ e, is, at.place)

    -- contents have nothing below them
    none_below : (found : Option Node) → FindsIn records w p found → is_directory_at found ≡ false → (s : Step) → IsTrue (is_empty (subtree (subtree w.map p) (s ∷ [])))
    none_below None is e s = empty_on (subtree w.map p) (s ∷ []) is
    none_below (Some (stored x)) is e s = below_reached x.reference (subtree w.map p) (reaches records x (subtree w.map p) is.means) e
      where
        below_reached : (r : Ref) (t : Tree) → Reaches records r t → not (r.kind == 1) ≡ false → IsTrue (is_empty (subtree t (s ∷ [])))
        below_reached r t (contents_at bytes here kind name) f = nothing_below bytes s
        below_reached r t (directory_at sub spells no_contents) f = absurd (false≢true (sym f ∙ ap (λ k. not (k == 1)) spells.kind))
    none_below (Some (contents bytes)) is e s = subst (λ t. IsTrue (is_empty (subtree t (s ∷ [])))) (sym is.means) (nothing_below bytes s)
    none_below (Some (directory root ns)) is e s = absurd (false≢true (sym e))

    pub found_none : (found : Option Node) → IsFalse (is_nil p) → FindsIn records w p found → is_directory_at found ≡ false → FoundDirectory records w p None
    found_none found below is e =
        (sym (directory_is found (at_below found below is)) ∙ e, λ s. subst (λ (t : Tree). IsTrue (is_empty t)) (subtree_on w.map p (s ∷ [])) (none_below found is e s))

    -- ---- records

    pub record_is : (n : Node) → SaysDirectory records w p (Some n) → known_at records n [] [] ≡ record_at w p
    record_is (stored x) is = is.1.1 (record { path = []; indexes = [] }) ∙ ap (λ (q : Path). w.known (record { path = q; indexes = [] })) (append-nil p)
    record_is (contents bytes) is = is.1.known (record { path = []; indexes = [] }) ∙ ap (λ (q : Path). w.known (record { path = q; indexes = [] })) (append-nil p)
    record_is (directory root ns) is = is.1.1 (record { path = []; indexes = [] }) ∙ ap (λ (q : Path). w.known (record { path = q; indexes = [] })) (append-nil p)

  pub at_root : (tree : code.Tree) (w : View) (n : Node) → IsView records tree w → n ≡ root_node records tree.root → IsAt records w [] (Some n)
  at_root tree w n is same = at_stands w [] n (root_stands records tree w n is same)

  module _ (v w : View) (p : Path) where
    abbrev same_by : Bool → Bool → Bool → Bool
    same_by x y z = if x then y && z else not y

    pub same_is : (one other : Option Node) → SaysDirectory records v p one → SaysDirectory records w p other → same_records records one other ≡ same_directory v w p
    same_is None None f g = sym (λ i. same_by (f i) (g i) (same_number (record_at v p) (record_at w p)))
    same_is None (Some m) f g = sym (λ i. same_by (f i) (g.0 i) (same_number (record_at v p) (record_at w p)))
    same_is (Some n) None f g = sym (λ i. same_by (f.0 i) (g i) (same_number (record_at v p) (record_at w p)))
    same_is (Some n) (Some m) f g =
        (λ i. same_number (record_is v p n f i) (record_is w p m g i)) ∙ sym (λ i. same_by (f.0 i) (g.0 i) (same_number (record_at v p) (record_at w p)))

  module _ (b l r : View) (p : Path) (o one other : Option Node) (base : SaysDirectory records b p o) (left : SaysDirectory records l p one) (right : SaysDirectory records r p other) where
    pub side_is : side_by (same_records records one other) (same_records records one o) (same_records records other o) ≡ directory_side b l r p
    side_is = λ i. side_by (same_is l r p one other left right i) (same_is l b p one o left base i) (same_is r b p other o right base i)

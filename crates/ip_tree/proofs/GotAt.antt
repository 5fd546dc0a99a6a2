-- What is answered about what stands at a path.
--     some_here      where something stands, it is not empty
--     got_nothing_at, got_here      where nothing stands, and by what stands there
--     some_below      so of what stands below the root
--     bytes_got, directory_got      of contents, and of a directory with so many entries
--     narrow_at      no directory below a path has more entries than it may
use Rattle.std.proofs.Common.{◌≡◌, ℕ, ◌≤◌, Bool, true, false, [], ◌∷◌, ◌++◌, length, refl, sym, ap, subst, ◌∙◌, Option, None, arith}
use Rattle.std.specs.Prelude.{IsFalse, IsTrue, not, ◌&&◌}
use Rattle.ip_spec.specs.Map.{get, len}
use Rattle.ip_spec.specs.Path.{Bytes, Path}
use Rattle.ip_spec.specs.Step.{entries_limit}
use Rattle.ip_spec.specs.Tree as Tree
use Rattle.ip_spec.specs.declared.tree.Got.TheVariants as Got
use Rattle.ip_spec.specs.declared.tree.Listed.TheVariants as Listed
use Rattle.ip_spec.specs.Tree.{Tree, contents, entries_of, got_at, got_by, is_contents, is_empty, is_root, listed_at, listed_by, no_tree, subtree, widest}
use Rattle.ip_spec.specs.View.{View, is_nil}
use Rattle.ip_spec.specs.declared.record.Record.{Record}
use Rattle.ip_spec.proofs.Subtrees.{empty_gets, get-contents, get-no_tree, get-subtree, got_contents, got_directory, same_tree, some_not_empty, subtree_root}
use Rattle.ip_spec.proofs.Widths.{none_wider}
use Rattle.ip_tree.specs.Finding.{IsPartOf}
use Rattle.ip_tree.specs.Meaning.{NodeIs, contents_in, directory_in}
use Rattle.ip_tree.specs.Narrow.{IsNarrow}
use Rattle.ip_tree.specs.Node as view
use Rattle.ip_tree.proofs.Found.{subtree_on}

bytes_some : (bytes : Bytes) → is_empty (contents bytes) ≡ false
bytes_some bytes = some_not_empty (contents bytes) [] bytes (get-contents bytes [])

module _ (records : ℕ → Option Record) where
  pub some_here : (n : view.Node) (t : Tree) → NodeIs records n t → is_empty t ≡ false
  some_here (view.stored x) t (contents_in bytes is low child) = bytes_some bytes
  some_here (view.stored x) t (directory_in sub some spells) = some.some
  some_here (view.contents bytes) t is = ap is_empty is ∙ bytes_some bytes
  some_here (view.directory root ns) t is = is.0.some

both_true : (a b : Bool) → a ≡ true → b ≡ false → (a && not b) ≡ true
both_true a b e f = ap (λ x. x && not b) e ∙ ap not f

root_nil : (p : Path) → is_root p ≡ is_nil p
root_nil [] = refl
root_nil (s ∷ p) = refl

pub got_nothing_at : (t : Tree) (p : Path) → IsTrue (is_empty (subtree t p)) → IsFalse (is_nil p) → Got.Absent ≡ got_at t p
unfolding got_at
got_nothing_at t p none below =
    sym (ap (λ o. got_by o (is_empty (subtree t p) && not (is_root p)) (subtree t p)) (empty_gets (subtree t p) [] none)
    ∙ ap (λ b. got_by None b (subtree t p)) (both_true (is_empty (subtree t p)) (is_root p) none (root_nil p ∙ below)))

pub listed_nothing_at : (t : Tree) (p : Path) → IsTrue (is_empty (subtree t p)) → IsFalse (is_nil p) → Listed.Absent ≡ listed_at t p
unfolding listed_at
listed_nothing_at t p none below =
    sym (ap (λ o. listed_by o (is_empty (subtree t p) && not (is_root p)) (subtree t p)) (empty_gets (subtree t p) [] none)
    ∙ ap (λ b. listed_by None b (subtree t p)) (both_true (is_empty (subtree t p)) (is_root p) none (root_nil p ∙ below)))

-- a root, or not empty
shows : (t : Tree) (p : Path) → (IsFalse (is_nil p) → is_empty (subtree t p) ≡ false) → (is_empty (subtree t p) && not (is_root p)) ≡ (is_empty (subtree (subtree t p) []) && false)
shows t [] some = ap (λ b. b && false) (sym (ap is_empty (subtree_root (subtree t []))))
shows t (s ∷ p) some = ap (λ b. b && true) (some refl) ∙ sym (ap (λ b. b && false) (ap is_empty (subtree_root (subtree t (s ∷ p))) ∙ some refl))

pub got_here : (t : Tree) (p : Path) → (IsFalse (is_nil p) → is_empty (subtree t p) ≡ false) → got_at t p ≡ got_at (subtree t p) []
unfolding got_at
got_here t p some =
    ap (λ b. got_by (get (subtree t p) []) b (subtree t p)) (shows t p some)
    ∙ sym (ap (λ (x : Tree). got_by (get x []) (is_empty (subtree (subtree t p) []) && false) x) (subtree_root (subtree t p)))

pub listed_here : (t : Tree) (p : Path) → (IsFalse (is_nil p) → is_empty (subtree t p) ≡ false) → listed_at t p ≡ listed_at (subtree t p) []
unfolding listed_at
listed_here t p some =
    ap (λ b. listed_by (get (subtree t p) []) b (subtree t p)) (shows t p some)
    ∙ sym (ap (λ (x : Tree). listed_by (get x []) (is_empty (subtree (subtree t p) []) && false) x) (subtree_root (subtree t p)))

pub bytes_got : (t : Tree) (bytes : Bytes) → t ≡ contents bytes → Got.Value bytes ≡ got_at t []
bytes_got t bytes is = sym (ap (λ x. got_at x []) is ∙ got_contents bytes)

pub directory_got : (t : Tree) (n : ℕ) → IsFalse (is_contents t) → n ≡ length (entries_of t).entries → Got.Dir n ≡ got_at t []
directory_got t n no_contents is = ap (λ m. Got.Dir m) is ∙ sym (got_directory t no_contents)

nothing : is_empty no_tree ≡ true
unfolding Tree.tree_runs
nothing = refl

-- nothing stands below nothing
pub empty_on : (t : Tree) (p : Path) → IsTrue (is_empty t) → IsTrue (is_empty (subtree t p))
empty_on t p none = ap is_empty (same_tree (subtree t p) no_tree (λ r. get-subtree t p r ∙ empty_gets t _ none ∙ sym (get-no_tree r))) ∙ nothing

pub narrow_at : (t : Tree) (p : Path) → widest t ≤ entries_limit → IsNarrow (subtree t p)
narrow_at t p low q = subst (λ (x : Tree). len (entries_of x) ≤ entries_limit) (sym (subtree_on t p q)) (let h = none_wider t (p ++ q) in omega (arith, h, low))

pub narrow_here : (t : Tree) → IsNarrow t → length (entries_of t).entries ≤ entries_limit
narrow_here t narrow = subst (λ (x : Tree). len (entries_of x) ≤ entries_limit) (subtree_root t) (narrow [])

module _ (records : ℕ → Option Record) (w : View) (p : Path) where
  pub some_below : (n : view.Node) → (IsFalse (is_nil p) → IsPartOf records w p n) → IsFalse (is_nil p) → is_empty (subtree w.map p) ≡ false
  some_below n part below = some_here records n (subtree w.map p) (part below).means

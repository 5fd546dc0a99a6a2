-- Trees by their entries.
use Rattle.std.proofs.Common.{◌≡◌, false, [], ◌∷◌, ◌++◌, refl, sym, ap, ◌∙◌, Some, None}
use Rattle.std.specs.Prelude.{IsFalse}
use Rattle.std.specs.FinMap.Entries.{find}
use Rattle.ip_spec.specs.Map.{get, insert, empty, checked}
use Rattle.ip_spec.specs.Path.{Bytes, Step, Path, bytes_cmp}
use Rattle.ip_spec.specs.declared.tree.Got.TheVariants as Got
use Rattle.ip_spec.specs.declared.tree.Listed.TheVariants as Listed
use Rattle.ip_spec.specs.Tree.{Tree, no_tree, contents, subtree, entries_of, got_at, listed_at, is_contents, is_empty, tree_runs}
pub use Rattle.ip_spec.proofs.Subtrees.{got_contents, got_below_contents, got_directory, listed_contents, listed_below_contents, listed_directory}
use Rattle.ip_spec.proofs.Subtrees.{entry_found, entry_lost, got_below, got_nothing, listed_below, listed_nothing, same_tree, get-subtree, get-no_tree, some_not_empty}

pub contents_get : (bytes : Bytes) → get (contents bytes) [] ≡ Some bytes
unfolding contents insert empty checked
contents_get bytes = refl

pub contents_some : (bytes : Bytes) → is_empty (contents bytes) ≡ false
contents_some bytes = some_not_empty (contents bytes) [] bytes (contents_get bytes)

-- ---- what is answered below an entry

pub got_some : (t : Tree) (s : Step) (p : Path) (sub : Tree) → find bytes_cmp s (entries_of t).entries ≡ Some sub → got_at t (s ∷ p) ≡ got_at sub p
got_some t s p sub found = let e = entry_found t s sub found in got_below t s p e.some ∙ ap (λ (x : Tree). got_at x p) (sym e.is)

pub got_none : (t : Tree) (s : Step) (p : Path) → find bytes_cmp s (entries_of t).entries ≡ None → got_at t (s ∷ p) ≡ Got.Absent
got_none t s p lost = got_nothing t s p (entry_lost t s lost)

pub listed_some : (t : Tree) (s : Step) (p : Path) (sub : Tree) → find bytes_cmp s (entries_of t).entries ≡ Some sub → listed_at t (s ∷ p) ≡ listed_at sub p
listed_some t s p sub found = let e = entry_found t s sub found in listed_below t s p e.some ∙ ap (λ (x : Tree). listed_at x p) (sym e.is)

pub listed_none : (t : Tree) (s : Step) (p : Path) → find bytes_cmp s (entries_of t).entries ≡ None → listed_at t (s ∷ p) ≡ Listed.Absent
listed_none t s p lost = listed_nothing t s p (entry_lost t s lost)

-- ---- the tree with nothing in it, and contents

pub entries_of_contents : (b : Bytes) → (entries_of (contents b)).entries ≡ []
unfolding tree_runs
entries_of_contents b = refl

pub entries_of_nothing : (entries_of no_tree).entries ≡ []
unfolding tree_runs
entries_of_nothing = refl

pub nothing_directory : IsFalse (is_contents no_tree)
unfolding tree_runs
nothing_directory = refl

pub nothing_under : (p : Path) → subtree no_tree p ≡ no_tree
nothing_under p = same_tree _ _ (λ q. get-subtree no_tree p q ∙ get-no_tree (p ++ q) ∙ sym (get-no_tree q))

-- Contents and directories as an entry tells them, and trees that keep the limits.
use Rattle.std.proofs.Common.{◌≡◌, ◌≤◌, [], refl, sym, ap, ◌∙◌, Option, Some, None, true}
use Rattle.std.specs.Prelude.{is_some, IsFalse}
use Rattle.std.proofs.lemmas.Bool.{false≢true}
use Rattle.sha2.specs.Sha256.{sha256}
use Rattle.ip_spec.specs.Map.{get}
use Rattle.ip_spec.specs.Path.{Bytes}
use Rattle.ip_spec.specs.Shape.{child_by, child_of, root_name}
use Rattle.ip_spec.specs.Tree.{Tree, IsTree, contents, height, is_contents, tree_runs}
use Rattle.ip_tree.proofs.TreeHeights.{height_most}

contents_get : (b : Bytes) → get (contents b) [] ≡ Some b
unfolding tree_runs
contents_get b = refl

pub contents_some : (b : Bytes) → is_contents (contents b) ≡ true
contents_some b = ap is_some (contents_get b)

pub child_of_contents : (b : Bytes) → child_of (contents b) ≡ (1, sha256 b)
child_of_contents b = ap (λ o. child_by o (contents b)) (contents_get b)

pub child_of_directory : (t : Tree) → IsFalse (is_contents t) → child_of t ≡ (2, root_name t)
child_of_directory t directory = by (get t []) refl
  where
    by : (o : Option Bytes) → get t [] ≡ o → child_of t ≡ (2, root_name t)
    by None e = ap (λ o. child_by o t) e
    by (Some x) e = absurd (false≢true (sym directory ∙ ap is_some e))

pub contents_height : (b : Bytes) → height (contents b) ≡ 0
unfolding tree_runs
contents_height b = refl

pub lawful_height : (t : Tree) → IsTree t → height t ≤ 64
lawful_height t lawful = height_most t 64 (λ p v is. (lawful.paths p (ap is_some is)).short)

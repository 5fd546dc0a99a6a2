-- What a merge of trees knows of its parts.
--     known_made      what was known of one of the two trees.      rooted_made      so a retained commit reaches it
use Rattle.std.proofs.Common.{◌≡◌, ℕ, Bool, true, false, List, [], ◌∷◌, sym, subst, Option}
use Rattle.std.specs.Prelude.{not, if◌then◌else◌}
use Rattle.ip_spec.specs.Path.{Path}
use Rattle.ip_spec.specs.declared.record.Record.{Record}
use Rattle.ip_spec.specs.Tree.{Tree, subtree, is_empty}
use Rattle.ip_spec.specs.View.{View, least, remove_view}
use Rattle.ip_three.specs.Answered.{MergedView, whole_view}
use Rattle.ip_three.specs.Merging.{Coming, Side, of_left, of_right, put as comes_new, taken, less_at, less, more_at, more}
use Rattle.ip_held.specs.Rooted.{IsHeld, IsRootedIn, IsRooted}
use Rattle.ip_held.proofs.RootedViews.{held_left, held_right, known_grafted, known_put, known_removed}

module _ (K : ℕ → Type 0) where
  known_less_at : (v : View) (path : Path) → IsRootedIn K v → IsRootedIn K (less_at v path)
  known_less_at v path is = by_test (not (is_empty (subtree v.map path)))
    where
      by_test : (b : Bool) → IsRootedIn K (if b then remove_view v path else v)
      by_test true = known_removed K v path is
      by_test false = is

  known_less : (gone : List Path) (v : View) → IsRootedIn K v → IsRootedIn K (less v gone)
  known_less [] v is = is
  known_less (path ∷ gone) v is = known_less gone (less_at v path) (known_less_at v path is)

  known_more_at : (r v : View) (path : Path) (c : Coming) → IsRootedIn K r → IsRootedIn K v → IsRootedIn K (more_at r v path c)
  known_more_at r v path (comes_new bytes) there is = known_put K v path bytes is
  known_more_at r v path taken there is = known_grafted K v r path path is there

  known_more : (come : List (Path × Coming)) (r v : View) → IsRootedIn K r → IsRootedIn K v → IsRootedIn K (more r v come)
  known_more [] r v there is = is
  known_more (e ∷ come) r v there is = known_more come r (more_at r v e.0 e.1) there (known_more_at r v e.0 e.1 there is)

  known_side : (l r : View) (side : Side) → IsRootedIn K l → IsRootedIn K r → IsRootedIn K (whole_view l r side)
  known_side l r of_left is there = is
  known_side l r of_right is there = there

  pub known_made : (b l r : View) (t : Tree) (v : View) → MergedView b l r t v → IsRootedIn K l → IsRootedIn K r → IsRootedIn K v
  known_made b l r t v (MergedView.whole side is same) one other = known_side l r side one other
  known_made b l r t v (MergedView.edited gone come none edits) one other = known_more come r (less l gone) other (known_less gone l one)

module _ (records : ℕ → Option Record) where
  pub rooted_made : (b l r : View) (t : Tree) (v : View) → MergedView b l r t v → v.oldest ≡ least l.oldest r.oldest → IsRooted records l → IsRooted records r → IsRooted records v
  rooted_made b l r t v made oldest one other part at e =
      subst (λ (o : Option ℕ). IsHeld records o at) (sym oldest)
      (known_made (IsHeld records (least l.oldest r.oldest)) b l r t v made (λ part at e. held_left records l.oldest r.oldest at (one part at e)) (λ part at e. held_right records l.oldest r.oldest at (other part at e)) part at e)

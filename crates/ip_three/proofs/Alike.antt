-- Where base and right have the same at a path and under it.
--     alike_stored, alike_nothing      in one record, or nothing
--     neither      of directories
--     alike_at      neither has read it.      alike_plans      nothing is to be done there
use Rattle.std.proofs.Common.{◌≡◌, ℕ, Bool, true, false, [], ◌∷◌, ◌++◌, refl, sym, ap, subst, ◌∙◌, Option, Some, None}
use Rattle.std.proofs.lemmas.Bool.{false≢true, eq-eqb}
use Rattle.std.specs.Prelude.{◌&&◌, ◌||◌, not, IsFalse, IsTrue, if◌then◌else◌}
use Rattle.ip_spec.specs.Map.{get}
use Rattle.ip_spec.specs.Merge.{Rule}
use Rattle.ip_spec.specs.Path.{Path}
use Rattle.ip_spec.specs.Tree.{Tree, is_contents, is_empty, subtree}
use Rattle.ip_spec.specs.View.{View, is_nil}
use Rattle.ip_spec.specs.declared.record.Record.{Record}
use Rattle.ip_spec.proofs.Subtrees.{empty_gets, get-subtree}
use Rattle.ip_tree.specs.Finding.{FindsIn}
use Rattle.ip_tree.specs.Node.{Node, stored, contents, directory}
use Rattle.ip_tree.proofs.Found.{subtree_on}
use Rattle.ip_tree.proofs.GotAt.{empty_on}
use Rattle.ip_differ.specs.Differing.{IsSameAt, IsUnread}
use Rattle.ip_three.specs.Going.{IsFrom, PlansAt}
use Rattle.ip_three.specs.Merging.{has_directory, record_at, same_directory, same_number}
use Rattle.ip_three.specs.Planning.{Plan, IsPlan}
use Rattle.ip_three.specs.Walking.{IsOneStored}
use Rattle.ip_three.proofs.Entries.{AreAlike}
use Rattle.ip_three.proofs.OneStored.{one_directory, one_gets, one_place}
use Rattle.ip_three.proofs.PlanSteps.{goes_on_same, nothing_from}

pub alike_stored : (b r : View) (path : Path) → IsOneStored r b path → AreAlike b r path
alike_stored b r path is p from = subst (λ (x : Path). (get b.map x ≡ get r.map x) × (same_directory r b x ≡ true)) (sym from.1) (sym (one_gets r b path is from.0), one_directory r b path is from.0)

-- ---- nothing

none_both : (x : Bool) → (x && false) ≡ false
none_both true = refl
none_both false = refl

empty_directory : (t : Tree) (nil : Bool) → nil ≡ false → is_empty t ≡ true → (not (is_contents t) && (nil || not (is_empty t))) ≡ false
empty_directory t nil e none = ap (λ b. not (is_contents t) && (b || not (is_empty t))) e ∙ ap (λ b. not (is_contents t) && not b) none ∙ none_both (not (is_contents t))

longer_some : (p q : Path) → is_nil p ≡ false → is_nil (p ++ q) ≡ false
longer_some [] q e = absurd (false≢true (sym e))
longer_some (s ∷ p) q e = refl

module _ (w : View) (path : Path) (some : IsFalse (is_nil path)) (none : IsTrue (is_empty (subtree w.map path))) where
  no_value : (rest : Path) → get w.map (path ++ rest) ≡ None
  no_value rest = sym (get-subtree w.map path rest) ∙ empty_gets (subtree w.map path) rest none

  no_directory : (rest : Path) → has_directory w.map (path ++ rest) ≡ false
  no_directory rest = empty_directory (subtree w.map (path ++ rest)) (is_nil (path ++ rest)) (longer_some path rest some) (ap is_empty (sym (subtree_on w.map path rest)) ∙ empty_on (subtree w.map path) rest none)

pub neither : (v w : View) (p : Path) → has_directory v.map p ≡ false → has_directory w.map p ≡ false → same_directory v w p ≡ true
neither v w p e f = λ i. if e i then has_directory w.map p && same_number (record_at v p) (record_at w p) else not (f i)

pub alike_nothing : (b r : View) (path : Path) → IsFalse (is_nil path) → IsTrue (is_empty (subtree b.map path)) → IsTrue (is_empty (subtree r.map path)) → AreAlike b r path
alike_nothing b r path some base right p from =
    subst (λ (x : Path). (get b.map x ≡ get r.map x) × (same_directory r b x ≡ true)) (sym from.1)
    (no_value b path some base from.0 ∙ sym (no_value r path some right from.0), neither r b (path ++ from.0) (no_directory r path some right from.0) (no_directory b path some base from.0))

-- ---- neither has read it

pub alike_at : (records : ℕ → Option Record) (b r : View) (path : Path) → IsFalse (is_nil path) → IsSameAt records b r path path → AreAlike b r path
alike_at records b r path some is = by is.node is.unread is.one is.other
  where
    by : (node : Option Node) → IsUnread node → FindsIn records b path node → FindsIn records r path node → AreAlike b r path
    by None unread base right = alike_nothing b r path some base right
    by (Some (stored x)) unread base right = alike_stored b r path (one_place records r b path (Some (stored x)) (Some (stored x)) right base (eq-eqb x.reference.at x.reference.at refl))
    by (Some (contents bytes)) unread base right = absurd unread
    by (Some (directory root ns)) unread base right = absurd unread

pub alike_plans : (rule : Rule) (b l r : View) (path : Path) (plan : Plan) → IsPlan rule b l r plan → AreAlike b r path → PlansAt rule b l r path plan plan
alike_plans rule b l r path plan is same = record { plan = is; goes = nothing_from rule b l r path (IsFrom path) plan same; goes_on = goes_on_same plan }

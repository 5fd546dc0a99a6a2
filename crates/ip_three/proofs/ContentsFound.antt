-- Contents by what was found at a path, and which side they come from.
--     stored_content, fresh_content, no_content      what was found, as contents or none
--     asked_record      what a record of contents leads to
--     alike_stays, right_stays, left_goes      what is settled by equations
--     --     same_decided      of equal bytes.      decided_settled, decided_all      what is decided by bytes is decided of the trees
use Rattle.std.proofs.Common.{◌≡◌, ℕ, Bool, true, false, [], refl, sym, ap, subst, ◌∙◌, Option, Some, None, arith}
use Rattle.std.specs.Prelude.{MatchResult, Result, Ok, Err}
use Rattle.sha2.specs.Sha256.{sha256}
use Rattle.ip_spec.specs.Map.{get}
use Rattle.ip_spec.specs.Merge.{Rule, same_value}
use Rattle.ip_spec.specs.Path.{Bytes, Path}
use Rattle.ip_spec.specs.Record.{Child}
use Rattle.ip_spec.specs.Tree as Tree
use Rattle.ip_spec.specs.Tree.{Tree, is_contents, subtree}
use Rattle.ip_spec.specs.View.{View}
use Rattle.ip_spec.specs.declared.record.Record.{Record}
use Rattle.ip_spec.specs.declared.record.Ref.{Ref}
use Rattle.ip_spec.proofs.Subtrees.{get-contents}
use Rattle.ip_tree.specs.Finding.{FindsIn}
use Rattle.ip_tree.specs.Meaning.{StoredIs, contents_in, directory_in}
use Rattle.ip_tree.specs.Node.{Node, contents, stored}
use Rattle.ip_tree.specs.Reads.{IsFree, Reaches, contents_at}
use Rattle.ip_tree.specs.declared.node.Stored.{Stored}
use Rattle.ip_tree.specs.declared.tree.TreeFault.{TreeFault}
use Rattle.ip_tree.proofs.StoredBelow.{child_of_contents}
use Rattle.ip_three.specs.Merging.{of_left, of_right, side_by}
use Rattle.ip_three.specs.Walking.{HoldsContent, IsDecided, IsDecidedBy, IsRecordOf, IsSettled, bytes_side, holds_at}
use Rattle.ip_three.specs.declared.contents.Content.TheVariants as content
use Rattle.ip_three.specs.declared.contents.Decided.{Decided}
use Rattle.ip_three.specs.declared.contents.Decided.TheVariants.{Answered, Stays, Taken}
use Rattle.ip_three.proofs.Sides.{same_is, same_itself, tests_are, value_same}
use Rattle.ip_three.proofs.SidesFound.{holds_is}
use Rattle.ip_three.proofs.Standing.{get_here}
use Rattle.ip_three.proofs.Values.{no_value}

module _ (records : ℕ → Option Record) where
  -- ---- what was found

  pub no_content : (w : View) (p : Path) (found : Option Node) → FindsIn records w p found → holds_at found ≡ false → get w.map p ≡ None
  no_content w p found is e = no_value (get w.map p) (sym (holds_is records w p found is) ∙ e)

  record_of : (x : Stored) (t : Tree) → StoredIs records x t → x.reference.kind ≡ 1 → (bytes : Bytes) × (t ≡ Tree.contents bytes) × IsRecordOf records x.reference bytes
  record_of x t (contents_in bytes is low child) kind =
      let both : ◌≡◌ {A = Child} (x.reference.kind, x.reference.name) (1, sha256 bytes) = child ∙ child_of_contents bytes in
      (bytes, refl, record { there = is; kind = kind; name = ap (λ (c : Child). c.1) both })
  record_of x t (directory_in sub some spells) kind = absurd (let two = spells.kind in omega (arith, two, kind))

  bytes_here : (w : View) (p : Path) (bytes : Bytes) → subtree w.map p ≡ Tree.contents bytes → get w.map p ≡ Some bytes
  bytes_here w p bytes is = sym (get_here w.map p) ∙ ap (λ (t : Tree). get t []) is ∙ get-contents bytes []

  pub stored_content : (w : View) (p : Path) (x : Stored) → FindsIn records w p (Some (stored x)) → x.reference.kind ≡ 1 → HoldsContent records (get w.map p) (content.Stored x.reference)
  stored_content w p x is kind = let r = record_of x (subtree w.map p) is.means kind in (r.0, bytes_here w p r.0 r.1, r.2)

  pub fresh_content : (w : View) (p : Path) (bytes : Bytes) → FindsIn records w p (Some (contents bytes)) → get w.map p ≡ Some bytes
  fresh_content w p bytes is = bytes_here w p bytes is.means

  -- ---- fetching

  pub asked_record : (r : Ref) (bytes : Bytes) → IsRecordOf records r bytes → Reaches records r (Tree.contents bytes)
  asked_record r bytes is = contents_at bytes is.there is.kind is.name

-- ---- the side of contents

pub alike_stays : (o l r : Option Bytes) → l ≡ r → bytes_side o l r ≡ Some of_left
alike_stays o l r e = ap (λ s. side_by s (same_value l o) (same_value r o)) (same_is l r e)

-- the right side is the base's
pub right_stays : (o l r : Option Bytes) → r ≡ o → bytes_side o l r ≡ Some of_left
right_stays o l r e = ap (λ (x : Option Bytes). side_by (same_value l r) (same_value l x) (same_value r x)) (sym e) ∙ ap (side_by (same_value l r) (same_value l r)) (same_itself r) ∙ by (same_value l r)
  where
    by : (s : Bool) → side_by s s true ≡ Some of_left
    by true = refl
    by false = refl

-- the left side is the base's, and not the right one's
pub left_goes : (o l r : Option Bytes) → l ≡ o → (l ≡ r → ⊥) → bytes_side o l r ≡ Some of_right
left_goes o l r e other = by (same_value l r) refl
  where
    by : (s : Bool) → same_value l r ≡ s → bytes_side o l r ≡ Some of_right
    by true f = absurd (other (value_same l r f))
    by false f = (λ i. side_by (f i) (same_is l o e i) (same_value r o))

-- ---- what is decided

pub same_decided : (rule : Rule) (o l r u v w : Option Bytes) (p : Path) (d : Decided) → u ≡ o → v ≡ l → w ≡ r → IsDecidedBy rule u v w p d → IsDecidedBy rule o l r p d
same_decided rule o l r u v w p d e f g is =
    subst (λ (x : Option Bytes). IsDecidedBy rule x l r p d) e (subst (λ (x : Option Bytes). IsDecidedBy rule u x r p d) f (subst (λ (x : Option Bytes). IsDecidedBy rule u v x p d) g is))

settled_by : (rule : Rule) (o l r : Option Bytes) (p : Path) (d : Decided) → IsSettled o l r d → IsDecidedBy rule o l r p d
settled_by rule o l r p Stays is = is
settled_by rule o l r p Taken is = is
settled_by rule o l r p (Answered m) is = absurd is

module _ (rule : Rule) (b l r : View) (p : Path) where
  decided_by : (d : Decided) → IsDecidedBy rule (get b.map p) (get l.map p) (get r.map p) p d → IsDecided rule b l r p d
  decided_by Stays is = tests_are rule b l r p ∙ is
  decided_by Taken is = tests_are rule b l r p ∙ is
  decided_by (Answered m) is = (tests_are rule b l r p ∙ is.0, is.1)

  pub decided_settled : (d : Decided) → IsSettled (get b.map p) (get l.map p) (get r.map p) d → IsDecided rule b l r p d
  decided_settled d is = decided_by d (settled_by rule (get b.map p) (get l.map p) (get r.map p) p d is)

  pub decided_all : (result : Result Decided TreeFault) → MatchResult result (IsDecidedBy rule (get b.map p) (get l.map p) (get r.map p) p) IsFree → MatchResult result (IsDecided rule b l r p) IsFree
  decided_all (Ok d) is = decided_by d is
  decided_all (Err fault) is = is

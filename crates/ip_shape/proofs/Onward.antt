-- The way to a step, as far as it was read, and on.
use Rattle.std.proofs.Common.{◌≡◌, ◌≤◌, ◌-◌, ℕ, zero, suc, Bool, true, false, List, [], ◌∷◌, length, take, drop, sym, ap, ◌∙◌, refl, arith, Option, Some, None}
use Rattle.std.specs.Prelude.{IfSome, is_none, is_some, option_and_then, option_map, slice_get}
use Rattle.std.proofs.lemmas.Bool.{false≢true}
use Rattle.ip_spec.specs.Path.{Step}
use Rattle.ip_spec.specs.Shape.{deepest}
use Rattle.ip_spec.specs.View.{leads}
use Rattle.ip_shape.specs.Shape.{IsPart}
use Rattle.ip_shape.specs.Loaded.{unread_in, unread_here, unread_below, way, way_to}
use Rattle.ip_shape.specs.Reading.{IsUnreadOn}
use Rattle.ip_shape.specs.declared.part.Part.{Part, out-Part}
use Rattle.ip_shape.specs.declared.part.Part.TheOpen as layer
use Rattle.ip_shape.specs.declared.part.Part.TheOpen.{Part-F}
use Rattle.ip_shape.proofs.Entering.{long_way, none_missing}
use Rattle.ip_shape.proofs.LeafRead.{cut_off, on_way, short}

pub long_way_to : (s : Step) → length (way_to s) ≡ deepest
unfolding way_to
long_way_to s = long_way deepest 0 s

no_some : {A : Type 0} (x : A) → None ≡ Some x → ⊥
no_some x e = false≢true (ap is_some e)

pub mapped_on : {A B C : Type 0} (f : B → C) (g : A → B) (o : Option A) → option_map f (option_map g o) ≡ option_map (λ x. f (g x)) o
mapped_on f g None = refl
mapped_on f g (Some x) = refl

module _ {R : Type 0} where
  list_in : Option (R × List ℕ) → List ℕ
  list_in None = []
  list_in (Some p) = p.1

  record_in : R → Option (R × List ℕ) → R
  record_in r None = r
  record_in r (Some p) = p.0

  apart : (q r : R) (i : ℕ) (is : List ℕ) → ◌≡◌ {A = Option (R × List ℕ)} (Some (q, i ∷ is)) (Some (r, [])) → ⊥
  unfolding list_in
  apart q r i is e =
      let lists : i ∷ is ≡ [] = ap list_in e in
      absurd (omega (arith, ap length lists))

  one_record : (q r : R) → ◌≡◌ {A = Option (R × List ℕ)} (Some (q, [])) (Some (r, [])) → q ≡ r
  unfolding record_in
  one_record q r e = ap (record_in r) e

  from_here : (i : ℕ) (is : List ℕ) (r : R) (l : Part-F R (Part R)) → unread_here l ≡ Some (r, []) → unread_below (unread_in is) i is l ≡ Some (r, i ∷ is)
  from_here i is r (layer.Leaf known held) e = absurd (no_some (r, []) e)
  from_here i is r (layer.Inode known n children) e = absurd (no_some (r, []) e)
  from_here i is r (layer.Unread q n) e = ap (λ x. Some (x, i ∷ is)) (one_record q r e)

  from_child : (i : ℕ) (front is rest : List ℕ) (r : R) (l : Part-F R (Part R)) → ((child : Part R) → unread_in front child ≡ Some (r, []) → unread_in is child ≡ Some (r, rest))
      → unread_below (unread_in front) i front l ≡ Some (r, []) → unread_below (unread_in is) i is l ≡ Some (r, rest)
  from_child i front is rest r (layer.Leaf known held) below e = absurd (no_some (r, []) e)
  from_child i front is rest r (layer.Inode known n children) below e = at (slice_get children.items i) e
    where
      at : (o : Option (Part R)) → option_and_then (unread_in front) o ≡ Some (r, []) → option_and_then (unread_in is) o ≡ Some (r, rest)
      at None found = absurd (no_some (r, []) found)
      at (Some child) found = below child found
  from_child i front is rest r (layer.Unread q n) below e = absurd (apart q r i front e)

  -- an unread part is what stands on every way through it
  pub further : (k : ℕ) (is : List ℕ) (part : Part R) (r : R) → unread_in (take k is) part ≡ Some (r, []) → unread_in is part ≡ Some (r, drop k is)
  further zero [] part r e = e
  further zero (i ∷ is) part r e = from_here i is r (out-Part R part) e
  further (suc k) [] part r e = e
  further (suc k) (i ∷ is) part r e = from_child i (take k is) is (drop k is) r (out-Part R part) (λ child f. further k is child r f) e

  -- the part where it was found, and what is told of the whole way
  pub part_on : (s : Step) (root : Part R) (depth : ℕ) (r : R) → IsUnreadOn 0 (way (deepest - 0) 0 s) root (Some (depth, r)) → unread_in (take depth (way_to s)) root ≡ Some (r, [])
  unfolding way_to
  part_on s root depth r is =
      let all : depth - 0 ≡ depth = omega arith in
      ap (λ k. unread_in (take k (way deepest 0 s)) root) (sym all) ∙ is.1

  pub parts_on : {A : Type 0} (s : Step) (root : Part R) (shown : A → ℕ × R) (o : Option A) → IsUnreadOn 0 (way (deepest - 0) 0 s) root (option_map shown o)
      → IfSome o (λ f. unread_in (take (shown f).0 (way_to s)) root ≡ Some ((shown f).1, []))
  parts_on s root shown None is = tt
  parts_on s root shown (Some f) is = part_on s root (shown f).0 (shown f).1 is

  pub first_on : (s : Step) (root : Part R) (found : Option (ℕ × R)) → IsUnreadOn 0 (way (deepest - 0) 0 s) root found → option_map (λ f. (f.1, drop f.0 (way_to s))) found ≡ unread_in (way_to s) root
  first_on s root None is = sym (none_missing s root is)
  first_on s root (Some f) is = sym (further f.0 (way_to s) root f.1 (part_on s root f.0 f.1 is))

  pub no_lead : (s : Step) (is : List ℕ) (r : R) (root : Part R) → length is ≤ 51 → unread_in (way_to s) root ≡ None → unread_in is root ≡ Some (r, []) → leads 0 is s ≡ false
  no_lead s is r root le none found = by (leads 0 is s) refl
    where
      by : (b : Bool) → leads 0 is s ≡ b → b ≡ false
      by false e = refl
      by true e = absurd (false≢true (sym (cut_off is (way_to s) r root found (on_way is s le ∙ e)) ∙ ap is_none none))

  pub none_leads : (s : Step) (steps : List Step) (is : List ℕ) (r : R) (root : Part R) → IsPart deepest 0 steps root → unread_in (way_to s) root ≡ None → unread_in is root ≡ Some (r, []) → leads 0 is s ≡ false
  none_leads s steps is r root stands none found = no_lead s is r root (short is deepest 0 r steps root stands found) none found

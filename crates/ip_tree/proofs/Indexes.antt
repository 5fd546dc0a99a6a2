-- Indexes in front of others, and what is unread there.
--     behind_is      what is left behind those in front
--     way_next       on the way to a step the next index is the step's place
--     first_unread      what is found unread stands at the first of the indexes
--     unread_behind      and behind it the same is found
--     read_above      where nothing is unread on the way to a step, nothing is on the first of its indexes
use Rattle.std.proofs.Common.{◌≡◌, ℕ, zero, suc, ◌+◌, Bool, true, false, List, [], ◌∷◌, ◌++◌, length, refl, sym, ap, ◌∙◌, Option, Some, None, inl, inr, arith}
use Rattle.std.specs.Prelude.{cond, ◌==◌, ◌&&◌, is_some, is_none, option_and_then, slice_get, unwrap_or}
use Rattle.std.proofs.lemmas.Bool.{false≢true, eq-eqb, ne_eqb}
use Rattle.ip_spec.specs.Path.{Step}
use Rattle.ip_spec.specs.Shape.{place, deepest}
use Rattle.ip_spec.specs.View.{leads}
use Rattle.ip_shape.specs.Loaded.{behind, unread_in, unread_here, unread_below, way, way_to}
use Rattle.ip_shape.specs.declared.part.Part.{Part, out-Part}
use Rattle.ip_shape.specs.declared.part.Part.TheOpen as layer
use Rattle.ip_shape.specs.declared.part.Part.TheOpen.{Part-F}
use Rattle.ip_shape.specs.Shape.{IsPart}
use Rattle.ip_shape.proofs.LeafRead.{cut_off, on_way, short}
use Rattle.ip_shape.proofs.Ways.{same_or_not}

pub no_some : {A X : Type 0} (x : A) → None ≡ Some x → X
no_some x e = absurd (false≢true (ap is_some e))

pub some_same : {A : Type 0} (x y : A) → Some x ≡ Some y → x ≡ y
some_same x y e = ap (λ o. unwrap_or o x) e

pub no_list : {X : Type 0} (i : ℕ) (is : List ℕ) → i ∷ is ≡ [] → X
no_list i is e = absurd (omega (arith, ap (λ (l : List ℕ). length l) e))

pub behind_is : (is q rest : List ℕ) → behind is q ≡ Some rest → q ≡ is ++ rest
behind_is [] q rest e = some_same q rest e
behind_is (i ∷ is) [] rest e = no_some rest e
behind_is (i ∷ is) (j ∷ q) rest e = elim (same_or_not i j) [
  | inl same ↦ ap (λ k. k ∷ q) (sym same) ∙ ap (λ (l : List ℕ). i ∷ l) (behind_is is q rest (sym (ap (λ b. cond b (behind is q) None) (eq-eqb i j same)) ∙ e))
  | inr apart ↦ no_some rest (sym (ap (λ b. cond b (behind is q) None) (ne_eqb i j apart)) ∙ e)
]

pub behind_front : (is rest w : List ℕ) → is_some (behind (is ++ rest) w) ≡ true → is_some (behind is w) ≡ true
behind_front [] rest w e = refl
behind_front (i ∷ is) rest [] e = e
behind_front (i ∷ is) rest (j ∷ w) e = by (i == j) (λ f. behind_front is rest w f) e
  where
    by : (b : Bool) → (is_some (behind (is ++ rest) w) ≡ true → is_some (behind is w) ≡ true) → is_some (cond b (behind (is ++ rest) w) None) ≡ true → is_some (cond b (behind is w) None) ≡ true
    by true deeper f = deeper f
    by false deeper f = f

both_first : (a b : Bool) → (a && b) ≡ true → a ≡ true
both_first true b e = refl
both_first false b e = e

both_second : (a b : Bool) → (a && b) ≡ true → b ≡ true
both_second true b e = e
both_second false b e = absurd (false≢true e)

pub leads_front : (front left : List ℕ) (depth : ℕ) (s : Step) → leads depth (front ++ left) s ≡ true → leads depth front s ≡ true
leads_front [] left depth s e = refl
leads_front (i ∷ front) left depth s e =
    ap (λ b. b && leads (suc depth) front s) (both_first (place s depth == i) (leads (suc depth) (front ++ left) s) e)
    ∙ leads_front front left (suc depth) s (both_second (place s depth == i) (leads (suc depth) (front ++ left) s) e)

first_index : List ℕ → ℕ → ℕ
first_index [] d = d
first_index (i ∷ is) d = i

way_from : (is : List ℕ) (levels depth : ℕ) (s : Step) (i : ℕ) (rest : List ℕ) → behind is (way levels depth s) ≡ Some (i ∷ rest) → i ≡ place s (depth + length is)
unfolding first_index
way_from [] zero depth s i rest e = no_list i rest (sym (some_same [] (i ∷ rest) e))
way_from [] (suc levels) depth s i rest e =
    let all : depth ≡ depth + 0 = omega arith in
    ap (λ (l : List ℕ). first_index l i) (sym (some_same (place s depth ∷ way levels (suc depth) s) (i ∷ rest) e)) ∙ ap (place s) all
way_from (j ∷ is) zero depth s i rest e = no_some (i ∷ rest) e
way_from (j ∷ is) (suc levels) depth s i rest e = elim (same_or_not j (place s depth)) [
  | inl same ↦
      let next : suc depth + length is ≡ depth + suc (length is) = omega arith in
      way_from is levels (suc depth) s i rest (sym (ap (λ b. cond b (behind is (way levels (suc depth) s)) None) (eq-eqb j (place s depth) same)) ∙ e) ∙ ap (place s) next
  | inr apart ↦ no_some (i ∷ rest) (sym (ap (λ b. cond b (behind is (way levels (suc depth) s)) None) (ne_eqb j (place s depth) apart)) ∙ e)
]

pub way_next : (is : List ℕ) (s : Step) (i : ℕ) (rest : List ℕ) → behind is (way_to s) ≡ Some (i ∷ rest) → i ≡ place s (length is)
unfolding way_to
way_next is s i rest e = let none : 0 + length is ≡ length is = omega arith in way_from is deepest 0 s i rest e ∙ ap (place s) none

module _ {R : Type 0} where
  abbrev at_layer : List ℕ → Part-F R (Part R) → Option (R × List ℕ)
  at_layer [] l = unread_here l
  at_layer (i ∷ is) l = unread_below (unread_in is) i is l

  by_layer : (is : List ℕ) (part : Part R) → at_layer is (out-Part R part) ≡ unread_in is part
  by_layer [] part = refl
  by_layer (i ∷ is) part = refl

  list_in : Option (R × List ℕ) → List ℕ
  list_in None = []
  list_in (Some p) = p.1

  record_in : Option (R × List ℕ) → R → R
  record_in None r = r
  record_in (Some p) r = p.0

  pub same_record : (q r : R) (is js : List ℕ) → ◌≡◌ {A = Option (R × List ℕ)} (Some (q, is)) (Some (r, js)) → q ≡ r
  unfolding record_in
  same_record q r is js e = ap (λ o. record_in o q) e

  pub same_left : (q r : R) (is js : List ℕ) → ◌≡◌ {A = Option (R × List ℕ)} (Some (q, is)) (Some (r, js)) → is ≡ js
  unfolding list_in
  same_left q r is js e = ap list_in e

  unread_more : (rest : List ℕ) (r : R) (l : Part-F R (Part R)) → unread_here l ≡ Some (r, []) → at_layer rest l ≡ Some (r, rest)
  unread_more rest r (layer.Leaf known steps) e = no_some (r, []) e
  unread_more rest r (layer.Inode known count children) e = no_some (r, []) e
  unread_more [] r (layer.Unread q n) e = e
  unread_more (i ∷ is) r (layer.Unread q n) e = ap (λ x. Some (x, i ∷ is)) (same_record q r [] [] e)

  below_more : (i : ℕ) (is rest : List ℕ) (r : R) (l : Part-F R (Part R)) → ((child : Part R) → unread_in is child ≡ Some (r, []) → unread_in (is ++ rest) child ≡ Some (r, rest))
      → unread_below (unread_in is) i is l ≡ Some (r, []) → unread_below (unread_in (is ++ rest)) i (is ++ rest) l ≡ Some (r, rest)
  below_more i is rest r (layer.Leaf known steps) deeper e = no_some (r, []) e
  below_more i is rest r (layer.Inode known count children) deeper e = at (slice_get children.items i) e
    where
      at : (o : Option (Part R)) → option_and_then (unread_in is) o ≡ Some (r, []) → option_and_then (unread_in (is ++ rest)) o ≡ Some (r, rest)
      at None f = no_some (r, []) f
      at (Some child) f = deeper child f
  below_more i is rest r (layer.Unread q n) deeper e = no_list i is (same_left q r (i ∷ is) [] e)

  pub unread_behind : (is rest : List ℕ) (r : R) (part : Part R) → unread_in is part ≡ Some (r, []) → unread_in (is ++ rest) part ≡ Some (r, rest)
  unread_behind [] rest r part e = sym (by_layer rest part) ∙ unread_more rest r (out-Part R part) e
  unread_behind (i ∷ is) rest r part e = below_more i is rest r (out-Part R part) (λ child f. unread_behind is rest r child f) e

  -- the indexes to what is unread, and those behind it
  pub record Unread (is : List ℕ) (r : R) (left : List ℕ) (part : Part R) : Type 0 where
    pub front : List ℕ
    pub whole : is ≡ front ++ left
    pub found : unread_in front part ≡ Some (r, [])

  here_unread : (r : R) (left : List ℕ) (part : Part R) (l : Part-F R (Part R)) → out-Part R part ≡ l → unread_here l ≡ Some (r, left) → Unread [] r left part
  here_unread r left part (layer.Leaf known steps) is e = no_some (r, left) e
  here_unread r left part (layer.Inode known count children) is e = no_some (r, left) e
  here_unread r left part (layer.Unread q n) is e = record { front = []; whole = same_left q r [] left e; found = ap unread_here is ∙ ap (λ x. Some (x, [])) (same_record q r [] left e) }

  below_unread : (i : ℕ) (is : List ℕ) (r : R) (left : List ℕ) (part : Part R) (l : Part-F R (Part R)) → ((child : Part R) → unread_in is child ≡ Some (r, left) → Unread is r left child)
      → out-Part R part ≡ l → unread_below (unread_in is) i is l ≡ Some (r, left) → Unread (i ∷ is) r left part
  below_unread i is r left part (layer.Leaf known steps) deeper out e = no_some (r, left) e
  below_unread i is r left part (layer.Inode known count children) deeper out e = at (slice_get children.items i) refl e
    where
      at : (o : Option (Part R)) → slice_get children.items i ≡ o → option_and_then (unread_in is) o ≡ Some (r, left) → Unread (i ∷ is) r left part
      at None there f = no_some (r, left) f
      at (Some child) there f =
          let u = deeper child f in
          record { front = i ∷ u.front; whole = ap (λ (l : List ℕ). i ∷ l) u.whole; found = ap (unread_below (unread_in u.front) i u.front) out ∙ ap (option_and_then (unread_in u.front)) there ∙ u.found }
  below_unread i is r left part (layer.Unread q n) deeper out e =
      record { front = []; whole = same_left q r (i ∷ is) left e; found = ap unread_here out ∙ ap (λ x. Some (x, [])) (same_record q r (i ∷ is) left e) }

  pub first_unread : (is : List ℕ) (r : R) (left : List ℕ) (part : Part R) → unread_in is part ≡ Some (r, left) → Unread is r left part
  first_unread [] r left part e = here_unread r left part (out-Part R part) refl e
  first_unread (i ∷ is) r left part e = below_unread i is r left part (out-Part R part) (λ child f. first_unread is r left child f) refl e

  pub read_above : (is : List ℕ) (s : Step) (steps : List Step) (root : Part R) → IsPart deepest 0 steps root → leads 0 is s ≡ true → unread_in (way_to s) root ≡ None → unread_in is root ≡ None
  read_above is s steps root shape there read = by (unread_in is root) refl
    where
      by : (o : Option (R × List ℕ)) → unread_in is root ≡ o → o ≡ None
      by None e = refl
      by (Some u) e =
          let f = first_unread is u.0 u.1 root e in
          let on : leads 0 f.front s ≡ true = leads_front f.front u.1 0 s (ap (λ l. leads 0 l s) (sym f.whole) ∙ there) in
          absurd (false≢true (sym (cut_off f.front (way_to s) u.0 root f.found (on_way f.front s (short f.front deepest 0 u.0 steps root shape f.found) ∙ on)) ∙ ap is_none read))

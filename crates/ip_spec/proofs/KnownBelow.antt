-- Contents below a known part stay known.
--     same_under      where the same parts are known
--     none_below, put_below, remove_below, graft_below      after each edit; a graft needs it of the source too
--     part_of_contents      contents are a part
use Rattle.std.proofs.Common.{◌≡◌, ℕ, List, [], ◌∷◌, ◌++◌, refl, sym, ap, subst, ◌∙◌, Option, Some, None, Bool, true, false, cond, append_assoc}
use Rattle.std.proofs.lemmas.Bool.{false≢true}
use Rattle.std.proofs.lemmas.List.{append-nil}
use Rattle.std.specs.Prelude.{not, ◌||◌, ◌&&◌, is_some, IsSome, IsTrue, if◌then◌else◌}
use Rattle.ip_spec.specs.Map.{get}
use Rattle.ip_spec.specs.Path.{Bytes, Step, Path, after_prefix, is_prefix, is_related, same_bytes, same_path}
use Rattle.ip_spec.specs.Tree.{Tree, entries_of, graft, is_contents, is_empty, put, remove, subtree}
use Rattle.ip_spec.specs.View.{KnowsBelow, KnowsUnder, Part, View, edit_view, graft_view, grafted_known, holds_behind, is_nil, is_part, is_part_from, leads, no_view, put_view, remove_view, touches}
use Rattle.ip_spec.proofs.GraftLaws.{get-graft, get-graft_beside}
use Rattle.ip_spec.proofs.Subtrees.{get-subtree, prefix_of_append, same_as, same_bytes_turned, same_step, step_itself}
use Rattle.ip_spec.proofs.TreeLaws.{get-put, get-remove}
use Rattle.std.specs.Ordering.{is_eq}

abbrev at : Path → List ℕ → Part
at p is = record { path = p; indexes = is }

-- ---- tests

left_of : (a b : Bool) → (a || b) ≡ false → a ≡ false
left_of true b e = e
left_of false b e = refl

right_of : (a b : Bool) → (a || b) ≡ false → b ≡ false
right_of true b e = absurd (false≢true (sym e))
right_of false b e = e

both_off : (a b : Bool) → a ≡ false → b ≡ false → (a || b) ≡ false
both_off a b e f = ap (λ x. x || b) e ∙ f

off_left : (a b : Bool) → a ≡ false → (a && b) ≡ false
off_left a b e = ap (λ x. x && b) e

-- ---- paths

step_same : (s : Step) → same_bytes s s ≡ true
step_same s = ap is_eq (step_itself s)

apart_paths : (s r : Step) (p q : Path) → same_bytes s r ≡ false → is_related (s ∷ p) (r ∷ q) ≡ false
apart_paths s r p q e = both_off _ _ (off_left (same_bytes s r) (is_prefix p q) e) (off_left (same_bytes r s) (is_prefix q p) (same_bytes_turned r s ∙ e))

related_under : (s : Step) (p q : Path) → is_related (s ∷ p) (s ∷ q) ≡ is_related p q
related_under s p q = ap (λ b. b && is_prefix p q || b && is_prefix q p) (step_same s)

after_none : (p q : Path) → is_prefix p q ≡ false → after_prefix p q ≡ None
after_none [] q e = absurd (false≢true (sym e))
after_none (s ∷ p) [] e = refl
after_none (s ∷ p) (r ∷ q) e = by (same_bytes s r) e (λ f. after_none p q f)
  where
    by : (b : Bool) → (b && is_prefix p q) ≡ false → (is_prefix p q ≡ false → after_prefix p q ≡ None) → cond b (after_prefix p q) None ≡ None
    by true f deeper = deeper f
    by false f deeper = refl

-- what is left behind a prefix
abbrev IsLeft : Path → Path → Option Path → Type 0
IsLeft p q (Some rest) = q ≡ p ++ rest
IsLeft p q None = is_prefix p q ≡ false

left_behind : (p q : Path) → IsLeft p q (after_prefix p q)
left_behind [] q = refl
left_behind (s ∷ p) [] = refl
left_behind (s ∷ p) (r ∷ q) = by (same_bytes s r) refl (after_prefix p q) (left_behind p q)
  where
    by : (b : Bool) → same_bytes s r ≡ b → (o : Option Path) → IsLeft p q o → IsLeft (s ∷ p) (r ∷ q) (cond b o None)
    by true e (Some rest) is = ap (λ (k : Step). k ∷ q) (sym (same_step s r e)) ∙ ap (λ (l : Path). s ∷ l) is
    by true e None is = ap (λ b. b && is_prefix p q) e ∙ is
    by false e o is = off_left (same_bytes s r) (is_prefix p q) e

-- no path touches contents that are not related to it
untouched_contents : (path q : Path) → is_related path q ≡ false → touches (at q []) path ≡ false
untouched_contents path q e =
    both_off (is_prefix path q) (holds_behind [] (after_prefix q path)) (left_of (is_prefix path q) (is_prefix q path) e)
    (ap (holds_behind []) (after_none q path (right_of (is_prefix path q) (is_prefix q path) e)))

-- what a part holds is not related to a path that does not touch the part
unrelated_held : (above : Path) (is : List ℕ) (s : Step) (below path : Path) → leads 0 is s ≡ true → touches (at above is) path ≡ false → is_related path (above ++ s ∷ below) ≡ false
unrelated_held above is s below [] leading apart = absurd (false≢true (sym apart))
unrelated_held [] is s below (t ∷ path) leading apart = by (same_bytes t s) refl
  where
    by : (b : Bool) → same_bytes t s ≡ b → is_related (t ∷ path) (s ∷ below) ≡ false
    by true e = absurd (false≢true (sym apart ∙ ap (leads 0 is) (same_step t s e) ∙ leading))
    by false e = apart_paths t s path below e
unrelated_held (a ∷ above) is s below (t ∷ path) leading apart = by (same_bytes t a) refl (λ f. unrelated_held above is s below path leading f)
  where
    inner : t ≡ a → touches (at above is) path ≡ false
    inner same =
        sym (ap (λ b. (b && is_prefix path above) || holds_behind is (cond b (after_prefix above path) None)) (step_same a))
        ∙ ap (λ (k : Step). touches (at (a ∷ above) is) (k ∷ path)) (sym same) ∙ apart

    by : (b : Bool) → same_bytes t a ≡ b → (touches (at above is) path ≡ false → is_related path (above ++ s ∷ below) ≡ false) → is_related (t ∷ path) (a ∷ (above ++ s ∷ below)) ≡ false
    by true e deeper = let same = same_step t a e in ap (λ (k : Step). is_related (k ∷ path) (a ∷ (above ++ s ∷ below))) same ∙ related_under a path (above ++ s ∷ below) ∙ deeper (inner same)
    by false e deeper = apart_paths t a path (above ++ s ∷ below) e

-- ---- contents

pub part_of_contents : (t : Tree) (q : Path) → IsSome (get t q) → is_part t (at q []) ≡ true
part_of_contents t q here =
    ap (λ b. if b then true else if is_empty (subtree t q) then is_nil q && true else is_part_from 0 (entries_of (subtree t q)).entries [])
    (ap is_some (get-subtree t q [] ∙ ap (get t) (append-nil q)) ∙ here)

kept_by : (a b : Bool) (o : Option ℕ) → IsSome (if a && not b then o else None) → (b ≡ false) × IsSome o
kept_by true true o k = absurd (false≢true k)
kept_by true false o k = (refl, k)
kept_by false b o k = absurd (false≢true k)

keeps_by : (a b : Bool) (o : Option ℕ) → a ≡ true → b ≡ false → IsSome o → IsSome (if a && not b then o else None)
keeps_by a b o e f some = ap (λ x. is_some (if x && not b then o else None)) e ∙ ap (λ x. is_some (if true && not x then o else None)) f ∙ some

-- ---- views

pub same_under : (known other : Part → Option ℕ) (map : Tree) → ((part : Part) → other part ≡ known part) → KnowsUnder known map → KnowsUnder other map
same_under known other map same is above indexes s below leading k here =
    ap is_some (same (at (above ++ s ∷ below) [])) ∙ is above indexes s below leading (sym (ap is_some (same (at above indexes))) ∙ k) here

pub none_below : KnowsBelow no_view
unfolding no_view
none_below above indexes s below leading k here = absurd (false≢true k)

edit_below : (v : View) (path : Path) (map : Tree) → ((q : Path) → is_related path q ≡ false → get map q ≡ get v.map q) → KnowsBelow v → KnowsBelow (edit_view v path map)
edit_below v path map same is above indexes s below leading k here =
    let kept = kept_by (is_part map (at above indexes)) (touches (at above indexes) path) (v.known (at above indexes)) k in
    let apart = unrelated_held above indexes s below path leading kept.0 in
    let q = above ++ s ∷ below in
    keeps_by (is_part map (at q [])) (touches (at q []) path) (v.known (at q [])) (part_of_contents map q here) (untouched_contents path q apart)
    (is above indexes s below leading kept.1 (sym (ap is_some (same q apart)) ∙ here))

prefix_itself : (p : Path) → is_prefix p p ≡ true
prefix_itself p = ap (is_prefix p) (sym (append-nil p)) ∙ prefix_of_append p []

put_apart : (t : Tree) (path : Path) (bytes : Bytes) (q : Path) → is_related path q ≡ false → get (put t path bytes) q ≡ get t q
put_apart t path bytes q apart =
    get-put t path q bytes ∙ ap (λ b. cond b (Some bytes) (cond (not (is_related path q)) (get t q) None)) (other (same_path q path) refl)
    ∙ ap (λ b. cond (not b) (get t q) None) apart
  where
    other : (b : Bool) → same_path q path ≡ b → same_path q path ≡ false
    other true e = absurd (false≢true (sym apart ∙ ap (is_related path) (same_as q path e) ∙ ap (λ b. b || is_prefix path path) (prefix_itself path)))
    other false e = e

pub put_below : (v : View) (path : Path) (bytes : Bytes) → KnowsBelow v → KnowsBelow (put_view v path bytes)
unfolding put_view
put_below v path bytes is = edit_below v path (put v.map path bytes) (put_apart v.map path bytes) is

pub remove_below : (v : View) (path : Path) → KnowsBelow v → KnowsBelow (remove_view v path)
unfolding remove_view
remove_below v path is =
    edit_below v path (remove v.map path) (λ q apart. get-remove v.map path q ∙ ap (λ b. cond (not b) (get v.map q) None) (left_of (is_prefix path q) (is_prefix q path) apart)) is

-- ---- a graft

part_by : (a : Bool) (o : Option ℕ) → IsSome (if a then o else None) → IsSome o
part_by true o k = k
part_by false o k = absurd (false≢true k)

old_by : (b : Bool) (o : Option ℕ) → IsSome (if b then None else o) → (b ≡ false) × IsSome o
old_by true o k = absurd (false≢true k)
old_by false o k = (refl, k)

after_append : (p q : Path) → after_prefix p (p ++ q) ≡ Some q
after_append [] q = refl
after_append (s ∷ p) q = ap (λ b. cond b (after_prefix p (p ++ q)) None) (step_same s) ∙ after_append p q

module _ (v source : View) (from to : Path) (is : KnowsBelow v) (source_is : KnowsBelow source) where
  abbrev map : Tree
  map = graft v.map source.map from to

  abbrev old : Part → Option ℕ
  old part = if touches part to then None else v.known part

  -- of what was grafted
  inside : (rest : Path) (indexes : List ℕ) (s : Step) (below : Path) → IsTrue (leads 0 indexes s) → IsSome (source.known (at (from ++ rest) indexes)) → IsSome (get map (to ++ (rest ++ s ∷ below)))
      → IsSome (source.known (at (from ++ (rest ++ s ∷ below)) []))
  inside rest indexes s below leading k here =
      let turned : (from ++ rest) ++ s ∷ below ≡ from ++ (rest ++ s ∷ below) = append_assoc from rest (s ∷ below) in
      subst (λ (q : Path). IsSome (source.known (at q []))) turned
      (source_is (from ++ rest) indexes s below leading k (ap (λ (q : Path). is_some (get source.map q)) turned ∙ sym (ap is_some (get-graft v.map source.map from to (rest ++ s ∷ below))) ∙ here))

  graft_known : (q : Path) → IsSome (get map q) → IsSome (grafted_known v source from [] (after_prefix to q) (old (at q []))) → IsSome ((graft_view v source from to).known (at q []))
  unfolding graft_view
  graft_known q here k = ap (λ b. is_some (if b then grafted_known v source from [] (after_prefix to q) (old (at q [])) else None)) (part_of_contents map q here) ∙ k

  beside : (above : Path) (indexes : List ℕ) (s : Step) (below : Path) → IsTrue (leads 0 indexes s) → (touches (at above indexes) to ≡ false) × IsSome (v.known (at above indexes)) → IsSome (get map (above ++ s ∷ below))
      → IsSome (grafted_known v source from [] (after_prefix to (above ++ s ∷ below)) (old (at (above ++ s ∷ below) [])))
  beside above indexes s below leading kept here =
      let q = above ++ s ∷ below in
      let apart = unrelated_held above indexes s below to leading kept.0 in
      let off = left_of (is_prefix to q) (is_prefix q to) apart in
      ap (λ o. is_some (grafted_known v source from [] o (old (at q [])))) (after_none to q off)
      ∙ ap (λ b. is_some (if b then None else v.known (at q []))) (untouched_contents to q apart)
      ∙ is above indexes s below leading kept.1 (sym (ap is_some (get-graft_beside v.map source.map from to q off ∙ ap (λ b. cond (not b) (get v.map q) None) apart)) ∙ here)

  by_place : (above : Path) (indexes : List ℕ) (s : Step) (below : Path) → IsTrue (leads 0 indexes s) → (o : Option Path) → IsLeft to above o → IsSome (grafted_known v source from indexes o (old (at above indexes))) → IsSome (get map (above ++ s ∷ below))
      → IsSome (grafted_known v source from [] (after_prefix to (above ++ s ∷ below)) (old (at (above ++ s ∷ below) [])))
  by_place above indexes s below leading None apart k here = beside above indexes s below leading (old_by (touches (at above indexes) to) (v.known (at above indexes)) k) here
  by_place above indexes s below leading (Some rest) within k here =
      let turned : above ++ s ∷ below ≡ to ++ (rest ++ s ∷ below) = ap (λ (p : Path). p ++ s ∷ below) within ∙ append_assoc to rest (s ∷ below) in
      ap (λ o. is_some (grafted_known v source from [] o (old (at (above ++ s ∷ below) [])))) (ap (after_prefix to) turned ∙ after_append to (rest ++ s ∷ below))
      ∙ inside rest indexes s below leading k (sym (ap (λ (q : Path). is_some (get map q)) turned) ∙ here)

  grafted_some : (part : Part) → IsSome ((graft_view v source from to).known part) → IsSome (grafted_known v source from part.indexes (after_prefix to part.path) (old part))
  unfolding graft_view
  grafted_some part k = part_by (is_part map part) (grafted_known v source from part.indexes (after_prefix to part.path) (old part)) k

  pub graft_below : KnowsBelow (graft_view v source from to)
  unfolding graft_view
  graft_below above indexes s below leading k here =
      graft_known (above ++ s ∷ below) here (by_place above indexes s below leading (after_prefix to above) (left_behind to above) (grafted_some (at above indexes) k) here)

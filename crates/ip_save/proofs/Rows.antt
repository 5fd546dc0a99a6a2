-- The loops over the steps of a leaf and the children of an inode, and the parts that they make.
--     drop_first, drop_last      the first of those that are left, and none
--     step_more, step_cause, steps_end      over steps.      child_more, child_failed, children_end      over children
--     leaf_laid, inode_laid      what a part of the code lays
--     passed_on      a fault that is passed on
--     walk_up      one walk in the place of another that does the same, in a broader directory
use Rattle.std.proofs.Common.{rules, ◌≡◌, ◌≢◌, ℕ, zero, suc, ◌+◌, ◌-◌, ◌<◌, ◌≤◌, List, [], ◌∷◌, ◌++◌, length, drop, get_or, refl, sym, ap, subst, ◌∙◌, arith, Option, Some, None, Bool, true, false, cond}
use Rattle.std.specs.Prelude.{◌==◌, Result, Ok, Err, IsSomeAnd, MatchResult, Vec}
use Rattle.std.specs.Global.{Global}
use Rattle.std.specs.Result.{IsErrAnd}
use Rattle.std.proofs.lemmas.Bool.{eq-eqb, ne_eqb, eqb-true, eqb-false}
use Rattle.ip_spec.specs.Path.{Bytes, Step}
use Rattle.ip_spec.specs.Shape.{deepest}
use Rattle.ip_spec.specs.declared.record.LeafEntry.{LeafEntry}
use Rattle.ip_spec.specs.declared.record.InodeChild.{InodeChild}
use Rattle.ip_shape.specs.declared.part.Part.{Part, out-Part}
use Rattle.ip_shape.specs.declared.part.Part.TheVariants as variant
use Rattle.ip_shape.specs.declared.part.Part.TheViews as view
use Rattle.ip_shape.specs.declared.part.Part.TheOpen as open_part
use Rattle.ip_tree.specs.declared.node.Stored.{Stored}
use Rattle.ip_save.specs.declared.batch.SaveFault.{SaveFault}
use Rattle.ip_save.specs.Laid.{AllFit, IsLaid, IsLayFault, IsRow, IsRowFault, Laid, LaidRow, behind_bytes, behind_inode, behind_leaf, bytes_of, child_for, count_of, field_for, in_front, lay_children, lay_new, lay_nothing, lay_part, lay_steps, record_of}
use Rattle.ip_shape.specs.Heights.{inode_height, leaf_height}
use Rattle.ip_save.proofs.Laying.{Ends, RowsOn, cause_up, child_cause, entry_cause, first_of, last_laid, new_laid, rows_last, rows_more}

pub drop_first : {A : Type 0} (xs : List A) (i : ℕ) (x : A) → i < length xs → x ≡ get_or xs i x → drop i xs ≡ x ∷ drop (i + 1) xs
drop_first [] i x lt is = absurd (omega (arith, lt))
drop_first (y ∷ ys) zero x lt is = ap (λ z. z ∷ ys) (sym is)
drop_first (y ∷ ys) (suc i) x lt is = drop_first ys i x (omega (arith, lt)) is ∙ (let next : suc (i + 1) ≡ suc i + 1 = omega arith in ap (λ n. x ∷ drop n (y ∷ ys)) next)

pub drop_last : {A : Type 0} (xs : List A) (i : ℕ) → length xs ≤ i → drop i xs ≡ []
drop_last [] zero le = refl
drop_last [] (suc i) le = refl
drop_last (y ∷ ys) zero le = absurd (omega (arith, le))
drop_last (y ∷ ys) (suc i) le = drop_last ys i (omega (arith, le))

-- a walk that does the same
pub rows_same : {F : Type 0} (end : ℕ) (one other all : ℕ → LaidRow F) (out before : Bytes) (row : List F) → ((at : ℕ) → one at ≡ other at) → RowsOn end one all out before row → RowsOn end other all out before row
rows_same {F = F} end one other all out before row same now =
    let e = same (behind_bytes end out) in record {
      bytes = ap (λ (r : LaidRow F). out ++ bytes_of r.records) (sym e) ∙ now.bytes;
      fields = ap (λ (r : LaidRow F). row ++ r.fields) (sym e) ∙ now.fields;
      fits = λ f. now.fits (subst (λ (r : LaidRow F). AllFit r.records) (sym e) f);
    }

pub walk_same : (end : ℕ) (one other : ℕ → Laid) → ((at : ℕ) → one at ≡ other at) → (before after : Bytes) (x : Stored) → IsLaid end one before after x → IsLaid end other before after x
walk_same end one other same before after x is =
    let e = same (behind_bytes end before) in record {
      bytes = is.bytes ∙ ap (λ (l : Laid). before ++ bytes_of l.records) e;
      stands = is.stands ∙ ap (λ (l : Laid). l.stands) e;
      fits = subst (λ (l : Laid). AllFit l.records) e is.fits;
    }

pub fault_up : (end b c : ℕ) (one other : ℕ → Laid) → ((at : ℕ) → one at ≡ other at) → b ≤ c → (before : Bytes) (f : SaveFault) → IsLayFault b end one before f → IsLayFault c end other before f
fault_up end b c one other same le before f is =
    let e = ap (λ (l : Laid). l.stands.height) (same (behind_bytes end before)) in
    cause_up b (one (behind_bytes end before)).stands.height c (other (behind_bytes end before)).stands.height f le (λ h. omega (arith, h, e)) is

pub walk_up : (end b c : ℕ) (one other : ℕ → Laid) → ((at : ℕ) → one at ≡ other at) → b ≤ c → (before after : Bytes) (r : Result Stored SaveFault) → MatchResult r (IsLaid end one before after) (IsLayFault b end one before)
    → MatchResult r (IsLaid end other before after) (IsLayFault c end other before)
walk_up end b c one other same le before after (Ok x) is = walk_same end one other same before after x is
walk_up end b c one other same le before after (Err f) is = fault_up end b c one other same le before f is

-- ---- steps

module _ (end : ℕ) (child : Step → ℕ → Laid) (each : (s : Step) → Ends (child s)) (all : ℕ → LaidRow LeafEntry) (steps : List Step) (i : ℕ) (out before : Bytes) (row : List LeafEntry) (now : RowsOn end (lay_steps child (drop i steps)) all out before row) where
  pub steps_end : length steps ≤ i → IsRow end all before out row
  steps_end last = rows_last end all out before row (subst (λ (ss : List Step). RowsOn end (lay_steps child ss) all out before row) (drop_last steps i last) now)

  module _ (s : Step) (lt : i < length steps) (is : s ≡ get_or steps i s) where
    abbrev later : ℕ → LaidRow LeafEntry
    later = lay_steps child (drop (i + 1) steps)

    step_on : RowsOn end (first_of (child s) (field_for s) later) all out before row
    step_on = subst (λ (ss : List Step). RowsOn end (lay_steps child ss) all out before row) (drop_first steps i s lt is) now

    pub step_more : (after : Bytes) (x : Stored) → IsLaid end (child s) out after x → (longer : List LeafEntry) → longer ≡ row ++ field_for s x ∷ [] → RowsOn end later all after before longer
    step_more after x laid longer pushed = rows_more end (child s) (each s) (field_for s) later all out before row step_on after x laid longer pushed

    pub step_cause : (breadth : ℕ) (f : SaveFault) → IsLayFault breadth end (child s) out f → IsRowFault leaf_height breadth end all before f
    step_cause breadth f fault = entry_cause breadth end s (child s) later all out before row step_on f fault

-- ---- children

module _ (end : ℕ) (child : Step → ℕ → Laid) (deeper : Part Stored → ℕ → Laid) (each : (c : Part Stored) → Ends (deeper c)) (all : ℕ → LaidRow InodeChild) (cs : List (Part Stored)) (i : ℕ) (out before : Bytes) (row : List InodeChild)
    (now : RowsOn end (lay_children child deeper i (drop i cs)) all out before row) where
  pub children_end : length cs ≤ i → IsRow end all before out row
  children_end last = rows_last end all out before row (subst (λ (l : List (Part Stored)). RowsOn end (lay_children child deeper i l) all out before row) (drop_last cs i last) now)

  module _ (c : Part Stored) (lt : i < length cs) (is : c ≡ get_or cs i c) where
    abbrev rest : ℕ → LaidRow InodeChild
    rest = lay_children child deeper (i + 1) (drop (i + 1) cs)

    here : RowsOn end (lay_children child deeper i (c ∷ drop (i + 1) cs)) all out before row
    here = subst (λ (l : List (Part Stored)). RowsOn end (lay_children child deeper i l) all out before row) (drop_first cs i c lt is) now

    next : suc i ≡ i + 1
    next = omega arith

    absent_on : count_of c ≡ 0 → RowsOn end rest all out before row
    absent_on none =
        rows_same end (lay_children child deeper i (c ∷ drop (i + 1) cs)) rest all out before row
        (λ at.
        ap (λ (b : Bool). cond b (lay_children child deeper (suc i) (drop (i + 1) cs) at) (let x = deeper c at in in_front x (child_for i (count_of c) x.stands) (lay_children child deeper (suc i) (drop (i + 1) cs) x.next)))
        (eq-eqb (count_of c) 0 none)
        ∙ ap (λ n. lay_children child deeper n (drop (i + 1) cs) at) next)
        here

    some_on : count_of c ≢ 0 → RowsOn end (first_of (deeper c) (child_for i (count_of c)) rest) all out before row
    some_on some =
        rows_same end (lay_children child deeper i (c ∷ drop (i + 1) cs)) (first_of (deeper c) (child_for i (count_of c)) rest) all out before row
        (λ at.
        let x = deeper c at in
        ap (λ (b : Bool). cond b (lay_children child deeper (suc i) (drop (i + 1) cs) at) (in_front x (child_for i (count_of c) x.stands) (lay_children child deeper (suc i) (drop (i + 1) cs) x.next))) (ne_eqb (count_of c) 0 some)
        ∙ ap (λ n. in_front x (child_for i (count_of c) x.stands) (lay_children child deeper n (drop (i + 1) cs) x.next)) next)
        here

    -- what was answered for the child, and put
    put_one : (after : Bytes) (stored : Option Stored) (longer : List InodeChild) → (some : count_of c ≢ 0) → IsSomeAnd stored (IsLaid end (deeper c) out after) → ((x : Stored) → stored ≡ Some x → longer ≡ row ++ child_for i (count_of c) x ∷ [])
        → RowsOn end rest all after before longer
    put_one after None longer some laid added = absurd laid
    put_one after (Some x) longer some laid added = rows_more end (deeper c) (each c) (child_for i (count_of c)) rest all out before row (some_on some) after x laid longer (added x refl)

    pub child_more : (after : Bytes) (stored : Option Stored) (longer : List InodeChild) → (count_of c ≡ 0 → (stored ≡ None) × (after ≡ out)) → (count_of c ≢ 0 → IsSomeAnd stored (IsLaid end (deeper c) out after)) → (stored ≡ None → longer ≡ row)
        → ((x : Stored) → stored ≡ Some x → longer ≡ row ++ child_for i (count_of c) x ∷ []) → RowsOn end rest all after before longer
    child_more after stored longer empty laid same added = by (count_of c == 0) refl
      where
        by : (b : Bool) → (count_of c == 0) ≡ b → RowsOn end rest all after before longer
        by true e =
            let none = eqb-true (count_of c) 0 e in
            let stays = empty none in
            subst (λ (o : Bytes). RowsOn end rest all o before longer) (sym stays.1) (subst (λ (l : List InodeChild). RowsOn end rest all out before l) (sym (same stays.0)) (absent_on none))
        by false e = let some = eqb-false (count_of c) 0 e in put_one after stored longer some (laid some) added

    pub child_failed : (breadth : ℕ) (f : SaveFault) → (count_of c ≡ 0 → ⊥) → (count_of c ≢ 0 → IsLayFault breadth end (deeper c) out f) → IsRowFault inode_height breadth end all before f
    child_failed breadth f some fault = child_cause breadth end i (count_of c) (deeper c) rest all out before row (some_on some) f (fault some)

-- ---- parts of the code

out_leaf : (known : Option Stored) (steps : Vec Step Global) → out-Part Stored (variant.Leaf known steps) ≡ open_part.Leaf known steps
out_leaf known steps = search (rules, view.the_lemmas)

out_inode : (known : Option Stored) (n : ℕ) (children : Vec (Part Stored) Global) → out-Part Stored (view.Inode known n children) ≡ open_part.Inode known n children
unfolding out-Part denote.Hole.Carrier.out
out_inode known n children = search (rules, view.the_lemmas)

pub leaf_laid : (child : Step → ℕ → Laid) (levels depth : ℕ) (part : Part Stored) (known : Option Stored) (steps : Vec Step Global) → part ≡ variant.Leaf known steps → record_of part ≡ None → (at : ℕ)
    → behind_leaf (lay_steps child steps.items at) ≡ lay_part child levels depth part at
leaf_laid child zero depth part known steps is new at = sym (last_laid child depth part at new ∙ ap (λ l. lay_new child (lay_nothing child) depth l at) (ap (out-Part Stored) is ∙ out_leaf known steps))
leaf_laid child (suc levels) depth part known steps is new at = sym (new_laid child levels depth part at new ∙ ap (λ l. lay_new child (lay_part child levels (suc depth)) depth l at) (ap (out-Part Stored) is ∙ out_leaf known steps))

pub inode_laid : (child : Step → ℕ → Laid) (depth : ℕ) (part : Part Stored) (known : Option Stored) (n : ℕ) (children : Vec (Part Stored) Global) → depth < 51 → part ≡ view.Inode known n children → record_of part ≡ None → (at : ℕ)
    → behind_inode depth (lay_children child (lay_part child (deepest - (depth + 1)) (depth + 1)) 0 children.items at) ≡ lay_part child (deepest - depth) depth part at
inode_laid child depth part known n children low is new at =
    let levels : suc (deepest - (depth + 1)) ≡ deepest - depth = omega (arith, low) in
    let next : suc depth ≡ depth + 1 = omega arith in
    sym
    (sym (ap (λ k. lay_part child k depth part at) levels) ∙ new_laid child (deepest - (depth + 1)) depth part at new
    ∙ ap (λ l. lay_new child (lay_part child (deepest - (depth + 1)) (suc depth)) depth l at) (ap (out-Part Stored) is ∙ out_inode known n children)
    ∙ ap (λ d. behind_inode depth (lay_children child (lay_part child (deepest - (depth + 1)) d) 0 children.items at)) next)

-- a fault that is passed on
pub passed_on : {A E : Type 0} (r : Result A E) (f : E) (Q : A → Type 0) (P : E → Type 0) → IsErrAnd r (λ e. e ≡ f) → P f → MatchResult r Q P
passed_on (Ok x) f Q P is p = absurd is
passed_on (Err e) f Q P is p = subst P (sym is) p

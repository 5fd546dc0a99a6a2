-- What the calls of a plan do to it.
use Rattle.std.proofs.Common.{◌≡◌, ℕ, ◌++◌, ◌∷◌, [], List, refl, sym, ap, subst, ◌∙◌, true, false, Option, Some, None}
use Rattle.std.proofs.lemmas.Bool.{false≢true}
use Rattle.std.proofs.lemmas.List.Elements.{All-push}
use Rattle.std.specs.Prelude.{Result, Ok, Err, OnOk, is_some}
use Rattle.ip_spec.specs.Map.{get}
use Rattle.ip_spec.specs.Path.{Bytes, Path}
use Rattle.ip_spec.specs.View.{View}
use Rattle.ip_spec.specs.declared.record.Record.{Record}
use Rattle.ip_three.specs.Applying.{as_edit, as_edits}
use Rattle.ip_spec.specs.Tree.{is_empty, subtree}
use Rattle.ip_spec.proofs.Subtrees.{some_not_empty}
use Rattle.ip_three.specs.Going.{or_path, without, with_bytes, with_coming, with_conflict, with_gone, with_none}
use Rattle.ip_three.specs.Merging.{taken}
use Rattle.ip_three.specs.Planning.{Plan}
use Rattle.ip_three.specs.Walking.{AreTaken, IsEditedBy, IsTaken, IsTakenAt, Puts, Refuses, as_plan}
use Rattle.ip_three.specs.declared.apply.Edit.{Edit}
use Rattle.ip_three.specs.declared.plan.Plan as code
use Rattle.ip_three.proofs.Standing.{get_here}

pub on_ok : {A E : Type 0} (x : Result A E) (P Q : Type 0) → (P → Q) → OnOk x P → OnOk x Q
on_ok (Ok a) P Q f p = f p
on_ok (Err e) P Q f p = tt

map_push : (es : List Edit) (e : Edit) → as_edits (es ++ e ∷ []) ≡ as_edits es ++ as_edit e ∷ []
map_push [] e = refl
map_push (d ∷ es) e = ap (λ xs. as_edit d ∷ xs) (map_push es e)

-- a plan of these parts
plan_is : (p : Plan) (new : code.Plan) → new.gone.items ≡ p.gone → as_edits new.come.items ≡ p.come → new.conflict ≡ p.conflict → new.is_long ≡ p.long → as_plan new ≡ p
plan_is p new g e c l = λ i. record { gone = g i; come = e i; conflict = c i; long = l i }

pub with_none_is : (l : View) (path : Path) (old new : code.Plan) → IsEditedBy (without l path) (λ es. es) old new → as_plan new ≡ with_none l path (as_plan old)
with_none_is l path old new e = plan_is _ new e.gone_is (ap as_edits e.come_is) e.conflict e.long

pub with_gone_is : (path : Path) (old new : code.Plan) → IsEditedBy (λ p. p ++ path ∷ []) (λ es. es) old new → as_plan new ≡ with_gone path (as_plan old)
with_gone_is path old new e = plan_is _ new e.gone_is (ap as_edits e.come_is) e.conflict e.long

pub with_conflict_is : (l : View) (path : Path) (old new : code.Plan) → Refuses l path old new → as_plan new ≡ with_conflict l path (as_plan old)
with_conflict_is l path old new e = plan_is _ new e.gone_is (ap as_edits e.come_is) e.conflict e.long

pub with_bytes_is : (path : Path) (bytes : Bytes) (old new : code.Plan) → Puts path bytes old new → as_plan new ≡ with_bytes path bytes (as_plan old)
with_bytes_is path bytes old new e = plan_is _ new e.gone_is (ap as_edits e.come_is ∙ map_push old.come.items _) e.conflict e.long

pub with_taken_is : (records : ℕ → Option Record) (r : View) (path : Path) (old new : code.Plan) → IsTaken records r path old new → as_plan new ≡ with_coming path taken (as_plan old)
with_taken_is records r path old new t = plan_is _ new t.edited.gone_is (ap as_edits t.edited.come_is ∙ map_push old.come.items _) t.edited.conflict t.edited.long

-- ---- what is taken is there

pub taken_same : (records : ℕ → Option Record) (r : View) (old new : code.Plan) → new.come.items ≡ old.come.items → AreTaken records r old.come.items → AreTaken records r new.come.items
taken_same records r old new is all = subst (AreTaken records r) (sym is) all

pub taken_put : (records : ℕ → Option Record) (r : View) (path : Path) (bytes : Bytes) (old new : code.Plan) → Puts path bytes old new → AreTaken records r old.come.items → AreTaken records r new.come.items
taken_put records r path bytes old new p all = subst (AreTaken records r) (sym p.come_is) (All-push (λ (e : Edit). IsTakenAt records r e.path e.coming) old.come.items _ all tt)

pub taken_more : (records : ℕ → Option Record) (r : View) (path : Path) (old new : code.Plan) → IsTaken records r path old new → AreTaken records r old.come.items → AreTaken records r new.come.items
taken_more records r path old new t all = subst (AreTaken records r) (sym t.edited.come_is) (All-push (λ (e : Edit). IsTakenAt records r e.path e.coming) old.come.items _ all t.part)

-- of several paths whose rule conflicts the first stays
pub noted : (old : Option Path) (path : Path) (new : Option Path) → (old ≡ None → new ≡ Some path) → ((c : Path) → old ≡ Some c → new ≡ Some c) → new ≡ or_path old path
noted None path new first other = first refl
noted (Some c) path new first other = other c refl

-- where nothing stands there are no contents
pub nothing_there : (w : View) (path : Path) → is_empty (subtree w.map path) ≡ true → is_some (get w.map path) ≡ false
nothing_there w path none = by (get w.map path) refl
  where
    by : (x : Option Bytes) → get w.map path ≡ x → is_some (get w.map path) ≡ false
    by None is = ap is_some is
    by (Some bytes) is = absurd (false≢true (sym (some_not_empty (subtree w.map path) [] bytes (get_here w.map path ∙ is)) ∙ none))

use Rattle.std.proofs.Common.{◌≡◌, ◌-◌, ap, ◌∙◌, sym, subst, List}
use Rattle.std.specs.Prelude.{is_some, is_none, None}
use Rattle.std.proofs.lemmas.Bool.{false≢true}
use Rattle.std.specs.Ordering.{is_eq}
use Rattle.std.specs.Map.{remove_entry}
use Rattle.ip_spec.specs.Path.{Step, bytes_cmp}
use Rattle.ip_spec.specs.Shape.{deepest}
use Rattle.ip_shape.specs.Shape.{IsPart}
use Rattle.ip_shape.specs.Loaded.{IsEdited, IsUnchanged, unread_in, way}
use Rattle.ip_shape.specs.declared.part.Part.{Part}
use Rattle.ip_shape.proofs.Entering.{none_missing}
use Rattle.ip_shape.proofs.Entries.{found_is, entered_is, taken_back}
use Rattle.ip_shape.proofs.Partly.{add_again, in_steps, read_is, read_there, stands_put, stands_still}
use Rattle.ip_shape.proofs.dir.insert.Goals as goal

pub returns-in-Some-clause-inserted : goal.returns-in-Some-clause-inserted
returns-in-Some-clause-inserted g c steps entries is read =
    let old : List (Step × g.row.C.Denot) = c.args.dir.now.entries.entries in
    let s = c.args.step.now in
    let root : Part g.row.R.Denot = c.args.dir.now.root in
    let entered = entered_is s c.in_ok-key.key c.args.child old entries c.in_ok-key.ensures is.0 c.insert.new.self.entries c.in_ok-replaced.ensures.entries in
    let found = sym c.in-Some.is ∙ found_is s c.in_ok-key.key old entries c.in_ok-key.ensures is.0 c.in_ok-replaced.replaced c.in_ok-replaced.ensures.old in
    let is_in = in_steps root steps entries s is.3 (ap is_some (sym found)) in
    let stands = subst (λ (p : Part g.row.R.Denot). IsPart deepest 0 steps p) (sym c.replace-root.ensures.value) is.2 in
    let edited = subst (λ (p : Part g.row.R.Denot). IsEdited 0 s p c.forgotten.result) c.replace-root.ensures.value (c.forgotten.ensures.edited steps stands) in
    let shape = subst (λ (ss : List Step). IsPart deepest 0 ss c.forgotten.result) (sym (add_again s steps is.1 is_in)) (c.forgotten.ensures.kept steps stands) in
    let rest = stands_put root c.forgotten.result steps entries s c.args.child (is.1, is.2, is.3) read shape (λ q. (edited q).0) in
    (found, (entered, rest.0, rest.1, rest.2), edited)

pub returns-in-Ok-clause-inserted : goal.returns-in-Ok-clause-inserted
returns-in-Ok-clause-inserted g c steps entries is read =
    let old : List (Step × g.row.C.Denot) = c.args.dir.now.entries.entries in
    let s = c.args.step.now in
    let root : Part g.row.R.Denot = c.args.dir.now.root in
    let entered = entered_is s c.in_ok-key.key c.args.child old entries c.in_ok-key.ensures is.0 c.insert.new.self.entries c.in_ok-replaced.ensures.entries in
    let found = sym c.in_default.is ∙ found_is s c.in_ok-key.key old entries c.in_ok-key.ensures is.0 c.in_ok-replaced.replaced c.in_ok-replaced.ensures.old in
    let absent = sym (read_is root steps entries s is.3 read) ∙ ap is_some (sym found) in
    let stands = subst (λ (p : Part g.row.R.Denot). IsPart deepest 0 steps p) (sym c.replace-root.ensures.value) is.2 in
    let edited = subst (λ (p : Part g.row.R.Denot). IsEdited 0 s p c.in-Ok.more) c.replace-root.ensures.value c.in-Ok.ensures.edited in
    let rest = stands_put root c.in-Ok.more steps entries s c.args.child (is.1, is.2, is.3) read (c.in-Ok.ensures.added steps is.1 absent stands) (λ q. (edited q).0) in
    (found, (entered, rest.0, rest.1, rest.2), edited)

pub returns-in-Some-clause-unread : goal.returns-in-Some-clause-unread
returns-in-Some-clause-unread g c steps entries is unread =
    let s = c.args.step.now in
    let found = sym c.in-Some.is ∙ found_is s c.in_ok-key.key c.args.dir.now.entries.entries entries c.in_ok-key.ensures is.0 c.in_ok-replaced.replaced c.in_ok-replaced.ensures.old in
    absurd (false≢true (sym unread ∙ read_there c.args.dir.now.root steps entries s is.3 (ap is_some (sym found))))

pub returns-in-Ok-clause-unread : goal.returns-in-Ok-clause-unread
returns-in-Ok-clause-unread g c steps entries is unread =
    let s = c.args.step.now in
    let root : Part g.row.R.Denot = c.args.dir.now.root in
    let read = subst (λ (p : Part g.row.R.Denot). unread_in (way (deepest - 0) 0 s) p ≡ None) c.replace-root.ensures.value c.in-Ok.ensures.read in
    absurd (false≢true (sym unread ∙ ap is_none (none_missing s root read)))

pub returns-in-Err-clause-refused : goal.returns-in-Err-clause-refused
returns-in-Err-clause-refused g c steps entries is =
    let old : List (Step × g.row.C.Denot) = c.args.dir.now.entries.entries in
    let s = c.args.step.now in
    let root : Part g.row.R.Denot = c.args.dir.now.root in
    let entered = entered_is s c.in_ok-key.key c.args.child old entries c.in_ok-key.ensures is.0 c.insert.new.self.entries c.in_ok-replaced.ensures.entries in
    let found = sym c.in_default.is ∙ found_is s c.in_ok-key.key old entries c.in_ok-key.ensures is.0 c.in_ok-replaced.replaced c.in_ok-replaced.ensures.old in
    let stands = subst (λ (p : Part g.row.R.Denot). IsPart deepest 0 steps p) (sym c.replace-root.ensures.value) is.2 in
    let same = subst (λ (p : Part g.row.R.Denot). IsUnchanged p c.in-Err.same) c.replace-root.ensures.value c.in-Err.ensures.left in
    let rest = stands_still root c.in-Err.same steps entries (is.1, is.2, is.3) (c.in-Err.ensures.refused steps stands) (λ q. (same q).0) in
    ((c.remove.ensures.entries ∙ ap (remove_entry (λ k. is_eq (bytes_cmp s k))) entered ∙ taken_back s c.args.child entries (sym found), rest.0, rest.1, rest.2), same)

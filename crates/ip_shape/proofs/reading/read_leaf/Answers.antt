use Rattle.std.proofs.Common.{ap, ◌∙◌, sym, subst, refl, arith, List}
use Rattle.std.specs.Prelude.{Some}
use Rattle.ip_spec.specs.Path.{Step}
use Rattle.ip_spec.specs.Shape.{deepest}
use Rattle.ip_shape.specs.Shape.{IsPart}
use Rattle.ip_shape.specs.Loaded.{unread_in}
use Rattle.ip_shape.specs.Reading.{IsEntered}
use Rattle.ip_shape.specs.Directory.{AreNew, entries_from, steps_of}
use Rattle.ip_shape.specs.declared.part.Part.{Part}
use Rattle.ip_shape.specs.declared.part.Part.TheVariants as variant
use Rattle.ip_shape.proofs.LeafRead.{are_new, few_indexes, leaf_is_read, leaf_reaches, leaf_shape, stands_entered}
use Rattle.ip_shape.proofs.Ways.{whenever_err}
use Rattle.ip_shape.proofs.reading.read_leaf.Goals as goal

pub returns-in_err-enter-clause-refused : goal.returns-in_err-enter-clause-refused
returns-in_err-enter-clause-refused g c steps old r is found are =
    let root : Part g.row.R.Denot = c.args.dir.now.root in
    let new = are_new c.args.indexes.now r root steps c.args.entries.items old (is.1, is.2, is.3) found are in
    let same = c.in_err-enter.ensures.refused (subst (λ (es : List (Step × g.row.C.Denot)). AreNew c.args.entries.items es) (sym is.0) new) in
    whenever_err c.from_residual-in_err-enter.result _ ((same ∙ is.0, is.1, is.2, is.3), refl)

pub returns-clause-read : goal.returns-clause-read
returns-clause-read g c steps old r is found are leaf =
    let root : Part g.row.R.Denot = c.args.dir.now.root in
    let indexes = c.args.indexes.now in
    let given = c.args.entries.items in
    let few = few_indexes indexes r root steps given old (is.1, is.2, is.3) found are in
    let held = c.in_ok-steps.steps in
    let items = c.in_ok-steps.ensures ∙ ap (λ (es : List (Step × g.row.C.Denot)). steps_of es) c.deref.ensures.value in
    let there = leaf_shape indexes r steps held given items are few leaf in
    let root_is = c.replace-root.ensures.value in
    let stands = subst (λ (p : Part g.row.R.Denot). IsPart deepest 0 steps p) (sym root_is) is.2 in
    let found_in = ap (unread_in indexes) root_is ∙ found in
    let shape = c.entered.ensures.shape 0 steps r (omega arith) stands found_in there in
    let put = subst (λ (p : Part g.row.R.Denot). IsEntered indexes (variant.Leaf (Some r) held) p c.entered.result) root_is (c.entered.ensures.put 0 steps r (omega arith) stands found_in) in
    let read = leaf_is_read indexes r held root c.entered.result put in
    let rest = stands_entered indexes r root steps given old (is.1, is.2, is.3) found are c.entered.result shape (leaf_reaches indexes r root c.entered.result few read) in
    let ascends = (are_new indexes r root steps given old (is.1, is.2, is.3) found are).0 in
    ((c.in_ok-enter.ensures.entered ascends ∙ ap (entries_from given) is.0, rest.0, rest.1, rest.2), read)

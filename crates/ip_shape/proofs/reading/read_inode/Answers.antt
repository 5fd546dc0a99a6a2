use Rattle.std.proofs.Common.{◌≡◌, ap, ◌∙◌, sym, subst, arith, ◌-◌, ◌+◌, length}
use Rattle.std.specs.Prelude.{Some}
use Rattle.ip_spec.specs.Shape.{deepest}
use Rattle.ip_shape.specs.Shape.{IsPart}
use Rattle.ip_shape.specs.Loaded.{unread_in}
use Rattle.ip_shape.specs.Reading.{IsEntered, Steps, steps_under}
use Rattle.ip_shape.specs.declared.part.Part.{Part}
use Rattle.ip_shape.specs.declared.part.Part.TheViews as view
use Rattle.ip_shape.proofs.InodeRead.{inode_is_read, inode_shape, stands_read}
use Rattle.ip_shape.proofs.reading.read_inode.Goals as goal

pub returns-clause-read : goal.returns-clause-read
returns-clause-read g c steps old r is found are =
    let root : Part g.row.R.Denot = c.args.dir.now.root in
    let indexes = c.args.indexes.now in
    let given = c.args.children.items in
    let base = c.in_ok-no_children.field-0.items in
    let parts = c.with_children-parts.result in
    let under = steps_under 0 indexes steps in
    let long = c.in_ok-no_children.ensures.long in
    let empty = c.in_ok-no_children.ensures.empty in
    let zero_less : length indexes ≡ 0 + length indexes = omega arith in
    let there : Steps 0 indexes steps (view.Inode (Some r) (length under) parts) =
    subst (λ d. IsPart (deepest - d) d under (view.Inode (Some r) (length under) parts)) zero_less (inode_shape (length indexes) under given base are long empty parts c.with_children-parts.ensures (Some r)) in
    let root_is = c.replace-root.ensures.value in
    let stands = subst (λ (p : Part g.row.R.Denot). IsPart deepest 0 steps p) (sym root_is) is.2 in
    let found_in = ap (unread_in indexes) root_is ∙ found in
    let shape = c.entered.ensures.shape 0 steps r (omega arith) stands found_in there in
    let put = subst (λ (p : Part g.row.R.Denot). IsEntered indexes (view.Inode (Some r) (length under) parts) p c.entered.result) root_is (c.entered.ensures.put 0 steps r (omega arith) stands found_in) in
    let read = inode_is_read (length indexes) under given base are long empty parts c.with_children-parts.ensures indexes r (length under) root c.entered.result put in
    let rest = stands_read indexes r root c.entered.result steps old given (is.1, is.2, is.3) found are read shape in
    ((is.0, rest.0, rest.1, rest.2), read)

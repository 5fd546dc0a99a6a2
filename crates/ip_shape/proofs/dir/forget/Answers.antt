use Rattle.std.proofs.Common.{sym, subst}
use Rattle.ip_spec.specs.Shape.{deepest}
use Rattle.ip_shape.specs.Loaded.{IsEdited}
use Rattle.ip_shape.specs.Shape.{IsPart}
use Rattle.ip_shape.specs.declared.part.Part.{Part}
use Rattle.ip_shape.proofs.Partly.{stands_still}
use Rattle.ip_shape.proofs.dir.forget.Goals as goal

pub returns : goal.returns
returns g c steps entries is =
    let root : Part g.row.R.Denot = c.args.dir.now.root in
    let s = c.args.step.now in
    let stands = subst (λ (p : Part g.row.R.Denot). IsPart deepest 0 steps p) (sym c.replace-root.ensures.value) is.2 in
    let edited = subst (λ (p : Part g.row.R.Denot). IsEdited 0 s p c.forgotten.result) c.replace-root.ensures.value (c.forgotten.ensures.edited steps stands) in
    let rest = stands_still root c.forgotten.result steps entries (is.1, is.2, is.3) (c.forgotten.ensures.kept steps stands) (λ q. (edited q).0) in
    ((is.0, rest.0, rest.1, rest.2), edited)

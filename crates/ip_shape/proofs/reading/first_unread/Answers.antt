use Rattle.std.proofs.Common.{◌≡◌, ◌∙◌, ap, sym, subst, ℕ, drop, take, [], Bor}
use Rattle.std.specs.Prelude.{IfSome, Some, option_map}
use Rattle.ip_shape.specs.Loaded.{unread_in, way_to}
use Rattle.ip_shape.specs.declared.part.Part.{Part}
use Rattle.ip_shape.proofs.Onward.{first_on, mapped_on, parts_on}
use Rattle.ip_shape.proofs.reading.first_unread.Goals as goal

pub returns-clause-found : goal.returns-clause-found
returns-clause-found g c =
    let s = c.args.step.now in
    let root : Part g.row.R.Denot = c.root.result.now in
    sym (mapped_on (λ (f : ℕ × g.row.R.Denot). (f.1, drop f.0 (way_to s))) (λ f. (f.0, f.1.now)) c.unread_on.result)
    ∙ first_on s root (option_map {U = ℕ × g.row.R.Denot} (λ f. (f.0, f.1.now)) c.unread_on.result) (c.unread_on.ensures.found s c.of.ensures)
    ∙ ap (unread_in (way_to s)) c.root.ensures

pub returns-clause-part : goal.returns-clause-part
returns-clause-part g c =
    let s = c.args.step.now in
    subst (λ (p : Part g.row.R.Denot). IfSome c.unread_on.result (λ f. unread_in (take f.0 (way_to s)) p ≡ Some (f.1.now, []))) c.root.ensures
    (parts_on s c.root.result.now (λ (f : ℕ × Bor g.row.R.Denot). (f.0, f.1.now)) c.unread_on.result (c.unread_on.ensures.found s c.of.ensures))

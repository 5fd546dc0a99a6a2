use Rattle.std.proofs.Common.{◌≡◌, ap, sym, ◌∙◌, true, false}
use Rattle.std.specs.Ordering.{eq_by_cmp}
use Rattle.std.specs.FinMap.Entries.{find}
use Rattle.ip_spec.specs.Path.{path_cmp}
use Rattle.ip_model_trees.proofs.Placing.{found_here, found_later}
use Rattle.ip_model_trees.proofs.trees.Tree.get.Goals as goal

pub returns-then-is_eq : goal.returns-then-is_eq
returns-then-is_eq c =
    let items = c.deref-part-items.result.now in
    let item = c.part-item.result in
    let test : eq_by_cmp path_cmp c.args.path.now item.0 ≡ true = cc (c.cmp.ensures, c.is_eq.ensures, c.if-is_eq.true, c.as_slice.ensures) in
    sym (found_here path_cmp c.args.path.now items c.loop-part.part-index item c.loop-part-test.true c.part-item.is test)
    ∙ (c.loop-part.invariant ∙ ap (find path_cmp c.args.path.now) (c.deref-part-items.ensures.value ∙ c.self.view_is))

pub loop-part-preserved : goal.loop-part-preserved
loop-part-preserved c =
    let items = c.deref-part-items.result.now in
    let item = c.part-item.result in
    let test : eq_by_cmp path_cmp c.args.path.now item.0 ≡ false = cc (c.cmp.ensures, c.is_eq.ensures, c.if-is_eq.false, c.as_slice.ensures) in
    sym (found_later path_cmp c.args.path.now items c.loop-part.part-index item c.loop-part-test.true c.part-item.is test) ∙ c.loop-part.invariant

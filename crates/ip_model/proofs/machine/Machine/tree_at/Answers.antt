use Rattle.std.proofs.Common.{◌≡◌, List, [], ap, subst, ◌∙◌}
use Rattle.std.specs.Prelude.{Option, unwrap_or, slice_get, IfOk}
use Rattle.ip_spec.specs.Path.{Path, Bytes}
use Rattle.ip_model.proofs.MachineLaws.{tree_found}
use Rattle.ip_model.proofs.machine.Machine.tree_at.Goals as goal

pub returns-in-Some : goal.returns-in-Some
returns-in-Some c s is =
    let n = c.args.number in
    subst (λ (x : List (Path × Bytes)). IfOk c.copy.result (λ t. t ≡ x))
    (ap (λ (o : Option (List (Path × Bytes))). unwrap_or o []) (c.in-Some.ensures ∙ ap (λ (ts : List (List (Path × Bytes))). slice_get ts n) c.as_slice.ensures.value) ∙ tree_found s c.args.self.now is n)
    c.copy.ensures

pub returns-in-None : goal.returns-in-None
returns-in-None c s is =
    let n = c.args.number in
    c.none.ensures ∙ (ap (λ (o : Option (List (Path × Bytes))). unwrap_or o []) (c.in-None.ensures ∙ ap (λ (ts : List (List (Path × Bytes))). slice_get ts n) c.as_slice.ensures.value) ∙ tree_found s c.args.self.now is n)

use Rattle.std.proofs.Common.{◌≤◌, ◌-◌, refl, length, arith}
use Rattle.std.specs.Prelude.{None}
use Rattle.ip_spec.specs.Shape.{deepest}
use Rattle.ip_shape.specs.Shape.{take_out}
use Rattle.ip_shape.proofs.Shapes.{leaf_made}
use Rattle.ip_shape.proofs.Members.{length_taken}
use Rattle.ip_shape.proofs.Ways.{fresh_leaf}
use Rattle.ip_shape.proofs.part.join.Goals as goal

pub returns-in-Ok-clause-removed : goal.returns-in-Ok-clause-removed
returns-in-Ok-clause-removed g c steps ascend is_in is long =
    let depth = c.args.depth in
    let left = take_out c.args.step.now steps in
    let few : length left ≤ 32 = omega (arith, length_taken c.args.step.now steps ascend is_in, long) in
    leaf_made (deepest - depth) depth left None c.in-Ok.steps few (c.in-Ok.ensures.left steps ascend is)

pub returns-in-Ok-clause-fresh : goal.returns-in-Ok-clause-fresh
returns-in-Ok-clause-fresh g c = fresh_leaf None c.in-Ok.steps refl

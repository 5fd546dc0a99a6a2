use Rattle.std.proofs.Common.{◌∙◌, ap, arith}
use Rattle.ip_image.specs.Virtual.{total}
use Rattle.ip_check.proofs.Making.{total_joined}
use Rattle.ip_collects.proofs.swapping.plan_swap.Goals as goal

pub length_of-length-requires : goal.length_of-length-requires
length_of-length-requires c =
    let is = ap total (c.as_slice.ensures.value ∙ c.in_ok-runs.ensures.runs) ∙ total_joined c.in-Some-check.check.keep.kept in
    let few = c.runs_of.ensures.total in
    omega (arith, is, few)

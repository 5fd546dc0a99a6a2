use Rattle.std.proofs.Common.{subst}
use Rattle.ip_spec.specs.Tree.{contents}
use Rattle.ip_tree.proofs.Walk.{err_is}
use Rattle.ip_three.specs.Walking.{HoldsContent}
use Rattle.ip_three.specs.declared.contents.Content.{Content}
use Rattle.ip_three.proofs.ContentsFound.{asked_record}
use Rattle.ip_three.proofs.contents.bytes_of.Goals as goal

pub returns-in_err-fetch_contents-in-Stored-clause-bytes : goal.returns-in_err-fetch_contents-in-Stored-clause-bytes
returns-in_err-fetch_contents-in-Stored-clause-bytes g c tells records o over holds =
    let is = subst (λ (q : Content). HoldsContent records o q) c.in-Stored.is holds in
    err_is c.from_residual.result c.in_err-fetch_contents-in-Stored.field-0.0 c.from_residual.ensures.1 _ _
    (c.in_err-fetch_contents-in-Stored.ensures.contents tells records (contents is.0) over (asked_record records c.in-Stored.reference is.0 is.2) is.2.kind)

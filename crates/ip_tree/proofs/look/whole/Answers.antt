use Rattle.std.proofs.Common.{◌≡◌, ◌<◌, ◌^◌, ◌∙◌, length, arith}
use Rattle.ip_spec.specs.Tree.{entries_of}
use Rattle.ip_tree.specs.Reads.{as_content}
use Rattle.ip_tree.proofs.ContentTold.{told_count}
use Rattle.ip_tree.proofs.Found.{directory_ref}
use Rattle.ip_tree.proofs.GotAt.{bytes_got, directory_got, narrow_here}
use Rattle.ip_tree.proofs.Walk.{err_is}
use Rattle.ip_tree.proofs.look.whole.Goals as goal

pub returns-then-reference-eq-CONTENTS-clause-got : goal.returns-then-reference-eq-CONTENTS-clause-got
returns-then-reference-eq-CONTENTS-clause-got g c tells records sub over reached narrow =
    bytes_got sub c.in_ok-fetch_contents.field-0 (c.in_ok-fetch_contents.ensures.contents tells records sub over reached c.if-reference-eq-CONTENTS.true)

pub returns-in_err-found-clause-got : goal.returns-in_err-found-clause-got
returns-in_err-found-clause-got g c tells records sub over reached narrow =
    let dir = directory_ref records c.args.reference.now sub c.if-reference-eq-CONTENTS.false reached in
    err_is c.from_residual-in_err-found.result c.in_err-found.field-0.0 c.from_residual-in_err-found.ensures.1 _ _ (c.in_err-found.ensures.part tells records 0 (entries_of sub).entries over dir.asked)

pub returns-clause-got : goal.returns-clause-got
returns-clause-got g c tells records sub over reached narrow =
    let dir = directory_ref records c.args.reference.now sub c.if-reference-eq-CONTENTS.false reached in
    let bounds = c.lent_part-content.ensures.bounds in
    let here = c.in_ok-found.ensures.part tells records 0 (entries_of sub).entries over dir.asked ∙ c.lent_part-content.ensures.is in
    let told = told_count records bounds.0 0 c.args.reference.now.at (entries_of sub).entries (as_content c.lent_part-content.result) dir.asked.part here bounds.1 in
    let few = narrow_here sub narrow in
    let n : c.count_of.result ≡ length (entries_of sub).entries = omega (arith, c.count_of.ensures, told.count, told.fits) in
    let low : c.count_of.result < 2 ^ 32 = omega (arith, n, few) in
    directory_got sub c.told_count.result dir.no_contents (c.told_count.ensures low ∙ n)

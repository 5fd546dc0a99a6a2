use Rattle.std.proofs.Common.{sym, ◌∙◌}
use Rattle.ip_spec.specs.Tree.{entries_of}
use Rattle.ip_tree.specs.Reads.{as_content}
use Rattle.ip_tree.proofs.ContentTold.{told_height}
use Rattle.ip_tree.proofs.Loading.{spells_ref}
use Rattle.ip_tree.proofs.TreeHeights.{directory_height}
use Rattle.ip_tree.proofs.Walk.{err_is}
use Rattle.ip_tree.proofs.height.stored_height.Goals as goal

pub returns-in_err-found-clause-height : goal.returns-in_err-found-clause-height
returns-in_err-found-clause-height g c tells records t over spells no_contents lawful =
    err_is c.from_residual.result c.in_err-found.field-0.0 c.from_residual.ensures.1 _ _
    (c.in_err-found.ensures.part tells records 0 (entries_of t).entries over (spells_ref records c.args.reference.now t spells))

pub returns-clause-height : goal.returns-clause-height
returns-clause-height g c tells records t over spells no_contents lawful =
    let bounds = c.lent_part.ensures.bounds in
    let here = c.in_ok-found.ensures.part tells records 0 (entries_of t).entries over (spells_ref records c.args.reference.now t spells) ∙ c.lent_part.ensures.is in
    c.height_of.ensures ∙ told_height records bounds.0 0 c.args.reference.now.at (entries_of t).entries (as_content c.lent_part.result) spells.part here bounds.1 ∙ sym (directory_height t no_contents)

use Rattle.std.proofs.Common.{ap, ◌∙◌, List}
use Rattle.std.specs.Prelude.{is_some}
use Rattle.std.specs.FinMap.Entries.{find}
use Rattle.ip_spec.specs.Path.{Step, bytes_cmp}
use Rattle.ip_shape.proofs.Entries.{find_is}
use Rattle.ip_shape.proofs.Partly.{read_is}
use Rattle.ip_shape.proofs.dir.find.Goals as goal

pub returns-clause-child : goal.returns-clause-child
returns-clause-child g c steps entries is =
    c.get.ensures.value ∙ find_is c.args.step.now c.args.dir.now.entries.entries ∙ ap (λ (es : List (Step × g.row.C.Denot)). find bytes_cmp c.args.step.now es) is.0

pub returns-clause-absent : goal.returns-clause-absent
returns-clause-absent g c steps entries is read =
    ap is_some (c.get.ensures.value ∙ find_is c.args.step.now c.args.dir.now.entries.entries ∙ ap (λ (es : List (Step × g.row.C.Denot)). find bytes_cmp c.args.step.now es) is.0)
    ∙ read_is c.args.dir.now.root steps entries c.args.step.now is.3 read

pub returns-clause-held : goal.returns-clause-held
returns-clause-held g c = c.get.ensures.value ∙ find_is c.args.step.now c.args.dir.now.entries.entries

use Rattle.std.proofs.Common.{◌∙◌, sym, ap}
use Rattle.ip_spec.specs.Merge.{lines_of}
use Rattle.ip_merge.specs.Lines.{insert_lines, texts}
use Rattle.ip_merge.proofs.LineLaws.{texts_insert}
use Rattle.ip_merge.proofs.line_set.lines_with.Goals as goal

pub loop-rest-preserved : goal.loop-rest-preserved
loop-rest-preserved c =
    let line = c.first_line.result.0 in
    let after = lines_of c.first_line.result.1.now in
    ap (λ keys. insert_lines (texts keys) after) c.in_ok-insert.ensures.keys
    ∙ ap (λ lines. insert_lines lines after) (texts_insert line c.loop-rest.lines.keys)
    ∙ ap (insert_lines (texts c.loop-rest.lines.keys)) (sym c.first_line.ensures.cut)
    ∙ c.loop-rest.invariant

use Rattle.std.proofs.Common.{sym, ◌∙◌}
use Rattle.ip_script.specs.declared.field.Field.TheVariants.{Hex}
use Rattle.ip_script.proofs.ReachLemmas.{word_ends, word_differs, field_missing, no_space, fields_done}
use Rattle.ip_script.proofs.line.reach.Goals as goal
use Rattle.ip_script.proofs.line.reach.Goals.{then-at-line-via-then-at-line, then-at-line-via-else-at-line+then-line-at, then-at-line-2-via-then-at-line-2, then-at-line-2-via-else-at-line-2+then-line-at-ne32}

pub returns-then-at-line : goal.returns-then-at-line
returns-then-at-line c =
    elim c.then-at-line.branch [
      | then-at-line-via-then-at-line w ↦ sym (c.loop-at.invariant.goes_on ∙ word_ends c.loop-at.at c.args.word.now c.args.line.now c.args.fields.now c.loop-at-test.true w.if-at-line.true)
      | then-at-line-via-else-at-line+then-line-at w ↦ sym (c.loop-at.invariant.goes_on ∙ word_differs c.loop-at.at c.args.word.now c.args.line.now c.args.fields.now c.loop-at-test.true w.if-at-line.false w.if-line-at.true)
    ]

pub returns-then-at-line-2 : goal.returns-then-at-line-2
returns-then-at-line-2 c =
    elim c.then-at-line-2.branch [
      | then-at-line-2-via-then-at-line-2 w ↦ sym (c.loop-field.invariant.goes_on ∙ field_missing c.loop-field.at c.loop-field.field-index c.args.fields.now c.args.line.now Hex c.loop-field-test.true w.if-at-line-2.true)
      | then-at-line-2-via-else-at-line-2+then-line-at-ne32 w ↦ sym (c.loop-field.invariant.goes_on ∙ no_space c.loop-field.at c.loop-field.field-index c.args.fields.now c.args.line.now Hex c.loop-field-test.true w.if-at-line-2.false w.if-line-at-ne32.true)
    ]

pub returns : goal.returns
returns c = sym (c.loop-field.invariant.goes_on ∙ fields_done c.loop-field.at c.loop-field.field-index c.args.fields.now c.args.line.now c.loop-field-test.false c.loop-field.invariant.within)

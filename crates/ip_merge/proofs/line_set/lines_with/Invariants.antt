use Rattle.std.proofs.Common.{◌≡◌, length}
use Rattle.ip_spec.specs.Merge.{lines_of}
use Rattle.ip_merge.specs.Lines.{insert_lines, texts}
use Rattle.ip_merge.proofs.line_set.lines_with.Given as goal

abbrev pub invariant-loop-rest : goal.invariant-loop-rest
invariant-loop-rest l = insert_lines (texts l.lines.keys) (lines_of l.rest) ≡ insert_lines (texts l.fn.lines.keys) (lines_of l.fn.bytes)

abbrev pub decreases-loop-rest : goal.decreases-loop-rest
decreases-loop-rest l = length l.rest

use Rattle.std.proofs.Common.{arith}
use Rattle.ip_summary.proofs.Counting.{set_noted}
use Rattle.ip_summary.proofs.summary.note_word.Goals as goal

pub loop-entry-preserved : goal.loop-entry-preserved
loop-entry-preserved c = set_noted c.args.word.now c.args.entries.now c.loop-entry.entries c.loop-entry.entry-index c.note.new.self _ (omega (arith, c.loop-entry-test.true)) c.loop-entry.invariant c.note.ensures

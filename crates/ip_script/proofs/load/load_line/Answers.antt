use Rattle.std.proofs.Common.{◌%◌, ◌++◌, ap, ◌∙◌}
use Rattle.ip_script.proofs.PutLemmas.{ok_then}
use Rattle.ip_script.proofs.LoadLaw.{is_drawn, is_roomy}
use Rattle.ip_script.proofs.load.load_line.Goals as goal

pub returns-clause-roomy : goal.returns-clause-roomy
returns-clause-roomy c room =
    is_roomy c.put_line.result (c.next_word-kind.result % 16) c.next_word-folder.result c.next_word-file.result c.next_word-value.result c.args.number _ _ c.ranges.number.fits room c.put_line.ensures.room

pub returns-clause-line : goal.returns-clause-line
returns-clause-line c =
    let drawn = is_drawn c.args.state.now c.next_word-kind.new.state c.next_word-folder.new.state c.next_word-file.new.state c.args.number _ _ _ _
    c.next_word-kind.ensures.state c.next_word-folder.ensures.state c.next_word-file.ensures.state
    c.next_word-kind.ensures.word c.next_word-folder.ensures.word c.next_word-file.ensures.word c.next_word-value.ensures.word in
    ok_then c.put_line.result _ _ (λ is. is ∙ ap (λ text. c.args.line.now.items ++ text) drawn) c.put_line.ensures.ok

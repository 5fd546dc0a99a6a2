use Rattle.std.proofs.Common.{ap, ◌∙◌, refl, sym, subst, Err, List, ℕ, length, drop, arith}
use Rattle.std.proofs.lemmas.List.{take_rest}
use Rattle.ip_script.proofs.ReadLaw.{form_at, tried_none, tried_more, tried_all, whole_is, fit_is, is_read, room, one_word}
use Rattle.ip_spec.specs.declared.command.Command.{Command}
use Rattle.ip_spec.specs.declared.command.LineFault.TheVariants as LineFault
use Rattle.ip_script.specs.Forms.{command_at, word_of}
use Rattle.ip_script.specs.Frugal.{IsFrugal}
use Rattle.ip_script.proofs.LineLaw.{one_command, one_place}
use Rattle.ip_script.proofs.line.read_line.Goals as goal

pub loop-form-init : goal.loop-form-init
loop-form-init c = tried_none c.args.line.now

pub loop-form-preserved : goal.loop-form-preserved
loop-form-preserved c =
    let form = form_at c.loop-form.form-index in
    let line = c.args.line.now in
    let fit = fit_is form line c.word-word.result.now c.fields.result.now c.reach-fit.result c.reach-fit.ensures c.word-word.ensures c.fields.ensures in
    tried_more line c.loop-form.form-index c.loop-form.most c.max-most.result form c.reach-fit.result c.loop-form.invariant refl fit c.if-fit.false c.max-most.ensures

pub returns-in-Ok-clause-reads : goal.returns-in-Ok-clause-reads
returns-in-Ok-clause-reads c =
    let form = form_at c.loop-form.form-index in
    let line = c.args.line.now in
    let fit = fit_is form line c.word-word.result.now c.fields.result.now c.reach-fit.result c.reach-fit.ensures c.word-word.ensures c.fields.ensures in
    let rest = take_rest line (length c.word-word.result.now) ∙ ap (λ (w : List ℕ). drop (length w) line) c.word-word.ensures in
    is_read form line _ c.in-Ok.command (whole_is form line c.reach-fit.result fit c.if-fit.true) rest c.in-Ok.ensures.command

pub returns-clause-reads : goal.returns-clause-reads
returns-clause-reads c = tried_all c.args.line.now c.loop-form.form-index c.loop-form.most c.loop-form-test.false c.loop-form.invariant

pub slice_bounds-command_of-count : goal.slice_bounds-command_of-count
slice_bounds-command_of-count c =
    let form = form_at c.loop-form.form-index in
    let line = c.args.line.now in
    let fit = fit_is form line c.word-word.result.now c.fields.result.now c.reach-fit.result c.reach-fit.ensures c.word-word.ensures c.fields.ensures in
    omega (arith, room form line (whole_is form line c.reach-fit.result fit c.if-fit.true), ap length c.word-word.ensures)

pub slice_bounds-command_of-start : goal.slice_bounds-command_of-start
slice_bounds-command_of-start c =
    let form = form_at c.loop-form.form-index in
    let line = c.args.line.now in
    let fit = fit_is form line c.word-word.result.now c.fields.result.now c.reach-fit.result c.reach-fit.ensures c.word-word.ensures c.fields.ensures in
    omega (arith, room form line (whole_is form line c.reach-fit.result fit c.if-fit.true), ap length c.word-word.ensures)

pub returns-in-Err-clause-one_word : goal.returns-in-Err-clause-one_word
returns-in-Err-clause-one_word c no_space e =
    let form = form_at c.loop-form.form-index in
    let line = c.args.line.now in
    let fit = fit_is form line c.word-word.result.now c.fields.result.now c.reach-fit.result c.reach-fit.ensures c.word-word.ensures c.fields.ensures in
    cc (c.in-Err.ensures.no_words (one_word form line (whole_is form line c.reach-fit.result fit c.if-fit.true) no_space))

-- ---- no memory was asked for

pub returns-in-Ok-clause-bad : goal.returns-in-Ok-clause-bad
returns-in-Ok-clause-bad c at bad =
    let form = form_at c.loop-form.form-index in
    let line = c.args.line.now in
    let fit = fit_is form line c.word-word.result.now c.fields.result.now c.reach-fit.result c.reach-fit.ensures c.word-word.ensures c.fields.ensures in
    let rest = take_rest line (length c.word-word.result.now) ∙ ap (λ (w : List ℕ). drop (length w) line) c.word-word.ensures in
    absurd (bad.no_command c.in-Ok.command (is_read form line _ c.in-Ok.command (whole_is form line c.reach-fit.result fit c.if-fit.true) rest c.in-Ok.ensures.command))

pub returns-in-Err-clause-bad : goal.returns-in-Err-clause-bad
returns-in-Err-clause-bad c at bad =
    let form = form_at c.loop-form.form-index in
    let line = c.args.line.now in
    let fit = fit_is form line c.word-word.result.now c.fields.result.now c.reach-fit.result c.reach-fit.ensures c.word-word.ensures c.fields.ensures in
    let text = drop (length (word_of form)) line in
    absurd (bad.no_command (command_at form text) (is_read form line text (command_at form text) (whole_is form line c.reach-fit.result fit c.if-fit.true) refl refl))

pub returns-clause-bad : goal.returns-clause-bad
returns-clause-bad c at bad =
    let line = c.args.line.now in
    ap (λ (n : ℕ). Err (LineFault.Bad n)) (one_place line c.loop-form.most at (tried_all line c.loop-form.form-index c.loop-form.most c.loop-form-test.false c.loop-form.invariant) bad)

pub returns-in-Err-clause-spare : goal.returns-in-Err-clause-spare
returns-in-Err-clause-spare c command spelled frugal e =
    let form = form_at c.loop-form.form-index in
    let line = c.args.line.now in
    let fit = fit_is form line c.word-word.result.now c.fields.result.now c.reach-fit.result c.reach-fit.ensures c.word-word.ensures c.fields.ensures in
    let rest = take_rest line (length c.word-word.result.now) ∙ ap (λ (w : List ℕ). drop (length w) line) c.word-word.ensures in
    let text = drop (length (word_of form)) line in
    let is = one_command line command (command_at form text) spelled (is_read form line text (command_at form text) (whole_is form line c.reach-fit.result fit c.if-fit.true) refl refl) in
    let spare = subst IsFrugal (is ∙ ap (command_at form) (sym rest)) frugal in
    cc (c.in-Err.ensures.spare spare)

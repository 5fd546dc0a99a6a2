use Rattle.std.proofs.Common.{refl, ap, subst, sym, ◌∙◌, rules}
use Rattle.ip_spec.specs.declared.command.Command.TheVariants as Command
use Rattle.ip_spec.specs.declared.reply.Reply.TheVariants as Reply
use Rattle.ip_tree.specs.TreeView.{IsRemoved}
use Rattle.ip_held.specs.Held.{image_records}
use Rattle.ip_held.specs.Collecting.{phase_of}
use Rattle.ip_held.specs.Work.{work_at}
use Rattle.ip_session.specs.Session.{state_in, tree_fault}
use Rattle.ip_session.proofs.SessionLemmas.{rm_refused}
use Rattle.ip_session.proofs.Damage.{tree_apart}
use Rattle.ip_session.proofs.Reading.{given_read, not_given, read_as, rm_read, same_read, failed_read, fails_as, free_refuses, absent_gives, ends}
use Rattle.ip_session.proofs.session.Session.remove.Goals as goal

-- ---- the work was given up

pub returns-in-Some-clause-reads : goal.returns-in-Some-clause-reads
returns-in-Some-clause-reads g c = given_read _ _ c.args.self.now (Command.Rm c.args.path) c.in-Some.number c.requires.met tt (λ r of. sym (c.given_up.ensures r of) ∙ c.in-Some.is)

-- ---- or not

pub returns-in-Ok-true-clause-reads : goal.returns-in-Ok-true-clause-reads
returns-in-Ok-true-clause-reads g c =
    let s = c.args.self.now in
    let there = not_given s c.given_up.result (search rules) c.given_up.ensures in
    let path = c.steps.result.now in
    read_as _ _ _ s _ (Command.Rm c.args.path) (Command.Rm path) _ (ap Command.Rm c.steps.ensures)
    (rm_read _ _ _ s c.remove.new.self c.remove.ensures.same c.remove.ensures.looks c.requires.met there c.remove.new.tree path
    (λ told r v held view. subst (IsRemoved (image_records held) path c.remove.new.tree v) c.in-Ok-true.field-0-test (c.in-Ok-true.ensures.removes told r v held view)))

pub returns-in-Ok-false-clause-reads : goal.returns-in-Ok-false-clause-reads
returns-in-Ok-false-clause-reads g c =
    let s = c.args.self.now in
    let there = not_given s c.given_up.result (search rules) c.given_up.ensures in
    let path = c.steps.result.now in
    read_as _ _ _ s _ (Command.Rm c.args.path) (Command.Rm path) _ (ap Command.Rm c.steps.ensures)
    (same_read _ _ _ s c.remove.new.self c.remove.ensures.same c.remove.ensures.looks c.requires.met c.remove.new.tree (Command.Rm path) Reply.Absent (rm_refused path) (λ r v of. refl)
    (λ told r v here. let removed = subst (IsRemoved (image_records here.holds) path c.remove.new.tree v) c.in-Ok-false.field-0-test (c.in-Ok-false.ensures.removes told r v here.holds (here.lawful.tree (there r here.holds.tables))) in
    ((λ still. removed.view), absent_gives r (phase_of s.store.held.collection) (work_at s.work v) path (there r here.holds.tables) removed.found)))

pub returns-clause-reads : goal.returns-clause-reads
returns-clause-reads g c =
    let s = c.args.self.now in
    let there = not_given s c.given_up.result (search rules) c.given_up.ensures in
    let path = c.steps.result.now in
    read_as _ _ _ s _ (Command.Rm c.args.path) (Command.Rm path) _ (ap Command.Rm c.steps.ensures)
    (failed_read _ _ _ s c.remove.new.self c.remove.ensures.same c.remove.ensures.looks c.requires.met c.remove.new.tree c.failed.new.met (Command.Rm path) (tree_fault c.in-Err.fault) c.failed.result (rm_refused path)
    (fails_as c.in-Err.fault c.tree_fault.result s.met c.failed.new.met c.failed.result c.tree_fault.ensures c.failed.ensures.value)
    (λ told r v here. let not_removed = c.in-Err.ensures.removes told r v here.holds (here.lawful.tree (there r here.holds.tables)) in ((λ still. not_removed.view), free_refuses (state_in s r v) (Command.Rm path) c.in-Err.fault not_removed.cause)))

pub returns-clause-cause : goal.returns-clause-cause
returns-clause-cause g c =
    let s = c.args.self.now in
    let there = not_given s c.given_up.result (search rules) c.given_up.ensures in
    let path = c.steps.result.now in
    ends (tree_fault c.in-Err.fault) (Command.Rm path) s.met c.failed.new.met c.failed.result _
    (fails_as c.in-Err.fault c.tree_fault.result s.met c.failed.new.met c.failed.result c.tree_fault.ensures c.failed.ensures.value) (tree_apart c.in-Err.fault c.in-Err.ensures.causes.blamed)
    (λ (told, (r, v, here)).
    let not_removed = c.in-Err.ensures.removes told r v here.holds (here.lawful.tree (there r here.holds.tables)) in
    (state_in s r v, free_refuses (state_in s r v) (Command.Rm path) c.in-Err.fault not_removed.cause))

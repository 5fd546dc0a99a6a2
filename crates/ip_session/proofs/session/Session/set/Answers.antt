use Rattle.std.proofs.Common.{ap₂, sym, ◌∙◌, rules}
use Rattle.ip_spec.specs.declared.command.Command.TheVariants as Command
use Rattle.ip_held.specs.Collecting.{phase_of}
use Rattle.ip_held.specs.Work.{work_at}
use Rattle.ip_session.specs.Session.{state_in, tree_fault}
use Rattle.ip_session.proofs.SessionLemmas.{set_refused}
use Rattle.ip_session.proofs.Damage.{tree_apart}
use Rattle.ip_session.proofs.Reading.{given_read, not_given, read_as, set_read, failed_read, fails_as, set_refuses, ends}
use Rattle.ip_session.proofs.session.Session.set.Goals as goal

-- ---- the work was given up

pub returns-in-Some-clause-reads : goal.returns-in-Some-clause-reads
returns-in-Some-clause-reads g c = given_read _ _ c.args.self.now (Command.Set c.args.path c.args.contents) c.in-Some.number c.requires.met tt (λ r of. sym (c.given_up.ensures r of) ∙ c.in-Some.is)

-- ---- or not

pub returns-in-Ok-clause-reads : goal.returns-in-Ok-clause-reads
returns-in-Ok-clause-reads g c =
    let s = c.args.self.now in
    let there = not_given s c.given_up.result (search rules) c.given_up.ensures in
    let path = c.steps.result.now in
    let bytes = c.as_slice.result.now in
    read_as _ _ _ s _ (Command.Set c.args.path c.args.contents) (Command.Set path bytes) _ (ap₂ Command.Set c.steps.ensures c.as_slice.ensures)
    (set_read _ _ _ s c.set.new.self c.set.ensures.same c.set.ensures.looks c.requires.met there c.set.new.tree path bytes c.in-Ok.ensures.sets)

pub returns-clause-reads : goal.returns-clause-reads
returns-clause-reads g c =
    let s = c.args.self.now in
    let there = not_given s c.given_up.result (search rules) c.given_up.ensures in
    let path = c.steps.result.now in
    let bytes = c.as_slice.result.now in
    read_as _ _ _ s _ (Command.Set c.args.path c.args.contents) (Command.Set path bytes) _ (ap₂ Command.Set c.steps.ensures c.as_slice.ensures)
    (failed_read _ _ _ s c.set.new.self c.set.ensures.same c.set.ensures.looks c.requires.met c.set.new.tree c.failed.new.met (Command.Set path bytes) (tree_fault c.in-Err.fault) c.failed.result (set_refused path bytes)
    (fails_as c.in-Err.fault c.tree_fault.result s.met c.failed.new.met c.failed.result c.tree_fault.ensures c.failed.ensures.value)
    (λ told r v here. let not_set = c.in-Err.ensures.sets told r v here.holds (here.lawful.tree (there r here.holds.tables)) in ((λ still. not_set.view), set_refuses r (phase_of s.store.held.collection) (work_at s.work v) path bytes c.in-Err.fault (there r here.holds.tables) not_set.cause)))

pub returns-clause-cause : goal.returns-clause-cause
returns-clause-cause g c =
    let s = c.args.self.now in
    let there = not_given s c.given_up.result (search rules) c.given_up.ensures in
    let path = c.steps.result.now in
    let bytes = c.as_slice.result.now in
    ends (tree_fault c.in-Err.fault) (Command.Set path bytes) s.met c.failed.new.met c.failed.result _
    (fails_as c.in-Err.fault c.tree_fault.result s.met c.failed.new.met c.failed.result c.tree_fault.ensures c.failed.ensures.value) (tree_apart c.in-Err.fault c.in-Err.ensures.causes.blamed)
    (λ (told, (r, v, here)).
    let not_set = c.in-Err.ensures.sets told r v here.holds (here.lawful.tree (there r here.holds.tables)) in
    (state_in s r v, set_refuses r (phase_of s.store.held.collection) (work_at s.work v) path bytes c.in-Err.fault (there r here.holds.tables) not_set.cause))

use Rattle.std.proofs.Common.{refl, ap, sym, ◌∙◌, rules}
use Rattle.ip_spec.specs.declared.command.Command.TheVariants as Command
use Rattle.ip_held.specs.Collecting.{phase_of}
use Rattle.ip_held.specs.Work.{work_at}
use Rattle.ip_session.specs.Session.{state_in, tree_fault}
use Rattle.ip_session.proofs.SessionLemmas.{list_refused}
use Rattle.ip_session.proofs.Damage.{tree_apart}
use Rattle.ip_session.proofs.Reading.{given_read, not_given, read_as, same_read, failed_read, fails_as, free_refuses, ends, listed_gives}
use Rattle.ip_session.proofs.session.Session.list.Goals as goal

-- ---- the work was given up

pub returns-in-Some-clause-reads : goal.returns-in-Some-clause-reads
returns-in-Some-clause-reads g c = given_read _ _ c.args.self.now (Command.List c.args.path) c.in-Some.number c.requires.met tt (λ r of. sym (c.given_up.ensures r of) ∙ c.in-Some.is)

-- ---- or not

pub returns-in-Ok-clause-reads : goal.returns-in-Ok-clause-reads
returns-in-Ok-clause-reads g c =
    let s = c.args.self.now in
    let there = not_given s c.given_up.result (search rules) c.given_up.ensures in
    let path = c.steps.result.now in
    read_as _ _ _ s _ (Command.List c.args.path) (Command.List path) _ (ap Command.List c.steps.ensures)
    (same_read _ _ _ s c.list.new.self c.list.ensures.same c.list.ensures.looks c.requires.met s.work.tree (Command.List path) c.listed_reply.result (list_refused path) (λ r v of. refl)
    (λ told r v here. (here.lawful.tree, listed_gives r (phase_of s.store.held.collection) (work_at s.work v) path c.in-Ok.listed c.listed_reply.result (there r here.holds.tables) c.listed_reply.ensures.value (c.in-Ok.ensures.listed told r v here.holds (here.lawful.tree (there r here.holds.tables))))))

pub returns-clause-reads : goal.returns-clause-reads
returns-clause-reads g c =
    let s = c.args.self.now in
    let there = not_given s c.given_up.result (search rules) c.given_up.ensures in
    let path = c.steps.result.now in
    read_as _ _ _ s _ (Command.List c.args.path) (Command.List path) _ (ap Command.List c.steps.ensures)
    (failed_read _ _ _ s c.list.new.self c.list.ensures.same c.list.ensures.looks c.requires.met s.work.tree c.failed.new.met (Command.List path) (tree_fault c.in-Err.fault) c.failed.result (list_refused path)
    (fails_as c.in-Err.fault c.tree_fault.result s.met c.failed.new.met c.failed.result c.tree_fault.ensures c.failed.ensures.value)
    (λ told r v here. (here.lawful.tree, free_refuses (state_in s r v) (Command.List path) c.in-Err.fault (c.in-Err.ensures.listed told r v here.holds (here.lawful.tree (there r here.holds.tables))))))

pub returns-clause-cause : goal.returns-clause-cause
returns-clause-cause g c =
    let s = c.args.self.now in
    let there = not_given s c.given_up.result (search rules) c.given_up.ensures in
    let path = c.steps.result.now in
    ends (tree_fault c.in-Err.fault) (Command.List path) s.met c.failed.new.met c.failed.result _
    (fails_as c.in-Err.fault c.tree_fault.result s.met c.failed.new.met c.failed.result c.tree_fault.ensures c.failed.ensures.value) (tree_apart c.in-Err.fault c.in-Err.ensures.causes.blamed)
    (λ (told, (r, v, here)). (state_in s r v, free_refuses (state_in s r v) (Command.List path) c.in-Err.fault (c.in-Err.ensures.listed told r v here.holds (here.lawful.tree (there r here.holds.tables)))))

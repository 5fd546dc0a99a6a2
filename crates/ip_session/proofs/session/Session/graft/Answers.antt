use Rattle.std.proofs.Common.{refl, ap₂, sym, subst, Ok, Err, ◌∙◌, rules}
use Rattle.ip_spec.specs.declared.command.Command.TheVariants as Command
use Rattle.ip_spec.specs.declared.reply.Reply.TheVariants as Reply
use Rattle.ip_spec.specs.Repository.{tree_at}
use Rattle.ip_tree.specs.TreeView.{IsGrafted, stored_view}
use Rattle.ip_held.specs.Held.{image_records}
use Rattle.ip_held.specs.Collecting.{phase_of}
use Rattle.ip_held.specs.Work.{work_at}
use Rattle.ip_session.specs.Session.{state_in, tree_fault}
use Rattle.ip_session.proofs.SessionLemmas.{graft_refused}
use Rattle.ip_session.proofs.Referring.{graft_unnamed}
use Rattle.ip_session.proofs.Seeing.{unnamed_seen}
use Rattle.ip_session.proofs.Damage.{tree_apart}
use Rattle.ip_session.proofs.Reading.{given_read, not_given, read_as, unread, same_read, failed_read, fails_as, graft_refuses, ends, looks_on, same_on, grafts_behind, graft_read, ungrafted_gives, unfetched_read, unfetched_ends}
use Rattle.ip_session.proofs.session.Session.graft.Goals as goal

-- ---- the work was given up

pub returns-in-Some-clause-reads : goal.returns-in-Some-clause-reads
returns-in-Some-clause-reads g c = given_read _ _ c.args.self.now (Command.Graft c.args.target c.args.from c.args.to) c.in-Some.number c.requires.met tt (λ r of. sym (c.given_up.ensures r of) ∙ c.in-Some.is)

-- ---- or not

pub returns-in-Err-clause-reads : goal.returns-in-Err-clause-reads
returns-in-Err-clause-reads g c =
    let s = c.args.self.now in
    let there = not_given s c.given_up.result (search rules) c.given_up.ensures in
    unread _ _ s s.met (Command.Graft c.args.target c.args.from c.args.to) c.in-Err.reply c.requires.met (graft_refused c.args.target c.args.from c.args.to)
    (λ r v of. unnamed_seen r v (Command.Graft c.args.target c.args.from c.args.to) c.args.target c.in-Err.reply (sym (c.in-Err.ensures.number r of)))
    (λ r v of. graft_unnamed r (phase_of s.store.held.collection) (work_at s.work v) c.args.target c.args.from c.args.to c.in-Err.reply (there r of) (sym (c.in-Err.ensures.number r of)))

pub tree_of-requires : goal.tree_of-requires
tree_of-requires g c =
    let r = c.requires.tables.0 in
    let is = c.requires.tables.1 in
    record { tables = (r, is.0, c.in-Ok.ensures.retained r is.0) }

pub returns-in-Err-tree_of-clause-reads : goal.returns-in-Err-tree_of-clause-reads
returns-in-Err-tree_of-clause-reads g c =
    unfetched_read _ _ _ c.args.self.now c.tree_of.new.self c.tree_of.ensures.same c.tree_of.ensures.looks c.requires.met c.args.target c.in-Ok.number c.in-Ok.ensures.number c.in-Ok.ensures.retained
    c.failed.new.met (Command.Graft c.args.target c.args.from c.args.to) c.in-Err-tree_of.fault c.failed.result (graft_refused c.args.target c.args.from c.args.to) c.failed.ensures.value c.in-Err-tree_of.ensures.tree

pub returns-in-Err-tree_of-clause-cause : goal.returns-in-Err-tree_of-clause-cause
returns-in-Err-tree_of-clause-cause g c =
    unfetched_ends c.args.self.now _ c.in-Ok.number _ (Command.Graft c.args.target c.args.from c.args.to) c.failed.new.met c.in-Err-tree_of.fault c.failed.result c.in-Ok.ensures.retained c.failed.ensures.value c.in-Err-tree_of.ensures.causes
    c.in-Err-tree_of.ensures.tree

pub returns-in-Ok-true-clause-reads : goal.returns-in-Ok-true-clause-reads
returns-in-Ok-true-clause-reads g c =
    let s = c.args.self.now in
    let there = not_given s c.given_up.result (search rules) c.given_up.ensures in
    let mid = c.tree_of.new.self.held in
    let from = c.steps.result.now in
    let to = c.steps-2.result.now in
    let n = c.in-Ok.number in
    let source = c.in-Ok-tree_of.tree in
    let tree = c.graft.new.tree in
    read_as _ _ _ s _ (Command.Graft c.args.target c.args.from c.args.to) (Command.Graft c.args.target from to) _ (ap₂ (Command.Graft c.args.target) c.steps.ensures c.steps-2.ensures)
    (graft_read _ _ _ s c.graft.new.self (same_on s.store.held mid c.graft.new.self.held c.tree_of.ensures.same c.graft.ensures.same)
    (λ told. looks_on _ _ _ s.store.held mid c.graft.new.self.held (c.tree_of.ensures.looks told) (c.graft.ensures.looks told)) c.requires.met c.args.target n c.in-Ok.ensures.number c.in-Ok.ensures.retained
    there tree source from to c.least_with.result c.least_with.ensures c.in-Ok-tree_of.ensures.tree
    (λ told r v held t view. subst (IsGrafted (image_records held) from to tree v (stored_view (image_records held) n t.at (tree_at r n))) c.in-Ok-true.field-0-test
    (grafts_behind _ _ s.store.held mid (c.tree_of.ensures.looks told) r held from to s.work.tree source tree (Ok c.in-Ok-true.field-0) n (c.in-Ok-true.ensures.grafts told) v view t)))

pub returns-in-Ok-false-clause-reads : goal.returns-in-Ok-false-clause-reads
returns-in-Ok-false-clause-reads g c =
    let s = c.args.self.now in
    let there = not_given s c.given_up.result (search rules) c.given_up.ensures in
    let mid = c.tree_of.new.self.held in
    let from = c.steps.result.now in
    let to = c.steps-2.result.now in
    let n = c.in-Ok.number in
    let source = c.in-Ok-tree_of.tree in
    let tree = c.graft.new.tree in
    let command = Command.Graft c.args.target from to in
    read_as _ _ _ s _ (Command.Graft c.args.target c.args.from c.args.to) command _ (ap₂ (Command.Graft c.args.target) c.steps.ensures c.steps-2.ensures)
    (same_read _ _ _ s c.graft.new.self (same_on s.store.held mid c.graft.new.self.held c.tree_of.ensures.same c.graft.ensures.same)
    (λ told. looks_on _ _ _ s.store.held mid c.graft.new.self.held (c.tree_of.ensures.looks told) (c.graft.ensures.looks told)) c.requires.met tree command Reply.Absent (graft_refused c.args.target from to) (λ r v of. refl)
    (λ told r v here.
    let of = here.holds.tables in
    let t = c.in-Ok-tree_of.ensures.tree told r here.holds (c.in-Ok.ensures.retained r of) in
    let grafted = subst (IsGrafted (image_records here.holds) from to tree v (stored_view (image_records here.holds) n t.at (tree_at r n))) c.in-Ok-false.field-0-test
    (grafts_behind _ _ s.store.held mid (c.tree_of.ensures.looks told) r here.holds from to s.work.tree source tree (Ok c.in-Ok-false.field-0) n (c.in-Ok-false.ensures.grafts told) v (here.lawful.tree (there r of)) t) in
    (λ still. grafted.view, ungrafted_gives r (phase_of s.store.held.collection) (work_at s.work v) c.args.target from to n (there r here.holds.tables) (sym (c.in-Ok.ensures.number r of)) grafted.found)))

pub returns-clause-reads : goal.returns-clause-reads
returns-clause-reads g c =
    let s = c.args.self.now in
    let there = not_given s c.given_up.result (search rules) c.given_up.ensures in
    let mid = c.tree_of.new.self.held in
    let from = c.steps.result.now in
    let to = c.steps-2.result.now in
    let n = c.in-Ok.number in
    let source = c.in-Ok-tree_of.tree in
    let tree = c.graft.new.tree in
    let command = Command.Graft c.args.target from to in
    let fault = c.in-Err-graft.fault in
    let failed = c.failed-in-Err-graft in
    read_as _ _ _ s _ (Command.Graft c.args.target c.args.from c.args.to) command _ (ap₂ (Command.Graft c.args.target) c.steps.ensures c.steps-2.ensures)
    (failed_read _ _ _ s c.graft.new.self (same_on s.store.held mid c.graft.new.self.held c.tree_of.ensures.same c.graft.ensures.same)
    (λ told. looks_on _ _ _ s.store.held mid c.graft.new.self.held (c.tree_of.ensures.looks told) (c.graft.ensures.looks told)) c.requires.met tree failed.new.met command (tree_fault fault) failed.result (graft_refused c.args.target from to)
    (fails_as fault c.tree_fault.result s.met failed.new.met failed.result c.tree_fault.ensures failed.ensures.value)
    (λ told r v here.
    let of = here.holds.tables in
    let t = c.in-Ok-tree_of.ensures.tree told r here.holds (c.in-Ok.ensures.retained r of) in
    let ungrafted = grafts_behind _ _ s.store.held mid (c.tree_of.ensures.looks told) r here.holds from to s.work.tree source tree (Err fault) n (c.in-Err-graft.ensures.grafts told) v (here.lawful.tree (there r of)) t in
    ((λ still. ungrafted.view), graft_refuses r (phase_of s.store.held.collection) (work_at s.work v) c.args.target from to n fault (there r here.holds.tables) (sym (c.in-Ok.ensures.number r of)) ungrafted.cause)))

pub returns-clause-cause : goal.returns-clause-cause
returns-clause-cause g c =
    let s = c.args.self.now in
    let there = not_given s c.given_up.result (search rules) c.given_up.ensures in
    let mid = c.tree_of.new.self.held in
    let from = c.steps.result.now in
    let to = c.steps-2.result.now in
    let n = c.in-Ok.number in
    let source = c.in-Ok-tree_of.tree in
    let tree = c.graft.new.tree in
    let command = Command.Graft c.args.target from to in
    let fault = c.in-Err-graft.fault in
    let failed = c.failed-in-Err-graft in
    ends (tree_fault fault) command s.met failed.new.met failed.result _ (fails_as fault c.tree_fault.result s.met failed.new.met failed.result c.tree_fault.ensures failed.ensures.value) (tree_apart fault c.in-Err-graft.ensures.causes.blamed)
    (λ (told, (r, v, here)).
    let of = here.holds.tables in
    let t = c.in-Ok-tree_of.ensures.tree told r here.holds (c.in-Ok.ensures.retained r of) in
    let ungrafted = grafts_behind _ _ s.store.held mid (c.tree_of.ensures.looks told) r here.holds from to s.work.tree source tree (Err fault) n (c.in-Err-graft.ensures.grafts told) v (here.lawful.tree (there r of)) t in
    (state_in s r v, graft_refuses r (phase_of s.store.held.collection) (work_at s.work v) c.args.target from to n fault (there r here.holds.tables) (sym (c.in-Ok.ensures.number r of)) ungrafted.cause))

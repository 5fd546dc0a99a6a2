use Rattle.std.proofs.Common.{refl, ◌≡◌, ap, sym}
use Rattle.ip_spec.specs.declared.command.Command.TheVariants as Command
use Rattle.ip_spec.specs.Tree.{Tree, got_at}
use Rattle.ip_tree.specs.Reads.{IsFree}
use Rattle.ip_held.specs.Collecting.{phase_of}
use Rattle.ip_held.specs.Work.{work_at}
use Rattle.ip_session.specs.Session.{state_in, tree_fault}
use Rattle.ip_session.proofs.SessionLemmas.{cat_refused}
use Rattle.ip_session.proofs.Referring.{cat_unnamed}
use Rattle.ip_session.proofs.Damage.{tree_apart}
use Rattle.ip_session.proofs.Reading.{read_as, unread, same_read, failed_read, fails_as, free_refuses, ends, looks_on, same_on, got_behind, cat_gives, unfetched_read, unfetched_ends}
use Rattle.ip_session.proofs.session.Session.cat.Goals as goal

pub returns-in-Err-clause-reads : goal.returns-in-Err-clause-reads
returns-in-Err-clause-reads g c =
    let s = c.args.self.now in
    unread _ _ s s.met (Command.Cat c.args.target c.args.path) c.in-Err.reply c.requires.met (cat_refused c.args.target c.args.path) (λ r v of. refl)
    (λ r v of. cat_unnamed r (phase_of s.store.held.collection) (work_at s.work v) c.args.target c.args.path c.in-Err.reply (sym (c.in-Err.ensures.number r of)))

pub tree_of-requires : goal.tree_of-requires
tree_of-requires g c =
    let r = c.requires.tables.0 in
    let is = c.requires.tables.1 in
    record { tables = (r, is.0, c.in-Ok.ensures.retained r is.0) }

pub returns-in-Err-tree_of-clause-reads : goal.returns-in-Err-tree_of-clause-reads
returns-in-Err-tree_of-clause-reads g c =
    unfetched_read _ _ _ c.args.self.now c.tree_of.new.self c.tree_of.ensures.same c.tree_of.ensures.looks c.requires.met c.args.target c.in-Ok.number c.in-Ok.ensures.number c.in-Ok.ensures.retained
    c.failed.new.met (Command.Cat c.args.target c.args.path) c.in-Err-tree_of.fault c.failed.result (cat_refused c.args.target c.args.path) c.failed.ensures.value c.in-Err-tree_of.ensures.tree

pub returns-in-Err-tree_of-clause-cause : goal.returns-in-Err-tree_of-clause-cause
returns-in-Err-tree_of-clause-cause g c =
    unfetched_ends c.args.self.now _ c.in-Ok.number _ (Command.Cat c.args.target c.args.path) c.failed.new.met c.in-Err-tree_of.fault c.failed.result c.in-Ok.ensures.retained c.failed.ensures.value c.in-Err-tree_of.ensures.causes
    c.in-Err-tree_of.ensures.tree

pub returns-in-Ok-get-clause-reads : goal.returns-in-Ok-get-clause-reads
returns-in-Ok-get-clause-reads g c =
    let s = c.args.self.now in
    let mid = c.tree_of.new.self.held in
    let path = c.steps.result.now in
    let n = c.in-Ok.number in
    let command = Command.Cat c.args.target path in
    read_as _ _ _ s _ (Command.Cat c.args.target c.args.path) command _ (ap (Command.Cat c.args.target) c.steps.ensures)
    (same_read _ _ _ s c.get.new.self (same_on s.store.held mid c.get.new.self.held c.tree_of.ensures.same c.get.ensures.same) (λ told. looks_on _ _ _ s.store.held mid c.get.new.self.held (c.tree_of.ensures.looks told) (c.get.ensures.looks told)) c.requires.met
    s.work.tree command c.got_reply.result (cat_refused c.args.target path) (λ r v of. refl)
    (λ told r v here.
    let of = here.holds.tables in
    let read = c.in-Ok-tree_of.ensures.tree told r here.holds (c.in-Ok.ensures.retained r of) in (
      here.lawful.tree,
      cat_gives r (phase_of s.store.held.collection) (work_at s.work v) c.args.target path n c.in-Ok-get.got c.got_reply.result (sym (c.in-Ok.ensures.number r of)) c.got_reply.ensures.value
          (got_behind _ _ s.store.held mid (c.tree_of.ensures.looks told) r here.holds c.in-Ok-tree_of.tree n (λ (m : Tree). c.in-Ok-get.got ≡ got_at m path) (c.in-Ok-get.ensures.got told) read),
    )))

pub returns-clause-reads : goal.returns-clause-reads
returns-clause-reads g c =
    let s = c.args.self.now in
    let mid = c.tree_of.new.self.held in
    let path = c.steps.result.now in
    let command = Command.Cat c.args.target path in
    let fault = c.in-Err-get.fault in
    let failed = c.failed-in-Err-get in
    read_as _ _ _ s _ (Command.Cat c.args.target c.args.path) command _ (ap (Command.Cat c.args.target) c.steps.ensures)
    (failed_read _ _ _ s c.get.new.self (same_on s.store.held mid c.get.new.self.held c.tree_of.ensures.same c.get.ensures.same) (λ told. looks_on _ _ _ s.store.held mid c.get.new.self.held (c.tree_of.ensures.looks told) (c.get.ensures.looks told)) c.requires.met
    s.work.tree failed.new.met command (tree_fault fault) failed.result (cat_refused c.args.target path) (fails_as fault c.tree_fault.result s.met failed.new.met failed.result c.tree_fault.ensures failed.ensures.value)
    (λ told r v here.
    let read = c.in-Ok-tree_of.ensures.tree told r here.holds (c.in-Ok.ensures.retained r here.holds.tables) in (
      here.lawful.tree,
      free_refuses (state_in s r v) command fault
          (got_behind _ _ s.store.held mid (c.tree_of.ensures.looks told) r here.holds c.in-Ok-tree_of.tree c.in-Ok.number (λ (m : Tree). IsFree fault) (c.in-Err-get.ensures.got told) read),
    )))

pub returns-clause-cause : goal.returns-clause-cause
returns-clause-cause g c =
    let s = c.args.self.now in
    let mid = c.tree_of.new.self.held in
    let path = c.steps.result.now in
    let command = Command.Cat c.args.target path in
    let fault = c.in-Err-get.fault in
    let failed = c.failed-in-Err-get in
    ends (tree_fault fault) command s.met failed.new.met failed.result _ (fails_as fault c.tree_fault.result s.met failed.new.met failed.result c.tree_fault.ensures failed.ensures.value) (tree_apart fault c.in-Err-get.ensures.causes.blamed)
    (λ (told, (r, v, here)).
    let holds = here.holds in
    let read = c.in-Ok-tree_of.ensures.tree told r holds (c.in-Ok.ensures.retained r holds.tables) in (
      state_in s r v,
      free_refuses (state_in s r v) command fault
          (got_behind _ _ s.store.held mid (c.tree_of.ensures.looks told) r holds c.in-Ok-tree_of.tree c.in-Ok.number (λ (m : Tree). IsFree fault) (c.in-Err-get.ensures.got told) read),
    ))

use Rattle.std.proofs.Common.{refl, sym, ap}
use Rattle.std.specs.Prelude.{is_ok}
use Rattle.ip_spec.specs.declared.command.Command.TheVariants as Command
use Rattle.ip_held.specs.Collecting.{phase_of}
use Rattle.ip_held.specs.Work.{work_at}
use Rattle.ip_reads.specs.declared.commit.Shown.{Shown}
use Rattle.ip_session.specs.Session.{state_in}
use Rattle.ip_session.proofs.SessionLemmas.{show_refused}
use Rattle.ip_session.proofs.Referring.{show_unnamed}
use Rattle.ip_session.proofs.Damage.{commit_apart}
use Rattle.ip_session.proofs.Reading.{unread, same_read, failed_read, unshown_refuses, ends, shown_gives}
use Rattle.ip_session.proofs.Wanted.{unnamed_memory}
use Rattle.ip_session.proofs.session.Session.show.Goals as goal

pub returns-in-Err-clause-reads : goal.returns-in-Err-clause-reads
returns-in-Err-clause-reads g c =
    let s = c.args.self.now in
    unread _ _ s s.met (Command.Show c.args.target) c.in-Err.reply c.requires.met (show_refused c.args.target) (λ r v of. refl)
    (λ r v of. show_unnamed r (phase_of s.store.held.collection) (work_at s.work v) c.args.target c.in-Err.reply (sym (c.in-Err.ensures.number r of)))

pub show-requires : goal.show-requires
show-requires g c =
    let r = c.requires.tables.0 in
    let is = c.requires.tables.1 in
    record { tables = (r, is.0, c.in-Ok.ensures.retained r is.0) }

pub returns-in-Ok-show-clause-reads : goal.returns-in-Ok-show-clause-reads
returns-in-Ok-show-clause-reads g c =
    let s = c.args.self.now in
    same_read _ _ _ s c.show.new.self c.show.ensures.same c.show.ensures.looks c.requires.met s.work.tree (Command.Show c.args.target) c.shown_reply.result (show_refused c.args.target) (λ r v of. refl)
    (λ told r v here.
    let of = here.holds.tables in (
      here.lawful.tree,
      shown_gives r (phase_of s.store.held.collection) (work_at s.work v) c.args.target c.in-Ok.number _ c.shown_reply.result (sym (c.in-Ok.ensures.number r of)) c.shown_reply.ensures.value
          (c.in-Ok-show.ensures.shows told r here.holds (c.in-Ok.ensures.retained r of)),
    ))

pub returns-in-Err-show-clause-reads : goal.returns-in-Err-show-clause-reads
returns-in-Err-show-clause-reads g c =
    let s = c.args.self.now in
    failed_read _ _ _ s c.show.new.self c.show.ensures.same c.show.ensures.looks c.requires.met s.work.tree c.failed.new.met (Command.Show c.args.target) c.in-Err-show.fault c.failed.result (show_refused c.args.target) c.failed.ensures.value
    (λ told r v here. (here.lawful.tree, unshown_refuses r c.in-Ok.number (state_in s r v) (Command.Show c.args.target) c.in-Err-show.fault (c.in-Err-show.ensures.shows told r here.holds (c.in-Ok.ensures.retained r here.holds.tables))))

pub returns-in-Err-show-clause-cause : goal.returns-in-Err-show-clause-cause
returns-in-Err-show-clause-cause g c =
    let s = c.args.self.now in
    let (r, is) = c.requires.tables in
    ends c.in-Err-show.fault (Command.Show c.args.target) s.met c.failed.new.met c.failed.result _ c.failed.ensures.value (commit_apart Shown _ _ c.in-Err-show.fault (c.in-Err-show.ensures.blames r is.0 (c.in-Ok.ensures.retained r is.0)))
    (λ (told, (r, v, here)). (
      state_in s r v,
      unshown_refuses r c.in-Ok.number (state_in s r v) (Command.Show c.args.target) c.in-Err-show.fault (c.in-Err-show.ensures.shows told r here.holds (c.in-Ok.ensures.retained r here.holds.tables)),
    ))

-- ---- memory was wanted

pub returns-in-Err-clause-memory : goal.returns-in-Err-clause-memory
returns-in-Err-clause-memory g c r is e = absurd (unnamed_memory r c.args.target c.in-Err.reply (c.in-Err.ensures.number r is.0) e)

pub returns-in-Ok-show-clause-memory : goal.returns-in-Ok-show-clause-memory
returns-in-Ok-show-clause-memory g c r is e = ap is_ok (sym (c.in-Ok.ensures.number r is.0))

pub returns-in-Err-show-clause-memory : goal.returns-in-Err-show-clause-memory
returns-in-Err-show-clause-memory g c r is e = ap is_ok (sym (c.in-Ok.ensures.number r is.0))

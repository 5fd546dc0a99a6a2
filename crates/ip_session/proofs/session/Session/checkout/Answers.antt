use Rattle.std.proofs.Common.{rules, ◌≡◌, [], ◌∷◌, sym, ap}
use Rattle.std.specs.Prelude.{is_ok}
use Rattle.ip_spec.specs.declared.command.Command.TheVariants as Command
use Rattle.ip_held.specs.Collecting.{phase_of}
use Rattle.ip_held.specs.Work.{work_at}
use Rattle.ip_held.proofs.Stepping.{same_tables}
use Rattle.ip_session.proofs.SessionLemmas.{checkout_refused}
use Rattle.ip_session.proofs.Referring.{checkout_unnamed}
use Rattle.ip_session.proofs.Seeing.{unnamed_seen}
use Rattle.ip_session.proofs.Reading.{unread, refused_unread, checkout_read, unfetched_read, unfetched_ends}
use Rattle.ip_session.proofs.Wanted.{unnamed_memory}
use Rattle.ip_session.proofs.session.Session.checkout.Goals as goal

pub returns-in-Err-clause-reads : goal.returns-in-Err-clause-reads
returns-in-Err-clause-reads g c =
    let s = c.args.self.now in
    unread _ _ s s.met (Command.Checkout c.args.target) c.in-Err.reply c.requires.met (checkout_refused c.args.target)
    (λ r v of. unnamed_seen r v (Command.Checkout c.args.target) c.args.target c.in-Err.reply (sym (c.in-Err.ensures.number r of)))
    (λ r v of. checkout_unnamed r (phase_of s.store.held.collection) (work_at s.work v) c.args.target c.in-Err.reply (sym (c.in-Err.ensures.number r of)))

pub returns-then-is_err-clause-reads : goal.returns-then-is_err-clause-reads
returns-then-is_err-clause-reads g c = refused_unread _ _ c.args.self.now c.refuse.new.met (Command.Checkout c.args.target) c.refuse.result c.refuse.ensures.met c.refuse.ensures.reply (checkout_refused c.args.target)

pub tree_of-requires : goal.tree_of-requires
tree_of-requires g c =
    let r = c.requires.tables.0 in
    let is = c.requires.tables.1 in
    record { tables = (r, is.0, c.in-Ok.ensures.retained r is.0) }

pub returns-in-Err-tree_of-clause-reads : goal.returns-in-Err-tree_of-clause-reads
returns-in-Err-tree_of-clause-reads g c =
    unfetched_read _ _ _ c.args.self.now c.tree_of.new.self c.tree_of.ensures.same c.tree_of.ensures.looks c.requires.met c.args.target c.in-Ok.number c.in-Ok.ensures.number c.in-Ok.ensures.retained
    c.failed.new.met (Command.Checkout c.args.target) c.in-Err-tree_of.fault c.failed.result (checkout_refused c.args.target) c.failed.ensures.value c.in-Err-tree_of.ensures.tree

pub returns-in-Err-tree_of-clause-cause : goal.returns-in-Err-tree_of-clause-cause
returns-in-Err-tree_of-clause-cause g c =
    unfetched_ends c.args.self.now _ c.in-Ok.number _ (Command.Checkout c.args.target) c.failed.new.met c.in-Err-tree_of.fault c.failed.result c.in-Ok.ensures.retained c.failed.ensures.value c.in-Err-tree_of.ensures.causes
    c.in-Err-tree_of.ensures.tree

pub retained_name-requires : goal.retained_name-requires
retained_name-requires g c =
    let r = c.requires.tables.0 in
    let is = c.requires.tables.1 in
    record { tables = (r, same_tables c.args.self.now.store.held c.tree_of.new.self.held c.tree_of.ensures.same r is.0, c.in-Ok.ensures.retained r is.0) }

pub returns-clause-reads : goal.returns-clause-reads
returns-clause-reads g c =
    let s = c.args.self.now in
    let one : c.push.new.self ≡ c.in-Ok.number ∷ [] = search rules in
    checkout_read _ _ _ s c.tree_of.new.self c.tree_of.ensures.same c.tree_of.ensures.looks c.requires.met c.args.target c.in-Ok.number c.in-Ok.ensures.number c.in-Ok.ensures.retained
    c.in-Ok-tree_of.tree c.push.new.self c.retained_name.result one c.retained_name.ensures c.in-Ok-tree_of.ensures.tree

-- ---- memory was wanted

pub returns-in-Err-clause-memory : goal.returns-in-Err-clause-memory
returns-in-Err-clause-memory g c r is e = absurd (unnamed_memory r c.args.target c.in-Err.reply (c.in-Err.ensures.number r is.0) e)

pub returns-then-is_err-clause-memory : goal.returns-then-is_err-clause-memory
returns-then-is_err-clause-memory g c r is e = ap is_ok (sym (c.in-Ok.ensures.number r is.0))

pub returns-in-Err-tree_of-clause-memory : goal.returns-in-Err-tree_of-clause-memory
returns-in-Err-tree_of-clause-memory g c r is e = ap is_ok (sym (c.in-Ok.ensures.number r is.0))

pub returns-clause-memory : goal.returns-clause-memory
returns-clause-memory g c r is e = ap is_ok (sym (c.in-Ok.ensures.number r is.0))

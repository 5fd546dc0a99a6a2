use Rattle.std.proofs.Common.{sym, refl, rules, ◌∙◌, ◌≡◌, None, ap}
use Rattle.std.specs.Prelude.{is_ok}
use Rattle.ip_spec.specs.declared.command.Command.TheVariants as Command
use Rattle.ip_held.specs.Collecting.{phase_of}
use Rattle.ip_held.specs.Work.{work_at}
use Rattle.ip_session.proofs.SessionLemmas.{parent_refused}
use Rattle.ip_session.proofs.Referring.{parent_unnamed}
use Rattle.ip_session.proofs.Reading.{given_answered, not_given, still_answered}
use Rattle.ip_session.proofs.Wanted.{unnamed_memory}
use Rattle.ip_session.proofs.session.Session.parent.Goals as goal

pub add_parent-requires-clause-tables : goal.add_parent-requires-clause-tables
add_parent-requires-clause-tables c =
    let r = c.requires.tables.0 in
    let is = c.requires.tables.1 in
    (r, is, c.in-Ok.ensures.retained r is.0)

pub returns-in-Some-clause-answered : goal.returns-in-Some-clause-answered
returns-in-Some-clause-answered c records r v of l = given_answered records c.args.self.now r v of l c.args.self.now.met (Command.Parent c.args.target) c.in-Some.number c.requires.met tt (sym (c.given_up.ensures r of) ∙ c.in-Some.is)

pub returns-in-Err-clause-answered : goal.returns-in-Err-clause-answered
returns-in-Err-clause-answered c records r v of l = still_answered records c.args.self.now c.args.self.now r v (Command.Parent c.args.target) refl refl l c.in-Err.reply c.requires.met
    (parent_unnamed r (phase_of c.args.self.now.store.held.collection) (work_at c.args.self.now.work v) c.args.target c.in-Err.reply (not_given c.args.self.now c.given_up.result (search rules) c.given_up.ensures r of) (sym (c.in-Err.ensures.number r of))) refl (parent_refused c.args.target)

pub returns-in-Ok-clause-answered : goal.returns-in-Ok-clause-answered
returns-in-Ok-clause-answered c records r v of l = c.add_parent.ensures.answered records r v of l (not_given c.args.self.now c.given_up.result (search rules) c.given_up.ensures r of) (c.in-Ok.ensures.retained r of) c.args.target (sym (c.in-Ok.ensures.number r of))

-- ---- memory was wanted

pub returns-in-Some-clause-memory : goal.returns-in-Some-clause-memory
returns-in-Some-clause-memory c r is e = absurd (cc e)

pub returns-in-Err-clause-memory : goal.returns-in-Err-clause-memory
returns-in-Err-clause-memory c r is e = absurd (unnamed_memory r c.args.target c.in-Err.reply (c.in-Err.ensures.number r is.0) e)

pub returns-in-Ok-clause-memory : goal.returns-in-Ok-clause-memory
returns-in-Ok-clause-memory c r is e =
    let none : c.given_up.result ≡ None = search rules in
    (sym (c.given_up.ensures r is.0) ∙ none, ap is_ok (sym (c.in-Ok.ensures.number r is.0)), c.add_parent.ensures.wanted (cc e))

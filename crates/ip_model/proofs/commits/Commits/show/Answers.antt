use Rattle.std.proofs.Common.{◌≡◌, sym, subst}
use Rattle.std.specs.Prelude.{IfOk}
use Rattle.ip_model.proofs.Kept.{shown_found, shown_none}
use Rattle.ip_model.proofs.commits.Commits.show.Goals as goal

pub returns-in-Some : goal.returns-in-Some
returns-in-Some c r of = subst (λ x. IfOk c.shown.result (λ reply. reply ≡ x)) (shown_found c.args.self.now r of c.args.number c.in-Some.commit.now (sym c.in-Some.ensures)) c.shown.ensures

pub returns-in-None : goal.returns-in-None
returns-in-None c r of = shown_none c.args.self.now r of c.args.number (sym c.in-None.ensures)

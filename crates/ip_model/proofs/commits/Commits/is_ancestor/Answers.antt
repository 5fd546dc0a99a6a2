use Rattle.std.proofs.Common.{sym, subst}
use Rattle.ip_history.specs.History.{History, Shows}
use Rattle.ip_model.proofs.Kept.{shows, parents_first}
use Rattle.ip_model.proofs.commits.Commits.is_ancestor.Goals as goal

pub returns : goal.returns
returns c r is of = c.is_ancestor.ensures r (parents_first r is) (subst (λ (h : History). Shows h r) (sym c.in_ok-history.ensures) (shows c.args.self.now r of is))

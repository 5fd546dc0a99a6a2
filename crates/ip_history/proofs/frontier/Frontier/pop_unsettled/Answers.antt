use Rattle.std.proofs.Common.{inl, inr, sym, ◌∙◌, subst}
use Rattle.ip_history.specs.Frontier.{IsSettled}
use Rattle.ip_history.proofs.Counted.{none_alive}
use Rattle.ip_history.proofs.frontier.Frontier.pop_unsettled.Goals as goal
use Rattle.ip_history.proofs.frontier.Frontier.pop_unsettled.Goals.{then-self-eq0-via-then-self-eq0, then-self-eq0-via-else-self-eq0+then-self-eq0-2}

pub returns-then-self-eq0-clause-none : goal.returns-then-self-eq0-clause-none
returns-then-self-eq0-clause-none c = elim c.then-self-eq0.branch [
  | then-self-eq0-via-then-self-eq0 w ↦ subst IsSettled c.self.view_is (inl (none_alive (λ f. f.own) c.self.inside.commits.entries (sym c.self.invariant.1 ∙ w.if-self-eq0.true)))
  | then-self-eq0-via-else-self-eq0+then-self-eq0-2 w ↦ subst IsSettled c.self.view_is (inr (none_alive (λ f. f.listed) c.self.inside.commits.entries (sym c.self.invariant.2 ∙ w.if-self-eq0-2.true)))
]

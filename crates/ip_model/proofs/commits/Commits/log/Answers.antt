use Rattle.std.proofs.Common.{ℕ, ap, sym, subst, ◌∙◌, map}
use Rattle.ip_spec.specs.declared.record.Parent.{Parent}
use Rattle.ip_spec.specs.declared.reply.Reply.TheVariants as Reply
use Rattle.ip_history.specs.History.{History, Shows}
use Rattle.ip_model.specs.Commits.{name_in}
use Rattle.ip_model.proofs.Kept.{shows, parents_first, logged}
use Rattle.ip_model.proofs.commits.Commits.log.Goals as goal

pub returns : goal.returns
returns c r is of =
    let ms = c.args.self.now in
    let shown = subst (λ (h : History). Shows h r) (sym c.in_ok-history.ensures) (shows ms r of is) in
    let found = c.as_slice.ensures ∙ c.in_ok-log.ensures r (parents_first r is) shown in
    let parents = c.as_slice-2.ensures ∙ (c.in_ok-parents.ensures ∙ ap (map (λ (n : ℕ). record { number = n; name = name_in ms n })) found) in
    ap Reply.Log (c.in_ok-names_of.ensures ∙ (ap (map (λ (p : Parent). p.name)) parents ∙ logged ms r of c.args.number))

use Rattle.std.proofs.Common.{ℕ, ap, sym, subst, ◌∙◌, map}
use Rattle.ip_spec.specs.declared.record.Parent.{Parent}
use Rattle.ip_spec.specs.declared.reply.Reply.TheVariants as Reply
use Rattle.ip_history.specs.History.{History, Shows}
use Rattle.ip_model.specs.Commits.{name_in}
use Rattle.ip_model.proofs.Kept.{shows, parents_first, least_named}
use Rattle.ip_model.proofs.commits.Commits.lcas.Goals as goal

pub returns : goal.returns
returns c r is of =
    let ms = c.args.self.now in
    let shown = subst (λ (h : History). Shows h r) (sym c.in_ok-history.ensures) (shows ms r of is) in
    let found = c.as_slice.ensures ∙ c.in_ok-least.ensures r (parents_first r is) shown in
    let parents = c.as_slice-2.ensures ∙ (c.in_ok-parents.ensures ∙ ap (map (λ (n : ℕ). record { number = n; name = name_in ms n })) found) in
    ap Reply.Lcas (c.in_ok-names_of.ensures ∙ (ap (map (λ (p : Parent). p.name)) parents ∙ least_named ms r of c.args.one c.args.other))

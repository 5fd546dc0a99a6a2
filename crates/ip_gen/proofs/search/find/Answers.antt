use Rattle.std.proofs.Common.{◌≡◌, ap, sym, rules, ◌∙◌}
use Rattle.std.specs.Prelude.{Ok, Err}
use Rattle.std.specs.Ordering.{nat_cmp}
use Rattle.std.proofs.lemmas.Fn.{always_returns_same}
use Rattle.ip_gen.proofs.Order.{searched}
use Rattle.ip_gen.proofs.search.find.Goals as goal

pub returns-in-Ok-clause-found : goal.returns-in-Ok-clause-found
returns-in-Ok-clause-found c =
    let s = searched c.args.records.now c.args.at (Ok c.in-Ok.index) c.requires (c.in-Ok.ensures.position (λ r. nat_cmp r.at c.args.at) (always_returns_same _ (λ a r. r ≡ nat_cmp a.0.now.at c.args.at) _ (λ a r q k. search rules))) in
    ((c.in-Ok.index, c.in-Ok.ensures.bound, sym (c.index-records-index.is)), ap (λ r. r.at) c.index-records-index.is ∙ s c.index-records-index.result)

pub returns-in-Err-clause-absent : goal.returns-in-Err-clause-absent
returns-in-Err-clause-absent c =
    searched c.args.records.now c.args.at (Err c.in-Err.field-0) c.requires (c.in-Err.ensures.position (λ r. nat_cmp r.at c.args.at) (always_returns_same _ (λ a r. r ≡ nat_cmp a.0.now.at c.args.at) _ (λ a r q k. search rules)))

-- goals of `Names::push`
use Rattle.std.proofs.Common.{◌≡◌, ℕ, Some, length, cond, sym, ◌∙◌, ap, subst, rules}
use Rattle.std.specs.BTreeMap.{get}
use Rattle.ip_spec.specs.Path.{bytes_cmp, same_bytes}
use Rattle.ip_audit.specs.Placed.{ArePlaced}
use Rattle.ip_audit.proofs.Placing.{pushed, place_in, on_ok}
use Rattle.ip_audit.proofs.names.Names.push.Goals as goal

pub invariant_of-self-else-is_err : goal.invariant_of-self-else-is_err
invariant_of-self-else-is_err c =
    let u = on_ok c.insert.result _ (sym c.is_err.ensures.value ∙ c.if-is_err.false) c.insert.ensures.updates in
    let place : c.len-place.result ≡ length c.self.inside.names.items = search rules in
    subst (λ ns. ArePlaced ns c.insert.new.self) (sym c.in_ok-push.ensures.items)
    (pushed c.self.inside.names.items c.self.inside.places c.insert.new.self c.args.name c.self.invariant (ap (λ ns. place_in ns c.args.name) c.self.view_is ∙ c.requires.new)
    (λ q. u.0 q ∙ ap (λ (n : ℕ). cond (same_bytes c.args.name q) (Some n) (get bytes_cmp c.self.inside.places q)) place))

use Rattle.std.proofs.Common.{◌≡◌, ◌+◌, ℕ, Some, None, sym, ◌∙◌, ap, rules}
use Rattle.std.specs.Prelude.{position, option_map}
use Rattle.ip_spec.specs.Path.{same_bytes}
use Rattle.ip_held.proofs.Tables.{named}
use Rattle.ip_held.proofs.held.Held.commit_named.Goals as goal

pub returns-in_err-place : goal.returns-in_err-place
returns-in_err-place c r of =
    let absent : position (λ n. same_bytes n c.args.name.now) c.args.self.now.names ≡ None = search rules in
    let none : c.from_residual.result ≡ None = search rules in
    none ∙ sym (named c.args.self.now r of c.args.name.now ∙ ap (option_map (λ (k : ℕ). r.floor + k)) absent)

pub returns : goal.returns
returns c r of =
    let there : position (λ n. same_bytes n c.args.name.now) c.args.self.now.names ≡ Some c.in_ok-place.place = search rules in
    ap (λ (f : ℕ). Some (f + c.in_ok-place.place)) (sym of.floor) ∙ sym (named c.args.self.now r of c.args.name.now ∙ ap (option_map (λ (k : ℕ). r.floor + k)) there)

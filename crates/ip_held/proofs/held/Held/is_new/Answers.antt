use Rattle.std.proofs.Common.{◌≡◌, true, false, rules}
use Rattle.std.specs.Prelude.{is_some, position}
use Rattle.ip_spec.specs.Path.{same_bytes}
use Rattle.ip_held.proofs.Tables.{existing, not_there}
use Rattle.ip_held.proofs.held.Held.is_new.Goals as goal

pub returns-then-is_some-clause-refused : goal.returns-then-is_some-clause-refused
returns-then-is_some-clause-refused c r of =
    let there : is_some (position (λ n. same_bytes n c.args.name) c.args.self.now.names) ≡ true = search rules in
    existing c.args.self.now r of c.args.name there

pub returns-clause-refused : goal.returns-clause-refused
returns-clause-refused c r of =
    let absent : is_some (position (λ n. same_bytes n c.args.name) c.args.self.now.names) ≡ false = search rules in
    not_there c.args.self.now r of c.args.name absent

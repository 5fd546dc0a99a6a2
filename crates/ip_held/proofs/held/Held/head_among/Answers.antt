use Rattle.std.proofs.Common.{◌≡◌, Some, ap, ◌∙◌, rules}
use Rattle.ip_spec.specs.Map.{get}
use Rattle.ip_held.proofs.Phases.{head_retained}
use Rattle.ip_held.proofs.held.Held.head_among.Goals as goal

pub retained_name-requires : goal.retained_name-requires
retained_name-requires c =
    let there : get c.args.self.now.branches c.args.branch.now ≡ Some c.in-Some.head = search rules in
    record { tables = (c.requires.tables.0, c.requires.tables.1, head_retained c.args.self.now c.requires.tables.0 c.requires.tables.1 c.args.branch.now c.in-Some.head (ap (λ m. get m c.args.branch.now) c.requires.tables.1.branches ∙ there)) }

use Rattle.std.proofs.Common.{rules, ◌≡◌, ◌+◌, ◌-◌, ◌<◌, ◌≤◌, List, length, get_or, subst, refl, ◌∙◌, sym, ap}
use Rattle.std.specs.Prelude.{map}
use Rattle.ip_image.specs.declared.run.Row.{Row}
use Rattle.ip_image.specs.Virtual.{run_of, total}
use Rattle.ip_mapping.specs.Parsing.{Fields}
use Rattle.ip_mapping.proofs.Placing.{ends, filled, not_filled}
use Rattle.ip_mapping.proofs.mapping.Mapping.fills.Goals as goal
use Rattle.ip_mapping.proofs.mapping.Mapping.fills.Goals.{In-Some}

sum : (c : In-Some) → c.in-Some.row.now.place + c.in-Some.row.now.length ≡ total (map run_of c.args.self.now.rows)
sum c =
    let some : 0 < length c.self.inside.rows.items = search rules in
    let last : c.in-Some.row.now ≡ get_or c.self.inside.rows.items (length c.self.inside.rows.items - 1) c.in-Some.row.now = search rules in
    subst (λ (m : Fields). c.in-Some.row.now.place + c.in-Some.row.now.length ≡ total (map run_of m.rows)) c.self.view_is
    (ends c.self.inside.horizon c.self.inside.rows.items c.self.invariant c.in-Some.row.now some last)

pub returns-then-row-length : goal.returns-then-row-length
returns-then-row-length c =
    let before = (goal.at.returns-then-row-length c).In-Some in
    filled c.in-Some.row.now.place c.in-Some.row.now.length c.args.length (total (map run_of c.args.self.now.rows)) (sum before) c.if-row-length.true

pub returns-else-row-length : goal.returns-else-row-length
returns-else-row-length c =
    let before = (goal.at.returns-else-row-length c).In-Some in
    not_filled c.in-Some.row.now.place c.in-Some.row.now.length c.args.length (total (map run_of c.args.self.now.rows)) (sum before) _ c.if-row-length.false refl

use Rattle.std.proofs.Common.{rules, ◌≡◌, ap, ◌∙◌, map, []}
use Rattle.ip_image.specs.Virtual.{run_of, placed}
use Rattle.ip_mapping.proofs.Outcomes.{runs_placed}
use Rattle.ip_space.proofs.space.Space.over.Goals as goal

pub returns : goal.returns
returns c =
    let rows : c.in_ok-mapping.mapping.rows ≡ placed 0 c.args.runs.now = search rules in
    c.with.ensures ∙ ap (λ rs. record { layout = c.args.layout; runs = rs; kept = [] }) (ap (map run_of) rows ∙ runs_placed 0 c.args.runs.now)

use Rattle.std.proofs.Common.{◌≡◌, rules, subst, sym, reverse, arith}
use Rattle.ip_keep.specs.Runs.{FitRuns}
use Rattle.ip_keep.proofs.Bounds.{most_bytes, most_runs}
use Rattle.ip_keep.proofs.RunsApart.{apart_inside, ends_fit, joined_rows}
use Rattle.ip_keep.proofs.keep.Keep.runs.Goals as goal

pub returns-clause-fit : goal.returns-clause-fit
returns-clause-fit c =
    let k = c.args.self.now in
    let keep = c.requires in
    let a = keep.ends in
    let b = keep.low in
    let d = keep.high in
    let e : reverse c.deref.result.now ≡ c.args.self.now.kept = search rules in
    subst FitRuns (sym c.of.ensures) (subst FitRuns (sym e) (ends_fit k.horizon k.kept (omega (arith, a, b, d)) (apart_inside k.horizon k.kept keep.apart)))

pub returns-clause-rows : goal.returns-clause-rows
returns-clause-rows c = joined_rows c.args.self.now.horizon c.args.self.now.kept c.requires.apart

pub returns-clause-total : goal.returns-clause-total
returns-clause-total c = most_bytes c.args.self.now c.requires

pub returns-clause-few : goal.returns-clause-few
returns-clause-few c = most_runs c.args.self.now c.requires

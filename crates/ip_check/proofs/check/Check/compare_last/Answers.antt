use Rattle.std.proofs.Common.{◌≤◌, sym, ap, subst, length, arith, Ok}
use Rattle.std.proofs.lemmas.List.{length-reverse}
use Rattle.ip_check.specs.declared.check.Stage.TheVariants as Stage
use Rattle.ip_check.specs.CheckView.{CheckView}
use Rattle.ip_check.specs.Checking.{IsCheck}
use Rattle.ip_check.specs.Going.{Goes, KeepsTrue}
use Rattle.ip_check.proofs.Stages.{with_stage, goes_end, keeps_end}
use Rattle.ip_check.proofs.Stood.{stood_none}
use Rattle.ip_check.proofs.check.Check.compare_last.Goals as goal

pub returns-clause-keeps : goal.returns-clause-keeps
returns-clause-keeps g c told =
    let now = g.G.Ground.told c.args.outside.now in
    let v : CheckView = record { job = c.self.inside.job; keep = c.self.inside.keep; stage = c.self.inside.stage; compared = c.self.inside.compared } in
    let check : IsCheck v = subst IsCheck (sym c.self.view_is) c.requires.check in
    let kept = ap length c.kept.ensures.kept in
    let long = length-reverse c.kept.result.now in
    let all : length v.keep.kept ≤ v.compared = omega (arith, c.if-self-kept.false, kept, long) in
    subst (λ (w : CheckView). KeepsTrue {A = Unit {0}} now w (with_stage v (Stage.Through c.in_ok-found.found)) (Ok tt)) c.self.view_is
    (keeps_end now v c.in_ok-found.found c.in-Comparing.place check c.in-Comparing.is all (λ fixed whole size so_far. c.in_ok-found.ensures.says told fixed.prefix whole size so_far) tt)

pub returns-clause-stood : goal.returns-clause-stood
returns-clause-stood g c told =
    let v : CheckView = record { job = c.self.inside.job; keep = c.self.inside.keep; stage = c.self.inside.stage; compared = c.self.inside.compared } in
    stood_none (g.G.Ground.told c.args.outside.now) c.args.self.now v (ap (λ (w : CheckView). w.compared) c.self.view_is)

pub returns-clause-goes : goal.returns-clause-goes
returns-clause-goes g c =
    let v : CheckView = record { job = c.self.inside.job; keep = c.self.inside.keep; stage = c.self.inside.stage; compared = c.self.inside.compared } in
    let check : IsCheck v = subst IsCheck (sym c.self.view_is) c.requires.check in
    let kept = ap length c.kept.ensures.kept in
    let long = length-reverse c.kept.result.now in
    let all : length v.keep.kept ≤ v.compared = omega (arith, c.if-self-kept.false, kept, long) in
    subst (λ (w : CheckView). Goes 0 w (with_stage v (Stage.Through c.in_ok-found.found))) c.self.view_is (goes_end v c.in_ok-found.found c.in-Comparing.place check c.in-Comparing.is all c.in_ok-found.ensures.differs)

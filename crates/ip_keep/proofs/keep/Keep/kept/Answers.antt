use Rattle.std.proofs.Common.{◌≡◌, rules, sym, subst, reverse, arith}
use Rattle.ip_space.specs.SpaceView.{AreBelow}
use Rattle.ip_keep.proofs.RunsApart.{apart_total, apart_inside, ends_back}
use Rattle.ip_keep.proofs.keep.Keep.kept.Goals as goal

pub returns-clause-total : goal.returns-clause-total
returns-clause-total c =
    let k = c.args.self.now in
    let t = apart_total k.horizon k.kept c.requires.apart in
    omega (arith, t)

pub returns-clause-inside : goal.returns-clause-inside
returns-clause-inside c =
    let k = c.args.self.now in
    let e : reverse c.deref.result.now ≡ c.args.self.now.kept = search rules in
    ends_back k.horizon c.deref.result.now (subst (AreBelow k.horizon) (sym e) (apart_inside k.horizon k.kept c.requires.apart))

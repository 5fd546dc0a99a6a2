use Rattle.std.proofs.Common.{◌≡◌, rules, arith}
use Rattle.ip_keep.proofs.RunsApart.{apart_total, apart_few}
use Rattle.ip_check.proofs.check.Check.looked.Goals as goal

pub overflow_add-result : goal.overflow_add-result
overflow_add-result c =
    let k = c.args.self.now.keep in
    let t = apart_total k.horizon k.kept c.requires.keep.apart in
    let f = apart_few k.horizon k.kept c.requires.keep.apart in
    let ends = c.requires.keep.ends in
    let low = c.requires.keep.low in
    let high = c.requires.keep.high in
    let compared = c.requires.compared in
    let most = c.looked.ensures.most in
    let same : c.self.inside.compared ≡ c.args.self.now.compared = search rules in
    omega (arith, t, f, ends, low, high, compared, most, same)

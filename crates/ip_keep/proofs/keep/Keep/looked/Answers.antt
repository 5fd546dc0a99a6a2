use Rattle.std.proofs.Common.{◌≡◌, rules, sym, ◌∙◌, ap, reverse, length, arith}
use Rattle.std.proofs.lemmas.List.{length-reverse}
use Rattle.ip_keep.proofs.Bounds.{most_looks}
use Rattle.ip_keep.proofs.keep.Keep.looked.Goals as goal

pub returns-clause-most : goal.returns-clause-most
returns-clause-most c =
    let most = most_looks c.args.self.now c.requires in
    let same : reverse c.self.inside.kept.items ≡ c.args.self.now.kept = search rules in
    let many : length c.args.self.now.kept ≡ length c.self.inside.kept.items = ap length (sym same) ∙ length-reverse c.self.inside.kept.items in
    let counted : c.len.result ≡ length c.self.inside.kept.items = search rules in
    let seen : c.self.inside.seen ≡ c.args.self.now.seen = search rules in
    omega (arith, most, many, counted, seen)

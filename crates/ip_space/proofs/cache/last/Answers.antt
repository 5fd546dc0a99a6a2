use Rattle.std.proofs.Common.{sym, rules}
use Rattle.ip_space.proofs.Cached.{last_found}
use Rattle.ip_space.proofs.cache.last.Goals as goal

pub returns-in-Some : goal.returns-in-Some
returns-in-Some c = last_found c.args.records.now.entries c.args.at (c.in-Some.first.now, c.in-Some.kept.now) (sym c.in-Some.ensures) (search rules)

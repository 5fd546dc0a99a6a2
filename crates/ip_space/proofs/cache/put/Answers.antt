use Rattle.ip_space.proofs.Cached.{put_each, put_found, put_few}
use Rattle.ip_space.proofs.cache.put.Goals as goal

pub returns-in-Ok-clause-gains : goal.returns-in-Ok-clause-gains
returns-in-Ok-clause-gains c = rw c.in-Ok.ensures.entries (put_each c.args.records.now c.args.at c.args.kept)

pub returns-in-Ok-clause-kept : goal.returns-in-Ok-clause-kept
returns-in-Ok-clause-kept c none = rw c.in-Ok.ensures.entries (put_found c.args.records.now c.args.at c.args.kept)

pub returns-in-Ok-clause-few : goal.returns-in-Ok-clause-few
returns-in-Ok-clause-few c few some = rw c.in-Ok.ensures.entries (put_few c.args.records.now c.args.at c.args.kept few some)

use Rattle.std.proofs.Common.{rules}
use Rattle.std.proofs.lemmas.Iterator.Adapters.{YieldsList-from_vec, fact_from_collect}
use Rattle.std.proofs.lemmas.Result.{IfOk-weaker}
use Rattle.std.specs.BTreeMap.{IsFromIterResult}
use Rattle.ip_spec.specs.Path.{bytes_cmp}
use Rattle.ip_shape.proofs.Made.{made_in_order}
use Rattle.ip_shape.proofs.dir.map_of.Goals as goal

pub returns : goal.returns
returns g c a =
    IfOk-weaker c.collect.result (IsFromIterResult bytes_cmp c.args.entries.items) _ (λ m is. made_in_order c.args.entries.items m a is)
    (fact_from_collect (λ es m. IsFromIterResult bytes_cmp es m) c.collect.result c.collect.ensures.ran (YieldsList-from_vec {s = c.into_iter.result} c.args.entries.items (search rules) (search rules)))

use Rattle.std.proofs.Common.{sym, subst}
use Rattle.std.specs.Prelude.{IsTrue}
use Rattle.ip_spec.specs.Repository.{is_retained}
use Rattle.ip_reads.proofs.history.names_at.Goals as goal

pub retained_name-requires : goal.retained_name-requires
retained_name-requires c =
    let r = c.requires.0 in
    let retained : IsTrue (is_retained r c.number-item.result) = subst (λ n. IsTrue (is_retained r n)) (sym c.number-item.is) (c.requires.2 c.loop-number.number-index _ c.loop-number-test.true) in
    record { tables = (r, c.requires.1, retained) }

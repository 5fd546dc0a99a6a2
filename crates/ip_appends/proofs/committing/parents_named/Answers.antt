use Rattle.std.proofs.Common.{sym, subst}
use Rattle.std.specs.Prelude.{IsTrue}
use Rattle.ip_spec.specs.Repository.{is_retained}
use Rattle.ip_appends.proofs.committing.parents_named.Goals as goal

pub parent_named-requires : goal.parent_named-requires
parent_named-requires c =
    let r = c.requires.tables.0 in
    let retained : IsTrue (is_retained r c.number-item.result) = subst (λ n. IsTrue (is_retained r n)) (sym c.number-item.is) (c.requires.tables.2 c.loop-number.number-index _ c.loop-number-test.true) in
    record { tables = (r, c.requires.tables.1, retained) }

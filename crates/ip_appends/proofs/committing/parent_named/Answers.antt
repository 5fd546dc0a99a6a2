use Rattle.ip_held.proofs.Tables.{retained_small, retained_hash}
use Rattle.ip_appends.proofs.committing.parent_named.Goals as goal

pub returns-clause-within : goal.returns-clause-within
returns-clause-within c =
    let r = c.requires.tables.0 in
    let of = c.requires.tables.1 in (
      retained_small c.args.store.now r of c.args.number c.requires.tables.2,
      retained_hash c.args.store.now r of c.args.number c.requires.tables.2 c.retained_name-name.result (c.retained_name-name.ensures r of c.requires.tables.2),
    )

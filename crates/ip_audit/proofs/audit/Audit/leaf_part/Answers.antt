use Rattle.std.proofs.Common.{◌≡◌, max, rules, suc}
use Rattle.std.specs.Prelude.{fold}
use Rattle.ip_spec.specs.declared.record.LeafEntry.{LeafEntry}
use Rattle.ip_audit.proofs.audit.Audit.leaf_part.Goals as goal

pub returns-clause-part : goal.returns-clause-part
returns-clause-part c =
    let high : c.leaf_height.result ≡ fold (λ n (e : LeafEntry). max n (suc e.height)) 0 c.args.entries.now = c.leaf_height.ensures.lawful c.requires.each in
    search rules

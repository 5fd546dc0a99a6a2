use Rattle.ip_save.specs.Batches.{fields_told}
use Rattle.ip_save.proofs.Bounds.{branch_fits, always_ok}
use Rattle.ip_save.proofs.records.put_branch.Goals as goal

pub returns-clause-fits : goal.returns-clause-fits
returns-clause-fits c = always_ok c.encode_branch.result (branch_fits (fields_told c.args.fields.now) c.requires)

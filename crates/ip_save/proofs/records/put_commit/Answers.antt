use Rattle.std.proofs.Common.{◌≡◌, Some, subst, sym, List, arith}
use Rattle.ip_spec.specs.declared.record.Parent.{Parent}
use Rattle.ip_spec.specs.declared.record.Record.TheVariants as Record
use Rattle.ip_spec.specs.Record.{IsCommitRecord, name_of}
use Rattle.ip_object.specs.Lists.{commit_of}
use Rattle.ip_save.specs.Batches.{fields_told}
use Rattle.ip_save.proofs.Bounds.{commit_fits}
use Rattle.ip_save.proofs.records.put_commit.Goals as goal

pub encode_commit-requires : goal.encode_commit-requires
encode_commit-requires c =
    subst (λ (ps : List Parent). IsCommitRecord (commit_of c.args.fields.now.number c.args.root.now ps c.args.fields.now.info)) (sym c.as_slice-parents.ensures)
    (commit_fits (fields_told c.args.fields.now) c.requires c.args.root.now c.see_name.ensures (omega arith)).fields

pub returns-clause-name : goal.returns-clause-name
returns-clause-name c =
    subst (λ (ps : List Parent). name_of (Record.Commit (commit_of c.args.fields.now.number c.args.root.now ps c.args.fields.now.info)) ≡ Some c.commit_name.result) c.as_slice-parents.ensures
    (c.commit_name.ensures c.args.fields.now.number)

pub returns-clause-fits : goal.returns-clause-fits
returns-clause-fits c = commit_fits (fields_told c.args.fields.now) c.requires c.args.root.now c.see_name.ensures (omega arith)

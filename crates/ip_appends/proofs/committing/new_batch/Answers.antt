use Rattle.std.proofs.Common.{◌≡◌, ◌∙◌, rules, sym, subst}
use Rattle.std.specs.Prelude.{Err}
use Rattle.ip_save.specs.Batches.{IsBatch, fields_told}
use Rattle.ip_save.specs.declared.batch.Batch.{Batch}
use Rattle.ip_held.specs.Changes.{IsUndamaged}
use Rattle.ip_appends.specs.Commits.{IsNewBatch}
use Rattle.ip_held.specs.Held.{SameTables, image_records}
use Rattle.ip_held.specs.declared.held.Held.{Held}
use Rattle.ip_appends.proofs.BehindPlan.{looked_space, undamaged_as, undamaged_saved}
use Rattle.ip_held.proofs.Causing.{cause_of, saved_cause, undamaged_cause}
use Rattle.ip_held.proofs.Listed.{over}
use Rattle.ip_appends.proofs.Planning.{existing_made, none_made}
use Rattle.ip_held.proofs.Stepping.{looks, same_tables}
use Rattle.ip_appends.proofs.committing.new_batch.Goals as goal

-- ---- another commit has the name

pub returns-in_err-is_new-in-Ok-clause-made : goal.returns-in_err-is_new-in-Ok-clause-made
returns-in_err-is_new-in-Ok-clause-made g c told r v other held view first short =
    let fault = c.in_err-is_new-in-Ok.field-0.0 in
    let is : c.from_residual.result ≡ Err fault = search rules in
    let now : Held = record c.args.store.now { space = c.of.new.space } in
    let same : SameTables c.args.store.now now = looked_space c.args.store.now c.of.new.space c.of.ensures.looks.layout c.of.ensures.looks.runs in
    let batch : IsBatch v other (fields_told c.args.fields.now) c.args.store.now.slot.end c.in-Ok.batch = (c.in-Ok.ensures.made told (image_records held) v other (over c.args.store.now (g.G.Ground.told c.args.outside.now) r held) view first short) in
    subst (IsNewBatch r v other (fields_told c.args.fields.now) c.args.store.now.slot.end) (sym is)
    (existing_made r v other (fields_told c.args.fields.now) c.args.store.now.slot.end c.name-name.result (c.name-name.ensures ∙ batch.name) fault c.in_err-is_new-in-Ok.ensures.cause (c.in_err-is_new-in-Ok.ensures.refused r (same_tables c.args.store.now now same r held.tables)))

pub returns-in_err-is_new-in-Ok-clause-looks : goal.returns-in_err-is_new-in-Ok-clause-looks
returns-in_err-is_new-in-Ok-clause-looks g c told =
    let now : Held = record c.args.store.now { space = c.of.new.space } in
    let same : SameTables c.args.store.now now = looked_space c.args.store.now c.of.new.space c.of.ensures.looks.layout c.of.ensures.looks.runs in
    looks c.args.store.now now same (g.G.Ground.told c.args.outside.now) (g.G.Ground.told c.of.new.outside) (c.of.ensures.looks.reads told)

-- ---- it was made

pub returns-in_ok-is_new-in-Ok-clause-made : goal.returns-in_ok-is_new-in-Ok-clause-made
returns-in_ok-is_new-in-Ok-clause-made g c told r v other held view first short = c.in-Ok.ensures.made told (image_records held) v other (over c.args.store.now (g.G.Ground.told c.args.outside.now) r held) view first short

pub returns-in_ok-is_new-in-Ok-clause-looks : goal.returns-in_ok-is_new-in-Ok-clause-looks
returns-in_ok-is_new-in-Ok-clause-looks g c told =
    let now : Held = record c.args.store.now { space = c.of.new.space } in
    let same : SameTables c.args.store.now now = looked_space c.args.store.now c.of.new.space c.of.ensures.looks.layout c.of.ensures.looks.runs in
    looks c.args.store.now now same (g.G.Ground.told c.args.outside.now) (g.G.Ground.told c.of.new.outside) (c.of.ensures.looks.reads told)

-- ---- there is none

pub returns-in-Err-clause-made : goal.returns-in-Err-clause-made
returns-in-Err-clause-made g c told r v other held view first short =
    let now : Held = record c.args.store.now { space = c.of.new.space } in
    let same : SameTables c.args.store.now now = looked_space c.args.store.now c.of.new.space c.of.ensures.looks.layout c.of.ensures.looks.runs in
    none_made r v other (fields_told c.args.fields.now) c.args.store.now.slot.end c.in-Err.fault c.not_made.result
    (c.in-Err.ensures.made told (image_records held) v other (over c.args.store.now (g.G.Ground.told c.args.outside.now) r held) view first short) (c.not_made.ensures.made r (same_tables c.args.store.now now same r held.tables))

pub returns-in-Err-clause-looks : goal.returns-in-Err-clause-looks
returns-in-Err-clause-looks g c told =
    let now : Held = record c.args.store.now { space = c.of.new.space } in
    let same : SameTables c.args.store.now now = looked_space c.args.store.now c.of.new.space c.of.ensures.looks.layout c.of.ensures.looks.runs in
    looks c.args.store.now now same (g.G.Ground.told c.args.outside.now) (g.G.Ground.told c.of.new.outside) (c.of.ensures.looks.reads told)

-- ---- why not

pub returns-in_err-is_new-in-Ok-clause-causes : goal.returns-in_err-is_new-in-Ok-clause-causes
returns-in_err-is_new-in-Ok-clause-causes g c =
    let fault = c.in_err-is_new-in-Ok.field-0.0 in
    let is : c.from_residual.result ≡ Err fault = search rules in
    cause_of g.G.Ground.tells (g.G.Ground.told c.args.outside.now) c.args.store.now.space c.from_residual.result fault is (undamaged_cause g.G.Ground.tells (g.G.Ground.told c.args.outside.now) c.args.store.now.space (Unit {0}) fault c.in_err-is_new-in-Ok.ensures.undamaged)

pub returns-in-Err-clause-causes : goal.returns-in-Err-clause-causes
returns-in-Err-clause-causes g c =
    saved_cause g.G.Ground.tells (g.G.Ground.told c.args.outside.now) c.args.store.now.space c.in-Err.fault c.not_made.result c.not_made.ensures.comes c.in-Err.ensures.causes

-- ---- without parents

pub returns-in_err-is_new-in-Ok-clause-alone : goal.returns-in_err-is_new-in-Ok-clause-alone
returns-in_err-is_new-in-Ok-clause-alone g c none =
    let fault = c.in_err-is_new-in-Ok.field-0.0 in
    let is : c.from_residual.result ≡ Err fault = search rules in
    ((c.in-Ok.ensures.alone none).0, subst IsUndamaged (sym is) (undamaged_as (Unit {0}) Batch fault c.in_err-is_new-in-Ok.ensures.undamaged))

pub returns-in_ok-is_new-in-Ok-clause-alone : goal.returns-in_ok-is_new-in-Ok-clause-alone
returns-in_ok-is_new-in-Ok-clause-alone g c none = ((c.in-Ok.ensures.alone none).0, tt)

pub returns-in-Err-clause-alone : goal.returns-in-Err-clause-alone
returns-in-Err-clause-alone g c none =
    let kept = c.in-Err.ensures.alone none in
    (kept.0, undamaged_saved Batch c.in-Err.fault c.not_made.result c.not_made.ensures.comes kept.2)

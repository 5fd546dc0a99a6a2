use Rattle.std.proofs.Common.{ℕ, Option, sym, subst, ◌∙◌}
use Rattle.ip_image.specs.declared.slot.Slot.{Slot}
use Rattle.ip_save.specs.Batches.{IsFirst, fields_told}
use Rattle.ip_spec.specs.declared.record.Record.{Record}
use Rattle.ip_appends.specs.Commits.{IsNewBatch}
use Rattle.ip_held.specs.Answers.{first_view}
use Rattle.ip_held.specs.Held.{image_records}
use Rattle.ip_held.proofs.Causing.{store_causes_on, store_looks}
use Rattle.ip_appends.proofs.BehindPlan.{looks_on}
use Rattle.ip_appends.proofs.Planning.{unread_made}
use Rattle.ip_held.proofs.Stepping.{same_tables}
use Rattle.ip_tree.specs.TreeView.{IsView}
use Rattle.ip_appends.proofs.committing.batch_of.Goals as goal

pub returns-in-Ok-clause-made : goal.returns-in-Ok-clause-made
returns-in-Ok-clause-made g c told r v held all view short =
    let looks = c.first_root.ensures.looks told in
    let still = looks.holds r held in
    let first = first_view (image_records held) c.args.store.now r c.args.parents.now in
    let same = sym (looks.records r held still) in
    subst (λ (s : Slot). IsNewBatch r v (first_view (image_records held) c.args.store.now r c.args.parents.now) (fields_told c.args.fields.now) s.end c.new_batch.result) c.first_root.ensures.same.slot
    (c.new_batch.ensures.made told r v first still (subst (λ (records : ℕ → Option Record). IsView records c.args.tree.now v) same view)
    (subst (λ (records : ℕ → Option Record). IsFirst records c.in-Ok.first (first_view (image_records held) c.args.store.now r c.args.parents.now)) same (c.in-Ok.ensures.first told r held all)) short)

pub returns-in-Ok-clause-fresh : goal.returns-in-Ok-clause-fresh
returns-in-Ok-clause-fresh g c r of = c.new_batch.ensures.fresh r (same_tables c.args.store.now c.first_root.new.store c.first_root.ensures.same r of)

pub returns-in-Ok-clause-looks : goal.returns-in-Ok-clause-looks
returns-in-Ok-clause-looks g c told = looks_on (g.G.Ground.told c.args.outside.now) (g.G.Ground.told c.first_root.new.outside) (g.G.Ground.told c.new_batch.new.outside) c.args.store.now c.first_root.new.store c.new_batch.new.store (c.first_root.ensures.looks told) (c.new_batch.ensures.looks told)

pub returns-in-Err-clause-made : goal.returns-in-Err-clause-made
returns-in-Err-clause-made g c told r v held all view short =
    unread_made r v (first_view (image_records held) c.args.store.now r c.args.parents.now) (fields_told c.args.fields.now) c.args.store.now.slot.end (λ root. IsFirst (image_records held) root (first_view (image_records held) c.args.store.now r c.args.parents.now)) c.in-Err.fault
    (c.in-Err.ensures.first told r held all)

pub returns-in-Ok-clause-causes : goal.returns-in-Ok-clause-causes
returns-in-Ok-clause-causes g c =
    store_causes_on g.G.Ground.tells (g.G.Ground.told c.args.outside.now) (g.G.Ground.told c.first_root.new.outside) c.args.store.now.space c.first_root.new.store.space
    (store_looks g.G.Ground.tells (g.G.Ground.told c.args.outside.now) (g.G.Ground.told c.first_root.new.outside) c.args.store.now c.first_root.new.store c.first_root.ensures.same c.first_root.ensures.looks) c.new_batch.result c.new_batch.ensures.causes

-- ---- without parents

pub returns-in-Ok-clause-alone : goal.returns-in-Ok-clause-alone
returns-in-Ok-clause-alone g c none =
    let first = c.in-Ok.ensures.alone none in
    let kept = c.new_batch.ensures.alone (cc (first.0)) in
    (kept.0 ∙ first.1, kept.1)

pub returns-in-Err-clause-alone : goal.returns-in-Err-clause-alone
returns-in-Err-clause-alone g c none = absurd (cc ((c.in-Err.ensures.alone none).0))

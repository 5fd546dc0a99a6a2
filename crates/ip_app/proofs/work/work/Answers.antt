use Rattle.std.proofs.Common.{rules, refl, inl, inr, ◌-◌, ◌^◌, ◌≤◌, sym, ◌∙◌, subst}
use Rattle.ip_ground.specs.declared.names.GroundCounts.{GroundCounts}
use Rattle.ip_app.proofs.Counting.{attach_counts, attach_none, attached_same, falls_bound, file_falls}
use Rattle.ip_app.proofs.WorkLemmas.{writes_first, writes_on, works_refused, works_as, bound_work, counts_work, work_falls}
use Rattle.ip_app.proofs.work.work.Goals as goal

pub returns-then-is_err-clause-only : goal.returns-then-is_err-clause-only
returns-then-is_err-clause-only g c told free = writes_first c.args.job.now _ _ (c.attach.ensures.does told).only

pub returns-clause-only : goal.returns-clause-only
returns-clause-only g c told free = writes_on c.args.job.now _ _ (c.attach.ensures.does told).only _ (c.collect.ensures.only told) free

pub returns-then-is_err-clause-works : goal.returns-then-is_err-clause-works
returns-then-is_err-clause-works g c = works_refused g.G.Ground.tells c.args.job.now _ _ (λ told. (c.attach.ensures.does told).only)

pub returns-clause-works : goal.returns-clause-works
returns-clause-works g c = works_as g.G.Ground.tells c.args.job.now _ _ _ _ c.collect.result c.worked_status.ensures (λ told. (c.attach.ensures.does told).only) c.collect.ensures.only c.collect.ensures.works c.collect.ensures.served c.collect.ensures.spared

pub returns-then-is_err-clause-counted : goal.returns-then-is_err-clause-counted
returns-then-is_err-clause-counted g c = inl (attach_counts c.args.folder.now c.attach.result _ _ (sym c.is_err.ensures.value ∙ c.if-is_err.true) c.attach.ensures.counts)

pub returns-clause-counted : goal.returns-clause-counted
returns-clause-counted g c = counts_work c.args.folder.now c.collect.result _ _ _ _ c.worked_status.ensures (attached_same c.args.folder.now c.attach.result _ _ (sym c.is_err.ensures.value ∙ c.if-is_err.false) c.attach.ensures.counts) c.collect.ensures.counts

pub returns-then-is_err-clause-bound : goal.returns-then-is_err-clause-bound
returns-then-is_err-clause-bound g c = inr (inl (attach_none c.args.folder.now c.attach.result _ _ (sym c.is_err.ensures.value ∙ c.if-is_err.true) c.attach.ensures.counts, refl))

pub returns-clause-bound : goal.returns-clause-bound
returns-clause-bound g c = inl (bound_work c.args.folder.now c.collect.result (g.G.Ground.counts_of c.args.ground.now) (g.G.Ground.counts_of c.attach.new.self) (g.G.Ground.counts_of c.collect.new.outside) (attached_same c.args.folder.now c.attach.result (g.G.Ground.counts_of c.args.ground.now) (g.G.Ground.counts_of c.attach.new.self) (sym c.is_err.ensures.value ∙ c.if-is_err.false) c.attach.ensures.counts) c.collect.ensures.counts)

pub returns-then-is_err-clause-counts : goal.returns-then-is_err-clause-counts
returns-then-is_err-clause-counts g c =
    let files : c.counts-counts.result.file_faults ≤ 2 ^ 64 - 1 = search rules in
    falls_bound _ _ (file_falls _ _ (subst (λ (n : GroundCounts). n.file_faults ≤ 2 ^ 64 - 1) c.counts-counts.ensures files) (attach_counts c.args.folder.now c.attach.result _ _ (sym c.is_err.ensures.value ∙ c.if-is_err.true) c.attach.ensures.counts))

pub returns-clause-counts : goal.returns-clause-counts
returns-clause-counts g c =
    let files : c.counts-counts.result.file_faults ≤ 2 ^ 64 - 1 = search rules in
    let removals : c.counts-counts.result.remove_faults ≤ 2 ^ 64 - 1 = search rules in
    let harms : c.counts-counts.result.damages ≤ 2 ^ 64 - 1 = search rules in
    work_falls c.collect.result _ _ _ c.worked_status.ensures (subst (λ (n : GroundCounts). n.file_faults ≤ 2 ^ 64 - 1) c.counts-counts.ensures files) (subst (λ (n : GroundCounts). n.remove_faults ≤ 2 ^ 64 - 1) c.counts-counts.ensures removals) (subst (λ (n : GroundCounts). n.damages ≤ 2 ^ 64 - 1) c.counts-counts.ensures harms) (returns-clause-counted g c)

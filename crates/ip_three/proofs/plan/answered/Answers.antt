use Rattle.std.proofs.Common.{sym, ◌∙◌, ap, subst}
use Rattle.ip_spec.specs.declared.merge.Merged.{Merged}
use Rattle.ip_spec.specs.declared.merge.Merged.TheVariants.{Keep}
use Rattle.ip_three.specs.Going.{without}
use Rattle.ip_three.specs.Walking.{Answers}
use Rattle.ip_three.proofs.PlanEdits.{on_ok, noted}
use Rattle.ip_three.proofs.plan.answered.Goals as goal

pub returns-in-Keep-None : goal.returns-in-Keep-None
returns-in-Keep-None c records l here =
    on_ok c.gone.result _ _
    (λ gone. subst (λ (m : Merged). Answers l c.args.path.now m c.args.plan.now c.gone.new.plan) (sym (c.in-Keep-None.is ∙ ap Keep c.in-Keep-None.field-0-is)) (record {
      gone_is = gone;
      come_is = c.gone.ensures.rest.0;
      conflict = c.gone.ensures.rest.1;
      long = c.gone.ensures.rest.2;
    })) (c.gone.ensures.gone records l here)

pub returns-in_ok-note_conflict-in-Conflict : goal.returns-in_ok-note_conflict-in-Conflict
returns-in_ok-note_conflict-in-Conflict c records l here =
    let n = c.in_ok-note_conflict-in-Conflict.ensures in
    let path = c.args.path.now in
    on_ok c.gone-in-Conflict.result _ _
    (λ gone. subst (λ (m : Merged). Answers l path m c.args.plan.now c.gone-in-Conflict.new.plan) (sym c.in-Conflict.is) (record {
      gone_is = gone ∙ ap (without l path) n.rest.0;
      come_is = c.gone-in-Conflict.ensures.rest.0 ∙ n.rest.1;
      conflict = c.gone-in-Conflict.ensures.rest.1 ∙ noted c.args.plan.now.conflict path c.note_conflict.new.self.conflict n.first n.other;
      long = c.gone-in-Conflict.ensures.rest.2 ∙ n.rest.2;
    })) (c.gone-in-Conflict.ensures.gone records l here)

use Rattle.std.proofs.Common.{sym, ◌∙◌}
use Rattle.std.specs.Prelude.{filter_map}
use Rattle.std.proofs.lemmas.List.{at_drop_all}
use Rattle.ip_spec.specs.Path.{path_cmp}
use Rattle.ip_model_trees.specs.Parts.{put_all}
use Rattle.ip_model_trees.specs.Merging.{kept}
use Rattle.ip_model_trees.proofs.PartLaws.{some_more}
use Rattle.ip_model_trees.proofs.merging.values.Goals as goal

pub loop-answer-preserved : goal.loop-answer-preserved
loop-answer-preserved c =
    some_more path_cmp kept c.args.answers.now c.loop-answer.answer-index c.answer-item.result c.loop-answer.parts.items c.put_value.new.parts.items c.loop-answer-test.true c.answer-item.is c.in_ok-put_value.ensures
    ∙ c.loop-answer.invariant

pub returns : goal.returns
returns c =
    sym (at_drop_all (λ xs. put_all path_cmp c.loop-answer.parts.items (filter_map kept xs)) c.args.answers.now c.loop-answer.answer-index c.loop-answer-test.false) ∙ c.loop-answer.invariant

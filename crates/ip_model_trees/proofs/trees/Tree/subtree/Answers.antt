use Rattle.std.proofs.Common.{[], ap, sym, ◌∙◌}
use Rattle.std.proofs.lemmas.List.{at_drop_all}
use Rattle.std.specs.Prelude.{filter_map}
use Rattle.ip_spec.specs.Path.{path_cmp}
use Rattle.ip_model_trees.specs.Parts.{put_all, rest_of}
use Rattle.ip_model_trees.proofs.PartLaws.{some_more, subtree_parts}
use Rattle.ip_model_trees.proofs.trees.Tree.subtree.Goals as goal

pub loop-part-preserved : goal.loop-part-preserved
loop-part-preserved c =
    some_more path_cmp (rest_of c.args.path.now) c.deref-part-items.result.now c.loop-part.part-index c.part-item.result c.loop-part.parts.items c.put_rest.new.parts.items c.loop-part-test.true c.part-item.is c.in_ok-put_rest.ensures
    ∙ c.loop-part.invariant

pub returns : goal.returns
returns c t is =
    let path = c.args.path.now in
    sym (at_drop_all (λ xs. put_all path_cmp c.loop-part.parts.items (filter_map (rest_of path) xs)) c.deref-part-items.result.now c.loop-part.part-index c.loop-part-test.false)
    ∙ (c.loop-part.invariant ∙ (ap (λ es. put_all path_cmp [] (filter_map (rest_of path) es)) (c.deref-part-items.ensures.value ∙ (c.self.view_is ∙ is)) ∙ sym (subtree_parts t path)))

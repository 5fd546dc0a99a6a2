use Rattle.std.proofs.Common.{[], ap, sym, ◌∙◌}
use Rattle.std.proofs.lemmas.List.{at_drop_all}
use Rattle.std.specs.Prelude.{filter_map}
use Rattle.ip_spec.specs.Path.{bytes_cmp}
use Rattle.ip_model_trees.specs.Parts.{put_all, first_in}
use Rattle.ip_model_trees.proofs.PartLaws.{some_more, entries_parts}
use Rattle.ip_model_trees.proofs.trees.Tree.entries.Goals as goal

pub loop-part-preserved : goal.loop-part-preserved
loop-part-preserved c t is =
    some_more bytes_cmp (first_in t) c.deref-part-items.result.now c.loop-part.part-index c.part-item.result c.loop-part.entries.items c.put_first.new.entries.items c.loop-part-test.true c.part-item.is (c.in_ok-put_first.ensures t is)
    ∙ c.loop-part.invariant t is

pub returns : goal.returns
returns c t is =
    sym (at_drop_all (λ xs. put_all bytes_cmp c.loop-part.entries.items (filter_map (first_in t) xs)) c.deref-part-items.result.now c.loop-part.part-index c.loop-part-test.false)
    ∙ (c.loop-part.invariant t is ∙ (ap (λ es. put_all bytes_cmp [] (filter_map (first_in t) es)) (c.deref-part-items.ensures.value ∙ (c.self.view_is ∙ is)) ∙ sym (entries_parts t)))

use Rattle.std.proofs.Common.{◌≡◌, ap, ◌∙◌}
use Rattle.std.specs.FinMap.Entries as E
use Rattle.ip_spec.specs.Path.{Path, Bytes, path_cmp}
use Rattle.ip_model_trees.proofs.PartLaws.{put_next}
use Rattle.ip_model_trees.proofs.merging.with_all.Goals as goal

pub loop-part-preserved : goal.loop-part-preserved
loop-part-preserved c =
    let item = c.part-item.result in
    let old = c.loop-part.parts.items in
    let key : c.in_ok-joined.field-0 ≡ item.0 = c.in_ok-joined.ensures ∙ c.as_slice.ensures in
    let new = c.in_ok-put.ensures ∙ (ap (λ (k : Path). E.put path_cmp k c.in_ok-copy.field-0 old) key ∙ ap (λ (b : Bytes). E.put path_cmp item.0 b old) c.in_ok-copy.ensures) in
    put_next path_cmp c.deref-part-items.result.now c.loop-part.part-index item old c.put.new.list.items c.loop-part-test.true c.part-item.is new ∙ c.loop-part.invariant

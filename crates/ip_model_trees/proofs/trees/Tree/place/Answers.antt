use Rattle.std.proofs.Common.{◌≡◌, ap, sym, ◌∙◌, ◌++◌, true, map}
use Rattle.std.proofs.lemmas.List.{at_drop_all}
use Rattle.std.specs.FinMap.Entries as E
use Rattle.std.specs.FinMap.Entries.{where_key}
use Rattle.ip_spec.specs.Path.{Path, Bytes, path_cmp}
use Rattle.ip_model_trees.specs.Parts.{put_all, beside, moved}
use Rattle.ip_model_trees.proofs.PartLaws.{put_more, place_parts}
use Rattle.ip_model_trees.proofs.trees.Tree.place.Goals as goal

pub loop-part-preserved : goal.loop-part-preserved
loop-part-preserved c =
    let path = c.args.path.now in
    let item = c.part-item.result in
    let old = c.loop-part.parts.items in
    let key : c.in_ok-joined.field-0 ≡ path ++ item.0 = c.in_ok-joined.ensures ∙ ap (λ (q : Path). path ++ q) c.as_slice.ensures in
    let new = c.in_ok-put.ensures ∙ (ap (λ (k : Path). E.put path_cmp k c.in_ok-copy.field-0 old) key ∙ ap (λ (b : Bytes). E.put path_cmp (path ++ item.0) b old) c.in_ok-copy.ensures) in
    put_more path_cmp (moved path) c.deref-part-items.result.now c.loop-part.part-index item old c.put.new.list.items c.loop-part-test.true c.part-item.is new ∙ c.loop-part.invariant

pub returns : goal.returns
returns c t u is other =
    let path = c.args.path.now in
    let items = c.deref-part-items.result.now in
    sym (at_drop_all (λ xs. put_all path_cmp c.loop-part.parts.items (map (moved path) xs)) items c.loop-part.part-index c.loop-part-test.false)
    ∙ (c.loop-part.invariant
    ∙ (ap (λ es. put_all path_cmp (where_key path_cmp (beside path true) es) (map (moved path) items)) is
    ∙ (ap (λ es. put_all path_cmp (where_key path_cmp (beside path true) t.entries) (map (moved path) es)) (c.deref-part-items.ensures.value ∙ (c.sub.view_is ∙ other)) ∙ sym (place_parts t u path))))

use Rattle.std.proofs.Common.{◌≡◌, ap, sym, subst, ◌∙◌}
use Rattle.std.specs.Prelude.{Option, Some, option_map, OnOk}
use Rattle.std.specs.FinMap.Entries as E
use Rattle.ip_spec.specs.Path.{Path, Bytes, path_cmp}
use Rattle.ip_spec.specs.MergeModel.{value_of}
use Rattle.ip_model_trees.specs.Parts.{put_some}
use Rattle.ip_model_trees.specs.Merging.{kept}
use Rattle.ip_model_trees.proofs.merging.put_value.Goals as goal

pub returns-in_ok-copy-in-Some : goal.returns-in_ok-copy-in-Some
returns-in_ok-copy-in-Some c =
    let answer = c.args.answer.now in
    let old = c.args.parts.now.items in
    let value = c.in_ok-copy-in-Some.field-0 in
    let there : Some value ≡ value_of answer.1 = ap (λ (v : Bytes). Some v) c.in_ok-copy-in-Some.ensures ∙ c.in-Some.ensures in
    let seen : kept answer ≡ Some (answer.0, value) = ap (option_map (λ (v : Bytes). (answer.0, v))) (sym there) in
    let key : c.in_ok-path-in-Some.path ≡ answer.0 = c.in_ok-path-in-Some.ensures ∙ c.as_slice.ensures in
    subst (λ x. OnOk c.put.result (c.put.new.list.items ≡ x))
    (ap (λ (k : Path). E.put path_cmp k value old) key ∙ sym (ap (λ (o : Option (Path × Bytes)). put_some path_cmp o old) seen))
    c.put.ensures

use Rattle.std.proofs.Common.{◌≡◌, ap, sym, subst, ◌∙◌}
use Rattle.std.specs.Prelude.{Option, Some, option_map, OnOk}
use Rattle.std.specs.FinMap.Entries as E
use Rattle.ip_spec.specs.Path.{Path, Bytes, path_cmp, after_prefix}
use Rattle.ip_model_trees.specs.Parts.{put_some, rest_of}
use Rattle.ip_model_trees.proofs.trees.put_rest.Goals as goal

pub returns-in_ok-copy-in-Some : goal.returns-in_ok-copy-in-Some
returns-in_ok-copy-in-Some c =
    let path = c.args.path.now in
    let part = c.args.part.now in
    let old = c.args.parts.now.items in
    let left = c.in-Some.rest.now in
    let front : Some left ≡ after_prefix path part.0 = c.in-Some.ensures ∙ ap (after_prefix path) c.as_slice.ensures in
    let seen : rest_of path part ≡ Some (left, part.1) = ap (option_map (λ (r : Path). (r, part.1))) (sym front) in
    let key : c.in_ok-joined-in-Some.field-0 ≡ left = c.in_ok-joined-in-Some.ensures in
    subst (λ x. OnOk c.put.result (c.put.new.list.items ≡ x))
    (ap (λ (k : Path). E.put path_cmp k c.in_ok-copy-in-Some.field-0 old) key ∙ (ap (λ (b : Bytes). E.put path_cmp left b old) c.in_ok-copy-in-Some.ensures ∙ sym (ap (λ (o : Option (Path × Bytes)). put_some path_cmp o old) seen)))
    c.put.ensures

use Rattle.std.proofs.Common.{◌∙◌, ap}
use Rattle.std.proofs.lemmas.Map.Iter.{iter_end}
use Rattle.ip_spec.specs.Merge.{lines_of}
use Rattle.ip_merge.specs.Lines.{insert_lines, texts}
use Rattle.ip_merge.proofs.LineLaws.{merged_is, texts_as_are}
use Rattle.ip_merge.proofs.line_set.merged_lines.Goals as goal

pub returns : goal.returns
returns c =
    let all = (iter_end (λ x. x) c.in_ok-sides.sides.keys c.loop-line.yielded c.into_iter-line-iterator.result c.loop-line.line-iterator c.next.new.self c.next.result c.into_iter-line-iterator.ensures.into_iter_gives.0 c.loop-line.yielded_by c.in-None.is c.next.ensures.steps).0 in
    let o = lines_of c.args.base.now in
    let a = lines_of c.args.left.now in
    let b = lines_of c.args.right.now in
    c.loop-line.invariant
    ∙ merged_is o a b (texts c.in_ok-base.base.keys) (texts c.in_ok-left.left.keys) (texts c.in_ok-right.right.keys) (texts c.loop-line.yielded)
    (c.in_ok-base.ensures ∙ ap (λ keys. insert_lines (texts keys) o) c.new.ensures.empty)
    (c.in_ok-left.ensures ∙ ap (λ keys. insert_lines (texts keys) a) c.new-3.ensures.empty)
    (c.in_ok-right.ensures ∙ ap (λ keys. insert_lines (texts keys) b) c.new-4.ensures.empty)
    (texts_as_are c.loop-line.yielded ∙ ap texts all
    ∙ c.in_ok-sides.ensures ∙ ap (λ lines. insert_lines lines b) (c.in_ok-lines_with.ensures ∙ ap (λ keys. insert_lines (texts keys) a) c.new-2.ensures.empty))

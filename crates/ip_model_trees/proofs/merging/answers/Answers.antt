use Rattle.std.proofs.Common.{◌≡◌, All, ap, sym, subst, ◌∙◌, List, [], ◌∷◌, map}
use Rattle.std.proofs.lemmas.List.{map-append}
use Rattle.std.proofs.lemmas.List.Elements.{All-push}
use Rattle.ip_spec.specs.Path.{Path, Bytes}
use Rattle.ip_model_trees.specs.Merging.{Answer, IsDecided}
use Rattle.ip_model_trees.proofs.Lists.{map_more}
use Rattle.ip_model_trees.proofs.merging.answers.Goals as goal

pub loop-part-preserved : goal.loop-part-preserved
loop-part-preserved g c =
    let rule = g.D.Decides.rule c.args.rules.now in
    let item = c.part-item.result in
    let old = c.loop-part.answers.items in
    let new : Answer = (c.in_ok-joined.field-0, c.in_ok-merged.merged) in
    let first : Answer → Path = λ e. e.0 in
    let key : c.in_ok-joined.field-0 ≡ item.0 = c.in_ok-joined.ensures ∙ c.as_slice-path.ensures in
    let at : IsDecided rule c.args.base.now c.args.left.now c.args.right.now c.in_ok-joined.field-0 c.in_ok-merged.merged =
    subst (λ (q : Path). IsDecided rule c.args.base.now c.args.left.now c.args.right.now q c.in_ok-merged.merged) (sym c.in_ok-joined.ensures) c.in_ok-merged.ensures in
    record {
      paths = map_more (λ (e : Path × Bytes). e.0) c.deref-part-items.result.now c.loop-part.part-index item c.in_ok-joined.field-0 _ _ c.loop-part-test.true c.part-item.is key c.loop-part.invariant.paths
          (ap (λ (es : List Answer). map first es) c.in_ok-push.ensures.items ∙ map-append first old (new ∷ []));
      decided = subst (All (λ (e : Answer). IsDecided rule c.args.base.now c.args.left.now c.args.right.now e.0 e.1)) (sym c.in_ok-push.ensures.items)
          (All-push (λ (e : Answer). IsDecided rule c.args.base.now c.args.left.now c.args.right.now e.0 e.1) old new c.loop-part.invariant.decided at);
    }

use Rattle.std.proofs.Common.{ap, ◌∙◌, sym, ℕ, List, ◌++◌, [], ◌∷◌, map, get_or}
use Rattle.std.proofs.lemmas.List.{map-append, get_or_default}
use Rattle.sha2.specs.Sha256.{sha256}
use Rattle.ip_spec.specs.Path.{Step}
use Rattle.ip_shape.proofs.Shapes.{at_more, not_at_more, digest_of}
use Rattle.ip_shape.proofs.part.copies_at.Goals.{then-at-index+in_ok-copy+in_ok-push+in_ok-push-2, else-at-index}
use Rattle.ip_shape.proofs.part.copies_at.Goals as goal

pub loop-i-preserved : goal.loop-i-preserved
loop-i-preserved c =
    let depth = c.args.depth in
    let index = c.args.index in
    let steps = c.args.steps.now in
    let digests = c.args.places.now in
    let digest = c.index-places-i.result in
    let old = c.loop-i.copies.items in
    elim c.if-at-index.branch [
      | then-at-index+in_ok-copy+in_ok-push+in_ok-push-2 w ↦
          let s = w.index-steps-i.result in
          let pushed = ap (λ v. v.items) w.copies-is ∙ w.in_ok-push.ensures.items ∙ ap (λ t. old ++ t ∷ []) w.in_ok-copy.ensures in (
            pushed ∙ ap (λ (ss : List Step). ss ++ s ∷ []) c.loop-i.invariant.0
                ∙ at_more depth index steps digests c.requires.places c.loop-i.i c.loop-i-test.true s digest w.index-steps-i.is c.index-places-i.is c.at.result c.at.ensures w.if-at-index.true,
            ap (λ v. v.items) w.their_places-is ∙ w.in_ok-push-2.ensures.items ∙ ap (λ (ds : List (List ℕ)). ds ++ digest ∷ []) c.loop-i.invariant.1
                ∙ ap (λ d. map sha256 old ++ d ∷ []) (digest_of depth index steps digests c.requires.places c.loop-i.i c.loop-i-test.true s digest w.index-steps-i.is c.index-places-i.is)
                ∙ sym (map-append sha256 old (s ∷ [])) ∙ ap (map sha256) (sym pushed),
          )
      | else-at-index w ↦
          let s : Step = get_or steps c.loop-i.i [] in
          let kept = ap (λ v. v.items) w.copies-is in (
            kept ∙ c.loop-i.invariant.0
                ∙ not_at_more depth index steps digests c.requires.places c.loop-i.i c.loop-i-test.true s digest (get_or_default steps c.loop-i.i [] s c.loop-i-test.true) c.index-places-i.is c.at.result c.at.ensures w.if-at-index.false,
            ap (λ v. v.items) w.their_places-is ∙ c.loop-i.invariant.1 ∙ ap (map sha256) (sym kept),
          )
    ]

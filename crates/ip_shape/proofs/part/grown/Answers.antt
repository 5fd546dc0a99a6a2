use Rattle.std.proofs.Common.{◌≡◌, ap, ◌∙◌, sym, ℕ, List, ◌++◌, ◌∷◌, map, take, drop}
use Rattle.std.specs.List.{insert}
use Rattle.std.proofs.lemmas.List.{map-append, take-map, drop-map}
use Rattle.sha2.specs.Sha256.{sha256}
use Rattle.ip_spec.specs.Path.{Step}
use Rattle.ip_shape.proofs.part.grown.Goals.{in-Err+in_ok-copy+in_ok-insert+in_ok-insert-2, in_default}
use Rattle.ip_shape.proofs.part.grown.Goals as goal

-- a step and its digest, put at one place
digests_with : (ss : List Step) (i : ℕ) (s : Step) → insert (map sha256 ss) i (sha256 s) ≡ map sha256 (insert ss i s)
digests_with ss i s =
    ap (λ ds. ds ++ sha256 s ∷ drop i (map sha256 ss)) (take-map sha256 i ss) ∙ ap (λ ds. map sha256 (take i ss) ++ sha256 s ∷ ds) (drop-map sha256 i ss)
    ∙ sym (map-append sha256 (take i ss) (s ∷ drop i ss))

pub part_of-requires : goal.part_of-requires
part_of-requires g c =
    c.deref-2.ensures.value ∙ elim c.match-position.branch [
      | in-Err+in_ok-copy+in_ok-insert+in_ok-insert-2 w ↦
          let steps = c.args.steps.now in
          let s = c.args.step.now in
          let more = c.deref.ensures.value ∙ ap (λ v. v.items) w.more-is ∙ w.in_ok-insert.ensures.items ∙ ap (λ (ss : List Step). insert ss w.in-Err.i w.in_ok-copy.field-0) c.in_ok-more.ensures
          ∙ ap (λ (t : Step). insert steps w.in-Err.i t) w.in_ok-copy.ensures in
          ap (λ v. v.items) w.all_places-is ∙ w.in_ok-insert-2.ensures.items ∙ ap (λ (ds : List (List ℕ)). insert ds w.in-Err.i c.args.places.now) c.in_ok-all_places.ensures
          ∙ ap (λ (d : List ℕ). insert (map sha256 steps) w.in-Err.i d) c.requires ∙ digests_with steps w.in-Err.i s ∙ ap (map sha256) (sym more)
      | in_default w ↦
          ap (λ v. v.items) w.all_places-is ∙ c.in_ok-all_places.ensures ∙ ap (map sha256) (sym (c.deref.ensures.value ∙ ap (λ v. v.items) w.more-is ∙ c.in_ok-more.ensures))
    ]

use Rattle.std.proofs.Common.{ap, ◌∙◌}
use Rattle.ip_spec.specs.Shape.{shape_runs}
use Rattle.ip_shape.specs.Place.{place_in}
use Rattle.ip_shape.proofs.places.place.Goals as goal

pub returns : goal.returns
unfolding shape_runs
returns c = c.at.ensures ∙ ap (λ digest. place_in digest c.args.depth) c.of.ensures

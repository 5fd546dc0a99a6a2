use Rattle.std.proofs.Common.{◌≡◌, Some, None, sym, ◌∙◌, ap, subst}
use Rattle.ip_ground.specs.declared.names.FileName.TheVariants.{Prefix}
use Rattle.ip_image.specs.Virtual.{lies_at}
use Rattle.ip_space.specs.SpaceView.{SpaceView}
use Rattle.ip_space.specs.Viewed.{view_of}
use Rattle.ip_space.proofs.Lying.{lies_above, lies_below}
use Rattle.ip_space.proofs.space.Space.lies_at.Goals as goal

pub returns-then-at-horizon : goal.returns-then-at-horizon
returns-then-at-horizon c =
    subst (λ (s : SpaceView). Some c.file_of.result ≡ lies_at s.layout s.runs c.args.at) c.self.view_is
    (ap Some c.file_of.ensures ∙ sym (lies_above c.self.inside.source.layout _ c.args.at c.if-at-horizon.true))

pub returns-in_err-place : goal.returns-in_err-place
returns-in_err-place c =
    let space : SpaceView = view_of c.self.inside.source in
    subst (λ (s : SpaceView). c.from_residual.result ≡ lies_at s.layout s.runs c.args.at) c.self.view_is
    (c.from_residual.ensures ∙ sym (lies_below space.layout space.runs c.args.at None c.if-at-horizon.false (sym c.in_err-place.ensures)))

pub returns : goal.returns
returns c =
    let space : SpaceView = view_of c.self.inside.source in
    subst (λ (s : SpaceView). Some (Prefix c.self.inside.source.layout.live, c.in_ok-place.place) ≡ lies_at s.layout s.runs c.args.at) c.self.view_is
    (sym (lies_below space.layout space.runs c.args.at (Some c.in_ok-place.place) c.if-at-horizon.false (sym c.in_ok-place.ensures)))

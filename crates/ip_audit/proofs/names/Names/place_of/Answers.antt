-- goals of `Names::place_of`
use Rattle.std.proofs.Common.{◌∙◌, ap}
use Rattle.std.specs.Prelude.{position}
use Rattle.ip_spec.specs.Path.{same_bytes}
use Rattle.ip_audit.proofs.names.Names.place_of.Goals as goal

pub returns : goal.returns
returns c = c.copied.ensures ∙ c.get.ensures.value ∙ c.self.invariant.each c.args.name.now ∙ ap (position (λ n. same_bytes n c.args.name.now)) c.self.view_is
